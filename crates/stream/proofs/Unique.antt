-- That no two results fulfil them is shown (SCOPE 10): the contracts of the stream's functions determine their results and every lent
-- cell. Assumes nothing.
use Prim.Native.Nat.{ℕ, ◌-◌, min}
use mathlib.Core.Path.{◌≡◌, sym, ◌∙◌}
use mathlib.Core.Bool.{Bool}
use mathlib.Core.List.{List, ◌++◌}
use lib.ListN.{length, take, drop, take-append-drop}
use Rattle.classes.specs.declared.Mode.{Mode}
use Rattle.records.specs.Text.{Text}
use Rattle.records.proofs.Unique.{unique}
use Rattle.stream.specs.Stream.{record_tokens, split_tokens, Fills, fetch_in, count_in}

-- the lent cells afterwards: tokens as far as there are some and there is room, and behind them what was there
abbrev pub filled : List ℕ → List ℕ → List ℕ
filled stream lent = let n = min (length stream) (length lent) in take n stream ++ drop n lent

pub fills_cells : (stream lent cells : List ℕ) (n : ℕ) → Fills stream n lent cells → cells ≡ filled stream lent
fills_cells stream lent cells n f = sym (take-append-drop n cells) ∙ rw (f.0.1, f.1, f.0.0)

fills_unique : (stream lent : List ℕ) (n m : ℕ) (a b : List ℕ) → Fills stream n lent a → Fills stream m lent b → (n ≡ m) × (a ≡ b)
fills_unique stream lent n m a b f g = (
  unique (min (length stream) (length lent)) n m f.0.0 g.0.0,
  unique (filled stream lent) a b (fills_cells stream lent a n f) (fills_cells stream lent b m g),
)

pub fill_unique : (t : Text) (kinds emojis out : List ℕ) (n m : ℕ) (a b : List ℕ) → Fills (record_tokens t kinds emojis) n out a → Fills (record_tokens t kinds emojis) m out b → (n ≡ m) × (a ≡ b)
fill_unique t kinds emojis = fills_unique (record_tokens t kinds emojis)

pub collect_unique : (mode : Mode) (khmer : Bool) (t : Text) (out : List ℕ) (n m : ℕ) (a b : List ℕ) → Fills (split_tokens mode khmer t) n out a → Fills (split_tokens mode khmer t) m out b → (n ≡ m) × (a ≡ b)
collect_unique mode khmer t = fills_unique (split_tokens mode khmer t)

pub fetch_unique : (mode : Mode) (n : ℕ) (decomposes counts : List ℕ) (i a b : ℕ) → a ≡ fetch_in mode (n - i) decomposes counts i → b ≡ fetch_in mode (n - i) decomposes counts i → a ≡ b
fetch_unique mode n decomposes counts i = unique (fetch_in mode (n - i) decomposes counts i)

pub count_unique : (mode : Mode) (khmer : Bool) (t : Text) (a b : ℕ) → a ≡ count_in mode khmer t → b ≡ count_in mode khmer t → a ≡ b
count_unique mode khmer t = unique (count_in mode khmer t)

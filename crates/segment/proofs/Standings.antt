-- A run that stands: begun, brought on, and over. Assumes nothing.
use Rattle.std.specs.Prelude.{Ok}
use Prim.Native.Nat.{ℕ, ◌*◌, ◌≤◌, min}
use mathlib.Core.Path.{◌≡◌, sym, ◌∙◌, subst}
use mathlib.Core.List.{List}
use native.Mathlib.Omega.{arith}
use lib.ListN.{length}
use Rattle.classes.specs.declared.Mode.{Mode}
use Rattle.records.specs.Text.{Text}
use Rattle.records.specs.Sound.{Sound}
use Rattle.records.specs.declared.Parser.{Parser}
use Rattle.stream.specs.Stream.{stream_of, most_tokens}
use Rattle.parse.specs.declared.Parse.{Parse}
use Rattle.parse.specs.declared.Pushed.{Pushed}
use Rattle.segment.specs.Runs.{calls_at, calls_of, Ran}
use Rattle.segment.specs.Inner.{Roomy}
use Rattle.segment.specs.Seen.{seen_by, Direct}
use Rattle.segment.specs.Standing.{Column, Running, Stood, Ready}
use Rattle.segment.specs.declared.RunAnswer.{RunAnswer}
use Rattle.segment.specs.declared.going.Stand.{Stand}
use Rattle.segment.proofs.Regulars.{even}

column_on : (f : ℕ → Pushed → ℕ) (all left : List Parse) (k w : ℕ) (l₀ l l' : List ℕ) → Column f all all 0 0 l₀ l → Column f all left k w l l' → Column f all left k w l₀ l'
column_on f all left k w l₀ l l' a b = (b.0 ∙ a.0, b.1 ∙ a.1)

module _ (parser : Parser) (mode : Mode) (stream s₀ c₀ n₀ s c n : List ℕ) (k w : ℕ) (r : Running parser mode stream s₀ c₀ n₀ s c n 0 k w) where
  nothing_written : (k ≡ 0) × (w ≡ 0)
  nothing_written = (omega (arith, r.few), omega (arith, r.room))

  at_start : Running parser mode stream s₀ c₀ n₀ s c n 0 0 0
  at_start = subst (λ w. Running parser mode stream s₀ c₀ n₀ s c n 0 0 w) nothing_written.1 (subst (λ k. Running parser mode stream s₀ c₀ n₀ s c n 0 k w) nothing_written.0 r)

  -- a run at the start, and one from these columns on: together they are one
  pub run_on : (s' c' n' : List ℕ) (at k' w' : ℕ) → Running parser mode stream s c n s' c' n' at k' w' → Running parser mode stream s₀ c₀ n₀ s' c' n' at k' w'
  run_on s' c' n' at k' w' q = record {
    inside = q.inside;
    few = q.few;
    room = q.room;
    calls = q.calls;
    chars = q.chars;
    scalar = column_on _ _ (calls_at parser mode stream at) k' w' s₀ s s' at_start.scalar q.scalar;
    class = column_on _ _ (calls_at parser mode stream at) k' w' c₀ c c' at_start.class q.class;
    cluster = column_on _ _ (calls_at parser mode stream at) k' w' n₀ n n' at_start.cluster q.cluster;
  }

-- the columns of a run keep their length, and so their room
pub still_roomy : (parser : Parser) (mode : Mode) (stream s c n : List ℕ) (t : Stand) → Stood parser mode stream s c n t → Roomy stream s c n
still_roomy parser mode stream s c n t w = record {
  short = w.roomy.short;
  scalar = omega (arith, w.roomy.scalar, w.running.scalar.0);
  class = omega (arith, w.roomy.class, w.running.class.0);
  cluster = omega (arith, w.roomy.cluster, w.running.cluster.0);
}

-- the room that was looked at
pub room_made : (stream os oc on : List ℕ) (n room inner : ℕ) → length stream ≤ most_tokens → n ≡ length stream → inner ≡ min (length oc) (length on) → room ≡ min (length os) inner → 2 * n ≤ room → Roomy stream os oc on
room_made stream os oc on n room inner short e ei er h = record {
  short = short;
  scalar = omega arith;
  class = omega arith;
  cluster = omega arith;
}

-- what the functions of a run cite

abbrev At : Parser → Mode → List ℕ → List ℕ → List ℕ → List ℕ → List ℕ → List ℕ → List ℕ → Stand → Type 0
At parser mode stream s₀ c₀ n₀ s c n r = Running parser mode stream s₀ c₀ n₀ s c n r.at r.clusters r.characters

-- every run that stood at f stands at r now
abbrev On : Parser → Mode → List ℕ → List ℕ → List ℕ → List ℕ → Stand → List ℕ → List ℕ → List ℕ → Stand → Type 0
On parser mode stream s c n f s' c' n' r = (s₀ c₀ n₀ : List ℕ) → Roomy stream s₀ c₀ n₀ → At parser mode stream s₀ c₀ n₀ s c n f → At parser mode stream s₀ c₀ n₀ s' c' n' r

-- every run that stood at f is over
abbrev Done : Parser → Mode → List ℕ → List ℕ → List ℕ → List ℕ → Stand → RunAnswer → List ℕ → List ℕ → List ℕ → Type 0
Done parser mode stream s c n f a s' c' n' = (s₀ c₀ n₀ : List ℕ) → Roomy stream s₀ c₀ n₀ → At parser mode stream s₀ c₀ n₀ s c n f → Ran (Ok tt) (calls_of parser mode stream) s₀ c₀ n₀ a s' c' n'

pub ready_direct : (parser : Parser) (mode : Mode) (t : Text) (s c n : List ℕ) → Direct mode parser t → Sound parser t → Roomy (stream_of mode parser t) s c n → Ready parser t s c n
ready_direct parser mode t s c n d sound r = record {
  even = even parser t sound parser;
  regular = d.regular;
  roomy = subst (λ l. Roomy l s c n) d.same r;
}

pub stands_in_lem : (parser : Parser) (mode : Mode) (stream text s c n : List ℕ) (f : Stand) → text ≡ stream → Stood parser mode stream s c n f → Stood parser mode text s c n f
stands_in_lem parser mode stream text s c n f e w = subst (λ l. Stood parser mode l s c n f) (sym e) w

module _ (s c n s' c' n' : List ℕ) where
  module _ (parser : Parser) (mode : Mode) (t : Text) (d : Direct mode parser t) where
    pub begun_direct : (r : Stand) → At parser mode (seen_by parser t) s c n s' c' n' r → At parser mode (stream_of mode parser t) s c n s' c' n' r
    begun_direct r w = subst (λ l. At parser mode l s c n s' c' n' r) (sym d.same) w

  -- a run from the start by the table, of a run that had not begun
  pub onward_from : (parser p : Parser) (mode : Mode) (stream : List ℕ) (f r : Stand) → parser ≡ p → f.at ≤ 0 → At p mode stream s c n s' c' n' r → On parser mode stream s c n f s' c' n' r
  onward_from parser p mode stream f r e z q s₀ c₀ n₀ roomy w =
      let a : f.at ≡ 0 = omega arith in
      run_on parser mode stream s₀ c₀ n₀ s c n f.clusters f.characters
      (subst (λ at. Running parser mode stream s₀ c₀ n₀ s c n at f.clusters f.characters) a w)
      s' c' n' r.at r.clusters r.characters (subst (λ p. At p mode stream s c n s' c' n' r) (sym e) q)

  module _ (parser : Parser) (mode : Mode) (stream text : List ℕ) (e : text ≡ stream) (f : Stand) where
    module _ (r : Stand) (o : On parser mode text s c n f s' c' n' r) where
      pub stands_on : Stood parser mode stream s c n f → Stood parser mode text s' c' n' r
      stands_on w = let v = stands_in_lem parser mode stream text s c n f e w in record {
        scalars₀ = v.scalars₀;
        classes₀ = v.classes₀;
        clusters₀ = v.clusters₀;
        roomy = v.roomy;
        running = o v.scalars₀ v.classes₀ v.clusters₀ v.roomy v.running;
      }

      pub finished_on : (a : RunAnswer) (s'' c'' n'' : List ℕ) → Done parser mode text s' c' n' r a s'' c'' n'' → Done parser mode stream s c n f a s'' c'' n''
      finished_on a s'' c'' n'' g = subst (λ l. Done parser mode l s c n f a s'' c'' n'') e (λ s₀ c₀ n₀ roomy w. g s₀ c₀ n₀ roomy (o s₀ c₀ n₀ roomy w))

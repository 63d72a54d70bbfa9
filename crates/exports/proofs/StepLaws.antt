-- What a stepping call hands over: its room, its cluster's characters in the lent columns, its results. Assumes nothing.
use Rattle.std.specs.Prelude.{Ok, Err, Some, None, Option}
use Prim.Native.Nat.{ℕ, ◌+◌, ◌<◌, ◌≤◌}
use mathlib.Core.Path.{◌≡◌, refl, sym, ◌∙◌, ap, subst}
use mathlib.Core.Bool.{Bool, true, false}
use mathlib.Core.List.{List, ◌∷◌, map}
use native.Mathlib.Omega.{arith}
use native.Mathlib.Nat.{zero-add}
use lib.Dec.{ltb}
use lib.ListN.{length, take, set, get_or, length-map, length-take}
use lib.Seq.{length-take-le}
use borrow.Author.Tests.{lt-ltb, le-ltb, ltb-false}
use Rattle.classes.specs.declared.Mode.{Mode}
use Rattle.records.specs.Text.{Text}
use Rattle.records.specs.Refusals.{refusal, refuse, ◌⊳◌}
use Rattle.records.specs.declared.Parser.{Parser}
use Rattle.records.specs.declared.Side.TheVariants.{Neither}
use Rattle.records.specs.declared.Refusal.{Refusal}
use Rattle.records.specs.Verdict.{Verdict}
use Rattle.parse.specs.declared.Pushed.{Pushed}
use Rattle.parse.specs.declared.Cluster.{Cluster}
use Rattle.parse.specs.State.{nothing, empty_cluster}
use Rattle.segment.specs.declared.Segmenter.{Segmenter}
use Rattle.segment.specs.declared.Answer.{Answer}
use Rattle.segment.specs.Calls.{refused, end, found, next_of}
use Rattle.segment.specs.Met.{refusal_in}
use Rattle.segment.proofs.Written.{Cells, cells_more, cells_all, write_all}
use Rattle.segment.proofs.CallTurns.{call_length}
use Rattle.segment.proofs.Coverage.{tokens, call_of, next_case, accepted_short}
use Rattle.segment.proofs.Demands.{step_most}
use Rattle.exports.specs.declared.Request.{Request}
use Rattle.exports.specs.Requests.{known, request_of, unlisted}
use Rattle.exports.specs.Results.{written, tight, Told}
use Rattle.exports.specs.Steps.{refused_at, handed_under, taken, step_for, step_of, step_numbers, laid, Stepped, shortest_of, SteppedFor}
use Rattle.exports.specs.Inner.{Fits}
use Rattle.exports.proofs.Refusals.{Numbered, told_by, told_tight}

-- the call of the parser and mode that are wanted
module _ (n m place cells : ℕ) (t : Text) (q : Option Request) (e : q ≡ request_of n m) (r : Answer) where
  pub step_unknown : (u : Refusal) → q ≡ None → u ≡ unlisted → r ≡ refused_at place u → r ≡ step_for (request_of n m) place t cells
  step_unknown u h eu k = rw (← e, h, ← eu) k

  pub step_known : (parser : Parser) (mode : Mode) (a : Answer) → q ≡ known parser mode → a ≡ next_of (record { parser = parser; mode = mode; place = record { at = place } }) t → r ≡ taken place cells a → r ≡ step_for (request_of n m) place t cells
  step_known parser mode a h ea k = rw (← e, h) (k ∙ ap (taken place cells) ea)

-- # Room

-- a cluster has as many cells as it says, and not more than 32
abbrev Sized : Cluster → Type 0
Sized c = (c.len ≤ 32) × (c.len ≤ length c.chars)

answer_sized : (s : Segmenter) (t : Text) → Sized (next_of s t).cluster
unfolding refused end found empty_cluster
answer_sized s t = (
  step_most s t,
  next_case s t (λ a. a.cluster.len ≤ length a.cluster.chars)
      (λ r e. omega arith) (λ e l. omega arith) (λ e l. omega arith)
      (λ e l. omega (arith, call_length s.parser s.mode (tokens s t) (accepted_short s.mode s.parser t e) s.place.at l, length-take (call_of s t).len (call_of s t).chars)),
)

abbrev Within : ℕ → Answer → Type 0
Within cells a = Sized a.cluster × (a.cluster.len ≤ cells)

refused_within : (place cells : ℕ) (r : Refusal) → Within cells (refused_at place r)
unfolding refused empty_cluster
refused_within place cells r = ((omega arith, omega arith), omega arith)

taken_within : (place cells : ℕ) (a : Answer) → Sized a.cluster → Within cells (taken place cells a)
unfolding taken
taken_within place cells a z = under (refusal_in a.what)
  where
    room : (b : Bool) → ltb cells 32 ≡ b → Within cells (handed_under (refuse b 9 Neither 0) place a)
    room true h = refused_within place cells (refusal 9 Neither 0)
    room false h = (z, omega (arith, z.0, ltb-false cells 32 h))

    under : (v : Verdict) → Within cells (handed_under (v ⊳ tight cells 32) place a)
    under (Ok _) = room (ltb cells 32) refl
    under (Err r) = refused_within place cells r

step_within : (q : Option Request) (place cells : ℕ) (t : Text) → Within cells (step_for q place t cells)
step_within (Some q) place cells t =
    let s : Segmenter = record { parser = q.parser; mode = q.mode; place = record { at = place } } in
    taken_within place cells (next_of s t) (answer_sized s t)
step_within None place cells t = refused_within place cells unlisted

pub step_fits : (n m place cells : ℕ) (t : Text) (a : Answer) (scalars classes records noted : List ℕ) → cells ≡ shortest_of scalars classes records noted → a ≡ step_for (request_of n m) place t cells → Fits a.cluster scalars classes records noted
step_fits n m place cells t a scalars classes records noted ec ea =
    let w : Within cells a = subst (Within cells) (sym ea) (step_within (request_of n m) place cells t) in
    record {
      most = w.0.0;
      cells = w.0.1;
      scalar = omega (arith, w.1);
      class = omega (arith, w.1);
      source = omega (arith, w.1);
      note = omega (arith, w.1);
    }

-- # Columns

pub laid_more : (f : Pushed → ℕ) (j v : ℕ) (cs : List Pushed) (l₀ l : List ℕ) → j < length cs → v ≡ f (get_or cs j nothing) → Cells f 0 cs l₀ l j → Cells f 0 cs l₀ (set l j v) (j + 1)
laid_more f j v cs l₀ l h e c =
    subst (λ (k : ℕ). Cells f 0 cs l₀ (set l k v) (j + 1)) (zero-add j) (cells_more nothing f 0 j v cs l₀ l h e c)

pub laid_all : (f : Pushed → ℕ) (j : ℕ) (c : Cluster) (l₀ l : List ℕ) → j ≤ c.len → c.len ≤ j → c.len ≤ length c.chars → c.len ≤ length l₀ → Cells f 0 c.chars l₀ l j → l ≡ laid f c l₀
unfolding laid
laid_all f j c l₀ l h k z r w =
    let n : length (map f (take c.len c.chars)) ≡ c.len = length-map (take c.len c.chars) f ∙ length-take-le c.len c.chars z in
    cells_all f 0 j c.len c.chars l₀ l h k w ∙ write_all l₀ (map f (take c.len c.chars)) (omega arith)

-- # Results

-- the results in the code's words and in the definition's
pub step_numbers_lem : (a : Answer) (v : Verdict) (number side index : ℕ) (more results results' : List ℕ) → v ≡ refusal_in a.what → more ≡ step_numbers a → Numbered v number side index → results' ≡ written (number ∷ side ∷ index ∷ more) results → Told (refusal_in a.what) (step_numbers a) results number results'
step_numbers_lem a v number side index more results results' e m n w =
    subst (λ (u : Verdict). Told u (step_numbers a) results number results') e (told_by v number side index more (step_numbers a) results results' m n w)

module _ (n m place : ℕ) (t : Text) (scalars classes records noted results : List ℕ) where
  pub step_tight : length results < 12 → SteppedFor n m place t scalars classes records noted results 9 scalars classes records noted results
  unfolding step_of refused empty_cluster laid
  step_tight h =
      rw (lt-ltb (length results) 12 h)
      (record { told = told_tight (step_numbers (refused_at place (refusal 9 Neither 0))) results (omega arith); columns = record { scalar = refl; class = refl; source = refl; note = refl } })

  pub step_told : (cells : ℕ) (a : Answer) (r : ℕ) (scalars' classes' records' noted' results' : List ℕ) → 12 ≤ length results → cells ≡ shortest_of scalars classes records noted → a ≡ step_for (request_of n m) place t cells → Stepped a scalars classes records noted results r scalars' classes' records' noted' results' → SteppedFor n m place t scalars classes records noted results r scalars' classes' records' noted' results'
  unfolding step_of
  step_told cells a r scalars' classes' records' noted' results' h ec ea w = rw (le-ltb (length results) 12 h, ← ec, ← ea) w

-- A call that stepped off the last token, and the same call with one more token: the answers differ where the second is behind that token
-- or full. Assumes nothing.
use Prim.Native.Nat.{ℕ, ◌+◌, ◌-◌, ◌<◌, ◌≤◌}
use mathlib.Core.Path.{◌≡◌, refl, sym, ◌∙◌, ap}
use mathlib.Core.Bool.{true, false, false≢true}
use mathlib.Core.List.{List, [], ◌∷◌, ◌++◌}
use native.Mathlib.Omega.{arith}
use lib.ListN.{length, length-append}
use lib.Seq.{get_or-append_seam}
use Rattle.basics.proofs.Tests.{if_intro, by_test}
use Rattle.classes.specs.declared.Mode.{Mode}
use Rattle.classes.specs.declared.Mode.TheVariants.{Crate, Whole}
use Rattle.records.specs.declared.Parser.{Parser}
use Rattle.token.specs.Token.{index_of}
use Rattle.parse.specs.declared.Parse.{Parse}
use Rattle.parse.specs.declared.Cluster.{Cluster}
use Rattle.parse.specs.declared.Flow.{Flow}
use Rattle.parse.specs.declared.Flow.TheVariants.{End}
use Rattle.parse.specs.State.{token_at, begin, place_of, cluster_of, is_going, go_on, passes_end}
use Rattle.parse.specs.Cover.{last_of}
use Rattle.parse.proofs.Moves.{put_same, noted_same, moved_case}
use Rattle.parse.proofs.Keeps.{Keeps, run_keeps, run_mode}
use Rattle.segment.specs.Calls.{grammar, joins, called}
use Rattle.segment.specs.Repeats.{repeat_b}
use Rattle.segment.proofs.CallTurns.{call_most}
use Rattle.segment.proofs.Repeats.{call_a, call_b}
use Rattle.open.specs.Calls.{Differ}

-- in whole mode a cluster that the text's end ended has room left
abbrev Short : Parse → Type 0
Short q = q.mode ≡ Whole → q.done ≡ true → (q.flow ≡ End) × (q.len < 32)

end_still : (f : Flow) → is_going f ≡ true → f ≡ End → ⊥
end_still f g e = false≢true (ap is_going (sym e) ∙ g)

short_keeps : (text : List ℕ) → Keeps text Short (λ q. q.mode ≡ Whole → q.done ≡ true → ⊥)
short_keeps text = record {
  put = λ c s g i m d. end_still s.flow g (i (sym (put_same (λ q. q.mode) (λ n cs q. refl) (token_at text s.at) s c) ∙ m) (sym (put_same (λ q. q.done) (λ n cs q. refl) (token_at text s.at) s c) ∙ d)).0;
  noted = λ s g i m d. end_still s.flow g (i (sym (noted_same (λ q. q.mode) (λ n cs q. refl) (token_at text s.at) s) ∙ m) (sym (noted_same (λ q. q.done) (λ n cs q. refl) (token_at text s.at) s) ∙ d)).0;
  moved = λ s j. moved_case Short (length text) s (λ l h m d. absurd (j m d)) (λ l h m d. (refl, l)) (λ l m d. absurd (j m d));
  marked = λ i s h. h;
  stopped = λ s g h m d. absurd (end_still s.flow g (h m d).0);
  resumed = λ s h m d. (ap go_on (h m d).0, (h m d).1);
  retried = λ s h. if_intro Short (passes_end s.mode s.flow s.again) _ _ (λ e m. absurd (false≢true (ap (λ m. passes_end m s.flow s.again) (sym m) ∙ e))) (λ e. h);
}

whole_short : (parser : Parser) (stream : List ℕ) (at : ℕ) → (called parser Whole stream at).done ≡ true → (called parser Whole stream at).len < 32
unfolding called
whole_short parser stream at d =
    let s = begin (record { at = at }) Whole (joins parser) in
    (run_keeps stream _ _ (short_keeps stream) (grammar parser) s (λ m d. absurd (false≢true d)) (run_mode (grammar parser) stream s) d).1

-- one more token, of another record than the last one
module _ (parser : Parser) (stream : List ℕ) (x at : ℕ) (inside : at < length stream) (short : length stream < 65535)
    (other : index_of (token_at stream (length stream - 1)) ≡ index_of x → ⊥) where
  abbrev longer : List ℕ
  longer = stream ++ (x ∷ [])

  abbrev before : Mode → Parse
  before mode = called parser mode stream at

  abbrev after : Mode → Parse
  after mode = called parser mode longer at

  -- a full cluster before and after, and the same place: the last token of the stream was read again, or the new one was pushed
  full_differs : (mode : Mode) → (before mode).done ≡ true → (before mode).len ≡ 32 → (after mode).len ≡ 32 → place_of longer (after mode) ≡ length stream → cluster_of (before mode) ≡ cluster_of (after mode) → ⊥
  full_differs Whole d n m place same = omega (arith, whole_short parser stream at d)
  full_differs Crate d n m place same =
      let more : length longer ≡ length stream + 1 = length-append stream (x ∷ []) in
      let ended : place_of stream (before Crate) ≡ length stream = rw d in
      by_test (repeat_b parser stream at)
      (λ b. by_test (repeat_b parser longer at)
      (λ c. omega (arith, (call_b parser longer (omega arith) at (omega arith) c).0))
      (λ c. let old = (call_b parser stream (omega arith) at inside b).1.last.1 in
      let new = (call_a parser longer (omega arith) at (omega arith) c m).1.last.1 in
      let token : token_at longer (place_of longer (after Crate)) ≡ x = ap (token_at longer) place ∙ get_or-append_seam stream x [] 0 in
      other (sym old ∙ ap (λ (c : Cluster). (last_of c).index) same ∙ new ∙ ap index_of token)))
      (λ b. omega (arith, (call_a parser stream (omega arith) at inside b n).0))

  -- behind the new token, or full: another answer
  pub more_differs : (mode : Mode) → (before mode).done ≡ true → ((after mode).done ≡ false → (after mode).at ≤ length stream → 32 ≤ (after mode).len) → Differ parser mode stream longer at
  more_differs mode d past place same =
      let more : length longer ≡ length stream + 1 = length-append stream (x ∷ []) in
      let ended : place_of stream (before mode) ≡ length stream = rw d in
      let still : place_of longer (after mode) ≡ length stream = sym place ∙ ended in
      by_test (after mode).done
      (λ e. let over : place_of longer (after mode) ≡ length longer = rw e in omega arith)
      (λ e. let at_end : (after mode).at ≡ length stream = rw e at still in
      let full : 32 ≤ (after mode).len = past e (omega arith) in
      let m : (after mode).len ≡ 32 = omega (arith, call_most parser mode longer (omega arith) at (omega arith)) in
      full_differs mode d (ap (λ (c : Cluster). c.len) same ∙ m) m still same)

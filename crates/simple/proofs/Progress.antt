-- Every call of the simple parser before the end passes a token, in both modes and from every place. Assumes nothing.
use Prim.Native.Nat.{ℕ, ◌<◌, ◌≤◌}
use mathlib.Core.Path.{◌≡◌, refl, sym, ◌∙◌}
use mathlib.Core.Bool.{true, false, false≢true}
use mathlib.Core.List.{List, [], ◌∷◌}
use mathlib.Core.Logic.{◌⊎◌, inl, inr, ⊎_elim}
use lib.ListN.{length}
use Rattle.classes.specs.declared.Mode.{Mode}
use Rattle.classes.specs.declared.Shape.TheVariants.{Base}
use Rattle.classes.specs.ClusterBreak.{CN, CR, LF, L, «V», T, LV, LVT, RI, PP}
use Rattle.parse.specs.declared.Parse.{Parse}
use Rattle.parse.specs.declared.Place.{Place}
use Rattle.parse.specs.State.{going, begin, place_of}
use Rattle.parse.specs.Rule.{run, holds, mark, while, take, many_as, is, is_emoji, one_of, set_broken}
use Rattle.parse.specs.Shared.{newline, newline_with}
use Rattle.parse.proofs.Runs.{run_seq}
use Rattle.parse.proofs.Fills.{Some, run_some, quiet_holds, run_fills, while_fills, while_either, choose_case, emojis_some}
use Rattle.parse.proofs.Conserve.{passes}
use Rattle.simple.specs.Grammar.{cluster, start, control, syllable, leading, vowel, trailing, other, is_extension, extension, extend, combining}

-- the arm of an extension marks and leaves it to the loop behind; every other one makes a character
abbrev Ready : List ℕ → Parse → Type 0
Ready text q = Some q ⊎ (holds text is_extension q ≡ true)

module _ (text : List ℕ) where
  other_ready : (s : Parse) → going s ≡ true → Ready text (run other text s)
  unfolding other
  other_ready s g = choose_case (Ready text) (is RI) _ _ text s
      (λ h. choose_case (Ready text) (is RI) _ _ text s (λ k. inl (run_fills (take Base) text s refl g)) (λ k. absurd (false≢true (sym k ∙ h))))
      (λ h. choose_case (Ready text) is_extension _ _ text s
      (λ k. inr (quiet_holds (mark set_broken) text is_extension s refl k))
      (λ k. inl (run_fills _ text s refl g)))

  syllable_ready : (s : Parse) → going s ≡ true → Ready text (run syllable text s)
  unfolding syllable leading vowel trailing
  syllable_ready s g = choose_case (Ready text) (is L) _ _ text s (λ h. inl (run_fills leading text s refl g))
      (λ h. choose_case (Ready text) (one_of (LV ∷ «V» ∷ [])) _ _ text s (λ k. inl (run_fills vowel text s refl g))
      (λ k. choose_case (Ready text) (one_of (LVT ∷ T ∷ [])) _ _ text s (λ j. inl (run_fills trailing text s refl g))
      (λ j. other_ready s g)))

  control_ready : (s : Parse) → going s ≡ true → Ready text (run control text s)
  unfolding control newline newline_with
  control_ready s g = choose_case (Ready text) (is CN) _ _ text s (λ h. inl (run_fills _ text s refl g))
      (λ h. choose_case (Ready text) (is LF) _ _ text s (λ k. inl (run_fills newline text s refl g))
      (λ k. choose_case (Ready text) (is CR) _ _ text s (λ j. inl (run_fills _ text s refl g))
      (λ j. syllable_ready s g)))

  start_ready : (s : Parse) → going s ≡ true → Ready text (run start text s)
  unfolding start
  start_ready s g = choose_case (Ready text) is_emoji _ _ text s (λ h. inl (emojis_some text s h)) (λ h. control_ready s g)

  extensions_some : (s : Parse) → Ready text s → Some (run (while is_extension extension) text s)
  unfolding extension extend combining
  extensions_some s r = ⊎_elim (run_some (while is_extension extension) text s) (while_fills is_extension extension text s refl refl) r

  -- A call makes a character.
  pub cluster_some : (s : Parse) → going s ≡ true → Some (run cluster text s)
  unfolding cluster
  cluster_some s g =
      let q = run (many_as PP Base) text s in
      rw (run_seq, run_seq) (extensions_some (run start text q) (⊎_elim (λ i. inl (run_some start text q i)) (λ e. rw e (start_ready s g)) (while_either (is PP) (take Base) text s refl refl)))

  -- Progress: a call inside the text leaves its place behind.
  pub progress : length text ≤ 65535 → (p : Place) (mode : Mode) → p.at < length text → p.at < place_of text (run cluster text (begin p mode false))
  progress short p mode inside = passes text short cluster p mode false inside (cluster_some (begin p mode false) refl)

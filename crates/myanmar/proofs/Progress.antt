-- Progress of the Myanmar parser: every call before the end passes at least one token. Assumes nothing.
use Prim.Native.Nat.{ℕ, ◌<◌, ◌≤◌}
use mathlib.Core.Path.{◌≡◌, refl, ◌∙◌, ap}
use mathlib.Core.Bool.{true}
use mathlib.Core.List.{List}
use lib.ListN.{length}
use Rattle.classes.specs.declared.Mode.{Mode}
use Rattle.classes.specs.MyanmarClass.{O}
use Rattle.parse.specs.declared.Parse.{Parse}
use Rattle.parse.specs.declared.Place.{Place}
use Rattle.parse.specs.State.{is_going, going, begin, place_of}
use Rattle.parse.specs.Rule.{run, skip, is, is_emoji}
use Rattle.parse.proofs.Runs.{run_seq}
use Rattle.parse.proofs.Conserve.{passes}
use Rattle.parse.proofs.Fills.{Some, run_some, run_quiet, run_fills, choose_case, emojis_some, other_some}
use Rattle.myanmar.specs.Grammar.{is_kinzi, base, kinzi, syllable, is_alone, cluster}

syllable_some : (text : List ℕ) (s : Parse) → going s ≡ true → Some (run syllable text s)
unfolding syllable base
syllable_some text s g = run_fills syllable text s refl g

-- a kinzi is three characters; without one the current token is one
kinzi_some : (text : List ℕ) (s : Parse) → going s ≡ true → Some (run syllable text (run kinzi text s))
unfolding kinzi
kinzi_some text s g = choose_case (λ q. Some (run syllable text q)) is_kinzi _ skip text s
    (λ h. run_some syllable text _ (run_fills _ text s refl g))
    (λ h. syllable_some text (run skip text s) (ap is_going (run_quiet skip text s refl).0 ∙ g))

-- a call makes a character
pub cluster_some : (text : List ℕ) (s : Parse) → going s ≡ true → Some (run cluster text s)
unfolding cluster
cluster_some text s g = choose_case Some is_emoji _ _ text s (λ h. emojis_some text s h)
    (λ h. choose_case Some (is O) _ _ text s (λ e. other_some text s g)
    (λ e. choose_case Some is_alone _ _ text s (λ a. run_fills _ text s refl g) (λ a. rw run_seq (kinzi_some text s g))))

-- **Progress.** A call at a place inside the text hands back a later place, in both modes.
pub progress : (text : List ℕ) → length text ≤ 65535 → (p : Place) (mode : Mode) → p.at < length text → p.at < place_of text (run cluster text (begin p mode true))
progress text short p mode inside = passes text short cluster p mode true inside (cluster_some text (begin p mode true) refl)

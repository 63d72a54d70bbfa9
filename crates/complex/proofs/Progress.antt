-- Every call of the complex parser passes a token, from every place and in both modes. Assumes nothing.
use Prim.Native.Nat.{ℕ, ◌<◌, ◌≤◌}
use mathlib.Core.Path.{◌≡◌, refl}
use mathlib.Core.Bool.{Bool, true}
use mathlib.Core.List.{List}
use lib.ListN.{length}
use Rattle.classes.specs.declared.Mode.{Mode}
use Rattle.classes.specs.UseClass.{O}
use Rattle.parse.specs.declared.Parse.{Parse}
use Rattle.parse.specs.declared.Place.{Place}
use Rattle.parse.specs.State.{place_of, begin, going}
use Rattle.parse.specs.Rule.{run, is, is_emoji}
use Rattle.parse.proofs.Conserve.{passes}
use Rattle.parse.proofs.Fills.{Some, run_fills, choose_case, emojis_some, other_some}
use Rattle.complex.specs.Grammar.{by_kind, base_vs, standard, number, symbol, letter, cluster}

module _ (khmer : Bool) (text : List ℕ) where
  -- every arm pushes first
  pub cluster_some : (s : Parse) → going s ≡ true → Some (run (cluster khmer) text s)
  unfolding by_kind base_vs standard number symbol letter cluster
  cluster_some s g = choose_case Some is_emoji _ _ text s (λ h. emojis_some text s h)
      (λ h. choose_case Some (is O) _ _ text s (λ e. other_some text s g) (λ e. run_fills _ text s refl g))

  pub progress : length text ≤ 65535 → (p : Place) (mode : Mode) → p.at < length text → p.at < place_of text (run (cluster khmer) text (begin p mode true))
  progress short p mode inside = passes text short (cluster khmer) p mode true inside (cluster_some (begin p mode true) refl)

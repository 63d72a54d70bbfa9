use Rattle.std.specs.Prelude.{Ok, ◌≡◌, Bool, true, false, not, ◌&&◌, ℕ, eqb, refl}
use Rattle.basics.specs.Sets.{member}
use Rattle.classes.specs.Scalar.{khmer_signs}
use Rattle.records.specs.Verdict.{Verdict}
use Rattle.records.specs.Refusals.{bad_sign, judge_sign, is_split, refuse}
use Rattle.records.specs.declared.Side.TheVariants.{Neither}
use mathlib.Core.Path.{sym, ◌∙◌, ap}
use Rattle.records.proofs.sets.judge_sign_at.Goals as goal

-- a record that is no sign is no bad one
no_sign : (decompose scalar count part : ℕ) → member khmer_signs scalar ≡ false → ◌≡◌ {A = Verdict} (Ok tt) (judge_sign decompose scalar count part)
unfolding judge_sign bad_sign
no_sign decompose scalar count part h = rw h (go (eqb decompose 0))
  where
    go : (b : Bool) → ◌≡◌ {A = Verdict} (Ok tt) (refuse (b && (false && not (is_split count part))) 7 Neither 0)
    go true = refl
    go false = refl

pub returns : goal.returns
returns c = no_sign _ _ _ _ (ap (member khmer_signs) (sym c.cell-x.ensures) ∙ sym c.is_sign.ensures ∙ c.if-is_sign.false)

-- Laws of single rules: what a function may show of a push, a mark, a `fit` and a list of kinds, step by step, is the rule. The functions
-- of the parsers need none of them, since the check opens the rule itself. Assumes nothing.
use Prim.Native.Nat.{ℕ}
use mathlib.Core.Path.{◌≡◌, refl, sym, ◌∙◌, ap}
use mathlib.Core.Bool.{Bool, true, false, cond}
use mathlib.Core.List.{List}
use Rattle.basics.specs.Sets.{member}
use Rattle.classes.specs.declared.Shape.{Shape}
use Rattle.token.specs.Token.{kind_of}
use Rattle.parse.specs.declared.Parse.{Parse}
use Rattle.parse.specs.declared.Info.{Info}
use Rattle.parse.specs.State.{token_at, going, with_info}
use Rattle.parse.specs.Rule.{Test, stop, push, mark, seq, fit, run, crowded, holds, take, one_of, kind_here}
use Rattle.parse.proofs.Runs.{run_crowded, run_roomy}

-- s is the parse before, r the function's result, t a test's result
module _ (text : List ℕ) (s r : Parse) where
  -- a push whose class is worked out first
  pub by_class : (f : ℕ → Shape) (c : Shape) → c ≡ f (token_at text s.at) → r ≡ run (take c) text s → r ≡ run (push f) text s
  unfolding run
  by_class f c e q = q ∙ rw e

  -- a mark whose change is worked out first
  pub by_change : (f g : ℕ → Info → Info) → f (token_at text s.at) s.info ≡ g (token_at text s.at) s.info → r ≡ run (mark f) text s → r ≡ run (mark g) text s
  unfolding run
  by_change f g e q = q ∙ ap (λ i. cond (going s) (with_info i s) s) e

  pub by_crowded : (p : Test) (m : ℕ → Info → Info) (f : ℕ → Shape) (t : Bool) → t ≡ crowded text p s → t ≡ true → r ≡ run stop text s → r ≡ run (fit p m f) text s
  by_crowded p m f t e h q = q ∙ sym (run_crowded p m f text s (sym e ∙ h))

  pub by_roomy : (p : Test) (m : ℕ → Info → Info) (f : ℕ → Shape) (t : Bool) → t ≡ crowded text p s → t ≡ false → r ≡ run (seq (mark m) (push f)) text s → r ≡ run (fit p m f) text s
  by_roomy p m f t e h q = q ∙ sym (run_roomy p m f text s (sym e ∙ h))

module _ (text : List ℕ) (s : Parse) (t : Bool) where
  -- a kind that was taken out first
  pub kind_member : (ks : List ℕ) (k : ℕ) → member ks 64 ≡ false → k ≡ kind_here text s → t ≡ member ks k → t ≡ holds text (one_of ks) s
  unfolding one_of
  kind_member ks k n e h = h ∙ rw e (go (going s) (kind_of (token_at text s.at)))
    where
      go : (g : Bool) (x : ℕ) → member ks (cond g x 64) ≡ cond g (member ks x) false
      go true x = refl
      go false x = n

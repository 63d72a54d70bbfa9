use Rattle.std.specs.Fn.{FnReturnsAt}
use Rattle.std.proofs.lemmas.Fn.{says_at}
use Rattle.cases.specs.Spans.{rest, span}
use Rattle.cases.proofs.Splits.{rest_more, span_read}
use Rattle.cases.proofs.Filling.{filled_none, filled_more}
use mathlib.Core.Path.{◌≡◌, refl, subst}
use mathlib.Core.List.{List}
use Prim.Native.Nat.{ℕ}
use native.Mathlib.Omega.{arith}
use Rattle.cases.proofs.columns.column.Goals as goal

pub loop-i-init : goal.loop-i-init
loop-i-init g c = (unfold rest in refl, filled_none _ _ _)

pub loop-i-preserved : goal.loop-i-preserved
loop-i-preserved g c =
    let e : c.span_at.result.now ≡ span 32 c.loop-i.i c.args.section.now = span_read 32 _ _ c.loop-i.at c.loop-i.invariant.0 _ c.span_at.ensures in
    let r : FnReturnsAt g.F.Fn c.args.read c.span_at.result.now c.read.result = says_at g.F.Fn c.read.ensures refl in (
      rest_more 32 _ _ c.loop-i.at c.loop-i.invariant.0 _ c.next_of-at.ensures,
      filled_more _ _ _ _ _ _ (omega (arith, c.min-most.ensures)) c.loop-i.invariant.1 (subst (λ (x : List ℕ). FnReturnsAt g.F.Fn c.args.read x c.read.result) e r),
    )

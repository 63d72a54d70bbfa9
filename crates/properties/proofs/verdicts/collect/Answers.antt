use mathlib.Core.Path.{refl}
use native.Mathlib.Omega.{arith}
use Rattle.properties.proofs.Turns.{turns_start, turn_refused, turn_goes, turns_end, next_is_lem}
use borrow.Author.Rules.{rules}
use Rattle.properties.proofs.verdicts.collect.Goals as goal

pub loop-at-init : goal.loop-at-init
loop-at-init c = (turns_start _ _ _ _ _ _ _ _ _, (refl, (refl, refl)))

pub returns-in_err-judge_ruling : goal.returns-in_err-judge_ruling
returns-in_err-judge_ruling c = turn_refused _ _ _ _ _ _ _ _ _ _ _ _ c.loop-at.invariant.0 c.loop-at-test.true _ c.span_at.ensures _ c.ruling_of-ruling.ensures _ _ c.met_by-before.ensures c.met_by-earlier.ensures _ c.judge_ruling.ensures _ c.in_err-judge_ruling.was c.requires.short c.from_residual.result (search rules)

pub note-n-requires : goal.note-n-requires
note-n-requires c = (omega (arith, c.loop-at.invariant.0.bytes_before_lem c.loop-at-test.true, c.requires.short, c.requires.beside.firsts_reach, c.loop-at.invariant.1.0), (omega (arith, c.loop-at.invariant.0.bytes_before_lem c.loop-at-test.true, c.requires.short, c.requires.beside.lasts_reach, c.loop-at.invariant.1.1.0), omega (arith, c.loop-at.invariant.0.bytes_before_lem c.loop-at-test.true, c.requires.short, c.requires.beside.codes_reach, c.loop-at.invariant.1.1.1)))

pub overflow_add-k-in-loop-at : goal.overflow_add-k-in-loop-at
overflow_add-k-in-loop-at c = omega (arith, c.loop-at.invariant.0.counted, c.loop-at.invariant.0.inside, c.requires.short)

pub loop-at-smaller : goal.loop-at-smaller
loop-at-smaller c = omega (arith, (next_is_lem _ _ c.loop-at-test.true _ _ c.span_at.ensures c.next_of-at.ensures).onward)

pub loop-at-preserved : goal.loop-at-preserved
loop-at-preserved c = (turn_goes _ _ _ _ _ _ _ _ _ _ _ _ c.loop-at.invariant.0 c.loop-at-test.true _ c.span_at.ensures _ c.ruling_of-ruling.ensures _ _ c.met_by-before.ensures c.met_by-earlier.ensures _ c.judge_ruling.ensures c.in_ok-judge_ruling.was _ _ _ _ _ c.note-n.ensures c.next_of-at.ensures, search rules)

pub returns : goal.returns
returns c = turns_end _ _ _ _ _ _ _ _ _ _ _ _ c.loop-at.invariant.0 c.loop-at-test.false c.requires.short

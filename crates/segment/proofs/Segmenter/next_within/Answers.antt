use Rattle.std.specs.Prelude.{ℕ}
use Rattle.std.proofs.lemmas.List.{length-replicate}
use Rattle.segment.specs.Calls.{answer_in}
use Rattle.segment.proofs.CallLaws.{all_fits}
use native.Mathlib.Omega.{arith}
use mathlib.Core.Path.{◌∙◌, ap}
use Rattle.segment.proofs.Segmenter.next_within.Goals as goal

pub whole_as_slice-tokens_of : goal.whole_as_slice-tokens_of
whole_as_slice-tokens_of g c = omega (arith, c.requires)

pub shared_whole_as_front-answer : goal.shared_whole_as_front-answer
shared_whole_as_front-answer g c = (omega (arith, c.tokens_of-n.ensures.number, length-replicate {A = ℕ} g.row.N 0), omega (arith, c.requires))

pub returns : goal.returns
returns g c = λ h. c.answer.ensures ∙ ap (answer_in _) (all_fits _ _ _ _ c.tokens_of-n.ensures (omega (arith, h, length-replicate {A = ℕ} g.row.N 0)))

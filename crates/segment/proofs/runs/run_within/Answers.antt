use Rattle.std.specs.Prelude.{ℕ}
use Rattle.std.proofs.lemmas.List.{length-replicate}
use native.Mathlib.Omega.{arith}
use Rattle.segment.proofs.CallLaws.{all_fits}
use Rattle.segment.proofs.Standings.{stands_in_lem, stands_on, finished_on}
use Rattle.segment.proofs.runs.run_within.Goals as goal

pub whole_as_slice-tokens_of : goal.whole_as_slice-tokens_of
whole_as_slice-tokens_of g c = omega (arith, c.requires.0)

pub shared_whole_as_front-text : goal.shared_whole_as_front-text
shared_whole_as_front-text g c = (omega (arith, c.tokens_of-n.ensures.number, length-replicate {A = ℕ} g.row.N 0), omega (arith, c.requires.0))

pub tabled-s-requires : goal.tabled-s-requires
tabled-s-requires g c = stands_in_lem _ _ _ _ _ _ _ _ (all_fits _ _ _ _ c.tokens_of-n.ensures (omega (arith, c.requires.1.fits, length-replicate {A = ℕ} g.row.N 0))) c.requires.1.stands

pub finish-requires : goal.finish-requires
finish-requires g c = stands_on _ _ _ _ _ _ _ _ _ _ (all_fits _ _ _ _ c.tokens_of-n.ensures (omega (arith, c.requires.1.fits, length-replicate {A = ℕ} g.row.N 0))) _ _ c.tabled-s.ensures c.requires.1.stands

pub returns : goal.returns
returns g c = finished_on _ _ _ _ _ _ _ _ _ _ (all_fits _ _ _ _ c.tokens_of-n.ensures (omega (arith, c.requires.1.fits, length-replicate {A = ℕ} g.row.N 0))) _ _ c.tabled-s.ensures _ _ _ _ c.finish.ensures

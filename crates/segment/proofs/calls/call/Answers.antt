use mathlib.Core.Path.{◌∙◌, ap, sym}
use Rattle.complex.specs.Grammar.{cluster}
use Rattle.segment.proofs.CallLaws.{call_is, complex_is}
use Rattle.segment.specs.Calls.{grammar}
use Rattle.segment.proofs.calls.call.Goals as goal

pub returns-in-Simple : goal.returns-in-Simple
unfolding grammar
returns-in-Simple c = call_is _ _ _ _ _ _ _ _ (ap grammar c.in-Simple.is) c.joins_of.ensures c.begin-s.ensures c.parse.ensures

pub returns-in-Myanmar : goal.returns-in-Myanmar
unfolding grammar
returns-in-Myanmar c = call_is _ _ _ _ _ _ _ _ (ap grammar c.in-Myanmar.is) c.joins_of.ensures c.begin-s.ensures c.parse-in-Myanmar.ensures

pub returns-in-Complex : goal.returns-in-Complex
returns-in-Complex c = call_is _ _ _ _ _ _ _ _ (complex_is _ c.in-Complex.in-Complex-own.keys3 ∙ ap cluster (sym c.is_khmer.ensures)) c.joins_of.ensures c.begin-s.ensures c.parse-in-Complex.ensures

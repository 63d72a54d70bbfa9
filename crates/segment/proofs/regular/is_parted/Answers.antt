use Rattle.segment.proofs.Regulars.{parted_use}
use Rattle.records.specs.Text.{lent}
use Rattle.records.proofs.Passing.{not_so}
use mathlib.Core.Bool.{true, false}
use Rattle.segment.proofs.regular.is_parted.Goals as goal

pub returns-then-direct : goal.returns-then-direct
returns-then-direct c = λ e. not_so e

pub returns-in-Simple : goal.returns-in-Simple
returns-in-Simple c = λ e. not_so e

pub returns-in-Complex : goal.returns-in-Complex
returns-in-Complex c = λ e. parted_use _ _ (lent c.args.columns.now) c.requires false c.in-Complex.is (c.use_parted.ensures e)

pub returns-in-Khmer : goal.returns-in-Khmer
returns-in-Khmer c = λ e. parted_use _ _ (lent c.args.columns.now) c.requires true c.in-Khmer.is (c.use_parted-in-Khmer.ensures e)

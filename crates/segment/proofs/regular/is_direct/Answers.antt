use Rattle.segment.proofs.Regulars.{even, direct_simple, direct_myanmar, direct_use}
use Rattle.records.specs.declared.Parser.TheVariants.{Myanmar}
use Rattle.records.specs.Text.{lent}
use mathlib.Core.Bool.{true, false}
use Rattle.segment.proofs.regular.is_direct.Goals as goal

pub all_myanmar-requires : goal.all_myanmar-requires
all_myanmar-requires c = ((even _ (lent c.args.columns.now) c.requires Myanmar).kind, (even _ (lent c.args.columns.now) c.requires Myanmar).emoji)

pub returns-in-Simple : goal.returns-in-Simple
returns-in-Simple c = λ e. direct_simple _ _ (lent c.args.columns.now) c.requires c.in-Simple.is

pub returns-in-Myanmar : goal.returns-in-Myanmar
returns-in-Myanmar c = λ e. direct_myanmar _ _ (lent c.args.columns.now) c.requires c.in-Myanmar.is (c.all_myanmar.ensures e)

pub returns-in-Complex : goal.returns-in-Complex
returns-in-Complex c = λ e. direct_use _ _ (lent c.args.columns.now) c.requires false c.in-Complex.is (c.use_direct.ensures e)

pub returns-in-Khmer : goal.returns-in-Khmer
returns-in-Khmer c = λ e. direct_use _ _ (lent c.args.columns.now) c.requires true c.in-Khmer.is (c.use_direct-in-Khmer.ensures e)

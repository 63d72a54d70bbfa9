use Rattle.uax29.proofs.EditionLaws.{written_151, written_other}
use Rattle.uax29.proofs.editions.write_starts_in.Goals as goal

pub returns-then-edition-eq-UNICODE_15_1 : goal.returns-then-edition-eq-UNICODE_15_1
returns-then-edition-eq-UNICODE_15_1 c = search written_151

pub returns-else-edition-eq-UNICODE_15_1 : goal.returns-else-edition-eq-UNICODE_15_1
returns-else-edition-eq-UNICODE_15_1 c = search written_other

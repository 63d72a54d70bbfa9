-- What a check says: nothing is refused, or the first refusal.
use Rattle.std.specs.Prelude.{Result}
use Rattle.records.specs.declared.Refusal.{Refusal}

abbrev pub Verdict : Type 0
Verdict = Result (Unit {0}) Refusal

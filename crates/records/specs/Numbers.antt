-- "An enum's cases have their numbers from this document by a definition that the contracts use" (SCOPE 10): the check's answers, and
-- the parser that it is asked for (4.4).
use Rattle.std.specs.Prelude.{ℕ, List, [], ◌∷◌, Ok, Err}
use Rattle.records.specs.declared.Side.{Side}
use Rattle.records.specs.declared.Side.TheVariants.{Record, Part, Neither}
use Rattle.records.specs.declared.Parser.{Parser}
use Rattle.records.specs.declared.Parser.TheVariants.{Simple, Myanmar, Complex, Khmer}
use Rattle.records.specs.Verdict.{Verdict}

-- Khmer is complex with the script Khmer
abbrev pub parser_code : Parser → ℕ
parser_code Simple = 0
parser_code Myanmar = 1
parser_code Complex = 2
parser_code Khmer = 3

-- what the index of a refusal counts: records, parts or neither
abbrev pub side_code : Side → ℕ
side_code Neither = 0
side_code Record = 1
side_code Part = 2

-- the refusal's number in the table, and 0 where there is none
abbrev pub number_of : Verdict → ℕ
number_of (Ok _) = 0
number_of (Err r) = r.number

-- with its values: refusal, side, index
abbrev pub numbers_of : Verdict → List ℕ
numbers_of (Ok _) = 0 ∷ 0 ∷ 0 ∷ []
numbers_of (Err r) = r.number ∷ side_code r.side ∷ r.index ∷ []

-- Decimal and hexadecimal numbers: "no sign, no prefix, leading zeros allowed. A value too large for its type is not of the layout."
use Rattle.std.specs.Prelude.{ℕ, Option, ◌+◌, ◌-◌, ◌*◌, Bool, cond, List, [], ◌∷◌, leb, ltb, Some, None}
use Rattle.std.specs.Option.{is_some, unwrap_or}
use Rattle.cases.specs.declared.numbers.Base.{Base}
use Rattle.cases.specs.declared.numbers.Base.TheVariants.{Decimal, Hexadecimal}

-- what is read where a number is due: the number, or none
abbrev pub Number : Type 0
Number = Option ℕ

-- the most that a first part and a count of cells can be, two bytes
abbrev pub most16 : ℕ
most16 = 65535

abbrev pub radix_of : Base → ℕ
radix_of Decimal = 10
radix_of Hexadecimal = 16

-- the value of a digit: 0 to 9, A to F, a to f; none of any other byte
unfoldable pub digit_of : ℕ → Option ℕ
digit_of x =
    cond (ltb x 48) None
    (cond (ltb x 58) (Some (x - 48))
    (cond (ltb x 65) None
    (cond (ltb x 71) (Some (x - 55))
    (cond (ltb x 97) None
    (cond (ltb x 103) (Some (x - 87)) None)))))

-- the value with one digit more, where that is one of the radix and the value is up to the largest
abbrev pub longer : ℕ → ℕ → ℕ → Option ℕ → Number
longer radix most v (Some d) = cond (leb radix d) None (cond (ltb most (v * radix + d)) None (Some (v * radix + d)))
longer radix most v None = None

abbrev pub onward : Number → (ℕ → Number) → Number
onward (Some v) more = more v
onward None more = None

-- the digits that follow a value; a value above the largest only grows
unfoldable pub number_from : ℕ → ℕ → ℕ → List ℕ → Number
number_from radix most v [] = Some v
number_from radix most v (x ∷ xs) = onward (longer radix most v (digit_of x)) (λ w. number_from radix most w xs)

-- one or more digits and nothing else, with a value up to the largest
unfoldable pub number_of : ℕ → ℕ → List ℕ → Number
number_of radix most [] = None
number_of radix most (x ∷ xs) = number_from radix most 0 (x ∷ xs)

abbrev pub is_number : Number → Bool
is_number n = is_some n

abbrev pub or_zero : Number → ℕ
or_zero n = unwrap_or n 0

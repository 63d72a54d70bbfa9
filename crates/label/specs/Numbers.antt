-- A label written as numbers: words such as U+1004 with one blank between.
use Rattle.std.specs.Prelude.{ℕ, zero, suc, min, Bool, true, false, cond, List, [], ◌∷◌, Option, Some, None, Ok, Err, eqb, length, get_or, drop}
use Rattle.cases.specs.Numbers.{number_of, is_number}
use Rattle.cases.specs.Spans.{before, up_to}
use Rattle.label.specs.Taken.{Taken}
use Rattle.label.specs.declared.texts.Unread.TheVariants.{NotNumber}
use Rattle.label.specs.Utf8.{scalars_from, read_of}

-- U+ stands first
unfoldable pub begins : List ℕ → Bool
begins s = cond (eqb (get_or s 0 0) 85) (eqb (get_or s 1 0) 43) false

-- U+ and hexadecimal digits
unfoldable pub scalar_in : List ℕ → Option ℕ
scalar_in word = cond (begins word) (number_of 16 4294967295 (drop 2 word)) None

abbrev pub onward : Option ℕ → List ℕ → List ℕ
onward (Some x) rest = x ∷ rest
onward None rest = []

-- the scalars of the words, up to the first that is no such number; k bytes are passed over
unfoldable pub numbers_from : ℕ → List ℕ → List ℕ
numbers_from k [] = []
numbers_from (suc k) (b ∷ s) = numbers_from k s
numbers_from zero (b ∷ s) = onward (scalar_in (up_to 32 (b ∷ s))) (numbers_from (before 32 (b ∷ s)) s)

-- whether every word is one
unfoldable pub all_numbers : ℕ → List ℕ → Bool
all_numbers k [] = true
all_numbers (suc k) (b ∷ s) = all_numbers k s
all_numbers zero (b ∷ s) = cond (is_number (scalar_in (up_to 32 (b ∷ s)))) (all_numbers (before 32 (b ∷ s)) s) false

-- all are read, as many as there is room for; or how many were before the word that is none
unfoldable pub counted_of : List ℕ → ℕ → Taken
counted_of s room = cond (all_numbers 0 s) (Ok (min (length (numbers_from 0 s)) room)) (Err (NotNumber (min (length (numbers_from 0 s)) room)))

-- a label is numbers where it begins as one, else UTF-8
unfoldable pub label_scalars : List ℕ → List ℕ
label_scalars s = cond (begins s) (numbers_from 0 s) (scalars_from 0 s)

unfoldable pub label_of : List ℕ → ℕ → Taken
label_of s room = cond (begins s) (counted_of s room) (read_of s room)

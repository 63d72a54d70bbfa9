-- A word run on an open text: "the answered records, and where it stopped". It starts at a record, in a state, and hands back both.
use Rattle.std.specs.Prelude.{ℕ, zero, suc, ◌+◌, ◌-◌, ◌≡◌, Bool, false, cond, ◌&&◌, ◌||◌, List, [], ◌∷◌, ◌++◌, map, eqb, ltb, length, Ok}
use Rattle.basics.specs.Sets.{member}
use Rattle.classes.specs.WordBreak.{HL, ML, MN, NU, DQ}
use Rattle.records.specs.Text.{cell}
use Rattle.records.specs.Refusals.{word_verdict}
use Rattle.words.specs.declared.WordState.{WordState}
use Rattle.words.specs.Rules.{AHLetter, MidNumLetQ}
use Rattle.words.specs.Run.{step_from}
use Rattle.open.specs.Grown.{grown}

-- the pairs of classes behind which `check_word` looks at the next record: WB6, WB7b, WB12
unfoldable pub halfway : ℕ → ℕ → Bool
halfway a b =
    (member AHLetter a && member (ML ∷ MidNumLetQ) b) || ((eqb a HL && eqb b DQ) || (eqb a NU && member (MN ∷ MidNumLetQ) b))

-- `check_word` looks at the record after one of class b
unfoldable pub asks : WordState → ℕ → Bool
asks s b = cond s.first false (cond s.prevent false (halfway s.previous b))

-- record i is the last lent one, and the one after it is looked at
unfoldable pub word_wants : List ℕ → WordState → ℕ → Bool
word_wants words s i = cond (ltb (i + 1) (length words)) false (asks s (cell words i))

-- n records from record i on, in a state: their answers, and the state after them
unfoldable pub answers_from : List ℕ → List ℕ → ℕ → WordState → ℕ → List ℕ
answers_from words pictographs zero s i = []
answers_from words pictographs (suc n) s i =
    (step_from words pictographs s i).answer ∷ answers_from words pictographs n (step_from words pictographs s i).state (i + 1)

unfoldable pub state_after : List ℕ → List ℕ → ℕ → WordState → ℕ → WordState
state_after words pictographs zero s i = s
state_after words pictographs (suc n) s i = state_after words pictographs n (step_from words pictographs s i).state (i + 1)

-- how many of n records an open run answers
unfoldable pub answered_of : List ℕ → List ℕ → ℕ → WordState → ℕ → ℕ
answered_of words pictographs zero s i = 0
answered_of words pictographs (suc n) s i =
    let later = answered_of words pictographs n (step_from words pictographs s i).state (i + 1) in
    cond (word_wants words s i) 0 (suc later)

-- of all that are left
abbrev pub answered : List ℕ → List ℕ → WordState → ℕ → ℕ
answered words pictographs s i = answered_of words pictographs (length words - i) s i

-- more records: their word classes and pictograph marks
pub record Records : Type 0 where
  pub words : List ℕ
  pub marks : List ℕ

-- the columns at the end
abbrev pub grown_words : List ℕ → List Records → List ℕ
grown_words words later = grown words (map (λ (r : Records). r.words) later)

abbrev pub grown_marks : List ℕ → List Records → List ℕ
grown_marks marks later = grown marks (map (λ (r : Records). r.marks) later)

-- runs on columns that grow, each from where the one before stopped and in its state, the last on the closed text
unfoldable pub word_pieces : List ℕ → List ℕ → List Records → WordState → ℕ → List ℕ
word_pieces words pictographs [] s i = answers_from words pictographs (length words - i) s i
word_pieces words pictographs (r ∷ later) s i =
    let m = answered words pictographs s i in
    answers_from words pictographs m s i ++ word_pieces (words ++ r.words) (pictographs ++ r.marks) later (state_after words pictographs m s i) (i + m)

-- the columns as they grow are accepted each time, the closed ones too
unfoldable pub GrowWords : List ℕ → List ℕ → List Records → Type 0
GrowWords words marks [] = word_verdict words marks ≡ Ok tt
GrowWords words marks (r ∷ later) = (word_verdict words marks ≡ Ok tt) × GrowWords (words ++ r.words) (marks ++ r.marks) later

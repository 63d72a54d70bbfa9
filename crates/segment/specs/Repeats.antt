-- What demand 3 says of the answers of the stepping calls, in what a caller sees: the place, the passed count and the cluster. A token
-- is repeated "at two named places alone" (SCOPE 1.2), which are repeat (a) and repeat (b) (6.7, 6.8), and there once.
use Rattle.std.specs.Prelude.{ℕ, zero, suc, ◌+◌, ◌≡◌, Bool, true, false, cond, List, [], ◌∷◌, ◌++◌, map, ◌⊎◌, eqb}
use Rattle.classes.specs.declared.Mode.{Mode}
use Rattle.classes.specs.declared.Mode.TheVariants.{Crate, Whole}
use Rattle.records.specs.Text.{Text}
use Rattle.records.specs.declared.Parser.{Parser}
use Rattle.records.specs.declared.Parser.TheVariants.{Simple, Myanmar, Complex, Khmer}
use Rattle.token.specs.Token.{index_of}
use Rattle.parse.specs.declared.Pushed.{Pushed}
use Rattle.parse.specs.declared.Cluster.{Cluster}
use Rattle.parse.specs.Cover.{characters_of, but_last}
use Rattle.myanmar.specs.Repeat as Myanmar-repeat
use Rattle.segment.specs.declared.Segmenter.{Segmenter}
use Rattle.segment.specs.declared.Answer.{Answer}
use Rattle.segment.specs.declared.What.{What}
use Rattle.segment.specs.declared.What.TheVariants.{Found, Over, Refused}
use Rattle.segment.specs.Calls.{next_of}

-- Repeat (b): of the four parsers Myanmar alone has it, at a kinzi behind which the text ends.
abbrev pub repeat_b : Parser → List ℕ → ℕ → Bool
repeat_b Simple stream at = false
repeat_b Myanmar stream at = Myanmar-repeat.repeat_b stream at
repeat_b Complex stream at = false
repeat_b Khmer stream at = false

-- Whether a call from a place repeats a token: in crate mode by repeat (b), or by repeat (a), at 32 characters; in whole mode never.
abbrev pub repeated : Mode → Parser → List ℕ → ℕ → Cluster → Bool
repeated Whole parser stream at c = false
repeated Crate parser stream at c = cond (repeat_b parser stream at) true (eqb c.len 32)

-- the characters of its cluster, without the repeat
abbrev pub unrepeated : Mode → Parser → List ℕ → ℕ → Cluster → List Pushed
unrepeated mode parser stream at c = cond (repeated mode parser stream at c) (but_last c) (characters_of c)

-- what a call that finds a cluster is followed by
abbrev pub when_found : {A : Type 0} → What → List A → List A
when_found Found later = later
when_found Over later = []
when_found (Refused r) later = []

-- the answers of the stepping calls from a state on, each from the state that the one before handed back, up to the first that finds no
-- cluster; n at most
unfoldable pub answers : ℕ → Segmenter → Text → List Answer
answers zero s t = []
answers (suc n) s t =
    let a = next_of s t in
    let later = answers n a.state t in
    when_found a.what (a ∷ later)

-- all characters of answers, and all without the repeats; the first call was from this place
unfoldable pub all_characters : List Answer → List Pushed
all_characters [] = []
all_characters (a ∷ later) = characters_of a.cluster ++ all_characters later

unfoldable pub all_unrepeated : Mode → Parser → List ℕ → ℕ → List Answer → List Pushed
all_unrepeated mode parser stream at [] = []
all_unrepeated mode parser stream at (a ∷ later) =
    unrepeated mode parser stream at a.cluster ++ all_unrepeated mode parser stream a.state.place.at later

-- "every record index appears at least once among the pushed and noted ones" (SCOPE 12.3). An answer has no list of what it noted, so a
-- record appears where a character is its, or one of the tokens that were noted right after a character: whether one of n tokens from a
-- place on is of record i, and whether characters that begin with the token at a place show it so.
abbrev pub NotedIn : (ℕ → ℕ) → ℕ → ℕ → ℕ → Type 0
NotedIn look from zero i = ⊥
NotedIn look from (suc n) i = (index_of (look from) ≡ i) ⊎ NotedIn look (from + 1) n i

abbrev pub Appears : (ℕ → ℕ) → ℕ → List Pushed → ℕ → Type 0
Appears look from [] i = ⊥
Appears look from (c ∷ cs) i = (c.index ≡ i) ⊎ (NotedIn look (from + 1) c.noted i ⊎ Appears look (from + 1 + c.noted) cs i)

-- a column of a full run, out of the answers: a value for each pushed character, by the number of its cluster
unfoldable pub column_in : (ℕ → Pushed → ℕ) → ℕ → List Answer → List ℕ
column_in f k [] = []
column_in f k (a ∷ later) = map (f k) (characters_of a.cluster) ++ column_in f (k + 1) later

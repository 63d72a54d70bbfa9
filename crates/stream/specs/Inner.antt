-- What only private contracts and `spots` need: the tokens of one record, and what is left of a stream.
use Rattle.std.specs.Prelude.{ℕ, ◌+◌, ◌-◌, ◌<◌, ◌≡◌, Bool, cond, not, ◌&&◌, List, [], ◌∷◌, ◌++◌, eqb, ltb, length, get_or, drop}
use Rattle.basics.specs.Sets.{member}
use Rattle.classes.specs.Scalar.{khmer_signs}
use Rattle.classes.specs.declared.Mode.{Mode}
use Rattle.records.specs.Text.{Text, cell}
use Rattle.stream.specs.declared.spots.Spot.{Spot}
use Rattle.stream.specs.declared.spots.Taken.{Taken}
use Rattle.stream.specs.Stream.{stands_alone, split_in, piece_count, gather}

abbrev pub pieces_in : Mode → Bool → Text → ℕ → ℕ
pieces_in mode khmer t i = piece_count mode khmer (cell t.records.decomposes i) (cell t.records.scalars i) (cell t.records.counts i)

-- token k of record i
abbrev pub Piece : Mode → Bool → Text → ℕ → ℕ → ℕ → Type 0
Piece mode khmer t i k token = k < length (split_in mode khmer t i) → token ≡ get_or (split_in mode khmer t i) k 0

-- whether a record gives itself alone
unfoldable pub gives_itself : Mode → Bool → ℕ → ℕ → ℕ → Bool
gives_itself mode khmer decompose scalar count = cond (eqb decompose 1) (stands_alone mode count) (not (khmer && member khmer_signs scalar))

abbrev pub itself_in : Mode → Bool → Text → ℕ → Bool
itself_in mode khmer t i = gives_itself mode khmer (cell t.records.decomposes i) (cell t.records.scalars i) (cell t.records.counts i)

-- what is left of the tokens of n records, from token k of record i on
unfoldable pub rest : (ℕ → List ℕ) → ℕ → ℕ → ℕ → List ℕ
rest gives n i k = cond (ltb i n) (drop k (gives i) ++ gather gives (i + 1) (n - (i + 1))) []

abbrev pub rest_at : Mode → Bool → Text → Spot → List ℕ
rest_at mode khmer t s = rest (split_in mode khmer t) (length t.records.scalars) s.index s.part

-- the spot behind token k of record i, of so many
abbrev pub behind_of : ℕ → ℕ → ℕ → Spot
behind_of i k pieces = cond (ltb (k + 1) pieces) (record { index = i; part = k + 1 }) (record { index = i + 1; part = 0 })

-- the first token of what is left is taken
abbrev pub Takes : Mode → Bool → Text → Spot → Taken → Type 0
Takes mode khmer t s r = 0 < length (rest_at mode khmer t s) → rest_at mode khmer t s ≡ r.token ∷ rest_at mode khmer t r.next

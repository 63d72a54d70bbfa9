-- What only private contracts need. The tables on numbers: a symbol for each kind of token that a grammar tells apart, a row for each
-- rule that can be left within a cluster, row 0 for the place between two clusters, and a cell for each of both: class (4 bits), what is
-- done (2 bits), the next row.
use Rattle.std.specs.Prelude.{ℕ, ◌+◌, ◌*◌, ◌<◌, ◌≡◌, Bool, true, false, cond, List, eqb, ltb, get_or, length}
use Rattle.basics.specs.Sets.{member}
use Rattle.classes.specs.Scalar.{CGJ, COENG, CR, LF, ZWNJ, ZWJ, VS15, VS16, kinzi_firsts}
use Rattle.classes.specs.Category.{Format, Control}
use Rattle.classes.specs.ClusterBreak as ClusterBreak
use Rattle.classes.specs.MyanmarClass as MyanmarClass
use Rattle.classes.specs.UseClass as UseClass
use Rattle.classes.specs.declared.Mode.{Mode}
use Rattle.classes.specs.declared.Mode.TheVariants.{Crate, Whole}
use Rattle.token.specs.Token.{scalar_of, kind_of, break_of, category_of, emoji_of, selector_of}
use Rattle.records.specs.declared.Parser.{Parser}
use Rattle.records.specs.declared.Parser.TheVariants.{Simple, Myanmar, Complex, Khmer}
use Rattle.parse.specs.State.{token_at}
use Rattle.myanmar.specs.Grammar.{is_kinzi}
use Rattle.tables.specs.SimpleTable.{simple_table}
use Rattle.tables.specs.MyanmarTable.{myanmar_table}
use Rattle.tables.specs.ComplexTable.{complex_table}
use Rattle.tables.specs.KhmerTable.{khmer_table}

-- what all of them ask

-- the scalars that are looked at with EX; 0 for any other
unfoldable pub special : ℕ → ℕ
special x = cond (eqb x ZWNJ) 1 (cond (eqb x VS15) 2 (cond (eqb x VS16) 3 0))

-- what an emoji's extension asks of a token
unfoldable pub emoji_symbol : ℕ → ℕ
emoji_symbol t =
    cond (eqb (break_of t) ClusterBreak.EX) (1 + special (scalar_of t))
    (cond (eqb (break_of t) ClusterBreak.ZWJ) 5 0)

-- a token of class O, by what the arm O makes of it: CR, LF, Zwnj, Zwj, Control from a symbol on, and the class itself for Base
unfoldable pub other_in : ℕ → ℕ → ℕ → ℕ
other_in first base t =
    cond (eqb (scalar_of t) CR) first
    (cond (eqb (scalar_of t) LF) (first + 1)
    (cond (eqb (category_of t) Format) (cond (eqb (scalar_of t) ZWNJ) (first + 2) (cond (eqb (scalar_of t) ZWJ) (first + 3) (first + 4)))
    (cond (eqb (category_of t) Control) (first + 4) base)))

abbrev pub implies : Bool → Bool → Bool
implies a b = cond a b true

-- simple: 14 cluster breaks, without and with the emoji mark; then EX with what is rare, a selector and the scalars above

unfoldable pub simple_in : ℕ → ℕ → ℕ → ℕ
simple_in kind emoji rare = cond (eqb rare 0) (kind + 14 * emoji) (cond (eqb kind ClusterBreak.EX) (27 + 7 * emoji + rare) (kind + 14 * emoji))

unfoldable pub simple_symbol : ℕ → ℕ
simple_symbol t = simple_in (kind_of t) (emoji_of t) (selector_of t + 2 * special (scalar_of t))

-- the row behind prepended characters, from which a CR may be left to the next cluster
abbrev pub prepended_row : ℕ
prepended_row = 6

-- Myanmar: 26 classes, an emoji, five of class O, and a kinzi that the table takes and one that it leaves

abbrev pub other_symbol : ℕ → ℕ
other_symbol t = other_in 27 MyanmarClass.O t

-- a kinzi behind which the text ends, or U+034F stands: in crate mode repeat (b) can follow
unfoldable pub ends_at : Mode → List ℕ → ℕ → Bool
ends_at Crate text i = cond (ltb (i + 3) (length text)) (eqb (scalar_of (token_at text (i + 3))) CGJ) true
ends_at Whole text i = false

unfoldable pub myanmar_in : Bool → Bool → ℕ → Bool → Bool → ℕ → ℕ
myanmar_in emoji other class kinzi ends kind = cond emoji 26 (cond other class (cond kinzi (cond ends 33 32) kind))

unfoldable pub myanmar_symbol : Mode → List ℕ → ℕ → ℕ
myanmar_symbol mode text i =
    let t = token_at text i in
    myanmar_in (eqb (emoji_of t) 1) (eqb (kind_of t) MyanmarClass.O) (other_symbol t) (is_kinzi text i) (ends_at mode text i) (kind_of t)

-- complex: 37 classes, an emoji, five of class O, and U+17D2 in Khmer

abbrev pub use_other : ℕ → ℕ
use_other t = other_in 38 UseClass.O t

unfoldable pub use_in : Bool → Bool → ℕ → Bool → ℕ → ℕ
use_in emoji other class coeng kind = cond emoji 37 (cond other class (cond coeng 43 kind))

abbrev pub is_khmer_coeng : Bool → ℕ → Bool
is_khmer_coeng khmer x = cond khmer (eqb x COENG) false

unfoldable pub use_symbol : Bool → ℕ → ℕ
use_symbol khmer t = use_in (eqb (emoji_of t) 1) (eqb (kind_of t) UseClass.O) (use_other t) (is_khmer_coeng khmer (scalar_of t)) (kind_of t)

unfoldable pub use_index : Bool → ℕ → ℕ → ℕ
use_index khmer t row = cond (ltb row 34) (use_symbol khmer t * 34 + row) (1496 + emoji_symbol t)

-- Regular tokens, of which a symbol says all that the grammar asks. Beyond what acceptance gives: an emoji and a line feed have class
-- O; a letter that can begin a kinzi has class C; in Khmer U+17D2 has class H.

unfoldable pub simple_regular : ℕ → Bool
simple_regular t = cond (ltb (kind_of t) ClusterBreak.len) (eqb (kind_of t) (break_of t)) false

unfoldable pub regular_myanmar : ℕ → ℕ → ℕ → Bool
regular_myanmar x kind emoji =
    cond (implies (eqb emoji 1) (eqb kind MyanmarClass.O))
    (cond (implies (member kinzi_firsts x) (eqb kind MyanmarClass.C))
    (implies (eqb x LF) (cond (eqb kind MyanmarClass.O) (eqb emoji 0) false)) false) false

unfoldable pub regular_use : Bool → ℕ → ℕ → ℕ → Bool
regular_use khmer x kind emoji =
    cond (implies (eqb emoji 1) (eqb kind UseClass.O))
    (cond (implies (is_khmer_coeng khmer x) (eqb kind UseClass.H))
    (implies (eqb x LF) (cond (eqb kind UseClass.O) (eqb emoji 0) false)) false) false

unfoldable pub myanmar_regular : ℕ → Bool
myanmar_regular t = cond (ltb (kind_of t) MyanmarClass.len) (regular_myanmar (scalar_of t) (kind_of t) (emoji_of t)) false

unfoldable pub use_regular : Bool → ℕ → Bool
use_regular khmer t = cond (ltb (kind_of t) UseClass.len) (regular_use khmer (scalar_of t) (kind_of t) (emoji_of t)) false

abbrev pub regular_by : Parser → ℕ → Bool
regular_by Simple t = simple_regular t
regular_by Myanmar t = myanmar_regular t
regular_by Complex t = use_regular false t
regular_by Khmer t = use_regular true t

abbrev pub Regular : Parser → List ℕ → Type 0
Regular parser text = (i : ℕ) → i < length text → regular_by parser (token_at text i) ≡ true

-- the table of a parser, and the index of its cell at a place and a row. The last row but in simple's, the one behind an emoji, goes by
-- the cluster break, so it has symbols of its own.

unfoldable pub rows_of : Parser → ℕ
rows_of Simple = 9
rows_of Myanmar = 35
rows_of Complex = 35
rows_of Khmer = 35

unfoldable pub table_of : Parser → List ℕ
table_of Simple = simple_table
table_of Myanmar = myanmar_table
table_of Complex = complex_table
table_of Khmer = khmer_table

unfoldable pub index_of : Parser → Mode → List ℕ → ℕ → ℕ → ℕ
index_of Simple mode text i row = simple_symbol (token_at text i) * 9 + row
index_of Myanmar mode text i row = cond (ltb row 34) (myanmar_symbol mode text i * 34 + row) (1156 + emoji_symbol (token_at text i))
index_of Complex mode text i row = use_index false (token_at text i) row
index_of Khmer mode text i row = use_index true (token_at text i) row

-- U+034F within a cluster, where it is stepped over: it is a character of class Other, and the row stays
abbrev pub joined_at : Bool → ℕ → ℕ → Bool
joined_at joins x row = cond joins (cond (eqb x CGJ) (ltb 0 row) false) false

unfoldable pub cell_at : Bool → List ℕ → ℕ → ℕ → ℕ → ℕ
cell_at joins table x index row = cond (joined_at joins x row) (row * 64 + 14) (get_or table index 0)

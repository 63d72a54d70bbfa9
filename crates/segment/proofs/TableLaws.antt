-- The turns of the loop over a table: what the number of a cell makes of the run. Assumes nothing.
use Prim.Native.Nat.{ℕ, zero, suc, ◌+◌, ◌-◌, ◌*◌, ◌/◌, ◌%◌, ◌<◌}
use mathlib.Core.Path.{◌≡◌, refl, sym, ◌∙◌, ap, subst}
use mathlib.Core.Bool.{Bool, true, false, cond, false≢true}
use mathlib.Core.List.{List}
use native.Mathlib.Omega.{arith}
use lib.Dec.{eqb, ltb}
use lib.ListN.{length, get_or}
use borrow.Author.Tests.{lt-ltb, eq-eqb, ne_eqb, ltb-true, eqb-true, eqb-false}
use Rattle.basics.proofs.Tests.{by_test, both_of}
use Rattle.classes.specs.Scalar.{CGJ}
use Rattle.classes.specs.declared.Mode.{Mode}
use Rattle.classes.specs.declared.Mode.TheVariants.{Crate, Whole}
use Rattle.classes.specs.ClusterBreak.{CR, LF}
use Rattle.classes.specs.declared.Shape.TheVariants.{Other}
use Rattle.token.specs.Token.{scalar_of}
use Rattle.records.specs.declared.Parser.{Parser}
use Rattle.records.specs.declared.Parser.TheVariants.{Simple, Myanmar, Complex, Khmer}
use Rattle.parse.specs.declared.Parse.{Parse}
use Rattle.parse.specs.declared.Flow.TheVariants.{Stop}
use Rattle.parse.specs.State.{token_at, last_room, going, with_flow, begin}
use Rattle.parse.specs.Rule.{Rule, Test, skip, run, is, next_is, is_emoji}
use Rattle.simple.proofs.Moved.{ends_here}
use Rattle.segment.specs.Ways.{crowds}
use Rattle.segment.specs.Calls.{grammar, joins}
use Rattle.segment.specs.Inner.{Roomy}
use Rattle.segment.specs.Going.{newline_at, last_cell, crowded_at}
use Rattle.tables.specs.Symbols.{index_of, rows_of, table_of, cell_at, simple_symbol, myanmar_symbol, emoji_symbol, use_symbol, use_index, use_regular, Regular}
use Rattle.tables.specs.SimpleTable.{simple_table}
use Rattle.tables.specs.MyanmarTable.{myanmar_table}
use Rattle.tables.specs.ComplexTable.{complex_table}
use Rattle.tables.specs.KhmerTable.{khmer_table}
use Rattle.complex.specs.Grammar as Complex-rules
use Rattle.residual.proofs.Residual.{first, Fine, Inside, Calm, spare, calm_free}
use Rattle.tables.proofs.Pairs.{pair_law}
use Rattle.segment.proofs.TableTurn.{joiner, Between, Next, After, start_turn, joiner_turn, under_turn, stop_turn}
use Rattle.tables.proofs.Cells.{Cell, over, sets_as, cell_of, fresh, or_fresh, decoded_by, okay}
use Rattle.tables.proofs.SimpleRules as simple
use Rattle.tables.proofs.SimpleFine as simple-fine
use Rattle.tables.proofs.SimpleRoom.{calm_simple}
use Rattle.tables.proofs.MyanmarRules as my
use Rattle.tables.proofs.MyanmarFine as my-fine
use Rattle.tables.proofs.MyanmarEnd.{calm_myanmar}
use Rattle.tables.proofs.ComplexRules as cx
use Rattle.tables.proofs.KhmerRules as kh
use Rattle.tables.proofs.UseFine as use-fine

-- what is known of a parser's symbols
abbrev pub answer_of : Parser → Mode → List ℕ → ℕ → Test → Bool
answer_of Simple mode text i p = simple.answer_at (simple_symbol (token_at text i)) p
answer_of Myanmar mode text i p = my.answer_at (myanmar_symbol mode text i * 6 + emoji_symbol (token_at text i)) p
answer_of Complex mode text i p = cx.answer_at (use_symbol false (token_at text i) * 6 + emoji_symbol (token_at text i)) p
answer_of Khmer mode text i p = cx.answer_at (use_symbol true (token_at text i) * 6 + emoji_symbol (token_at text i)) p

abbrev pub sample_of : Parser → Mode → List ℕ → ℕ → ℕ
sample_of Simple mode text i = simple.sample_at (simple_symbol (token_at text i))
sample_of Myanmar mode text i = my.sample_at (myanmar_symbol mode text i * 6 + emoji_symbol (token_at text i))
sample_of Complex mode text i = cx.sample_at (use_symbol false (token_at text i) * 6 + emoji_symbol (token_at text i))
sample_of Khmer mode text i = cx.sample_at (use_symbol true (token_at text i) * 6 + emoji_symbol (token_at text i))

abbrev pub rules_of : Parser → List Rule
rules_of Simple = simple.rules
rules_of Myanmar = my.rules
rules_of Complex = cx.rules
rules_of Khmer = kh.rules

-- a cluster that begins here is left to the calls
abbrev pub leaves : Parser → Mode → List ℕ → ℕ → Bool
leaves Simple mode text i = false
leaves Myanmar mode text i = eqb (myanmar_symbol mode text i) 33
leaves Complex mode text i = false
leaves Khmer mode text i = false

-- a row after which the table does not begin the next cluster by itself
abbrev pub late : Parser → ℕ → Bool
late Simple r = false
late Myanmar r = eqb r 33
late Complex r = eqb r 33
late Khmer r = eqb r 33

module _ (parser : Parser) (mode : Mode) (text : List ℕ) where
  abbrev pub opening : ℕ → Cell
  opening i = cond (leaves parser mode text i) over (cell_of (sample_of parser mode text i) (first (answer_of parser mode text i) (grammar parser)))

  abbrev pub cells_at : ℕ → ℕ → Cell
  cells_at i zero = fresh (opening i)
  cells_at i (suc r) = or_fresh (cell_of (sample_of parser mode text i) (first (answer_of parser mode text i) (get_or (rules_of parser) r skip))) (cond (late parser r) over (opening i))

  abbrev pub decoded : ℕ → Cell
  decoded v = decoded_by (rules_of parser) v

  abbrev pub cell_in : ℕ → ℕ → ℕ
  cell_in i row = get_or (table_of parser) (index_of parser mode text i row) 0

simple_length : length simple_table ≡ 378
unfolding simple_table
simple_length = refl

my_length : length myanmar_table ≡ 1162
unfolding myanmar_table
my_length = refl

my_index : (mode : Mode) (text : List ℕ) → Regular Myanmar text → (i row : ℕ) → i < length text → row < rows_of Myanmar → index_of Myanmar mode text i row < 1162
unfolding index_of rows_of
my_index mode text g i row l h = by_test (ltb row 34)
    (λ e. rw e (omega (arith, ltb-true row 34 e, my-fine.symbol_below mode text g i l)))
    (λ e. rw e (omega (arith, my-fine.class_below mode text g i l)))

cx_length : length complex_table ≡ 1502
unfolding complex_table
cx_length = refl

kh_length : length khmer_table ≡ 1502
unfolding khmer_table
kh_length = refl

use_index_lem : (khmer : Bool) (text : List ℕ) → ((i : ℕ) → i < length text → use_regular khmer (token_at text i) ≡ true) → (i row : ℕ) → i < length text → row < 35 → use_index khmer (token_at text i) row < 1502
unfolding use_index
use_index_lem khmer text g i row l h = by_test (ltb row 34)
    (λ e. rw e (omega (arith, ltb-true row 34 e, use-fine.symbol_below khmer text g i l)))
    (λ e. rw e (omega (arith, use-fine.class_below khmer text g i l)))

-- the table is the grammar's
pub table_law : (parser : Parser) (mode : Mode) (text : List ℕ) → Regular parser text → (i row : ℕ) → i < length text → row < rows_of parser → cells_at parser mode text i row ≡ decoded parser mode text (cell_in parser mode text i row)
unfolding rows_of table_of index_of use_index grammar
table_law Simple mode text g i row l h =
    let f = simple_symbol (token_at text i) in
    let n : f * 9 + row < 378 = omega (arith, h, simple-fine.symbol_below text g i l) in
    let a : (f * 9 + row) / 9 ≡ f = omega (arith, h) in
    let b : (f * 9 + row) % 9 ≡ row = omega (arith, h) in
    same row ∙ sym (ap (λ j. simple.expected j ((f * 9 + row) % 9)) a ∙ ap (simple.expected f) b) ∙ simple.right_at (f * 9 + row) n
  where
    same : (row : ℕ) → cells_at Simple mode text i row ≡ simple.expected (simple_symbol (token_at text i)) row
    same zero = refl
    same (suc r) = refl
table_law Myanmar mode text g i row l h =
    same row
    ∙ pair_law 1156 7140 my.rules myanmar_table my.expected my.feasible my.right_at (myanmar_symbol mode text i) (emoji_symbol (token_at text i)) row
    (omega (arith, my-fine.symbol_below mode text g i l, my-fine.class_below mode text g i l)) (my-fine.class_below mode text g i l) h (my-fine.pair_feasible mode text g i l)
  where
    same : (row : ℕ) → cells_at Myanmar mode text i row ≡ my.expected (myanmar_symbol mode text i * 6 + emoji_symbol (token_at text i)) row
    same zero = ap (λ x. fresh (cond (eqb x 33) over (cell_of (sample_of Myanmar mode text i) (first (answer_of Myanmar mode text i) (grammar Myanmar))))) (sym (my-fine.pair_symbol mode text g i l))
    same (suc r) = ap (λ x. or_fresh (cell_of (sample_of Myanmar mode text i) (first (answer_of Myanmar mode text i) (get_or my.rules r skip))) (cond (eqb r 33) over (cond (eqb x 33) over (cell_of (sample_of Myanmar mode text i) (first (answer_of Myanmar mode text i) (grammar Myanmar)))))) (sym (my-fine.pair_symbol mode text g i l))
table_law Complex mode text g i row l h =
    same row
    ∙ pair_law 1496 9240 cx.rules complex_table cx.expected cx.feasible cx.right_at (use_symbol false (token_at text i)) (emoji_symbol (token_at text i)) row
    (omega (arith, use-fine.symbol_below false text g i l, use-fine.class_below false text g i l)) (use-fine.class_below false text g i l) h (use-fine.pair_feasible false text g i l)
  where
    same : (row : ℕ) → cells_at Complex mode text i row ≡ cx.expected (use_symbol false (token_at text i) * 6 + emoji_symbol (token_at text i)) row
    same zero = refl
    same (suc r) = refl
table_law Khmer mode text g i row l h =
    same row
    ∙ pair_law 1496 9240 kh.rules khmer_table kh.expected kh.feasible kh.right_at (use_symbol true (token_at text i)) (emoji_symbol (token_at text i)) row
    (omega (arith, use-fine.symbol_below true text g i l, use-fine.class_below true text g i l)) (use-fine.class_below true text g i l) h (use-fine.pair_feasible true text g i l)
  where
    same : (row : ℕ) → cells_at Khmer mode text i row ≡ kh.expected (use_symbol true (token_at text i) * 6 + emoji_symbol (token_at text i)) row
    same zero = refl
    same (suc r) = refl

pub table_okay : (parser : Parser) (mode : Mode) (text : List ℕ) → Regular parser text → (i row : ℕ) → i < length text → row < rows_of parser → true ≡ okay (rows_of parser) (cell_in parser mode text i row)
unfolding rows_of table_of index_of
table_okay Simple mode text g i row l h = simple.okay_at (simple_symbol (token_at text i) * 9 + row) (omega (arith, h, simple-fine.symbol_below text g i l))
table_okay Myanmar mode text g i row l h = my.okay_at _ (my_index mode text g i row l h)
table_okay Complex mode text g i row l h = cx.okay_at _ (use_index_lem false text g i row l h)
table_okay Khmer mode text g i row l h = kh.okay_at _ (use_index_lem true text g i row l h)

-- an index of the table
table_index : (parser : Parser) (mode : Mode) (text : List ℕ) → Regular parser text → (i row : ℕ) → i < length text → row < rows_of parser → index_of parser mode text i row < length (table_of parser)
unfolding rows_of table_of index_of
table_index Simple mode text g i row l h = omega (arith, h, simple_length, simple-fine.symbol_below text g i l)
table_index Myanmar mode text g i row l h = let z = my_index mode text g i row l h in let y = my_length in omega (arith, z, y)
table_index Complex mode text g i row l h = let z = use_index_lem false text g i row l h in let y = cx_length in omega (arith, z, y)
table_index Khmer mode text g i row l h = let z = use_index_lem true text g i row l h in let y = kh_length in omega (arith, z, y)

pub cell_index : (parser : Parser) (mode : Mode) (text : List ℕ) (i row index : ℕ) (table : List ℕ) → Regular parser text → i < length text → row < rows_of parser → table ≡ table_of parser → index ≡ index_of parser mode text i row → index < length table
cell_index parser mode text i row index table g l h e f = let z = table_index parser mode text g i row l h in let y : length table ≡ length (table_of parser) = ap length e in omega arith

fine_of : (parser : Parser) (mode : Mode) (text : List ℕ) → Regular parser text → (i : ℕ) → i < length text → Fine text (answer_of parser mode text) (sample_of parser mode text) (Inside text) (grammar parser)
unfolding grammar
fine_of Simple mode text g i h = simple-fine.fine_simple text g
fine_of Myanmar mode text g i h = my-fine.fine_myanmar mode text g
fine_of Complex mode text g i h = use-fine.fine_complex false text g
fine_of Khmer mode text g i h = use-fine.fine_complex true text g

-- the room of a call, and of the run that writes it
room_same : (m : Mode) (n o stop : ℕ) → n + stop ≡ o + 32 → last_room m n ≡ last_cell m o stop
unfolding last_cell
room_same Crate n o stop e = refl
room_same Whole n o stop e = by_test (eqb n 31)
    (λ h. h ∙ sym (eq-eqb (o + 1) stop (omega (arith, e, eqb-true n 31 h)))) (λ h. h ∙ sym (ne_eqb (o + 1) stop (λ z. eqb-false n 31 h (omega (arith, e, z)))))

room_first : (m : Mode) → last_room m 0 ≡ false
room_first Crate = refl
room_first Whole = refl

calm_start : (parser : Parser) (mode : Mode) (text : List ℕ) → Regular parser text → (i : ℕ) → i < length text → leaves parser mode text i ≡ false → Calm text (answer_of parser mode text i) (begin (record { at = i }) mode (joins parser)) (grammar parser)
unfolding grammar
calm_start Simple mode text g i l h = calm_simple text _ _ (λ e c. ap (λ b. cond b (next_is LF text i) false) (room_first mode))
calm_start Myanmar mode text g i l h = calm_myanmar text mode g i l h true
calm_start Complex mode text g i l h = calm_free text _ _ (Complex-rules.cluster false) cx.cluster_spare
calm_start Khmer mode text g i l h = calm_free text _ _ (Complex-rules.cluster true) kh.cluster_spare

-- behind prepended characters, at a CR without the emoji mark
room_left : (l c e n : Bool) → c ≡ true → e ≡ false → cond l (cond c (cond e false n) false) false ≡ false → cond l n false ≡ false
room_left l true true n hc he z = absurd (false≢true (sym he))
room_left l true false n hc he z = z
room_left l false e n hc he z = absurd (false≢true hc)

calm_fitting : (mode : Mode) (text : List ℕ) → Regular Simple text → (i o stop : ℕ) (s : Parse) → i < length text → crowded_at mode text 6 i o stop ≡ false
    → s.mode ≡ mode → s.at ≡ i → s.len + stop ≡ o + 32 → Calm text (answer_of Simple mode text s.at) s (get_or simple.rules 5 skip)
unfolding crowded_at newline_at
calm_fitting mode text g i o stop s h k m a l =
    let inside : s.at < length text = omega (arith, h, a) in
    subst (λ r. Calm text (answer_of Simple mode text s.at) s r) (sym simple.fitting_is) (calm_simple text (answer_of Simple mode text s.at) s (λ e c.
    ap (λ b. cond b (next_is LF text s.at) false) (ap (λ m. last_room m s.len) m ∙ room_same mode s.len o stop l)
    ∙ room_left (last_cell mode o stop) (is CR text s.at) (is_emoji text s.at) (next_is LF text s.at)
    (sym (simple-fine.good_is text g CR s.at inside) ∙ c) (sym (simple-fine.good_emoji text g s.at inside) ∙ e) (rw a k)))

calm_within : (parser : Parser) (mode : Mode) (text : List ℕ) → Regular parser text → (r i o stop : ℕ) → i < length text → suc r < rows_of parser → crowds parser mode text (suc r) i o stop ≡ false
    → (s : Parse) → s.mode ≡ mode → s.at ≡ i → s.len + stop ≡ o + 32 → Calm text (answer_of parser mode text s.at) s (get_or (rules_of parser) r skip)
unfolding rows_of
calm_within Simple mode text g r i o stop h n k s m a l = by_test (eqb r 5)
    (λ e. let z : r ≡ 5 = eqb-true r 5 e in
    subst (λ r. Calm text (answer_of Simple mode text s.at) s (get_or simple.rules r skip)) (sym z)
    (calm_fitting mode text g i o stop s h (subst (λ r. crowded_at mode text (suc r) i o stop ≡ false) z k) m a l))
    (λ e. calm_free text _ s (get_or simple.rules r skip) (ap (λ b. cond b true (spare false (get_or simple.rules r skip))) (sym e) ∙ simple.spare_at r (omega (arith, n))))
calm_within Myanmar mode text g r i o stop h n k s m a l = calm_free text _ s (get_or my.rules r skip) (my.spare_at r)
calm_within Complex mode text g r i o stop h n k s m a l = calm_free text _ s (get_or cx.rules r skip) (cx.spare_at r)
calm_within Khmer mode text g r i o stop h n k s m a l = calm_free text _ s (get_or kh.rules r skip) (kh.spare_at r)

-- the parts of a good cell
pub okay_class : (rows v : ℕ) → true ≡ okay rows v → v % 16 < 15
okay_class rows v h = ltb-true (v % 16) 15 (both_of (ltb (v % 16) 15) _ (sym h)).0

pub okay_row : (rows v : ℕ) → true ≡ okay rows v → v / 64 < rows
okay_row rows v h = ltb-true (v / 64) rows (both_of (ltb (v / 64) rows) _ (both_of (ltb (v % 16) 15) _ (sym h)).1).0

pub okay_inside : (rows v : ℕ) → true ≡ okay rows v → (v / 16 % 4 ≡ 3 → ⊥) → 0 < v / 64
okay_inside rows v h n = ltb-true 0 (v / 64) (rw (ne_eqb (v / 16 % 4) 3 n) at (both_of (ltb (v / 64) rows) _ (both_of (ltb (v % 16) 15) _ (sym h)).1).1)

-- the cell that the loop looks up
cell_between : (j : Bool) (table : List ℕ) (x index : ℕ) → cell_at j table x index 0 ≡ get_or table index 0
unfolding cell_at
cell_between j table x index = go j (eqb x CGJ)
  where
    go : (a b : Bool) → cond (cond a (cond b false false) false) 14 (get_or table index 0) ≡ get_or table index 0
    go true true = refl
    go true false = refl
    go false b = refl

cell_within : (j : Bool) (table : List ℕ) (x index r : ℕ) → cell_at j table x index (suc r) ≡ cond (joiner j x) (suc r * 64 + 14) (get_or table index 0)
unfolding cell_at
cell_within j table x index r = ap (λ c. cond (cond j (cond (eqb x CGJ) c false) false) (suc r * 64 + 14) (get_or table index 0)) (lt-ltb 0 (suc r) (omega arith)) ∙ go j (eqb x CGJ)
  where
    go : (a b : Bool) → cond (cond a (cond b true false) false) (suc r * 64 + 14) (get_or table index 0) ≡ cond (cond a b false) (suc r * 64 + 14) (get_or table index 0)
    go true true = refl
    go true false = refl
    go false b = refl

module _ (parser : Parser) (mode : Mode) (text scalars₀ classes₀ clusters₀ : List ℕ) (roomy : Roomy text scalars₀ classes₀ clusters₀) (regular : Regular parser text) where
  abbrev Bet : List ℕ → List ℕ → List ℕ → ℕ → ℕ → ℕ → Type 0
  Bet = Between parser mode text scalars₀ classes₀ clusters₀ roomy (answer_of parser mode text) (sample_of parser mode text)

  abbrev Nex : Rule → List ℕ → List ℕ → List ℕ → ℕ → ℕ → ℕ → ℕ → Type 0
  Nex = Next parser mode text scalars₀ classes₀ clusters₀ roomy (answer_of parser mode text) (sample_of parser mode text)

  abbrev Aft : Cell → List ℕ → List ℕ → List ℕ → ℕ → ℕ → ℕ → ℕ → Type 0
  Aft = After parser mode text scalars₀ classes₀ clusters₀ roomy (answer_of parser mode text) (sample_of parser mode text)

  -- the loop at a row
  abbrev pub Stands : ℕ → List ℕ → List ℕ → List ℕ → ℕ → ℕ → ℕ → ℕ → Type 0
  Stands zero scalars classes clusters i num stop o = Bet scalars classes clusters i num o
  Stands (suc r) scalars classes clusters i num stop o = Nex (get_or (rules_of parser) r skip) scalars classes clusters i num stop o

  module _ (scalars classes clusters : List ℕ) (i num stop o : ℕ) (h : i < length text) where
    begins : Bet scalars classes clusters i num o → Aft (fresh (opening parser mode text i)) scalars classes clusters i num stop o
    unfolding After
    begins b = by_test (leaves parser mode text i) (λ e. rw e b)
        (λ e. rw e (start_turn parser mode text scalars₀ classes₀ clusters₀ roomy (answer_of parser mode text) (sample_of parser mode text) scalars classes clusters i num stop o h b (fine_of parser mode text regular i h) (calm_start parser mode text regular i h e)))

    later : (r : ℕ) → Bet scalars classes clusters i num o → Aft (fresh (cond (late parser r) over (opening parser mode text i))) scalars classes clusters i num stop o
    unfolding After
    later r b = by_test (late parser r) (λ e. rw e b) (λ e. rw e (begins b))

    joined : (r : ℕ) → suc r < rows_of parser → decoded parser mode text (suc r * 64 + 14) ≡ sets_as Other (get_or (rules_of parser) r skip)
    joined r l =
        let a : (suc r * 64 + 14) / 16 % 4 ≡ 0 = omega arith in
        let b : (suc r * 64 + 14) % 16 ≡ 14 = omega arith in
        let c : (suc r * 64 + 14) / 64 - 1 ≡ r = omega arith in
        rw (a, b, c)

    okay_joined : (r : ℕ) → suc r < rows_of parser → true ≡ okay (rows_of parser) (suc r * 64 + 14)
    okay_joined r l =
        let a : (suc r * 64 + 14) / 16 % 4 ≡ 0 = omega arith in
        let b : (suc r * 64 + 14) % 16 ≡ 14 = omega arith in
        let c : (suc r * 64 + 14) / 64 ≡ suc r = omega arith in
        rw (a, b, c, lt-ltb (suc r) (rows_of parser) l, lt-ltb 0 (suc r) (omega arith))

    -- one turn
    pub turns : (row : ℕ) → row < rows_of parser → crowds parser mode text row i o stop ≡ false → Stands row scalars classes clusters i num stop o
        → Aft (decoded parser mode text (cell_at (joins parser) (table_of parser) (scalar_of (token_at text i)) (index_of parser mode text i row) row)) scalars classes clusters i num stop o
    turns zero l k b = subst (λ v. Aft (decoded parser mode text v) scalars classes clusters i num stop o) (sym (cell_between (joins parser) (table_of parser) (scalar_of (token_at text i)) (index_of parser mode text i 0)))
        (subst (λ c. Aft c scalars classes clusters i num stop o) (table_law parser mode text regular i zero h l) (begins b))
    turns (suc r) l k n =
        let u = n.0 h in
        by_test (joiner (joins parser) (scalar_of (token_at text i)))
        (λ j. subst (λ v. Aft (decoded parser mode text v) scalars classes clusters i num stop o)
        (sym (cell_within (joins parser) (table_of parser) (scalar_of (token_at text i)) (index_of parser mode text i (suc r)) r ∙ ap (λ b. cond b (suc r * 64 + 14) (cell_in parser mode text i (suc r))) j))
        (subst (λ c. Aft c scalars classes clusters i num stop o) (sym (joined r l))
        (joiner_turn parser mode text scalars₀ classes₀ clusters₀ roomy (answer_of parser mode text) (sample_of parser mode text) scalars classes clusters i num stop o _ u j)))
        (λ j. subst (λ v. Aft (decoded parser mode text v) scalars classes clusters i num stop o)
        (sym (cell_within (joins parser) (table_of parser) (scalar_of (token_at text i)) (index_of parser mode text i (suc r)) r ∙ ap (λ b. cond b (suc r * 64 + 14) (cell_in parser mode text i (suc r))) j))
        (subst (λ c. Aft c scalars classes clusters i num stop o) (table_law parser mode text regular i (suc r) h l)
        (under_turn parser mode text scalars₀ classes₀ clusters₀ roomy (answer_of parser mode text) (sample_of parser mode text) scalars classes clusters i num stop o _ u j
        (calm_within parser mode text regular r i o stop h l k) (cond (late parser r) over (opening parser mode text i)) (later r))))

    -- and its cell is a good one
    pub turn_okay : (row : ℕ) → row < rows_of parser → true ≡ okay (rows_of parser) (cell_at (joins parser) (table_of parser) (scalar_of (token_at text i)) (index_of parser mode text i row) row)
    turn_okay zero l = table_okay parser mode text regular i zero h l ∙ ap (okay (rows_of parser)) (sym (cell_between (joins parser) (table_of parser) (scalar_of (token_at text i)) (index_of parser mode text i 0)))
    turn_okay (suc r) l = by_test (joiner (joins parser) (scalar_of (token_at text i)))
        (λ j. okay_joined r l ∙ ap (okay (rows_of parser)) (sym (cell_within (joins parser) (table_of parser) (scalar_of (token_at text i)) (index_of parser mode text i (suc r)) r ∙ ap (λ b. cond b (suc r * 64 + 14) (cell_in parser mode text i (suc r))) j)))
        (λ j. table_okay parser mode text regular i (suc r) h l ∙ ap (okay (rows_of parser)) (sym (cell_within (joins parser) (table_of parser) (scalar_of (token_at text i)) (index_of parser mode text i (suc r)) r ∙ ap (λ b. cond b (suc r * 64 + 14) (cell_in parser mode text i (suc r))) j)))

-- the cluster of prepended characters that ends before CR and LF
module _ (mode : Mode) (text scalars₀ classes₀ clusters₀ : List ℕ) (roomy : Roomy text scalars₀ classes₀ clusters₀) (regular : Regular Simple text) where
  last_is : (m : Mode) (o stop : ℕ) → last_cell m o stop ≡ true → (m ≡ Whole) × (o + 1 ≡ stop)
  unfolding last_cell
  last_is Crate o stop e = absurd (false≢true e)
  last_is Whole o stop e = (refl, eqb-true (o + 1) stop e)

  newline_parts : (c e n : Bool) → cond c (cond e false n) false ≡ true → (c ≡ true) × (e ≡ false) × (n ≡ true)
  newline_parts true true n z = absurd (false≢true z)
  newline_parts true false n z = (refl, refl, z)
  newline_parts false e n z = absurd (false≢true z)

  -- the call stops there
  stops_there : (i : ℕ) (s : Parse) → newline_at text i ≡ true → going s ≡ true → s.mode ≡ Whole → s.at ≡ i → s.len ≡ 31 → run (get_or simple.rules 5 skip) text s ≡ with_flow Stop s
  unfolding newline_at
  stops_there i s y g m a l =
      let z = newline_parts (is CR text s.at) (is_emoji text s.at) (next_is LF text s.at) (rw a y) in
      let w : last_room s.mode s.len ≡ true = ap (λ m. last_room m s.len) m ∙ ap (λ n. eqb n 31) l in
      ap (λ r. run r text s) simple.fitting_is ∙ ends_here text s (rw (g, z.1, z.0, w, z.2))

  pub crowded_ends : (row : ℕ) (scalars classes clusters : List ℕ) (i num stop o : ℕ) → i < length text → crowded_at mode text row i o stop ≡ true
      → Stands Simple mode text scalars₀ classes₀ clusters₀ roomy regular row scalars classes clusters i num stop o
      → Between Simple mode text scalars₀ classes₀ clusters₀ roomy (answer_of Simple mode text) (sample_of Simple mode text) scalars classes clusters i num o
  unfolding crowded_at
  crowded_ends row scalars classes clusters i num stop o h k st =
      let a = both_of (eqb row 6) _ k in
      let b = both_of (last_cell mode o stop) (newline_at text i) a.1 in
      let c = last_is mode o stop b.0 in
      let n = subst (λ row. Stands Simple mode text scalars₀ classes₀ clusters₀ roomy regular row scalars classes clusters i num stop o) (eqb-true row 6 a.0) st in
      stop_turn Simple mode text scalars₀ classes₀ clusters₀ roomy (answer_of Simple mode text) (sample_of Simple mode text) scalars classes clusters i num stop o
      (get_or simple.rules 5 skip) (n.0 h) refl c.1 (λ s g m p l. stops_there i s b.1 g (m ∙ c.0) p l)

-- The loops over a table, as their code has them: what each turn keeps, and that they end. Assumes nothing.
use Prim.Native.Nat.{ℕ, zero, suc, ◌+◌, ◌-◌, ◌*◌, ◌/◌, ◌%◌, ◌<◌, ◌≤◌}
use mathlib.Core.Path.{◌≡◌, refl, sym, ◌∙◌, ap, subst}
use mathlib.Core.Bool.{Bool, true, false, cond, false≢true}
use mathlib.Core.List.{List}
use native.Mathlib.Omega.{arith}
use lib.Dec.{eqb, ltb}
use lib.ListN.{length, get_or, set, length-set}
use denote.Ref.{MutBor}
use denote.Triple.Both.{Both}
use borrow.Author.Tests.{lt-ltb, eq-eqb, ne_eqb, ltb-true, ltb-false, eqb-true, eqb-false}
use Rattle.basics.proofs.Tests.{by_test, both_of}
use Rattle.classes.specs.Shape.{shape_code}
use Rattle.classes.specs.declared.Mode.{Mode}
use Rattle.classes.specs.declared.Mode.TheVariants.{Crate, Whole}
use Rattle.token.specs.Token.{scalar_of}
use Rattle.records.specs.declared.Parser.{Parser}
use Rattle.records.specs.declared.Parser.TheVariants.{Simple, Myanmar, Complex, Khmer}
use Rattle.records.proofs.Passing.{not_so}
use Rattle.parse.specs.State.{token_at, filled_at}
use Rattle.parse.specs.Rule.{Rule, skip}
use Rattle.tables.specs.Symbols.{index_of, rows_of, table_of, cell_at, Regular}
use Rattle.tables.proofs.Cells.{shape_at, code_at, okay}
use Rattle.segment.specs.Calls.{joins}
use Rattle.segment.specs.Inner.{Roomy}
use Rattle.segment.specs.Seen.{use_parser}
use Rattle.segment.specs.Standing.{Running}
use Rattle.segment.specs.Ways.{crowds, over_cell, looked, Facing, Sees}
use Rattle.segment.specs.declared.going.Look.{Look}
use Rattle.segment.specs.Going.{started, goes_on, done_by, given_up, crowded_at, stop_of, back_of, refilled, overed, noted, written, turned, put_by, Wrote, Writable}
use Rattle.segment.specs.declared.going.Going.{Going}
use Rattle.segment.specs.declared.going.Stand.{Stand}
use Rattle.segment.proofs.CallTurns.{run_starts}
use Rattle.segment.proofs.TableTurn.{Next, Put, After}
use Rattle.segment.proofs.TableLaws.{answer_of, sample_of, rules_of, decoded, okay_class, okay_row, okay_inside, Stands, turns, turn_okay, crowded_ends}

rows_some : (parser : Parser) → 0 < rows_of parser
unfolding rows_of
rows_some Simple = omega arith
rows_some Myanmar = omega arith
rows_some Complex = omega arith
rows_some Khmer = omega arith

pub rows_most : (parser : Parser) → rows_of parser ≤ 64
unfolding rows_of
rows_most Simple = omega arith
rows_most Myanmar = omega arith
rows_most Complex = omega arith
rows_most Khmer = omega arith

-- what a turn has looked up: the cell of the current token, of a cluster that is not full and does not end before it
pub record Looked (parser : Parser) (mode : Mode) (text : List ℕ) (g : Going) (v x : ℕ) : Type 0 where
  pub inside : g.at < length text
  pub unfilled : g.characters ≡ g.stop → ⊥
  pub uncrowded : crowds parser mode text g.row g.at g.characters g.stop ≡ false
  pub cell : v ≡ cell_at (joins parser) (table_of parser) (scalar_of (token_at text g.at)) (index_of parser mode text g.at g.row) g.row
  pub scalar : x ≡ scalar_of (token_at text g.at)

pub looked_up : (parser : Parser) (mode : Mode) (text : List ℕ) (g : Going) (v x t : ℕ) (j full : Bool) (table : List ℕ) (index : ℕ)
    → crowds parser mode text g.row g.at g.characters g.stop ≡ false → g.at < length text → full ≡ eqb g.characters g.stop → full ≡ false → t ≡ token_at text g.at → x ≡ scalar_of t
    → v ≡ cell_at j table x index g.row → j ≡ joins parser → table ≡ table_of parser → index ≡ index_of parser mode text g.at g.row → Looked parser mode text g v x
looked_up parser mode text g v x t j full table index u h ef f et ex ev ej eb ei = record {
  inside = h;
  unfilled = eqb-false g.characters g.stop (sym ef ∙ f);
  uncrowded = u;
  cell = ev ∙ ap (λ j. cell_at j table x index g.row) ej ∙ ap (λ t. cell_at (joins parser) t x index g.row) eb
      ∙ ap (λ x. cell_at (joins parser) (table_of parser) x index g.row) (ex ∙ ap scalar_of et) ∙ ap (λ s. cell_at (joins parser) (table_of parser) (scalar_of (token_at text g.at)) s g.row) ei;
  scalar = ex ∙ ap scalar_of et;
}

abbrev standing : Going → Stand
standing g = record { at = g.at; clusters = g.clusters; characters = g.characters }

module _ (parser : Parser) (mode : Mode) (text scalars₀ classes₀ clusters₀ : List ℕ) (roomy : Roomy text scalars₀ classes₀ clusters₀) (regular : Regular parser text) where
  abbrev R : List ℕ → List ℕ → List ℕ → ℕ → ℕ → ℕ → Type 0
  R scalars classes clusters i num o = Running parser mode text scalars₀ classes₀ clusters₀ scalars classes clusters i num o

  -- a full cluster stands at the place that its last token leaves, any other is what its row says
  pub record Goes (g : Going) (scalars classes clusters : List ℕ) : Type 0 where
    pub row_in : g.row < rows_of parser
    pub inside : g.at ≤ length text
    pub low : g.characters ≤ 2 * g.at
    pub few : g.clusters ≤ g.at
    pub scalar : length scalars ≡ length scalars₀
    pub class : length classes ≡ length classes₀
    pub cluster : length clusters ≡ length clusters₀
    pub begun : g.characters ≡ g.stop → 1 ≤ g.at
    pub filled : g.characters ≡ g.stop → R scalars classes clusters (back_of mode g.at) g.clusters g.characters
    pub stands : (g.characters ≡ g.stop → ⊥) → Stands parser mode text scalars₀ classes₀ clusters₀ roomy regular g.row scalars classes clusters g.at g.clusters g.stop g.characters

  pub goes_start : Goes started scalars₀ classes₀ clusters₀
  goes_start = record {
    row_in = rows_some parser;
    inside = omega arith;
    low = omega arith;
    few = omega arith;
    scalar = refl;
    class = refl;
    cluster = refl;
    begun = λ e. absurd (omega arith);
    filled = λ e. absurd (omega arith);
    stands = λ e. run_starts parser mode text scalars₀ classes₀ clusters₀;
  }

  at_end : (row : ℕ) (scalars classes clusters : List ℕ) (i num stop o : ℕ) → length text ≤ i → Stands parser mode text scalars₀ classes₀ clusters₀ roomy regular row scalars classes clusters i num stop o → R scalars classes clusters i num o
  at_end zero scalars classes clusters i num stop o h s = s
  at_end (suc r) scalars classes clusters i num stop o h s = s.1 h

  abbrev N : Rule → List ℕ → List ℕ → List ℕ → ℕ → ℕ → ℕ → ℕ → Type 0
  N = Next parser mode text scalars₀ classes₀ clusters₀ roomy (answer_of parser mode text) (sample_of parser mode text)

  at_row : (row : ℕ) (scalars classes clusters : List ℕ) (i num stop o : ℕ) → 0 < row → N (get_or (rules_of parser) (row - 1) skip) scalars classes clusters i num stop o → Stands parser mode text scalars₀ classes₀ clusters₀ roomy regular row scalars classes clusters i num stop o
  at_row zero scalars classes clusters i num stop o h s = absurd (omega arith)
  at_row (suc r) scalars classes clusters i num stop o h s = let e : suc r - 1 ≡ r = omega arith in subst (λ k. N (get_or (rules_of parser) k skip) scalars classes clusters i num stop o) e s

  module _ (g : Going) (scalars classes clusters : List ℕ) (w : Goes g scalars classes clusters) where
    -- a full cluster, and on from its place
    refilling : g.characters ≡ g.stop → Goes (refilled mode g) scalars classes clusters
    refilling f = let b = w.filled f in record {
      row_in = rows_some parser;
      inside = b.inside;
      low = b.room;
      few = b.few;
      scalar = w.scalar;
      class = w.class;
      cluster = w.cluster;
      begun = λ z. absurd (omega (arith, z));
      filled = λ z. absurd (omega (arith, z));
      stands = λ z. b;
    }

    pub goes_refill : (r : Going) → g.characters ≡ g.stop → r ≡ refilled mode g → Goes r scalars classes clusters
    goes_refill r f e = subst (λ (r : Going). Goes r scalars classes clusters) (sym e) (refilling f)

    ended : goes_on g (length text) ≡ false → R scalars classes clusters g.at g.clusters g.characters
    ended e =
        by_test (eqb g.characters g.stop)
        (λ z. absurd (false≢true (sym e ∙ ap (λ b. cond b true (ltb g.at (length text))) z)))
        (λ z. at_end g.row scalars classes clusters g.at g.clusters g.stop g.characters
        (ltb-false g.at (length text) (ap (λ b. cond b true (ltb g.at (length text))) (sym z) ∙ e))
        (w.stands (eqb-false g.characters g.stop z)))

    pub goes_end : (s : Stand) (n : ℕ) (b : Bool) → n ≡ length text → b ≡ goes_on g n → b ≡ false → s ≡ standing g → R scalars classes clusters s.at s.clusters s.characters
    goes_end s n b en eb f e = subst (λ (s : Stand). R scalars classes clusters s.at s.clusters s.characters) (sym e) (ended (ap (goes_on g) (sym en) ∙ sym eb ∙ f))

    -- a cluster that is over, and on from the token that it ended before
    over_goes : (g.characters ≡ g.stop → ⊥) → R scalars classes clusters g.at g.clusters g.characters → Goes (overed g) scalars classes clusters
    over_goes on b = record {
      row_in = rows_some parser;
      inside = b.inside;
      low = b.room;
      few = b.few;
      scalar = w.scalar;
      class = w.class;
      cluster = w.cluster;
      begun = λ z. absurd (on z);
      filled = λ z. absurd (on z);
      stands = λ z. b;
    }

    pub goes_row : g.row < 64
    goes_row = omega (arith, w.row_in, rows_most parser)

    module _ (h : g.at < length text) where
      pub goes_room : Writable g scalars classes clusters
      goes_room = record {
        at = omega (arith, roomy.short);
        few = omega (arith, w.few, roomy.short);
        characters = omega (arith, w.low, roomy.short);
        scalar = omega (arith, w.low, w.scalar, roomy.scalar);
        class = omega (arith, w.low, w.class, roomy.class);
        cluster = omega (arith, w.low, w.cluster, roomy.cluster);
      }

    module _ (v x : ℕ) (looked : Looked parser mode text g v x) where
      h : g.at < length text
      h = looked.inside

      on : g.characters ≡ g.stop → ⊥
      on = looked.unfilled

      abbrev A : ℕ → Type 0
      A v = After parser mode text scalars₀ classes₀ clusters₀ roomy (answer_of parser mode text) (sample_of parser mode text) (decoded parser mode text v) scalars classes clusters g.at g.clusters g.stop g.characters

      good : true ≡ okay (rows_of parser) v
      good = turn_okay parser mode text scalars₀ classes₀ clusters₀ roomy regular scalars classes clusters g.at g.clusters g.stop g.characters h g.row w.row_in ∙ ap (okay (rows_of parser)) (sym looked.cell)

      after : A v
      after = subst A (sym looked.cell) (turns parser mode text scalars₀ classes₀ clusters₀ roomy regular scalars classes clusters g.at g.clusters g.stop g.characters h g.row w.row_in looked.uncrowded (w.stands on))

      leaves : done_by v ≡ 3 → R scalars classes clusters g.at g.clusters g.characters
      unfolding After
      leaves z = rw (eq-eqb (done_by v) 3 z) at after

      -- the table gives the cluster up
      pub goes_leave : (s : Stand) (b : Bool) → b ≡ given_up v g.row → b ≡ true → s ≡ standing g → R scalars classes clusters s.at s.clusters s.characters
      goes_leave s b eb t e = subst (λ (s : Stand). R scalars classes clusters s.at s.clusters s.characters) (sym e) (leaves (eqb-true (done_by v) 3 (both_of (eqb (done_by v) 3) _ (sym eb ∙ t)).0))

      overs : done_by v ≡ 3 → Goes (overed g) scalars classes clusters
      overs z = over_goes on (leaves z)

      notes : (done_by v ≡ 3 → ⊥) → done_by v ≡ 2 → Goes (noted g v) scalars classes clusters
      unfolding After
      notes n3 z = record {
        row_in = okay_row (rows_of parser) v good;
        inside = omega arith;
        low = omega (arith, w.low);
        few = omega (arith, w.few);
        scalar = w.scalar;
        class = w.class;
        cluster = w.cluster;
        begun = λ z. absurd (on z);
        filled = λ z. absurd (on z);
        stands = λ y. at_row (v / 64) scalars classes clusters (g.at + 1) g.clusters g.stop g.characters (okay_inside (rows_of parser) v good n3) (rw (ne_eqb (done_by v) 3 n3, eq-eqb (done_by v) 2 z) at after);
      }

      module _ (n3 : done_by v ≡ 3 → ⊥) (n2 : done_by v ≡ 2 → ⊥) where
        abbrev P : ℕ → ℕ → Type 0
        P num stop = Put parser mode text scalars₀ classes₀ clusters₀ roomy (answer_of parser mode text) (sample_of parser mode text) (shape_at (v % 16)) (get_or (rules_of parser) (v / 64 - 1) skip) scalars classes clusters g.at num stop g.characters

        puts : P (g.clusters + done_by v) (stop_of (done_by v) g.characters g.stop)
        unfolding After stop_of
        puts = by_test (eqb (done_by v) 1)
            (λ b. let z : done_by v ≡ 1 = eqb-true (done_by v) 1 b in
            subst (λ x. P (g.clusters + x) (cond (eqb (done_by v) 1) (g.characters + 32) g.stop)) (sym z)
            (subst (λ x. P (g.clusters + 1) (cond x (g.characters + 32) g.stop)) (sym b)
            (rw (ne_eqb (done_by v) 3 n3, ne_eqb (done_by v) 2 n2, b) at after)))
            (λ b. let z : done_by v ≡ 0 = omega (arith, n3, n2, eqb-false (done_by v) 1 b) in
            let y : g.clusters + done_by v ≡ g.clusters = omega arith in
            subst (λ x. P x (cond (eqb (done_by v) 1) (g.characters + 32) g.stop)) (sym y)
            (subst (λ x. P g.clusters (cond x (g.characters + 32) g.stop)) (sym b)
            (rw (ne_eqb (done_by v) 3 n3, ne_eqb (done_by v) 2 n2, b) at after)))

        class_same : shape_code (shape_at (v % 16)) ≡ v % 16
        class_same = code_at (v % 16) (okay_class (rows_of parser) v good)

        full_place : (m : Mode) → filled_at m (length text) g.at ≡ back_of m (g.at + 1)
        unfolding back_of
        full_place Crate = omega arith
        full_place Whole = ap (λ b. cond b (g.at + 1) g.at) (lt-ltb g.at (length text) h)

        one_at_most : done_by v ≤ 1
        one_at_most = omega (arith, n3, n2)

        abbrev scalars' : List ℕ
        scalars' = set scalars g.characters (scalar_of (token_at text g.at))

        abbrev clusters' : List ℕ
        clusters' = set clusters g.characters (g.clusters + done_by v - 1)

        writes : Goes (written g v) scalars' (set classes g.characters (v % 16)) clusters'
        writes = record {
          row_in = okay_row (rows_of parser) v good;
          inside = omega arith;
          low = omega (arith, w.low);
          few = omega (arith, w.few, one_at_most);
          scalar = length-set scalars g.characters _ ∙ w.scalar;
          class = length-set classes g.characters _ ∙ w.class;
          cluster = length-set clusters g.characters _ ∙ w.cluster;
          begun = λ z. omega arith;
          filled = λ z. subst (λ j. R scalars' (set classes g.characters (v % 16)) clusters' j (g.clusters + done_by v) (g.characters + 1)) (full_place mode)
              (subst (λ c. R scalars' (set classes g.characters c) clusters' (filled_at mode (length text) g.at) (g.clusters + done_by v) (g.characters + 1)) class_same (puts.0 z));
          stands = λ z. at_row (v / 64) _ _ _ (g.at + 1) (g.clusters + done_by v) (stop_of (done_by v) g.characters g.stop) (g.characters + 1) (okay_inside (rows_of parser) v good n3)
              (subst (λ c. N (get_or (rules_of parser) (v / 64 - 1) skip) scalars' (set classes g.characters c) clusters' (g.at + 1) (g.clusters + done_by v) (stop_of (done_by v) g.characters g.stop) (g.characters + 1)) class_same (puts.1 z));
        }

      -- whatever the cell is
      turning : Goes (turned g v) (put_by v g.characters (scalar_of (token_at text g.at)) scalars) (put_by v g.characters (v % 16) classes) (put_by v g.characters (g.clusters + done_by v - 1) clusters)
      unfolding turned put_by
      turning = by_test (eqb (done_by v) 3)
          (λ a. rw a (overs (eqb-true (done_by v) 3 a)))
          (λ a. by_test (eqb (done_by v) 2)
          (λ b. rw (a, b) (notes (eqb-false (done_by v) 3 a) (eqb-true (done_by v) 2 b)))
          (λ b. rw (a, b) (writes (eqb-false (done_by v) 3 a) (eqb-false (done_by v) 2 b))))

      -- with the values as the code has them
      pub goes_turn : (r : Going) (os oc on : Both (MutBor (List ℕ)) (MutBor (List ℕ))) → os.entry.now ≡ scalars → oc.entry.now ≡ classes → on.entry.now ≡ clusters → r ≡ turned g v → Wrote g v x os oc on → Goes r os.exit.now oc.exit.now on.exit.now
      goes_turn r os oc on es ec en er u =
          subst (λ (r : Going). Goes r os.exit.now oc.exit.now on.exit.now) (sym er)
          (subst (λ l. Goes (turned g v) l oc.exit.now on.exit.now) (sym (u.scalar ∙ ap (λ l. put_by v g.characters x l) es ∙ ap (λ x. put_by v g.characters x scalars) looked.scalar))
          (subst (λ l. Goes (turned g v) (put_by v g.characters (scalar_of (token_at text g.at)) scalars) l on.exit.now) (sym (u.class ∙ ap (put_by v g.characters (v % 16)) ec))
          (subst (λ l. Goes (turned g v) (put_by v g.characters (scalar_of (token_at text g.at)) scalars) (put_by v g.characters (v % 16) classes) l) (sym (u.cluster ∙ ap (put_by v g.characters (g.clusters + done_by v - 1)) en)) turning)))

-- complex, with and without Khmer, has no such row
pub crowds_use : (khmer : Bool) (mode : Mode) (text : List ℕ) (row i o stop : ℕ) → crowds (use_parser khmer) mode text row i o stop ≡ false
crowds_use true mode text row i o stop = refl
crowds_use false mode text row i o stop = refl

-- the measure: tokens left, cells left, whether the cluster is full, whether one is under way

abbrev fullness : ℕ → ℕ → ℕ
fullness o stop = cond (eqb o stop) 3 0

abbrev underway : ℕ → ℕ
underway row = cond (ltb 0 row) 1 0

unfoldable pub left : ℕ → Going → ℕ
left n g = 2 * (n - g.at) + 4 * (2 * n - g.characters) + fullness g.characters g.stop + underway g.row

underway_most : (row : ℕ) → underway row ≤ 1
underway_most row = by_test (ltb 0 row) (λ e. rw e (omega arith)) (λ e. rw e (omega arith))

fullness_most : (o stop : ℕ) → fullness o stop ≤ 3
fullness_most o stop = by_test (eqb o stop) (λ e. rw e (omega arith)) (λ e. rw e (omega arith))

back_up : (m : Mode) (i : ℕ) → i ≤ back_of m i + 1
unfolding back_of
back_up Crate i = omega arith
back_up Whole i = omega arith

-- a full cluster, as the code finds it
pub is_filled : (g : Going) (b : Bool) → b ≡ eqb g.characters g.stop → b ≡ true → g.characters ≡ g.stop
is_filled g b e t = eqb-true g.characters g.stop (sym e ∙ t)

pub refill_falls : (m : Mode) (n : ℕ) (g r : Going) → g.characters ≡ g.stop → r ≡ refilled m g → left n r < left n g
unfolding left
refill_falls m n g r f er =
    let a : fullness g.characters (g.characters + 32) ≡ 0 = ap (λ b. cond b 3 0) (ne_eqb g.characters (g.characters + 32) (λ z. omega (arith, z))) in
    let b : fullness g.characters g.stop ≡ 3 = ap (λ b. cond b 3 0) (eq-eqb g.characters g.stop f) in
    let c : underway 0 ≡ 0 = refl in
    subst (λ (r : Going). left n r < left n g) (sym er) (unfold left in omega (arith, a, b, c, back_up m g.at))

pub turn_falls : (n : ℕ) (g r : Going) (v : ℕ) (b : Bool) → g.at < n → g.characters ≤ 2 * g.at → b ≡ given_up v g.row → b ≡ false → r ≡ turned g v → left n r < left n g
unfolding left turned
turn_falls n g r v b h l eb f er = subst (λ (r : Going). left n r < left n g) (sym er) (unfold left turned in
    by_test (eqb (done_by v) 3)
    (λ a. rw a (over_falls (eqb-false g.row 0 (ap (λ b. cond b (eqb g.row 0) false) (sym a) ∙ sym eb ∙ f))))
    (λ a. by_test (eqb (done_by v) 2) (λ b. rw (a, b) note_falls) (λ b. rw (a, b) put_falls)))
  where
    over_falls : (g.row ≡ 0 → ⊥) → 2 * (n - g.at) + 4 * (2 * n - g.characters) + fullness g.characters g.stop + 0 < 2 * (n - g.at) + 4 * (2 * n - g.characters) + fullness g.characters g.stop + underway g.row
    over_falls f = let b : underway g.row ≡ 1 = ap (λ b. cond b 1 0) (lt-ltb 0 g.row (omega (arith, f))) in omega (arith, b)

    note_falls : 2 * (n - (g.at + 1)) + 4 * (2 * n - g.characters) + fullness g.characters g.stop + underway (v / 64) < 2 * (n - g.at) + 4 * (2 * n - g.characters) + fullness g.characters g.stop + underway g.row
    note_falls = omega (arith, h, underway_most (v / 64))

    put_falls : 2 * (n - (g.at + 1)) + 4 * (2 * n - (g.characters + 1)) + fullness (g.characters + 1) (stop_of (done_by v) g.characters g.stop) + underway (v / 64) < 2 * (n - g.at) + 4 * (2 * n - g.characters) + fullness g.characters g.stop + underway g.row
    put_falls = omega (arith, h, l, underway_most (v / 64), fullness_most (g.characters + 1) (stop_of (done_by v) g.characters g.stop))

-- a turn more, of a cluster that is not full
pub turn_inside : (g : Going) (n : ℕ) (b full : Bool) → b ≡ goes_on g n → b ≡ true → full ≡ eqb g.characters g.stop → full ≡ false → g.at < n
turn_inside g n b full e t ef f = ltb-true g.at n (ap (λ c. cond c true (ltb g.at n)) (sym f ∙ ef) ∙ sym e ∙ t)

-- the cell as a way to it tells, whether the cluster ends before the token or not
crowded_row : (parser : Parser) (mode : Mode) (text : List ℕ) (row i o stop : ℕ) → crowds parser mode text row i o stop ≡ true → row ≡ 6
unfolding crowded_at
crowded_row Simple mode text row i o stop e = eqb-true row 6 (both_of (eqb row 6) _ e).0
crowded_row Myanmar mode text row i o stop e = not_so e
crowded_row Complex mode text row i o stop e = not_so e
crowded_row Khmer mode text row i o stop e = not_so e

crowded_over : (parser : Parser) (mode : Mode) (text scalars₀ classes₀ clusters₀ : List ℕ) (roomy : Roomy text scalars₀ classes₀ clusters₀) (regular : Regular parser text) (g : Going) (scalars classes clusters : List ℕ)
    → Goes parser mode text scalars₀ classes₀ clusters₀ roomy regular g scalars classes clusters → g.at < length text → (g.characters ≡ g.stop → ⊥)
    → crowds parser mode text g.row g.at g.characters g.stop ≡ true → Goes parser mode text scalars₀ classes₀ clusters₀ roomy regular (overed g) scalars classes clusters
crowded_over Simple mode text scalars₀ classes₀ clusters₀ roomy regular g scalars classes clusters w l n e =
    over_goes Simple mode text scalars₀ classes₀ clusters₀ roomy regular g scalars classes clusters w n
    (crowded_ends mode text scalars₀ classes₀ clusters₀ roomy regular g.row scalars classes clusters g.at g.clusters g.stop g.characters l e (w.stands n))
crowded_over Myanmar mode text scalars₀ classes₀ clusters₀ roomy regular g scalars classes clusters w l n e = not_so e
crowded_over Complex mode text scalars₀ classes₀ clusters₀ roomy regular g scalars classes clusters w l n e = not_so e
crowded_over Khmer mode text scalars₀ classes₀ clusters₀ roomy regular g scalars classes clusters w l n e = not_so e

module _ (parser : Parser) (mode : Mode) (text scalars₀ classes₀ clusters₀ : List ℕ) (roomy : Roomy text scalars₀ classes₀ clusters₀) (regular : Regular parser text) (g : Going) (scalars classes clusters : List ℕ)
    (w : Goes parser mode text scalars₀ classes₀ clusters₀ roomy regular g scalars classes clusters) (b full : Bool) (eb : b ≡ goes_on g (length text)) (tb : b ≡ true) (ef : full ≡ eqb g.characters g.stop) (tf : full ≡ false) where
  unfilled : g.characters ≡ g.stop → ⊥
  unfilled = eqb-false g.characters g.stop (sym ef ∙ tf)

  inside : g.at < length text
  inside = ltb-true g.at (length text) (ap (λ c. cond c true (ltb g.at (length text))) (sym tf ∙ ef) ∙ sym eb ∙ tb)

  pub goes_facing : Facing parser text g
  goes_facing = record { inside = inside; row_in = w.row_in; regular = regular; room = omega (arith, inside, w.low, roomy.short) }

  pub goes_writable : Writable g scalars classes clusters
  goes_writable = goes_room parser mode text scalars₀ classes₀ clusters₀ roomy regular g scalars classes clusters w inside

  module _ (look : Look) (sees : Sees parser mode text g look) where
    as_looked : crowds parser mode text g.row g.at g.characters g.stop ≡ false → Looked parser mode text g look.cell look.scalar
    unfolding looked
    as_looked f = record { inside = inside; unfilled = unfilled; uncrowded = f; cell = sees.cell ∙ ap (λ b. cond b over_cell (cell_at (joins parser) (table_of parser) (scalar_of (token_at text g.at)) (index_of parser mode text g.at g.row) g.row)) f; scalar = sees.scalar }

    as_crowded : crowds parser mode text g.row g.at g.characters g.stop ≡ true → look.cell ≡ over_cell
    unfolding looked
    as_crowded f = sees.cell ∙ ap (λ b. cond b over_cell (cell_at (joins parser) (table_of parser) (scalar_of (token_at text g.at)) (index_of parser mode text g.at g.row) g.row)) f

    over_turned : (r : Going) (os oc on : Both (MutBor (List ℕ)) (MutBor (List ℕ))) (v x : ℕ) → v ≡ over_cell → os.entry.now ≡ scalars → oc.entry.now ≡ classes → on.entry.now ≡ clusters → r ≡ turned g v → Wrote g v x os oc on
        → Goes parser mode text scalars₀ classes₀ clusters₀ roomy regular (overed g) scalars classes clusters → Goes parser mode text scalars₀ classes₀ clusters₀ roomy regular r os.exit.now oc.exit.now on.exit.now
    unfolding turned put_by
    over_turned r os oc on v x ev es ec en er u o =
        subst (λ (r : Going). Goes parser mode text scalars₀ classes₀ clusters₀ roomy regular r os.exit.now oc.exit.now on.exit.now) (sym (er ∙ ap (turned g) ev))
        (subst (λ l. Goes parser mode text scalars₀ classes₀ clusters₀ roomy regular (overed g) l oc.exit.now on.exit.now) (sym (u.scalar ∙ ap (λ v. put_by v g.characters x os.entry.now) ev ∙ es))
        (subst (λ l. Goes parser mode text scalars₀ classes₀ clusters₀ roomy regular (overed g) scalars l on.exit.now) (sym (u.class ∙ ap (λ v. put_by v g.characters (v % 16) oc.entry.now) ev ∙ ec))
        (subst (λ l. Goes parser mode text scalars₀ classes₀ clusters₀ roomy regular (overed g) scalars classes l) (sym (u.cluster ∙ ap (λ v. put_by v g.characters (g.clusters + done_by v - 1) on.entry.now) ev ∙ en)) o)))

    -- a turn more
    pub goes_seen : (r : Going) (os oc on : Both (MutBor (List ℕ)) (MutBor (List ℕ))) → os.entry.now ≡ scalars → oc.entry.now ≡ classes → on.entry.now ≡ clusters → r ≡ turned g look.cell → Wrote g look.cell look.scalar os oc on
        → Goes parser mode text scalars₀ classes₀ clusters₀ roomy regular r os.exit.now oc.exit.now on.exit.now
    goes_seen r os oc on es ec en er u =
        by_test (crowds parser mode text g.row g.at g.characters g.stop)
        (λ e. over_turned r os oc on look.cell look.scalar (as_crowded e) es ec en er u (crowded_over parser mode text scalars₀ classes₀ clusters₀ roomy regular g scalars classes clusters w inside unfilled e))
        (λ e. goes_turn parser mode text scalars₀ classes₀ clusters₀ roomy regular g scalars classes clusters w look.cell look.scalar (as_looked e) r os oc on es ec en er u)

    -- the table gives the cluster up
    pub goes_left : (s : Stand) (u : Bool) → u ≡ given_up look.cell g.row → u ≡ true → s ≡ standing g → Running parser mode text scalars₀ classes₀ clusters₀ scalars classes clusters s.at s.clusters s.characters
    goes_left s u eu t e =
        by_test (crowds parser mode text g.row g.at g.characters g.stop)
        (λ f. absurd (omega (arith, crowded_row parser mode text g.row g.at g.characters g.stop f, eqb-true g.row 0 (both_of (eqb (done_by look.cell) 3) _ (sym eu ∙ t)).1)))
        (λ f. goes_leave parser mode text scalars₀ classes₀ clusters₀ roomy regular g scalars classes clusters w look.cell look.scalar (as_looked f) s u eu t e)

    pub seen_falls : (r : Going) (u : Bool) → u ≡ given_up look.cell g.row → u ≡ false → r ≡ turned g look.cell → left (length text) r < left (length text) g
    seen_falls r u eu t e = turn_falls (length text) g r look.cell u inside w.low eu t e

-- What each way to the cells cites: where a run is, and that the cell it tells is the table's. Assumes nothing.
use Prim.Native.Nat.{ℕ, ◌<◌}
use mathlib.Core.Path.{◌≡◌, refl, sym, ◌∙◌, ap, subst}
use mathlib.Core.Bool.{Bool, true, false, cond}
use mathlib.Core.List.{List}
use native.Mathlib.Omega.{arith}
use lib.ListN.{length}
use Rattle.classes.specs.declared.Mode.{Mode}
use Rattle.token.specs.Token.{scalar_of}
use Rattle.records.specs.Text.{Text, cell}
use Rattle.records.specs.declared.Parser.{Parser}
use Rattle.parse.specs.State.{token_at}
use Rattle.tables.specs.Symbols.{index_of, table_of, cell_at}
use Rattle.segment.specs.Calls.{joins}
use Rattle.segment.specs.Seen.{seen_in, seen_of, Even, EvenSeen, Shown}
use Rattle.stream.specs.declared.spots.Spot.{Spot}
use Rattle.stream.specs.declared.spots.Taken.{Taken}
use Rattle.segment.specs.Parted.{is_whole, ReadBy}
use Rattle.segment.specs.Ways.{crowds, over_cell, looked, Facing, Sees}
use Rattle.segment.specs.declared.direct.Seen.{Seen}
use Rattle.segment.specs.declared.going.Going.{Going}
use Rattle.segment.proofs.Reading.{seen_length}
use Rattle.segment.proofs.TableLaws.{cell_index}
use Rattle.segment.proofs.Loops.{rows_most}

pub seen_count : (s : Seen) → length s.scalars.now ≡ length (seen_of s)
seen_count s = sym (seen_length s.scalars.now s.kinds.now s.breaks.now s.categories.now s.emojis.now s.selectors.now)

pub facing_inside : (parser : Parser) (s : Seen) (g : Going) → Facing parser (seen_of s) g → g.at < length s.scalars.now
facing_inside parser s g f = omega (arith, f.inside, seen_count s)

module _ (parser : Parser) (text : List ℕ) (g : Going) (f : Facing parser text g) where
  pub facing_row : g.row < 64
  facing_row = omega (arith, f.row_in, rows_most parser)

  pub facing_index : (mode : Mode) (index : ℕ) (table : List ℕ) → table ≡ table_of parser → index ≡ index_of parser mode text g.at g.row → (index < length table) × (g.row < 64)
  facing_index mode index table et ei = (cell_index parser mode text g.at g.row index table f.regular f.inside f.row_in et ei, facing_row)

module _ (parser : Parser) (mode : Mode) (text : List ℕ) (g : Going) (t x : ℕ) (et : t ≡ token_at text g.at) (ex : x ≡ scalar_of t) where
  pub sees_cell : (v : ℕ) (j : Bool) (table : List ℕ) (index : ℕ) → crowds parser mode text g.row g.at g.characters g.stop ≡ false → j ≡ joins parser → table ≡ table_of parser
      → index ≡ index_of parser mode text g.at g.row → v ≡ cell_at j table x index g.row → Sees parser mode text g (record { cell = v; scalar = x })
  unfolding looked
  sees_cell v j table index u ej eb ei ev = record {
    cell = ev ∙ ap (λ j. cell_at j table x index g.row) ej ∙ ap (λ t. cell_at (joins parser) t x index g.row) eb
        ∙ ap (λ x. cell_at (joins parser) (table_of parser) x index g.row) (ex ∙ ap scalar_of et)
        ∙ ap (λ s. cell_at (joins parser) (table_of parser) (scalar_of (token_at text g.at)) s g.row) ei
        ∙ sym (ap (λ b. cond b over_cell (cell_at (joins parser) (table_of parser) (scalar_of (token_at text g.at)) (index_of parser mode text g.at g.row) g.row)) u);
    scalar = ex ∙ ap scalar_of et;
  }

  pub sees_over : crowds parser mode text g.row g.at g.characters g.stop ≡ true → Sees parser mode text g (record { cell = over_cell; scalar = x })
  unfolding looked
  sees_over u = record {
    cell = sym (ap (λ b. cond b over_cell (cell_at (joins parser) (table_of parser) (scalar_of (token_at text g.at)) (index_of parser mode text g.at g.row) g.row)) u);
    scalar = ex ∙ ap scalar_of et;
  }

-- what is shown of a text is the text's
module _ (t : Text) (kinds emojis : List ℕ) (s : Seen) (f : Shown t kinds emojis s) where
  shown_seen : seen_of s ≡ seen_in t.records.scalars kinds t.records.breaks t.records.categories emojis t.records.selectors
  shown_seen = rw (f.scalars, f.kinds, f.breaks, f.categories, f.emojis, f.selectors) refl

  pub shown_even : Even t.records.scalars kinds t.records.breaks t.records.categories emojis t.records.selectors → EvenSeen s
  shown_even w = rw (f.scalars, f.kinds, f.breaks, f.categories, f.emojis, f.selectors) w

  pub shown_long : length s.scalars.now ≡ length t.records.scalars
  shown_long = ap length f.scalars

  pub shown_read : (mode : Mode) (khmer : Bool) (d : ℕ) (m : Spot) (r : Taken) → ReadBy (is_whole khmer m.part (cell s.scalars.now m.index) d) mode khmer t (seen_of s) m r
      → ReadBy (is_whole khmer m.part (cell t.records.scalars m.index) d) mode khmer t (seen_in t.records.scalars kinds t.records.breaks t.records.categories emojis t.records.selectors) m r
  shown_read mode khmer d m r q =
      subst (λ l. ReadBy (is_whole khmer m.part (cell l m.index) d) mode khmer t (seen_in t.records.scalars kinds t.records.breaks t.records.categories emojis t.records.selectors) m r) f.scalars
      (subst (λ l. ReadBy (is_whole khmer m.part (cell s.scalars.now m.index) d) mode khmer t l m r) shown_seen q)

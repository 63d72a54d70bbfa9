-- What only private contracts need. A run by a table under way, on numbers: what one cell makes of it.
use Rattle.std.specs.Prelude.{ℕ, ◌+◌, ◌-◌, ◌/◌, ◌%◌, ◌<◌, ◌≤◌, ◌≡◌, Bool, true, false, cond, List, eqb, ltb, length, set}
use Rattle.std.specs.Borrow.{MutBor}
use denote.Triple.Both.{Both}
use Rattle.classes.specs.ClusterBreak.{CR, LF}
use Rattle.classes.specs.declared.Mode.{Mode}
use Rattle.classes.specs.declared.Mode.TheVariants.{Crate, Whole}
use Rattle.parse.specs.Rule.{is, next_is, is_emoji}
use Rattle.tables.specs.Symbols.{prepended_row}
use Rattle.segment.specs.declared.going.Going.{Going}

abbrev pub started : Going
started = record { at = 0; row = 0; clusters = 0; stop = 32; characters = 0 }

abbrev pub goes_on : Going → ℕ → Bool
goes_on g n = cond (eqb g.characters g.stop) true (ltb g.at n)

-- what a cell does: 0 a character, 1 the first character of a new cluster, 2 a note, 3 the cluster is over
abbrev pub done_by : ℕ → ℕ
done_by v = v / 16 % 4

-- over between two clusters: the table does not know the cluster that begins here
abbrev pub given_up : ℕ → ℕ → Bool
given_up v row = cond (eqb (done_by v) 3) (eqb row 0) false

-- a CR without the emoji mark, and an LF behind it
unfoldable pub newline_at : List ℕ → ℕ → Bool
newline_at text i = cond (is CR text i) (cond (is_emoji text i) false (next_is LF text i)) false

-- whether the next character is the last that the cluster has room for, in whole mode
unfoldable pub last_cell : Mode → ℕ → ℕ → Bool
last_cell Crate o stop = false
last_cell Whole o stop = eqb (o + 1) stop

-- the cluster under way ends before the token at its place: prepended characters, and no room for both CR and LF
unfoldable pub crowded_at : Mode → List ℕ → ℕ → ℕ → ℕ → ℕ → Bool
crowded_at mode text row i o stop = cond (eqb row prepended_row) (cond (last_cell mode o stop) (newline_at text i) false) false

unfoldable pub stop_of : ℕ → ℕ → ℕ → ℕ
stop_of what o stop = cond (eqb what 1) (o + 32) stop

-- the place of a full cluster, seen from the one after its last token
unfoldable pub back_of : Mode → ℕ → ℕ
back_of Crate i = i - 1
back_of Whole i = i

abbrev pub refilled : Mode → Going → Going
refilled mode g =
    record { at = back_of mode g.at; row = 0; clusters = g.clusters; stop = g.characters + 32; characters = g.characters }

abbrev pub overed : Going → Going
overed g = record { at = g.at; row = 0; clusters = g.clusters; stop = g.stop; characters = g.characters }

abbrev pub noted : Going → ℕ → Going
noted g v = record { at = g.at + 1; row = v / 64; clusters = g.clusters; stop = g.stop; characters = g.characters }

abbrev pub written : Going → ℕ → Going
written g v =
    record {
      at = g.at + 1;
      row = v / 64;
      clusters = g.clusters + done_by v;
      stop = stop_of (done_by v) g.characters g.stop;
      characters = g.characters + 1;
    }

unfoldable pub turned : Going → ℕ → Going
turned g v = cond (eqb (done_by v) 3) (overed g) (cond (eqb (done_by v) 2) (noted g v) (written g v))

-- a column after that
unfoldable pub put_by : ℕ → ℕ → ℕ → List ℕ → List ℕ
put_by v o x cells = cond (eqb (done_by v) 3) cells (cond (eqb (done_by v) 2) cells (set cells o x))

-- the three columns after that, of a character of scalar x
pub record Wrote (g : Going) (v x : ℕ) (os oc on : Both (MutBor (List ℕ)) (MutBor (List ℕ))) : Type 0 where
  pub scalar : os.exit.now ≡ put_by v g.characters x os.entry.now
  pub class : oc.exit.now ≡ put_by v g.characters (v % 16) oc.entry.now
  pub cluster : on.exit.now ≡ put_by v g.characters (g.clusters + done_by v - 1) on.entry.now

-- room for a character more
pub record Writable (g : Going) (scalars classes clusters : List ℕ) : Type 0 where
  pub at : g.at ≤ 65535
  pub few : g.clusters < 65535
  pub characters : g.characters ≤ 65535
  pub scalar : g.characters < length scalars
  pub class : g.characters < length classes
  pub cluster : g.characters < length clusters

-- The lent text: eighteen columns, "fourteen with a cell for each record, one record a character, and four with a cell for each part"
-- (SCOPE 2.1).
use Rattle.std.specs.Prelude.{ℕ, List, [], ◌∷◌, length, get_or}
use Rattle.records.specs.declared.Columns.{Columns}
use Rattle.records.specs.declared.Row.{Row}
use Rattle.records.specs.declared.PartRow.{PartRow}

pub record Records : Type 0 where
  pub scalars : List ℕ
  pub breaks : List ℕ
  pub uses : List ℕ
  pub myanmars : List ℕ
  pub categories : List ℕ
  pub words : List ℕ
  -- the emoji marks of the simple, the Myanmar and the complex parser
  pub semojis : List ℕ
  pub memojis : List ℕ
  pub cemojis : List ℕ
  pub pictographs : List ℕ
  pub selectors : List ℕ
  pub decomposes : List ℕ
  pub firsts : List ℕ
  pub counts : List ℕ

pub record Parts : Type 0 where
  pub pscalars : List ℕ
  pub pbreaks : List ℕ
  pub puses : List ℕ
  pub pcategories : List ℕ

pub record Text : Type 0 where
  pub records : Records
  pub parts : Parts

-- the text of the 18 columns, in the order in which every function takes them
abbrev pub text_of : List ℕ → List ℕ → List ℕ → List ℕ → List ℕ → List ℕ → List ℕ → List ℕ → List ℕ → List ℕ → List ℕ → List ℕ → List ℕ → List ℕ → List ℕ → List ℕ → List ℕ → List ℕ → Text
text_of scalars breaks uses myanmars categories words semojis memojis cemojis pictographs selectors decomposes firsts counts pscalars pbreaks puses pcategories =
    record {
      records = record {
        scalars = scalars;
        breaks = breaks;
        uses = uses;
        myanmars = myanmars;
        categories = categories;
        words = words;
        semojis = semojis;
        memojis = memojis;
        cemojis = cemojis;
        pictographs = pictographs;
        selectors = selectors;
        decomposes = decomposes;
        firsts = firsts;
        counts = counts;
      };
      parts = record { pscalars = pscalars; pbreaks = pbreaks; puses = puses; pcategories = pcategories };
    }

-- the text that the columns of a call lend
abbrev pub lent : Columns → Text
lent c =
    text_of c.scalars.now c.breaks.now c.uses.now c.myanmars.now c.categories.now c.words.now c.semojis.now c.memojis.now c.cemojis.now
    c.pictographs.now c.selectors.now c.decomposes.now c.firsts.now c.counts.now c.pscalars.now c.pbreaks.now c.puses.now c.pcategories.now

-- what stands at an index of a column
abbrev pub cell : List ℕ → ℕ → ℕ
cell column i = get_or column i 0

abbrev pub record_lengths : Records → List ℕ
record_lengths r =
    length r.scalars ∷ length r.breaks ∷ length r.uses ∷ length r.myanmars ∷ length r.categories
    ∷ length r.words ∷ length r.semojis ∷ length r.memojis ∷ length r.cemojis ∷ length r.pictographs
    ∷ length r.selectors ∷ length r.decomposes ∷ length r.firsts ∷ length r.counts ∷ []

abbrev pub part_lengths : Parts → List ℕ
part_lengths p = length p.pscalars ∷ length p.pbreaks ∷ length p.puses ∷ length p.pcategories ∷ []

-- the cells of one record, and of one part
abbrev pub row_of : Records → ℕ → Row
row_of r i =
    record {
      scalar = cell r.scalars i;
      breaks = cell r.breaks i;
      uses = cell r.uses i;
      myanmar = cell r.myanmars i;
      category = cell r.categories i;
      word = cell r.words i;
      semoji = cell r.semojis i;
      memoji = cell r.memojis i;
      cemoji = cell r.cemojis i;
      pictograph = cell r.pictographs i;
      selector = cell r.selectors i;
      decompose = cell r.decomposes i;
      first = cell r.firsts i;
      count = cell r.counts i;
    }

abbrev pub part_of : Parts → ℕ → PartRow
part_of p i =
    record
    { scalar = cell p.pscalars i; breaks = cell p.pbreaks i; uses = cell p.puses i; category = cell p.pcategories i }

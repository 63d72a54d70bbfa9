-- Where the simple parser's clusters and the word run's words are not those of UAX #29: for each rule that they do not follow a smallest
-- text, none of them plain, with the places where they start and those where the boundaries of the GB or Wb rules stand. And a few
-- plain texts, where they are the same.
use Rattle.std.specs.Prelude.{ℕ, Bool, true, false, not, ◌&&◌, ◌||◌, List, [], ◌∷◌, ◌++◌, map, length, replicate, eqb, Ok}
use Rattle.classes.specs.ClusterBreak.{XX, CN, CR, LF, L, «V», T, LV, LVT, RI, EX, SM, ZWJ, PP}
use Rattle.classes.specs.WordBreak as W
use Rattle.classes.specs.declared.Mode.TheVariants.{Crate, Whole}
use Rattle.records.specs.Text.{Text, text_of, cell}
use Rattle.records.specs.Refusals.{verdict, word_verdict}
use Rattle.records.specs.declared.Parser.TheVariants.{Simple}
use Rattle.records.specs.Verdict.{Verdict}
use Rattle.words.specs.Run.{answers}
use Rattle.uax29.specs.Clusters.{places_from, boundaries}
use Rattle.uax29.specs.Words as Wb
use Rattle.plain.specs.Clusters.{is_plain, cluster_starts}
use Rattle.plain.specs.Words.{is_plain_words}

-- a character: its cluster break and its emoji mark, or its word class and its pictograph mark
abbrev Character : Type 0
Character = ℕ × ℕ

abbrev no : ℕ → Character
no kind = (kind, 0)

abbrev emoji : ℕ → Character
emoji kind = (kind, 1)

-- the text of such characters; all other cells are those of U+0061
abbrev text_with : List Character → Text
text_with cs =
    let zeros : List ℕ = map (λ (c : Character). 0) cs in
    text_of (map {B = ℕ} (λ (c : Character). 0x61) cs) (map (λ (c : Character). c.0) cs) zeros zeros zeros zeros
    (map (λ (c : Character). c.1) cs) zeros zeros zeros zeros zeros zeros zeros [] [] [] []

-- what a text is divided into
pub data Into : Type 0 where
  Clusters : Into
  Words : Into

abbrev is_words : Into → Bool
is_words Clusters = false
is_words Words = true

-- a text, and the places told of it; the word run has no modes
pub record Case : Type 0 where
  pub into : Into
  pub text : List Character
  pub crate : List ℕ
  pub whole : List ℕ
  pub annex : List ℕ

-- the same in both modes
abbrev clusters : List Character → List ℕ → List ℕ → Case
clusters text port annex = record { into = Clusters; text = text; crate = port; whole = port; annex = annex }

abbrev words : List Character → List ℕ → List ℕ → Case
words text port annex = record { into = Words; text = text; crate = port; whole = port; annex = annex }

abbrev pub differences : List Case
differences =
    -- GB4: an extension stays with a control
    clusters (no CN ∷ no EX ∷ []) (0 ∷ []) (0 ∷ 1 ∷ [])
    ∷ clusters (no CR ∷ no SM ∷ []) (0 ∷ []) (0 ∷ 1 ∷ [])
    ∷ clusters (no LF ∷ no ZWJ ∷ []) (0 ∷ []) (0 ∷ 1 ∷ [])
    -- GB5: a control stays with a prepended character
    ∷ clusters (no PP ∷ no CN ∷ []) (0 ∷ []) (0 ∷ 1 ∷ [])
    -- GB6, GB7, GB8: Hangul is cut after two
    ∷ clusters (no L ∷ no L ∷ no «V» ∷ []) (0 ∷ 2 ∷ []) (0 ∷ [])
    ∷ clusters (no L ∷ no «V» ∷ no «V» ∷ []) (0 ∷ 2 ∷ []) (0 ∷ [])
    ∷ clusters (no L ∷ no «V» ∷ no T ∷ []) (0 ∷ 2 ∷ []) (0 ∷ [])
    ∷ clusters (no L ∷ no LV ∷ no T ∷ []) (0 ∷ 2 ∷ []) (0 ∷ [])
    ∷ clusters (no «V» ∷ no «V» ∷ no T ∷ []) (0 ∷ 2 ∷ []) (0 ∷ [])
    ∷ clusters (no LV ∷ no T ∷ no T ∷ []) (0 ∷ 2 ∷ []) (0 ∷ [])
    ∷ clusters (no LVT ∷ no T ∷ no T ∷ []) (0 ∷ 2 ∷ []) (0 ∷ [])
    ∷ clusters (no T ∷ no T ∷ no T ∷ []) (0 ∷ 2 ∷ []) (0 ∷ [])
    -- GB12, GB13: one RI a cluster
    ∷ clusters (no RI ∷ no RI ∷ []) (0 ∷ 1 ∷ []) (0 ∷ [])
    ∷ clusters (no XX ∷ no RI ∷ no RI ∷ []) (0 ∷ 1 ∷ 2 ∷ []) (0 ∷ 1 ∷ [])
    -- the emoji mark on another cluster break than XX: GB3, GB6, GB5, GB9b, GB11, GB11
    ∷ clusters (emoji CR ∷ no LF ∷ []) (0 ∷ 1 ∷ []) (0 ∷ [])
    ∷ clusters (emoji L ∷ no «V» ∷ []) (0 ∷ 1 ∷ []) (0 ∷ [])
    ∷ clusters (emoji XX ∷ no ZWJ ∷ emoji CN ∷ []) (0 ∷ []) (0 ∷ 2 ∷ [])
    ∷ clusters (emoji XX ∷ no ZWJ ∷ emoji PP ∷ no XX ∷ []) (0 ∷ 3 ∷ []) (0 ∷ [])
    ∷ clusters (emoji PP ∷ no ZWJ ∷ emoji XX ∷ []) (0 ∷ 2 ∷ []) (0 ∷ [])
    ∷ clusters (no XX ∷ emoji EX ∷ no ZWJ ∷ emoji XX ∷ []) (0 ∷ 3 ∷ []) (0 ∷ [])
    -- at most 32 characters: P08, and one more for whole mode
    ∷ record { into = Clusters; text = no XX ∷ replicate 31 (no EX); crate = 0 ∷ 31 ∷ []; whole = 0 ∷ []; annex = 0 ∷ [] }
    ∷ record { into = Clusters; text = no XX ∷ replicate 32 (no EX); crate = 0 ∷ 31 ∷ []; whole = 0 ∷ 32 ∷ []; annex = 0 ∷ [] }
    -- WB3c: emoji ZWJ emoji is split as words (W1, P15), and after every other class too
    ∷ words (emoji W.Other ∷ no W.ZWJ ∷ emoji W.Other ∷ []) (0 ∷ 2 ∷ []) (0 ∷ [])
    ∷ words (no W.ALetter ∷ no W.ZWJ ∷ emoji W.Other ∷ []) (0 ∷ 2 ∷ []) (0 ∷ [])
    -- WB3c: a ZWJ at the start or after a newline joins a pictograph over those that WB4 ignores (W2)
    ∷ words (no W.ZWJ ∷ no W.Extend ∷ emoji W.Other ∷ []) (0 ∷ []) (0 ∷ 2 ∷ [])
    ∷ words (no W.LF ∷ no W.ZWJ ∷ no W.Extend ∷ emoji W.Other ∷ []) (0 ∷ 1 ∷ []) (0 ∷ 1 ∷ 3 ∷ [])
    -- WB3d: spaces are joined over them (W3)
    ∷ words (no W.WSegSpace ∷ no W.Extend ∷ no W.WSegSpace ∷ []) (0 ∷ []) (0 ∷ 2 ∷ [])
    -- WB6 and WB7, WB7b and WB7c, WB11 and WB12: the look-ahead does not pass Extend, FO, ZWJ (W4)
    ∷ words (no W.ALetter ∷ no W.MidNumLet ∷ no W.Extend ∷ no W.ALetter ∷ []) (0 ∷ 1 ∷ 3 ∷ []) (0 ∷ [])
    ∷ words (no W.HL ∷ no W.SQ ∷ no W.Extend ∷ no W.ALetter ∷ []) (0 ∷ 3 ∷ []) (0 ∷ [])
    ∷ words (no W.HL ∷ no W.DQ ∷ no W.FO ∷ no W.HL ∷ []) (0 ∷ 1 ∷ 3 ∷ []) (0 ∷ [])
    ∷ words (no W.NU ∷ no W.MN ∷ no W.ZWJ ∷ no W.NU ∷ []) (0 ∷ 1 ∷ 3 ∷ []) (0 ∷ [])
    -- WB15, WB16: pairs of RI begin anew after them (W5), after a newline one RI more is joined (W6, P16), and one that WB3c joins is
    -- not counted (W7)
    ∷ words (no W.RI ∷ no W.Extend ∷ no W.RI ∷ no W.RI ∷ []) (0 ∷ []) (0 ∷ 3 ∷ [])
    ∷ words (no W.RI ∷ no W.RI ∷ no W.Extend ∷ no W.RI ∷ []) (0 ∷ []) (0 ∷ 3 ∷ [])
    ∷ words (no W.LF ∷ no W.RI ∷ no W.RI ∷ no W.RI ∷ []) (0 ∷ 1 ∷ []) (0 ∷ 1 ∷ 3 ∷ [])
    ∷ words (no W.ZWJ ∷ emoji W.RI ∷ no W.RI ∷ no W.RI ∷ []) (0 ∷ []) (0 ∷ 3 ∷ [])
    ∷ []

-- P02, a cluster of 31 as P07, the break of P06, and all that a plain text may have; P14, P16 without the LF, and every class that a plain
-- word text may have
abbrev pub plains : List Case
plains =
    clusters [] [] []
    ∷ clusters (no CR ∷ no LF ∷ []) (0 ∷ []) (0 ∷ [])
    ∷ clusters (no XX ∷ replicate 30 (no EX)) (0 ∷ []) (0 ∷ [])
    ∷ clusters (emoji XX ∷ no EX ∷ no ZWJ ∷ emoji XX ∷ []) (0 ∷ []) (0 ∷ [])
    ∷ clusters (no ZWJ ∷ emoji XX ∷ no SM ∷ no ZWJ ∷ emoji XX ∷ no LF ∷ no CR ∷ no XX ∷ no ZWJ ∷ no XX ∷ no CN ∷ [])
    (0 ∷ 1 ∷ 4 ∷ 5 ∷ 6 ∷ 7 ∷ 9 ∷ 10 ∷ []) (0 ∷ 1 ∷ 4 ∷ 5 ∷ 6 ∷ 7 ∷ 9 ∷ 10 ∷ [])
    ∷ words [] [] []
    ∷ words (no W.ALetter ∷ no W.MidNumLet ∷ no W.ALetter ∷ []) (0 ∷ []) (0 ∷ [])
    ∷ words (no W.RI ∷ no W.RI ∷ no W.RI ∷ []) (0 ∷ 2 ∷ []) (0 ∷ 2 ∷ [])
    ∷ words (no W.CR ∷ no W.LF ∷ no W.HL ∷ no W.DQ ∷ no W.HL ∷ no W.EX ∷ no W.NU ∷ no W.WSegSpace ∷ no W.WSegSpace ∷ no W.RI ∷ [])
    (0 ∷ 2 ∷ 7 ∷ 9 ∷ []) (0 ∷ 2 ∷ 7 ∷ 9 ∷ [])
    ∷ words (no W.Other ∷ no W.NL ∷ no W.KA ∷ no W.KA ∷ no W.EX ∷ no W.ALetter ∷ no W.ML ∷ no W.HL ∷ no W.SQ ∷ no W.ALetter ∷ no W.NU ∷ no W.MN ∷ no W.NU ∷ [])
    (0 ∷ 1 ∷ 2 ∷ []) (0 ∷ 1 ∷ 2 ∷ [])
    ∷ []

-- whether a word class stands in a plain text of the table; Extend, FO and ZWJ stand in none
abbrev stands : ℕ → List Character → Bool
stands k [] = false
stands k (c ∷ cs) = eqb c.0 k || stands k cs

abbrev stands_in : ℕ → Case → Bool
stands_in k c = is_words c.into && stands k c.text

abbrev stands_in_any : ℕ → List Case → Bool
stands_in_any k [] = false
stands_in_any k (c ∷ cs) = stands_in k c || stands_in_any k cs

abbrev pub standing : List Bool
standing =
    map (λ k. stands_in_any k plains)
    (W.Other ∷ W.CR ∷ W.LF ∷ W.NL ∷ W.WSegSpace ∷ W.ALetter ∷ W.HL ∷ W.ML ∷ W.MidNumLet ∷ W.MN ∷ W.NU ∷ W.SQ ∷ W.DQ ∷ W.KA ∷ W.EX ∷ W.RI ∷ [])

-- a text that is not plain, where they are the same all the same: the run joins it by WB5, the annex by WB3c
abbrev pub alikes : List Case
alikes = words (no W.ALetter ∷ no W.ZWJ ∷ emoji W.ALetter ∷ []) (0 ∷ []) (0 ∷ []) ∷ []

-- what is told of a text, and what the definitions give: the check's verdict, whether it is plain in either mode, the places in either
-- mode and by the annex, and whether these differ
abbrev pub Facts : Type 0
Facts = Verdict × Bool × Bool × List ℕ × List ℕ × List ℕ × Bool

abbrev told : Bool → Bool → Case → Facts
told plain differ c = ((Ok tt), plain, plain, c.crate, c.whole, c.annex, differ)

abbrev same : List ℕ → List ℕ → Bool
same [] [] = true
same [] (y ∷ ys) = false
same (x ∷ xs) [] = false
same (x ∷ xs) (y ∷ ys) = eqb x y && same xs ys

abbrev found : Verdict → Bool → Bool → List ℕ → List ℕ → List ℕ → Facts
found verdict plain plain' crate whole annex = (verdict, plain, plain', crate, whole, annex, not (same crate annex && same whole annex))

-- the places of the ones in a column of answers
abbrev places_of : List ℕ → List Character → List ℕ
places_of bits text = places_from (λ i. eqb (cell bits i) 1) 0 (length text)

abbrev given_of : Into → List Character → Facts
given_of Clusters text =
    let t = text_with text in
    found (verdict Simple t) (is_plain Crate t) (is_plain Whole t) (cluster_starts Crate t) (cluster_starts Whole t)
    (boundaries t.records.breaks t.records.semojis)
given_of Words text =
    let classes = map {B = ℕ} (λ (c : Character). c.0) text in
    let marks = map {B = ℕ} (λ (c : Character). c.1) text in
    let starts = places_of (answers classes marks (length text)) text in
    found (word_verdict classes marks) (is_plain_words classes) (is_plain_words classes) starts starts
    (places_of (Wb.boundaries classes marks (length text)) text)

abbrev given : Case → Facts
given c = given_of c.into c.text

abbrev pub all_given : List Facts
all_given = map given differences ++ map given plains ++ map given alikes

abbrev pub all_told : List Facts
all_told = map (told false true) differences ++ map (told true false) plains ++ map (told false false) alikes

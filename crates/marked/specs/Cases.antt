-- The sixteen marked cases of SCOPE 9.1 as one table: texts, and what the calls answer on each, from the start to the end.
use Rattle.std.specs.Prelude.{ℕ, zero, suc, ◌+◌, ◌-◌, true, false, List, [], ◌∷◌, ◌++◌, map, length, replicate}
use Rattle.classes.specs.Category as Category
use Rattle.classes.specs.ClusterBreak as Break
use Rattle.classes.specs.MyanmarClass as Myanmar-class
use Rattle.classes.specs.Scalar.{CGJ, NGA, ASAT, VIRAMA, KHMER_E, KHMER_OE}
use Rattle.classes.specs.Scalar as Scalar
use Rattle.classes.specs.UseClass as Use
use Rattle.classes.specs.WordBreak as Word
use Rattle.classes.specs.declared.Mode.{Mode}
use Rattle.classes.specs.declared.Mode.TheVariants.{Crate, Whole}
use Rattle.classes.specs.declared.Shape.{Shape}
use Rattle.classes.specs.declared.Shape.TheVariants.{Base, Mark, Control, Kinzi, VPre, Zwj, Other}
use Rattle.records.specs.Text.{Text, text_of}
use Rattle.records.specs.declared.Parser.{Parser}
use Rattle.records.specs.declared.Parser.TheVariants.{Simple, Myanmar, Complex, Khmer}
use Rattle.stream.specs.Stream.{stream_of}
use Rattle.parse.specs.declared.Emoji.TheVariants.{None as NoEmoji, Color}
use Rattle.parse.specs.declared.Info.{Info}
use Rattle.parse.specs.declared.Pushed.{Pushed}
use Rattle.parse.specs.declared.Space.{Space}
use Rattle.parse.specs.declared.Space.TheVariants.{None as NoSpace, Newline, From}
use Rattle.parse.specs.State.{nothing, no_info, empty_cluster}
use Rattle.segment.specs.Calls.{next_of}
use Rattle.segment.specs.declared.Answer.{Answer}
use Rattle.segment.specs.declared.Segmenter.{Segmenter}
use Rattle.segment.specs.declared.What.{What}
use Rattle.segment.specs.declared.What.TheVariants.{Found, Over, Refused}
use Rattle.words.specs.Run.{run_cells}

-- what a case says of a record: its scalar, its class for the parser of the case, whether it is an emoji, whether it is marked decompose,
-- its count of parts
pub record Character : Type 0 where
  pub scalar : ℕ
  pub class : ℕ
  pub emoji : ℕ
  pub decompose : ℕ
  pub count : ℕ

abbrev pub character : ℕ → ℕ → Character
character scalar class = record { scalar = scalar; class = class; emoji = 0; decompose = 0; count = 0 }

abbrev pub emoji : ℕ → Character
emoji scalar = record { scalar = scalar; class = Break.XX; emoji = 1; decompose = 0; count = 0 }

abbrev pub split : ℕ → ℕ → Character
split scalar class = record { scalar = scalar; class = class; emoji = 0; decompose = 0; count = 1 }

abbrev pub alone : ℕ → ℕ → Character
alone scalar class = record { scalar = scalar; class = class; emoji = 0; decompose = 1; count = 0 }

-- a cell for each character, all the same
abbrev pub all : List Character → ℕ → List ℕ
all characters n = map (λ _. n) characters

-- the three columns of classes: the parser's own, the others at the class that no rule names
abbrev pub breaks_for : Parser → List Character → List ℕ
breaks_for Simple characters = map (λ (s : Character). s.class) characters
breaks_for Myanmar characters = all characters Break.XX
breaks_for Complex characters = all characters Break.XX
breaks_for Khmer characters = all characters Break.XX

abbrev pub uses_for : Parser → List Character → List ℕ
uses_for Simple characters = all characters Use.REST
uses_for Myanmar characters = all characters Use.REST
uses_for Complex characters = map (λ (s : Character). s.class) characters
uses_for Khmer characters = map (λ (s : Character). s.class) characters

abbrev pub myanmars_for : Parser → List Character → List ℕ
myanmars_for Simple characters = all characters Myanmar-class.REST
myanmars_for Myanmar characters = map (λ (s : Character). s.class) characters
myanmars_for Complex characters = all characters Myanmar-class.REST
myanmars_for Khmer characters = all characters Myanmar-class.REST

-- the lent text of records and parts
unfoldable pub text_for : Parser → List Character → List Character → Text
text_for parser characters parts =
    text_of (map (λ (s : Character). s.scalar) characters) (breaks_for parser characters) (uses_for parser characters) (myanmars_for parser characters)
    (all characters Category.Other) (all characters Word.Other)
    (map (λ (s : Character). s.emoji) characters) (all characters 0) (all characters 0) (all characters 0) (all characters 0)
    (map (λ (s : Character). s.decompose) characters) (all characters 0) (map (λ (s : Character). s.count) characters)
    (map (λ (s : Character). s.scalar) parts) (all parts Break.XX) (map (λ (s : Character). s.class) parts) (all parts Category.Other)

abbrev pub standing : Parser → Mode → ℕ → Segmenter
standing parser mode at = record { parser = parser; mode = mode; place = record { at = at } }

-- after a cluster comes another call; the end's answer and a refusal are the last
abbrev pub further : What → List Answer → List Answer
further Found later = later
further Over later = []
further (Refused r) later = []

-- the answers of the stepping calls, each from the state that the one before handed back
unfoldable pub stepping : ℕ → Segmenter → Text → List Answer
stepping zero s t = []
stepping (suc n) s t =
    let a = next_of s t in
    let later = stepping n a.state t in
    a ∷ further a.what later

-- what a case tells of a call: its characters, its info, the next place
pub record Call : Type 0 where
  pub chars : List Pushed
  pub info : Info
  pub next : ℕ

abbrev pub call : List Pushed → Info → ℕ → Call
call chars info next = record { chars = chars; info = info; next = next }

-- the calls in full, and the end's answer
unfoldable pub answers_of : Parser → Mode → ℕ → List Call → List Answer
answers_of parser mode at [] = record { state = standing parser mode at; passed = 0; what = Over; cluster = empty_cluster } ∷ []
answers_of parser mode at (c ∷ cs) =
    record {
      state = standing parser mode c.next;
      passed = c.next - at;
      what = Found;
      cluster = record { len = length c.chars; chars = c.chars ++ replicate (32 - length c.chars) nothing; info = c.info };
    }
    ∷ answers_of parser mode c.next cs

-- a scalar, its shape class, the index of its record; nothing noted after it
abbrev pub char : ℕ → Shape → ℕ → Pushed
char scalar class index = record { scalar = scalar; index = index; noted = 0; class = class }

-- the same character of n records, from an index on
unfoldable pub chars : ℕ → ℕ → Shape → ℕ → List Pushed
chars zero scalar class index = []
chars (suc n) scalar class index = char scalar class index ∷ chars n scalar class (index + 1)

abbrev pub spaced : Space → Info
spaced space = record { emoji = NoEmoji; space = space; broken = false; normalise = false }

abbrev pub broken : Info
broken = record { emoji = NoEmoji; space = NoSpace; broken = true; normalise = false }

-- what a U+0301 makes of it
abbrev pub normal : Info → Info
normal i = record { emoji = i.emoji; space = i.space; broken = i.broken; normalise = true }

-- a text of a parser with its calls in crate mode and in whole mode; or two columns of words with the answers
pub data Case : Type 0 where
  clusters : Parser → List Character → List Character → List Call → List Call → Case
  words : List ℕ → List ℕ → List ℕ → Case

-- the same in both modes, and no parts
abbrev pub both : Parser → List Character → List Call → Case
both parser characters calls = clusters parser characters [] calls calls

-- a word text without pictographs
abbrev pub plain : List ℕ → List ℕ → Case
plain classes told = words classes (map (λ _. 0) classes) told

abbrev pub label : List Character
label = character NGA Myanmar-class.C ∷ character ASAT Myanmar-class.As ∷ character VIRAMA Myanmar-class.H ∷ []

abbrev pub kinzi : List Pushed
kinzi = char NGA Kinzi 0 ∷ char ASAT Kinzi 1 ∷ char VIRAMA Kinzi 2 ∷ []

abbrev pub accented : ℕ → List Character
accented n = character 0x61 Break.XX ∷ replicate n (character 0x301 Break.EX)

abbrev pub accented_chars : ℕ → List Pushed
accented_chars n = char 0x61 Base 0 ∷ chars n 0x301 Mark 1

abbrev pub flag : ℕ → Character
flag scalar = character scalar Break.RI

-- P01 simple, empty: the end, at once
abbrev pub P01 : List Case
P01 = both Simple [] [] ∷ []

-- P02 simple, CR LF: Control Control; newline
abbrev pub P02 : List Case
P02 =
    both Simple (character Scalar.CR Break.CR ∷ character Scalar.LF Break.LF ∷ [])
    (call (char Scalar.CR Control 0 ∷ char Scalar.LF Control 1 ∷ []) (spaced Newline) 2 ∷ [])
    ∷ []

-- P03 simple, LF U+0301: Control Mark; newline, normalising forced
abbrev pub P03 : List Case
P03 =
    both Simple (character Scalar.LF Break.LF ∷ character 0x301 Break.EX ∷ [])
    (call (char Scalar.LF Control 0 ∷ char 0x301 Mark 1 ∷ []) (normal (spaced Newline)) 2 ∷ [])
    ∷ []

-- P04 simple, RI RI: Base, then Base
abbrev pub P04 : List Case
P04 =
    both Simple (flag 0x1F1E6 ∷ flag 0x1F1E7 ∷ [])
    (call (char 0x1F1E6 Base 0 ∷ []) no_info 1 ∷ call (char 0x1F1E7 Base 1 ∷ []) no_info 2 ∷ [])
    ∷ []

-- P05 simple, L V T: Base Base, then Base
abbrev pub P05 : List Case
P05 =
    both Simple (character 0x1100 Break.L ∷ character 0x1161 Break.«V» ∷ character 0x11A8 Break.T ∷ [])
    (call (char 0x1100 Base 0 ∷ char 0x1161 Base 1 ∷ []) no_info 2 ∷ call (char 0x11A8 Base 2 ∷ []) no_info 3 ∷ [])
    ∷ []

-- P06 simple, emoji U+FE0F (EX) ZWJ emoji: Base with one noted, Zwj, Base; Color
abbrev pub P06 : List Case
P06 =
    both Simple (emoji 0x1F468 ∷ character 0xFE0F Break.EX ∷ character 0x200D Break.ZWJ ∷ emoji 0x1F33E ∷ [])
    (call (record { scalar = 0x1F468; index = 0; noted = 1; class = Base } ∷ char 0x200D Zwj 2 ∷ char 0x1F33E Base 3 ∷ [])
    (record { emoji = Color; space = NoSpace; broken = false; normalise = false }) 4
    ∷ [])
    ∷ []

-- P07 simple, XX 30 × U+0301: one cluster, 31 characters
abbrev pub P07 : List Case
P07 = both Simple (accented 30) (call (accented_chars 30) (normal (spaced (From 0x61))) 31 ∷ []) ∷ []

-- P08 simple, XX 31 × U+0301: crate 32 characters, then Mark, broken; whole 32 characters
abbrev pub P08 : List Case
P08 =
    clusters Simple (accented 31) []
    (call (accented_chars 31) (normal (spaced (From 0x61))) 31 ∷ call (char 0x301 Mark 31 ∷ []) (normal broken) 32 ∷ [])
    (call (accented_chars 31) (normal (spaced (From 0x61))) 32 ∷ [])
    ∷ []

-- P09 Myanmar, U+1004 (C) U+103A (As) U+1039 (H): crate Kinzi Kinzi Kinzi Other, broken; whole Kinzi Kinzi Kinzi
abbrev pub P09 : List Case
P09 =
    clusters Myanmar label []
    (call (kinzi ++ (char VIRAMA Other 2 ∷ [])) broken 3 ∷ [])
    (call kinzi no_info 3 ∷ [])
    ∷ []

-- P10 Myanmar, P09, then U+1000 (C): Kinzi Kinzi Kinzi Base
abbrev pub P10 : List Case
P10 = both Myanmar (label ++ (character 0x1000 Myanmar-class.C ∷ [])) (call (kinzi ++ (char 0x1000 Base 3 ∷ [])) no_info 4 ∷ []) ∷ []

-- P11 Myanmar, P09, then 29 × U+034F (rest): crate 32 characters, then Other, broken; whole 32 characters
abbrev pub P11 : List Case
P11 =
    clusters Myanmar (label ++ replicate 29 (character CGJ Myanmar-class.REST)) []
    (call (kinzi ++ chars 29 CGJ Other 3) no_info 31 ∷ call (char CGJ Other 31 ∷ []) broken 32 ∷ [])
    (call (kinzi ++ chars 29 CGJ Other 3) no_info 32 ∷ [])
    ∷ []

-- P12 Khmer, U+1780 (B) U+17BE (VAbv), its part U+17C1 (VPre): Base VPre Other
abbrev pub P12 : List Case
P12 =
    let told = call (char 0x1780 Base 0 ∷ char KHMER_E VPre 1 ∷ char KHMER_OE Other 1 ∷ []) no_info 3 ∷ [] in
    clusters Khmer (character 0x1780 Use.B ∷ split KHMER_OE Use.VAbv ∷ []) (character KHMER_E Use.VPre ∷ []) told told ∷ []

-- P13 complex, CR U+034F LF, all of class O: Control Other Control; newline
abbrev pub P13 : List Case
P13 =
    both Complex (character Scalar.CR Use.O ∷ character CGJ Use.O ∷ character Scalar.LF Use.O ∷ [])
    (call (char Scalar.CR Control 0 ∷ char CGJ Other 1 ∷ char Scalar.LF Control 2 ∷ []) (spaced Newline) 3 ∷ [])
    ∷ []

-- P14 words, ALetter MidNumLet ALetter: 1 0 0
abbrev pub P14 : List Case
P14 = plain (Word.ALetter ∷ Word.MidNumLet ∷ Word.ALetter ∷ []) (1 ∷ 0 ∷ 0 ∷ []) ∷ []

-- P15 words, Other ZWJ Other, both Others pictographs: 1 0 1, whatever the mark of the ZWJ
abbrev pub P15 : List Case
P15 =
    words (Word.Other ∷ Word.ZWJ ∷ Word.Other ∷ []) (1 ∷ 0 ∷ 1 ∷ []) (1 ∷ 0 ∷ 1 ∷ [])
    ∷ words (Word.Other ∷ Word.ZWJ ∷ Word.Other ∷ []) (1 ∷ 1 ∷ 1 ∷ []) (1 ∷ 0 ∷ 1 ∷ [])
    ∷ []

-- P16 words, LF RI RI RI: 1 1 0 0; RI RI RI: 1 0 1
abbrev pub P16 : List Case
P16 =
    plain (Word.LF ∷ Word.RI ∷ Word.RI ∷ Word.RI ∷ []) (1 ∷ 1 ∷ 0 ∷ 0 ∷ [])
    ∷ plain (Word.RI ∷ Word.RI ∷ Word.RI ∷ []) (1 ∷ 0 ∷ 1 ∷ [])
    ∷ []

abbrev pub table : List (List Case)
table = P01 ∷ P02 ∷ P03 ∷ P04 ∷ P05 ∷ P06 ∷ P07 ∷ P08 ∷ P09 ∷ P10 ∷ P11 ∷ P12 ∷ P13 ∷ P14 ∷ P15 ∷ P16 ∷ []

-- every answer in both modes; every cell of the column lent to a word run
pub record Outcome : Type 0 where
  pub crate : List Answer
  pub whole : List Answer
  pub cells : List ℕ

abbrev pub walked : Parser → Mode → Text → List Answer
walked parser mode t = stepping (length (stream_of mode parser t) + 1) (standing parser mode 0) t

-- what the definitions of the public functions give; the cells lent to a word run hold neither 0 nor 1 before
unfoldable pub given : Case → Outcome
given (clusters parser characters parts crate whole) =
    let t = text_for parser characters parts in
    record { crate = walked parser Crate t; whole = walked parser Whole t; cells = [] }
given (words classes pictographs answers) = record { crate = []; whole = []; cells = run_cells classes pictographs (map (λ _. 7) classes) }

-- what SCOPE 9.1 tells
unfoldable pub told : Case → Outcome
told (clusters parser characters parts crate whole) =
    record { crate = answers_of parser Crate 0 crate; whole = answers_of parser Whole 0 whole; cells = [] }
told (words classes pictographs answers) = record { crate = []; whole = []; cells = answers }

-- two records that no parser puts into one cluster: those of P04, two consonants, two bases
abbrev pub pair : Parser → Text
pair Simple = text_for Simple (flag 0x1F1E6 ∷ flag 0x1F1E7 ∷ []) []
pair Myanmar = text_for Myanmar (character 0x1000 Myanmar-class.C ∷ character 0x1000 Myanmar-class.C ∷ []) []
pair Complex = text_for Complex (character 0x1780 Use.B ∷ character 0x1780 Use.B ∷ []) []
pair Khmer = text_for Khmer (character 0x1780 Use.B ∷ character 0x1780 Use.B ∷ []) []

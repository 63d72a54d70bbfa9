-- Corners of the parsers that could be read otherwise (SCOPE 6, 12.3), each on its smallest text.
use Rattle.std.specs.Prelude.{List, [], ◌∷◌, ◌++◌, replicate}
use Rattle.classes.specs.ClusterBreak as Break
use Rattle.classes.specs.MyanmarClass as Myanmar-class
use Rattle.classes.specs.Scalar as Scalar
use Rattle.classes.specs.UseClass as Use
use Rattle.classes.specs.declared.Shape.TheVariants.{Base, Mark, Control, Reph, Other}
use Rattle.records.specs.declared.Parser.TheVariants.{Simple, Myanmar, Complex, Khmer}
use Rattle.parse.specs.declared.Space.TheVariants.{Newline}
use Rattle.parse.specs.State.{no_info}
use Rattle.marked.specs.Cases.{Case, clusters, both, character, alone, call, char, chars, spaced, broken, normal, label, kinzi}

-- a U+034F with which a call begins goes by its class: no step leads onto it (6.2)
abbrev pub joiner_begins : Case
joiner_begins =
    let full = char 0x1000 Base 0 ∷ chars 31 Scalar.CGJ Other 1 in
    clusters Myanmar (character 0x1000 Myanmar-class.C ∷ replicate 32 (character Scalar.CGJ Myanmar-class.REST)) []
    (call full no_info 31 ∷ call (chars 2 Scalar.CGJ Other 31) broken 33 ∷ [])
    (call full no_info 32 ∷ call (chars 1 Scalar.CGJ Other 32) broken 33 ∷ [])

-- repeat (b) takes the last token by its own class: a virama of class C (6.8)
abbrev pub virama_of_c : Case
virama_of_c =
    clusters Myanmar (character Scalar.NGA Myanmar-class.C ∷ character Scalar.ASAT Myanmar-class.As ∷ character Scalar.VIRAMA Myanmar-class.C ∷ []) []
    (call (kinzi ++ (char Scalar.VIRAMA Base 2 ∷ [])) no_info 3 ∷ [])
    (call kinzi no_info 3 ∷ [])

-- and a U+034F of class C
abbrev pub joiner_of_c : Case
joiner_of_c =
    clusters Myanmar (label ++ (character Scalar.CGJ Myanmar-class.C ∷ [])) []
    (call (kinzi ++ (char Scalar.CGJ Other 3 ∷ char Scalar.CGJ Base 3 ∷ [])) no_info 4 ∷ [])
    (call (kinzi ++ (char Scalar.CGJ Other 3 ∷ [])) no_info 4 ∷ [])

-- U+034F parts CR from LF in simple (6.4)
abbrev pub joiner_parts : Case
joiner_parts =
    both Simple (character Scalar.CR Break.CR ∷ character Scalar.CGJ Break.EX ∷ character Scalar.LF Break.LF ∷ [])
    (call (char Scalar.CR Control 0 ∷ char Scalar.CGJ Mark 1 ∷ []) (normal (spaced Newline)) 2
    ∷ call (char Scalar.LF Control 2 ∷ []) (spaced Newline) 3
    ∷ [])

-- R takes any next token that is no base, LF too; alone at the end it is not broken (6.6)
abbrev pub reph_takes_newline : Case
reph_takes_newline =
    both Complex (character 0x1A5A Use.R ∷ character Scalar.LF Use.O ∷ [])
    (call (char 0x1A5A Reph 0 ∷ char Scalar.LF Other 1 ∷ []) broken 2 ∷ [])

abbrev pub reph_alone : Case
reph_alone = both Complex (character 0x1A5A Use.R ∷ []) (call (char 0x1A5A Reph 0 ∷ []) no_info 1 ∷ [])

-- an extension after a prepended character is broken (6.3)
abbrev pub prepended_mark : Case
prepended_mark =
    both Simple (character 0x600 Break.PP ∷ character 0x301 Break.EX ∷ [])
    (call (char 0x600 Base 0 ∷ char 0x301 Mark 1 ∷ []) (normal broken) 2 ∷ [])

-- a marked record without parts is no token in crate mode, and in whole mode it stands for itself (12.3)
abbrev pub alone_given : Case
alone_given = clusters Complex (alone 0x958 Use.B ∷ []) [] [] (call (char 0x958 Base 0 ∷ []) no_info 1 ∷ [])

-- and nothing is put before a sign of Khmer
abbrev pub alone_sign : Case
alone_sign =
    clusters Khmer (character 0x1780 Use.B ∷ alone 0x17BE Use.VAbv ∷ []) []
    (call (char 0x1780 Base 0 ∷ []) no_info 1 ∷ [])
    (call (char 0x1780 Base 0 ∷ char 0x17BE Other 1 ∷ []) no_info 2 ∷ [])

-- CR and LF behind 31 prepended characters: crate mode has CR twice, whole mode leaves it to LF's cluster (6.9)
abbrev pub newline_kept : Case
newline_kept =
    let newline = char Scalar.CR Control 31 ∷ char Scalar.LF Control 32 ∷ [] in
    clusters Simple (replicate 31 (character 0x600 Break.PP) ++ (character Scalar.CR Break.CR ∷ character Scalar.LF Break.LF ∷ [])) []
    (call (chars 31 0x600 Base 0 ++ (char Scalar.CR Control 31 ∷ [])) (spaced Newline) 31 ∷ call newline (spaced Newline) 33 ∷ [])
    (call (chars 31 0x600 Base 0) no_info 31 ∷ call newline (spaced Newline) 33 ∷ [])

abbrev pub readings : List Case
readings = joiner_begins ∷ virama_of_c ∷ joiner_of_c ∷ joiner_parts ∷ reph_takes_newline ∷ reph_alone ∷ prepended_mark ∷ alone_given ∷ alone_sign ∷ newline_kept ∷ []

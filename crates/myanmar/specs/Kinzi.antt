-- A kinzi as myanmar.rs writes it, whose order is not the rule's: the Rust pushes the current token and the two behind it, which it has
-- seen through a copy of its iterator, and steps three times afterwards. The rule `thrice` pushes and steps three times.
use Rattle.std.specs.Prelude.{ℕ, ◌+◌, cond, List}
use Rattle.classes.specs.MyanmarClass.{O}
use Rattle.classes.specs.declared.Shape.TheVariants.{Kinzi, Other}
use Rattle.parse.specs.declared.Parse.{Parse}
use Rattle.parse.specs.State.{token_at, put_of, step_of, retried_of}
use Rattle.parse.specs.Rule.{run, holds, take, is, is_emoji}
use Rattle.parse.specs.Shared.{emojis, other_arm}
use Rattle.myanmar.specs.Grammar.{is_kinzi, is_alone, syllable}

-- three pushes
abbrev pub three_pushes : List ℕ → Parse → Parse
three_pushes text s =
    put_of (token_at text (s.at + 2)) Kinzi (put_of (token_at text (s.at + 1)) Kinzi (put_of (token_at text s.at) Kinzi s))

-- "The Rust does not look whether these steps failed" (SCOPE 6.8): at the end of the text the last token stays current. A full cluster
-- is not passed over, since there "the Rust would go on to a 33rd"; and in whole mode the end of the text ends the call (6.9).
abbrev pub ignored_step : List ℕ → Parse → Parse
ignored_step text s = retried_of (step_of text s)

-- three pushes, three such steps
unfoldable pub kinzi_as_rust : List ℕ → Parse → Parse
kinzi_as_rust text s = ignored_step text (ignored_step text (ignored_step text (three_pushes text s)))

-- `parse`, where q is what the last arm has made of a kinzi before it looks at the class
abbrev pub cluster_around : List ℕ → Parse → Parse → Parse
cluster_around text s q =
    cond (holds text is_emoji s) (run emojis text s)
    (cond (holds text (is O) s) (run other_arm text s)
    (cond (holds text is_alone s) (run (take Other) text s)
    (run syllable text q)))

unfoldable pub cluster_as_rust : List ℕ → Parse → Parse
cluster_as_rust text s = cluster_around text s (cond (holds text is_kinzi s) (kinzi_as_rust text s) s)

-- Repeat (b), as SCOPE 6.8 has it. A kinzi "begins a call or is none, its first token has no emoji mark and a class other than O, P, S,
-- R, WJ and D0". If "the text is over, behind the third or behind the U+034F", then "in crate mode the last token is current still
-- and is taken once more, by its own class", and "the call hands back the end, even if this was the 32nd character". If by then "there
-- are 32 characters", the call ends with them, and this is no repeat (b).
use Rattle.std.specs.Prelude.{ℕ, ◌+◌, Bool, true, false, cond, List, [], ◌∷◌, eqb, ltb, length, drop}
use Rattle.classes.specs.MyanmarClass.{O}
use Rattle.classes.specs.Scalar.{CGJ}
use Rattle.token.specs.Token.{scalar_of}
use Rattle.parse.specs.Rule.{Test, is, is_emoji}
use Rattle.myanmar.specs.Grammar.{is_alone, is_kinzi}

-- "no emoji mark and a class other than O, P, S, R, WJ and D0"
abbrev pub in_last_arm : Test
in_last_arm text i = cond (is_emoji text i) false (cond (is O text i) false (cond (is_alone text i) false true))

-- none but U+034F
abbrev pub only_joiners : List ℕ → Bool
only_joiners [] = true
only_joiners (t ∷ ts) = cond (eqb (scalar_of t) CGJ) (only_joiners ts) false

-- the text is over behind the kinzi or behind the U+034F after it, and these are fewer than 32 together
abbrev pub ends_behind : List ℕ → ℕ → Bool
ends_behind text i = cond (only_joiners (drop (i + 3) text)) (ltb (length text) (i + 32)) false

-- a call from this place does repeat (b) in crate mode
unfoldable pub repeat_b : List ℕ → ℕ → Bool
repeat_b text i = cond (in_last_arm text i) (cond (is_kinzi text i) (ends_behind text i) false) false

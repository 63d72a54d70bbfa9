-- What only private contracts need: how far a run of U+034F is pushed.
use Rattle.std.specs.Prelude.{ℕ, zero, suc, ◌+◌, ◌-◌, cond, List, eqb, ltb, length}
use Rattle.classes.specs.Scalar.{CGJ}
use Rattle.token.specs.Token.{scalar_of}
use Rattle.parse.specs.declared.Parse.{Parse}
use Rattle.parse.specs.State.{token_at, place_after, going}

-- the last U+034F of those behind token i of n, as many as there is room for; token i where there is none
unfoldable pub step_past : ℕ → ℕ → List ℕ → ℕ → ℕ
step_past zero n text i = i
step_past (suc room) n text i =
    let later = step_past room n text (place_after n i) in
    cond (eqb (scalar_of (token_at text (place_after n i))) CGJ) later i

-- the last token that is pushed where a parse's current one is
abbrev pub last_pushed : List ℕ → Parse → ℕ
last_pushed text s = cond (going s) (cond s.joins (cond (ltb s.len 32) (step_past (32 - (s.len + 1)) (length text) text s.at) s.at) s.at) s.at

-- A call on an open text, of which more may come: "more wanted", with the place unchanged and the cluster empty, "exactly when it would
-- read past the last lent record; else it answers as before".
use Rattle.std.specs.Prelude.{ℕ, zero, suc, ◌+◌, ◌≡◌, Bool, true, false, cond, List, [], ◌∷◌, ◌++◌, eqb, ltb, length}
use Rattle.basics.specs.Sets.{member}
use Rattle.classes.specs.declared.Mode.{Mode}
use Rattle.classes.specs.declared.Shape.TheVariants.{Base}
use Rattle.classes.specs.ClusterBreak.{CR, PP}
use Rattle.classes.specs.MyanmarClass.{O}
use Rattle.classes.specs.Scalar.{kinzi_firsts, ASAT}
use Rattle.records.specs.declared.Parser.{Parser}
use Rattle.records.specs.declared.Parser.TheVariants.{Simple, Myanmar, Complex, Khmer}
use Rattle.parse.specs.declared.Parse.{Parse}
use Rattle.parse.specs.Rule.{run, holds, is, is_emoji, many_as}
use Rattle.parse.specs.State.{begin, last_room, place_of, cluster_of}
use Rattle.myanmar.specs.Grammar.{scalar_at, is_alone}
use Rattle.segment.specs.Calls.{called}
use Rattle.segment.specs.Runs.{calls_at}

-- the kinzi's test looks at a token that has not come: the second, or, where the second fits, the third
unfoldable pub peeks : List ℕ → ℕ → Bool
peeks stream i = cond (member kinzi_firsts (scalar_at stream i))
    (cond (ltb (i + 1) (length stream))
    (cond (eqb (scalar_at stream (i + 1)) ASAT) (cond (ltb (i + 2) (length stream)) false true) false)
    true)
    false

-- the newline's test looks at a token that has not come: the one behind a CR, where there is no room for both (Req 04)
unfoldable pub awaits : List ℕ → Parse → Bool
awaits stream s = cond (holds stream is_emoji s) false
    (cond (holds stream (is CR) s) (cond (last_room s.mode s.len) (cond (ltb (s.at + 1) (length stream)) false true) false) false)

-- a call of the simple parser behind its prepended characters
abbrev pub prepended : Mode → List ℕ → ℕ → Parse
prepended mode stream i = run (many_as PP Base) stream (begin (record { at = i }) mode false)

-- a look-ahead of a call from a place, past the last token: the Myanmar parser has one, in its last arm, and so has the simple one
unfoldable pub looks : Parser → Mode → List ℕ → ℕ → Bool
looks Simple mode stream i = awaits stream (prepended mode stream i)
looks Myanmar mode stream i = cond (is_emoji stream i) false (cond (is O stream i) false (cond (is_alone stream i) false (peeks stream i)))
looks Complex mode stream i = false
looks Khmer mode stream i = false

-- a call from a place inside the stream "would read past the last lent" token: by a step off it while there is room, which sets `done`,
-- or by a look-ahead; a step onto a cluster of 32 asks for nothing
unfoldable pub wants : Parser → Mode → List ℕ → ℕ → Bool
wants parser mode stream at = cond (called parser mode stream at).done true (looks parser mode stream at)

-- what a call on an open stream answers
pub data Heard : Type 0 where
  More : Heard
  One : Parse → Heard

-- more wanted, or the call "as before"; at the end of what is lent more is wanted, since "the end's number stands for the first token
-- still to come"
unfoldable pub heard : Parser → Mode → List ℕ → ℕ → Heard
heard parser mode stream at =
    cond (ltb at (length stream)) (cond (wants parser mode stream at) More (One (called parser mode stream at))) More

-- a full run on an open stream, from a place on, n calls at most: "its whole clusters and the place" where it stopped
unfoldable pub settled_from : Parser → Mode → List ℕ → ℕ → ℕ → List Parse
settled_from parser mode stream zero at = []
settled_from parser mode stream (suc n) at =
    let p = called parser mode stream at in
    let later = settled_from parser mode stream n (place_of stream p) in
    cond (ltb at (length stream)) (cond (wants parser mode stream at) [] (p ∷ later)) []

unfoldable pub stop_from : Parser → Mode → List ℕ → ℕ → ℕ → ℕ
stop_from parser mode stream zero at = at
stop_from parser mode stream (suc n) at =
    let later = stop_from parser mode stream n (place_of stream (called parser mode stream at)) in
    cond (ltb at (length stream)) (cond (wants parser mode stream at) at later) at

abbrev pub settled_at : Parser → Mode → List ℕ → ℕ → List Parse
settled_at parser mode stream at = settled_from parser mode stream (length stream) at

abbrev pub stop_at : Parser → Mode → List ℕ → ℕ → ℕ
stop_at parser mode stream at = stop_from parser mode stream (length stream) at

-- full runs on a stream that grows, each from where the one before stopped, the last on the closed stream: their clusters put together
unfoldable pub pieces : Parser → Mode → List ℕ → List (List ℕ) → ℕ → List Parse
pieces parser mode stream [] at = calls_at parser mode stream at
pieces parser mode stream (more ∷ later) at =
    settled_at parser mode stream at ++ pieces parser mode (stream ++ more) later (stop_at parser mode stream at)

-- a call from a place on two streams: another place is handed back, or another cluster
abbrev pub Differ : Parser → Mode → List ℕ → List ℕ → ℕ → Type 0
Differ parser mode a b at =
    place_of a (called parser mode a at) ≡ place_of b (called parser mode b at) → cluster_of (called parser mode a at) ≡ cluster_of (called parser mode b at) → ⊥

-- what is lent does not settle the answer: the stream, closed here, and a longer one differ
abbrev pub Unsettled : Parser → Mode → List ℕ → ℕ → Type 0
Unsettled parser mode stream at = (more : List ℕ) × Differ parser mode stream (stream ++ more) at

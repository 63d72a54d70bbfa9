-- What only private contracts need. For the step of the engine that goes forward: the rules asked of a state that has a record before it,
-- a, as rows of choices; b and mark are the record's own.
use Rattle.std.specs.Prelude.{ℕ, Bool, true, false, ◌&&◌, [], ◌∷◌, eqb}
use Rattle.basics.specs.Choices.{◌⇒◌▹◌}
use Rattle.basics.specs.Sets.{member}
use Rattle.classes.specs.ClusterBreak.{CR, LF, L, «V», T, LV, LVT, RI, EX, SM, ZWJ, PP}
use Rattle.uax29.specs.Clusters.{controls}
use Rattle.uax29.specs.declared.graphemes.GraphemeState.{GraphemeState}

unfoldable pub from_GB11 : GraphemeState → ℕ → ℕ → Bool
from_GB11 s b mark =
    -- GB11
    s.joined && eqb mark 1 ⇒ false
    -- GB12, GB13
    ▹ s.odd && eqb b RI ⇒ false
    -- GB999
    ▹ true

unfoldable pub from_GB9 : GraphemeState → ℕ → ℕ → Bool
from_GB9 s b mark =
    -- GB9
    member (EX ∷ ZWJ ∷ []) b ⇒ false
    -- GB9a
    ▹ eqb b SM ⇒ false
    -- GB9b
    ▹ eqb s.previous PP ⇒ false
    ▹ from_GB11 s b mark

unfoldable pub from_GB6 : GraphemeState → ℕ → ℕ → Bool
from_GB6 s b mark =
    let a = s.previous in
    -- GB6
    eqb a L && member (L ∷ «V» ∷ LV ∷ LVT ∷ []) b ⇒ false
    -- GB7
    ▹ member (LV ∷ «V» ∷ []) a && member («V» ∷ T ∷ []) b ⇒ false
    -- GB8
    ▹ member (LVT ∷ T ∷ []) a && eqb b T ⇒ false
    ▹ from_GB9 s b mark

unfoldable pub from_GB3 : GraphemeState → ℕ → ℕ → Bool
from_GB3 s b mark =
    let a = s.previous in
    -- GB3
    eqb a CR && eqb b LF ⇒ false
    -- GB4
    ▹ member controls a ⇒ true
    -- GB5
    ▹ member controls b ⇒ true
    ▹ from_GB6 s b mark

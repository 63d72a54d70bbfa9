-- What conservation says: which tokens a cluster's characters and notes stand for, and which token a call reads twice.
use Rattle.std.specs.Prelude.{ℕ, ◌+◌, ◌-◌, min, ◌≡◌, Bool, cond, List, [], ◌∷◌, length, take, get_or}
use Rattle.token.specs.Token.{scalar_of, index_of}
use Rattle.parse.specs.declared.Parse.{Parse}
use Rattle.parse.specs.declared.Pushed.{Pushed}
use Rattle.parse.specs.declared.Cluster.{Cluster}
use Rattle.classes.specs.declared.Mode.{Mode}
use Rattle.classes.specs.declared.Mode.TheVariants.{Crate, Whole}
use Rattle.parse.specs.declared.Flow.{Flow}
use Rattle.parse.specs.declared.Flow.TheVariants.{GoOn, Stop, Full, End}
use Rattle.parse.specs.State.{token_at, nothing}

-- the stream with its last token repeated
abbrev pub look : List ℕ → ℕ → ℕ
look text i = token_at text (min i (length text - 1))

-- a character is a token's
abbrev pub IsOf : Pushed → ℕ → Type 0
IsOf c t = (c.scalar ≡ scalar_of t) × (c.index ≡ index_of t)

-- the characters, each followed by its notes, are the tokens from one place up to another, in order and with nothing left out
abbrev pub Covers : (ℕ → ℕ) → ℕ → List Pushed → ℕ → Type 0
Covers look from [] to = from ≡ to
Covers look from (c ∷ cs) to = IsOf c (look from) × Covers look (from + 1 + c.noted) cs to

-- the characters of the cluster
abbrev pub pushed : Parse → List Pushed
pushed s = take s.len s.chars

-- the characters of a cluster, all but the last of them, and the last
abbrev pub characters_of : Cluster → List Pushed
characters_of c = take c.len c.chars

abbrev pub but_last : Cluster → List Pushed
but_last c = take (c.len - 1) c.chars

abbrev pub last_of : Cluster → Pushed
last_of c = get_or c.chars (c.len - 1) nothing

-- a cluster that repeats a token: the characters but the last are the tokens from one place up to another, and the last one, with no note
-- behind it, is the token that is repeated
pub record Repeating (text : List ℕ) (from : ℕ) (c : Cluster) (to : ℕ) (repeated : ℕ) : Type 0 where
  pub once : Covers (token_at text) from (but_last c) to
  pub last : IsOf (last_of c) repeated
  pub bare : (last_of c).noted ≡ 0

-- how many tokens are noted after them
abbrev pub notes : List Pushed → ℕ
notes [] = 0
notes (c ∷ cs) = c.noted + notes cs

-- the tokens that a call reads twice: one at a cluster of 32, repeat (a), or at the end of the text, repeat (b), both in crate mode only
abbrev pub repeats_of : Mode → Flow → Bool → ℕ
repeats_of Whole f again = 0
repeats_of Crate GoOn again = 0
repeats_of Crate Stop again = 0
repeats_of Crate Full again = 1
repeats_of Crate End again = cond again 1 0

abbrev pub repeats : Parse → ℕ
repeats s = repeats_of s.mode s.flow s.again

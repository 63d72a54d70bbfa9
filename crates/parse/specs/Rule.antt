-- The grammar of a parser as data, and what it does: a rule for each Rust function, and one meaning, `run`, for both modes.
use Rattle.std.specs.Prelude.{ℕ, ◌+◌, Bool, true, false, cond, ◌||◌, List, eqb}
use Rattle.basics.specs.Sets.{member}
use Rattle.classes.specs.declared.Shape.{Shape}
use Rattle.classes.specs.declared.Shape.TheVariants.{Other}
use Rattle.token.specs.Token.{scalar_of, kind_of, break_of, emoji_of, selector_of}
use Rattle.parse.specs.declared.Parse.{Parse}
use Rattle.parse.specs.declared.Info.{Info}
use Rattle.parse.specs.declared.Emoji.{Emoji}
use Rattle.parse.specs.declared.Space.{Space}
use Rattle.parse.specs.declared.Space.TheVariants.{From}
use Rattle.parse.specs.declared.Flow.TheVariants.{Stop}
use Rattle.parse.specs.State.{token_at, last_room, going, with_flow, with_info, push_of, note_of, loop, resumed_of, retried_of}

-- a test looks at the text from a place, so that a look-ahead is a test too
abbrev pub Test : Type 0
Test = List ℕ → ℕ → Bool

pub data Rule : Type 0 where
  skip : Rule
  -- the scope around is done, or else the cluster: the Rust's `return` and `break`
  stop : Rule
  -- the current token becomes a character, of a class that it decides, and is stepped off
  push : (ℕ → Shape) → Rule
  -- the current token is noted and stepped off
  note : Rule
  -- the cluster's info changes, by the current token
  mark : (ℕ → Info → Info) → Rule
  seq : Rule → Rule → Rule
  choose : Test → Rule → Rule → Rule
  while : Test → Rule → Rule
  -- a stop in it ends it alone
  scope : Rule → Rule
  -- kinzi, a push and a step three times; that the Rust's three pushes and then three steps come to the same is `kinzi_as_rust_lem` of the
  -- crate `myanmar`
  thrice : Shape → Rule
  -- a mark and a push, where the token behind may be wanted in the same cluster: where the test holds and there is no room for both, it
  -- is a stop before either
  fit : Test → (ℕ → Info → Info) → (ℕ → Shape) → Rule

-- a test of the current token, where there is one to be taken
abbrev pub holds : List ℕ → Test → Parse → Bool
holds text p s = cond (going s) (p text s.at) false

-- no room for the current token and the one behind it, of which the test says that they belong together
abbrev pub crowded : List ℕ → Test → Parse → Bool
crowded text p s = cond (last_room s.mode s.len) (p text s.at) false

abbrev pub take_of : List ℕ → Shape → Parse → Parse
take_of text c s = let r = push_of text c s in cond (going s) r s

unfoldable pub thrice_of : List ℕ → Shape → Parse → Parse
thrice_of text c s = take_of text c (take_of text c (take_of text c s))

-- what a rule does; a parse that does not go on stays as it is
unfoldable pub run : Rule → List ℕ → Parse → Parse
run skip text s = s
run stop text s = cond (going s) (with_flow Stop s) s
run (push f) text s = let r = push_of text (f (token_at text s.at)) s in cond (going s) r s
run note text s = let r = note_of text s in cond (going s) r s
run (mark f) text s = cond (going s) (with_info (f (token_at text s.at) s.info) s) s
run (seq a b) text s = run b text (run a text s)
run (choose p a b) text s =
    let ra = run a text s in
    let rb = run b text s in
    cond (holds text p s) ra rb
run (while p a) text s = loop text (holds text p) (run a text) s
run (scope a) text s = let r = run a text s in cond (going s) (resumed_of r) s
run (thrice c) text s = let r = thrice_of text c s in cond (going s) (retried_of r) s
run (fit p m f) text s =
    let t = token_at text s.at in
    let r = push_of text (f t) (with_info (m t s.info) s) in
    cond (going s) (cond (crowded text p s) (with_flow Stop s) r) s

-- one rule behind another; it binds more strongly than a choice
infixr 30 ◌▸◌
abbrev pub ◌▸◌ : Rule → Rule → Rule
a ▸ b = seq a b

-- a row of a choice: a rule where the test holds, and the later rows where it does not; the last row has no test, as the arm `_` of a
-- Rust `match`
infixr 20 ◌⇒◌∣◌
abbrev pub ◌⇒◌∣◌ : Test → Rule → Rule → Rule
test ⇒ rule ∣ later = choose test rule later

-- tests of the current token

abbrev pub is : ℕ → Test
is k text i = eqb (kind_of (token_at text i)) k

-- of the token behind it; past the end there is none
abbrev pub next_is : ℕ → Test
next_is k text i = eqb (kind_of (token_at text (i + 1))) k

abbrev pub is_break : ℕ → Test
is_break k text i = eqb (break_of (token_at text i)) k

abbrev pub is_scalar : ℕ → Test
is_scalar x text i = eqb (scalar_of (token_at text i)) x

abbrev pub is_emoji : Test
is_emoji text i = eqb (emoji_of (token_at text i)) 1

abbrev pub is_selector : Test
is_selector text i = eqb (selector_of (token_at text i)) 1

unfoldable pub either : Test → Test → Test
either p q text i = p text i || q text i

-- the kind is one of a list
unfoldable pub one_of : List ℕ → Test
one_of ks text i = member ks (kind_of (token_at text i))

-- the current token's kind, and 64, which is none, where the parse does not go on
abbrev pub kind_here : List ℕ → Parse → ℕ
kind_here text s = cond (going s) (kind_of (token_at text s.at)) 64

-- the Rust's small functions

-- `accept_any_as`
abbrev pub take : Shape → Rule
take c = push (λ t. c)

-- `accept_as`
abbrev pub accept_as : ℕ → Shape → Rule
accept_as k c = is k ⇒ take c ∣ skip

-- `accept`
abbrev pub accept : ℕ → Rule
accept k = accept_as k Other

-- `accept_zero_or_many_as`
abbrev pub many_as : ℕ → Shape → Rule
many_as k c = while (is k) (take c)

-- `accept_zero_or_many`
abbrev pub many : ℕ → Rule
many k = many_as k Other

abbrev pub set_broken : ℕ → Info → Info
set_broken t i = record { emoji = i.emoji; space = i.space; broken = true; normalise = i.normalise }

abbrev pub set_emoji : Emoji → ℕ → Info → Info
set_emoji e t i = record { emoji = e; space = i.space; broken = i.broken; normalise = i.normalise }

abbrev pub set_space : Space → ℕ → Info → Info
set_space s t i = record { emoji = i.emoji; space = s; broken = i.broken; normalise = i.normalise }

abbrev pub set_space_from_char : ℕ → Info → Info
set_space_from_char t i = set_space (From (scalar_of t)) t i

abbrev pub force_normalize : ℕ → Info → Info
force_normalize t i = record { emoji = i.emoji; space = i.space; broken = i.broken; normalise = true }

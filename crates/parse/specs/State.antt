-- The parse under way, and what one push, one note and one step make of it. Crate mode and whole mode differ in three places:
-- `filled_at`, what a step does at a cluster of 32, `passes_end`, what becomes of the end of the text within a kinzi, and `last_room`,
-- whether a token that needs the next one behind it may be the 32nd.
use Rattle.std.specs.Prelude.{ℕ, zero, suc, ◌+◌, ◌-◌, Bool, true, false, cond, List, eqb, ltb, length, set, get_or, replicate}
use Rattle.classes.specs.declared.Shape.{Shape}
use Rattle.classes.specs.declared.Shape.TheVariants.{Base, Other}
use Rattle.classes.specs.declared.Mode.{Mode}
use Rattle.classes.specs.declared.Mode.TheVariants.{Crate, Whole}
use Rattle.classes.specs.Scalar.{CGJ}
use Rattle.token.specs.Token.{scalar_of, index_of}
use Rattle.parse.specs.declared.Parse.{Parse}
use Rattle.parse.specs.declared.Pushed.{Pushed}
use Rattle.parse.specs.declared.Info.{Info}
use Rattle.parse.specs.declared.Cluster.{Cluster}
use Rattle.parse.specs.declared.Place.{Place}
use Rattle.parse.specs.declared.Emoji.TheVariants.{None as NoEmoji}
use Rattle.parse.specs.declared.Space.TheVariants.{None as NoSpace}
use Rattle.parse.specs.declared.Flow.{Flow}
use Rattle.parse.specs.declared.Flow.TheVariants.{GoOn, Stop, Full, End}

-- the token at a place, and 0 past the end
abbrev pub token_at : List ℕ → ℕ → ℕ
token_at text i = get_or text i 0

-- the place after a place, in a text of n; the end stays
abbrev pub place_after : ℕ → ℕ → ℕ
place_after n i = cond (ltb i n) (i + 1) i

-- `Place::START` and `Cluster::EMPTY` (SCOPE 3.2, 4.1)
abbrev pub start_place : Place
start_place = record { at = 0 }

abbrev pub nothing : Pushed
nothing = record { scalar = 0; index = 0; noted = 0; class = Base }

abbrev pub no_info : Info
no_info = record { emoji = NoEmoji; space = NoSpace; broken = false; normalise = false }

unfoldable pub empty_cluster : Cluster
empty_cluster = record { len = 0; chars = replicate 32 nothing; info = no_info }

-- a call begins at a place; `joins` says whether U+034F is stepped over
abbrev pub begin : Place → Mode → Bool → Parse
begin p m j = record { at = p.at; done = false; again = false; flow = GoOn; mode = m; joins = j; len = 0; chars = replicate 32 nothing; info = no_info }

-- what a call hands back: the cluster, and the next place, which is the end where the text has ended
abbrev pub cluster_of : Parse → Cluster
cluster_of s = record { len = s.len; chars = s.chars; info = s.info }

abbrev pub place_of : List ℕ → Parse → ℕ
place_of text s = cond s.done (length text) s.at

-- a parse with one thing changed
abbrev pub with_place : ℕ → Parse → Parse
with_place i s = record { at = i; done = s.done; again = s.again; flow = s.flow; mode = s.mode; joins = s.joins; len = s.len; chars = s.chars; info = s.info }

abbrev pub with_flow : Flow → Parse → Parse
with_flow f s = record { at = s.at; done = s.done; again = s.again; flow = f; mode = s.mode; joins = s.joins; len = s.len; chars = s.chars; info = s.info }

abbrev pub with_cells : ℕ → List Pushed → Parse → Parse
with_cells n cs s = record { at = s.at; done = s.done; again = s.again; flow = s.flow; mode = s.mode; joins = s.joins; len = n; chars = cs; info = s.info }

abbrev pub with_info : Info → Parse → Parse
with_info i s = record { at = s.at; done = s.done; again = s.again; flow = s.flow; mode = s.mode; joins = s.joins; len = s.len; chars = s.chars; info = i }

abbrev pub with_done : Parse → Parse
with_done s = record { at = s.at; done = true; again = s.again; flow = s.flow; mode = s.mode; joins = s.joins; len = s.len; chars = s.chars; info = s.info }

abbrev pub with_again : Parse → Parse
with_again s = record { at = s.at; done = s.done; again = true; flow = s.flow; mode = s.mode; joins = s.joins; len = s.len; chars = s.chars; info = s.info }

abbrev pub in_mode : Mode → Parse → Parse
in_mode m s = record { at = s.at; done = s.done; again = s.again; flow = s.flow; mode = m; joins = s.joins; len = s.len; chars = s.chars; info = s.info }

abbrev pub is_going : Flow → Bool
is_going GoOn = true
is_going Stop = false
is_going Full = false
is_going End = false

abbrev pub going : Parse → Bool
going s = is_going s.flow

-- a token as a character of a class
abbrev pub char_of : ℕ → Shape → Pushed
char_of t c = record { scalar = scalar_of t; index = index_of t; noted = 0; class = c }

-- a token as one more character, where there is room
abbrev pub put_of : ℕ → Shape → Parse → Parse
put_of t c s = cond (ltb s.len 32) (with_cells (s.len + 1) (set s.chars s.len (char_of t c)) s) s

-- one more token noted after a character; the count stays at 65,535, which no text of tokens reaches
abbrev pub noted_more : Pushed → Pushed
noted_more c = record { scalar = c.scalar; index = c.index; noted = cond (ltb c.noted 65535) (c.noted + 1) c.noted; class = c.class }

-- a token noted after the last character; "something has always been pushed before" (SCOPE 4.1), and where nothing was it is pushed
abbrev pub noted_of : ℕ → Parse → Parse
noted_of t s = cond (ltb 0 s.len)
    (cond (ltb s.len 33) (with_cells s.len (set s.chars (s.len - 1) (noted_more (get_or s.chars (s.len - 1) nothing))) s) s)
    (put_of t Other s)

-- "In crate mode a step at 32 characters leaves the current token where it is" (SCOPE 6.7); in whole mode its token is passed (6.9)
abbrev pub filled_at : Mode → ℕ → ℕ → ℕ
filled_at Crate n i = i
filled_at Whole n i = place_after n i

-- "if 31 characters are already pushed" (SCOPE 6.9), in whole mode
abbrev pub last_room : Mode → ℕ → Bool
last_room Crate n = false
last_room Whole n = eqb n 31

-- off the current token, in a text of n: the cluster is full, or there is a next token, or the text ends and the last one stays current
abbrev pub moved_of : ℕ → Parse → Parse
moved_of n s = cond (ltb s.len 32)
    (cond (ltb (place_after n s.at) n) (with_place (place_after n s.at) s) (with_flow End (with_done s)))
    (with_flow Full (with_place (filled_at s.mode n s.at) s))

-- at a U+034F that is stepped over
abbrev pub on_joiner : List ℕ → Parse → Bool
on_joiner text s = cond (going s) (cond s.joins (eqb (scalar_of (token_at text s.at)) CGJ) false) false

-- how many turns a loop can take from here: each passes a token or ends the flow
abbrev pub turns : List ℕ → Parse → ℕ
turns text s = cond (going s) (suc (length text - s.at)) 0

unfoldable pub at_most : (Parse → Bool) → (Parse → Parse) → ℕ → Parse → Parse
at_most test body zero s = s
at_most test body (suc n) s = let r = at_most test body n (body s) in cond (test s) r s

-- the body as long as the test holds
unfoldable pub loop : List ℕ → (Parse → Bool) → (Parse → Parse) → Parse → Parse
loop text test body s = at_most test body (turns text s) s

-- a U+034F, pushed as Other and stepped off
abbrev pub hop : List ℕ → Parse → Parse
hop text s = moved_of (length text) (put_of (token_at text s.at) Other s)

-- `advance`: onto the next token; where that is U+034F, "it is taken as Other …, and so are all that follow it directly, as long as
-- there is room" (SCOPE 6.2)
unfoldable pub step_of : List ℕ → Parse → Parse
step_of text s = loop text (on_joiner text) (hop text) (moved_of (length text) s)

-- to take a token is "to push it as a character and then to step to the next" (SCOPE 6.1)
unfoldable pub push_of : List ℕ → Shape → Parse → Parse
push_of text c s = step_of text (put_of (token_at text s.at) c s)

-- note, then step
unfoldable pub note_of : List ℕ → Parse → Parse
note_of text s = step_of text (noted_of (token_at text s.at) s)

-- after a part that was stopped, the parse goes on
abbrev pub go_on : Flow → Flow
go_on GoOn = GoOn
go_on Stop = GoOn
go_on Full = Full
go_on End = End

abbrev pub resumed_of : Parse → Parse
resumed_of s = with_flow (go_on s.flow) s

-- repeat (b): the end of the text is passed over in crate mode, once a call; in whole mode it ends the call (SCOPE 6.9)
abbrev pub passes_end : Mode → Flow → Bool → Bool
passes_end Whole f again = false
passes_end Crate GoOn again = false
passes_end Crate Stop again = false
passes_end Crate Full again = false
passes_end Crate End again = cond again false true

-- the last token is current still, and is read again
abbrev pub retried_of : Parse → Parse
retried_of s = cond (passes_end s.mode s.flow s.again) (with_flow GoOn (with_again s)) s

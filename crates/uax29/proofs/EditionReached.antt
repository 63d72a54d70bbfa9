-- The states of the step by an edition are those that a text leads to, and each mark of a state is asked for (SCOPE 12.6). Assumes nothing.
use Prim.Native.Nat.{ℕ, ◌≤◌}
use mathlib.Core.Path.{◌≡◌, refl, sym, ◌∙◌, ap}
use mathlib.Core.Bool.{Bool, true, false, cond, not, ◌&&◌, ◌||◌, false≢true}
use mathlib.Core.List.{List, [], ◌∷◌}
use native.Mathlib.Omega.{arith}
use lib.Dec.{eqb}
use lib.ListN.{length}
use Rattle.basics.proofs.Tests.{neither}
use Rattle.classes.specs.ClusterBreak.{XX, EX, RI}
use Rattle.uax29.specs.Conjunct.{Consonant, Linker, Extend, None}
use Rattle.uax29.specs.Rules.{Item, is, is_not, among, pictographic, anything, edge, any, one, next, many, pairs, applies, decide}
use Rattle.uax29.specs.Clusters.{GB1, GB2, GB3, GB4, GB5, GB6, GB7, GB8, GB9, GB9a, GB9b, GB11, GB12, GB13, GB999}
use Rattle.uax29.specs.Editions as Editions
use Rattle.uax29.specs.Editions.{conjunct_is, GB9c}
use Rattle.uax29.specs.GraphemeStep as Graphemes
use Rattle.uax29.specs.GraphemeStep.{no_class, start_state, summary, advance, near}
use Rattle.uax29.specs.EditionStep.{summary_in, link_after, advance_in, starts_in, kept_in, item_of, bad_link, bad_state_in}
use Rattle.uax29.specs.declared.conjoined.Link.{Link}
use Rattle.uax29.specs.declared.editions.EditionState.{EditionState}
use Rattle.uax29.specs.declared.graphemes.GraphemeState.{GraphemeState}
use Rattle.uax29.proofs.EditionTheorems.{summary_more_in}
use Rattle.uax29.proofs.GraphemeSummary.{summary_none, summary_more}
use Rattle.uax29.proofs.GraphemeStanding.{text_to, reaches}
use Rattle.uax29.proofs.Links.{absorbed}

-- a record with another conjunct code
abbrev coded : Item → ℕ → Item
coded x conjunct = item_of x.kind x.mark conjunct

-- a consonant in the record before, or in one more
unfoldable pub from_consonant : List Item → List Item
from_consonant [] = item_of XX 0 Consonant ∷ []
from_consonant (y ∷ ys) = coded y Consonant ∷ ys

-- a text of 15.0 with conjunct codes that lead to a link, the nearest record first
unfoldable pub linked_to : Bool → Bool → List Item → List Item
linked_to begun linked [] = []
linked_to begun linked (x ∷ xs) = cond linked (coded x Linker ∷ from_consonant xs) (coded x (cond begun Consonant None) ∷ xs)

-- a text that leads to a state
abbrev pub text_in : EditionState → List Item
text_in s = linked_to s.link.begun s.link.linked (text_to s.graphemes)

-- # The state of 15.0 does not ask for conjuncts

blind : (s : GraphemeState) (x : Item) (conjunct : ℕ) → advance s (coded x conjunct) ≡ advance s x
unfolding advance is pictographic
blind s x conjunct = refl

-- nor for the class before, but for handing on its own
afresh : (x : Item) → advance (advance start_state (item_of XX 0 Consonant)) x ≡ advance start_state x
unfolding advance is pictographic
afresh x = refl

summary_coded : (x : Item) (conjunct : ℕ) (xs ys : List Item) → advance (summary xs) x ≡ advance (summary ys) x → summary (coded x conjunct ∷ xs) ≡ summary (x ∷ ys)
summary_coded x conjunct xs ys h = summary_more (coded x conjunct) xs ∙ blind (summary xs) x conjunct ∙ h ∙ sym (summary_more x ys)

from_same : (x : Item) (xs : List Item) → advance (summary (from_consonant xs)) x ≡ advance (summary xs) x
unfolding from_consonant
from_same x [] =
    let e : summary (item_of XX 0 Consonant ∷ []) ≡ advance start_state (item_of XX 0 Consonant) = summary_more (item_of XX 0 Consonant) [] ∙ ap (λ s. advance s (item_of XX 0 Consonant)) summary_none in
    rw (e, summary_none) (afresh x)
from_same x (y ∷ ys) = ap (λ s. advance s x) (summary_coded y Consonant ys ys refl)

-- # What the codes lead to

linked_more : (x : Item) (xs : List Item) → (summary_in (x ∷ xs)).link ≡ link_after (summary_in xs).link x.conjunct
unfolding advance_in
linked_more x xs = ap (λ s. s.link) (summary_more_in x xs)

from_begun : (xs : List Item) → (summary_in (from_consonant xs)).link.begun ≡ true
unfolding from_consonant link_after
from_begun [] = ap (λ l. l.begun) (linked_more (item_of XX 0 Consonant) [])
from_begun (y ∷ ys) = ap (λ l. l.begun) (linked_more (coded y Consonant) ys)

is_both : (xs : List Item) (g : GraphemeState) (l : Link) → summary xs ≡ g → (summary_in xs).link ≡ l → summary_in xs ≡ record { graphemes = g; link = l }
unfolding summary_in
is_both xs g l e f = rw (e, f)

link_to : (begun linked : Bool) (x : Item) (xs : List Item) → (linked ≡ true → begun ≡ true)
    → summary_in (linked_to begun linked (x ∷ xs)) ≡ record { graphemes = summary (x ∷ xs); link = record { begun = begun; linked = linked } }
unfolding linked_to link_after
link_to true true x xs f =
    is_both (coded x Linker ∷ from_consonant xs) _ _ (summary_coded x Linker (from_consonant xs) xs (from_same x xs))
    (linked_more (coded x Linker) (from_consonant xs) ∙ joined (summary_in (from_consonant xs)).link (from_begun xs))
  where
    joined : (l : Link) → l.begun ≡ true → link_after l Linker ≡ record { begun = true; linked = true }
    joined l h = rw h
link_to true false x xs f =
    is_both (coded x Consonant ∷ xs) _ _ (summary_coded x Consonant xs xs refl) (linked_more (coded x Consonant) xs)
link_to false true x xs f = absurd (false≢true (f refl))
link_to false false x xs f =
    is_both (coded x None ∷ xs) _ _ (summary_coded x None xs xs refl) (linked_more (coded x None) xs)

-- # To a state that is not bad a text leads

module _ (begun linked : Bool) where
  abbrev Fine : ℕ → Type 0
  Fine previous = bad_link (record { begun = begun; linked = linked }) previous ≡ false

  abbrev Led : List Item → GraphemeState → Type 0
  Led xs g = summary_in (linked_to begun linked xs) ≡ record { graphemes = g; link = record { begun = begun; linked = linked } }

in_turn : (begun linked c : Bool) → ((linked && not begun) || c) ≡ false → linked ≡ true → begun ≡ true
in_turn true linked c h k = refl
in_turn false true c h k = absurd (false≢true (sym h))
in_turn false false c h k = k

none_before : (begun linked : Bool) → Fine begun linked no_class → Led begun linked [] start_state
unfolding linked_to
none_before true true h = absurd (false≢true (sym h))
none_before true false h = absurd (false≢true (sym h))
none_before false true h = absurd (false≢true (sym h))
none_before false false h =
    let e : (summary_in []).link ≡ record { begun = false; linked = false } = unfold summary_in Editions.begun GB9c many one next in refl in
    is_both [] _ _ summary_none e

led : (begun linked : Bool) (xs : List Item) (g : GraphemeState) → summary xs ≡ g → Fine begun linked g.previous → Led begun linked xs g
led begun linked [] g e h =
    let k : g ≡ start_state = sym e ∙ summary_none in
    rw k (none_before begun linked (rw k at h))
led begun linked (x ∷ xs) g e h = link_to begun linked x xs (in_turn begun linked (begun && eqb g.previous no_class) h) ∙ rw e

-- 8 for "a state that no text leads to", and for no other
pub edition_good_reached : (s : EditionState) → bad_state_in s ≡ false → summary_in (text_in s) ≡ s
edition_good_reached s good =
    let parts = neither (Graphemes.bad_state s.graphemes) _ good in
    led s.link.begun s.link.linked (text_to s.graphemes) s.graphemes (reaches s.graphemes parts.0) parts.1

short : (a b c : Bool) (u v w x y : Item) → length (cond a [] (cond b (u ∷ v ∷ []) (cond c (w ∷ x ∷ []) (y ∷ [])))) ≤ 2
short true b c u v w x y = omega arith
short false true c u v w x y = omega arith
short false false true u v w x y = omega arith
short false false false u v w x y = omega arith

short_to : (s : GraphemeState) → length (text_to s) ≤ 2
unfolding text_to
short_to s = short (eqb s.previous no_class) s.joined (eqb s.previous RI && not s.odd) _ _ _ _ _

short_linked : (begun linked : Bool) (xs : List Item) → length xs ≤ 2 → length (linked_to begun linked xs) ≤ 2
unfolding linked_to from_consonant
short_linked begun linked [] h = omega arith
short_linked begun true (x ∷ []) h = omega arith
short_linked begun true (x ∷ y ∷ ys) h = h
short_linked begun false (x ∷ xs) h = h

-- that text has two records at most
pub edition_text_short : (s : EditionState) → length (text_in s) ≤ 2
edition_text_short s = short_linked s.link.begun s.link.linked (text_to s.graphemes) (short_to s.graphemes)

-- # "The state grows by what GB9c needs and no more": each of its two marks is asked for, of whatever state

-- Whether a consonant starts a cluster in 15.1 behind a state and one more record.
module _ (begun linked : Bool) (g : GraphemeState) where
  abbrev behind : ℕ → Bool
  behind conjunct = starts_in 151 (advance_in (record { graphemes = g; link = record { begun = begun; linked = linked } }) (item_of EX 0 conjunct)) (item_of XX 0 Consonant)

asked : (begun linked : Bool) (g : GraphemeState) → (behind begun linked g Extend ≡ not linked) × (behind begun linked g Linker ≡ not (begun || linked))
unfolding starts_in advance_in advance link_after kept_in near decide applies is is_not among pictographic conjunct_is anything edge any one next many pairs GB1 GB2 GB3 GB4 GB5 GB6 GB7 GB8 GB9 GB9a GB9b GB9c GB11 GB12 GB13 GB999
asked true true g = (refl, refl)
asked true false g = (refl, refl)
asked false true g = (refl, refl)
asked false false g = (refl, refl)

-- behind an extender it starts one exactly where no linker stands before
pub linked_asked : (s : EditionState) → starts_in 151 (advance_in s (item_of EX 0 Extend)) (item_of XX 0 Consonant) ≡ not s.link.linked
linked_asked s = (asked s.link.begun s.link.linked s.graphemes).0

-- and behind a linker exactly where no consonant does
pub begun_asked : (s : EditionState) → bad_state_in s ≡ false → starts_in 151 (advance_in s (item_of EX 0 Linker)) (item_of XX 0 Consonant) ≡ not s.link.begun
begun_asked s good =
    (asked s.link.begun s.link.linked s.graphemes).1
    ∙ ap not (absorbed s.link.begun s.link.linked (in_turn s.link.begun s.link.linked _ (neither (Graphemes.bad_state s.graphemes) _ good).1))

-- One push and one step, said outright in each of their cases, and an end that is passed over. Assumes nothing.
use Prim.Native.Nat.{ℕ, ◌+◌, ◌<◌, ◌≤◌}
use mathlib.Core.Path.{◌≡◌, refl, sym, ◌∙◌, ap}
use mathlib.Core.Bool.{Bool, true, false, cond, false≢true}
use mathlib.Core.List.{List}
use native.Mathlib.Omega.{arith}
use lib.Dec.{eqb, ltb}
use lib.ListN.{length, set}
use borrow.Author.Tests.{lt-ltb, ltb-false}
use Rattle.basics.proofs.Tests.{if_intro}
use Rattle.classes.specs.declared.Mode.{Mode}
use Rattle.classes.specs.declared.Mode.TheVariants.{Crate, Whole}
use Rattle.classes.specs.declared.Shape.{Shape}
use Rattle.classes.specs.Scalar.{CGJ}
use Rattle.token.specs.Token.{scalar_of}
use Rattle.parse.specs.declared.Parse.{Parse}
use Rattle.parse.specs.declared.Flow.{Flow}
use Rattle.parse.specs.declared.Flow.TheVariants.{GoOn, Stop, Full, End}
use Rattle.parse.specs.State.{token_at, place_after, filled_at, char_of, is_going, going, with_place, with_flow, with_done, with_again, with_cells, put_of, moved_of, on_joiner, step_of, push_of, passes_end, retried_of}
use Rattle.parse.specs.Rule.{take_of}
use Rattle.parse.proofs.Moves.{moved_case, step_stays}

-- a character more

abbrev pub plus : ℕ → Shape → Parse → Parse
plus t c s = with_cells (s.len + 1) (set s.chars s.len (char_of t c)) s

pub put_plus : (t : ℕ) (c : Shape) (s : Parse) → s.len < 32 → put_of t c s ≡ plus t c s
put_plus t c s h = if_intro (λ q. q ≡ plus t c s) (ltb s.len 32) _ _ (λ e. refl) (λ e. absurd (omega (arith, h, ltb-false s.len 32 e)))

-- a step

place_next : (n i : ℕ) → i < n → place_after n i ≡ i + 1
place_next n i h = rw (lt-ltb i n h)

pub moved_next : (n : ℕ) (s : Parse) → s.len < 32 → s.at + 1 < n → moved_of n s ≡ with_place (s.at + 1) s
moved_next n s l h = moved_case (λ q. q ≡ with_place (s.at + 1) s) n s (λ a b. refl)
    (λ a b. absurd (omega (arith, h, b, place_next n s.at (omega arith)))) (λ a. absurd (omega (arith, l, a)))

pub moved_end : (n : ℕ) (s : Parse) → s.len < 32 → n ≤ s.at + 1 → moved_of n s ≡ with_flow End (with_done s)
moved_end n s l h = moved_case (λ q. q ≡ with_flow End (with_done s)) n s (λ a b. absurd (omega (arith, h, b))) (λ a b. refl) (λ a. absurd (omega (arith, l, a)))

pub moved_full : (n : ℕ) (s : Parse) → 32 ≤ s.len → moved_of n s ≡ with_flow Full (with_place (filled_at s.mode n s.at) s)
moved_full n s l = moved_case (λ q. q ≡ with_flow Full (with_place (filled_at s.mode n s.at) s)) n s (λ a b. absurd (omega (arith, l, a))) (λ a b. absurd (omega (arith, l, a))) (λ a. refl)

-- where no U+034F stands
pub no_joiner : (text : List ℕ) (s : Parse) → eqb (scalar_of (token_at text s.at)) CGJ ≡ false → on_joiner text s ≡ false
no_joiner text s e = go (going s) s.joins _ e
  where
    go : (a b c : Bool) → c ≡ false → cond a (cond b c false) false ≡ false
    go true true c e = e
    go true false c e = refl
    go false b c e = refl

-- onto a token that is no U+034F
pub step_next : (text : List ℕ) (s : Parse) → s.len < 32 → s.at + 1 < length text → eqb (scalar_of (token_at text (s.at + 1))) CGJ ≡ false → step_of text s ≡ with_place (s.at + 1) s
step_next text s l h e = sym (step_stays text s (with_place (s.at + 1) s) (sym (moved_next (length text) s l h)) (no_joiner text (with_place (s.at + 1) s) e))

pub take_next : (text : List ℕ) (c : Shape) (s : Parse) → going s ≡ true → s.len + 1 < 32 → s.at + 1 < length text → eqb (scalar_of (token_at text (s.at + 1))) CGJ ≡ false
    → take_of text c s ≡ with_place (s.at + 1) (plus (token_at text s.at) c s)
unfolding push_of
take_next text c s g l h e =
    let t = token_at text s.at in
    let q : Parse = plus t c s in
    if_intro (λ z. z ≡ with_place (s.at + 1) q) (going s) _ _
    (λ b. ap (step_of text) (put_plus t c s (omega arith)) ∙ step_next text q l h e)
    (λ b. absurd (false≢true (sym b ∙ g)))

-- a parse that goes on

pub going_flow : (f : Flow) → is_going f ≡ true → f ≡ GoOn
going_flow GoOn g = refl
going_flow Stop g = absurd (false≢true g)
going_flow Full g = absurd (false≢true g)
going_flow End g = absurd (false≢true g)

passes_none : (m : Mode) (f : Flow) (a : Bool) → f ≡ GoOn → passes_end m f a ≡ false
passes_none Whole f a e = refl
passes_none Crate f a e = ap (λ f. passes_end Crate f a) e

-- passes over no end
pub retried_going : (q : Parse) → going q ≡ true → retried_of q ≡ q
retried_going q g = ap (λ b. cond b (with_flow GoOn (with_again q)) q) (passes_none q.mode q.flow q.again (going_flow q.flow g))

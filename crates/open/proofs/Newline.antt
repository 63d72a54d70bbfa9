-- Where the newline's test looks past the last token, what comes decides: closed here CR is the 32nd character, and with an LF behind it
-- the cluster ends before CR. Assumes nothing.
use Prim.Native.Nat.{ℕ, ◌+◌, ◌<◌}
use mathlib.Core.Path.{◌≡◌, sym, ◌∙◌, ap}
use mathlib.Core.Bool.{true, false, false≢true}
use mathlib.Core.List.{List, [], ◌∷◌, ◌++◌}
use native.Mathlib.Omega.{arith}
use lib.Dec.{ltb}
use lib.ListN.{length, get_or-eq_default}
use lib.Seq.{get_or-append_seam}
use borrow.Author.Tests.{ltb-false}
use Rattle.basics.proofs.Tests.{by_test}
use Rattle.classes.specs.declared.Mode.{Mode}
use Rattle.classes.specs.declared.Shape.TheVariants.{Base}
use Rattle.classes.specs.ClusterBreak.{CR, LF, PP}
use Rattle.records.specs.declared.Parser.TheVariants.{Simple}
use Rattle.token.specs.Token.{kind_of}
use Rattle.parse.specs.declared.Parse.{Parse}
use Rattle.parse.specs.declared.Cluster.{Cluster}
use Rattle.parse.specs.State.{token_at, last_room, begin}
use Rattle.parse.specs.Rule.{run, holds, many_as, is, is_emoji}
use Rattle.parse.proofs.Runs.{holds_going}
use Rattle.window.proofs.Run.{Inside, going_room, run_inside}
use Rattle.window.proofs.Texts.{run_longer}
use Rattle.window.proofs.Shared.{near_is, near_emoji}
use Rattle.simple.specs.Grammar.{cluster}
use Rattle.simple.specs.Before.{cluster_before}
use Rattle.simple.proofs.Moved.{parted, as_before, was_filled}
use Rattle.segment.specs.Calls.{grammar, called}
use Rattle.open.specs.Calls.{awaits, prepended, looks, Differ}
use Rattle.open.proofs.Grammars.{sees_before}
use Rattle.open.proofs.Longer.{holds_longer, prepended_longer}

module _ (stream : List ℕ) (x : ℕ) (lf : kind_of x ≡ LF) (at : ℕ) (inside : at < length stream) (mode : Mode) where
  abbrev longer : List ℕ
  longer = stream ++ (x ∷ [])

  abbrev from : Parse
  from = begin (record { at = at }) mode false

  abbrev here : Parse
  here = prepended mode stream at

  -- at the last token, a CR without the emoji mark, 31 characters are pushed
  pub record Awaits : Type 0 where
    pub plain : holds stream is_emoji here ≡ false
    pub cr : holds stream (is CR) here ≡ true
    pub room : last_room here.mode here.len ≡ true
    pub last : here.at + 1 ≡ length stream

  here_inside : Inside stream here
  here_inside = run_inside stream (many_as PP Base) from (λ n. inside)

  told : awaits stream here ≡ true → Awaits
  unfolding awaits
  told e = by_test (holds stream is_emoji here) (λ a. absurd (false≢true (rw a at e)))
      (λ a. by_test (holds stream (is CR) here)
      (λ b. by_test (last_room here.mode here.len)
      (λ c. by_test (ltb (here.at + 1) (length stream)) (λ l. absurd (false≢true (rw (a, b, c, l) at e)))
      (λ l. record {
        plain = a;
        cr = b;
        room = c;
        last = omega (arith, ltb-false (here.at + 1) (length stream) l, here_inside (going_room here.flow (holds_going stream (is CR) here b)));
      }))
      (λ c. absurd (false≢true (rw (a, b, c) at e))))
      (λ b. absurd (false≢true (rw (a, b) at e))))

  module _ (a : Awaits) (d : (called Simple mode stream at).done ≡ false) where
    closed : parted stream here ≡ false
    closed = let none : token_at stream (here.at + 1) ≡ 0 = get_or-eq_default stream 0 (omega (arith, a.last)) in rw (a.plain, a.cr, a.room, none)

    opened : parted longer (prepended mode longer at) ≡ true
    opened =
        let new : token_at longer (here.at + 1) ≡ x = ap (token_at longer) a.last ∙ get_or-append_seam stream x [] 0 in
        rw (prepended_longer stream (x ∷ []) at inside mode d)
        (rw (holds_longer stream (x ∷ []) at inside is_emoji near_emoji here here_inside, holds_longer stream (x ∷ []) at inside (is CR) (near_is CR) here here_inside, a.plain, a.cr, a.room, new, lf))

    -- closed, the call is what it was before CR and LF were kept together, and so was the call on the longer stream
    filled : (called Simple mode stream at).len ≡ 32
    unfolding called grammar
    filled =
        let before : run cluster stream from ≡ run cluster_before stream from = as_before stream from closed in
        let same : run cluster_before longer from ≡ run cluster_before stream from = run_longer cluster_before sees_before stream (x ∷ []) from (λ n. inside) (ap (λ (q : Parse). q.done) (sym before) ∙ d) in
        ap (λ (q : Parse). q.len) (before ∙ sym same) ∙ (was_filled longer from opened).1

    shorter : (called Simple mode longer at).len ≡ 31
    unfolding called grammar
    shorter = (was_filled longer from opened).0

  -- **A call whose look at LF runs past the last token is not settled.**
  pub newline_differs : looks Simple mode stream at ≡ true → (called Simple mode stream at).done ≡ false → Differ Simple mode stream longer at
  unfolding looks
  newline_differs e d place same = let a = told e in omega (arith, filled a d, shorter a d, ap (λ (c : Cluster). c.len) same)

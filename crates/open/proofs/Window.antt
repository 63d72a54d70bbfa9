-- One call on a part of a stream: if it wants no more, it is the call on the whole stream. Assumes nothing.
use Prim.Native.Nat.{ℕ, ◌+◌, ◌<◌, ◌≤◌}
use mathlib.Core.Path.{◌≡◌, ◌∙◌, ap}
use mathlib.Core.Bool.{true}
use mathlib.Core.List.{List}
use native.Mathlib.Omega.{arith}
use lib.Dec.{eqb, ltb}
use lib.ListN.{length}
use borrow.Author.Tests.{le-ltb, ltb-true, ltb-false}
use Rattle.basics.specs.Sets.{member}
use Rattle.basics.proofs.Tests.{by_test}
use Rattle.classes.specs.declared.Mode.{Mode}
use Rattle.classes.specs.ClusterBreak.{LF}
use Rattle.classes.specs.Scalar.{kinzi_firsts, ASAT}
use Rattle.records.specs.declared.Parser.{Parser}
use Rattle.records.specs.declared.Parser.TheVariants.{Simple, Myanmar, Complex, Khmer}
use Rattle.token.specs.Token.{scalar_of, kind_of}
use Rattle.parse.specs.declared.Parse.{Parse}
use Rattle.parse.specs.State.{token_at, last_room, begin}
use Rattle.parse.specs.Rule.{crowded, next_is}
use Rattle.window.specs.Window.{shift, Window}
use Rattle.window.proofs.Run.{run_window}
use Rattle.window.proofs.Texts.{same_after}
use Rattle.myanmar.specs.Grammar.{scalar_at, is_kinzi}
use Rattle.segment.specs.Calls.{grammar, joins, called}
use Rattle.open.specs.Calls.{peeks, awaits, prepended, looks, wants}
use Rattle.open.proofs.Alike.{Ahead, grammar_alike}

module _ (text win : List ℕ) (k : ℕ) (w : Window text win k) where
  abbrev Ends : Type 0
  Ends = length win + k ≡ length text

  -- the token n places on is the same, where it has come, or where nothing comes
  behind : (i n : ℕ) → (length win ≤ i + n → Ends) → token_at text (i + k + n) ≡ token_at win (i + n)
  behind i n e = ap (λ (j : ℕ). token_at text j) (omega arith) ∙ by_test (ltb (i + n) (length win))
      (λ l. w.same (i + n) (ltb-true _ _ l)) (λ l. same_after text win k w (e (ltb-false _ _ l)) (i + n) (ltb-false _ _ l))

  -- the kinzi's test is settled, unless it looks past the last token
  kinzi_same : (i : ℕ) → i < length win → (peeks win i ≡ true → Ends) → is_kinzi text (i + k) ≡ is_kinzi win i
  unfolding is_kinzi peeks
  kinzi_same i h e = rw (w.same i h) (by_test (member kinzi_firsts (scalar_at win i))
      (λ a. let second : scalar_at text (i + k + 1) ≡ scalar_at win (i + 1) = ap scalar_of (behind i 1 (λ l. e (rw (a, le-ltb (i + 1) (length win) l)))) in
      rw (a, second) (by_test (eqb (scalar_at win (i + 1)) ASAT)
      (λ b. rw (b, ap scalar_of (behind i 2 (λ l. e (third a b l))))) (λ b. rw b)))
      (λ a. rw a))
    where
      third : member kinzi_firsts (scalar_at win i) ≡ true → eqb (scalar_at win (i + 1)) ASAT ≡ true → length win ≤ i + 2 → peeks win i ≡ true
      third a b l = rw (a, b, le-ltb (i + 2) (length win) l) (by_test (ltb (i + 1) (length win)) (λ c. rw c) (λ c. rw c))

  -- and so is the newline's
  crowded_same : (q : Parse) → (last_room q.mode q.len ≡ true → length win ≤ q.at + 1 → Ends) → crowded text (next_is LF) (shift k q) ≡ crowded win (next_is LF) q
  crowded_same q e = by_test (last_room q.mode q.len) (λ r. rw r (ap (λ t. eqb (kind_of t) LF) (behind q.at 1 (e r)))) (λ r. rw r)

  module _ (at : ℕ) (inside : at < length win) (mode : Mode) where
    looks_ahead : (parser : Parser) → (looks parser mode win at ≡ true → Ends) → Ahead text win k w at inside mode parser
    unfolding looks awaits
    looks_ahead Simple e = λ x y. let q = prepended mode win at in crowded_same q (λ r l. e (rw (x, y, r, le-ltb (q.at + 1) (length win) l)))
    looks_ahead Myanmar e = λ a b c. kinzi_same at inside (λ d. e (rw (a, b, c) d))
    looks_ahead Complex e = tt
    looks_ahead Khmer e = tt

    -- **A call on a part of a stream that wants no more is the call on the stream**, k places on; also where the part goes to the end.
    pub called_window : (parser : Parser) → (wants parser mode win at ≡ true → Ends) → called parser mode text (at + k) ≡ shift k (called parser mode win at)
    unfolding called wants
    called_window parser e =
        let s = begin (record { at = at }) mode (joins parser) in
        let ahead = looks_ahead parser (λ l. e (by_test (called parser mode win at).done (λ d. rw d) (λ d. rw (d, l)))) in
        run_window text win k w (grammar parser) s (grammar_alike text win k w at inside mode parser ahead) (λ n. inside) (λ d. e (rw d))

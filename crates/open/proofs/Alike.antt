-- The grammar of each parser on a part of a stream: all its tests answer as on the whole stream, if its look-ahead does. The complex parser
-- has none. Assumes nothing.
use Prim.Native.Nat.{ℕ, ◌+◌, ◌<◌}
use mathlib.Core.Path.{◌≡◌, refl}
use mathlib.Core.Bool.{Bool, true, false}
use mathlib.Core.List.{List}
use lib.ListN.{length}
use Rattle.classes.specs.declared.Mode.{Mode}
use Rattle.classes.specs.declared.Shape.TheVariants.{Base, Control}
use Rattle.classes.specs.ClusterBreak.{CN, CR, LF, PP}
use Rattle.classes.specs.MyanmarClass.{O}
use Rattle.records.specs.declared.Parser.{Parser}
use Rattle.records.specs.declared.Parser.TheVariants.{Simple, Myanmar, Complex, Khmer}
use Rattle.parse.specs.declared.Parse.{Parse}
use Rattle.parse.specs.State.{begin}
use Rattle.parse.specs.Rule.{Rule, Test, run, crowded, holds, is, next_is, is_emoji, accept_as, many_as}
use Rattle.parse.specs.Shared.{emojis, newline, newline_with, other_arm}
use Rattle.window.specs.Window.{shift, Window, Near}
use Rattle.window.proofs.Run.{Alike, Sees, Inside, run_inside, holds_window, sees_alike}
use Rattle.window.proofs.Shared.{near_is, near_emoji, sees_emojis, sees_other}
use Rattle.simple.specs.Grammar.{start, control}
use Rattle.simple.specs.Grammar as Simple-rules
use Rattle.myanmar.specs.Grammar.{is_kinzi, kinzi, syllable, is_alone}
use Rattle.myanmar.specs.Grammar as Myanmar-rules
use Rattle.complex.specs.Grammar as Complex-rules
use Rattle.segment.specs.Calls.{grammar, joins}
use Rattle.open.specs.Calls.{prepended}
use Rattle.open.proofs.Grammars.{sees_hangul, sees_extensions, sees_syllable, near_alone, sees_complex}

module _ (text win : List ℕ) (k : ℕ) (w : Window text win k) (at : ℕ) (inside : at < length win) (mode : Mode) where
  -- the look-ahead of a call from a place, if it is made, answers the same on both
  abbrev pub Ahead : Parser → Type 0
  Ahead Simple = let q = prepended mode win at in
      holds win is_emoji q ≡ false → holds win (is CR) q ≡ true → crowded text (next_is LF) (shift k q) ≡ crowded win (next_is LF) q
  Ahead Myanmar = is_emoji win at ≡ false → is O win at ≡ false → is_alone win at ≡ false → is_kinzi text (at + k) ≡ is_kinzi win at
  Ahead Complex = Unit
  Ahead Khmer = Unit

  abbrev from : Bool → Parse
  from j = begin (record { at = at }) mode j

  abbrev Same : Rule → Parse → Type 0
  Same r s = Alike text win k w r s

  test_alike : (p : Test) → Near p → (s : Parse) → Inside win s → holds text p (shift k s) ≡ holds win p s
  test_alike p n s i = holds_window text win k w p n s i

  rule_alike : (r : Rule) → Sees r → (s : Parse) → Inside win s → Same r s
  rule_alike r v s i = sees_alike text win k w r v s i

  myanmar_alike : Ahead Myanmar → Same Myanmar-rules.cluster (from true)
  unfolding Myanmar-rules.cluster kinzi
  myanmar_alike e =
      let s = from true in
      let i : Inside win s = λ n. inside in (
        test_alike is_emoji near_emoji s i,
        (
          λ a. rule_alike emojis sees_emojis s i,
          λ a. (
            test_alike (is O) (near_is O) s i,
            (
              λ b. rule_alike other_arm sees_other s i,
              λ b. (
                test_alike is_alone near_alone s i,
                (
                  λ c. tt,
                  λ c. ((e a b c, (λ h. tt, λ h. tt)), rule_alike syllable sees_syllable (run kinzi win s) (run_inside win kinzi s i)),
                ),
              ),
            ),
          ),
        ),
      )

  -- behind the prepended characters
  start_alike : (q : Parse) → Inside win q → (holds win is_emoji q ≡ false → holds win (is CR) q ≡ true → crowded text (next_is LF) (shift k q) ≡ crowded win (next_is LF) q) → Same start q
  unfolding start control newline newline_with
  start_alike q i e = (
    test_alike is_emoji near_emoji q i,
    (
      λ x. rule_alike emojis sees_emojis q i,
      λ x. (
        test_alike (is CN) (near_is CN) q i,
        (
          λ y. tt,
          λ y. (
            test_alike (is LF) (near_is LF) q i,
            (
              λ z. (tt, tt),
              λ z. (
                test_alike (is CR) (near_is CR) q i,
                (
                  λ c. (λ g. e x c, rule_alike (accept_as LF Control) (near_is LF, (tt, tt)) (run (newline_with LF) win q) (run_inside win (newline_with LF) q i)),
                  λ c. rule_alike Simple-rules.syllable sees_hangul q i,
                ),
              ),
            ),
          ),
        ),
      ),
    ),
  )

  simple_alike : Ahead Simple → Same Simple-rules.cluster (from false)
  unfolding Simple-rules.cluster
  simple_alike e =
      let q = prepended mode win at in
      let i : Inside win q = run_inside win (many_as PP Base) (from false) (λ n. inside) in
      ((near_is PP, (refl, tt)), (start_alike q i e, sees_extensions))

  pub grammar_alike : (parser : Parser) → Ahead parser → Same (grammar parser) (from (joins parser))
  unfolding grammar
  grammar_alike Simple e = simple_alike e
  grammar_alike Myanmar e = myanmar_alike e
  grammar_alike Complex e = rule_alike (Complex-rules.cluster false) (sees_complex false) (from true) (λ n. inside)
  grammar_alike Khmer e = rule_alike (Complex-rules.cluster true) (sees_complex true) (from true) (λ n. inside)

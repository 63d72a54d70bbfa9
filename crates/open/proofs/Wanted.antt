-- "Exactly when it would read past the last lent record": a call that wants no more gives the same answer whatever comes, and for one that
-- wants more there is something to come that changes it. Assumes nothing.
use Prim.Native.Nat.{ℕ, ◌-◌, ◌<◌}
use mathlib.Core.Path.{◌≡◌, refl, sym, ◌∙◌, ap}
use mathlib.Core.Bool.{true, false, false≢true}
use mathlib.Core.List.{List, [], ◌∷◌, ◌++◌}
use mathlib.Core.Logic.{⊎_elim}
use native.Mathlib.Omega.{arith}
use lib.Dec.{eqb}
use lib.ListN.{length}
use borrow.Author.Tests.{eqb-true, eqb-false}
use Rattle.basics.proofs.Tests.{by_test}
use Rattle.classes.specs.declared.Mode.{Mode}
use Rattle.classes.specs.ClusterBreak.{LF, EX}
use Rattle.classes.specs.Scalar.{CGJ, ASAT, VIRAMA}
use Rattle.records.specs.declared.Parser.{Parser}
use Rattle.records.specs.declared.Parser.TheVariants.{Simple, Myanmar, Complex, Khmer}
use Rattle.token.specs.Token.{scalar_of, kind_of, index_of, packed}
use Rattle.parse.specs.State.{token_at, cluster_of}
use Rattle.segment.specs.Calls.{called}
use Rattle.open.specs.Calls.{looks, wants, Differ, Unsettled}
use Rattle.open.proofs.Calls.{called_longer, place_longer}
use Rattle.open.proofs.Exact.{more_differs}
use Rattle.open.proofs.Stepped.{stepped_past}
use Rattle.open.proofs.Simple.{simple_past}
use Rattle.open.proofs.Kinzi.{arm, two_differ, one_differs}
use Rattle.open.proofs.Newline.{newline_differs}

-- a token that joins what is before it: an extension, and U+034F where it is stepped over
abbrev pub Joining : Parser → ℕ → Type 0
Joining Simple x = kind_of x ≡ EX
Joining Myanmar x = scalar_of x ≡ CGJ
Joining Complex x = scalar_of x ≡ CGJ
Joining Khmer x = scalar_of x ≡ CGJ

-- such a token, of a record: U+034F
abbrev joiner : Parser → ℕ → ℕ
joiner Simple n = packed CGJ EX EX 0 0 0 n
joiner Myanmar n = packed CGJ 0 EX 0 0 0 n
joiner Complex n = packed CGJ 0 EX 0 0 0 n
joiner Khmer n = packed CGJ 0 EX 0 0 0 n

joiner_first : (parser : Parser) → Joining parser (joiner parser 0) × (index_of (joiner parser 0) ≡ 0)
joiner_first Simple = (refl, refl)
joiner_first Myanmar = (refl, refl)
joiner_first Complex = (refl, refl)
joiner_first Khmer = (refl, refl)

joiner_second : (parser : Parser) → Joining parser (joiner parser 1) × (index_of (joiner parser 1) ≡ 1)
joiner_second Simple = (refl, refl)
joiner_second Myanmar = (refl, refl)
joiner_second Complex = (refl, refl)
joiner_second Khmer = (refl, refl)

module _ (stream : List ℕ) (short : length stream < 65535) (at : ℕ) (inside : at < length stream) (mode : Mode) where
  abbrev last : ℕ
  last = index_of (token_at stream (length stream - 1))

  -- **A call that steps off the last token is not settled**: closed here it hands back the end, and with one more token that joins it
  -- another place or another cluster
  pub step_differs : (parser : Parser) (x : ℕ) → Joining parser x → (last ≡ index_of x → ⊥) → (called parser mode stream at).done ≡ true → Differ parser mode stream (stream ++ (x ∷ [])) at
  step_differs Simple x j f d = more_differs Simple stream x at inside short f mode d (simple_past stream x j at inside mode d)
  step_differs Myanmar x j f d = more_differs Myanmar stream x at inside short f mode d (stepped_past stream x j Myanmar refl at inside mode d)
  step_differs Complex x j f d = more_differs Complex stream x at inside short f mode d (stepped_past stream x j Complex refl at inside mode d)
  step_differs Khmer x j f d = more_differs Khmer stream x at inside short f mode d (stepped_past stream x j Khmer refl at inside mode d)

  -- of a record that the last token is not of
  stepped : (parser : Parser) → (called parser mode stream at).done ≡ true → Unsettled parser mode stream at
  stepped parser d = by_test (eqb last 0)
      (λ z. let k = joiner_second parser in (joiner parser 1 ∷ [], step_differs parser (joiner parser 1) k.0 (λ e. omega (arith, eqb-true last 0 z, e ∙ k.1)) d))
      (λ z. let k = joiner_first parser in (joiner parser 0 ∷ [], step_differs parser (joiner parser 0) k.0 (λ e. eqb-false last 0 z (e ∙ k.1)) d))

  looked : (parser : Parser) → looks parser mode stream at ≡ true → (called parser mode stream at).done ≡ false → Unsettled parser mode stream at
  looked Simple l d = let x = packed 0x0A LF LF 0 0 0 0 in (x ∷ [], newline_differs stream x refl at inside mode l d)
  looked Myanmar l d =
      ⊎_elim (λ m. (ASAT ∷ VIRAMA ∷ [], two_differ stream at inside mode (omega arith) l m ASAT VIRAMA refl refl))
      (λ m. (VIRAMA ∷ [], one_differs stream at inside mode (omega arith) l m.0 m.1 VIRAMA refl))
      (arm stream at inside mode (omega arith) l).missing
  looked Complex l d = absurd (false≢true (unfold looks in l))
  looked Khmer l d = absurd (false≢true (unfold looks in l))

  -- **Where more is wanted, the answer is not settled**,
  pub wanted_unsettled : (parser : Parser) → wants parser mode stream at ≡ true → Unsettled parser mode stream at
  unfolding wants
  wanted_unsettled parser w = by_test (called parser mode stream at).done (λ d. stepped parser d) (λ d. looked parser (rw d at w) d)

  -- **and where it is not wanted it is.**
  pub unwanted_settled : (parser : Parser) → wants parser mode stream at ≡ false → Unsettled parser mode stream at → ⊥
  unwanted_settled parser w u =
      u.1 (sym (place_longer parser mode stream u.0 at inside w)) (ap cluster_of (sym (called_longer parser mode stream u.0 at inside w)))

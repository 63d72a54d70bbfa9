-- One step of the word machine at a record of a plain text: the rules give the same answer, and the state that it leaves says what they
-- see. Exit by exit: each names the classes on the two sides, and for those the rules compute. Assumes nothing.
use Rattle.std.specs.Prelude.{Some, is_none}
use Prim.Native.Nat.{ℕ, ◌+◌}
use mathlib.Core.Path.{◌≡◌, refl, sym, ◌∙◌, ap}
use mathlib.Core.Bool.{Bool, true, false, cond, not, ◌&&◌, ◌||◌, and-false, true≢false}
use mathlib.Core.List.{List, [], ◌∷◌}
use lib.Dec.{eqb, leb}
use Rattle.basics.proofs.Sets.{eq_case, in_case, Each}
use Rattle.basics.proofs.Tests.{both as and_both, neither}
use Rattle.basics.specs.Choices.{◌⇒◌▹◌}
use Rattle.basics.specs.Sets.{member}
use Rattle.classes.specs.WordBreak.{CR, LF, Extend, ZWJ, FO, WSegSpace, ALetter, HL, NU, SQ, DQ, KA, EX, RI}
use Rattle.words.specs.declared.WordState.{WordState}
use Rattle.words.specs.declared.WordStep.{WordStep}
use Rattle.words.specs.Next.{Next}
use Rattle.words.specs.declared.Exit.{Exit}
use Rattle.words.specs.declared.Exit.TheVariants.{Released, Joined, Parted, Ignored, Held, Opened, Paired}
use Rattle.words.specs.Rules.{next_in, flag_rules, number_rules, letter_rules, pair_rules, exit_of, leaves, ruled, told}
use Rattle.uax29.specs.Words.{AHLetter, newlines, ignored, mid_letters, mid_numbers, extendable, extended}
use Rattle.uax29.specs.declared.words.Seen.{Seen}
use Rattle.uax29.specs.WordsSeen.{from_WB1, from_WB3, from_WB3c, from_WB5, from_WB7a, from_WB8, from_WB13, from_WB15, decided}

-- WB7, WB7c, WB11: what the machine knows by prevent-next
abbrev pub held : ℕ → ℕ → ℕ → Bool
held far near b =
    ((member mid_letters near && member AHLetter far) && member AHLetter b)
    || (((eqb near DQ && eqb far HL) && eqb b HL) || ((member mid_numbers near && eqb far NU) && eqb b NU))

-- the machine's count: 1 where an odd number of RI stands before, 2 where an even one does
abbrev pub count_of : ℕ → Bool → ℕ
count_of near odd = cond (eqb near RI) (cond odd 1 2) 0

-- the machine's state before a record of class b
abbrev pub machine : Seen → ℕ → WordState
machine q b = record { first = is_none q.last; previous = q.near; prevent = held q.far q.near b; count = count_of q.near q.odd }

-- what is seen after a character that WB4 does not ignore
abbrev pub seen_past : ℕ → Bool → ℕ → Seen
seen_past far odd a = record { last = Some a; near = a; far = far; odd = eqb a RI && not odd }

-- the look-ahead sees class c, or none and c is Other
pub record Looks (next : Next) (c : ℕ) : Type 0 where
  pub letter : next_in AHLetter next ≡ member AHLetter c
  pub hebrew : next_in (HL ∷ []) next ≡ eqb c HL
  pub number : next_in (NU ∷ []) next ≡ eqb c NU

-- two tests, on the classes on the two sides
pair_case : (P : ℕ → ℕ → Type 0) (k l a b : ℕ) → (eqb a k && eqb b l) ≡ true → P k l → P a b
pair_case P k l a b h p =
    let both_hold = and_both (eqb a k) (eqb b l) h in
    eq_case (λ x. P x b) a k both_hold.0 (eq_case (P k) b l both_hold.1 p)

set_case : (P : ℕ → ℕ → Type 0) (ks ls : List ℕ) (a b : ℕ) → member ks a ≡ true → member ls b ≡ true → Each (λ x. Each (P x) ls) ks → P a b
set_case P ks ls a b ha hb all = in_case (P a) ls b hb (in_case (λ x. Each (P x) ls) ks a ha all)

by_exit : (s : WordState) (b : ℕ) (r : WordStep) (t : Bool) (x later : Exit) → (t ≡ true → leaves s b x ≡ r) → (t ≡ false → leaves s b later ≡ r) → leaves s b (t ⇒ x ▹ later) ≡ r
by_exit s b r true x later f g = f refl
by_exit s b r false x later f g = g refl

pub told_same : (b : ℕ) (v v' : Bool) (w w' x x' : ℕ) → v' ≡ v → w' ≡ w → x' ≡ x → told b v w x ≡ told b v' w' x'
told_same b v v' w w' x x' e f g = rw (e, f, g)

either_case : (A : Type 0) (a b : Bool) → (a || b) ≡ true → (a ≡ true → A) → (a ≡ false → b ≡ true → A) → A
either_case A true b h f g = f refl
either_case A false b h f g = g refl h

spread : (a b d : Bool) → (a && (b || d)) ≡ false → ((a && b) ≡ false) × ((a && d) ≡ false)
spread true b d h = neither b d h
spread false b d h = (refl, refl)

turned : (a b d : Bool) → (a && (b && d)) ≡ false → ((b && a) && d) ≡ false
turned true true d h = h
turned true false d h = refl
turned false true d h = refl
turned false false d h = refl

swapped : (a b : Bool) → (a && b) ≡ false → (b && a) ≡ false
swapped true b h = rw h
swapped false b h = and-false b

-- the exits of RI, over what is asked of the two classes
flags : (s : WordState) (b : ℕ) (x y o : Bool)
    → leaves s b (leb 2 (cond x (cond (x && not o) 1 2) 0) && y ⇒ Opened ▹ leb 2 (cond x (cond (x && not o) 1 2) 0) ⇒ Parted ▹ y && x ⇒ Paired (cond x (cond (x && not o) 1 2) 0 + 1) ▹ y ⇒ Opened ▹ Parted)
    ≡ told b false (cond y (cond (y && not (x && not o)) 1 2) 0) (cond (cond y (not (x && not o)) true) 1 0)
unfolding leaves
flags s b true true true = refl
flags s b true true false = refl
flags s b true false true = refl
flags s b true false false = refl
flags s b false true true = refl
flags s b false true false = refl
flags s b false false true = refl
flags s b false false false = refl

-- a step at a record of class b after one of class a, far being the class before that and o whether an odd number of RI stood before a
module _ (o : Bool) (p c : ℕ) where
  -- what it is to tell
  abbrev Right : ℕ → ℕ → ℕ → WordStep
  Right far a b = told b (held a b c) (count_of b (eqb b RI && not (eqb a RI && not o))) (cond (decided (seen_past far o a) b p c) 1 0)

  abbrev Joins : ℕ → ℕ → ℕ → Type 0
  Joins far a b = told b false 0 0 ≡ Right far a b

  abbrev Holds : ℕ → ℕ → ℕ → Type 0
  Holds far a b = told b true 0 0 ≡ Right far a b

  abbrev Releases : ℕ → ℕ → ℕ → Type 0
  Releases far a b = told b false (count_of a (eqb a RI && not o)) 0 ≡ Right far a b

  module _ (far a b : ℕ) where
    newlines_exit : (eqb a CR && eqb b LF) ≡ true → Joins far a b
    unfolding decided from_WB1 from_WB3
    newlines_exit h = pair_case (Joins far) CR LF a b h refl

    held_newline : member newlines a ≡ true → held a b c ≡ false
    held_newline h = in_case (λ x. held x b c ≡ false) newlines a h (simp and-false, (simp and-false, (simp and-false, tt)))

    parted_exit : (eqb a CR && eqb b LF) ≡ false → (member newlines a && eqb b RI) ≡ false → (member newlines a || member newlines b) ≡ true → told b false 0 1 ≡ Right far a b
    unfolding decided from_WB1 from_WB3
    parted_exit n plain h =
        either_case (told b false 0 1 ≡ Right far a b) (member newlines a) (member newlines b) h
        (λ ha. told_same b _ _ _ _ _ _ (held_newline ha) (let k : eqb b RI ≡ false = rw ha at plain in rw k) (rw (n, ha)))
        (λ ha hb. told_same b _ _ _ _ _ _ (in_case (λ y. held a y c ≡ false) newlines b hb (refl, (refl, (refl, tt)))) (in_case (λ y. count_of y (eqb y RI && not (eqb a RI && not o)) ≡ 0) newlines b hb (refl, (refl, (refl, tt)))) (rw (n, ha, hb)))

    space_exit : (eqb a WSegSpace && eqb b WSegSpace) ≡ true → Joins far a b
    unfolding decided from_WB1 from_WB3 from_WB3c
    space_exit h = pair_case (Joins far) WSegSpace WSegSpace a b h refl

    letter_exit : (member AHLetter a && member (NU ∷ AHLetter) b) ≡ true → Joins far a b
    unfolding decided from_WB1 from_WB3 from_WB3c from_WB5 from_WB7a from_WB8
    letter_exit h =
        let k = and_both (member AHLetter a) (member (NU ∷ AHLetter) b) h in
        set_case (Joins far) AHLetter (NU ∷ AHLetter) a b k.0 k.1 ((refl, (refl, (refl, tt))), ((refl, (refl, (refl, tt))), tt))

    mid_letter_exit : (member AHLetter a && (member mid_letters b && member AHLetter c)) ≡ true → Holds far a b
    unfolding decided from_WB1 from_WB3 from_WB3c from_WB5
    mid_letter_exit h =
        let k = and_both (member AHLetter a) (member mid_letters b && member AHLetter c) h in
        let l = and_both (member mid_letters b) (member AHLetter c) k.1 in
        let e : member AHLetter c ≡ true = l.1 in
        set_case (Holds far) AHLetter mid_letters a b k.0 l.0 ((rw e, (rw e, (rw e, tt))), ((rw e, (rw e, (rw e, tt))), tt))

    hebrew_single_exit : (eqb a HL && eqb b SQ) ≡ true → (member AHLetter a && (member mid_letters b && member AHLetter c)) ≡ false → Joins far a b
    unfolding decided from_WB1 from_WB3 from_WB3c from_WB5 from_WB7a
    hebrew_single_exit h =
        pair_case (λ x y. (member AHLetter x && (member mid_letters y && member AHLetter c)) ≡ false → Joins far x y) HL SQ a b h (λ n. rw n)

    hebrew_double_exit : (eqb a HL && (eqb b DQ && eqb c HL)) ≡ true → Holds far a b
    unfolding decided from_WB1 from_WB3 from_WB3c from_WB5 from_WB7a
    hebrew_double_exit h =
        let k = and_both (eqb a HL) (eqb b DQ && eqb c HL) h in
        let l = and_both (eqb b DQ) (eqb c HL) k.1 in
        let e : eqb c HL ≡ true = l.1 in
        eq_case (λ x. Holds far x b) a HL k.0 (eq_case (Holds far HL) b DQ l.0 (rw e))

    number_exit : (eqb a NU && member (NU ∷ AHLetter) b) ≡ true → Joins far a b
    unfolding decided from_WB1 from_WB3 from_WB3c from_WB5 from_WB7a from_WB8
    number_exit h =
        let k = and_both (eqb a NU) (member (NU ∷ AHLetter) b) h in
        eq_case (λ x. Joins far x b) a NU k.0 (in_case (Joins far NU) (NU ∷ AHLetter) b k.1 (refl, (refl, (refl, tt))))

    mid_number_exit : (eqb a NU && (member mid_numbers b && eqb c NU)) ≡ true → Holds far a b
    unfolding decided from_WB1 from_WB3 from_WB3c from_WB5 from_WB7a from_WB8
    mid_number_exit h =
        let k = and_both (eqb a NU) (member mid_numbers b && eqb c NU) h in
        let l = and_both (member mid_numbers b) (eqb c NU) k.1 in
        let e : eqb c NU ≡ true = l.1 in
        eq_case (λ x. Holds far x b) a NU k.0 (in_case (Holds far NU) mid_numbers b l.0 (rw e, (rw e, (rw e, tt))))

    katakana_exit : (eqb a KA && eqb b KA) ≡ true → Joins far a b
    unfolding decided from_WB1 from_WB3 from_WB3c from_WB5 from_WB7a from_WB8 from_WB13
    katakana_exit h = pair_case (Joins far) KA KA a b h refl

    to_extender_exit : (eqb b EX && member extended a) ≡ true → Joins far a b
    unfolding decided from_WB1 from_WB3 from_WB3c from_WB5 from_WB7a from_WB8 from_WB13
    to_extender_exit h =
        let k = and_both (eqb b EX) (member extended a) h in
        eq_case (Joins far a) b EX k.0 (in_case (λ x. Joins far x EX) extended a k.1 (refl, (refl, (refl, (refl, (refl, tt))))))

    from_extender_exit : (eqb a EX && member extendable b) ≡ true → Joins far a b
    unfolding decided from_WB1 from_WB3 from_WB3c from_WB5 from_WB7a from_WB8 from_WB13
    from_extender_exit h =
        let k = and_both (eqb a EX) (member extendable b) h in
        eq_case (λ x. Joins far x b) a EX k.0 (in_case (Joins far EX) extendable b k.1 (refl, (refl, (refl, (refl, tt)))))

  released_exit : (far a b : ℕ) → held far a b ≡ true → Releases far a b
  unfolding decided from_WB1 from_WB3 from_WB3c from_WB5 from_WB7a from_WB8
  released_exit far a b h =
      either_case (Releases far a b) ((member mid_letters a && member AHLetter far) && member AHLetter b) _ h
      (λ l. let k = and_both (member mid_letters a && member AHLetter far) (member AHLetter b) l in
      let m = and_both (member mid_letters a) (member AHLetter far) k.0 in
      in_case (λ w. Releases w a b) AHLetter far m.1 (
        set_case (Releases ALetter) mid_letters AHLetter a b m.0 k.1 ((refl, (refl, tt)), ((refl, (refl, tt)), ((refl, (refl, tt)), tt))),
        (set_case (Releases HL) mid_letters AHLetter a b m.0 k.1 ((refl, (refl, tt)), ((refl, (refl, tt)), ((refl, (refl, tt)), tt))), tt),
      ))
      (λ n r. either_case (Releases far a b) ((eqb a DQ && eqb far HL) && eqb b HL) _ r
      (λ l. let k = and_both (eqb a DQ && eqb far HL) (eqb b HL) l in
      pair_case (λ x w. Releases w x b) DQ HL a far k.0 (eq_case (Releases HL DQ) b HL k.1 refl))
      (λ n' l. let k = and_both (member mid_numbers a && eqb far NU) (eqb b NU) l in
      let m = and_both (member mid_numbers a) (eqb far NU) k.0 in
      eq_case (λ w. Releases w a b) far NU m.1 (eq_case (Releases NU a) b NU k.1 (in_case (λ x. Releases NU x NU) mid_numbers a m.0 (refl, (refl, (refl, tt)))))))

  -- where no exit above those of RI is taken
  module _ (far a b : ℕ) (nh : held far a b ≡ false) (n1 : (eqb a CR && eqb b LF) ≡ false) (n2 : (member newlines a || member newlines b) ≡ false) (n3 : (eqb a ZWJ && eqb p 1) ≡ false) (n4 : member ignored b ≡ false)
      (n5 : (eqb a WSegSpace && eqb b WSegSpace) ≡ false) (n6 : (member AHLetter a && member (NU ∷ AHLetter) b) ≡ false) (n7 : (member AHLetter a && (member mid_letters b && member AHLetter c)) ≡ false)
      (n8 : (eqb a HL && eqb b SQ) ≡ false) (n9 : (eqb a HL && (eqb b DQ && eqb c HL)) ≡ false) (n10 : (eqb a NU && member (NU ∷ AHLetter) b) ≡ false) (n11 : (eqb a NU && (member mid_numbers b && eqb c NU)) ≡ false)
      (n12 : (eqb a KA && eqb b KA) ≡ false) (n13 : (eqb b EX && member extended a) ≡ false) (n14 : (eqb a EX && member extendable b) ≡ false) where
    decided_last : decided (seen_past far o a) b p c ≡ cond (eqb b RI) (not (eqb a RI && not o)) true
    unfolding decided from_WB1 from_WB3 from_WB3c from_WB5 from_WB7a from_WB8 from_WB13 from_WB15
    decided_last =
        let by-newline = neither (member newlines a) (member newlines b) n2 in
        let letters = spread (member AHLetter a) (eqb b NU) (member AHLetter b) n6 in
        let numbers = spread (eqb a NU) (eqb b NU) (member AHLetter b) n10 in
        let wb7 = neither ((member mid_letters a && member AHLetter far) && member AHLetter b) (((eqb a DQ && eqb far HL) && eqb b HL) || ((member mid_numbers a && eqb far NU) && eqb b NU)) nh in
        let wb7c = neither ((eqb a DQ && eqb far HL) && eqb b HL) ((member mid_numbers a && eqb far NU) && eqb b NU) wb7.1 in
        rw (n1, by-newline.0, by-newline.1, n3, n5, n4, letters.1, n7, wb7.0, n8, n9, wb7c.0, numbers.0, letters.0, numbers.1, wb7c.1, n11, n12, swapped (eqb b EX) (member extended a) n13, n14)

    held_none : held a b c ≡ false
    held_none =
        rw (turned (member AHLetter a) (member mid_letters b) (member AHLetter c) n7, turned (eqb a HL) (eqb b DQ) (eqb c HL) n9, turned (eqb a NU) (member mid_numbers b) (eqb c NU) n11)

    flags_exit : (s : WordState) → leaves s b (flag_rules a b (count_of a (eqb a RI && not o))) ≡ Right far a b
    unfolding flag_rules
    flags_exit s = flags s b (eqb a RI) (eqb b RI) o ∙ told_same b _ _ _ _ _ _ held_none refl (ap (λ t. cond t 1 0) decided_last)

  not_zwj : (a : ℕ) → member ignored a ≡ false → (eqb a ZWJ && eqb p 1) ≡ false
  not_zwj a h =
      let k = neither (eqb a Extend) (eqb a FO || (eqb a ZWJ || false)) h in
      let l = neither (eqb a FO) (eqb a ZWJ || false) k.1 in
      rw (neither (eqb a ZWJ) false l.1).0

  -- the step
  pub step_right : (next : Next) → Looks next c → (far a b : ℕ) → member ignored a ≡ false → member ignored b ≡ false → (member newlines a && eqb b RI) ≡ false
      → ruled (machine (seen_past far o a) b) b p next ≡ Right far a b
  unfolding exit_of pair_rules letter_rules number_rules leaves
  step_right next looks far a b na n4 plain =
      let s : WordState = machine (seen_past far o a) b in
      let r : WordStep = Right far a b in
      by_exit s b r (held far a b) Released _ (released_exit far a b) (λ nh.
      by_exit s b r (eqb a CR && eqb b LF) Joined _ (newlines_exit far a b) (λ n1.
      by_exit s b r (member newlines a || member newlines b) Parted _ (parted_exit far a b n1 plain) (λ n2.
      by_exit s b r (eqb a ZWJ && eqb p 1) Joined _ (λ h. absurd (true≢false (sym h ∙ not_zwj a na))) (λ n3.
      by_exit s b r (member ignored b) Ignored _ (λ h. absurd (true≢false (sym h ∙ n4))) (λ _.
      by_exit s b r (eqb a WSegSpace && eqb b WSegSpace) Joined _ (space_exit far a b) (λ n5.
      by_exit s b r (member AHLetter a && member (NU ∷ AHLetter) b) Joined _ (letter_exit far a b) (λ n6.
      by_exit s b r (member AHLetter a && (member mid_letters b && next_in AHLetter next)) Held _ (λ h. mid_letter_exit far a b (rw looks.letter at h)) (λ n7.
      by_exit s b r (eqb a HL && eqb b SQ) Joined _ (λ h. hebrew_single_exit far a b h (rw looks.letter at n7)) (λ n8.
      by_exit s b r (eqb a HL && (eqb b DQ && next_in (HL ∷ []) next)) Held _ (λ h. hebrew_double_exit far a b (rw looks.hebrew at h)) (λ n9.
      by_exit s b r (eqb a NU && member (NU ∷ AHLetter) b) Joined _ (number_exit far a b) (λ n10.
      by_exit s b r (eqb a NU && (member mid_numbers b && next_in (NU ∷ []) next)) Held _ (λ h. mid_number_exit far a b (rw looks.number at h)) (λ n11.
      by_exit s b r (eqb a KA && eqb b KA) Joined _ (katakana_exit far a b) (λ n12.
      by_exit s b r (eqb b EX && member extended a) Joined _ (to_extender_exit far a b) (λ n13.
      by_exit s b r (eqb a EX && member extendable b) Joined _ (from_extender_exit far a b) (λ n14.
      flags_exit far a b nh n1 n2 n3 n4 n5 n6 (rw looks.letter at n7) n8 (rw looks.hebrew at n9) n10 (rw looks.number at n11) n12 n13 n14 s)))))))))))))))

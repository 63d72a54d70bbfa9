-- The loop over split records, as its code has it: its spot is its place in the stream. Assumes nothing.
use Prim.Native.Nat.{ℕ, ◌+◌, ◌-◌, ◌<◌}
use mathlib.Core.Path.{◌≡◌, refl, sym, ◌∙◌, ap, subst}
use mathlib.Core.Bool.{Bool, true, false, cond, ◌&&◌}
use mathlib.Core.List.{List, [], ◌∷◌}
use native.Mathlib.Omega.{arith}
use native.Mathlib.Numerals.{add-one}
use lib.Dec.{eqb}
use lib.ListN.{length, get_or, drop, length-drop}
use lib.Seq.{drop-cons}
use borrow.Author.Tests.{eqb-true, eqb-false}
use Rattle.basics.proofs.Tests.{by_test}
use Rattle.basics.specs.Sets.{member}
use Rattle.classes.specs.Scalar.{khmer_signs}
use Rattle.classes.specs.declared.Mode.{Mode}
use Rattle.classes.specs.declared.Mode.TheVariants.{Crate, Whole}
use Rattle.records.specs.Text.{Text, cell}
use Rattle.records.specs.declared.Parser.{Parser}
use Rattle.records.specs.declared.Parser.TheVariants.{Complex}
use Rattle.records.proofs.Passing.{not_so}
use Rattle.parse.specs.State.{token_at}
use Rattle.stream.specs.declared.spots.Spot.{Spot}
use Rattle.stream.specs.declared.spots.Taken.{Taken}
use Rattle.stream.specs.Stream.{source_of, splits_of, itself, split_in, split_tokens, stream_of}
use Rattle.stream.specs.Inner.{rest, rest_at, Takes}
use Rattle.stream.proofs.Stream.{rest_all}
use Rattle.stream.proofs.Taking.{rest_whole, spot_inside}
use Rattle.segment.specs.declared.going.Going.{Going}
use Rattle.segment.specs.Going.{started, done_by, back_of, refilled, overed, noted, written, turned}
use Rattle.tables.specs.Symbols.{Regular}
use Rattle.segment.specs.declared.going.Stand.{Stand}
use Rattle.segment.specs.Inner.{Roomy}
use Rattle.segment.specs.Standing.{Running}
use Rattle.segment.specs.Seen.{seen_by, Single, use_parser}
use Rattle.segment.specs.Parted.{is_whole, ReadBy, kept_in, spot_after, Apart, Parting}
use Rattle.segment.proofs.Reading.{token_own}
use Rattle.segment.proofs.Regulars.{split_single, even, marks_long}

-- a record that is its token, as the code asks it
module _ (khmer : Bool) (part x decompose : ℕ) where
  pub whole_parts : is_whole khmer part x decompose ≡ true → (part ≡ 0) × Single khmer x decompose
  unfolding is_whole
  whole_parts e = go (eqb decompose 1) (khmer && member khmer_signs x) refl refl e
    where
      go : (a b : Bool) → eqb decompose 1 ≡ a → (khmer && member khmer_signs x) ≡ b → cond a false (cond b false (eqb part 0)) ≡ true → (part ≡ 0) × Single khmer x decompose
      go true b ea eb e = not_so e
      go false true ea eb e = not_so e
      go false false ea eb e = (eqb-true part 0 e, record { marked = ea; sign = eb })

module _ (mode : Mode) (khmer : Bool) (t : Text) where
  abbrev text : List ℕ
  text = split_tokens mode khmer t

  -- what is left at the spot is what is left at the place: of a full cluster at the place that it leaves
  pub record Placed (g : Going) (s : Spot) : Type 0 where
    pub full : g.characters ≡ g.stop → drop (back_of mode g.at) text ≡ rest_at mode khmer t s
    pub under : (g.characters ≡ g.stop → ⊥) → drop g.at text ≡ rest_at mode khmer t s

  pub placed_start : Placed started (record { index = 0; part = 0 })
  placed_start = record {
    full = λ e. absurd (omega (arith, e));
    under = λ e. rest_all (split_in mode khmer t) (length t.records.scalars);
  }

  -- a token that is read, as the code reads it
  module _ (b w : Bool) (seen : List ℕ) (s : Spot) (r : Taken) (e : b ≡ w) where
    pub read_whole : b ≡ true → r.token ≡ token_at seen s.index → r.next ≡ record { index = s.index + 1; part = 0 } → ReadBy w mode khmer t seen s r
    read_whole h et en = subst (λ w. ReadBy w mode khmer t seen s r) (sym h ∙ e) (et, en)

    pub read_split : b ≡ false → Takes mode khmer t s r → ReadBy w mode khmer t seen s r
    read_split h f = subst (λ w. ReadBy w mode khmer t seen s r) (sym h ∙ e) f

  -- it is the stream's
  takes : (b : Bool) (s : Spot) (r : Taken) → is_whole khmer s.part (cell t.records.scalars s.index) (cell t.records.decomposes s.index) ≡ b → ReadBy b mode khmer t (seen_by Complex t) s r → Takes mode khmer t s r
  unfolding itself
  takes true s r e w l =
      let h : s.index < length t.records.scalars = spot_inside mode khmer t s.index s.part l in
      let p = whole_parts khmer s.part (cell t.records.scalars s.index) (cell t.records.decomposes s.index) e in
      let q : split_in mode khmer t s.index ≡ r.token ∷ [] =
      split_single mode khmer (source_of t.records t.records.uses t.records.cemojis) (splits_of t.records) t.parts s.index p.1
      ∙ ap (λ x. x ∷ []) (sym (w.0 ∙ token_own t.records.scalars t.records.uses t.records.breaks t.records.categories t.records.cemojis t.records.selectors s.index h)) in
      ap (rest (split_in mode khmer t) (length t.records.scalars) s.index) p.0
      ∙ rest_whole (split_in mode khmer t) (length t.records.scalars) s.index r.token h q
      ∙ ap (λ (n : Spot). r.token ∷ rest_at mode khmer t n) (sym w.1)
  takes false s r e w l = w l

  module _ (g : Going) (s : Spot) (p : Placed g s) where
    pub placed_refill : (r : Going) → g.characters ≡ g.stop → r ≡ refilled mode g → Placed r s
    placed_refill r f e = subst (λ (r : Going). Placed r s) (sym e) (record { full = λ z. absurd (omega (arith, z)); under = λ z. p.full f })

    module _ (on : g.characters ≡ g.stop → ⊥) (h : g.at < length text) where
      some_left : 0 < length (rest_at mode khmer t s)
      some_left =
          let e : length (drop g.at text) ≡ length (rest_at mode khmer t s) = ap length (p.under on) in
          omega (arith, length-drop g.at text, e)

      pub placed_inside : s.index < length t.records.scalars
      placed_inside = spot_inside mode khmer t s.index s.part some_left

      module _ (r : Taken) (w : ReadBy (is_whole khmer s.part (cell t.records.scalars s.index) (cell t.records.decomposes s.index)) mode khmer t (seen_by Complex t) s r) where
        both : get_or text g.at 0 ∷ drop (g.at + 1) text ≡ r.token ∷ rest_at mode khmer t r.next
        both =
            ap (λ k. get_or text g.at 0 ∷ drop k text) (add-one g.at)
            ∙ sym (drop-cons text g.at 0 h) ∙ p.under on ∙ takes _ s r refl w some_left

        pub placed_token : r.token ≡ token_at text g.at
        placed_token = sym (ap (λ l. get_or l 0 0) both)

        later : drop (g.at + 1) text ≡ rest_at mode khmer t r.next
        later = ap (drop 1) both

        keeps : (m : Mode) → m ≡ mode → drop (back_of m (g.at + 1)) text ≡ rest_at mode khmer t (kept_in m s r.next)
        unfolding back_of
        keeps Crate e = let z : g.at + 1 - 1 ≡ g.at = omega arith in ap (λ k. drop k text) z ∙ p.under on
        keeps Whole e = later

        over : Placed (overed g) s
        over = record { full = λ z. absurd (on z); under = λ z. p.under on }

        moves : (q : Going) → q.at ≡ g.at + 1 → Placed q (cond (eqb q.characters q.stop) (kept_in mode s r.next) r.next)
        moves q e =
            by_test (eqb q.characters q.stop)
            (λ b. subst (λ (n : Spot). Placed q n) (sym (ap (λ b. cond b (kept_in mode s r.next) r.next) b))
            (record { full = λ z. ap (λ k. drop (back_of mode k) text) e ∙ keeps mode refl; under = λ z. absurd (z (eqb-true q.characters q.stop b)) }))
            (λ b. subst (λ (n : Spot). Placed q n) (sym (ap (λ b. cond b (kept_in mode s r.next) r.next) b))
            (record { full = λ z. absurd (eqb-false q.characters q.stop b z); under = λ z. ap (λ k. drop k text) e ∙ later }))

        turning : (v : ℕ) → Placed (turned g v) (spot_after mode v (turned g v) s r.next)
        unfolding turned spot_after
        turning v = by_test (eqb (done_by v) 3)
            (λ a. rw a over)
            (λ a. by_test (eqb (done_by v) 2)
            (λ b. rw (a, b) (moves (noted g v) refl))
            (λ b. rw (a, b) (moves (written g v) refl)))

        pub placed_turn : (v : ℕ) (q : Going) (n : Spot) → q ≡ turned g v → n ≡ spot_after mode v q s r.next → Placed q n
        placed_turn v q n eq en =
            subst (λ (n : Spot). Placed q n) (sym en) (subst (λ (q : Going). Placed q (spot_after mode v q s r.next)) (sym eq) (turning v))

-- the loop by its parser's own name

stream_splits : (khmer : Bool) (mode : Mode) (t : Text) → stream_of mode (use_parser khmer) t ≡ split_tokens mode khmer t
unfolding stream_of
stream_splits true mode t = refl
stream_splits false mode t = refl

module _ (khmer : Bool) (mode : Mode) (t : Text) where
  pub apart : (tokens : ℕ) (s c n : List ℕ) → Parting (use_parser khmer) mode t tokens s c n → Apart khmer mode t tokens s c n
  apart tokens s c n p = let e = stream_splits khmer mode t in record {
    even = even (use_parser khmer) t p.sound (use_parser khmer);
    marks = marks_long (use_parser khmer) t p.sound;
    count = p.count ∙ ap length e;
    regular = subst (λ l. Regular (use_parser khmer) l) e p.regular;
    roomy = subst (λ l. Roomy l s c n) e p.roomy;
  }

  pub parts_reached : (s c n s' c' n' : List ℕ) (r : Stand) → Running (use_parser khmer) mode (split_tokens mode khmer t) s c n s' c' n' r.at r.clusters r.characters → Running (use_parser khmer) mode (stream_of mode (use_parser khmer) t) s c n s' c' n' r.at r.clusters r.characters
  parts_reached s c n s' c' n' r w = subst (λ l. Running (use_parser khmer) mode l s c n s' c' n' r.at r.clusters r.characters) (sym (stream_splits khmer mode t)) w

module _ (p q : Parser) (e : p ≡ q) (mode : Mode) (t : Text) where
  pub parting_as : (tokens : ℕ) (s c n : List ℕ) → Parting p mode t tokens s c n → Parting q mode t tokens s c n
  parting_as tokens s c n w = subst (λ p. Parting p mode t tokens s c n) e w

  pub reached_by : (s c n s' c' n' : List ℕ) (r : Stand) → Running q mode (stream_of mode q t) s c n s' c' n' r.at r.clusters r.characters → Running p mode (stream_of mode p t) s c n s' c' n' r.at r.clusters r.characters
  reached_by s c n s' c' n' r w = subst (λ p. Running p mode (stream_of mode p t) s c n s' c' n' r.at r.clusters r.characters) (sym e) w

-- "Exactly when", on accepted texts that have room for two records more: where more is wanted, an accepted text that extends this one is
-- answered otherwise. Assumes nothing.
use Rattle.std.specs.Prelude.{Ok}
use Prim.Native.Nat.{ℕ, ◌+◌, ◌-◌, ◌<◌, ◌≤◌}
use mathlib.Core.Path.{◌≡◌, refl, sym, ◌∙◌, ap, subst}
use mathlib.Core.Bool.{true, false, false≢true}
use mathlib.Core.List.{List, [], ◌∷◌, ◌++◌, append_assoc}
use mathlib.Core.Logic.{⊎_elim}
use native.Mathlib.Omega.{arith}
use lib.ListN.{length, get_or, length-append}
use Rattle.basics.specs.Sets.{member}
use Rattle.basics.proofs.Tests.{by_test}
use Rattle.classes.specs.declared.Mode.{Mode}
use Rattle.classes.specs.ClusterBreak as ClusterBreak
use Rattle.classes.specs.Scalar.{CGJ, ASAT, VIRAMA, khmer_signs}
use Rattle.classes.specs.Scalar as Scalar
use Rattle.records.specs.declared.Row.{Row}
use Rattle.records.specs.Text.{Text, cell}
use Rattle.records.specs.Refusals.{verdict, bad_scalar, barred, bad_sign, is_khmer}
use Rattle.records.specs.Sound.{SoundRow}
use Rattle.records.specs.declared.Parser.{Parser}
use Rattle.records.specs.declared.Parser.TheVariants.{Simple, Myanmar, Complex, Khmer}
use Rattle.records.proofs.Accepted.{accepted_sound}
use Rattle.token.specs.Token.{index_of}
use Rattle.token.proofs.Fields.{scalar_packed, kind_packed, index_packed}
use Rattle.stream.specs.Stream.{stream_of}
use Rattle.stream.proofs.Accepted.{stream_room}
use Rattle.segment.specs.Calls.{called}
use Rattle.open.specs.Calls.{looks, wants, Differ}
use Rattle.open.specs.Texts.{Extends, with_record, TextUnsettled}
use Rattle.open.proofs.Texts.{stream_grows}
use Rattle.open.proofs.Records.{token_for, extends, more_accepted, more_stream, token_record}
use Rattle.open.proofs.Kinzi.{arm, two_differ, one_differs}
use Rattle.open.proofs.Newline.{newline_differs}
use Rattle.open.proofs.Wanted.{Joining, step_differs, unwanted_settled}

-- a record of a scalar and a cluster break, with no mark and no part, and code 0 in the other lists
abbrev row : ℕ → ℕ → Row
row x b = record { scalar = x; breaks = b; uses = 0; myanmar = 0; category = 0; word = 0; semoji = 0; memoji = 0; cemoji = 0; pictograph = 0; selector = 0; decompose = 0; first = 0; count = 0 }

-- no check refuses it, and it is one token
record Plain (parser : Parser) (x b : ℕ) : Type 0 where
  scalar : bad_scalar x ≡ false
  break : b < ClusterBreak.len
  free : barred parser x 0 ≡ false
  single : member khmer_signs x ≡ false

module _ (parser : Parser) (x b : ℕ) (p : Plain parser x b) (t : Text) (accepted : verdict parser t ≡ Ok tt) (room : length t.records.scalars < 4096) where
  sound : SoundRow parser (length t.parts.pscalars) (row x b)
  sound = record {
    scalar = p.scalar;
    breaks = p.break;
    uses = omega arith;
    myanmar = omega arith;
    category = omega arith;
    word = omega arith;
    semoji = omega arith;
    memoji = omega arith;
    cemoji = omega arith;
    pictograph = omega arith;
    selector = omega arith;
    decompose = omega arith;
    count = omega arith;
    run = omega arith;
    free = p.free;
  }

  sign : is_khmer parser ≡ true → bad_sign 0 x 0 (cell t.parts.pscalars 0) ≡ false
  unfolding bad_sign
  sign k = rw p.single

  next_accepted : verdict parser (with_record t (row x b)) ≡ Ok tt
  next_accepted = more_accepted parser t (row x b) accepted room sound sign

  next_extends : Extends t (with_record t (row x b))
  next_extends = extends parser t (row x b) accepted room sound sign

  next_stream : (mode : Mode) → stream_of mode parser (with_record t (row x b)) ≡ stream_of mode parser t ++ (token_for parser (row x b) (length t.records.scalars) ∷ [])
  next_stream mode = more_stream parser t (row x b) accepted room sound sign mode refl p.single

  -- a text with one more record that is answered otherwise
  by_one : (mode : Mode) (at : ℕ) → Differ parser mode (stream_of mode parser t) (stream_of mode parser t ++ (token_for parser (row x b) (length t.records.scalars) ∷ [])) at → TextUnsettled parser mode t at
  by_one mode at d = (with_record t (row x b), (next_accepted, (next_extends, subst (λ s. Differ parser mode (stream_of mode parser t) s at) (sym (next_stream mode)) d)))

extends_twice : (a b c : Text) → Extends a b → Extends b c → Extends a c
extends_twice a b c x y =
    let n = x.long in
    let m = x.long_parts in
    record {
      long = omega (arith, y.long);
      long_parts = omega (arith, y.long_parts);
      records = record {
        scalars = λ i h. y.records.scalars i (omega arith) ∙ x.records.scalars i h;
        breaks = λ i h. y.records.breaks i (omega arith) ∙ x.records.breaks i h;
        uses = λ i h. y.records.uses i (omega arith) ∙ x.records.uses i h;
        myanmars = λ i h. y.records.myanmars i (omega arith) ∙ x.records.myanmars i h;
        categories = λ i h. y.records.categories i (omega arith) ∙ x.records.categories i h;
        words = λ i h. y.records.words i (omega arith) ∙ x.records.words i h;
        semojis = λ i h. y.records.semojis i (omega arith) ∙ x.records.semojis i h;
        memojis = λ i h. y.records.memojis i (omega arith) ∙ x.records.memojis i h;
        cemojis = λ i h. y.records.cemojis i (omega arith) ∙ x.records.cemojis i h;
        pictographs = λ i h. y.records.pictographs i (omega arith) ∙ x.records.pictographs i h;
        selectors = λ i h. y.records.selectors i (omega arith) ∙ x.records.selectors i h;
        decomposes = λ i h. y.records.decomposes i (omega arith) ∙ x.records.decomposes i h;
        firsts = λ i h. y.records.firsts i (omega arith) ∙ x.records.firsts i h;
        counts = λ i h. y.records.counts i (omega arith) ∙ x.records.counts i h;
      };
      parts = record {
        scalars = λ i h. y.parts.scalars i (omega arith) ∙ x.parts.scalars i h;
        breaks = λ i h. y.parts.breaks i (omega arith) ∙ x.parts.breaks i h;
        uses = λ i h. y.parts.uses i (omega arith) ∙ x.parts.uses i h;
        categories = λ i h. y.parts.categories i (omega arith) ∙ x.parts.categories i h;
      };
    }

-- U+034F, LF, U+103A and U+1039
plain_joiner : (parser : Parser) → Plain parser CGJ ClusterBreak.EX
unfolding bad_scalar barred
plain_joiner Simple = record { scalar = refl; break = omega arith; free = refl; single = refl }
plain_joiner Myanmar = record { scalar = refl; break = omega arith; free = refl; single = refl }
plain_joiner Complex = record { scalar = refl; break = omega arith; free = refl; single = refl }
plain_joiner Khmer = record { scalar = refl; break = omega arith; free = refl; single = refl }

plain_newline : Plain Simple Scalar.LF ClusterBreak.LF
unfolding bad_scalar barred
plain_newline = record { scalar = refl; break = omega arith; free = refl; single = refl }

plain_asat : Plain Myanmar ASAT 0
unfolding bad_scalar barred
plain_asat = record { scalar = refl; break = omega arith; free = refl; single = refl }

plain_virama : Plain Myanmar VIRAMA 0
unfolding bad_scalar barred
plain_virama = record { scalar = refl; break = omega arith; free = refl; single = refl }

-- what their tokens say
joins_all : (parser : Parser) (n : ℕ) → Joining parser (token_for parser (row CGJ ClusterBreak.EX) n)
joins_all Simple n = kind_packed CGJ ClusterBreak.EX ClusterBreak.EX 0 0 0 n (omega arith)
joins_all Myanmar n = scalar_packed CGJ 0 ClusterBreak.EX 0 0 0 n (omega arith)
joins_all Complex n = scalar_packed CGJ 0 ClusterBreak.EX 0 0 0 n (omega arith)
joins_all Khmer n = scalar_packed CGJ 0 ClusterBreak.EX 0 0 0 n (omega arith)

index_all : (parser : Parser) (n : ℕ) → n < 4096 → index_of (token_for parser (row CGJ ClusterBreak.EX) n) ≡ n
index_all Simple n l = index_packed CGJ ClusterBreak.EX ClusterBreak.EX 0 0 0 n l
index_all Myanmar n l = index_packed CGJ 0 ClusterBreak.EX 0 0 0 n l
index_all Complex n l = index_packed CGJ 0 ClusterBreak.EX 0 0 0 n l
index_all Khmer n l = index_packed CGJ 0 ClusterBreak.EX 0 0 0 n l

module _ (mode : Mode) (t : Text) (at : ℕ) (room : length t.records.scalars + 2 ≤ 4096) where
  abbrev n : ℕ
  n = length t.records.scalars

  module _ (parser : Parser) (accepted : verdict parser t ≡ Ok tt) (inside : at < length (stream_of mode parser t)) where
    abbrev stream : List ℕ
    stream = stream_of mode parser t

    pub short : length stream < 65535
    short = omega (arith, stream_room mode parser t (accepted_sound parser t accepted))

    -- a step off the last token
    stepped : (called parser mode stream at).done ≡ true → TextUnsettled parser mode t at
    stepped d =
        let x = token_for parser (row CGJ ClusterBreak.EX) n in
        let last : index_of (get_or stream (length stream - 1) 0) < n = token_record mode parser t (omega arith) (length stream - 1) (omega arith) in
        by_one parser CGJ ClusterBreak.EX (plain_joiner parser) t accepted (omega arith) mode at
        (step_differs stream short at inside mode parser x (joins_all parser n) (λ e. omega (arith, e, index_all parser n (omega arith))) d)

  -- the newline's look
  newline_looked : verdict Simple t ≡ Ok tt → at < length (stream_of mode Simple t) → looks Simple mode (stream_of mode Simple t) at ≡ true → (called Simple mode (stream_of mode Simple t) at).done ≡ false → TextUnsettled Simple mode t at
  newline_looked accepted inside l d = by_one Simple Scalar.LF ClusterBreak.LF plain_newline t accepted (omega arith) mode at
      (newline_differs (stream_of mode Simple t) (token_for Simple (row Scalar.LF ClusterBreak.LF) n) (kind_packed Scalar.LF ClusterBreak.LF ClusterBreak.LF 0 0 0 n (omega arith)) at inside mode l d)

  -- the kinzi's: one record is missing, or two
  module _ (accepted : verdict Myanmar t ≡ Ok tt) (inside : at < length (stream_of mode Myanmar t)) (l : looks Myanmar mode (stream_of mode Myanmar t) at ≡ true) where
    abbrev tokens : List ℕ
    tokens = stream_of mode Myanmar t

    fits : length tokens ≤ 65535
    fits = omega (arith, short Myanmar accepted inside)

    two_missing : at + 1 ≡ length tokens → TextUnsettled Myanmar mode t at
    two_missing m =
        let u = with_record t (row ASAT 0) in
        let a = token_for Myanmar (row ASAT 0) n in
        let v = token_for Myanmar (row VIRAMA 0) (length u.records.scalars) in
        let more : length u.records.scalars ≡ n + 1 = length-append t.records.scalars (ASAT ∷ []) in
        let ok = next_accepted Myanmar ASAT 0 plain_asat t accepted (omega arith) in
        let once = next_extends Myanmar ASAT 0 plain_asat t accepted (omega arith) in
        let twice = next_extends Myanmar VIRAMA 0 plain_virama u ok (omega arith) in
        let whole : stream_of mode Myanmar (with_record u (row VIRAMA 0)) ≡ tokens ++ (a ∷ v ∷ []) =
        next_stream Myanmar VIRAMA 0 plain_virama u ok (omega arith) mode ∙ ap (λ s. s ++ (v ∷ [])) (next_stream Myanmar ASAT 0 plain_asat t accepted (omega arith) mode) ∙ append_assoc tokens (a ∷ []) (v ∷ []) in
        let differ = two_differ tokens at inside mode fits l m a v (scalar_packed ASAT 0 0 0 0 0 n (omega arith)) (scalar_packed VIRAMA 0 0 0 0 0 (length u.records.scalars) (omega arith)) in
        (with_record u (row VIRAMA 0), (next_accepted Myanmar VIRAMA 0 plain_virama u ok (omega arith), (extends_twice t u (with_record u (row VIRAMA 0)) once twice, subst (λ s. Differ Myanmar mode tokens s at) (sym whole) differ)))

    kinzi_looked : TextUnsettled Myanmar mode t at
    kinzi_looked = ⊎_elim two_missing
        (λ m. by_one Myanmar VIRAMA 0 plain_virama t accepted (omega arith) mode at
        (one_differs tokens at inside mode fits l m.0 m.1 (token_for Myanmar (row VIRAMA 0) n) (scalar_packed VIRAMA 0 0 0 0 0 n (omega arith))))
        (arm tokens at inside mode fits l).missing

  looked : (parser : Parser) → verdict parser t ≡ Ok tt → at < length (stream_of mode parser t) → looks parser mode (stream_of mode parser t) at ≡ true → (called parser mode (stream_of mode parser t) at).done ≡ false → TextUnsettled parser mode t at
  looked Simple accepted inside l d = newline_looked accepted inside l d
  looked Myanmar accepted inside l d = kinzi_looked accepted inside l
  looked Complex accepted inside l d = absurd (false≢true (unfold looks in l))
  looked Khmer accepted inside l d = absurd (false≢true (unfold looks in l))

  -- **Where more is wanted on an accepted text, the records to come decide.**
  pub texts_unsettled : (parser : Parser) → verdict parser t ≡ Ok tt → at < length (stream_of mode parser t) → wants parser mode (stream_of mode parser t) at ≡ true → TextUnsettled parser mode t at
  unfolding wants
  texts_unsettled parser accepted inside w = by_test (called parser mode (stream_of mode parser t) at).done
      (λ d. stepped parser accepted inside d) (λ d. looked parser accepted inside (rw d at w) d)

-- **And where it is not, no accepted text that extends this one is answered otherwise.**
pub texts_settled : (parser : Parser) (mode : Mode) (t : Text) (at : ℕ) → verdict parser t ≡ Ok tt → at < length (stream_of mode parser t) → wants parser mode (stream_of mode parser t) at ≡ false → TextUnsettled parser mode t at → ⊥
texts_settled parser mode t at accepted inside w u =
    let g = stream_grows mode parser t u.0 accepted u.1.1.0 in
    unwanted_settled (stream_of mode parser t) (omega (arith, stream_room mode parser t (accepted_sound parser t accepted))) at inside mode parser w
    (g.0, subst (λ s. Differ parser mode (stream_of mode parser t) s at) g.1 u.1.1.1)

-- A stepping call with spans: what its code rests on. Assumes nothing.
use Prim.Native.Nat.{ℕ, ◌≤◌}
use mathlib.Core.Path.{◌≡◌, refl, sym, ◌∙◌, ap, subst}
use mathlib.Core.List.{List}
use native.Mathlib.Omega.{arith}
use lib.ListN.{length, replicate, length-take}
use Rattle.records.specs.Text.{Text}
use Rattle.stream.specs.Stream.{most_tokens}
use Rattle.parse.specs.declared.Cluster.{Cluster}
use Rattle.parse.specs.State.{empty_cluster}
use Rattle.segment.specs.declared.Segmenter.{Segmenter}
use Rattle.segment.specs.declared.Answer.{Answer}
use Rattle.segment.specs.Calls.{next_of, called, refused, end, found}
use Rattle.segment.specs.Inner.{Streamed}
use Rattle.segment.proofs.CallLaws.{streamed}
use Rattle.segment.proofs.CallTurns.{call_most, call_length}
use Rattle.segment.proofs.Coverage.{tokens, next_case, accepted_short}
use Rattle.spans.specs.declared.Spans.{Spans}
use Rattle.spans.specs.Offsets.{offset_of}
use Rattle.spans.specs.Spans.{spans_from, end_from, no_span, spans_of, spanned}
use Rattle.spans.specs.Inner.{Spannable, SpansAt}

-- "The empty cluster has 0 and 0"
abbrev pub no_spans : Spans
no_spans = record { chars = replicate 32 no_span; start = 0; end = 0 }

pub none_spanned : (scalars stream : List ℕ) (at : ℕ) (c : Cluster) → c.len ≡ 0 → no_spans ≡ spans_of scalars stream at c
unfolding spans_of spans_from end_from offset_of
none_spanned scalars stream at c e = rw e

-- a cluster that is not empty is of a call inside an accepted text
pub some_spannable : (s : Segmenter) (t : Text) (a : Answer) → a ≡ next_of s t → (a.cluster.len ≡ 0 → ⊥) → Spannable s t a.cluster most_tokens
unfolding refused end found empty_cluster
some_spannable s t a e n = subst (λ (b : Answer). Spannable s t b.cluster most_tokens) (sym e) (go (λ z. n (ap (λ (b : Answer). b.cluster.len) e ∙ z)))
  where
    go : ((next_of s t).cluster.len ≡ 0 → ⊥) → Spannable s t (next_of s t).cluster most_tokens
    go = next_case s t (λ b. (b.cluster.len ≡ 0 → ⊥) → Spannable s t b.cluster most_tokens)
        (λ r v z. absurd (z refl)) (λ v l z. absurd (z refl)) (λ v l z. absurd (z refl))
        (λ v l z.
        let held : Streamed s.mode s.parser t = streamed s.mode s.parser t v in
        let short : length (tokens s t) ≤ 65535 = accepted_short s.mode s.parser t v in
        record {
          streamed = held;
          fits = held.room;
          most = call_most s.parser s.mode (tokens s t) short s.place.at l;
          cells = omega (arith, call_length s.parser s.mode (tokens s t) short s.place.at l, length-take (called s.parser s.mode (tokens s t) s.place.at).len (called s.parser s.mode (tokens s t) s.place.at).chars);
          near = omega (arith, held.room);
        })

-- the answer and the spans beside it
module _ (s : Segmenter) (t : Text) (a : Answer) (e : a ≡ next_of s t) where
  pub spanned_some : (r : Spans) → SpansAt s t a.cluster r → record { answer = a; spans = r } ≡ spanned s t
  unfolding spanned
  spanned_some r h = rw (h, e)

  pub spanned_none : a.cluster.len ≡ 0 → record { answer = a; spans = no_spans } ≡ spanned s t
  spanned_none z = spanned_some no_spans (none_spanned t.records.scalars (tokens s t) s.place.at a.cluster z)

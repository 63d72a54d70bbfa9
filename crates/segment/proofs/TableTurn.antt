-- One turn of a run by a table: a cluster under way, one token more, and what has been written to the three columns.
-- Assumes nothing.
use Prim.Native.Nat.{ℕ, zero, suc, ◌+◌, ◌-◌, ◌<◌, ◌≤◌}
use mathlib.Core.Path.{◌≡◌, refl, sym, ◌∙◌, ap, subst}
use mathlib.Core.Bool.{Bool, true, false, cond}
use mathlib.Core.List.{List, [], ◌∷◌, ◌++◌, map, map-append}
use native.Mathlib.Omega.{arith}
use native.Mathlib.Numerals.{add-one}
use lib.Dec.{eqb}
use lib.ListN.{length, set, get_or, take as upto, length-set, length-map}
use lib.Seq.{sets, take-suc-set, length-take-le}
use Rattle.classes.specs.Shape.{shape_code}
use Rattle.classes.specs.Scalar.{CGJ}
use Rattle.classes.specs.declared.Mode.{Mode}
use Rattle.classes.specs.declared.Shape.{Shape}
use Rattle.classes.specs.declared.Shape.TheVariants.{Other}
use Rattle.token.specs.Token.{scalar_of}
use Rattle.records.specs.declared.Parser.{Parser}
use Rattle.parse.specs.declared.Parse.{Parse}
use Rattle.parse.specs.declared.Pushed.{Pushed}
use Rattle.parse.specs.declared.Flow.TheVariants.{Stop, Full, End}
use Rattle.parse.specs.State.{token_at, filled_at, begin, place_of, nothing, char_of, noted_more, going, with_place, with_flow, with_done, put_of, moved_of, on_joiner, hop}
use Rattle.parse.specs.Rule.{Rule, Test, run}
use Rattle.parse.specs.Cover.{pushed}
use Rattle.parse.proofs.Loop.{loop_goes, loop_stays}
use Rattle.parse.proofs.Moves.{hop_falls}
use Rattle.segment.specs.Calls.{grammar, joins, called}
use Rattle.segment.specs.Runs.{scalar_in, class_in, cluster_in}
use Rattle.segment.specs.Inner.{Roomy}
use Rattle.segment.proofs.Written.{sets_append}
use Rattle.segment.specs.Standing.{Running}
use Rattle.segment.proofs.CallTurns.{run_turn}
use Rattle.residual.proofs.Residual.{put, noted, Marks, Res, pass, halt, act, first, marked, Claim, Calm, Inside, Fine, first_run, FineRes, fine_first}
use Rattle.parse.proofs.Steps.{plus, put_plus, moved_next, moved_end, moved_full}
use Rattle.residual.proofs.Steps.{more, noted_more_lem, pend, pend_still, single, does_single}
use Rattle.tables.proofs.Cells.{Cell, over, sets_as, notes, opens, cell_of, fresh, or_fresh}

-- what a character more and a note more make of the characters

pushed_plus : (t : ℕ) (c : Shape) (s : Parse) → s.len < length s.chars → pushed (plus t c s) ≡ pushed s ++ (char_of t c ∷ [])
pushed_plus t c s h = ap (λ n. upto n (set s.chars s.len (char_of t c))) (add-one s.len) ∙ take-suc-set s.chars s.len (char_of t c) h

col_put : (g : Pushed → ℕ) (l l₁ : List ℕ) (w t : ℕ) (c : Shape) (s : Parse) → s.len < length s.chars → l ≡ sets l₁ w (map g (pushed s)) → set l (w + s.len) (g (char_of t c)) ≡ sets l₁ w (map g (pushed (plus t c s)))
col_put g l l₁ w t c s h e =
    let n : length (map g (pushed s)) ≡ s.len = length-map (pushed s) g ∙ length-take-le s.len s.chars (omega arith) in
    rw (pushed_plus t c s h, map-append g (pushed s) (char_of t c ∷ []), sets_append l₁ (map g (pushed s)) (g (char_of t c) ∷ []) w, n, e)

map_noted : (g : Pushed → ℕ) → ((x : Pushed) → g (noted_more x) ≡ g x) → (n i : ℕ) (cs : List Pushed) → map g (upto n (set cs i (noted_more (get_or cs i nothing)))) ≡ map g (upto n cs)
map_noted g h zero i cs = refl
map_noted g h (suc n) i [] = refl
map_noted g h (suc n) zero (x ∷ xs) = ap (λ v. v ∷ map g (upto n xs)) (h x)
map_noted g h (suc n) (suc i) (x ∷ xs) = ap (λ r. g x ∷ r) (map_noted g h n i xs)

-- U+034F, where it is stepped over
abbrev pub joiner : Bool → ℕ → Bool
joiner j x = cond j (eqb x CGJ) false

-- a call that goes on before the end, with room
record Open (parser : Parser) (mode : Mode) (text : List ℕ) (s : Parse) : Type 0 where
  goes : going s ≡ true
  inside : s.at < length text
  undone : s.done ≡ false
  its_mode : s.mode ≡ mode
  its_joins : s.joins ≡ joins parser
  room : s.len < 32
  has : length s.chars ≡ 32

module _ (parser : Parser) (mode : Mode) (text scalars₀ classes₀ clusters₀ : List ℕ) (roomy : Roomy text scalars₀ classes₀ clusters₀) (answer : ℕ → Test → Bool) (sample : ℕ → ℕ) where
  -- a run that stands between two clusters
  abbrev pub Between : List ℕ → List ℕ → List ℕ → ℕ → ℕ → ℕ → Type 0
  Between scalars classes clusters i num o = Running parser mode text scalars₀ classes₀ clusters₀ scalars classes clusters i num o

  -- the cluster of number k, begun at a place where w characters were written: its call is at s, and its characters so far are in the columns
  record Begun (scalars classes clusters : List ℕ) (k w : ℕ) (s : Parse) (left : Parse) : Type 0 where
    from : ℕ
    scalars₁ : List ℕ
    classes₁ : List ℕ
    clusters₁ : List ℕ
    running : Between scalars₁ classes₁ clusters₁ from k w
    before : from < length text
    call : left ≡ called parser mode text from
    scalar : scalars ≡ sets scalars₁ w (map (scalar_in k) (pushed s))
    class : classes ≡ sets classes₁ w (map (class_in k) (pushed s))
    cluster : clusters ≡ sets clusters₁ w (map (cluster_in k) (pushed s))

  -- the call is at its end
  finished : (scalars classes clusters : List ℕ) (k w i : ℕ) (s : Parse) → Begun scalars classes clusters k w s s → i ≡ place_of text s → Between scalars classes clusters i (k + 1) (w + s.len)
  finished scalars classes clusters k w i s b e =
      run_turn parser mode text scalars₀ classes₀ clusters₀ b.scalars₁ b.classes₁ b.clusters₁ b.from k w roomy b.running b.before s b.call
      scalars classes clusters i b.scalar b.class b.cluster e

  -- a cluster under way, at place i: num clusters are begun, o characters written, it is full at stop
  pub record Under (left : Rule) (scalars classes clusters : List ℕ) (i num stop o : ℕ) : Type 0 where
    k : ℕ
    w : ℕ
    s : Parse
    here : s.at ≡ i
    opened : Open parser mode text s
    some : 0 < s.len
    number : num ≡ k + 1
    to : o ≡ w + s.len
    full : stop ≡ w + 32
    fit : Fine text answer sample (Inside text) left
    begun : Begun scalars classes clusters k w s (pend text left s)

  abbrev pub Next : Rule → List ℕ → List ℕ → List ℕ → ℕ → ℕ → ℕ → ℕ → Type 0
  Next left scalars classes clusters i num stop o = (i < length text → Under left scalars classes clusters i num stop o) × (length text ≤ i → Between scalars classes clusters i num o)

  -- a character written
  abbrev pub Put : Shape → Rule → List ℕ → List ℕ → List ℕ → ℕ → ℕ → ℕ → ℕ → Type 0
  Put c left scalars classes clusters i num stop o =
      (o + 1 ≡ stop → Between (set scalars o (scalar_of (token_at text i))) (set classes o (shape_code c)) (set clusters o (num - 1)) (filled_at mode (length text) i) num (o + 1))
      × ((o + 1 ≡ stop → ⊥) → Next left (set scalars o (scalar_of (token_at text i))) (set classes o (shape_code c)) (set clusters o (num - 1)) (i + 1) num stop (o + 1))

  -- what a cell makes of the run
  unfoldable pub After : Cell → List ℕ → List ℕ → List ℕ → ℕ → ℕ → ℕ → ℕ → Type 0
  After over scalars classes clusters i num stop o = Between scalars classes clusters i num o
  After (sets_as c left) scalars classes clusters i num stop o = Put c left scalars classes clusters i num stop o
  After (notes left) scalars classes clusters i num stop o = Next left scalars classes clusters (i + 1) num stop o
  After (opens c left) scalars classes clusters i num stop o = Put c left scalars classes clusters i (num + 1) (o + 32) o

  plus_open : (t : ℕ) (c : Shape) (s : Parse) → Open parser mode text s → s.len + 1 < 32 → s.at + 1 < length text → Open parser mode text (with_place (s.at + 1) (plus t c s))
  plus_open t c s p l h = record {
    goes = p.goes;
    inside = h;
    undone = p.undone;
    its_mode = p.its_mode;
    its_joins = p.its_joins;
    room = l;
    has = length-set s.chars s.len (char_of t c) ∙ p.has;
  }

  more_open : (s : Parse) → Open parser mode text s → s.at + 1 < length text → Open parser mode text (with_place (s.at + 1) (more s))
  more_open s p h = record {
    goes = p.goes;
    inside = h;
    undone = p.undone;
    its_mode = p.its_mode;
    its_joins = p.its_joins;
    room = p.room;
    has = length-set s.chars (s.len - 1) _ ∙ p.has;
  }

  -- the token put as c and stepped off, and `left` to be run
  module _ (scalars classes clusters : List ℕ) (k w : ℕ) (left : Rule) (fit : Fine text answer sample (Inside text) left) (s : Parse) (p : Open parser mode text s) where
    module _ (c : Shape) (b : Begun scalars classes clusters k w s (pend text left (single text (put (λ t. c)) s))) where
      abbrev t : ℕ
      t = token_at text s.at

      -- with the character in its cells, whatever the step makes of it
      wrote : (q : Parse) → single text (put (λ t. c)) s ≡ q → pushed q ≡ pushed (plus t c s) → Begun (set scalars (w + s.len) (scalar_of t)) (set classes (w + s.len) (shape_code c)) (set clusters (w + s.len) k) k w q (pend text left q)
      wrote q e h = let l : s.len < length s.chars = omega (arith, p.room, p.has) in record {
        from = b.from;
        scalars₁ = b.scalars₁;
        classes₁ = b.classes₁;
        clusters₁ = b.clusters₁;
        running = b.running;
        before = b.before;
        call = ap (pend text left) (sym e) ∙ b.call;
        scalar = col_put (scalar_in k) scalars b.scalars₁ w t c s l b.scalar ∙ ap (λ cs. sets b.scalars₁ w (map (scalar_in k) cs)) (sym h);
        class = col_put (class_in k) classes b.classes₁ w t c s l b.class ∙ ap (λ cs. sets b.classes₁ w (map (class_in k) cs)) (sym h);
        cluster = col_put (cluster_in k) clusters b.clusters₁ w t c s l b.cluster ∙ ap (λ cs. sets b.clusters₁ w (map (cluster_in k) cs)) (sym h);
      }

      over_with : (q : Parse) (i : ℕ) → single text (put (λ t. c)) s ≡ q → pushed q ≡ pushed (plus t c s) → q.len ≡ s.len + 1 → going q ≡ false → i ≡ place_of text q → Between (set scalars (w + s.len) (scalar_of t)) (set classes (w + s.len) (shape_code c)) (set clusters (w + s.len) k) i (k + 1) (w + s.len + 1)
      over_with q i e h l g j =
          let n : w + q.len ≡ w + s.len + 1 = omega arith in
          subst (λ o. Between (set scalars (w + s.len) (scalar_of t)) (set classes (w + s.len) (shape_code c)) (set clusters (w + s.len) k) i (k + 1) o) n
          (finished _ _ _ k w i q (subst (λ z. Begun (set scalars (w + s.len) (scalar_of t)) (set classes (w + s.len) (shape_code c)) (set clusters (w + s.len) k) k w q z) (pend_still text left q g) (wrote q e h)) j)

      stepped : single text (put (λ t. c)) s ≡ moved_of (length text) (plus t c s)
      stepped = ap (moved_of (length text)) (put_plus t c s p.room)

      full_place : filled_at mode (length text) s.at ≡ place_of text (with_flow Full (with_place (filled_at s.mode (length text) s.at) (plus t c s)))
      full_place = rw (p.undone, p.its_mode)

      putting : Put c left scalars classes clusters s.at (k + 1) (w + 32) (w + s.len)
      putting =
          let number : k + 1 - 1 ≡ k = omega arith in
          rw number (
            (λ e. over_with (with_flow Full (with_place (filled_at s.mode (length text) s.at) (plus t c s))) _ (stepped ∙ moved_full (length text) (plus t c s) (omega arith)) refl refl refl full_place),
            (λ e. (
              (λ h. record {
                k = k;
                w = w;
                s = with_place (s.at + 1) (plus t c s);
                here = refl;
                opened = plus_open t c s p (omega (arith, e, p.room)) h;
                some = omega arith;
                number = refl;
                to = omega arith;
                full = refl;
                fit = fit;
                begun = wrote (with_place (s.at + 1) (plus t c s)) (stepped ∙ moved_next (length text) (plus t c s) (omega (arith, e, p.room)) h) refl;
              }),
              (λ h. over_with (with_flow End (with_done (plus t c s))) (s.at + 1) (stepped ∙ moved_end (length text) (plus t c s) (omega (arith, e, p.room)) h) refl refl refl (omega (arith, h, p.inside))),
            )),
          )

    -- the token noted
    noticed : (q : Parse) (z : Parse) (b : Begun scalars classes clusters k w s z) → pushed q ≡ pushed (more s) → (r : Parse) → r ≡ called parser mode text b.from → Begun scalars classes clusters k w q r
    noticed q z b e r j = record {
      from = b.from;
      scalars₁ = b.scalars₁;
      classes₁ = b.classes₁;
      clusters₁ = b.clusters₁;
      running = b.running;
      before = b.before;
      call = j;
      scalar = b.scalar ∙ ap (sets b.scalars₁ w) (sym (ap (map (scalar_in k)) e ∙ same (scalar_in k) (λ x. refl)));
      class = b.class ∙ ap (sets b.classes₁ w) (sym (ap (map (class_in k)) e ∙ same (class_in k) (λ x. refl)));
      cluster = b.cluster ∙ ap (sets b.clusters₁ w) (sym (ap (map (cluster_in k)) e ∙ same (cluster_in k) (λ x. refl)));
    }
      where
        same : (g : Pushed → ℕ) → ((x : Pushed) → g (noted_more x) ≡ g x) → map g (pushed (more s)) ≡ map g (pushed s)
        same g h = map_noted g h s.len (s.len - 1) s.chars

    noting : 0 < s.len → Begun scalars classes clusters k w s (pend text left (single text noted s)) → Next left scalars classes clusters (s.at + 1) (k + 1) (w + 32) (w + s.len)
    noting some b =
        let stepped : single text noted s ≡ moved_of (length text) (more s) = ap (moved_of (length text)) (noted_more_lem (token_at text s.at) s some p.room) in (
          (λ h. record {
            k = k;
            w = w;
            s = with_place (s.at + 1) (more s);
            here = refl;
            opened = more_open s p h;
            some = some;
            number = refl;
            to = refl;
            full = refl;
            fit = fit;
            begun = noticed (with_place (s.at + 1) (more s)) _ b refl _ (ap (pend text left) (sym (stepped ∙ moved_next (length text) (more s) p.room h)) ∙ b.call);
          }),
          (λ h. finished scalars classes clusters k w (s.at + 1) (with_flow End (with_done (more s)))
              (noticed (with_flow End (with_done (more s))) _ b refl _ (sym (pend_still text left (with_flow End (with_done (more s))) refl) ∙ ap (pend text left) (sym (stepped ∙ moved_end (length text) (more s) p.room h)) ∙ b.call))
              (omega (arith, h, p.inside))),
        )

  marked_open : (m : Marks) (s : Parse) → Open parser mode text s → Open parser mode text (marked text m s)
  marked_open m s p = record {
    goes = p.goes;
    inside = p.inside;
    undone = p.undone;
    its_mode = p.its_mode;
    its_joins = p.its_joins;
    room = p.room;
    has = p.has;
  }

  begin_open : (i : ℕ) → i < length text → Open parser mode text (begin (record { at = i }) mode (joins parser))
  begin_open i h = record {
    goes = refl;
    inside = h;
    undone = refl;
    its_mode = refl;
    its_joins = refl;
    room = omega arith;
    has = refl;
  }

  -- a call whose parse has the same characters
  again : (scalars classes clusters : List ℕ) (k w : ℕ) (s z q r : Parse) (b : Begun scalars classes clusters k w s z) → pushed q ≡ pushed s → r ≡ called parser mode text b.from → Begun scalars classes clusters k w q r
  again scalars classes clusters k w s z q r b e j = record {
    from = b.from;
    scalars₁ = b.scalars₁;
    classes₁ = b.classes₁;
    clusters₁ = b.clusters₁;
    running = b.running;
    before = b.before;
    call = j;
    scalar = b.scalar ∙ ap (λ cs. sets b.scalars₁ w (map (scalar_in k) cs)) (sym e);
    class = b.class ∙ ap (λ cs. sets b.classes₁ w (map (class_in k) cs)) (sym e);
    cluster = b.cluster ∙ ap (λ cs. sets b.clusters₁ w (map (cluster_in k) cs)) (sym e);
  }

  -- the act of a rule by its sample's class
  as_sample : (f : ℕ → Shape) (s : Parse) → f (token_at text s.at) ≡ f (sample s.at) → single text (put f) s ≡ single text (put (λ t. f (sample s.at))) s
  as_sample f s e = ap (λ c. moved_of (length text) (put_of (token_at text s.at) c s)) e

  module _ (scalars classes clusters : List ℕ) (i num stop o : ℕ) where
    -- between two clusters
    starting : (x : Res) → i < length text → Between scalars classes clusters i num o → Claim text x (begin (record { at = i }) mode (joins parser)) (called parser mode text i) → FineRes text answer sample i x → After (fresh (cell_of (sample i) x)) scalars classes clusters i num stop o
    unfolding Claim FineRes After
    starting (pass m) h r c f = r
    starting (halt m) h r c f = r
    starting (act m noted left) h r c f = r
    starting (act m (put g) left) h r c f =
        let s : Parse = marked text m (begin (record { at = i }) mode (joins parser)) in
        let zero_more : o + 0 ≡ o = omega arith in
        subst (λ w. Put (g (sample i)) left scalars classes clusters i (num + 1) (o + 32) w) zero_more
        (putting scalars classes clusters num o left f.1 s (marked_open m _ (begin_open i h)) (g (sample i)) (record {
          from = i;
          scalars₁ = scalars;
          classes₁ = classes;
          clusters₁ = clusters;
          running = r;
          before = h;
          call = sym (c ∙ does_single text left (put g) s ∙ ap (pend text left) (as_sample g s f.0));
          scalar = refl;
          class = refl;
          cluster = refl;
        }))

    pub start_turn : i < length text → Between scalars classes clusters i num o → Fine text answer sample (Inside text) (grammar parser)
        → Calm text (answer i) (begin (record { at = i }) mode (joins parser)) (grammar parser)
        → After (fresh (cell_of (sample i) (first (answer i) (grammar parser)))) scalars classes clusters i num stop o
    unfolding called
    start_turn h r f k = starting (first (answer i) (grammar parser)) h r
        (first_run text answer sample (Inside text) (grammar parser) (begin (record { at = i }) mode (joins parser)) refl h h k f)
        (fine_first text answer sample (Inside text) i h h (grammar parser) f)

  -- within a cluster
  module _ (scalars classes clusters : List ℕ) (k w : ℕ) (left : Rule) (s : Parse) (p : Open parser mode text s) (some : 0 < s.len) (b : Begun scalars classes clusters k w s (pend text left s)) where
    abbrev Goes : Cell → Type 0
    Goes c = After c scalars classes clusters s.at (k + 1) (w + 32) (w + s.len)

    place_here : (q : Parse) → q.done ≡ false → q.at ≡ place_of text q
    place_here q d = rw d

    going_on : run left text s ≡ called parser mode text b.from → (x : Res) → Claim text x s (run left text s) → FineRes text answer sample s.at x → (y : Cell)
        → (Between scalars classes clusters s.at (k + 1) (w + s.len) → Goes (fresh y)) → Goes (or_fresh (cell_of (sample s.at) x) y)
    unfolding Claim FineRes After
    going_on call (pass m) c f y go = go (finished scalars classes clusters k w s.at (marked text m s)
        (again scalars classes clusters k w s _ (marked text m s) (marked text m s) b refl (sym c ∙ call)) (place_here (marked text m s) p.undone))
    going_on call (halt m) c f y go = go (finished scalars classes clusters k w s.at (with_flow Stop (marked text m s))
        (again scalars classes clusters k w s _ (with_flow Stop (marked text m s)) (with_flow Stop (marked text m s)) b refl (sym c ∙ call)) (place_here (with_flow Stop (marked text m s)) p.undone))
    going_on call (act m (put g) l) c f y go =
        putting scalars classes clusters k w l f.1 (marked text m s) (marked_open m s p) (g (sample s.at))
        (again scalars classes clusters k w s _ (marked text m s) _ b refl (sym (c ∙ does_single text l (put g) (marked text m s) ∙ ap (pend text l) (as_sample g (marked text m s) f.0)) ∙ call))
    going_on call (act m noted l) c f y go =
        noting scalars classes clusters k w l f.1 (marked text m s) (marked_open m s p) some
        (again scalars classes clusters k w s _ (marked text m s) _ b refl (sym (c ∙ does_single text l noted (marked text m s)) ∙ call))

    joiner_here : on_joiner text s ≡ joiner (joins parser) (scalar_of (token_at text s.at))
    joiner_here = rw (p.goes, p.its_joins)

    -- a U+034F within the cluster
    joining : joiner (joins parser) (scalar_of (token_at text s.at)) ≡ true → Fine text answer sample (Inside text) left → Goes (sets_as Other left)
    unfolding After
    joining j f = putting scalars classes clusters k w left f s p Other
        (again scalars classes clusters k w s _ s _ b refl (ap (run left text) (sym (loop_goes text (on_joiner text) (hop text) (hop_falls text) s (joiner_here ∙ j))) ∙ b.call))

    inside_turn : joiner (joins parser) (scalar_of (token_at text s.at)) ≡ false → Fine text answer sample (Inside text) left → Calm text (answer s.at) s left → (y : Cell)
        → (Between scalars classes clusters s.at (k + 1) (w + s.len) → Goes (fresh y)) → Goes (or_fresh (cell_of (sample s.at) (first (answer s.at) left)) y)
    inside_turn j f calm y go = going_on (ap (run left text) (sym (loop_stays text (on_joiner text) (hop text) s (joiner_here ∙ j))) ∙ b.call)
        (first (answer s.at) left)
        (first_run text answer sample (Inside text) left s p.goes p.inside p.inside calm f)
        (fine_first text answer sample (Inside text) s.at p.inside p.inside left f) y go

  module _ (scalars classes clusters : List ℕ) (i num stop o : ℕ) (left : Rule) (u : Under left scalars classes clusters i num stop o) where
    -- what holds of the numbers as the cluster under way has them holds of them as they are
    abbrev at_its : (P : ℕ → ℕ → ℕ → ℕ → Type 0) → P u.s.at (u.k + 1) (u.w + 32) (u.w + u.s.len) → P i num stop o
    at_its P h = subst (λ o. P i num stop o) (sym u.to) (subst (λ stop. P i num stop (u.w + u.s.len)) (sym u.full)
        (subst (λ num. P i num (u.w + 32) (u.w + u.s.len)) (sym u.number) (subst (λ i. P i (u.k + 1) (u.w + 32) (u.w + u.s.len)) u.here h)))

    pub joiner_turn : joiner (joins parser) (scalar_of (token_at text i)) ≡ true → After (sets_as Other left) scalars classes clusters i num stop o
    joiner_turn = at_its (λ i num stop o. joiner (joins parser) (scalar_of (token_at text i)) ≡ true → After (sets_as Other left) scalars classes clusters i num stop o)
        (λ j. joining scalars classes clusters u.k u.w left u.s u.opened u.some u.begun j u.fit)

    pub under_turn : joiner (joins parser) (scalar_of (token_at text i)) ≡ false → ((s : Parse) → s.mode ≡ mode → s.at ≡ i → s.len + stop ≡ o + 32 → Calm text (answer s.at) s left) → (y : Cell)
        → (Between scalars classes clusters i num o → After (fresh y) scalars classes clusters i num stop o)
        → After (or_fresh (cell_of (sample i) (first (answer i) left)) y) scalars classes clusters i num stop o
    under_turn = at_its (λ i num stop o. joiner (joins parser) (scalar_of (token_at text i)) ≡ false → ((s : Parse) → s.mode ≡ mode → s.at ≡ i → s.len + stop ≡ o + 32 → Calm text (answer s.at) s left) → (y : Cell)
        → (Between scalars classes clusters i num o → After (fresh y) scalars classes clusters i num stop o)
        → After (or_fresh (cell_of (sample i) (first (answer i) left)) y) scalars classes clusters i num stop o)
        (λ j calm y go. inside_turn scalars classes clusters u.k u.w left u.s u.opened u.some u.begun j u.fit (calm u.s u.opened.its_mode refl (omega arith)) y go)

    -- a rule that stops before its token
    pub stop_turn : joiner (joins parser) (scalar_of (token_at text i)) ≡ false → o + 1 ≡ stop
        → ((s : Parse) → going s ≡ true → s.mode ≡ mode → s.at ≡ i → s.len ≡ 31 → run left text s ≡ with_flow Stop s)
        → Between scalars classes clusters i num o
    stop_turn j last stops =
        let s : Parse = u.s in
        let p : Open parser mode text s = u.opened in
        let b = u.begun in
        let still : on_joiner text s ≡ false = rw (p.goes, p.its_joins, u.here) j in
        let call : run left text s ≡ called parser mode text b.from = ap (run left text) (sym (loop_stays text (on_joiner text) (hop text) s still)) ∙ b.call in
        let stopped : run left text s ≡ with_flow Stop s = stops s p.goes p.its_mode u.here (omega (arith, u.to, u.full, last)) in
        subst (λ num. Between scalars classes clusters i num o) (sym u.number) (subst (λ o. Between scalars classes clusters i (u.k + 1) o) (sym u.to)
        (finished scalars classes clusters u.k u.w i (with_flow Stop s)
        (again scalars classes clusters u.k u.w s _ (with_flow Stop s) (with_flow Stop s) b refl (sym stopped ∙ call)) (rw p.undone (sym u.here))))

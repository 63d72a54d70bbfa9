-- What a rule does at one token, and the rule that is left after it: the law that a table rests on, for every rule and both modes.
-- Assumes nothing.
use Prim.Native.Nat.{ℕ, ◌<◌}
use mathlib.Core.Path.{◌≡◌, refl, sym, ◌∙◌, ap, subst}
use mathlib.Core.Bool.{Bool, true, false, cond, false≢true}
use mathlib.Core.List.{List}
use native.Mathlib.Omega.{arith}
use lib.ListN.{length}
use Rattle.basics.proofs.Tests.{if_intro, by_test, both_of}
use Rattle.classes.specs.declared.Shape.{Shape}
use Rattle.classes.specs.declared.Shape.TheVariants.{Other}
use Rattle.classes.specs.declared.Mode.TheVariants.{Whole}
use Rattle.parse.specs.declared.Parse.{Parse}
use Rattle.parse.specs.declared.Info.{Info}
use Rattle.parse.specs.declared.Flow.TheVariants.{GoOn, Stop}
use Rattle.parse.specs.State.{token_at, going, with_flow, with_info, with_again, turns, put_of, noted_of, moved_of, on_joiner, hop, step_of, push_of, note_of, go_on, passes_end, resumed_of, retried_of}
use Rattle.parse.specs.Rule.{Test, Rule, skip, stop, push, note, mark, seq, choose, while, scope, thrice, fit, run, crowded, holds, take, thrice_of}
use Rattle.parse.proofs.Loop.{loop_keeps}
use Rattle.parse.proofs.Moves.{moved_case, put_same, noted_same}
use Rattle.parse.proofs.Keeps.{thrice_mode}
use Rattle.parse.proofs.Steps.{going_flow}
use Rattle.parse.proofs.Runs.{run_still, run_goes, run_stays, run_falls, moves}

-- what is done with the current token
pub data Act : Type 0 where
  put : (ℕ → Shape) → Act
  noted : Act

-- how the info changes before it
abbrev pub Marks : Type 0
Marks = ℕ → Info → Info

-- what a rule does at a token: nothing, a stop, or an act and then a rule; before it the marks
pub data Res : Type 0 where
  pass : Marks → Res
  halt : Marks → Res
  act : Marks → Act → Rule → Res

abbrev pub none : Marks
none t i = i

abbrev pub before : Marks → Res → Res
before m (pass u) = pass (λ t i. u t (m t i))
before m (halt u) = halt (λ t i. u t (m t i))
before m (act u x k) = act (λ t i. u t (m t i)) x k

-- one rule after another, with no skip before
abbrev pub join : Rule → Rule → Rule
join skip b = b
join stop b = seq stop b
join (push f) b = seq (push f) b
join note b = seq note b
join (mark f) b = seq (mark f) b
join (seq a c) b = seq (seq a c) b
join (choose p a c) b = seq (choose p a c) b
join (while p a) b = seq (while p a) b
join (scope a) b = seq (scope a) b
join (thrice c) b = seq (thrice c) b
join (fit p m f) b = seq (fit p m f) b

abbrev pub close : Rule → Rule
close skip = skip
close stop = scope stop
close (push f) = scope (push f)
close note = scope note
close (mark f) = scope (mark f)
close (seq a c) = scope (seq a c)
close (choose p a c) = scope (choose p a c)
close (while p a) = scope (while p a)
close (scope a) = scope (scope a)
close (thrice c) = scope (thrice c)
close (fit p m f) = scope (fit p m f)

abbrev pub chain : Res → Res → Rule → Res
chain (pass m) y b = before m y
chain (halt m) y b = halt m
chain (act m x k) y b = act m x (join k b)

abbrev pub inner : Res → Res
inner (pass m) = pass m
inner (halt m) = pass m
inner (act m x k) = act m x (close k)

-- the tests are answered by ask
abbrev pub first : (Test → Bool) → Rule → Res
first ask skip = pass none
first ask stop = halt none
first ask (push f) = act none (put f) skip
first ask note = act none noted skip
first ask (mark f) = pass f
first ask (seq a b) = chain (first ask a) (first ask b) b
first ask (choose p a b) = cond (ask p) (first ask a) (first ask b)
first ask (while p a) = cond (ask p) (chain (first ask a) (pass none) (while p a)) (pass none)
first ask (scope a) = inner (first ask a)
first ask (thrice c) = act none (put (λ t. c)) (seq (take c) (take c))
first ask (fit p m f) = act m (put f) skip

abbrev pub does : List ℕ → Act → Parse → Parse
does text (put f) s = push_of text (f (token_at text s.at)) s
does text noted s = note_of text s

abbrev pub marked : List ℕ → Marks → Parse → Parse
marked text m s = with_info (m (token_at text s.at) s.info) s

-- what a result of `first` says of the parse q that the rule makes of s
unfoldable pub Claim : List ℕ → Res → Parse → Parse → Type 0
Claim text (pass m) s q = q ≡ marked text m s
Claim text (halt m) s q = q ≡ with_flow Stop (marked text m s)
Claim text (act m x k) s q = q ≡ run k text (does text x (marked text m s))

run_join : (a b : Rule) (text : List ℕ) (s : Parse) → run (join a b) text s ≡ run b text (run a text s)
unfolding run
run_join skip b text s = refl
run_join stop b text s = refl
run_join (push f) b text s = refl
run_join note b text s = refl
run_join (mark f) b text s = refl
run_join (seq a c) b text s = refl
run_join (choose p a c) b text s = refl
run_join (while p a) b text s = refl
run_join (scope a) b text s = refl
run_join (thrice c) b text s = refl
run_join (fit p m f) b text s = refl

resume_same : (s : Parse) → go_on s.flow ≡ s.flow → resumed_of s ≡ s
resume_same s e = ap (λ f. with_flow f s) e

flow_stays : (s : Parse) → going s ≡ true → go_on s.flow ≡ s.flow
flow_stays s g = ap go_on (going_flow s.flow g) ∙ sym (going_flow s.flow g)

run_scope : (a : Rule) (text : List ℕ) (s : Parse) → going s ≡ true → run (scope a) text s ≡ resumed_of (run a text s)
unfolding run
run_scope a text s g = rw g

-- after an act the flow is not Stop
abbrev NoStop : Parse → Type 0
NoStop q = go_on q.flow ≡ q.flow

nostop_moved : (n : ℕ) (s : Parse) → NoStop s → NoStop (moved_of n s)
nostop_moved n s i = moved_case NoStop n s (λ l h. i) (λ l h. refl) (λ l. refl)

nostop_put : (t : ℕ) (c : Shape) (s : Parse) → NoStop s → NoStop (put_of t c s)
nostop_put t c s i = put_same (λ q. go_on q.flow) (λ n cs q. refl) t s c ∙ i ∙ sym (put_same (λ q. q.flow) (λ n cs q. refl) t s c)

nostop_noted : (t : ℕ) (s : Parse) → NoStop s → NoStop (noted_of t s)
nostop_noted t s i = noted_same (λ q. go_on q.flow) (λ n cs q. refl) t s ∙ i ∙ sym (noted_same (λ q. q.flow) (λ n cs q. refl) t s)

nostop_step : (text : List ℕ) (s : Parse) → NoStop s → NoStop (step_of text s)
unfolding step_of
nostop_step text s i = loop_keeps text (on_joiner text) (hop text) NoStop
    (λ q j h. nostop_moved (length text) (put_of (token_at text q.at) Other q) (nostop_put (token_at text q.at) Other q j))
    (moved_of (length text) s) (nostop_moved (length text) s i)

does_nostop : (text : List ℕ) (x : Act) (s : Parse) → going s ≡ true → NoStop (does text x s)
unfolding push_of note_of
does_nostop text (put f) s g = let t = token_at text s.at in nostop_step text (put_of t (f t) s) (nostop_put t (f t) s (flow_stays s g))
does_nostop text noted s g = let t = token_at text s.at in nostop_step text (noted_of t s) (nostop_noted t s (flow_stays s g))

scope_any : (a : Rule) (text : List ℕ) (q : Parse) → NoStop q → run (scope a) text q ≡ resumed_of (run a text q)
scope_any a text q n = by_test (going q) (λ g. run_scope a text q g)
    (λ g. run_still (scope a) text q g ∙ sym (ap resumed_of (run_still a text q g) ∙ resume_same q n))

run_close : (a : Rule) (text : List ℕ) (q : Parse) → NoStop q → run (close a) text q ≡ resumed_of (run a text q)
unfolding run
run_close skip text q n = sym (resume_same q n)
run_close stop text q n = scope_any stop text q n
run_close (push f) text q n = scope_any (push f) text q n
run_close note text q n = scope_any note text q n
run_close (mark f) text q n = scope_any (mark f) text q n
run_close (seq a c) text q n = scope_any (seq a c) text q n
run_close (choose p a c) text q n = scope_any (choose p a c) text q n
run_close (while p a) text q n = scope_any (while p a) text q n
run_close (scope a) text q n = scope_any (scope a) text q n
run_close (thrice c) text q n = scope_any (thrice c) text q n
run_close (fit p m f) text q n = scope_any (fit p m f) text q n

before_claim : (text : List ℕ) (m : Marks) (s q : Parse) (y : Res) → Claim text y (marked text m s) q → Claim text (before m y) s q
unfolding Claim
before_claim text m s q (pass u) h = h
before_claim text m s q (halt u) h = h
before_claim text m s q (act u x k) h = h

chain_claim : (text : List ℕ) (s q : Parse) (ra rb : Res) (b : Rule) → Claim text ra s q → ((m : Marks) → Claim text rb (marked text m s) (run b text (marked text m s))) → Claim text (chain ra rb b) s (run b text q)
unfolding Claim
chain_claim text s q (pass m) rb b e h = before_claim text m s (run b text q) rb (subst (λ z. Claim text rb (marked text m s) (run b text z)) (sym e) (h m))
chain_claim text s q (halt m) rb b e h = ap (run b text) e ∙ run_still b text (with_flow Stop (marked text m s)) refl
chain_claim text s q (act m x k) rb b e h = ap (run b text) e ∙ sym (run_join k b text (does text x (marked text m s)))

loop_claim : (text : List ℕ) (s q : Parse) (ra : Res) (w : Rule) → turns text q < turns text s → Claim text ra s q → Claim text (chain ra (pass none) w) s (run w text q)
unfolding Claim
loop_claim text s q (pass m) w l e = absurd (let z : turns text q ≡ turns text s = ap (turns text) e in omega arith)
loop_claim text s q (halt m) w l e = ap (run w text) e ∙ run_still w text (with_flow Stop (marked text m s)) refl
loop_claim text s q (act m x k) w l e = ap (run w text) e ∙ sym (run_join k w text (does text x (marked text m s)))

inner_claim : (text : List ℕ) (s q : Parse) (ra : Res) → going s ≡ true → Claim text ra s q → Claim text (inner ra) s (resumed_of q)
unfolding Claim
inner_claim text s q (pass m) g e = ap resumed_of e ∙ resume_same (marked text m s) (flow_stays s g)
inner_claim text s q (halt m) g e = ap resumed_of e ∙ ap (λ f. with_flow f (marked text m s)) (sym (going_flow s.flow g))
inner_claim text s q (act m x k) g e = ap resumed_of e ∙ sym (run_close k text (does text x (marked text m s)) (does_nostop text x (marked text m s) g))

-- no end of the text is passed over within a kinzi that is reached at this token, and no `fit` stops before it: the one place where crate
-- mode is no table, and the one where whole mode is none
unfoldable pub Calm : List ℕ → (Test → Bool) → Parse → Rule → Type 0
Calm text ask s skip = Unit {0}
Calm text ask s stop = Unit {0}
Calm text ask s (push f) = Unit {0}
Calm text ask s note = Unit {0}
Calm text ask s (mark f) = Unit {0}
Calm text ask s (seq a b) = Calm text ask s a × Calm text ask s b
Calm text ask s (choose p a b) = (ask p ≡ true → Calm text ask s a) × (ask p ≡ false → Calm text ask s b)
Calm text ask s (while p a) = Calm text ask s a
Calm text ask s (scope a) = Calm text ask s a
Calm text ask s (thrice c) = (m : Marks) → retried_of (thrice_of text c (marked text m s)) ≡ thrice_of text c (marked text m s)
Calm text ask s (fit p m f) = crowded text p s ≡ false

calm_marked : (text : List ℕ) (ask : Test → Bool) (s : Parse) (m : Marks) (r : Rule) → Calm text ask s r → Calm text ask (marked text m s) r
unfolding Calm
calm_marked text ask s m skip c = tt
calm_marked text ask s m stop c = tt
calm_marked text ask s m (push f) c = tt
calm_marked text ask s m note c = tt
calm_marked text ask s m (mark f) c = tt
calm_marked text ask s m (seq a b) c = (calm_marked text ask s m a c.0, calm_marked text ask s m b c.1)
calm_marked text ask s m (choose p a b) c = ((λ h. calm_marked text ask s m a (c.0 h)), (λ h. calm_marked text ask s m b (c.1 h)))
calm_marked text ask s m (while p a) c = calm_marked text ask s m a c
calm_marked text ask s m (scope a) c = calm_marked text ask s m a c
calm_marked text ask s m (thrice x) c = λ u. c (λ t i. u t (m t i))
calm_marked text ask s m (fit p u f) c = c

-- a rule with no `fit` in it, and with a kinzi only where that is allowed
abbrev pub spare : Bool → Rule → Bool
spare kinzi skip = true
spare kinzi stop = true
spare kinzi (push f) = true
spare kinzi note = true
spare kinzi (mark f) = true
spare kinzi (seq a b) = cond (spare kinzi a) (spare kinzi b) false
spare kinzi (choose p a b) = cond (spare kinzi a) (spare kinzi b) false
spare kinzi (while p a) = spare kinzi a
spare kinzi (scope a) = spare kinzi a
spare kinzi (thrice c) = kinzi
spare kinzi (fit p m f) = false

-- such a rule is calm, with a kinzi in whole mode
module _ (text : List ℕ) (ask : Test → Bool) (s : Parse) (kinzi : Bool) (whole : kinzi ≡ true → s.mode ≡ Whole) where
  calm_spare : (r : Rule) → spare kinzi r ≡ true → Calm text ask s r
  unfolding Calm
  calm_spare skip h = tt
  calm_spare stop h = tt
  calm_spare (push f) h = tt
  calm_spare note h = tt
  calm_spare (mark f) h = tt
  calm_spare (seq a b) h = let z = both_of (spare kinzi a) (spare kinzi b) h in (calm_spare a z.0, calm_spare b z.1)
  calm_spare (choose p a b) h = let z = both_of (spare kinzi a) (spare kinzi b) h in ((λ e. calm_spare a z.0), (λ e. calm_spare b z.1))
  calm_spare (while p a) h = calm_spare a h
  calm_spare (scope a) h = calm_spare a h
  calm_spare (thrice c) h = λ m. retried_whole (thrice_of text c (marked text m s)) (thrice_mode text c (marked text m s) ∙ whole h)
    where
      retried_whole : (q : Parse) → q.mode ≡ Whole → retried_of q ≡ q
      retried_whole q e = ap (λ x. cond (passes_end x q.flow q.again) (with_flow GoOn (with_again q)) q) e
  calm_spare (fit p m f) h = absurd (false≢true h)

-- a rule with neither is calm
pub calm_free : (text : List ℕ) (ask : Test → Bool) (s : Parse) (r : Rule) → spare false r ≡ true → Calm text ask s r
calm_free text ask s r h = calm_spare text ask s false (λ e. absurd (false≢true e)) r h

-- in whole mode one with no `fit` is
pub calm_whole : (text : List ℕ) (ask : Test → Bool) (s : Parse) (r : Rule) → s.mode ≡ Whole → spare true r ≡ true → Calm text ask s r
calm_whole text ask s r w h = calm_spare text ask s true (λ e. w) r h

run_thrice : (c : Shape) (text : List ℕ) (s : Parse) → going s ≡ true → run (thrice c) text s ≡ retried_of (thrice_of text c s)
unfolding run
run_thrice c text s g = if_intro (λ q. q ≡ retried_of (thrice_of text c s)) (going s) _ _ (λ h. refl) (λ h. absurd (false≢true (sym h ∙ g)))

thrice_takes : (c : Shape) (text : List ℕ) (s : Parse) → going s ≡ true → thrice_of text c s ≡ run (seq (take c) (take c)) text (push_of text c s)
unfolding run thrice_of
thrice_takes c text s g = rw g

-- the places of a text
abbrev pub Inside : List ℕ → ℕ → Type 0
Inside text i = i < length text

-- a mark alone leaves the rule behind it at the same token
abbrev pub behind : List ℕ → Rule → (ℕ → Type 0) → ℕ → Type 0
behind text skip P i = Inside text i
behind text stop P i = Inside text i
behind text (push f) P i = Inside text i
behind text note P i = Inside text i
behind text (mark f) P i = P i
behind text (seq a b) P i = Inside text i
behind text (choose p a b) P i = Inside text i
behind text (while p a) P i = Inside text i
behind text (scope a) P i = Inside text i
behind text (thrice c) P i = Inside text i
behind text (fit p m f) P i = Inside text i

behind_in : (text : List ℕ) (a : Rule) (P : ℕ → Type 0) (i : ℕ) → Inside text i → P i → behind text a P i
behind_in text skip P i h p = h
behind_in text stop P i h p = h
behind_in text (push f) P i h p = h
behind_in text note P i h p = h
behind_in text (mark f) P i h p = p
behind_in text (seq a b) P i h p = h
behind_in text (choose q a b) P i h p = h
behind_in text (while q a) P i h p = h
behind_in text (scope a) P i h p = h
behind_in text (thrice c) P i h p = h
behind_in text (fit q m f) P i h p = h

-- where P holds of the place the tests on the way are answered rightly, and the classes are those of the sample token; each loop's body moves
module _ (text : List ℕ) (answer : ℕ → Test → Bool) (sample : ℕ → ℕ) where
  unfoldable pub Fine : (ℕ → Type 0) → Rule → Type 0
  Fine P skip = Unit {0}
  Fine P stop = Unit {0}
  Fine P (push f) = (i : ℕ) → P i → f (token_at text i) ≡ f (sample i)
  Fine P note = Unit {0}
  Fine P (mark f) = Unit {0}
  Fine P (seq a b) = Fine P a × Fine (behind text a P) b
  Fine P (choose p a b) = ((i : ℕ) → P i → answer i p ≡ p text i) × (Fine (λ i. P i × (p text i ≡ true)) a × Fine (λ i. P i × (p text i ≡ false)) b)
  Fine P (while p a) = ((i : ℕ) → Inside text i → answer i p ≡ p text i) × ((moves a ≡ true) × Fine (λ i. Inside text i × (p text i ≡ true)) a)
  Fine P (scope a) = Fine P a
  Fine P (thrice c) = Unit {0}
  Fine P (fit p m f) = (i : ℕ) → P i → f (token_at text i) ≡ f (sample i)

  holds_here : (p : Test) (s : Parse) (b : Bool) → going s ≡ true → p text s.at ≡ b → holds text p s ≡ b
  holds_here p s b g e = rw g e

  -- THE LAW of one token: what `first` answers is what `run` does
  pub first_run : (P : ℕ → Type 0) (r : Rule) (s : Parse) → going s ≡ true → Inside text s.at → P s.at → Calm text (answer s.at) s r → Fine P r → Claim text (first (answer s.at) r) s (run r text s)
  unfolding run Claim Fine Calm
  first_run P skip s g i h k f = refl
  first_run P stop s g i h k f = rw g
  first_run P (push c) s g i h k f = rw g
  first_run P note s g i h k f = rw g
  first_run P (mark c) s g i h k f = rw g
  first_run P (seq a b) s g i h k f = chain_claim text s (run a text s) (first (answer s.at) a) (first (answer s.at) b) b (first_run P a s g i h k.0 f.0)
      (λ m. first_run (behind text a P) b (marked text m s) g i (behind_in text a P s.at i h) (calm_marked text (answer s.at) s m b k.1) f.1)
  first_run P (choose p a b) s g i h k f = by_test (answer s.at p)
      (λ e. let t : p text s.at ≡ true = sym (f.0 s.at h) ∙ e in
      rw (e, holds_here p s true g t) (first_run (λ j. P j × (p text j ≡ true)) a s g i (h, t) (k.0 e) f.1.0))
      (λ e. let t : p text s.at ≡ false = sym (f.0 s.at h) ∙ e in
      rw (e, holds_here p s false g t) (first_run (λ j. P j × (p text j ≡ false)) b s g i (h, t) (k.1 e) f.1.1))
  first_run P (while p a) s g i h k f = by_test (answer s.at p)
      (λ e. let t : p text s.at ≡ true = sym (f.0 s.at i) ∙ e in
      let u : holds text p s ≡ true = holds_here p s true g t in
      rw (e, run_goes p a text s f.1.0 u)
      (loop_claim text s (run a text s) (first (answer s.at) a) (while p a) (run_falls p a text s f.1.0 u)
      (first_run (λ j. Inside text j × (p text j ≡ true)) a s g i (i, t) k f.1.1)))
      (λ e. let t : p text s.at ≡ false = sym (f.0 s.at i) ∙ e in
      rw (e, run_stays p a text s (holds_here p s false g t)) refl)
  first_run P (scope a) s g i h k f = rw (run_scope a text s g) (inner_claim text s (run a text s) (first (answer s.at) a) g (first_run P a s g i h k f))
  first_run P (thrice c) s g i h k f = run_thrice c text s g ∙ k none ∙ thrice_takes c text s g
  first_run P (fit p m c) s g i h k f = rw (g, k)

  -- the class at this place is the sample's, and the rule that is left is fine everywhere
  unfoldable pub FineRes : ℕ → Res → Type 0
  FineRes i (pass m) = Unit {0}
  FineRes i (halt m) = Unit {0}
  FineRes i (act m (put f) k) = (f (token_at text i) ≡ f (sample i)) × Fine (Inside text) k
  FineRes i (act m noted k) = Unit {0} × Fine (Inside text) k

  fine_join : (a b : Rule) → Fine (Inside text) a → Fine (Inside text) b → Fine (Inside text) (join a b)
  unfolding Fine
  fine_join skip b f h = h
  fine_join stop b f h = (f, h)
  fine_join (push c) b f h = (f, h)
  fine_join note b f h = (f, h)
  fine_join (mark c) b f h = (f, h)
  fine_join (seq a c) b f h = (f, h)
  fine_join (choose p a c) b f h = (f, h)
  fine_join (while p a) b f h = (f, h)
  fine_join (scope a) b f h = (f, h)
  fine_join (thrice c) b f h = (f, h)
  fine_join (fit p m c) b f h = (f, h)

  fine_close : (a : Rule) → Fine (Inside text) a → Fine (Inside text) (close a)
  unfolding Fine
  fine_close skip f = f
  fine_close stop f = f
  fine_close (push c) f = f
  fine_close note f = f
  fine_close (mark c) f = f
  fine_close (seq a c) f = f
  fine_close (choose p a c) f = f
  fine_close (while p a) f = f
  fine_close (scope a) f = f
  fine_close (thrice c) f = f
  fine_close (fit p m c) f = f

  fine_before : (i : ℕ) (m : Marks) (y : Res) → FineRes i y → FineRes i (before m y)
  unfolding FineRes
  fine_before i m (pass u) f = tt
  fine_before i m (halt u) f = tt
  fine_before i m (act u (put c) k) f = f
  fine_before i m (act u noted k) f = f

  abbrev Acts : Res → Type 0
  Acts (pass m) = ⊥
  Acts (halt m) = ⊥
  Acts (act m x k) = Unit {0}

  fine_chain : (i : ℕ) (x y : Res) (b : Rule) → FineRes i x → FineRes i y → (Acts x → Fine (Inside text) b) → FineRes i (chain x y b)
  unfolding FineRes
  fine_chain i (pass m) y b f g h = fine_before i m y g
  fine_chain i (halt m) y b f g h = tt
  fine_chain i (act m (put c) k) y b f g h = (f.0, fine_join k b f.1 (h tt))
  fine_chain i (act m noted k) y b f g h = (f.0, fine_join k b f.1 (h tt))

  fine_inner : (i : ℕ) (x : Res) → FineRes i x → FineRes i (inner x)
  unfolding FineRes
  fine_inner i (pass m) f = tt
  fine_inner i (halt m) f = tt
  fine_inner i (act m (put c) k) f = (f.0, fine_close k f.1)
  fine_inner i (act m noted k) f = (f.0, fine_close k f.1)

  behind_acts : (P : ℕ → Type 0) (ask : Test → Bool) (a b : Rule) → Fine (behind text a P) b → Acts (first ask a) → Fine (Inside text) b
  behind_acts P ask skip b f x = f
  behind_acts P ask stop b f x = f
  behind_acts P ask (push c) b f x = f
  behind_acts P ask note b f x = f
  behind_acts P ask (mark c) b f x = absurd x
  behind_acts P ask (seq a c) b f x = f
  behind_acts P ask (choose p a c) b f x = f
  behind_acts P ask (while p a) b f x = f
  behind_acts P ask (scope a) b f x = f
  behind_acts P ask (thrice c) b f x = f
  behind_acts P ask (fit p m c) b f x = f

  pub fine_first : (P : ℕ → Type 0) (i : ℕ) → Inside text i → P i → (r : Rule) → Fine P r → FineRes i (first (answer i) r)
  unfolding Fine FineRes
  fine_first P i n h skip f = tt
  fine_first P i n h stop f = tt
  fine_first P i n h (push c) f = (f i h, tt)
  fine_first P i n h note f = (tt, tt)
  fine_first P i n h (mark c) f = tt
  fine_first P i n h (seq a b) f = fine_chain i (first (answer i) a) (first (answer i) b) b (fine_first P i n h a f.0)
      (fine_first (behind text a P) i n (behind_in text a P i n h) b f.1) (behind_acts P (answer i) a b f.1)
  fine_first P i n h (choose p a b) f = if_intro (FineRes i) (answer i p) _ _
      (λ e. fine_first (λ j. P j × (p text j ≡ true)) i n (h, sym (f.0 i h) ∙ e) a f.1.0)
      (λ e. fine_first (λ j. P j × (p text j ≡ false)) i n (h, sym (f.0 i h) ∙ e) b f.1.1)
  fine_first P i n h (while p a) f = if_intro (FineRes i) (answer i p) _ _
      (λ e. fine_chain i (first (answer i) a) (pass none) (while p a) (fine_first (λ j. Inside text j × (p text j ≡ true)) i n (n, sym (f.0 i n) ∙ e) a f.1.1) tt (λ x. f))
      (λ e. tt)
  fine_first P i n h (scope a) f = fine_inner i (first (answer i) a) (fine_first P i n h a f)
  fine_first P i n h (thrice c) f = (refl, ((λ j m. refl), (λ j m. refl)))
  fine_first P i n h (fit p m c) f = (f i h, tt)

-- "The Rust does not look whether the first `CMAbv*` and `CMBlw*` came to 32 characters or to the end of the text, and goes on with the
-- token that is still current" (SCOPE 6.6). What it does at that place, to be compared with the rule `marked_syllable`, which ends there
-- as everywhere else.
use Rattle.std.specs.Prelude.{ℕ, ◌<◌, ◌≡◌, Bool, true, false, cond, List, [], ◌∷◌, map, length}
use Rattle.basics.specs.Sets.{member}
use Rattle.classes.specs.Scalar.{CGJ}
use Rattle.classes.specs.declared.Mode.TheVariants.{Crate}
use Rattle.classes.specs.declared.Shape.TheVariants.{Base, Reph, Vs, Other}
use Rattle.classes.specs.UseClass.{B, CS, GB, IND, N, O, R, Rsv, S, VS, WJ, CMAbv, CMBlw, SUB, H, FM, FAbv, FBlw, FPst, MAbv, MBlw, MPre, MPst, VAbv, VBlw, VPre, VPst, VMAbv, VMBlw, VMPre, VMPst}
use Rattle.token.specs.Token.{scalar_of, kind_of, packed}
use Rattle.parse.specs.declared.Parse.{Parse}
use Rattle.parse.specs.declared.Flow.TheVariants.{GoOn}
use Rattle.parse.specs.State.{token_at, start_place, cluster_of, place_of, begin, going, with_flow}
use Rattle.parse.specs.Rule.{Rule, Test, mark, choose, ◌▸◌, run, holds, take, accept_as, many, is, is_emoji, one_of, set_broken}
use Rattle.parse.specs.Shared.{emojis, other_arm}
use Rattle.complex.specs.Grammar.{by_kind, base_vs, symbol_marks, consonant_marks, is_symbol_mark, number, symbol, syllable, cluster}

-- the classes that the tail asks for behind the consonant marks
abbrev pub syllable_classes : List ℕ
syllable_classes =
    SUB ∷ H ∷ FM ∷ FAbv ∷ FBlw ∷ FPst ∷ MAbv ∷ MBlw ∷ MPre ∷ MPst ∷ VAbv ∷ VBlw ∷ VPre ∷ VPst ∷ VMAbv ∷ VMBlw ∷ VMPre ∷ VMPst ∷ []

-- refusal 6 of the token stream: no U+034F has one of them, nor CMBlw
abbrev pub Unbarred : List ℕ → Type 0
Unbarred text = (i : ℕ) → i < length text → scalar_of (token_at text i) ≡ CGJ → member (CMBlw ∷ syllable_classes) (kind_of (token_at text i)) ≡ false

-- the Rust's statement `self.accept_zero_or_many(kind);`: at a cluster of 32 and at the end of the text it goes on with the same token
abbrev pub ignoring : Rule → List ℕ → Parse → Parse
ignoring r text s = let q = with_flow GoOn (run r text s) in cond (going s) q s

-- `parse_standard_tail`, where it is no symbol, as the Rust has it
abbrev pub marked_syllable_as_rust : Bool → List ℕ → Parse → Parse
marked_syllable_as_rust khmer text s = run (syllable khmer) text (ignoring (many CMBlw) text (ignoring (many CMAbv) text s))

-- the same with one of the two results heeded
abbrev pub only_above : Bool → List ℕ → Parse → Parse
only_above khmer text s = run (syllable khmer) text (run (many CMBlw) text (ignoring (many CMAbv) text s))

abbrev pub only_below : Bool → List ℕ → Parse → Parse
only_below khmer text s = run (syllable khmer) text (ignoring (many CMBlw) text (run (many CMAbv) text s))

-- What it comes to with refusal 6: where one of the runs has ended, nothing more. The parse goes on still, which a push there, at a
-- cluster of 32 or at the end of the text, would have ended.
abbrev pub unless_ended : Bool → List ℕ → Parse → Parse
unless_ended khmer text q = let r = run (syllable khmer) text q in cond (going q) r (with_flow GoOn q)

abbrev pub no_more : Bool → List ℕ → Parse → Parse
no_more khmer text s = let q = unless_ended khmer text (run consonant_marks text s) in cond (going s) q s

-- The call around it. `parse` as a tree of tests that has that place at its ends and nowhere else: the rule of the tree is the rule
-- `cluster`, and the tree with the Rust's own text in that place is the Rust's call.
pub data Tree : Type 0 where
  plain : Rule → Tree
  place : Tree
  after : Rule → Tree → Tree
  fork : Test → Tree → Tree → Tree

abbrev pub rule_of : Rule → Tree → Rule
rule_of m (plain r) = r
rule_of m place = m
rule_of m (after r d) = r ▸ rule_of m d
rule_of m (fork p d e) = choose p (rule_of m d) (rule_of m e)

abbrev pub run_of : (List ℕ → Parse → Parse) → Tree → List ℕ → Parse → Parse
run_of f (plain r) text s = run r text s
run_of f place text s = f text s
run_of f (after r d) text s = run_of f d text (run r text s)
run_of f (fork p d e) text s =
    let a = run_of f d text s in
    let b = run_of f e text s in
    cond (holds text p s) a b

-- the rows of a tree, to be held beside those of the rule
infixr 30 ◌then◌
abbrev ◌then◌ : Rule → Tree → Tree
rule then tree = after rule tree

infixr 20 ◌⇒◌∣◌
abbrev ◌⇒◌∣◌ : Test → Tree → Tree → Tree
test ⇒ tree ∣ later = fork test tree later

-- `standard` and its `standard_tail`
abbrev pub standard_tree : Bool → Tree
standard_tree potential =
    one_of (B ∷ GB ∷ []) ⇒ take Base then accept_as VS Vs then (is_symbol_mark potential ⇒ plain symbol_marks ∣ place)
    ∣ plain (mark set_broken ▸ by_kind)

-- `cluster` and its `letter`
abbrev pub cluster_tree : Tree
cluster_tree =
    is_emoji ⇒ plain emojis
    ∣ is O ⇒ plain other_arm
    ∣ one_of (IND ∷ Rsv ∷ WJ ∷ []) ⇒ plain base_vs
    ∣ is R ⇒ take Reph then standard_tree false
    ∣ is CS ⇒ take Other then standard_tree false
    ∣ is B ⇒ standard_tree false
    ∣ is GB ⇒ standard_tree true
    ∣ is N ⇒ plain number
    ∣ is S ⇒ plain symbol
    ∣ standard_tree false

abbrev pub cluster_as_rust : Bool → List ℕ → Parse → Parse
cluster_as_rust khmer = run_of (marked_syllable_as_rust khmer) cluster_tree

-- two parses hand back the same: the cluster, and the next place
abbrev pub Same : List ℕ → Parse → Parse → Type 0
Same text s q = (cluster_of s ≡ cluster_of q) × (place_of text s ≡ place_of text q)

-- What refusal 6 refuses, on its smallest texts: a base, a consonant mark of a kind, and behind it a U+034F of a class, where the text
-- ends. The run of that kind ends there, and what comes behind the run would ask for the U+034F, which is pushed already.
abbrev pub barred_text : ℕ → ℕ → List ℕ
barred_text kind class = packed 0x1780 B 0 0 0 0 0 ∷ packed 0x17C9 kind 0 0 0 0 1 ∷ packed CGJ class 0 0 0 0 2 ∷ []

-- how many characters a call from the start of such a text pushes, for each class of a list: by the rule, and with another text of that
-- place
abbrev pub ruled : Bool → ℕ → List ℕ → List ℕ
ruled khmer kind classes = map (λ class. (run (cluster khmer) (barred_text kind class) (begin start_place Crate true)).len) classes

abbrev pub pushes : (List ℕ → Parse → Parse) → ℕ → List ℕ → List ℕ
pushes f kind classes = map (λ class. (run_of f cluster_tree (barred_text kind class) (begin start_place Crate true)).len) classes

-- A line that holds a range has three bytes at least. Assumes nothing.
use Rattle.std.specs.Prelude.{Some, None}
use Prim.Native.Nat.{ℕ, zero, suc, ◌+◌, ◌-◌, ◌≤◌}
use Prim.Native.Char.{code}
use mathlib.Core.Path.{◌≡◌, refl}
use mathlib.Core.Bool.{false, cond}
use mathlib.Core.List.{List, [], ◌∷◌}
use native.Mathlib.Nat.{le_trans, le_of_eq, min-le_left, min-le_right}
use native.Mathlib.Omega.{arith}
use lib.Dec.{eqb, leb}
use lib.ListN.{length, get_or, take, drop, length-take, length-drop}
use Rattle.basics.specs.Sets.{any}
use Rattle.basics.proofs.Tests.{if_intro, neither}
use Rattle.cases.specs.Numbers.{number_of, Number}
use Rattle.cases.specs.Spans.{before, up_to, after}
use Rattle.properties.specs.declared.File.{File}
use Rattle.properties.specs.Names.{Value}
use Rattle.properties.specs.declared.Line.{Line}
use Rattle.properties.specs.declared.Ruling.{Ruling}
use Rattle.properties.specs.Names.{code_of}
use Rattle.properties.specs.Lines.{leading, ending, untailed, trimmed, without_CR, body_of, scalars_of, value_of, is_between, no_value, hex, first_of, last_of, range_of, line_of, value_in}
use Rattle.properties.specs.Rulings.{ruled, ruling_of}
use Rattle.properties.specs.Reading.{said_by}

take_short : (n : ℕ) (bs : List ℕ) → length (take n bs) ≤ length bs
take_short n bs = le_trans (le_of_eq (length-take n bs)) (min-le_right n (length bs))

take_most : (n : ℕ) (bs : List ℕ) → length (take n bs) ≤ n
take_most n bs = le_trans (le_of_eq (length-take n bs)) (min-le_left n (length bs))

trimmed_short : (bs : List ℕ) → length (trimmed bs) ≤ length bs
unfolding trimmed untailed
trimmed_short bs =
    omega (arith, take_short (ending (drop (leading bs) bs) (length (drop (leading bs) bs))) (drop (leading bs) bs), length-drop (leading bs) bs)

without_short : (line : List ℕ) → length (without_CR line) ≤ length line
unfolding without_CR
without_short line =
    if_intro (λ x. length x ≤ length line) (eqb (get_or line (length line - 1) 0) (code "\r")) (take (length line - 1) line) line
    (λ t. take_short (length line - 1) line)
    (λ t. omega arith)

body_short : (line : List ℕ) → length (body_of line) ≤ length line
unfolding body_of up_to
body_short line =
    omega (arith, trimmed_short (take (before (code "#") (without_CR line)) (without_CR line)), take_short (before (code "#") (without_CR line)) (without_CR line), without_short line)

digits_some : (digits : List ℕ) (v : ℕ) → hex digits ≡ Some v → 1 ≤ length digits
unfolding hex number_of
digits_some [] v e = absurd (let z : ◌≡◌ {A = ℕ} 0 1 = cc in omega arith)
digits_some (x ∷ xs) v e = omega arith

module _ (body : List ℕ) where
  scalars_some : (v : ℕ) → first_of (scalars_of body) ≡ Some v → 1 ≤ before (code ";") body
  unfolding first_of scalars_of up_to
  scalars_some v e =
      let scalars : List ℕ = trimmed (take (before (code ";") body) body) in
      omega (
        arith,
        digits_some (take (before (code ".") scalars) scalars) v e,
        take_short (before (code ".") scalars) scalars,
        trimmed_short (take (before (code ";") body) body),
        take_most (before (code ";") body) body,
      )

  value_some : no_value (value_of body) ≡ false → before (code ";") body + 2 ≤ length body
  unfolding no_value value_of after
  value_some t =
      let rest : List ℕ = drop (suc (before (code ";") body)) body in
      let none : eqb (length (trimmed rest)) 0 ≡ false = (neither (eqb (length (trimmed rest)) 0) (any is_between (trimmed rest)) t).0 in
      let some : 1 ≤ length (trimmed rest) = not_none (length (trimmed rest)) none in
      omega (arith, trimmed_short rest, length-drop (suc (before (code ";") body)) body)
    where
      not_none : (n : ℕ) → eqb n 0 ≡ false → 1 ≤ n
      not_none zero e = absurd (let z : ◌≡◌ {A = ℕ} 0 1 = cc in omega arith)
      not_none (suc n) e = omega arith

-- how many bytes the ranges of a ruling take at least
abbrev bytes_of : Ruling → ℕ
bytes_of r = length (said_by r) + length (said_by r) + length (said_by r)

range_bytes : (n : ℕ) (a b : Number) → ((v : ℕ) → a ≡ Some v → 3 ≤ n) → (value : Value) → bytes_of (ruled (range_of a b) value) ≤ n
range_bytes n None b h value = omega arith
range_bytes n (Some f) None h value = omega arith
range_bytes n (Some f) (Some l) h value =
    if_intro (λ x. bytes_of (ruled x value) ≤ n) (leb f l) (Line.Range f l) Line.Malformed (λ t. known value) (λ t. omega arith)
  where
    known : (v : Value) → bytes_of (ruled (Line.Range f l) v) ≤ n
    known (Some c) = h f refl
    known None = omega arith

module _ (file : File) (line : List ℕ) where
  pub said_bytes : length (said_by (ruling_of file line)) + length (said_by (ruling_of file line)) + length (said_by (ruling_of file line)) ≤ length line
  unfolding ruling_of line_of
  said_bytes =
      if_intro (λ x. bytes_of (ruled x value) ≤ length line) (eqb (length (body_of line)) 0) Line.Skipped
      (cond (no_value (value_of (body_of line))) Line.Malformed (range_of (first_of (scalars_of (body_of line))) (last_of (scalars_of (body_of line)))))
      (λ s. omega arith)
      (λ s.
      if_intro (λ x. bytes_of (ruled x value) ≤ length line) (no_value (value_of (body_of line))) Line.Malformed (range_of (first_of (scalars_of (body_of line))) (last_of (scalars_of (body_of line))))
      (λ t. omega arith)
      (λ t.
      range_bytes (length line) (first_of (scalars_of (body_of line))) (last_of (scalars_of (body_of line)))
      (λ v e. omega (arith, scalars_some (body_of line) v e, value_some (body_of line) t, body_short line)) value))
    where
      value : Value
      value = code_of file (value_in line)

-- and one range at most
pub said_one : (r : Ruling) → length (said_by r) ≤ 1
said_one Ruling.Nothing = omega arith
said_one (Ruling.Refused refused) = omega arith
said_one (Ruling.Range first last code) = omega arith

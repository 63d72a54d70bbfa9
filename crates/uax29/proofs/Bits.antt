-- `u8::from` of a truth is the `cond` of the definitions. Assumes nothing.
use Prim.Native.Nat.{ℕ}
use mathlib.Core.Path.{◌≡◌, refl}
use mathlib.Core.Bool.{Bool, true, false, cond}
use mir.Val.{bool_byte}

pub bit : (b : Bool) → ◌≡◌ {A = ℕ} (bool_byte b) (cond b 1 0)
bit true = refl
bit false = refl

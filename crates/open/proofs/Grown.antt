-- A list that grew is what it was and more. Assumes nothing.
use Prim.Native.Nat.{ℕ}
use mathlib.Core.Path.{◌≡◌, sym, ◌∙◌}
use mathlib.Core.List.{List, [], ◌∷◌, ◌++◌, append_assoc, append-nil}
use Rattle.open.specs.Grown.{grown}

pub grown_more : (stream : List ℕ) (later : List (List ℕ)) → (more : List ℕ) × (grown stream later ≡ stream ++ more)
unfolding grown
grown_more stream [] = ([], sym (append-nil stream))
grown_more stream (more ∷ later) = let r = grown_more (stream ++ more) later in (more ++ r.0, r.1 ∙ append_assoc stream more r.0)

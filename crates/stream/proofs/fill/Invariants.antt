use Rattle.std.specs.Prelude.{◌≡◌, ◌++◌, length, take}
use Rattle.records.specs.Text.{lent}
use Rattle.stream.specs.Inner.{rest}
use Rattle.stream.specs.Stream.{source_of, itself, gather}
use Rattle.stream.proofs.Stream.{Kept}
use Rattle.stream.proofs.fill.Given as goal

abbrev pub invariant-loop-i : goal.invariant-loop-i
invariant-loop-i l =
    let s = source_of (lent l.columns).records l.kinds l.emojis in
    let n = length s.scalars in
    Kept l.i l.out l.initial.out × ((length l.out ≡ length l.initial.out) × (take l.i l.out ++ rest (itself s) n l.i 0 ≡ gather (itself s) 0 n))

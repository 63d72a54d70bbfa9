use mathlib.Core.Path.{refl}
use Rattle.spans.specs.Offsets.{offset_of}
use Rattle.spans.proofs.arrays.spans_within.Goals as goal

pub spans-requires : goal.spans-requires
unfolding offset_of
spans-requires g c = record { counts = refl; most = c.requires.1.most; cells = c.requires.1.cells; near = c.requires.1.near }

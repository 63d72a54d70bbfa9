-- The mode as a number: crate mode, which answers as the Rust does, and whole mode, which is ours (SCOPE 1.3).
use Rattle.std.specs.Prelude.{ℕ}
use Rattle.classes.specs.declared.Mode.{Mode}
use Rattle.classes.specs.declared.Mode.TheVariants.{Crate, Whole}

abbrev pub mode_code : Mode → ℕ
mode_code Crate = 0
mode_code Whole = 1

-- What one line says in a file is one ruling. Assumes nothing.
use Prim.Native.Nat.{ℕ}
use mathlib.Core.Path.{◌≡◌}
use mathlib.Core.List.{List}
use Rattle.records.proofs.Unique.{unique}
use Rattle.properties.specs.declared.File.{File}
use Rattle.properties.specs.declared.Ruling.{Ruling}
use Rattle.properties.specs.Rulings.{ruling_of}

pub ruling_of_unique : (file : File) (line : List ℕ) (a b : Ruling) → a ≡ ruling_of file line → b ≡ ruling_of file line → a ≡ b
ruling_of_unique file line = unique (ruling_of file line)

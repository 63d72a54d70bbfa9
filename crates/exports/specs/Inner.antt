-- What only private contracts need: the columns of a stepping call, on entry and at exit.
use Rattle.std.specs.Prelude.{ℕ, ◌≤◌, List, length}
use Rattle.parse.specs.declared.Cluster.{Cluster}
use Rattle.segment.specs.declared.Answer.{Answer}
use Rattle.segment.specs.Standing.{Output}
use Rattle.exports.specs.Steps.{Laid, Stepped}

-- a cluster laid out in four columns, as a contract has them
abbrev pub LaidIn : Cluster → Output → Output → Output → Output → Type 0
LaidIn c scalars classes records noted =
    Laid c scalars.entry.now classes.entry.now records.entry.now noted.entry.now
    scalars.exit.now classes.exit.now records.exit.now noted.exit.now

-- the room that a cluster's characters need
pub record Fits (c : Cluster) (scalars classes records noted : List ℕ) : Type 0 where
  pub most : c.len ≤ 32
  pub cells : c.len ≤ length c.chars
  pub scalar : c.len ≤ length scalars
  pub class : c.len ≤ length classes
  pub source : c.len ≤ length records
  pub note : c.len ≤ length noted

abbrev pub SteppedIn : Answer → Output → Output → Output → Output → Output → ℕ → Type 0
SteppedIn a scalars classes records noted results r =
    Stepped a scalars.entry.now classes.entry.now records.entry.now noted.entry.now results.entry.now r
    scalars.exit.now classes.exit.now records.exit.now noted.exit.now results.exit.now

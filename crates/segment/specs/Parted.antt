-- What only private contracts need. A loop over the records of the complex parser, where some are split: a token is read where its record
-- or part stands.
use Rattle.std.specs.Prelude.{ℕ, ◌+◌, ◌≡◌, Bool, true, false, cond, ◌&&◌, List, eqb, length}
use Rattle.basics.specs.Sets.{member}
use Rattle.classes.specs.Scalar.{khmer_signs}
use Rattle.classes.specs.declared.Mode.{Mode}
use Rattle.classes.specs.declared.Mode.TheVariants.{Crate, Whole}
use Rattle.records.specs.Text.{Text}
use Rattle.records.specs.Sound.{Sound}
use Rattle.records.specs.declared.Parser.{Parser}
use Rattle.parse.specs.State.{token_at}
use Rattle.stream.specs.declared.spots.Spot.{Spot}
use Rattle.stream.specs.declared.spots.Taken.{Taken}
use Rattle.stream.specs.Stream.{stream_of, split_tokens}
use Rattle.stream.specs.Inner.{Takes}
use Rattle.tables.specs.Symbols.{Regular}
use Rattle.segment.specs.declared.going.Going.{Going}
use Rattle.segment.specs.Going.{done_by}
use Rattle.segment.specs.Inner.{Roomy}
use Rattle.segment.specs.Seen.{EvenBy, use_parser}

-- whether a record is its token, which is the next one
unfoldable pub is_whole : Bool → ℕ → ℕ → ℕ → Bool
is_whole khmer part x decompose = cond (eqb decompose 1) false (cond (khmer && member khmer_signs x) false (eqb part 0))

-- a token taken at a spot: of such a record the one that is seen, else as the stream has it
abbrev pub ReadBy : Bool → Mode → Bool → Text → List ℕ → Spot → Taken → Type 0
ReadBy true mode khmer t seen s r = (r.token ≡ token_at seen s.index) × (r.next ≡ record { index = s.index + 1; part = 0 })
ReadBy false mode khmer t seen s r = Takes mode khmer t s r

-- the spot after a cell: where the cluster is over the token stays, and in crate mode where it is full
abbrev pub kept_in : Mode → Spot → Spot → Spot
kept_in Crate s next = s
kept_in Whole s next = next

unfoldable pub spot_after : Mode → ℕ → Going → Spot → Spot → Spot
spot_after mode v g s next = cond (eqb (done_by v) 3) s (cond (eqb g.characters g.stop) (kept_in mode s next) next)

-- what the loop asks
pub record Apart (khmer : Bool) (mode : Mode) (t : Text) (tokens : ℕ) (scalars classes clusters : List ℕ) : Type 0 where
  pub even : EvenBy (use_parser khmer) t
  pub marks : length t.records.decomposes ≡ length t.records.scalars
  pub count : tokens ≡ length (split_tokens mode khmer t)
  pub regular : Regular (use_parser khmer) (split_tokens mode khmer t)
  pub roomy : Roomy (split_tokens mode khmer t) scalars classes clusters

-- the same by the parser's own name
pub record Parting (parser : Parser) (mode : Mode) (t : Text) (tokens : ℕ) (scalars classes clusters : List ℕ) : Type 0 where
  pub sound : Sound parser t
  pub count : tokens ≡ length (stream_of mode parser t)
  pub regular : Regular parser (stream_of mode parser t)
  pub roomy : Roomy (stream_of mode parser t) scalars classes clusters

use Prim.Native.Nat.{ℕ}
use mathlib.Core.Path.{sym}
use native.Mathlib.Nat.{le_of_eq}
use lib.ListN.{length-replicate}
use native.Mathlib.Omega.{arith}
use Rattle.properties.proofs.Outcomes.{readable_reach, lines_refused, lines_stored}
use Rattle.properties.proofs.reading.read_lines.Goals as goal

pub collect-collected-requires : goal.collect-collected-requires
collect-collected-requires c = record { short = c.requires.short; firsts_held = omega (arith, (readable_reach _ _ _ _ _ _ c.requires 0 (omega arith)).firsts_reach); lasts_held = omega (arith, (readable_reach _ _ _ _ _ _ c.requires 0 (omega arith)).lasts_reach); beside = record { firsts_reach = le_of_eq (sym (length-replicate {A = ℕ} 16384 0)); lasts_reach = le_of_eq (sym (length-replicate {A = ℕ} 16384 0)); codes_reach = le_of_eq (sym (length-replicate {A = ℕ} 16384 0)) } }

pub returns-in-Err : goal.returns-in-Err
returns-in-Err c = lines_refused _ _ _ _ _ _ _ c.requires _ _ _ _ c.collect-collected.ensures _ c.in-Err.is

pub fill-requires : goal.fill-requires
fill-requires c = (readable_reach _ _ _ _ _ _ c.requires _ (c.collect-collected.ensures.fits _ c.in-Ok.is), record { firsts_reach = omega (arith, c.collect-collected.ensures.few _ c.in-Ok.is, c.collect-collected.auto.new_firsts, length-replicate {A = ℕ} 16384 0); lasts_reach = omega (arith, c.collect-collected.ensures.few _ c.in-Ok.is, c.collect-collected.auto.new_lasts, length-replicate {A = ℕ} 16384 0); codes_reach = omega (arith, c.collect-collected.ensures.few _ c.in-Ok.is, c.collect-collected.auto.new_codes, length-replicate {A = ℕ} 16384 0) })

pub overflow_add-result : goal.overflow_add-result
overflow_add-result c = omega (arith, (readable_reach _ _ _ _ _ _ c.requires _ (c.collect-collected.ensures.fits _ c.in-Ok.is)).firsts_reach, c.well_formed.1.1.0.0)

pub returns : goal.returns
returns c = lines_stored _ _ _ _ _ _ _ c.requires _ _ _ _ c.collect-collected.ensures _ c.in-Ok.is _ _ _ c.fill.ensures

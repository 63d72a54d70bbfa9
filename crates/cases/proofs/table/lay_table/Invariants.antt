use Prim.Native.Nat.{◌≤◌}
use mathlib.Core.Path.{◌≡◌}
use lib.ListN.{length, take, drop}
use lib.Seq.{sets}
use Rattle.cases.specs.Table.{table_to, reached, kept_of, most_kept}
use Rattle.cases.specs.Spans.{rest}
use Rattle.cases.proofs.table.lay_table.Given as goal

abbrev pub invariant-loop : goal.invariant-loop
invariant-loop l = (l.n ≤ most_kept) × ((drop l.at l.section ≡ rest 32 l.counter l.section) × ((l.n ≡ kept_of (length (table_to l.section l.counter))) × (l.out ≡ sets l.initial.out 0 (take reached (table_to l.section l.counter)))))

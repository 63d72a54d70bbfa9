-- That no two results fulfil them is shown (SCOPE 10): the contracts of the reader's four functions determine their answers, and the
-- reader afterwards. Assumes nothing.
use mathlib.Core.Path.{◌≡◌}
use Rattle.records.specs.Text.{Text}
use Rattle.records.proofs.Unique.{unique}
use Rattle.segment.specs.Calls.{next_of}
use Rattle.segment.specs.declared.Answer.{Answer}
use Rattle.segment.specs.declared.Segmenter.{Segmenter}
use Rattle.records.specs.declared.Columns.{Columns}
use Rattle.reader.specs.Reading.{answer_of, moved_to}
use Rattle.reader.specs.declared.Reader.{Reader}

module _ (state : Segmenter) (columns : Columns) where
  -- what `new` makes of them
  abbrev made : Reader
  made = record { state = state; columns = columns }

  pub new_unique : (a b : Reader) → a ≡ made → b ≡ made → a ≡ b
  new_unique = unique made

pub next_unique : (reader : Reader) (a b : Answer) → a ≡ answer_of reader → b ≡ answer_of reader → a ≡ b
next_unique reader = unique (answer_of reader)

-- the contract of `advance`: its answer, and the whole reader afterwards
abbrev Advanced : Reader → Answer → Reader → Type 0
Advanced reader a after = (a ≡ answer_of reader) × (after ≡ moved_to reader (answer_of reader).state)

pub advance_unique : (reader : Reader) (a b : Answer) (after after' : Reader) → Advanced reader a after → Advanced reader b after' → (a ≡ b) × (after ≡ after')
advance_unique reader a b after after' p q = (unique (answer_of reader) a b p.0 q.0, unique (moved_to reader (answer_of reader).state) after after' p.1 q.1)

pub read_unique : (state : Segmenter) (t : Text) (a b : Answer) → a ≡ next_of state t → b ≡ next_of state t → a ≡ b
read_unique state t = unique (next_of state t)

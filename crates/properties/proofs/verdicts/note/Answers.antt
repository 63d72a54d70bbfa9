use Rattle.properties.proofs.Notes.{noted_nothing, noted_refused, noted_range}
use Rattle.properties.proofs.verdicts.note.Goals as goal

pub returns-in-Nothing : goal.returns-in-Nothing
returns-in-Nothing c = search noted_nothing

pub returns-in-Refused : goal.returns-in-Refused
returns-in-Refused c = search noted_refused

pub returns-in-Range : goal.returns-in-Range
returns-in-Range c = search noted_range

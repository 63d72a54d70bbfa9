use mathlib.Core.Path.{◌∙◌}
use Rattle.label.specs.declared.lookup.Field.TheVariants.{Break, Myanmar, Category, Emoji, Selector}
use Rattle.label.specs.Table.{table}
use Rattle.label.proofs.Columns.{said_in, said_field}
use Rattle.label.proofs.lookup.class_of.Goals as goal
use Rattle.label.proofs.lookup.class_of.Goals.{in-Break, in-Myanmar, in-Category, in-Emoji, in-Selector}

pub returns : goal.returns
returns c =
    elim c.match-field.branch [
      | in-Break w ↦ let e = rw w.classes-is at c.class_in.ensures in said_field _ Break _ _ w.in-Break.is (unfold table in (e ∙ said_in (λ l. l.brk) table _))
      | in-Myanmar w ↦ let e = rw w.classes-is at c.class_in.ensures in said_field _ Myanmar _ _ w.in-Myanmar.is (unfold table in (e ∙ said_in (λ l. l.myanmar) table _))
      | in-Category w ↦ let e = rw w.classes-is at c.class_in.ensures in said_field _ Category _ _ w.in-Category.is (unfold table in (e ∙ said_in (λ l. l.category) table _))
      | in-Emoji w ↦ let e = rw w.classes-is at c.class_in.ensures in said_field _ Emoji _ _ w.in-Emoji.is (unfold table in (e ∙ said_in (λ l. l.emoji) table _))
      | in-Selector w ↦ let e = rw w.classes-is at c.class_in.ensures in said_field _ Selector _ _ w.in-Selector.is (unfold table in (e ∙ said_in (λ l. l.selector) table _))
    ]

use Rattle.std.proofs.Common.{None, ap, sym, ◌∙◌}
use Rattle.std.specs.Prelude.{ℕ, List}
use Rattle.txn_journal.proofs.FormatLaws.{one_value}
use Rattle.txn_journal.specs.Reading.{journals}
use Rattle.txn_journal.specs.Spelling.{spelling_as}
use Rattle.txn_journal.specs.declared.lines.Version.TheVariants.{One}
use Rattle.txn_journal.proofs.JournalLaws.{none_stamped}
use Rattle.txn_journal.proofs.JournalPlaces.{IsSoundJournal, journal_laws, one_written}
use Rattle.txn_journal.proofs.laws.one_spelling.Goals as goal
use Rattle.txn_journal.specs.declared.lines.Due.TheVariants.{Any}

pub returns : goal.returns
returns c = record {
  one = λ j ks ls a b x y. x.text ∙ ap (λ (stamps : List ℕ). spelling_as One stamps j) (none_stamped 1 ks j.entries x.stamps_fit ∙ sym (none_stamped 1 ls j.entries y.stamps_fit)) ∙ sym y.text;
  each = λ v j ls a b x y. x.text ∙ sym y.text;
  journal = one_value journals IsSoundJournal journal_laws;
  whole = one_written;
}

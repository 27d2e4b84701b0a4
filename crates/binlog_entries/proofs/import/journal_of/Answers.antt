use Rattle.std.proofs.Common.{◌≡◌, Bool, List, sym, ◌∙◌}
use Rattle.rows.specs.declared.schema.Table.{Table}
use Rattle.journal.specs.declared.Entry.{Entry}
use Rattle.gtid_set.specs.Sets.{Gtids}
use Rattle.binlog_entries.specs.Keys.{varied_key, varied_places}
use Rattle.binlog_entries.specs.Imports.{AreKeysTaken, IsKeyFault, IsNotWritten}
use Rattle.binlog_entries.specs.declared.import.ImportFault.{ImportFault}
use Rattle.binlog_entries.specs.declared.import.ImportFault.TheVariants as faults
use Rattle.log_transactions.specs.declared.varied.Varied.{Varied}
use Rattle.txn_journal.specs.Spelling.{spelling_as}
use Rattle.txn_journal.specs.Stamps.{right_stamps}
use Rattle.txn_journal.specs.declared.lines.Version.TheVariants.{Three}
use Rattle.binlog_entries.proofs.import.journal_of.Goals as goal

taken : (tables same_tables : List Table) (bytes : Bool) (varied same_varied : List Varied) → same_tables ≡ tables → same_varied ≡ varied → AreKeysTaken same_tables bytes same_varied → AreKeysTaken tables bytes varied
taken tables same_tables bytes varied same_varied ts vs keys e = (λ i. varied_key (sym ts i) (sym vs i)) ∙ keys e

pub returns-in-Ok-journal_text-clause-found : goal.returns-in-Ok-journal_text-clause-found
returns-in-Ok-journal_text-clause-found c = record {
  keys = taken c.args.schema.now c.tables.result.now c.args.bytes c.args.log.now.varied.items c.deref.result.now c.tables.ensures.value c.deref.ensures.value c.in-Ok.ensures.taken;
  varies = c.in-Ok.ensures.places ∙ (λ i. varied_places 0 (c.tables.ensures.value i) (c.deref.ensures.value i));
  spells = c.in-Ok-journal_text.ensures ∙ (λ i. spelling_as Three (right_stamps Three c.args.schema.now (c.in-Ok-log_journal.ensures.found i).entries) (c.in-Ok-log_journal.ensures.found i));
}

pub returns-in-Err-log_journal-clause-refused : goal.returns-in-Err-log_journal-clause-refused
returns-in-Err-log_journal-clause-refused c =
    (taken c.args.schema.now c.tables.result.now c.args.bytes c.args.log.now.varied.items c.deref.result.now c.tables.ensures.value c.deref.ensures.value c.in-Ok.ensures.taken, c.in-Err-log_journal.ensures.refused)

key_refused : (tables same_tables : List Table) (bytes : Bool) (fault : ImportFault) (previous : Gtids) (entries : List Entry) (varied same_varied : List Varied) → same_tables ≡ tables → same_varied ≡ varied → IsKeyFault same_tables bytes same_varied fault
    → IsNotWritten tables bytes previous entries varied fault
key_refused tables same_tables bytes (faults.Key table column) previous entries varied same_varied ts vs h = (h.0, (λ i. varied_key (sym ts i) (sym vs i)) ∙ h.1)
key_refused tables same_tables bytes (faults.Text fault) previous entries varied same_varied ts vs h = h
key_refused tables same_tables bytes (faults.Log fault) previous entries varied same_varied ts vs h = absurd h

pub returns-in-Err-clause-refused : goal.returns-in-Err-clause-refused
returns-in-Err-clause-refused c =
    key_refused c.args.schema.now c.tables.result.now c.args.bytes c.in-Err.fault c.args.log.now.previous c.args.log.now.entries.items c.args.log.now.varied.items c.deref.result.now c.tables.ensures.value c.deref.ensures.value c.in-Err.ensures.fault

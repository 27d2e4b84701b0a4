use Rattle.std.proofs.Common.{ℕ, Bool, List, Result, Ok, Err, IfOk, IfErr, sym, subst, refl, inr}
use Rattle.gtid_set.specs.Sets.{Gtids}
use Rattle.journal.specs.declared.Entry.{Entry}
use Rattle.rows.specs.declared.schema.Table.{Table}
use Rattle.binlog_entries.specs.Imports.{IsWritten, IsNotWritten, Imports, IsNoImport}
use Rattle.binlog_entries.specs.Stream.{IsLog, Refuses}
use Rattle.binlog_entries.specs.declared.fault.ReadFault.{ReadFault}
use Rattle.binlog_entries.specs.declared.import.ImportFault.{ImportFault}
use Rattle.binlog_entries.specs.declared.import.ImportFault.TheVariants as faults
use Rattle.binlog_entries.specs.declared.import.ImportedJournal.{ImportedJournal}
use Rattle.log_transactions.specs.declared.varied.Varied.{Varied}
use Rattle.binlog_entries.proofs.import.import_journal.Goals as goal

module _ (tables : List Table) (opening : Gtids) (bytes : Bool) (text : List ℕ) (previous : Gtids) (entries : List Entry) (varied : List Varied) where
  found : (r : Result ImportedJournal ImportFault) → IsLog opening text previous entries varied → IfOk r (λ i. IsWritten tables bytes previous entries varied i.text.items i.varied.items)
      → IfOk r (λ i. Imports tables opening bytes text i.text.items i.varied.items)
  found (Ok i) log writes = record { previous = previous; entries = entries; varied = varied; log = log; writes = writes }
  found (Err fault) log writes = tt

  not_written : (fault : ImportFault) → IsLog opening text previous entries varied → IsNotWritten tables bytes previous entries varied fault → IsNoImport tables opening bytes fault text
  not_written (faults.Text fault) log h = subst (λ (f : ReadFault). Refuses opening f text) (sym h) (inr refl)
  not_written (faults.Key table column) log h = (h.0, record { previous = previous; entries = entries; varied = varied; log = log; key = h.1 })
  not_written (faults.Log fault) log h = record { previous = previous; entries = entries; varied = varied; log = log; keys = h.0; unfit = h.1 }

  refused : (r : Result ImportedJournal ImportFault) → IsLog opening text previous entries varied → IfErr r (IsNotWritten tables bytes previous entries varied)
      → IfErr r (λ fault. IsNoImport tables opening bytes fault text)
  refused (Ok i) log h = tt
  refused (Err fault) log h = not_written fault log h

pub returns-in-Ok-clause-found : goal.returns-in-Ok-clause-found
returns-in-Ok-clause-found c =
    found c.args.schema.now c.args.opening.now c.args.bytes c.args.text.now c.in-Ok.log.previous c.in-Ok.log.entries.items c.in-Ok.log.varied.items c.journal_of.result c.in-Ok.ensures.found c.journal_of.ensures.found

pub returns-in-Ok-clause-refused : goal.returns-in-Ok-clause-refused
returns-in-Ok-clause-refused c =
    refused c.args.schema.now c.args.opening.now c.args.bytes c.args.text.now c.in-Ok.log.previous c.in-Ok.log.entries.items c.in-Ok.log.varied.items c.journal_of.result c.in-Ok.ensures.found c.journal_of.ensures.refused

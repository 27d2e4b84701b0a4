-- Logs with hidden values.
use Rattle.std.proofs.Common.{inr, ◌≡◌, ℕ, Bool, true, List, [], ◌∷◌, map, refl, sym, ap, ◌∙◌}
use Rattle.std.specs.Prelude.{◌&&◌}
use Rattle.std.specs.List.{list_all}
use Rattle.gtid_text.specs.declared.Gtid.{Gtid}
use Rattle.gtid_set.specs.Sets.{Gtids}
use Rattle.journal.specs.declared.Entry.{Entry}
use Rattle.journal.specs.Writing.{is_number}
use Rattle.log_transactions.specs.declared.machine.LoggedTransactions.{LoggedTransactions}
use Rattle.derived_columns.specs.declared.column.DerivedColumn.{DerivedColumn}
use Rattle.binlog_bundle.specs.Logs.{Origin}
use Rattle.binlog_bundle.specs.Weighed.{IsUnweighed, IsUnweighedLog}
use Rattle.binlog_bundle.specs.declared.fault.Logless.TheVariants as why
use Rattle.binlog_bundle.specs.declared.fault.SourceFault.{SourceFault}
use Rattle.binlog_bundle.specs.declared.fault.SourceFault.TheVariants as sources

abbrev are_numbers : List Gtid → Bool
are_numbers gtids = list_all (λ g. is_number g.number) gtids

numbers_of : (es : List Entry) → list_all (λ e. is_number e.gtid.number) es ≡ are_numbers (map (λ e. e.gtid) es)
numbers_of [] = refl
numbers_of (e ∷ es) = ap (λ (b : Bool). is_number e.gtid.number && b) (numbers_of es)

-- entries with the same GTIDs have the same numbers
pub same_numbers : (es ds : List Entry) → map (λ e. e.gtid) ds ≡ map (λ e. e.gtid) es → list_all (λ e. is_number e.gtid.number) es ≡ true → list_all (λ e. is_number e.gtid.number) ds ≡ true
same_numbers es ds same all = numbers_of ds ∙ ap are_numbers same ∙ sym (numbers_of es) ∙ all

-- a log has no hidden values, so the channel has no log with them
pub unweighed_so : (columns : List DerivedColumn) (origin : Origin) (name text : List ℕ) (opening : Gtids) (log : LoggedTransactions) (fault : SourceFault)
    → origin.is_log name text opening log.previous log.entries.items log.varied.items → IsUnweighedLog columns log fault → IsUnweighed columns origin name text opening fault
unweighed_so columns origin name text opening log (sources.Text fault) has none = inr none
unweighed_so columns origin name text opening log (sources.Logless why.Missing) has none = absurd none
unweighed_so columns origin name text opening log (sources.Logless why.Surplus) has none = absurd none
unweighed_so columns origin name text opening log (sources.Logless (why.Collation table column)) has none = inr (record {
  previous = log.previous;
  logged = log.entries.items;
  varied = log.varied.items;
  log = has;
  other = none.0;
  first = none.1;
  named = (none.2, none.3);
})
unweighed_so columns origin name text opening log (sources.Logless (why.Weights gtid table column)) has none = inr (record {
  previous = log.previous;
  logged = log.entries.items;
  varied = log.varied.items;
  log = has;
  agrees = none.0;
  none = none.1;
})
unweighed_so columns origin name text opening log (sources.File fault) has none = absurd none

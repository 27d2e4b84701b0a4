-- What `audit --all` answers.
use Rattle.std.specs.Prelude.{ℕ, List, [], ◌∷◌, ◌++◌, codes}
use Rattle.gtid_text.specs.declared.Span.{Span}
use Rattle.gtid_text.specs.Canonical.{span_text}
use Rattle.gtid_set.specs.Runs.{runs}
use Rattle.world.specs.declared.verdict.Verdict.{Verdict}
use Rattle.txn_journal.specs.BundleStates.{BundleValue}
use Rattle.world.specs.declared.verdict.Verdict.TheVariants.{Sound}
use Rattle.gtid_report.specs.VerdictLines.{verdict_line}
use Rattle.gtid_report.specs.Assumed.{assumed, conditions, verdict_line_under}
use Rattle.txn_journal.specs.declared.assumptions.Assumption.{Assumption}
use Rattle.audit.specs.declared.listing.AllFaults.{AllFaults}
use Rattle.audit.specs.Others.{Faults}
use Rattle.serving.specs.Listing.{faults_known, IsFaultsFault}
use Rattle.commands.specs.Printed.{Printed, with_line_feed, IsAnswerTo}
use Rattle.commands.specs.Verdicts.{verdict_ending}
use Rattle.commands.specs.Parsing.{ParsesAsBundle, bundle_in}

-- the lines of verdicts
abbrev pub verdict_lines : List Verdict → List ℕ
verdict_lines [] = []
verdict_lines (v ∷ vs) = with_line_feed (verdict_line v) ++ verdict_lines vs

-- numbers of a source, from one to another, that are missing
abbrev pub run_line : Span → List ℕ
run_line s = with_line_feed (codes "missing " ++ span_text s)

abbrev pub run_lines : List Span → List ℕ
run_lines [] = []
run_lines (s ∷ ss) = run_line s ++ run_lines ss

-- the faults that the code's record denotes
abbrev pub held_faults : AllFaults → Faults
held_faults all = record {
  verdict = all.verdict;
  unequal = all.unequal.items;
  purged = all.purged.items;
  missing = all.missing;
  shared = all.shared.items;
  not_closed = all.not_closed.items;
  does_not_apply = all.does_not_apply.items;
}

-- what the faults rest on, if the verdict doesn't say it
abbrev pub last_line : List Assumption → Verdict → List ℕ
last_line said Sound = []
last_line [] v = []
last_line (a ∷ said) v = with_line_feed (codes "if " ++ conditions (a ∷ said))

-- the verdict; then GTIDs under which journals differ, journals, missing GTIDs by their longest runs, shared keys, GTIDs that are present without what
-- they need, and sources whose transactions do not apply
abbrev pub faults_text : List Assumption → Faults → List ℕ
faults_text said all =
    ((((((with_line_feed (verdict_line_under said all.verdict) ++ verdict_lines all.unequal) ++ verdict_lines all.purged) ++ run_lines (runs all.missing)) ++ verdict_lines all.shared)
    ++ verdict_lines all.not_closed)
    ++ verdict_lines all.does_not_apply)
    ++ last_line said all.verdict

abbrev pub printed_faults : List Assumption → Faults → Printed
printed_faults said all = record { text = faults_text said all; outcome = verdict_ending said all.verdict }

-- the verdict of the audit, and what else there is
abbrev pub list_answer : BundleValue → Printed
list_answer b = printed_faults (assumed b) (faults_known b)

-- it is the answer of `audit --all` to these bytes
abbrev pub Lists : List ℕ → Printed → Type 0
Lists bytes printed = IsAnswerTo ParsesAsBundle bundle_in list_answer IsFaultsFault bytes printed

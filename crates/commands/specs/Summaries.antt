-- What `audit --summary` answers: how many keys two sources share in a table, and the first of them.
use Rattle.std.specs.Prelude.{◌≡◌, ℕ, ◌+◌, Bool, false, List, [], ◌∷◌, ◌++◌, codes, decimal, Option, Some, None, if◌then◌else◌}
use Rattle.std.specs.List.{list_any}
use Rattle.std.specs.Option.{option_map_or, unwrap_or}
use Rattle.std.specs.Str.{bytes_eq}
use Rattle.gtid_text.specs.declared.Gtid.{Gtid}
use Rattle.gtid_text.specs.Canonical.{source_text}
use Rattle.rows.specs.declared.change.Key.{Key}
use Rattle.world.specs.declared.verdict.Verdict.{Verdict}
use Rattle.world.specs.declared.verdict.Verdict.TheVariants.{Shared}
use Rattle.txn_journal.specs.BundleStates.{BundleValue}
use Rattle.txn_journal.specs.declared.assumptions.Assumption.{Assumption}
use Rattle.gtid_report.specs.VerdictLines.{verdict_line}
use Rattle.gtid_report.specs.Assumed.{assumed, verdict_line_under}
use Rattle.audit.specs.Others.{Faults}
use Rattle.serving.specs.Listing.{faults_known, IsFaultsFault}
use Rattle.commands.specs.Printed.{Printed, with_line_feed, IsAnswerTo}
use Rattle.commands.specs.Verdicts.{verdict_ending}
use Rattle.commands.specs.Listings.{last_line}
use Rattle.commands.specs.Parsing.{ParsesAsBundle, bundle_in}

-- where a key is shared: the two sources, and the table
abbrev pub place_text : Gtid → Gtid → Key → List ℕ
place_text g h key = source_text g.source ++ codes " " ++ source_text h.source ++ codes " " ++ key.table

-- where a fault is, if it is a shared key
abbrev pub place_of : Verdict → Option (List ℕ)
place_of (Shared g h key) = Some (place_text g h key)
place_of _ = None

-- the fault is a key that is shared there
abbrev pub is_at : List ℕ → Verdict → Bool
is_at place fault = option_map_or (λ here. bytes_eq here place) (place_of fault) false

-- how many of the faults are there, if any is
abbrev pub count_at : List ℕ → List Verdict → Option ℕ
count_at place [] = None
count_at place (v ∷ vs) = if is_at place v then Some (unwrap_or (count_at place vs) 0 + 1) else count_at place vs

-- the line of a place: how many of the faults are there, and the first
abbrev pub summary_line : List ℕ → ℕ → Verdict → List ℕ
summary_line place count first = with_line_feed (codes "summary " ++ place ++ codes " " ++ decimal count ++ codes " " ++ verdict_line first)

-- nothing, if the place came before; else its line, by the first fault there and how many there are
abbrev pub line_at : List ℕ → Verdict → Option ℕ → List ℕ
line_at place first None = []
line_at place first (Some count) = summary_line place count first

-- how many of the faults are at a place, if none there came before
abbrev pub new_count : List ℕ → List Verdict → List Verdict → Option ℕ
new_count place seen faults = if list_any (is_at place) seen then None else count_at place faults

-- the line of a fault's place, if the fault is the first of these there, and none there came before
abbrev pub line_of : Option (List ℕ) → List Verdict → Verdict → List Verdict → List ℕ
line_of None seen v vs = []
line_of (Some place) seen v vs = line_at place v (new_count place seen (v ∷ vs))

-- a line for each place, in the order in which the faults come to them
abbrev pub summary_behind : List Verdict → List Verdict → List ℕ
summary_behind seen [] = []
summary_behind seen (v ∷ vs) = line_of (place_of v) seen v vs ++ summary_behind (seen ++ v ∷ []) vs

-- all shared keys, that of the verdict first
abbrev pub shared_faults : Faults → List Verdict
shared_faults all = all.verdict ∷ all.shared

-- the verdict, a line for each place, and what that rests on, if the verdict doesn't say it
abbrev pub summary_text : List Assumption → Faults → List ℕ
summary_text said all = (with_line_feed (verdict_line_under said all.verdict) ++ summary_behind [] (shared_faults all)) ++ last_line said all.verdict

abbrev pub printed_summary : List Assumption → Faults → Printed
printed_summary said all = record { text = summary_text said all; outcome = verdict_ending said all.verdict }

abbrev pub summary_answer : BundleValue → Printed
summary_answer b = printed_summary (assumed b) (faults_known b)

-- it is the answer of `audit --summary` to these bytes
abbrev pub Summarizes : List ℕ → Printed → Type 0
Summarizes bytes printed = IsAnswerTo ParsesAsBundle bundle_in summary_answer IsFaultsFault bytes printed

-- The answer to a query. The words and their order are our own.
use Rattle.std.specs.Prelude.{ℕ, Bool, true, false, List, ◌++◌, length, slice_get, Option, Some, None, option_map, codes, decimal}
use Rattle.gtid_text.specs.declared.Gtid.{Gtid}
use Rattle.gtid_text.specs.Canonical.{gtid_text}
use Rattle.gtid_set.specs.Sets.{Gtids}
use Rattle.rows.specs.declared.change.Transaction.{Transaction}
use Rattle.rows.specs.Listing.{rows_listed}
use Rattle.apply_channel.specs.Channels.{Received}
use Rattle.txn_journal.specs.WrittenSets.{set_text}
use Rattle.txn_journal.specs.Spelling.{spelling_as}
use Rattle.txn_journal.specs.Stamps.{right_stamps}
use Rattle.txn_journal.specs.declared.lines.Version.{Version}
use Rattle.gtid_report.specs.State.{rows_text}
use Rattle.replica_lines.specs.Status.{status_text}
use Rattle.replica_core.specs.State.{Replica, State, entry_at}
use Rattle.replica_core.specs.Machine.{ask, drained, next_ready}
use Rattle.replica_script.specs.declared.question.Query.{Query}
use Rattle.replica_script.specs.declared.question.Query.TheVariants as query
use Rattle.replica_script.specs.Replies.{with_line_feed}

-- a set, if there is one
abbrev pub set_or_none : Option Gtids → List ℕ
set_or_none None = codes "none"
set_or_none (Some s) = set_text s

-- how many changes a transaction has; one that is executed is gone
abbrev pub changes_or_gone : Option Transaction → List ℕ
changes_or_gone None = codes "gone"
changes_or_gone (Some txn) = decimal (length txn.changes)

abbrev pub shown_entry : Gtid → Option Transaction → List ℕ
shown_entry gtid txn = gtid_text gtid ++ codes " " ++ changes_or_gone txn

-- an entry, if there is one
abbrev pub entry_or_none : Option Received → List ℕ
entry_or_none None = codes "none"
entry_or_none (Some e) = shown_entry e.gtid e.txn

abbrev pub truth : Bool → List ℕ
truth true = codes "true"
truth false = codes "false"

-- the set with which a channel would ask now, if there is that channel
abbrev pub asks : State → ℕ → Option Gtids
asks s channel = option_map (ask s) (slice_get s.channels channel)

-- a place, if there is one
abbrev pub place_or_none : Option ℕ → List ℕ
place_or_none None = codes "none"
place_or_none (Some place) = decimal place

-- a replica's own journal by a version of the format
abbrev pub journal_text : Version → Replica → List ℕ
journal_text version r = spelling_as version (right_stamps version r.site.schema r.state.journal.entries) r.state.journal

-- the lines that answer a query
abbrev pub query_text : Replica → Query → List ℕ
query_text r query.Rows = rows_text r.site.schema (rows_listed r.state.rows)
query_text r query.Executed = with_line_feed (set_text r.state.executed)
query_text r query.Purged = with_line_feed (set_text r.state.journal.previous)
query_text r (query.Journal version) = journal_text version r
query_text r query.Drained = with_line_feed (truth (drained r.state))
query_text r query.Status = status_text r.state
query_text r (query.Ask channel) = with_line_feed (set_or_none (asks r.state channel))
query_text r (query.Next channel from) = with_line_feed (place_or_none (next_ready r.site r.state channel from))
query_text r (query.Entry channel place) = with_line_feed (entry_or_none (entry_at r.state (record { channel = channel; place = place })))

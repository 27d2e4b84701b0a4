-- The lines of a bundle that have come, from what they have made.
use Rattle.std.specs.Prelude.{List, [], ◌∷◌, ◌++◌, map, Option, Some, None}
use Rattle.rows.specs.declared.change.TableRow.{TableRow}
use Rattle.txn_journal.specs.BundleStates.{BundleStanding}
use Rattle.txn_journal.specs.BundleText.{BundleLine, Own, Inner, Heads, Names, Opens, Done, assumption_lines, tables_lines, bundle_front}
use Rattle.txn_journal.specs.Stamps.{all_stamps}
use Rattle.txn_journal.specs.LinesSoFar.{lines_so_far}
use Rattle.txn_journal.specs.Machine.{Standing}
use Rattle.txn_journal.specs.declared.bundle.BundleChannel.{BundleChannel}
use Rattle.txn_journal.specs.declared.bundle_draft.Part.{Part}
use Rattle.txn_journal.specs.declared.bundle_draft.Part.TheVariants as parts

-- the channel that is open, and the lines of its journal so far
abbrev pub inner_lines_so_far : Option BundleChannel → Standing → List BundleLine
inner_lines_so_far None draft = []
inner_lines_so_far (Some c) draft = Own (Opens c) ∷ map Inner (lines_so_far draft)

-- the lines of the bundle's whole channels and of what comes before them, each entry with its last_committed
abbrev pub front_lines_so_far : List TableRow → BundleStanding → List BundleLine
front_lines_so_far rows s = bundle_front s.version rows (all_stamps s.version s.bundle.start.schema s.bundle.journals) s.bundle

abbrev pub bundle_lines_so_far_at : Part → List TableRow → BundleStanding → List BundleLine
bundle_lines_so_far_at parts.Header rows s = []
bundle_lines_so_far_at parts.Replica rows s = Own (Heads s.version) ∷ []
bundle_lines_so_far_at parts.Opening rows s = Own (Heads s.version) ∷ Own (Names s.bundle.replica) ∷ []
bundle_lines_so_far_at parts.Tables rows s = tables_lines s.version s.bundle.replica s.bundle.opened s.tables
bundle_lines_so_far_at parts.References rows s = front_lines_so_far rows s
bundle_lines_so_far_at parts.Rows rows s = front_lines_so_far rows s
bundle_lines_so_far_at parts.Channels rows s = front_lines_so_far rows s
bundle_lines_so_far_at parts.Journal rows s = front_lines_so_far rows s ++ inner_lines_so_far s.channel s.draft
bundle_lines_so_far_at parts.Assumptions rows s = front_lines_so_far rows s ++ assumption_lines s.bundle.assumptions
bundle_lines_so_far_at parts.Ended rows s = front_lines_so_far rows s ++ (assumption_lines s.bundle.assumptions ++ Own Done ∷ [])

-- the lines of a bundle that has come so far, with its rows in this order
abbrev pub bundle_lines_so_far : List TableRow → BundleStanding → List BundleLine
bundle_lines_so_far rows s = bundle_lines_so_far_at s.part rows s

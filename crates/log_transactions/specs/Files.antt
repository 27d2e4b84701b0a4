-- The previous sets of the files of a log.
use Rattle.std.specs.Prelude.{Bool, true, false, not, ◌||◌, if◌then◌else◌}
use Rattle.std.specs.FinSet as set
use Rattle.gtid_set.specs.Sets.{Gtids}
use Rattle.log_transactions.specs.declared.stages.FileOrder.{FileOrder}
use Rattle.log_transactions.specs.declared.stages.FileOrder.TheVariants as files

abbrev pub is_later : FileOrder → Bool
is_later files.Later = true
is_later _ = false

-- the file whose previous set comes next
abbrev pub next_file : FileOrder → FileOrder
next_file files.Unread = files.First
next_file _ = files.Later

-- a previous set of a later file lies within what came before it
abbrev pub has_come : FileOrder → Gtids → Gtids → Bool
has_come file come gtids = not (is_later file) || set.is_subset gtids come

-- what came, with the previous set of the first file; that of a later one came before
abbrev pub come_behind : FileOrder → Gtids → Gtids → Gtids
come_behind file come gtids = if is_later file then come else set.union come gtids

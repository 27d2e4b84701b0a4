-- What the statement of a QUERY tells: the beginning or the end of a transaction, a savepoint, or maintenance. Each is a line of
-- mysqlbinlog's text, too; any other statement is refused, unless an operator answers for it and may do so.
use Rattle.std.specs.Prelude.{ℕ, nat_eq, Bool, ◌&&◌, List, Option, Some, Result, Ok, Err, codes, if◌then◌else◌}
use Rattle.std.specs.List.{starts_with}
use Rattle.binlog_text.specs.Lines.{Content, OfMark}
use Rattle.binlog_text.specs.Reading.{line_of}
use Rattle.binlog_text.specs.declared.lines.Mark.{Mark}
use Rattle.binlog_text.specs.declared.lines.Mark.TheVariants as marks
use Rattle.log_transactions.specs.Events.{Event, Begins, Savepoint, Commits, Maintains}
use Rattle.binlog_files.specs.Accepted.{may_be_accepted}
use Rattle.binlog_files.specs.declared.fault.FileRefusal.{FileRefusal}
use Rattle.binlog_files.specs.declared.fault.FileRefusal.TheVariants as refusals

-- distributed transactions have a word of their own
abbrev pub statement_refusal : List ℕ → FileRefusal
statement_refusal text = if starts_with nat_eq text (codes "XA ") then refusals.Xa else refusals.Statement

abbrev pub mark_told : List ℕ → Mark → Result Event FileRefusal
mark_told text marks.Begin = Ok Begins
mark_told text marks.Commit = Ok Commits
mark_told text marks.Savepoint = Ok Savepoint
mark_told text marks.Maintenance = Ok Maintains
mark_told text _ = Err (statement_refusal text)

abbrev pub content_told : List ℕ → Option Content → Result Event FileRefusal
content_told text (Some (OfMark mark)) = mark_told text mark
content_told text _ = Err (statement_refusal text)

-- what a statement tells, and whether an operator answers for those of its transaction
unfoldable pub statement_told : Bool → List ℕ → Result Event FileRefusal
statement_told is_accepted text =
    if is_accepted && may_be_accepted text then Ok Maintains else content_told text (line_of text)

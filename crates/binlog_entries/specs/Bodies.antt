-- Which lines are allowed where in the text of a binary log.
use Rattle.std.specs.Prelude.{Bool, true, false, if◌then◌else◌}
use Rattle.binlog_text.specs.declared.lines.LogEvent.{LogEvent}
use Rattle.binlog_text.specs.declared.lines.LogEvent.TheVariants as events
use Rattle.binlog_text.specs.declared.lines.Mark.{Mark}
use Rattle.binlog_text.specs.declared.lines.Mark.TheVariants as marks
use Rattle.binlog_text.specs.Lines.{Content, OfMark, OfHead, OfTable, OfColumn, OfGtid, OfSources, OfRow, OfValue}
use Rattle.binlog_entries.specs.declared.bodies.Body.{Body}
use Rattle.binlog_entries.specs.declared.bodies.Body.TheVariants as bodies
use Rattle.binlog_entries.specs.declared.bodies.BodyKind.{BodyKind}
use Rattle.binlog_entries.specs.declared.bodies.BodyKind.TheVariants as kinds

abbrev pub kind_of_mark : Mark → BodyKind
kind_of_mark marks.Place = kinds.Place
kind_of_mark marks.Where = kinds.Row
kind_of_mark marks.Set = kinds.Row
kind_of_mark marks.Begin = kinds.Statement
kind_of_mark marks.Commit = kinds.Statement
kind_of_mark marks.Ended = kinds.Ended
kind_of_mark marks.Committed = kinds.Committed
kind_of_mark marks.Savepoint = kinds.Statement
kind_of_mark marks.Automatic = kinds.Automatic
kind_of_mark marks.Empty = kinds.Sources
kind_of_mark marks.Closed = kinds.Closed
kind_of_mark marks.Comment = kinds.Comment
kind_of_mark marks.Setting = kinds.Setting
kind_of_mark marks.Frame = kinds.Frame
kind_of_mark marks.Extra = kinds.Extra
kind_of_mark marks.Maintenance = kinds.Statement

abbrev pub kind_of : Content → BodyKind
kind_of (OfMark mark) = kind_of_mark mark
kind_of (OfHead event) = kinds.Head
kind_of (OfTable database table) = kinds.TableMap
kind_of (OfColumn c) = kinds.Column
kind_of (OfGtid gtid) = kinds.Gtid
kind_of (OfSources sources more) = kinds.Sources
kind_of (OfRow operation database table) = kinds.Row
kind_of (OfValue n text) = kinds.Row

-- the rows of a statement come behind the event that ends it, which owes one; those before it have none
abbrev pub rows_body : Bool → Body
rows_body ends = if ends then bodies.RowsDue else bodies.Done

-- what the lines after an event's head are a part of
abbrev pub body_of : LogEvent → Body
body_of events.Start = bodies.Start
body_of events.PreviousGtids = bodies.PreviousGtids
body_of events.Gtid = bodies.Gtid
body_of events.Query = bodies.Query
body_of (events.Rows operation ends) = rows_body ends
body_of events.Xid = bodies.Xid
body_of events.Payload = bodies.Payload
body_of events.Rotate = bodies.Done
body_of events.Stop = bodies.Done

-- a row is owed
abbrev pub is_row_due : Body → Bool
is_row_due bodies.RowsDue = true
is_row_due _ = false

-- no line is owed: a statement owes its text and the end of it, an Xid its commit, and a rows event may owe a row
abbrev pub may_end : Body → Bool
may_end bodies.RowsDue = false
may_end bodies.Query = false
may_end bodies.Statement = false
may_end bodies.Xid = false
may_end bodies.Closed = false
may_end _ = true

abbrev pub has_comments : Body → Bool
has_comments bodies.Preamble = true
has_comments bodies.Start = true
has_comments bodies.Gtid = true
has_comments bodies.TableMap = true
has_comments bodies.Payload = true
has_comments bodies.Done = true
has_comments _ = false

-- a line of this kind may be in this body
abbrev pub takes : Body → BodyKind → Bool
takes body kinds.Place = may_end body
takes body kinds.Automatic = may_end body
takes body kinds.Comment = has_comments body
takes bodies.Gtid kinds.Setting = true
takes bodies.Query kinds.Setting = true
takes bodies.Preamble kinds.Frame = true
takes bodies.Start kinds.Frame = true
takes bodies.FileEnd kinds.Frame = true
takes bodies.Closed kinds.Frame = true
takes bodies.Between kinds.Head = true
takes bodies.Between kinds.TableMap = true
takes bodies.TableMap kinds.Column = true
takes bodies.Gtid kinds.Gtid = true
takes bodies.PreviousGtids kinds.Sources = true
takes bodies.Rows kinds.Row = true
takes bodies.Rows kinds.Extra = true
takes bodies.RowsDue kinds.Row = true
takes bodies.RowsDue kinds.Extra = true
takes bodies.Query kinds.Statement = true
takes bodies.Statement kinds.Ended = true
takes bodies.Xid kinds.Committed = true
takes bodies.FileEnd kinds.Closed = true
takes _ _ = false

-- the row that was owed has come
abbrev pub row_behind : Body → Body
row_behind bodies.RowsDue = bodies.Rows
row_behind body = body

-- what the line after one of this kind is a part of, if that is no head of an event
abbrev pub behind : Body → BodyKind → Body
behind body kinds.Place = bodies.Between
behind body kinds.TableMap = bodies.TableMap
behind body kinds.Statement = bodies.Statement
behind body kinds.Ended = bodies.Done
behind body kinds.Committed = bodies.Done
behind body kinds.Automatic = bodies.FileEnd
behind body kinds.Closed = bodies.Closed
behind body kinds.Row = row_behind body
behind body _ = body

-- what the line after one is a part of
abbrev pub next_body : Body → Content → Body
next_body body (OfHead event) = body_of event
next_body body (OfMark mark) = behind body (kind_of (OfMark mark))
next_body body (OfTable database table) = behind body (kind_of (OfTable database table))
next_body body (OfColumn c) = behind body (kind_of (OfColumn c))
next_body body (OfGtid gtid) = behind body (kind_of (OfGtid gtid))
next_body body (OfSources sources more) = behind body (kind_of (OfSources sources more))
next_body body (OfRow operation database table) = behind body (kind_of (OfRow operation database table))
next_body body (OfValue n text) = behind body (kind_of (OfValue n text))

-- The content of a line that was read.
use Rattle.std.specs.Prelude.{option_map}
use Rattle.binlog_text.specs.Lines.{Content, OfMark, OfHead, OfTable, OfColumn, OfGtid, OfSources, OfRow, OfValue}
use Rattle.binlog_text.specs.Lines as lines
use Rattle.binlog_text.specs.declared.lines.Column.{Column}
use Rattle.binlog_text.specs.declared.lines.LogLine.{LogLine}
use Rattle.binlog_text.specs.declared.lines.LogLine.TheVariants as read

abbrev pub column_content : Column → lines.Column
column_content c = record { is_first = c.is_first; name = option_map (λ n. n.now) c.name; column_type = c.column_type.now; is_last = c.is_last }

abbrev pub content_of : LogLine → Content
content_of (read.Mark mark) = OfMark mark
content_of (read.Head event) = OfHead event
content_of (read.TableMap database table) = OfTable database.now table.now
content_of (read.Column c) = OfColumn (column_content c)
content_of (read.Gtid gtid) = OfGtid gtid.now
content_of (read.Sources sources more) = OfSources sources.now more
content_of (read.Row operation database table) = OfRow operation database.now table.now
content_of (read.Value n text) = OfValue n text.now

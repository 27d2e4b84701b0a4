-- The lines that have come, from what they have made.
use Rattle.std.specs.Prelude.{◌+◌, List, [], ◌∷◌, ◌++◌, map}
use Rattle.txn_journal.specs.Spelling.{Line, Header, Begin, Makes, Close, numbers_of, front_lines}
use Rattle.txn_journal.specs.Machine.{Standing}
use Rattle.txn_journal.specs.declared.lines.LinePlace.{LinePlace}
use Rattle.txn_journal.specs.declared.lines.LinePlace.TheVariants as places

abbrev pub lines_so_far_at : LinePlace → Standing → List Line
lines_so_far_at places.Header s = []
lines_so_far_at places.Previous s = Header s.version ∷ []
lines_so_far_at places.Between s = front_lines s.version s.stamps s.journal
lines_so_far_at places.Within s = front_lines s.version s.stamps s.journal ++ (Begin s.gtid (numbers_of s.version (s.count + 1) s.stamp) ∷ map Makes s.changes)
lines_so_far_at places.Ended s = front_lines s.version s.stamps s.journal ++ Close ∷ []

-- the lines of a journal that has come so far
abbrev pub lines_so_far : Standing → List Line
lines_so_far s = lines_so_far_at s.place s

use Rattle.std.proofs.Common.{◌≡◌, ◌+◌, ◌≤◌, length}
use Rattle.gtid_text.specs.Counting.{count_read, count_rest}
use Rattle.gtid_text.specs.Reading.{spans_in}
use Rattle.gtid_text.proofs.Turns.{left_of}
use Rattle.gtid_text.proofs.counting.count_sources.Given as goal

abbrev pub invariant-turns : goal.invariant-turns
invariant-turns l = (count_rest l.sources l.before l.left (left_of l.inside l.rest) ≡ count_read l.text (spans_in l.text)) × (l.sources + length l.rest ≤ length l.text)

abbrev pub decreases-turns : goal.decreases-turns
decreases-turns l = length l.rest

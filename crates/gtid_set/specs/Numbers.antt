-- Numbers of one source, seen as spans of a source with no name of its own.
use Rattle.std.specs.Prelude.{List}
use Rattle.interval_pool.specs.declared.interval.Interval.{Interval}
use Rattle.gtid_text.specs.declared.Span.{Span}
use Rattle.gtid_set.specs.Kept.{span_of, spans_as}

abbrev pub numbered : Interval → Span
numbered s = span_of 0 s

abbrev pub all_numbered : List Interval → List Span
all_numbered is = spans_as 0 is

-- Spans that copies of a set share.
use Rattle.std.specs.Prelude.{List}
use Rattle.std.specs.Arc.{arc_value}
use Rattle.std.specs.FinSet as set
use Rattle.gtid_text.specs.declared.Span.{Span}
use Rattle.gtid_set.specs.Sets.{Gtids, interval}
use Rattle.gtid_set.specs.declared.shared.Owning.{Owning}
use Rattle.gtid_set.specs.declared.shared.Owning.TheVariants.{Alone, Together}

-- the spans, whoever owns them
abbrev pub owned_spans : Owning → List Span
owned_spans (Alone spans) = spans
owned_spans (Together spans) = arc_value spans

-- a set with the GTIDs of a span
abbrev pub with_span : Gtids → Span → Gtids
with_span s span = set.union s (interval span.source span.lo span.hi)

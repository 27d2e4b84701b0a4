use Rattle.std.proofs.Common.{◌≡◌, ◌++◌, drop, None}
use Rattle.std.specs.String.{string_bytes}
use Rattle.gtid_text.specs.Canonical.{text_behind}
use Rattle.journal_words.proofs.gtids.write_spans.Given as goal

abbrev pub invariant-loop-span : goal.invariant-loop-span
invariant-loop-span l = string_bytes l.out ++ text_behind l.before (drop l.span-index l.spans) ≡ string_bytes l.fn.out ++ text_behind None l.spans

use Rattle.std.proofs.Common.{◌≡◌, ◌++◌, take, drop, string_bytes}
use denote.Text.{Utf8}
use denote.Shadow.{shadow}
use Rattle.row_images.specs.Images as images
use Rattle.gtid_report.specs.State.{values_text}
use Rattle.gtid_report.proofs.state.push_front.Given as goal

abbrev pub invariant-loop-column : goal.invariant-loop-column
invariant-loop-column l = shadow (Utf8 l.left) × (l.left ≡ images.values_text (drop l._column l.row)) × (string_bytes l.out ≡ string_bytes l.fn.out ++ values_text (take l._column l.row))

use Rattle.std.proofs.Common.{◌∙◌, ◌++◌, ◌+◌, ap, drop, string_bytes, arith}
use Rattle.binlog_events.specs.RowLines.{image_text}
use Rattle.binlog_events.proofs.RowTexts.{image_absent, image_short, image_next, image_end}
use Rattle.binlog_events.proofs.row_lines.image_text.Goals as goal

pub returns-then-at-values : goal.returns-then-at-values
returns-then-at-values c =
    image_short c.args.flags.now c.loop-flag.flag-index c.args.values.now c.loop-flag.at (string_bytes c.loop-flag.text) (omega arith)
    c.if-not-flag.false c.if-at-values.true
    ∙ c.loop-flag.invariant

pub loop-flag-preserved-then-not-flag : goal.loop-flag-preserved-then-not-flag
loop-flag-preserved-then-not-flag c =
    ap (λ text. text ++ image_text (drop (c.loop-flag.flag-index + 1) c.args.flags.now) (drop c.loop-flag.at c.args.values.now))
    c.in_ok-push_str.ensures.bytes
    ∙ image_absent c.args.flags.now c.loop-flag.flag-index c.args.values.now c.loop-flag.at (string_bytes c.loop-flag.text) (omega arith)
    c.if-not-flag.true
    ∙ c.loop-flag.invariant

pub loop-flag-preserved : goal.loop-flag-preserved
loop-flag-preserved c =
    ap (λ text. text ++ image_text (drop (c.loop-flag.flag-index + 1) c.args.flags.now) (drop (c.loop-flag.at + 1) c.args.values.now))
    c.in_ok-write_next.ensures
    ∙ image_next c.args.flags.now c.loop-flag.flag-index c.args.values.now c.loop-flag.at (string_bytes c.loop-flag.text)
    c.index-values-at.result (omega arith) c.if-not-flag.false c.if-at-values.false c.index-values-at.is
    ∙ c.loop-flag.invariant

pub returns : goal.returns
returns c =
    image_end c.args.flags.now c.loop-flag.flag-index c.args.values.now c.loop-flag.at (string_bytes c.loop-flag.text) (omega arith)
    ∙ c.loop-flag.invariant

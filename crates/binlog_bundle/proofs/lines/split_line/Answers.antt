use Rattle.std.proofs.Common.{refl, sym, append-nil, ◌∙◌, []}
use Rattle.binlog_bundle.specs.Lines.{with_line_feed}
use Rattle.binlog_bundle.proofs.Cutting.{line_ends, line_split, first_split, no_first, split_parts}
use Rattle.binlog_bundle.proofs.lines.split_line.Goals as goal

pub returns-in-Some-clause-parts : goal.returns-in-Some-clause-parts
returns-in-Some-clause-parts c =
    split_parts c.args.text.now (with_line_feed c.in-Some.field-0-0.now) c.in-Some.after.now _ _ _ (c.in-Some.ensures.found.parts ∙ line_ends c.in-Some.field-0-0.now c.in-Some.after.now) refl c.split_before.ensures

pub returns-in-Some-clause-first : goal.returns-in-Some-clause-first
returns-in-Some-clause-first c =
    first_split c.args.text.now c.in-Some.field-0-0.now c.in-Some.after.now c.split_before.result.0.now c.split_before.result.1.now c.in-Some.ensures.found
    (line_split c.args.text.now c.in-Some.field-0-0.now c.in-Some.after.now _ _ _ c.in-Some.ensures.found refl c.split_before.ensures)

pub returns-in-None-clause-parts : goal.returns-in-None-clause-parts
returns-in-None-clause-parts c = split_parts c.args.text.now c.args.text.now [] _ _ _ (sym (append-nil c.args.text.now)) refl c.split_before-in-None.ensures

pub returns-in-None-clause-first : goal.returns-in-None-clause-first
returns-in-None-clause-first c line after begins = no_first c.args.text.now line after c.in-None.ensures.none begins

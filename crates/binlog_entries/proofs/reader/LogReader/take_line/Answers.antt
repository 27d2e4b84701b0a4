use Rattle.std.proofs.Common.{ℕ, sym, ap, ◌∙◌}
use Rattle.binlog_entries.specs.Stream.{Stopped}
use Rattle.binlog_entries.specs.declared.fault.ReadFault.TheVariants as faults
use Rattle.binlog_entries.specs.Drafts.{standing}
use Rattle.binlog_entries.proofs.Pieces.{line_ok, line_refused, line_fault}
use Rattle.binlog_entries.proofs.reader.LogReader.take_line.Goals as goal

pub returns-in-Ok-clause-next : goal.returns-in-Ok-clause-next
returns-in-Ok-clause-next c =
    line_ok c.args.self.now.stopped c.make.new.self.stopped (standing c.args.self.now.draft) (standing c.make.new.self.draft) c.args.self.now.lines c.make.new.self.lines c.args.self.now.rest.items c.make.new.self.rest.items c.args.bytes.now
    c.requires.goes c.make.ensures.stopped c.requires.whole c.in-Ok.ensures.made c.in-Ok.ensures.rest (c.make.ensures.lines ∙ c.saturating_add-self.ensures)

pub returns-in-Err-Refused-clause-next : goal.returns-in-Err-Refused-clause-next
returns-in-Err-Refused-clause-next c =
    line_refused c.args.self.now.stopped (standing c.args.self.now.draft) c.args.self.now.lines c.make.new.self.lines c.args.self.now.rest.items c.args.bytes.now c.in-Err-Refused.refusal
    c.requires.goes c.requires.whole (rw c.in-Err-Refused.field-0-is at c.in-Err-Refused.ensures.made) (c.make.ensures.lines ∙ c.saturating_add-self.ensures)
    ∙ ap (λ (n : ℕ). Stopped (faults.Line n c.in-Err-Refused.refusal)) (sym c.named_line.ensures)

pub returns-in-Err-Set-clause-next : goal.returns-in-Err-Set-clause-next
returns-in-Err-Set-clause-next c =
    line_fault c.in-Err-Set.fault c.args.self.now.stopped (standing c.args.self.now.draft) c.args.self.now.lines c.args.self.now.rest.items c.args.bytes.now
    c.requires.goes c.requires.whole (rw c.in-Err-Set.field-0-is at c.in-Err-Set.ensures.made)

use Rattle.std.proofs.Common.{◌∙◌}
use Rattle.binlog_bundle.specs.Heads.{is_unsupported}
use Rattle.binlog_bundle.proofs.Heading.{plain_line, or_false, when_ok}
use Rattle.binlog_bundle.proofs.head.PlainHead.take_line.Goals as goal

pub take_other-requires : goal.take_other-requires
take_other-requires c = plain_line c.args.line.now c.in-None.ensures

pub returns-in-None-clause-passed : goal.returns-in-None-clause-passed
returns-in-None-clause-passed c =
    when_ok c.take_other.result (c.take_other.ensures.passed ∙ or_false c.args.self.now.passed_over (is_unsupported c.args.line.now) (plain_line c.args.line.now c.in-None.ensures))

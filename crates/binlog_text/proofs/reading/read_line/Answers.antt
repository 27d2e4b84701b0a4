use Rattle.std.proofs.Common.{◌∙◌}
use Rattle.binlog_text.specs.Contents.{content_of}
use Rattle.binlog_text.proofs.LinesFound.{seen_line}
use Rattle.binlog_text.proofs.LinesAgain.{line_again}
use Rattle.binlog_text.proofs.reading.read_line.Goals as goal

pub returns-clause-found : goal.returns-clause-found
returns-clause-found c = seen_line content_of c.args.text.now c.line_of.result c.line_of.ensures

pub returns-clause-only : goal.returns-clause-only
returns-clause-only c l is = c.line_of.ensures ∙ line_again l c.args.text.now is

use Rattle.std.proofs.Common.{sym, ap, ◌∙◌}
use Rattle.binlog_text.specs.Tokens.{last_cut}
use Rattle.binlog_text.proofs.TokenLaws.{last_again}
use Rattle.binlog_text.proofs.reading.last_cut.Goals as goal

pub returns-in-Some : goal.returns-in-Some
returns-in-Some c = sym (ap last_cut c.in-Some.ensures.cases.0 ∙ last_again c.in-Some.front.now c.in-Some.last.now)

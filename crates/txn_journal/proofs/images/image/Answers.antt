use Rattle.std.proofs.Common.{sym, ap, ◌∙◌}
use Rattle.txn_journal.specs.Lines.{some_or_body}
use Rattle.txn_journal.proofs.ImageParts.{image_is}
use Rattle.txn_journal.proofs.images.image.Goals as goal

pub returns-in-Some : goal.returns-in-Some
returns-in-Some c = image_is c.args.text.now ∙ ap some_or_body (sym c.in_ok-row.ensures ∙ c.in-Some.is)

pub returns-in-None : goal.returns-in-None
returns-in-None c = image_is c.args.text.now ∙ ap some_or_body (sym c.in_ok-row.ensures ∙ c.in-None.is)

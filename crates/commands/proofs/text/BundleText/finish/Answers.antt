use Rattle.commands.proofs.BundleRead.{bundle_read}
use Rattle.commands.proofs.text.BundleText.finish.Goals as goal

pub returns : goal.returns
returns c = λ bytes come. bundle_read c.args.reader bytes c.finish_or_leave.result c.finish_or_leave.ensures come

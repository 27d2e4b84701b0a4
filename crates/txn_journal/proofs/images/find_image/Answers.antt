use Rattle.txn_journal.proofs.ImageParts.{image_where}
use Rattle.txn_journal.proofs.images.find_image.Goals as goal

pub returns : goal.returns
returns c = image_where c.args.text.now c.in-Ok.found c.in-Ok.ensures

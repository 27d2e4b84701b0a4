use Rattle.txn_journal.proofs.ImageParts.{found_both}
use Rattle.txn_journal.proofs.images.find_images.Goals as goal

pub returns : goal.returns
returns c = found_both c.args.text.now c.in-Some.before.now c.in-Some.after.now c.in-Some-find_image.before c.in-Some-find_image-2.after c.in-Some.ensures.some c.in-Some-find_image.ensures c.in-Some-find_image-2.ensures

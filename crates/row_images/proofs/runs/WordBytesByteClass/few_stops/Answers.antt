use Rattle.std.proofs.Common.{refl, arith}
use Rattle.std.proofs.lemmas.Simd.{zip2_splat, length-chunk}
use lib.Lanes.{chunk}
use Rattle.row_images.specs.Runs.{is_word_byte}
use Rattle.row_images.proofs.Lanes.{stops_in}
use Rattle.row_images.proofs.runs.WordBytesByteClass.few_stops.Goals as goal

pub returns : goal.returns
returns c =
    let v = chunk c.args.at 8 c.args.text.now in
    let long = length-chunk c.args.at 8 c.args.text.now c.requires in
    stops_in is_word_byte c.args.text.now c.args.at 8 _ _ c.requires (omega arith) c.type_inv.text refl _
    (zip2_splat _ v 8 32 long) refl

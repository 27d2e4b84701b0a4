use Rattle.std.proofs.Common.{ℕ, leb, cond, bit_and, refl, arith}
use Rattle.std.proofs.lemmas.Simd.{zip2_splat, length-chunk}
use lib.Lanes.{chunk}
use Rattle.row_images.specs.Values.{is_lower_digit}
use Rattle.row_images.proofs.Lanes.{joined, splat_is, stops_in}
use Rattle.row_images.proofs.runs.LowerDigitsByteClass.stops.Goals as goal

pub returns : goal.returns
returns c =
    let v = chunk c.args.at 16 c.args.text.now in
    let long = length-chunk c.args.at 16 c.args.text.now c.requires in
    stops_in is_lower_digit c.args.text.now c.args.at 16 _ _ c.requires (omega arith) c.type_inv.text refl _
    (joined bit_and _ _ v (joined (λ a b. cond (leb a b) 255 0) _ _ v (splat_is v 16 10 long) (zip2_splat {Y = ℕ} _ v 16 48 long)) (joined (λ a b. cond (leb a b) 255 0) _ _ v (splat_is v 16 6 long) (zip2_splat {Y = ℕ} _ v 16 97 long))) refl

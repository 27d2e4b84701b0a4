use Rattle.std.proofs.Common.{rules, ◌<◌, ◌^◌}
use Rattle.row_images.proofs.ValueLaws.{above_is, above_less}
use Rattle.row_images.proofs.value_words.int_from_zero.Goals as goal

pub returns-in_default : goal.returns-in_default
returns-in_default c = above_less c.args.word.now c.requires c.in_default.ensures

pub returns : goal.returns
returns c =
    let lt : c.in-Some.number < 2 ^ 63 = search rules in
    above_is c.args.word.now c.in-Some.number c.in-Some.ensures lt

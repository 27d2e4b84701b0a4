use Rattle.std.proofs.Common.{arith, ◌≡◌, ◌++◌, ◌<◌, [], List, ℕ, length, sym, ap, subst, ◌∙◌, append_assoc}
use Rattle.std.proofs.lemmas.List.{append-nil, nil_from_length}
use Rattle.std.proofs.lemmas.Bool.Decides.{nat_tests}
use Rattle.parallel_reading.specs.Coming.{HasCome}
use Rattle.parallel_reading.proofs.Pieces.{product_some}
use Rattle.parallel_reading.proofs.reading.fed_beside.Goals as goal

pub reading-init : goal.reading-init
reading-init g c = ([], (λ bytes come. subst (HasCome c.args.reader) (sym (append-nil bytes)) come), c.cut_block.ensures.parts, c.parse_block-parsed.ensures)

pub reading-preserved : goal.reading-preserved
reading-preserved g c =
    let so_far = c.reading.invariant in
    let block = c.reading.block.now in
    let next = c.cut_block-in-reading in (
      so_far.0 ++ block,
      (λ bytes come. subst (HasCome c.take_and_parse-taken.result.0) (append_assoc bytes so_far.0 block) (c.take_and_parse-taken.ensures.taken (bytes ++ so_far.0) (so_far.1 bytes come))),
      so_far.2 ∙ ap (λ (t : List ℕ). (so_far.0 ++ block) ++ t) next.ensures.parts ∙ sym (append_assoc (so_far.0 ++ block) next.result.0.now next.result.1.now),
      c.take_and_parse-taken.ensures.parsed,
    )

pub returns : goal.returns
returns g c bytes come =
    let so_far = c.reading.invariant in
    let block = c.reading.block.now in
    let none : c.reading.left.now ≡ [] = nil_from_length c.reading.left.now (let e = c.is_empty.ensures in let t = c.reading-test.false in grind (arith, nat_tests)) in
    let all = so_far.2 ∙ ap (λ (t : List ℕ). (so_far.0 ++ block) ++ t) none ∙ append-nil (so_far.0 ++ block) in
    subst (HasCome c.take_block.new.reader) (append_assoc bytes so_far.0 block ∙ ap (λ (t : List ℕ). bytes ++ t) (sym all)) (c.take_block.ensures (bytes ++ so_far.0) (so_far.1 bytes come))

pub reading-smaller : goal.reading-smaller
reading-smaller g c =
    let parsers : 0 < c.clamp-parsers.result = let p = c.clamp-parsers.ensures in omega (p, arith) in
    let some : 0 < length c.reading.left.now = let e = c.is_empty.ensures in let t = c.reading-test.true in grind (arith, nat_tests) in
    c.cut_block-in-reading.ensures.smaller (product_some _ _ c.part_size-part-in-reading.ensures.some parsers) some

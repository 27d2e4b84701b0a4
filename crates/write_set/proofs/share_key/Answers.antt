use Rattle.std.proofs.Common.{rules, ◌≡◌, ◌<◌, ◌+◌, ◌∷◌, true, false, Some, None, cond, length, drop, sym, ap, ◌∙◌, arith}
use Rattle.std.proofs.lemmas.List.{at_drop_more}
use Rattle.std.proofs.lemmas.Option.{get_or_from_slice_get, slice_get_within}
use Rattle.std.specs.List.{find}
use Rattle.rows.specs.WriteSet.{is_among}
use Rattle.write_set.proofs.Firsts.{tested}
use Rattle.write_set.proofs.share_key.Goals as goal

pub returns-then-contains : goal.returns-then-contains
returns-then-contains c =
    let ks = c.args.a.now.keys in
    let key = c.in_ok-key.key.now in
    let here = ap (λ k. find (is_among c.args.b.now.keys) (k ∷ drop (c.loop-place.place + 1) ks)) (get_or_from_slice_get ks c.loop-place.place key key (sym c.in_ok-key.ensures)) in
    let among : is_among c.args.b.now.keys key ≡ true = sym (tested key c.args.b.now.keys) ∙ sym c.contains.ensures ∙ c.if-contains.true in
    sym (ap (λ b. cond b (Some key) (find (is_among c.args.b.now.keys) (drop (c.loop-place.place + 1) ks))) among)
    ∙ sym here ∙ sym (at_drop_more (find (is_among c.args.b.now.keys)) ks c.loop-place.place key (slice_get_within ks c.loop-place.place key (sym c.in_ok-key.ensures))) ∙ c.loop-place.invariant

pub loop-place-preserved : goal.loop-place-preserved
loop-place-preserved c =
    let ks = c.args.a.now.keys in
    let key = c.in_ok-key.key.now in
    let here = ap (λ k. find (is_among c.args.b.now.keys) (k ∷ drop (c.loop-place.place + 1) ks)) (get_or_from_slice_get ks c.loop-place.place key key (sym c.in_ok-key.ensures)) in
    let among : is_among c.args.b.now.keys key ≡ false = sym (tested key c.args.b.now.keys) ∙ sym c.contains.ensures ∙ c.if-contains.false in
    sym (ap (λ b. cond b (Some key) (find (is_among c.args.b.now.keys) (drop (c.loop-place.place + 1) ks))) among)
    ∙ sym here ∙ sym (at_drop_more (find (is_among c.args.b.now.keys)) ks c.loop-place.place key (slice_get_within ks c.loop-place.place key (sym c.in_ok-key.ensures))) ∙ c.loop-place.invariant

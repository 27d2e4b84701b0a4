use Rattle.std.proofs.Common.{◌≡◌, get_or, refl, subst}
use Rattle.std.proofs.lemmas.Option.{slice_get-get_or}
use Rattle.key_table.specs.Reached.{IsReached, key_hash}
use Rattle.key_table.proofs.Moves.{exchanged, not_exchanged}
use Rattle.key_table.proofs.TableChanges.{hash_read}
use Rattle.key_table.proofs.index.exchange.Goals as goal

pub returns-then-a-b-clause-reached : goal.returns-then-a-b-clause-reached
returns-then-a-b-clause-reached g c =
    not_exchanged g.K.Ord.cmp (λ k. key_hash (g.K.Hash.hash_input k)) c.args.entries.now c.args.a c.args.b c.args.slots.now c.args.strays.now c.requires.a c.if-a-b.true

pub returns-clause-reached : goal.returns-clause-reached
returns-clause-reached g c =
    let eq = g.K.PartialEq.eq in
    let cmp = g.K.Ord.cmp in
    let hash = λ (k : g.row.K.Denot). key_hash (g.K.Hash.hash_input k) in
    let es = c.args.entries.now in
    let hs = c.args.hashes.now in
    let a = c.args.a in
    let b = c.args.b in
    let x = get_or es a c.index-entries-a.result in
    let y = get_or es b c.index-entries-b.result in
    let hash_x : get_or hs a 0 ≡ hash x.0 = hash_read hash es hs a 0 x c.index-entries-a.result c.requires.hashes.1 c.requires.a refl in
    let hash_y : get_or hs b 0 ≡ hash y.0 = hash_read hash es hs b 0 y c.index-entries-b.result c.requires.hashes.1 c.requires.b refl in
    exchanged eq g.met.K.Eq.laws cmp hash es a b 4294967294 x y c.args.slots.now c.move_place.new.slots c.move_place-2.new.slots c.move_place-3.new.slots c.args.strays.now c.move_place.new.strays c.move_place-2.new.strays c.move_place-3.new.strays
    c.requires.hashes.0 c.requires.a c.requires.b c.if-a-b.false c.requires.len (slice_get-get_or es a c.index-entries-a.result c.requires.a) (slice_get-get_or es b c.index-entries-b.result c.requires.b)
    (subst (λ h. IsReached cmp c.args.slots.now c.args.strays.now x.0 h a → IsReached cmp c.move_place.new.slots c.move_place.new.strays x.0 h 4294967294) hash_x c.move_place.ensures.reached)
    c.move_place.ensures.keeps
    (subst (λ h. IsReached cmp c.move_place.new.slots c.move_place.new.strays y.0 h b → IsReached cmp c.move_place-2.new.slots c.move_place-2.new.strays y.0 h a) hash_y c.move_place-2.ensures.reached)
    c.move_place-2.ensures.keeps
    (subst (λ h. IsReached cmp c.move_place-2.new.slots c.move_place-2.new.strays x.0 h 4294967294 → IsReached cmp c.move_place-3.new.slots c.move_place-3.new.strays x.0 h b) hash_x c.move_place-3.ensures.reached)
    c.move_place-3.ensures.keeps

use Rattle.std.proofs.Common.{◌≡◌, ◌<◌, ◌-◌, length, get_or, refl, subst, arith}
use Rattle.std.proofs.lemmas.Option.{slice_get-get_or}
use Rattle.key_table.specs.Reached.{IsReached, key_hash}
use Rattle.key_table.proofs.Moves.{filled}
use Rattle.key_table.proofs.TableChanges.{hash_read}
use Rattle.key_table.proofs.index.fill_place.Goals as goal

pub returns-then-place-last-clause-fills : goal.returns-then-place-last-clause-fills
returns-then-place-last-clause-fills g c =
    let eq = g.K.PartialEq.eq in
    let cmp = g.K.Ord.cmp in
    let hash = λ (k : g.row.K.Denot). key_hash (g.K.Hash.hash_input k) in
    let es = c.args.entries.now in
    let hs = c.args.hashes.now in
    let last = length es - 1 in
    let d = c.index-entries-last.result in
    let e = get_or es last d in
    let within : last < length es = omega (c.if-place-last.true, arith) in
    let hashed : get_or hs last 0 ≡ hash e.0 = hash_read hash es hs last 0 e d c.requires.hashes.1 within refl in
    filled eq g.met.K.Eq.laws cmp hash es c.args.place last e c.args.slots.now c.move_place.new.slots c.args.strays.now c.move_place.new.strays c.requires.hashes.0 refl c.if-place-last.true (slice_get-get_or es last d within)
    (subst (λ h. IsReached cmp c.args.slots.now c.args.strays.now e.0 h last → IsReached cmp c.move_place.new.slots c.move_place.new.strays e.0 h c.args.place) hashed c.move_place.ensures.reached)
    c.move_place.ensures.keeps

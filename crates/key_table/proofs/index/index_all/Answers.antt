use Rattle.std.proofs.Common.{get_or, refl, subst, ◌∙◌, arith}
use Rattle.std.proofs.lemmas.Option.{slice_get-get_or, slice_get_within}
use Rattle.key_table.specs.Reached.{IsReached, key_hash}
use Rattle.key_table.proofs.TableChanges.{hash_read, reached_more}
use Rattle.key_table.proofs.index.index_all.Goals as goal

pub loop-place-init : goal.loop-place-init
loop-place-init g c = (refl, λ place entry less at. absurd (omega (less, arith)))

pub loop-place-preserved : goal.loop-place-preserved
loop-place-preserved g c =
    let eq = g.K.PartialEq.eq in
    let cmp = g.K.Ord.cmp in
    let hash = λ (k : g.row.K.Denot). key_hash (g.K.Hash.hash_input k) in
    let es = c.args.entries.now in
    let place = c.loop-place.place in
    let d = c.index-entries-place.result in
    let e = get_or es place d in (
      c.index-is_new.ensures.len ∙ c.loop-place.invariant.0,
      reached_more eq g.met.K.Eq.laws cmp hash es place e c.loop-place.slots c.index-is_new.new.slots c.loop-place.strays c.index-is_new.new.strays c.requires.hashes.0
          (slice_get-get_or es place d c.loop-place-test.true)
          c.loop-place.invariant.1
          (subst (λ h. IsReached cmp c.index-is_new.new.slots c.index-is_new.new.strays e.0 h place) (hash_read hash es c.args.hashes.now place 0 e d c.requires.hashes.1 c.loop-place-test.true refl) c.index-is_new.ensures.reached)
          c.index-is_new.ensures.keeps,
    )

pub returns-clause-reached : goal.returns-clause-reached
returns-clause-reached g c = λ place entry at.
    c.loop-place.invariant.1 place entry (omega (slice_get_within c.args.entries.now place entry at, c.loop-place-test.false, arith)) at

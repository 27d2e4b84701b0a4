use Rattle.std.proofs.Common.{[], ◌≡◌, ◌≤◌, ◌<◌, inl, inr, length, ap, ◌∙◌, arith, List, ℕ}
use Rattle.std.specs.Prelude.{insert, slice_set}
use Rattle.std.specs.List.{concat}
use Rattle.std.proofs.lemmas.List.{get_or_default}
use Rattle.gtid_set.specs.declared.order.Seat.{Seat}
use Rattle.gtid_set.specs.Order.{block_at, index_of, IsSeat}
use Rattle.gtid_set.proofs.OrderLemmas.{put_within}
use Rattle.gtid_set.proofs.order.put.Goals as goal
use Rattle.gtid_set.proofs.order.put.Goals.{After-places}

-- a seat of a block that is there
inside : (blocks : List (List ℕ)) (seat : Seat) → IsSeat blocks seat → seat.block < length blocks → seat.offset ≤ length (block_at blocks seat.block)
inside blocks seat (inl lt) b = omega (arith, lt)
inside blocks seat (inr le) b = absurd (omega (arith, le, b))

put_there : (blocks : List (List ℕ)) (seat : Seat) (place : ℕ) (block new : List ℕ) → IsSeat blocks seat → seat.block < length blocks → block ≡ block_at blocks seat.block → new ≡ insert block seat.offset place
    → concat (slice_set blocks seat.block new) ≡ insert (concat blocks) (index_of blocks seat) place
put_there blocks seat place block new is lt e made =
    ap (λ b. concat (slice_set blocks seat.block b)) (made ∙ ap (λ b. insert b seat.offset place) e) ∙ put_within blocks seat.block seat.offset place lt (inside blocks seat is lt)

there : (c : After-places) → concat (slice_set c.args.order.now.items c.args.seat.block c.put.new.self) ≡ insert (concat c.args.order.now.items) (index_of c.args.order.now.items c.args.seat) c.args.place
there c =
    let long = ap length c.as_slice.ensures.value in
    let within = c.if-block-as_slice.false in
    put_there c.args.order.now.items c.args.seat c.args.place c.index_mut.result.now c.put.new.self c.requires.seat (omega (arith, long, within))
    (c.index_mut.ensures.value ∙ get_or_default c.args.order.now.items c.args.seat.block c.index_mut.result.now [] (omega (arith, long, within))) c.in_ok-put.ensures.ok

pub returns-then-places-gt-LONG-clause-ok : goal.returns-then-places-gt-LONG-clause-ok
returns-then-places-gt-LONG-clause-ok c = c.split_block.ensures ∙ there c.before.before.before

pub returns-else-places-gt-LONG-clause-ok : goal.returns-else-places-gt-LONG-clause-ok
returns-else-places-gt-LONG-clause-ok c = there c.before

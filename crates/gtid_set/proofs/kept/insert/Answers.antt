use Rattle.std.proofs.Common.{refl, ◌≡◌, ◌++◌, ◌∷◌, [], ℕ, List, length, take, drop, ap, sym, subst, ◌∙◌, arith}
use Rattle.std.specs.List.{concat}
use Rattle.std.specs.Prelude.{insert, ◌==◌, ◌≢◌, Bool, true, false}
use Rattle.std.proofs.lemmas.Bool.Decides.{nat_tests}
use Rattle.interval_pool.specs.Values.{PoolValue, slot_at, Released}
use Rattle.gtid_set.specs.Order.{index_of}
use Rattle.interval_pool.specs.declared.interval.Interval.{Interval}
use Rattle.gtid_set.specs.declared.sources.SourceList.{SourceList}
use Rattle.gtid_set.specs.Kept.{Lists, Grown, Stays, HasSameLists}
use Rattle.gtid_set.proofs.KeptGrowth.{grown_with, kept_again, fits_grown, unknown_fits, unknown_full, fault_with}
use Rattle.gtid_set.proofs.kept.insert.Goals as goal
use Rattle.gtid_set.proofs.kept.insert.Goals.{After-partition}

pub returns-then-count-eq-MOST_SOURCES-clause-full : goal.returns-then-count-eq-MOST_SOURCES-clause-full
returns-then-count-eq-MOST_SOURCES-clause-full c =
    let long = ap length c.as_slice-count.ensures.value in
    let many = c.requires.kept.as_many in
    unknown_full c.args.pool.now c.args.sources.now.items (concat c.args.order.now.items) c.args.span.now c.requires.kept c.requires.new c.requires.filled (omega (arith, long, many))

pub returns-in_default-clause-full : goal.returns-in_default-clause-full
returns-in_default-clause-full c =
    let long = ap length c.as_slice-count.ensures.value in
    let many = c.requires.kept.as_many in
    let few = c.requires.kept.few in
    unknown_fits c.args.pool.now c.args.sources.now.items (concat c.args.order.now.items) c.args.span.now c.requires.kept c.requires.new c.requires.filled (omega (arith, long, many, few))

grown : (c : After-partition) → Grown c.args.pool.now c.args.sources.now.items (concat c.args.order.now.items) c.args.span.now c.open_list.new.pool c.push_reserved.new.self.items (concat c.put.new.order.items)
grown c =
    let p = c.args.pool.now in
    let sources = c.args.sources.now.items in
    let order = concat c.args.order.now.items in
    let at = index_of c.args.order.now.items c.args.at in
    let s : SourceList = record { id = c.args.span.now.source; list = c.in-Ok-open_list.list } in
    let long = ap length c.as_slice-count.ensures.value in
    let many = c.requires.kept.as_many in
    let few = c.requires.kept.few in
    let lists = subst (λ (i : Interval). Lists p c.in-Ok-open_list.list i c.open_list.new.pool) c.numbers.ensures c.in-Ok-open_list.ensures.ok in
    let pushed : c.push_reserved.new.self.items ≡ sources ++ s ∷ [] = c.push_reserved.ensures.items ∙ ap (λ xs. xs ++ s ∷ []) c.reserve.ensures.items in
    let placed : concat c.put.new.order.items ≡ take at order ++ length sources ∷ drop at order = c.in-Ok-put.ensures.ok ∙ ap (insert order at) long in
    let law = c.partition.ensures in
    let P : List SourceList → List ℕ → Type 0 = λ ss is. Grown p sources order c.args.span.now c.open_list.new.pool ss is in
    subst (λ is. P c.push_reserved.new.self.items is) (sym placed) (subst (λ ss. P ss (take at order ++ length sources ∷ drop at order)) (sym pushed)
    (grown_with p c.open_list.new.pool sources order at c.in-Ok-open_list.list c.args.span.now c.requires.kept c.requires.place c.requires.new c.requires.filled (omega (arith, long, many, few)) lists
    (record { small = law.small; merged = law.merged; parted = law.parted })))

pub returns-in-Ok-put-clause-ok : goal.returns-in-Ok-put-clause-ok
returns-in-Ok-put-clause-ok c = grown c

pub returns-in-Ok-put-clause-full : goal.returns-in-Ok-put-clause-full
returns-in-Ok-put-clause-full c =
    fits_grown c.args.pool.now c.open_list.new.pool c.args.sources.now.items c.push_reserved.new.self.items (concat c.args.order.now.items) (concat c.put.new.order.items) c.args.span.now (grown c)

pub returns-in-Err-clause-full : goal.returns-in-Err-clause-full
returns-in-Err-clause-full c =
    let long = ap length c.as_slice-count.ensures.value in
    let many = c.requires.kept.as_many in
    let few = c.requires.kept.few in
    fault_with c.args.pool.now c.args.sources.now.items (concat c.args.order.now.items) c.args.span.now c.in-Err.fault c.requires.kept c.requires.new c.requires.filled (omega (arith, long, many, few)) c.in-Err.ensures.full

-- a list that is made and given up leaves the others as they were
given_up : (p q r : PoolValue) (l : ℕ) (i : Interval) → Lists p l i q → Released q l r → HasSameLists p r
given_up p q r l i lists released m = cases (m == l) refl
  where
    cases : (b : Bool) → (m == l) ≡ b → slot_at r m ≡ slot_at p m
    cases true e = let same : m ≡ l = grind (arith, nat_tests) in ap (slot_at r) same ∙ released.now ∙ sym lists.new ∙ sym (ap (slot_at p) same)
    cases false e = let other : m ≢ l = λ k. absurd (grind (arith, nat_tests)) in released.others m other ∙ lists.others m other

pub returns-in-Err-put-clause-err : goal.returns-in-Err-put-clause-err
returns-in-Err-put-clause-err c =
    let lists = c.in-Ok-open_list.ensures.ok in
    let same = given_up c.args.pool.now c.open_list.new.pool c.release.new.self c.in-Ok-open_list.list _ lists c.release.ensures in
    let P : List SourceList → List ℕ → Type 0 = λ ss is. Stays c.args.pool.now c.args.sources.now.items (concat c.args.order.now.items) c.release.new.self ss is in
    subst (λ ss. P ss (concat c.put.new.order.items)) (sym c.reserve.ensures.items) (subst (P c.args.sources.now.items) (sym c.in-Err-put.ensures.err)
    (kept_again c.args.pool.now c.release.new.self c.args.sources.now.items (concat c.args.order.now.items) same c.requires.kept))

pub returns-in-Err-put-clause-full : goal.returns-in-Err-put-clause-full
returns-in-Err-put-clause-full c =
    let long = ap length c.as_slice-count.ensures.value in
    let many = c.requires.kept.as_many in
    let few = c.requires.kept.few in
    unknown_fits c.args.pool.now c.args.sources.now.items (concat c.args.order.now.items) c.args.span.now c.requires.kept c.requires.new c.requires.filled (omega (arith, long, many, few))

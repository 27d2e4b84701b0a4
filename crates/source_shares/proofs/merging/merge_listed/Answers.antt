use Rattle.std.proofs.Common.{◌≡◌, ◌<◌, ℕ, Bor, List, None, length, map, sym, subst, arith}
use Rattle.std.specs.FinMap as finmap
use Rattle.journal.specs.declared.Entry.{Entry}
use Rattle.world.specs.Folds.{shared_from}
use Rattle.audit.specs.Contents.{as_pair}
use Rattle.source_shares.specs.Shares.{AreApplied, AreBelow}
use Rattle.source_shares.proofs.Merges.{at_some, merged, said_by}
use Rattle.source_shares.proofs.merging.merge_listed.Goals as goal

pub returns : goal.returns
returns g c =
    let start = c.args.rows.now in
    let opened = c.args.opened.now in
    let journals = c.args.journals.now in
    let are = c.keep_rules.ensures in
    let list = map (λ (x : Bor Entry). x.now) c.list_firsts.new.list.items in
    let firsts = c.list_firsts.ensures c.if-not-list_firsts.false in
    let beside = c.apply_beside-executed.ensures in
    let apart = at_some _ c.in_ok-found.was beside.apart in
    let lent : c.deref-3.result.now ≡ c.list_firsts.new.list.items = c.deref-3.ensures.value in
    let said = said_by start opened journals are list firsts
    (subst (λ (es : List (Bor Entry)). shared_from start.schema finmap.empty (map as_pair (map (λ (x : Bor Entry). x.now) es)) ≡ None) lent apart) in
    let found = c.in_ok-found.found.items in
    let pairs = c.in-Ok-put_into_shares.shares.items in
    let count = at_some _ c.in_ok-found.was beside.count in
    let some : 0 < length found = subst (λ n. 0 < n) (sym count) (omega arith) in
    let below = subst (λ n. AreBelow n pairs) (sym count) c.in-Ok-put_into_shares.ensures in
    let applied = subst (λ (es : List (Bor Entry)). AreApplied start pairs (map (λ (x : Bor Entry). x.now) es) found) lent
    (subst (λ (ps : List (ℕ × ℕ)). AreApplied start ps (map (λ (x : Bor Entry). x.now) c.deref-3.result.now) found) c.deref-4.ensures.value (at_some _ c.in_ok-found.was beside.applied)) in
    merged start opened journals are said list firsts.listed pairs found c.in_ok-parts.parts.items some below applied c.in_ok-parts.ensures c.in_ok-executed.executed (at_some _ c.in_ok-executed.was beside.executed)

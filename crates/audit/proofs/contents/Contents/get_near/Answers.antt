use Rattle.std.proofs.Common.{◌≡◌, ◌<◌, ℕ, List, Some, Err, length, get_or, sym, ap, subst, ◌∙◌, rules}
use Rattle.std.specs.FinMap as finmap
use Rattle.std.specs.List.{HoldsAt}
use Rattle.std.specs.List.Sorted.{IsBinarySearchResult}
use Rattle.std.specs.declared.cmp.Ordering.TheVariants.{Equal}
use Rattle.gtid_text.specs.Gtids.{gtid_cmp}
use Rattle.journal.specs.declared.Entry.{Entry}
use Rattle.audit.specs.Contents.{Contents}
use Rattle.audit.proofs.Firsts.{found_at, not_found}
use Rattle.audit.proofs.contents.Contents.get_near.Goals as goal

pub returns-in-Ok : goal.returns-in-Ok
returns-in-Ok c =
    let es : List Entry = c.self.inside.entries.items in
    let q = c.args.gtid.now in
    let place : ℕ = c.in-Ok.place in
    let e : Entry = c.index.result.now in
    let here : e ≡ get_or es place e = search rules in
    let within : place < length es = subst (λ (xs : List Entry). place < length xs) c.deref.ensures.value c.in-Ok.ensures.within in
    let ties = subst (λ (xs : List Entry). HoldsAt (λ x. gtid_cmp x.gtid q ≡ Equal) xs place) c.deref.ensures.value c.in-Ok.ensures.place in
    ap (λ (x : Entry). Some x.txn) here ∙ sym (found_at es q place e c.self.invariant within (ties e)) ∙ ap (λ (m : Contents). finmap.get m q) c.self.view_is

pub returns-in-Err : goal.returns-in-Err
returns-in-Err c =
    let q = c.args.gtid.now in
    let ends = subst (λ (xs : List Entry). IsBinarySearchResult (λ (x : Entry). gtid_cmp x.gtid q) xs (Err c.in-Err.field-0)) c.deref.ensures.value c.in-Err.ensures.place in
    sym (not_found c.self.inside.entries.items q c.in-Err.field-0 c.self.invariant ends) ∙ ap (λ (m : Contents). finmap.get m q) c.self.view_is

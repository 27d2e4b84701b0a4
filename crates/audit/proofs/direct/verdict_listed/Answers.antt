use Rattle.std.proofs.Common.{Bor, List, map, refl, sym, ap, ◌∙◌, subst}
use Rattle.std.specs.Option.{option_map, unwrap_or}
use Rattle.rows.specs.declared.schema.Table.{Table}
use Rattle.journal.specs.declared.Entry.{Entry}
use Rattle.world.specs.declared.verdict.Verdict.TheVariants.{DoesNotApply, Sound}
use Rattle.world.specs.Audit.{all_entries, first_contents, first_fault}
use Rattle.audit.specs.Contents.{as_pair}
use Rattle.audit.specs.Gathering.{AgreeApart}
use Rattle.audit.specs.Worlds.{AllFit}
use Rattle.audit.proofs.Listings.{list_in_order, verdict_applied}
use Rattle.audit.proofs.direct.verdict_listed.Goals as goal

pub verdict_applied-requires : goal.verdict_applied-requires
verdict_applied-requires c =
    let contents = first_contents c.args.opened.now (all_entries c.args.journals.now) in
    let is = list_in_order (λ (x : Bor Entry). x.now) contents c.list_apart.new.list.items c.deref.result.now c.deref.ensures.value (c.in_ok-list_apart.ensures.listed c.if-not-branch.false) (c.if-not-are_ascending.ensures refl) in
    subst (AllFit c.args.rows.now.schema) (sym (ap (map (λ (x : Bor Entry). x.now)) c.deref-2.ensures.value ∙ is)) c.requires.fitting

pub returns : goal.returns
returns c =
    let opened = c.args.opened.now in
    let schema = c.args.rows.now.schema in
    let rows = c.args.rows.now.rows in
    let journals = c.args.journals.now in
    let items = c.list_apart.new.list.items in
    let is = list_in_order (λ (x : Bor Entry). x.now) (first_contents opened (all_entries journals)) items c.deref.result.now c.deref.ensures.value (c.in_ok-list_apart.ensures.listed c.if-not-branch.false) (c.if-not-are_ascending.ensures refl) in
    let agree = subst (λ (s : List Table). AgreeApart opened s journals) c.schema.ensures.value (c.in_ok-list_apart.ensures.agree c.if-not-branch.false) in
    c.in_ok-found.ensures
    ∙ ap (λ (xs : List (Bor Entry)). unwrap_or (option_map (λ fault. DoesNotApply fault.0 fault.1) (first_fault schema (map as_pair (map (λ e. e.now) xs)) rows)) Sound) c.deref-2.ensures.value
    ∙ verdict_applied schema opened rows journals c.keep_rules.ensures c.requires.begun.within c.requires.begun.ordered agree (map (λ (x : Bor Entry). x.now) items) is

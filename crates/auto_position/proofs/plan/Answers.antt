use Rattle.std.proofs.Common.{rules, ◌≡◌, ℕ, true, Option, sym, ap, subst, ◌∙◌}
use Rattle.std.specs.FinSet as set
use Rattle.gtid_set.specs.Sets.{Gtids}
use Rattle.journal.specs.Journals.{whole}
use Rattle.auto_position.specs.Sending.{is_wanted, places_from, own_of, sent, IsPlanFault}
use Rattle.auto_position.proofs.Asked.{none_own, sent_wanted, sent_more, known_own, is_left, is_gone, purged_edges}
use Rattle.auto_position.proofs.Planning.{is_plan}
use Rattle.auto_position.proofs.plan.Goals as goal
use Rattle.auto_position.proofs.plan.Goals.{in-Some+in_ok-more+else-not-known, in_default}

pub returns-then-not-known-clause-refusal : goal.returns-then-not-known-clause-refusal
returns-then-not-known-clause-refusal c =
    let kept : set.is_subset c.args.journal.now.previous c.args.ask.now ≡ true = ap (λ (s : Gtids). set.is_subset s c.args.ask.now) (sym c.previous.ensures) ∙ sym c.is_subset-kept.ensures ∙ c.if-not-kept.false in
    ap (sent c.args.journal.now c.args.ask.now) c.in-Some.is
    ∙ sent_more c.args.journal.now c.args.ask.now c.in-Some.own c.in_ok-more.more kept c.in_ok-more.ensures.ok (is_left c.in_ok-more.more c.empty.result c.is_subset-known.result c.is_subset-known.ensures c.empty.ensures c.if-not-known.true)

pub returns-clause-plan : goal.returns-clause-plan
returns-clause-plan c =
    let kept : set.is_subset c.args.journal.now.previous c.args.ask.now ≡ true = ap (λ (s : Gtids). set.is_subset s c.args.ask.now) (sym c.previous.ensures) ∙ sym c.is_subset-kept.ensures ∙ c.if-not-kept.false in
    let known : set.is_subset (own_of c.args.ask.now c.args.own) (whole c.args.journal.now) ≡ true =
    elim c.match-own.branch [
      | in-Some+in_ok-more+else-not-known w ↦
          subst (λ (o : Option ℕ). set.is_subset (own_of c.args.ask.now o) (whole c.args.journal.now) ≡ true) (sym w.in-Some.is)
          (known_own c.args.journal.now c.args.ask.now w.in-Some.own w.in_ok-more.more w.in_ok-more.ensures.ok (is_gone w.in_ok-more.more w.empty.result w.is_subset-known.result w.is_subset-known.ensures w.empty.ensures w.if-not-known.false))
      | in_default w ↦
          subst (λ (o : Option ℕ). set.is_subset (own_of c.args.ask.now o) (whole c.args.journal.now) ≡ true) (sym w.in_default.is) (none_own (whole c.args.journal.now))
    ] in
    is_plan c.args.journal.now.entries c.args.ask.now c.in_ok-places.places.items (sent c.args.journal.now c.args.ask.now c.args.own)
    (c.in_ok-places.ensures ∙ ap (places_from (is_wanted c.args.ask.now) 0) c.entries.ensures)
    (sent_wanted c.args.journal.now c.args.ask.now c.args.own kept known)

pub returns-in_err-purged-clause-refusal : goal.returns-in_err-purged-clause-refusal
returns-in_err-purged-clause-refusal c =
    let fault : IsPlanFault c.args.journal.now c.args.ask.now c.in_err-purged.field-0.0 =
    purged_edges c.args.journal.now c.args.ask.now c.in_err-purged.field-0.0 c.previous-then-not-kept.result.now c.previous-then-not-kept.ensures c.in_err-purged.ensures.full in
    search rules

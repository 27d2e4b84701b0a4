-- Bundles with equal unions have one answer.
use Rattle.std.proofs.Common.{◌≡◌, inl, inr, sym, ap, subst, ◌∙◌}
use Rattle.std.specs.Prelude.{Ok}
use Rattle.gtid_set.specs.Sets.{Gtids}
use Rattle.rows.specs.Apply.{Rows}
use Rattle.rows.specs.Carriers.{AreCarriers}
use Rattle.rows.specs.Database.{Database}
use Rattle.world.specs.Meaning.{AreJournals}
use Rattle.world.specs.Exact.{HasRows, EqualUnionsEqualRows, union_of}
use Rattle.txn_journal.specs.BundleStates.{BundleValue}
use Rattle.gtid_report.specs.Assumed.{assumed}
use Rattle.serving.specs.declared.order.Order.{Order}
use Rattle.serving.specs.declared.order.Order.TheVariants.{BySource, ByConflict}
use Rattle.commands.specs.Bundles.{apply_answer, printed_state, state_or_verdict, union_of_journals}
use Rattle.commands.specs.Exact.{ResultsIn, AreAlike, AnswerAlike}

has_rows : (order : Order) (b : BundleValue) (rows : Rows) → ResultsIn order b rows → HasRows b.start.schema b.opened b.start.rows b.journals rows
has_rows BySource b rows r = inl (record { sound = r.sound; rows_are = r.rows_are })
has_rows ByConflict b rows r = inr (record { sound = r.sound; rows_are = r.rows_are })

answer_is : (order : Order) (b : BundleValue) (rows : Rows) → ResultsIn order b rows → apply_answer order b ≡ printed_state (assumed b) b.start.schema (union_of_journals b) rows
answer_is order b rows r = rw r.known (λ i. state_or_verdict (assumed b) b.start.schema (r.sound i) (union_of_journals b) (r.rows_are i))

pub answers_alike : EqualUnionsEqualRows → (a b : BundleValue) → AreCarriers a.start.schema a.start.rows → AreJournals a.journals → AreJournals b.journals → AnswerAlike a b
answers_alike law a b carriers js ks o p x y alike left right =
    let unions : union_of a.opened a.journals ≡ union_of a.opened b.journals = alike.union ∙ ap (λ (s : Gtids). union_of s b.journals) (sym alike.opened) in
    let there : HasRows a.start.schema a.opened a.start.rows b.journals y =
    subst (λ (d : Database). HasRows d.schema a.opened d.rows b.journals y) (sym alike.start)
    (subst (λ (s : Gtids). HasRows b.start.schema s b.start.rows b.journals y) (sym alike.opened) (has_rows p b y right)) in
    let same : x ≡ y = law a.start.schema a.opened a.start.rows x y a.journals b.journals carriers js ks alike.contents unions (has_rows o a x left) there in
    answer_is o a x left ∙ ((λ i. printed_state (alike.assumptions i) (alike.start i).schema (alike.union i) (same i)) ∙ sym (answer_is p b y right))

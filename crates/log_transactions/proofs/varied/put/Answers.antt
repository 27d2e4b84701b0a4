use Rattle.std.proofs.Common.{List, ℕ, Option, Some, ◌++◌, ◌∷◌, [], sym, ap, subst, ◌∙◌}
use Rattle.std.specs.BTreeMap.{Updates}
use Rattle.collations.specs.declared.collation.Collation.{Collation}
use Rattle.log_transactions.specs.Known.{place_cmp, AreKnown}
use Rattle.log_transactions.specs.declared.varied.Varied.{Varied}
use Rattle.log_transactions.proofs.KnownLaws.{known_more}
use Rattle.log_transactions.proofs.varied.put.Goals as goal

pub returns-clause-known : goal.returns-clause-known
returns-clause-known c =
    let one = c.args.one in
    let known = c.args.known.now in
    let more = c.in_ok-more.more in
    subst (λ (vs : List Varied). AreKnown vs c.insert.new.self)
    (ap (λ (vs : List Varied). vs ++ one ∷ []) (sym c.in_ok-reserve.ensures.items) ∙ sym c.push_reserved.ensures.items)
    (known_more c.args.list.now.items known c.insert.new.self one more c.requires
    (c.in_ok-more.ensures ∙ ap (λ (cs : List (Option Collation)). cs ++ one.collation ∷ []) (c.in_ok-collations.ensures ∙ c.requires one.table one.column))
    (subst (λ (table : List ℕ). Updates place_cmp known c.insert.new.self (table, one.column) (Some more)) c.in_ok-name.ensures.cases c.in_ok-insert.ensures.updates))

use Rattle.std.proofs.Common.{sym, ap, ◌∙◌}
use Rattle.std.specs.FinSet as set
use Rattle.journal.specs.Journals.{gtids_of}
use Rattle.gtid_set.proofs.LawLemmas.{union_group}
use Rattle.source_shares.proofs.Unions.{union_within}
use Rattle.source_shares.proofs.executing.add_journal.Goals as goal

pub returns : goal.returns
returns c = λ yes.
    let known = c.args.known.now in
    let previous = c.args.journal.now.previous in
    let more = gtids_of c.args.journal.now.entries in
    let within = ap (λ p. set.is_subset p known) (sym c.previous.ensures) ∙ sym c.is_subset.ensures ∙ c.if-not-is_subset.false in
    c.add_gtids.ensures yes
    ∙ ap (λ es. set.union known (gtids_of es)) c.entries.ensures
    ∙ ap (λ s. set.union s more) (sym (union_within known previous within))
    ∙ union_group known previous more

use Rattle.std.proofs.Common.{sym, ap, ◌∙◌}
use Rattle.std.specs.FinSet as set
use Rattle.lemmas.proofs.SameGtid.{gtid_total}
use Rattle.gtid_text.specs.Gtids.{gtid_cmp, same_gtid}
use Rattle.gtid_set.proofs.SetLemmas.{gtid_tied}
use Rattle.audit.proofs.Hashed.{hashed_in}
use Rattle.audit.proofs.standing.GtidTable.has.Goals as goal

pub returns : goal.returns
returns c =
    c.contains.ensures ∙ hashed_in gtid_cmp same_gtid (λ a b. sym (gtid_tied a b)) c.self.inside.table.keys c.args.gtid.now
    ∙ sym (set.contains-from_list gtid_total c.self.inside.table.keys c.args.gtid.now) ∙ ap (λ s. set.contains s c.args.gtid.now) c.self.view_is

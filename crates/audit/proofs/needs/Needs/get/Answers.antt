use Rattle.std.proofs.Common.{sym, ap, ◌∙◌}
use Rattle.std.specs.FinMap as map
use Rattle.lemmas.proofs.SameGtid.{gtid_total}
use Rattle.gtid_text.specs.Gtids.{gtid_cmp, same_gtid}
use Rattle.gtid_set.proofs.SetLemmas.{gtid_tied}
use Rattle.audit.proofs.Stored.{get-stored}
use Rattle.audit.proofs.Hashed.{hashed_at}
use Rattle.audit.proofs.needs.Needs.get.Goals as goal

pub returns : goal.returns
returns c =
    c.get.ensures.value ∙ hashed_at gtid_cmp same_gtid (λ a b. sym (gtid_tied a b)) c.self.inside.table.entries c.args.gtid.now
    ∙ sym (get-stored gtid_cmp gtid_total c.self.inside.table.entries c.args.gtid.now) ∙ ap (λ m. map.get m c.args.gtid.now) c.self.view_is

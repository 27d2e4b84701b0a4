use Rattle.std.proofs.Common.{ap, sym, ◌∙◌}
use Rattle.std.specs.FinMap as map
use Rattle.lemmas.proofs.SameGtid.{gtid_total, gtid_exact}
use Rattle.gtid_text.specs.Gtids.{gtid_cmp, same_gtid}
use Rattle.gtid_set.proofs.SetLemmas.{gtid_tied}
use Rattle.audit.proofs.Hashed.{hashed_put}
use Rattle.audit.proofs.needs.Needs.put.Goals as goal

pub returns-in-Ok : goal.returns-in-Ok
returns-in-Ok c =
    hashed_put gtid_cmp same_gtid (λ a b. sym (gtid_tied a b)) gtid_total gtid_exact c.self.inside.table.entries c.insert.new.self.entries c.args.gtid c.args.gtids.items c.in-Ok.ensures.updates.0
    ∙ ap (λ m. map.insert m c.args.gtid c.args.gtids.items) c.self.view_is

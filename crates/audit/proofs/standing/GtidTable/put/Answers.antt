use Rattle.std.proofs.Common.{ap, sym, ◌∙◌}
use Rattle.std.specs.FinSet as set
use Rattle.std.specs.List.{list_any}
use Rattle.lemmas.proofs.SameGtid.{gtid_total, gtid_exact}
use Rattle.gtid_text.specs.Gtids.{gtid_cmp, same_gtid}
use Rattle.gtid_set.proofs.SetLemmas.{gtid_tied}
use Rattle.audit.proofs.Hashed.{hashed_key}
use Rattle.audit.proofs.Inserted.{inserted}
use Rattle.audit.proofs.standing.GtidTable.put.Goals as goal

pub returns : goal.returns
returns c =
    let old = c.self.inside.table.keys in
    let new = c.insert.new.self.keys in
    hashed_key gtid_cmp same_gtid (λ a b. sym (gtid_tied a b)) gtid_total gtid_exact old new c.args.gtid
    (λ q. ap (list_any (same_gtid q)) c.in_ok-insert.ensures.ok ∙ inserted old c.args.gtid q)
    ∙ ap (λ s. set.insert s c.args.gtid) c.self.view_is

use Rattle.std.proofs.Common.{List, sym, subst}
use Rattle.rows.specs.declared.schema.Table.{Table}
use Rattle.rows.specs.Fits.{Fits}
use Rattle.audit.proofs.Listings.{listed_fits}
use Rattle.audit.proofs.Rising.{get_here}
use Rattle.source_shares.proofs.applying.apply_each.Goals as goal

pub apply_fitting-requires : goal.apply_fitting-requires
apply_fitting-requires c =
    let es = c.args.entries.now in
    let at = c.loop-entry.entry-index in
    let e = c.entry-item.result in
    subst (λ (s : List Table). Fits s e.now.txn) (sym c.loop-entry.invariant.1) (listed_fits (λ x. x.now) c.args.rows.now.schema es at e (get_here es at e c.loop-entry-test.true c.entry-item.is) c.requires)

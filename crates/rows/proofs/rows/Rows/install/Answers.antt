use Rattle.std.proofs.Common.{◌≡◌, Ok, OnErr, refl, sym, ap, subst, ◌∙◌}
use Rattle.lemmas.proofs.Tests.{not_both}
use Rattle.rows.specs.Apply.{apply}
use Rattle.rows.specs.Database.{Database, AreRowsOf}
use Rattle.rows.specs.Patch.{SameTables, footprint_of}
use Rattle.rows.specs.Prepared.{Plan, IsStillTrue, same_tables}
use Rattle.rows.proofs.FitLemmas.{keeps_rows, fits_along, tables_told, tables_tell, by_outcome}
use Rattle.rows.proofs.Tables.{tables_decide}
use Rattle.rows.proofs.rows.Rows.install.Goals as goal

pub returns-then-not-are_same_tables-clause-stale : goal.returns-then-not-are_same_tables-clause-stale
returns-then-not-are_same_tables-clause-stale c =
    let same : same_tables c.patch.inside.schema c.self.inside.schema c.as_slice.result.now ≡ same_tables c.args.patch.schema c.args.self.now.schema c.args.patch.txn.changes =
    ap (same_tables c.patch.inside.schema c.self.inside.schema) c.as_slice.ensures
    ∙ ap (λ (p : Plan). same_tables p.schema c.self.inside.schema p.txn.changes) c.patch.view_is
    ∙ ap (λ (d : Database). same_tables c.args.patch.schema d.schema c.args.patch.txn.changes) c.self.view_is in
    λ _. (
      λ h. not_both c.are_same_tables.result (c.are_same_tables.ensures ∙ same ∙ tables_tell c.args.patch.schema c.args.self.now.schema c.args.patch.txn.changes h.tables) c.if-not-are_same_tables.true,
      refl,
    )

pub invariant_of-self : goal.invariant_of-self
invariant_of-self c =
    let told : SameTables c.patch.inside.schema c.self.inside.schema c.patch.inside.txn.changes =
    tables_told c.patch.inside.schema c.self.inside.schema c.patch.inside.txn.changes
    (ap (same_tables c.patch.inside.schema c.self.inside.schema) (sym c.as_slice.ensures) ∙ sym c.are_same_tables.ensures ∙ c.if-not-are_same_tables.false) in
    by_outcome c.install.result
    (λ e.
    let i = c.install.ensures.installed e in
    keeps_rows c.self.inside.schema c.patch.inside.txn c.self.inside.carriers c.install.new.self
    (fits_along c.patch.inside.schema c.self.inside.schema c.patch.inside.txn told c.patch.invariant.fits) c.self.invariant
    (sym (tables_decide c.patch.inside.schema c.self.inside.schema c.patch.inside.txn c.self.inside.carriers told) ∙ c.patch.invariant.patch c.self.inside.carriers i.0 ∙ ap Ok (sym i.1)))
    (λ e. subst (AreRowsOf c.self.inside.schema) (sym (c.install.ensures.stale e).1) c.self.invariant)
    (λ x e. subst (AreRowsOf c.self.inside.schema) (sym (subst (λ r. OnErr r (c.install.new.self ≡ c.self.inside.carriers)) e c.install.ensures.err)) c.self.invariant)

pub returns-clause-installed : goal.returns-clause-installed
returns-clause-installed c =
    let told : SameTables c.patch.inside.schema c.self.inside.schema c.patch.inside.txn.changes =
    tables_told c.patch.inside.schema c.self.inside.schema c.patch.inside.txn.changes
    (ap (same_tables c.patch.inside.schema c.self.inside.schema) (sym c.as_slice.ensures) ∙ sym c.are_same_tables.ensures ∙ c.if-not-are_same_tables.false) in
    let plan : Plan = record { schema = c.patch.inside.schema; txn = c.patch.inside.txn; seen = footprint_of c.patch.inside.touches.items } in
    λ e.
    subst (λ (p : Plan). IsStillTrue p c.args.self.now) c.patch.view_is
    (subst (λ (d : Database). IsStillTrue plan d) c.self.view_is (record { tables = told; carriers = (c.install.ensures.installed e).0 }))

pub returns-clause-applied : goal.returns-clause-applied
returns-clause-applied c =
    let told : SameTables c.patch.inside.schema c.self.inside.schema c.patch.inside.txn.changes =
    tables_told c.patch.inside.schema c.self.inside.schema c.patch.inside.txn.changes
    (ap (same_tables c.patch.inside.schema c.self.inside.schema) (sym c.as_slice.ensures) ∙ sym c.are_same_tables.ensures ∙ c.if-not-are_same_tables.false) in
    λ e.
    let i = c.install.ensures.installed e in
    subst (λ (p : Plan). apply c.args.self.now.schema p.txn c.args.self.now.rows ≡ Ok c.install.new.self) c.patch.view_is
    (subst (λ (d : Database). apply d.schema c.patch.inside.txn d.rows ≡ Ok c.install.new.self) c.self.view_is
    (sym (tables_decide c.patch.inside.schema c.self.inside.schema c.patch.inside.txn c.self.inside.carriers told) ∙ c.patch.invariant.patch c.self.inside.carriers i.0 ∙ ap Ok (sym i.1)))

use Rattle.std.proofs.Common.{is_some, sym, ap, ◌∙◌}
use Rattle.std.specs.Map.{keys_of}
use Rattle.indexmap.specs.IndexSet.{contains, insert_key}
use Rattle.key_table.proofs.SetChanges.{keys_opened, some_any}
use Rattle.key_table.proofs.TableLemmas.{on_err}
use Rattle.key_table.proofs.set.KeySet.insert.Goals as goal

pub returns-clause-ok : goal.returns-clause-ok
returns-clause-ok g c = ap keys_of c.in_ok-open.ensures.entries ∙ keys_opened g.K.PartialEq.eq c.args.key c.self.inside.table.entries _ ∙ ap (λ s. insert_key g.K.PartialEq.eq s.keys c.args.key) c.self.view_is

pub returns-in_err-open-clause-absent : goal.returns-in_err-open-clause-absent
returns-in_err-open-clause-absent g c =
    on_err c.from_residual.result _
    (ap (λ s. contains g.K.PartialEq.eq s c.args.key) (sym c.self.view_is) ∙ sym (some_any g.K.PartialEq.eq c.args.key c.self.inside.table.entries) ∙ ap is_some c.in_err-open.ensures.absent)

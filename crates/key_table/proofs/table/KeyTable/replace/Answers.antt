use Rattle.std.proofs.Common.{sym, ◌∙◌}
use Rattle.key_table.proofs.Puts.{over_old, over_updated}
use Rattle.key_table.proofs.TableLemmas.{value_missing}
use Rattle.key_table.proofs.table.KeyTable.replace.Goals as goal

pub returns-in_err-place-clause-old : goal.returns-in_err-place-clause-old
returns-in_err-place-clause-old g c = c.from_residual.ensures ∙ sym (value_missing (g.K.PartialEq.eq c.args.key.now) c.args.self.now.entries (sym c.in_err-place.ensures.index))

pub returns-clause-old : goal.returns-clause-old
returns-clause-old g c = over_old g.K.PartialEq.eq g.met.K.Eq.laws c.args.self.now.entries c.replace_at.new.self.entries c.args.key.now c.args.value c.in_ok-place.place (sym c.in_ok-place.ensures.index) c.replace_at.ensures.entries c.replace_at.result c.replace_at.ensures.took

pub returns-clause-updates : goal.returns-clause-updates
returns-clause-updates g c = over_updated g.K.PartialEq.eq g.met.K.Eq.laws c.args.self.now.entries c.replace_at.new.self.entries c.args.key.now c.args.value c.in_ok-place.place (sym c.in_ok-place.ensures.index) c.replace_at.ensures.entries

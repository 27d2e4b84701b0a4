use Rattle.std.proofs.Common.{sym, ap, ◌∙◌}
use Rattle.std.specs.Option.{option_copied}
use Rattle.key_table.proofs.TableLemmas.{value_at, value_missing}
use Rattle.key_table.proofs.table.KeyTable.get.Goals as goal

pub returns-in_err-place : goal.returns-in_err-place
returns-in_err-place g c = record { value = ap option_copied c.from_residual.ensures ∙ sym (value_missing (g.K.PartialEq.eq c.args.key.now) c.args.self.now.entries (sym c.in_err-place.ensures.index)) }

pub returns : goal.returns
returns g c = record {
  value = value_at (g.K.PartialEq.eq c.args.key.now) c.args.self.now.entries c.deref.result.now c.in_ok-place.place c.in_ok-entry.entry.now _ (c.deref.ensures.value ∙ ap (λ m. m.entries) c.self.view_is)
      (sym c.in_ok-place.ensures.index) c.in_ok-entry.ensures.lookup.0 c.in_ok-entry.ensures.lookup.1;
}

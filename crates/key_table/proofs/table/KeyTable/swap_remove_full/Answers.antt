use Rattle.std.proofs.Common.{refl, sym, ap, ◌∙◌}
use Rattle.std.specs.Option.{option_map}
use Rattle.indexmap.proofs.MapLemmas.{Missing-position, swap_remove_entry-found}
use Rattle.indexmap.proofs.RemoveLemmas.{none_out, swap_out}
use Rattle.key_table.proofs.table.KeyTable.swap_remove_full.Goals as goal

pub returns-in_err-place-clause-key : goal.returns-in_err-place-clause-key
returns-in_err-place-clause-key g c = ap (option_map (λ p. p.1)) c.from_residual.ensures ∙ sym (Missing-position (g.K.PartialEq.eq c.args.key.now) c.args.self.now.entries (sym c.in_err-place.ensures.index)).key

pub returns-in_err-place-clause-value : goal.returns-in_err-place-clause-value
returns-in_err-place-clause-value g c = ap (option_map (λ p. p.2)) c.from_residual.ensures ∙ sym (Missing-position (g.K.PartialEq.eq c.args.key.now) c.args.self.now.entries (sym c.in_err-place.ensures.index)).value

pub returns-in_err-place-clause-updates : goal.returns-in_err-place-clause-updates
returns-in_err-place-clause-updates g c = none_out g.K.PartialEq.eq g.met.K.Eq.laws (g.K.PartialEq.eq c.args.key.now) (g.met.K.Eq.laws.congr c.args.key.now) c.args.self.now.entries c.args.self.now.entries (sym c.in_err-place.ensures.index) refl

pub returns-clause-key : goal.returns-clause-key
returns-clause-key g c = (swap_out g.K.PartialEq.eq g.met.K.Eq.laws (g.K.PartialEq.eq c.args.key.now) (g.met.K.Eq.laws.congr c.args.key.now) c.args.self.now.entries c.in_ok-place.place c.take-key.result (sym c.in_ok-place.ensures.index) c.take-key.ensures.took c.take-key.ensures.unique c.take-key.new.self.entries c.take-key.ensures.entries).key

pub returns-clause-value : goal.returns-clause-value
returns-clause-value g c = (swap_out g.K.PartialEq.eq g.met.K.Eq.laws (g.K.PartialEq.eq c.args.key.now) (g.met.K.Eq.laws.congr c.args.key.now) c.args.self.now.entries c.in_ok-place.place c.take-key.result (sym c.in_ok-place.ensures.index) c.take-key.ensures.took c.take-key.ensures.unique c.take-key.new.self.entries c.take-key.ensures.entries).value

pub returns-clause-updates : goal.returns-clause-updates
returns-clause-updates g c = (swap_out g.K.PartialEq.eq g.met.K.Eq.laws (g.K.PartialEq.eq c.args.key.now) (g.met.K.Eq.laws.congr c.args.key.now) c.args.self.now.entries c.in_ok-place.place c.take-key.result (sym c.in_ok-place.ensures.index) c.take-key.ensures.took c.take-key.ensures.unique c.take-key.new.self.entries c.take-key.ensures.entries).updated

pub returns-clause-entries : goal.returns-clause-entries
returns-clause-entries g c = c.take-key.ensures.entries ∙ sym (swap_remove_entry-found (g.K.PartialEq.eq c.args.key.now) c.args.self.now.entries c.in_ok-place.place c.take-key.result (sym c.in_ok-place.ensures.index))

pub returns-clause-unique : goal.returns-clause-unique
returns-clause-unique g c = (swap_out g.K.PartialEq.eq g.met.K.Eq.laws (g.K.PartialEq.eq c.args.key.now) (g.met.K.Eq.laws.congr c.args.key.now) c.args.self.now.entries c.in_ok-place.place c.take-key.result (sym c.in_ok-place.ensures.index) c.take-key.ensures.took c.take-key.ensures.unique c.take-key.new.self.entries c.take-key.ensures.entries).unique

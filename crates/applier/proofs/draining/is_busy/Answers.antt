use Rattle.std.proofs.Common.{ℕ, sym, ap, ◌∙◌, ◌==◌}
use Rattle.std.specs.List.{list_any}
use Rattle.gtid_text.specs.declared.Gtid.{Gtid}
use Rattle.replica_core.proofs.FreeLemmas.{not_listed}
use Rattle.applier.proofs.draining.is_busy.Goals as goal

pub returns : goal.returns
returns c = λ busy.
    not_listed c.args.core.now.state c.args.seat c.requires.low c.requires.high c.one_seat_each.ensures
    (ap (list_any (λ (p : ℕ × Gtid). p.0 == c.args.seat)) (sym (c.as_slice.ensures.value ∙ c.in_ok-owned.ensures)) ∙ sym c.is_listed.ensures ∙ busy)

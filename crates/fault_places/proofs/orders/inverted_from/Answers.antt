use Rattle.std.proofs.Common.{ℕ, List, ap, ◌∙◌}
use Rattle.std.specs.Prelude.{Option}
use Rattle.gtid_text.specs.declared.Gtid.{Gtid}
use Rattle.journal.specs.declared.Entry.{Entry}
use Rattle.fault_places.specs.Orders.{position_in, inverted_with}
use Rattle.fault_places.proofs.orders.inverted_from.Goals as goal

pub returns : goal.returns
returns c =
    let found : (Gtid → Option ℕ) → _ = λ place. inverted_with place c.args.journals.now c.args.first c.args.others.now in
    c.inverted_with.ensures ∙ ap found (λ i g. c.in_ok-places.ensures g i) ∙ ap (λ (es : List Entry). found (position_in c.args.opened.now es)) c.entries_of.ensures

use Rattle.std.proofs.Common.{◌≡◌, List, sym, ap, subst, ◌∙◌}
use Rattle.rows.specs.declared.schema.Table.{Table}
use Rattle.replica_core.specs.Kept.{ChannelsValue, AreOf}
use Rattle.replica_core.proofs.SameLemmas.{of_same, channels_same}
use Rattle.replica_core.proofs.channels.Channels.is_equal.Goals as goal

pub returns : goal.returns
returns c =
    let a = c.self.inside in
    let b = c.other.inside in (
      λ e.
          let lists : a.list.items ≡ b.list.items = sym c.deref.ensures.value ∙ c.are_same_channels.ensures.0 e ∙ c.deref-2.ensures.value in
          sym c.self.view_is ∙ channels_same a.schema b.schema a.list.items b.list.items (c.is_equal.ensures.0 c.if-not-is_equal.false) lists ∙ c.other.view_is,
      λ e.
          let v = c.self.view_is ∙ e ∙ sym c.other.view_is in
          let of : AreOf a.schema b.list.items = subst (λ (s : List Table). AreOf s b.list.items) (sym (ap (λ (x : ChannelsValue). x.schema) v)) c.other.invariant in
          let lists : a.list.items ≡ b.list.items = of_same a.schema a.list.items b.list.items c.self.invariant of (ap (λ (x : ChannelsValue). x.list) v) in
          c.are_same_channels.ensures.1 (c.deref.ensures.value ∙ lists ∙ sym c.deref-2.ensures.value),
    )

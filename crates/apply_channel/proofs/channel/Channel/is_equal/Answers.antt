use Rattle.std.proofs.Common.{rules, ◌≡◌, sym, ap, ◌∙◌, true≢false}
use Rattle.std.specs.Ordering.{nat_cmp, eq_by_cmp}
use Rattle.std.specs.Cmp.Lexicographic.{slice_cmp}
use Rattle.apply_channel.specs.Channels.{Keyed}
use Rattle.apply_channel.specs.Kept.{entries_of}
use Rattle.apply_channel.proofs.Same.{same_keyed, names_same, names_pass, turned, not_turned}
use Rattle.apply_channel.proofs.channel.Channel.is_equal.Goals as goal

pub returns-then-ne : goal.returns-then-ne
returns-then-ne c = (
  λ e. absurd (true≢false (sym e)),
  λ e.
      let a = c.self.inside.name in
      let b = c.other.inside.name in
      not_turned c.ne.result (eq_by_cmp (slice_cmp nat_cmp) a b) c.ne.ensures c.if-ne.true (names_pass a b (ap (λ (k : Keyed). k.channel.name) (c.self.view_is ∙ e ∙ sym c.other.view_is))),
)

pub returns : goal.returns
returns c = (
  λ e.
      let a = c.self.inside.name in
      let b = c.other.inside.name in
      let preserve : c.self.inside.preserve ≡ c.other.inside.preserve = search rules in
      let stopped : c.self.inside.stopped ≡ c.other.inside.stopped = search rules in
      sym c.self.view_is
      ∙ same_keyed _ _ (c.is_equal.ensures.0 c.if-not-is_equal.false) (names_same a b (turned c.ne.result (eq_by_cmp (slice_cmp nat_cmp) a b) c.ne.ensures c.if-ne.false))
      preserve stopped (c.same_asked.ensures.0 c.if-not-same_asked.false)
      (ap entries_of (sym c.deref.ensures.value) ∙ c.same_entries.ensures.0 e ∙ ap entries_of c.deref-2.ensures.value)
      ∙ c.other.view_is,
  λ e. c.same_entries.ensures.1 (ap entries_of c.deref.ensures.value ∙ ap (λ (k : Keyed). k.channel.received) (c.self.view_is ∙ e ∙ sym c.other.view_is) ∙ ap entries_of (sym c.deref-2.ensures.value)),
)

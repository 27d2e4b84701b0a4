use Rattle.std.proofs.Common.{◌≡◌, ◌-◌, ℕ, List, sym, ap, ◌∙◌, subst, arith}
use Rattle.network.specs.Nodes.{Node}
use Rattle.network.specs.Reading.{AreAllMoved, entries_at}
use Rattle.network.proofs.ReadingLemmas.{act_keeps, none_moved}
use Rattle.network.proofs.making.act_at.Goals.{then-purged-gt0, else-purged-gt0}
use Rattle.network.proofs.making.act_at.Goals as goal

pub returns-clause-read : goal.returns-clause-read
returns-clause-read c =
    let N = c.args.nodes.now.items in
    let new = c.make_at.new.nodes.items in
    let i = c.args.node in
    let before : c.entries_at-before.result ≡ entries_at N i = c.entries_at-before.ensures ∙ ap (λ (ns : List Node). entries_at ns i) c.deref.ensures.value in
    let now : c.entries_at.result ≡ entries_at new i = c.entries_at.ensures ∙ ap (λ (ns : List Node). entries_at ns i) c.deref-2.ensures.value in
    let purged : c.saturating_sub-purged.result ≡ entries_at N i - entries_at new i = c.saturating_sub-purged.ensures ∙ (λ k. before k - now k) in
    act_keeps N c.args.readers.now c.if-purged-gt0.readers i c.args.event.now c.in_ok-reply.reply new c.requires.own c.in_ok-reply.ensures.ok c.requires.read
    (elim c.if-purged-gt0.branch [
      | then-purged-gt0 w ↦
          subst (λ r. AreAllMoved new i (entries_at N i - entries_at new i) c.args.readers.now r) (sym w.readers-is)
          (subst (λ (n : ℕ). AreAllMoved new i n c.args.readers.now w.move_back.new.readers) purged
          (subst (λ (ns : List Node). AreAllMoved ns i c.saturating_sub-purged.result c.args.readers.now w.move_back.new.readers) w.deref-then-purged-gt0.ensures.value w.move_back.ensures))
      | else-purged-gt0 w ↦
          subst (λ r. AreAllMoved new i (entries_at N i - entries_at new i) c.args.readers.now r) (sym w.readers-is)
          (none_moved new c.args.readers.now i (entries_at N i - entries_at new i) (sym purged ∙ omega (w.if-purged-gt0.false, arith)))
    ])

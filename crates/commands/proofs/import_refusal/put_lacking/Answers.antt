use Rattle.std.proofs.Common.{◌≡◌, ℕ, List, OnOk, codes, subst}
use Rattle.std.specs.Prelude.{[], ◌∷◌}
use Rattle.txn_journal.specs.WrittenSets.{set_text}
use Rattle.commands.proofs.Appended.{after_three}
use Rattle.commands.proofs.import_refusal.put_lacking.Goals as goal

pub returns : goal.returns
returns c =
    subst (λ (text : List ℕ). OnOk c.put_set.result (c.put_set.new.out.items ≡ text))
    (after_three c.args.out.now.items c.put.new.out.items c.put-2.new.out.items c.put-3.new.out.items (codes "refused import executed ") c.args.channel.now (32 ∷ []) (set_text c.args.missing.now)
    c.in_ok-put.ensures c.in_ok-put-2.ensures c.in_ok-put-3.ensures) c.put_set.ensures

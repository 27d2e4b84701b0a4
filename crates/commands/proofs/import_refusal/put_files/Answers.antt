use Rattle.std.proofs.Common.{◌≡◌, ℕ, List, OnOk, codes, subst}
use Rattle.commands.proofs.Appended.{after_one}
use Rattle.commands.proofs.import_refusal.put_files.Goals as goal

pub returns : goal.returns
returns c =
    subst (λ (text : List ℕ). OnOk c.put_bytes.result (c.put_bytes.new.out.items ≡ text))
    (after_one c.args.out.now.items c.put.new.out.items (codes "refused import files ") c.args.channel.now c.in_ok-put.ensures) c.put_bytes.ensures

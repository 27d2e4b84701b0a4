use Rattle.std.proofs.Common.{◌++◌, ◌-◌, List, ℕ, length, take, drop, ap, ◌∙◌}
use Rattle.std.proofs.lemmas.Result.{on_ok_weaker}
use Rattle.std.specs.String.{string_bytes}
use Rattle.txn_journal.specs.Texts.{columns_behind}
use Rattle.txn_journal.proofs.BundleWriting.{columns_cut}
use Rattle.txn_journal.proofs.bundle_writer.write_columns.Goals as goal

pub returns : goal.returns
returns c =
    on_ok_weaker c.write_next_columns.result
    (λ e. e ∙ ap (λ (t : List ℕ). t ++ columns_behind (take (length c.args.columns.now - 1) (drop 1 c.args.columns.now))) c.in_ok-write_number.ensures ∙ columns_cut (string_bytes c.args.out.now) c.from.result c.args.columns.now c.in-len1-up.len_at_least c.from.ensures)
    c.write_next_columns.ensures

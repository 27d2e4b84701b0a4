use Rattle.std.proofs.Common.{◌≡◌, ◌++◌, ℕ, List, subst, string_bytes}
use Rattle.std.specs.Prelude.{OnOk}
use Rattle.gtid_text.specs.declared.Gtid.{Gtid}
use Rattle.replica_lines.specs.Status.{owned_line}
use Rattle.replica_lines.proofs.replica_status.push_owned.Goals as goal

pub returns : goal.returns
returns c =
    subst (λ (es : List (Gtid × ℕ)). OnOk c.push_owners_line.result (string_bytes c.push_owners_line.new.out ≡ string_bytes c.args.out.now ++ owned_line es))
    c.in_ok-owners.ensures c.push_owners_line.ensures

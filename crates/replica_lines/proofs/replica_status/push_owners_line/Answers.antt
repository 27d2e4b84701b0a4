use Rattle.std.proofs.Common.{string_bytes}
use Rattle.std.specs.Prelude.{codes}
use Rattle.replica_lines.specs.Status.{owned_word}
use Rattle.replica_lines.proofs.OwnedLemmas.{line_told}
use Rattle.replica_lines.proofs.replica_status.push_owners_line.Goals as goal

pub returns : goal.returns
returns c =
    line_told c.push_str-2.result (string_bytes c.args.out.now) (string_bytes c.push_str.new.self) (string_bytes c.push_owners.new.out) (string_bytes c.push_str-2.new.self)
    (codes "gtid_owned ") (owned_word c.args.owners.now.entries) c.in_ok-push_str.ensures.bytes c.in_ok-push_owners.ensures c.push_str-2.ensures.bytes

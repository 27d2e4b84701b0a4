use Rattle.std.proofs.Common.{◌≡◌, length, arith}
use Rattle.std.proofs.lemmas.Bool.Decides.{nat_tests}
use Rattle.binlog_rows.proofs.ReadWalks.{rows_empty}
use Rattle.binlog_rows.proofs.reading.read_in.Goals as goal

pub returns-then-is_empty-3 : goal.returns-then-is_empty-3
returns-then-is_empty-3 c =
    let no_first : length c.args.first.now ≡ 0 = grind (arith, nat_tests) in
    let no_second : length c.args.second.now ≡ 0 = grind (arith, nat_tests) in
    let no_bytes : length c.args.bytes.now ≡ 0 = grind (arith, nat_tests) in
    rows_empty c.args.rows.now.items c.push_empty.new.rows.items c.args.first.now c.args.second.now c.args.bytes.now no_first no_second no_bytes
    c.in_ok-push_empty.ensures

use Rattle.std.proofs.Common.{length, ◌≤◌, take_all, arith}
use Rattle.binlog_events.proofs.text.put_shown.Goals as goal

pub returns-then-text-lt-MOST_SHOWN : goal.returns-then-text-lt-MOST_SHOWN
returns-then-text-lt-MOST_SHOWN c =
    let short : length c.args.text.now ≤ 120 = omega arith in
    rw (take_all 120 c.args.text.now short) c.put_bytes.ensures

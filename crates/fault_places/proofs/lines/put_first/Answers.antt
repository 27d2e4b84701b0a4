use Rattle.std.proofs.Common.{length, ◌≤◌, take_all, arith}
use Rattle.fault_places.proofs.lines.put_first.Goals as goal

pub returns-then-text-most : goal.returns-then-text-most
returns-then-text-most c =
    let short : length c.args.text.now ≤ c.args.most = omega arith in
    rw (take_all c.args.most c.args.text.now short) c.put_bytes.ensures

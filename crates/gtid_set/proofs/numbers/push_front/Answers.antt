use Rattle.std.proofs.Common.{arith}
use Rattle.gtid_set.specs.Numbers.{numbered, all_numbered}
use Rattle.gtid_set.proofs.CutLemmas.{adds_front}
use Rattle.gtid_set.proofs.NumberLemmas.{pushed}
use Rattle.gtid_set.proofs.numbers.push_front.Goals as goal

pub returns-then-numbers-hole : goal.returns-then-numbers-hole
returns-then-numbers-hole c =
    adds_front (all_numbered c.args.out.now.items) (all_numbered c.push.new.self.items) (numbered c.args.numbers) (numbered c.args.hole)
    (pushed c.args.out.now.items c.push.new.self.items _ c.in_ok-push.ensures.items) c.requires.merged c.requires.before c.requires.met (omega arith)

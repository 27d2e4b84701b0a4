use Rattle.std.proofs.Common.{◌-◌, ◌%◌, refl, arith}
use Rattle.dependency_graph.proofs.Levels.{level_bare}
use Rattle.dependency_graph.proofs.ready.Ready.skip.Goals as goal

pub returns-then-is_bare-clause-bare : goal.returns-then-is_bare-clause-bare
returns-then-is_bare-clause-bare c = λ base end p h m lo hi. level_bare 262144 (omega arith) c.args.self.now.large base end c.args.number (262144 - c.args.number % 262144) p h.large (c.is_bare.ensures c.if-is_bare.true) refl m lo hi

pub returns-then-is_bare-2-clause-bare : goal.returns-then-is_bare-2-clause-bare
returns-then-is_bare-2-clause-bare c = λ base end p h m lo hi. level_bare 4096 (omega arith) c.args.self.now.middle base end c.args.number (4096 - c.args.number % 4096) p h.middle (c.is_bare-2.ensures c.if-is_bare-2.true) refl m lo hi

pub returns-then-is_bare-3-clause-bare : goal.returns-then-is_bare-3-clause-bare
returns-then-is_bare-3-clause-bare c = λ base end p h m lo hi. level_bare 64 (omega arith) c.args.self.now.small base end c.args.number (64 - c.args.number % 64) p h.small (c.is_bare-3.ensures c.if-is_bare-3.true) refl m lo hi

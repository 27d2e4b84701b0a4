use Rattle.std.proofs.Common.{◌/◌, arith}
use Rattle.dependency_graph.proofs.Levels.{level_open, level_more}
use Rattle.dependency_graph.proofs.ready.Ready.reserve.Goals as goal

pub returns-in_err-open-clause-same : goal.returns-in_err-open-clause-same
returns-in_err-open-clause-same c = λ base end p h. record {
  small = level_open 64 (omega arith) c.args.self.now.small c.open.new.self (c.args.number / 64) c.open.result c.open.ensures base end p h.small;
  middle = h.middle;
  large = h.large;
}

pub returns-in_err-open-2-clause-same : goal.returns-in_err-open-2-clause-same
returns-in_err-open-2-clause-same c = λ base end p h. record {
  small = level_open 64 (omega arith) c.args.self.now.small c.open.new.self (c.args.number / 64) c.open.result c.open.ensures base end p h.small;
  middle = level_open 4096 (omega arith) c.args.self.now.middle c.open-2.new.self (c.args.number / 4096) c.open-2.result c.open-2.ensures base end p h.middle;
  large = h.large;
}

pub returns-in_err-open-3-clause-same : goal.returns-in_err-open-3-clause-same
returns-in_err-open-3-clause-same c = λ base end p h. record {
  small = level_open 64 (omega arith) c.args.self.now.small c.open.new.self (c.args.number / 64) c.open.result c.open.ensures base end p h.small;
  middle = level_open 4096 (omega arith) c.args.self.now.middle c.open-2.new.self (c.args.number / 4096) c.open-2.result c.open-2.ensures base end p h.middle;
  large = level_open 262144 (omega arith) c.args.self.now.large c.open-3.new.self (c.args.number / 262144) c.open-3.result c.open-3.ensures base end p h.large;
}

pub returns-clause-same : goal.returns-clause-same
returns-clause-same c = λ base end p h. record {
  small = level_open 64 (omega arith) c.args.self.now.small c.open.new.self (c.args.number / 64) c.open.result c.open.ensures base end p h.small;
  middle = level_open 4096 (omega arith) c.args.self.now.middle c.open-2.new.self (c.args.number / 4096) c.open-2.result c.open-2.ensures base end p h.middle;
  large = level_open 262144 (omega arith) c.args.self.now.large c.open-3.new.self (c.args.number / 262144) c.open-3.result c.open-3.ensures base end p h.large;
}

pub returns-clause-room : goal.returns-clause-room
returns-clause-room c = λ base p lo h. record {
  small = level_more 64 (omega arith) c.args.self.now.small c.open.new.self base c.args.number p lo h.small c.in_ok-open.ensures.opened (level_open 64 (omega arith) c.args.self.now.small c.open.new.self (c.args.number / 64) c.open.result c.open.ensures base c.args.number p h.small);
  middle = level_more 4096 (omega arith) c.args.self.now.middle c.open-2.new.self base c.args.number p lo h.middle c.in_ok-open-2.ensures.opened (level_open 4096 (omega arith) c.args.self.now.middle c.open-2.new.self (c.args.number / 4096) c.open-2.result c.open-2.ensures base c.args.number p h.middle);
  large = level_more 262144 (omega arith) c.args.self.now.large c.open-3.new.self base c.args.number p lo h.large c.in_ok-open-3.ensures.opened (level_open 262144 (omega arith) c.args.self.now.large c.open-3.new.self (c.args.number / 262144) c.open-3.result c.open-3.ensures base c.args.number p h.large);
}

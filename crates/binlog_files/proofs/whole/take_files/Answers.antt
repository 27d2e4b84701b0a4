use Rattle.std.proofs.Common.{arith}
use Rattle.binlog_files.specs.Given.{sets}
use Rattle.binlog_files.proofs.Filed.{no_files, have_next, stops_at, have_all}
use Rattle.binlog_files.proofs.whole.take_files.Goals as goal

pub returns-in-Err-clause-stops : goal.returns-in-Err-clause-stops
returns-in-Err-clause-stops c =
    stops_at (sets c.args.given) c.args.files.now c.loop-place.place c.index-files-place.result c.deref.result.now c.loop-place.log c.loop-place.is_unchecked
    c.in-Err.fault c.loop-place-test.true c.index-files-place.is c.deref.ensures.value c.loop-place.invariant c.in-Err.ensures.stops

pub loop-place-init : goal.loop-place-init
loop-place-init c = no_files (sets c.args.given) c.args.log.now c.requires

pub loop-place-preserved : goal.loop-place-preserved
loop-place-preserved c =
    have_next (sets c.args.given) c.args.files.now c.loop-place.place c.index-files-place.result c.deref.result.now c.loop-place.log c.take_file.new.log
    c.either-is_unchecked.result c.loop-place.is_unchecked c.in-Ok.unchecked c.loop-place-test.true c.index-files-place.is c.deref.ensures.value
    c.loop-place.invariant c.in-Ok.ensures.taken c.either-is_unchecked.ensures

pub returns-clause-taken : goal.returns-clause-taken
returns-clause-taken c =
    have_all (sets c.args.given) c.args.files.now c.loop-place.place c.loop-place.log c.loop-place.is_unchecked (omega arith) c.loop-place.invariant

use Rattle.binlog_files.specs.Given.{sets}
use Rattle.binlog_files.proofs.Filed.{file_taken, fed_stops, end_stops, unlisted_stops}
use Rattle.binlog_files.proofs.whole.take_file.Goals as goal

pub returns-in-Err-clause-stops : goal.returns-in-Err-clause-stops
returns-in-Err-clause-stops c = fed_stops (sets c.args.given) c.args.log.now c.args.bytes.now c.in-Err.fault c.in-Err.ensures.stops

pub returns-in-Err-end_file-clause-stops : goal.returns-in-Err-end_file-clause-stops
returns-in-Err-end_file-clause-stops c =
    end_stops (sets c.args.given) c.args.log.now c.feed.new.self c.args.bytes.now c.in-Err-end_file.fault c.in-Ok.ensures.taken c.in-Err-end_file.ensures.stops

pub returns-in-Ok-check_listed-clause-taken : goal.returns-in-Ok-check_listed-clause-taken
returns-in-Ok-check_listed-clause-taken c =
    file_taken (sets c.args.given) c.args.log.now c.feed.new.self c.end_file.new.self c.args.bytes.now c.is_unchecked-is_unchecked.result
    c.in-Ok.ensures.taken c.is_unchecked-is_unchecked.ensures c.in-Ok-end_file.ensures.ended c.in-Ok-check_listed.ensures.listed

pub returns-in-Err-check_listed-clause-stops : goal.returns-in-Err-check_listed-clause-stops
returns-in-Err-check_listed-clause-stops c =
    unlisted_stops (sets c.args.given) c.args.log.now c.args.bytes.now c.in-Err-check_listed.fault c.in-Err-check_listed.ensures.refused

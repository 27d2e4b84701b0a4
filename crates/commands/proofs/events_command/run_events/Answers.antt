use Rattle.commands.proofs.EventLines.{done_whole, done_refused, refused_early}
use Rattle.commands.proofs.events_command.run_events.Goals as goal

pub returns-in-None-clause-done : goal.returns-in-None-clause-done
returns-in-None-clause-done g c = done_whole c.args.detail c.args.streams.now c.list_all.new.streams c.in-Ok.found c.in-None.is c.in-Ok.ensures.done

pub returns-in-Ok-write_refusal-clause-done : goal.returns-in-Ok-write_refusal-clause-done
returns-in-Ok-write_refusal-clause-done g c =
    done_refused c.args.detail c.args.streams.now c.list_all.new.streams c.write_refusal.new.streams c.in-Some.fault c.in-Ok.found c.in-Some.is c.in-Ok.ensures.done c.write_refusal.ensures.input c.in-Ok-write_refusal.ensures.done

pub returns-in-Err-write_refusal-clause-failed : goal.returns-in-Err-write_refusal-clause-failed
returns-in-Err-write_refusal-clause-failed g c =
    refused_early c.args.detail c.args.streams.now c.list_all.new.streams c.write_refusal.new.streams c.in-Some.fault c.in-Ok.found c.in-Some.is c.in-Ok.ensures.done c.write_refusal.ensures.input c.in-Err-write_refusal.fault c.in-Err-write_refusal.ensures.fault

use Rattle.commands.specs.Bundles.{Applies}
use Rattle.commands.proofs.Answering.{done_written, failed_written}
use Rattle.commands.proofs.apply_command.apply_bundle.Goals as goal

pub returns-clause-done : goal.returns-clause-done
returns-clause-done g c =
    let found = c.in_ok-decoded.ensures.read in
    let held = c.in_ok-answer.ensures.ok found.bytes found.text in
    done_written (Applies c.args.order) c.args.streams.now c.read_bundle.new.streams c.send.new.self found.bytes c.in_ok-answer.answer found.all held c.in_ok-decoded.ensures.output c.send.ensures.input c.send.result c.send.ensures.done c.send.ensures.ends

pub returns-clause-failed : goal.returns-clause-failed
returns-clause-failed g c =
    let found = c.in_ok-decoded.ensures.read in
    let held = c.in_ok-answer.ensures.ok found.bytes found.text in
    failed_written (Applies c.args.order) c.args.streams.now c.read_bundle.new.streams c.send.new.self found.bytes c.in_ok-answer.answer found.all held c.in_ok-decoded.ensures.output c.send.ensures.input c.send.result c.send.ensures.begins c.send.ensures.counted c.send.ensures.write

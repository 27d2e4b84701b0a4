use Rattle.commands.proofs.bundle_reading.read_bundle.Goals as goal

pub returns-in-Ok-clause-read : goal.returns-in-Ok-clause-read
returns-in-Ok-clause-read g c =
    let read = c.in-Ok.ensures.read in
    record { bytes = read.bytes; all = read.all; text = c.finish.ensures read.bytes read.come }

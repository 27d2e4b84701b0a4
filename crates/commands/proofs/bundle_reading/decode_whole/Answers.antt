use Rattle.commands.proofs.Written.{bundle_spelled}
use Rattle.commands.proofs.bundle_reading.decode_whole.Goals as goal

pub returns : goal.returns
returns c = record {
  parsed = bundle_spelled c.args.bytes.now c.decode_bundle.result c.decode_bundle.ensures.found c.decode_bundle.ensures.refused;
  exact = c.decode_bundle.ensures.exact;
}

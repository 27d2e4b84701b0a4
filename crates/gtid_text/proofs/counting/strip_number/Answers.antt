use Rattle.std.proofs.Common.{◌∙◌}
use Rattle.std.specs.Prelude.{decimal}
use Rattle.gtid_text.proofs.Stripped.{stripped}
use Rattle.gtid_text.proofs.counting.strip_number.Goals as goal

pub returns : goal.returns
returns c = stripped c.args.text.now (decimal c.args.number) c.as_bytes.result.now c.strip_prefix.result (c.as_bytes.ensures.value ∙ c.format.ensures.text) c.strip_prefix.ensures.cases

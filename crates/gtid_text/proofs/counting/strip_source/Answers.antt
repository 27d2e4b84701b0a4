use Rattle.std.proofs.Common.{ap, ◌∙◌}
use Rattle.std.specs.Int.{w128, to_be_bytes}
use Rattle.uuid.specs.Text.{hyphenated_text, lower}
use Rattle.gtid_text.specs.Canonical.{source_text}
use Rattle.gtid_text.proofs.Stripped.{stripped}
use Rattle.gtid_text.proofs.counting.strip_source.Goals as goal

pub returns : goal.returns
unfolding source_text
returns c =
    stripped c.args.text.now (source_text c.args.id) c.as_bytes.result.now c.strip_prefix.result
    (c.as_bytes.ensures.value ∙ c.encode_lower-source.ensures.text ∙ ap (hyphenated_text lower) (c.hyphenated.ensures ∙ c.from_u128.ensures ∙ ap (to_be_bytes w128) c.bits.ensures))
    c.strip_prefix.ensures.cases

use Rattle.gtid_text.proofs.Answered.{source_found, source_only, source_refused}
use Rattle.gtid_text.proofs.set_text.parse_source.Goals as goal

pub returns : goal.returns
returns c = record {
  found = source_found c.args.text.now c.source_of_text.result c.source_of_text.ensures;
  only = source_only c.args.text.now c.source_of_text.result c.source_of_text.ensures;
  refused = source_refused c.args.text.now c.source_of_text.result c.source_of_text.ensures;
  exact = c.source_of_text.ensures;
}

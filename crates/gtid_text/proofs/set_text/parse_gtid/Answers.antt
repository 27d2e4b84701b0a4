use Rattle.gtid_text.proofs.Answered.{gtid_found, gtid_only, gtid_refused}
use Rattle.gtid_text.proofs.set_text.parse_gtid.Goals as goal

pub returns : goal.returns
returns c = record {
  found = gtid_found c.args.text.now c.gtid_of_text.result c.gtid_of_text.ensures;
  only = gtid_only c.args.text.now c.gtid_of_text.result c.gtid_of_text.ensures;
  refused = gtid_refused c.args.text.now c.gtid_of_text.result c.gtid_of_text.ensures;
  exact = c.gtid_of_text.ensures;
}

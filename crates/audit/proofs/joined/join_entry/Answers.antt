use Rattle.audit.proofs.Joining.{stays, joins}
use Rattle.audit.proofs.joined.join_entry.Goals as goal

pub returns-then-contains_key : goal.returns-then-contains_key
returns-then-contains_key c = stays c.args.order.now.entries c.args.entry.now.gtid c.args.entry.now.txn c.contains_key.result c.contains_key.ensures c.if-contains_key.true

pub returns : goal.returns
returns c =
    joins c.args.order.now.entries c.insert.new.self.entries c.args.entry.now.gtid c.args.entry.now.txn c.in_ok-txn.txn c.contains_key.result c.contains_key.ensures c.if-contains_key.false
    c.in_ok-txn.ensures.cases c.in-Ok.ensures.entries

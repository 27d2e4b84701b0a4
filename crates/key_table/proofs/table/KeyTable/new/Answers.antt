use Rattle.std.proofs.Common.{rules}
use Rattle.key_table.specs.Reached.{key_hash}
use Rattle.key_table.proofs.TableLemmas.{empty_table, empty_unique}
use Rattle.key_table.proofs.table.KeyTable.new.Goals as goal

pub invariant_of-result : goal.invariant_of-result
invariant_of-result g c = empty_table g.K.PartialEq.eq g.K.Ord.cmp (λ k. key_hash (g.K.Hash.hash_input k)) c.new.result.items c.new-2.result.items c.new-3.result.items c.new-4.result (search rules) (search rules)

pub returns-clause-unique : goal.returns-clause-unique
returns-clause-unique g c = empty_unique g.K.PartialEq.eq c.new.result.items (search rules)

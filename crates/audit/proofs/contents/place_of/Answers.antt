use Rattle.std.proofs.Common.{rules}
use Rattle.std.proofs.lemmas.List.Sorted.{answers_always}
use Rattle.audit.proofs.Firsts.{gtid_of}
use Rattle.audit.proofs.contents.place_of.Goals as goal

pub returns-clause-place : goal.returns-clause-place
returns-clause-place c = c.binary_search_by_key.ensures.position gtid_of (answers_always _ _ _ (λ f a r g called. search rules))

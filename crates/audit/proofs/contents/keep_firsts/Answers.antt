use Rattle.std.proofs.Common.{rules}
use Rattle.std.proofs.lemmas.Fn.{dedup_same}
use Rattle.std.proofs.lemmas.List.Sorted.{answers_always}
use Rattle.audit.proofs.Firsts.{gtid_of, has_same, firsts_rise, firsts_stay}
use Rattle.audit.proofs.contents.keep_firsts.Goals as goal

pub returns-clause-rising : goal.returns-clause-rising
returns-clause-rising c =
    firsts_rise c.sort_by_key.new.self.items c.dedup_by_key.new.self.items
    (c.in_ok-sort_by_key.ensures.sorted gtid_of (answers_always _ _ _ (λ f a r g called. search rules)))
    (dedup_same _ has_same _ (λ x y b f x' y' called. search rules) _ _ c.dedup_by_key.ensures.filtered)

pub returns-clause-firsts : goal.returns-clause-firsts
returns-clause-firsts c =
    firsts_stay c.args.list.now.items c.sort_by_key.new.self.items c.dedup_by_key.new.self.items
    (c.sort_by_key.ensures.stable gtid_of (answers_always _ _ _ (λ f a r g called. search rules)))
    (dedup_same _ has_same _ (λ x y b f x' y' called. search rules) _ _ c.dedup_by_key.ensures.filtered)

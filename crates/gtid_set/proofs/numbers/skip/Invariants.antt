use Rattle.std.proofs.Common.{length, ◌≡◌, true}
use Rattle.gtid_text.specs.declared.Gtid.{Gtid}
use Rattle.gtid_set.specs.Numbers.{numbered, all_numbered}
use Rattle.gtid_set.specs.Spans.{is_merged, has}
use Rattle.gtid_set.specs.Sweep.{is_from, start_of}
use Rattle.gtid_set.proofs.numbers.skip.Given as goal

abbrev pub invariant-loop-first : goal.invariant-loop-first
invariant-loop-first l = record {
  merged : is_merged (all_numbered l.walk) ≡ true;
  same : (q : Gtid) → is_from (start_of (numbered l.numbers)) q ≡ true → has (all_numbered l.walk) q ≡ has (all_numbered l.fn.walk) q;
}

abbrev pub decreases-loop-first : goal.decreases-loop-first
decreases-loop-first l = length l.walk

-- How many sources a set has with a span more.
use Rattle.std.proofs.Common.{◌≡◌, ◌≤◌, ◌<◌, ◌+◌, ℕ, Bool, true, false, cond, List, ap, ◌∙◌, arith}
use Rattle.std.specs.FinSet as set
use Rattle.std.specs.Cmp.{nat_cmp_total}
use Rattle.gtid_text.specs.declared.Span.{Span}
use Rattle.gtid_set.specs.Sets.{Gtids, sources_of, source_count, most_sources}
use Rattle.gtid_set.specs.Spans.{set_of}
use Rattle.gtid_set.specs.Sweep.{KnowsSource}
use Rattle.gtid_set.specs.Full.{HasManySources}
use Rattle.gtid_set.specs.Shared.{with_span}
use Rattle.gtid_set.proofs.SetSources.{sources_with_interval, knows_source}

source_more : (s : Gtids) (t : Span) → t.lo ≤ t.hi → source_count (with_span s t) ≡ cond (set.contains (sources_of s) t.source) (source_count s) (source_count s + 1)
source_more s t low = ap set.len (sources_with_interval s t.source t.lo t.hi low) ∙ set.len-insert nat_cmp_total (sources_of s) t.source

-- with one span more there is at most one source more
pub room_below : (s : Gtids) (t : Span) → t.lo ≤ t.hi → source_count s < most_sources → source_count (with_span s t) ≤ most_sources
room_below s t low few = let n = source_more s t low in let l = at_most (set.contains (sources_of s) t.source) (source_count s) in omega (arith, n, l, few)
  where
    at_most : (b : Bool) (n : ℕ) → cond b n (n + 1) ≤ n + 1
    at_most true n = omega arith
    at_most false n = omega arith

-- ... and none, where its source is there
pub room_known : (ss : List Span) (t : Span) → t.lo ≤ t.hi → source_count (set_of ss) ≤ most_sources → KnowsSource true ss t.source → source_count (with_span (set_of ss) t) ≤ most_sources
room_known ss t low fits known =
    let n = source_more (set_of ss) t low ∙ ap (λ b. cond b (source_count (set_of ss)) (source_count (set_of ss) + 1)) (knows_source true ss t.source known) in
    omega (arith, n, fits)

-- where there are as many as there may be, one more is too many
pub no_room : (ss : List Span) (t : Span) → t.lo ≤ t.hi → most_sources ≤ source_count (set_of ss) → KnowsSource false ss t.source → HasManySources (with_span (set_of ss) t)
no_room ss t low many unknown =
    let n = source_more (set_of ss) t low ∙ ap (λ b. cond b (source_count (set_of ss)) (source_count (set_of ss) + 1)) (knows_source false ss t.source unknown) in
    omega (arith, n, many)

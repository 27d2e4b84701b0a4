use Rattle.std.proofs.Common.{◌++◌, List, ℕ, None, sym, ap, subst, ◌∙◌, append_assoc}
use Rattle.std.specs.List.{concat}
use Rattle.std.proofs.lemmas.List.{map-id}
use Rattle.std.proofs.lemmas.Iterator.Consumers.{YieldsList-end}
use Rattle.std.proofs.lemmas.Iterator.Adapters.{YieldsList-from_vec}
use Rattle.txn_journal.specs.BundleReading.{bundles, bundle_start}
use Rattle.txn_journal.specs.BundleReaders.{bundle_reading}
use Rattle.txn_journal.specs.declared.lines.Due.TheVariants.{Any}
use Rattle.parallel_reading.specs.Coming.{HasCome}
use Rattle.parallel_reading.proofs.Come.{come_more}
use Rattle.parallel_reading.proofs.Pieces.{concat_push}
use Rattle.parallel_reading.proofs.reading.take_all.Goals as goal

pub loop-part-preserved : goal.loop-part-preserved
loop-part-preserved c bytes come =
    let yielded = c.loop-part.yielded in
    let part = c.in-Some.part in
    subst (λ (t : List ℕ). HasCome c.feed_parsed.new.self t)
    (append_assoc bytes (concat yielded) part ∙ ap (λ (t : List ℕ). bytes ++ t) (sym (concat_push yielded part)))
    (come_more (bundles Any).IsFull (bundles Any).judge (bundle_start Any) (bytes ++ concat yielded) part (bundle_reading c.loop-part.reader) (bundle_reading c.feed_parsed.new.self) (c.loop-part.invariant bytes come) c.feed_parsed.ensures.next)

pub returns : goal.returns
returns c bytes come =
    let began = c.into_iter-part-iterator.ensures.into_iter_gives in
    let road = YieldsList-from_vec {s = c.into_iter-part-iterator.result} c.args.parsed.items began.0 (began.1 ∙ c.args.parsed.ok.0) in
    let all = YieldsList-end road c.loop-part.yielded c.loop-part.part-iterator c.loop-part.yielded_by _ c.next.new.self c.in-None.is c.next.ensures.steps in
    subst (λ (t : List (List ℕ)). HasCome c.loop-part.reader (bytes ++ concat t)) (sym (map-id c.loop-part.yielded) ∙ all.0) (c.loop-part.invariant bytes come)

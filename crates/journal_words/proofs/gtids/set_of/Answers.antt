use Rattle.std.proofs.Common.{◌+◌, ap, subst, ◌∙◌, arith, Err}
use Rattle.std.specs.FinSet as set
use Rattle.gtid_set.specs.Sets.{Gtids, interval}
use Rattle.gtid_set.specs.Full.{IsFullExactly}
use Rattle.gtid_text.specs.declared.Span.{Span}
use Rattle.journal_words.proofs.SpanLaws.{fault_behind, with_more}
use Rattle.journal_words.proofs.gtids.set_of.Goals as goal

pub loop-span-preserved : goal.loop-span-preserved
loop-span-preserved c =
    let t : Span = c.span-item.result in
    c.in-Ok.ensures.ok
    ∙ ap (λ (s : Gtids). set.union s (interval t.source t.lo t.hi)) c.loop-span.invariant
    ∙ with_more set.empty c.args.spans.now c.loop-span.span-index t (omega arith) c.span-item.is

pub returns-in-Err-clause-fault : goal.returns-in-Err-clause-fault
returns-in-Err-clause-fault c =
    let i = c.loop-span.span-index in
    let t : Span = c.span-item.result in
    let made = ap (λ (s : Gtids). set.union s (interval t.source t.lo t.hi)) c.loop-span.invariant ∙ with_more set.empty c.args.spans.now i t (omega arith) c.span-item.is in
    fault_behind c.in-Err.fault (i + 1) c.args.spans.now c.requires (subst (λ s. IsFullExactly {T = Unit {0}} (Err c.in-Err.fault) s) made c.in-Err.ensures.full)

use Rattle.std.proofs.Common.{nat_le, ap, sym, subst, ◌∙◌, length, Err}
use Rattle.std.specs.List.{list_all}
use Rattle.gtid_set.specs.Sets.{Gtids}
use Rattle.gtid_set.specs.Spans.{set_of}
use Rattle.gtid_set.specs.Full.{IsFullExactly}
use Rattle.gtid_set.proofs.SortLemmas.{same_set_sorted, filled_sorted}
use Rattle.gtid_set.proofs.TextLemmas.{spelled_filled, memory_alone, set_read, given_set, given_fault, given_refusal}
use Rattle.gtid_set.proofs.RoundTrip.{Fits}
use Rattle.gtid_set.proofs.GtidSet.from_text.Goals as goal

pub returns-in-Err-clause-only : goal.returns-in-Err-clause-only
returns-in-Err-clause-only c s h = memory_alone h.0 (length c.args.text.now) c.in-Err.fault (c.in-Err.ensures.only h.0 h.1)

pub returns-in-Err-clause-exact : goal.returns-in-Err-clause-exact
returns-in-Err-clause-exact c = given_refusal c.args.text.now c.in-Err.fault c.in-Err.ensures.exact

pub from_spans-requires-clause-filled : goal.from_spans-requires-clause-filled
from_spans-requires-clause-filled c =
    let filled = filled_sorted c.in-Ok.spans.items c.sort_by_start.new.spans.items c.sort_by_start.ensures.same (spelled_filled c.args.text.now c.in-Ok.spans.items c.in-Ok.ensures.found) in
    ap (list_all (λ s. nat_le s.lo s.hi)) c.deref.ensures.value ∙ filled

pub returns-in-Ok-from_spans-clause-found : goal.returns-in-Ok-from_spans-clause-found
returns-in-Ok-from_spans-clause-found c =
    (c.in-Ok.spans.items, c.in-Ok.ensures.found, sym (same_set_sorted c.in-Ok.spans.items c.sort_by_start.new.spans.items c.sort_by_start.ensures.same) ∙ sym (ap set_of c.deref.ensures.value) ∙ sym c.in-Ok-from_spans.ensures.ok)

pub returns-in-Ok-from_spans-clause-only : goal.returns-in-Ok-from_spans-clause-only
returns-in-Ok-from_spans-clause-only c s h =
    c.in-Ok-from_spans.ensures.ok ∙ ap set_of c.deref.ensures.value
    ∙ set_read h.0 c.in-Ok.spans.items c.sort_by_start.new.spans.items s (c.in-Ok.ensures.only h.0 h.1) c.sort_by_start.ensures.same h.2

pub returns-in-Ok-from_spans-clause-exact : goal.returns-in-Ok-from_spans-clause-exact
returns-in-Ok-from_spans-clause-exact c =
    let same = same_set_sorted c.in-Ok.spans.items c.sort_by_start.new.spans.items c.sort_by_start.ensures.same in
    let made = c.in-Ok-from_spans.ensures.ok ∙ ap set_of c.deref.ensures.value in
    let fits = subst Fits (sym c.in-Ok-from_spans.ensures.ok) c.in-Ok-from_spans.ensures.full in
    given_set c.args.text.now c.in-Ok.spans.items c.in-Ok-from_spans.set c.in-Ok.ensures.exact fits.0 fits.1 (sym same ∙ sym made)

pub returns-clause-only : goal.returns-clause-only
returns-clause-only c s h =
    let P : Gtids → Type 0 = λ s. IsFullExactly {T = Unit {0}} (Err c.in-Err-from_spans.fault) s in
    subst P (ap set_of c.deref.ensures.value
    ∙ set_read h.0 c.in-Ok.spans.items c.sort_by_start.new.spans.items s (c.in-Ok.ensures.only h.0 h.1) c.sort_by_start.ensures.same h.2) c.in-Err-from_spans.ensures.full

pub returns-clause-refused : goal.returns-clause-refused
returns-clause-refused c =
    let P : Gtids → Type 0 = λ s. IsFullExactly {T = Unit {0}} (Err c.in-Err-from_spans.fault) s in
    (c.in-Ok.spans.items, c.in-Ok.ensures.found, subst P (ap set_of c.deref.ensures.value ∙ same_set_sorted c.in-Ok.spans.items c.sort_by_start.new.spans.items c.sort_by_start.ensures.same) c.in-Err-from_spans.ensures.full)

pub returns-clause-exact : goal.returns-clause-exact
returns-clause-exact c =
    let P : Gtids → Type 0 = λ s. IsFullExactly {T = Unit {0}} (Err c.in-Err-from_spans.fault) s in
    given_fault c.args.text.now c.in-Ok.spans.items c.in-Err-from_spans.fault c.in-Ok.ensures.exact
    (subst P (ap set_of c.deref.ensures.value ∙ same_set_sorted c.in-Ok.spans.items c.sort_by_start.new.spans.items c.sort_by_start.ensures.same) c.in-Err-from_spans.ensures.full)

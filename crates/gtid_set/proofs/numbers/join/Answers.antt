use Rattle.std.proofs.Common.{◌≡◌, ◌≤◌, ◌-◌, refl, true, Some, length, ap, sym, ◌∙◌, arith, [], ◌∷◌, ◌++◌}
use Rattle.std.specs.List.{slice_get}
use Rattle.gtid_set.specs.Numbers.{numbered, all_numbered}
use Rattle.gtid_set.specs.Spans.{is_merged}
use Rattle.gtid_set.specs.Sweep.{all_before}
use Rattle.gtid_set.proofs.SpanLemmas.{joins_end, last_before, joins_at, IsLast}
use Rattle.gtid_set.proofs.NumberLemmas.{pushed, last_numbered, joins_numbered}
use Rattle.gtid_set.proofs.numbers.join.Goals as goal

pub returns-in_ok-push-in-Some : goal.returns-in_ok-push-in-Some
returns-in_ok-push-in-Some c =
    let items = all_numbered c.args.out.now.items in
    let t = numbered c.args.numbers in
    let l = numbered c.in-Some.last.now in
    let got : slice_get c.args.out.now.items (length c.args.out.now.items - 1) ≡ Some c.in-Some.last.now = sym (c.in-Some.ensures.value ∙ ap (λ xs. slice_get xs (length xs - 1)) c.deref.ensures.value) in
    let last : IsLast items l = last_numbered c.args.out.now.items c.in-Some.last.now got in
    let filled : t.lo ≤ t.hi = omega arith in
    let ended = sym c.is_before.ensures ∙ c.if-is_before.true in
    let before : all_before items t ≡ true = ap (λ ss. all_before ss t) last.parts ∙ last_before last.front l t (sym (ap is_merged last.parts) ∙ c.requires.merged) ended in
    joins_at items items (all_numbered c.push-in-Some.new.self.items) (items ++ t ∷ []) t refl (pushed c.args.out.now.items c.push-in-Some.new.self.items c.args.numbers c.in_ok-push-in-Some.ensures.items)
    (joins_end items t c.requires.merged before filled c.requires.order)

pub returns-in-Some-2 : goal.returns-in-Some-2
returns-in-Some-2 c =
    let t = c.args.numbers in
    let l = c.in-Some.last.now in
    let got : slice_get c.args.out.now.items (length c.args.out.now.items - 1) ≡ Some l = sym (c.in-Some.ensures.value ∙ ap (λ xs. slice_get xs (length xs - 1)) c.deref.ensures.value) in
    let filled : t.lo ≤ t.hi = omega arith in
    let apart = sym c.is_before.ensures ∙ c.if-is_before.false in
    joins_numbered c.args.out.now.items l c.index_mut.result.now t (c.len-end.result - 1) c.max-hi.result got (omega arith) c.index_mut.ensures.value c.max-hi.ensures
    c.requires.merged c.requires.order filled apart

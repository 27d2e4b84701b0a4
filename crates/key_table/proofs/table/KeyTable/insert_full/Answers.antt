use Rattle.std.proofs.Common.{sym, ap, ◌∙◌, slice_get, arith}
use Rattle.std.specs.Map.{values_of}
use Rattle.indexmap.specs.IndexMap.{set_value_at}
use Rattle.key_table.proofs.Puts.{at_none, at_some, new_entries, new_index, new_old, new_unique, new_updated, over_entries, over_len, over_old, over_unique, over_updated, over_within}
use Rattle.key_table.proofs.table.KeyTable.insert_full.Goals as goal

pub returns-clause-within : goal.returns-clause-within
returns-clause-within g c =
    let w = at_some _ _ _ c.in-Some.is c.in_ok-place.ensures.there in
    let set = c.replace_at.ensures.entries ∙ ap (λ l. set_value_at l c.in_ok-place.place c.in-Some.value) w.2 ∙ ap (λ v. set_value_at c.args.self.now.entries c.in_ok-place.place v) w.0 in
    over_within g.K.PartialEq.eq g.met.K.Eq.laws c.args.self.now.entries c.replace_at.new.self.entries c.args.key c.args.value c.in_ok-place.place w.1 set

pub returns-clause-old : goal.returns-clause-old
returns-clause-old g c =
    let w = at_some _ _ _ c.in-Some.is c.in_ok-place.ensures.there in
    let set = c.replace_at.ensures.entries ∙ ap (λ l. set_value_at l c.in_ok-place.place c.in-Some.value) w.2 ∙ ap (λ v. set_value_at c.args.self.now.entries c.in_ok-place.place v) w.0 in
    over_old g.K.PartialEq.eq g.met.K.Eq.laws c.args.self.now.entries c.replace_at.new.self.entries c.args.key c.args.value c.in_ok-place.place w.1 set c.replace_at.result (sym (ap (λ l. slice_get (values_of l) c.in_ok-place.place) w.2) ∙ c.replace_at.ensures.took)

pub returns-clause-updates : goal.returns-clause-updates
returns-clause-updates g c =
    let w = at_some _ _ _ c.in-Some.is c.in_ok-place.ensures.there in
    let set = c.replace_at.ensures.entries ∙ ap (λ l. set_value_at l c.in_ok-place.place c.in-Some.value) w.2 ∙ ap (λ v. set_value_at c.args.self.now.entries c.in_ok-place.place v) w.0 in
    over_updated g.K.PartialEq.eq g.met.K.Eq.laws c.args.self.now.entries c.replace_at.new.self.entries c.args.key c.args.value c.in_ok-place.place w.1 set

pub returns-clause-entries : goal.returns-clause-entries
returns-clause-entries g c =
    let w = at_some _ _ _ c.in-Some.is c.in_ok-place.ensures.there in
    let set = c.replace_at.ensures.entries ∙ ap (λ l. set_value_at l c.in_ok-place.place c.in-Some.value) w.2 ∙ ap (λ v. set_value_at c.args.self.now.entries c.in_ok-place.place v) w.0 in
    over_entries g.K.PartialEq.eq g.met.K.Eq.laws c.args.self.now.entries c.replace_at.new.self.entries c.args.key c.args.value c.in_ok-place.place w.1 set

pub returns-clause-len : goal.returns-clause-len
returns-clause-len g c =
    let w = at_some _ _ _ c.in-Some.is c.in_ok-place.ensures.there in
    let set = c.replace_at.ensures.entries ∙ ap (λ l. set_value_at l c.in_ok-place.place c.in-Some.value) w.2 ∙ ap (λ v. set_value_at c.args.self.now.entries c.in_ok-place.place v) w.0 in
    omega (over_len g.K.PartialEq.eq g.met.K.Eq.laws c.args.self.now.entries c.replace_at.new.self.entries c.args.key c.args.value c.in_ok-place.place w.1 set, arith)

pub returns-clause-unique : goal.returns-clause-unique
returns-clause-unique g c =
    let w = at_some _ _ _ c.in-Some.is c.in_ok-place.ensures.there in
    let set = c.replace_at.ensures.entries ∙ ap (λ l. set_value_at l c.in_ok-place.place c.in-Some.value) w.2 ∙ ap (λ v. set_value_at c.args.self.now.entries c.in_ok-place.place v) w.0 in
    over_unique g.K.PartialEq.eq g.met.K.Eq.laws c.args.self.now.entries c.replace_at.new.self.entries c.args.key c.args.value c.in_ok-place.place w.1 set c.place_or_push.ensures.unique

pub returns-in_default-clause-index : goal.returns-in_default-clause-index
returns-in_default-clause-index g c =
    let w = at_none _ _ c.in_default.is c.in_ok-place.ensures.new in
    w.0 ∙ new_index g.K.PartialEq.eq g.met.K.Eq.laws c.args.self.now.entries c.place_or_push.new.self.entries c.args.key c.args.value w.1 w.2

pub returns-in_default-clause-old : goal.returns-in_default-clause-old
returns-in_default-clause-old g c =
    let w = at_none _ _ c.in_default.is c.in_ok-place.ensures.new in
    new_old g.K.PartialEq.eq g.met.K.Eq.laws c.args.self.now.entries c.place_or_push.new.self.entries c.args.key c.args.value w.1 w.2

pub returns-in_default-clause-updates : goal.returns-in_default-clause-updates
returns-in_default-clause-updates g c =
    let w = at_none _ _ c.in_default.is c.in_ok-place.ensures.new in
    new_updated g.K.PartialEq.eq g.met.K.Eq.laws c.args.self.now.entries c.place_or_push.new.self.entries c.args.key c.args.value w.1 w.2

pub returns-in_default-clause-entries : goal.returns-in_default-clause-entries
returns-in_default-clause-entries g c =
    let w = at_none _ _ c.in_default.is c.in_ok-place.ensures.new in
    new_entries g.K.PartialEq.eq g.met.K.Eq.laws c.args.self.now.entries c.place_or_push.new.self.entries c.args.key c.args.value w.1 w.2

pub returns-in_default-clause-unique : goal.returns-in_default-clause-unique
returns-in_default-clause-unique g c =
    let w = at_none _ _ c.in_default.is c.in_ok-place.ensures.new in
    new_unique g.K.PartialEq.eq g.met.K.Eq.laws c.args.self.now.entries c.place_or_push.new.self.entries c.args.key c.args.value w.1 w.2 c.place_or_push.ensures.unique

use Rattle.std.proofs.Common.{◌≡◌, ℕ, ◌++◌, Bool, true, List, [], codes, take, ap, sym, ◌∙◌}
use Rattle.std.specs.Prelude.{flat_map, if◌then◌else◌}
use Rattle.std.proofs.lemmas.Result.{on_ok_weaker}
use Rattle.fault_places.specs.Lines.{shown_byte}
use Rattle.fault_places.specs.HiddenValues.{first_words, second_image, is_update, second_values}
use Rattle.fault_places.proofs.FirstWords.{rest_of, in_parts}
use Rattle.fault_places.proofs.hidden_values.put_second_values.Goals as goal

pub returns : goal.returns
returns c =
    let line = c.args.line.now in
    let values = first_words c.args.count (second_image line) in
    let update : is_update line ≡ true = sym c.is_update.ensures ∙ c.if-not-is_update.false in
    let found = c.words_within-values.ensures ∙ ap (λ (t : List ℕ). take c.saturating_sub.result (first_words c.args.count t)) c.second_image.ensures in
    on_ok_weaker c.put_bytes.result
    (λ end. in_parts shown_byte c.args.most c.saturating_sub.result (codes " | ") values (second_values c.args.count line) _ _ _
    (ap (λ (b : Bool). if b then codes " | " ++ values else []) update)
    (c.saturating_sub.ensures ∙ sym (rest_of c.args.most (codes " | "))) c.in_ok-put_first.ensures
    (end ∙ ap (λ (t : List ℕ). c.put_first.new.out.items ++ flat_map shown_byte t) found))
    c.put_bytes.ensures

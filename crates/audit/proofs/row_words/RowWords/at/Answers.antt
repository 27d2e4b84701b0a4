use Rattle.std.proofs.Common.{ℕ, List, Bor, map, get_or, sym, ap, ◌∙◌}
use Rattle.std.specs.Prelude.{option_map, slice_get}
use Rattle.row_images.specs.declared.value.Value.{Value}
use Rattle.row_images.specs.declared.value.Value.TheVariants.{Null}
use Rattle.row_images.specs.Values.{value_text}
use Rattle.audit.specs.RowTexts.{words_held}
use Rattle.audit.proofs.Worded.{word_past}
use Rattle.audit.proofs.row_words.RowWords.at.Goals as goal

pub returns-in-None : goal.returns-in-None
returns-in-None c =
    let words = words_held (map (λ w. w.now) c.self.inside.list.items) c.self.inside.text.now in
    let same = ap (λ (ws : List (Bor (List ℕ))). slice_get (words_held (map (λ w. w.now) ws) c.self.inside.text.now) c.args.column) c.as_slice.ensures.value in
    c.as_slice-in-None.ensures
    ∙ word_past words c.self.inside.row.now c.args.column c.self.invariant (sym (ap (option_map (λ w. w.now)) c.in-None.is) ∙ c.word_of.ensures ∙ same)
    ∙ ap (λ (row : List Value). value_text (get_or row c.args.column Null)) c.self.view_is

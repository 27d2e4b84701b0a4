use Rattle.std.proofs.Common.{◌≡◌, ℕ, Some, None, List, option_map, sym, ap, ◌∙◌}
use Rattle.row_images.specs.Words.{others}
use Rattle.journal_words.specs.Gtids.{source_of_word}
use Rattle.row_images.proofs.Cuts.{others-shorter}
use Rattle.row_images.specs.Images.{words_of}
use Rattle.replica_script.specs.Declarations.{sources_of}
use Rattle.replica_script.proofs.SourceWords.{behind, no_source, last_source, next_source}
use Rattle.replica_script.proofs.declaration.source_words.Goals as goal

pub words-smaller : goal.words-smaller
words-smaller c =
    let e : others c.words.left.now ≡ Some c.in-Some-more.after.now = sym c.cut.ensures.rest ∙ ap (option_map (λ r. r.now)) c.in-Some-more.is in
    others-shorter _ _ e

pub words-preserved : goal.words-preserved
words-preserved c =
    let found : source_of_word c.cut.result.0.now ≡ Some c.in-Some.own = sym c.in_ok-own.ensures ∙ c.in-Some.is in
    c.words.invariant
    ∙ next_source c.words.ids.items c.words.left.now c.cut.result.0.now c.in-Some-more.after.now _ c.in-Some.own c.cut.ensures.word c.cut.ensures.rest found (ap (option_map (λ r. r.now)) c.in-Some-more.is)
    ∙ ap (λ (us : List ℕ). behind us (sources_of (words_of c.in-Some-more.after.now))) (sym c.in_ok-push-in-Some.ensures.items)

pub returns-in-None : goal.returns-in-None
returns-in-None c =
    let none : source_of_word c.cut.result.0.now ≡ None = sym c.in_ok-own.ensures ∙ c.in-None.is in
    sym (c.words.invariant ∙ no_source c.words.ids.items c.words.left.now c.cut.result.0.now _ c.cut.ensures.word c.cut.ensures.rest none)

pub returns-in-None-more : goal.returns-in-None-more
returns-in-None-more c =
    let found : source_of_word c.cut.result.0.now ≡ Some c.in-Some.own = sym c.in_ok-own.ensures ∙ c.in-Some.is in
    sym (c.words.invariant
    ∙ last_source c.words.ids.items c.words.left.now c.cut.result.0.now _ c.in-Some.own c.cut.ensures.word c.cut.ensures.rest found (ap (option_map (λ r. r.now)) c.in-None-more.is)
    ∙ ap (λ (us : List ℕ). Some us) (sym c.in_ok-push-in-Some.ensures.items))

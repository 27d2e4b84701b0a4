use Rattle.std.proofs.Common.{rules, arith, ap, sym, ◌∙◌, List, ℕ, ◌≡◌, ◌++◌, ◌∷◌, ◌-◌, length, take, drop, Some}
use Rattle.std.proofs.lemmas.List.{take-append-drop, take_all}
use Rattle.journal_words.specs.Gtids.{source_of_word}
use Rattle.journal_words.proofs.OnePassLemmas.{source_found, first_span}
use Rattle.journal_words.proofs.one_pass.read_first.Goals as goal

pub returns : goal.returns
returns c =
    let front = c.split_at.result.0.now in
    let behind = c.split_at.result.1.now in
    let whole : front ++ behind ≡ c.args.text.now = search (rules, take-append-drop 36 c.args.text.now) in
    let word : Some c.in-Ok-Some.source ≡ source_of_word front = search rules in
    let numbers = take (length behind - 1) (drop 1 behind) in
    let colon : behind ≡ 58 ∷ drop 1 behind = search rules in
    let count = ap length colon in
    let all : numbers ≡ drop 1 behind = take_all (length behind - 1) (drop 1 behind) (omega (arith, count)) in
    first_span c.args.text.now front behind numbers c.in-Some.rest.now (record { source = c.in-Ok-Some.source; lo = c.in-Some.lo; hi = c.in-Some.hi }) whole (source_found front c.in-Ok-Some.source word) (colon ∙ ap (λ (l : List ℕ). 58 ∷ l) (sym all)) c.in-Some.ensures c.source_fits.ensures

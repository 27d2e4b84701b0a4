use Rattle.std.proofs.Common.{◌≡◌, ◌⊎◌, sym, subst}
use Rattle.std.specs.Prelude.{Err}
use Rattle.gtid_set.specs.declared.fault.SetTextFault.{SetTextFault}
use Rattle.gtid_set.specs.Texts.{IsOutOfMemory, set_in}
use Rattle.gtid_report.specs.SetAnswers.{set_word}
use Rattle.gtid_report.specs.declared.fault.Fault.{Fault}
use Rattle.gtid_report.specs.declared.fault.Fault.TheVariants.{Memory}
use Rattle.gtid_report.proofs.AnswerLemmas.{word_set, word_text, word_full}
use Rattle.gtid_report.proofs.functions.read_set.Goals as goal

pub returns-in-Ok : goal.returns-in-Ok
returns-in-Ok c = word_set c.args.word.now c.in-Ok.set c.in-Ok.ensures.exact

pub returns-in-Err-Text : goal.returns-in-Err-Text
returns-in-Err-Text c =
    let P : Fault → Type 0 = λ e. (e ≡ Memory) ⊎ (set_word c.args.word.now ≡ Err e) in
    let Q : SetTextFault → Type 0 = λ f. IsOutOfMemory f ⊎ (set_in c.args.word.now ≡ Err f) in
    subst P (sym c.from.ensures) (word_text c.args.word.now c.in-Err-Text.fault (subst Q c.in-Err-Text.field-0-is c.in-Err-Text.ensures.exact))

pub returns-in-Err-Set : goal.returns-in-Err-Set
returns-in-Err-Set c =
    let P : Fault → Type 0 = λ e. (e ≡ Memory) ⊎ (set_word c.args.word.now ≡ Err e) in
    let Q : SetTextFault → Type 0 = λ f. IsOutOfMemory f ⊎ (set_in c.args.word.now ≡ Err f) in
    subst P (sym c.from-in-Err-Set.ensures) (word_full c.args.word.now c.in-Err-Set.fault (subst Q c.in-Err-Set.field-0-is c.in-Err-Set.ensures.exact))

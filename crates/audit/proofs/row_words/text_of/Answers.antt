use Rattle.std.proofs.Common.{sym, ◌∙◌}
use Rattle.audit.proofs.Worded.{no_word, some_words}
use Rattle.audit.proofs.row_words.text_of.Goals as goal

pub returns-then-is_empty : goal.returns-then-is_empty
returns-then-is_empty c = no_word c.args.row.now c.as_slice.result.now (sym c.is_empty.ensures ∙ c.if-is_empty.true) c.as_slice.ensures

pub returns : goal.returns
returns c = some_words c.args.row.now c.as_bytes.result.now c.keeps_rules.ensures (sym c.is_empty.ensures ∙ c.if-is_empty.false) (c.as_bytes.ensures.value ∙ c.as_str.ensures)

use Rattle.std.proofs.Common.{ap, sym, ◌∙◌, option_map}
use Rattle.gtid_set.specs.Spans.{is_merged}
use Rattle.journal_words.proofs.SpanLaws.{word_merged}
use Rattle.journal_words.proofs.gtids.parse_in_passes.Goals as goal

pub set_of-requires : goal.set_of-requires
set_of-requires c =
    ap is_merged c.deref.ensures.value ∙ word_merged c.args.word.now c.in-Some.spans.items (sym c.in_ok-spans.ensures ∙ ap (λ o. option_map (λ v. v.items) o) c.in-Some.is)

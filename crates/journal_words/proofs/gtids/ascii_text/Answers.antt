use Rattle.std.proofs.Common.{◌≡◌, true}
use Rattle.std.specs.List.{list_all}
use Rattle.journal_words.specs.Gtids.{is_ascii_byte}
use Rattle.journal_words.proofs.AsciiLemmas.{ascii_utf8}
use Rattle.journal_words.proofs.gtids.ascii_text.Goals as goal

pub unreachable-requires : goal.unreachable-requires
unreachable-requires c =
    let e : list_all is_ascii_byte c.args.word.now ≡ true = cc in
    c.in-Err.ensures.cases.0 (ascii_utf8 c.args.word.now e)

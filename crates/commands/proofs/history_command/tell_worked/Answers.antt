use Rattle.std.proofs.Common.{rules, ◌≡◌, inl}
use Rattle.commands.specs.Applying.{lines_from}
use Rattle.commands.proofs.history_command.tell_worked.Goals as goal

pub returns-clause-notes : goal.returns-clause-notes
returns-clause-notes c =
    let lines : c.into_bytes.result.items ≡ lines_from 0 c.args.worked.now.book.steps = search rules in
    inl (c.args.worked.now.book, c.requires.history, lines)

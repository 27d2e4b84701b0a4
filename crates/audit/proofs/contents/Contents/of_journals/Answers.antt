use Rattle.std.proofs.Common.{ap, sym, ◌∙◌}
use Rattle.world.specs.Audit.{all_entries}
use Rattle.audit.specs.Contents.{contents_of}
use Rattle.audit.proofs.Made.{firsts_beyond}
use Rattle.audit.proofs.contents.Contents.of_journals.Goals as goal

pub returns : goal.returns
returns c = c.in_ok-keep_firsts.ensures.firsts ∙ ap contents_of c.in_ok-entries.ensures ∙ sym (firsts_beyond c.args.opened.now (all_entries c.args.journals.now))

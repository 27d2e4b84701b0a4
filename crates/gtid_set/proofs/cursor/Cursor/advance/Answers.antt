use Rattle.std.proofs.Common.{ap, ◌∙◌}
use Rattle.gtid_set.specs.Kept.{sources_at, spans_of}
use Rattle.gtid_set.proofs.CursorLemmas.{source_seen}
use Rattle.gtid_set.proofs.cursor.Cursor.advance.Goals as goal

pub returns-in-None : goal.returns-in-None
returns-in-None c =
    c.self-in-None.view_is ∙ c.over.ensures ∙ ap (λ is. spans_of c.self.inside.pool.now (sources_at c.self.inside.sources.now is)) c.again.ensures
    ∙ source_seen c.self.inside.pool.now c.self.inside.sources.now c.self.inside.behind c.self.inside.at c.in-Some.at c.args.self.now c.in-Some.is c.self.invariant c.self.view_is c.in-None.is

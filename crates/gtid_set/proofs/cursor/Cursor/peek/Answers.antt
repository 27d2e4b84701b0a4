use Rattle.std.proofs.Common.{ap, ◌∷◌, ◌∙◌}
use Rattle.gtid_set.specs.Kept.{span_of}
use Rattle.gtid_set.proofs.CursorLemmas.{first_seen, behind_seen}
use Rattle.gtid_set.proofs.cursor.Cursor.peek.Goals as goal

pub returns-in-Some : goal.returns-in-Some
returns-in-Some c = record {
  cases =
      first_seen c.self.inside.pool.now c.self.inside.sources.now c.self.inside.behind c.self.inside.at c.in-Some.at c.args.self.now c.in-Some.is c.self.invariant c.self.view_is
      ∙ ap (λ ss. span_of c.in-Some.at.source.id c.in-Some.at.numbers ∷ ss) (behind_seen c.self.inside.pool.now c.self.inside.sources.now c.self.inside.behind c.self.inside.at c.in-Some.at c.args.self.now c.in-Some.is c.self.invariant c.self.view_is);
}

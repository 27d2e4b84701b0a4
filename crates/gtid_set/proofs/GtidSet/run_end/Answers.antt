use Rattle.std.proofs.Common.{sym, refl, ◌+◌}
use Rattle.gtid_set.specs.Sets.{gtid}
use Rattle.gtid_set.proofs.SetSources.{contains_held}
use Rattle.gtid_set.proofs.GtidSet.run_end.Goals as goal

pub returns-in-Some-clause-some : goal.returns-in-Some-clause-some
returns-in-Some-clause-some c =
    let items = c.self.inside.spans in
    let held = c.in-Some.ensures.some in
    record {
      reaches = held.reaches;
      all = λ n lo hi. sym (contains_held items items c.args.self.now (gtid c.args.source n) _ refl c.self.view_is (sym (held.all n lo hi)));
      ended = sym (contains_held items items c.args.self.now (gtid c.args.source (c.in-Some.span.hi + 1)) _ refl c.self.view_is (sym held.ended));
    }

pub returns-in-None-clause-none : goal.returns-in-None-clause-none
returns-in-None-clause-none c =
    sym (contains_held c.self.inside.spans c.self.inside.spans c.args.self.now (gtid c.args.source c.args.number) _ refl c.self.view_is (sym c.in-None.ensures.none))

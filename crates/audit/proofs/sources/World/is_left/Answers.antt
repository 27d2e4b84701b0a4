use Rattle.std.proofs.Common.{◌≡◌, Bool, ◌&&◌, not, ap, sym, ◌∙◌}
use Rattle.std.specs.Prelude.{◌==◌, nat_lt, is_some}
use Rattle.std.specs.List.{list_any}
use Rattle.std.specs.FinMap as finmap
use Rattle.std.specs.FinSet as set
use Rattle.rows.specs.WriteSet.{write_set}
use Rattle.rows.specs.Conflicts.{conflicts}
use Rattle.audit.specs.Gaps.{is_recorded}
use Rattle.audit.proofs.Closings.{shares_here, not_earlier, when_earlier}
use Rattle.audit.proofs.sources.World.is_left.Goals as goal

pub returns-then-not-comes_before : goal.returns-then-not-comes_before
returns-then-not-comes_before c =
    not_earlier (set.contains c.args.self.now.opening_set c.args.entry.now.gtid) (c.args.earlier.now.gtid.source == c.args.entry.now.gtid.source)
    (nat_lt c.args.earlier.now.gtid.number c.args.entry.now.gtid.number)
    (conflicts c.args.self.now.schema c.args.earlier.now.txn c.args.entry.now.txn && not (is_recorded c.args.previous.now c.args.standing.now c.args.earlier.now.gtid))
    (sym c.comes_before.ensures ∙ c.if-not-comes_before.true)

pub returns-then-shares : goal.returns-then-shares
returns-then-shares c =
    let schema = c.args.self.now.schema in
    let t = c.args.earlier.now.txn in
    let u = c.args.entry.now.txn in
    let stays : Bool = not (is_recorded c.args.previous.now c.args.standing.now c.args.earlier.now.gtid) in
    let shared : c.in_ok-shares.shares ≡ conflicts schema t u =
    c.in_ok-shares.ensures
    ∙ ap (λ s. list_any (λ key. is_some (finmap.get c.args.keys.now key)) (write_set s t)) (c.schema.ensures.value ∙ c.rows.ensures.schema)
    ∙ ap (λ m. list_any (λ key. is_some (finmap.get m key)) (write_set schema t)) c.requires.keys
    ∙ shares_here schema t u c.args.entry.now.gtid in
    let before = sym c.comes_before.ensures ∙ c.if-not-comes_before.false in
    ap not c.is_recorded.ensures ∙ ap (λ b. b && stays) (sym c.if-shares.true ∙ shared)
    ∙ when_earlier (set.contains c.args.self.now.opening_set c.args.entry.now.gtid) (c.args.earlier.now.gtid.source == c.args.entry.now.gtid.source)
    (nat_lt c.args.earlier.now.gtid.number c.args.entry.now.gtid.number) (conflicts schema t u && stays) c.requires.new before

pub returns-else-shares : goal.returns-else-shares
returns-else-shares c =
    let schema = c.args.self.now.schema in
    let t = c.args.earlier.now.txn in
    let u = c.args.entry.now.txn in
    let stays : Bool = not (is_recorded c.args.previous.now c.args.standing.now c.args.earlier.now.gtid) in
    let shared : c.in_ok-shares.shares ≡ conflicts schema t u =
    c.in_ok-shares.ensures
    ∙ ap (λ s. list_any (λ key. is_some (finmap.get c.args.keys.now key)) (write_set s t)) (c.schema.ensures.value ∙ c.rows.ensures.schema)
    ∙ ap (λ m. list_any (λ key. is_some (finmap.get m key)) (write_set schema t)) c.requires.keys
    ∙ shares_here schema t u c.args.entry.now.gtid in
    let before = sym c.comes_before.ensures ∙ c.if-not-comes_before.false in
    c.if-shares.false ∙ ap (λ b. b && stays) (sym c.if-shares.false ∙ shared)
    ∙ when_earlier (set.contains c.args.self.now.opening_set c.args.entry.now.gtid) (c.args.earlier.now.gtid.source == c.args.entry.now.gtid.source)
    (nat_lt c.args.earlier.now.gtid.number c.args.entry.now.gtid.number) (conflicts schema t u && stays) c.requires.new before

use Rattle.std.proofs.Common.{◌∙◌, ap, sym, map, List, Option}
use Rattle.std.specs.Option.{option_map}
use Rattle.std.proofs.lemmas.Result.{IfOk-weaker}
use Rattle.rows.specs.declared.schema.Table.{Table}
use Rattle.rows.specs.Apply.{Rows}
use Rattle.rows.specs.Database.{Database}
use Rattle.history.specs.Sources as history
use Rattle.world.specs.declared.verdict.Verdict.{Verdict}
use Rattle.world.specs.declared.verdict.Verdict.TheVariants.{DoesNotApply}
use Rattle.world.specs.Audit.{first_fault}
use Rattle.world.proofs.OnePass.{one_pass_applies}
use Rattle.audit.specs.Contents.{as_pair}
use Rattle.audit.proofs.Made.{pairs_of}
use Rattle.audit.proofs.Sounding.{filled, filled_sound}
use Rattle.audit.proofs.sources.World.does_not_apply.Goals as goal

abbrev fault_of : List Table → List history.Entry → Rows → Option Verdict
fault_of schema es rows = option_map (λ fault. DoesNotApply fault.0 fault.1) (first_fault schema es rows)

pub returns : goal.returns
returns c =
    IfOk-weaker c.first_fault.result _ _
    (λ found e.
    e ∙ ap (λ (d : Database). fault_of d.schema (map as_pair c.in_order.result.now) d.rows) c.in_ok-rows.ensures
    ∙ ap (λ s. fault_of s (map as_pair c.in_order.result.now) c.rows.result.now.rows) c.rows.ensures.schema
    ∙ ap (λ r. fault_of c.args.self.now.schema (map as_pair c.in_order.result.now) r) c.rows.ensures.rows
    ∙ ap (λ es. fault_of c.args.self.now.schema es c.args.self.now.opening_rows) (pairs_of c.in_order.result.now c.args.self.now.contents c.in_order.ensures.listed)
    ∙ sym (one_pass_applies (filled c.args.self.now) (filled_sound c.args.self.now c.lie_beyond.ensures c.requires)))
    c.first_fault.ensures

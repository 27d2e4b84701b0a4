use Rattle.std.proofs.Common.{◌≡◌, true, refl, inl, inr, ◌⊎◌}
use Rattle.binlog_entries.specs.Bodies.{takes}
use Rattle.binlog_entries.specs.declared.bodies.Body.{Body}
use Rattle.binlog_entries.specs.declared.bodies.Body.TheVariants as bodies
use Rattle.binlog_entries.specs.declared.bodies.BodyKind.{BodyKind}
use Rattle.binlog_entries.specs.declared.bodies.BodyKind.TheVariants as kinds
use Rattle.binlog_entries.proofs.laws.statements_hold_no_rows.Goals as goal

rows : (body : Body) → takes body kinds.Row ≡ true → (body ≡ bodies.Rows) ⊎ (body ≡ bodies.RowsDue)
rows bodies.Rows e = inl refl
rows bodies.RowsDue e = inr refl
rows _ e = absurd cc

statements : (kind : BodyKind) → takes bodies.Query kind ≡ true → (kind ≡ kinds.Setting) ⊎ (kind ≡ kinds.Statement)
statements kinds.Setting e = inl refl
statements kinds.Statement e = inr refl
statements _ e = absurd cc

pub returns-clause-rows : goal.returns-clause-rows
returns-clause-rows c = rows

pub returns-clause-statements : goal.returns-clause-statements
returns-clause-statements c = statements

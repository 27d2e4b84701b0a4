use Rattle.std.proofs.Common.{refl, sym, ap, ◌∙◌, take}
use Rattle.rows.specs.Patch.{is_as_seen, grow_all, settle_all, undo_all}
use Rattle.rows.proofs.Patching.{steps_install, undo_restores, test_tells, test_fails}
use Rattle.rows.proofs.key_map.KeyMap.install.Goals as goal

pub returns-then-not-is_as_seen-clause-stale : goal.returns-then-not-is_as_seen-clause-stale
returns-then-not-is_as_seen-clause-stale c =
    λ _. (test_fails c.args.patch.items c.args.self.now (ap (λ xs. is_as_seen xs c.args.self.now) (sym c.deref.ensures.value) ∙ sym c.is_as_seen.ensures ∙ c.if-not-is_as_seen.true), refl)

pub returns-in-Ok-clause-installed : goal.returns-in-Ok-clause-installed
returns-in-Ok-clause-installed c =
    let seen = test_tells c.args.patch.items c.args.self.now (ap (λ xs. is_as_seen xs c.args.self.now) (sym c.deref.ensures.value) ∙ sym c.is_as_seen.ensures ∙ c.if-not-is_as_seen.false) in
    λ _. (seen, c.settle.ensures ∙ ap (settle_all c.args.patch.items) (c.in-Ok.ensures.ok ∙ ap (λ xs. grow_all xs c.args.self.now) c.deref-2.ensures.value) ∙ steps_install c.args.patch.items c.args.self.now c.requires seen)

pub returns-in-Err-clause-err : goal.returns-in-Err-clause-err
returns-in-Err-clause-err c =
    let seen = test_tells c.args.patch.items c.args.self.now (ap (λ xs. is_as_seen xs c.args.self.now) (sym c.deref.ensures.value) ∙ sym c.is_as_seen.ensures ∙ c.if-not-is_as_seen.false) in
    let part = c.in-Err.ensures.err in
    c.undo.ensures
    ∙ ap (undo_all c.deref-in-Err.result.now) (part.1 ∙ ap (λ xs. grow_all (take part.0 xs) c.args.self.now) c.deref-2.ensures.value)
    ∙ ap (λ xs. undo_all xs (grow_all (take part.0 c.args.patch.items) c.args.self.now)) c.deref-in-Err.ensures.value
    ∙ undo_restores part.0 c.args.patch.items c.args.self.now seen

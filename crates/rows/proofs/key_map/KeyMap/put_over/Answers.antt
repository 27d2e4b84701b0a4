use Rattle.std.proofs.Common.{◌≡◌, true, false, is_some, sym, ap, ◌∙◌}
use Rattle.std.specs.Map.{lookup}
use Rattle.std.specs.FinMap.{from_entries}
use Rattle.rows.specs.Order.{key_cmp}
use Rattle.rows.specs.Patch.{put_over}
use Rattle.rows.proofs.Equal.{key_test}
use Rattle.rows.proofs.Hashed.{hashed_over, hashed_not_over}
use Rattle.rows.proofs.key_map.KeyMap.put_over.Goals as goal

pub returns-in_default : goal.returns-in_default
returns-in_default c =
    let key = c.args.key.now in
    let old = c.self.inside.carriers.entries in
    let free : is_some (lookup (key_test key) old) ≡ false = sym (ap is_some c.in_default.ensures.old) in
    ap (λ m. from_entries {R = key_cmp} m.entries) c.in_default.ensures.unchanged ∙ hashed_not_over old key c.args.row free ∙ ap (put_over key c.args.row) c.self.view_is

pub returns : goal.returns
returns c =
    let key = c.args.key.now in
    let old = c.self.inside.carriers.entries in
    let stands : is_some (lookup (key_test key) old) ≡ true = sym (ap is_some c.in-Some.ensures.old) in
    hashed_over old c.replace.new.self.entries key c.args.row stands c.in-Some.ensures.updates.0 ∙ ap (put_over key c.args.row) c.self.view_is

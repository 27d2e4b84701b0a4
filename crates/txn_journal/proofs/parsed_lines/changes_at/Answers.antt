use Rattle.std.proofs.Common.{rules, ◌≡◌, ◌<◌, ◌++◌, ◌∷◌, ◌∙◌, [], true, List, length, ap, sym, subst}
use Rattle.rows.specs.declared.change.Change.{Change}
use Rattle.rows.specs.declared.limits.Limits.TheVariants.{Narrow}
use Rattle.txn_journal.specs.EntryLines.{AreChangeLines}
use Rattle.txn_journal.proofs.EntryTexts.{ended_more, one_change_more, writable_more}
use Rattle.journal.specs.Writing.{is_change_writable}
use Rattle.std.specs.List.{list_all}
use Rattle.std.specs.Prelude.{◌&&◌, nat_le}
use Rattle.txn_journal.proofs.parsed_lines.changes_at.Goals as goal

pub lines-preserved : goal.lines-preserved
lines-preserved c =
    let h = c.lines.invariant in
    let line = c.in_ok-line.line.now in
    let cut = c.in_ok-line.ensures.found in
    let pushed : c.push.new.self.items ≡ c.lines.changes.items ++ c.in-Ok.change ∷ [] = c.in-Ok-push.ensures.items in
    let few : length c.lines.changes.items < 65536 = search rules in
    let writes : is_change_writable Narrow c.in-Ok.change ≡ true = search rules in
    record {
      within = h.within ++ line ∷ [];
      so_far = ended_more h.within line c.args.text.now c.lines.left.now c.in_ok-line.after.now h.so_far cut.parts;
      lines = subst (λ (cs : List Change). AreChangeLines Narrow (h.within ++ line ∷ []) cs) (sym pushed) (one_change_more h.within c.lines.changes.items line c.in-Ok.change h.lines cut.whole c.in-Ok.ensures);
      writable = ap (λ (cs : List Change). nat_le (length cs) 65536 && list_all (is_change_writable Narrow) cs) pushed ∙ writable_more Narrow c.lines.changes.items c.in-Ok.change h.writable few writes;
    }

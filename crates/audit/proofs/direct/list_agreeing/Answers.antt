use Rattle.std.proofs.Common.{Bor}
use Rattle.journal.specs.declared.Entry.{Entry}
use Rattle.world.specs.Audit.{all_entries, first_contents}
use Rattle.audit.proofs.Gatherings.{keys_sound}
use Rattle.audit.proofs.Listings.{list_in_order}
use Rattle.audit.proofs.direct.list_agreeing.Goals as goal

pub returns : goal.returns
returns c = λ yes. record {
  firsts = λ begun. record {
    listed = list_in_order (λ (x : Bor Entry). x.now) (first_contents c.args.opened.now (all_entries c.args.journals.now)) c.list_equal.new.list.items c.deref.result.now c.deref.ensures.value (c.in_ok-list_equal.ensures.listed c.if-not-branch.false) (c.are_ascending-ascending.ensures yes);
    sound = λ schema rows apart.
        keys_sound schema c.args.opened.now rows c.args.journals.now c.keep_rules.ensures begun.within begun.ordered
        (record { equal = (c.in_ok-list_equal.ensures.agree c.if-not-branch.false).equal; apart = λ _. apart });
  };
}

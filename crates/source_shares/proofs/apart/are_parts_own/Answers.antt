use Rattle.std.proofs.Common.{◌≡◌, ◌<◌, Bool, true, IfOk, Result, Ok, length, refl, sym, subst, ◌∙◌}
use Rattle.std.specs.declared.alloc.AllocError.{AllocError}
use Rattle.audit.specs.Owned.{AreOwn, touches_in_lists}
use Rattle.source_shares.specs.Apart.{AreAllFound}
use Rattle.source_shares.proofs.Touching.{found_at}
use Rattle.source_shares.proofs.apart.are_parts_own.Goals as goal

pub returns : goal.returns
returns g c = λ yes part below.
    let found = c.in_ok-found.found.items in
    let touches = touches_in_lists c.args.lists.now in
    let count : length found ≡ 4 = sym c.in_ok-found.found.ok.0 ∙ c.in_ok-found.ensures.len in
    let all : AreAllFound found = subst AreAllFound c.deref.ensures.value (c.are_all_found-yes.ensures yes) in
    subst (λ (r : Result Bool AllocError). IfOk r (λ own. own ≡ true → AreOwn part touches)) (found_at found part (Ok true) all (subst (λ n. part < n) (sym count) below))
    (c.in_ok-found.ensures.each part (Ok true) below).1.met refl

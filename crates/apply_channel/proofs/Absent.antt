-- A GTID that was not received is at no place.
use Rattle.std.proofs.Common.{◌≡◌, ℕ, zero, suc, Bool, true, false, ◌&&◌, List, [], ◌∷◌, map, Option, Some, None, refl, sym, ◌∙◌}
use Rattle.std.specs.Prelude.{is_some, is_none}
use Rattle.std.specs.List.{list_any}
use Rattle.std.specs.Ordering.{eq_by_cmp}
use Rattle.std.specs.FinSet as set
use Rattle.gtid_text.specs.declared.Gtid.{Gtid}
use Rattle.gtid_text.specs.Gtids.{gtid_cmp, same_gtid}
use Rattle.gtid_set.proofs.SetLemmas.{gtid_tied}
use Rattle.rows.specs.declared.change.Transaction.{Transaction}
use Rattle.apply_channel.specs.Channels.{Received, are_settled, received_gtids}
use Rattle.apply_channel.specs.Kept.{is_open_at}
use Rattle.std.proofs.lemmas.Bool.{and_parts, or_parts, and_right}
use Rattle.lemmas.proofs.SameGtid.{same_flip, gtid_total}

abbrev among : Gtid → List Received → Bool
among g es = list_any (λ h. eq_by_cmp gtid_cmp g h) (map (λ (e : Received). e.gtid) es)

closed : (g : Gtid) (es : List Received) → among g es ≡ false → (i : ℕ) → is_open_at g es i ≡ false
closed g [] h zero = refl
closed g [] h (suc i) = refl
closed g (e ∷ es) h zero = and_right (is_some e.txn) (same_gtid e.gtid g) (same_flip e.gtid g ∙ sym (gtid_tied g e.gtid) ∙ (or_parts (eq_by_cmp gtid_cmp g e.gtid) (among g es) h).0)
closed g (e ∷ es) h (suc i) = closed g es (or_parts (eq_by_cmp gtid_cmp g e.gtid) (among g es) h).1 i

pub not_received : (g : Gtid) (es : List Received) → set.contains (received_gtids es) g ≡ false → (i : ℕ) → is_open_at g es i ≡ false
not_received g es h = closed g es (sym (set.contains-from_list gtid_total (map (λ (e : Received). e.gtid) es) g) ∙ h)

-- where all is executed, nothing is open
pub settled_open : (g : Gtid) (es : List Received) → are_settled es ≡ true → (i : ℕ) → is_open_at g es i ≡ false
settled_open g [] done zero = refl
settled_open g [] done (suc i) = refl
settled_open g (e ∷ es) done zero = executed e.txn (and_parts (is_none e.txn) (are_settled es) done).0
  where
    executed : (o : Option Transaction) → is_none o ≡ true → (is_some o && same_gtid e.gtid g) ≡ false
    executed None is = refl
    executed (Some t) is = absurd cc
settled_open g (e ∷ es) done (suc i) = settled_open g es (and_parts (is_none e.txn) (are_settled es) done).1 i

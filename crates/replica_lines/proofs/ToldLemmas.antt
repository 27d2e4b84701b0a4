-- Each seat that owns a GTID is listed.
use Rattle.std.proofs.Common.{◌≡◌, ℕ, ◌≤◌, Bool, true, false, cond, map, List, [], ◌∷◌, refl, sym, ap, ◌∙◌, arith, true≢false}
use Rattle.std.specs.Prelude.{Option, Some, None, option_map, option_and_then, ◌==◌, ◌||◌}
use Rattle.std.specs.List.{AllByRecursion, filter_map, cons_option, list_any}
use Rattle.std.specs.FinMap as finmap
use Rattle.std.specs.FinMap.{find, get-from_entries}
use Rattle.std.specs.Ordering.{eq_by_cmp}
use Rattle.std.proofs.lemmas.Bool.Decides.{nat_tests}
use Rattle.lemmas.proofs.SameGtid.{gtid_total, same_is_equal, same_itself}
use Rattle.lemmas.proofs.Numbers.{equal_numbers}
use Rattle.gtid_text.specs.declared.Gtid.{Gtid}
use Rattle.gtid_text.specs.Gtids.{gtid_cmp, same_gtid}
use Rattle.gtid_set.proofs.SetLemmas.{gtid_tied}
use Rattle.apply_channel.specs.Channels.{Received}
use Rattle.replica_core.specs.declared.event.Spot.{Spot}
use Rattle.replica_core.specs.State.{State, entry_at, owned, owned_by, with_gtid, seat_numbers}
use Rattle.replica_core.specs.Machine.{is_seat}
use Rattle.replica_core.specs.Seated.{AreSeated, HasEntry}
use Rattle.replica_core.proofs.FreeLemmas.{not_listed}
use Rattle.replica_lines.specs.Status.{EachOwnerIsListed}

one_gtid : (g h : Gtid) → ◌≡◌ {A = Option Gtid} (Some g) (Some h) → g ≡ h
one_gtid g h e = cc

-- ---- what a seat owns

held_at : (s : State) (seat : ℕ) (g : Gtid) (spot : Spot) → finmap.get s.seats seat ≡ Some spot → (o : Option Received) → entry_at s spot ≡ o → option_map (λ (e : Received). e.gtid) o ≡ Some g
    → (e : Received) × HasEntry s.channels s.seats seat e × (e.gtid ≡ g)
held_at s seat g spot at None is h = absurd (cc h)
held_at s seat g spot at (Some e) is h = (e, (spot, at, is), one_gtid e.gtid g h)

held_by : (s : State) (seat : ℕ) (g : Gtid) (o : Option Spot) → finmap.get s.seats seat ≡ o → option_map (λ (e : Received). e.gtid) (option_and_then (entry_at s) o) ≡ Some g
    → (e : Received) × HasEntry s.channels s.seats seat e × (e.gtid ≡ g)
held_by s seat g None at h = absurd (cc h)
held_by s seat g (Some spot) at h = held_at s seat g spot at (entry_at s spot) refl h

-- the entry of a GTID that a seat owns
held_entry : (s : State) (seat : ℕ) (g : Gtid) → owned_by s seat ≡ Some g → (e : Received) × HasEntry s.channels s.seats seat e × (e.gtid ≡ g)
held_entry s seat g at = held_by s seat g (finmap.get s.seats seat) refl at

-- no other seat owns it
one_seat : (s : State) → AreSeated s.channels s.seats → (a b : ℕ) (g : Gtid) → owned_by s a ≡ Some g → owned_by s b ≡ Some g → a ≡ b
one_seat s seated a b g at bt =
    let v = held_entry s a g at in
    let w = held_entry s b g bt in
    seated.once a b v.0 w.0 v.1 w.1 (v.2 ∙ sym w.2)

-- ---- the list of what is owned

-- in a pair the GTID is this one where the seat is this one, and no elsewhere
abbrev Matches : Gtid → ℕ → ℕ × Gtid → Type 0
Matches g seat p = (p.1 ≡ g → p.0 ≡ seat) × (p.0 ≡ seat → p.1 ≡ g)

all_match : (s : State) (seat : ℕ) (g : Gtid) → AreSeated s.channels s.seats → owned_by s seat ≡ Some g → (xs : List ℕ) → AllByRecursion (Matches g seat) (filter_map (with_gtid s) xs)
all_match s seat g seated at [] = tt
all_match s seat g seated at (x ∷ xs) = match_by x (owned_by s x) refl (all_match s seat g seated at xs)
  where
    match_by : (x : ℕ) (o : Option Gtid) → owned_by s x ≡ o → AllByRecursion (Matches g seat) (filter_map (with_gtid s) xs)
        → AllByRecursion (Matches g seat) (cons_option (option_map (λ (h : Gtid). let p : ℕ × Gtid = (x, h) in p) o) (filter_map (with_gtid s) xs))
    match_by x None is rest = rest
    match_by x (Some h) is rest =
        ((λ same. one_seat s seated x seat g (is ∙ ap (λ (k : Gtid). Some k) same) at, λ same. one_gtid h g (sym is ∙ ap (owned_by s) same ∙ at)), rest)

-- where one of the pairs has this seat, the first with its GTID has it
found : (g : Gtid) (seat : ℕ) (ps : List (ℕ × Gtid)) → AllByRecursion (Matches g seat) ps → list_any (λ p. p.0 == seat) ps ≡ true → find gtid_cmp g (map (λ p. (p.1, p.0)) ps) ≡ Some seat
found g seat [] all any = absurd (cc any)
found g seat (p ∷ ps) all any = found_by (found g seat ps all.1) (eq_by_cmp gtid_cmp g p.1) refl (p.0 == seat) refl any
  where
    tied : eq_by_cmp gtid_cmp g p.1 ≡ true → p.1 ≡ g
    tied is = sym (same_is_equal g p.1 (sym (gtid_tied g p.1) ∙ is))

    itself : p.1 ≡ g → eq_by_cmp gtid_cmp g p.1 ≡ true
    itself same = gtid_tied g p.1 ∙ ap (same_gtid g) same ∙ same_itself g

    found_by : (list_any (λ (q : ℕ × Gtid). q.0 == seat) ps ≡ true → find gtid_cmp g (map (λ (q : ℕ × Gtid). let r : Gtid × ℕ = (q.1, q.0) in r) ps) ≡ Some seat)
        → (t : Bool) → eq_by_cmp gtid_cmp g p.1 ≡ t → (b : Bool) → (p.0 == seat) ≡ b → (b || list_any (λ (q : ℕ × Gtid). q.0 == seat) ps) ≡ true
        → cond t (Some p.0) (find gtid_cmp g (map (λ (q : ℕ × Gtid). let r : Gtid × ℕ = (q.1, q.0) in r) ps)) ≡ Some seat
    found_by rest true is b at any = ap (λ (n : ℕ). Some n) (all.0.0 (tied is))
    found_by rest false is true at any = absurd (true≢false (sym (itself (all.0.1 (equal_numbers p.0 seat at))) ∙ is))
    found_by rest false is false at any = rest any

within : (seat : ℕ) → is_seat seat ≡ true → (1 ≤ seat) × (seat ≤ 64)
within seat h = (low seat h, high seat h)
  where
    low : (seat : ℕ) → is_seat seat ≡ true → 1 ≤ seat
    low seat h = grind (arith, nat_tests, h)

    high : (seat : ℕ) → is_seat seat ≡ true → seat ≤ 64
    high seat h = grind (arith, nat_tests, h)

-- a seat that owns a GTID is one of the pairs
listed : (s : State) (seat : ℕ) (g : Gtid) → AreSeated s.channels s.seats → owned_by s seat ≡ Some g → list_any (λ (p : ℕ × Gtid). p.0 == seat) (owned s) ≡ true
listed s seat g seated at = listed_by (list_any (λ (p : ℕ × Gtid). p.0 == seat) (owned s)) refl
  where
    listed_by : (b : Bool) → list_any (λ (p : ℕ × Gtid). p.0 == seat) (owned s) ≡ b → b ≡ true
    listed_by true is = refl
    listed_by false is =
        let w = held_entry s seat g at in
        let busy = w.1.1 in
        let numbers = within seat (seated.number seat w.1.0 busy) in
        let no : ◌≡◌ {A = Option Spot} None (Some w.1.0) = sym (not_listed s seat numbers.0 numbers.1 seated is) ∙ busy in
        absurd (cc no)

pub each_seat_told : (s : State) → AreSeated s.channels s.seats → EachOwnerIsListed s
each_seat_told s seated seat g at =
    get-from_entries gtid_total (map (λ (p : ℕ × Gtid). let r : Gtid × ℕ = (p.1, p.0) in r) (owned s)) g ∙ found g seat (owned s) (all_match s seat g seated at seat_numbers) (listed s seat g seated at)

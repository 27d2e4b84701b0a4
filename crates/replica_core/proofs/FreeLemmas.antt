-- What seats hold, and what they hold after a rollback.
use Rattle.std.proofs.Common.{◌≡◌, ⊎_elim, ℕ, ◌+◌, ◌<◌, ◌≤◌, Bool, true, false, not, cond, List, [], ◌∷◌, refl, sym, ap, ◌∙◌, subst, arith, zero, suc, true≢false}
use Rattle.std.specs.Prelude.{Option, Some, None, slice_get, option_map, option_and_then, is_some, ◌==◌, ◌||◌}
use Rattle.std.specs.List.{filter_map, cons_option, list_any, range_with_len}
use Rattle.std.specs.Cmp.{nat_cmp_total, unsigned_tied}
use Rattle.std.specs.FinMap as finmap
use Rattle.std.proofs.lemmas.Bool.{cases_eq, cond_both, or_parts}
use Rattle.std.proofs.lemmas.Bool.Decides.{nat_tests}
use Rattle.lemmas.proofs.Numbers.{same_number, equal_numbers}
use Rattle.lemmas.proofs.Options.{none_where, on_option}
use Rattle.gtid_text.specs.declared.Gtid.{Gtid}
use Rattle.rows.specs.declared.change.Transaction.{Transaction}
use Rattle.apply_channel.specs.Channels.{ChannelValue, Received}
use Rattle.replica_core.specs.declared.event.Spot.{Spot}
use Rattle.replica_core.specs.declared.event.Reply.{Reply}
use Rattle.replica_core.specs.State.{State, Seats, entry_at, owned_by, owned, with_gtid, seat_numbers}
use Rattle.replica_core.specs.Machine.{Step, is_seat, Held, held, held_at, held_of, rollback}
use Rattle.replica_core.specs.Seated.{AreSeated}
use Rattle.replica_core.specs.Draining.{NothingIsOwned}

-- ---- what a busy seat holds

held_with : (spot : Spot) (c : ChannelValue) (e : Received) (o : Option Transaction) → is_some o ≡ true
    → (h : Held) × (option_map (λ (t : Transaction). let x : Held = record { spot = spot; channel = c; gtid = e.gtid; txn = t } in x) o ≡ Some h)
held_with spot c e None h = absurd (cc h)
held_with spot c e (Some t) h = (record { spot = spot; channel = c; gtid = e.gtid; txn = t }, refl)

held_in : (spot : Spot) (c : ChannelValue) (o : Option Received) → is_some (option_and_then (λ (e : Received). e.txn) o) ≡ true → (h : Held) × (option_and_then (held_of spot c) o ≡ Some h)
held_in spot c None h = absurd (cc h)
held_in spot c (Some e) h = held_with spot c e e.txn h

held_on : (spot : Spot) (o : Option ChannelValue)
    → is_some (option_and_then (λ (e : Received). e.txn) (option_and_then (λ (c : ChannelValue). slice_get c.received spot.place) o)) ≡ true
    → (h : Held) × (option_and_then (λ (c : ChannelValue). option_and_then (held_of spot c) (slice_get c.received spot.place)) o ≡ Some h)
held_on spot None h = absurd (cc h)
held_on spot (Some c) h = held_in spot c (slice_get c.received spot.place) h

held_busy : (s : State) (seat : ℕ) (spot : Spot) → AreSeated s.channels s.seats → finmap.get s.seats seat ≡ Some spot → (h : Held) × (held s seat ≡ Some h)
held_busy s seat spot seated at =
    let w = held_on spot (slice_get s.channels spot.channel) (seated.busy seat spot at) in
    (w.0, ap (option_and_then (held_at s)) at ∙ w.1)

-- a seat that holds nothing has taken no place
idle : (s : State) (seat : ℕ) → AreSeated s.channels s.seats → held s seat ≡ None → finmap.get s.seats seat ≡ None
idle s seat seated none = none_where (finmap.get s.seats seat) (λ spot at. let w = held_busy s seat spot seated at in let no : ◌≡◌ {A = Option Held} None (Some w.0) = sym none ∙ w.1 in cc no)

pub entry_with : (o : Option Received) → is_some (option_and_then (λ (e : Received). e.txn) o) ≡ true → (e : Received) × (o ≡ Some e)
entry_with None h = absurd (cc h)
entry_with (Some e) h = (e, refl)

-- a seat that owns nothing has taken no place
unowned : (s : State) (seat : ℕ) → AreSeated s.channels s.seats → owned_by s seat ≡ None → finmap.get s.seats seat ≡ None
unowned s seat seated none = none_where (finmap.get s.seats seat) (λ spot at.
    let w = entry_with (entry_at s spot) (seated.busy seat spot at) in
    let owns : owned_by s seat ≡ Some w.0.gtid = ap (λ (o : Option Spot). option_map (λ (e : Received). e.gtid) (option_and_then (entry_at s) o)) at ∙ ap (option_map (λ (e : Received). e.gtid)) w.1 in
    let no : ◌≡◌ {A = Option Gtid} None (Some w.0.gtid) = sym none ∙ owns in cc no)

-- ---- what the list of the owned shows

not_owned_by : (s : State) (seat x : ℕ) (xs : List ℕ) (o : Option Gtid) → owned_by s x ≡ o → (b : Bool) → (x == seat) ≡ b
    → (list_any (λ (p : ℕ × Gtid). p.0 == seat) (filter_map (with_gtid s) xs) ≡ false → list_any (λ n. n == seat) xs ≡ true → owned_by s seat ≡ None)
    → list_any (λ (p : ℕ × Gtid). p.0 == seat) (cons_option (option_map (λ (g : Gtid). let p : ℕ × Gtid = (x, g) in p) o) (filter_map (with_gtid s) xs)) ≡ false
    → (b || list_any (λ n. n == seat) xs) ≡ true → owned_by s seat ≡ None
not_owned_by s seat x xs None none true is rest list any = ap (owned_by s) (sym (equal_numbers x seat is)) ∙ none
not_owned_by s seat x xs None none false is rest list any = rest list any
not_owned_by s seat x xs (Some g) at true is rest list any = absurd (true≢false (sym is ∙ (or_parts (x == seat) _ list).0))
not_owned_by s seat x xs (Some g) at false is rest list any = rest (or_parts (x == seat) _ list).1 any

not_owned : (s : State) (seat : ℕ) (xs : List ℕ) → list_any (λ (p : ℕ × Gtid). p.0 == seat) (filter_map (with_gtid s) xs) ≡ false → list_any (λ n. n == seat) xs ≡ true → owned_by s seat ≡ None
not_owned s seat [] list any = absurd (cc any)
not_owned s seat (x ∷ xs) list any = not_owned_by s seat x xs (owned_by s x) refl (x == seat) refl (not_owned s seat xs) list any

range_by : (seat from n : ℕ) (b : Bool) → (from == seat) ≡ b → (b ≡ false → list_any (λ k. k == seat) (range_with_len (from + 1) n) ≡ true) → (b || list_any (λ k. k == seat) (range_with_len (from + 1) n)) ≡ true
range_by seat from n true is rest = refl
range_by seat from n false is rest = rest refl

later : (from seat : ℕ) → (from == seat) ≡ false → from ≤ seat → from + 1 ≤ seat
later from seat is low = grind (arith, nat_tests, is, low)

in_range : (seat from n : ℕ) → from ≤ seat → seat < from + n → list_any (λ k. k == seat) (range_with_len from n) ≡ true
in_range seat from zero low high = absurd (omega arith)
in_range seat from (suc n) low high = range_by seat from n (from == seat) refl (λ is. in_range seat (from + 1) n (later from seat is low) (omega (arith, high)))

is_one_of : (seat : ℕ) → 1 ≤ seat → seat ≤ 64 → list_any (λ k. k == seat) seat_numbers ≡ true
unfolding seat_numbers
is_one_of seat low high = in_range seat 1 64 low (omega arith)

-- a seat that is not in the list of the owned has taken no place
pub not_listed : (s : State) (seat : ℕ) → 1 ≤ seat → seat ≤ 64 → AreSeated s.channels s.seats → list_any (λ (p : ℕ × Gtid). p.0 == seat) (owned s) ≡ false → finmap.get s.seats seat ≡ None
not_listed s seat low high seated none = unowned s seat seated (not_owned s seat seat_numbers none (is_one_of seat low high))

-- ---- a rollback

cleared_by : (seats : Seats) (seat other : ℕ) (b : Bool) → (other == seat) ≡ b → (b ≡ false → finmap.get seats other ≡ None) → finmap.get (finmap.remove seats seat) other ≡ None
cleared_by seats seat other b is rest =
    finmap.get-remove nat_cmp_total seats seat other ∙ ap (λ x. cond x None (finmap.get seats other)) (unsigned_tied other seat ∙ is) ∙ last b rest
  where
    last : (b : Bool) → (b ≡ false → finmap.get seats other ≡ None) → cond b None (finmap.get seats other) ≡ None
    last true rest = refl
    last false rest = rest refl

pub cleared : (seats : Seats) (seat other : ℕ) → finmap.get seats other ≡ None → finmap.get (finmap.remove seats seat) other ≡ None
cleared seats seat other none = cleared_by seats seat other (other == seat) refl (λ _. none)

pub cleared_itself : (seats : Seats) (seat : ℕ) → finmap.get (finmap.remove seats seat) seat ≡ None
cleared_itself seats seat = cleared_by seats seat seat true (same_number seat) (λ no. absurd (cc no))

pub is_one : (seat : ℕ) → 1 ≤ seat → seat ≤ 64 → is_seat seat ≡ true
is_one seat low high = grind (arith, nat_tests)

-- what a rollback leaves of the seats
pub freed : (s t : State) (r : Reply) (seat : ℕ) → 1 ≤ seat → seat ≤ 64 → AreSeated s.channels s.seats → ◌≡◌ {A = Step} (r, t) (rollback seat s)
    → (finmap.get t.seats seat ≡ None) × ((other : ℕ) → finmap.get s.seats other ≡ None → finmap.get t.seats other ≡ None)
freed s t r seat low high seated made =
    let P : Step → Type 0 = λ x. (finmap.get x.1.seats seat ≡ None) × ((other : ℕ) → finmap.get s.seats other ≡ None → finmap.get x.1.seats other ≡ None) in
    subst P (sym made)
    (cond_both (not (is_seat seat)) _ _ P (λ bad. absurd (true≢false (sym bad ∙ ap not (is_one seat low high))))
    (λ _. on_option P _ (held s seat) _ (λ none. (idle s seat seated none, λ other h. h)) (λ h at. (cleared_itself s.seats seat, cleared s.seats seat))))

-- a seat that is none of the 64 has taken no place
pub none_beyond : (s : State) → AreSeated s.channels s.seats → ((seat : ℕ) → 1 ≤ seat → seat < 65 → finmap.get s.seats seat ≡ None) → NothingIsOwned s
none_beyond s seated each = λ seat. none_where (finmap.get s.seats seat) (λ spot at. by seat spot at (seated.number seat spot at))
  where
    range : (seat : ℕ) → is_seat seat ≡ true → (1 ≤ seat) × (seat < 65)
    range seat is = (grind (arith, nat_tests, is), grind (arith, nat_tests, is))

    by : (seat : ℕ) (spot : Spot) → finmap.get s.seats seat ≡ Some spot → is_seat seat ≡ true → ⊥
    by seat spot at is = let r = range seat is in let no : ◌≡◌ {A = Option Spot} None (Some spot) = sym (each seat r.0 r.1) ∙ at in cc no

-- one seat more
pub more_seats : (s t : State) (n seat : ℕ) → ((k : ℕ) → 1 ≤ k → k < n → finmap.get s.seats k ≡ None) → finmap.get t.seats n ≡ None
    → ((other : ℕ) → finmap.get s.seats other ≡ None → finmap.get t.seats other ≡ None) → 1 ≤ seat → seat < n + 1 → finmap.get t.seats seat ≡ None
more_seats s t n seat before here others low less =
    ⊎_elim
    (λ (same : seat ≡ n). ap (finmap.get t.seats) same ∙ here)
    (λ other. others seat (before seat low (omega (arith, less, other))))
    (cases_eq seat n)

-- What the seats own, as a map from GTIDs; and the channels so far.
use Rattle.std.proofs.Common.{◌≡◌, ℕ, ◌+◌, ◌-◌, ◌<◌, ◌≤◌, min, suc, List, [], ◌∷◌, ◌++◌, length, take, drop, get_or, refl, sym, ap, ◌∙◌, arith}
use Rattle.std.specs.Prelude.{Some, Result, Ok, Err, OnOk, is_ok, if◌then◌else◌, slice_get, flat_map}
use Rattle.std.proofs.lemmas.List.{append-nil, append_assoc, drop_all, get_or-take, get_or_default, length-take, length-take-le, nil_from_length, take_all, take_more, take-take}
use Rattle.std.proofs.lemmas.Option.{slice_get_within, get_or_from_slice_get}
use Rattle.std.proofs.lemmas.Grind.{flat_map-append}
use Rattle.std.proofs.Math.Seq.{drop-cons}
use Rattle.std.specs.BTreeMap.{insert_entry}
use Rattle.std.specs.FinMap.{entries, entries-insert, len-empty, len-entries}
use Rattle.std.specs.FinMap.Entries.{put, by_order}
use Rattle.std.specs.Ordering.{match_ordering}
use Rattle.std.specs.declared.cmp.Ordering.TheVariants.{Less, Equal, Greater}
use Rattle.lemmas.proofs.SameGtid.{gtid_total}
use Rattle.gtid_text.specs.declared.Gtid.{Gtid}
use Rattle.gtid_text.specs.Gtids.{gtid_cmp}
use Rattle.apply_channel.specs.Channels.{ChannelValue}
use Rattle.replica_lines.specs.Status.{owners_of, channel_line}

-- ---- what the seats own

-- two words of std for an entry that is put in its place
put_in_place : (g : Gtid) (seat : ℕ) (es : List (Gtid × ℕ)) → insert_entry gtid_cmp es g seat ≡ put gtid_cmp g seat es
put_in_place g seat [] = refl
put_in_place g seat (e ∷ es) =
    elim (gtid_cmp g e.0) as (λ r. match_ordering r ((g, seat) ∷ e ∷ es) ((e.0, seat) ∷ es) (e ∷ insert_entry gtid_cmp es g seat) ≡ by_order r ((g, seat) ∷ e ∷ es) ((e.0, seat) ∷ es) (e ∷ put gtid_cmp g seat es)) [
      | Less ↦ refl
      | Equal ↦ refl
      | Greater ↦ ap (λ (rest : List (Gtid × ℕ)). e ∷ rest) (put_in_place g seat es)
    ]

-- one pair more at the start
one_owner_more : (p : ℕ × Gtid) (ps : List (ℕ × Gtid)) (es : List (Gtid × ℕ)) → es ≡ entries (owners_of ps) → insert_entry gtid_cmp es p.1 p.0 ≡ entries (owners_of (p ∷ ps))
one_owner_more p ps es e =
    put_in_place p.1 p.0 es ∙ ap (put gtid_cmp p.1 p.0) e ∙ sym (entries-insert gtid_total (owners_of ps) p.1 p.0)

no_owner : entries (owners_of []) ≡ []
no_owner = nil_from_length (entries (owners_of [])) (sym (len-entries (owners_of [])) ∙ len-empty gtid_cmp ℕ)

-- before the first pair is put
pub none_put : (owned : List (ℕ × Gtid)) (es : List (Gtid × ℕ)) → es ≡ [] → es ≡ entries (owners_of (drop (length owned) owned))
none_put owned es none =
    none ∙ sym (ap (λ (ps : List (ℕ × Gtid)). entries (owners_of ps)) (drop_all (length owned) owned (omega arith)) ∙ no_owner)

pub all_left : (owned : List (ℕ × Gtid)) → owned ≡ take (length owned) owned
all_left owned = sym (take_all (length owned) owned (omega arith))

-- what is left after the last pair
pub less_left : (owned left : List (ℕ × Gtid)) → left ≡ take (length left) owned → take (length left - 1) left ≡ take (length (take (length left - 1) left)) owned
less_left owned left front =
    let lower : length left - 1 ≤ length left = omega arith in
    ap (take (length left - 1)) front ∙ take-take (length left - 1) (length left) owned lower
    ∙ ap (λ (k : ℕ). take k owned) (sym (length-take-le (length left - 1) left lower))

pub one_element : (xs : List (ℕ × Gtid)) (i : ℕ) (p q : ℕ × Gtid) → i < length xs → p ≡ get_or xs i p → q ≡ get_or xs i q → p ≡ q
one_element xs i p q within here there = here ∙ get_or_default xs i p q within ∙ sym there

-- the last pair that is left is put
pub one_put : (owned left : List (ℕ × Gtid)) (es fs : List (Gtid × ℕ)) (p : ℕ × Gtid) → 1 ≤ length left → left ≡ take (length left) owned → p ≡ get_or left (length left - 1) p
    → es ≡ entries (owners_of (drop (length left) owned)) → fs ≡ insert_entry gtid_cmp es (get_or left (length left - 1) p).1 (get_or left (length left - 1) p).0
    → fs ≡ entries (owners_of (drop (length (take (length left - 1) left)) owned))
one_put owned left es fs p some front at so_far new =
    let lower : length left - 1 ≤ length left = omega arith in
    let less : length left - 1 < length left = omega (arith, some) in
    let fits : length left ≤ length owned = shown (length left) (length owned) (ap length front ∙ length-take (length left) owned) in
    let below : length left - 1 < length owned = omega (arith, some, fits) in
    let next : suc (length left - 1) ≡ length left = omega (arith, some) in
    let here : get_or owned (length left - 1) p ≡ p =
    sym (at ∙ ap (λ (xs : List (ℕ × Gtid)). get_or xs (length left - 1) p) front ∙ get_or-take (length left) owned (length left - 1) p less) in
    let longer : drop (length (take (length left - 1) left)) owned ≡ p ∷ drop (length left) owned =
    ap (λ (k : ℕ). drop k owned) (length-take-le (length left - 1) left lower) ∙ drop-cons owned (length left - 1) p below ∙ (λ i. here i ∷ drop (next i) owned) in
    new ∙ ap (λ (x : ℕ × Gtid). insert_entry gtid_cmp es x.1 x.0) (sym at) ∙ one_owner_more p (drop (length left) owned) es so_far ∙ ap (λ (ps : List (ℕ × Gtid)). entries (owners_of ps)) (sym longer)
  where
    shown : (a b : ℕ) → a ≡ min a b → a ≤ b
    shown a b e = omega (arith, e)

-- ---- lines

-- a name, a word and a line feed, one after the other
pub line_told : {E : Type 0} (r : Result (Unit {0}) E) (old named worded told name word : List ℕ) → named ≡ old ++ name → worded ≡ named ++ word
    → told ≡ (if is_ok r then worded ++ 10 ∷ [] else worded) → OnOk r (told ≡ old ++ (name ++ (word ++ 10 ∷ [])))
line_told (Ok done) old named worded told name word a b c =
    c ∙ ap (λ (t : List ℕ). t ++ 10 ∷ []) (b ∙ ap (λ (t : List ℕ). t ++ word) a) ∙ append_assoc (old ++ name) word (10 ∷ []) ∙ append_assoc old name (word ++ 10 ∷ [])
line_told (Err e) old named worded told name word a b c = tt

-- one channel more
pub one_line_more : (xs : List ChannelValue) (n : ℕ) (x : ChannelValue) (before so_far more : List ℕ) → slice_get xs n ≡ Some x
    → so_far ≡ before ++ flat_map channel_line (take n xs) → more ≡ so_far ++ channel_line x → more ≡ before ++ flat_map channel_line (take (n + 1) xs)
one_line_more xs n x before so_far more at is next =
    let within : n < length xs = slice_get_within xs n x at in
    let longer : take n xs ++ x ∷ [] ≡ take (n + 1) xs =
    ap (λ (y : ChannelValue). take n xs ++ y ∷ []) (sym (get_or_from_slice_get xs n x x at)) ∙ sym (take_more xs n x within) in
    let lines : flat_map channel_line (take n xs) ++ channel_line x ≡ flat_map channel_line (take (n + 1) xs) =
    ap (λ (t : List ℕ). flat_map channel_line (take n xs) ++ t) (sym (append-nil (channel_line x)))
    ∙ sym (flat_map-append channel_line (take n xs) (x ∷ [])) ∙ ap (flat_map channel_line) longer in
    next ∙ ap (λ (t : List ℕ). t ++ channel_line x) is ∙ append_assoc before (flat_map channel_line (take n xs)) (channel_line x)
    ∙ ap (λ (t : List ℕ). before ++ t) lines

-- The text of a set, item by item.
use Rattle.std.proofs.Common.{◌≡◌, ℕ, suc, Bool, true, false, cond, List, [], ◌∷◌, ◌++◌, length, drop, Option, Some, None, refl, sym, ap, ◌∙◌, append_assoc, append-nil, arith}
use Rattle.std.proofs.lemmas.Bool.Decides.{nat_tests}
use Rattle.std.specs.Prelude.{◌&&◌, ◌==◌, option_map, nat_lt}
use Rattle.std.specs.List.{flat_map}
use Rattle.gtid_text.specs.Canonical.{source_text}
use Rattle.binlog_events.specs.declared.previous.SetInterval.{SetInterval}
use Rattle.binlog_events.specs.Gtids.{and_then}
use Rattle.binlog_events.specs.Previous.{Item, interval_at, intervals_at, item_at, items_at, is_behind, are_behind, may_follow, is_item, is_set, interval_text, tag_text, item_text, lead_of, items_text, put_whole, behind_others, intervals_text, led_text, rest_text}

-- a text behind others, if the test holds
put_if : (b : Bool) (old a c : List ℕ) → behind_others old (cond b (Some (a ++ c)) None) ≡ behind_others (old ++ a) (cond b (Some c) None)
put_if true old a c = ap Some (sym (append_assoc old a c))
put_if false old a c = refl

-- ---- intervals

next_interval : (old : List ℕ) (last : ℕ) (i : SetInterval) (is : List SetInterval) → is_behind last i ≡ true
    → behind_others old (intervals_text last (i ∷ is)) ≡ behind_others (old ++ interval_text i) (intervals_text i.end is)
unfolding are_behind
next_interval old last i is e =
    ap (λ (b : Bool). behind_others old (cond (b && are_behind i.end is) (Some (interval_text i ++ flat_map interval_text is)) None)) e
    ∙ put_if (are_behind i.end is) old (interval_text i) (flat_map interval_text is)

pub interval_put : (n m last : ℕ) (i : SetInterval) (bytes rest old new : List ℕ) → n ≡ suc m → i ≡ interval_at bytes → is_behind last i ≡ true → rest ≡ drop 16 bytes
    → new ≡ old ++ interval_text i → behind_others new (intervals_text i.end (intervals_at m rest)) ≡ behind_others old (intervals_text last (intervals_at n bytes))
unfolding intervals_at
interval_put n m last i bytes rest old new e is fits f put =
    ap (λ x. behind_others x (intervals_text i.end (intervals_at m rest))) put
    ∙ sym (next_interval old last i (intervals_at m rest) fits)
    ∙ ap (λ (x : SetInterval). behind_others old (intervals_text last (x ∷ intervals_at m rest))) is
    ∙ ap (λ x. behind_others old (intervals_text last (interval_at bytes ∷ intervals_at m x))) f
    ∙ ap (λ x. behind_others old (intervals_text last (intervals_at x bytes))) (sym e)

pub no_interval : (n m last : ℕ) (i : SetInterval) (bytes old : List ℕ) → n ≡ suc m → i ≡ interval_at bytes → is_behind last i ≡ false
    → None ≡ behind_others old (intervals_text last (intervals_at n bytes))
unfolding intervals_at are_behind
no_interval n m last i bytes old e is fails =
    ap (λ (b : Bool). behind_others old (cond (b && are_behind i.end (intervals_at m (drop 16 bytes))) (Some (interval_text i ++ flat_map interval_text (intervals_at m (drop 16 bytes)))) None)) (sym fails)
    ∙ ap (λ (x : SetInterval). behind_others old (intervals_text last (x ∷ intervals_at m (drop 16 bytes)))) is
    ∙ ap (λ x. behind_others old (intervals_text last (intervals_at x bytes))) (sym e)

pub intervals_end : (n last : ℕ) (bytes old : List ℕ) → n ≡ 0 → Some old ≡ behind_others old (intervals_text last (intervals_at n bytes))
unfolding intervals_at are_behind
intervals_end n last bytes old e = ap Some (sym (append-nil old)) ∙ ap (λ x. behind_others old (intervals_text last (intervals_at x bytes))) (sym e)

-- ---- an item

abbrev item_with : ℕ → List ℕ → ℕ → List ℕ → Item
item_with source tag n bytes = record { source = source; tag = tag; intervals = intervals_at n bytes }

-- the test of an item whose first parts hold
fits : (a b c : Bool) → a ≡ true → b ≡ true → (a && (b && c)) ≡ c
fits a b c e f = ap (λ (x : Bool). x && (b && c)) e ∙ ap (λ (x : Bool). x && c) f

led : (last : Option Item) (i : Item) (old : List ℕ) → nat_lt 0 (length i.intervals) ≡ true → may_follow last i ≡ true
    → behind_others (((old ++ lead_of last ∷ []) ++ source_text i.source) ++ tag_text i.tag) (intervals_text 0 i.intervals) ≡ behind_others old (led_text last i)
led last i old some follows =
    let lead : ℕ = lead_of last in
    let s : List ℕ = source_text i.source in
    let t : List ℕ = tag_text i.tag in
    let text : List ℕ = flat_map interval_text i.intervals in
    let b : Bool = are_behind 0 i.intervals in
    ap (λ x. behind_others x (intervals_text 0 i.intervals)) (append_assoc (old ++ lead ∷ []) s t ∙ append_assoc old (lead ∷ []) (s ++ t))
    ∙ sym (put_if b old (lead ∷ (s ++ t)) text)
    ∙ ap (λ x. behind_others old (cond b (Some (lead ∷ x)) None)) (append_assoc s t text)
    ∙ ap (λ (x : Bool). behind_others old (cond x (Some (lead ∷ (s ++ (t ++ text)))) None)) (sym (fits (nat_lt 0 (length i.intervals)) (may_follow last i) b some follows))

above_none : (k : ℕ) → nat_lt 0 (suc k) ≡ true
above_none k = grind (arith, nat_tests)

some_interval : (n m : ℕ) (bytes : List ℕ) → n ≡ suc m → nat_lt 0 (length (intervals_at n bytes)) ≡ true
unfolding intervals_at
some_interval n m bytes e = ap (λ x. nat_lt 0 (length (intervals_at x bytes))) e ∙ above_none (length (intervals_at m (drop 16 bytes)))

pub led_put : (n m : ℕ) (last : Option Item) (source : ℕ) (tag bytes old a b d : List ℕ) → n ≡ suc m → may_follow last (item_with source tag n bytes) ≡ true
    → a ≡ old ++ lead_of last ∷ [] → b ≡ a ++ source_text source → d ≡ b ++ tag_text tag
    → behind_others d (intervals_text 0 (intervals_at n bytes)) ≡ behind_others old (led_text last (item_with source tag n bytes))
led_put n m last source tag bytes old a b d e follows f g h =
    ap (λ x. behind_others x (intervals_text 0 (intervals_at n bytes))) (h ∙ ap (λ x. x ++ tag_text tag) (g ∙ ap (λ x. x ++ source_text source) f))
    ∙ led last (item_with source tag n bytes) old (some_interval n m bytes e) follows

pub no_intervals : (n : ℕ) (last : Option Item) (source : ℕ) (tag bytes old : List ℕ) → n ≡ 0 → behind_others old (led_text last (item_with source tag n bytes)) ≡ None
unfolding intervals_at
no_intervals n last source tag bytes old e =
    ap (λ x. behind_others old (led_text last (item_with source tag x bytes))) e

unled : (a b c : Bool) (old x : List ℕ) → b ≡ false → None ≡ behind_others old (cond (a && (b && c)) (Some x) None)
unled true b c old x e = ap (λ (y : Bool). behind_others old (cond (y && c) (Some x) None)) (sym e)
unled false b c old x e = refl

pub not_following : (last : Option Item) (i : Item) (old : List ℕ) → may_follow last i ≡ false → None ≡ behind_others old (led_text last i)
not_following last i old e = unled (nat_lt 0 (length i.intervals)) (may_follow last i) (are_behind 0 i.intervals) old (lead_of last ∷ item_text i) e

-- ---- items

item_step : (a d : Bool) (old x y new : List ℕ) → behind_others old (cond a (Some x) None) ≡ Some new
    → behind_others new (cond d (Some y) None) ≡ behind_others old (cond (a && d) (Some (x ++ y)) None)
item_step true d old x y new e =
    let same : new ≡ old ++ x = cc in
    ap (λ z. behind_others z (cond d (Some y) None)) same ∙ sym (put_if d old x y)
item_step false d old x y new e = absurd cc

stop_step : (a d : Bool) (old x y : List ℕ) → behind_others old (cond a (Some x) None) ≡ None → None ≡ behind_others old (cond (a && d) (Some y) None)
stop_step false d old x y e = refl
stop_step true d old x y e = absurd cc

passed : (last : Option Item) (i : Item) (found : Option (List Item)) (old new : List ℕ) → behind_others old (led_text last i) ≡ Some new
    → behind_others new (rest_text (Some i) found) ≡ behind_others old (rest_text last (option_map (λ is. i ∷ is) found))
unfolding is_set items_text
passed last i None old new e = refl
passed last i (Some is) old new e = item_step (is_item last i) (is_set (Some i) is) old (lead_of last ∷ item_text i) (items_text (Some i) is) new e

stopped : (last : Option Item) (i : Item) (found : Option (List Item)) (old : List ℕ) → behind_others old (led_text last i) ≡ None
    → None ≡ behind_others old (rest_text last (option_map (λ is. i ∷ is) found))
unfolding is_set items_text
stopped last i None old e = refl
stopped last i (Some is) old e = stop_step (is_item last i) (is_set (Some i) is) old (lead_of last ∷ item_text i) (items_text last (i ∷ is)) e

-- items at the front of bytes that begin with this one
items_front : (tagged : Bool) (n m : ℕ) (bytes rest : List ℕ) (i : Item) → n ≡ suc m → Some (i, rest) ≡ item_at tagged bytes
    → option_map (λ is. i ∷ is) (items_at tagged m rest) ≡ items_at tagged n bytes
unfolding items_at
items_front tagged n m bytes rest i e f =
    ap (λ (o : Option (Item × List ℕ)). and_then o (λ p. option_map (λ is. p.0 ∷ is) (items_at tagged m p.1))) f
    ∙ ap (λ x. items_at tagged x bytes) (sym e)

pub item_put : (tagged : Bool) (n m : ℕ) (last : Option Item) (i : Item) (bytes rest old new : List ℕ) → n ≡ suc m → Some (i, rest) ≡ item_at tagged bytes
    → behind_others old (led_text last i) ≡ Some new → behind_others new (rest_text (Some i) (items_at tagged m rest)) ≡ behind_others old (rest_text last (items_at tagged n bytes))
item_put tagged n m last i bytes rest old new e f put =
    passed last i (items_at tagged m rest) old new put
    ∙ ap (λ (o : Option (List Item)). behind_others old (rest_text last o)) (items_front tagged n m bytes rest i e f)

pub item_not_put : (tagged : Bool) (n m : ℕ) (last : Option Item) (i : Item) (bytes rest old : List ℕ) → n ≡ suc m → Some (i, rest) ≡ item_at tagged bytes
    → behind_others old (led_text last i) ≡ None → None ≡ behind_others old (rest_text last (items_at tagged n bytes))
item_not_put tagged n m last i bytes rest old e f none =
    stopped last i (items_at tagged m rest) old none
    ∙ ap (λ (o : Option (List Item)). behind_others old (rest_text last o)) (items_front tagged n m bytes rest i e f)

pub no_item : (tagged : Bool) (n m : ℕ) (last : Option Item) (bytes old : List ℕ) → n ≡ suc m → None ≡ item_at tagged bytes
    → None ≡ behind_others old (rest_text last (items_at tagged n bytes))
unfolding items_at
no_item tagged n m last bytes old e f =
    ap (λ (o : Option (Item × List ℕ)). behind_others old (rest_text last (and_then o (λ p. option_map (λ is. p.0 ∷ is) (items_at tagged m p.1))))) f
    ∙ ap (λ x. behind_others old (rest_text last (items_at tagged x bytes))) (sym e)

at_end : (b : Bool) (last : Option Item) (old : List ℕ) → behind_others old (rest_text last (cond b (Some []) None)) ≡ put_whole b old
unfolding is_set items_text
at_end true last old = ap Some (append-nil old)
at_end false last old = refl

pub items_end : (tagged : Bool) (n : ℕ) (last : Option Item) (bytes old : List ℕ) → n ≡ 0 → behind_others old (rest_text last (items_at tagged n bytes)) ≡ put_whole (length bytes == 0) old
unfolding items_at
items_end tagged n last bytes old e = ap (λ x. behind_others old (rest_text last (items_at tagged x bytes))) e ∙ at_end (length bytes == 0) last old

-- Channels with their schema, and the channels alone.
use Rattle.std.proofs.Common.{◌≡◌, ℕ, zero, suc, Bool, true, false, cond, ◌||◌, List, [], ◌∷◌, ◌++◌, map, length, refl, sym, ap, ◌∙◌}
use Rattle.std.specs.Prelude.{Option, Some, None, is_none, slice_get, slice_set, option_map}
use Rattle.std.specs.List.{list_all, list_any}
use Rattle.std.specs.Option.{option_map_or}
use Rattle.std.proofs.lemmas.List.Elements.{All-map, All-append, All-cons, All-nil}
use Rattle.std.proofs.lemmas.Option.{slice_get-map}
use Rattle.lemmas.proofs.Tests.{and_second}
use Rattle.rows.specs.declared.schema.Table.{Table}
use Rattle.gtid_text.specs.declared.Gtid.{Gtid}
use Rattle.gtid_text.specs.Gtids.{same_gtid}
use Rattle.gtid_set.specs.Sets.{Gtids}
use Rattle.gtid_set.proofs.SetSources.{first_of_and}
use Rattle.rows.specs.declared.change.Transaction.{Transaction}
use Rattle.journal.specs.declared.Entry.{Entry}
use Rattle.apply_channel.specs.Channels.{Keyed, ChannelValue, Received, are_settled, settle, settle_channel, same_name, with_stopped, with_asked, with_received, with_entry, received_as, is_full}
use Rattle.replica_core.specs.Kept.{AreOf}
use Rattle.replica_core.specs.Keyed.{keyed_settled, keyed_stopped, keyed_asked, keyed_len_at, keyed_full_at, len_at, full_at}
use Rattle.replica_core.specs.Machine.{change_at}
use Rattle.replica_core.proofs.KeptLemmas.{All-changed_at}

abbrev pub channel_of : Keyed → ChannelValue
channel_of k = k.channel

map_set : {X Y : Type 0} (p : X → Y) (xs : List X) (i : ℕ) (x : X) → map p (slice_set xs i x) ≡ slice_set (map p xs) i (p x)
map_set p [] i x = refl
map_set p (y ∷ ys) zero x = refl
map_set p (y ∷ ys) (suc i) x = ap (λ zs. p y ∷ zs) (map_set p ys i x)

changed_as : {X Y : Type 0} (p : X → Y) (f : X → X) (g : Y → Y) → ((x : X) → p (f x) ≡ g (p x)) → (i : ℕ) (xs : List X) (o : Option X) → map p (option_map_or (λ x. slice_set xs i (f x)) o xs) ≡ option_map_or (λ y. slice_set (map p xs) i (g y)) (option_map p o) (map p xs)
changed_as p f g same i xs None = refl
changed_as p f g same i xs (Some x) = map_set p xs i (f x) ∙ ap (slice_set (map p xs) i) (same x)

pub map-changed_at : {X Y : Type 0} (p : X → Y) (f : X → X) (g : Y → Y) → ((x : X) → p (f x) ≡ g (p x)) → (i : ℕ) (xs : List X) → map p (change_at i f xs) ≡ change_at i g (map p xs)
map-changed_at p f g same i xs =
    changed_as p f g same i xs (slice_get xs i)
    ∙ ap (λ o. option_map_or (λ y. slice_set (map p xs) i (g y)) o (map p xs)) (sym (slice_get-map p xs i))

pub stopped_as : (c : ℕ) (flag : Bool) (ks : List Keyed) → map channel_of (change_at c (keyed_stopped flag) ks) ≡ change_at c (with_stopped flag) (map channel_of ks)
stopped_as c flag ks = map-changed_at channel_of (keyed_stopped flag) (with_stopped flag) (λ k. refl) c ks

pub asked_as : (c : ℕ) (asked : Gtids) (ks : List Keyed) → map channel_of (change_at c (keyed_asked asked) ks) ≡ change_at c (with_asked asked) (map channel_of ks)
asked_as c asked ks = map-changed_at channel_of (keyed_asked asked) (with_asked asked) (λ k. refl) c ks

pub received_as_one : (c : ℕ) (executed : Bool) (e : Entry) (ks : List Keyed) → map channel_of (change_at c (with_entry executed e) ks) ≡ change_at c (with_received (received_as executed e)) (map channel_of ks)
received_as_one c executed e ks = map-changed_at channel_of (with_entry executed e) (with_received (received_as executed e)) (λ k. refl) c ks

pub settled_as : (g : Gtid) (ks : List Keyed) → map channel_of (map (keyed_settled g) ks) ≡ map (settle_channel g) (map channel_of ks)
settled_as g [] = refl
settled_as g (k ∷ ks) = ap (λ cs. settle_channel g k.channel ∷ cs) (settled_as g ks)

none_is : (o : Option Transaction) → is_none o ≡ true → None ≡ o
none_is None h = refl
none_is (Some t) h = absurd cc

executed_stays : (g : Gtid) (e : Received) (b : Bool) → is_none e.txn ≡ true → cond b (record e { txn = None }) e ≡ e
executed_stays g e true none = λ i. record e { txn = none_is e.txn none i }
executed_stays g e false none = refl

entries_stay : (g : Gtid) (es : List Received) → are_settled es ≡ true → map (settle g) es ≡ es
entries_stay g [] all = refl
entries_stay g (e ∷ es) all =
    λ i. executed_stays g e (same_gtid e.gtid g) (first_of_and (is_none e.txn) (are_settled es) all) i ∷ entries_stay g es (and_second (is_none e.txn) (are_settled es) all) i

-- where all is executed, no channel changes
pub settled_stay : (g : Gtid) (ks : List Keyed) → list_all (λ (k : Keyed). are_settled k.channel.received) ks ≡ true → ks ≡ map (keyed_settled g) ks
settled_stay g [] all = refl
settled_stay g (k ∷ ks) all =
    let first = entries_stay g k.channel.received (first_of_and (are_settled k.channel.received) (list_all (λ (x : Keyed). are_settled x.channel.received) ks) all) in
    let rest = settled_stay g ks (and_second (are_settled k.channel.received) (list_all (λ (x : Keyed). are_settled x.channel.received) ks) all) in
    λ i. record k { channel = record k.channel { received = sym first i } } ∷ rest i

pub pushed_as : (k : Keyed) (ks : List Keyed) → map channel_of (ks ++ k ∷ []) ≡ map channel_of ks ++ k.channel ∷ []
pushed_as k [] = refl
pushed_as k (x ∷ ks) = ap (λ cs. x.channel ∷ cs) (pushed_as k ks)

pub named_as : (name : List ℕ) (ks : List Keyed) → list_any (λ (k : Keyed). same_name k.channel.name name) ks ≡ list_any (λ (c : ChannelValue). same_name c.name name) (map channel_of ks)
named_as name [] = refl
named_as name (k ∷ ks) = ap (λ b. same_name k.channel.name name || b) (named_as name ks)

abbrev pub IsOf : List Table → Keyed → Type 0
IsOf schema k = k.schema ≡ schema

pub of_changed : (schema : List Table) (c : ℕ) (f : Keyed → Keyed) (ks : List Keyed) → ((k : Keyed) → (f k).schema ≡ k.schema) → AreOf schema ks → AreOf schema (change_at c f ks)
of_changed schema c f ks same of = All-changed_at (IsOf schema) c f ks (λ k is. same k ∙ is) of

pub of_settled : (schema : List Table) (g : Gtid) (ks : List Keyed) → AreOf schema ks → AreOf schema (map (keyed_settled g) ks)
of_settled schema g ks of = All-map (IsOf schema) (keyed_settled g) ks of

pub of_pushed : (schema : List Table) (k : Keyed) (ks : List Keyed) → k.schema ≡ schema → AreOf schema ks → AreOf schema (ks ++ k ∷ [])
of_pushed schema k ks is of = All-append (IsOf schema) ks (k ∷ []) of (All-cons (IsOf schema) k [] is (All-nil (IsOf schema)))

len_by : (o : Option Keyed) → option_map_or (λ (k : Keyed). length k.channel.received) o 0 ≡ option_map_or (λ (x : ChannelValue). length x.received) (option_map channel_of o) 0
len_by None = refl
len_by (Some k) = refl

full_by : (o : Option Keyed) → option_map_or (λ (k : Keyed). is_full k.channel) o false ≡ option_map_or (λ (x : ChannelValue). is_full x) (option_map channel_of o) false
full_by None = refl
full_by (Some k) = refl

pub full_as : (c : ℕ) (ks : List Keyed) → keyed_full_at c ks ≡ full_at c (map channel_of ks)
full_as c ks = full_by (slice_get ks c) ∙ ap (λ o. option_map_or (λ (x : ChannelValue). is_full x) o false) (sym (slice_get-map channel_of ks c))

pub len_as : (c : ℕ) (ks : List Keyed) → keyed_len_at c ks ≡ len_at c (map channel_of ks)
len_as c ks = len_by (slice_get ks c) ∙ ap (λ o. option_map_or (λ (x : ChannelValue). length x.received) o 0) (sym (slice_get-map channel_of ks c))

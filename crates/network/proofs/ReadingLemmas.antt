-- How far a channel has read its source's binary log stays true, whatever the nodes make.
use Rattle.std.proofs.Common.{◌≡◌, ◌≢◌, ℕ, zero, suc, ◌+◌, ◌-◌, ◌<◌, ◌≤◌, Bool, true, false, cond, not, ◌⊎◌, inl, inr, List, [], ◌∷◌, ◌++◌, length, take, drop, Option, Some, None, Result, Ok, Err, IfOk, OnErr, refl, sym, ap, ◌∙◌, subst, arith, eqb, true≢false, length-append, length-set}
use Rattle.std.specs.Prelude.{slice_get, slice_set, nat_le, ◌==◌, find}
use Rattle.std.specs.Option.{option_map_or}
use Rattle.std.specs.List.{list_all}
use Rattle.std.specs.FinMap as finmap
use Rattle.std.specs.FinSet as set
use Rattle.std.specs.FinSet.{contains-union, is_subset-contains, contains-is_subset}
use Rattle.std.proofs.lemmas.Bool.{or_cases, and_parts, cases_Bool, eqb-true, eq-eqb, leb-true, and_from}
use Rattle.std.proofs.lemmas.Bool.Decides.{nat_tests}
use Rattle.std.proofs.lemmas.List.{take-append-le, length-drop}
use Rattle.std.proofs.lemmas.Option.{same_Some, slice_get_within}
use Rattle.std.specs.Ordering.{nat_cmp}
use Rattle.std.specs.Cmp.{nat_cmp_total, unsigned_tied}
use Rattle.lemmas.proofs.Tests.{on_test}
use Rattle.lemmas.proofs.Numbers.{lt_cases}
use Rattle.lemmas.proofs.Options.{none_some, on_option}
use Rattle.lemmas.proofs.SameGtid.{gtid_total, same_is_equal}
use Rattle.lemmas.proofs.Lists.{set_there, get_set_cases}
use Rattle.gtid_text.specs.declared.Gtid.{Gtid}
use Rattle.gtid_text.specs.Gtids.{same_gtid}
use Rattle.gtid_set.specs.Sets.{Gtids}
use Rattle.journal.specs.declared.Entry.{Entry}
use Rattle.journal.specs.Journals.{JournalValue, gtids_of, previous_after_purge}
use Rattle.relay.specs.Own.{with_last, purge_to}
use Rattle.apply_channel.specs.Channels.{ChannelValue, is_full}
use Rattle.gtid_set.specs.declared.fault.SetFault.{SetFault}
use Rattle.rows.specs.Fits.{misfit}
use Rattle.replica_core.specs.declared.event.Event.{Event}
use Rattle.replica_core.specs.declared.event.Event.TheVariants.{Position, Receive}
use Rattle.replica_core.specs.declared.event.Reply.{Reply}
use Rattle.replica_core.specs.declared.event.Reply.TheVariants.{NotInSchema, Ask}
use Rattle.replica_core.specs.State.{State, Site, Replica}
use Rattle.replica_core.specs.Machine as core
use Rattle.history.proofs.Covering.{is_entry, in_entries}
use Rattle.network.specs.Nodes.{Node, Sources}
use Rattle.network.specs.Machine.{come, is_for_network}
use Rattle.network.specs.Made.{Makes, MakesAt}
use Rattle.network.specs.Reading.{Places, has_come, HasRead, IsRead, IsReadFrom, AreRead, shift_place, reads, place_after, AreMoved, AreAllMoved, entries_at}
use Rattle.network.proofs.Moving.{Journals, Moves, step_moves}
use Rattle.network.proofs.Coming.{Grew, still_come, grew_as_before, grew_same, position_grew, receive_grew}

-- ---- what a channel has grows

all_more : (f g : Entry → Bool) (es : List Entry) → ((e : Entry) → f e ≡ true → g e ≡ true) → list_all f es ≡ true → list_all g es ≡ true
all_more f g [] h all = refl
all_more f g (e ∷ es) h all = let two = and_parts (f e) (list_all f es) all in and_from (g e) (list_all g es) (h e two.0) (all_more f g es h two.1)

pub read_more : (came more : Gtids) → ((g : Gtid) → set.contains came g ≡ true → set.contains more g ≡ true) → (journal : JournalValue) (place : Option ℕ) → IsRead came journal place → IsRead more journal place
read_more came more grows journal None r = tt
read_more came more grows journal (Some place) r = record {
  purged = contains-is_subset gtid_total journal.previous more (λ g i. grows g (is_subset-contains gtid_total journal.previous came r.purged g i));
  short = r.short;
  entries = all_more (has_come came) (has_come more) (take place journal.entries) (λ e h. grows e.gtid h) r.entries;
}

-- ---- a binary log grows at its end, and is purged from its beginning

at_place : (came : Gtids) (journal : JournalValue) (p q : ℕ) → p ≡ q → HasRead came journal p → HasRead came journal q
at_place came journal p q e = subst (HasRead came journal) e

at_known : (came : Gtids) (journal : JournalValue) (count p : ℕ) → (nat_le count p ≡ true → HasRead came journal (p - count)) → IsRead came journal (shift_place count (Some p))
at_known came journal count p h = on_test (IsRead came journal) (nat_le count p) (Some (p - count)) None h (λ far. tt)

-- entries of a prefix of a prefix
all_front : (f : Entry → Bool) (count p : ℕ) (es : List Entry) → length es - (length es - count) ≤ p → list_all f (take p es) ≡ true → list_all f (take count es) ≡ true
all_front f zero p es h all = refl
all_front f (suc count) p [] h all = refl
all_front f (suc count) zero (e ∷ es) h all = absurd (omega arith)
all_front f (suc count) (suc p) (e ∷ es) h all =
    let two = and_parts (f e) (list_all f (take p es)) all in
    and_from (f e) (list_all f (take count es)) two.0 (all_front f count p es (omega (h, arith)) two.1)

-- entries of a prefix, without the first ones
all_behind : (f : Entry → Bool) (count p : ℕ) (es : List Entry) → list_all f (take p es) ≡ true → list_all f (take (p - count) (drop count es)) ≡ true
all_behind f zero p es all = ap (λ n. list_all f (take n es)) less_none ∙ all
  where
    less_none : (p - 0) ≡ p
    less_none = omega arith
all_behind f (suc count) zero es all = ap (λ n. list_all f (take n (drop (suc count) es))) none_left
  where
    none_left : (zero - suc count) ≡ 0
    none_left = omega arith
all_behind f (suc count) (suc p) [] all = ap (list_all f) (take_none (suc p - suc count))
  where
    take_none : (n : ℕ) → take {A = Entry} n [] ≡ []
    take_none zero = refl
    take_none (suc n) = refl
all_behind f (suc count) (suc p) (e ∷ es) all = ap (λ n. list_all f (take n (drop count es))) one_less ∙ all_behind f count p es (and_parts (f e) (list_all f (take p es)) all).1
  where
    one_less : (suc p - suc count) ≡ p - count
    one_less = omega arith

-- a GTID of entries that have come has come
all_come : (came : Gtids) (es : List Entry) (g : Gtid) → list_all (has_come came) es ≡ true → is_entry es g ≡ true → set.contains came g ≡ true
all_come came [] g all i = absurd (true≢false (sym i))
all_come came (e ∷ es) g all i =
    let two = and_parts (set.contains came e.gtid) (list_all (has_come came) es) all in
    elim (or_cases (same_gtid g e.gtid) (is_entry es g) i) [
      | inl same ↦ ap (set.contains came) (same_is_equal g e.gtid same) ∙ two.0
      | inr later ↦ all_come came es g two.1 later
    ]

purged_read : (came : Gtids) (j : JournalValue) (count p : ℕ) → HasRead came j p → length j.entries - length (drop count j.entries) ≤ p
    → HasRead came (purge_to count j) (p - (length j.entries - length (drop count j.entries)))
purged_read came j count p r near =
    let left : length (drop count j.entries) ≡ length j.entries - count = length-drop count j.entries in
    let there : length j.entries - (length j.entries - count) ≤ p = omega (left, near, arith) in
    record {
      purged = contains-is_subset gtid_total (previous_after_purge count j) came (λ g i.
          elim (or_cases (set.contains j.previous g) (set.contains (gtids_of (take count j.entries)) g) (sym (contains-union gtid_total j.previous (gtids_of (take count j.entries)) g) ∙ i)) [
            | inl before ↦ is_subset-contains gtid_total j.previous came r.purged g before
            | inr gone ↦ all_come came (take count j.entries) g (all_front (has_come came) count p j.entries there r.entries) (sym (in_entries (take count j.entries) g) ∙ gone)
          ]);
      short = omega (left, r.short, arith);
      entries = ap (λ n. list_all (has_come came) (take n (drop count j.entries))) same ∙ all_behind (has_come came) count p j.entries r.entries;
    }
  where
    same : (p - (length j.entries - length (drop count j.entries))) ≡ p - count
    same = let left : length (drop count j.entries) ≡ length j.entries - count = length-drop count j.entries in omega (left, near, r.short, arith)

-- what has been read of a binary log is read after an event of its node
pub journal_read : (came : Gtids) (old new : State) → Journals old new → (place : Option ℕ) → IsRead came old.journal place
    → IsRead came new.journal (shift_place (length old.journal.entries - length new.journal.entries) place)
journal_read came old new moves None r = tt
journal_read came old new (inl stays) (Some p) r =
    at_known came new.journal (length old.journal.entries - length new.journal.entries) p (λ near.
    let same : length new.journal.entries ≡ length old.journal.entries = ap (λ (j : JournalValue). length j.entries) stays.journal in
    subst (λ (j : JournalValue). HasRead came j (p - (length old.journal.entries - length new.journal.entries))) (sym stays.journal)
    (at_place came old.journal p _ (omega (same, arith)) r))
journal_read came old new (inr (inl appends)) (Some p) r =
    at_known came new.journal (length old.journal.entries - length new.journal.entries) p (λ near.
    let more : length new.journal.entries ≡ length old.journal.entries + 1 = ap (λ (j : JournalValue). length j.entries) appends.journal ∙ length_more old.journal.entries appends.entry in
    let q : p ≡ p - (length old.journal.entries - length new.journal.entries) = omega (more, arith) in
    subst (λ (j : JournalValue). HasRead came j (p - (length old.journal.entries - length new.journal.entries))) (sym appends.journal)
    (at_place came (with_last appends.entry old.journal) p _ q (record {
      purged = r.purged;
      short = let m : length (old.journal.entries ++ appends.entry ∷ []) ≡ length old.journal.entries + 1 = length_more old.journal.entries appends.entry in omega (m, r.short, arith);
      entries = ap (list_all (has_come came)) (take-append-le p old.journal.entries (appends.entry ∷ []) r.short) ∙ r.entries;
    })))
  where
    length_more : (es : List Entry) (e : Entry) → length (es ++ e ∷ []) ≡ length es + 1
    length_more es e = length-append es (e ∷ [])
journal_read came old new (inr (inr purges)) (Some p) r =
    at_known came new.journal (length old.journal.entries - length new.journal.entries) p (λ near.
    subst (λ (j : JournalValue). nat_le (length old.journal.entries - length j.entries) p ≡ true → HasRead came j (p - (length old.journal.entries - length j.entries))) (sym purges.journal)
    (λ n. purged_read came old.journal purges.count p r (leb-true _ p n)) near)

-- ---- one node makes an event

-- a channel of the node that makes an event: it reads what it read, and what it had received it has
pub record Keeps (node after : Node) (d : ℕ) : Type 0 where
  pub source : (k : ℕ) → finmap.get after.sources d ≡ Some k → finmap.get node.sources d ≡ Some k
  pub grew : (ch : ChannelValue) (A : Gtids) → slice_get after.replica.state.channels d ≡ Some ch → ch.asked ≡ Some A → Grew node.replica.state.channels d ch A

-- what was, before the event, of a channel that now has asked and reads a node
record WasReading (N : List Node) (j d k : ℕ) (ch : ChannelValue) (A : Gtids) : Type 0 where
  node : Node
  at : slice_get N j ≡ Some node
  source : finmap.get node.sources d ≡ Some k
  channel : Grew node.replica.state.channels d ch A

was_reading : (N : List Node) (i : ℕ) (node after : Node) → slice_get N i ≡ Some node → (j d k : ℕ) (y : Node) (ch : ChannelValue) (A : Gtids) → (j ≡ i → Keeps node after d)
    → slice_get (slice_set N i after) j ≡ Some y → finmap.get y.sources d ≡ Some k → slice_get y.replica.state.channels d ≡ Some ch → ch.asked ≡ Some A → WasReading N j d k ch A
was_reading N i node after at j d k y ch A keeps here source there asked =
    elim (get_set_cases N i after j y here) [
      | inl me ↦
          let keep = keeps me.0 in
          record {
            node = node;
            at = ap (slice_get N) me.0 ∙ at;
            source = keep.source k (ap (λ (x : Node). finmap.get x.sources d) me.1 ∙ source);
            channel = keep.grew ch A (ap (λ (x : Node). slice_get x.replica.state.channels d) me.1 ∙ there) asked;
          }
      | inr other ↦ record { node = y; at = other.1; source = source; channel = record { channel = ch; there = there; asked = asked; kept = λ g w. w } }
    ]

-- what a channel has read before an event of some node, it has read after it
pub read_after : (N : List Node) (i : ℕ) (node after : Node) → slice_get N i ≡ Some node → Journals node.replica.state after.replica.state → (j d k : ℕ) (place : Option ℕ) → (j ≡ i → Keeps node after d)
    → IsReadFrom N j d k place → IsReadFrom (slice_set N i after) j d k (cond (k == i) (shift_place (length node.replica.state.journal.entries - length after.replica.state.journal.entries) place) place)
read_after N i node after at moves j d k place keeps read y z ch A here from source there asked =
    let was = was_reading N i node after at j d k y ch A keeps here source there asked in
    let more : (j : JournalValue) (p : Option ℕ) → IsRead (come A was.channel.channel) j p → IsRead (come A ch) j p = read_more (come A was.channel.channel) (come A ch) (still_come was.node.replica.state.channels d ch A was.channel) in
    elim (get_set_cases N i after k z from) [
      | inl made ↦
          let r = read was.node node was.channel.channel A was.at (ap (slice_get N) made.0 ∙ at) was.source was.channel.there was.channel.asked in
          subst (λ b. IsRead (come A ch) z.replica.state.journal (cond b (shift_place (length node.replica.state.journal.entries - length after.replica.state.journal.entries) place) place)) (sym (eq-eqb k i made.0))
          (subst (λ (x : Node). IsRead (come A ch) x.replica.state.journal (shift_place (length node.replica.state.journal.entries - length after.replica.state.journal.entries) place)) made.1
          (journal_read (come A ch) node.replica.state after.replica.state moves place (more node.replica.state.journal place r)))
      | inr other ↦
          let r = read was.node z was.channel.channel A was.at other.1 was.source was.channel.there was.channel.asked in
          subst (λ b. IsRead (come A ch) z.replica.state.journal (cond b (shift_place (length node.replica.state.journal.entries - length after.replica.state.journal.entries) place) place)) (sym (other_number k i other.0)) (more z.replica.state.journal place r)
    ]
  where
    other_number : (m n : ℕ) → m ≢ n → (m == n) ≡ false
    other_number m n h = elim (cases_Bool (eqb m n)) [ inl same ↦ absurd (h (eqb-true m n same)) | inr apart ↦ apart ]

-- ---- all channels of a network

get_below : {A : Type 0} (xs : List A) (i : ℕ) → i < length xs → (x : A) × (slice_get xs i ≡ Some x)
get_below [] i h = absurd (omega arith)
get_below (x ∷ xs) zero h = (x, refl)
get_below (x ∷ xs) (suc i) h = get_below xs i (omega (h, arith))

-- the reader of a node, before
get_before : {A : Type 0} (xs ys : List A) (i : ℕ) (y : A) → length ys ≡ length xs → slice_get ys i ≡ Some y → (x : A) × (slice_get xs i ≡ Some x)
get_before xs ys i y same e = let below = slice_get_within ys i y e in get_below xs i (omega (same, below, arith))

-- one reader changes
pub reader_changes : (N : List Node) (R : List Places) (i : ℕ) (new : Places) → AreRead N R → ((d k : ℕ) → IsReadFrom N i d k (finmap.get new d)) → AreRead N (slice_set R i new)
reader_changes N R i new read now = record {
  count = length-set R i new ∙ read.count;
  read = λ j d k reader e. elim (get_set_cases R i new j reader e) [
    | inl me ↦ subst (λ (x : Places). IsReadFrom N j d k (finmap.get x d)) me.1 (subst (λ (n : ℕ). IsReadFrom N n d k (finmap.get new d)) (sym me.0) (now d k))
    | inr other ↦ read.read j d k reader other.1
  ];
}

nothing_read : (N : List Node) (i d k : ℕ) (place : Option ℕ) → place ≡ None → IsReadFrom N i d k place
nothing_read N i d k place none = subst (IsReadFrom N i d k) (sym none) (λ node source channel asked at from reads there with. tt)

pub put_read : (N : List Node) (R : List Places) (i c p : ℕ) (x : Places) → slice_get R i ≡ Some x → AreRead N R → ((k : ℕ) → IsReadFrom N i c k (Some p)) → AreRead N (slice_set R i (finmap.insert x c p))
put_read N R i c p x at read now = reader_changes N R i (finmap.insert x c p) read (λ d k.
    subst (IsReadFrom N i d k) (sym (finmap.get-insert nat_cmp_total x c p d ∙ ap (λ b. cond b (Some p) (finmap.get x d)) (unsigned_tied d c)))
    (elim (cases_Bool (d == c)) [
      | inl same ↦ subst (λ b. IsReadFrom N i d k (cond b (Some p) (finmap.get x d))) (sym same) (subst (λ (n : ℕ). IsReadFrom N i n k (Some p)) (sym (eqb-true d c same)) (now k))
      | inr other ↦ subst (λ b. IsReadFrom N i d k (cond b (Some p) (finmap.get x d))) (sym other) (read.read i d k x at)
    ]))

pub forget_read : (N : List Node) (R : List Places) (i c : ℕ) (x : Places) → slice_get R i ≡ Some x → AreRead N R → AreRead N (slice_set R i (finmap.remove x c))
forget_read N R i c x at read = reader_changes N R i (finmap.remove x c) read (λ d k.
    subst (IsReadFrom N i d k) (sym (finmap.get-remove nat_cmp_total x c d ∙ ap (λ b. cond b None (finmap.get x d)) (unsigned_tied d c)))
    (elim (cases_Bool (d == c)) [
      | inl same ↦ nothing_read N i d k (cond (d == c) None (finmap.get x d)) (ap (λ b. cond b None (finmap.get x d)) same)
      | inr other ↦ subst (λ b. IsReadFrom N i d k (cond b None (finmap.get x d))) (sym other) (read.read i d k x at)
    ]))

-- no reader knows a place
pub new_read : (N : List Node) (R : List Places) → length R ≡ length N → ((i : ℕ) (x : Places) → slice_get R i ≡ Some x → x ≡ finmap.empty) → AreRead N R
new_read N R same new = record {
  count = same;
  read = λ i d k x at. nothing_read N i d k (finmap.get x d) (ap (λ (m : Places). finmap.get m d) (new i x at) ∙ finmap.get-empty nat_cmp d);
}

unmoved : (count : ℕ) (place : Option ℕ) → count ≡ 0 → shift_place count place ≡ place
unmoved count None e = refl
unmoved count (Some p) e = ap (λ n. shift_place n (Some p)) e ∙ (λ j. cond (near j) (Some (same j)) None)
  where
    near : nat_le 0 p ≡ true
    near = grind (arith, nat_tests)

    same : (p - 0) ≡ p
    same = omega arith

both_ways : {A : Type 0} (b : Bool) (x y : A) → x ≡ y → cond b x y ≡ y
both_ways true x y e = e
both_ways false x y e = refl

-- a node makes an event that leaves its binary log as it was, and each of its channels keeps what it has, or its place is not known
pub made_read : (N : List Node) (R : List Places) (i : ℕ) (node after : Node) → slice_get N i ≡ Some node → after.replica.state.journal ≡ node.replica.state.journal → after.replica.state.executed ≡ node.replica.state.executed
    → ((d : ℕ) → Keeps node after d ⊎ ((x : Places) → slice_get R i ≡ Some x → finmap.get x d ≡ None)) → AreRead N R → AreRead (slice_set N i after) R
made_read N R i node after at same executed keeps read = record {
  count = read.count ∙ sym (length-set N i after);
  read = λ j d k x e. elim (cases_Bool (j == i)) [
    | inl me ↦ elim (keeps d) [
      | inl keep ↦ all j d k x e (λ m. keep)
      | inr unknown ↦ nothing_read (slice_set N i after) j d k (finmap.get x d) (unknown x (ap (slice_get R) (sym (eqb-true j i me)) ∙ e))
    ]
    | inr other ↦ all j d k x e (λ m. absurd (true≢false (sym (eq-eqb j i m) ∙ other)))
  ];
}
  where
    gone : (length node.replica.state.journal.entries - length after.replica.state.journal.entries) ≡ 0
    gone = let l : length after.replica.state.journal.entries ≡ length node.replica.state.journal.entries = ap (λ (j : JournalValue). length j.entries) same in omega (l, arith)

    all : (j d k : ℕ) (x : Places) → slice_get R j ≡ Some x → (j ≡ i → Keeps node after d) → IsReadFrom (slice_set N i after) j d k (finmap.get x d)
    all j d k x e keep =
        subst (IsReadFrom (slice_set N i after) j d k) (both_ways (k == i) _ _ (unmoved _ (finmap.get x d) gone))
        (read_after N i node after at (inl (record { journal = same; executed = executed })) j d k (finmap.get x d) keep (read.read j d k x e))

-- a node makes an event of its own, and the places of the channels that read it move
pub acted_read : (N : List Node) (R R' : List Places) (i : ℕ) (node after : Node) → slice_get N i ≡ Some node → Journals node.replica.state after.replica.state → ((d : ℕ) → Keeps node after d) → AreRead N R
    → AreAllMoved (slice_set N i after) i (length node.replica.state.journal.entries - length after.replica.state.journal.entries) R R' → AreRead (slice_set N i after) R'
acted_read N R R' i node after at moves keeps read all = record {
  count = all.length_is ∙ (read.count ∙ sym (length-set N i after));
  read = λ j d k x e y z ch A here from source there asked.
      let old = get_before R R' j x all.length_is e in
      let count = length node.replica.state.journal.entries - length after.replica.state.journal.entries in
      let place = all.each j y old.0 x here old.1 e d in
      let reads_k : place_after y.sources i count d (finmap.get old.0 d) ≡ cond (k == i) (shift_place count (finmap.get old.0 d)) (finmap.get old.0 d) =
      ap (λ o. cond (option_map_or (λ source. source == i) o false) (shift_place count (finmap.get old.0 d)) (finmap.get old.0 d)) source in
      subst (IsRead (come A ch) z.replica.state.journal) (sym (place ∙ reads_k))
      (read_after N i node after at moves j d k (finmap.get old.0 d) (λ m. keeps d) (read.read j d k old.0 old.1) y z ch A here from source there asked);
}

-- nothing was purged
pub none_moved : (N : List Node) (R : List Places) (i count : ℕ) → count ≡ 0 → AreAllMoved N i count R R
none_moved N R i count none = record {
  length_is = refl;
  each = λ j node before after n b a d.
      ap (λ (m : Places). finmap.get m d) (same_Some after before (sym a ∙ b)) ∙ sym (both_ways (reads node.sources d i) _ _ (unmoved count (finmap.get before d) none));
}

-- ---- what the calls leave

-- a Position leaves the binary log as it was
record KeepsLog (s : State) (after : core.Step) : Type 0 where
  journal : after.1.journal ≡ s.journal
  executed : after.1.executed ≡ s.executed

position_log : (s : State) (c : ℕ) → KeepsLog s (core.position_on c s)
position_log s c =
    on_option (KeepsLog s) (λ channel. (Ask (core.ask s channel), core.with_channel s c (record channel { asked = Some (core.ask s channel) }))) (slice_get s.channels c) _
    (λ none. record { journal = refl; executed = refl })
    (λ x there. record { journal = refl; executed = refl })

-- ... and so does a Receive
receive_log : (site : Site) (s : State) (c : ℕ) (entry : Entry) → KeepsLog s (core.receive site c entry s)
receive_log site s c entry =
    on_option (KeepsLog s) _ (slice_get s.channels c) _
    (λ none. record { journal = refl; executed = refl })
    (λ x there. on_option (KeepsLog s) _ x.asked _
    (λ none. record { journal = refl; executed = refl })
    (λ B b. on_option (KeepsLog s) (λ fault. (NotInSchema fault, s)) (misfit site.schema entry.txn) _
    (λ n. on_test (KeepsLog s) (is_full x) _ _
    (λ m. record { journal = refl; executed = refl })
    (λ m. record { journal = refl; executed = refl }))
    (λ fault n. record { journal = refl; executed = refl })))

-- a node that is as it was
keeps_all : (x : Node) (d : ℕ) → Keeps x x d
keeps_all x d = record { source = λ k e. e; grew = λ ch A e a. grew_same x.replica.state.channels d ch A e a }

position_made : (N : List Node) (R : List Places) (i c k : ℕ) (x y : Node) (p : Places) (q : Reply) → slice_get N i ≡ Some x → slice_get R i ≡ Some p → Makes x (Position c) (finmap.insert x.sources c k) q y
    → AreRead N R → AreRead (slice_set N i y) (slice_set R i (finmap.remove p c))
position_made N R i c k x y p q at there m read =
    let log = position_log x.replica.state c in
    made_read N (slice_set R i (finmap.remove p c)) i x y at (ap (λ (r : Replica). r.state.journal) m.replica ∙ log.journal) (ap (λ (r : Replica). r.state.executed) m.replica ∙ log.executed)
    (λ d. elim (cases_Bool (d == c)) [
      | inl same ↦ inr (λ z e.
          ap (λ (o : Places). finmap.get o d) (same_Some z (finmap.remove p c) (sym e ∙ set_there R i p (finmap.remove p c) there))
          ∙ (finmap.get-remove nat_cmp_total p c d ∙ ap (λ b. cond b None (finmap.get p d)) (unsigned_tied d c ∙ same)))
      | inr other ↦ inl (record {
        source = λ n e. sym (ap (λ (o : Sources). finmap.get o d) m.sources_are ∙ (finmap.get-insert nat_cmp_total x.sources c k d ∙ ap (λ b. cond b (Some k) (finmap.get x.sources d)) (unsigned_tied d c ∙ other))) ∙ e;
        grew = λ ch A e a. (position_grew x.replica.state c).grew d ch A (λ same. true≢false (sym (eq-eqb d c same) ∙ other)) (ap (λ (r : Replica). slice_get r.state.channels d) (sym m.replica) ∙ e) a;
      })
    ])
    (forget_read N R i c p there read)

-- what a Position leaves, and what it leaves where it was not made
pub position_keeps : (N : List Node) (R : List Places) (i c k : ℕ) (x y : Node) (p : Places) (r : Result Reply SetFault) → slice_get N i ≡ Some x → slice_get R i ≡ Some p
    → IfOk r (λ q. Makes x (Position c) (finmap.insert x.sources c k) q y) → OnErr r (y ≡ x) → AreRead N R → AreRead (slice_set N i y) (slice_set R i (finmap.remove p c))
position_keeps N R i c k x y p (Ok q) at there made same read = position_made N R i c k x y p q at there made read
position_keeps N R i c k x y p (Err f) at there made same read =
    subst (λ (z : Node). AreRead (slice_set N i z) (slice_set R i (finmap.remove p c))) (sym same)
    (made_read N (slice_set R i (finmap.remove p c)) i x x at refl refl (λ d. inl (keeps_all x d)) (forget_read N R i c p there read))

-- the same of a Receive
pub receive_keeps : (N : List Node) (R : List Places) (i c : ℕ) (e : Entry) (r : Result Reply SetFault) (new : List Node) → IfOk r (λ q. MakesAt N i (Receive c e) (λ n. n.sources) q new) → OnErr r (new ≡ N) → AreRead N R → AreRead new R
receive_keeps N R i c e (Err f) new made same read = subst (λ (M : List Node). AreRead M R) (sym same) read
receive_keeps N R i c e (Ok q) new made same read =
    let s = made.node.replica.state in
    let log = receive_log made.node.replica.site s c e in
    subst (λ (M : List Node). AreRead M R) (sym made.others)
    (made_read N R i made.node made.after made.at (ap (λ (r : Replica). r.state.journal) made.makes.replica ∙ log.journal) (ap (λ (r : Replica). r.state.executed) made.makes.replica ∙ log.executed)
    (λ d. inl (record {
      source = λ k h. ap (λ (o : Sources). finmap.get o d) (sym made.makes.sources_are) ∙ h;
      grew = λ ch A h a. (receive_grew made.node.replica.site s c e).grew d ch A (ap (λ (r : Replica). slice_get r.state.channels d) (sym made.makes.replica) ∙ h) a;
    }))
    read)

-- the same of an event of a node's own
pub act_keeps : (N : List Node) (R R' : List Places) (i : ℕ) (e : Event) (q : Reply) (new : List Node) → is_for_network e ≡ false → MakesAt N i e (λ n. n.sources) q new → AreRead N R
    → AreAllMoved new i (entries_at N i - entries_at new i) R R' → AreRead new R'
act_keeps N R R' i e q new own made read moves =
    subst (λ (M : List Node). AreRead M R') (sym made.others)
    (acted_read N R R' i made.node made.after made.at
    (subst (λ (r : Replica). Journals made.node.replica.state r.state) (sym made.makes.replica) m.journals)
    (λ d. record {
      source = λ k h. ap (λ (o : Sources). finmap.get o d) (sym made.makes.sources_are) ∙ h;
      grew = λ ch A h a. grew_as_before made.node.replica.state.channels d ch A (m.channels own d ch A (ap (λ (r : Replica). slice_get r.state.channels d) (sym made.makes.replica) ∙ h) a);
    })
    read
    (subst (λ (n : ℕ). AreAllMoved (slice_set N i made.after) i n R R') count (subst (λ (M : List Node). AreAllMoved M i (entries_at N i - entries_at M i) R R') made.others moves)))
  where
    m : Moves made.node.replica.state e (core.step made.node.replica.site made.node.replica.state e)
    m = step_moves made.node.replica.site made.node.replica.state e

    entries : Option Node → ℕ
    entries o = option_map_or (λ (n : Node). length n.replica.state.journal.entries) o 0

    count : (entries_at N i - entries_at (slice_set N i made.after) i) ≡ (length made.node.replica.state.journal.entries - length made.after.replica.state.journal.entries)
    count = λ j. entries (made.at j) - entries (set_there N i made.node made.after made.at j)

-- ---- one node's places after another

-- the nodes below a number have moved theirs, and the others have not
pub record AreAllMovedTo (n : ℕ) (nodes : List Node) (k count : ℕ) (old new : List Places) : Type 0 where
  pub length_is : length new ≡ length old
  pub done : (i : ℕ) (node : Node) (before after : Places) → i < n → slice_get nodes i ≡ Some node → slice_get old i ≡ Some before → slice_get new i ≡ Some after → AreMoved node.sources k count before after
  pub rest : (i : ℕ) → n ≤ i → slice_get new i ≡ slice_get old i

pub none_yet : (nodes : List Node) (k count : ℕ) (old : List Places) → AreAllMovedTo 0 nodes k count old old
none_yet nodes k count old = record { length_is = refl; done = λ i node before after h. absurd (omega (h, arith)); rest = λ i h. refl }

set_elsewhere : {A : Type 0} (xs : List A) (c : ℕ) (v : A) (i : ℕ) → i ≢ c → slice_get (slice_set xs c v) i ≡ slice_get xs i
set_elsewhere [] c v i n = refl
set_elsewhere (x ∷ xs) zero v zero n = absurd (n refl)
set_elsewhere (x ∷ xs) zero v (suc i) n = refl
set_elsewhere (x ∷ xs) (suc c) v zero n = refl
set_elsewhere (x ∷ xs) (suc c) v (suc i) n = set_elsewhere xs c v i (λ e. n (ap suc e))

pub one_node_more : (n : ℕ) (nodes : List Node) (k count : ℕ) (old new : List Places) (node : Node) (p q : Places) → AreAllMovedTo n nodes k count old new → slice_get nodes n ≡ Some node → slice_get new n ≡ Some p → AreMoved node.sources k count p q
    → AreAllMovedTo (n + 1) nodes k count old (slice_set new n q)
one_node_more n nodes k count old new node p q m at there moves = record {
  length_is = length-set new n q ∙ m.length_is;
  done = λ i x before after h here was is. elim (get_set_cases new n q i after is) [
    | inl me ↦
        let is_p : p ≡ before = same_Some p before (sym there ∙ (m.rest n (omega arith) ∙ (ap (slice_get old) (sym me.0) ∙ was))) in
        let is_node : node ≡ x = same_Some node x (sym at ∙ (ap (slice_get nodes) (sym me.0) ∙ here)) in
        subst (λ (z : Node). AreMoved z.sources k count before after) is_node (subst (λ (z : Places). AreMoved node.sources k count z after) is_p (subst (AreMoved node.sources k count p) me.1 moves))
    | inr other ↦ m.done i x before after (let apart = other.0 in less i h apart) here was other.1
  ];
  rest = λ i h. set_elsewhere new n q i (λ e. above i h e) ∙ m.rest i (omega (h, arith));
}
  where
    less : (i : ℕ) → i < n + 1 → (i ≢ n) → i < n
    less i h apart = elim (lt_cases i n h) [ inl below ↦ below | inr same ↦ absurd (apart same) ]

    above : (i : ℕ) → n + 1 ≤ i → i ≡ n → ⊥
    above i h e = omega (h, e, arith)

pub all_nodes_moved : (n : ℕ) (nodes : List Node) (k count : ℕ) (old new : List Places) → length nodes ≤ n → AreAllMovedTo n nodes k count old new → AreAllMoved nodes k count old new
all_nodes_moved n nodes k count old new far m = record {
  length_is = m.length_is;
  each = λ i node before after at was is. m.done i node before after (let below = slice_get_within nodes i node at in omega (below, far, arith)) at was is;
}

-- ---- the first entry that has not come

find_by : (f : Entry → Bool) (e : Entry) (rest : Option Entry) → f e ≡ true → cond (not (f e)) (Some e) rest ≡ rest
find_by f e rest h = ap (λ b. cond (not b) (Some e) rest) h

pub next_is : (f : Entry → Bool) (es : List Entry) (n : ℕ) (x : Entry) → list_all f (take n es) ≡ true → slice_get es n ≡ Some x → f x ≡ false → find (λ e. not (f e)) es ≡ slice_get es n
next_is f [] n x all at out = none_some x at
next_is f (e ∷ es) zero x all at out = ap (λ b. cond (not b) (Some e) (find (λ y. not (f y)) es)) (ap f (same_Some e x at) ∙ out)
next_is f (e ∷ es) (suc n) x all at out =
    let two = and_parts (f e) (list_all f (take n es)) all in
    find_by f e (find (λ y. not (f y)) es) two.0 ∙ next_is f es n x two.1 at out

pub next_none : (f : Entry → Bool) (es : List Entry) (n : ℕ) → list_all f (take n es) ≡ true → length es ≤ n → find (λ e. not (f e)) es ≡ slice_get es n
next_none f [] n all far = refl
next_none f (e ∷ es) zero all far = absurd (omega (far, arith))
next_none f (e ∷ es) (suc n) all far =
    let two = and_parts (f e) (list_all f (take n es)) all in
    find_by f e (find (λ y. not (f y)) es) two.0 ∙ next_none f es n two.1 (omega (far, arith))

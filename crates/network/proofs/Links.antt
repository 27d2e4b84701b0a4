-- What a channel has received of its source's history, and how one event of its replica changes that.
use Rattle.std.proofs.Common.{◌≡◌, ◌≢◌, ℕ, Bool, true, false, cond, not, ◌||◌, ◌⊎◌, inl, inr, List, [], ◌∷◌, ◌++◌, length, Some, None, Ok, Err, refl, sym, ap, ◌∙◌, subst, append_assoc, eqb}
use Rattle.std.specs.Prelude.{slice_get, nat_le}
use Rattle.std.specs.Option.{option_and_then}
use Rattle.std.specs.List.{filter, list_any}
use Rattle.std.specs.Ordering.{nat_cmp, eq_by_cmp}
use Rattle.std.specs.FinMap as finmap
use Rattle.std.specs.FinMap.{get-insert}
use Rattle.std.specs.FinSet as set
use Rattle.std.specs.FinSet.{contains-union, is_subset-contains, contains-is_subset}
use Rattle.std.proofs.lemmas.Bool.{or_cases, or_left, or_right, eqb-true, eq-eqb, false_from_ne_true}
use Rattle.std.specs.Cmp.{nat_cmp_total, unsigned_tied}
use Rattle.std.proofs.lemmas.List.Elements.{filter-append}
use Rattle.std.proofs.lemmas.Option.{same_Some}
use Rattle.lemmas.proofs.Numbers.{eqb_other}
use Rattle.lemmas.proofs.Options.{none_some, on_option}
use Rattle.lemmas.proofs.Lists.{get_push_cases, get_set_cases}
use Rattle.lemmas.proofs.Tests.{on_test, not_both}
use Rattle.lemmas.proofs.SameGtid.{gtid_total, same_itself}
use Rattle.gtid_text.specs.declared.Gtid.{Gtid}
use Rattle.gtid_text.specs.Gtids.{gtid_cmp, same_gtid}
use Rattle.gtid_set.specs.Sets.{Gtids}
use Rattle.rows.specs.Fits.{misfit}
use Rattle.journal.specs.declared.Entry.{Entry}
use Rattle.journal.specs.Journals.{JournalValue, whole}
use Rattle.auto_position.specs.declared.PositionFault.{PositionFault}
use Rattle.auto_position.specs.Sending.{is_wanted, own_of, sent}
use Rattle.apply_channel.specs.Channels.{ChannelValue, Received, received_gtids, same_name, is_full}
use Rattle.replica_core.specs.declared.event.Event.{Event}
use Rattle.replica_core.specs.declared.event.Event.TheVariants.{OpenChannel, Position, Receive, Take, Commit, Rollback, Restart, Local, Purge, Look}
use Rattle.replica_core.specs.declared.event.Reply.TheVariants.{NotInSchema, Ask}
use Rattle.replica_core.specs.State.{State, Site}
use Rattle.replica_core.specs.Machine.{Step, ask, with_channel, open_channel, position_on, receive, step}
use Rattle.history.specs.World.{OrderedWorld}
use Rattle.history.proofs.Covering.{entries_append}
use Rattle.convergence.specs.Faithful.{Since, since_after, WasSent, IsFaithfulStep}
use Rattle.convergence.proofs.Invariant.{Stands, Invariant}
use Rattle.convergence.proofs.Receiving.{received_entry}
use Rattle.network.specs.Machine.{come, next_of, is_for_network}
use Rattle.network.specs.Nodes.{Sources}
use Rattle.network.specs.Sending.{is_entry}
use Rattle.network.proofs.Prefixes.{next_is_sent}
use Rattle.network.proofs.Moving.{step_moves}
use Rattle.network.proofs.Coming.{stands_received, received_stands}
use Rattle.convergence.proofs.Permuting.{entry_is_in}
use Rattle.network.proofs.Logs.{IsLog, unpurged}

-- What a channel has received since it asked is a prefix of what of this history isn't asked with, and all that it has ever
-- received is among these or was asked with.
pub record Link (asked : Gtids) (since : List Entry) (ch : ChannelValue) (log : List Entry) : Type 0 where
  pub rest : List Entry
  pub prefix : filter (is_wanted asked) log ≡ since ++ rest
  pub come : (g : Gtid) → Stands g ch.received → (set.contains asked g ≡ true) ⊎ (is_entry since g ≡ true)

-- the history goes on
pub link_more : (asked : Gtids) (since : List Entry) (ch : ChannelValue) (log more : List Entry) → Link asked since ch log → Link asked since ch (log ++ more)
link_more asked since ch log more l = record {
  rest = l.rest ++ filter (is_wanted asked) more;
  prefix = filter-append (is_wanted asked) log more ∙ (ap (λ es. es ++ filter (is_wanted asked) more) l.prefix ∙ append_assoc since l.rest (filter (is_wanted asked) more));
  come = l.come;
}

-- the histories that channels read
abbrev pub Histories : Type 1
Histories = ℕ → List Entry → Type 0

-- the channels that have asked are linked with the histories that they read
abbrev pub AreLinked : List ChannelValue → Since → Sources → Histories → Type 0
AreLinked channels since sources history = (c : ℕ) (ch : ChannelValue) (A : Gtids) (k : ℕ) (log : List Entry) → slice_get channels c ≡ Some ch → ch.asked ≡ Some A → finmap.get sources c ≡ Some k → history k log → Link A (since c) ch log

pub record Linked (s : State) (since : Since) (sources : Sources) (history : Histories) (event : Event) (after : Step) : Type 0 where
  pub links : AreLinked after.1.channels (since_after event after.0 since) sources history

-- ---- events of a node's own

pub record KeepsSince (since : Since) (c : ℕ) (event : Event) (after : Step) : Type 0 where
  pub same : since_after event after.0 since c ≡ since c

below_length : {A : Type 0} (xs : List A) (c : ℕ) (x : A) → slice_get xs c ≡ Some x → eqb c (length xs) ≡ false
below_length xs c x e = eqb_other c (length xs) (λ same. none_some x (sym (past xs) ∙ (ap (slice_get xs) (sym same) ∙ e)))
  where
    past : {A : Type 0} (ys : List A) → slice_get ys (length ys) ≡ None
    past [] = refl
    past (y ∷ ys) = past ys

open_keeps_since : (s : State) (since : Since) (c : ℕ) (ch : ChannelValue) → slice_get s.channels c ≡ Some ch → (name : List ℕ) (preserve : Bool) → KeepsSince since c (OpenChannel name preserve) (open_channel name preserve s)
open_keeps_since s since c ch e name preserve =
    on_test (KeepsSince since c (OpenChannel name preserve)) (list_any (λ (x : ChannelValue). same_name x.name name) s.channels) _ _
    (λ f. record { same = refl })
    (λ f. on_test (KeepsSince since c (OpenChannel name preserve)) (nat_le 256 (length s.channels)) _ _
    (λ g. record { same = refl })
    (λ g. record { same = ap (λ b. cond b [] (since c)) (below_length s.channels c ch e) }))

own_keeps_since : (site : Site) (s : State) (since : Since) (e : Event) → is_for_network e ≡ false → (c : ℕ) (ch : ChannelValue) → slice_get s.channels c ≡ Some ch → since_after e (step site s e).0 since c ≡ since c
own_keeps_since site s since (OpenChannel name preserve) n c ch i = (open_keeps_since s since c ch i name preserve).same
own_keeps_since site s since (Position d) n c ch i = cc
own_keeps_since site s since (Receive d entry) n c ch i = cc
own_keeps_since site s since (Take seat d p) n c ch i = refl
own_keeps_since site s since (Commit seat) n c ch i = refl
own_keeps_since site s since (Rollback seat) n c ch i = refl
own_keeps_since site s since (Restart d) n c ch i = refl
own_keeps_since site s since (Local t) n c ch i = refl
own_keeps_since site s since (Purge k) n c ch i = refl
own_keeps_since site s since Look n c ch i = refl

pub own_links : (site : Site) (s : State) (since : Since) (sources : Sources) (history : Histories) (e : Event) → is_for_network e ≡ false → AreLinked s.channels since sources history → Linked s since sources history e (step site s e)
own_links site s since sources history e n linked = record {
  links = λ c ch A k log i a r h.
      let was = (step_moves site s e).channels n c ch A i a in
      let l = linked c was.channel A k log was.there was.asked r h in
      subst (λ es. Link A es ch log) (sym (own_keeps_since site s since e n c was.channel was.there)) (record { rest = l.rest; prefix = l.prefix; come = λ g w. l.come g (was.received g w) });
}

-- ---- a Position

get_inserted : (sources : Sources) (c k d : ℕ) → finmap.get (finmap.insert sources c k) d ≡ cond (eq_by_cmp nat_cmp d c) (Some k) (finmap.get sources d)
get_inserted sources c k d = get-insert nat_cmp_total sources c k d

other_source : (d c : ℕ) → d ≢ c → eq_by_cmp nat_cmp d c ≡ false
other_source d c n = false_from_ne_true (eq_by_cmp nat_cmp d c) (λ e. n (eqb-true d c (sym (unsigned_tied d c) ∙ e)))

pub position_links : (s : State) (since : Since) (sources : Sources) (history : Histories) (c k : ℕ) (ch : ChannelValue) → slice_get s.channels c ≡ Some ch → AreLinked s.channels since sources history
    → Linked s since (finmap.insert sources c k) history (Position c) (position_on c s)
position_links s since sources history c k ch here linked =
    on_option (Linked s since (finmap.insert sources c k) history (Position c)) (λ channel. (Ask (ask s channel), with_channel s c (record channel { asked = Some (ask s channel) }))) (slice_get s.channels c) _
    (λ none. none_some ch (sym none ∙ here))
    (λ x there. record {
      links = λ d y A l log i a r h. elim (get_set_cases s.channels c (record x { asked = Some (ask s x) }) d y i) [
        | inl at ↦
            let is_A : ask s x ≡ A = same_Some (ask s x) A (ap (λ (z : ChannelValue). z.asked) at.1 ∙ a) in
            subst (λ es. Link A es y log) (sym (ap (λ b. cond b [] (since d)) (eq-eqb d c at.0)))
            (record {
              rest = filter (is_wanted A) log;
              prefix = refl;
              come = λ g w. inl (ap (λ (X : Gtids). set.contains X g) (sym is_A)
                  ∙ (contains-union gtid_total s.executed (received_gtids x.received) g
                  ∙ or_right (set.contains s.executed g) (set.contains (received_gtids x.received) g) (stands_received x.received g (subst (λ (z : ChannelValue). Stands g z.received) (sym at.1) w))));
            })
        | inr other ↦
            let reads : finmap.get sources d ≡ Some l = sym (get_inserted sources c k d ∙ ap (λ b. cond b (Some k) (finmap.get sources d)) (other_source d c other.0)) ∙ r in
            subst (λ es. Link A es y log) (sym (ap (λ b. cond b [] (since d)) (eqb_other d c other.0))) (linked d y A l log other.1 a reads h)
      ];
    })

-- ---- a Receive

sends_all : (b c : Bool) (x y : PositionFault) (all : List Entry) → b ≡ true → c ≡ true → cond (not b) (Err x) (cond (not c) (Err y) (Ok all)) ≡ Ok all
sends_all true true x y all p q = refl
sends_all true false x y all p q = cc
sends_all false c x y all p q = cc

nothing_in : (X : Gtids) → set.is_subset (set.empty {R = gtid_cmp}) X ≡ true
nothing_in X = contains-is_subset gtid_total set.empty X (λ g h. not_both (set.contains (set.empty {R = gtid_cmp}) g) h (set.contains-empty gtid_cmp g))

-- what a source sends that has purged nothing, to one that does not know its UUID
sent_whole : (log : List Entry) (A : Gtids) → sent (unpurged log) A None ≡ Ok (filter (is_wanted A) log)
sent_whole log A = sends_all (set.is_subset (set.empty {R = gtid_cmp}) A) (set.is_subset (own_of A None) (whole (unpurged log))) _ _ (filter (is_wanted A) log) (nothing_in A) (nothing_in (whole (unpurged log)))

-- the source's first entry that has not come goes on with what was sent
pub record Next (world : OrderedWorld) (A : Gtids) (since : List Entry) (entry : Entry) (log : List Entry) : Type 0 where
  pub more : List Entry
  pub prefix : filter (is_wanted A) log ≡ (since ++ entry ∷ []) ++ more
  pub sent : WasSent world A (since ++ entry ∷ [])

pub next_entry : (world : OrderedWorld) (s : State) (since : Since) → Invariant world s since → (c : ℕ) (ch : ChannelValue) (A : Gtids) (purged : List Entry) (j : JournalValue) (entry : Entry)
    → slice_get s.channels c ≡ Some ch → IsLog world purged j → Link A (since c) ch (purged ++ j.entries)
    → set.is_subset j.previous (come A ch) ≡ true → next_of (come A ch) j ≡ Some entry → Next world A (since c) entry (purged ++ j.entries)
next_entry world s since inv c ch A purged j entry here log l kept next =
    let came : Gtid → Bool = set.contains (come A ch) in
    let in_come : (g : Gtid) → came g ≡ (set.contains A g || set.contains (received_gtids ch.received) g) = λ g. contains-union gtid_total A (received_gtids ch.received) g in
    let n = next_is_sent A (since c) l.rest purged j.entries came entry log.faithful.new l.prefix
    (λ g h. elim (or_cases (set.contains A g) (set.contains (received_gtids ch.received) g) (sym (in_come g) ∙ h)) [
      | inl a ↦ inl a
      | inr r ↦ l.come g (received_stands ch.received g r)
    ])
    (λ g a. in_come g ∙ or_left (set.contains A g) (set.contains (received_gtids ch.received) g) a)
    (λ g h.
    let x = entry_is_in (since c) g h in
    let w = (inv.channels c ch here).recent x.0 x.1 in
    in_come g ∙ or_right (set.contains A g) (set.contains (received_gtids ch.received) g) (stands_received ch.received g (w.0, w.1, w.2, w.3 ∙ sym x.2)))
    (λ g h. is_subset-contains gtid_total j.previous (come A ch) kept g (log.previous g ∙ h))
    next in
    record {
      more = n.0;
      prefix = n.1;
      sent = record { journal = unpurged (purged ++ j.entries); own = None; rest = n.0; faithful = log.faithful; front = sent_whole (purged ++ j.entries) A ∙ ap Ok n.1 };
    }

pub record Receives (world : OrderedWorld) (site : Site) (s : State) (since : Since) (sources : Sources) (history : Histories) (event : Event) (after : Step) : Type 0 where
  pub links : AreLinked after.1.channels (since_after event after.0 since) sources history
  pub faithful : IsFaithfulStep world site s since event after.0

pub receive_links : (world : OrderedWorld) (site : Site) (s : State) (since : Since) (sources : Sources) (history : Histories) (c k : ℕ) (ch : ChannelValue) (A : Gtids) (entry : Entry)
    → slice_get s.channels c ≡ Some ch → ch.asked ≡ Some A → finmap.get sources c ≡ Some k → AreLinked s.channels since sources history
    → ((log : List Entry) → history k log → Next world A (since c) entry log) → WasSent world A (since c ++ entry ∷ [])
    → Receives world site s since sources history (Receive c entry) (receive site c entry s)
receive_links world site s since sources history c k ch A entry here asked reads linked next was_sent =
    on_option (Receives world site s since sources history (Receive c entry)) _ (slice_get s.channels c) _
    (λ none. none_some ch (sym none ∙ here))
    (λ x there. on_option (Receives world site s since sources history (Receive c entry)) _ x.asked _
    (λ none. none_some A (sym none ∙ (ap (λ (y : ChannelValue). y.asked) (same_Some x ch (sym there ∙ here)) ∙ asked)))
    (λ B b. on_option (Receives world site s since sources history (Receive c entry)) (λ fault. (NotInSchema fault, s)) (misfit site.schema entry.txn) _
    (λ n. on_test (Receives world site s since sources history (Receive c entry)) (is_full x) _ _
    (λ m. record { links = linked; faithful = tt })
    (λ m. record {
      links = λ d y D l log i a r h. elim (get_set_cases s.channels c (record x { received = x.received ++ received_entry s entry ∷ [] }) d y i) [
        | inl at ↦
            let is_x : x ≡ ch = same_Some x ch (sym there ∙ here) in
            let is_A : D ≡ A = same_Some D A (sym (ap (λ (z : ChannelValue). z.asked) at.1 ∙ a) ∙ (ap (λ (z : ChannelValue). z.asked) is_x ∙ asked)) in
            let is_k : l ≡ k = same_Some l k (sym r ∙ (ap (finmap.get sources) at.0 ∙ reads)) in
            let q = next log (subst (λ (n : ℕ). history n log) is_k h) in
            let old = linked c ch A k log here asked reads (subst (λ (n : ℕ). history n log) is_k h) in
            subst (λ es. Link D es y log) (sym (ap (λ b. cond b (since c ++ entry ∷ []) (since d)) (eq-eqb d c at.0)))
            (subst (λ (X : Gtids). Link X (since c ++ entry ∷ []) y log) (sym is_A) (record {
              rest = q.more;
              prefix = q.prefix;
              come = λ g w. elim (get_push_cases x.received (received_entry s entry) w.0 w.1 (ap (λ (z : ChannelValue). slice_get z.received w.0) at.1 ∙ w.2)) [
                | inl was ↦ elim (old.come g (w.0, w.1, ap (λ (z : ChannelValue). slice_get z.received w.0) (sym is_x) ∙ was, w.3)) [
                  | inl a ↦ inl a
                  | inr e ↦ inr (entries_append (since c) (entry ∷ []) g ∙ or_left (is_entry (since c) g) (is_entry (entry ∷ []) g) e)
                ]
                | inr last ↦
                    let is_g : g ≡ entry.gtid = sym w.3 ∙ ap (λ (z : Received). z.gtid) (sym last.1) in
                    inr (entries_append (since c) (entry ∷ []) g ∙ or_right (is_entry (since c) g) (is_entry (entry ∷ []) g) (or_left (same_gtid g entry.gtid) false (ap (same_gtid g) (sym is_g) ∙ same_itself g)))
              ];
            }))
        | inr other ↦ subst (λ es. Link D es y log) (sym (ap (λ b. cond b (since c ++ entry ∷ []) (since d)) (eqb_other d c other.0))) (linked d y D l log other.1 a r h)
      ];
      faithful = λ B b. subst (λ (X : Gtids). WasSent world X (since c ++ entry ∷ [])) (same_Some A B (sym (ap (option_and_then (λ (z : ChannelValue). z.asked)) here ∙ asked) ∙ b)) was_sent;
    }))
    (λ fault n. record { links = linked; faithful = tt })))

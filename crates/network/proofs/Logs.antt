-- The whole history of an own journal: what was purged of it, and what is left.
use Rattle.std.proofs.Common.{◌≡◌, false, ◌||◌, inl, inr, List, [], ◌∷◌, ◌++◌, take, drop, Some, refl, sym, ap, ◌∙◌, subst, append_assoc}
use Rattle.std.specs.List.{AllByRecursion}
use Rattle.std.specs.FinSet as set
use Rattle.std.proofs.lemmas.Bool.{or_from}
use Rattle.std.proofs.lemmas.List.{append-nil, take-append-drop}
use Rattle.lemmas.proofs.Tests.{or_turn as moved}
use Rattle.gtid_text.specs.declared.Gtid.{Gtid}
use Rattle.gtid_text.specs.Gtids.{gtid_cmp, same_gtid}
use Rattle.gtid_set.specs.Sets.{Gtids}
use Rattle.journal.specs.declared.Entry.{Entry}
use Rattle.journal.specs.Journals.{JournalValue, AreNew}
use Rattle.relay.specs.Own.{with_last, purge_to}
use Rattle.replica_core.specs.State.{State}
use Rattle.history.specs.World.{OrderedWorld, content, is_opened, IsClosed}
use Rattle.history.proofs.Closing.{closed_same}
use Rattle.history.specs.Faithful.{IsFaithful}
use Rattle.history.proofs.Covering.{has, covered, in_insert, in_covered, entries_append}
use Rattle.history.proofs.Keeping.{journal_push}
use Rattle.convergence.specs.Faithful.{Since}
use Rattle.convergence.proofs.Invariant.{Invariant}
use Rattle.network.specs.Sending.{is_entry}
use Rattle.network.proofs.Moving.{Journals, Stays, Appends, Purges}

-- a journal from which nothing was purged
abbrev pub unpurged : List Entry → JournalValue
unpurged entries = record { previous = set.empty; entries = entries }

-- These entries were purged, and with those that are left they are a faithful journal.
pub record IsLog (world : OrderedWorld) (purged : List Entry) (j : JournalValue) : Type 0 where
  pub previous : (g : Gtid) → set.contains j.previous g ≡ is_entry purged g
  pub faithful : IsFaithful world (unpurged (purged ++ j.entries))

-- what the whole history has a record of
has_unpurged : (entries : List Entry) (g : Gtid) → has (unpurged entries) g ≡ is_entry entries g
has_unpurged entries g = ap (λ b. b || is_entry entries g) (set.contains-empty gtid_cmp g)

pub has_log : (world : OrderedWorld) (purged : List Entry) (j : JournalValue) → IsLog world purged j → (g : Gtid) → has (unpurged (purged ++ j.entries)) g ≡ has j g
has_log world purged j log g =
    has_unpurged (purged ++ j.entries) g
    ∙ (entries_append purged j.entries g ∙ ap (λ b. b || is_entry j.entries g) (sym (log.previous g)))

last_is_new : (seen : Gtids) (es : List Entry) (e : Entry) → AreNew seen (es ++ e ∷ []) → covered seen es e.gtid ≡ false
last_is_new seen [] e new = or_from (set.contains seen e.gtid) false new.0 refl
last_is_new seen (x ∷ es) e new =
    sym (ap (λ b. b || is_entry es e.gtid) (in_insert seen x.gtid e.gtid) ∙ moved (same_gtid e.gtid x.gtid) (set.contains seen e.gtid) (is_entry es e.gtid))
    ∙ last_is_new (set.insert seen x.gtid) es e new.1

last_of : (P : Entry → Type 0) (es : List Entry) (e : Entry) → AllByRecursion P (es ++ e ∷ []) → P e
last_of P [] e h = h.0
last_of P (x ∷ es) e h = last_of P es e h.1

-- after an event of a replica: the history goes on at its end
pub record LogGrows (world : OrderedWorld) (purged : List Entry) (s s' : State) : Type 0 where
  pub purged' : List Entry
  pub more : List Entry
  pub log : IsLog world purged' s'.journal
  pub grows : purged' ++ s'.journal.entries ≡ (purged ++ s.journal.entries) ++ more

log_stays : (world : OrderedWorld) (purged : List Entry) (s s' : State) → Stays s s' → IsLog world purged s.journal → LogGrows world purged s s'
log_stays world purged s s' m log = record {
  purged' = purged;
  more = [];
  log = subst (IsLog world purged) (sym m.journal) log;
  grows = ap (λ (j : JournalValue). purged ++ j.entries) m.journal ∙ sym (append-nil (purged ++ s.journal.entries));
}

log_appends : (world : OrderedWorld) (purged : List Entry) (s s' : State) (since since' : Since) → ((g : Gtid) → is_opened world g ≡ false) → Appends s s' → Invariant world s since → Invariant world s' since' → IsLog world purged s.journal → LogGrows world purged s s'
log_appends world purged s s' since since' unopened m old inv log =
    let x = m.entry in
    let es = s.journal.entries in
    let after : IsFaithful world (with_last x s.journal) = subst (IsFaithful world) m.journal inv.journal in
    let there : content world x.gtid ≡ Some x.txn = last_of (λ (e : Entry). is_opened world e.gtid ≡ false → content world e.gtid ≡ Some e.txn) es x after.contents (unopened x.gtid) in
    let same : (h : Gtid) → has (unpurged (purged ++ es)) h ≡ set.contains s.executed h = λ h. has_log world purged s.journal log h ∙ old.recorded h in
    let new : has (unpurged (purged ++ es)) x.gtid ≡ false = has_log world purged s.journal log x.gtid ∙ last_is_new s.journal.previous es x after.new in
    let closed : IsClosed world (λ h. same_gtid h x.gtid || (is_opened world h || has (unpurged (purged ++ es)) h)) =
    closed_same world (set.contains s'.executed) (λ h. same_gtid h x.gtid || (is_opened world h || has (unpurged (purged ++ es)) h))
    (λ h. ap (λ b. same_gtid h x.gtid || b) (ap (λ b. b || has (unpurged (purged ++ es)) h) (unopened h) ∙ same h)
    ∙ (sym (in_insert s.executed x.gtid h) ∙ ap (λ (y : Gtids). set.contains y h) (sym m.executed)))
    inv.closed in
    let pushed : IsFaithful world (unpurged ((purged ++ es) ++ x ∷ [])) = journal_push world (unpurged (purged ++ es)) x.gtid x.txn log.faithful there new closed in
    let is : purged ++ (with_last x s.journal).entries ≡ (purged ++ es) ++ x ∷ [] = sym (append_assoc purged es (x ∷ [])) in
    let next : IsLog world purged (with_last x s.journal) = record { previous = log.previous; faithful = subst (λ ys. IsFaithful world (unpurged ys)) (sym is) pushed } in
    record {
      purged' = purged;
      more = x ∷ [];
      log = subst (IsLog world purged) (sym m.journal) next;
      grows = ap (λ (j : JournalValue). purged ++ j.entries) m.journal ∙ is;
    }

log_purges : (world : OrderedWorld) (purged : List Entry) (s s' : State) → Purges s s' → IsLog world purged s.journal → LogGrows world purged s s'
log_purges world purged s s' m log =
    let es = s.journal.entries in
    let purged' : List Entry = purged ++ take m.count es in
    let is : purged' ++ drop m.count es ≡ purged ++ es = append_assoc purged (take m.count es) (drop m.count es) ∙ ap (λ ys. purged ++ ys) (take-append-drop m.count es) in
    let next : IsLog world purged' (purge_to m.count s.journal) = record {
      previous = λ g. in_covered s.journal.previous (take m.count es) g
          ∙ (ap (λ b. b || is_entry (take m.count es) g) (log.previous g) ∙ sym (entries_append purged (take m.count es) g));
      faithful = subst (λ ys. IsFaithful world (unpurged ys)) (sym is) log.faithful;
    } in
    record {
      purged' = purged';
      more = [];
      log = subst (IsLog world purged') (sym m.journal) next;
      grows = ap (λ (j : JournalValue). purged' ++ j.entries) m.journal ∙ (is ∙ sym (append-nil (purged ++ es)));
    }

pub log_grows : (world : OrderedWorld) (purged : List Entry) (s s' : State) (since since' : Since) → ((g : Gtid) → is_opened world g ≡ false) → Journals s s' → Invariant world s since → Invariant world s' since' → IsLog world purged s.journal → LogGrows world purged s s'
log_grows world purged s s' since since' unopened (inl m) old inv log = log_stays world purged s s' m log
log_grows world purged s s' since since' unopened (inr (inl m)) old inv log = log_appends world purged s s' since since' unopened m old inv log
log_grows world purged s s' since since' unopened (inr (inr m)) old inv log = log_purges world purged s s' m log

-- Lines whose set has too many sources or intervals.
use Rattle.std.proofs.Common.{◌≡◌, ℕ, ◌+◌, Bool, true, false, not, cond, leb, List, [], ◌∷◌, ◌++◌, length, Option, Some, None, Result, Ok, Err, refl, sym, ◌∙◌}
use Rattle.std.specs.Prelude.{◌||◌}
use Rattle.std.specs.FinSet as set
use Rattle.gtid_set.specs.declared.fault.SetFault.{SetFault}
use Rattle.gtid_set.specs.declared.fault.SetFault.TheVariants.{PoolFull, SourcesFull}
use Rattle.gtid_set.specs.Sets.{Gtids}
use Rattle.gtid_set.specs.Full.{HasManySources, IsFullExactly, IsMemoryOr}
use Rattle.gtid_set.proofs.FaultLemmas.{fault_map, full_fault}
use Rattle.journal_words.specs.Gtids.{set_of_word, OfParsed, IsWordFault}
use Rattle.rows.specs.declared.change.Change.{Change}
use Rattle.rows.specs.declared.change.Change.TheVariants.{Insert, Delete, Update}
use Rattle.rows.specs.declared.schema.Table.{Table}
use Rattle.rows.specs.Limits.{most_changes}
use Rattle.txn_journal.specs.Versions.{limits_of}
use Rattle.gtid_text.specs.declared.Gtid.{Gtid}
use Rattle.journal.specs.Writing.{is_number, is_change_writable}
use Rattle.txn_journal.specs.Due.{is_due}
use Rattle.txn_journal.specs.Lines.{◌>>=◌, some_or_body, version_in, beginning_at, nothing_in, table_in, image_in, images_in}
use Rattle.txn_journal.specs.Stream.{GivesFull}
use Rattle.txn_journal.specs.Machine.{Standing, IsFull, fits, add, begin_stamped, begin, header_line, txn_line, close_line, step, previous_line, join_entry}
use Rattle.journal.specs.declared.Entry.{Entry}
use Rattle.txn_journal.specs.declared.fault.Cause.{Cause}
use Rattle.txn_journal.specs.declared.lines.LinePlace.{LinePlace}
use Rattle.txn_journal.specs.declared.lines.LinePlace.TheVariants as places
use Rattle.txn_journal.specs.declared.lines.Keyword.{Keyword}
use Rattle.txn_journal.specs.declared.lines.Keyword.TheVariants as keywords

abbrev after_previous : Standing → Gtids → Result Standing Cause
after_previous s previous = Ok (record s { place = places.Between; journal = record { previous = previous; entries = [] }; seen = previous })

found_full : (s : Standing) (f : SetFault) (found : Option Gtids) → IsWordFault f found → IsMemoryOr (GivesFull (IsFull SourcesFull) (some_or_body found >>= after_previous s)) (GivesFull (IsFull PoolFull) (some_or_body found >>= after_previous s)) f
found_full s f None h = fault_map f (λ full. absurd full) (λ full. absurd full) h
found_full s f (Some previous) h = fault_map f (λ full. (refl, full)) (λ full. (refl, full)) h

abbrev after_entry : Standing → Entry → Result Standing Cause
after_entry s e = Ok (join_entry s e)

-- the previous set
pub previous_full : (s : Standing) (word : List ℕ) (f : SetFault) → IsWordFault f (set_of_word word) → IsMemoryOr (GivesFull (IsFull SourcesFull) (previous_line s (Some word))) (GivesFull (IsFull PoolFull) (previous_line s (Some word))) f
unfolding previous_line
previous_full s word f h = found_full s f (set_of_word word) h

-- what was seen with one GTID more
pub seen_full : (s : Standing) (f : SetFault) (e : Entry) → IsFullExactly {T = Unit {0}} (Err f) (set.insert s.seen e.gtid) → IsMemoryOr (GivesFull (IsFull SourcesFull) (after_entry s e)) (GivesFull (IsFull PoolFull) (after_entry s e)) f
seen_full s f e h = fault_map f (λ full. (refl, full)) (λ full. (refl, full)) (full_fault f (set.insert s.seen e.gtid) h)

-- ---- lines that make no set full

full_past : (P : Standing → Type 0) (b : Bool) (x : Cause) (r : Result Standing Cause) → GivesFull P (cond b (Err x) r) → GivesFull P r
full_past P true x r h = absurd h
full_past P false x r h = h

never_behind : {A : Type 0} (P : Standing → Type 0) (r : Result A Cause) (k : A → Result Standing Cause) → ((a : A) → GivesFull P (k a) → ⊥) → GivesFull P (r >>= k) → ⊥
never_behind P (Ok a) k never h = never a h
never_behind P (Err x) k never h = h

never_added : (f : SetFault) (schema : Option (List Table)) (s : Standing) (c : Change) → s.place ≡ places.Within → GivesFull (IsFull f) (add schema s c) → ⊥
unfolding add
never_added f schema s c within h =
    let added : Result Standing Cause = Ok (record s { changes = s.changes ++ c ∷ [] }) in
    let second = full_past (IsFull f) (leb (most_changes (limits_of s.version)) (length s.changes) || not (is_change_writable (limits_of s.version) c)) _ (cond (not (fits schema c)) (Err _) added) h in
    let third = full_past (IsFull f) (not (fits schema c)) _ added second in
    absurd (let k = sym within ∙ third.0 in cc)

never_begun : (s : Standing) (gtid : Gtid) (stamp : Option ℕ) → GivesFull (IsFull SourcesFull) (begin s gtid stamp) → ⊥
unfolding begin
never_begun s gtid stamp h =
    let second = full_past (IsFull SourcesFull) (not (is_number gtid.number)) _ (cond (leb 4294967294 s.count) (Err _) (begin_stamped s gtid stamp)) h in
    stamped stamp (full_past (IsFull SourcesFull) (leb 4294967294 s.count) _ (begin_stamped s gtid stamp) second)
  where
    stamped : (stamp : Option ℕ) → GivesFull (IsFull SourcesFull) (begin_stamped s gtid stamp) → ⊥
    stamped None k = k
    stamped (Some n) k =
        let begun : Result Standing Cause = Ok (record s { place = places.Within; gtid = gtid; stamp = n }) in
        let last = full_past (IsFull SourcesFull) (set.contains s.seen gtid) _ begun k in
        absurd (let e = last.0 in cc)

-- a change is due within an entry alone
due_ins : (p : LinePlace) → is_due p keywords.Ins ≡ true → p ≡ places.Within
due_ins places.Header e = absurd cc
due_ins places.Previous e = absurd cc
due_ins places.Between e = absurd cc
due_ins places.Within e = refl
due_ins places.Ended e = absurd cc

due_upd : (p : LinePlace) → is_due p keywords.Upd ≡ true → p ≡ places.Within
due_upd places.Header e = absurd cc
due_upd places.Previous e = absurd cc
due_upd places.Between e = absurd cc
due_upd places.Within e = refl
due_upd places.Ended e = absurd cc

due_del : (p : LinePlace) → is_due p keywords.Del ≡ true → p ≡ places.Within
due_del places.Header e = absurd cc
due_del places.Previous e = absurd cc
due_del places.Between e = absurd cc
due_del places.Within e = refl
due_del places.Ended e = absurd cc

-- none but a previous set and the end of an entry
pub not_full : (schema : Option (List Table)) (s : Standing) (k : Keyword) (rest : Option (List ℕ)) → is_due s.place k ≡ true → (k ≡ keywords.End → ⊥) → (k ≡ keywords.Previous → ⊥) → GivesFull (IsFull SourcesFull) (step schema s k rest) → ⊥
unfolding step header_line txn_line close_line
not_full schema s keywords.Journal rest due other another h = never_behind (IsFull SourcesFull) (version_in s.due rest) _ (λ version k. absurd (let e = k.0 in cc)) h
not_full schema s keywords.Previous rest due other another h = absurd (another refl)
not_full schema s keywords.Txn rest due other another h = never_behind (IsFull SourcesFull) (beginning_at s.version (s.count + 1) rest) _ (λ beginning. never_begun s beginning.0 beginning.1) h
not_full schema s keywords.Ins rest due other another h =
    never_behind (IsFull SourcesFull) (table_in (limits_of s.version) rest) _ (λ table. never_behind (IsFull SourcesFull) (image_in table.1) _ (λ after. never_added SourcesFull schema s (Insert table.0 after) (due_ins s.place due))) h
not_full schema s keywords.Del rest due other another h =
    never_behind (IsFull SourcesFull) (table_in (limits_of s.version) rest) _ (λ table. never_behind (IsFull SourcesFull) (image_in table.1) _ (λ before. never_added SourcesFull schema s (Delete table.0 before) (due_del s.place due))) h
not_full schema s keywords.Upd rest due other another h =
    never_behind (IsFull SourcesFull) (table_in (limits_of s.version) rest) _ (λ table. never_behind (IsFull SourcesFull) (images_in table.1) _ (λ images. never_added SourcesFull schema s (Update table.0 images.0 images.1) (due_upd s.place due))) h
not_full schema s keywords.End rest due other another h = absurd (other refl)
not_full schema s keywords.Close rest due other another h = never_behind (IsFull SourcesFull) (nothing_in rest) _ (λ nothing k. absurd (let e = k.0 in cc)) h

-- ---- the word of a set

some_many : (s : Standing) (found : Option Gtids) → GivesFull (IsFull SourcesFull) (some_or_body found >>= after_previous s) → OfParsed HasManySources found
some_many s None h = h
some_many s (Some previous) h = h.1

-- what is too much for the previous set is so for the set of its word
pub previous_many : (s : Standing) (word : List ℕ) → GivesFull (IsFull SourcesFull) (previous_line s (Some word)) → OfParsed HasManySources (set_of_word word)
unfolding previous_line
previous_many s word h = some_many s (set_of_word word) h

-- Entries that pass no limit.
use Rattle.std.proofs.Common.{◌≡◌, ℕ, ◌+◌, ◌<◌, ◌≤◌, zero, suc, Bool, true, false, cond, not, ◌&&◌, nat_le, List, [], ◌∷◌, length, get_or, Option, Some, None, refl, sym, ap, ◌∙◌, arith}
use Rattle.std.specs.Prelude.{option_map}
use Rattle.std.specs.List.{list_all, list_any}
use Rattle.std.proofs.lemmas.Bool.{and_parts, le-leb, and_from}
use Rattle.gtid_text.specs.Written.{IsNumbered}
use Rattle.gtid_set.specs.Sets.{greatest}
use Rattle.row_images.specs.declared.value.Value.{Value}
use Rattle.row_images.specs.Values.{is_longer}
use Rattle.rows.specs.declared.change.Change.{Change}
use Rattle.rows.specs.declared.change.Change.TheVariants as changes
use Rattle.rows.specs.declared.limits.Limits.TheVariants.{Wide}
use Rattle.journal.specs.declared.Entry.{Entry}
use Rattle.journal.specs.Writing.{is_number, is_value_writable, is_image_writable, is_change_writable, is_txn_writable, is_writable}
use Rattle.journal.proofs.WritableLemmas.{values_writable}
use Rattle.binlog_entries.specs.Journals.{are_numbered}
use Rattle.binlog_entries.specs.Limits.{first_long, image_limit, or_else, change_limit, changes_limit, limit_of}
use Rattle.binlog_entries.specs.declared.limits.Limit.{Limit}
use Rattle.binlog_entries.specs.declared.limits.Limit.TheVariants as limits

-- ---- numbers

pub number_of : (n : ℕ) → IsNumbered n → is_number n ≡ true
unfolding greatest
number_of n h = rw (le-leb 1 n h.0, le-leb n 9223372036854775807 h.1) refl

pub numbered_at : (es : List Entry) (i : ℕ) (d : Entry) → i < length es → are_numbered es ≡ true → is_number (get_or es i d).gtid.number ≡ true
numbered_at [] i d lt all = absurd (omega arith)
numbered_at (e ∷ es) zero d lt all = (and_parts (is_number e.gtid.number) (are_numbered es) all).0
numbered_at (e ∷ es) (suc i) d lt all = numbered_at es i d (omega arith) (and_parts (is_number e.gtid.number) (are_numbered es) all).1

-- ---- values

first_kept : (b : Bool) (column : ℕ) (rest : Option ℕ) → cond b rest (Some column) ≡ None → (b ≡ true) × (rest ≡ None)
first_kept true column rest e = (refl, e)
first_kept false column rest e = absurd cc

long_none : (column : ℕ) (vs : List Value) → first_long column vs ≡ None → list_all (is_value_writable Wide) vs ≡ true
long_none column [] e = refl
long_none column (v ∷ vs) e =
    let p = first_kept (is_value_writable Wide v) column (first_long (column + 1) vs) e in
    and_from (is_value_writable Wide v) (list_all (is_value_writable Wide) vs) p.0 (long_none (column + 1) vs p.1)

short_none : (column : ℕ) (vs : List Value) → list_all (is_value_writable Wide) vs ≡ true → first_long column vs ≡ None
short_none column [] e = refl
short_none column (v ∷ vs) e =
    let p = and_parts (is_value_writable Wide v) (list_all (is_value_writable Wide) vs) e in
    rw p.0 (short_none (column + 1) vs p.1)

-- ---- images

-- an image with no long value passes no limit, where it has as many values as one may have
pub short_image : (table : List ℕ) (image : List Value) (long : Bool) → 1 ≤ length image → length image ≤ 4096 → long ≡ list_any (is_longer 4294967295) image → long ≡ false → image_limit table image ≡ None
short_image table image long some few is e =
    let short : list_all (is_value_writable Wide) image ≡ true = sym (values_writable Wide image) ∙ ap not (sym is ∙ e) in
    rw (le-leb 1 (length image) some, le-leb (length image) 4096 few, short_none 0 image short) refl

image_parts : (table : List ℕ) (a b : Bool) (o : Option ℕ) (all : Bool) → (o ≡ None → all ≡ true) → cond (a && b) (option_map (limits.Bytes table) o) (Some (limits.Columns table)) ≡ None → (a && (b && all)) ≡ true
image_parts table true true None all k e = k refl
image_parts table true true (Some c) all k e = absurd cc
image_parts table true false o all k e = absurd cc
image_parts table false b o all k e = absurd cc

image_none : (table : List ℕ) (image : List Value) → image_limit table image ≡ None → is_image_writable Wide image ≡ true
image_none table image e = image_parts table (nat_le 1 (length image)) (nat_le (length image) 4096) (first_long 0 image) (list_all (is_value_writable Wide) image) (long_none 0 image) e

-- ---- changes

or_none : (o p : Option Limit) → or_else o p ≡ None → (o ≡ None) × (p ≡ None)
or_none None p e = (refl, e)
or_none (Some limit) p e = absurd cc

change_none : (c : Change) → change_limit c ≡ None → is_change_writable Wide c ≡ true
change_none (changes.Insert table after) e = image_none table after e
change_none (changes.Delete table before) e = image_none table before e
change_none (changes.Update table before after) e =
    let p = or_none (image_limit table before) (image_limit table after) e in
    and_from (is_image_writable Wide before) (is_image_writable Wide after) (image_none table before p.0) (image_none table after p.1)

changes_none : (cs : List Change) → changes_limit cs ≡ None → list_all (is_change_writable Wide) cs ≡ true
changes_none [] e = refl
changes_none (c ∷ cs) e =
    let p = or_none (change_limit c) (changes_limit cs) e in
    and_from (is_change_writable Wide c) (list_all (is_change_writable Wide) cs) (change_none c p.0) (changes_none cs p.1)

few_none : (b : Bool) (o : Option Limit) → cond b o (Some limits.Changes) ≡ None → (b ≡ true) × (o ≡ None)
few_none true o e = (refl, e)
few_none false o e = absurd cc

-- an entry with the number of a transaction that passes no limit can be written
pub within_limits : (e : Entry) → is_number e.gtid.number ≡ true → limit_of e ≡ None → is_writable Wide e ≡ true
within_limits e number none =
    let p = few_none (nat_le (length e.txn.changes) 4294967294) (changes_limit e.txn.changes) none in
    and_from (is_number e.gtid.number) (is_txn_writable Wide e.txn) number
    (and_from (nat_le (length e.txn.changes) 4294967294) (list_all (is_change_writable Wide) e.txn.changes) p.0 (changes_none e.txn.changes p.1))

-- The logical timestamps of entries. (MySQL 8.0 Reference Manual, binlog_transaction_dependency_tracking, WRITESET.)
use Rattle.std.specs.Prelude.{◌≡◌, ℕ, ◌+◌, Bool, if◌then◌else◌, List, [], ◌∷◌, ◌++◌}
use Rattle.rows.specs.declared.schema.Table.{Table}
use Rattle.rows.specs.WriteSet.{shares_key}
use Rattle.journal.specs.declared.Entry.{Entry}

-- the place of the last element that passes a test, the first one being at this place; else `found`
abbrev pub last_place : {A : Type 0} → (A → Bool) → ℕ → ℕ → List A → ℕ
last_place p place found [] = found
last_place p place found (x ∷ xs) = last_place p (place + 1) (if p x then place else found) xs

-- the place, from 1, of the last of the earlier entries that shares a key with this one; 0 if none does
abbrev pub last_committed : List Table → List Entry → Entry → ℕ
last_committed schema earlier e = last_place (λ (f : Entry). shares_key schema f.txn e.txn) 1 0 earlier

-- that of each of these entries, after earlier ones
abbrev pub each_last_committed : List Table → List Entry → List Entry → List ℕ
each_last_committed schema earlier [] = []
each_last_committed schema earlier (e ∷ es) = last_committed schema earlier e ∷ each_last_committed schema (earlier ++ e ∷ []) es

-- that of each entry of a whole journal
abbrev pub last_committed_of : List Table → List Entry → List ℕ
last_committed_of schema es = each_last_committed schema [] es

-- one more entry at the end has one more last_committed at the end
abbrev pub IsOneMore : List Table → List Entry → List Entry → Entry → Type 0
IsOneMore schema earlier es e = each_last_committed schema earlier (es ++ e ∷ []) ≡ each_last_committed schema earlier es ++ last_committed schema (earlier ++ es) e ∷ []

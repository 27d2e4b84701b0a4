-- Laws of last_committed.
use Rattle.std.proofs.Common.{◌≡◌, ◌≤◌, List, [], ◌∷◌, ◌++◌, length, suc, refl, sym, ap, ◌∙◌, arith, append_assoc, append-nil}
use Rattle.rows.specs.declared.schema.Table.{Table}
use Rattle.rows.specs.WriteSet.{shares_key}
use Rattle.journal.specs.declared.Entry.{Entry}
use Rattle.logical_timestamps.specs.Timestamps.{last_committed, each_last_committed}
use Rattle.logical_timestamps.proofs.Places.{last_place_below}

-- it is the place of an earlier entry
pub last_committed_earlier : (schema : List Table) (earlier : List Entry) (e : Entry) → last_committed schema earlier e ≤ length earlier
last_committed_earlier schema earlier e =
    let under = last_place_below (λ (f : Entry). shares_key schema f.txn e.txn) 1 0 earlier (omega arith) in
    omega (arith, under)

-- one more entry has one more
pub each_last_committed_more : (schema : List Table) (earlier es : List Entry) (e : Entry)
    → each_last_committed schema earlier (es ++ e ∷ []) ≡ each_last_committed schema earlier es ++ last_committed schema (earlier ++ es) e ∷ []
each_last_committed_more schema earlier [] e = ap (λ before. last_committed schema before e ∷ []) (sym (append-nil earlier))
each_last_committed_more schema earlier (x ∷ es) e =
    ap (λ ns. last_committed schema earlier x ∷ ns)
    (each_last_committed_more schema (earlier ++ x ∷ []) es e
    ∙ ap (λ before. each_last_committed schema (earlier ++ x ∷ []) es ++ last_committed schema before e ∷ []) (append_assoc earlier (x ∷ []) es))

-- each entry has one
pub each_last_committed_length : (schema : List Table) (earlier es : List Entry) → length (each_last_committed schema earlier es) ≡ length es
each_last_committed_length schema earlier [] = refl
each_last_committed_length schema earlier (e ∷ es) = ap suc (each_last_committed_length schema (earlier ++ e ∷ []) es)

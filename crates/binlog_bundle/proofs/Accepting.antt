-- The entries for whose statements an operator answers, one after another.
use Rattle.std.proofs.Common.{◌≡◌, ℕ, ◌+◌, ◌<◌, ◌≤◌, Bool, true, false, cond, List, [], ◌∷◌, ◌++◌, map, take, length, get_or, sym, ap, ◌∙◌, append-nil}
use Rattle.std.specs.FinSet as set
use Rattle.std.specs.List.{filter}
use Rattle.std.proofs.lemmas.List.{map_push, take_more, take_all}
use Rattle.std.proofs.lemmas.List.Elements.{filter-append}
use Rattle.lemmas.proofs.SameGtid.{gtid_total, gtid_exact}
use Rattle.gtid_set.specs.Sets.{Gtids}
use Rattle.journal.specs.declared.Entry.{Entry}
use Rattle.binlog_bundle.specs.Accepted.{is_accepted, accepted_in}

abbrev gtids_of : List Entry → Gtids
gtids_of entries = set.from_list (map (λ (e : Entry). e.gtid) entries)

one_more : (es : List Entry) (e : Entry) (b : Bool) → gtids_of (es ++ cond b (e ∷ []) []) ≡ cond b (set.insert (gtids_of es) e.gtid) (gtids_of es)
one_more es e true = ap set.from_list (map_push (λ (x : Entry). x.gtid) es e) ∙ set.from_list_push gtid_total gtid_exact (map (λ (x : Entry). x.gtid) es) e.gtid
one_more es e false = ap gtids_of (append-nil es)

accepted_more : (accepted : Gtids) (es : List Entry) (e : Entry)
    → accepted_in accepted (es ++ e ∷ []) ≡ cond (is_accepted accepted e) (set.insert (accepted_in accepted es) e.gtid) (accepted_in accepted es)
accepted_more accepted es e =
    ap gtids_of (filter-append (is_accepted accepted) es (e ∷ []))
    ∙ one_more (filter (is_accepted accepted) es) e (is_accepted accepted e)

pub accepted_next : (accepted : Gtids) (entries : List Entry) (i : ℕ) (x : Entry) (now next : Gtids) → i < length entries → x ≡ get_or entries i x
    → now ≡ accepted_in accepted (take i entries) → next ≡ cond (is_accepted accepted x) (set.insert now x.gtid) now → next ≡ accepted_in accepted (take (i + 1) entries)
accepted_next accepted entries i x now next lt x_is is more =
    more
    ∙ ap (λ (s : Gtids). cond (is_accepted accepted x) (set.insert s x.gtid) s) is
    ∙ sym (accepted_more accepted (take i entries) x)
    ∙ ap (λ (y : Entry). accepted_in accepted (take i entries ++ y ∷ [])) x_is
    ∙ ap (accepted_in accepted) (sym (take_more entries i x lt))

pub accepted_all : (accepted : Gtids) (entries : List Entry) (i : ℕ) (now : Gtids) → length entries ≤ i → now ≡ accepted_in accepted (take i entries)
    → now ≡ accepted_in accepted entries
accepted_all accepted entries i now le is = is ∙ ap (accepted_in accepted) (take_all i entries le)

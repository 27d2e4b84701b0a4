-- What is shown of the lines that are left, once one of them was shown.
use Rattle.std.proofs.Common.{◌≡◌, ℕ, ◌+◌, ◌<◌, List, [], ◌∷◌, ◌++◌, length, map, get_or, drop, drop-cons, add-one, append_assoc, sym, ap, ◌∙◌, Bor}
use Rattle.rows.specs.declared.schema.Table.{Table}
use Rattle.fault_places.specs.declared.standing.Standing.{Standing}
use Rattle.fault_places.specs.declared.wanted.Wanted.{Wanted}
use Rattle.fault_places.specs.Places.{after, channel_after, report_entry, report_entries, report_previous, report_all_previous}

-- the lines from one on
pub lines_from : (ls : List (Bor (List ℕ))) (i : ℕ) (d : Bor (List ℕ)) → i < length ls
    → map (λ x. x.now) (drop i ls) ≡ (get_or ls i d).now ∷ map (λ x. x.now) (drop (i + 1) ls)
lines_from ls i d h =
    ap (map (λ x. x.now)) (drop-cons ls i d h) ∙ ap (λ k. (get_or ls i d).now ∷ map (λ x. x.now) (drop k ls)) (sym (add-one i))

pub entries_next : (ts : List Table) (g : List ℕ) (wanted : Wanted) (before name more : List ℕ) (s t : Standing) (n : ℕ) (line : List ℕ) (all rest : List (List ℕ)) (out next end : List ℕ)
    → all ≡ line ∷ rest → next ≡ out ++ report_entry ts g wanted before name s n line → more ≡ channel_after name line → t ≡ after g s line
    → out ++ report_entries ts g wanted before name s n all ≡ end → next ++ report_entries ts g wanted line more t (n + 1) rest ≡ end
entries_next ts g wanted before name more s t n line all rest out next end lines told named stood h =
    let one : List ℕ = report_entry ts g wanted before name s n line in
    ap (λ x. x ++ report_entries ts g wanted line more t (n + 1) rest) told
    ∙ ap (λ x. (out ++ one) ++ report_entries ts g wanted line x t (n + 1) rest) named
    ∙ ap (λ x. (out ++ one) ++ report_entries ts g wanted line (channel_after name line) x (n + 1) rest) stood
    ∙ append_assoc out one (report_entries ts g wanted line (channel_after name line) (after g s line) (n + 1) rest)
    ∙ sym (ap (λ x. out ++ report_entries ts g wanted before name s n x) lines) ∙ h

pub previous_next : (name more : List ℕ) (s t : Standing) (n : ℕ) (line : List ℕ) (all rest : List (List ℕ)) (out next end : List ℕ)
    → all ≡ line ∷ rest → next ≡ out ++ report_previous name s n line → more ≡ channel_after name line → t ≡ after [] s line
    → out ++ report_all_previous name s n all ≡ end → next ++ report_all_previous more t (n + 1) rest ≡ end
previous_next name more s t n line all rest out next end lines told named stood h =
    let one : List ℕ = report_previous name s n line in
    ap (λ x. x ++ report_all_previous more t (n + 1) rest) told
    ∙ ap (λ x. (out ++ one) ++ report_all_previous x t (n + 1) rest) named
    ∙ ap (λ x. (out ++ one) ++ report_all_previous (channel_after name line) x (n + 1) rest) stood
    ∙ append_assoc out one (report_all_previous (channel_after name line) (after [] s line) (n + 1) rest)
    ∙ sym (ap (λ x. out ++ report_all_previous name s n x) lines) ∙ h

-- A GTID that begins with the text of a source that is known.
use Rattle.std.proofs.Common.{◌≡◌, ℕ, ◌<◌, ◌≤◌, List, ◌∷◌, ◌++◌, length, get_or, take, drop, Some, sym, ap, ◌∙◌, arith}
use Rattle.std.proofs.Math.Seq.{drop-cons, take-append_seam}
use Rattle.std.proofs.lemmas.List.{take-append-drop, length-drop}
use Rattle.std.specs.Fmt.{decimal}
use Rattle.gtid_text.specs.declared.Gtid.{Gtid}
use Rattle.gtid_text.specs.Canonical.{source_text, gtid_text}
use Rattle.gtid_text.specs.Written.{IsSource}
use Rattle.journal_words.specs.Gtids.{gtid_of_word}
use Rattle.row_images.specs.Words.{count_of}
use Rattle.row_images.proofs.Counts.{count_found}
use Rattle.uuid.proofs.TextLemmas.{by_index_length}
use Rattle.txn_journal.proofs.GtidLaws.{gtid_found, gtid_again}

behind : (back digits : List ℕ) (n : ℕ) → 0 < length back → get_or back 0 0 ≡ 58 → digits ≡ drop 1 back → Some n ≡ count_of digits → back ≡ 58 ∷ decimal n
behind back digits n some colon rest number =
    drop-cons back 0 0 some ∙ (λ i. colon i ∷ sym rest i) ∙ ap (λ (t : List ℕ). 58 ∷ t) (count_found digits n (sym number)).0

pub near_spelled : (w front back digits : List ℕ) (id n : ℕ) → 36 < length w → front ≡ take 36 w → back ≡ drop 36 w → get_or back 0 0 ≡ 58 → digits ≡ drop 1 back
    → front ≡ source_text id → Some n ≡ count_of digits → IsSource id → 1 ≤ n → n ≤ 9223372036854775807 → gtid_of_word w ≡ Some (record { source = id; number = n })
near_spelled w front back digits id n long f b colon rest spelled number small low high =
    let g : Gtid = record { source = id; number = n } in
    let len = ap length b ∙ length-drop 36 w in
    let some : 0 < length back = omega (arith, len, long) in
    let text : w ≡ gtid_text g = sym (take-append-drop 36 w) ∙ (λ i. sym f i ++ sym b i) ∙ (λ i. spelled i ++ behind back digits n some colon rest number i) in
    ap gtid_of_word text ∙ gtid_again g (record { source = small; number = (low, high) })

-- ---- the text of a source, in the text of a GTID

source_length : (id : ℕ) → length (source_text id) ≡ 36
unfolding source_text
source_length id = by_index_length 36 _

pub source_in_gtid : (w front : List ℕ) (g : Gtid) → gtid_of_word w ≡ Some g → front ≡ take 36 w → front ≡ source_text g.source
source_in_gtid w front g found f =
    let text : w ≡ source_text g.source ++ 58 ∷ decimal g.number = (gtid_found w g found).0 in
    f ∙ ap (λ (t : List ℕ). take 36 t) text
    ∙ ap (λ (n : ℕ). take n (source_text g.source ++ 58 ∷ decimal g.number)) (sym (source_length g.source))
    ∙ take-append_seam (source_text g.source) (58 ∷ decimal g.number)

pub source_is_small : (w : List ℕ) (g : Gtid) → gtid_of_word w ≡ Some g → IsSource g.source
source_is_small w g found = (gtid_found w g found).1.source

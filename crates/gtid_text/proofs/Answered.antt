-- What the reading of a set's text gives.
use Rattle.std.proofs.Common.{◌≡◌, ℕ, List, Result, Ok, Err, refl, sym, ap, ◌∙◌, inl, inr}
use Rattle.std.specs.Prelude.{IfOk, IfErr, length}
use Rattle.gtid_text.specs.Reading.{answer, fault_in, GivesText, source_in, gtid_in, spans_in}
use Rattle.gtid_text.specs.Grammar.{ParsesAs, IsSetText, ParsesAsSource, IsSourceText, ParsesAsGtid, IsGtidText}
use Rattle.gtid_text.specs.declared.Span.{Span}
use Rattle.gtid_text.specs.declared.fault.TextFault.{TextFault}
use Rattle.gtid_text.proofs.Spelled.{spells_read}
use Rattle.gtid_text.proofs.Found.{read_spells}
use Rattle.gtid_text.proofs.First.{is_stuck}
use Rattle.gtid_text.proofs.Single.{source_reads_back, source_spelled, source_stuck, gtid_reads_back, gtid_spelled, gtid_stuck}
use Rattle.gtid_text.specs.declared.SourceId.{SourceId}
use Rattle.gtid_text.specs.declared.Gtid.{Gtid}
use Rattle.gtid_text.specs.Refused.{Refuses, FailsText}
use Rattle.gtid_text.specs.declared.scan.ScanFault.{ScanFault}

pub is_found : {X : Type 0} (view : X → List Span) (text : List ℕ) (r : Result X TextFault) (len : ℕ) → GivesText view r len (spans_in text) → IfOk r (λ v. ParsesAs text (view v))
is_found view text (Ok v) len h = read_spells text (view v) h
is_found view text (Err f) len h = tt

pub is_only : {X : Type 0} (view : X → List Span) (text : List ℕ) (r : Result X TextFault) (len : ℕ) → GivesText view r len (spans_in text) → (spans : List Span) → ParsesAs text spans → GivesText view r len (Ok spans)
is_only view text (Ok v) len h spans s = sym (spells_read text spans s) ∙ h
is_only view text (Err f) len (inl e) spans s = inl (e.0, (spans, refl))
is_only view text (Err f) len (inr e) spans s = inr (ap (answer len) (sym (spells_read text spans s)) ∙ e)

fault_is : {A : Type 0} (len : ℕ) (read : Result A ScanFault) (f : TextFault) → answer len read ≡ Err f → (r : ScanFault) × (read ≡ Err r) × (f ≡ fault_in len r)
fault_is len (Ok x) f e = absurd cc
fault_is len (Err r) f e = (r, refl, cc)

pub is_refused : {X : Type 0} (view : X → List Span) (text : List ℕ) (r : Result X TextFault) → GivesText view r (length text) (spans_in text) → IfErr r (λ fault. FailsText IsSetText fault text)
is_refused view text (Ok v) h = tt
is_refused view text (Err f) (inl e) = inl (e.0, (e.1.0, read_spells text e.1.0 e.1.1))
is_refused view text (Err f) (inr e) = let k = fault_is (length text) (spans_in text) f e in inr (k.0, k.2, is_stuck text k.0 k.1)

answered_ok : {A : Type 0} (len : ℕ) (read : Result A ScanFault) (x : A) (r : Result A TextFault) → r ≡ answer len read → r ≡ Ok x → read ≡ Ok x
answered_ok len (Ok y) x r e h = let k : answer len (Ok y) ≡ Ok x = sym e ∙ h in cc
answered_ok len (Err f) x r e h = let k : answer len (Err f) ≡ Ok x = sym e ∙ h in absurd cc

answered_err : {A : Type 0} (len : ℕ) (read : Result A ScanFault) (f : TextFault) → Err f ≡ answer len read → (r : ScanFault) × (read ≡ Err r) × (f ≡ fault_in len r)
answered_err len read f e = fault_is len read f (sym e)

pub source_found : (text : List ℕ) (r : Result SourceId TextFault) → r ≡ answer (length text) (source_in text) → IfOk r (λ id. ParsesAsSource text id)
source_found text (Ok id) e = source_spelled text id (answered_ok (length text) (source_in text) id (Ok id) e refl)
source_found text (Err f) e = tt

pub source_only : (text : List ℕ) (r : Result SourceId TextFault) → r ≡ answer (length text) (source_in text) → (id : ℕ) → ParsesAsSource text id → r ≡ Ok id
source_only text r e id s = e ∙ ap (answer (length text)) (source_reads_back text id s)

pub source_refused : (text : List ℕ) (r : Result SourceId TextFault) → r ≡ answer (length text) (source_in text) → IfErr r (λ fault. Refuses IsSourceText fault text)
source_refused text (Ok id) e = tt
source_refused text (Err f) e = let k = answered_err (length text) (source_in text) f e in (k.0, k.2, source_stuck text k.0 k.1)

pub gtid_found : (text : List ℕ) (r : Result Gtid TextFault) → r ≡ answer (length text) (gtid_in text) → IfOk r (λ gtid. ParsesAsGtid text gtid)
gtid_found text (Ok gtid) e = gtid_spelled text gtid (answered_ok (length text) (gtid_in text) gtid (Ok gtid) e refl)
gtid_found text (Err f) e = tt

pub gtid_only : (text : List ℕ) (r : Result Gtid TextFault) → r ≡ answer (length text) (gtid_in text) → (gtid : Gtid) → ParsesAsGtid text gtid → r ≡ Ok gtid
gtid_only text r e gtid s = e ∙ ap (answer (length text)) (gtid_reads_back text gtid s)

pub gtid_refused : (text : List ℕ) (r : Result Gtid TextFault) → r ≡ answer (length text) (gtid_in text) → IfErr r (λ fault. Refuses IsGtidText fault text)
gtid_refused text (Ok gtid) e = tt
gtid_refused text (Err f) e = let k = answered_err (length text) (gtid_in text) f e in (k.0, k.2, gtid_stuck text k.0 k.1)

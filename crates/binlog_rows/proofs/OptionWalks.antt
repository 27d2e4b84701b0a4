-- One step of the walk over optional metadata.
use Rattle.std.proofs.Common.{◌≡◌, ℕ, suc, Bool, true, false, cond, List, Option, Some, None, sym, ap, ◌∙◌, nat_eq}
use Rattle.binlog_rows.specs.Options.{FieldBytes, field_at, content_or, content_from}

field_step : (kind m n : ℕ) (bytes : List ℕ) (o : Option FieldBytes) → suc n ≡ m → o ≡ field_at bytes
    → content_or kind (content_from kind n) o ≡ content_from kind m bytes
unfolding content_from
field_step kind m n bytes o is e =
    ap (λ (o : Option FieldBytes). content_or kind (content_from kind n) o) e ∙ ap (λ (fuel : ℕ). content_from kind fuel bytes) is

pub field_none : (kind m n : ℕ) (bytes : List ℕ) → suc n ≡ m → None ≡ field_at bytes → None ≡ content_from kind m bytes
field_none kind m n bytes is e = field_step kind m n bytes None is e

pub field_found : (kind m n : ℕ) (bytes : List ℕ) (f : FieldBytes) → suc n ≡ m → Some f ≡ field_at bytes → nat_eq f.kind kind ≡ true
    → Some f.content ≡ content_from kind m bytes
field_found kind m n bytes f is e same =
    ap (λ (b : Bool). cond b (Some f.content) (content_from kind n f.behind)) (sym same) ∙ field_step kind m n bytes (Some f) is e

pub field_other : (kind m n : ℕ) (bytes : List ℕ) (f : FieldBytes) → suc n ≡ m → Some f ≡ field_at bytes → nat_eq f.kind kind ≡ false
    → content_from kind n f.behind ≡ content_from kind m bytes
field_other kind m n bytes f is e other =
    ap (λ (b : Bool). cond b (Some f.content) (content_from kind n f.behind)) (sym other) ∙ field_step kind m n bytes (Some f) is e

pub field_end : (kind m : ℕ) (bytes : List ℕ) → 0 ≡ m → None ≡ content_from kind m bytes
unfolding content_from
field_end kind m bytes is = ap (λ (fuel : ℕ). content_from kind fuel bytes) is

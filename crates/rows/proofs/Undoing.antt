-- What was written over is put back.
use Rattle.std.proofs.Common.{◌≡◌, ◌+◌, Bool, true, false, cond, List, [], ◌∷◌, ◌++◌, length, refl, sym, ap, ◌∙◌}
use Rattle.std.proofs.lemmas.List.{length-append}
use Rattle.std.specs.FinMap.{get, insert, remove}
use Rattle.row_images.specs.declared.value.Value.{Value}
use Rattle.rows.specs.declared.change.Key.{Key}
use Rattle.rows.specs.declared.patch.Seen.{Seen}
use Rattle.rows.specs.Order.{key_eq}
use Rattle.rows.specs.Total.{key_eq_same}
use Rattle.rows.specs.Apply.{Rows, with_row, without_keys}
use Rattle.rows.specs.Making.{put_back}
use Rattle.rows.specs.Patch.{put}
use Rattle.rows.proofs.Local.{same_rows}
use Rattle.rows.proofs.Patching.{Carrier, get-put}

-- ---- the last of a list

pub one_less : (log rest : List Seen) (s : Seen) → log ≡ rest ++ s ∷ [] → length log ≡ length rest + 1
one_less log rest s e = ap length e ∙ length-append rest (s ∷ [])

pub put_back_last : (log : List Seen) (s : Seen) (m : Rows) → put_back (log ++ s ∷ []) m ≡ put_back log (put s.key s.row m)
put_back_last [] s m = refl
put_back_last (x ∷ log) s m = ap (put x.key x.row) (put_back_last log s m)

pub with_row_last : (keys : List Key) (k : Key) (row : List Value) (m : Rows) → with_row (keys ++ k ∷ []) row m ≡ with_row keys row (insert m k row)
with_row_last [] k row m = refl
with_row_last (x ∷ keys) k row m = ap (λ (n : Rows). insert n x row) (with_row_last keys k row m)

pub without_keys_last : (keys : List Key) (k : Key) (m : Rows) → without_keys (keys ++ k ∷ []) m ≡ without_keys keys (remove m k)
without_keys_last [] k m = refl
without_keys_last (x ∷ keys) k m = ap (λ (n : Rows). remove n x) (without_keys_last keys k m)

-- ---- one write, and what puts it back

was_there : (b : Bool) (x y z : Carrier) → (b ≡ true → x ≡ z) → cond b x (cond b y z) ≡ z
was_there true x y z h = h refl
was_there false x y z h = refl

put_was : (key : Key) (o : Carrier) (m : Rows) → put key (get m key) (put key o m) ≡ m
put_was key o m = same_rows _ _ (λ k.
    get-put key (get m key) (put key o m) k
    ∙ ap (cond (key_eq k key) (get m key)) (get-put key o m k)
    ∙ was_there (key_eq k key) (get m key) o (get m k) (λ e. ap (get m) (sym (key_eq_same k key e))))

-- A write that notes what it wrote over leaves the way back as it was.
pub noted : (key : Key) (o over : Carrier) (log more : List Seen) (m n : Rows) → more ≡ log ++ record { key = key; row = over } ∷ [] → over ≡ get m key → n ≡ put key o m → put_back more n ≡ put_back log m
noted key o over log more m n added was made =
    (λ i. put_back (added i) (made i))
    ∙ put_back_last log (record { key = key; row = over }) (put key o m)
    ∙ ap (λ (x : Carrier). put_back log (put key x (put key o m))) was
    ∙ ap (put_back log) (put_was key o m)

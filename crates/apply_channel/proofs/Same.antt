-- When channels are the same, and the entries of a copy so far.
use Rattle.std.proofs.Common.{◌≡◌, ℕ, zero, suc, ◌+◌, ◌<◌, Bool, true, false, not, List, [], ◌∷◌, ◌++◌, length, take, get_or, refl, sym, ap, ◌∙◌, arith, true≢false}
use Rattle.std.specs.FinMap.{nat_cmp-IsAntisymmetric, slice_cmp-IsAntisymmetric}
use Rattle.std.specs.Ordering.{nat_cmp, is_eq, eq_by_cmp}
use Rattle.std.specs.Cmp.Lexicographic.{slice_cmp, nat_list_cmp_total}
use Rattle.std.proofs.lemmas.Cmp.{tied_itself}
use Rattle.std.proofs.lemmas.List.{take_more}
use Rattle.lemmas.proofs.Numbers.{equal_of}
use Rattle.apply_channel.specs.Slots.{Placed}
use Rattle.apply_channel.specs.Channels.{Keyed, Received}
use Rattle.apply_channel.specs.Kept.{entries_of, received_of}
use Rattle.apply_channel.proofs.Slots.{entries_length}

-- channels are the same where all that is seen of them is
pub same_keyed : (a b : Keyed) → a.schema ≡ b.schema → a.channel.name ≡ b.channel.name → a.channel.preserve ≡ b.channel.preserve → a.channel.stopped ≡ b.channel.stopped
    → a.channel.asked ≡ b.channel.asked → a.channel.received ≡ b.channel.received → a ≡ b
same_keyed a b schema name preserve stopped asked received = λ i. record {
  schema = schema i;
  channel = record { name = name i; preserve = preserve i; stopped = stopped i; asked = asked i; received = received i };
}

read_entry : (items : List Placed) (i : ℕ) (x : Placed) → x ≡ get_or items i x → i < length items → get_or (entries_of items) i (received_of x) ≡ received_of x
read_entry [] i x e lt = absurd (omega (lt, arith))
read_entry (y ∷ items) zero x e lt = ap received_of (sym e)
read_entry (y ∷ items) (suc i) x e lt = read_entry items i x e (omega (lt, arith))

-- one entry more
pub take_entry : (slots items : List Placed) (received : List Received) (i : ℕ) (x : Placed) → items ≡ slots → entries_of slots ≡ received → x ≡ get_or items i x → i < length items
    → take i received ++ received_of x ∷ [] ≡ take (i + 1) received
take_entry slots items received i x same seen e lt =
    let all : entries_of items ≡ received = ap entries_of same ∙ seen in
    let long = entries_length items in
    let lt' : i < length (entries_of items) = omega (long, lt, arith) in
    sym (ap (take (i + 1)) (sym all) ∙ take_more (entries_of items) i (received_of x) lt' ∙ ap (λ r. take i (entries_of items) ++ r ∷ []) (read_entry items i x e lt) ∙ ap (λ es. take i es ++ received_of x ∷ []) all)

pub names_same : (a b : List ℕ) → eq_by_cmp (slice_cmp nat_cmp) a b ≡ true → a ≡ b
names_same a b e = slice_cmp-IsAntisymmetric nat_cmp-IsAntisymmetric a b (equal_of (slice_cmp nat_cmp a b) e)

pub names_pass : (a b : List ℕ) → a ≡ b → eq_by_cmp (slice_cmp nat_cmp) a b ≡ true
names_pass a b e = ap (eq_by_cmp (slice_cmp nat_cmp) a) (sym e) ∙ ap is_eq (tied_itself nat_list_cmp_total a)

pub turned : (r t : Bool) → r ≡ not t → r ≡ false → t ≡ true
turned r true e f = refl
turned r false e f = absurd (true≢false (sym e ∙ f))

pub not_turned : (r t : Bool) → r ≡ not t → r ≡ true → t ≡ true → false ≡ true
not_turned r true e f h = sym e ∙ f
not_turned r false e f h = h

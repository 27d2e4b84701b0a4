-- A set joined to another interval by interval.
use Rattle.std.proofs.Common.{◌≡◌, Bool, List, ◌∷◌, sym, ap, ◌∙◌}
use Rattle.std.specs.Prelude.{◌||◌}
use Rattle.std.specs.FinSet as set
use Rattle.gtid_text.specs.declared.Span.{Span}
use Rattle.gtid_set.specs.Laws.{HaveNumbers}
use Rattle.gtid_set.specs.Sets.{Gtids, interval}
use Rattle.gtid_set.specs.Spans.{set_of}
use Rattle.gtid_set.proofs.LawLemmas.{union_swap, union_group, union_itself}
use Rattle.gtid_set.proofs.SetLemmas.{union_empty}
use Rattle.lemmas.proofs.SameGtid.{gtid_total}
use Rattle.journal.proofs.EntryLemmas.{union_numbers}

-- ---- one interval after another

pub itself_kept : (whole : Gtids) → set.union whole whole ≡ whole
itself_kept whole = union_itself whole

pub next_joined : (whole new total : Gtids) (s : Span) (ss : List Span) → set.union whole (set_of (s ∷ ss)) ≡ total → new ≡ set.union whole (interval s.source s.lo s.hi) → set.union new (set_of ss) ≡ total
next_joined whole new total s ss e grown =
    ap (λ (a : Gtids). set.union a (set_of ss)) grown
    ∙ union_group whole (interval s.source s.lo s.hi) (set_of ss)
    ∙ ap (set.union whole) (union_swap (interval s.source s.lo s.hi) (set_of ss))
    ∙ e

pub next_kept : (old whole new more : Gtids) → set.union old whole ≡ whole → new ≡ set.union whole more → set.union old new ≡ new
next_kept old whole new more kept grown =
    ap (set.union old) grown ∙ sym (union_group old whole more) ∙ ap (λ (a : Gtids). set.union a more) kept ∙ sym grown

-- ---- how far it has come

-- where some intervals have joined, the whole set makes of what is there what it made of what was there
pub part_joined : (old whole rest more : Gtids) → set.union whole rest ≡ set.union old more → set.union old whole ≡ whole → set.union whole more ≡ set.union old more
part_joined old whole rest more e kept =
    ap (λ (a : Gtids). set.union a more) (sym kept ∙ union_swap old whole)
    ∙ union_group whole old more
    ∙ ap (set.union whole) (sym e)
    ∙ sym (union_group whole whole rest)
    ∙ ap (λ (a : Gtids). set.union a rest) (union_itself whole)
    ∙ e

pub all_joined : (old whole more : Gtids) → set.union whole set.empty ≡ set.union old more → whole ≡ set.union old more
all_joined old whole more e = union_empty whole ∙ e

pub twice_joined : (old new more : Gtids) → new ≡ set.union old more → set.union new more ≡ set.union old more
twice_joined old new more e = ap (λ (a : Gtids). set.union a more) e ∙ union_group old more more ∙ ap (set.union old) (union_itself more)

-- ---- numbers

pub part_numbers : (old new more : Gtids) → set.union new more ≡ set.union old more → HaveNumbers old → HaveNumbers more → HaveNumbers new
part_numbers old new more e a b g here =
    union_numbers old more a b g
    (ap (λ (s : Gtids). set.contains s g) (sym e) ∙ set.contains-union gtid_total new more g ∙ ap (λ (b : Bool). b || set.contains more g) here)

-- The entries of a world, in their order.
use Rattle.std.proofs.Common.{◌≡◌, ◌≢◌, false, cond, T, inl, inr, List, [], ◌∷◌, Some, refl, sym, ap, ◌∙◌}
use Rattle.std.specs.declared.cmp.Ordering.{Ordering}
use Rattle.std.specs.declared.cmp.Ordering.TheVariants.{Less, Equal, Greater}
use Rattle.std.specs.Ordering.{is_lt, is_eq, ordering_reverse}
use Rattle.std.specs.List.{AllByRecursion}
use Rattle.std.specs.FinMap.{entries, entries_sorted, get-entries, find, is_sorted}
use Rattle.std.specs.FinMap.Entries.{below_all}
use Rattle.std.proofs.lemmas.Cmp.{tied_itself}
use Rattle.lemmas.proofs.SameGtid.{gtid_total, gtid_exact}
use Rattle.lemmas.proofs.Tests.{left_of as first, right_of as second}
use Rattle.rows.specs.declared.change.Transaction.{Transaction}
use Rattle.gtid_text.specs.declared.Gtid.{Gtid}
use Rattle.gtid_text.specs.Gtids.{gtid_cmp}
use Rattle.history.specs.Sources.{World, Entry, content, AreKeysSound}
use Rattle.history.specs.World.{IsIn, AreDistinct}
use Rattle.history.proofs.Commuting.{AreApart, apart_unless}
use Rattle.history.proofs.Placing.{all_map}
use Rattle.history.proofs.Entries.{all_two}

abbrev pub IsAscending : List Entry → Type 0
IsAscending [] = Unit {0}
IsAscending (e ∷ es) = AllByRecursion (λ f. gtid_cmp e.0 f.0 ≡ Less) es × IsAscending es

less : (o : Ordering) → T (is_lt o) → o ≡ Less
less Less p = refl
less Equal p = absurd p
less Greater p = absurd p

all_below : (g : Gtid) (es : List Entry) → T (below_all gtid_cmp g es) → AllByRecursion (λ f. gtid_cmp g f.0 ≡ Less) es
all_below g [] h = tt
all_below g (e ∷ es) h = (less _ (first (is_lt (gtid_cmp g e.0)) (below_all gtid_cmp g es) h), all_below g es (second (is_lt (gtid_cmp g e.0)) (below_all gtid_cmp g es) h))

rising_from : (es : List Entry) → T (is_sorted gtid_cmp es) → IsAscending es
rising_from [] h = tt
rising_from (e ∷ es) h = (all_below e.0 es (first (below_all gtid_cmp e.0 es) (is_sorted gtid_cmp es) h), rising_from es (second (below_all gtid_cmp e.0 es) (is_sorted gtid_cmp es) h))

pub rising : (world : World) → IsAscending (entries world.contents)
rising world = rising_from (entries world.contents) (entries_sorted world.contents)

not_equal : (g h : Gtid) → gtid_cmp g h ≡ Less → g ≢ h
not_equal g h l e = let tied : gtid_cmp g h ≡ Equal = ap (gtid_cmp g) (sym e) ∙ tied_itself gtid_total g in cc

pub distinct : (es : List Entry) → IsAscending es → AreDistinct es
distinct [] h = tt
distinct (e ∷ es) h = (all_map (λ f. gtid_cmp e.0 f.0 ≡ Less) (λ f. e.0 ≢ f.0) es (λ f l. not_equal e.0 f.0 l) h.0, distinct es h.1)

-- what the list has at each of its entries
abbrev pub AreFound : World → List Entry → Type 0
AreFound world es = AllByRecursion (λ e. content world e.0 ≡ Some e.1) es

greater_no : (r s : Ordering) → r ≡ ordering_reverse s → s ≡ Less → is_eq r ≡ false
greater_no r s e l = ap is_eq (e ∙ ap ordering_reverse l)

find_later : (g : Gtid) (e : Entry) (es : List Entry) → gtid_cmp e.0 g ≡ Less → find gtid_cmp g (e ∷ es) ≡ find gtid_cmp g es
find_later g e es l = ap (λ b. cond b (Some e.1) (find gtid_cmp g es)) (greater_no (gtid_cmp g e.0) (gtid_cmp e.0 g) (gtid_total.antisymm g e.0) l)

find_first : (e : Entry) (es : List Entry) → find gtid_cmp e.0 (e ∷ es) ≡ Some e.1
find_first e es = ap (λ r. cond (is_eq r) (Some e.1) (find gtid_cmp e.0 es)) (tied_itself gtid_total e.0)

all_found : (es : List Entry) → IsAscending es → AllByRecursion (λ e. find gtid_cmp e.0 es ≡ Some e.1) es
all_found [] h = tt
all_found (e ∷ es) h = (
  find_first e es,
  all_two (λ f. gtid_cmp e.0 f.0 ≡ Less) (λ f. find gtid_cmp f.0 es ≡ Some f.1) (λ f. find gtid_cmp f.0 (e ∷ es) ≡ Some f.1) es (λ f l g. find_later f.0 e es l ∙ g) h.0 (all_found es h.1),
)

pub found : (world : World) → AreFound world (entries world.contents)
found world =
    all_map (λ e. find gtid_cmp e.0 (entries world.contents) ≡ Some e.1) (λ e. content world e.0 ≡ Some e.1) (entries world.contents)
    (λ e f. get-entries world.contents e.0 ∙ f) (all_found (entries world.contents) (rising world))

is_in_by : (g : Gtid) (t : Transaction) (e : Entry) (es : List Entry) (r : Ordering) → gtid_cmp g e.0 ≡ r → (find gtid_cmp g es ≡ Some t → IsIn (g, t) es) → cond (is_eq r) (Some e.1) (find gtid_cmp g es) ≡ Some t → IsIn (g, t) (e ∷ es)
is_in_by g t e es Less c h f = inr (h f)
is_in_by g t e es Equal c h f =
    let same : g ≡ e.0 = gtid_exact g e.0 c in
    let there : e.1 ≡ t = some_same e.1 t f in
    inl (λ i. (sym same i, there i))
  where
    some_same : (x y : Transaction) → Some x ≡ Some y → x ≡ y
    some_same x y p = cc
is_in_by g t e es Greater c h f = inr (h f)

is_in_from : (g : Gtid) (t : Transaction) (es : List Entry) → find gtid_cmp g es ≡ Some t → IsIn (g, t) es
is_in_from g t [] f = cc
is_in_from g t (e ∷ es) f = is_in_by g t e es (gtid_cmp g e.0) refl (is_in_from g t es) f

pub is_in : (world : World) (g : Gtid) (t : Transaction) → content world g ≡ Some t → IsIn (g, t) (entries world.contents)
is_in world g t f = is_in_from g t (entries world.contents) (sym (get-entries world.contents g) ∙ f)

-- ---- what soundness and closedness mean for the list

pub apart_sources : (world : World) → AreKeysSound world → (g h : Gtid) (t u : Transaction) → content world g ≡ Some t → content world h ≡ Some u → g.source ≢ h.source → AreApart world.schema t u
apart_sources world sound g h t u f k n = apart_unless world.schema t u (sound.apart g h t u f k n)

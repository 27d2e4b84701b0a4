-- Lists of entries in which no GTID is twice, their prefixes, and what a channel receives next.
use Rattle.std.proofs.Common.{◌≡◌, Bool, true, false, cond, not, ◌||◌, ◌⊎◌, inl, inr, List, [], ◌∷◌, ◌++◌, Some, refl, sym, ap, ◌∙◌, subst, append_assoc}
use Rattle.std.specs.Prelude.{find}
use Rattle.std.specs.List.{filter}
use Rattle.std.specs.FinSet as set
use Rattle.std.proofs.lemmas.Bool.{cases_Bool, or_cases, or_left, or_right, not-true}
use Rattle.std.proofs.lemmas.List.Elements.{filter-append}
use Rattle.std.proofs.lemmas.Option.{same_Some}
use Rattle.lemmas.proofs.Tests.{not_both}
use Rattle.lemmas.proofs.Options.{none_some}
use Rattle.lemmas.proofs.SameGtid.{same_itself, same_is_equal}
use Rattle.gtid_text.specs.declared.Gtid.{Gtid}
use Rattle.gtid_text.specs.Gtids.{same_gtid}
use Rattle.gtid_set.specs.Sets.{Gtids}
use Rattle.journal.specs.declared.Entry.{Entry}
use Rattle.journal.specs.Journals.{AreNew}
use Rattle.auto_position.specs.Sending.{is_wanted}
use Rattle.history.proofs.Covering.{in_insert, entries_append}
use Rattle.network.specs.Sending.{is_entry, NextIsSent}

-- ---- no GTID twice

abbrev pub IsOnce : List Entry → Type 0
IsOnce [] = Unit {0}
IsOnce (e ∷ es) = (is_entry es e.gtid ≡ false) × IsOnce es

-- what was seen is no entry that is new
seen_is_none : (seen : Gtids) (es : List Entry) (g : Gtid) → AreNew seen es → set.contains seen g ≡ true → is_entry es g ≡ false
seen_is_none seen [] g new there = refl
seen_is_none seen (e ∷ es) g new there =
    let other : same_gtid g e.gtid ≡ false = elim (cases_Bool (same_gtid g e.gtid)) [
      | inl same ↦ not_both (set.contains seen e.gtid) (ap (set.contains seen) (sym (same_is_equal g e.gtid same)) ∙ there) new.0
      | inr n ↦ n
    ] in
    ap (λ b. b || is_entry es g) other
    ∙ seen_is_none (set.insert seen e.gtid) es g new.1 (in_insert seen e.gtid g ∙ or_right (same_gtid g e.gtid) (set.contains seen g) there)

pub once_from_new : (seen : Gtids) (es : List Entry) → AreNew seen es → IsOnce es
once_from_new seen [] new = tt
once_from_new seen (e ∷ es) new = (
  seen_is_none (set.insert seen e.gtid) es e.gtid new.1 (in_insert seen e.gtid e.gtid ∙ or_left (same_gtid e.gtid e.gtid) (set.contains seen e.gtid) (same_itself e.gtid)),
  once_from_new (set.insert seen e.gtid) es new.1,
)

-- ---- what a filter leaves

filtered_by : (e : Entry) (F : List Entry) (g : Gtid) (b : Bool) → is_entry (cond b (e ∷ F) F) g ≡ true → ((b ≡ true) × (same_gtid g e.gtid ≡ true)) ⊎ (is_entry F g ≡ true)
filtered_by e F g true h = elim (or_cases (same_gtid g e.gtid) (is_entry F g) h) [ inl here ↦ inl (refl, here) | inr later ↦ inr later ]
filtered_by e F g false h = inr h

-- an entry of what is wanted is an entry, and is wanted
pub filtered : (asked : Gtids) (es : List Entry) (g : Gtid) → is_entry (filter (is_wanted asked) es) g ≡ true → (is_entry es g ≡ true) × (set.contains asked g ≡ false)
filtered asked [] g h = cc
filtered asked (e ∷ es) g h =
    elim (filtered_by e (filter (is_wanted asked) es) g (is_wanted asked e) h) [
      | inl here ↦ (
        or_left (same_gtid g e.gtid) (is_entry es g) here.1,
        ap (set.contains asked) (same_is_equal g e.gtid here.1) ∙ not-true (set.contains asked e.gtid) here.0,
      )
      | inr later ↦ let r = filtered asked es g later in (or_right (same_gtid g e.gtid) (is_entry es g) r.0, r.1)
    ]

none_filtered : (asked : Gtids) (es : List Entry) (g : Gtid) → is_entry es g ≡ false → is_entry (filter (is_wanted asked) es) g ≡ false
none_filtered asked es g n = elim (cases_Bool (is_entry (filter (is_wanted asked) es) g)) [
  | inl there ↦ not_both (is_entry es g) (filtered asked es g there).0 n
  | inr none ↦ none
]

once_by : (e : Entry) (F : List Entry) (b : Bool) → is_entry F e.gtid ≡ false → IsOnce F → IsOnce (cond b (e ∷ F) F)
once_by e F true n h = (n, h)
once_by e F false n h = h

pub once_filtered : (asked : Gtids) (es : List Entry) → IsOnce es → IsOnce (filter (is_wanted asked) es)
once_filtered asked [] h = tt
once_filtered asked (e ∷ es) h = once_by e (filter (is_wanted asked) es) (is_wanted asked e) (none_filtered asked es e.gtid h.0) (once_filtered asked es h.1)

-- ---- two prefixes

head_same : (x y : Entry) (xs ys : List Entry) → x ∷ xs ≡ y ∷ ys → x ≡ y
head_same x y xs ys e = cc

tail_same : (x y : Entry) (xs ys : List Entry) → x ∷ xs ≡ y ∷ ys → xs ≡ ys
tail_same x y xs ys e = cc

no_entry : {A : Type 0} (g : Gtid) → is_entry [] g ≡ true → A
no_entry g e = cc

-- Of a list without a GTID twice: a prefix is what comes before an element that is not in it, where all that comes before
-- that element is in the prefix.
pub same_prefix : (zs rest xs ys : List Entry) (e : Entry) → IsOnce (zs ++ rest) → zs ++ rest ≡ xs ++ e ∷ ys
    → ((g : Gtid) → is_entry xs g ≡ true → is_entry zs g ≡ true) → is_entry zs e.gtid ≡ false → zs ≡ xs
same_prefix [] rest [] ys e once same inside out = refl
same_prefix [] rest (x ∷ xs) ys e once same inside out = no_entry x.gtid (inside x.gtid (or_left (same_gtid x.gtid x.gtid) (is_entry xs x.gtid) (same_itself x.gtid)))
same_prefix (z ∷ zs) rest [] ys e once same inside out =
    let is_e : z ≡ e = head_same z e (zs ++ rest) ys same in
    not_both (is_entry (z ∷ zs) e.gtid) (or_left (same_gtid e.gtid z.gtid) (is_entry zs e.gtid) (ap (λ (y : Entry). same_gtid e.gtid y.gtid) is_e ∙ same_itself e.gtid)) out
same_prefix (z ∷ zs) rest (x ∷ xs) ys e once same inside out =
    let is_x : z ≡ x = head_same z x (zs ++ rest) (xs ++ e ∷ ys) same in
    let more : zs ++ rest ≡ xs ++ e ∷ ys = tail_same z x (zs ++ rest) (xs ++ e ∷ ys) same in
    let later : (g : Gtid) → is_entry xs g ≡ true → is_entry zs g ≡ true = λ g h.
    elim (or_cases (same_gtid g z.gtid) (is_entry zs g) (inside g (or_right (same_gtid g x.gtid) (is_entry xs g) h))) [
      | inl is_z ↦ not_both (is_entry (zs ++ rest) z.gtid)
          (ap (λ es. is_entry es z.gtid) more ∙ (entries_append xs (e ∷ ys) z.gtid ∙ or_left (is_entry xs z.gtid) (is_entry (e ∷ ys) z.gtid) (ap (is_entry xs) (sym (same_is_equal g z.gtid is_z)) ∙ h)))
          once.0
      | inr there ↦ there
    ] in
    let out_later : is_entry zs e.gtid ≡ false = elim (cases_Bool (is_entry zs e.gtid)) [
      | inl there ↦ not_both (is_entry (z ∷ zs) e.gtid) (or_right (same_gtid e.gtid z.gtid) (is_entry zs e.gtid) there) out
      | inr none ↦ none
    ] in
    λ i. is_x i ∷ same_prefix zs rest xs ys e once.1 more later out_later i

-- ---- the first entry that has not come

pub record Parts (come : Gtid → Bool) (es : List Entry) (e : Entry) : Type 0 where
  pub before : List Entry
  pub after : List Entry
  pub parts : es ≡ before ++ e ∷ after
  pub came : (g : Gtid) → is_entry before g ≡ true → come g ≡ true
  pub new : come e.gtid ≡ false

found_by : (come : Gtid → Bool) (x : Entry) (es : List Entry) (e : Entry) (b : Bool) → come x.gtid ≡ b → (find (λ (y : Entry). not (come y.gtid)) es ≡ Some e → Parts come es e)
    → cond (not b) (Some x) (find (λ (y : Entry). not (come y.gtid)) es) ≡ Some e → Parts come (x ∷ es) e
found_by come x es e true t h f =
    let r = h f in
    record {
      before = x ∷ r.before;
      after = r.after;
      parts = ap (λ xs. x ∷ xs) r.parts;
      came = λ g i. elim (or_cases (same_gtid g x.gtid) (is_entry r.before g) i) [
        | inl here ↦ ap come (same_is_equal g x.gtid here) ∙ t
        | inr later ↦ r.came g later
      ];
      new = r.new;
    }
found_by come x es e false t h f =
    let is_e : x ≡ e = same_Some x e f in
    record {
      before = [];
      after = es;
      parts = ap (λ y. y ∷ es) is_e;
      came = λ g i. no_entry g i;
      new = ap (λ (y : Entry). come y.gtid) (sym is_e) ∙ t;
    }

pub found_parts : (come : Gtid → Bool) (es : List Entry) (e : Entry) → find (λ (y : Entry). not (come y.gtid)) es ≡ Some e → Parts come es e
found_parts come [] e f = none_some e f
found_parts come (x ∷ es) e f = found_by come x es e (come x.gtid) refl (found_parts come es e) f

wanted_first : (asked : Gtids) (e : Entry) (es : List Entry) → set.contains asked e.gtid ≡ false → filter (is_wanted asked) (e ∷ es) ≡ e ∷ filter (is_wanted asked) es
wanted_first asked e es n = ap (λ b. cond (not b) (e ∷ filter (is_wanted asked) es) (filter (is_wanted asked) es)) n

pub next_is_sent : NextIsSent
next_is_sent asked since rest purged left come e new same come_is asks came_since came_purged f =
    let F : List Entry → List Entry = filter (is_wanted asked) in
    let p = found_parts come left e f in
    let X = purged ++ p.before in
    let split : purged ++ left ≡ X ++ e ∷ p.after = ap (λ es. purged ++ es) p.parts ∙ sym (append_assoc purged p.before (e ∷ p.after)) in
    let unasked : set.contains asked e.gtid ≡ false = elim (cases_Bool (set.contains asked e.gtid)) [ inl a ↦ not_both (come e.gtid) (asks e.gtid a) p.new | inr n ↦ n ] in
    let filtered_split : F (purged ++ left) ≡ F X ++ e ∷ F p.after =
    ap F split ∙ (filter-append (is_wanted asked) X (e ∷ p.after) ∙ ap (λ es. F X ++ es) (wanted_first asked e p.after unasked)) in
    let once : IsOnce (since ++ rest) = subst IsOnce same (once_filtered asked (purged ++ left) (once_from_new set.empty (purged ++ left) new)) in
    let inside : (g : Gtid) → is_entry (F X) g ≡ true → is_entry since g ≡ true = λ g h.
    let r = filtered asked X g h in
    let came : come g ≡ true = elim (or_cases (is_entry purged g) (is_entry p.before g) (sym (entries_append purged p.before g) ∙ r.0)) [
      | inl old ↦ came_purged g old
      | inr before ↦ p.came g before
    ] in
    elim (come_is g came) [ inl a ↦ not_both (set.contains asked g) a r.1 | inr s ↦ s ] in
    let out : is_entry since e.gtid ≡ false = elim (cases_Bool (is_entry since e.gtid)) [ inl s ↦ not_both (come e.gtid) (came_since e.gtid s) p.new | inr n ↦ n ] in
    let prefix : since ≡ F X = same_prefix since rest (F X) (F p.after) e once (sym same ∙ filtered_split) inside out in
    (F p.after, filtered_split ∙ (ap (λ es. es ++ e ∷ F p.after) (sym prefix) ∙ sym (append_assoc since (e ∷ []) (F p.after))))

-- What a replica has executed once it was served.
use Rattle.std.proofs.Common.{◌≡◌, Bool, true, false, cond, not, ◌||◌, inl, inr, List, [], ◌∷◌, ◌++◌, refl, sym, ap, ◌∙◌, subst}
use Rattle.std.specs.List.{filter}
use Rattle.std.specs.FinSet as set
use Rattle.std.specs.FinSet.{contains-union, is_subset-contains, same_set}
use Rattle.gtid_text.specs.declared.Gtid.{Gtid}
use Rattle.gtid_text.specs.Gtids.{same_gtid}
use Rattle.journal.specs.declared.Entry.{Entry}
use Rattle.journal.specs.Journals.{whole}
use Rattle.replica_core.specs.declared.event.Event.{Event}
use Rattle.replica_core.specs.State.{State, Site}
use Rattle.replica_core.specs.Machine.{step, after}
use Rattle.history.specs.Join.{join}
use Rattle.auto_position.specs.Sending.{own_of}
use Rattle.convergence.specs.Served.{IsDrained, accepted_entries, received_in, NoLocalCommits, ServedIsJoined}
use Rattle.convergence.proofs.Sending.{sent_cases}
use Rattle.history.proofs.Covering.{is_entry, has, in_whole, entries_append}
use Rattle.convergence.proofs.Growing.{Known, Grows, gains_none, grows_channels, step_grows}
use Rattle.std.proofs.lemmas.Bool.{cases_Bool, or_cases, or_left, or_right}
use Rattle.lemmas.proofs.Tests.{same_bool}
use Rattle.lemmas.proofs.SameGtid.{same_is_equal, gtid_total, gtid_exact}

then_grows : (s t u : State) (xs ys : List Entry) → Grows s t xs → Grows t u ys → Grows s u (xs ++ ys)
then_grows s t u xs ys f h = record {
  origin = λ g k. elim (h.origin g k) [
    | inl was ↦ elim (f.origin g was) [
      | inl before ↦ inl before
      | inr came ↦ inr (entries_append xs ys g ∙ or_left (is_entry xs g) (is_entry ys g) came)
    ]
    | inr came ↦ inr (entries_append xs ys g ∙ or_right (is_entry xs g) (is_entry ys g) came)
  ];
  kept = λ g e. h.kept g (f.kept g e);
  there = λ g w. h.there g (f.there g w);
  received = λ g w. elim (h.received g w) [
    | inl was ↦ elim (f.received g was) [
      | inl before ↦ inl before
      | inr came ↦ inr (entries_append xs ys g ∙ or_left (is_entry xs g) (is_entry ys g) came)
    ]
    | inr came ↦ inr (entries_append xs ys g ∙ or_right (is_entry xs g) (is_entry ys g) came)
  ];
  arrived = λ g e. elim (or_cases (is_entry xs g) (is_entry ys g) (sym (entries_append xs ys g) ∙ e)) [
    | inl came ↦ h.there g (f.arrived g came)
    | inr came ↦ h.arrived g came
  ];
}

pub run_grows : (site : Site) (s : State) (events : List Event) → NoLocalCommits site s events → Grows s (after site s events) (received_in site s events)
run_grows site s [] n = grows_channels s s [] refl (gains_none s.channels)
run_grows site s (e ∷ es) n =
    then_grows s (step site s e).1 (after site (step site s e).1 es) (accepted_entries e (step site s e).0) (received_in site (step site s e).1 es)
    ((step_grows site s e).grows n.0) (run_grows site (step site s e).1 es n.1)

pub drained_known : (s : State) (g : Gtid) → IsDrained s → Known s g → set.contains s.executed g ≡ true
drained_known s g drained (inl done) = done
drained_known s g drained (inr w) = ap (set.contains s.executed) (sym w.3.3) ∙ drained w.0 w.3.0 w.1 w.3.1 w.2 w.3.2

filtered_by : (e : Entry) (F es : List Entry) (g : Gtid) (b : Bool) → (is_entry F g ≡ true → is_entry es g ≡ true) → is_entry (cond b (e ∷ F) F) g ≡ true → is_entry (e ∷ es) g ≡ true
filtered_by e F es g true h i = elim (or_cases (same_gtid g e.gtid) (is_entry F g) i) [ inl here ↦ or_left (same_gtid g e.gtid) (is_entry es g) here | inr later ↦ or_right (same_gtid g e.gtid) (is_entry es g) (h later) ]
filtered_by e F es g false h i = or_right (same_gtid g e.gtid) (is_entry es g) (h i)

pub in_filtered : (p : Entry → Bool) (es : List Entry) (g : Gtid) → is_entry (filter p es) g ≡ true → is_entry es g ≡ true
in_filtered p [] g h = h
in_filtered p (e ∷ es) g h = filtered_by e (filter p es) es g (p e) (in_filtered p es g) h

passes_by : (e : Entry) (F : List Entry) (g : Gtid) (b : Bool) → b ≡ true → (same_gtid g e.gtid || is_entry F g) ≡ true → is_entry (cond b (e ∷ F) F) g ≡ true
passes_by e F g true t h = h
passes_by e F g false t h = cc

later_by : (e : Entry) (F : List Entry) (g : Gtid) (b : Bool) → is_entry F g ≡ true → is_entry (cond b (e ∷ F) F) g ≡ true
later_by e F g true h = or_right (same_gtid g e.gtid) (is_entry F g) h
later_by e F g false h = h

pub passes : (p : Entry → Bool) (es : List Entry) (g : Gtid) → ((e : Entry) → same_gtid g e.gtid ≡ true → p e ≡ true) → is_entry es g ≡ true → is_entry (filter p es) g ≡ true
passes p [] g f h = h
passes p (e ∷ es) g f h =
    elim (or_cases (same_gtid g e.gtid) (is_entry es g) h) [
      | inl here ↦ passes_by e (filter p es) g (p e) (f e here) (or_left (same_gtid g e.gtid) (is_entry (filter p es) g) here)
      | inr later ↦ later_by e (filter p es) g (p e) (passes p es g f later)
    ]

pub served_is_joined : ServedIsJoined
served_is_joined site s events j own all drained is_sent got no_local drained_after =
    let F : Entry → Bool = λ e. not (set.contains s.executed e.gtid) in
    let end = after site s events in
    let cases = sent_cases (set.is_subset j.previous s.executed) (set.is_subset (own_of s.executed own) (whole j)) _ _ (filter F j.entries) all is_sent in
    let grows : Grows s end all = subst (Grows s end) got (run_grows site s events no_local) in
    same_set gtid_total gtid_exact end.executed (join s.executed (whole j)) (λ g.
    let split : set.contains (join s.executed (whole j)) g ≡ (set.contains s.executed g || has j g) = contains-union gtid_total s.executed (whole j) g ∙ ap (λ b. set.contains s.executed g || b) (in_whole j g) in
    same_bool (set.contains end.executed g) (set.contains (join s.executed (whole j)) g)
    (λ h. split ∙ elim (grows.origin g (inl h)) [
      | inl known ↦ or_left (set.contains s.executed g) (has j g) (drained_known s g drained known)
      | inr came ↦ or_right (set.contains s.executed g) (has j g) (or_right (set.contains j.previous g) (is_entry j.entries g) (in_filtered F j.entries g (ap (λ es. is_entry es g) cases.1 ∙ came)))
    ])
    (λ h. elim (or_cases (set.contains s.executed g) (has j g) (sym split ∙ h)) [
      | inl was ↦ grows.kept g was
      | inr in_journal ↦ elim (cases_Bool (set.contains s.executed g)) [
        | inl was ↦ grows.kept g was
        | inr new ↦ elim (or_cases (set.contains j.previous g) (is_entry j.entries g) in_journal) [
          | inl purged ↦ grows.kept g (is_subset-contains gtid_total j.previous s.executed cases.0 g purged)
          | inr entry ↦
              let passed : is_entry (filter F j.entries) g ≡ true = passes F j.entries g (λ e same. ap (λ (x : Gtid). not (set.contains s.executed x)) (sym (same_is_equal g e.gtid same)) ∙ ap not new) entry in
              drained_known end g drained_after (inr (grows.arrived g (ap (λ es. is_entry es g) (sym cases.1) ∙ passed)))
        ]
      ]
    ]))

-- Places in a journal, and entries whose places are behind others.
use Rattle.std.proofs.Common.{◌≡◌, ℕ, ◌+◌, ◌≤◌, ◌<◌, Bool, true, false, cond, List, [], ◌∷◌, ◌++◌, take, drop, get_or, length, Option, Some, None, sym, ap, ◌∙◌, arith}
use Rattle.std.specs.Prelude.{find, option_map, if◌then◌else◌}
use Rattle.std.specs.List.{position_from}
use Rattle.std.specs.FinSet as set
use Rattle.std.proofs.lemmas.Bool.Decides.{nat_tests}
use Rattle.std.proofs.lemmas.List.{take_more, drop_more}
use Rattle.gtid_text.specs.declared.Gtid.{Gtid}
use Rattle.gtid_text.specs.Gtids.{same_gtid}
use Rattle.gtid_set.specs.Sets.{Gtids}
use Rattle.journal.specs.declared.Entry.{Entry}
use Rattle.world.specs.Search.{or_next}
use Rattle.fault_places.specs.declared.orders.Inversion.{Inversion}
use Rattle.fault_places.specs.Orders.{is_after, first_after, inversion_by, inversion_from}

-- the place, from n on, at which entries bring a GTID that is not in the opening set
abbrev pub position_after : Gtids → ℕ → List Entry → Gtid → Option ℕ
position_after opened n es g = if set.contains opened g then None else position_from (λ e. same_gtid g e.gtid) n es

module _ (place : Gtid → Option ℕ) where
  -- one more entry that is not behind p
  pushed : (b : Bool) (s : Entry) (more longer : Option Entry) → (option_map (λ (x : Entry). x.gtid) more ≡ None → option_map (λ (x : Entry). x.gtid) longer ≡ None)
      → option_map (λ (x : Entry). x.gtid) (cond b (Some s) more) ≡ None → option_map (λ (x : Entry). x.gtid) (cond b (Some s) longer) ≡ None
  pushed true s more longer next h = absurd cc
  pushed false s more longer next h = next h

  after_push : (p : ℕ) (seen : List Entry) (e : Entry) → first_after place p seen ≡ None → is_after p (place e.gtid) ≡ false → first_after place p (seen ++ e ∷ []) ≡ None
  after_push p [] e h off = ap (λ b. option_map (λ (x : Entry). x.gtid) (cond b (Some e) None)) off
  after_push p (s ∷ ss) e h off =
      pushed (is_after p (place s.gtid)) s (find (λ x. is_after p (place x.gtid)) ss) (find (λ x. is_after p (place x.gtid)) (ss ++ e ∷ []))
      (λ k. after_push p ss e k off) h

  -- the next entry crosses none
  pub inversion_next : (es : List Entry) (i : ℕ) (e : Entry) (o : Option ℕ) (end : Option Inversion) → i < length es → e ≡ get_or es i e → o ≡ place e.gtid → inversion_by place (take i es) e o ≡ None
      → inversion_from place (take i es) (drop i es) ≡ end → inversion_from place (take (i + 1) es) (drop (i + 1) es) ≡ end
  inversion_next es i e o end h at stands none is =
      let rest : Option Inversion = inversion_from place (take i es ++ e ∷ []) (drop (i + 1) es) in
      ap (λ seen. inversion_from place seen (drop (i + 1) es)) (take_more es i e h ∙ ap (λ x. take i es ++ x ∷ []) (sym at))
      ∙ sym (ap (λ x. or_next x rest) (ap (inversion_by place (take i es) e) (sym stands) ∙ none))
      ∙ sym (ap (inversion_from place (take i es)) (drop_more es i e h ∙ ap (λ x. x ∷ drop (i + 1) es) (sym at)))
      ∙ is

  -- nothing that was seen is behind p, nor is the next entry
  pub none_next : (es : List Entry) (i : ℕ) (e : Entry) (o : Option ℕ) (p : ℕ) → i < length es → e ≡ get_or es i e → o ≡ place e.gtid → is_after p o ≡ false
      → first_after place p (take i es) ≡ None → first_after place p (take (i + 1) es) ≡ None
  none_next es i e o p h at stands off none =
      ap (first_after place p) (take_more es i e h ∙ ap (λ x. take i es ++ x ∷ []) (sym at))
      ∙ after_push p (take i es) e none (ap (is_after p) (sym stands) ∙ off)

-- a place is not behind a later one
pub not_after : (p q : ℕ) → q ≤ p → is_after p (Some q) ≡ false
not_after p q h = grind (arith, nat_tests)

-- where nothing is behind a place, nothing crosses an entry there
pub inversion_none : (place : Gtid → Option ℕ) (seen : List Entry) (e : Entry) (q : ℕ) → first_after place q seen ≡ None → inversion_by place seen e (Some q) ≡ None
inversion_none place seen e q h = ap (option_map (λ (g : Gtid). record { earlier = g; later = e.gtid })) h

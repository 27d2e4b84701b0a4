-- Reading a line is sound: a line has the content that is read of it.
use Rattle.std.proofs.Common.{◌≡◌, ℕ, Bool, true, false, eqb, List, [], ◌∷◌, ◌++◌, Option, Some, None, refl, sym, ap, ◌∙◌, subst, append_assoc, append-nil, inl, inr, ◌⊎◌, eq-eqb}
use Rattle.std.specs.Prelude.{IfSome, option_map, codes, decimal, is_some}
use Rattle.std.specs.Str.{bytes_eq}
use Rattle.std.proofs.lemmas.Bool.{eqb-true}
use Rattle.std.proofs.lemmas.Option.{same_Some}
use Rattle.std.proofs.lemmas.Slice.Eq.{bytes_eq-Decides}
use Rattle.gtid_text.proofs.Turns.{chosen}
use Rattle.row_images.specs.Words.{count_of}
use Rattle.row_images.proofs.Counts.{count_found}
use Rattle.binlog_text.specs.Tokens.{after_prefix, cut_at, nothing_in, last_cut, ◌>>=◌}
use Rattle.binlog_text.specs.Lines.{Content, OfMark, OfGtid, OfSources, IsName, table_text, operation_text, rows_text, event_text, HasFlags, begins_with_digit, IsStamp, column_front, column_end, named_text, is_source, comma, IsWhole, begins, is_comment, is_setting, is_savepoint, is_frame, is_maintenance, IsLine}
use Rattle.binlog_text.specs.Reading.{branch, table_at, row_at, assignment_at, row_line, is_last_at, name_at, column, column_at, sources, sources_in, comment_line, table_map_at, rows_event, other_event, event_of, content_at, head_line, gtid_at, plain_line, line_of}
use Rattle.binlog_text.specs.declared.lines.RowOperation.{RowOperation}
use Rattle.binlog_text.specs.declared.lines.RowOperation.TheVariants as operations
use Rattle.binlog_text.specs.declared.lines.LogEvent.{LogEvent}
use Rattle.binlog_text.specs.declared.lines.LogEvent.TheVariants as events
use Rattle.binlog_text.specs.declared.lines.Mark.TheVariants as marks
use Rattle.binlog_text.proofs.TokenLaws.{bind_some, after_found, cut_found, nothing_found, last_found, last_again}

-- ---- ways

branch_on : (front text : List ℕ) (o : Option (List ℕ)) (f : List ℕ → Option Content) (other : Option Content) (l : Content) → after_prefix front text ≡ o → branch o f other ≡ Some l → ((rest : List ℕ) × (text ≡ front ++ rest) × (f rest ≡ Some l)) ⊎ (other ≡ Some l)
branch_on front text None f other l e h = inr h
branch_on front text (Some rest) f other l e h = inl (rest, after_found front text rest e, h)

pub branch_found : (front text : List ℕ) (f : List ℕ → Option Content) (other : Option Content) (l : Content) → branch (after_prefix front text) f other ≡ Some l → ((rest : List ℕ) × (text ≡ front ++ rest) × (f rest ≡ Some l)) ⊎ (other ≡ Some l)
branch_found front text f other l h = branch_on front text (after_prefix front text) f other l refl h

pub same_text : (text lit : List ℕ) → bytes_eq text lit ≡ true → text ≡ lit
same_text text lit e = (bytes_eq-Decides text lit).0 e

pub begun : (front text : List ℕ) (o : Option (List ℕ)) → after_prefix front text ≡ o → is_some o ≡ true → (rest : List ℕ) × (text ≡ front ++ rest)
begun front text None e h = absurd cc
begun front text (Some rest) e h = (rest, after_found front text rest e)

-- ---- tables

pub record IsTable (text : List ℕ) (x : List ℕ × List ℕ × List ℕ) : Type 0 where
  pub parts : text ≡ table_text x.0 x.1 ++ x.2
  pub database : IsName x.0
  pub table : IsName x.1

pub regrouped : (d t rest : List ℕ) → 96 ∷ (d ++ 96 ∷ 46 ∷ 96 ∷ (t ++ 96 ∷ rest)) ≡ table_text d t ++ rest
regrouped d t rest = ap (λ (xs : List ℕ). 96 ∷ xs)
    (ap (λ (xs : List ℕ). d ++ 96 ∷ 46 ∷ 96 ∷ xs) (sym (append_assoc t (96 ∷ []) rest))
    ∙ sym (append_assoc d (96 ∷ 46 ∷ 96 ∷ (t ++ 96 ∷ [])) rest))

table_found : (text : List ℕ) (x : List ℕ × List ℕ × List ℕ) → table_at text ≡ Some x → IsTable text x
table_found text x e =
    let a = bind_some (after_prefix (96 ∷ []) text) _ x e in
    let front = after_found (96 ∷ []) text a.0 a.1 in
    let b = bind_some (cut_at 96 a.0) _ x a.2 in
    let database = cut_found 96 a.0 b.0 b.1 in
    let c = bind_some (after_prefix (46 ∷ 96 ∷ []) b.0.1) _ x b.2 in
    let middle = after_found (46 ∷ 96 ∷ []) b.0.1 c.0 c.1 in
    let d = bind_some (cut_at 96 c.0) _ x c.2 in
    let table = cut_found 96 c.0 d.0 d.1 in
    subst (IsTable text) (same_Some _ _ d.2) (record {
      parts = front
          ∙ ap (λ (xs : List ℕ). 96 ∷ xs) (database.parts ∙ ap (λ (xs : List ℕ). b.0.0 ++ 96 ∷ xs) (middle ∙ ap (λ (xs : List ℕ). 46 ∷ 96 ∷ xs) table.parts))
          ∙ regrouped b.0.0 d.0.0 d.0.1;
      database = database.free;
      table = table.free;
    })

-- ---- rows

row_found : (operation : RowOperation) (text : List ℕ) (l : Content) → row_at operation text ≡ Some l → IsLine l (codes "### " ++ (operation_text operation ++ text))
row_found operation text l e =
    let a = bind_some (table_at text) _ l e in
    let table = table_found text a.0 a.1 in
    let n = bind_some (nothing_in a.0.2) _ l a.2 in
    let end = nothing_found a.0.2 n.0 n.1 in
    let whole : text ≡ table_text a.0.0 a.0.1 = table.parts ∙ ap (λ (xs : List ℕ). table_text a.0.0 a.0.1 ++ xs) end ∙ append-nil (table_text a.0.0 a.0.1) in
    subst (λ (m : Content). IsLine m (codes "### " ++ (operation_text operation ++ text))) (same_Some _ _ n.2)
    (ap (λ (xs : List ℕ). codes "### " ++ (operation_text operation ++ xs)) whole, table.database, table.table)

assigned_found : (text : List ℕ) (l : Content) → assignment_at text ≡ Some l → IsLine l (codes "###   @" ++ text)
assigned_found text l e =
    let a = bind_some (cut_at 61 text) _ l e in
    let cut = cut_found 61 text a.0 a.1 in
    let n = bind_some (count_of a.0.0) _ l a.2 in
    let count = count_found a.0.0 n.0 n.1 in
    subst (λ (m : Content). IsLine m (codes "###   @" ++ text)) (same_Some _ _ n.2)
    (ap (λ (xs : List ℕ). codes "###   @" ++ xs) (cut.parts ∙ ap (λ (xs : List ℕ). xs ++ 61 ∷ a.0.1) count.0), count.1)

extra_found : (text : List ℕ) → begins (codes "Extra row info for partitioning: ") text ≡ true → IsLine (OfMark marks.Extra) (codes "### " ++ text)
extra_found text h =
    let front = begun (codes "Extra row info for partitioning: ") text (after_prefix (codes "Extra row info for partitioning: ") text) refl h in
    (front.0, ap (λ (xs : List ℕ). codes "### " ++ xs) front.1)

row_line_found : (text : List ℕ) (l : Content) → row_line text ≡ Some l → IsLine l (codes "### " ++ text)
row_line_found text l e = elim (branch_found (codes "  @") text assignment_at _ l e) [
  | inl p ↦ subst (λ (xs : List ℕ). IsLine l (codes "### " ++ xs)) (sym p.1) (assigned_found p.0 l p.2)
  | inr p ↦ elim (branch_found (operation_text operations.Insert) text (row_at operations.Insert) _ l p) [
    | inl q ↦ subst (λ (xs : List ℕ). IsLine l (codes "### " ++ xs)) (sym q.1) (row_found operations.Insert q.0 l q.2)
    | inr q ↦ elim (branch_found (operation_text operations.Update) text (row_at operations.Update) _ l q) [
      | inl r ↦ subst (λ (xs : List ℕ). IsLine l (codes "### " ++ xs)) (sym r.1) (row_found operations.Update r.0 l r.2)
      | inr r ↦ elim (branch_found (operation_text operations.Delete) text (row_at operations.Delete) _ l r) [
        | inl s ↦ subst (λ (xs : List ℕ). IsLine l (codes "### " ++ xs)) (sym s.1) (row_found operations.Delete s.0 l s.2)
        | inr s ↦ elim (chosen (bytes_eq text (codes "WHERE")) (Some (OfMark marks.Where)) _ (Some l) s) [
          | inl t ↦ subst (λ (m : Content). IsLine m (codes "### " ++ text)) (same_Some _ _ t.1) (ap (λ (xs : List ℕ). codes "### " ++ xs) (same_text text (codes "WHERE") t.0))
          | inr t ↦ elim (chosen (bytes_eq text (codes "SET")) (Some (OfMark marks.Set)) _ (Some l) t.1) [
            | inl u ↦ subst (λ (m : Content). IsLine m (codes "### " ++ text)) (same_Some _ _ u.1) (ap (λ (xs : List ℕ). codes "### " ++ xs) (same_text text (codes "SET") u.0))
            | inr u ↦ elim (chosen (begins (codes "Extra row info for partitioning: ") text) (Some (OfMark marks.Extra)) None (Some l) u.1) [
              | inl v ↦ subst (λ (m : Content). IsLine m (codes "### " ++ text)) (same_Some _ _ v.1) (extra_found text v.0)
              | inr v ↦ absurd cc
            ]
          ]
        ]
      ]
    ]
  ]
]

-- ---- comments

last_at_found : (b : ℕ) (last : Bool) → is_last_at b ≡ Some last → b ≡ column_end last
last_at_found b last e = elim (chosen (eqb b 41) (Some true) _ (Some last) e) [
  | inl p ↦ eqb-true b 41 p.0 ∙ ap column_end (same_Some _ _ p.1)
  | inr p ↦ elim (chosen (eqb b 44) (Some false) None (Some last) p.1) [
    | inl q ↦ eqb-true b 44 q.0 ∙ ap column_end (same_Some _ _ q.1)
    | inr q ↦ absurd cc
  ]
]

pub record Names (text : List ℕ) (x : List ℕ × List ℕ) : Type 0 where
  pub parts : text ≡ x.0 ++ 96 ∷ 32 ∷ x.1
  pub name : IsName x.0

name_found : (text : List ℕ) (x : List ℕ × List ℕ) → name_at text ≡ Some x → Names text x
name_found text x e =
    let a = bind_some (cut_at 96 text) _ x e in
    let cut = cut_found 96 text a.0 a.1 in
    let b = bind_some (after_prefix (32 ∷ []) a.0.1) _ x a.2 in
    let rest = after_found (32 ∷ []) a.0.1 b.0 b.1 in
    subst (Names text) (same_Some _ _ b.2) (record { parts = cut.parts ∙ ap (λ (xs : List ℕ). a.0.0 ++ 96 ∷ xs) rest; name = cut.free })

-- what comes before the end of a column's line
column_parts : (is_first is_last : Bool) (front : List ℕ) (o : Option (List ℕ)) (l : Content) → after_prefix (96 ∷ []) front ≡ o → branch o (λ rest. name_at rest >>= λ named. Some (column is_first is_last (Some named.0) named.1)) (Some (column is_first is_last None front)) ≡ Some l → IsLine l (codes "# " ++ (column_front is_first ++ (front ++ column_end is_last ∷ [])))
column_parts is_first is_last front None l e h = subst (λ (m : Content). IsLine m (codes "# " ++ (column_front is_first ++ (front ++ column_end is_last ∷ [])))) (same_Some _ _ h) (refl, e)
column_parts is_first is_last front (Some rest) l e h =
    let a = bind_some (name_at rest) _ l h in
    let named = name_found rest a.0 a.1 in
    let whole : front ≡ named_text (Some a.0.0) a.0.1 = after_found (96 ∷ []) front rest e ∙ ap (λ (xs : List ℕ). 96 ∷ xs) named.parts in
    subst (λ (m : Content). IsLine m (codes "# " ++ (column_front is_first ++ (front ++ column_end is_last ∷ [])))) (same_Some _ _ a.2)
    (ap (λ (xs : List ℕ). codes "# " ++ (column_front is_first ++ (xs ++ column_end is_last ∷ []))) whole, named.name)

column_found : (is_first : Bool) (text : List ℕ) (l : Content) → column_at is_first text ≡ Some l → IsLine l (codes "# " ++ (column_front is_first ++ text))
column_found is_first text l e =
    let a = bind_some (last_cut text) _ l e in
    let cut = last_found text a.0 a.1 in
    let b = bind_some (is_last_at a.0.1) _ l a.2 in
    let end = last_at_found a.0.1 b.0 b.1 in
    let whole : text ≡ a.0.0 ++ column_end b.0 ∷ [] = cut ∙ ap (λ (c : ℕ). a.0.0 ++ c ∷ []) end in
    subst (λ (xs : List ℕ). IsLine l (codes "# " ++ (column_front is_first ++ xs))) (sym whole)
    (column_parts is_first b.0 a.0.0 (after_prefix (96 ∷ []) a.0.0) l refl b.2)

sources_are : (text : List ℕ) (more : Bool) (l : Content) → sources text more ≡ Some l → IsWhole more text → IsLine l (codes "# " ++ (text ++ comma more))
sources_are text more l e whole = elim (chosen (is_source text) (Some (OfSources text more)) None (Some l) e) [
  | inl p ↦ subst (λ (m : Content). IsLine m (codes "# " ++ (text ++ comma more))) (same_Some _ _ p.1) (refl, p.0, whole)
  | inr p ↦ absurd cc
]

-- a text that ends in another byte than a comma
no_comma : (text front : List ℕ) (b : ℕ) → text ≡ front ++ b ∷ [] → eqb b 44 ≡ false → IsWhole false text
no_comma text front b e h other is = different (ap (λ (x : List ℕ × ℕ). x.1) (same_Some _ _ (sym (last_again front b) ∙ ap last_cut (sym e ∙ is) ∙ last_again other 44)))
  where
    different : b ≡ 44 → ⊥
    different same = let comma : true ≡ false = sym (eq-eqb b 44 same) ∙ h in absurd cc

sources_found : (text : List ℕ) (o : Option (List ℕ × ℕ)) (l : Content) → last_cut text ≡ o → sources_in text o ≡ Some l → IsLine l (codes "# " ++ text)
sources_found text None l e h = absurd cc
sources_found text (Some x) l e h =
    let whole = last_found text x e in
    elim (chosen (eqb x.1 44) (sources x.0 true) (sources text false) (Some l) h) [
      | inl p ↦ subst (λ (xs : List ℕ). IsLine l (codes "# " ++ xs)) (sym (whole ∙ ap (λ (c : ℕ). x.0 ++ c ∷ []) (eqb-true x.1 44 p.0))) (sources_are x.0 true l p.1 tt)
      | inr p ↦ subst (λ (xs : List ℕ). IsLine l (codes "# " ++ xs)) (append-nil text) (sources_are text false l p.1 (no_comma text x.0 x.1 whole p.0))
    ]

comment_line_found : (text : List ℕ) (l : Content) → comment_line text ≡ Some l → IsLine l (codes "# " ++ text)
comment_line_found text l e = elim (branch_found (codes "at ") text (λ rest. Some (OfMark marks.Place)) _ l e) [
  | inl p ↦ subst (λ (xs : List ℕ). IsLine l (codes "# " ++ xs)) (sym p.1) (subst (λ (m : Content). IsLine m (codes "# at " ++ p.0)) (same_Some _ _ p.2) (p.0, refl))
  | inr p ↦ elim (branch_found (codes "Columns(") text (column_at true) _ l p) [
    | inl q ↦ subst (λ (xs : List ℕ). IsLine l (codes "# " ++ xs)) (sym q.1) (column_found true q.0 l q.2)
    | inr q ↦ elim (branch_found (codes "        ") text (column_at false) _ l q) [
      | inl r ↦ subst (λ (xs : List ℕ). IsLine l (codes "# " ++ xs)) (sym r.1) (column_found false r.0 l r.2)
      | inr r ↦ elim (chosen (is_comment text) (Some (OfMark marks.Comment)) _ (Some l) r) [
        | inl s ↦ subst (λ (m : Content). IsLine m (codes "# " ++ text)) (same_Some _ _ s.1) (text, refl, s.0)
        | inr s ↦ elim (chosen (bytes_eq text (codes "[empty]")) (Some (OfMark marks.Empty)) _ (Some l) s.1) [
          | inl t ↦ subst (λ (m : Content). IsLine m (codes "# " ++ text)) (same_Some _ _ t.1) (ap (λ (xs : List ℕ). codes "# " ++ xs) (same_text text (codes "[empty]") t.0))
          | inr t ↦ elim (chosen (bytes_eq text (codes "End of log file")) (Some (OfMark marks.Closed)) _ (Some l) t.1) [
            | inl u ↦ subst (λ (m : Content). IsLine m (codes "# " ++ text)) (same_Some _ _ u.1) (ap (λ (xs : List ℕ). codes "# " ++ xs) (same_text text (codes "End of log file") u.0))
            | inr u ↦ sources_found text (last_cut text) l refl u.1
          ]
        ]
      ]
    ]
  ]
]

-- ---- heads of events

mapped_found : (stamp text : List ℕ) (l : Content) → IsStamp stamp → table_map_at text ≡ Some l → IsLine l (35 ∷ (stamp ++ 9 ∷ (codes "Table_map: " ++ text)))
mapped_found stamp text l is e =
    let a = bind_some (table_at text) _ l e in
    let table = table_found text a.0 a.1 in
    let b = bind_some (after_prefix (codes " mapped to number ") a.0.2) _ l a.2 in
    let digits = after_found (codes " mapped to number ") a.0.2 b.0 b.1 in
    let c = bind_some (count_of b.0) _ l b.2 in
    let count = count_found b.0 c.0 c.1 in
    let whole : text ≡ table_text a.0.0 a.0.1 ++ (codes " mapped to number " ++ decimal c.0) = table.parts ∙ ap (λ (xs : List ℕ). table_text a.0.0 a.0.1 ++ xs) (digits ∙ ap (λ (xs : List ℕ). codes " mapped to number " ++ xs) count.0) in
    subst (λ (m : Content). IsLine m (35 ∷ (stamp ++ 9 ∷ (codes "Table_map: " ++ text)))) (same_Some _ _ c.2)
    (stamp, c.0, ap (λ (xs : List ℕ). 35 ∷ (stamp ++ 9 ∷ (codes "Table_map: " ++ xs))) whole, is, table.database, table.table, count.1)

-- the prefix of an event's text that was found
abbrev pub Tells : List ℕ → LogEvent → Type 0
Tells text event = (rest : List ℕ) × (text ≡ event_text event ++ rest) × HasFlags event rest

tells : (event found : LogEvent) (text : List ℕ) → ((rest : List ℕ) → HasFlags event rest) → begins (event_text event) text ≡ true → event ≡ found → Tells text found
tells event found text flags h e =
    let front = begun (event_text event) text (after_prefix (event_text event) text) refl h in
    subst (Tells text) e (front.0, front.1, flags front.0)

rows_found : (operation : RowOperation) (rest text : List ℕ) (event : LogEvent) → text ≡ rows_text operation ++ rest → rows_event operation rest ≡ Some event → Tells text event
rows_found operation rest text event parts e = subst (Tells text) (same_Some _ _ e) (rest, parts, refl)

other_found : (text : List ℕ) (event : LogEvent) → other_event text ≡ Some event → Tells text event
other_found text event e = elim (chosen (begins (event_text events.Xid) text) (Some events.Xid) _ (Some event) e) [
  | inl p ↦ tells events.Xid event text (λ rest. tt) p.0 (same_Some _ _ p.1)
  | inr p ↦ elim (chosen (begins (event_text events.Payload) text) (Some events.Payload) _ (Some event) p.1) [
    | inl p ↦ tells events.Payload event text (λ rest. tt) p.0 (same_Some _ _ p.1)
    | inr p ↦ elim (chosen (begins (event_text events.PreviousGtids) text) (Some events.PreviousGtids) _ (Some event) p.1) [
      | inl p ↦ tells events.PreviousGtids event text (λ rest. tt) p.0 (same_Some _ _ p.1)
      | inr p ↦ elim (chosen (begins (event_text events.Start) text) (Some events.Start) _ (Some event) p.1) [
        | inl p ↦ tells events.Start event text (λ rest. tt) p.0 (same_Some _ _ p.1)
        | inr p ↦ elim (chosen (begins (event_text events.Rotate) text) (Some events.Rotate) _ (Some event) p.1) [
          | inl p ↦ tells events.Rotate event text (λ rest. tt) p.0 (same_Some _ _ p.1)
          | inr p ↦ elim (chosen (begins (event_text events.Stop) text) (Some events.Stop) None (Some event) p.1) [
            | inl p ↦ tells events.Stop event text (λ rest. tt) p.0 (same_Some _ _ p.1)
            | inr p ↦ absurd cc
          ]
        ]
      ]
    ]
  ]
]

-- what is read after a prefix, or else
event_branch : (front text : List ℕ) (o : Option (List ℕ)) (f : List ℕ → Option LogEvent) (other : Option LogEvent) (event : LogEvent) → after_prefix front text ≡ o → branch o f other ≡ Some event → ((rest : List ℕ) × (text ≡ front ++ rest) × (f rest ≡ Some event)) ⊎ (other ≡ Some event)
event_branch front text None f other event e h = inr h
event_branch front text (Some rest) f other event e h = inl (rest, after_found front text rest e, h)

event_found : (text : List ℕ) (event : LogEvent) → event_of text ≡ Some event → Tells text event
event_found text event e = elim (chosen (begins (event_text events.Query) text) (Some events.Query) _ (Some event) e) [
  | inl p ↦ tells events.Query event text (λ rest. tt) p.0 (same_Some _ _ p.1)
  | inr p ↦ elim (chosen (begins (event_text events.Gtid) text) (Some events.Gtid) _ (Some event) p.1) [
    | inl p ↦ tells events.Gtid event text (λ rest. tt) p.0 (same_Some _ _ p.1)
    | inr p ↦ elim (event_branch (rows_text operations.Insert) text (after_prefix (rows_text operations.Insert) text) (rows_event operations.Insert) _ event refl p.1) [
      | inl q ↦ rows_found operations.Insert q.0 text event q.1 q.2
      | inr q ↦ elim (event_branch (rows_text operations.Update) text (after_prefix (rows_text operations.Update) text) (rows_event operations.Update) _ event refl q) [
        | inl r ↦ rows_found operations.Update r.0 text event r.1 r.2
        | inr r ↦ elim (event_branch (rows_text operations.Delete) text (after_prefix (rows_text operations.Delete) text) (rows_event operations.Delete) _ event refl r) [
          | inl s ↦ rows_found operations.Delete s.0 text event s.1 s.2
          | inr s ↦ other_found text event s
        ]
      ]
    ]
  ]
]

told_found : (stamp text : List ℕ) (l : Content) → IsStamp stamp → content_at text ≡ Some l → IsLine l (35 ∷ (stamp ++ 9 ∷ text))
told_found stamp text l is e = elim (branch_found (codes "Table_map: ") text table_map_at _ l e) [
  | inl p ↦ subst (λ (xs : List ℕ). IsLine l (35 ∷ (stamp ++ 9 ∷ xs))) (sym p.1) (mapped_found stamp p.0 l is p.2)
  | inr p ↦
      let a = bind_some (event_of text) _ l p in
      let told = event_found text a.0 a.1 in
      subst (λ (m : Content). IsLine m (35 ∷ (stamp ++ 9 ∷ text))) (same_Some _ _ a.2) (stamp, told.0, ap (λ (xs : List ℕ). 35 ∷ (stamp ++ 9 ∷ xs)) told.1, is, told.2)
]

head_line_found : (text : List ℕ) (l : Content) → head_line text ≡ Some l → IsLine l (35 ∷ text)
head_line_found text l e =
    let a = bind_some (cut_at 9 text) _ l e in
    let cut = cut_found 9 text a.0 a.1 in
    elim (chosen (begins_with_digit a.0.0) (content_at a.0.1) None (Some l) a.2) [
      | inl p ↦ subst (λ (xs : List ℕ). IsLine l (35 ∷ xs)) (sym cut.parts) (told_found a.0.0 a.0.1 l (record { first = p.0; one = cut.free }) p.1)
      | inr p ↦ absurd cc
    ]

-- ---- the others

gtid_found : (text : List ℕ) (l : Content) → gtid_at text ≡ Some l → IsLine l (codes "SET @@SESSION.GTID_NEXT= '" ++ text)
gtid_found text l e =
    let a = bind_some (cut_at 39 text) _ l e in
    let cut = cut_found 39 text a.0 a.1 in
    elim (chosen (bytes_eq a.0.1 (codes "/*!*/;")) (Some (OfGtid a.0.0)) _ (Some l) a.2) [
      | inl p ↦ subst (λ (m : Content). IsLine m (codes "SET @@SESSION.GTID_NEXT= '" ++ text)) (same_Some _ _ p.1)
          (ap (λ (xs : List ℕ). codes "SET @@SESSION.GTID_NEXT= '" ++ xs) (cut.parts ∙ ap (λ (xs : List ℕ). a.0.0 ++ 39 ∷ xs) (same_text a.0.1 (codes "/*!*/;") p.0)), cut.free)
      | inr p ↦ elim (chosen (bytes_eq a.0.0 (codes "AUTOMATIC")) _ None (Some l) p.1) [
        | inr q ↦ absurd cc
        | inl q ↦ elim (chosen (bytes_eq a.0.1 (codes " /* added by mysqlbinlog */ /*!*/;")) (Some (OfMark marks.Automatic)) None (Some l) q.1) [
          | inr r ↦ absurd cc
          | inl r ↦ subst (λ (m : Content). IsLine m (codes "SET @@SESSION.GTID_NEXT= '" ++ text)) (same_Some _ _ r.1)
              (ap (λ (xs : List ℕ). codes "SET @@SESSION.GTID_NEXT= '" ++ xs)
              (cut.parts ∙ ap (λ (xs : List ℕ). xs ++ 39 ∷ a.0.1) (same_text a.0.0 (codes "AUTOMATIC") q.0) ∙ ap (λ (xs : List ℕ). codes "AUTOMATIC" ++ 39 ∷ xs) (same_text a.0.1 (codes " /* added by mysqlbinlog */ /*!*/;") r.0)))
        ]
      ]
    ]

plain_line_found : (text : List ℕ) (l : Content) → plain_line text ≡ Some l → IsLine l text
plain_line_found text l e = elim (branch_found (codes "SET @@SESSION.GTID_NEXT= '") text gtid_at _ l e) [
  | inl p ↦ subst (IsLine l) (sym p.1) (gtid_found p.0 l p.2)
  | inr p ↦ elim (chosen (bytes_eq text (codes "BEGIN")) (Some (OfMark marks.Begin)) _ (Some l) p) [
    | inl q ↦ subst (λ (m : Content). IsLine m text) (same_Some _ _ q.1) (same_text text (codes "BEGIN") q.0)
    | inr q ↦ elim (chosen (bytes_eq text (codes "COMMIT")) (Some (OfMark marks.Commit)) _ (Some l) q.1) [
      | inl r ↦ subst (λ (m : Content). IsLine m text) (same_Some _ _ r.1) (same_text text (codes "COMMIT") r.0)
      | inr r ↦ elim (chosen (bytes_eq text (codes "/*!*/;")) (Some (OfMark marks.Ended)) _ (Some l) r.1) [
        | inl s ↦ subst (λ (m : Content). IsLine m text) (same_Some _ _ s.1) (same_text text (codes "/*!*/;") s.0)
        | inr s ↦ elim (chosen (bytes_eq text (codes "COMMIT/*!*/;")) (Some (OfMark marks.Committed)) _ (Some l) s.1) [
          | inl t ↦ subst (λ (m : Content). IsLine m text) (same_Some _ _ t.1) (same_text text (codes "COMMIT/*!*/;") t.0)
          | inr t ↦ elim (chosen (is_setting text) (Some (OfMark marks.Setting)) _ (Some l) t.1) [
            | inl u ↦ subst (λ (m : Content). IsLine m text) (same_Some _ _ u.1) u.0
            | inr u ↦ elim (chosen (is_savepoint text) (Some (OfMark marks.Savepoint)) _ (Some l) u.1) [
              | inl v ↦ subst (λ (m : Content). IsLine m text) (same_Some _ _ v.1) v.0
              | inr v ↦ elim (chosen (is_frame text) (Some (OfMark marks.Frame)) _ (Some l) v.1) [
                | inl w ↦ subst (λ (m : Content). IsLine m text) (same_Some _ _ w.1) w.0
                | inr w ↦ elim (chosen (is_maintenance text) (Some (OfMark marks.Maintenance)) None (Some l) w.1) [
                  | inl x ↦ subst (λ (m : Content). IsLine m text) (same_Some _ _ x.1) x.0
                  | inr x ↦ absurd cc
                ]
              ]
            ]
          ]
        ]
      ]
    ]
  ]
]

-- a line has the content that is read of it
pub line_found : (text : List ℕ) (l : Content) → line_of text ≡ Some l → IsLine l text
line_found text l e = elim (branch_found (codes "### ") text row_line _ l e) [
  | inl p ↦ subst (IsLine l) (sym p.1) (row_line_found p.0 l p.2)
  | inr p ↦ elim (branch_found (codes "# ") text comment_line _ l p) [
    | inl q ↦ subst (IsLine l) (sym q.1) (comment_line_found q.0 l q.2)
    | inr q ↦ elim (branch_found (codes "#") text head_line _ l q) [
      | inl r ↦ subst (IsLine l) (sym r.1) (head_line_found r.0 l r.2)
      | inr r ↦ plain_line_found text l r
    ]
  ]
]

pub seen_line : {L : Type 0} (view : L → Content) (text : List ℕ) (o : Option L) → option_map view o ≡ line_of text → IfSome o (λ l. IsLine (view l) text)
seen_line view text None e = tt
seen_line view text (Some l) e = line_found text (view l) (sym e)

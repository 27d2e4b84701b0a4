-- Reading a line is complete: the content of a line is read.
use Rattle.std.proofs.Common.{◌≡◌, ℕ, ◌^◌, ◌<◌, Bool, true, false, cond, eqb, List, [], ◌∷◌, ◌++◌, Option, Some, None, refl, sym, ap, ◌∙◌, subst, append-nil, arith, inl, inr, ◌⊎◌}
use Rattle.std.specs.Prelude.{◌+◌, ◌-◌, ◌≤◌, nat_lt, ◌&&◌, ◌||◌, codes, decimal, is_some, length}
use Rattle.std.specs.Str.{bytes_eq, str_eq_ignore_ascii_case}
use Rattle.std.specs.List.{list_all}
use Rattle.std.specs.Char.{is_ascii_digit, to_ascii_lowercase}
use Rattle.std.proofs.lemmas.Bool.{eqb-true, and_parts}
use Rattle.std.proofs.lemmas.Bool.Decides.{nat_tests}
use Rattle.lemmas.proofs.Numbers.{eqb_swap}
use Rattle.row_images.specs.Values.{is_lower_digit}
use Rattle.row_images.proofs.Counts.{count_again, decimal_lacks}
use Rattle.binlog_text.specs.Tokens.{after_prefix, cut_at, lacks, last_cut, ◌>>=◌}
use Rattle.binlog_text.specs.Lines.{Column, Content, OfMark, OfHead, OfTable, OfColumn, OfGtid, OfSources, OfRow, OfValue, IsName, table_text, operation_text, rows_text, ends_statement, event_text, HasFlags, IsStamp, column_front, column_end, named_text, IsNamed, is_source, is_source_front, comma, IsWhole, begins, is_comment, is_setting, begins_setting, ends_setting, quotes_then, is_savepoint, is_frame, is_plain, is_flush, is_of_names, analyzes_or_optimizes, is_maintenance, IsMark, IsLine}
use Rattle.binlog_text.specs.Reading.{branch, table_at, row_at, is_last_at, name_at, column, column_at, sources, sources_in, comment_line, table_map_at, content_at, line_of}
use Rattle.binlog_text.specs.declared.lines.RowOperation.{RowOperation}
use Rattle.binlog_text.specs.declared.lines.RowOperation.TheVariants as operations
use Rattle.binlog_text.specs.declared.lines.LogEvent.{LogEvent}
use Rattle.binlog_text.specs.declared.lines.LogEvent.TheVariants as events
use Rattle.binlog_text.specs.declared.lines.Mark.{Mark}
use Rattle.binlog_text.specs.declared.lines.Mark.TheVariants as marks
use Rattle.binlog_text.proofs.TokenLaws.{cut_found, cut_again, last_found, last_again}
use Rattle.binlog_text.proofs.LinesFound.{regrouped, begun, same_text}

either : (x y : Bool) → (x || y) ≡ true → (x ≡ true) ⊎ (y ≡ true)
either true y e = inl refl
either false y e = inr e

-- a text that begins so has what the prefix of it shows
fronted : (front text : List ℕ) (P : List ℕ → Type 0) → begins front text ≡ true → ((rest : List ℕ) → P (front ++ rest)) → P text
fronted front text P h f = let b = begun front text (after_prefix front text) refl h in subst P (sym b.1) (f b.0)

-- ---- what a setting is not

abbrev NoOther : List ℕ → Type 0
NoOther text =
    (after_prefix (codes "### ") text ≡ None) × (after_prefix (codes "# ") text ≡ None) × (after_prefix (codes "#") text ≡ None)
    × (after_prefix (codes "SET @@SESSION.GTID_NEXT= '") text ≡ None)
    × (bytes_eq text (codes "BEGIN") ≡ false) × (bytes_eq text (codes "COMMIT") ≡ false) × (bytes_eq text (codes "/*!*/;") ≡ false) × (bytes_eq text (codes "COMMIT/*!*/;") ≡ false)

setting_front : (text : List ℕ) → begins_setting text ≡ true → NoOther text
setting_front text e = elim (either (begins (codes "SET TIMESTAMP=") text) _ e) [
  | inl p ↦ fronted (codes "SET TIMESTAMP=") text NoOther p (λ rest. (refl, refl, refl, refl, refl, refl, refl, refl))
  | inr p ↦ elim (either (begins (codes "SET @@session.") text) _ p) [
    | inl p ↦ fronted (codes "SET @@session.") text NoOther p (λ rest. (refl, refl, refl, refl, refl, refl, refl, refl))
    | inr p ↦ elim (either (begins (codes "/*!80001 SET @@session.") text) _ p) [
      | inl p ↦ fronted (codes "/*!80001 SET @@session.") text NoOther p (λ rest. (refl, refl, refl, refl, refl, refl, refl, refl))
      | inr p ↦ elim (either (begins (codes "/*!80011 SET @@session.") text) _ p) [
        | inl p ↦ fronted (codes "/*!80011 SET @@session.") text NoOther p (λ rest. (refl, refl, refl, refl, refl, refl, refl, refl))
        | inr p ↦ elim (either (begins (codes "/*!80013 SET @@session.") text) _ p) [
          | inl p ↦ fronted (codes "/*!80013 SET @@session.") text NoOther p (λ rest. (refl, refl, refl, refl, refl, refl, refl, refl))
          | inr p ↦ elim (either (begins (codes "/*!80014 SET @@session.") text) _ p) [
            | inl p ↦ fronted (codes "/*!80014 SET @@session.") text NoOther p (λ rest. (refl, refl, refl, refl, refl, refl, refl, refl))
            | inr p ↦ elim (either (begins (codes "/*!80016 SET @@session.") text) _ p) [
              | inl p ↦ fronted (codes "/*!80016 SET @@session.") text NoOther p (λ rest. (refl, refl, refl, refl, refl, refl, refl, refl))
              | inr p ↦ elim (either (begins (codes "/*!50718 SET TRANSACTION ISOLATION LEVEL READ COMMITTED") text) _ p) [
                | inl p ↦ fronted (codes "/*!50718 SET TRANSACTION ISOLATION LEVEL READ COMMITTED") text NoOther p (λ rest. (refl, refl, refl, refl, refl, refl, refl, refl))
                | inr p ↦ fronted (codes "/*!\\C ") text NoOther p (λ rest. (refl, refl, refl, refl, refl, refl, refl, refl))
              ]
            ]
          ]
        ]
      ]
    ]
  ]
]

quoted_front : (front rest text : List ℕ) (o : Option (List ℕ)) → after_prefix front text ≡ o → quotes_then rest o ≡ true → begins front text ≡ true
quoted_front front rest text None h e = absurd cc
quoted_front front rest text (Some more) h e = ap is_some h

setting_alone : (text : List ℕ) → is_setting text ≡ true → NoOther text
setting_alone text e = elim (either (begins_setting text && ends_setting text) _ e) [
  | inl p ↦ setting_front text (and_parts (begins_setting text) (ends_setting text) p).0
  | inr p ↦ fronted (codes "use `") text NoOther (quoted_front (codes "use `") (codes "/*!*/;") text (after_prefix (codes "use `") text) refl p) (λ rest. (refl, refl, refl, refl, refl, refl, refl, refl))
]

setting_again : (text : List ℕ) → is_setting text ≡ true → line_of text ≡ Some (OfMark marks.Setting)
setting_again text e = let n = setting_alone text e in rw (n.0, n.1, n.2, n.3, n.4, n.5, n.6, n.7, e) refl

-- ---- savepoints and frames

abbrev NoSetting : List ℕ → Type 0
NoSetting text = NoOther text × (is_setting text ≡ false)

savepoint_alone : (text : List ℕ) → is_savepoint text ≡ true → NoSetting text
savepoint_alone text e = fronted (codes "SAVEPOINT `") text NoSetting (quoted_front (codes "SAVEPOINT `") [] text (after_prefix (codes "SAVEPOINT `") text) refl e) (λ rest. ((refl, refl, refl, refl, refl, refl, refl, refl), refl))

savepoint_again : (text : List ℕ) → is_savepoint text ≡ true → line_of text ≡ Some (OfMark marks.Savepoint)
savepoint_again text e = let s = savepoint_alone text e in let n = s.0 in rw (n.0, n.1, n.2, n.3, n.4, n.5, n.6, n.7, s.1, e) refl

abbrev ReadsFrame : List ℕ → Type 0
ReadsFrame text = line_of text ≡ Some (OfMark marks.Frame)

framed : (text lit : List ℕ) → bytes_eq text lit ≡ true → ReadsFrame lit → ReadsFrame text
framed text lit h r = subst ReadsFrame (sym (same_text text lit h)) r

frame_again : (text : List ℕ) → is_frame text ≡ true → ReadsFrame text
frame_again text e = elim (either (bytes_eq text (codes "DELIMITER /*!*/;")) _ e) [
  | inl p ↦ framed text (codes "DELIMITER /*!*/;") p refl
  | inr p ↦ elim (either (bytes_eq text (codes "DELIMITER ;")) _ p) [
    | inl p ↦ framed text (codes "DELIMITER ;") p refl
    | inr p ↦ elim (either (bytes_eq text (codes "ROLLBACK/*!*/;")) _ p) [
      | inl p ↦ framed text (codes "ROLLBACK/*!*/;") p refl
      | inr p ↦ elim (either (bytes_eq text (codes "/*!50530 SET @@SESSION.PSEUDO_SLAVE_MODE=1*/;")) _ p) [
        | inl p ↦ framed text (codes "/*!50530 SET @@SESSION.PSEUDO_SLAVE_MODE=1*/;") p refl
        | inr p ↦ elim (either (bytes_eq text (codes "/*!50530 SET @@SESSION.PSEUDO_SLAVE_MODE=0*/;")) _ p) [
          | inl p ↦ framed text (codes "/*!50530 SET @@SESSION.PSEUDO_SLAVE_MODE=0*/;") p refl
          | inr p ↦ elim (either (bytes_eq text (codes "/*!50003 SET @OLD_COMPLETION_TYPE=@@COMPLETION_TYPE,COMPLETION_TYPE=0*/;")) _ p) [
            | inl p ↦ framed text (codes "/*!50003 SET @OLD_COMPLETION_TYPE=@@COMPLETION_TYPE,COMPLETION_TYPE=0*/;") p refl
            | inr p ↦ framed text (codes "/*!50003 SET COMPLETION_TYPE=@OLD_COMPLETION_TYPE*/;") p refl
          ]
        ]
      ]
    ]
  ]
]

-- ---- maintenance

abbrev NoFrame : List ℕ → Type 0
NoFrame text = NoSetting text × (is_savepoint text ≡ false) × (is_frame text ≡ false)

flush_front : (text : List ℕ) → (begins (codes "FLUSH ") text || begins (codes "flush ") text) ≡ true → NoFrame text
flush_front text e = elim (either (begins (codes "FLUSH ") text) _ e) [
  | inl p ↦ fronted (codes "FLUSH ") text NoFrame p (λ rest. (((refl, refl, refl, refl, refl, refl, refl, refl), refl), refl, refl))
  | inr p ↦ fronted (codes "flush ") text NoFrame p (λ rest. (((refl, refl, refl, refl, refl, refl, refl, refl), refl), refl, refl))
]

picked : (b : Bool) (x y z : ℕ) → cond b x y ≡ z → (x ≡ z) ⊎ (y ≡ z)
picked true x y z e = inl e
picked false x y z e = inr e

-- a byte that is this letter in lower case is one of two
cased : (c low : ℕ) → 97 ≤ low → low ≤ 122 → eqb (to_ascii_lowercase c) low ≡ true → (c ≡ low) ⊎ (c + 32 ≡ low)
cased c low from to e = elim (picked (nat_lt c 65) c _ low (eqb-true (to_ascii_lowercase c) low e)) [
  | inl p ↦ inl p
  | inr p ↦ elim (picked (nat_lt c 91) (c + 32) c low p) [
    | inl q ↦ inr q
    | inr q ↦ inl q
  ]
]

-- a text that begins with a byte that is `a` or `o` in lower case
word_front : (c low : ℕ) (rest : List ℕ) → 97 ≤ low → low ≤ 122 → eqb (to_ascii_lowercase c) low ≡ true → NoFrame (low ∷ rest) → NoFrame ((low - 32) ∷ rest) → NoFrame (c ∷ rest)
word_front c low rest from to e lower upper = elim (cased c low from to e) [
  | inl p ↦ subst (λ (x : ℕ). NoFrame (x ∷ rest)) (sym p) lower
  | inr p ↦ let is : low - 32 ≡ c = omega arith in subst (λ (x : ℕ). NoFrame (x ∷ rest)) is upper
]

analyze_front : (word rest : List ℕ) → str_eq_ignore_ascii_case word (codes "ANALYZE") ≡ true → NoFrame (word ++ 32 ∷ rest)
analyze_front [] rest e = absurd cc
analyze_front (c ∷ cs) rest e = word_front c 97 (cs ++ 32 ∷ rest) (omega arith) (omega arith) (and_parts (eqb (to_ascii_lowercase c) 97) _ e).0
    (((refl, refl, refl, refl, refl, refl, refl, refl), refl), refl, refl) (((refl, refl, refl, refl, refl, refl, refl, refl), refl), refl, refl)

optimize_front : (word rest : List ℕ) → str_eq_ignore_ascii_case word (codes "OPTIMIZE") ≡ true → NoFrame (word ++ 32 ∷ rest)
optimize_front [] rest e = absurd cc
optimize_front (c ∷ cs) rest e = word_front c 111 (cs ++ 32 ∷ rest) (omega arith) (omega arith) (and_parts (eqb (to_ascii_lowercase c) 111) _ e).0
    (((refl, refl, refl, refl, refl, refl, refl, refl), refl), refl, refl) (((refl, refl, refl, refl, refl, refl, refl, refl), refl), refl, refl)

tables_front : (text : List ℕ) (o : Option (List ℕ × List ℕ)) → cut_at 32 text ≡ o → analyzes_or_optimizes o ≡ true → NoFrame text
tables_front text None h e = absurd cc
tables_front text (Some parts) h e = subst NoFrame (sym (cut_found 32 text parts h).parts) (elim (either (str_eq_ignore_ascii_case parts.0 (codes "ANALYZE")) _ e) [
  | inl p ↦ analyze_front parts.0 parts.1 p
  | inr p ↦ optimize_front parts.0 parts.1 p
])

maintenance_front : (text : List ℕ) → is_maintenance text ≡ true → NoFrame text
maintenance_front text e = elim (either (is_flush text) _ e) [
  | inl p ↦ flush_front text (and_parts (begins (codes "FLUSH ") text || begins (codes "flush ") text) (list_all is_plain text) p).0
  | inr p ↦ tables_front text (cut_at 32 text) refl (and_parts (analyzes_or_optimizes (cut_at 32 text)) (list_all is_of_names text) p).0
]

maintenance_again : (text : List ℕ) → is_maintenance text ≡ true → line_of text ≡ Some (OfMark marks.Maintenance)
maintenance_again text e =
    let f = maintenance_front text e in
    let n = f.0.0 in
    rw (n.0, n.1, n.2, n.3, n.4, n.5, n.6, n.7, f.0.1, f.1, f.2, e) refl

-- ---- comments

abbrev NoColumn : List ℕ → Type 0
NoColumn text = (after_prefix (codes "at ") text ≡ None) × (after_prefix (codes "Columns(") text ≡ None) × (after_prefix (codes "        ") text ≡ None)

comment_alone : (text : List ℕ) → is_comment text ≡ true → NoColumn text
comment_alone text e = elim (either (begins (codes "original_commit_timestamp=") text) _ e) [
  | inl p ↦ fronted (codes "original_commit_timestamp=") text NoColumn p (λ rest. (refl, refl, refl))
  | inr p ↦ elim (either (begins (codes "immediate_commit_timestamp=") text) _ p) [
    | inl p ↦ fronted (codes "immediate_commit_timestamp=") text NoColumn p (λ rest. (refl, refl, refl))
    | inr p ↦ elim (either (begins (codes "has_generated_invisible_primary_key=") text) _ p) [
      | inl p ↦ fronted (codes "has_generated_invisible_primary_key=") text NoColumn p (λ rest. (refl, refl, refl))
      | inr p ↦ elim (either (begins (codes "Primary Key(") text) _ p) [
        | inl p ↦ fronted (codes "Primary Key(") text NoColumn p (λ rest. (refl, refl, refl))
        | inr p ↦ elim (either (begins (codes "Start of compressed events.") text) _ p) [
          | inl p ↦ fronted (codes "Start of compressed events.") text NoColumn p (λ rest. (refl, refl, refl))
          | inr p ↦ elim (either (begins (codes "End of compressed events.") text) _ p) [
            | inl p ↦ fronted (codes "End of compressed events.") text NoColumn p (λ rest. (refl, refl, refl))
            | inr p ↦ elim (either (begins (codes "Warning: this binlog is either in use or was not closed properly.") text) _ p) [
              | inl p ↦ fronted (codes "Warning: this binlog is either in use or was not closed properly.") text NoColumn p (λ rest. (refl, refl, refl))
              | inr p ↦ elim (either (begins (codes "The proper term is pseudo_replica_mode") text) _ p) [
                | inl p ↦ fronted (codes "The proper term is pseudo_replica_mode") text NoColumn p (λ rest. (refl, refl, refl))
                | inr p ↦ fronted (codes "to make the statement usable on server versions") text NoColumn p (λ rest. (refl, refl, refl))
              ]
            ]
          ]
        ]
      ]
    ]
  ]
]

comment_again : (rest : List ℕ) → is_comment rest ≡ true → line_of (codes "# " ++ rest) ≡ Some (OfMark marks.Comment)
comment_again rest e = let n = comment_alone rest e in rw (n.0, n.1, n.2, e) refl

mark_again : (mark : Mark) (text : List ℕ) → IsMark mark text → line_of text ≡ Some (OfMark mark)
mark_again marks.Place text is = ap line_of is.1
mark_again marks.Where text is = ap line_of is
mark_again marks.Set text is = ap line_of is
mark_again marks.Begin text is = ap line_of is
mark_again marks.Commit text is = ap line_of is
mark_again marks.Ended text is = ap line_of is
mark_again marks.Committed text is = ap line_of is
mark_again marks.Savepoint text is = savepoint_again text is
mark_again marks.Automatic text is = ap line_of is
mark_again marks.Empty text is = ap line_of is
mark_again marks.Closed text is = ap line_of is
mark_again marks.Comment text is = ap line_of is.1 ∙ comment_again is.0 is.2
mark_again marks.Setting text is = setting_again text is
mark_again marks.Frame text is = frame_again text is
mark_again marks.Extra text is = ap line_of is.1
mark_again marks.Maintenance text is = maintenance_again text is

-- ---- rows

table_again : (database table rest : List ℕ) → IsName database → IsName table → table_at (table_text database table ++ rest) ≡ Some (database, table, rest)
table_again database table rest d t =
    let first : cut_at 96 (database ++ 96 ∷ 46 ∷ 96 ∷ (table ++ 96 ∷ rest)) ≡ Some (database, 46 ∷ 96 ∷ (table ++ 96 ∷ rest)) = cut_again 96 database (46 ∷ 96 ∷ (table ++ 96 ∷ rest)) d in
    let second : cut_at 96 (table ++ 96 ∷ rest) ≡ Some (table, rest) = cut_again 96 table rest t in
    ap table_at (sym (regrouped database table rest)) ∙ rw (first, second) refl

row_at_again : (operation : RowOperation) (database table : List ℕ) → IsName database → IsName table → row_at operation (table_text database table) ≡ Some (OfRow operation database table)
row_at_again operation database table d t =
    ap (row_at operation) (sym (append-nil (table_text database table)))
    ∙ rw (table_again database table [] d t) refl

row_again : (operation : RowOperation) (database table : List ℕ) → IsName database → IsName table → line_of (codes "### " ++ (operation_text operation ++ table_text database table)) ≡ Some (OfRow operation database table)
row_again operations.Insert database table d t = row_at_again operations.Insert database table d t
row_again operations.Update database table d t = row_at_again operations.Update database table d t
row_again operations.Delete database table d t = row_at_again operations.Delete database table d t

value_again : (n : ℕ) (text : List ℕ) → n < 2 ^ 64 → line_of (codes "###   @" ++ (decimal n ++ 61 ∷ text)) ≡ Some (OfValue n text)
value_again n text lt =
    let cut : cut_at 61 (decimal n ++ 61 ∷ text) ≡ Some (decimal n, text) = cut_again 61 (decimal n) text (decimal_lacks 61 n refl lt) in
    rw (cut, count_again n lt) refl

-- ---- columns

last_at_again : (last : Bool) → is_last_at (column_end last) ≡ Some last
last_at_again true = refl
last_at_again false = refl

named_again : (c : Column) (name : Option (List ℕ)) → IsNamed name c.column_type → branch (after_prefix (96 ∷ []) (named_text name c.column_type)) (λ rest. name_at rest >>= λ named. Some (column c.is_first c.is_last (Some named.0) named.1)) (Some (column c.is_first c.is_last None (named_text name c.column_type))) ≡ Some (column c.is_first c.is_last name c.column_type)
named_again c None is = rw is refl
named_again c (Some name) is =
    let cut : cut_at 96 (name ++ 96 ∷ 32 ∷ c.column_type) ≡ Some (name, 32 ∷ c.column_type) = cut_again 96 name (32 ∷ c.column_type) is in
    rw cut refl

column_at_again : (c : Column) → IsNamed c.name c.column_type → column_at c.is_first (named_text c.name c.column_type ++ column_end c.is_last ∷ []) ≡ Some (OfColumn c)
column_at_again c is =
    let last : last_cut (named_text c.name c.column_type ++ column_end c.is_last ∷ []) ≡ Some (named_text c.name c.column_type, column_end c.is_last) = last_again (named_text c.name c.column_type) (column_end c.is_last) in
    rw (last, last_at_again c.is_last) (named_again c c.name is)

column_front_again : (first : Bool) (text : List ℕ) → line_of (codes "# " ++ (column_front first ++ text)) ≡ column_at first text
column_front_again true text = refl
column_front_again false text = refl

-- ---- sources

not_digit : (c d : ℕ) → is_lower_digit c ≡ false → is_lower_digit d ≡ true → eqb c d ≡ false
not_digit c d out digit = apart (eqb c d) refl
  where
    apart : (t : Bool) → eqb c d ≡ t → t ≡ false
    apart false e = refl
    apart true e = let bad : true ≡ false = sym digit ∙ ap is_lower_digit (sym (eqb-true c d e)) ∙ out in absurd cc

no_place : (t : Bool) (rest : Option (List ℕ)) → rest ≡ None → cond t rest None ≡ None
no_place true rest e = e
no_place false rest e = refl

-- a text that begins with two digits of a UUID
digits_alone : (d e : ℕ) (ds : List ℕ) → is_lower_digit d ≡ true → is_lower_digit e ≡ true → comment_line (d ∷ e ∷ ds) ≡ sources_in (d ∷ e ∷ ds) (last_cut (d ∷ e ∷ ds))
digits_alone d e ds x y =
    let place : after_prefix (codes "at ") (d ∷ e ∷ ds) ≡ None = no_place (eqb 97 d) (after_prefix (codes "t ") (e ∷ ds)) (rw (not_digit 116 e refl y) refl) in
    let columns : after_prefix (codes "Columns(") (d ∷ e ∷ ds) ≡ None = rw (not_digit 67 d refl x) refl in
    let blanks : after_prefix (codes "        ") (d ∷ e ∷ ds) ≡ None = rw (not_digit 32 d refl x) refl in
    let comment : is_comment (d ∷ e ∷ ds) ≡ false = rw (not_digit 111 d refl x, not_digit 105 d refl x, not_digit 104 d refl x, not_digit 80 d refl x, not_digit 83 d refl x, not_digit 69 d refl x, not_digit 87 d refl x, not_digit 84 d refl x, not_digit 116 d refl x) refl in
    let empty : bytes_eq (d ∷ e ∷ ds) (codes "[empty]") ≡ false = rw (eqb_swap 91 d (not_digit 91 d refl x)) refl in
    let closed : bytes_eq (d ∷ e ∷ ds) (codes "End of log file") ≡ false = rw (eqb_swap 69 d (not_digit 69 d refl x)) refl in
    rw (place, columns, blanks, comment, empty, closed) refl

-- a source begins with two digits
abbrev TwoDigits : List ℕ → Type 0
TwoDigits text = (d : ℕ) × (e : ℕ) × (ds : List ℕ) × (text ≡ d ∷ e ∷ ds) × (is_lower_digit d ≡ true) × (is_lower_digit e ≡ true)

eight_digits : (digits rest : List ℕ) → length digits ≡ 8 → list_all is_lower_digit digits ≡ true → TwoDigits (digits ++ rest)
eight_digits [] rest n all = absurd (omega (arith, n))
eight_digits (d ∷ []) rest n all = absurd (omega (arith, n))
eight_digits (d ∷ e ∷ ds) rest n all =
    let first = and_parts (is_lower_digit d) (is_lower_digit e && list_all is_lower_digit ds) all in
    let second = and_parts (is_lower_digit e) (list_all is_lower_digit ds) first.1 in
    (d, e, ds ++ rest, refl, first.0, second.0)

source_digits : (text : List ℕ) (o : Option (List ℕ × List ℕ)) → cut_at 45 text ≡ o → is_source_front o ≡ true → TwoDigits text
source_digits text None e h = absurd cc
source_digits text (Some x) e h =
    let parts = and_parts (eqb (length x.0) 8) (list_all is_lower_digit x.0) h in
    let cut = cut_found 45 text x e in
    subst TwoDigits (sym cut.parts) (eight_digits x.0 (45 ∷ x.1) (eqb-true (length x.0) 8 parts.0) parts.1)

-- a text with a source at its start
source_line : (text rest : List ℕ) → is_source text ≡ true → comment_line (text ++ rest) ≡ sources_in (text ++ rest) (last_cut (text ++ rest))
source_line text rest is =
    let two = source_digits text (cut_at 45 text) refl is in
    subst (λ (xs : List ℕ). comment_line (xs ++ rest) ≡ sources_in (xs ++ rest) (last_cut (xs ++ rest))) (sym two.3)
    (digits_alone two.0 two.1 (two.2 ++ rest) two.4 two.5)

comment_of : (text : List ℕ) → TwoDigits text → line_of (codes "# " ++ text) ≡ comment_line text
comment_of text two = refl

unended : (text : List ℕ) (o : Option (List ℕ × ℕ)) → is_source text ≡ true → IsWhole false text → last_cut text ≡ o → sources_in text o ≡ Some (OfSources text false)
unended [] None is whole e = absurd cc
unended (b ∷ bs) None is whole e = absurd cc
unended text (Some x) is whole e = ended_by (eqb x.1 44) refl
  where
    ended_by : (t : Bool) → eqb x.1 44 ≡ t → cond t (sources x.0 true) (sources text false) ≡ Some (OfSources text false)
    ended_by false h = rw is refl
    ended_by true h = absurd (whole x.0 (last_found text x e ∙ ap (λ (c : ℕ). x.0 ++ c ∷ []) (eqb-true x.1 44 h)))

sources_again : (text : List ℕ) (more : Bool) → is_source text ≡ true → IsWhole more text → line_of (codes "# " ++ (text ++ comma more)) ≡ Some (OfSources text more)
sources_again text true is whole =
    source_line text (44 ∷ []) is ∙ rw (last_again text 44, is) refl
sources_again text false is whole =
    source_line text [] is ∙ ap (λ (xs : List ℕ). sources_in xs (last_cut xs)) (append-nil text) ∙ unended text (last_cut text) is whole refl

-- ---- heads of events

digit_is_other : (d : ℕ) → is_ascii_digit d ≡ true → (eqb 35 d ≡ false) × (eqb 32 d ≡ false)
digit_is_other d e = grind (arith, nat_tests)

head_of : (stamp rest : List ℕ) → IsStamp stamp → line_of (35 ∷ (stamp ++ 9 ∷ rest)) ≡ content_at rest
head_of [] rest is = absurd (let bad : false ≡ true = is.first in cc)
head_of (d ∷ ds) rest is =
    let other = digit_is_other d is.first in
    let cut : cut_at 9 (d ∷ (ds ++ 9 ∷ rest)) ≡ Some (d ∷ ds, rest) = cut_again 9 (d ∷ ds) rest is.one in
    rw (other.0, other.1, cut, is.first) refl

rows_again : (operation : RowOperation) (rest : List ℕ) → content_at (rows_text operation ++ rest) ≡ Some (OfHead (events.Rows operation (ends_statement rest)))
rows_again operations.Insert rest = refl
rows_again operations.Update rest = refl
rows_again operations.Delete rest = refl

event_again : (event : LogEvent) (rest : List ℕ) → HasFlags event rest → content_at (event_text event ++ rest) ≡ Some (OfHead event)
event_again events.Start rest flags = refl
event_again events.PreviousGtids rest flags = refl
event_again events.Gtid rest flags = refl
event_again events.Query rest flags = refl
event_again (events.Rows operation ends) rest flags = rows_again operation rest ∙ ap (λ (b : Bool). Some (OfHead (events.Rows operation b))) (sym flags)
event_again events.Xid rest flags = refl
event_again events.Payload rest flags = refl
event_again events.Rotate rest flags = refl
event_again events.Stop rest flags = refl

mapped_again : (database table : List ℕ) (n : ℕ) → IsName database → IsName table → n < 2 ^ 64 → table_map_at (table_text database table ++ (codes " mapped to number " ++ decimal n)) ≡ Some (OfTable database table)
mapped_again database table n d t lt =
    rw (table_again database table (codes " mapped to number " ++ decimal n) d t, count_again n lt) refl

-- ---- the others

gtid_line_again : (gtid : List ℕ) → lacks 39 gtid ≡ true → line_of (codes "SET @@SESSION.GTID_NEXT= '" ++ (gtid ++ codes "'/*!*/;")) ≡ Some (OfGtid gtid)
gtid_line_again gtid free =
    let cut : cut_at 39 (gtid ++ codes "'/*!*/;") ≡ Some (gtid, codes "/*!*/;") = cut_again 39 gtid (codes "/*!*/;") free in
    rw cut refl

-- the content of a line is read
pub line_again : (l : Content) (text : List ℕ) → IsLine l text → line_of text ≡ Some l
line_again (OfMark mark) text is = mark_again mark text is
line_again (OfHead event) text is = ap line_of is.2 ∙ head_of is.0 (event_text event ++ is.1) is.3 ∙ event_again event is.1 is.4
line_again (OfTable database table) text is =
    ap line_of is.2 ∙ head_of is.0 (codes "Table_map: " ++ (table_text database table ++ (codes " mapped to number " ++ decimal is.1))) is.3
    ∙ mapped_again database table is.1 is.4 is.5 is.6
line_again (OfColumn c) text is = ap line_of is.0 ∙ column_front_again c.is_first (named_text c.name c.column_type ++ column_end c.is_last ∷ []) ∙ column_at_again c is.1
line_again (OfGtid gtid) text is = ap line_of is.0 ∙ gtid_line_again gtid is.1
line_again (OfSources text' more) text is = ap line_of is.0 ∙ sources_again text' more is.1 is.2
line_again (OfRow operation database table) text is = ap line_of is.0 ∙ row_again operation database table is.1 is.2
line_again (OfValue n text') text is = ap line_of is.0 ∙ value_again n text' is.1

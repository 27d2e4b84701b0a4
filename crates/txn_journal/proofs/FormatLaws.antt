-- What holds of the texts of each format whose single lines obey these laws.
use Rattle.std.proofs.Common.{◌≡◌, ℕ, List, [], ◌∷◌, ◌++◌, Result, Ok, Err, refl, ap, ◌∙◌, Bool, true, false, not, cond, eqb, length, map, sym, subst, append_assoc, arith, inl, inr}
use Rattle.std.specs.List.{flat_map, AllByRecursion, list_all}
use Rattle.txn_journal.specs.Words.{IsOneLine}
use Rattle.txn_journal.specs.Lines.{◌>>=◌}
use Rattle.txn_journal.specs.Stream.{Judge, Progress, Reading, progress_after, next_number, feed_bytes, Stopped, feed_byte, end_of_text, at_end, IsAfter, answer, IsWhole, IsWholeOr, IsRead}
use Rattle.txn_journal.specs.declared.fault.Cause.{Cause}
use Rattle.txn_journal.proofs.Judged.{bind_ok, ok_is}
use Rattle.txn_journal.proofs.Pieces.{eats_append, eats_line, stopped_stays}
use Rattle.std.specs.Prelude.{IfOk, IfErr, MatchResult}
use Rattle.std.proofs.lemmas.List.{map-append, append-nil, length-append, flat_map_more}
use Rattle.std.proofs.lemmas.List.Concat.{flat_map-append}
use Rattle.std.proofs.lemmas.Bool.{eqb-true, and_parts}
use Rattle.lemmas.proofs.Lists.{all_push, all_append}
use Rattle.gtid_set.specs.declared.fault.SetFault.{SetFault}
use Rattle.txn_journal.specs.Formats.{Format, ended_line_of, text_of, AreWhole, start_of, feed_bytes_by, IsFaultBy, closing_by, whole_by, MayWrite, BeginsBy, cap_line_number, RefusesBy, ParsesBy}
use Rattle.txn_journal.specs.declared.fault.JournalFault.{JournalFault}
use Rattle.txn_journal.specs.declared.fault.JournalFault.TheVariants as faults

-- what lines make, one after another
abbrev pub runs : {S : Type 0} → Judge S → S → List (List ℕ) → Result S Cause
runs judge s [] = Ok s
runs judge s (l ∷ ls) = judge s l >>= λ t. runs judge t ls

pub runs_then : {S : Type 0} (judge : Judge S) (s t : S) (ks ls : List (List ℕ)) → runs judge s ks ≡ Ok t → runs judge s (ks ++ ls) ≡ runs judge t ls
runs_then {S} judge s t [] ls e = ap (λ (u : S). runs judge u ls) (ok_is s t e)
runs_then {S} judge s t (k ∷ ks) ls e =
    let a = bind_ok (judge s k) (λ u. runs judge u ks) t e in
    ap (λ (r : Result S Cause). r >>= λ u. runs judge u (ks ++ ls)) a.1 ∙ runs_then judge a.0 t ks ls a.2

pub runs_split : {S : Type 0} (judge : Judge S) (s t : S) (xs ys : List (List ℕ)) → runs judge s (xs ++ ys) ≡ Ok t → (u : S) × (runs judge s xs ≡ Ok u) × (runs judge u ys ≡ Ok t)
runs_split judge s t [] ys e = (s, refl, e)
runs_split {S} judge s t (x ∷ xs) ys e =
    let a = bind_ok (judge s x) (λ u. runs judge u (xs ++ ys)) t e in
    let more = runs_split judge a.0 t xs ys a.2 in
    (more.0, ap (λ (r : Result S Cause). r >>= λ u. runs judge u xs) a.1 ∙ more.1, more.2)

-- another judge that takes what this one takes
pub runs_follow : {S : Type 0} (judge other : Judge S) → ((s t : S) (line : List ℕ) → judge s line ≡ Ok t → other s line ≡ Ok t) → (s t : S) (xs : List (List ℕ)) → runs judge s xs ≡ Ok t → runs other s xs ≡ Ok t
runs_follow judge other follows s t [] e = e
runs_follow {S} judge other follows s t (x ∷ xs) e =
    let a = bind_ok (judge s x) (λ u. runs judge u xs) t e in
    ap (λ (r : Result S Cause). r >>= λ u. runs other u xs) (follows s a.0 x a.1) ∙ runs_follow judge other follows a.0 t xs a.2

-- lines, each with its line feed
eats_runs : {S L : Type 0} (judge : Judge S) (text : L → List ℕ) (s t : S) (ls : List L) (n : ℕ) → AllByRecursion (λ l. IsOneLine (text l)) ls → runs judge s (map text ls) ≡ Ok t → (m : ℕ) × (feed_bytes judge (Reading s n []) (flat_map (λ l. text l ++ 10 ∷ []) ls) ≡ Reading t m [])
eats_runs {S} judge text s t [] n whole e = (n, ap (λ (u : S). Reading u n []) (ok_is s t e))
eats_runs {S} judge text s t (l ∷ ls) n whole e =
    let rest = flat_map (λ l. text l ++ 10 ∷ []) ls in
    let a = bind_ok (judge s (text l)) (λ u. runs judge u (map text ls)) t e in
    let more = eats_runs judge text a.0 t ls (next_number n) whole.1 a.2 in (
      more.0,
      eats_append judge (Reading s n []) (text l ++ 10 ∷ []) rest
          ∙ ap (λ (p : Progress S). feed_bytes judge p rest) (eats_line judge s n [] (text l) whole.0 ∙ ap (λ (r : Result S Cause). progress_after r (next_number n)) a.1)
          ∙ more.1,
    )

-- ---- from one state to another by whole lines

pub record Leads {S L : Type 0} (judge : Judge S) (text : L → List ℕ) (s : S) (ls : List L) (t : S) : Type 0 where
  pub whole : AllByRecursion (λ l. IsOneLine (text l)) ls
  pub run : runs judge s (map text ls) ≡ Ok t

pub leads_none : {S L : Type 0} (judge : Judge S) (text : L → List ℕ) (s : S) → Leads judge text s [] s
leads_none judge text s = record { whole = tt; run = refl }

pub leads_one : {S L : Type 0} (judge : Judge S) (text : L → List ℕ) (s t : S) (l : L) → IsOneLine (text l) → judge s (text l) ≡ Ok t → Leads judge text s (l ∷ []) t
leads_one {S} judge text s t l one e = record { whole = (one, tt); run = ap (λ (r : Result S Cause). r >>= λ u. Ok u) e }

pub leads_both : {S L : Type 0} {judge : Judge S} {text : L → List ℕ} {s t u : S} {ks ls : List L} → Leads judge text s ks t → Leads judge text t ls u → Leads judge text s (ks ++ ls) u
leads_both {judge} {text} {s} {t} {u} {ks} {ls} a b = record {
  whole = all_append (λ l. IsOneLine (text l)) ks ls a.whole b.whole;
  run = ap (runs judge s) (map-append text ks ls) ∙ runs_then judge s t (map text ks) (map text ls) a.run ∙ b.run;
}

-- ---- the lines of a text are known by their texts

-- where two texts begin with a line each
cut_same : (xs ys cs bs : List ℕ) → IsOneLine xs → IsOneLine ys → xs ++ 10 ∷ cs ≡ ys ++ 10 ∷ bs → (xs ≡ ys) × (cs ≡ bs)
cut_same [] [] cs bs one other e = (refl, cc)
cut_same [] (y ∷ ys) cs bs one other e =
    let p = and_parts (not (eqb y 10)) (list_all (λ x. not (eqb x 10)) ys) other in
    let same : 10 ≡ y = cc in
    absurd (let k = sym p.0 ∙ ap (λ (c : ℕ). not (eqb c 10)) (sym same) in cc)
cut_same (x ∷ xs) [] cs bs one other e =
    let p = and_parts (not (eqb x 10)) (list_all (λ d. not (eqb d 10)) xs) one in
    let same : x ≡ 10 = cc in
    absurd (let k = sym p.0 ∙ ap (λ (c : ℕ). not (eqb c 10)) same in cc)
cut_same (x ∷ xs) (y ∷ ys) cs bs one other e =
    let p = and_parts (not (eqb x 10)) (list_all (λ d. not (eqb d 10)) xs) one in
    let q = and_parts (not (eqb y 10)) (list_all (λ c. not (eqb c 10)) ys) other in
    let same : x ≡ y = cc in
    let rest : xs ++ 10 ∷ cs ≡ ys ++ 10 ∷ bs = cc in
    let more = cut_same xs ys cs bs p.1 q.1 rest in
    (λ i. same i ∷ more.0 i, more.1)

not_none : (xs cs : List ℕ) → xs ++ 10 ∷ cs ≡ [] → ⊥
not_none [] cs e = cc
not_none (x ∷ xs) cs e = cc

module _ {L : Type 0} (text : L → List ℕ) where
  abbrev ended : L → List ℕ
  ended l = text l ++ 10 ∷ []

  -- lines of which the first have the texts of others
  pub record Split (ls ks : List L) (behind : List ℕ) : Type 0 where
    pub front : List L
    pub rest : List L
    pub parts : ks ≡ front ++ rest
    pub same : map text front ≡ map text ls
    pub whole : AllByRecursion (λ l. IsOneLine (text l)) rest
    pub left : flat_map (λ l. text l ++ 10 ∷ []) rest ≡ behind

  line_first : (l : L) (ls : List L) (behind : List ℕ) → flat_map ended (l ∷ ls) ++ behind ≡ text l ++ 10 ∷ (flat_map ended ls ++ behind)
  line_first l ls behind = append_assoc (ended l) (flat_map ended ls) behind ∙ append_assoc (text l) (10 ∷ []) (flat_map ended ls ++ behind)

  pub splits : (ls ks : List L) (behind : List ℕ) → AllByRecursion (λ l. IsOneLine (text l)) ls → AllByRecursion (λ l. IsOneLine (text l)) ks → flat_map (λ l. text l ++ 10 ∷ []) ls ++ behind ≡ flat_map (λ l. text l ++ 10 ∷ []) ks → Split ls ks behind
  splits [] ks behind one other e = record { front = []; rest = ks; parts = refl; same = refl; whole = other; left = sym e }
  splits (l ∷ ls) [] behind one other e = absurd (not_none (text l) (flat_map ended ls ++ behind) (sym (line_first l ls behind) ∙ e))
  splits (l ∷ ls) (k ∷ ks) behind one other e =
      let c = cut_same (text l) (text k) (flat_map ended ls ++ behind) (flat_map ended ks) one.0 other.0 (sym (line_first l ls behind) ∙ e ∙ append_assoc (text k) (10 ∷ []) (flat_map ended ks)) in
      let more = splits ls ks behind one.1 other.1 c.1 in
      record {
        front = k ∷ more.front;
        rest = more.rest;
        parts = ap (λ (x : List L). k ∷ x) more.parts;
        same = (λ i. sym c.0 i ∷ more.same i);
        whole = more.whole;
        left = more.left;
      }

  none_left : (ks : List L) → flat_map ended ks ≡ [] → ks ≡ []
  none_left [] e = refl
  none_left (k ∷ ks) e = absurd (not_none (text k) (flat_map ended ks) (sym (append_assoc (text k) (10 ∷ []) (flat_map ended ks)) ∙ e))

  -- two ways to cut one text into lines
  pub same_texts : (ls ks : List L) → AllByRecursion (λ l. IsOneLine (text l)) ls → AllByRecursion (λ l. IsOneLine (text l)) ks → flat_map (λ l. text l ++ 10 ∷ []) ls ≡ flat_map (λ l. text l ++ 10 ∷ []) ks → map text ks ≡ map text ls
  same_texts ls ks one other e =
      let cut = splits ls ks [] one other (append-nil (flat_map ended ls) ∙ e) in
      ap (map text) (cut.parts ∙ ap (λ (x : List L). cut.front ++ x) (none_left cut.rest cut.left) ∙ append-nil cut.front) ∙ cut.same

-- ---- laws of single lines

-- a text of the value is read to its end
pub record Reads (f : Format) (judge : Judge f.State) (bytes : List ℕ) (v : f.Value) : Type 0 where
  pub lines : List f.Line
  pub last : f.State
  pub parts : bytes ≡ text_of f lines
  pub leads : Leads judge f.line_text f.start lines last
  pub done : f.is_last last ≡ true
  pub value : f.value last ≡ v

-- lines of a text are read
pub record ReadsOn (f : Format) (judge : Judge f.State) (bytes : List ℕ) : Type 0 where
  pub lines : List f.Line
  pub last : f.State
  pub parts : bytes ≡ text_of f lines
  pub leads : Leads judge f.line_text f.start lines last

-- one line more
pub record OneMore (f : Format) (Sound : f.State → List f.Line → Type 0) (old : List f.Line) (line : List ℕ) (t : f.State) : Type 0 where
  pub l : f.Line
  pub text : line ≡ f.line_text l
  pub sound : Sound t (old ++ l ∷ [])

-- the lines can be gone on with
pub record CanGoOn (f : Format) (inside : Bool) (ls : List f.Line) : Type 0 where
  pub value : f.Value
  pub more : List f.Line
  pub writes : MayWrite f inside (text_of f (ls ++ more)) value

-- Sound is what is known of lines and of what they have made. Judging loosely takes more: it doesn't look at entries as a whole.
pub record Laws (f : Format) (Sound : f.State → List f.Line → Type 0) : Type 0 where
  pub starts : Sound f.start []
  pub has_lines : (s : f.State) (ls : List f.Line) → Sound s ls → f.HasLines s ls
  pub begins : (s : f.State) (ls : List f.Line) → Sound s ls → CanGoOn f (f.is_open s) ls
  pub judges : (s : f.State) (ls : List f.Line) (line : List ℕ) → Sound s ls → IsOneLine line → MatchResult (f.judge s line) (OneMore f Sound ls line) (f.HasCause s line)
  pub ends : (s : f.State) (ls : List f.Line) → Sound s ls → f.is_last s ≡ true → f.Writes (text_of f ls) (f.value s)
  pub reads : (bytes : List ℕ) (v : f.Value) → f.Writes bytes v → Reads f f.judge bytes v
  pub loose : Judge f.State
  pub follows : (s t : f.State) (line : List ℕ) → f.judge s line ≡ Ok t → loose s line ≡ Ok t
  pub refuses : (s : f.State) (ls : List f.Line) (line : List ℕ) (c : Cause) → Sound s ls → f.judge s line ≡ Err c → f.is_inside line ≡ true → loose s line ≡ Err c
  pub reads_open : (bytes : List ℕ) (v : f.Value) → f.AlmostWrites bytes v → ReadsOn f loose bytes

-- ---- lines

-- one line more
texts_more : (f : Format) (ls : List f.Line) (l : f.Line) (more : List ℕ) → text_of f ls ++ (ended_line_of f l ++ more) ≡ text_of f (ls ++ l ∷ []) ++ more
texts_more f ls l more =
    sym (append_assoc (text_of f ls) (ended_line_of f l) more)
    ∙ ap (λ (x : List ℕ). x ++ more) (flat_map_more (ended_line_of f) [] ls l)

one_line_more : (rest : List ℕ) (b : ℕ) → eqb b 10 ≡ false → IsOneLine rest → IsOneLine (rest ++ b ∷ [])
one_line_more [] b ne h = rw ne refl
one_line_more (c ∷ cs) b ne h = let p = and_parts (not (eqb c 10)) (list_all (λ x. not (eqb x 10)) cs) h in rw p.0 (one_line_more cs b ne p.1)

-- the fault of a feed is that of the whole
pub stopped_with : (f : Format) (bytes : List ℕ) (e : JournalFault) (p : Progress f.State) → Err e ≡ answer p → IsAfter (IsFaultBy f (start_of f) bytes) p (feed_bytes_by f (start_of f) bytes) → IsWholeOr (IsFaultBy f (start_of f) bytes) (Err e) (whole_by f bytes)
unfolding closing_by
stopped_with f bytes e (Reading s n rest) a h = absurd cc
stopped_with f bytes e (Stopped g) a (inl x) = inl (x.0, let k = x.1 in cc, x.2)
stopped_with f bytes e (Stopped g) a (inr x) = inr (let k : Err g ≡ whole_by f bytes = ap (closing_by f) x in cc)

-- so is the end of what a feed has left
pub closed_after : (f : Format) (bytes : List ℕ) (p : Progress f.State) → IsAfter (IsFaultBy f (start_of f) bytes) p (feed_bytes_by f (start_of f) bytes) → IsWholeOr (IsFaultBy f (start_of f) bytes) (closing_by f p) (whole_by f bytes)
unfolding closing_by
closed_after f bytes p (inl x) = inl (x.0, ap (closing_by f) x.1, x.2)
closed_after f bytes p (inr x) = inr (ap (closing_by f) x)

-- which fault it was may be left out
pub whole_of : {V : Type 0} (may : SetFault → Type 0) (r w : Result V JournalFault) → IsWholeOr may r w → IsWhole r w
whole_of may r w (inl x) = inl (x.0, x.1)
whole_of may r w (inr x) = inr x

module _ (f : Format) (Sound : f.State → List f.Line → Type 0) (laws : Laws f Sound) where
  -- ---- reading is complete

  pub reads_back : (bytes : List ℕ) (v : f.Value) → f.Writes bytes v → whole_by f bytes ≡ Ok v
  unfolding closing_by
  reads_back bytes v w =
      let r = laws.reads bytes v w in
      let eaten = eats_runs f.judge f.line_text f.start r.last r.lines 0 r.leads.whole r.leads.run in
      ap (whole_by f) r.parts ∙ ap (closing_by f) eaten.1 ∙ (λ i. at_end (end_of_text (r.done i) [] eaten.0) (r.value i))

  pub one_value : (bytes : List ℕ) (v w : f.Value) → f.Writes bytes v → f.Writes bytes w → v ≡ w
  one_value bytes v w a b = let k = sym (reads_back bytes v a) ∙ reads_back bytes w b in cc

  -- what is almost a text is read loosely
  reads_loosely : (bytes : List ℕ) (v : f.Value) → f.AlmostWrites bytes v → (t : f.State) × (n : ℕ) × (feed_bytes laws.loose (start_of f) bytes ≡ Reading t n [])
  reads_loosely bytes v w =
      let r = laws.reads_open bytes v w in
      let eaten = eats_runs laws.loose f.line_text f.start r.last r.lines 0 r.leads.whole r.leads.run in
      (r.last, eaten.0, ap (feed_bytes laws.loose (start_of f)) r.parts ∙ eaten.1)

  begins : (s : f.State) (ls : List f.Line) → Sound s ls → BeginsBy f (f.is_open s) (text_of f ls)
  begins s ls h =
      let k = laws.begins s ls h in
      (k.value, text_of f k.more, subst (λ (x : List ℕ). MayWrite f (f.is_open s) x k.value) (flat_map-append (ended_line_of f) ls k.more) k.writes)

  -- ---- reading is sound

  -- so much of the text was read, and this is left
  record Stands (bytes : List ℕ) (s : f.State) (n : ℕ) (rest left : List ℕ) : Type 0 where
    lines : List f.Line
    parts : bytes ≡ text_of f lines ++ (rest ++ left)
    whole : AreWhole f lines
    part : IsOneLine rest
    number : n ≡ cap_line_number (length lines)
    sound : Sound s lines
    eaten : (more : List ℕ) → feed_bytes_by f (start_of f) (text_of f lines ++ (rest ++ more)) ≡ feed_bytes_by f (Reading s n rest) more
    loosely : (more : List ℕ) → feed_bytes laws.loose (start_of f) (text_of f lines ++ (rest ++ more)) ≡ feed_bytes laws.loose (Reading s n rest) more

  -- the text ends here
  ends_here : (bytes : List ℕ) (s : f.State) (n : ℕ) (rest : List ℕ) (v : Bool) → f.is_last s ≡ v → Stands bytes s n rest [] → whole_by f bytes ≡ at_end (end_of_text v rest n) (f.value s) → ParsesBy f bytes (at_end (end_of_text v rest n) (f.value s))
  ends_here bytes s n rest false last h e = (
    record { before = h.lines; rest = rest; parts = h.parts ∙ ap (λ (x : List ℕ). text_of f h.lines ++ x) (append-nil rest); lines = h.whole; part = h.part; state = s; has_lines = laws.has_lines s h.lines h.sound; number = omega (arith, h.number); begins = begins s h.lines h.sound },
    λ v w. absurd (let k = sym e ∙ reads_back bytes v w in cc),
  )
  ends_here bytes s n [] true last h e = subst (λ (x : List ℕ). f.Writes x (f.value s)) (sym (h.parts ∙ append-nil (text_of f h.lines))) (laws.ends s h.lines h.sound last)
  ends_here bytes s n (c ∷ cs) true last h e = inr (record { value = f.value s; before = h.lines; rest = c ∷ cs; parts = h.parts ∙ ap (λ (x : List ℕ). text_of f h.lines ++ x) (append-nil (c ∷ cs)); lines = h.whole; written = laws.ends s h.lines h.sound last; part = h.part; some = omega arith; number = omega (arith, h.number) }, refl)

  -- the line that is read, with its line feed, before more
  line_more : (ls : List f.Line) (l : f.Line) (rest more : List ℕ) → rest ≡ f.line_text l → text_of f ls ++ (rest ++ 10 ∷ more) ≡ text_of f (ls ++ l ∷ []) ++ more
  line_more ls l rest more e =
      ap (λ (x : List ℕ). text_of f ls ++ (x ++ 10 ∷ more)) e
      ∙ ap (λ (x : List ℕ). text_of f ls ++ x) (sym (append_assoc (f.line_text l) (10 ∷ []) more))
      ∙ texts_more f ls l more

  -- no value's text begins with a line that is refused
  no_value : (bytes bs : List ℕ) (s : f.State) (n : ℕ) (rest : List ℕ) (h : Stands bytes s n rest (10 ∷ bs)) (c : Cause) → f.judge s rest ≡ Err c → (inside : Bool) → f.is_inside rest ≡ inside → (v : f.Value) (more : List ℕ)
      → MayWrite f inside ((text_of f h.lines ++ (rest ++ 10 ∷ [])) ++ more) v → ⊥
  unfolding closing_by feed_byte
  no_value bytes bs s n rest h c j false e v more w =
      let fault = faults.Line (next_number n) c in
      let front = text_of f h.lines ++ (rest ++ 10 ∷ []) in
      let stopped : feed_bytes_by f (Reading s n rest) (10 ∷ []) ≡ Stopped fault = ap (λ (x : Result f.State Cause). feed_bytes_by f (progress_after x (next_number n)) []) j in
      let at : feed_bytes_by f (start_of f) (front ++ more) ≡ Stopped fault = eats_append f.judge (start_of f) front more ∙ ap (λ (p : Progress f.State). feed_bytes_by f p more) (h.eaten (10 ∷ []) ∙ stopped) ∙ stopped_stays f.judge fault more in
      let k = sym (reads_back (front ++ more) v w) ∙ ap (closing_by f) at in cc
  no_value bytes bs s n rest h c j true e v more w =
      let fault = faults.Line (next_number n) c in
      let front = text_of f h.lines ++ (rest ++ 10 ∷ []) in
      let stopped : feed_bytes laws.loose (Reading s n rest) (10 ∷ []) ≡ Stopped fault = ap (λ (x : Result f.State Cause). feed_bytes laws.loose (progress_after x (next_number n)) []) (laws.refuses s h.lines rest c h.sound j e) in
      let at : feed_bytes laws.loose (start_of f) (front ++ more) ≡ Stopped fault = eats_append laws.loose (start_of f) front more ∙ ap (λ (p : Progress f.State). feed_bytes laws.loose p more) (h.loosely (10 ∷ []) ∙ stopped) ∙ stopped_stays laws.loose fault more in
      let read = reads_loosely (front ++ more) v w in
      let k = sym read.2 ∙ at in cc

  -- a line that is taken, or the first that is not
  next_line : (bytes bs : List ℕ) (s : f.State) (n : ℕ) (rest : List ℕ) (h : Stands bytes s n rest (10 ∷ bs)) (r : Result f.State Cause) → f.judge s rest ≡ r → MatchResult r (OneMore f Sound h.lines rest) (f.HasCause s rest)
      → ((t : f.State) (m : ℕ) (new : List ℕ) → Stands bytes t m new bs → ParsesBy f bytes (closing_by f (feed_bytes_by f (Reading t m new) bs)))
      → ParsesBy f bytes (closing_by f (feed_bytes_by f (progress_after r (next_number n)) bs))
  unfolding closing_by feed_byte
  next_line bytes bs s n rest h (Ok t) j k more =
      more t (next_number n) [] (record {
        lines = h.lines ++ k.l ∷ [];
        parts = h.parts ∙ line_more h.lines k.l rest bs k.text;
        whole = all_push (λ l. IsOneLine (f.line_text l)) h.lines k.l h.whole (subst IsOneLine k.text h.part);
        part = refl;
        number = omega (arith, h.number, length-append h.lines (k.l ∷ []));
        sound = k.sound;
        eaten = λ m. ap (feed_bytes_by f (start_of f)) (sym (line_more h.lines k.l rest m k.text)) ∙ h.eaten (10 ∷ m) ∙ ap (λ (x : Result f.State Cause). feed_bytes_by f (progress_after x (next_number n)) m) j;
        loosely = λ m. ap (feed_bytes laws.loose (start_of f)) (sym (line_more h.lines k.l rest m k.text)) ∙ h.loosely (10 ∷ m) ∙ ap (λ (x : Result f.State Cause). feed_bytes laws.loose (progress_after x (next_number n)) m) (laws.follows s t rest j);
      })
  next_line bytes bs s n rest h (Err c) j cause more =
      let fault = faults.Line (next_number n) c in
      subst (λ (p : Progress f.State). ParsesBy f bytes (closing_by f p)) (sym (stopped_stays f.judge fault bs)) (inl (record {
        before = h.lines;
        line = rest;
        rest = bs;
        parts = h.parts;
        lines = h.whole;
        whole = h.part;
        number = omega (arith, h.number);
        state = s;
        has_lines = laws.has_lines s h.lines h.sound;
        begins = begins s h.lines h.sound;
        faulty = λ b. no_value bytes bs s n rest h c j (f.is_inside rest) refl b.0 b.1 b.2;
        has_cause = cause;
      }))

  next_byte : (bytes bs : List ℕ) (s : f.State) (n : ℕ) (rest : List ℕ) (b : ℕ) (v : Bool) → eqb b 10 ≡ v → Stands bytes s n rest (b ∷ bs)
      → ((t : f.State) (m : ℕ) (new : List ℕ) → Stands bytes t m new bs → ParsesBy f bytes (closing_by f (feed_bytes_by f (Reading t m new) bs)))
      → ParsesBy f bytes (closing_by f (feed_bytes_by f (cond v (progress_after (f.judge s rest) (next_number n)) (Reading s n (rest ++ b ∷ []))) bs))
  unfolding feed_byte
  next_byte bytes bs s n rest b true e h more =
      let k : Stands bytes s n rest (10 ∷ bs) = subst (λ (x : ℕ). Stands bytes s n rest (x ∷ bs)) (eqb-true b 10 e) h in
      next_line bytes bs s n rest k (f.judge s rest) refl (laws.judges s k.lines rest k.sound k.part) more
  next_byte bytes bs s n rest b false e h more = more s n (rest ++ b ∷ []) (record {
    lines = h.lines;
    parts = h.parts ∙ ap (λ (x : List ℕ). text_of f h.lines ++ x) (sym (append_assoc rest (b ∷ []) bs));
    whole = h.whole;
    part = one_line_more rest b e h.part;
    number = h.number;
    sound = h.sound;
    eaten = λ m.
        ap (λ (x : List ℕ). feed_bytes_by f (start_of f) (text_of f h.lines ++ x)) (append_assoc rest (b ∷ []) m)
        ∙ h.eaten (b ∷ m)
        ∙ ap (λ (x : Bool). feed_bytes_by f (cond x (progress_after (f.judge s rest) (next_number n)) (Reading s n (rest ++ b ∷ []))) m) e;
    loosely = λ m.
        ap (λ (x : List ℕ). feed_bytes laws.loose (start_of f) (text_of f h.lines ++ x)) (append_assoc rest (b ∷ []) m)
        ∙ h.loosely (b ∷ m)
        ∙ ap (λ (x : Bool). feed_bytes laws.loose (cond x (progress_after (laws.loose s rest) (next_number n)) (Reading s n (rest ++ b ∷ []))) m) e;
  })

  goes_on : (bytes left : List ℕ) (s : f.State) (n : ℕ) (rest : List ℕ) → Stands bytes s n rest left → ParsesBy f bytes (closing_by f (feed_bytes_by f (Reading s n rest) left))
  unfolding closing_by feed_byte
  goes_on bytes [] s n rest h = ends_here bytes s n rest (f.is_last s) refl h (ap (whole_by f) h.parts ∙ ap (closing_by f) (h.eaten []))
  goes_on bytes (b ∷ bs) s n rest h = next_byte bytes bs s n rest b (eqb b 10) refl h (λ t m new k. goes_on bytes bs t m new k)

  -- ---- lines that have made a state

  -- lines with these texts, which are known of what has been made
  pub record AreRead (texts : List (List ℕ)) (old : List f.Line) (t : f.State) : Type 0 where
    pub lines : List f.Line
    pub texts_are : map f.line_text lines ≡ texts
    pub sound : Sound t (old ++ lines)

  pub lines_read : (texts : List (List ℕ)) (s t : f.State) (old : List f.Line) → Sound s old → AllByRecursion IsOneLine texts → runs f.judge s texts ≡ Ok t → AreRead texts old t
  lines_read [] s t old sound whole e = record {
    lines = [];
    texts_are = refl;
    sound = subst (Sound t) (sym (append-nil old)) (subst (λ (u : f.State). Sound u old) (ok_is s t e) sound);
  }
  lines_read (x ∷ xs) s t old sound whole e =
      let a = bind_ok (f.judge s x) (λ u. runs f.judge u xs) t e in
      let P : Result f.State Cause → Type 0 = λ r. MatchResult r (OneMore f Sound old x) (f.HasCause s x) in
      let one = subst P a.1 (laws.judges s old x sound whole.0) in
      let more = lines_read xs a.0 t (old ++ one.l ∷ []) one.sound whole.1 a.2 in
      record {
        lines = one.l ∷ more.lines;
        texts_are = (λ i. sym one.text i ∷ more.texts_are i);
        sound = subst (Sound t) (append_assoc old (one.l ∷ []) more.lines) more.sound;
      }

  -- ---- what the calls answer

  spells : (r : Result f.Value JournalFault) (bytes : List ℕ) → IsWholeOr (IsFaultBy f (start_of f) bytes) r (whole_by f bytes) → ParsesBy f bytes r
  spells r bytes (inl e) = subst (ParsesBy f bytes) (sym e.1) e.2
  spells r bytes (inr e) = subst (ParsesBy f bytes) (sym e) (goes_on bytes bytes f.start 0 [] (record { lines = []; parts = refl; whole = tt; part = refl; number = omega arith; sound = laws.starts; eaten = λ m. refl; loosely = λ m. refl }))

  pub is_found : (r : Result f.Value JournalFault) (bytes : List ℕ) → IsWholeOr (IsFaultBy f (start_of f) bytes) r (whole_by f bytes) → IfOk r (λ v. f.Writes bytes v)
  is_found (Ok v) bytes h = spells (Ok v) bytes h
  is_found (Err e) bytes h = tt

  pub is_refused : (r : Result f.Value JournalFault) (bytes : List ℕ) → IsWholeOr (IsFaultBy f (start_of f) bytes) r (whole_by f bytes) → IfErr r (λ fault. RefusesBy f fault bytes)
  is_refused (Ok v) bytes h = tt
  is_refused (Err e) bytes h = spells (Err e) bytes h

  pub is_only : (r : Result f.Value JournalFault) (bytes : List ℕ) → IsWholeOr (IsFaultBy f (start_of f) bytes) r (whole_by f bytes) → (v : f.Value) → f.Writes bytes v → IsRead r v
  is_only r bytes (inl e) v w = subst (λ (x : Result f.Value JournalFault). IsRead x v) (sym e.1) tt
  is_only r bytes (inr e) v w = subst (λ (x : Result f.Value JournalFault). IsRead x v) (sym (e ∙ reads_back bytes v w)) refl

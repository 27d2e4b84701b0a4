-- Files that are there whole.
use Rattle.std.proofs.Common.{◌≡◌, ℕ, Vec, ◌+◌, ◌<◌, ◌≤◌, Bool, true, false, List, [], ◌∷◌, ◌++◌, length, map, take, drop, get_or, Some, None, Ok, refl, sym, ap, subst, ◌∙◌, inl, inr, arith}
use Rattle.std.specs.Prelude.{◌==◌, ◌||◌, not}
use Rattle.std.specs.Global.{Global}
use Rattle.std.specs.List.{list_any}
use Rattle.std.proofs.lemmas.List.{take_more, take-append-drop, drop_more, map-append, length-map, length-take-le, take_all}
use Rattle.std.proofs.lemmas.List.Folds.{list_any-append}
use Rattle.binlog_frames.specs.Spelling.{Framed, tail_len}
use Rattle.binlog_frames.specs.Reading.{is_checked}
use Rattle.binlog_frames.specs.Standing.{Standing, front_at, opening_at, before, tail_of, tail_from, passed, passed_from, Follows}
use Rattle.binlog_frames.specs.declared.stage.FileStage.{FileStage}
use Rattle.binlog_frames.specs.declared.stage.FileStage.TheVariants.{Later}
use Rattle.binlog_files.specs.Given.{Given}
use Rattle.binlog_files.specs.Files.{HasCome, TakesOn, StopsOn}
use Rattle.binlog_files.specs.Moved.{files_state}
use Rattle.binlog_files.specs.Taking.{FilesState, start, take_events}
use Rattle.binlog_files.specs.Whole.{TakesFiles, NoFile, AndFile, EndsFile, StopsFile, says_unchecked, has_no_checksums, is_unlisted, IsUnlisted, TakesWhole, StopsWhole, HaveFiles, StopsAtFile}
use Rattle.binlog_files.specs.declared.files.FilesFault.{FilesFault}
use Rattle.binlog_files.specs.declared.files.LogFiles.{LogFiles}

-- ---- checksums

stage_behind : (c : Bool) (t : Standing) (d : Framed) → t.stage ≡ Later c → (passed t d).stage ≡ Later c
stage_behind c t d e = ap (λ (g : FileStage). (passed_from g t.offset t.left d).stage) e

stage_kept : (c : Bool) (es : List Framed) (t s : Standing) → t.stage ≡ Later c → Follows t es s → s.stage ≡ Later c
stage_kept c [] t s e f = ap (λ (x : Standing). x.stage) (sym f) ∙ e
stage_kept c (d ∷ es) t s e f = stage_kept c es (passed t d) s (stage_behind c t d e) f.1

tail_none : (c : Bool) → (tail_len c == 0) ≡ not c
tail_none true = refl
tail_none false = refl

unchecked_at : (bytes : List ℕ) (es : List Framed) (s : Standing) → Follows (before bytes) es s → front_at s ≡ Ok None
    → (tail_of s == 0) ≡ has_no_checksums bytes
unchecked_at bytes [] s f none =
    ap (λ (x : Standing). tail_of x == 0) (sym f)
    ∙ sym (ap (λ (x : Standing). says_unchecked (front_at x)) f ∙ ap says_unchecked none)
unchecked_at bytes (d ∷ es) s f none =
    ap (λ (g : FileStage). tail_from g == 0) (stage_kept (is_checked d) es (passed (before bytes) d) s refl f.1)
    ∙ tail_none (is_checked d)
    ∙ sym (ap says_unchecked f.0)

-- ---- a file

pub file_taken : (given : Given) (old mid new : LogFiles) (bytes : List ℕ) (b : Bool) → TakesOn given old mid bytes → b ≡ (tail_of mid.frames == 0)
    → EndsFile mid new → is_unlisted bytes ≡ false → TakesWhole given old bytes new b
file_taken given old mid new bytes b on is ends listed = λ from h.
    let come : HasCome given from bytes mid = on from [] h in
    record {
      ended = ends given from bytes come;
      begins = listed;
      checks = is ∙ unchecked_at bytes come.0.events mid.frames come.0.follows come.1;
    }

pub fed_stops : (given : Given) (old : LogFiles) (bytes : List ℕ) (fault : FilesFault) → StopsOn given old bytes fault → StopsWhole given old bytes fault
fed_stops given old bytes fault stops = λ from h. inl (stops from [] h)

pub end_stops : (given : Given) (old mid : LogFiles) (bytes : List ℕ) (fault : FilesFault) → TakesOn given old mid bytes → StopsFile mid fault
    → StopsWhole given old bytes fault
end_stops given old mid bytes fault on stops = λ from h. inr (inl (stops given from bytes (on from [] h)))

pub unlisted_stops : (given : Given) (old : LogFiles) (bytes : List ℕ) (fault : FilesFault) → IsUnlisted bytes fault → StopsWhole given old bytes fault
unlisted_stops given old bytes fault unlisted = λ from h. inr (inr unlisted)

-- ---- files

nothing_there : front_at (before []) ≡ Ok None
unfolding opening_at
nothing_there = refl

none_yet : (given : Given) (from to : FilesState) (s : Standing) (es : List Framed) → Follows (before []) es s → take_events given from es ≡ Ok to → from ≡ to
none_yet given from to s [] f taken = cc
none_yet given from to s (d ∷ es) f taken =
    let there : front_at (before []) ≡ Ok (Some d) = f.0 in
    let nothing = nothing_there in
    absurd cc

pub no_files : (given : Given) (l : LogFiles) → HasCome given (start given.opening) [] l → HaveFiles given [] l false
no_files given l h =
    let same = none_yet given (start given.opening) (files_state l.taken) l.frames h.0.events h.0.follows h.0.taken in
    record {
      tells = [];
      taken = subst (λ (x : FilesState). TakesFiles given (start given.opening) [] [] x) same NoFile;
      come = subst (λ (x : FilesState). HasCome given x [] l) same h;
      begin = refl;
      checks = refl;
    }

or_none : (b : Bool) → (b || false) ≡ b
or_none true = refl
or_none false = refl

with_file : (given : Given) (files : List (List ℕ)) (bytes : List ℕ) (old new : LogFiles) (b c : Bool) → HaveFiles given files old b
    → TakesWhole given old bytes new c → HaveFiles given (files ++ bytes ∷ []) new (b || c)
with_file given files bytes old new b c h takes =
    let f = takes (files_state old.taken) h.come in
    record {
      tells = h.tells ++ f.ended.tells;
      taken = AndFile files bytes h.tells f.ended.tells (files_state old.taken) (files_state new.taken) h.taken f.ended.file;
      come = f.ended.next;
      begin =
          list_any-append is_unlisted files (bytes ∷ [])
          ∙ (λ i. h.begin i || (f.begins i || false));
      checks =
          (λ i. h.checks i || f.checks i)
          ∙ ap (λ x. list_any has_no_checksums files || x) (sym (or_none (has_no_checksums bytes)))
          ∙ sym (list_any-append has_no_checksums files (bytes ∷ []));
    }

-- ---- one file more of those that are there

abbrev bytes_of : List (Vec ℕ Global) → List (List ℕ)
bytes_of files = map (λ v. v.items) files

file_bytes : (files : List (Vec ℕ Global)) (i : ℕ) (x : Vec ℕ Global) (bytes : List ℕ) → x ≡ get_or files i x → bytes ≡ x.items → (get_or files i x).items ≡ bytes
file_bytes files i x bytes x_is is = sym (is ∙ ap (λ (v : Vec ℕ Global). v.items) x_is)

next_files : (files : List (Vec ℕ Global)) (i : ℕ) (x : Vec ℕ Global) (bytes : List ℕ) → i < length files → x ≡ get_or files i x → bytes ≡ x.items
    → bytes_of (take (i + 1) files) ≡ bytes_of (take i files) ++ bytes ∷ []
next_files files i x bytes lt x_is is =
    ap (λ xs. bytes_of xs) (take_more files i x lt)
    ∙ map-append (λ (v : Vec ℕ Global). v.items) (take i files) (get_or files i x ∷ [])
    ∙ ap (λ y. bytes_of (take i files) ++ y ∷ []) (file_bytes files i x bytes x_is is)

pub have_next : (given : Given) (files : List (Vec ℕ Global)) (i : ℕ) (x : Vec ℕ Global) (bytes : List ℕ) (old new : LogFiles) (a b c : Bool)
    → i < length files → x ≡ get_or files i x → bytes ≡ x.items → HaveFiles given (bytes_of (take i files)) old b → TakesWhole given old bytes new c
    → a ≡ (b || c) → HaveFiles given (bytes_of (take (i + 1) files)) new a
have_next given files i x bytes old new a b c lt x_is is h takes a_is =
    subst (λ (fs : List (List ℕ)). HaveFiles given fs new a) (sym (next_files files i x bytes lt x_is is))
    (subst (λ (d : Bool). HaveFiles given (bytes_of (take i files) ++ bytes ∷ []) new d) (sym a_is)
    (with_file given (bytes_of (take i files)) bytes old new b c h takes))

parts_at : (files : List (Vec ℕ Global)) (i : ℕ) (x : Vec ℕ Global) (bytes : List ℕ) → i < length files → x ≡ get_or files i x → bytes ≡ x.items
    → bytes_of files ≡ bytes_of (take i files) ++ bytes ∷ bytes_of (drop (i + 1) files)
parts_at files i x bytes lt x_is is =
    ap (λ xs. bytes_of xs) (sym (take-append-drop i files))
    ∙ map-append (λ (v : Vec ℕ Global). v.items) (take i files) (drop i files)
    ∙ ap (λ xs. bytes_of (take i files) ++ bytes_of xs) (drop_more files i x lt)
    ∙ ap (λ y. bytes_of (take i files) ++ y ∷ bytes_of (drop (i + 1) files)) (file_bytes files i x bytes x_is is)

pub stops_at : (given : Given) (files : List (Vec ℕ Global)) (i : ℕ) (x : Vec ℕ Global) (bytes : List ℕ) (old : LogFiles) (b : Bool) (fault : FilesFault)
    → i < length files → x ≡ get_or files i x → bytes ≡ x.items → HaveFiles given (bytes_of (take i files)) old b → StopsWhole given old bytes fault
    → StopsAtFile given (bytes_of files) (i + 1) fault
stops_at given files i x bytes old b fault lt x_is is h stops =
    record {
      taken = bytes_of (take i files);
      bytes = bytes;
      others = bytes_of (drop (i + 1) files);
      parts = parts_at files i x bytes lt x_is is;
      number = ap (λ (n : ℕ). n + 1) (sym (length-map (take i files) (λ (v : Vec ℕ Global). v.items) ∙ length-take-le i files (omega (arith, lt))));
      tells = h.tells;
      state = files_state old.taken;
      behind = h.taken;
      stops = stops (files_state old.taken) h.come;
    }

pub have_all : (given : Given) (files : List (Vec ℕ Global)) (i : ℕ) (new : LogFiles) (b : Bool) → length files ≤ i
    → HaveFiles given (bytes_of (take i files)) new b → HaveFiles given (bytes_of files) new b
have_all given files i new b le h = subst (λ (fs : List (Vec ℕ Global)). HaveFiles given (bytes_of fs) new b) (take_all i files le) h

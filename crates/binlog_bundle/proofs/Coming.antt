-- Channels that come, one after another.
use Rattle.std.proofs.Common.{◌≡◌, ◌≢◌, ℕ, Bool, true, List, [], ◌∷◌, ◌++◌, Option, Some, None, codes, refl, sym, ap, ◌∙◌, subst, append_assoc, append-nil, inl, inr, slice_get, ◌≤◌, length, arith}
use Rattle.std.specs.List.{flat_map}
use Rattle.lemmas.proofs.Lists.{all_push}
use Rattle.gtid_set.specs.Sets.{Gtids}
use Rattle.gtid_set.specs.declared.fault.SetFault.{SetFault}
use Rattle.gtid_set.specs.declared.fault.SetFault.TheVariants.{Memory, PoolFull, SourcesFull}
use Rattle.txn_journal.specs.BundleReading.{BundleProgress}
use Rattle.txn_journal.specs.BundleReaders.{bundle_reading}
use Rattle.txn_journal.specs.BundleStates.{BundleValue}
use Rattle.txn_journal.specs.BundleText.{WritesBundle, WritesBundleBy}
use Rattle.txn_journal.specs.Stream.{next_number}
use Rattle.txn_journal.specs.Words.{BeginsWithLine}
use Rattle.txn_journal.specs.declared.fault.JournalFault.{JournalFault}
use Rattle.txn_journal.specs.declared.fault.JournalFault.TheVariants as faults
use Rattle.txn_journal.specs.declared.lines.Due.TheVariants.{Only}
use Rattle.txn_journal.specs.declared.lines.Version.TheVariants.{Three}
use Rattle.binlog_entries.proofs.TransactionLaws.{flat_map_more}
use Rattle.binlog_bundle.specs.Lines.{with_line_feed, is_channel, lines_in, BeginsOwn, IsCut}
use Rattle.binlog_bundle.specs.Notes.{name_in, notes_for}
use Rattle.binlog_bundle.specs.Assumed.{IsSaidBefore}
use Rattle.binlog_bundle.specs.Heads.{IsPlainHead}
use Rattle.binlog_bundle.specs.Executed.{IsCutLine, IsNoSet, AreWithin, HasLack, HasFullLack, IsFullAt}
use Rattle.binlog_bundle.specs.Bundles.{done_line, ImportedLog, log_text, journal_text, IsStart, IsImported, Corresponds, said, all_assumed, assumed_for, DescribesBundle, ImportsBundle, BeginsLast, Nowhere, Last}
use Rattle.binlog_bundle.specs.Refused.{fault_at_line, fault_in_head, channel_fault_at, IsFed, StopsAt, IsTaken, IsRefused, IsHeadRefused, end_for, IsNoHead, HasTaken, IsLast, IsNoNext, HasChannel, HasNext, HasWord, HasLog, HasMore, CantFollow, HasJournalFault, IsFull, InHead, InLine, InWord, InPart, InLack, IsNoOwn, IsNoneOf, IsNoBundle}
use Rattle.binlog_bundle.specs.Channels.{HasHead, HasRead, HasCome, FeedsChannel, IsLineTaken, IsSaidTaken, CantTake, NoMemory, Stops, NotSet, FullPart, CantJoin, CantFeedChannel, IsDescribed}
use Rattle.binlog_bundle.specs.declared.fault.ChannelFault.{ChannelFault}
use Rattle.binlog_bundle.specs.declared.fault.ChannelFault.TheVariants as channels
use Rattle.binlog_bundle.specs.declared.channels.ImportProgress.{ImportProgress}
use Rattle.binlog_bundle.specs.Logs.{Terms}
use Rattle.binlog_bundle.specs.declared.assumed.AssumedLine.{AssumedLine}
use Rattle.binlog_bundle.specs.declared.fault.Logless.{Logless}
use Rattle.binlog_bundle.specs.declared.fault.SourceFault.TheVariants as sources
use Rattle.binlog_bundle.proofs.Cutting.{done_begins}
use Rattle.binlog_bundle.proofs.Counting.{as_many_journals}
use Rattle.binlog_bundle.proofs.Feeding.{is_taken, refused_more, head_stops}

-- the number of the line with which what is left begins
abbrev pub IsLineAt : List ℕ → List ℕ → ℕ → Type 0
IsLineAt text left n = (front : List ℕ) → text ≡ front ++ left → n ≡ next_number (lines_in front)

stands_none : (terms : Terms) (head plain : List ℕ) → Corresponds terms head plain [] head plain
stands_none terms head plain = record { imported = tt; text_is = sym (append-nil head); written_is = sym (append-nil plain) }

part_more : (f : ImportedLog → List ℕ) (head text : List ℕ) (cs : List ImportedLog) (c : ImportedLog) → text ≡ head ++ flat_map f cs → text ++ f c ≡ head ++ flat_map f (cs ++ c ∷ [])
part_more f head text cs c e =
    ap (λ (xs : List ℕ). xs ++ f c) e
    ∙ append_assoc head (flat_map f cs) (f c)
    ∙ ap (λ (xs : List ℕ). head ++ xs) (sym (flat_map_more f cs c))

stands_more : (terms : Terms) (head plain text written : List ℕ) (cs : List ImportedLog) (c : ImportedLog) → Corresponds terms head plain cs text written → IsImported terms plain c → Corresponds terms head plain (cs ++ c ∷ []) (text ++ log_text c) (written ++ journal_text c)
stands_more terms head plain text written cs c h imported = record {
  imported = all_push (IsImported terms plain) cs c h.imported imported;
  text_is = part_more log_text head text cs c h.text_is;
  written_is = part_more journal_text plain written cs c h.written_is;
}

said_of : (cs : List ImportedLog) (c : ImportedLog) → said cs ++ c.executed ∷ [] ≡ said (cs ++ c ∷ [])
said_of [] c = refl
said_of (b ∷ cs) c = ap (λ (xs : List (Option Gtids)). b.executed ∷ xs) (said_of cs c)

said_more : (cs : List ImportedLog) (c : ImportedLog) (xs ys : List (Option Gtids)) → xs ≡ said cs → ys ≡ xs ++ c.executed ∷ [] → ys ≡ said (cs ++ c ∷ [])
said_more cs c xs ys e f = f ∙ ap (λ (zs : List (Option Gtids)). zs ++ c.executed ∷ []) e ∙ said_of cs c

-- ---- what has come

pub come_head : (terms : Terms) (start : BundleValue) (head plain text left : List ℕ) (p : ImportProgress) → HasHead terms text head plain p.passed_over left → IsStart plain start → HasRead p plain
    → p.executed.items ≡ [] → p.assumed.items ≡ [] → p.notes.items ≡ [] → HasCome terms start text left p
come_head terms start head plain text left p h has fed none nothing silent = record {
  head = head;
  plain = plain;
  alone = h.cut.none;
  plain_head = h.plain_head;
  has = has;
  channels = [];
  front = head;
  written = plain;
  corresponds = stands_none terms head plain;
  parts = h.cut.parts;
  begins = h.cut.begins;
  fed = fed;
  says = none;
  assumed = nothing;
  noted = silent;
}

channel_parts : (line after log behind : List ℕ) → IsCut after log behind → with_line_feed line ++ after ≡ (with_line_feed line ++ log) ++ behind
channel_parts line after log behind cut = ap (λ (xs : List ℕ). with_line_feed line ++ xs) cut.parts ∙ sym (append_assoc (with_line_feed line) log behind)

pub come_more : (terms : Terms) (start : BundleValue) (text left line after log behind : List ℕ) (old new : ImportProgress) → is_channel line ≡ true
    → HasCome terms start text left old → left ≡ with_line_feed line ++ after → IsCut after log behind → FeedsChannel terms start line log old new → HasCome terms start text behind new
come_more terms start text left line after log behind old new channel come begins cut f =
    let assumes = assumed_for terms start f.own f.executed f.statements in
    let note = notes_for start f.own f.varied in
    let c : ImportedLog = record { line = line; own = f.own; executed = f.executed; log = log; journal = f.brings.journal; varied = f.varied; statements = f.statements; assumed = assumes; notes = note } in
    record {
      head = come.head;
      plain = come.plain;
      alone = come.alone;
      plain_head = subst (IsPlainHead terms.grants terms.origin.columns come.head come.plain) (sym f.same_head) come.plain_head;
      has = come.has;
      channels = come.channels ++ c ∷ [];
      front = come.front ++ log_text c;
      written = come.written ++ journal_text c;
      corresponds = stands_more terms come.head come.plain come.front come.written come.channels c come.corresponds (record { start = start; has = come.has; channel = channel; says = f.says; alone = cut.none; imports = f.brings.imports; assumed_are = refl; notes_are = refl });
      parts =
          come.parts
          ∙ ap (λ (xs : List ℕ). come.front ++ xs) (begins ∙ channel_parts line after log behind cut)
          ∙ sym (append_assoc come.front (log_text c) behind);
      begins = cut.begins;
      fed = subst (HasRead new) (append_assoc come.written (with_line_feed f.own) f.brings.journal) (f.brings.fed (come.written ++ with_line_feed f.own) (f.fed come.written come.fed));
      says = said_more come.channels c old.executed.items new.executed.items come.says f.said;
      assumed = f.assumed ∙ ap (λ (xs : List AssumedLine). xs ++ assumes) come.assumed ∙ sym (flat_map_more (λ (c : ImportedLog). c.assumed) come.channels c);
      noted = f.noted ∙ ap (λ (xs : List ℕ). xs ++ note) come.noted ∙ sym (flat_map_more (λ (c : ImportedLog). c.notes) come.channels c);
    }

taken_of : (terms : Terms) (start : BundleValue) (text left : List ℕ) (p : ImportProgress) (come : HasCome terms start text left p) → HasTaken terms come.head come.plain come.front come.written left text
taken_of terms start text left p come = record { alone = come.alone; passed_over = p.passed_over; plain_head = come.plain_head; channels = come.channels; corresponds = come.corresponds; parts = come.parts; begins = come.begins; taken = is_taken come.written (bundle_reading p.reader) come.fed }

-- ---- why no more has come

full_at : (terms : Terms) (fault : SetFault) (text : List ℕ) → IsFull terms fault text → IsNoOwn terms (faults.Set fault) text
full_at terms Memory text h = tt
full_at terms PoolFull text h = h
full_at terms SourcesFull text h = h

own_at : (terms : Terms) (fault : JournalFault) (n : ℕ) (text : List ℕ) → IsNoNext terms fault n text → IsNoOwn terms (fault_at_line fault n) text
own_at terms (faults.Set fault) n text h = full_at terms fault text (InLine n h)
own_at terms (faults.Line m cause) n text h = inr (inl (m, h))
own_at terms (faults.Truncated m) n text h = inr (m, h)

pub head_at : (terms : Terms) (fault : JournalFault) (text : List ℕ) → IsNoHead terms fault text → IsNoOwn terms fault text
head_at terms (faults.Set fault) text h = full_at terms fault text (InHead h)
head_at terms (faults.Line n cause) text h = inl h
head_at terms (faults.Truncated n) text h = inl h

journal_at : (terms : Terms) (fault : JournalFault) (n : ℕ) (text : List ℕ) → HasJournalFault terms fault n text → IsNoneOf terms (fault_at_line fault n) text
journal_at terms (faults.Set fault) n text h = (n, h)
journal_at terms (faults.Line m cause) n text h = (m, h)
journal_at terms (faults.Truncated m) n text h = absurd h.follow.stops

-- the line of a channel is refused
line_refused : (terms : Terms) (start : BundleValue) (text left line after own : List ℕ) (word : Option (List ℕ)) (p : ImportProgress) (fault : JournalFault) (n : ℕ) (come : HasCome terms start text left p)
    → BeginsWithLine left line after → is_channel line ≡ true → IsCutLine line own word → StopsAt fault (come.written ++ with_line_feed own) → IsLineAt text left n → IsNoOwn terms (fault_at_line fault n) text
line_refused terms start text left line after own word p fault n come begins channel cut stops at = own_at terms fault n text (inl (record {
  head = come.head;
  plain = come.plain;
  front = come.front;
  written = come.written;
  left = left;
  come = taken_of terms start text left p come;
  next = line;
  after = after;
  begins = begins;
  channel = channel;
  own = own;
  word = word;
  cut = cut;
  stops = stops;
  number = at come.front come.parts;
}))

-- what is in front of a text that is nothing
front_nil : (xs ys : List ℕ) → [] ≡ xs ++ ys → (xs ≡ []) × (ys ≡ [])
front_nil [] ys e = (refl, sym e)
front_nil (x ∷ xs) ys e = absurd cc

abbrev pub SplitsFirst : List ℕ → List ℕ → List ℕ → Type 0
SplitsFirst left own behind = (line after : List ℕ) → BeginsWithLine left line after → (own ≡ with_line_feed line) × (behind ≡ after)

is_last : (left own behind : List ℕ) → BeginsLast left → left ≡ own ++ behind → SplitsFirst left own behind → IsLast own behind
is_last left own behind (Nowhere e) parts first = inr (front_nil own behind (sym e ∙ parts))
is_last left own behind (Last after e) parts first = inl (first (codes "done") after (done_begins left after e)).0

-- what is said before what is left is said of what has come
says_of : (terms : Terms) (start : BundleValue) (text left other said : List ℕ) (p : ImportProgress) (come : HasCome terms start text left p) → left ≡ other → IsSaidBefore terms.grants left p.assumed.items p.passed_over said → IsSaidBefore terms.grants other (all_assumed come.channels) p.passed_over said
says_of terms start text left other said p come e says = subst (λ (xs : List ℕ). IsSaidBefore terms.grants xs (all_assumed come.channels) p.passed_over said) e (subst (λ (ls : List AssumedLine). IsSaidBefore terms.grants left ls p.passed_over said) come.assumed says)

-- what has come, where what is left is in two parts
abbrev taken_before : (terms : Terms) (start : BundleValue) (text left other : List ℕ) (p : ImportProgress) (come : HasCome terms start text left p) → left ≡ other → HasTaken terms come.head come.plain come.front come.written other text
taken_before terms start text left other p come e = record {
  alone = come.alone;
  passed_over = p.passed_over;
  plain_head = come.plain_head;
  channels = come.channels;
  corresponds = come.corresponds;
  parts = come.parts ∙ ap (λ (xs : List ℕ). come.front ++ xs) e;
  begins = subst BeginsOwn e come.begins;
  taken = is_taken come.written (bundle_reading p.reader) come.fed;
}

-- what comes after the last line is refused, or that there is none
pub end_refused : (terms : Terms) (start : BundleValue) (text left own behind said : List ℕ) (p : ImportProgress) (q : BundleProgress) (fault : JournalFault) (n : ℕ) → BeginsLast left → HasCome terms start text left p → left ≡ own ++ behind → SplitsFirst left own behind → IsSaidBefore terms.grants left p.assumed.items p.passed_over said
    → ((before : List ℕ) → HasRead p before → IsFed q (before ++ (said ++ own))) → ((before : List ℕ) → IsFed q before → IsRefused fault (before ++ behind)) → IsLineAt text behind n → IsNoOwn terms (fault_at_line fault n) text
end_refused terms start text left own behind said p q fault n last come parts first says fed stops at =
    let fed_own = fed come.written come.fed in
    own_at terms fault n text (inr (inr (record {
      head = come.head;
      plain = come.plain;
      front = come.front;
      written = come.written;
      last = own;
      behind = behind;
      come = taken_before terms start text left (own ++ behind) p come parts;
      ends = is_last left own behind last parts first;
      assumes = said;
      says = says_of terms start text left (own ++ behind) said p come parts says;
      taken = is_taken (come.written ++ (said ++ own)) q fed_own;
      stops = subst (IsRefused fault) (append_assoc come.written (said ++ own) behind) (stops (come.written ++ (said ++ own)) fed_own);
      number = at (come.front ++ own) (come.parts ∙ ap (λ (xs : List ℕ). come.front ++ xs) parts ∙ sym (append_assoc come.front own behind));
    })))

-- the last line is refused, or what is said before it, or nothing is
pub last_refused : (terms : Terms) (start : BundleValue) (text left own behind said : List ℕ) (p : ImportProgress) (fault : JournalFault) (n : ℕ) → BeginsLast left → HasCome terms start text left p → left ≡ own ++ behind → SplitsFirst left own behind → IsSaidBefore terms.grants left p.assumed.items p.passed_over said
    → ((before : List ℕ) → HasRead p before → StopsAt fault (before ++ (said ++ own))) → IsLineAt text left n → IsNoOwn terms (fault_at_line fault n) text
last_refused terms start text left own behind said p fault n (Last after e) come parts first says stops at =
    let is : own ≡ done_line = (first (codes "done") after (done_begins left after e)).0 in
    own_at terms fault n text (inr (inl (record {
      head = come.head;
      plain = come.plain;
      front = come.front;
      written = come.written;
      after = after;
      come = taken_before terms start text left (done_line ++ after) p come e;
      assumes = said;
      says = says_of terms start text left (done_line ++ after) said p come e says;
      stops = subst (λ (xs : List ℕ). StopsAt fault (come.written ++ (said ++ xs))) is (stops come.written come.fed);
      number = at come.front come.parts;
    })))
last_refused terms start text left own behind said p fault n (Nowhere e) come parts first says stops at =
    let none = front_nil own behind (sym e ∙ parts) in
    let nothing : left ≡ behind = parts ∙ ap (λ (xs : List ℕ). xs ++ behind) none.0 in
    let silent : said ≡ [] = subst (λ (xs : List ℕ). IsSaidBefore terms.grants xs p.assumed.items p.passed_over said) e says in
    let both : said ++ own ≡ [] = (λ i. silent i ++ none.0 i) in
    let same : (xs : List ℕ) → xs ++ (said ++ own) ≡ xs = λ xs. ap (λ (ys : List ℕ). xs ++ ys) both ∙ append-nil xs in
    end_refused terms start text left own behind said p (bundle_reading p.reader) fault n (Nowhere e) come parts first says
    (λ before fed. subst (HasRead p) (sym (same before)) fed)
    (λ before fed. refused_more fault before behind (subst (StopsAt fault) (same before) (stops before fed)))
    (subst (λ (xs : List ℕ). IsLineAt text xs n) nothing at)

-- ---- a channel that doesn't come

-- the line of a channel that comes next
next_channel : (left line after log behind : List ℕ) → is_channel line ≡ true → BeginsWithLine left line after → IsCut after log behind → HasChannel left line log behind
next_channel left line after log behind channel begins cut = record {
  begins = subst (λ (xs : List ℕ). BeginsWithLine left line xs) cut.parts begins;
  is = channel;
  cut = subst (λ (xs : List ℕ). IsCut xs log behind) cut.parts cut;
}

-- all that has come before a channel, its line, and the text behind
pub record ComesNext (terms : Terms) (start : BundleValue) (text left line after log behind : List ℕ) (p : ImportProgress) (n : ℕ) : Type 0 where
  pub channel : is_channel line ≡ true
  pub come : HasCome terms start text left p
  pub begins : BeginsWithLine left line after
  pub cut : IsCut after log behind
  pub at : IsLineAt text left n

module _ {terms : Terms} {start : BundleValue} {text left line after log behind : List ℕ} {p : ImportProgress} {n : ℕ} (h : ComesNext terms start text left line after log behind p n) where
  has_next : (own : List ℕ) → IsTaken (h.come.written ++ with_line_feed own) → HasNext terms n text h.come.written line own log start
  has_next own taken = record {
    head = h.come.head;
    plain = h.come.plain;
    front = h.come.front;
    left = left;
    come = taken_of terms start text left p h.come;
    rest = behind;
    next = next_channel left line after log behind h.channel h.begins h.cut;
    taken = taken;
    has = h.come.has;
    number = h.at h.come.front h.come.parts;
  }

  has_word : (own : List ℕ) (word : Option (List ℕ)) → IsLineTaken line h.come.written own word → HasWord terms n text word
  has_word own word t = record { written = h.come.written; channel = line; own = own; log = log; start = start; next = has_next own t.taken; cut = t.cut }

  has_log : (own : List ℕ) (said_here : Option Gtids) → IsSaidTaken terms.grants line h.come.written own said_here → HasLog terms n text log h.come.written line own said_here start
  has_log own said_here t = record { next = has_next own t.taken; says = t.says }

  not_set : (own word : List ℕ) (fault : JournalFault) → IsLineTaken line h.come.written own (Some word) → IsNoSet word fault → IsNoOwn terms (fault_at_line fault n) text
  not_set own word (faults.Set fault) t denied = full_at terms fault text (InWord (n, word, has_word own (Some word) t, denied))
  not_set own word (faults.Line m cause) t denied = inr (inr (denied.0, (word, has_word own (Some word) t, denied.1)))
  not_set own word (faults.Truncated m) t denied = absurd denied

  set_at : (fault : JournalFault) (full : SetFault) → fault ≡ faults.Set full → IsNoOwn terms (faults.Set full) text → IsNoOwn terms (fault_at_line fault n) text
  set_at fault full e denied = subst (λ (f : JournalFault). IsNoOwn terms (fault_at_line f n) text) (sym e) denied

  cant_take : (fault : JournalFault) → CantTake terms.grants start line h.come.written fault → IsNoOwn terms (fault_at_line fault n) text
  cant_take fault (NoMemory e) = set_at fault Memory e tt
  cant_take fault (Stops own word cut stops) = line_refused terms start text left line after own word p fault n h.come h.begins h.channel cut stops h.at
  cant_take fault (NotSet own word t denied) = not_set own word fault t denied
  cant_take fault (FullPart own said_here full t denied e) = set_at fault full e (full_at terms full text (InPart (record {
    line = n;
    written = h.come.written;
    channel = line;
    own = own;
    log = log;
    executed = said_here;
    start = start;
    has = has_log own (Some said_here) t;
    full = denied;
  })))

  cant_follow : (own : List ℕ) (said_here : Option Gtids) (fault : JournalFault) → IsSaidTaken terms.grants line h.come.written own said_here → CantJoin terms start (name_in own) log (h.come.written ++ with_line_feed own) fault → CantFollow terms fault n text start log
  cant_follow own said_here fault t cant = record {
    written = h.come.written;
    channel = line;
    own = own;
    executed = said_here;
    has = has_log own said_here t;
    journal = cant.journal;
    varied = cant.varied;
    statements = cant.statements;
    imports = cant.imports;
    stops = subst (StopsAt fault) (append_assoc h.come.written (with_line_feed own) cant.journal) cant.stops;
  }

  -- a channel is refused
  pub channel_refused : (fault : ChannelFault) → ((before : List ℕ) → HasRead p before → CantFeedChannel terms start line log before fault) → IsNoBundle terms (channel_fault_at fault n) text
  channel_refused (channels.Own fault) cant = cant_take fault (cant h.come.written h.come.fed)
  channel_refused channels.Unknown cant =
      let why = cant h.come.written h.come.fed in
      (has_word why.0 None why.1, why.2)
  channel_refused (channels.Log fault) cant =
      let why = cant h.come.written h.come.fed in
      record { written = h.come.written; channel = line; own = why.own; log = log; executed = why.executed; start = start; has = has_log why.own why.executed why.line_taken; none = why.cant }
  channel_refused (channels.Table of_log) cant =
      let why = cant h.come.written h.come.fed in
      record { start = start; log = log; fault = why.cant.0; of_line = why.cant.1; follow = cant_follow why.own why.executed why.cant.0 why.line_taken why.cant.2; other = why.cant.3 }
  channel_refused (channels.Journal fault) cant =
      let why = cant h.come.written h.come.fed in
      journal_at terms fault n text (record { start = start; log = log; follow = cant_follow why.own why.executed fault why.line_taken why.cant.0; no_other = why.cant.1 })
  channel_refused (channels.Logless of_log) cant =
      let why = cant h.come.written h.come.fed in
      (name_in why.own, record { written = h.come.written; channel = line; own = why.own; log = log; executed = why.executed; start = start; has = has_log why.own why.executed why.line_taken; named = refl; none = why.cant })
  channel_refused (channels.Binlog name of_log) cant =
      let why = cant h.come.written h.come.fed in
      (n, record { written = h.come.written; channel = line; own = why.own; log = log; executed = why.executed; start = start; has = has_log why.own why.executed why.line_taken; named = why.cant.0; none = subst (λ (xs : List ℕ). terms.origin.refuses xs log start.opened (sources.File of_log)) (sym why.cant.0) why.cant.1 })

-- ---- the whole

pub end_found : (terms : Terms) (start : BundleValue) (text left own behind said : List ℕ) (p : ImportProgress) (q : BundleProgress) (b : BundleValue) → BeginsLast left → HasCome terms start text left p → left ≡ own ++ behind → IsSaidBefore terms.grants left p.assumed.items p.passed_over said
    → ((before : List ℕ) → HasRead p before → IsFed q (before ++ (said ++ own))) → ((before : List ℕ) → IsFed q before → WritesBundle (before ++ behind) b) → IsDescribed terms text b p.executed.items p.notes.items
end_found terms start text left own behind said p q b last come parts says fed writes = record {
  channels = come.channels;
  describes = record {
    head = come.head;
    plain = come.plain;
    passed_over = p.passed_over;
    alone = come.alone;
    plain_head = come.plain_head;
    front = come.front;
    written = come.written;
    corresponds = come.corresponds;
    tail = own ++ behind;
    ends = subst BeginsLast parts last;
    parts = come.parts ∙ ap (λ (xs : List ℕ). come.front ++ xs) parts;
    assumes = said;
    says = says_of terms start text left (own ++ behind) said p come parts says;
    writes = subst (λ (xs : List ℕ). WritesBundle xs b) (append_assoc come.written (said ++ own) behind ∙ ap (λ (xs : List ℕ). come.written ++ xs) (append_assoc said own behind)) (writes (come.written ++ (said ++ own)) (fed come.written come.fed));
    notes_are = come.noted;
  };
  says = come.says;
}

as_many : (terms : Terms) (text : List ℕ) (cs : List ImportedLog) (b : BundleValue) (notes : List ℕ) → DescribesBundle terms text cs b notes → length cs ≤ length b.journals
as_many terms text cs b notes d =
    as_many_journals terms d.plain cs (d.assumes ++ d.tail) b d.corresponds.imported (subst (λ (xs : List ℕ). WritesBundle (xs ++ (d.assumes ++ d.tail)) b) d.corresponds.written_is d.writes)

pub within_found : (terms : Terms) (text : List ℕ) (b : BundleValue) (executed : List (Option Gtids)) (notes : List ℕ) → IsDescribed terms text b executed notes → AreWithin b executed → ImportsBundle terms text b notes
within_found terms text b executed notes d within = record { channels = d.channels; describes = d.describes; as_many = as_many terms text d.channels b notes d.describes; within = subst (AreWithin b) d.says within }

pub lack_refused : (terms : Terms) (text : List ℕ) (b : BundleValue) (executed : List (Option Gtids)) (notes name : List ℕ) (missing : Gtids) → IsDescribed terms text b executed notes → HasLack b executed name missing → HasMore terms name missing text
lack_refused terms text b executed notes name missing d lack = record { bundle = b; notes = notes; logs = d.channels; describes = d.describes; lack = subst (λ (xs : List (Option Gtids)). HasLack b xs name missing) d.says lack }

too_large : (terms : Terms) (fault : SetFault) (text : List ℕ) (b : BundleValue) (executed : List (Option Gtids)) (notes : List ℕ) → IsDescribed terms text b executed notes → IsFullAt fault b executed → IsFull terms fault text
too_large terms fault text b executed notes d full = InLack (record { bundle = b; notes = notes; logs = d.channels; describes = d.describes; full = subst (IsFullAt fault b) d.says full })

pub lack_not_made : (terms : Terms) (fault : SetFault) (text : List ℕ) (b : BundleValue) (executed : List (Option Gtids)) (notes : List ℕ) → IsDescribed terms text b executed notes → HasFullLack fault b executed → IsNoOwn terms (faults.Set fault) text
lack_not_made terms Memory text b executed notes d full = tt
lack_not_made terms PoolFull text b executed notes d full = too_large terms PoolFull text b executed notes d full
lack_not_made terms SourcesFull text b executed notes d full = too_large terms SourcesFull text b executed notes d full

-- ---- the head

none_said : (b : BundleValue) → AreWithin b []
none_said b n executed journal says brings = absurd (let bad : None ≡ Some (Some executed) = sym (none_there n) ∙ says in cc)
  where
    none_there : (n : ℕ) → slice_get (let xs : List (Option Gtids) = [] in xs) n ≡ None
    none_there n = refl

-- a bundle of version 3 is one of any
any_version : (bytes : List ℕ) (b : BundleValue) → WritesBundleBy (Only Three) bytes b → WritesBundle bytes b
any_version bytes b w = record { lines = w.lines; parts = w.parts; fit = w.fit; written = (w.written.0, refl, w.written.2) }

pub head_found : (terms : Terms) (text head plain notes rest : List ℕ) (passed_over : Bool) (b : BundleValue) → HasHead terms text head plain passed_over rest → rest ≡ [] → notes ≡ [] → WritesBundleBy (Only Three) (plain ++ end_for rest) b → ImportsBundle terms text b notes
head_found terms text head plain notes rest passed_over b h nothing silent writes = record {
  channels = [];
  describes = record {
    head = head;
    plain = plain;
    passed_over = passed_over;
    alone = h.cut.none;
    plain_head = h.plain_head;
    front = head;
    written = plain;
    corresponds = stands_none terms head plain;
    tail = rest;
    ends = Nowhere nothing;
    parts = h.cut.parts;
    assumes = [];
    says = subst (λ (xs : List ℕ). IsSaidBefore terms.grants xs [] passed_over []) (sym nothing) refl;
    writes = subst (λ (xs : List ℕ). WritesBundle (plain ++ xs) b) (ap end_for nothing ∙ sym nothing) (any_version (plain ++ end_for rest) b writes);
    notes_are = silent;
  };
  as_many = omega arith;
  within = none_said b;
}

pub head_refused : (terms : Terms) (fault found : JournalFault) (text head plain rest : List ℕ) (passed_over : Bool) (h : HasHead terms text head plain passed_over rest) → IsHeadRefused fault (plain ++ end_for rest) → found ≡ fault_in_head h.plain_head.lines fault → IsNoOwn terms found text
head_refused terms fault found text head plain rest passed_over h stops is = head_at terms found text (record {
  head = head;
  rest = rest;
  cut = h.cut;
  plain = plain;
  passed_over = passed_over;
  plain_head = h.plain_head;
  own = fault;
  stops = stops;
  at = is;
})

end_more : (rest : List ℕ) → rest ≢ [] → end_for rest ≡ done_line
end_more [] more = absurd (more refl)
end_more (b ∷ bs) more = refl

-- the reader of channels stops in the head
pub start_refused : (terms : Terms) (start : BundleValue) (fault found : JournalFault) (text head plain rest : List ℕ) (passed_over : Bool) (h : HasHead terms text head plain passed_over rest) → rest ≢ [] → IsStart plain start → StopsAt fault plain → found ≡ fault_in_head h.plain_head.lines fault → IsNoOwn terms found text
start_refused terms start fault found text head plain rest passed_over h more has stops is =
    head_refused terms fault found text head plain rest passed_over h
    (subst (λ (xs : List ℕ). IsHeadRefused fault (plain ++ xs)) (sym (end_more rest more)) (head_stops fault plain done_line start (any_version (plain ++ done_line) start has) stops)) is

pub start_of : (plain rest : List ℕ) (start : BundleValue) → rest ≢ [] → WritesBundleBy (Only Three) (plain ++ end_for rest) start → IsStart plain start
start_of plain rest start more writes = subst (λ (xs : List ℕ). WritesBundleBy (Only Three) (plain ++ xs) start) (end_more rest more) writes

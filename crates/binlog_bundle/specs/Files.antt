-- Logs that are in binary log files, by the names of channels.
use Rattle.std.specs.Prelude.{◌≡◌, ◌≢◌, ℕ, Bool, false, List, [], ◌∷◌, map, Option, Some, None, if◌then◌else◌}
use Rattle.std.specs.List.{list_any}
use Rattle.std.specs.Str.{bytes_eq}
use Rattle.gtid_set.specs.Sets.{Gtids}
use Rattle.journal.specs.declared.Entry.{Entry}
use Rattle.log_transactions.specs.declared.varied.Varied.{Varied}
use Rattle.binlog_files.specs.Given.{Given}
use Rattle.binlog_files.specs.Whole.{AreFilesOf, StopsInFiles, has_no_checksums}
use Rattle.binlog_bundle.specs.Logs.{Origin}
use Rattle.binlog_bundle.specs.declared.fault.Logless.TheVariants as why
use Rattle.binlog_bundle.specs.declared.fault.SourceFault.{SourceFault}
use Rattle.binlog_bundle.specs.declared.fault.SourceFault.TheVariants as sources
use Rattle.binlog_bundle.specs.declared.files.ChannelFiles.{ChannelFiles}

-- the bytes of its files
abbrev pub bytes_of : ChannelFiles → List (List ℕ)
bytes_of c = map (λ bytes. bytes.items) c.files.items

-- the files of the first channel of this name
abbrev pub files_of : List ℕ → List ChannelFiles → Option (List (List ℕ))
files_of name [] = None
files_of name (c ∷ cs) = if bytes_eq c.name.items name then Some (bytes_of c) else files_of name cs

-- the opening set of a log, and the GTIDs for whose statements an operator answers
abbrev pub given : Gtids → Gtids → Given
given opening accepted = record { opening = opening; accepted = accepted }

-- nothing is behind the line of the channel, and this is in its files
pub record HasFiles (accepted : Gtids) (channels : List ChannelFiles) (name text : List ℕ) (opening previous : Gtids) (entries : List Entry) (varied : List Varied) : Type 0 where
  pub nothing : text ≡ []
  pub files : List (List ℕ)
  pub named : files_of name channels ≡ Some files
  pub log : AreFilesOf (given opening accepted) files previous entries varied

abbrev pub any_unchecked : Option (List (List ℕ)) → Bool
any_unchecked None = false
any_unchecked (Some files) = list_any has_no_checksums files

-- Why there is no log: something is behind the line of the channel; or nothing is, and no channel of this name has files, or one of its
-- files isn't taken.
abbrev pub HasNoFiles : Gtids → List ChannelFiles → List ℕ → List ℕ → Gtids → SourceFault → Type 0
HasNoFiles accepted channels name text opening (sources.Text fault) = ⊥
HasNoFiles accepted channels name text opening (sources.Logless why.Surplus) = text ≢ []
HasNoFiles accepted channels name text opening (sources.Logless why.Missing) = (text ≡ []) × (files_of name channels ≡ None)
HasNoFiles accepted channels name text opening (sources.Logless (why.Collation table column)) = ⊥
HasNoFiles accepted channels name text opening (sources.Logless (why.Weights gtid table column)) = ⊥
HasNoFiles accepted channels name text opening (sources.File fault) = (text ≡ []) × (files : List (List ℕ)) × (files_of name channels ≡ Some files) × StopsInFiles (given opening accepted) files fault

-- The log of a channel is in the files whose name it is. Damage in it couldn't be seen where one of them has no checksums.
abbrev pub files : Gtids → List ChannelFiles → Origin
files accepted channels = record {
  columns = [];
  accepted = accepted;
  is_log = (λ name text opening previous entries varied. HasFiles accepted channels name text opening previous entries varied);
  is_unchecked = (λ name. any_unchecked (files_of name channels));
  refuses = (λ name text opening fault. HasNoFiles accepted channels name text opening fault);
}

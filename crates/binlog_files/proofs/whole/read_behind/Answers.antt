use Rattle.std.proofs.Common.{[], map, subst}
use Rattle.gtid_set.specs.Sets.{Gtids}
use Rattle.binlog_files.specs.Files.{HasCome}
use Rattle.binlog_files.specs.Taking.{start}
use Rattle.binlog_files.specs.Given.{sets}
use Rattle.binlog_files.specs.Moved.{files_state}
use Rattle.binlog_files.proofs.whole.read_behind.Goals as goal

pub returns-in-Ok-clause-found : goal.returns-in-Ok-clause-found
returns-in-Ok-clause-found c =
    let h = c.in-Ok.ensures.taken in
    record {
      tells = h.tells;
      last = files_state c.take_files.new.log.taken;
      taken = h.taken;
      begin = h.begin;
      log = c.into_log.ensures (sets c.args.given) (map (λ v. v.items) c.args.files.now) h.tells h.taken;
    }

pub take_files-requires : goal.take_files-requires
take_files-requires c =
    subst (λ (opening : Gtids). HasCome (sets c.args.given) (start opening) [] c.start-log.result) c.requires (c.start-log.ensures (sets c.args.given))

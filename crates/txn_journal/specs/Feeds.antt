-- How far a feed has come.
use Rattle.txn_journal.specs.declared.feed.Feed.{Feed}
use Rattle.txn_journal.specs.Stream.{Progress, Reading, unless_stopped}

abbrev pub progress : {T : Type 0} → Feed T → Progress T
progress f = unless_stopped f.stopped (Reading f.made f.lines f.rest.items)

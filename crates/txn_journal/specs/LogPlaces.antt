-- What the words of a place's line are.
use Rattle.txn_journal.specs.Places.{LogPlace}
use Rattle.txn_journal.specs.declared.log_places.PlaceWords.{PlaceWords}

abbrev pub log_place : PlaceWords → LogPlace
log_place w = record { file = w.file.now; position = w.position.now; time = w.time.now; server = w.server.now }

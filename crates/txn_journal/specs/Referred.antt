-- What the words of a reference's line are.
use Rattle.txn_journal.specs.References.{ReferenceShape}
use Rattle.txn_journal.specs.declared.references.ReferenceWords.{ReferenceWords}

abbrev pub reference_words_shape : ReferenceWords → ReferenceShape
reference_words_shape w = record { child = w.child; columns = w.columns.now; parent = w.parent; key = w.key.now; cascade = w.cascade }

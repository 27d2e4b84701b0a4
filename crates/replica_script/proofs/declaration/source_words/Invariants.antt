use Rattle.std.proofs.Common.{◌≡◌, length}
use Rattle.row_images.specs.Images.{words_of}
use Rattle.replica_script.specs.Declarations.{sources_of}
use Rattle.replica_script.proofs.SourceWords.{behind}
use Rattle.replica_script.proofs.declaration.source_words.Given as goal

abbrev pub invariant-words : goal.invariant-words
invariant-words l = sources_of (words_of l.text) ≡ behind l.ids.items (sources_of (words_of l.left))

abbrev pub decreases-words : goal.decreases-words
decreases-words l = length l.left

-- A world's contents as a list.
use Rattle.std.proofs.Common.{◌≡◌, Bool, true, false, cond, not, map, List, [], ◌∷◌, refl, ap, ◌∙◌}
use Rattle.std.specs.FinMap as finmap
use Rattle.std.specs.FinSet as set
use Rattle.gtid_set.specs.Sets.{Gtids}
use Rattle.journal.specs.declared.Entry.{Entry}
use Rattle.history.specs.Sources as history
use Rattle.world.specs.Audit.{first_contents}
use Rattle.audit.specs.Contents.{Contents, as_entry, as_pair, beyond, contents_of}

one_beyond : (opened : Gtids) (e : Entry) (es : List Entry) (b : Bool) → first_contents opened es ≡ contents_of (beyond opened es)
    → cond b (first_contents opened es) (finmap.insert (first_contents opened es) e.gtid e.txn) ≡ contents_of (cond (not b) (e ∷ beyond opened es) (beyond opened es))
one_beyond opened e es true rest = rest
one_beyond opened e es false rest = ap (λ (m : Contents). finmap.insert m e.gtid e.txn) rest

-- the first contents are those of the entries beyond the opening set
pub firsts_beyond : (opened : Gtids) (es : List Entry) → first_contents opened es ≡ contents_of (beyond opened es)
firsts_beyond opened [] = refl
firsts_beyond opened (e ∷ es) = one_beyond opened e es (set.contains opened e.gtid) (firsts_beyond opened es)

pub pairs_back : (es : List history.Entry) → map as_pair (map as_entry es) ≡ es
pairs_back [] = refl
pairs_back (e ∷ es) = ap (λ rest. e ∷ rest) (pairs_back es)

-- the pairs of a list that is kept in order
pub pairs_of : (entries : List Entry) (contents : Contents) → entries ≡ map as_entry (finmap.entries contents) → map as_pair entries ≡ finmap.entries contents
pairs_of entries contents e = ap (map as_pair) e ∙ pairs_back (finmap.entries contents)

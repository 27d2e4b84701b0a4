-- Sets of GTIDs joined.
use Rattle.std.specs.Prelude.{◌≡◌, true}
use Rattle.std.specs.FinSet.{FinSet, is_subset}
use Rattle.history.specs.Join.{join}
use Rattle.gtid_text.specs.Gtids.{gtid_cmp}

-- The join is the least set above both, and it is commutative, associative and idempotent.
pub record JoinLaws : Type 0 where
  pub commutative : (a b : FinSet gtid_cmp) → join a b ≡ join b a
  pub associative : (a b c : FinSet gtid_cmp) → join (join a b) c ≡ join a (join b c)
  pub idempotent : (a : FinSet gtid_cmp) → join a a ≡ a
  pub above_left : (a b : FinSet gtid_cmp) → is_subset a (join a b) ≡ true
  pub above_right : (a b : FinSet gtid_cmp) → is_subset b (join a b) ≡ true
  pub least : (a b c : FinSet gtid_cmp) → is_subset a c ≡ true → is_subset b c ≡ true → is_subset (join a b) c ≡ true

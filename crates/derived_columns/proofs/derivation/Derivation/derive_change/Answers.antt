use Rattle.std.proofs.Common.{rules}
use Rattle.derived_columns.proofs.derivation.Derivation.derive_change.Goals as goal

pub returns-in_err-derive_image-in-Insert-clause-fault : goal.returns-in_err-derive_image-in-Insert-clause-fault
returns-in_err-derive_image-in-Insert-clause-fault c = rw c.in-Insert.is (search rules)

pub returns-in_err-derive_image-in-Delete-clause-fault : goal.returns-in_err-derive_image-in-Delete-clause-fault
returns-in_err-derive_image-in-Delete-clause-fault c = rw c.in-Delete.is (search rules)

pub returns-in_ok-clone-in-Insert-clause-found : goal.returns-in_ok-clone-in-Insert-clause-found
returns-in_ok-clone-in-Insert-clause-found c = rw c.in-Insert.is (search rules)

pub returns-in_ok-clone-in-Delete-clause-found : goal.returns-in_ok-clone-in-Delete-clause-found
returns-in_ok-clone-in-Delete-clause-found c = rw c.in-Delete.is (search rules)

pub returns-in-Update-clause-found : goal.returns-in-Update-clause-found
returns-in-Update-clause-found c = rw c.in-Update.is c.derive_update.ensures.found

pub returns-in-Update-clause-fault : goal.returns-in-Update-clause-fault
returns-in-Update-clause-fault c = rw c.in-Update.is c.derive_update.ensures.fault

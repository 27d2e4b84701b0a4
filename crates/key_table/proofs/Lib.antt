mod Moves
mod Puts
mod ReachLemmas
mod SlotLemmas
mod StrayLemmas
mod TableChanges
mod TableLemmas
mod SetChanges

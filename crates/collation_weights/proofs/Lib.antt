mod Fronts
mod LowBytes
mod Raising
mod Searching
mod TableFacts
mod TableRows
mod Texts

pub mod EventLaws
mod JoinLaws
mod KnownLaws
mod NameLaws
mod PlaceLaws
mod SpansWithin

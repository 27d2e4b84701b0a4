pub mod QuotedLaws
pub mod TokenLaws
pub mod ValueLaws
pub mod LinesFound
pub mod LinesAgain
pub mod CollationLaws

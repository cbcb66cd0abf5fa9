-- Lemmas of the crate.
pub mod WrittenNumbers
pub mod WrittenTokens
pub mod ReadExpressions
pub mod ReadStages
pub mod Parentheses
pub mod Operators
pub mod OneExpression
pub mod Separators
pub mod OneQuery

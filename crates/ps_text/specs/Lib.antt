-- The definitions of queries, of their texts and of their plans, which the calls' contracts cite.
pub use Rattle.text_queries.specs.Grammar
pub use Rattle.text_queries.specs.Printable
pub use Rattle.text_queries.specs.Queries
pub use Rattle.text_queries.specs.Views
pub use Rattle.text_queries.specs.Writing
pub use Rattle.text_plans.specs.QueryPlans

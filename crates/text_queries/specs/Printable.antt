-- Which queries are printed so that the text reads as the query again.
use Rattle.std.specs.Prelude.{◌≡◌, ◌≢◌, ℕ, ◌≤◌, List, []}
use Rattle.std.specs.List.{AllByRecursion}
use Rattle.ps_meaning.specs.declared.options.JoinType.{JoinType}
use Rattle.ps_meaning.specs.declared.options.JoinType.TheVariants as how
use Rattle.text_queries.specs.Queries.{Stage, Filter, Select, With, Group, Sort, Slice, Distinct, Join, Query, depth}

-- a cross join has no names, and each other has some
abbrev pub HasNames : JoinType → List (List ℕ) → Type 0
HasNames how.Cross on = on ≡ []
HasNames _ on = on ≢ []

-- each list has an entry
abbrev pub HasEntries : Stage → Type 0
HasEntries (Filter predicate) = Unit {0}
HasEntries (Select items) = items ≢ []
HasEntries (With items) = items ≢ []
HasEntries (Group keys aggs) = (keys ≢ []) × (aggs ≢ [])
HasEntries (Sort keys) = keys ≢ []
HasEntries (Slice offset length) = Unit {0}
HasEntries Distinct = Unit {0}
HasEntries (Join kept table on) = HasNames kept on

-- a query at most 100 deep, whose lists have entries
pub record IsPrintable (query : Query) : Type 0 where
  pub shallow : depth query ≤ 100
  pub entries : AllByRecursion HasEntries query.stages

-- Which queries a program can hold: their numbers have 64 bits.
use Rattle.std.specs.Prelude.{◌<◌, ◌^◌, List, FitsSigned}
use Rattle.std.specs.Int.{w64}
use Rattle.std.specs.List.{AllByRecursion}
use Rattle.text_queries.specs.Queries.{Expr, Int, Call, Binary, Item, Key, Stage, Filter, Select, With, Group, Sort, Slice, Distinct, Join, Query}

-- each integer of the expression has 64 bits and a sign
abbrev pub ExprFits : Expr → Type 0
ExprFits (Int n) = FitsSigned w64 n
ExprFits (Call function operand) = ExprFits operand
ExprFits (Binary operator left right) = ExprFits left × ExprFits right
ExprFits _ = Unit {0}

abbrev pub ItemsFit : List Item → Type 0
ItemsFit items = AllByRecursion (λ item. ExprFits item.expr) items

abbrev pub KeysFit : List Key → Type 0
KeysFit keys = AllByRecursion (λ key. ExprFits key.expr) keys

-- so has the offset of a slice, and its length has 64 bits
abbrev pub StageFits : Stage → Type 0
StageFits (Filter predicate) = ExprFits predicate
StageFits (Select items) = ItemsFit items
StageFits (With items) = ItemsFit items
StageFits (Group keys aggs) = ItemsFit keys × ItemsFit aggs
StageFits (Sort keys) = KeysFit keys
StageFits (Slice offset length) = FitsSigned w64 offset × (length < 2 ^ 64)
StageFits Distinct = Unit {0}
StageFits (Join kept table on) = Unit {0}

abbrev pub QueryFits : Query → Type 0
QueryFits query = AllByRecursion StageFits query.stages

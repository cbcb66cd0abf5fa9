-- What contracts see of a query: a tree over texts, numbers and lists.
use Rattle.std.specs.Prelude.{map}
use Rattle.text_queries.specs.Queries.{Expr, Name, Int, Text, Truth, Null, Call, Len, Binary, Item, Key, Stage, Filter, Select, With, Group, Sort, Slice, Distinct, Join, Query}
use Rattle.text_queries.specs.declared.query.TextExpr.{TextExpr}
use Rattle.text_queries.specs.declared.query.TextExpr.TheVariants as expr
use Rattle.text_queries.specs.declared.query.Item as items
use Rattle.text_queries.specs.declared.query.Key as keys
use Rattle.text_queries.specs.declared.query.Stage as stages
use Rattle.text_queries.specs.declared.query.Stage.TheVariants as stage
use Rattle.text_queries.specs.declared.query.Query as queries

-- behind each box stands an expression, and where it stands in memory is left out
abbrev pub expr_of : TextExpr → Expr
expr_of (expr.Name name) = Name name
expr_of (expr.Int n) = Int n
expr_of (expr.Text text) = Text text
expr_of (expr.Bool b) = Truth b
expr_of (expr.Null k) = Null k
expr_of (expr.Call' function place operand) = Call function (expr_of operand)
expr_of expr.Len = Len
expr_of (expr.Binary' operator at left behind right) = Binary operator (expr_of left) (expr_of right)

abbrev pub item_of : items.Item → Item
item_of item = record { name = item.name; expr = expr_of item.expr }

abbrev pub key_of : keys.Key → Key
key_of key = record { expr = expr_of key.expr; desc = key.desc }

abbrev pub stage_of : stages.Stage → Stage
stage_of (stage.Filter predicate) = Filter (expr_of predicate)
stage_of (stage.Select items) = Select (map item_of items)
stage_of (stage.With items) = With (map item_of items)
stage_of (stage.Group keys aggs) = Group (map item_of keys) (map item_of aggs)
stage_of (stage.Sort keys) = Sort (map key_of keys)
stage_of (stage.Slice offset length) = Slice offset length
stage_of stage.Distinct = Distinct
stage_of (stage.Join kept table on) = Join kept table on

abbrev pub query_of : queries.Query → Query
query_of query = record { source = query.source; stages = map stage_of query.stages }

-- Worked examples: small texts, their tokens and their queries.
use Rattle.std.specs.Prelude.{pos, [], ◌∷◌, codes, true}
use Rattle.ps_frame.specs.declared.expr.Operator.TheVariants as op
use Rattle.text_queries.specs.Queries.{Expr, Name, Int, Binary, Len, Query, Select, Sort, Filter}
use Rattle.text_tokens.specs.declared.token.Token.{Token}
use Rattle.text_tokens.specs.declared.token.Token.TheVariants as token

abbrev pub a : Token
a = token.Word (codes "a")

abbrev pub b : Token
b = token.Word (codes "b")

abbrev pub c : Token
c = token.Word (codes "c")

abbrev pub col_a : Expr
col_a = Name (codes "a")

abbrev pub col_b : Expr
col_b = Name (codes "b")

abbrev pub col_c : Expr
col_c = Name (codes "c")

-- the rows of t in which a is above 1
abbrev pub above_one : Query
above_one = record { source = codes "t"; stages = Filter (Binary op.Gt col_a (Int (pos 1))) ∷ [] }

-- twice one more than a, and the number of rows, sorted by the first, the greatest first
abbrev pub doubled_and_counted : Query
doubled_and_counted = record {
  source = codes "t";
  stages =
      Select (record { name = codes "x"; expr = Binary op.Multiply (Binary op.Plus col_a (Int (pos 1))) (Int (pos 2)) } ∷ record { name = codes "y"; expr = Len } ∷ [])
      ∷ Sort (record { expr = Name (codes "x"); desc = true } ∷ [])
      ∷ [];
}

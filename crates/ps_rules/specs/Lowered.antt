-- The lowering of expressions, and of a select, over a stream.
use Rattle.std.specs.Prelude.{ℕ, List, [], ◌∷◌, map}
use Rattle.ps_frame.specs.Trees.{Tree, Trees}
use Rattle.ps_meaning.specs.Steps.{Named}
use Rattle.ps_rules.specs.Calls.{Answer, Call, Operand, left_to_map}
use Rattle.ps_rules.specs.Rules.{aggregated, answered, counted_rows, filtered_column, first_tree, over_operands, second_tree, selected, sorted_by, sorted_column, stays_or, third_tree}
use Rattle.ps_rules.specs.Slots.{Made, State, Stream}

module _ (at : ℕ) (input : Stream) where
  -- what a call does at an expression: it stays where it is elementwise
  abbrev mutual
    pub lower : Tree → Call → Call
    lower (Tree.column name) = stays_or at input (Tree.column name) (λ call. call)
    lower (Tree.literal l) = stays_or at input (Tree.literal l) (λ call. call)
    lower (Tree.binary o l r) =
        stays_or at input (Tree.binary o l r)
        (over_operands at input (λ es. Tree.binary o (first_tree es) (second_tree es)) (record { expr = l; rule = lower l } ∷ record { expr = r; rule = lower r } ∷ []))
    lower (Tree.cast k strict e) =
        stays_or at input (Tree.cast k strict e) (over_operands at input (λ es. Tree.cast k strict (first_tree es)) (record { expr = e; rule = lower e } ∷ []))
    lower (Tree.sort d n e) = sorted_column at input d n (record { expr = e; rule = lower e })
    lower (Tree.sort_by d n e by) = sorted_by at input d n (record { expr = e; rule = lower e }) (operands by)
    lower (Tree.gather s e i) = left_to_map (Tree.gather s e i)
    lower (Tree.filter e by) = filtered_column at input (record { expr = e; rule = lower e }) (record { expr = by; rule = lower by })
    lower (Tree.aggregate a e) = aggregated at input a (record { expr = e; rule = lower e }) (Tree.aggregate a e)
    lower (Tree.ternary p a b) =
        stays_or at input (Tree.ternary p a b)
        (over_operands at input (λ es. Tree.ternary (first_tree es) (second_tree es) (third_tree es))
        (record { expr = p; rule = lower p } ∷ record { expr = a; rule = lower a } ∷ record { expr = b; rule = lower b } ∷ []))
    lower (Tree.function g e) = stays_or at input (Tree.function g e) (left_to_map (Tree.function g e))
    lower (Tree.slice e o l) = left_to_map (Tree.slice e o l)
    lower Tree.len = counted_rows at input
    lower (Tree.left_out w) = left_to_map (Tree.left_out w)
    lower Tree.missing = left_to_map Tree.missing

    pub operands : Trees → List Operand
    operands Trees.no_trees = []
    operands (Trees.tree t ts) = record { expr = t; rule = lower t } ∷ operands ts

  abbrev pub as_operand : Tree → Operand
  as_operand e = record { expr = e; rule = lower e }

  -- one call for these expressions: a stream, and the expressions over it
  abbrev pub lower_exprs : List Tree → State → Answer
  lower_exprs es = answered at input (map as_operand es)

  -- the stream of a select of these expressions
  abbrev pub select_stream : List Named → State → Made
  select_stream es = selected at input (map (λ (e : Named). (e.0, as_operand e.1)) es)

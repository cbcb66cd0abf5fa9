-- What a call answers: columns as themselves, and one expression for each other one.
use Rattle.std.proofs.Common.{◌≡◌, ℕ, suc, Bool, true, false, cond, List, [], ◌∷◌, ◌++◌, length, refl, sym, ap, ◌∙◌}
use Rattle.std.specs.Prelude.{map}
use Rattle.std.proofs.lemmas.List.{append_assoc, append-nil, map-append}
use Rattle.ps_frame.specs.Trees.{Aggregation, Tree}
use Rattle.ps_frame.specs.Typing.{is_elementwise}
use Rattle.ps_meaning.specs.Steps.{Name}
use Rattle.ps_rules.specs.Bundles.{finished, is_stream_alone}
use Rattle.ps_rules.specs.Calls.{Bundle, Call, Operand, all_independent, each, exprs_of_all, given_reduction, left_to_map, new_call}
use Rattle.ps_rules.specs.Lowered.{as_operand, lower, lower_exprs, operands}
use Rattle.ps_rules.specs.Rules.{apart_from_input, first_name, first_tree, over_input, over_operands, reduced_apart, reduced_column, reduced_over, stays, stays_or, together}
use Rattle.ps_rules.specs.Slots.{State, Stream, columns_named, new_name, new_names}
use Rattle.ps_shares.proofs.Growing.{binary_of, cast_of, gathered_exprs, ternary_of}

module _ (at : ℕ) (input : Stream) where
  -- one expression more
  abbrev AnswersOne : (Call → Call) → Type 0
  AnswersOne rule = (c : Call) → (x : Tree) × ((rule c).exprs ≡ c.exprs ++ x ∷ [])

  stays_or_answers : (e : Tree) (rule : Call → Call) → AnswersOne rule → AnswersOne (stays_or at input e rule)
  stays_or_answers e rule one c = by (is_elementwise e)
    where
      by : (b : Bool) → (x : Tree) × ((cond {A = Call → Call} b (stays at input e) rule c).exprs ≡ c.exprs ++ x ∷ [])
      by true = (e, refl)
      by false = one c

  over_answers : (op : List Tree → Tree) (os : List Operand) → AnswersOne (over_operands at input op os)
  over_answers op os c = (op (together at input os c.state).exprs, refl)

  left_answers : (e : Tree) → AnswersOne (left_to_map e)
  left_answers e c = (Tree.column (new_name c.state), refl)

  reduced_answers : (e : List Tree → Tree) (b : Bundle) → AnswersOne (reduced_over at input e b)
  reduced_answers e b c = by (is_stream_alone input b.streams b.reduced)
    where
      by : (t : Bool) → (x : Tree) × ((cond {A = Call → Call} t (given_reduction (e b.exprs) b.state) (reduced_apart at input (e b.exprs) (finished at input b)) c).exprs ≡ c.exprs ++ x ∷ [])
      by true = (Tree.column (new_name b.state), refl)
      by false = (Tree.column (new_name (finished at input b).state), refl)

  column_answers : (a : Aggregation) (o : Operand) → AnswersOne (reduced_column at input a o)
  column_answers a o c = reduced_answers (λ es. Tree.aggregate a (first_tree es)) (together at input (o ∷ []) c.state) c

  answers_one : (e : Tree) → AnswersOne (lower at input e)
  answers_one (Tree.column name) c = (Tree.column name, refl)
  answers_one (Tree.literal l) c = (Tree.literal l, refl)
  answers_one (Tree.binary o l r) c = stays_or_answers (Tree.binary o l r) (over_operands at input (binary_of o) (as_operand at input l ∷ as_operand at input r ∷ [])) (over_answers (binary_of o) (as_operand at input l ∷ as_operand at input r ∷ [])) c
  answers_one (Tree.cast k strict e) c = stays_or_answers (Tree.cast k strict e) (over_operands at input (cast_of k strict) (as_operand at input e ∷ [])) (over_answers (cast_of k strict) (as_operand at input e ∷ [])) c
  answers_one (Tree.sort d n e) c = (Tree.column (new_name c.state), refl)
  answers_one (Tree.sort_by d n e by) c = (Tree.column (first_name (new_names (as_operand at input e ∷ operands at input by) c.state)), refl)
  answers_one (Tree.gather s e i) c = left_answers (Tree.gather s e i) c
  answers_one (Tree.filter e by) c = (Tree.column (first_name (new_names (as_operand at input e ∷ as_operand at input by ∷ []) c.state)), refl)
  answers_one (Tree.aggregate Aggregation.n_unique e) c = left_answers (Tree.aggregate Aggregation.n_unique e) c
  answers_one (Tree.aggregate (Aggregation.count all) e) c = left_answers (Tree.aggregate (Aggregation.count all) e) c
  answers_one (Tree.aggregate Aggregation.min e) c = column_answers Aggregation.min (as_operand at input e) c
  answers_one (Tree.aggregate Aggregation.max e) c = column_answers Aggregation.max (as_operand at input e) c
  answers_one (Tree.aggregate Aggregation.first e) c = column_answers Aggregation.first (as_operand at input e) c
  answers_one (Tree.aggregate Aggregation.last e) c = column_answers Aggregation.last (as_operand at input e) c
  answers_one (Tree.aggregate Aggregation.sum e) c = column_answers Aggregation.sum (as_operand at input e) c
  answers_one (Tree.ternary p a b) c =
      stays_or_answers (Tree.ternary p a b) (over_operands at input ternary_of (as_operand at input p ∷ as_operand at input a ∷ as_operand at input b ∷ [])) (over_answers ternary_of (as_operand at input p ∷ as_operand at input a ∷ as_operand at input b ∷ [])) c
  answers_one (Tree.function g e) c = stays_or_answers (Tree.function g e) (left_to_map (Tree.function g e)) (left_answers (Tree.function g e)) c
  answers_one (Tree.slice e o l) c = left_answers (Tree.slice e o l) c
  answers_one Tree.len c = (Tree.column (new_name c.state), refl)
  answers_one (Tree.left_out w) c = left_answers (Tree.left_out w) c
  answers_one Tree.missing c = left_answers Tree.missing c

  abbrev ops : List Tree → List Operand
  ops es = map (as_operand at input) es

  -- as many as there are expressions
  answers_all : (es : List Tree) (c : Call) → (xs : List Tree) × ((each (ops es) c).exprs ≡ c.exprs ++ xs) × (length xs ≡ length es)
  answers_all [] c = ([], sym (append-nil c.exprs), refl)
  answers_all (e ∷ es) c =
      let one = answers_one e c in
      let more = answers_all es (lower at input e c) in
      (one.0 ∷ more.0, more.1 ∙ ap (λ (xs : List Tree). xs ++ more.0) one.1 ∙ append_assoc c.exprs (one.0 ∷ []) more.0, ap suc more.2)

  -- columns are answered as themselves
  answers_columns : (ns : List Name) (c : Call) → (each (ops (columns_named ns)) c).exprs ≡ c.exprs ++ columns_named ns
  answers_columns [] c = sym (append-nil c.exprs)
  answers_columns (n ∷ ns) c = answers_columns ns (lower at input (Tree.column n) c) ∙ append_assoc c.exprs (Tree.column n ∷ []) (columns_named ns)

  each_both : (xs ys : List Operand) (c : Call) → each (xs ++ ys) c ≡ each ys (each xs c)
  each_both [] ys c = refl
  each_both (x ∷ xs) ys c = each_both xs ys (x.rule c)

  operands_back : (es : List Tree) → exprs_of_all (ops es) ≡ es
  operands_back [] = refl
  operands_back (e ∷ es) = ap (λ (es : List Tree). e ∷ es) (operands_back es)

  answers_over : (es : List Tree) (s : State) → all_independent es ≡ false → (lower_exprs at input es s).exprs ≡ (each (ops es) (new_call s)).exprs
  answers_over es s d =
      ap (λ (b : Bool). (finished at input (cond {A = State → Bundle} b (apart_from_input at input (exprs_of_all (ops es))) (over_input at input (ops es)) s)).exprs) (ap all_independent (operands_back es) ∙ d)
      ∙ gathered_exprs at input (each (ops es) (new_call s))

  -- columns first
  pub columns_first : (ns : List Name) (es : List Tree) (s : State) → all_independent (columns_named ns ++ es) ≡ false
      → (xs : List Tree) × ((lower_exprs at input (columns_named ns ++ es) s).exprs ≡ columns_named ns ++ xs) × (length xs ≡ length es)
  columns_first ns es s d =
      let c = each (ops (columns_named ns)) (new_call s) in
      let more = answers_all es c in (
        more.0,
        answers_over (columns_named ns ++ es) s d ∙ ap (λ (os : List Operand). (each os (new_call s)).exprs) (map-append (as_operand at input) (columns_named ns) es) ∙ ap (λ (c : Call). c.exprs) (each_both (ops (columns_named ns)) (ops es) (new_call s)) ∙ more.1
            ∙ ap (λ (xs : List Tree). xs ++ more.0) (answers_columns ns (new_call s)),
        more.2,
      )

  -- and last
  pub columns_last : (ns : List Name) (es : List Tree) (s : State) → all_independent (es ++ columns_named ns) ≡ false
      → (xs : List Tree) × ((lower_exprs at input (es ++ columns_named ns) s).exprs ≡ xs ++ columns_named ns) × (length xs ≡ length es)
  columns_last ns es s d =
      let more = answers_all es (new_call s) in (
        more.0,
        answers_over (es ++ columns_named ns) s d ∙ ap (λ (os : List Operand). (each os (new_call s)).exprs) (map-append (as_operand at input) es (columns_named ns)) ∙ ap (λ (c : Call). c.exprs) (each_both (ops es) (ops (columns_named ns)) (new_call s))
            ∙ answers_columns ns (each (ops es) (new_call s)) ∙ ap (λ (xs : List Tree). xs ++ columns_named ns) more.1,
        more.2,
      )

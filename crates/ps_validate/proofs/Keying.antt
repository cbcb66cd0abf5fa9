-- Keys that are typed one after another.
use Rattle.std.proofs.Common.{◌≡◌, ℕ, suc, ◌+◌, ◌<◌, ◌≤◌, List, [], ◌∷◌, ◌++◌, length, get_or, drop, Bool, true, false, refl, sym, subst, ◌∙◌, ap, add-one, drop-cons, arith, inl, inr}
use Rattle.std.specs.Prelude.{Contains, map, not, ◌⊎◌, IsTrue, Option, Some, is_some}
use Rattle.std.specs.List.{AllByRecursion, list_any}
use Rattle.std.proofs.lemmas.Bool.{and_from, and_parts, or_cases}
use Rattle.std.proofs.lemmas.List.{append-nil}
use Rattle.std.proofs.Math.Seq.{drop-length}
use Rattle.pu_base.specs.declared.arena.Node.{Node}
use Rattle.ps_frame.specs.Frames.{has_name}
use Rattle.ps_frame.specs.Functions.{Functions}
use Rattle.ps_frame.specs.Parts.{is_column_of, reads_column, some_part, tree_parts}
use Rattle.ps_frame.specs.Refusals.{breaks_rule, is_accepted, is_refused}
use Rattle.ps_frame.specs.Tables.{Fields}
use Rattle.ps_frame.specs.Trees.{IsComplete, Tree, tree_size}
use Rattle.ps_frame.specs.Typing.{kind_over}
use Rattle.ps_frame.specs.declared.expr.What.{What}
use Rattle.ps_frame.specs.declared.refusal.PolarsError.{PolarsError}
use Rattle.ps_frame.specs.declared.refusal.PolarsError.TheVariants as error
use Rattle.ps_frame.specs.declared.value.DataType.{DataType}
use Rattle.ps_meaning.specs.PlanTrees.{all_sizes}
use Rattle.ps_meaning.specs.StepRefusals.{IsMissingColumn, StepMismatch, break_rules, lacks_column, own_exprs}
use Rattle.ps_meaning.specs.Schemas.{first_schema}
use Rattle.ps_meaning.specs.Steps.{Name, Step, key_trees, step_exprs}
use Rattle.ps_meaning.specs.declared.options.ExprIR.{ExprIR}
use Rattle.ps_typing.proofs.Exact.{any-at, none-refused}
use Rattle.ps_typing.proofs.Parts.{AreAmong, among-left, among-right, among-then, carried}
use Rattle.ps_typing.specs.Refused.{IsErrorAmong}
use Rattle.ps_validate.proofs.Selecting.{any-parts, breaks-nothing, reads-nothing, refuses-left}
use Rattle.valid_plans.specs.Fields.{all_parts}
use Rattle.ps_validate.specs.Nodes.{IsNodeError}

-- the keys from i on are still to be typed
pub record Keying (f : Node → Tree) (s : Fields) (all : List ExprIR) (i : ℕ) (kinds : List DataType) (first steps : ℕ) : Type 0 where
  pub complete : AllByRecursion IsComplete (key_trees f (drop i all))
  pub typed : map Some kinds ++ map (kind_over s) (key_trees f (drop i all)) ≡ map (kind_over s) (key_trees f all)
  pub among : AreAmong (all_parts (key_trees f (drop i all))) (all_parts (key_trees f all))
  pub small : steps + all_sizes (key_trees f (drop i all)) ≤ first + all_sizes (key_trees f all)

pub keying-first : (f : Node → Tree) (s : Fields) (all : List ExprIR) (z : List DataType) (steps : ℕ) → z ≡ [] → AllByRecursion IsComplete (key_trees f all) → Keying f s all 0 z steps steps
keying-first f s all z steps none h = record {
  complete = h;
  typed = ap (λ ks. map Some ks ++ map (kind_over s) (key_trees f all)) none;
  among = record { tests = λ g k. k; parts = λ x k. k };
  small = omega arith;
}

map-last : (ks : List DataType) (k : DataType) (os : List (Option DataType)) → map Some (ks ++ k ∷ []) ++ os ≡ map Some ks ++ Some k ∷ os
map-last [] k os = refl
map-last (j ∷ ks) k os = ap (λ xs. Some j ∷ xs) (map-last ks k os)

module _ (f : Node → Tree) (s : Fields) (all : List ExprIR) (i : ℕ) (kinds : List DataType) (first steps : ℕ) (e : ExprIR) (within : i < length all) (is : e ≡ get_or all i e) (left : Keying f s all i kinds first steps) where
  rest-is : drop i all ≡ e ∷ drop (i + 1) all
  rest-is = drop-cons all i e within ∙ ap (λ x. x ∷ drop (suc i) all) (sym is) ∙ ap (λ j. e ∷ drop j all) (sym (add-one i))

  pub key-complete : IsComplete (f e.node)
  key-complete = (subst (λ es. AllByRecursion IsComplete (key_trees f es)) rest-is left.complete).0

  among-all : AreAmong (all_parts (key_trees f (e ∷ drop (i + 1) all))) (all_parts (key_trees f all))
  among-all = subst (λ es. AreAmong (all_parts (key_trees f es)) (all_parts (key_trees f all))) rest-is left.among

  -- an error of this key is one of all
  pub key-error : (at : Node) (x : PolarsError) → IsErrorAmong at s (tree_parts (f e.node)) x → IsErrorAmong at s (all_parts (key_trees f all)) x
  key-error at x h =
      carried at s (tree_parts (f e.node)) (all_parts (key_trees f all)) x
      (among-then (tree_parts (f e.node)) (all_parts (key_trees f (e ∷ drop (i + 1) all))) (all_parts (key_trees f all)) (among-left (tree_parts (f e.node)) (all_parts (key_trees f (drop (i + 1) all)))) among-all) h

  small-here : steps + (tree_size (f e.node) + all_sizes (key_trees f (drop (i + 1) all))) ≤ first + all_sizes (key_trees f all)
  small-here = subst (λ es. steps + all_sizes (key_trees f es) ≤ first + all_sizes (key_trees f all)) rest-is left.small

  pub key-steps : (more : ℕ) → more ≤ steps + tree_size (f e.node) → more ≤ first + all_sizes (key_trees f all)
  key-steps more few = let small = small-here in omega arith

  pub key-next : (k : DataType) (then : List DataType) (more : ℕ) → kind_over s (f e.node) ≡ Some k → then ≡ kinds ++ k ∷ [] → more ≤ steps + tree_size (f e.node) → Keying f s all (i + 1) then first more
  key-next k then more kind added few =
      let rest = drop (i + 1) all in
      record {
        complete = (subst (λ es. AllByRecursion IsComplete (key_trees f es)) rest-is left.complete).1;
        typed =
            ap (λ ks. map Some ks ++ map (kind_over s) (key_trees f rest)) added ∙ map-last kinds k (map (kind_over s) (key_trees f rest)) ∙ ap (λ o. map Some kinds ++ o ∷ map (kind_over s) (key_trees f rest)) (sym kind)
            ∙ ap (λ es. map Some kinds ++ map (kind_over s) (key_trees f es)) (sym rest-is)
            ∙ left.typed;
        among = among-then (all_parts (key_trees f rest)) (all_parts (key_trees f (e ∷ rest))) (all_parts (key_trees f all)) (among-right (tree_parts (f e.node)) (all_parts (key_trees f rest))) among-all;
        small = (let small = small-here in omega arith);
      }

-- where none is left
module _ (f : Node → Tree) (s : Fields) (all : List ExprIR) (kinds : List DataType) (first steps : ℕ) (left : Keying f s all (length all) kinds first steps) where
  pub all-typed : map Some kinds ≡ map (kind_over s) (key_trees f all)
  all-typed = sym (append-nil (map Some kinds)) ∙ ap (λ es. map Some kinds ++ map (kind_over s) (key_trees f es)) (sym (drop-length all)) ∙ left.typed

  pub all-steps : steps ≤ first + all_sizes (key_trees f all)
  all-steps = let small = left.small in omega arith

-- keys that have kinds read no absent column and break no rule
module _ (s : Fields) (exact : (t : Tree) → is_some (kind_over s t) ≡ is_accepted s t) where
  keys-read : (es : List Tree) (ks : List DataType) (n : Name) → map Some ks ≡ map (kind_over s) es → has_name n s ≡ false → list_any (reads_column n) es ≡ true → ⊥
  keys-read [] ks n h lacks r = cc
  keys-read (e ∷ es) [] n h lacks r = cc
  keys-read (e ∷ es) (k ∷ ks) n h lacks r =
      let first : kind_over s e ≡ Some k = cc in
      let later : map Some ks ≡ map (kind_over s) es = cc in
      elim (or_cases (reads_column n e) (list_any (reads_column n) es) r) [ inl a ↦ reads-nothing s exact e k n first lacks a | inr b ↦ keys-read es ks n later lacks b ]

  pub keys-break : (es : List Tree) (ks : List DataType) → map Some ks ≡ map (kind_over s) es → break_rules s es ≡ true → ⊥
  keys-break [] ks h r = cc
  keys-break (e ∷ es) [] h r = cc
  keys-break (e ∷ es) (k ∷ ks) h r =
      let first : kind_over s e ≡ Some k = cc in
      let later : map Some ks ≡ map (kind_over s) es = cc in
      elim (or_cases (some_part (breaks_rule s) e) (break_rules s es) r) [ inl a ↦ breaks-nothing s exact e k first a | inr b ↦ keys-break es ks later b ]

  pub keys-lack : (es : List Tree) (ks : List DataType) (n : Name) → map Some ks ≡ map (kind_over s) es → lacks_column n s es ≡ true → ⊥
  keys-lack es ks n h r =
      let p = and_parts (list_any (reads_column n) es) (not (has_name n s)) r in keys-read es ks n h (not-there (has_name n s) p.1) p.0
    where
      not-there : (b : Bool) → not b ≡ true → b ≡ false
      not-there true q = sym q
      not-there false q = refl

module _ (s : Fields) (exact : (t : Tree) → is_some (kind_over s t) ≡ is_accepted s t) where
  passes-none : (es : List Tree) (ks : List DataType) → map Some ks ≡ map (kind_over s) es → list_any (some_part (is_refused s)) es ≡ true → ⊥
  passes-none [] ks h r = cc
  passes-none (e ∷ es) [] h r = cc
  passes-none (e ∷ es) (k ∷ ks) h r =
      let first : kind_over s e ≡ Some k = cc in
      let later : map Some ks ≡ map (kind_over s) es = cc in
      elim (or_cases (some_part (is_refused s) e) (list_any (some_part (is_refused s)) es) r) [ inl a ↦ (let q : false ≡ true = sym (none-refused s e k (exact e) first) ∙ a in cc) | inr b ↦ passes-none es ks later b ]

  pub keys-hold : (es : List Tree) (ks : List DataType) → map Some ks ≡ map (kind_over s) es → (w : What) → Contains (all_parts es) (Tree.left_out w) → ⊥
  keys-hold es ks h w c = passes-none es ks h (sym (any-parts (is_refused s) es) ∙ any-at (is_refused s) (all_parts es) c.0 (Tree.left_out w) c.1 c.2 (refuses-left s w))

-- an error of expressions is one of a step that refuses what these refuse
pub among-error : (F : Functions) (at : Node) (step : Step) (ss : List Fields) (s : Fields) (es : List Tree) (e : PolarsError) → IsErrorAmong at s (all_parts es) e → ((n : Name) → lacks_column n s es ≡ true → IsMissingColumn n step ss) → (break_rules s es ≡ true → StepMismatch F step ss ⊎ IsTrue (break_rules (first_schema ss) (own_exprs step))) → ((w : What) → Contains (all_parts es) (Tree.left_out w) → Contains (all_parts (step_exprs step)) (Tree.left_out w))
    → IsNodeError F at step ss e
among-error F at step ss s es (error.ColumnNotFound node name) h missing breaks parts =
    (h.0, missing name (and_from (list_any (reads_column name) es) (not (has_name name s)) (sym (any-parts (is_column_of name) es) ∙ h.1) (ap not h.2)))
among-error F at step ss s es (error.SchemaMismatch node) h missing breaks parts = (h.0, breaks (sym (any-parts (breaks_rule s) es) ∙ h.1))
among-error F at step ss s es (error.Unsupported node w) h missing breaks parts = (h.0, inr (parts w h.1))
among-error F at step ss s es error.OutOfMemory h missing breaks parts = h
among-error F at step ss s es (error.InvalidPlan node why) h missing breaks parts = absurd h
among-error F at step ss s es (error.Duplicate node name) h missing breaks parts = absurd h
among-error F at step ss s es (error.ComputeError node why) h missing breaks parts = absurd h
among-error F at step ss s es (error.ShapeMismatch node) h missing breaks parts = absurd h
among-error F at step ss s es (error.OutOfBounds node why) h missing breaks parts = absurd h

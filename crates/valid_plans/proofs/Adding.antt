-- Fields that are added one after another.
use Rattle.std.proofs.Common.{◌≡◌, ℕ, suc, ◌+◌, ◌<◌, ◌≤◌, List, [], ◌∷◌, ◌++◌, length, get_or, drop, Bool, true, false, Ok, Err, Result, refl, sym, subst, ◌∙◌, ap, append_assoc, add-one, drop-cons, arith}
use Rattle.std.specs.Prelude.{not, ◌&&◌, ◌||◌, ◌↔◌, IsTrue, IsFalse, IfErr, IsErrAnd, OnErr, Option, Some, None, option_map}
use Rattle.std.specs.List.{AllByRecursion, list_any}
use Rattle.std.specs.Str.{bytes_eq}
use Rattle.std.proofs.lemmas.Bool.{or_left, or_right}
use Rattle.std.proofs.Math.Seq.{drop-length}
use Rattle.std.proofs.lemmas.List.{append-nil}
use Rattle.std.proofs.lemmas.Slice.Eq.{bytes_eq-Decides}
use Rattle.pu_base.specs.declared.arena.Node.{Node}
use Rattle.ps_frame.proofs.Names.{distinct-append}
use Rattle.ps_frame.specs.Frames.{has_distinct_names, has_name}
use Rattle.ps_frame.specs.Parts.{tree_parts}
use Rattle.ps_frame.specs.Tables.{Fields}
use Rattle.ps_frame.specs.Trees.{IsComplete, Tree, tree_size}
use Rattle.ps_frame.specs.Typing.{is_scalar, kind_over}
use Rattle.ps_frame.specs.declared.error.FrameError.{FrameError}
use Rattle.ps_frame.specs.declared.error.FrameError.TheVariants as frame
use Rattle.ps_frame.specs.declared.refusal.PolarsError.{PolarsError}
use Rattle.ps_frame.specs.declared.refusal.PolarsError.TheVariants as error
use Rattle.ps_frame.specs.declared.value.DataType.{DataType}
use Rattle.ps_meaning.specs.PlanTrees.{all_sizes}
use Rattle.ps_meaning.specs.StepRefusals.{repeats}
use Rattle.ps_meaning.specs.Schemas.{both as both_of, expr_names, fields_of, is_among, names_of}
use Rattle.ps_meaning.specs.Steps.{Name, exprs_of, name_in, named_trees}
use Rattle.ps_meaning.specs.declared.options.ExprIR.{ExprIR}
use Rattle.ps_typing.proofs.Parts.{AreAmong, among-left, among-right, among-then, carried}
use Rattle.ps_typing.specs.Refused.{IsErrorAmong}
use Rattle.valid_plans.specs.Fields.{IsFieldError, IsPushError, all_parts, not_scalar}

-- the first expression's field goes to the end of those before
pub fields-next : (p : Fields) (n : Name) (k : DataType) (r : Option Fields) → option_map (λ fs. p ++ fs) (both_of (λ (j : DataType) (fs : Fields). (n, j) ∷ fs) (Some k) r) ≡ option_map (λ fs. (p ++ (n, k) ∷ []) ++ fs) r
fields-next p n k None = refl
fields-next p n k (Some fs) = ap Some (sym (append_assoc p ((n, k) ∷ []) fs))

pub names-next : (p : Fields) (n : Name) (k : DataType) (ns : List Name) → names_of (p ++ (n, k) ∷ []) ++ ns ≡ names_of p ++ (n ∷ ns)
names-next [] n k ns = refl
names-next (f ∷ p) n k ns = ap (λ ms. f.0 ∷ ms) (names-next p n k ns)

pub among-has : (n : Name) (fs : Fields) → is_among n (names_of fs) ≡ has_name n fs
among-has n [] = refl
among-has n (f ∷ fs) = ap (λ b. bytes_eq n f.0 || b) (among-has n fs)

pub among-append : (n : Name) (ns ms : List Name) → is_among n (ns ++ n ∷ ms) ≡ true
among-append n [] ms = or_left (bytes_eq n n) (is_among n ms) ((bytes_eq-Decides n n).1 refl)
among-append n (x ∷ ns) ms = or_right (bytes_eq n x) (is_among n (ns ++ n ∷ ms)) (among-append n ns ms)

-- a name that stands, once more
pub repeats-again : (n : Name) (ns ms : List Name) → is_among n ns ≡ true → repeats n (ns ++ n ∷ ms) ≡ true
repeats-again n [] ms h = cc
repeats-again n (x ∷ ns) ms h = again (bytes_eq n x) (is_among n ns) (is_among n (ns ++ n ∷ ms)) (repeats n (ns ++ n ∷ ms)) h (among-append n ns ms) (λ k. repeats-again n ns ms k)
  where
    again : (a b c d : Bool) → (a || b) ≡ true → c ≡ true → (b ≡ true → d ≡ true) → ((a && c) || d) ≡ true
    again true b c d h p q = or_left c d p
    again false b c d h p q = q h

either : (a b c : Bool) → (not a || (not b || c)) ≡ (not (a && b) || c)
either true b c = refl
either false b c = refl

-- what is left of the expressions after some, whose fields stand at the end of those before
pub record Left (f : Node → Tree) (s before : Fields) (all : List ExprIR) (i : ℕ) (now : Fields) (flag : Bool) (first steps : ℕ) : Type 0 where
  pub complete : AllByRecursion IsComplete (exprs_of (named_trees f (drop i all)))
  pub fields : option_map (λ fs. before ++ fs) (fields_of (named_trees f all) s) ≡ option_map (λ fs. now ++ fs) (fields_of (named_trees f (drop i all)) s)
  pub names : names_of now ++ expr_names (named_trees f (drop i all)) ≡ names_of before ++ expr_names (named_trees f all)
  pub distinct : IsTrue (has_distinct_names before) → IsTrue (has_distinct_names now)
  pub among : AreAmong (all_parts (exprs_of (named_trees f (drop i all)))) (all_parts (exprs_of (named_trees f all)))
  pub scalar : list_any not_scalar (exprs_of (named_trees f all)) ≡ (not flag || list_any not_scalar (exprs_of (named_trees f (drop i all))))
  pub small : steps + all_sizes (exprs_of (named_trees f (drop i all))) ≤ first + all_sizes (exprs_of (named_trees f all))

pub left-first : (f : Node → Tree) (s before : Fields) (all : List ExprIR) (steps : ℕ) → AllByRecursion IsComplete (exprs_of (named_trees f all)) → Left f s before all 0 before true steps steps
left-first f s before all steps h = record {
  complete = h;
  fields = refl;
  names = refl;
  distinct = λ d. d;
  among = record { tests = λ g k. k; parts = λ x k. k };
  scalar = refl;
  small = omega arith;
}

module _ (f : Node → Tree) (s before : Fields) (all : List ExprIR) (i : ℕ) (now : Fields) (flag : Bool) (first steps : ℕ) (e : ExprIR) (within : i < length all) (is : e ≡ get_or all i e) (left : Left f s before all i now flag first steps) where
  rest-is : drop i all ≡ e ∷ drop (i + 1) all
  rest-is = drop-cons all i e within ∙ ap (λ x. x ∷ drop (suc i) all) (sym is) ∙ ap (λ j. e ∷ drop j all) (sym (add-one i))

  pub next-complete : IsComplete (f e.node)
  next-complete = (subst (λ es. AllByRecursion IsComplete (exprs_of (named_trees f es))) rest-is left.complete).0

  next-among : AreAmong (tree_parts (f e.node)) (all_parts (exprs_of (named_trees f all)))
  next-among =
      among-then (tree_parts (f e.node)) (all_parts (exprs_of (named_trees f (e ∷ drop (i + 1) all)))) (all_parts (exprs_of (named_trees f all))) (among-left (tree_parts (f e.node)) (all_parts (exprs_of (named_trees f (drop (i + 1) all)))))
      (subst (λ es. AreAmong (all_parts (exprs_of (named_trees f es))) (all_parts (exprs_of (named_trees f all)))) rest-is left.among)

  -- an error of this expression is one of all
  pub next-error : (at : Node) (x : PolarsError) → IsErrorAmong at s (tree_parts (f e.node)) x → IsFieldError at s (names_of before) (named_trees f all) x
  next-error at (error.ColumnNotFound node name) h = carried at s (tree_parts (f e.node)) (all_parts (exprs_of (named_trees f all))) (error.ColumnNotFound node name) next-among h
  next-error at (error.SchemaMismatch node) h = carried at s (tree_parts (f e.node)) (all_parts (exprs_of (named_trees f all))) (error.SchemaMismatch node) next-among h
  next-error at (error.Unsupported node what) h = carried at s (tree_parts (f e.node)) (all_parts (exprs_of (named_trees f all))) (error.Unsupported node what) next-among h
  next-error at error.OutOfMemory h = h
  next-error at (error.InvalidPlan node why) h = h
  next-error at (error.Duplicate node name) h = absurd h
  next-error at (error.ComputeError node why) h = h
  next-error at (error.ShapeMismatch node) h = h
  next-error at (error.OutOfBounds node why) h = h

  pub passed-error : {T : Type 0} (at : Node) (x : PolarsError) (r : Result T PolarsError) → IsErrAnd r (λ y. y ≡ x) → IsErrorAmong at s (tree_parts (f e.node)) x → IfErr r (IsFieldError at s (names_of before) (named_trees f all))
  passed-error at x (Ok y) p h = absurd p
  passed-error at x (Err y) p h = subst (λ z. IsFieldError at s (names_of before) (named_trees f all) z) (sym p) (next-error at x h)

  -- its name stands already
  pub next-repeats : (at : Node) → has_name (name_in e.output_name) now ≡ true → IsFieldError at s (names_of before) (named_trees f all) (error.Duplicate at (name_in e.output_name))
  next-repeats at h =
      let n = name_in e.output_name in
      let again : repeats n (names_of now ++ (n ∷ expr_names (named_trees f (drop (i + 1) all)))) ≡ true = repeats-again n (names_of now) (expr_names (named_trees f (drop (i + 1) all))) (among-has n now ∙ h) in
      let same : names_of now ++ (n ∷ expr_names (named_trees f (drop (i + 1) all))) ≡ names_of before ++ expr_names (named_trees f all) = ap (λ es. names_of now ++ expr_names (named_trees f es)) (sym rest-is) ∙ left.names in
      (refl, subst (λ ns. repeats n ns ≡ true) same again)

  -- a push of its field is refused
  pub push-error : (at : Node) (n : Name) (x : PolarsError) → n ≡ name_in e.output_name → IsPushError at now n x → IsFieldError at s (names_of before) (named_trees f all) x
  push-error at n (error.Duplicate node name) same h =
      let there : has_name (name_in e.output_name) now ≡ true = subst (λ m. has_name m now ≡ true) same h.2 in
      let again = next-repeats at there in
      (h.0, subst (λ m. repeats m (names_of before ++ expr_names (named_trees f all)) ≡ true) (sym (h.1 ∙ same)) again.1)
  push-error at n error.OutOfMemory same h = tt
  push-error at n (error.ColumnNotFound node name) same h = absurd h
  push-error at n (error.SchemaMismatch node) same h = absurd h
  push-error at n (error.Unsupported node what) same h = absurd h
  push-error at n (error.InvalidPlan node why) same h = absurd h
  push-error at n (error.ComputeError node why) same h = absurd h
  push-error at n (error.ShapeMismatch node) same h = absurd h
  push-error at n (error.OutOfBounds node why) same h = absurd h

  pub passed-push : {T : Type 0} (at : Node) (n : Name) (x : PolarsError) (r : Result T PolarsError) → IsErrAnd r (λ y. y ≡ x) → n ≡ name_in e.output_name → IsPushError at now n x → IfErr r (IsFieldError at s (names_of before) (named_trees f all))
  passed-push at n x (Ok y) p same h = absurd p
  passed-push at n x (Err y) p same h = subst (λ z. IsFieldError at s (names_of before) (named_trees f all) z) (sym p) (push-error at n x same h)

  -- the steps that were taken with this expression
  pub next-steps : (more : ℕ) → more ≤ steps + tree_size (f e.node) → more ≤ first + all_sizes (exprs_of (named_trees f all))
  next-steps more few =
      let small : steps + all_sizes (exprs_of (named_trees f (e ∷ drop (i + 1) all))) ≤ first + all_sizes (exprs_of (named_trees f all)) = subst (λ es. steps + all_sizes (exprs_of (named_trees f es)) ≤ first + all_sizes (exprs_of (named_trees f all))) rest-is left.small in
      omega arith

  pub next-left : (k : DataType) (then : Fields) (sc : Bool) (more : ℕ) → sc ≡ is_scalar (f e.node) → kind_over s (f e.node) ≡ Some k → then ≡ now ++ (name_in e.output_name, k) ∷ [] → has_name (name_in e.output_name) now ≡ false → more ≤ steps + tree_size (f e.node) → Left f s before all (i + 1) then (flag && sc) first more
  next-left k then sc more is_sc kind added fresh few =
      let n = name_in e.output_name in
      let rest = drop (i + 1) all in
      record {
        complete = (subst (λ es. AllByRecursion IsComplete (exprs_of (named_trees f es))) rest-is left.complete).1;
        fields =
            left.fields ∙ ap (λ es. option_map (λ fs. now ++ fs) (fields_of (named_trees f es) s)) rest-is
            ∙ ap (λ o. option_map (λ fs. now ++ fs) (both_of (λ (j : DataType) (fs : Fields). (n, j) ∷ fs) o (fields_of (named_trees f rest) s))) kind
            ∙ fields-next now n k (fields_of (named_trees f rest) s)
            ∙ ap (λ p. option_map (λ fs. p ++ fs) (fields_of (named_trees f rest) s)) (sym added);
        names =
            ap (λ p. names_of p ++ expr_names (named_trees f rest)) added ∙ names-next now n k (expr_names (named_trees f rest)) ∙ ap (λ es. names_of now ++ expr_names (named_trees f es)) (sym rest-is) ∙ left.names;
        distinct = λ d. subst (λ p. IsTrue (has_distinct_names p)) (sym added) (distinct-append now (n, k) (left.distinct d) fresh);
        among =
            among-then (all_parts (exprs_of (named_trees f rest))) (all_parts (exprs_of (named_trees f (e ∷ rest)))) (all_parts (exprs_of (named_trees f all))) (among-right (tree_parts (f e.node)) (all_parts (exprs_of (named_trees f rest))))
            (subst (λ es. AreAmong (all_parts (exprs_of (named_trees f es))) (all_parts (exprs_of (named_trees f all)))) rest-is left.among);
        scalar = left.scalar ∙ ap (λ es. not flag || list_any not_scalar (exprs_of (named_trees f es))) rest-is ∙ ap (λ b. not flag || (not b || list_any not_scalar (exprs_of (named_trees f rest)))) (sym is_sc) ∙ either flag sc (list_any not_scalar (exprs_of (named_trees f rest)));
        small = (let small' : steps + all_sizes (exprs_of (named_trees f (e ∷ rest))) ≤ first + all_sizes (exprs_of (named_trees f all)) = subst (λ es. steps + all_sizes (exprs_of (named_trees f es)) ≤ first + all_sizes (exprs_of (named_trees f all))) rest-is left.small in omega arith);
      }

-- where none is left
module _ (f : Node → Tree) (s before : Fields) (all : List ExprIR) (now : Fields) (flag : Bool) (first steps : ℕ) (left : Left f s before all (length all) now flag first steps) where
  pub all-fields : option_map (λ fs. before ++ fs) (fields_of (named_trees f all) s) ≡ Some now
  all-fields = left.fields ∙ ap (λ es. option_map (λ fs. now ++ fs) (fields_of (named_trees f es) s)) (drop-length all) ∙ ap Some (append-nil now)

  pub all-steps : steps ≤ first + all_sizes (exprs_of (named_trees f all))
  all-steps = let small = left.small in omega arith

-- what a push of a field refuses
pub push-refused : {T : Type 0} (stands : Bool) (n m : Name) (r : Result T FrameError) → ((r ≡ Err (frame.Duplicate n)) ↔ IsTrue stands) → OnErr r (IsFalse stands → r ≡ Err frame.OutOfMemory) → r ≡ Err (frame.Duplicate m) → (m ≡ n) × (stands ≡ true)
push-refused true n m r both errors is = let q : r ≡ Err (frame.Duplicate n) = both.1 refl in (cc, refl)
push-refused false n m (Ok x) both errors is = cc
push-refused false n m (Err e) both errors is = let q = errors refl in cc

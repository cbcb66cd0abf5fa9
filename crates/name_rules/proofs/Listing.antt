-- How many streams there are once some are added, and which of some expressions read the input.
use Rattle.std.proofs.Common.{◌≡◌, ◌⊎◌, inl, inr, ℕ, suc, ◌+◌, ◌≤◌, Bool, true, false, not, cond, List, [], ◌∷◌, ◌++◌, length, refl, ap, ◌∙◌, arith, length-append, zero, ◌<◌, Some}
use Rattle.std.specs.Prelude.{IsTrue, ◌&&◌, ◌||◌, map, flat_map, slice_get}
use Rattle.std.specs.List.{AllByRecursion, list_all, list_any}
use Rattle.std.proofs.lemmas.Bool.{and_from, and_parts}
use Rattle.ps_frame.specs.Causes.{is_empty}
use Rattle.ps_frame.specs.Trees.{Tree}
use Rattle.ps_frame.specs.Typing.{is_elementwise, is_independent}
use Rattle.ps_meaning.specs.Sound.{IsReduced, schema_at as schema_of}
use Rattle.ps_meaning.specs.Steps.{Name, Named, exprs_of}
use Rattle.ps_meaning.specs.Schemas.{joined_schemas}
use Rattle.ps_meaning.specs.Shape.{PhysicalNode, Shape}
use Rattle.ps_rules.specs.Calls.{Operand, all_independent, exprs_of_all}
use Rattle.ps_rules.specs.Rules.{NamedOperand, first_tree, names_of_items, operands_of}
use Rattle.ps_rules.specs.Slots.{State, Stream, added, after_name, all_added, columns_named, new_names, same_stream, schema_at, schema_or_none, under}

-- streams
pub added_some : (i : Stream) (ss : List Stream) → 1 ≤ length (added i ss)
added_some i [] = omega arith
added_some i (s ∷ ss) = by (list_any (same_stream i) (s ∷ ss))
  where
    by : (b : Bool) → 1 ≤ length (cond b (s ∷ ss) (s ∷ (ss ++ i ∷ [])))
    by true = omega arith
    by false = omega arith

pub added_more : (i : Stream) (ss : List Stream) → length ss ≤ length (added i ss)
added_more i ss = by (list_any (same_stream i) ss)
  where
    by : (b : Bool) → length ss ≤ length (cond b ss (ss ++ i ∷ []))
    by true = omega arith
    by false = let l = length-append ss (i ∷ []) in omega arith

pub all_added_more : (xs ss : List Stream) → length ss ≤ length (all_added xs ss)
all_added_more [] ss = omega arith
all_added_more (x ∷ xs) ss =
    let a = added_more x ss in
    let b = all_added_more xs (added x ss) in
    omega arith

pub all_added_some : (xs ss : List Stream) (m n k : ℕ) → 1 ≤ length xs + n → 1 ≤ length (all_added xs ss) + ((m + n) + k)
all_added_some [] ss m n k h = omega arith
all_added_some (x ∷ xs) ss m n k h =
    let a = added_some x ss in
    let b = all_added_more xs (added x ss) in
    omega arith

pub empty_none : {A : Type 0} (xs : List A) → is_empty xs ≡ true → length xs ≡ 0
empty_none [] q = refl
empty_none (x ∷ xs) q = let w : false ≡ true = q in cc

-- of two, and of many
pub and_true : (b : Bool) → (b && true) ≡ b
and_true true = refl
and_true false = refl

and_false : (b : Bool) → (b && false) ≡ false
and_false true = refl
and_false false = refl

pub false_one : (a b : Bool) → (a && b) ≡ false → (a ≡ false) ⊎ (b ≡ false)
false_one false b q = inl refl
false_one true b q = inr q

pub either_false : (a b x y : Bool) → (a ≡ false → x ≡ false) → (b ≡ false → y ≡ false) → (a && b) ≡ false → (x && y) ≡ false
either_false false b x y f g q = ap (λ x. x && y) (f refl)
either_false true b x y f g q = ap (λ y. x && y) (g q) ∙ and_false x

pub one_holds : {A B : Type 0} (n m : ℕ) → A ⊎ B → (A → 1 ≤ n) → n ≤ m → (B → 1 ≤ m) → 1 ≤ m
one_holds n m (inl a) f le g = let h = f a in omega arith
one_holds n m (inr b) f le g = g b

any_step : (a b c : Bool) → (a && b) ≡ false → (b ≡ false → c ≡ true) → (not a || c) ≡ true
any_step false b c q f = refl
any_step true b c q f = f q

pub any_reads : (es : List Tree) → all_independent es ≡ false → list_any (λ e. not (is_independent e)) es ≡ true
any_reads [] q = let w : true ≡ false = q in cc
any_reads (e ∷ es) q = any_step (is_independent e) (all_independent es) (list_any (λ e. not (is_independent e)) es) q (any_reads es)

pub list_plain : (es : List Tree) → AllByRecursion (λ e. IsTrue (is_elementwise e)) es → list_all is_elementwise es ≡ true
list_plain [] h = refl
list_plain (e ∷ es) h = and_from (is_elementwise e) (list_all is_elementwise es) h.0 (list_plain es h.1)

pub under_independent : (ns : List Name) (es : List Tree) → list_all is_independent es ≡ true → list_all is_independent (exprs_of (under ns es)) ≡ true
under_independent [] es q = refl
under_independent (n ∷ ns) [] q = refl
under_independent (n ∷ ns) (e ∷ es) q =
    let p = and_parts (is_independent e) (list_all is_independent es) q in
    and_from (is_independent e) (list_all is_independent (exprs_of (under ns es))) p.0 (under_independent ns es p.1)

pub items_all : (P : Tree → Type 0) (items : List Named) → AllByRecursion (λ (m : Named). P m.1) items → AllByRecursion P (exprs_of items)
items_all P [] all = tt
items_all P (m ∷ items) all = (all.0, items_all P items all.1)

pub some_operands : (os : List Operand) → all_independent (exprs_of_all os) ≡ false → 1 ≤ length os
some_operands [] q = let w : true ≡ false = q in cc
some_operands (o ∷ os) q = omega arith

pub count_items : (items : List NamedOperand) → length (names_of_items items) ≡ length (operands_of items)
count_items [] = refl
count_items (i ∷ items) = ap suc (count_items items)

-- fresh columns
pub plain_columns : (ns : List Name) → AllByRecursion (λ e. IsTrue (is_elementwise e)) (columns_named ns)
plain_columns [] = tt
plain_columns (n ∷ ns) = (refl, plain_columns ns)

pub count_columns : (os : List Operand) (s : State) → length (columns_named (new_names (exprs_of_all os) s)) ≡ length os
count_columns [] s = refl
count_columns (o ∷ os) s = ap suc (count_columns os (after_name s))

pub columns_read : (os : List Operand) (s : State) → 1 ≤ length os → all_independent (columns_named (new_names (exprs_of_all os) s)) ≡ false
columns_read [] s some = absurd (omega arith)
columns_read (o ∷ os) s some = refl

-- what a reduction takes
reads_one : (b : Bool) → (b && true) ≡ false → not b ≡ true
reads_one true q = let w : true ≡ false = q in cc
reads_one false q = refl

pub first_reduced : (bs : List Tree) → length bs ≡ 1 → AllByRecursion (λ e. IsTrue (is_elementwise e)) bs → all_independent bs ≡ false → IsReduced (first_tree bs)
first_reduced [] l all q = absurd (omega arith)
first_reduced (e ∷ []) l all q = and_from (is_elementwise e) (not (is_independent e)) all.0 (reads_one (is_independent e) q)
first_reduced (e ∷ f ∷ bs) l all q = absurd (omega arith)

-- schemas of nodes
pub joined_streams : (nodes : Shape) (ss : List Stream) → flat_map (schema_at nodes) ss ≡ joined_schemas (map (schema_at nodes) ss)
joined_streams nodes [] = refl
joined_streams nodes (i ∷ ss) = ap (λ fs. schema_at nodes i ++ fs) (joined_streams nodes ss)

pub at_seam : (a : Shape) (x : PhysicalNode) (more : Shape) → slice_get (a ++ x ∷ more) (length a) ≡ Some x
at_seam [] x more = refl
at_seam (y ∷ a) x more = at_seam a x more

one_before : (before rest : Shape) (m : ℕ) → m < length before → schema_or_none (slice_get before m) ≡ schema_of (slice_get (before ++ rest) m)
one_before [] rest m lt = absurd (omega arith)
one_before (x ∷ before) rest zero lt = refl
one_before (x ∷ before) rest (suc m) lt = one_before before rest m (omega arith)

pub schemas_before : (before rest : Shape) (is : List Stream) → AllByRecursion (λ (i : Stream). i.0 < length before) is → map (schema_at before) is ≡ map (λ (i : Stream). schema_of (slice_get (before ++ rest) i.0)) is
schemas_before before rest [] all = refl
schemas_before before rest (i ∷ is) all =
    let p = one_before before rest i.0 all.0 in
    let q = schemas_before before rest is all.1 in
    λ k. p k ∷ q k

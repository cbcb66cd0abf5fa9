-- Expressions that have kinds break no rule, and what is refused of them.
use Rattle.std.proofs.Common.{◌≡◌, ◌≢◌, List, [], ◌∷◌, Bool, true, false, refl, sym, subst, ◌∙◌, ap, inl, inr}
use Rattle.std.specs.Prelude.{Contains, not, ◌&&◌, ◌||◌, IsTrue, Option, Some, None, is_some}
use Rattle.std.specs.List.{list_any}
use Rattle.std.specs.Str.{bytes_eq}
use Rattle.std.proofs.lemmas.Bool.{and_from, and_parts, or_cases, or_left}
use Rattle.std.proofs.lemmas.List.Elements.{Contains-append_left}
use Rattle.std.proofs.lemmas.List.Folds.{list_any-append}
use Rattle.std.proofs.lemmas.Slice.Eq.{bytes_eq-Decides}
use Rattle.pu_base.specs.declared.arena.Node.{Node}
use Rattle.ps_frame.specs.Frames.{has_distinct_names, has_name}
use Rattle.ps_frame.specs.Functions.{Functions}
use Rattle.ps_frame.specs.Parts.{is_column_of, reads_column, some_part, tree_parts}
use Rattle.ps_frame.specs.Refusals.{breaks_rule, has_kind_where, is_accepted, is_not, is_refused}
use Rattle.ps_frame.specs.Tables.{Fields}
use Rattle.ps_frame.specs.Trees.{Tree}
use Rattle.ps_frame.specs.Typing.{kind_over}
use Rattle.ps_frame.specs.declared.expr.What.{What}
use Rattle.ps_frame.specs.declared.refusal.PolarsError.{PolarsError}
use Rattle.ps_frame.specs.declared.refusal.PolarsError.TheVariants as error
use Rattle.ps_frame.specs.declared.value.DataType.{DataType}
use Rattle.ps_frame.specs.declared.value.DataType.TheVariants as kind
use Rattle.ps_meaning.specs.StepRefusals.{break_rules, lacks_column, repeats}
use Rattle.ps_meaning.specs.Schemas.{both as both_of, expr_names, fields_of, is_among, names_of}
use Rattle.ps_meaning.specs.Steps.{Name, Named, exprs_of, filter, select}
use Rattle.ps_typing.proofs.Exact.{any-at, any-weaker, breaks-refused, none-refused, unknown-refused}
use Rattle.valid_plans.proofs.Adding.{among-has}
use Rattle.ps_typing.specs.Refused.{IsTypingError}
use Rattle.valid_plans.specs.Fields.{IsFieldError, all_parts}
use Rattle.ps_validate.specs.Nodes.{IsNodeError}

never : {P : Type 0} (b : Bool) → b ≡ false → b ≡ true → P
never true p q = cc
never false p q = cc

-- some part of some expression passes a test
pub any-parts : (f : Tree → Bool) (es : List Tree) → list_any f (all_parts es) ≡ list_any (some_part f) es
any-parts f [] = refl
any-parts f (e ∷ es) = list_any-append f (tree_parts e) (all_parts es) ∙ ap (λ b. some_part f e || b) (any-parts f es)

-- the fields of expressions, one by one
pub both-some : (n : Name) (o : Option DataType) (r : Option Fields) (fs : Fields) → both_of (λ (k : DataType) (gs : Fields). (n, k) ∷ gs) o r ≡ Some fs → (k : DataType) × (rest : Fields) × (o ≡ Some k) × (r ≡ Some rest) × (fs ≡ (n, k) ∷ rest)
both-some n None r fs h = cc
both-some n (Some k) None fs h = cc
both-some n (Some k) (Some rest) fs h = (k, rest, refl, refl, cc)

module _ (s : Fields) (exact : (t : Tree) → is_some (kind_over s t) ≡ is_accepted s t) where
  pub reads-nothing : (t : Tree) (k : DataType) (n : Name) → kind_over s t ≡ Some k → has_name n s ≡ false → reads_column n t ≡ true → ⊥
  reads-nothing t k n h lacks reads = never (some_part (is_refused s) t) (none-refused s t k (exact t) h) (any-weaker (is_column_of n) (is_refused s) (tree_parts t) (unknown-refused n s lacks) reads)

  pub breaks-nothing : (t : Tree) (k : DataType) → kind_over s t ≡ Some k → some_part (breaks_rule s) t ≡ true → ⊥
  breaks-nothing t k h breaks = never (some_part (is_refused s) t) (none-refused s t k (exact t) h) (any-weaker (breaks_rule s) (is_refused s) (tree_parts t) (breaks-refused s) breaks)

  reads-none : (es : List Named) (fs : Fields) (n : Name) → fields_of es s ≡ Some fs → has_name n s ≡ false → list_any (reads_column n) (exprs_of es) ≡ true → ⊥
  reads-none [] fs n h lacks r = cc
  reads-none (e ∷ es) fs n h lacks r =
      let p = both-some e.0 (kind_over s e.1) (fields_of es s) fs h in
      elim (or_cases (reads_column n e.1) (list_any (reads_column n) (exprs_of es)) r) [ inl a ↦ reads-nothing e.1 p.0 n p.2 lacks a | inr b ↦ reads-none es p.1 n p.3 lacks b ]

  pub breaks-none : (es : List Named) (fs : Fields) → fields_of es s ≡ Some fs → break_rules s (exprs_of es) ≡ true → ⊥
  breaks-none [] fs h r = cc
  breaks-none (e ∷ es) fs h r =
      let p = both-some e.0 (kind_over s e.1) (fields_of es s) fs h in
      elim (or_cases (some_part (breaks_rule s) e.1) (break_rules s (exprs_of es)) r) [ inl a ↦ breaks-nothing e.1 p.0 p.2 a | inr b ↦ breaks-none es p.1 p.3 b ]

  pub lacks-none : (es : List Named) (fs : Fields) (n : Name) → fields_of es s ≡ Some fs → lacks_column n s (exprs_of es) ≡ true → ⊥
  lacks-none es fs n h r =
      let p = and_parts (list_any (reads_column n) (exprs_of es)) (not (has_name n s)) r in
      reads-none es fs n h (not-there (has_name n s) p.1) p.0
    where
      not-there : (b : Bool) → not b ≡ true → b ≡ false
      not-there true q = sym q
      not-there false q = refl

-- what has a kind holds nothing that is left out
pub refuses-left : (s : Fields) (w : What) → is_refused s (Tree.left_out w) ≡ true
refuses-left s w = refl

module _ (s : Fields) (exact : (t : Tree) → is_some (kind_over s t) ≡ is_accepted s t) where
  passes-none : (es : List Named) (fs : Fields) → fields_of es s ≡ Some fs → list_any (some_part (is_refused s)) (exprs_of es) ≡ true → ⊥
  passes-none [] fs h r = cc
  passes-none (e ∷ es) fs h r =
      let p = both-some e.0 (kind_over s e.1) (fields_of es s) fs h in
      elim (or_cases (some_part (is_refused s) e.1) (list_any (some_part (is_refused s)) (exprs_of es)) r) [ inl a ↦ never (some_part (is_refused s) e.1) (none-refused s e.1 p.0 (exact e.1) p.2) a | inr b ↦ passes-none es p.1 p.3 b ]

  pub holds-none : (es : List Named) (fs : Fields) → fields_of es s ≡ Some fs → (w : What) → Contains (all_parts (exprs_of es)) (Tree.left_out w) → ⊥
  holds-none es fs h w c = passes-none es fs h (sym (any-parts (is_refused s) (exprs_of es)) ∙ any-at (is_refused s) (all_parts (exprs_of es)) c.0 (Tree.left_out w) c.1 c.2 (refuses-left s w))

-- names that differ aren't repeated
twice : (m n : Name) (fs : Fields) → not (has_name m fs) ≡ true → (bytes_eq n m ≡ true) × (is_among n (names_of fs) ≡ true) → ⊥
twice m n fs p q =
    let same : n ≡ m = (bytes_eq-Decides n m).0 q.0 in
    let there : has_name m fs ≡ true = subst (λ x. has_name x fs ≡ true) same (sym (among-has n fs) ∙ q.1) in
    never (not (has_name m fs)) (ap not there) p

pub differ : (fs : Fields) (n : Name) → IsTrue (has_distinct_names fs) → repeats n (names_of fs) ≡ true → ⊥
differ [] n d r = cc
differ (f ∷ fs) n d r =
    let p = and_parts (not (has_name f.0 fs)) (has_distinct_names fs) d in
    elim (or_cases (bytes_eq n f.0 && is_among n (names_of fs)) (repeats n (names_of fs)) r) [ inl a ↦ twice f.0 n fs p.0 (and_parts (bytes_eq n f.0) (is_among n (names_of fs)) a) | inr b ↦ differ fs n p.1 b ]

pub names-same : (s : Fields) (es : List Named) (fs : Fields) → fields_of es s ≡ Some fs → names_of fs ≡ expr_names es
names-same s [] fs h = let is : fs ≡ [] = cc in ap names_of is
names-same s (e ∷ es) fs h =
    let p = both-some e.0 (kind_over s e.1) (fields_of es s) fs h in ap names_of p.4 ∙ ap (λ ns. e.0 ∷ ns) (names-same s es p.1 p.3)

-- what a select refuses
pub select-error : (F : Functions) (at : Node) (s : Fields) (es : List Named) (e : PolarsError) → IsFieldError at s [] es e → IsNodeError F at (select es) (s ∷ []) e
select-error F at s es (error.ColumnNotFound node name) h =
    (h.0, and_from (list_any (reads_column name) (exprs_of es)) (not (has_name name s)) (sym (any-parts (is_column_of name) (exprs_of es)) ∙ h.1) (ap not h.2))
select-error F at s es (error.Duplicate node name) h = (h.0, inr h.1)
select-error F at s es (error.SchemaMismatch node) h = (h.0, inr (sym (any-parts (breaks_rule s) (exprs_of es)) ∙ h.1))
select-error F at s es (error.Unsupported node w) h = (h.0, inr h.1)
select-error F at s es error.OutOfMemory h = h
select-error F at s es (error.InvalidPlan node why) h = h
select-error F at s es (error.ComputeError node why) h = h
select-error F at s es (error.ShapeMismatch node) h = h
select-error F at s es (error.OutOfBounds node why) h = h

-- what a filter refuses of its predicate
pub filter-error : (F : Functions) (at : Node) (s : Fields) (e : Tree) (x : PolarsError) → IsTypingError at s e x → IsNodeError F at (filter e) (s ∷ []) x
filter-error F at s e (error.ColumnNotFound node name) h = (h.0, and_from (reads_column name e || false) (not (has_name name s)) (or_left (reads_column name e) false h.1) (ap not h.2))
filter-error F at s e (error.SchemaMismatch node) h = (h.0, inr (or_left (some_part (breaks_rule s) e) false h.1))
filter-error F at s e (error.Unsupported node w) h = (h.0, inr (Contains-append_left (tree_parts e) [] (Tree.left_out w) h.1))
filter-error F at s e error.OutOfMemory h = h
filter-error F at s e (error.InvalidPlan node why) h = h
filter-error F at s e (error.Duplicate node name) h = absurd h
filter-error F at s e (error.ComputeError node why) h = h
filter-error F at s e (error.ShapeMismatch node) h = h
filter-error F at s e (error.OutOfBounds node why) h = h

-- a predicate of another kind
pub filter-mismatch : (F : Functions) (at : Node) (s : Fields) (e : Tree) (k : DataType) → kind_over s e ≡ Some k → k ≢ kind.Boolean → IsNodeError F at (filter e) (s ∷ []) (error.SchemaMismatch at)
filter-mismatch F at s e k h ne = (refl, inl (ap (has_kind_where (is_not kind.Boolean)) h ∙ differs k ne))
  where
    differs : (k : DataType) → k ≢ kind.Boolean → is_not kind.Boolean k ≡ true
    differs kind.Boolean ne = absurd (ne refl)
    differs kind.Int64 ne = refl
    differs kind.IdxSize ne = refl
    differs kind.String ne = refl

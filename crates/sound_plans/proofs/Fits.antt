-- Nodes of each kind that are fit, from what was found of their expressions, their step and their schema.
use Rattle.std.proofs.Common.{◌≡◌, ◌≢◌, ◌<◌, ℕ, Bool, true, false, not, List, [], ◌∷◌, ◌++◌, Option, None, Some, Result, Ok, Err, refl, ap, sym, subst, ◌∙◌, arith, pos}
use Rattle.std.specs.Prelude.{◌↔◌, ◌&&◌, IfOk, IsTrue, is_some}
use Rattle.std.specs.List.{AllByRecursion, list_all, list_any}
use Rattle.pu_base.specs.declared.arena.Node.{Node}
use Rattle.ps_frame.specs.Functions.{Functions}
use Rattle.ps_frame.specs.Lawful.{FitsFrame}
use Rattle.ps_frame.specs.Tables.{Fields, Frame}
use Rattle.ps_frame.specs.Trees.{Aggregation, Tree}
use Rattle.ps_frame.specs.Typing.{is_elementwise, is_independent, kind_over}
use Rattle.ps_frame.specs.declared.expr.What.{What}
use Rattle.ps_frame.specs.declared.expr.What.TheVariants as what
use Rattle.ps_frame.specs.declared.refusal.PolarsError.{PolarsError}
use Rattle.ps_meaning.specs.Joins.{goes_by_left}
use Rattle.ps_meaning.specs.Schemas.{join_schema}
use Rattle.ps_meaning.specs.Shape.{PhysicalKind, equi_join, filter_node, group_by_node, in_memory_join, in_memory_map, in_memory_sink, in_memory_source, independent_select, multiplexer, negative_slice, ordered_union, reduce, select_node, simple_projection, stream_map, streaming_slice, with_row_index, zip_node, below_zero}
use Rattle.ps_meaning.specs.Sound.{HasFieldsOf, IsReduction, have_all_kinds}
use Rattle.ps_meaning.specs.StepRefusals.{HasBadKeys, HasNoKey, IsValidation, Refusal, TypingRefused, column_not_found, duplicate, invalid_plan, no_key, schema_mismatch, unsupported}
use Rattle.ps_meaning.specs.Steps.{DistinctStep, GroupStep, JoinStep, Name, Named, SortStep, Step, distinct, exprs_of, filter, group_by, hstack, join, key_trees, memory_sink, named_trees, project, row_index, scan, select, slice, sort, user}
use Rattle.ps_meaning.specs.declared.options.DistinctOptions.{DistinctOptions}
use Rattle.ps_meaning.specs.declared.options.ExprIR.{ExprIR}
use Rattle.ps_validate.specs.Nodes.{GivesSchema, PassesColumns}
use Rattle.sound_plans.specs.Fit.{IsFitOver, IsPassedOn}
use Rattle.sound_plans.specs.Tested.{is_reduction}
use Rattle.sound_plans.proofs.Testing.{exprs-named}

-- what holds of the schema that was given holds where it is the node's
pub taken : {Q : Type 0} (P : Fields → Type 0) (given : Result Fields PolarsError) (s : Fields) (r : Result Bool PolarsError) → IfOk r (λ is. IsTrue is → given ≡ Ok s) → IfOk given P → (P s → Q) → IfOk r (λ is. IsTrue is → Q)
taken P given s (Ok b) is h q = λ told. q (subst (λ (g : Result Fields PolarsError). IfOk g P) (is told) h)
taken P given s (Err e) is h q = tt

-- what holds of the fields that were given holds where the node's are among them
pub taken-fields : {Q : Type 0} (P : Fields → Type 0) (given : Result Fields PolarsError) (s : Fields) (r : Result Bool PolarsError) → IfOk r (λ has. IsTrue has → (fields : Fields) × (given ≡ Ok fields) × HasFieldsOf fields s) → IfOk given P
    → ((fields : Fields) → P fields → HasFieldsOf fields s → Q) → IfOk r (λ has. IsTrue has → Q)
taken-fields P given s (Ok b) has h q = λ told. let found = has told in q found.0 (subst (λ (g : Result Fields PolarsError). IfOk g P) found.1 h) found.2
taken-fields P given s (Err e) has h q = tt

pub carried : {P Q : Type 0} (r : Result Bool PolarsError) → IfOk r (λ is. IsTrue is → P) → (P → Q) → IfOk r (λ is. IsTrue is → Q)
carried (Ok b) h q = λ told. q (h told)
carried (Err e) h q = tt

pub named : (p : Tree → Bool) (f : Node → Tree) (es : List ExprIR) → list_all p (key_trees f es) ≡ true → list_all p (exprs_of (named_trees f es)) ≡ true
named p f es h = ap (list_all p) (exprs-named f es) ∙ h

-- what is tested of a reduction
reduction-is : (t : Tree) → is_reduction t ≡ true → IsReduction t
reduction-is Tree.len h = tt
reduction-is (Tree.aggregate Aggregation.min e) h = h
reduction-is (Tree.aggregate Aggregation.max e) h = h
reduction-is (Tree.aggregate Aggregation.first e) h = h
reduction-is (Tree.aggregate Aggregation.last e) h = h
reduction-is (Tree.aggregate Aggregation.sum e) h = h
reduction-is (Tree.aggregate Aggregation.n_unique e) h = cc
reduction-is (Tree.aggregate (Aggregation.count all) e) h = cc
reduction-is (Tree.column name) h = cc
reduction-is (Tree.literal l) h = cc
reduction-is (Tree.binary o l r) h = cc
reduction-is (Tree.cast k b t) h = cc
reduction-is (Tree.sort d n t) h = cc
reduction-is (Tree.sort_by d n t by) h = cc
reduction-is (Tree.gather b t i) h = cc
reduction-is (Tree.filter t by) h = cc
reduction-is (Tree.ternary p a b) h = cc
reduction-is (Tree.function g t) h = cc
reduction-is (Tree.slice t o l) h = cc
reduction-is (Tree.left_out w) h = cc
reduction-is Tree.missing h = cc

and-parts : (a b : Bool) → (a && b) ≡ true → (a ≡ true) × (b ≡ true)
and-parts true b e = (refl, e)
and-parts false b e = cc

and-both : (a b : Bool) → a ≡ true → b ≡ true → (a && b) ≡ true
and-both true b e h = h
and-both false b e h = cc

pub reductions : (ts : List Tree) → list_all is_reduction ts ≡ true → AllByRecursion IsReduction ts
reductions [] h = tt
reductions (t ∷ ts) h = let parts = and-parts (is_reduction t) (list_all is_reduction ts) h in (reduction-is t parts.0, reductions ts parts.1)

all-append : (p : Tree → Bool) (xs ys : List Tree) → list_all p xs ≡ true → list_all p ys ≡ true → list_all p (xs ++ ys) ≡ true
all-append p [] ys a b = b
all-append p (x ∷ xs) ys a b = let parts = and-parts (p x) (list_all p xs) a in and-both (p x) (list_all p (xs ++ ys)) parts.0 (all-append p xs ys parts.1 b)

-- a select that reads no input is as one over an input without columns
same-refused : (F : Functions) (es : List Named) (R : Refusal) → TypingRefused F (select es) [] R → TypingRefused F (select es) ([] ∷ []) R
same-refused F es (invalid_plan w) h = h
same-refused F es (column_not_found n) h = h
same-refused F es (duplicate n) h = h
same-refused F es schema_mismatch h = h
same-refused F es no_key h = h
same-refused F es (unsupported w) h = by w h
  where
    by : (w : What) → TypingRefused F (select es) [] (unsupported w) → TypingRefused F (select es) ([] ∷ []) (unsupported w)
    by what.NoColumns h = h
    by what.LiteralAggregate h = h
    by _ h = absurd h

module _ (F : Functions) where
  some : (step : Step) (ss : List Fields) (s : Fields) → GivesSchema F step ss s → s ≢ []
  some step ss s g e = g.rules (unsupported what.NoColumns) (g.schema ∙ ap Some e)

  pub source-fit : (t : Frame) (s : Fields) → FitsFrame t → GivesSchema F (scan t None) [] s → IsFitOver F (in_memory_source t) s []
  source-fit t s fits g = record { inputs = refl; schema = g.schema; not_empty = some (scan t None) [] s g; parameters = fits; kinds = refl; rules = (λ h. h, λ h. h, λ h. h, g.rules) }

  module _ (i s : Fields) where
    pub with-columns-fit : (es : List Named) → have_all_kinds i (exprs_of es) ≡ true → list_all is_elementwise (exprs_of es) ≡ true → GivesSchema F (hstack es) (i ∷ []) s → IsFitOver F (select_node es true) s (i ∷ [])
    with-columns-fit es kinds elementwise g =
        record { inputs = refl; schema = g.schema; not_empty = some (hstack es) (i ∷ []) s g; parameters = elementwise; kinds = kinds; rules = (λ h. h, λ h. h, λ h. h, g.rules) }

    pub select-fit : (es : List Named) → have_all_kinds i (exprs_of es) ≡ true → list_all is_elementwise (exprs_of es) ≡ true → list_any (λ e. not (is_independent e)) (exprs_of es) ≡ true → GivesSchema F (select es) (i ∷ []) s
        → IsFitOver F (select_node es false) s (i ∷ [])
    select-fit es kinds elementwise reads g =
        record { inputs = refl; schema = g.schema; not_empty = some (select es) (i ∷ []) s g; parameters = (elementwise, reads); kinds = kinds; rules = (λ h. h, λ h. h, λ h. h, g.rules) }

    pub select-whole-fit : (es : List Named) → have_all_kinds i (exprs_of es) ≡ true → GivesSchema F (select es) (i ∷ []) s → IsFitOver F (in_memory_map (select es)) s (i ∷ [])
    select-whole-fit es kinds g = record { inputs = refl; schema = g.schema; not_empty = some (select es) (i ∷ []) s g; parameters = tt; kinds = kinds; rules = (λ h. h, λ h. h, λ h. h, g.rules) }

    pub index-fit : (n : Name) (offset : Option ℕ) → GivesSchema F (row_index n offset) (i ∷ []) s → IsFitOver F (with_row_index n offset) s (i ∷ [])
    index-fit n offset g = record { inputs = refl; schema = g.schema; not_empty = some (row_index n offset) (i ∷ []) s g; parameters = tt; kinds = refl; rules = (λ h. h, λ h. h, λ h. h, g.rules) }

    pub reduce-fit : (es : List Named) → have_all_kinds i (exprs_of es) ≡ true → list_all is_reduction (exprs_of es) ≡ true → GivesSchema F (select es) (i ∷ []) s → IsFitOver F (reduce es) s (i ∷ [])
    reduce-fit es kinds all g =
        record { inputs = refl; schema = g.schema; not_empty = some (select es) (i ∷ []) s g; parameters = reductions (exprs_of es) all; kinds = kinds; rules = (λ h. h, λ h. h, λ h. h, g.rules) }

    pub passing-fit : ((step : Step) → PassesColumns step → GivesSchema F step (i ∷ []) s) → (kind : PhysicalKind) → IsPassedOn kind → IsFitOver F kind s (i ∷ [])
    passing-fit g (streaming_slice offset n) p =
        let h = g (slice (pos offset) n) tt in
        record { inputs = refl; schema = h.schema; not_empty = some (slice (pos offset) n) (i ∷ []) s h; parameters = tt; kinds = refl; rules = (λ h. h, λ h. h, λ h. h, h.rules) }
    passing-fit g in_memory_sink p =
        let h = g memory_sink tt in record { inputs = refl; schema = h.schema; not_empty = some memory_sink (i ∷ []) s h; parameters = tt; kinds = refl; rules = (λ h. h, λ h. h, λ h. h, h.rules) }
    passing-fit g multiplexer p =
        let h = g memory_sink tt in record { inputs = refl; schema = h.schema; not_empty = some memory_sink (i ∷ []) s h; parameters = tt; kinds = refl; rules = (λ h. h, λ h. h, λ h. h, h.rules) }
    passing-fit g (in_memory_source t) p = absurd p
    passing-fit g (select_node es b) p = absurd p
    passing-fit g (with_row_index n offset) p = absurd p
    passing-fit g (independent_select es) p = absurd p
    passing-fit g (reduce es) p = absurd p
    passing-fit g (negative_slice back n) p = absurd p
    passing-fit g (filter_node e) p = absurd p
    passing-fit g (simple_projection ns) p = absurd p
    passing-fit g (in_memory_map step) p = absurd p
    passing-fit g (stream_map step) p = absurd p
    passing-fit g ordered_union p = absurd p
    passing-fit g (zip_node b) p = absurd p
    passing-fit g (group_by_node ks as') p = absurd p
    passing-fit g (equi_join o) p = absurd p
    passing-fit g (in_memory_join o) p = absurd p

    pub from-end-fit : (back n : ℕ) → 0 < back → GivesSchema F (slice (below_zero back) n) (i ∷ []) s → IsFitOver F (negative_slice back n) s (i ∷ [])
    from-end-fit back n some-back g =
        record { inputs = refl; schema = g.schema; not_empty = some (slice (below_zero back) n) (i ∷ []) s g; parameters = omega (arith, some-back); kinds = refl; rules = (λ h. h, λ h. h, λ h. h, g.rules) }

    pub filter-fit : (e : Tree) → is_some (kind_over i e) ≡ true → is_elementwise e ≡ true → GivesSchema F (filter e) (i ∷ []) s → IsFitOver F (filter_node e) s (i ∷ [])
    filter-fit e kind elementwise g =
        record { inputs = refl; schema = g.schema; not_empty = some (filter e) (i ∷ []) s g; parameters = elementwise; kinds = and-both (is_some (kind_over i e)) true kind refl; rules = (λ h. h, λ h. h, λ h. h, g.rules) }

    pub projection-fit : (ns : List Name) → GivesSchema F (project ns) (i ∷ []) s → IsFitOver F (simple_projection ns) s (i ∷ [])
    projection-fit ns g = record { inputs = refl; schema = g.schema; not_empty = some (project ns) (i ∷ []) s g; parameters = tt; kinds = refl; rules = (λ h. h, λ h. h, λ h. h, g.rules) }

    pub sort-fit : (o : SortStep) → ¬ HasBadKeys (sort o) → have_all_kinds i o.keys ≡ true → GivesSchema F (sort o) (i ∷ []) s → IsFitOver F (in_memory_map (sort o)) s (i ∷ [])
    sort-fit o keys kinds g = record { inputs = refl; schema = g.schema; not_empty = some (sort o) (i ∷ []) s g; parameters = tt; kinds = kinds; rules = (keys, λ h. h, λ h. h, g.rules) }

    pub grouped-fit : (o : GroupStep) → o.keys ≢ [] → have_all_kinds i (exprs_of o.keys) ≡ true → have_all_kinds i (exprs_of o.aggregates) ≡ true → GivesSchema F (group_by o) (i ∷ []) s → IsFitOver F (in_memory_map (group_by o)) s (i ∷ [])
    grouped-fit o keys kinds others g =
        record {
          inputs = refl;
          schema = g.schema;
          not_empty = some (group_by o) (i ∷ []) s g;
          parameters = tt;
          kinds = all-append (λ e. is_some (kind_over i e)) (exprs_of o.keys) (exprs_of o.aggregates) kinds others;
          rules = (λ h. h, keys, λ h. h, g.rules);
        }

    -- the same over groups that are put together part by part
    pub group-fit : (ks as' : List Named) → IsFitOver F (in_memory_map (group_by (record { keys = ks; aggregates = as'; maintain_order = false; cut = None }))) s (i ∷ []) → list_all is_elementwise (exprs_of ks) ≡ true → list_all is_reduction (exprs_of as') ≡ true
        → IsFitOver F (group_by_node ks as') s (i ∷ [])
    group-fit ks as' g elementwise all = record { inputs = refl; schema = g.schema; not_empty = g.not_empty; parameters = (elementwise, reductions (exprs_of as') all); kinds = g.kinds; rules = g.rules }

    pub distinct-fit : (o : DistinctStep) → ¬ HasNoKey (distinct o) → GivesSchema F (distinct o) (i ∷ []) s → IsFitOver F (in_memory_map (distinct o)) s (i ∷ [])
    distinct-fit o key g = record { inputs = refl; schema = g.schema; not_empty = some (distinct o) (i ∷ []) s g; parameters = tt; kinds = refl; rules = (λ h. h, key, λ h. h, g.rules) }

    pub function-fit : (n : ℕ) → n < F.count → GivesSchema F (user n) (i ∷ []) s → IsFitOver F (in_memory_map (user n)) s (i ∷ [])
    function-fit n l g = record { inputs = refl; schema = g.schema; not_empty = some (user n) (i ∷ []) s g; parameters = l; kinds = refl; rules = (λ h. h, λ h. h, λ h. h, g.rules) }

    pub stream-fit : (n : ℕ) → n < F.count → F.streams n ≡ true → GivesSchema F (user n) (i ∷ []) s → IsFitOver F (stream_map (user n)) s (i ∷ [])
    stream-fit n l streams g = record { inputs = refl; schema = g.schema; not_empty = some (user n) (i ∷ []) s g; parameters = (l, streams); kinds = refl; rules = (λ h. h, λ h. h, λ h. h, g.rules) }

  pub independent-fit : (s : Fields) (es : List Named) → have_all_kinds [] (exprs_of es) ≡ true → list_all is_independent (exprs_of es) ≡ true → GivesSchema F (select es) ([] ∷ []) s → IsFitOver F (independent_select es) s []
  independent-fit s es kinds independent g =
      record { inputs = refl; schema = g.schema; not_empty = some (select es) ([] ∷ []) s g; parameters = independent; kinds = kinds; rules = (λ h. h, λ h. h, λ h. h, λ R h. g.rules R (same-refused F es R h)) }

  module _ (o : JoinStep) (l r s : Fields) where
    pub join-fit : (fields : Fields) → s ≢ [] → ¬ HasBadKeys (join o) → ¬ IsValidation o.args.validation → have_all_kinds l o.left_on ≡ true → have_all_kinds r o.right_on ≡ true → GivesSchema F (join o) (l ∷ r ∷ []) fields → HasFieldsOf fields s
        → IsFitOver F (in_memory_join o) s (l ∷ r ∷ [])
    join-fit fields none keys validated left right g has =
        let P : Fields → Type 0 = λ fs. HasFieldsOf fs s in
        let same : fields ≡ join_schema o l r = cc_some fields (join_schema o l r) (sym g.schema) in
        record {
          inputs = refl;
          schema = subst P same has;
          not_empty = none;
          parameters = tt;
          kinds = and-both (have_all_kinds l o.left_on) (have_all_kinds r o.right_on) left right;
          rules = (keys, λ h. h, validated, g.rules);
        }
      where
        cc_some : (a b : Fields) → Some a ≡ Some b → a ≡ b
        cc_some a b e = cc

    pub equi-fit : IsFitOver F (in_memory_join o) s (l ∷ r ∷ []) → list_all is_elementwise o.left_on ≡ true → list_all is_elementwise o.right_on ≡ true → goes_by_left o.args.how ≡ true → o.args.slice ≡ None → IsFitOver F (equi_join o) s (l ∷ r ∷ [])
    equi-fit g left right goes uncut = record { inputs = refl; schema = g.schema; not_empty = g.not_empty; parameters = (left, right, goes, uncut); kinds = g.kinds; rules = g.rules }

-- what is distinct by options
abbrev pub distinct-of : DistinctOptions → DistinctStep
distinct-of o = record { subset = o.subset; maintain_order = o.maintain_order; keep = o.keep_strategy; cut = o.slice }

-- keys of which there are some
pub some-names : (f : Node → Tree) (es : List ExprIR) (empty : Bool) → (IsTrue empty ↔ (es ≡ [])) → empty ≡ false → named_trees f es ≢ []
some-names f [] empty is none h = let all : empty ≡ true = is.1 refl in let clash : true ≡ false = sym all ∙ none in cc
some-names f (e ∷ es) empty is none h = cc

-- a schema that isn't empty
pub filled : (s : Fields) (empty : Bool) → (IsTrue empty ↔ (s ≡ [])) → empty ≡ false → s ≢ []
filled s empty is none h = let all : empty ≡ true = is.1 h in let clash : true ≡ false = sym all ∙ none in cc

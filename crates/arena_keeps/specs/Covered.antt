-- Plans of steps that are known to be kept.
use Rattle.std.specs.Prelude.{◌≡◌, ◌≢◌, ◌⊎◌, ◌&&◌, List, [], ◌++◌, Some, None, true, false, ⊤}
use Rattle.std.specs.List.{AllByRecursion, list_all}
use Rattle.ps_frame.specs.Frames.{has_distinct_names}
use Rattle.ps_frame.specs.Functions.{Functions}
use Rattle.ps_frame.specs.Lawful.{FitsFrame}
use Rattle.ps_frame.specs.Tables.{Fields, Frame}
use Rattle.ps_frame.specs.Typing.{is_elementwise}
use Rattle.ps_meaning.specs.Joins.{goes_by_left}
use Rattle.ps_meaning.specs.PlanTrees.{PlanTree, PlanTrees, missing, no_trees, node, tree}
use Rattle.ps_meaning.specs.Schemas.{fields_of, first_schema, join_schema, named_fields, second_schema, tree_schemas}
use Rattle.ps_meaning.specs.Steps.{GroupStep, JoinStep, Name, Named, Step, cache, distinct, exprs_of, filter, group_by, hconcat, hstack, join, project, row_index, scan, select, sink, slice, sort, union, user}
use Rattle.ps_rules.specs.Calls.{all_independent}
use Rattle.plan_rules.specs.Distinct.{keeps_last}
use Rattle.plan_rules.specs.Groups.{can_stream}
use Rattle.step_keeps.specs.Kept.{IsPlainReduction, are_all_own}

abbrev pub HasNoInput : PlanTrees → Type 0
HasNoInput no_trees = ⊤
HasNoInput _ = ⊥

abbrev pub HasOneInput : PlanTrees → Type 0
HasOneInput (tree t no_trees) = ⊤
HasOneInput _ = ⊥

abbrev pub HasTwoInputs : PlanTrees → Type 0
HasTwoInputs (tree t (tree u no_trees)) = ⊤
HasTwoInputs _ = ⊥

-- the columns that a scan asks for stand in its table, whose names differ and whose rows fit
pub record IsFitScan (t : Frame) (names : List Name) : Type 0 where
  pub fields : Fields
  pub named : named_fields names t.schema ≡ Some fields
  pub distinct_names : has_distinct_names t.schema ≡ true
  pub rows : FitsFrame t

-- each expression goes by cell, some expression reads the input, and not all are columns under their own names
pub record IsCellSelect (es : List Named) : Type 0 where
  pub cells : list_all is_elementwise (exprs_of es) ≡ true
  pub reads : all_independent (exprs_of es) ≡ false
  pub others : are_all_own es ≡ false

-- it streams over an input of this schema, its keys go by cell, and each aggregate is a reduction or the height
pub record IsPlainGroup (s : Fields) (o : GroupStep) : Type 0 where
  pub streams : can_stream o ≡ true
  pub keys : list_all is_elementwise (exprs_of o.keys) ≡ true
  pub aggregates : AllByRecursion (λ (e : Named). IsPlainReduction e.1) o.aggregates
  pub some_key : o.keys ≢ []
  pub some_column : s ≢ []
  pub fields : Fields
  pub typed : fields_of (o.keys ++ o.aggregates) s ≡ Some fields

-- it goes by keys that go by cell, over inputs of these schemas
pub record IsCellJoin (left right : Fields) (o : JoinStep) : Type 0 where
  pub keyed : goes_by_left o.args.how ≡ true
  pub left_keys : list_all is_elementwise o.left_on ≡ true
  pub right_keys : list_all is_elementwise o.right_on ≡ true
  pub left_column : left ≢ []
  pub right_column : right ≢ []

-- the step has the inputs that it takes, and is of a kind that is known to be kept
abbrev pub IsCoveredStep : Functions → Step → PlanTrees → Type 0
IsCoveredStep F (scan t None) below = HasNoInput below
IsCoveredStep F (scan t (Some names)) below = HasNoInput below × IsFitScan t names
IsCoveredStep F (project names) below = HasOneInput below
IsCoveredStep F (select es) below = HasOneInput below × IsCellSelect es
IsCoveredStep F (hstack es) below = HasOneInput below × (list_all is_elementwise (exprs_of es) ≡ true)
IsCoveredStep F (filter e) below = HasOneInput below × (is_elementwise e ≡ true) × (first_schema (tree_schemas F below) ≢ [])
IsCoveredStep F (slice offset n) below = HasOneInput below
IsCoveredStep F (sink target) below = HasOneInput below
IsCoveredStep F (row_index name offset) below = HasOneInput below
IsCoveredStep F (user n) below = HasOneInput below
IsCoveredStep F (sort o) below = HasOneInput below
IsCoveredStep F (union cut) below = ⊤
IsCoveredStep F hconcat below = ⊤
IsCoveredStep F (cache id) below = ⊤
IsCoveredStep F (group_by o) below = HasOneInput below × ((can_stream o ≡ false) ⊎ IsPlainGroup (first_schema (tree_schemas F below)) o)
IsCoveredStep F (join o) below =
    let l = first_schema (tree_schemas F below) in
    let r = second_schema (tree_schemas F below) in
    HasTwoInputs below × (has_distinct_names (join_schema o l r) ≡ true) × ((goes_by_left o.args.how ≡ false) ⊎ IsCellJoin l r o)
IsCoveredStep F (distinct o) below = HasOneInput below × ((o.maintain_order && keeps_last o.keep) ≡ true)
IsCoveredStep F _ below = ⊥

abbrev mutual
  pub IsCovered : Functions → PlanTree → Type 0
  IsCovered F (node at step below) = IsCoveredStep F step below × AreCovered F below
  IsCovered F missing = ⊥

  pub AreCovered : Functions → PlanTrees → Type 0
  AreCovered F no_trees = ⊤
  AreCovered F (tree t ts) = IsCovered F t × AreCovered F ts

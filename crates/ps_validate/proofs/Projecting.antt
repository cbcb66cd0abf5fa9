-- Scans, projections and distinct rows: which rules on names hold of them, and what is refused.
use Rattle.std.proofs.Common.{◌≡◌, ◌≢◌, List, [], ◌∷◌, Bool, true, false, refl, sym, subst, inl}
use Rattle.std.specs.Prelude.{IsTrue, Some, None}
use Rattle.pu_base.specs.declared.arena.Node.{Node}
use Rattle.ps_frame.specs.Frames.{has_distinct_names}
use Rattle.ps_frame.specs.Functions.{Functions}
use Rattle.ps_frame.specs.Tables.{Fields, Frame}
use Rattle.ps_frame.specs.declared.refusal.PolarsError.{PolarsError}
use Rattle.ps_frame.specs.declared.refusal.PolarsError.TheVariants as error
use Rattle.ps_meaning.specs.StepRefusals.{IsMissingColumn, IsRepeated, lacks_name, repeats}
use Rattle.ps_meaning.specs.Schemas.{named_fields}
use Rattle.ps_meaning.specs.Steps.{Cut, Name, Step, distinct, project, scan}
use Rattle.ps_meaning.specs.declared.options.UniqueKeepStrategy.{UniqueKeepStrategy}
use Rattle.ps_validate.proofs.Naming.{named-lacks, named-names}
use Rattle.ps_validate.proofs.Selecting.{differ}
use Rattle.ps_validate.proofs.Typed.{gives-by, names-are, none-left}
use Rattle.ps_validate.specs.Columns.{IsNamingError}
use Rattle.ps_validate.specs.Nodes.{GivesSchema, IsNodeError}

never : false ≡ true → ⊥
never h = cc

-- names of columns that were found, and differ, aren't repeated
pub unrepeated : (ns : List Name) (s fs : Fields) (n : Name) → named_fields ns s ≡ Some fs → IsTrue (has_distinct_names fs) → repeats n ns ≡ true → ⊥
unrepeated ns s fs n h d r = differ fs n d (subst (λ ms. repeats n ms ≡ true) (sym (named-names ns s fs h)) r)

module _ (F : Functions) where
  pub scan-gives : (t : Frame) → IsTrue (has_distinct_names t.schema) → t.schema ≢ [] → GivesSchema F (scan t None) [] t.schema
  scan-gives t d some =
      gives-by F (scan t None) [] t.schema (record { schema = refl; names = refl; distinct = d; some = some }) (λ n h. never h) (λ n h. h) (λ h. h) (λ h. never h) (λ h. h) none-left

  pub named-scan-gives : (t : Frame) (ns : List Name) (fs : Fields) → named_fields ns t.schema ≡ Some fs → IsTrue (has_distinct_names fs) → fs ≢ [] → GivesSchema F (scan t (Some ns)) [] fs
  named-scan-gives t ns fs h d some =
      gives-by F (scan t (Some ns)) [] fs (record { schema = h; names = names-are (named_fields ns t.schema) fs h; distinct = d; some = some }) (λ n l. named-lacks ns t.schema fs n h l) (λ n r. unrepeated ns t.schema fs n h d r) (λ h. h) (λ h. never h) (λ h. h) none-left

  pub project-gives : (s : Fields) (ns : List Name) (fs : Fields) → named_fields ns s ≡ Some fs → IsTrue (has_distinct_names fs) → fs ≢ [] → GivesSchema F (project ns) (s ∷ []) fs
  project-gives s ns fs h d some =
      gives-by F (project ns) (s ∷ []) fs (record { schema = h; names = names-are (named_fields ns s) fs h; distinct = d; some = some }) (λ n l. named-lacks ns s fs n h l) (λ n r. unrepeated ns s fs n h d r) (λ h. h) (λ h. never h) (λ h. h) none-left

  -- distinct rows by all columns, or by some
  module _ (maintain : Bool) (keep : UniqueKeepStrategy) (cut : Cut) where
    abbrev pub by_all : Step
    by_all = distinct (record { subset = None; maintain_order = maintain; keep = keep; cut = cut })

    abbrev pub by_some : List Name → Step
    by_some ns = distinct (record { subset = Some ns; maintain_order = maintain; keep = keep; cut = cut })

    pub distinct-gives : (s : Fields) → IsTrue (has_distinct_names s) → s ≢ [] → GivesSchema F by_all (s ∷ []) s
    distinct-gives s d some =
        gives-by F by_all (s ∷ []) s (record { schema = refl; names = refl; distinct = d; some = some }) (λ n h. h) (λ n h. h) (λ h. h) (λ h. never h) (λ h. h) none-left

    pub named-distinct-gives : (s : Fields) (ns : List Name) (fs : Fields) → named_fields ns s ≡ Some fs → IsTrue (has_distinct_names fs) → IsTrue (has_distinct_names s) → s ≢ [] → GivesSchema F (by_some ns) (s ∷ []) s
    named-distinct-gives s ns fs h df d some =
        gives-by F (by_some ns) (s ∷ []) s (record { schema = refl; names = refl; distinct = d; some = some }) (λ n l. named-lacks ns s fs n h l) (λ n r. unrepeated ns s fs n h df r) (λ h. h) (λ h. never h) (λ h. h) none-left

-- what is refused of names is refused of a step that names them
pub naming-error : (F : Functions) (at : Node) (step : Step) (ss : List Fields) (s : Fields) (ns : List Name) (e : PolarsError) → IsNamingError at s ns e → ((n : Name) → lacks_name n s ns ≡ true → IsMissingColumn n step ss) → ((n : Name) → repeats n ns ≡ true → IsRepeated n step)
    → IsNodeError F at step ss e
naming-error F at step ss s ns (error.ColumnNotFound node name) h missing repeated = (h.0, missing name h.1)
naming-error F at step ss s ns (error.Duplicate node name) h missing repeated = (h.0, inl (repeated name h.1))
naming-error F at step ss s ns error.OutOfMemory h missing repeated = tt
naming-error F at step ss s ns (error.SchemaMismatch node) h missing repeated = absurd h
naming-error F at step ss s ns (error.Unsupported node w) h missing repeated = absurd h
naming-error F at step ss s ns (error.InvalidPlan node why) h missing repeated = absurd h
naming-error F at step ss s ns (error.ComputeError node why) h missing repeated = absurd h
naming-error F at step ss s ns (error.ShapeMismatch node) h missing repeated = absurd h
naming-error F at step ss s ns (error.OutOfBounds node why) h missing repeated = absurd h

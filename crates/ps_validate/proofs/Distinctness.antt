-- Columns of which some are taken away still have names that differ, and so none repeats.
use Rattle.std.proofs.Common.{◌≡◌, List, [], ◌∷◌, ◌++◌, Bool, true, false, refl, subst, ◌∙◌, ap}
use Rattle.std.specs.Prelude.{if◌then◌else◌, not, ◌||◌, IsTrue}
use Rattle.std.specs.Str.{bytes_eq}
use Rattle.std.proofs.lemmas.Bool.{and_from, and_parts}
use Rattle.pu_base.specs.declared.arena.Node.{Node}
use Rattle.ps_frame.specs.Frames.{has_distinct_names, has_name}
use Rattle.ps_frame.specs.Tables.{Fields}
use Rattle.ps_frame.specs.declared.refusal.PolarsError.{PolarsError}
use Rattle.ps_frame.specs.declared.refusal.PolarsError.TheVariants as error
use Rattle.ps_meaning.specs.Schemas.{is_among, names_of, without}
use Rattle.ps_meaning.specs.Steps.{Name}
use Rattle.ps_validate.proofs.Selecting.{differ}
use Rattle.ps_validate.proofs.Stacking.{apart, not-there}
use Rattle.ps_validate.specs.Columns.{IsRepeatError}

-- a name that isn't there isn't there without some
without-lacks : (ns : List Name) (n : Name) (s : Fields) → has_name n s ≡ false → has_name n (without ns s) ≡ false
without-lacks ns n [] h = refl
without-lacks ns n (f ∷ fs) h = let p = apart (bytes_eq n f.0) (has_name n fs) h in by (is_among f.0 ns) p.0 (without-lacks ns n fs p.1)
  where
    by : (b : Bool) → bytes_eq n f.0 ≡ false → has_name n (without ns fs) ≡ false → has_name n (if not b then f ∷ without ns fs else without ns fs) ≡ false
    by true e r = r
    by false e r = ap (λ c. c || has_name n (without ns fs)) e ∙ r

pub without-distinct : (ns : List Name) (s : Fields) → IsTrue (has_distinct_names s) → IsTrue (has_distinct_names (without ns s))
without-distinct ns [] d = refl
without-distinct ns (f ∷ fs) d = let p = and_parts (not (has_name f.0 fs)) (has_distinct_names fs) d in by (is_among f.0 ns) (without-lacks ns f.0 fs (not-there (has_name f.0 fs) p.0)) (without-distinct ns fs p.1)
  where
    by : (b : Bool) → has_name f.0 (without ns fs) ≡ false → has_distinct_names (without ns fs) ≡ true → has_distinct_names (if not b then f ∷ without ns fs else without ns fs) ≡ true
    by true e r = r
    by false e r = and_from (not (has_name f.0 (without ns fs))) (has_distinct_names (without ns fs)) (ap not e) r

-- where no name stands twice only memory can be wanting
pub repeats-memory : (at : Node) (z fs : Fields) (e : PolarsError) → z ≡ [] → IsTrue (has_distinct_names fs) → IsRepeatError at (names_of (z ++ fs)) e → e ≡ error.OutOfMemory
repeats-memory at z fs (error.Duplicate node name) none d h = absurd (differ fs name d (subst (λ (z : Fields). IsRepeatError at (names_of (z ++ fs)) (error.Duplicate node name)) none h).1)
repeats-memory at z fs error.OutOfMemory none d h = refl
repeats-memory at z fs (error.ColumnNotFound node name) none d h = absurd h
repeats-memory at z fs (error.SchemaMismatch node) none d h = absurd h
repeats-memory at z fs (error.Unsupported node w) none d h = absurd h
repeats-memory at z fs (error.InvalidPlan node w) none d h = absurd h
repeats-memory at z fs (error.ComputeError node w) none d h = absurd h
repeats-memory at z fs (error.ShapeMismatch node) none d h = absurd h
repeats-memory at z fs (error.OutOfBounds node w) none d h = absurd h

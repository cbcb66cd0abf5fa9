-- Nodes that pass their input's columns on.
use Rattle.std.proofs.Common.{◌≡◌, ◌≢◌, [], ◌∷◌, true, false, refl}
use Rattle.std.specs.Prelude.{IsTrue}
use Rattle.pu_base.specs.declared.arena.Node.{Node}
use Rattle.ps_frame.specs.Frames.{has_distinct_names}
use Rattle.ps_frame.specs.Functions.{Functions}
use Rattle.ps_frame.specs.Tables.{Fields}
use Rattle.ps_frame.specs.declared.refusal.PolarsError.{PolarsError}
use Rattle.ps_meaning.specs.Steps.{Step, slice, sink, cache}
use Rattle.ps_validate.proofs.Typed.{empty-error, gives-by, none-left}
use Rattle.ps_validate.specs.Columns.{IsEmptyError}
use Rattle.ps_validate.specs.Nodes.{GivesSchema, IsNodeError, PassesColumns}

never : false ≡ true → ⊥
never h = cc

pub passed-gives : (F : Functions) (step : Step) (s : Fields) → PassesColumns step → IsTrue (has_distinct_names s) → s ≢ [] → GivesSchema F step (s ∷ []) s
passed-gives F (slice offset n) s p d some = gives-by F (slice offset n) (s ∷ []) s (record { schema = refl; names = refl; distinct = d; some = some }) (λ n h. never h) (λ n h. h) (λ h. h) (λ h. never h) (λ h. h) none-left
passed-gives F (sink payload) s p d some = gives-by F (sink payload) (s ∷ []) s (record { schema = refl; names = refl; distinct = d; some = some }) (λ n h. never h) (λ n h. h) (λ h. h) (λ h. never h) (λ h. h) none-left
passed-gives F (cache id) s p d some = gives-by F (cache id) (s ∷ []) s (record { schema = refl; names = refl; distinct = d; some = some }) (λ n h. never h) (λ n h. h) (λ h. h) (λ h. never h) (λ h. h) none-left
passed-gives F _ s p d some = absurd p

pub passed-error : (F : Functions) (at : Node) (step : Step) (s : Fields) (e : PolarsError) → PassesColumns step → IsEmptyError at s e → IsNodeError F at step (s ∷ []) e
passed-error F at (slice offset n) s e p h = empty-error F (slice offset n) (s ∷ []) s at e refl h
passed-error F at (sink payload) s e p h = empty-error F (sink payload) (s ∷ []) s at e refl h
passed-error F at (cache id) s e p h = empty-error F (cache id) (s ∷ []) s at e refl h
passed-error F at _ s e p h = absurd p

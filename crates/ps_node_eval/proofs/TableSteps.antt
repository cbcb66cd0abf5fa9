-- What a step without expressions is ready for.
use Rattle.std.proofs.Common.{◌≡◌, ◌≢◌, ℕ, ◌<◌, List, [], ◌∷◌, sym, subst, ap, ◌∙◌, refl, arith}
use Rattle.std.proofs.lemmas.Int.{to_z-of_z}
use Rattle.std.proofs.lemmas.Option.{same_Some}
use Rattle.std.proofs.lemmas.Result.{IfErr-weaker, IfOk-weaker}
use Rattle.std.specs.Prelude.{IfErr, IfOk, IsSome, Option, Some, None, ℤ, length, map, slice_get}
use mir.Syntax.{w64}
use mir.Val.{SFits, of_z, to_z}
use Rattle.std.specs.List.{AllByRecursion}
use Rattle.ps_frame.specs.Functions.{Functions}
use Rattle.ps_frame.specs.Tables.{Fields, Frame}
use Rattle.ps_frame.specs.declared.value.DataType.TheVariants as kind
use Rattle.ps_meaning.specs.Nodes.{GivesFrame, MayFault}
use Rattle.ps_meaning.specs.Schemas.{first_schema, joined_schemas, named_fields}
use Rattle.ps_meaning.specs.Steps.{Cut, Name, function_step, hconcat, project, row_index, scan, slice, union, user}
use Rattle.ps_meaning.specs.declared.options.FunctionIR.{FunctionIR}
use Rattle.ps_meaning.specs.declared.options.FunctionIR.TheVariants as call
use Rattle.ready_steps.specs.Ready.{IsReady, IsReadyFor, frame_schemas}
use Rattle.ready_steps.proofs.OverInputs.{Answer, gives-at, no-inputs}

pub scan-found : (d : Frame) (ns : List Name) (fs : List Frame) (s : Fields) → IsReady (scan d (Some ns)) fs s → named_fields ns d.schema ≡ Some s
scan-found d ns fs s r = r.1.schema

pub scan-named : (at : ℕ) (d : Frame) (columns : Option (List Name)) (ns : List Name) (fs : List Frame) (ms : List Name) (r : Answer) → columns ≡ Some ns → ms ≡ ns → length fs ≡ 0
    → IfOk r (λ f. (F : Functions) (n : ℕ) → GivesFrame F n (scan d (Some ms)) [] f) → IfOk r (λ f. (F : Functions) → GivesFrame F at (scan d columns) fs f)
scan-named at d columns ns fs ms r p q e h =
    IfOk-weaker r _ _
    (λ f g F. let named : columns ≡ Some ms = p ∙ ap (λ x. Some x) (sym q) in subst (λ gs. GivesFrame F at (scan d columns) gs f) (sym (no-inputs fs e)) (subst (λ o. GivesFrame F at (scan d o) [] f) (sym named) (g F at)))
    h

pub project-found : (ns : List Name) (fs : List Frame) (d : Frame) (s : Fields) → fs ≡ d ∷ [] → IsReady (project ns) fs s → named_fields ns d.schema ≡ Some s
project-found ns fs d s e r = ap (λ gs. named_fields ns (first_schema (frame_schemas gs))) (sym e) ∙ r.1.schema

-- an offset that is passed by value
pub slice-gives : (at : ℕ) (offset : ℤ) (len : ℕ) (fs : List Frame) (d : Frame) (r : Answer) → fs ≡ d ∷ [] → SFits w64 offset
    → IfOk r (λ f. (F : Functions) (n : ℕ) → GivesFrame F n (slice (to_z w64 (of_z w64 offset)) len) (d ∷ []) f)
    → IfOk r (λ f. (F : Functions) → GivesFrame F at (slice offset len) fs f)
slice-gives at offset len fs d r e fits h =
    gives-at at (slice offset len) fs (d ∷ []) r e (subst (λ z. IfOk r (λ f. (F : Functions) (n : ℕ) → GivesFrame F n (slice z len) (d ∷ []) f)) (to_z-of_z w64 offset fits) h)

pub row-numbered : (name : Name) (offset : Option ℕ) (fs : List Frame) (d : Frame) (s : Fields) → fs ≡ d ∷ [] → IsReady (row_index name offset) fs s → s ≡ (name, kind.IdxSize) ∷ d.schema
row-numbered name offset fs d s e r = sym (same_Some _ _ r.1.schema) ∙ ap (λ gs. (name, kind.IdxSize) ∷ first_schema (frame_schemas gs)) e

pub row-gives : (at : ℕ) (offset : Option ℕ) (fs : List Frame) (d : Frame) (s : Fields) (r : Answer) → fs ≡ d ∷ []
    → IfOk r (λ f. (F : Functions) (name : Name) → s ≡ (name, kind.IdxSize) ∷ d.schema → GivesFrame F at (row_index name offset) (d ∷ []) f)
    → IfOk r (λ f. (F : Functions) (name : Name) → IsReady (row_index name offset) fs s → GivesFrame F at (row_index name offset) fs f)
row-gives at offset fs d s r e h = IfOk-weaker r _ _ (λ f g F name ready. subst (λ gs. GivesFrame F at (row_index name offset) gs f) (sym e) (g F name (row-numbered name offset fs d s e ready))) h

pub row-faults : (at : ℕ) (offset : Option ℕ) (fs : List Frame) (d : Frame) (r : Answer) → fs ≡ d ∷ []
    → IfErr r (λ e. (F : Functions) (name : Name) → MayFault F at (row_index name offset) (d ∷ []) e)
    → IfErr r (λ e. (F : Functions) (name : Name) → MayFault F at (row_index name offset) fs e)
row-faults at offset fs d r e h = subst (λ gs. IfErr r (λ x. (F : Functions) (name : Name) → MayFault F at (row_index name offset) gs x)) (sym e) h

module _ (F : Functions) (at : ℕ) (g : FunctionIR) (name : Name) (offset : Option ℕ) (fs : List Frame) where
  pub mapped-gives : (s : Fields) (r : Answer) → g ≡ call.RowIndex name offset → IsReadyFor F (function_step g) fs s
      → IfOk r (λ f. (G : Functions) (m : Name) → IsReady (row_index m offset) fs s → GivesFrame G at (row_index m offset) fs f)
      → IfOk r (λ f. GivesFrame F at (function_step g) fs f)
  mapped-gives s r q ready h =
      IfOk-weaker r _ _ (λ f k. subst (λ x. GivesFrame F at (function_step x) fs f) (sym q) (k F name (F, subst (λ x. IsReadyFor F (function_step x) fs s) q ready))) h

  pub mapped-faults : (r : Answer) → g ≡ call.RowIndex name offset → IfErr r (λ e. (G : Functions) (m : Name) → MayFault G at (row_index m offset) fs e) → IfErr r (λ e. MayFault F at (function_step g) fs e)
  mapped-faults r q h = IfErr-weaker r _ _ (λ e k. subst (λ x. MayFault F at (function_step x) fs e) (sym q) (k F name)) h

pub user-counted : (F : Functions) (n : ℕ) (fs : List Frame) (s : Fields) → IsReadyFor F (user n) fs s → n < F.count
user-counted F n fs s r = let known = r.fit.known in omega (arith, known)

pub user-declared : (F : Functions) (n : ℕ) (fs : List Frame) (d : Frame) (s : Fields) → fs ≡ d ∷ [] → IsReadyFor F (user n) fs s → IsSome (F.declared n d.schema)
user-declared F n fs d s e r = let is : F.declared n d.schema ≡ Some s = ap (λ gs. F.declared n (first_schema (frame_schemas gs))) (sym e) ∙ r.schema in rw is refl

-- inputs that a step needs
pub some-inputs : (fs : List Frame) → frame_schemas fs ≢ [] → fs ≢ []
some-inputs fs h e = h (ap frame_schemas e)

-- what holds of the schemas of tables
pub all-frames : (P : Fields → Type 0) (fs : List Frame) → AllByRecursion P (frame_schemas fs) → AllByRecursion (λ (f : Frame). P f.schema) fs
all-frames P [] h = tt
all-frames P (f ∷ fs) h = (h.0, all-frames P fs h.1)

first-given : (ss : List Fields) (s : Fields) → slice_get ss 0 ≡ Some s → first_schema ss ≡ s
first-given [] s e = absurd (let q : None ≡ Some s = e in cc)
first-given (t ∷ ss) s e = same_Some _ _ e

pub union-some : (cut : Cut) (fs : List Frame) (s : Fields) → IsReady (union cut) fs s → fs ≢ []
union-some cut fs s r = some-inputs fs (r.1.fit.input tt)

pub union-alike : (cut : Cut) (fs : List Frame) (s : Fields) → IsReady (union cut) fs s → AllByRecursion (λ (f : Frame). f.schema ≡ s) fs
union-alike cut fs s r =
    let is = first-given (frame_schemas fs) s r.1.schema in
    all-frames (λ t. t ≡ s) fs (subst (λ u. AllByRecursion (λ t. t ≡ u) (frame_schemas fs)) is r.1.fit.typed.alike)

pub beside-columns : (fs : List Frame) (s : Fields) → IsReady hconcat fs s → AllByRecursion (λ (f : Frame). f.schema ≢ []) fs
beside-columns fs s r = all-frames (λ t. t ≢ []) fs r.1.fit.columns

pub beside-joined : (fs : List Frame) (s : Fields) → IsReady hconcat fs s → s ≡ joined_schemas (map (λ (f : Frame). f.schema) fs)
beside-joined fs s r = sym (same_Some _ _ r.1.schema)

-- What a sound shape says of a node with one input.
use Rattle.std.proofs.Common.{◌≡◌, ℕ, zero, suc, ◌<◌, List, [], ◌∷◌, Some, refl, sym, ap, subst, ◌∙◌, arith}
use Rattle.std.specs.Prelude.{◌≢◌, IsTrue, map, slice_get}
use Rattle.std.specs.List.{AllByRecursion}
use Rattle.ps_frame.specs.Functions.{Functions}
use Rattle.ps_frame.specs.Tables.{Fields}
use Rattle.ps_meaning.specs.Shape.{PhysicalKind, PhysicalNode, Shape, reduce}
use Rattle.ps_meaning.specs.Sound.{HasFitParameters, HasSchema, IsFitNode, IsSound, have_kinds_over, input_schemas, rules_of, schema_at}
use Rattle.ps_meaning.specs.Steps.{Named}
use Rattle.part_laws.specs.Parts.{ShowsParts}
use Rattle.part_laws.proofs.ReduceFaults.{reduces-show}

-- what stands before an item is there
stands-before : {A : Type 0} (xs : List A) (m n : ℕ) (x : A) → slice_get xs n ≡ Some x → m < n → (y : A) × (slice_get xs m ≡ Some y)
stands-before [] m n x e h = cc
stands-before (y ∷ xs) zero n x e h = (y, refl)
stands-before (y ∷ xs) (suc m) zero x e h = absurd (omega arith)
stands-before (y ∷ xs) (suc m) (suc n) x e h = stands-before xs m n x e (omega arith)

module _ (F : Functions) (shape : Shape) (n : ℕ) (p : PhysicalNode) (s : Fields) (sound : IsSound F shape) (there : slice_get shape n ≡ Some p) (reads : input_schemas shape p ≡ s ∷ []) where
  abbrev pub fits : IsFitNode F shape n p
  fits = sound.0 n p there

  -- a schema of an input isn't empty
  input-columns : (is : List (ℕ × ℕ)) → AllByRecursion (λ i. i.0 < n) is → map (λ (i : ℕ × ℕ). schema_at (slice_get shape i.0)) is ≡ s ∷ [] → s ≢ []
  input-columns [] h e = cc
  input-columns (i ∷ is) h e =
      let m = stands-before shape i.0 n p there h.0 in
      let same : schema_at (slice_get shape i.0) ≡ s = cc in
      λ none. (sound.0 i.0 m.0 m.1).not_empty (ap schema_at (sym m.1) ∙ same ∙ none)

  pub has-columns : s ≢ []
  has-columns = input-columns p.inputs fits.earlier reads

  -- its parameters and kinds, by its kind
  pub parameters-of : (kd : PhysicalKind) → p.kind ≡ kd → HasFitParameters F kd
  parameters-of kd is = subst (HasFitParameters F) is fits.parameters

  pub kinds-of-input : (kd : PhysicalKind) → p.kind ≡ kd → IsTrue (have_kinds_over (s ∷ []) (rules_of kd))
  kinds-of-input kd is = subst (λ ss. IsTrue (have_kinds_over ss (rules_of kd))) reads (subst (λ kd. IsTrue (have_kinds_over (input_schemas shape p) (rules_of kd))) is fits.kinds)

  pub schema-of : (kd : PhysicalKind) → p.kind ≡ kd → HasSchema F kd (s ∷ []) p.schema
  schema-of kd is = subst (λ ss. HasSchema F kd ss p.schema) reads (subst (λ kd. HasSchema F kd (input_schemas shape p) p.schema) is fits.schema)

  pub sound-reduces-show : (es : List Named) → p.kind ≡ reduce es → ShowsParts F p s
  sound-reduces-show es is = reduces-show F p s es is (parameters-of (reduce es) is) (kinds-of-input (reduce es) is)

-- What is known of a node's claim by the node's kind.
use Rattle.std.proofs.Common.{◌≡◌, ℕ, zero, suc, Bool, true, false, cond, List, [], ◌∷◌, length, Option, None, Some, refl, sym, ap, subst, ◌∙◌, arith}
use Rattle.std.specs.Prelude.{◌&&◌, not, slice_get}
use Rattle.std.proofs.lemmas.List.{length-map}
use Rattle.std.proofs.lemmas.Option.{same_Some}
use Rattle.node_work.proofs.Fit.{Fits}
use Rattle.ps_flow.specs.Claiming.{ClaimsOf, next_of}
use Rattle.ps_frame.specs.Functions.{Functions}
use Rattle.ps_frame.specs.Tables.{Fields, Frame}
use Rattle.ps_meaning.specs.Shape.{PhysicalKind, Shape}
use Rattle.ps_meaning.specs.Sound.{HasInputs, HasSchema, input_schemas, schema_at}
use Rattle.ps_nodes.specs.Seen.{options_of, progress_of}
use Rattle.ps_nodes.specs.declared.flow.FlowNode.{FlowNode}
use Rattle.ps_options.specs.declared.options.Options.{Options}
use Rattle.ps_turns.specs.Claims.{Claim, claim_by}
use Rattle.turn_laws.specs.Updating.{SeenNode}
use Rattle.flow_runs.specs.Running.{Has, HasComeAsFar, IsCutBy}
use Rattle.flow_runs.specs.declared.node.RunningNode.{RunningNode}

-- A NODE'S CLAIM, BY ITS KIND
-- the kind of a node of the graph is that of the node of the shape, so this is its claim
module _ (F : Functions) (shape : Shape) (m : ℕ) (o : Options) (x : SeenNode) (i number : ℕ) (morsel : Option Frame) (c : Claim) (d : ClaimsOf F shape m o x i number morsel c) where
  abbrev ClaimsBy : PhysicalKind → Type 0
  ClaimsBy k = claim_by o x.node x.schemas k x.progress d.heads d.dones i (next_of number morsel) ≡ Some c

  pub by_kind : (k : PhysicalKind) → k ≡ x.node.kind → ClaimsBy k
  by_kind k e = subst ClaimsBy (sym e) d.claims

  pub schema_by : (k : PhysicalKind) → k ≡ x.node.kind → HasSchema F k x.schemas x.node.schema
  schema_by k e = subst (λ (j : PhysicalKind). HasSchema F j x.schemas x.node.schema) (sym e) (subst (λ (ss : List Fields). HasSchema F x.node.kind ss x.node.schema) (sym d.schemas) d.fit.schema)

  -- what its kind asks of it
  pub fits_by : (k : PhysicalKind) → k ≡ x.node.kind → Fits F x.schemas x.node.schema k
  fits_by k e =
      let own : Fits F (input_schemas shape x.node) x.node.schema x.node.kind = record { schema = d.fit.schema; parameters = d.fit.parameters; kinds = d.fit.kinds; rules = d.fit.rules } in
      subst (λ (j : PhysicalKind). Fits F x.schemas x.node.schema j) (sym e) (subst (λ (ss : List Fields). Fits F ss x.node.schema x.node.kind) (sym d.schemas) own)

  -- how many inputs it has
  pub inputs_by : (k : PhysicalKind) → k ≡ x.node.kind → HasInputs k (length x.schemas)
  inputs_by k e =
      let many : length x.schemas ≡ length x.node.inputs = ap length d.schemas ∙ length-map x.node.inputs (λ (j : ℕ × ℕ). schema_at (slice_get shape j.0)) in
      subst (λ (j : ℕ). HasInputs k j) (sym many) (subst (λ (j : PhysicalKind). HasInputs j (length x.node.inputs)) (sym e) d.fit.inputs)

-- a claim at the first input alone
pub first_alone : (b : Bool) (y : Option Claim) (c : Claim) → cond b y None ≡ Some c → (b ≡ true) × (y ≡ Some c)
first_alone true y c e = (refl, e)
first_alone false y c e = absurd (let never : None ≡ Some c = e in cc)

-- a claim of what isn't exhausted
pub not_spent : (b : Bool) (y c : Claim) → cond b None (Some y) ≡ Some c → (b ≡ false) × (y ≡ c)
not_spent true y c e = absurd (let never : None ≡ Some c = e in cc)
not_spent false y c e = (refl, same_Some y c e)

pub both_true : (a b : Bool) → a ≡ true → b ≡ false → (a && not b) ≡ false → ⊥
both_true true false e f h = let never : true ≡ false = h in cc
both_true true true e f h = let never : true ≡ false = f in cc
both_true false b e f h = let never : false ≡ true = e in cc

-- a claim of what is left
pub still_left : (b : Bool) (y c : Claim) → cond b (Some y) None ≡ Some c → (b ≡ true) × (y ≡ c)
still_left true y c e = (refl, same_Some y c e)
still_left false y c e = absurd (let never : None ≡ Some c = e in cc)

-- one schema alone
pub only_one : (ss : List Fields) (i : ℕ) (s : Fields) → length ss ≡ 1 → slice_get ss i ≡ Some s → ss ≡ s ∷ []
only_one [] i s one e = absurd (omega arith)
only_one (t ∷ []) zero s one e = ap (λ (u : Fields). u ∷ []) (same_Some t s e)
only_one (t ∷ []) (suc i) s one e = absurd (let never : None ≡ Some s = e in cc)
only_one (t ∷ u ∷ ss) i s one e = absurd (omega arith)

-- what is known of the node, by its kind
module _ (o : Options) (n : RunningNode) (x : SeenNode) (h : Has o n x) where
  pub come_by : (k : PhysicalKind) → k ≡ x.node.kind → HasComeAsFar k (progress_of n.flow) x.progress
  come_by k e = subst (λ (j : PhysicalKind). HasComeAsFar j (progress_of n.flow) x.progress) (sym e) h.is.come

  pub cut_by : (k : PhysicalKind) → k ≡ x.node.kind → IsCutBy k (options_of n.flow) o
  cut_by k e = subst (λ (j : PhysicalKind). IsCutBy j (options_of n.flow) o) (sym e) h.cut

-- the same of a node whose flow is known
pub moved : (o : Options) (n : RunningNode) (x : SeenNode) (f : FlowNode) → n.flow ≡ f → Has o n x → Has o (record { flow = f; work = n.work }) x
moved o n x f e h = subst (λ (g : FlowNode). Has o (record { flow = g; work = n.work }) x) e h

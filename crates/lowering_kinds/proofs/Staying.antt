-- The kinds of answered expressions need no tables: what stood may be sources of the same schemas.
use Rattle.std.proofs.Common.{◌≡◌, inl, inr, ℕ, zero, suc, ◌≤◌, ◌^◌, List, [], ◌∷◌, ◌++◌, Some, refl, sym, ap, subst, ◌∙◌}
use Rattle.std.specs.Prelude.{Contains, None, map, slice_get}
use Rattle.std.specs.List.{AllByRecursion}
use Rattle.std.proofs.lemmas.List.{append-nil, length-map}
use Rattle.std.proofs.lemmas.Option.{same_Some}
use Rattle.ps_frame.specs.Functions.{Functions}
use Rattle.ps_frame.specs.Tables.{Table, no_rows, whole}
use Rattle.ps_frame.specs.Trees.{Tree}
use Rattle.ps_frame.specs.Typing.{kind_over}
use Rattle.ps_meaning.specs.Shape.{PhysicalCase, PhysicalNode, Shape, in_memory_source}
use Rattle.ps_meaning.specs.Sound.{schema_at as schema_of}
use Rattle.ps_meaning.specs.Steps.{Name}
use Rattle.ps_plan.specs.Lowering.{HasRowsOf}
use Rattle.ps_rules.specs.Lowered.{lower_exprs}
use Rattle.ps_rules.specs.Names.{Names}
use Rattle.ps_rules.specs.Slots.{State, Stream, schema_at, schema_or_none}
use Rattle.ps_shares.specs.Kept.{IsGrown, IsOrdered, IsReady}
use Rattle.ps_shares.proofs.Adding.{calls_add}
use Rattle.ps_shares.proofs.Ends.{kept_there}
use Rattle.ps_shares.proofs.Members.{to_has}
use Rattle.ps_bundles.proofs.Lowers.{exprs_keep}
use Rattle.lowering_kinds.specs.Kinds.{KindsStay}
use Rattle.lowering_kinds.proofs.Alike.{Alike, answers_alike, schemas}
use Rattle.lowering_kinds.proofs.Existing.{HasTable, are_choice, tables_of}

-- a source without rows, of a node's schema
abbrev source_of : PhysicalNode → PhysicalNode
source_of p = record { kind = in_memory_source (record { schema = p.schema; rows = [] }); schema = p.schema; origin = 0; inputs = [] }

abbrev sources : Shape → Shape
sources nodes = map source_of nodes

same_node : (nodes m : Shape) (n : ℕ) → schema_or_none (slice_get (sources nodes ++ m) n) ≡ schema_or_none (slice_get (nodes ++ m) n)
same_node [] m n = refl
same_node (p ∷ nodes) m zero = refl
same_node (p ∷ nodes) m (suc n) = same_node nodes m n

source_there : (nodes : Shape) (n : ℕ) (p : PhysicalNode) → slice_get nodes n ≡ Some p → slice_get (sources nodes) n ≡ Some (source_of p)
source_there [] n p e = let w : None ≡ Some p = e in cc
source_there (q ∷ nodes) zero p e = ap (λ o. Some (source_of o)) (same_Some q p e)
source_there (q ∷ nodes) (suc n) p e = source_there nodes n p e

no_inputs : (nodes : Shape) → IsOrdered (sources nodes)
no_inputs [] n p i at read = let w : None ≡ Some p = at in cc
no_inputs (q ∷ nodes) zero p i at read = absurd (to_has [] i (subst (λ (p : PhysicalNode). Contains p.inputs i) (sym (same_Some (source_of q) p at)) read))
no_inputs (q ∷ nodes) (suc n) p i at read = absurd (to_has [] i (subst (λ (is : List Stream). Contains is i) (none nodes n p at) read))
  where
    none : (nodes : Shape) (n : ℕ) (p : PhysicalNode) → slice_get (sources nodes) n ≡ Some p → p.inputs ≡ []
    none [] n p e = let w : None ≡ Some p = e in cc
    none (q ∷ nodes) zero p e = ap (λ (p : PhysicalNode). p.inputs) (sym (same_Some (source_of q) p e))
    none (q ∷ nodes) (suc n) p e = none nodes n p e

module _ (F : Functions) where
  source_has : (none : Table) (p : PhysicalNode) → HasTable F none (source_of p)
  source_has none p ts = let T = whole (record { schema = p.schema; rows = [] }) in (T, (T, inl refl, refl))

  sources_have : (none : Table) (nodes more : Shape) → AllByRecursion (HasTable F none) more → AllByRecursion (HasTable F none) (sources nodes ++ more)
  sources_have none [] more all = all
  sources_have none (p ∷ nodes) more all = (source_has none p, sources_have none nodes more all)

  source_table : (p : PhysicalNode) (ts : List Table) (T : Table) → PhysicalCase F (source_of p) ts T → T ≡ whole (record { schema = p.schema; rows = [] })
  source_table p ts T (U, inl g, e) = e ∙ g
  source_table p ts T (U, inr (V, g, some, u), e) = absurd (some refl)

pub kinds_stay : KindsStay
kinds_stay F at input s es ready small =
    let a = s.nodes in
    let b = sources s.nodes in
    let t : State = record { nodes = b; names = s.names } in
    let none = no_rows [] [] in
    let same = λ (m : Shape) (i : Stream). same_node a m i.0 in
    let long = length-map a source_of in
    let alike : Alike F a b same long s t = record { more = []; first = sym (append-nil a); second = sym (append-nil b); names = refl; tables = tt } in
    let r = answers_alike F a b same long at input es s t alike in
    let x = lower_exprs at input es s in
    let y = lower_exprs at input es t in
    let ready' : IsReady t input es =
    record { ordered = no_inputs a; node = source_of ready.node; there = source_there a input.0 ready.node ready.there; known = ready.known; distinct_names = ready.distinct_names; typed = ready.typed; some = ready.some } in
    let small' : y.state.names.next ≤ 2 ^ 64 = subst (λ (n : Names). n.next ≤ 2 ^ 64) (sym r.state.names) small in
    let N = y.state.nodes in
    let all : AllByRecursion (HasTable F none) N = subst (AllByRecursion (HasTable F none)) (sym r.state.second) (sources_have F none a r.state.more r.state.tables) in
    let grown = calls_add.exprs at input t es ready' in
    let tables = tables_of F none N all in
    let choice = are_choice F none N all grown.ordered in
    let own = choice input.0 (source_of ready.node) (there t y.state grown input.0 (source_of ready.node) ready'.there) in
    let is : tables input.0 ≡ whole (record { schema = ready.node.schema; rows = [] }) = source_table F ready.node [] (tables input.0) own in
    let rows : HasRowsOf (schema_of (slice_get b input.0)) (tables input.0) =
    subst (HasRowsOf (schema_of (slice_get b input.0))) (sym is) (sym (ap schema_of ready'.there), tt) in
    let ns : List Name = map (λ (e : Tree). []) es in
    let k = (exprs_keep F at input t ns es ready' (length-map es (λ (e : Tree). [])) small' tables choice rows).2 in
    let schema : schema_at N y.stream ≡ schema_at x.state.nodes x.stream = ap (schema_at N) r.stream ∙ schemas F a b same long x.state y.state r.state x.stream in
    let first : schema_at b input ≡ schema_at a input = ap schema_or_none ready'.there ∙ sym (ap schema_or_none ready.there) in
    let p = r.exprs in
    (λ i. map (kind_over (sym schema i)) (sym p i)) ∙ k.1 ∙ ap (λ f. map (kind_over f) es) first
  where
    there : (c d : State) → IsGrown c d → (n : ℕ) (p : PhysicalNode) → slice_get c.nodes n ≡ Some p → slice_get d.nodes n ≡ Some p
    there c d g n p e = ap (λ xs. slice_get xs n) g.nodes ∙ kept_there c.nodes g.more n p e

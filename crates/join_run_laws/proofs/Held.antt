-- An equi join in every reached world: what its family keeps, what it has sent, its pieces and their causes.
use Rattle.std.proofs.Common.{◌≡◌, ℕ, ◌⊎◌, true, false, Some, None, sym, ap, subst, ◌∙◌, inl, inr}
use Rattle.std.specs.Prelude.{Contains, slice_get}
use Rattle.ps_frame.specs.Causes.{Cause}
use Rattle.ps_frame.specs.Functions.{Functions}
use Rattle.ps_meaning.specs.Shape.{PhysicalKind, PhysicalNode, Shape, equi_join}
use Rattle.ps_meaning.specs.Sound.{IsSound, input_schemas}
use Rattle.ps_meaning.specs.Steps.{JoinStep}
use Rattle.ps_options.specs.declared.options.Options.{Options}
use Rattle.ps_turns.specs.Progress.{makes_table}
use Rattle.ps_turns.specs.Results.{IsResult}
use Rattle.ps_turns.specs.Tasks.{Answer, Piece, bad}
use Rattle.ps_turns.specs.Updates.{BreaksTable, shape_fault}
use Rattle.ps_world.specs.Laws.{Faults, Justified, Overflows, sent_at, sent_to}
use Rattle.ps_world.specs.Opening.{Reaches}
use Rattle.ps_world.specs.Updates.{FaultFound, given_at}
use Rattle.ps_world.specs.World.{Node, World, heads_of, schemas_for, shape_of}
use Rattle.world_facts.proofs.CutOff.{both_true}
use Rattle.world_families.specs.Holds.{Holds, HoldsOfKind}
use Rattle.family_pipes.proofs.Sent.{node_of}
use Rattle.family_pipes.proofs.SourceSteps.{same_node}
use Rattle.join_run_laws.proofs.JoinLaw.{joins_justified}
use Rattle.join_run_laws.proofs.JoinRun.{joins_keep}
use Rattle.join_run_laws.proofs.JoinPieces.{join_names, join_result}
use Rattle.orderly_worlds.proofs.Orderly.{Orderly}
use Rattle.orderly_worlds.proofs.Reaching.{orderly_reached}

module _ (F : Functions) (shape : Shape) (o : Options) (w : World) (sound : IsSound F shape) (r : Reaches F shape o w) where
  orderly : Orderly F w
  orderly = orderly_reached F shape o w sound r

  module _ (n : ℕ) (p : PhysicalNode) (j : JoinStep) (at : slice_get (shape_of w) n ≡ Some p) (is : p.kind ≡ equi_join j) where
    pub joins_hold : Holds F w n
    joins_hold node there =
        let z = node_of w n p at in
        let same : z.0 ≡ node = same_node w n z.0 node z.1 there in
        let kind : node.node.kind ≡ equi_join j = ap (λ (x : Node). x.node.kind) (sym same) ∙ ap (λ (q : PhysicalNode). q.kind) z.2 ∙ is in
        let k = joins_keep F n shape o w sound r node j there kind in
        record { pipes = record { done = λ q e d. k.done q e d; read = λ q e c. orderly.read q e.0 c; unread = λ q l d. orderly.unread q l.0 d }; own = subst (HoldsOfKind F w n node) (sym kind) k.own.holds }

    pub reached_justified : Justified F p (input_schemas (shape_of w) p) (sent_to (sent_at w) p) (sent_at w n)
    reached_justified = joins_justified F w n p j orderly.known at is joins_hold

    pub reached_result : (q : Piece) → Contains w.outs q → q.node ≡ n → (a : Answer) × IsResult F q a
    reached_result q c e =
        let z = node_of w n p at in
        let kind : z.0.node.kind ≡ equi_join j = ap (λ (x : PhysicalNode). x.kind) z.2 ∙ is in
        join_result F w n z.0 j orderly.known z.1 (at ∙ ap Some (sym z.2)) kind (joins_keep F n shape o w sound r z.0 j z.1 kind).own.holds q c e

    pub reached_names : (q : Piece) → Contains w.outs q → q.node ≡ n → (c : Cause) → IsResult F q (bad c) → Faults F p (input_schemas (shape_of w) p) (sent_to (sent_at w) p) c ⊎ Overflows F p (input_schemas (shape_of w) p) (sent_to (sent_at w) p) c
    reached_names q cq e c result =
        let z = node_of w n p at in
        let kind : z.0.node.kind ≡ equi_join j = ap (λ (x : PhysicalNode). x.kind) z.2 ∙ is in
        subst (λ x. Faults F x (input_schemas (shape_of w) x) (sent_to (sent_at w) x) c ⊎ Overflows F x (input_schemas (shape_of w) x) (sent_to (sent_at w) x) c) z.2
        (join_names F w n z.0 j orderly.known z.1 (at ∙ ap Some (sym z.2)) kind (joins_keep F n shape o w sound r z.0 j z.1 kind).own.holds q cq e c result)

-- an Open finds no fault at a join
pub opens_find_none : (F : Functions) (s : World) (n : ℕ) (node : Node) (j : JoinStep) (c : Cause) → slice_get s.nodes n ≡ Some node → node.node.kind ≡ equi_join j → FaultFound F s n c → ⊥
opens_find_none F s n node j c there is (x, at, found) = by (ap (λ (z : Node). z.node.kind) (same_node s n x node at there) ∙ is) found
  where
    none_of : (k : PhysicalKind) → k ≡ equi_join j → shape_fault x.node k (heads_of s n x) (given_at s n) ≡ Some c → ⊥
    none_of k e f = let never : None ≡ Some c = sym (ap (λ q. shape_fault x.node q (heads_of s n x) (given_at s n)) e) ∙ f in cc

    by : x.node.kind ≡ equi_join j → (shape_fault x.node x.node.kind (heads_of s n x) (given_at s n) ≡ Some c) ⊎ BreaksTable F s.options x.node (schemas_for s x) (given_at s n) x.progress c → ⊥
    by k (inl f) = none_of x.node.kind k f
    by k (inr b) = let never : false ≡ true = sym (ap makes_table k) ∙ (both_true (makes_table x.node.kind) _ b.0).0 in cc

-- Whatever an equi join claims, what is kept of it stays.
use Rattle.std.proofs.Common.{◌≡◌, ℕ, zero, suc, ◌⊎◌, Bool, true, false, cond, List, [], ◌∷◌, Some, None, refl, sym, ap, ◌∙◌, inl, inr, arith}
use Rattle.std.specs.Prelude.{Contains, IsTrue, get_or, map, nat_eq, slice_get, ◌&&◌}
use Rattle.ps_frame.specs.Functions.{Functions}
use Rattle.ps_frame.specs.Tables.{Row}
use Rattle.ps_meaning.specs.Joins.{fills_right}
use Rattle.ps_meaning.specs.Shape.{equi_join}
use Rattle.ps_meaning.specs.Steps.{JoinStep}
use Rattle.ps_ports.specs.Ports.{is_done}
use Rattle.ps_turns.specs.Claims.{Claim, Next, of_join, of_kept, of_last, of_left, of_morsel, owes_last, with_slot}
use Rattle.ps_turns.specs.Progress.{Stage, giving, is_giving, spent, taking}
use Rattle.ps_turns.specs.Tasks.{keeps}
use Rattle.ps_world.specs.Claims.{claim_at, inputs_in_phase, next_morsel, piece_of}
use Rattle.ps_world.specs.World.{Node, Pipe, World, inputs_done, schemas_for, shape_of}
use Rattle.world_claims.specs.Numbering.{Known}
use Rattle.world_facts.proofs.CutOff.{both_true}
use Rattle.world_laws.proofs.InOrder.{contains_map}
use Rattle.world_families.specs.Joins.{HoldsJoin}
use Rattle.world_families.specs.Work.{Enters, IsComplete, asked_by}
use Rattle.family_pipes.proofs.SourceSteps.{StepOf}
use Rattle.join_run_laws.proofs.JoinInputs.{JoinAt}
use Rattle.join_run_laws.proofs.JoinClaims.{Source, claim_is, join_builds, join_ends, join_probes, source}
use Rattle.join_run_laws.proofs.JoinStill.{OutsStay, one_of}
use Rattle.orderly_worlds.proofs.Goes.{GoesOn, IsTakenBy, IsTakenOf}
use Rattle.orderly_worlds.proofs.Orderly.{Orderly}
use Rattle.orderly_worlds.proofs.Seen.{OutsOrNew}

no_claim : {A : Type 0} (c : Claim) → None ≡ Some c → A
no_claim c e = absurd (let none : None ≡ Some c = e in cc)

same_claim : (a b : Claim) → Some a ≡ Some b → a ≡ b
same_claim a b e = cc

module _ (F : Functions) (w v : World) (n : ℕ) (node y : Node) (j : JoinStep) (o : Orderly F w) (kv : Known F v) (begun : w.is_open ≡ true) (shape : shape_of v ≡ shape_of w) (there : slice_get w.nodes n ≡ Some node) (is_one : node.node.kind ≡ equi_join j) (same : y.node ≡ node.node)
    (X : JoinAt F w n node j) (Y : JoinAt F v n y j) (h : HoldsJoin F w n node j)
    (i : ℕ) (c : Claim) (is : claim_at w n i node ≡ Some c) (g : GoesOn (IsTakenOf n i) (IsTakenBy n i c.takes_morsel) w v) (s : StepOf F w v n node) (progress : y.progress ≡ c.progress) (outs : OutsOrNew w v n i c) (stay : OutsStay w v n)
    (new : (worker : ℕ) × Contains v.outs (piece_of n i worker c))
    -- an input that it is done with was sent to its end: a join that gives has a use for more
    (done : IsTrue (is_giving node.progress.stage) → (q : Pipe) → Enters w n q → is_done q.wire.receive_state ≡ true → IsComplete q) where
  abbrev next : Next
  next = next_morsel (inputs_in_phase w n i)

  abbrev left_done : Bool
  left_done = get_or (inputs_done w n) 0 false

  left_all : node.progress.stage ≡ giving → left_done ≡ true → IsComplete X.left
  left_all st d =
      let sent : is_done X.left.wire.send_state ≡ true = ap (λ qs. get_or (map (λ (p : Pipe). is_done p.wire.send_state) qs) 0 false) (sym X.pipes) ∙ d in
      done (ap is_giving st) X.left X.of.left_enters.0 (sym (o.agree begun X.left.wire (contains_map (λ (p : Pipe). p.wire) X.left w.pipes X.of.left_enters.0.0)) ∙ sent)

  abbrev Src : ℕ × List Row → Type 0
  Src m = Source F w v n node y j o kv begun shape there is_one same X Y h i c is g s progress outs stay new m

  abbrev kept_claim : ℕ × List Row → Claim
  kept_claim m = record (of_morsel w.options node.node (schemas_for w node) (record node.progress { taken = with_slot 1 node.progress.taken }) (keeps node.node) m.0 m.1) { schemas = get_or (schemas_for w node) 1 [] ∷ [] }

  -- a morsel comes from one of two inputs
  input_one : (k : ℕ) (m : ℕ × List Row) → i ≡ suc k → next ≡ Some m → i ≡ 1
  input_one k m e has = by (one_of F w n node j o.known X src.pipe src.enters_it)
    where
      src : Src m
      src = source F w v n node y j o kv begun shape there is_one same X Y h i c is g s progress outs stay new m has

      by : (src.pipe ≡ X.left) ⊎ (src.pipe ≡ X.right) → i ≡ 1
      by (inl l) = absurd (let zero_in : src.pipe.wire.input ≡ 0 = ap (λ (p : Pipe). p.wire.input) l ∙ X.of.left_enters.1 in let a = src.input in omega (arith, zero_in, a, e))
      by (inr r) = sym src.input ∙ ap (λ (p : Pipe). p.wire.input) r ∙ X.of.right_enters.1

  pub join_claim : HoldsJoin F v n y j
  join_claim = by node.progress.stage refl i refl next refl (claim_is F w v n node y j o kv begun shape there is_one same X Y h i c is g s progress outs stay new)
    where
      built : (k : ℕ) (m : ℕ × List Row) → node.progress.stage ≡ taking → i ≡ suc k → next ≡ Some m → of_kept w.options node.node (schemas_for w node) (suc k) node.progress (Some m) ≡ Some c → HoldsJoin F v n y j
      built k m st e has q =
          let one = input_one k m e has in
          let z : kept_claim m ≡ c = same_claim (kept_claim m) c ((λ t. of_kept w.options node.node (schemas_for w node) ((sym one ∙ e) t) node.progress (Some m)) ∙ q) in
          join_builds F w v n node y j o kv begun shape there is_one same X Y h i c is g s progress outs stay new st one m has (ap (λ (a : Claim). a.progress) (sym z)) (ap (λ (a : Claim). a.number) (sym z)) (ap asked_by (sym z))

      probed : (m : ℕ × List Row) → node.progress.stage ≡ giving → i ≡ 0 → next ≡ Some m → Some (of_left w.options node.node (schemas_for w node) j node.progress m.0 m.1) ≡ Some c → HoldsJoin F v n y j
      probed m st e has q =
          let z : of_left w.options node.node (schemas_for w node) j node.progress m.0 m.1 ≡ c = same_claim (of_left w.options node.node (schemas_for w node) j node.progress m.0 m.1) c q in
          join_probes F w v n node y j o kv begun shape there is_one same X Y h i c is g s progress outs stay new st e m has (ap (λ (a : Claim). a.progress) (sym z)) (ap (λ (a : Claim). a.gives) (sym z)) (ap (λ (a : Claim). a.takes_morsel) (sym z)) (ap asked_by (sym z))

      ended : (b : Bool) → (left_done && owes_last j node.progress) ≡ b → node.progress.stage ≡ giving → i ≡ 0 → cond b (Some (of_last w.options node.node (schemas_for w node) j node.progress)) None ≡ Some c → HoldsJoin F v n y j
      ended false t st e q = no_claim c q
      ended true t st e q =
          let both = both_true left_done (owes_last j node.progress) t in
          let fills = both_true (fills_right j.args.how) (nat_eq node.progress.sent 0) both.1 in
          join_ends F w v n node y j o kv begun shape there is_one same X Y h i c is g s progress outs stay new st e (left_all st both.0) fills.0 (sym (same_claim (of_last w.options node.node (schemas_for w node) j node.progress) c q))

      by : (st : Stage) → node.progress.stage ≡ st → (k : ℕ) → i ≡ k → (m : Next) → next ≡ m → of_join w.options node.node (schemas_for w node) j st left_done k node.progress m ≡ Some c → HoldsJoin F v n y j
      by taking st zero e m has q = no_claim c q
      by taking st (suc k) e None has q = no_claim c q
      by taking st (suc k) e (Some m) has q = built k m st e has q
      by giving st zero e (Some m) has q = probed m st e has q
      by giving st zero e None has q = ended (left_done && owes_last j node.progress) refl st e q
      by giving st (suc k) e m has q = no_claim c q
      by spent st k e m has q = no_claim c q

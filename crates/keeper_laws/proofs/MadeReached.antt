-- What makes a table, in reached worlds and between the updates of an Open: its ports, its pieces and its faults.
use Rattle.std.proofs.Common.{◌≡◌, ℕ, Bool, true, false, cond, Some, refl, sym, ap, subst, ◌∙◌}
use Rattle.std.specs.Prelude.{Contains, slice_get}
use Rattle.ps_frame.specs.Causes.{Cause}
use Rattle.ps_frame.specs.Functions.{Functions}
use Rattle.ps_meaning.specs.Shape.{Shape}
use Rattle.ps_meaning.specs.Sound.{IsSound}
use Rattle.ps_options.specs.declared.options.Options.{Options}
use Rattle.ps_turns.specs.Progress.{makes_table}
use Rattle.ps_turns.specs.Pulls.{passes_limit}
use Rattle.ps_turns.specs.Results.{IsResult, rows_fault}
use Rattle.ps_turns.specs.Tasks.{Piece, bad, good}
use Rattle.ps_world.specs.Laws.{MakesFault, PortLaw}
use Rattle.ps_world.specs.Opening.{Reaches}
use Rattle.ps_world.specs.Pipes.{is_input}
use Rattle.ps_world.specs.Step.{Steps}
use Rattle.ps_world.specs.Updates.{FaultFound, IsSettled, Updates}
use Rattle.ps_world.specs.World.{Ending, Node, Record, World, claimed, closed, ended, faulty, handed_in, opened, pulled, running}
use Rattle.world_facts.proofs.CutOff.{both_true}
use Rattle.world_laws.proofs.Answered.{in_shape}
use Rattle.fault_origins.proofs.Results.{of_open}
use Rattle.family_pipes.proofs.SourceSteps.{same_node}
use Rattle.orderly_worlds.proofs.Orderly.{Orderly}
use Rattle.orderly_worlds.proofs.Reaching.{orderly_reached, still_shut, updates_orderly}
use Rattle.orderly_worlds.proofs.Stands.{stored_progress}
use Rattle.keeper_laws.proofs.Ports.{keeper_ports}
use Rattle.keeper_laws.proofs.MadeFaults.{Names, has_result, no_fault, open_names, pull_names}
use Rattle.keeper_laws.proofs.Made.{IsMaker, KeepsMade, keeps}
use Rattle.keeper_laws.proofs.MadeLaw.{made_law, makers_keep}
use Rattle.node_keeps.proofs.Law.{KeepsNode, updates_keep}

of_limit : (b : Bool) (e : Ending) (d : Cause) (c : Cause) → e ≡ running → cond b (faulty d) e ≡ faulty c → (b ≡ true) × (c ≡ d)
of_limit true e d c run h = (refl, let q : faulty d ≡ faulty c = h in cc)
of_limit false e d c run h = absurd (let no : running ≡ faulty c = sym run ∙ h in cc)

module _ (F : Functions) (shape : Shape) (o : Options) (w : World) (sound : IsSound F shape) (r : Reaches F shape o w) (n : ℕ) where
  orderly : Orderly F w
  orderly = orderly_reached F shape o w sound r

  -- BETWEEN UPDATES
  module _ (s : World) (shut : w.is_open ≡ false) (run : w.ending ≡ running) (u : Updates F w s) (node : Node) (there : slice_get s.nodes n ≡ Some node) (maker : makes_table node.node.kind ≡ true) where
    kept : KeepsNode F n IsMaker (λ v x. KeepsMade F v n x) s node
    kept = updates_keep F n IsMaker (λ v x. KeepsMade F v n x) (made_law F n) w s orderly shut run u (λ x at k. makers_keep F shape o w n sound r x at k) node there maker

    pub maker_ports : IsSettled s → PortLaw s n
    maker_ports rest = keeper_ports F s (updates_orderly F w s orderly shut u).known rest n node there (keeps node.node.kind maker) kept.own.turn

    -- a fault that an update finds
    pub maker_opens : (c : Cause) → FaultFound F s n c → Names F s node.node c
    maker_opens c found = open_names F s n node (updates_orderly F w s orderly shut u) (still_shut F w s orderly shut u) there maker kept.own kept.done c (of_open F s n node.node c (in_shape s n node there) found) found

  -- IN AN OPEN PHASE
  module _ (node : Node) (there : slice_get w.nodes n ≡ Some node) (maker : makes_table node.node.kind ≡ true) where
    own : KeepsMade F w n node
    own = (makers_keep F shape o w n sound r node there maker).own

    pub maker_results : (q : Piece) → Contains w.outs q → q.node ≡ n → ((rs : _) × IsResult F q (good rs)) × ((c : Cause) → IsResult F q (bad c) → ⊥)
    maker_results q c at = (has_result F w n node own q c at, λ cause h. no_fault F w n node own q c at cause h)

    pub maker_pulls : (i number : ℕ) (v : World) (c : Cause) → Steps F w (pulled n i number) v → v.ending ≡ faulty c → Names F w node.node c
    maker_pulls i number v c s e =
        let same = same_node w n s.0 node s.1.0 there in
        let a = stored_progress s.0 i s.4.1 in
        let limit = of_limit (passes_limit s.0.node.kind i a) w.ending (rows_fault s.0.node) c s.1.2 (sym (ap (λ (z : World). z.ending) s.4.8) ∙ e) in
        pull_names F w n node orderly.known there maker own i s.4.0 s.4.1 s.4.2 (both_true (is_input n i s.4.0) s.4.0.in_phase s.4.3).0 s.4.5 c
        (subst (λ (z : Node). passes_limit z.node.kind i (stored_progress z i s.4.1) ≡ true) same limit.0) (limit.1 ∙ ap (λ (z : Node). rows_fault z.node) same)

  -- a step of an open phase makes it no other fault
  pub maker_faults : (node : Node) → slice_get w.nodes n ≡ Some node → makes_table node.node.kind ≡ true → w.is_open ≡ true → (r : Record) (c : Cause) → MakesFault F w r n c → Names F w node.node c
  maker_faults node there maker on (opened phase) c f = absurd (let no : true ≡ false = sym on ∙ f.0 in cc)
  maker_faults node there maker on (handed_in m i number worker handed) c f = absurd ((maker_results node there maker f.1 f.2 f.3).1 c f.4)
  maker_faults node there maker on (pulled m i number) c f = maker_pulls node there maker i number f.1 c (subst (λ k. Steps F w (pulled k i number) f.1) f.0 f.2) f.3
  maker_faults node there maker on (claimed m i number worker) c f = absurd f
  maker_faults node there maker on (closed m) c f = absurd f
  maker_faults node there maker on (ended phase) c f = absurd f

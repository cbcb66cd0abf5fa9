-- No phase ends before something was claimed or pulled in it, so that no phase is idle.
use Rattle.std.proofs.Common.{◌≡◌, ℕ, zero, suc, ◌+◌, Bool, true, false, List, [], ◌∷◌, ◌++◌, length, None, Some, refl, sym, ap, subst, ◌∙◌}
use Rattle.std.specs.Prelude.{Contains, IsFalse, IsTrue, map, not, slice_get, ◌&&◌, ◌||◌}
use Rattle.ps_frame.specs.Causes.{is_empty}
use Rattle.ps_frame.specs.Functions.{Functions}
use Rattle.ps_meaning.specs.Shape.{PhysicalNode, Shape}
use Rattle.ps_meaning.specs.Sound.{IsSound}
use Rattle.ps_options.specs.declared.options.Options.{Options}
use Rattle.ps_ports.specs.Phases.{is_one_of}
use Rattle.ps_ports.specs.Ports.{is_done}
use Rattle.ps_ports.specs.Wires.{given_to}
use Rattle.ps_turns.specs.Tasks.{Piece}
use Rattle.ps_world.specs.Facts.{Facts}
use Rattle.ps_world.specs.Opening.{Reaches}
use Rattle.ps_world.specs.Phases.{after_open, blockers_in, marked_nodes, nodes_of_phase, with_phase}
use Rattle.ps_world.specs.Step.{Opens, Steps, breaks, settles}
use Rattle.ps_world.specs.Updates.{IsSettled, Updates}
use Rattle.ps_world.specs.World.{Node, Pipe, Record, World, claimed, closed, ended, faulty, finished, handed_in, heads_of, is_drained, opened, pulled, running, wires_of}
use Rattle.world_claims.proofs.Beside.{marked_from}
use Rattle.world_claims.proofs.ReachedFacts.{known_reached}
use Rattle.world_claims.proofs.Steps.{map_map}
use Rattle.world_facts.proofs.CutOff.{both_true}
use Rattle.world_facts.proofs.DropsDone.{drops_are_done, opened_keeps}
use Rattle.world_facts.proofs.OwnProgress.{step_good}
use Rattle.world_facts.proofs.UpdatedKeeps.{updates_keep_facts}
use Rattle.world_facts.proofs.Wiring.{each_of}
use Rattle.world_laws.proofs.Agree.{from_map}
use Rattle.world_laws.proofs.Endings.{updates_keep_ending}
use Rattle.world_laws.proofs.InOrder.{contains_first, contains_map}
use Rattle.world_measure.specs.Driving.{Idles, NoPhaseIsIdle, idle_here, idles_on}
use Rattle.world_ends.proofs.Back.{dones_are, heads_from, heads_over}
use Rattle.world_ends.proofs.InPhase.{Work, claimable, stands_in, takeable, work}
use Rattle.world_ends.proofs.Reasons.{ClaimsOwn}
use Rattle.world_ends.proofs.Stored.{HasMade, HasStores, has_made, has_stores, kept_made, kept_stores}
use Rattle.world_ends.proofs.Tests.{neither, not_true}
use Rattle.world_ends.proofs.Waits.{Busy, MayClaim, dones, may_claim, may_take, stays_open, still}
use Rattle.world_ends.specs.Runs.{EachPhaseTakes}

-- only a running world steps
pub runs : (F : Functions) (w v : World) (r : Record) → Steps F w r v → w.ending ≡ running
runs F w v (opened phase) s = s.1
runs F w v (claimed n i number worker) s = s.1.2
runs F w v (handed_in n i number worker handed) s = s.6
runs F w v (pulled n i number) s = s.1.2
runs F w v (closed n) s = s.1.2
runs F w v (ended phase) s = s.1

ran : (F : Functions) (w x : World) → Idles F w x → x.ending ≡ running → w.ending ≡ running
ran F w x (idle_here v e) run = sym (ap (λ (z : World). z.ending) e) ∙ run
ran F w x (idles_on y v r before inside idle s) run = ran F w y before (runs F y v r s)

some_item : {A : Type 0} (xs : List A) → is_empty xs ≡ false → (x : A) × Contains xs x
some_item [] e = absurd (let no : true ≡ false = e in cc)
some_item (x ∷ xs) e = (x, contains_first x xs)

empty_list : (xs : List Piece) → ((q : Piece) → Contains xs q → ⊥) → xs ≡ []
empty_list [] none = refl
empty_list (q ∷ qs) none = absurd (none q (contains_first q qs))

-- a node with its mark
pub marked_at : (ns : List ℕ) (j : ℕ) (nodes : List Node) (m : ℕ) (x : Node) → slice_get nodes m ≡ Some x → (y : Node) × (slice_get (marked_nodes ns j nodes) m ≡ Some y) × (y.node ≡ x.node) × (y.progress ≡ x.progress)
marked_at ns j [] m x e = absurd (let no : None ≡ Some x = e in cc)
marked_at ns j (z ∷ zs) zero x e = let is : z ≡ x = (let q : Some z ≡ Some x = e in cc) in (record z { in_phase = is_one_of j ns }, refl, ap (λ (y : Node). y.node) is, ap (λ (y : Node). y.progress) is)
marked_at ns j (z ∷ zs) (suc m) x e = marked_at ns (j + 1) zs m x e

abbrev length_of : Node → ℕ
length_of x = length x.node.inputs

abbrev pub Same : Node → Node → Type 0
Same x y = (y.node ≡ x.node) × (y.progress ≡ x.progress)

-- A SETTLED WORLD WHOSE PHASE OPENS
module _ (F : Functions) (s : World) (f : Facts F s) (rest : IsSettled s) (shut : IsFalse s.is_open) (run : s.ending ≡ running) (phase : ℕ) (journal : List Record) where
  abbrev pub w : World
  w = record (with_phase s) { phase = phase; journal = journal }

  abbrev marked : Pipe → Pipe
  marked p = record p { in_phase = stands_in s p.wire }

  module _ (fw : Facts F w) where
    none_out : w.outs ≡ []
    none_out = empty_list s.outs (λ q c. let on = both_true s.is_open ((f.at_work q c).0.in_phase && not (f.at_work q c).0.is_closed) (f.at_work q c).2 in let no : true ≡ false = sym on.0 ∙ shut in cc)

    gone_done : (p : Pipe) → Contains w.pipes p → IsTrue p.is_dropped → IsTrue (is_done p.wire.receive_state)
    gone_done p c gone =
        let x = from_map marked p s.pipes c in
        ap (λ (y : Pipe). is_done y.wire.receive_state) (sym x.2) ∙ drops_are_done F s f rest x.0 x.1 (ap (λ (y : Pipe). y.is_dropped) x.2 ∙ gone)

    not_closed : (x : Pipe) → Contains s.pipes x → x.is_closed ≡ false
    not_closed x c = (neither x.in_phase x.is_closed (each_of (λ (p : Pipe). IsFalse (p.in_phase || p.is_closed)) s.pipes x (f.no_marks shut).1 c)).1

    there : (x : Pipe) → Contains s.pipes x → Contains w.pipes (marked x)
    there x c = contains_map marked x s.pipes c

    same_wires : wires_of w ≡ wires_of s
    same_wires = map_map marked (λ (p : Pipe). p.wire) s.pipes

    -- so neither a close, nor the end of the phase, nor the next Open comes before something was taken
    waiting_node : (n : ℕ) (node : Node) → slice_get w.nodes n ≡ Some node → IsTrue (w.is_open && (node.in_phase && not node.is_closed)) → Busy w n node → (x : World) → Idles F w x → (x.is_open ≡ true) × ((number : ℕ) (v : World) → Steps F x (ended number) v → ⊥)
    waiting_node n node at working busy x idle =
        let parts = both_true node.in_phase (not node.is_closed) working in
        let left = not_true node.is_closed parts.1 in
        let h = still F w fw run none_out gone_done n node busy at refl parts.0 left x idle in
        (h.is_open, stays_open F w fw run none_out gone_done n node busy x h parts.0 left)

    claims_still : (n : ℕ) (node y : Node) → slice_get s.nodes n ≡ Some node → slice_get w.nodes n ≡ Some y → ClaimsOwn s.options node.node node.node.kind node.progress (heads_of s n node) (dones s n) → MayClaim w (dones w n) y.node y.progress
    claims_still n node y e at own =
        let z = marked_from Same (λ x b. (refl, refl)) (nodes_of_phase s) 0 s.nodes n y at in
        let is : node ≡ z.0 = (let q : Some node ≡ Some z.0 = sym e ∙ z.1 in cc) in
        let ds : dones w n ≡ dones s n = ap (λ ws. map is_done (given_to n ws).inputs) same_wires in
        let hs = heads_over s n node node.node.kind refl ∙ ap (λ xs. heads_from xs node.node.kind node.progress) (dones_are s n) in
        let here : MayClaim s (dones s n) node.node node.progress = subst (λ xs. ClaimsOwn s.options node.node node.node.kind node.progress xs (dones s n)) hs own in
        let moved : MayClaim s (dones w n) node.node node.progress = subst (λ xs. MayClaim s xs node.node node.progress) (sym ds) here in
        let at_node : MayClaim s (dones w n) y.node node.progress = subst (λ p. MayClaim s (dones w n) p node.progress) (ap (λ (x : Node). x.node) is ∙ sym z.2.0) moved in
        subst (λ a. MayClaim s (dones w n) y.node a) (ap (λ (x : Node). x.progress) is ∙ sym z.2.1) at_node

    goes_on : Work s → (x : World) → Idles F w x → (x.is_open ≡ true) × ((number : ℕ) (v : World) → Steps F x (ended number) v → ⊥)
    goes_on (claimable p node c on e own) =
        let working = (fw.pipes (marked p) (there p c)).closed_with_sender on (not_closed p c) in
        waiting_node p.wire.sender working.0 working.1 working.2 (may_claim (claims_still p.wire.sender node working.0 e working.1 own))
    goes_on (takeable p c on full) =
        let dropped = (neither p.is_dropped _ full).0 in
        let closed_not = not_closed p c in
        let working = (fw.pipes (marked p) (there p c)).read_to_end on (λ i. dropped i || (closed_not i && is_drained p)) in
        waiting_node p.wire.receiver working.0 working.1 working.2 (may_take (marked p) (there p c) refl on full)

    module _ (made : (n : ℕ) (node : Node) → slice_get w.nodes n ≡ Some node → HasMade node.node.kind node.progress)
        (stored : (n : ℕ) (node : Node) → slice_get w.nodes n ≡ Some node → HasStores (length_of node) node.node.kind node.progress) where
      pub waits : is_empty (blockers_in s) ≡ false → (x : World) → Idles F w x → (x.is_open ≡ true) × ((number : ℕ) (v : World) → Steps F x (ended number) v → ⊥)
      waits some =
          let b = some_item (blockers_in s) some in
          goes_on (work F s f rest was_made was_stored b.0 b.1)
        where
          was_made : (n : ℕ) (node : Node) → slice_get s.nodes n ≡ Some node → HasMade node.node.kind node.progress
          was_made n node e =
              let y = marked_at (nodes_of_phase s) 0 s.nodes n node e in
              subst (λ a. HasMade node.node.kind a) y.3 (subst (λ (p : PhysicalNode). HasMade p.kind y.0.progress) y.2 (made n y.0 y.1))

          was_stored : (n : ℕ) (node : Node) → slice_get s.nodes n ≡ Some node → HasStores (length_of node) node.node.kind node.progress
          was_stored n node e =
              let y = marked_at (nodes_of_phase s) 0 s.nodes n node e in
              subst (λ a. HasStores (length_of node) node.node.kind a) y.3 (subst (λ (p : PhysicalNode). HasStores (length p.inputs) p.kind y.0.progress) y.2 (stored n y.0 y.1))

-- EVERY PHASE OF A RUN
module _ (F : Functions) (shape : Shape) (o : Options) (sound : IsSound F shape) where
  -- while nothing was taken since an Open that goes on, its phase stays open
  phase_waits : (u w x : World) (first : ℕ) → Reaches F shape o u → Steps F u (opened first) w → w.ending ≡ running → Idles F w x → (x.is_open ≡ true) × ((number : ℕ) (v : World) → Steps F x (ended number) v → ⊥)
  phase_waits u w x first reached step goes idle = of_opens step.3.0 step.3.1 step.3.2
    where
      known : Facts F u
      known = (known_reached F shape o u sound reached).facts

      made : (n : ℕ) (node : Node) → slice_get w.nodes n ≡ Some node → HasMade node.node.kind node.progress
      made = step_good F (λ p a. HasMade p.kind a) (kept_made F) u w (opened first) step (has_made F shape o u reached)

      stored : (n : ℕ) (node : Node) → slice_get w.nodes n ≡ Some node → HasStores (length_of node) node.node.kind node.progress
      stored = step_good F (λ p a. HasStores (length p.inputs) p.kind a) (kept_stores F) u w (opened first) step (has_stores F shape o u reached)

      of_opens : (s : World) → Updates F u s → Opens F s first w → (x.is_open ≡ true) × ((number : ℕ) (v : World) → Steps F x (ended number) v → ⊥)
      of_opens s updates (breaks n c fault e) = absurd (let no : faulty c ≡ running = sym (ap (λ (z : World). z.ending) e) ∙ goes in cc)
      of_opens s updates (settles rest e) = by (is_empty (blockers_in s)) refl
        where
          by : (b : Bool) → is_empty (blockers_in s) ≡ b → (x.is_open ≡ true) × ((number : ℕ) (v : World) → Steps F x (ended number) v → ⊥)
          by true none =
              let stopped : (after_open s first).ending ≡ finished = rw none refl in
              absurd (let no : finished ≡ running = sym stopped ∙ sym (ap (λ (z : World). z.ending) e) ∙ goes in cc)
          by false some =
              let journal = s.journal ++ opened first ∷ [] in
              let v = record (with_phase s) { phase = first; journal = journal } in
              let here : v ≡ after_open s first = rw some refl in
              let is : w ≡ v = e ∙ sym here in
              let kept = updates_keep_facts F u s updates known step.0 in
              waits F s kept.0 rest kept.1 (updates_keep_ending F u s updates ∙ step.1) first journal (subst (Facts F) is (opened_keeps F u s w first updates known step.0 (settles rest e)))
              (subst (λ (z : World). (n : ℕ) (node : Node) → slice_get z.nodes n ≡ Some node → HasMade node.node.kind node.progress) is made)
              (subst (λ (z : World). (n : ℕ) (node : Node) → slice_get z.nodes n ≡ Some node → HasStores (length_of node) node.node.kind node.progress) is stored) some x
              (subst (λ z. Idles F z x) is idle)

  pub phases_take : EachPhaseTakes F shape o
  phases_take u w x v first phase reached step idle end = (phase_waits u w x first reached step (ran F w x idle (runs F x v (ended phase) end)) idle).1 phase v end

  pub not_idle : NoPhaseIsIdle F shape o
  not_idle u w x v first next reached step idle again run =
      absurd (let at_work = (phase_waits u w x first reached step (ran F w x idle (runs F x v (opened next) again)) idle).0 in let no : true ≡ false = sym at_work ∙ again.0 in cc)

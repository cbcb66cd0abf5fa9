-- A finished run of a graph of streaming nodes has every pipe done, and a whole table of its sink's meaning.
use Rattle.std.proofs.Common.{◌≡◌, ℕ, ◌<◌, Bool, true, false, cond, List, [], ◌∷◌, length, Option, Some, None, refl, sym, ap, subst, ◌∙◌, inr, arith}
use Rattle.std.specs.Prelude.{Contains, IsTrue, map, not, slice_get, ◌&&◌, ◌||◌}
use Rattle.ps_frame.specs.Causes.{is_empty}
use Rattle.ps_frame.specs.Functions.{Functions}
use Rattle.ps_meaning.specs.Shape.{PhysicalNode, Shape}
use Rattle.ps_meaning.specs.Sound.{IsSound}
use Rattle.ps_options.specs.declared.options.Options.{Options}
use Rattle.ps_ports.specs.Ports.{is_done}
use Rattle.ps_ports.specs.Wires.{Wire, is_live}
use Rattle.ps_world.specs.Laws.{AllDone, PortLaw, takes}
use Rattle.ps_world.specs.Opening.{Reaches, opening}
use Rattle.ps_world.specs.Phases.{after_open, blockers_in, with_phase}
use Rattle.ps_world.specs.Promises.{HoldsMeaning}
use Rattle.ps_world.specs.Step.{Replays}
use Rattle.ps_world.specs.Updates.{IsSettled}
use Rattle.ps_world.specs.World.{Node, Pipe, Record, World, faulty, finished, running, shape_of, wires_of}
use Rattle.world_claims.proofs.ReachedFacts.{known_opening, known_step}
use Rattle.world_claims.proofs.WholeLaw.{facts_law}
use Rattle.world_claims.specs.Numbering.{Known}
use Rattle.world_facts.proofs.ClaimedOnce.{replay_shape}
use Rattle.world_facts.proofs.Placing.{ends_agree, some_node}
use Rattle.world_facts.proofs.Wiring.{wires_forward, wires_inside}
use Rattle.world_laws.proofs.Answered.{holds_meaning, in_shape}
use Rattle.world_laws.proofs.BetweenPhases.{some_blocker}
use Rattle.world_laws.proofs.Blockers.{some_blocker_in}
use Rattle.world_laws.proofs.Endings.{Ends, ends_of, faults, finishes, goes_on}
use Rattle.world_laws.proofs.Induction.{opening_shape}
use Rattle.world_laws.proofs.Shapes.{step_keeps, updates_keep}
use Rattle.family_keeps.proofs.Served.{served}
use Rattle.world_families.specs.Kinds.{IsStreaming}
use Rattle.streaming_ports.proofs.StreamPorts.{streaming_ports}

abbrev pub AllStream : Shape → Type 0
AllStream shape = (n : ℕ) (p : PhysicalNode) → slice_get shape n ≡ Some p → IsStreaming p.kind

-- no port of what isn't a node
pub outside : (w : World) (n : ℕ) → slice_get w.nodes n ≡ None → ((p : Wire) → Contains (wires_of w) p → p.sender < p.receiver) → ((p : Wire) → Contains (wires_of w) p → p.receiver < length w.nodes) → PortLaw w n
outside w n e forward inside =
    record {
      takes_means = λ t. absurd (let no : false ≡ true = sym not_taking ∙ t in cc);
      leads_on = λ p c at l. absurd (let h = inside p c in past (omega arith));
      hands_on = λ up. inr (λ q c at l. absurd (let h = inside q c in let f = forward q c in past (omega arith)));
    }
  where
    not_taking : takes w n ≡ false
    not_taking = rw (takes, e) refl

    past : n < length w.nodes → ⊥
    past h = let x = some_node w.nodes n h in let no : None ≡ Some x.0 = sym e ∙ x.1 in cc

pub both_by_agreement : (a b : Bool) → a ≡ b → not (a || b) ≡ false → IsTrue (a && b)
both_by_agreement true true e l = refl
both_by_agreement true false e l = absurd (let no : true ≡ false = e in cc)
both_by_agreement false true e l = absurd (let no : false ≡ true = e in cc)
both_by_agreement false false e l = absurd (let no : true ≡ false = l in cc)

module _ (F : Functions) (s : World) (known : Known F s) (streams : AllStream (shape_of s)) (rest : IsSettled s) where
  forward : (p : Wire) → Contains (wires_of s) p → p.sender < p.receiver
  forward = wires_forward F s known.facts

  inside : (p : Wire) → Contains (wires_of s) p → p.receiver < length s.nodes
  inside = wires_inside F s known.facts

  port_laws : (n : ℕ) → PortLaw s n
  port_laws n = by (slice_get s.nodes n) refl
    where
      by : (o : Option Node) → slice_get s.nodes n ≡ o → PortLaw s n
      by None e = outside s n e forward inside
      by (Some node) e = let at = in_shape s n node e in streaming_ports F s n node.node known at (streams n node.node at) rest

  -- where no blocker can run, every pipe is done
  all_done : blockers_in s ≡ [] → AllDone s
  all_done none p c = by (is_live p) refl
    where
      by : (b : Bool) → is_live p ≡ b → IsTrue (is_done p.send_state && is_done p.receive_state)
      by true l =
          let f = some_blocker s forward inside port_laws p c l in
          absurd (some_blocker_in s f.0 inside f.1 none)
      by false l = both_by_agreement (is_done p.send_state) (is_done p.receive_state) (ends_agree F s known.facts rest p c) l

-- an Open without a blocker changes no pipe
pub last_pipes : (s : World) (phase : ℕ) → blockers_in s ≡ [] → (after_open s phase).pipes ≡ s.pipes
last_pipes s phase none = ap (λ b. (cond b (record s { ending = finished }) (with_phase s)).pipes) (ap is_empty none)

abbrev DoneIfFinished : World → Type 0
DoneIfFinished w = w.ending ≡ finished → AllDone w

module _ (F : Functions) (shape : Shape) (streams : AllStream shape) where
  of_end : (w v : World) (r : Record) → Known F w → shape_of w ≡ shape → Ends F w r v → DoneIfFinished v
  of_end w v r known same (goes_on e) over = absurd (let no : running ≡ finished = sym e ∙ over in cc)
  of_end w v r known same (faults n c m e) over = absurd (let no : faulty c ≡ finished = sym e ∙ over in cc)
  of_end w v r known same (finishes s phase shut u rest none e) over =
      let settled = (facts_law F).at_update w s known shut u in
      let shape_s : shape_of s ≡ shape = updates_keep F w s u ∙ same in
      let done = all_done F s settled (λ n p at. streams n p (ap (λ x. slice_get x n) (sym shape_s) ∙ at)) rest none in
      let pipes : v.pipes ≡ s.pipes = ap (λ (x : World). x.pipes) e ∙ last_pipes s phase none in
      λ p c. done p (subst (λ (ps : List Pipe). Contains (map (λ (x : Pipe). x.wire) ps) p) pipes c)

  run : (w v : World) (rs : List Record) → Known F w → shape_of w ≡ shape → Replays F w rs v → DoneIfFinished w → DoneIfFinished v
  run w v [] known same e h = subst DoneIfFinished (sym e) h
  run w v (r ∷ rs) known same st h = run st.0 v rs (known_step F w st.0 r known st.1) (step_keeps F w st.0 r st.1 ∙ same) st.2 (of_end w st.0 r known same (ends_of F w st.0 r st.1))

pub finished_done : (F : Functions) (shape : Shape) (o : Options) (w : World) → IsSound F shape → AllStream shape → Reaches F shape o w → w.ending ≡ finished → AllDone w
finished_done F shape o w sound streams r =
    run F shape streams (opening shape o) w r.0 (known_opening F shape o sound) (opening_shape shape) r.1 (λ e. absurd (let no : running ≡ finished = e in cc))

pub finished_means : (F : Functions) (shape : Shape) (o : Options) (w : World) → IsSound F shape → AllStream shape → Reaches F shape o w → w.ending ≡ finished → HoldsMeaning F shape w
finished_means F shape o w sound streams r e =
    holds_meaning F shape w (replay_shape F (opening shape o) w r.0 r.1 ∙ opening_shape shape) (served F shape o w sound r streams) (finished_done F shape o w sound streams r e)

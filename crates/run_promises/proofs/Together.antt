-- From the laws of all kinds of a shape's nodes: one choice serves all pipes, a finished run has the answer, and a faulty one names a cause.
use Rattle.std.proofs.Common.{◌≡◌, ℕ, ◌<◌, ◌+◌, Bool, true, false, cond, List, [], ◌∷◌, length, Option, Some, None, refl, sym, ap, subst, ◌∙◌, inl, inr}
use Rattle.std.specs.Prelude.{Contains, IsTrue, map, slice_get, ◌&&◌}
use Rattle.ps_frame.specs.Causes.{Cause, is_empty}
use Rattle.ps_frame.specs.Functions.{Functions}
use Rattle.ps_meaning.specs.Shape.{PhysicalBrokenBy, PhysicalIsLarge, PhysicalKind, PhysicalNode, Shape}
use Rattle.ps_meaning.specs.Sound.{IsSound, input_schemas}
use Rattle.ps_options.specs.declared.options.Options.{Options}
use Rattle.ps_ports.specs.Ports.{is_done}
use Rattle.ps_ports.specs.Wires.{Wire, is_live}
use Rattle.ps_world.specs.Laws.{AllDone, AllJustified, MakesFault, PortLaw, Justified, ServedByChoice, sent_at, sent_to}
use Rattle.ps_world.specs.Opening.{Reaches, opening}
use Rattle.ps_world.specs.Phases.{after_fault, after_open, blockers_in, with_phase}
use Rattle.ps_world.specs.Promises.{IsAnswered, NamesCause}
use Rattle.ps_world.specs.Step.{Replays, Steps, breaks}
use Rattle.ps_world.specs.Updates.{IsSettled}
use Rattle.ps_world.specs.World.{Ending, Node, Pipe, Record, World, claimed, closed, ended, faulty, finished, handed_in, opened, pulled, running, shape_of, wires_of}
use Rattle.world_claims.proofs.ReachedFacts.{known_reached}
use Rattle.world_claims.proofs.WholeLaw.{facts_law}
use Rattle.world_claims.specs.Numbering.{Known}
use Rattle.world_ends.specs.Runs.{PiecesHaveResults}
use Rattle.world_facts.proofs.ClaimedOnce.{replay_shape}
use Rattle.world_facts.proofs.FromFacts.{forward, piece_nodes}
use Rattle.world_facts.proofs.Placing.{ends_agree}
use Rattle.world_facts.proofs.Wiring.{wires_forward, wires_inside}
use Rattle.world_laws.proofs.Answered.{holds_meaning, in_shape}
use Rattle.world_laws.proofs.BetweenPhases.{some_blocker}
use Rattle.world_laws.proofs.Blockers.{some_blocker_in}
use Rattle.world_laws.proofs.Endings.{Ends, ends_of, faults, finishes, goes_on}
use Rattle.world_laws.proofs.Induction.{opening_shape}
use Rattle.world_laws.proofs.OneChoice.{faulty_is_broken, large_by, one_choice}
use Rattle.world_laws.proofs.Shapes.{updates_keep}
use Rattle.family_pipes.proofs.Sent.{node_of}
use Rattle.fault_origins.proofs.Results.{of_step}
use Rattle.fault_origins.proofs.Tasks.{reached_own}
use Rattle.orderly_worlds.proofs.Reaching.{fresh_reached, reached_more}
use Rattle.streaming_ends.proofs.Finishing.{both_by_agreement, last_pipes, outside}
use Rattle.run_promises.specs.NodeLaws.{IsBetween, NamesOwn, ReachedLaw}

-- a step is made while the run goes on
runs_before : (F : Functions) (w v : World) (r : Record) → Steps F w r v → w.ending ≡ running
runs_before F w v (opened phase) s = s.1
runs_before F w v (claimed n i number worker) s = s.1.2
runs_before F w v (handed_in n i number worker handed) s = s.6
runs_before F w v (pulled n i number) s = s.1.2
runs_before F w v (closed n) s = s.1.2
runs_before F w v (ended phase) s = s.1

same_cause : (e : Ending) (c d : Cause) → e ≡ faulty c → e ≡ faulty d → c ≡ d
same_cause e c d a b = let q : faulty c ≡ faulty d = sym a ∙ b in cc

last_ending : (s : World) (phase : ℕ) → blockers_in s ≡ [] → (after_open s phase).ending ≡ finished
last_ending s phase none = ap (λ b. (cond b (record s { ending = finished }) (with_phase s)).ending) (ap is_empty none)

-- where the ports of all nodes lead on and no blocker can run, every pipe is done
settled_done : (F : Functions) (s : World) → Known F s → ((n : ℕ) (node : Node) → slice_get s.nodes n ≡ Some node → PortLaw s n) → IsSettled s → blockers_in s ≡ [] → AllDone s
settled_done F s known laws rest none p c = by (is_live p) refl
  where
    sooner : (x : Wire) → Contains (wires_of s) x → x.sender < x.receiver
    sooner = wires_forward F s known.facts

    inside : (x : Wire) → Contains (wires_of s) x → x.receiver < length s.nodes
    inside = wires_inside F s known.facts

    each : (n : ℕ) → PortLaw s n
    each n = of (slice_get s.nodes n) refl
      where
        of : (x : Option Node) → slice_get s.nodes n ≡ x → PortLaw s n
        of None e = outside s n e sooner inside
        of (Some node) e = laws n node e

    by : (b : Bool) → is_live p ≡ b → IsTrue (is_done p.send_state && is_done p.receive_state)
    by true l =
        let f = some_blocker s sooner inside each p c l in
        absurd (some_blocker_in s f.0 inside f.1 none)
    by false l = both_by_agreement (is_done p.send_state) (is_done p.receive_state) (ends_agree F s known.facts rest p c) l

module _ (F : Functions) (K : PhysicalKind → Type 0) (law : ReachedLaw F K) (shape : Shape) (o : Options) (sound : IsSound F shape) (covered : (n : ℕ) (p : PhysicalNode) → slice_get shape n ≡ Some p → K p.kind) where
  same_shape : (w : World) → Reaches F shape o w → shape_of w ≡ shape
  same_shape w r = replay_shape F (opening shape o) w r.0 r.1 ∙ opening_shape shape

  known : (w : World) → Reaches F shape o w → Known F w
  known w r = known_reached F shape o w sound r

  -- the kind of a node of a world of the shape
  kind_of : (w : World) → shape_of w ≡ shape → (n : ℕ) (node : Node) → slice_get w.nodes n ≡ Some node → K node.node.kind
  kind_of w same n node at = covered n node.node (ap (λ ps. slice_get ps n) (sym same) ∙ in_shape w n node at)

  justified : (w : World) → Reaches F shape o w → AllJustified F (shape_of w) (sent_at w)
  justified w r n p e =
      let x = node_of w n p e in
      let k = kind_of w (same_shape w r) n x.0 x.1 in
      subst (λ q. Justified F q (input_schemas (shape_of w) q) (sent_to (sent_at w) q) (sent_at w n)) x.2 (law.justified shape o w n x.0 sound r x.1 k)

  pub served : (w : World) → Reaches F shape o w → ServedByChoice F shape (sent_at w)
  served w r = subst (λ s. ServedByChoice F s (sent_at w)) (same_shape w r) (one_choice F (shape_of w) (sent_at w) (forward F w (known w r).facts) (justified w r))

  pub pieces_have_results : PiecesHaveResults F shape o
  pieces_have_results w q r cq =
      let at = piece_nodes F w (known w r).facts q cq in
      law.results shape o w q.node at.0 q sound r at.1 (kind_of w (same_shape w r) q.node at.0 at.1) cq refl

  -- A FINISHED RUN
  abbrev DoneIfFinished : World → Type 0
  DoneIfFinished w = w.ending ≡ finished → AllDone w

  done_at : (w v : World) (r : Record) → Reaches F shape o w → w.ending ≡ running → Ends F w r v → DoneIfFinished v
  done_at w v r reached run (goes_on e) over = absurd (let no : running ≡ finished = sym e ∙ over in cc)
  done_at w v r reached run (faults n c m e) over = absurd (let no : faulty c ≡ finished = sym e ∙ over in cc)
  done_at w v r reached run (finishes s phase shut u rest none e) over =
      let settled = (facts_law F).at_update w s (known w reached) shut u in
      let same : shape_of s ≡ shape = updates_keep F w s u ∙ same_shape w reached in
      let between : IsBetween F shape o w s = record { reached = reached; shut = shut; runs = run; updates = u } in
      let done = settled_done F s settled (λ n node at. law.ports shape o w s n node sound between at (kind_of s same n node at) rest) rest none in
      let pipes : v.pipes ≡ s.pipes = ap (λ (x : World). x.pipes) e ∙ last_pipes s phase none in
      λ p c. done p (subst (λ (ps : List Pipe). Contains (map (λ (x : Pipe). x.wire) ps) p) pipes c)

  -- A FAULTY RUN
  names_at : (w : World) (r : Reaches F shape o w) (n : ℕ) (p : PhysicalNode) (c : Cause) → slice_get (shape_of w) n ≡ Some p → NamesOwn F w p c → NamesCause F shape c
  names_at w r n p c e (inl f) =
      (n, p, ap (λ ps. slice_get ps n) (sym (same_shape w r)) ∙ e, f.0, inl (subst (λ x. PhysicalBrokenBy F x n c) (same_shape w r) (faulty_is_broken F (shape_of w) (sent_at w) (forward F w (known w r).facts) (justified w r) n p c e f.1)))
  names_at w r n p c e (inr f) =
      (n, p, ap (λ ps. slice_get ps n) (sym (same_shape w r)) ∙ e, ap (λ (x : Cause). x.node) f.0, inr (f.0, subst (λ x. PhysicalIsLarge F x n) (same_shape w r) (large_by F (shape_of w) (sent_at w) (forward F w (known w r).facts) (justified w r) n p e f.1)))

  -- a step of an open phase
  names_in_phase : (w : World) (r : Reaches F shape o w) (j : Record) (n : ℕ) (node : Node) (c : Cause) → slice_get w.nodes n ≡ Some node → w.is_open ≡ true → MakesFault F w j n c → NamesCause F shape c
  names_in_phase w r j n node c there on m = names_at w r n node.node c (in_shape w n node there) (law.steps shape o w n node j c sound r there (kind_of w (same_shape w r) n node there) on m)

  -- an Open leads to a world with the nodes and pipes of that in which its updates found the fault
  names_by_open : (w : World) (r : Reaches F shape o w) (phase n : ℕ) (c : Cause) → w.ending ≡ running → phase ≡ w.phase + 1 → MakesFault F w (opened phase) n c → NamesCause F shape c
  names_by_open w r phase n c run next m = by m.1.2.0 m.1.2.1
    where
      s : World
      s = m.1.0

      same : shape_of s ≡ shape_of w
      same = updates_keep F w s m.1.1

      opened_too : Reaches F shape o (after_fault s phase c)
      opened_too = reached_more F shape o w (after_fault s phase c) (opened phase) r (m.0, run, next, (s, m.1.1, breaks n c m.1.2 refl))

      by : (node : Node) → slice_get s.nodes n ≡ Some node → NamesCause F shape c
      by node at =
          let own = of_step F w (opened phase) n node.node c (known w r) (reached_own F shape o w sound r) (ap (λ ps. slice_get ps n) (sym same) ∙ in_shape s n node at) m in
          let between : IsBetween F shape o w s = record { reached = r; shut = m.0; runs = run; updates = m.1.1 } in
          names_at (after_fault s phase c) opened_too n node.node c (in_shape s n node at) (law.opens shape o w s n node c sound between at (kind_of s (same ∙ same_shape w r) n node at) own m.1.2)

  open_of : (b c : Bool) → (b && c) ≡ true → b ≡ true
  open_of true c e = refl
  open_of false c e = e

  names : (w v : World) (r : Reaches F shape o w) (j : Record) (n : ℕ) (c : Cause) → Steps F w j v → MakesFault F w j n c → NamesCause F shape c
  names w v r (opened phase) n c st m = names_by_open w r phase n c st.1 st.2 m
  names w v r (handed_in k i number worker handed) n c st m =
      let on = (facts_law F).pieces_open w m.1 (known w r) m.2 in
      let at = piece_nodes F w (known w r).facts m.1 m.2 in
      names_in_phase w r (handed_in k i number worker handed) n at.0 c (ap (slice_get w.nodes) (sym m.3) ∙ at.1) on m
  names w v r (pulled k i number) n c st m = names_in_phase w r (pulled k i number) n m.2.0 c (ap (slice_get w.nodes) (sym m.0) ∙ m.2.1.0) (open_of w.is_open _ m.2.1.1) m
  names w v r (claimed k i number worker) n c st m = absurd m
  names w v r (closed k) n c st m = absurd m
  names w v r (ended phase) n c st m = absurd m

  faulty_at : (w v : World) (j : Record) → Reaches F shape o w → Steps F w j v → Ends F w j v → (c : Cause) → v.ending ≡ faulty c → NamesCause F shape c
  faulty_at w v j r st (goes_on e) c f = absurd (let no : running ≡ faulty c = sym e ∙ f in cc)
  faulty_at w v j r st (finishes s phase shut u rest none e) c f = absurd (let no : finished ≡ faulty c = sym (ap (λ (x : World). x.ending) e ∙ last_ending s phase none) ∙ f in cc)
  faulty_at w v j r st (faults n d m e) c f = subst (λ x. NamesCause F shape x) (same_cause v.ending d c e f) (names w v r j n d st m)

  -- EVERY RUN
  abbrev EndsRight : World → Type 0
  EndsRight w = DoneIfFinished w × ((c : Cause) → w.ending ≡ faulty c → NamesCause F shape c)

  run_ends_right : (w v : World) (js : List Record) → Reaches F shape o w → Replays F w js v → EndsRight w → EndsRight v
  run_ends_right w v [] r e h = subst EndsRight (sym e) h
  run_ends_right w v (j ∷ js) r st h =
      let end = ends_of F w st.0 j st.1 in
      run_ends_right st.0 v js (reached_more F shape o w st.0 j r st.1) st.2 (done_at w st.0 j r (runs_before F w st.0 j st.1) end, faulty_at w st.0 j r st.1 end)

  pub answered : (w : World) → Reaches F shape o w → IsAnswered F shape w
  answered w r =
      let h = run_ends_right (opening shape o) w r.0 (fresh_reached F shape o) r.1 ((λ e. absurd (let no : running ≡ finished = e in cc)), λ c e. absurd (let no : running ≡ faulty c = e in cc)) in
      ((λ e. (holds_meaning F shape w (same_shape w r) (served w r) (h.0 e), h.0 e)), h.1)

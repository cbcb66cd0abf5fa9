-- A claim and a pull leave less to do.
use Rattle.std.proofs.Common.{◌≡◌, ℕ, ◌<◌, ◌≤◌, ◌⊎◌, Bool, true, false, cond, List, [], ◌∷◌, length, None, Some, refl, sym, ap, subst, ◌∙◌, inl, inr, arith}
use Rattle.std.specs.Prelude.{Contains, nat_eq, option_map, slice_get, ◌&&◌}
use Rattle.std.proofs.lemmas.Option.{slice_get_within}
use Rattle.ps_frame.specs.Functions.{Functions}
use Rattle.ps_frame.specs.Tables.{Row}
use Rattle.ps_meaning.specs.Shape.{PhysicalKind, zip_node}
use Rattle.ps_turns.specs.Claims.{Claim}
use Rattle.ps_turns.specs.Heads.{heads_by, stored_inputs}
use Rattle.ps_turns.specs.Progress.{is_multiplexer}
use Rattle.ps_world.specs.Claims.{before_drops, claim_at, inputs_in_phase, next_morsel}
use Rattle.ps_world.specs.Pipes.{change_pipes, dropped_pipe, is_input, taken, with_drops, with_morsel, with_place}
use Rattle.ps_world.specs.Pulls.{after_pull, is_open_port}
use Rattle.ps_world.specs.Step.{Steps}
use Rattle.ps_world.specs.World.{Node, Pipe, World, bounded_out, claimed, has_next, heads_of, inputs_done, is_bounded, morsel_at, pulled, schemas_for}
use Rattle.ps_ports.specs.Ports.{is_done}
use Rattle.std.specs.Prelude.{not}
use Rattle.world_facts.proofs.CutOff.{both_true, same_number}
use Rattle.world_facts.proofs.HandedIn.{length_set}
use Rattle.world_facts.proofs.Slots.{set_here, set_other}
use Rattle.world_laws.proofs.PassingPorts.{was_kept}
use Rattle.world_measure.proofs.Drops.{drops}
use Rattle.world_measure.proofs.Falls.{nodes_fall, nodes_left}
use Rattle.world_measure.proofs.Own.{Does, does, gives, takes}
use Rattle.world_measure.proofs.Pipes.{LeadOn, drop_no_more, morsel_wire, sent_no_more, take_fewer, take_leads, take_no_more}
use Rattle.world_measure.specs.Left.{own_left, own_left_at, own_left_of, untaken_by}
use Rattle.world_measure.specs.Order.{IsLess}

-- what is true of a change where it is made holds whether it is made or not
if_taken : (b : Bool) (n i : ℕ) (ps : List Pipe) (j : ℕ) → untaken_by j (cond b (change_pipes (is_input n i) taken ps) ps) ≤ untaken_by j ps
if_taken true n i ps j = take_no_more n i ps j
if_taken false n i ps j = omega arith

if_leads : (b : Bool) (n i : ℕ) (ps : List Pipe) → LeadOn ps → LeadOn (cond b (change_pipes (is_input n i) taken ps) ps)
if_leads true n i ps h = take_leads n i ps h
if_leads false n i ps h = h

if_dropped : (b : Bool) (n i : ℕ) (ps : List Pipe) (j : ℕ) → untaken_by j (cond b (change_pipes (is_input n i) dropped_pipe ps) ps) ≤ untaken_by j ps
if_dropped true n i ps j = drop_no_more (is_input n i) ps j
if_dropped false n i ps j = omega arith

-- the pipe of the next morsel
next_pipe : (ps : List Pipe) (m : ℕ × List Row) → next_morsel ps ≡ Some m → (p : Pipe) × Contains ps p × (has_next p ≡ true)
next_pipe [] m e = absurd (let no : None ≡ Some m = e in cc)
next_pipe (p ∷ ps) m e = by (has_next p) refl (next_pipe ps m)
  where
    by : (b : Bool) → has_next p ≡ b → (next_morsel ps ≡ Some m → (x : Pipe) × Contains ps x × (has_next x ≡ true)) → (x : Pipe) × Contains (p ∷ ps) x × (has_next x ≡ true)
    by true h rest = (p, Rattle.world_laws.proofs.InOrder.contains_first p ps, h)
    by false h rest =
        let later = rest (sym (ap (λ b. cond b (option_map (λ rs. (p.next, rs)) (morsel_at p.next p.got)) (next_morsel ps)) h) ∙ e) in
        (later.0, Rattle.world_laws.proofs.InOrder.contains_later p later.0 ps later.1, later.2)

pub heads_are : (w : World) (n : ℕ) (node : Node) (extend : Bool) → node.node.kind ≡ zip_node extend → heads_of w n node ≡ heads_by extend node.progress.booked (stored_inputs (inputs_done w n) node.progress.stores)
heads_are w n node extend e = ap (λ (x : PhysicalKind). heads_of w n (record node { node = record node.node { kind = x } })) e

module _ (F : Functions) (w : World) (leads : LeadOn w.pipes) where
  module _ (n i worker : ℕ) (node : Node) (at : slice_get w.nodes n ≡ Some node) (c : Claim) (is : claim_at w n i node ≡ Some c) where
    abbrev u : World
    u = before_drops w n i worker node c

    abbrev after_taking : List Pipe
    after_taking = cond c.takes_morsel (change_pipes (is_input n i) taken w.pipes) w.pipes

    abbrev after_places : List Pipe
    after_places = change_pipes (bounded_out w n) with_place after_taking

    from_node : (p : Pipe) → bounded_out w n p ≡ true → p.wire.sender ≡ n
    from_node p e = same_number p.wire.sender n (both_true (nat_eq p.wire.sender n) (p.in_phase && (is_bounded w p && not p.is_dropped)) e).0

    pipes_from : (j : ℕ) → j ≤ n → untaken_by j u.pipes ≤ untaken_by j after_taking
    pipes_from j low =
        let places = sent_no_more n j (bounded_out w n) with_place after_taking low (if_leads c.takes_morsel n i w.pipes leads) from_node (λ p. refl) in
        let dropped = if_dropped c.drops_input n i after_places j in
        omega arith

    pipes_to : (j : ℕ) → j ≤ n → untaken_by j u.pipes ≤ untaken_by j w.pipes
    pipes_to j low = let first = if_taken c.takes_morsel n i w.pipes j in let rest = pipes_from j low in omega arith

    own_before : (j : ℕ) → j < n → own_left_at u j ≡ own_left_at w j
    own_before j less = ap own_left_of (set_other w.nodes n j (record node { progress = c.progress }) (λ e. omega arith))

    own_here : own_left_at u n ≡ own_left node.node.kind c.progress
    own_here = ap own_left_of (set_here w.nodes n node (record node { progress = c.progress }) at)

    own_then : own_left_at w n ≡ own_left node.node.kind node.progress
    own_then = ap own_left_of at

    falls : Does node.node.kind node.progress (next_morsel (inputs_in_phase w n i)) c → (untaken_by n u.pipes < untaken_by n w.pipes) ⊎ (own_left_at u n < own_left_at w n)
    falls (gives t less turns) = let a = own_here in let b = own_then in inr (omega arith)
    falls (takes m e t turns) =
        let p = next_pipe (inputs_in_phase w n i) m e in
        let there = was_kept (λ (x : Pipe). is_input n i x && x.in_phase) p.0 w.pipes p.1 in
        let input = both_true (is_input n i p.0) p.0.in_phase there.1 in
        let fewer = take_fewer n i w.pipes p.0 there.0 input.0 p.2 in
        let first : untaken_by n after_taking < untaken_by n w.pipes = subst (λ b. untaken_by n (cond b (change_pipes (is_input n i) taken w.pipes) w.pipes) < untaken_by n w.pipes) (sym t) fewer in
        let rest = pipes_from n (omega arith) in
        inl (omega arith)

    claim_less : IsLess (nodes_left (with_drops u)) (nodes_left w)
    claim_less =
        let d = drops (length u.nodes) u in
        let long = length_set w.nodes n (record node { progress = c.progress }) in
        let done = does w.options node.node (schemas_for w node) node.progress (heads_of w n node) (inputs_done w n) i (next_morsel (inputs_in_phase w n i)) c node.node.kind (heads_are w n node) is in
        nodes_fall w (with_drops u) n (d.nodes ∙ long) (slice_get_within w.nodes n node at) (λ j low. let a = d.pipes j in let b = pipes_to j low in omega arith) (λ j low. let a = d.own j in let b = own_before j low in omega arith) (by (falls done))
      where
        by : (untaken_by n u.pipes < untaken_by n w.pipes) ⊎ (own_left_at u n < own_left_at w n) → (untaken_by n (with_drops u).pipes < untaken_by n w.pipes) ⊎ (own_left_at (with_drops u) n < own_left_at w n)
        by (inl less) = let a = (drops (length u.nodes) u).pipes n in inl (omega arith)
        by (inr less) = let a = (drops (length u.nodes) u).own n in inr (omega arith)

  pub claims_fall : (n i number worker : ℕ) (v : World) → Steps F w (claimed n i number worker) v → IsLess (nodes_left v) (nodes_left w)
  claims_fall n i number worker v s =
      let node = s.0 in
      let claim = s.5 in
      subst (λ x. IsLess (nodes_left x) (nodes_left w)) (sym claim.3) (claim_less n i worker node s.1.0 claim.0 claim.1)

  -- PULLS
  handed_on : (b : Bool) (n : ℕ) (m : List Row) (ps : List Pipe) → LeadOn ps → (j : ℕ) → j ≤ n → untaken_by j (cond b (change_pipes (is_open_port n) (with_morsel m) ps) ps) ≤ untaken_by j ps
  handed_on true n m ps h j low =
      sent_no_more n j (is_open_port n) (with_morsel m) ps low h (λ p e. same_number p.wire.sender n (both_true (nat_eq p.wire.sender n) (not (is_done p.wire.receive_state) && not p.is_dropped) e).0) (morsel_wire m)
  handed_on false n m ps h j low = omega arith

  pull_less : (n i : ℕ) (node : Node) (p : Pipe) (m : List Row) → slice_get w.nodes n ≡ Some node → Contains w.pipes p → is_input n i p ≡ true → has_next p ≡ true → IsLess (nodes_left (after_pull w n i node p m)) (nodes_left w)
  pull_less n i node p m at c input next =
      nodes_fall w (after_pull w n i node p m) n (length_set w.nodes n _) (slice_get_within w.nodes n node at)
      (λ j low. let a = handed_on (is_multiplexer node.node.kind) n m (change_pipes (is_input n i) taken w.pipes) (take_leads n i w.pipes leads) j low in let b = take_no_more n i w.pipes j in omega arith)
      (λ j low. let e : own_left_at (after_pull w n i node p m) j ≡ own_left_at w j = ap own_left_of (set_other w.nodes n j _ (λ e. omega arith)) in omega arith)
      (inl (let a = handed_on (is_multiplexer node.node.kind) n m (change_pipes (is_input n i) taken w.pipes) (take_leads n i w.pipes leads) n (omega arith) in let b = take_fewer n i w.pipes p c input next in omega arith))

  pub pulls_fall : (n i number : ℕ) (v : World) → Steps F w (pulled n i number) v → IsLess (nodes_left v) (nodes_left w)
  pulls_fall n i number v s =
      let pull = s.4 in
      let p = pull.0 in
      let input = both_true (is_input n i p) p.in_phase pull.3 in
      subst (λ x. IsLess (nodes_left x) (nodes_left w)) (sym pull.8) (pull_less n i s.0 p pull.1 s.1.0 pull.2 input.0 pull.4)

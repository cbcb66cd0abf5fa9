-- An update of the graph that a world shows is an update of the world, with a fill before it where the node waits for its table.
use Rattle.std.proofs.Common.{◌≡◌, ℕ, zero, suc, ◌⊎◌, cond, List, [], ◌∷◌, Some, None, refl, sym, ap, subst, ◌∙◌, inl, inr}
use Rattle.std.specs.Prelude.{IsFalse, get_or, map, nat_eq, slice_get, slice_set}
use Rattle.ps_frame.specs.Causes.{Cause}
use Rattle.ps_frame.specs.Functions.{Functions}
use Rattle.ps_meaning.specs.Sound.{input_schemas}
use Rattle.ps_ports.specs.Ports.{Sides}
use Rattle.ps_settle.specs.Standings.{updated as updated_standing}
use Rattle.ps_settle.proofs.Members.{map_twice, set_here}
use Rattle.ps_turns.specs.Progress.{Progress}
use Rattle.ps_turns.specs.Updates.{Fills, answer_of, is_waiting, shape_fault}
use Rattle.ps_world.specs.Pipes.{put_progress, with_progress}
use Rattle.ps_world.specs.Updates.{FaultFound, FillsAt, TurnsAt, Updates, answer_at, empty_outs, given_at, no_update, one_fill, one_update, received, sent, updated, written}
use Rattle.ps_world.specs.World.{Node, Pipe, World, heads_of, schemas_for, shape_of}
use Rattle.turn_laws.specs.Updating.{FillsAndUpdates, FindsFault, SeenNode, UpdatesTo}
use Rattle.world_laws.proofs.Shapes.{shown_set}
use Rattle.world_rest.proofs.Seen.{drained_alike, heads_are, seen_alike, seen_at, set_seen, standing_of, wires_written, written_pipe}

-- one list of updates after another
pub after : (F : Functions) (w v u : World) → Updates F w v → Updates F v u → Updates F w u
after F w v u no_update more = more
after F w v u (one_update n node progress t rest) more = one_update n node progress t (after F (updated w n node progress) v u rest more)
after F w v u (one_fill n node progress t rest) more = one_fill n node progress t (after F (with_progress n progress w) v u rest more)

put_is : (w : World) (n : ℕ) (node : Node) (progress : Progress) → slice_get w.nodes n ≡ Some node → with_progress n progress w ≡ record w { nodes = slice_set w.nodes n (record node { progress = progress }) }
put_is w n node progress at = λ i. put_progress (at i) n progress w

set_twice : {A : Type 0} (xs : List A) (n : ℕ) (x y : A) → slice_set (slice_set xs n x) n y ≡ slice_set xs n y
set_twice [] n x y = refl
set_twice (z ∷ zs) zero x y = refl
set_twice (z ∷ zs) (suc n) x y = ap (λ l. z ∷ l) (set_twice zs n x y)

-- the world in which a node has become another one, and an answer is written
abbrev pub turned : World → ℕ → Node → Sides → World
turned v n y answer = record v { nodes = slice_set v.nodes n y; pipes = map (written_pipe n answer) v.pipes }

updated_is : (v : World) (n : ℕ) (x : Node) (progress : Progress) → slice_get v.nodes n ≡ Some x → updated v n x progress ≡ turned v n (record x { progress = progress }) (answer_at v n x progress)
updated_is v n x progress at =
    let a = answer_at v n x progress in
    ap (written n a) (put_is v n x progress at)
    ∙ (λ i. record v {
      nodes = slice_set v.nodes n (record x { progress = progress });
      pipes = map_twice (λ (p : Pipe). cond (nat_eq p.wire.sender n) (sent (get_or a.outputs p.wire.port p.wire.send_state) p) p) (λ (p : Pipe). cond (nat_eq p.wire.receiver n) (received (get_or a.inputs p.wire.input p.wire.receive_state) p) p) v.pipes i;
    })

module _ (F : Functions) (v : World) (n : ℕ) (x : Node) (at : slice_get v.nodes n ≡ Some x) where
  -- such a world shows the graph that is updated so
  pub turned_shows : (progress : Progress) (answer : Sides) → standing_of (turned v n (record x { progress = progress }) answer) ≡ updated_standing n (record (seen_at v n x) { progress = progress }) answer (standing_of v)
  turned_shows progress answer =
      let u = turned v n (record x { progress = progress }) answer in
      let shape : shape_of u ≡ shape_of v = shown_set v.nodes n x (record x { progress = progress }) at refl in
      let same = λ (m : ℕ) (z : Node). drained_alike n answer v u refl m in
      let each : (m : ℕ) (z : Node) → seen_at u m z ≡ seen_at v m z = λ m z i. record (seen_at v m z) { schemas = input_schemas (shape i) z.node; empties = same m z i } in
      let nodes = seen_alike u v 0 (slice_set v.nodes n (record x { progress = progress })) each ∙ set_seen v n (record x { progress = progress }) in
      let wires = wires_written n answer v.pipes in
      λ i. record { nodes = nodes i; wires = wires i }

  -- an update of the node leads there
  one_turn : (b : SeenNode) (answer : Sides) → UpdatesTo F v.options (seen_at v n x) (given_at v n) b answer → Updates F v (turned v n (record x { progress = b.progress }) answer)
  one_turn b answer u =
      let agrees : shape_fault x.node x.node.kind (heads_of v n x) (given_at v n) ≡ None = ap (λ hs. shape_fault x.node x.node.kind hs (given_at v n)) (heads_are v n x) ∙ u.agrees in
      let answers : answer_at v n x b.progress ≡ answer = ap (λ hs. answer_of v.options x.node b.progress hs (empty_outs v n) (given_at v n)) (heads_are v n x) ∙ sym u.answers in
      let turns : TurnsAt F v n x b.progress = (at, agrees, u.turns) in
      let there : updated v n x b.progress ≡ turned v n (record x { progress = b.progress }) answer = updated_is v n x b.progress at ∙ ap (turned v n (record x { progress = b.progress })) answers in
      subst (Updates F v) there (one_update n x b.progress turns no_update)

-- An update of the graph's node, filled first where it waits for its table.
module _ (F : Functions) (v : World) (n : ℕ) (x : Node) (at : slice_get v.nodes n ≡ Some x) (b : SeenNode) (answer : Sides) where
  module _ (filled : Progress) (u : UpdatesTo F v.options (record (seen_at v n x) { progress = filled }) (given_at v n) b answer) where
    seen_filled : seen_at (record v { nodes = slice_set v.nodes n (record x { progress = filled }) }) n (record x { progress = filled }) ≡ record (seen_at v n x) { progress = filled }
    seen_filled =
        let shape : shape_of (record v { nodes = slice_set v.nodes n (record x { progress = filled }) }) ≡ shape_of v = shown_set v.nodes n x (record x { progress = filled }) at refl in
        λ i. record (seen_at v n x) { schemas = input_schemas (shape i) x.node; progress = filled }

    then_turns : Updates F (record v { nodes = slice_set v.nodes n (record x { progress = filled }) }) (turned v n (record x { progress = b.progress }) answer)
    then_turns =
        let w : World = record v { nodes = slice_set v.nodes n (record x { progress = filled }) } in
        let there = set_here v.nodes n x (record x { progress = filled }) at in
        let same = subst (λ a. UpdatesTo F v.options a (given_at v n) b answer) (sym seen_filled) u in
        let turns = one_turn F w n (record x { progress = filled }) there b answer same in
        let twice = set_twice v.nodes n (record x { progress = filled }) (record x { progress = b.progress }) in
        subst (λ nodes. Updates F w (record v { nodes = nodes; pipes = map (written_pipe n answer) v.pipes })) twice turns

    with_fill : Fills F x.node (schemas_for v x) (given_at v n) x.progress filled → Updates F v (turned v n (record x { progress = b.progress }) answer)
    with_fill fills =
        let fill : FillsAt F v n x filled = (at, fills) in
        one_fill n x filled fill (subst (λ w. Updates F w (turned v n (record x { progress = b.progress }) answer)) (sym (put_is v n x filled at)) then_turns)

    without_fill : filled ≡ x.progress → Updates F v (turned v n (record x { progress = b.progress }) answer)
    without_fill e = one_turn F v n x at b answer (subst (λ p. UpdatesTo F v.options (record (seen_at v n x) { progress = p }) (given_at v n) b answer) e u)

  pub world_updates : FillsAndUpdates F v.options (seen_at v n x) (given_at v n) b answer → Updates F v (turned v n (record x { progress = b.progress }) answer)
  world_updates u = by u.fills
    where
      by : (IsFalse (is_waiting x.node.kind x.progress (given_at v n)) × (u.filled ≡ x.progress)) ⊎ Fills F x.node (schemas_for v x) (given_at v n) x.progress u.filled
          → Updates F v (turned v n (record x { progress = b.progress }) answer)
      by (inl (w, e)) = without_fill u.filled u.update e
      by (inr fills) = with_fill u.filled u.update fills

  -- the graph afterwards is the one that the world shows
  pub world_shows : FillsAndUpdates F v.options (seen_at v n x) (given_at v n) b answer → standing_of (turned v n (record x { progress = b.progress }) answer) ≡ updated_standing n b answer (standing_of v)
  world_shows u = turned_shows F v n x at b.progress answer ∙ ap (λ c. updated_standing n c answer (standing_of v)) (sym u.update.others)

-- what a node of the graph finds is a fault that the world finds
pub world_finds : (F : Functions) (v : World) (n : ℕ) (x : Node) → slice_get v.nodes n ≡ Some x → (c : Cause) → FindsFault F v.options (seen_at v n x) (given_at v n) c → FaultFound F v n c
world_finds F v n x at c (inl e) = (x, at, inl (ap (λ hs. shape_fault x.node x.node.kind hs (given_at v n)) (heads_are v n x) ∙ e))
world_finds F v n x at c (inr breaks) = (x, at, inr breaks)

-- Between phases updates and fills of a reached world come to rest, or find a fault.
use Rattle.std.proofs.Common.{◌≡◌, ℕ, ◌⊎◌, Some, refl, sym, ap, subst, ◌∙◌, inl, inr}
use Rattle.std.specs.Prelude.{IsFalse, length, option_map, slice_get}
use Rattle.std.proofs.lemmas.Option.{slice_get-map}
use Rattle.ps_frame.specs.Causes.{Cause}
use Rattle.ps_frame.specs.Functions.{Functions}
use Rattle.ps_ports.specs.Ports.{Sides}
use Rattle.ps_ports.specs.Wires.{IsWired, given_to}
use Rattle.ps_settle.specs.Standings.{IsSettled as IsSettledGraph, Standing, updated as updated_standing}
use Rattle.ps_world.specs.Facts.{Facts}
use Rattle.ps_world.specs.Laws.{ComesToRest}
use Rattle.ps_world.specs.Updates.{FaultFound, IsSettled, Updates, given_at, no_update}
use Rattle.ps_world.specs.World.{Node, World, shape_of}
use Rattle.turn_laws.specs.Updating.{FillsAndUpdates, SeenNode, stages_behind}
use Rattle.turn_laws.proofs.Ending.{goes_on}
use Rattle.turn_laws.proofs.KeptLaws.{fills_keep_laws}
use Rattle.world_claims.specs.Numbering.{Known}
use Rattle.world_facts.proofs.Placing.{has_inputs, has_readers}
use Rattle.world_facts.proofs.UpdatedKeeps.{updates_keep_facts}
use Rattle.world_rest.proofs.Seen.{seen_at, seen_node, standing_of}
use Rattle.world_rest.proofs.Settled.{settled_world}
use Rattle.world_rest.proofs.Sweeping.{comes_to_rest}
use Rattle.world_rest.proofs.Turning.{after, turned, world_finds, world_shows, world_updates}
use Rattle.world_rest.proofs.Wired.{wired_world}

-- the nodes of a world are those of its shape
in_shape : (w : World) (n : ℕ) (x : Node) → slice_get w.nodes n ≡ Some x → slice_get (shape_of w) n ≡ Some x.node
in_shape w n x e = slice_get-map (λ (y : Node). y.node) w.nodes n ∙ ap (option_map (λ (y : Node). y.node)) e

module _ (F : Functions) (w : World) where
  -- the world has a fault that some updates lead to
  abbrev Faulty : Type 0
  Faulty = (s : World) × Updates F w s × ((n : ℕ) × (c : Cause) × FaultFound F s n c)

  -- some updates lead to a world that shows this graph
  record Leads (s : Standing SeenNode) : Type 0 where
    world : World
    shows : standing_of world ≡ s
    options : world.options ≡ w.options
    facts : Facts F world
    shut : IsFalse world.is_open
    updates : Updates F w world

  -- a node of such a world goes on, or has a fault
  node_goes : (s : Standing SeenNode) (l : Leads s) (n : ℕ) (x : Node) → slice_get l.world.nodes n ≡ Some x
      → ((b : SeenNode) × (answer : Sides) × FillsAndUpdates F l.world.options (seen_at l.world n x) (given_at l.world n) b answer) ⊎ Faulty
  node_goes s l n x at =
      let fit = (l.facts.sound.0 n x.node (in_shape l.world n x at)).parameters in
      let goes = goes_on F l.world.options (seen_at l.world n x) (given_at l.world n) fit (has_inputs F l.world l.facts n x at, has_readers F l.world l.facts n x at) in
      elim goes [
        | inl u ↦ inl u
        | inr (c, found) ↦ inr (l.world, l.updates, (n, c, world_finds F l.world n x at c found))
      ]

  is_wired : (s : Standing SeenNode) → Leads s → IsWired (length s.nodes) s.wires
  is_wired s l = subst (λ (t : Standing SeenNode). IsWired (length t.nodes) t.wires) l.shows (wired_world F l.world l.facts)

  -- one more update of the graph
  one_more : (v : World) → v.options ≡ w.options → Facts F v → IsFalse v.is_open → Updates F w v → (n : ℕ) (a b : SeenNode) (answer : Sides) → slice_get (standing_of v).nodes n ≡ Some a
      → FillsAndUpdates F v.options a (given_at v n) b answer → Leads (updated_standing n b answer (standing_of v))
  one_more v options facts shut updates n a b answer e u =
      let x = seen_node v n a e in
      let same = subst (λ c. FillsAndUpdates F v.options c (given_at v n) b answer) (sym x.2) u in
      let more = world_updates F v n x.0 x.1 b answer same in
      let kept = updates_keep_facts F v (turned v n (record x.0 { progress = b.progress }) answer) more facts shut in
      record {
        world = turned v n (record x.0 { progress = b.progress }) answer;
        shows = world_shows F v n x.0 x.1 b answer same;
        options = options;
        facts = kept.0;
        shut = kept.1;
        updates = after F w v (turned v n (record x.0 { progress = b.progress }) answer) updates more;
      }

  leads_on : (s : Standing SeenNode) (n : ℕ) (a b : SeenNode) (answer : Sides) → Leads s → slice_get s.nodes n ≡ Some a → FillsAndUpdates F w.options a (given_to n s.wires) b answer → Leads (updated_standing n b answer s)
  leads_on s n a b answer l e u =
      let at = ap (λ (t : Standing SeenNode). slice_get t.nodes n) l.shows ∙ e in
      let same : FillsAndUpdates F l.world.options a (given_at l.world n) b answer =
      subst (λ o. FillsAndUpdates F o a (given_at l.world n) b answer) (sym l.options) (subst (λ (t : Standing SeenNode). FillsAndUpdates F w.options a (given_to n t.wires) b answer) (sym l.shows) u) in
      subst (λ t. Leads (updated_standing n b answer t)) l.shows (one_more l.world l.options l.facts l.shut l.updates n a b answer at same)

  next : (s : Standing SeenNode) (n : ℕ) (a : SeenNode) → Leads s → slice_get s.nodes n ≡ Some a → ((b : SeenNode) × (answer : Sides) × FillsAndUpdates F w.options a (given_to n s.wires) b answer) ⊎ Faulty
  next s n a l e =
      let at = ap (λ (t : Standing SeenNode). slice_get t.nodes n) l.shows ∙ e in
      let x = seen_node l.world n a at in
      elim (node_goes s l n x.0 x.1) [
        | inl (b, answer, u) ↦
            inl (
              b,
              answer,
              subst (λ (t : Standing SeenNode). FillsAndUpdates F w.options a (given_to n t.wires) b answer) l.shows
                  (subst (λ o. FillsAndUpdates F o a (given_at l.world n) b answer) l.options (subst (λ c. FillsAndUpdates F l.world.options c (given_at l.world n) b answer) x.2 u)),
            )
        | inr stop ↦ inr stop
      ]

  -- a graph at rest is a world at rest, or has a fault
  finish : (s : Standing SeenNode) → Leads s → IsSettledGraph stages_behind (FillsAndUpdates F w.options) s → (t : World) × Updates F w t × (IsSettled t ⊎ ((n : ℕ) × (c : Cause) × FaultFound F t n c))
  finish s l rest =
      let settled : IsSettledGraph stages_behind (FillsAndUpdates F l.world.options) (standing_of l.world) =
      subst (λ o. IsSettledGraph stages_behind (FillsAndUpdates F o) (standing_of l.world)) (sym l.options) (subst (IsSettledGraph stages_behind (FillsAndUpdates F w.options)) (sym l.shows) rest) in
      elim (settled_world F l.world l.facts settled Faulty (λ n x at. node_goes s l n x at)) [
        | inl at_rest ↦ (l.world, l.updates, inl at_rest)
        | inr (t, u, found) ↦ (t, u, inr found)
      ]

  pub rests : Facts F w → IsFalse w.is_open → (t : World) × Updates F w t × (IsSettled t ⊎ ((n : ℕ) × (c : Cause) × FaultFound F t n c))
  rests facts shut =
      let first : Leads (standing_of w) = record { world = w; shows = refl; options = refl; facts = facts; shut = shut; updates = no_update } in
      elim (comes_to_rest stages_behind (FillsAndUpdates F w.options) (fills_keep_laws F w.options (λ a. a)) Faulty Leads is_wired leads_on next (standing_of w) first) [
        | inl (s, l, settled) ↦ finish s l settled
        | inr (t, u, found) ↦ (t, u, inr found)
      ]

pub rest_from_facts : (F : Functions) → ComesToRest F (Facts F)
rest_from_facts F w f shut runs = rests F w f shut

pub rest_from_known : (F : Functions) → ComesToRest F (Known F)
rest_from_known F w k shut runs = rests F w k.facts shut

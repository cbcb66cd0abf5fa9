-- Updates of a graph are updates of the world that it shows.
use Rattle.std.proofs.Common.{◌≡◌, ℕ, Bool, true, false, List, None, Some, inl, inr, refl, sym, ap, subst, ◌∙◌, arith}
use Rattle.std.specs.Prelude.{◌||◌, map, slice_get, slice_set}
use Rattle.std.proofs.lemmas.Bool.{cases_eq}
use Rattle.std.proofs.lemmas.List.{length-set}
use Rattle.std.proofs.lemmas.Option.{slice_get_within}
use Rattle.ps_flow.proofs.Seeing.{after, all_stay, contents_of, heads_are, same_answer, turned, updated_is, wires_written, written_pipe}
use Rattle.ps_flow.specs.Openings.{IsPlain}
use Rattle.ps_flow.specs.Standing.{HaveAll, seen_as}
use Rattle.ps_frame.specs.Functions.{Functions}
use Rattle.ps_graph.proofs.Turning.{map_set, set_same}
use Rattle.ps_meaning.specs.Shape.{PhysicalNode, Shape}
use Rattle.ps_options.specs.declared.options.Options.{Options}
use Rattle.ps_ports.specs.Ports.{Sides}
use Rattle.ps_ports.specs.Wires.{given_to, written as written_wires}
use Rattle.ps_settle.proofs.Members.{at_both, at_map, item_at, map_at, map_twice, set_here, set_other}
use Rattle.ps_settle.specs.Standings.{Standing, Updates as GraphUpdates, no_update as none_left, one_update as one_left, updated as updated_standing}
use Rattle.ps_turns.specs.Progress.{is_multiplexer, is_user_map}
use Rattle.ps_turns.specs.Updates.{answer_of, shape_fault}
use Rattle.ps_world.specs.Updates.{TurnsAt, Updates, answer_at, empty_outs, given_at, no_update, one_update}
use Rattle.ps_world.specs.World.{Node, Pipe, World, heads_of, shape_of, wires_of}
use Rattle.turn_laws.specs.Updating.{SeenNode, UpdatesTo, heads_seen}

-- all of a node but what it has behind it
pub record Still : Type 0 where
  pub of : PhysicalNode
  pub in_phase : Bool
  pub is_closed : Bool

abbrev pub still_of : Node → Still
still_of x = record { of = x.node; in_phase = x.in_phase; is_closed = x.is_closed }

pub same_shape : (xs ys : List Node) → map still_of xs ≡ map still_of ys → map (λ (x : Node). x.node) xs ≡ map (λ (x : Node). x.node) ys
same_shape xs ys e = sym (map_twice (λ (s : Still). s.of) still_of xs) ∙ ap (map (λ (s : Still). s.of)) e ∙ map_twice (λ (s : Still). s.of) still_of ys

neither : (a b : Bool) → (a || b) ≡ false → (a ≡ false) × (b ≡ false)
neither false b e = (refl, e)
neither true b e = absurd (let clash : true ≡ false = e in cc)

-- no node that stands where a plain one stood is a multiplexer or a map of a function
pub plain_there : (w : World) (xs : List Node) → IsPlain w → map still_of xs ≡ map still_of w.nodes → (n : ℕ) (x : Node) → slice_get xs n ≡ Some x → (is_multiplexer x.node.kind ≡ false) × (is_user_map x.node.kind ≡ false)
plain_there w xs plain e n x at =
    let z = at_map still_of w.nodes n (still_of x) (ap (λ l. slice_get l n) (sym e) ∙ map_at still_of xs n x at) in
    let of : z.0.node ≡ x.node = ap (λ (s : Still). s.of) z.2 in
    neither (is_multiplexer x.node.kind) (is_user_map x.node.kind) (subst (λ (p : PhysicalNode). (is_multiplexer p.kind || is_user_map p.kind) ≡ false) of (plain n z.0 z.1))

module _ {N : Type 0} (Has : Options → N → SeenNode → Type 0) (o : Options) (shape : Shape) where
  -- one node has become another one
  have_set : (xs : List Node) (ns : List N) (n : ℕ) (x y : Node) (a b : N) → slice_get xs n ≡ Some x → slice_get ns n ≡ Some a → (es : List Bool) × Has o b (seen_as shape y es) → HaveAll Has o shape xs ns
      → HaveAll Has o shape (slice_set xs n y) (slice_set ns n b)
  have_set xs ns n x y a b at_x at_a has all =
      record {
        long = length-set ns n b ∙ all.long ∙ sym (length-set xs n y);
        each = λ k z m at_z at_m. elim (cases_eq k n) [
          | inl here ↦
              let is_y : y ≡ z = at_both (slice_set xs n y) n y z (set_here xs n x y at_x) (ap (slice_get (slice_set xs n y)) (sym here) ∙ at_z) in
              let is_b : b ≡ m = at_both (slice_set ns n b) n b m (set_here ns n a b at_a) (ap (slice_get (slice_set ns n b)) (sym here) ∙ at_m) in
              (has.0, subst (λ c. Has o c (seen_as shape z has.0)) is_b (subst (λ v. Has o b (seen_as shape v has.0)) is_y has.1))
          | inr other ↦ all.each k z m (sym (set_other xs n k y other) ∙ at_z) (sym (set_other ns n k b other) ∙ at_m)
        ];
      }

module _ (F : Functions) (v : World) (n : ℕ) (x : Node) (at : slice_get v.nodes n ≡ Some x) (plain : is_multiplexer x.node.kind ≡ false) (es : List Bool) (y : SeenNode) (answer : Sides) where
  -- an update of a node, as the node sees it, is one of the world
  one_turn : UpdatesTo F v.options (seen_as (shape_of v) x es) (given_at v n) y answer → Updates F v (turned v n (record x { progress = y.progress }) answer)
  one_turn u =
      let agrees : shape_fault x.node x.node.kind (heads_of v n x) (given_at v n) ≡ None = ap (λ hs. shape_fault x.node x.node.kind hs (given_at v n)) (heads_are v n x) ∙ u.agrees in
      let answers : answer_at v n x y.progress ≡ answer =
      ap (λ hs. answer_of v.options x.node y.progress hs (empty_outs v n) (given_at v n)) (heads_are v n x)
      ∙ same_answer v.options x.node y.progress (heads_seen (seen_as (shape_of v) x es) (given_at v n)) (empty_outs v n) es (given_at v n) plain ∙ sym u.answers in
      let turns : TurnsAt F v n x y.progress = (at, agrees, u.turns) in
      let there = updated_is v n x y.progress at ∙ ap (turned v n (record x { progress = y.progress })) answers in
      subst (Updates F v) there (one_update n x y.progress turns no_update)

module _ {N : Type 0} (Has : Options → N → SeenNode → Type 0) (rank : N → ℕ) (Update : N → Sides → N → Sides → Type 0) (F : Functions)
    (law : (o : Options) (a b : N) (x : SeenNode) (given answer : Sides) → Has o a x → Update a given b answer → (y : SeenNode) × UpdatesTo F o x given y answer × Has o b y) (w : World) where
  -- some updates lead to a world that shows this graph; only what nodes have behind them has changed, and what both ends of a pipe say
  pub record Leads (s : Standing N) : Type 0 where
    pub nodes : List Node
    pub pipes : List Pipe
    pub updates : Updates F w (record w { nodes = nodes; pipes = pipes })
    pub still : map still_of nodes ≡ map still_of w.nodes
    pub contents : map contents_of pipes ≡ map contents_of w.pipes
    pub have : HaveAll Has w.options (shape_of w) nodes s.nodes
    pub wires : s.wires ≡ map (λ (p : Pipe). p.wire) pipes

  pub at_first : (s : Standing N) → HaveAll Has w.options (shape_of w) w.nodes s.nodes → s.wires ≡ wires_of w → Leads s
  at_first s have wires = record { nodes = w.nodes; pipes = w.pipes; updates = no_update; still = refl; contents = refl; have = have; wires = wires }

  module _ (plain : IsPlain w) where
    one_more : (s : Standing N) (n : ℕ) (a b : N) (answer : Sides) → slice_get s.nodes n ≡ Some a → Update a (given_to n s.wires) b answer → Leads s → Leads (updated_standing n b answer s)
    one_more s n a b answer at u l =
        let v : World = record w { nodes = l.nodes; pipes = l.pipes } in
        let within = slice_get_within s.nodes n a at in
        let long = l.have.long in
        let there = item_at l.nodes n (omega (arith, within, long)) in
        let x = there.0 in
        let has = l.have.each n x a there.1 at in
        let given : given_to n s.wires ≡ given_at v n = ap (given_to n) l.wires in
        let up = law w.options a b (seen_as (shape_of w) x has.0) (given_at v n) answer has.1 (subst (λ (g : Sides). Update a g b answer) given u) in
        let y = up.0 in
        let same : shape_of v ≡ shape_of w = same_shape l.nodes w.nodes l.still in
        let node : Node = record x { progress = y.progress } in
        let turn : UpdatesTo F w.options (seen_as (shape_of v) x has.0) (given_at v n) y answer = subst (λ sh. UpdatesTo F w.options (seen_as sh x has.0) (given_at v n) y answer) (sym same) up.1 in
        let becomes : y ≡ seen_as (shape_of w) node has.0 = up.1.others in
        record {
          nodes = slice_set l.nodes n node;
          pipes = map (written_pipe n answer) l.pipes;
          updates = after F w v (turned v n node answer) l.updates (one_turn F v n x there.1 (plain_there w l.nodes plain l.still n x there.1).0 has.0 y answer turn);
          still = map_set still_of l.nodes n node ∙ set_same (map still_of l.nodes) n (still_of node) (map_at still_of l.nodes n x there.1) ∙ l.still;
          contents = all_stay n answer l.pipes ∙ l.contents;
          have = have_set Has w.options (shape_of w) l.nodes s.nodes n x node a b there.1 at (has.0, subst (Has w.options b) becomes up.2) l.have;
          wires = ap (written_wires n answer) l.wires ∙ sym (wires_written n answer l.pipes);
        }

    pub leads : (s t : Standing N) → GraphUpdates rank Update s t → Leads s → Leads t
    leads s t none_left l = l
    leads s t (one_left n a b answer at u rest) l = leads (updated_standing n b answer s) t rest (one_more s n a b answer at u l)

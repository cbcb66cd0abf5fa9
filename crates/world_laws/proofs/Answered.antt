-- A finished run has all pipes done and a whole table of its sink's meaning; a faulty one names a cause.
use Rattle.std.proofs.Common.{◌≡◌, ℕ, ◌<◌, Bool, true, false, List, [], ◌∷◌, length, Option, Some, None, refl, sym, ap, subst, ◌∙◌, inr, arith}
use Rattle.std.specs.Prelude.{slice_get, get_or, Contains, IsTrue, not, ◌&&◌, ◌||◌, nat_eq, option_map}
use Rattle.std.specs.List.{list_all}
use Rattle.std.proofs.lemmas.Option.{slice_get-get_or, slice_get-map, slice_get_within}
use Rattle.ps_frame.specs.Functions.{Functions}
use Rattle.ps_frame.specs.Tables.{IsWhole, Table}
use Rattle.ps_ports.specs.Ports.{is_done}
use Rattle.ps_ports.specs.Wires.{Wire, is_live}
use Rattle.ps_meaning.specs.Shape.{PhysicalMeans, PhysicalNode, Shape, in_memory_sink}
use Rattle.ps_world.specs.World.{Node, Pipe, World, shape_of, wires_of}
use Rattle.ps_world.specs.Laws.{AnyKind, AllDone, FactsLaw, FamilyLaw, PortLaw, ServedByChoice, sent_at, sent_by_sink, takes}
use Rattle.ps_world.specs.Phases.{blockers_in}
use Rattle.ps_world.specs.Promises.{HoldsMeaning}
use Rattle.ps_world.specs.Updates.{IsSettled}
use Rattle.world_laws.proofs.BetweenPhases.{some_blocker}
use Rattle.world_laws.proofs.Blockers.{some_blocker_in}
use Rattle.world_laws.proofs.Induction.{Keeps, served}
use Rattle.world_laws.proofs.InOrder.{contains_first, contains_later, contains_map}

-- the nodes of a world are those of its shape
pub in_shape : (w : World) (n : ℕ) (node : Node) → slice_get w.nodes n ≡ Some node → slice_get (shape_of w) n ≡ Some node.node
in_shape w n node e = slice_get-map (λ (x : Node). x.node) w.nodes n ∙ ap (option_map (λ (x : Node). x.node)) e

-- no port of what isn't a node
outside : (w : World) (n : ℕ) → slice_get w.nodes n ≡ None → ((p : Wire) → Contains (wires_of w) p → p.sender < p.receiver) → ((p : Wire) → Contains (wires_of w) p → p.receiver < length w.nodes) → PortLaw w n
outside w n e forward inside =
    record {
      takes_means = λ t. absurd (let no : false ≡ true = sym not_taking ∙ t in cc);
      leads_on = λ p c at l. absurd (let h = inside p c in past (omega arith));
      hands_on = λ up. inr (λ q c at l. absurd (let h = inside q c in let f = forward q c in past (omega arith)));
    }
  where
    not_taking : takes w n ≡ false
    not_taking = rw (takes, e) refl

    past : n < length w.nodes → ⊥
    past h =
        let d : Node = get_or w.nodes n (Rattle.ps_world.specs.Opening.fresh_node (record { kind = in_memory_sink; schema = []; origin = 0; inputs = [] })) in
        let no : Some d ≡ None = sym (slice_get-get_or w.nodes n (Rattle.ps_world.specs.Opening.fresh_node (record { kind = in_memory_sink; schema = []; origin = 0; inputs = [] })) h) ∙ e in
        cc

both_by_agreement : (a b : Bool) → a ≡ b → not (a || b) ≡ false → IsTrue (a && b)
both_by_agreement true true e l = refl
both_by_agreement true false e l = absurd (let no : true ≡ false = e in cc)
both_by_agreement false true e l = absurd (let no : false ≡ true = e in cc)
both_by_agreement false false e l = absurd (let no : true ≡ false = l in cc)

module _ (F : Functions) (Facts : World → Type 0) (Holds : World → ℕ → Type 0) (facts : FactsLaw F Facts) (law : FamilyLaw F AnyKind Facts Holds) where
  -- in a settled world each node keeps its law of ports
  pub port_laws : (shape : Shape) (s : World) → Keeps F Facts Holds facts law shape s → IsSettled s → (n : ℕ) → PortLaw s n
  port_laws shape s k rest n = by (slice_get s.nodes n) refl
    where
      by : (o : Option Node) → slice_get s.nodes n ≡ o → PortLaw s n
      by None e = outside s n e (facts.wires_forward s k.known) (facts.wires_inside s k.known)
      by (Some node) e =
          let at = in_shape s n node e in
          law.ports s n node.node k.known at tt (k.each n node.node (subst (λ x. slice_get x n ≡ Some node.node) k.same at)) rest (facts.ends_agree s k.known rest)

  -- where no blocker can run, every pipe is done
  pub all_done : (shape : Shape) (s : World) → Keeps F Facts Holds facts law shape s → IsSettled s → blockers_in s ≡ [] → AllDone s
  all_done shape s k rest none p c = by (is_live p) refl
    where
      by : (b : Bool) → is_live p ≡ b → IsTrue (is_done p.send_state && is_done p.receive_state)
      by true l =
          let f = some_blocker s (facts.wires_forward s k.known) (facts.wires_inside s k.known) (port_laws shape s k rest) p c l in
          absurd (some_blocker_in s f.0 (facts.wires_inside s k.known) f.1 none)
      by false l = both_by_agreement (is_done p.send_state) (is_done p.receive_state) (facts.ends_agree s k.known rest p c) l

each_passes : {A : Type 0} (f : A → Bool) (xs : List A) → ((x : A) → Contains xs x → f x ≡ true) → list_all f xs ≡ true
each_passes f [] h = refl
each_passes f (x ∷ xs) h = let first = h x (contains_first x xs) in let rest = each_passes f xs (λ y c. h y (contains_later x y xs c)) in rw (first, rest) refl

second_true : (a b : Bool) → (a && b) ≡ true → b ≡ true
second_true true b e = e
second_true false b e = absurd (let no : false ≡ true = e in cc)

or_second : (a b : Bool) → b ≡ true → (a || b) ≡ true
or_second true b e = refl
or_second false b e = e

-- then what the sink stores is all
pub sink_sent : (w : World) (n : ℕ) (node : Node) → slice_get w.nodes n ≡ Some node → node.node.kind ≡ in_memory_sink → sent_at w n 0 ≡ sent_by_sink w n node
sink_sent w n node e k = rw (e, k) refl

pub sink_complete : (w : World) (n : ℕ) (node : Node) → AllDone w → (sent_by_sink w n node).is_complete ≡ true
sink_complete w n node done =
    each_passes (λ (p : Pipe). not (nat_eq p.wire.receiver n) || is_done p.wire.receive_state) w.pipes
    (λ p c. or_second (not (nat_eq p.wire.receiver n)) (is_done p.wire.receive_state)
    (second_true (is_done p.wire.send_state) (is_done p.wire.receive_state) (done p.wire (contains_map (λ (x : Pipe). x.wire) p w.pipes c))))

pub holds_meaning : (F : Functions) (shape : Shape) (w : World) → shape_of w ≡ shape → ServedByChoice F shape (sent_at w) → AllDone w → HoldsMeaning F shape w
holds_meaning F shape w same served done n p e kind = by (slice_get w.nodes n) refl
  where
    within : n < length shape
    within = slice_get_within shape n p e

    from_shape : slice_get (shape_of w) n ≡ Some p
    from_shape = subst (λ x. slice_get x n ≡ Some p) (sym same) e

    by : (o : Option Node) → slice_get w.nodes n ≡ o → (T : Table) × PhysicalMeans F shape n T × IsWhole T × ((sent_at w n 0).rows ≡ T.rows)
    by None none = absurd (let no : None ≡ Some p = sym (slice_get-map (λ (x : Node). x.node) w.nodes n ∙ ap (option_map (λ (x : Node). x.node)) none) ∙ from_shape in cc)
    by (Some node) some =
        let there : Some node.node ≡ Some p = sym (in_shape w n node some) ∙ from_shape in
        let is_p : node.node ≡ p = cc in
        let is_sink : node.node.kind ≡ in_memory_sink = ap (λ (x : PhysicalNode). x.kind) is_p ∙ kind in
        let complete : IsTrue (sent_at w n 0).is_complete = ap (λ (x : Rattle.ps_world.specs.Laws.Sent). x.is_complete) (sink_sent w n node some is_sink) ∙ sink_complete w n node done in
        let all = (served.serves n p 0 e).ends complete in
        (served.choice n, (served.choice, served.chosen, within, refl), all.1, all.0)

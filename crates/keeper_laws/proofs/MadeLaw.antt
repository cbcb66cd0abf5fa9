-- What the families keep of a map over a whole table, an in-memory join and a slice from the end holds in every reached world.
use Rattle.std.proofs.Common.{◌≡◌, ℕ, zero, suc, true, false, List, [], ◌∷◌, length, Some, refl, sym, ap, subst, ◌∙◌}
use Rattle.std.specs.Prelude.{Contains, map, replicate, slice_get, ◌&&◌}
use Rattle.ps_frame.specs.Functions.{Functions, IsLawful}
use Rattle.ps_frame.specs.Tables.{Row}
use Rattle.ps_meaning.specs.Shape.{PhysicalKind, PhysicalNode, Shape, in_memory_join, in_memory_map, negative_slice}
use Rattle.ps_meaning.specs.Sound.{IsSound, input_schemas}
use Rattle.ps_options.specs.declared.options.Options.{Options}
use Rattle.ps_turns.specs.Progress.{is_spent, makes_table}
use Rattle.ps_world.specs.Laws.{Justified, sent_at, sent_to}
use Rattle.ps_world.specs.Opening.{Reaches, fresh_node, no_progress, opening}
use Rattle.ps_world.specs.Phases.{with_phase}
use Rattle.ps_world.specs.World.{Node, Pipe, Record, World, shape_of}
use Rattle.world_claims.specs.Numbering.{Known}
use Rattle.world_ends.proofs.Stored.{HasMade, has_made}
use Rattle.world_families.proofs.Members.{nothing_is}
use Rattle.world_families.specs.Holds.{Holds, HoldsOfKind}
use Rattle.world_families.specs.Keepers.{HoldsMade}
use Rattle.world_families.specs.Work.{IsComplete}
use Rattle.world_laws.proofs.Agree.{from_map}
use Rattle.world_laws.proofs.Answered.{in_shape}
use Rattle.family_pipes.proofs.Begins.{begins}
use Rattle.family_keeps.proofs.SinkLaw.{pipes_hold}
use Rattle.family_keeps.proofs.UnionTurns.{mark_of}
use Rattle.orderly_worlds.proofs.Orderly.{Orderly}
use Rattle.orderly_worlds.proofs.Reaching.{orderly_reached}
use Rattle.orderly_worlds.proofs.Stands.{Stands}
use Rattle.table_fronts.proofs.MadeLaw.{made_justified}
use Rattle.node_keeps.proofs.Law.{KeepsNode, NodeLaw, keeps_reached}
use Rattle.node_keeps.proofs.SameTurn.{SameTurn}
use Rattle.keeper_laws.proofs.Says.{keeper}
use Rattle.keeper_laws.proofs.Turned.{keeper_done}
use Rattle.keeper_laws.proofs.Made.{IsMaker, KeepsMade, keeps}
use Rattle.keeper_laws.proofs.MadeSteps.{made_step}
use Rattle.keeper_laws.proofs.MadeTurned.{made_filled, made_kept, made_turned}
use Rattle.family_keeps.proofs.Done.{DoneFits}
use Rattle.orderly_worlds.proofs.Turned.{turned}

-- THE OPENING
blank_long : (k : ℕ) → length (replicate {A = List (List Row)} k []) ≡ k
blank_long zero = refl
blank_long (suc k) = ap suc (blank_long k)

pub fresh_progress : (shape : Shape) (n : ℕ) (node : Node) → slice_get (map fresh_node shape) n ≡ Some node → node.progress ≡ no_progress (length node.node.inputs)
fresh_progress [] n node e = absurd (nothing_is node e)
fresh_progress (p ∷ ps) zero node e = let q : Some (fresh_node p) ≡ Some node = e in let is : fresh_node p ≡ node = cc in subst (λ (x : Node). x.progress ≡ no_progress (length x.node.inputs)) is refl
fresh_progress (p ∷ ps) (suc n) node e = fresh_progress ps n node e

of_kind : (F : Functions) (w : World) (n : ℕ) (node : Node) (kind : PhysicalKind) → IsMaker kind → HoldsOfKind F w n node kind → HoldsMade F w n node
of_kind F w n node (in_memory_map step) m h = h
of_kind F w n node (in_memory_join j) m h = h
of_kind F w n node (negative_slice back count) m h = h
of_kind F w n node kind m h = absurd (let no : false ≡ true = m in cc)

to_kind : (F : Functions) (w : World) (n : ℕ) (node : Node) (kind : PhysicalKind) → IsMaker kind → HoldsMade F w n node → HoldsOfKind F w n node kind
to_kind F w n node (in_memory_map step) m h = h
to_kind F w n node (in_memory_join j) m h = h
to_kind F w n node (negative_slice back count) m h = h
to_kind F w n node kind m h = absurd (let no : false ≡ true = m in cc)

made_fresh : (F : Functions) (n : ℕ) (shape : Shape) (o : Options) (node : Node) → slice_get (opening shape o).nodes n ≡ Some node → IsMaker node.node.kind → KeepsMade F (opening shape o) n node
made_fresh F n shape o node at maker =
    let w = opening shape o in
    let h = of_kind F w n node node.node.kind maker (begins F shape o n node at).own in
    let e = fresh_progress shape n node at in
    record {
      turn = record { first = h.turn; unsent = λ t. (λ i. (e i).sent); gave = λ s. absurd (let no : false ≡ true = (λ i. is_spent (sym e i).stage) ∙ s in cc) };
      long = (λ i. length (e i).stores) ∙ blank_long (length node.node.inputs);
      stores = h.stores;
      made = h.made;
      gives = h.gives;
    }

-- THE LAW
module _ (F : Functions) (n : ℕ) where
  made_phase : (s : World) (phase : ℕ) (journal : List Record) (node y : Node) → Orderly F s → Known F (record (with_phase s) { phase = phase; journal = journal }) → shape_of (with_phase s) ≡ shape_of s → slice_get s.nodes n ≡ Some node → slice_get (with_phase s).nodes n ≡ Some y → Stands node y → SameTurn node.progress y.progress → IsMaker node.node.kind → KeepsMade F s n node
      → KeepsMade F (record (with_phase s) { phase = phase; journal = journal }) n y
  made_phase s phase journal node y o kv shape there at st same maker h = made_kept F s (record (with_phase s) { phase = phase; journal = journal }) n node y o.known kv shape there at refl refl back st same maker h
    where
      back : (p : Pipe) → Contains (with_phase s).pipes p → (x : Pipe) × Contains s.pipes x × (p.wire ≡ x.wire) × (p.is_dropped ≡ x.is_dropped) × (p.got ≡ x.got) × (p.next ≡ x.next) × (IsComplete p → IsComplete x) × (IsComplete x → IsComplete p)
      back p c =
          let x = from_map (mark_of s) p s.pipes c in
          (x.0, x.1, ap (λ (z : Pipe). z.wire) (sym x.2), ap (λ (z : Pipe). z.is_dropped) (sym x.2), ap (λ (z : Pipe). z.got) (sym x.2), ap (λ (z : Pipe). z.next) (sym x.2), λ d. marked_back x.0 (subst IsComplete (sym x.2) d), λ d. subst IsComplete x.2 (marked_on x.0 d))
        where
          marked_back : (x : Pipe) → IsComplete (mark_of s x) → IsComplete x
          marked_back x d = d

          marked_on : (x : Pipe) → IsComplete x → IsComplete (mark_of s x)
          marked_on x d = d

  pub made_law : NodeLaw F n IsMaker (λ w node. KeepsMade F w n node)
  made_law =
      record {
        single = λ kind is. (keeper kind (keeps kind is)).single;
        ends = λ w m other progress o shut t kv shape here is own done.
            let k : KeepsMade F w m other = subst (λ j. KeepsMade F w j other) here own in
            subst (λ j. DoneFits (turned w m other progress t.0) j) (sym here) (keeper_done F w m other progress o shut t kv shape (keeps other.node.kind is) k.turn (subst (DoneFits w) here done));
        fresh = λ shape o node sound at is. made_fresh F n shape o node at is;
        step = λ w v node y o kv started shape there at is fits done marks lost seen same slots run h. made_step F w v n node y o kv started shape there at is same h seen;
        turn = λ w m other progress node y o shut t kv shape there at s stores is fits done run h. made_turned F w m other progress o shut t kv shape n node y there at is done h;
        still = λ w v node y kw kv there at pipes outs options opens ends shape s stores same taken is h.
            made_kept F w v n node y kw kv shape there at options outs (λ p c. (p, subst (λ ps. Contains ps p) pipes c, refl, refl, refl, refl, λ d. d, λ d. d)) s same is h;
        fill = λ w m other progress node y o shut t kv shape there at is done run h. made_filled F w m other progress o shut t kv shape n node y there at is done h;
        phase = λ s phase journal node y o shut rest kv shape there at st stores same taken is done h. made_phase s phase journal node y o kv shape there at st same is h;
      }

-- so it holds in every reached world
pub makers_keep : (F : Functions) (shape : Shape) (o : Options) (w : World) (n : ℕ) → IsSound F shape → Reaches F shape o w → (node : Node) → slice_get w.nodes n ≡ Some node → IsMaker node.node.kind → KeepsNode F n IsMaker (λ u x. KeepsMade F u n x) w node
makers_keep F shape o w n sound r node at is = keeps_reached F n IsMaker (λ u x. KeepsMade F u n x) (made_law F n) shape o w sound r node at is

pub makers_hold : (F : Functions) (shape : Shape) (o : Options) (w : World) (n : ℕ) (p : PhysicalNode) → IsSound F shape → Reaches F shape o w → slice_get (shape_of w) n ≡ Some p → makes_table p.kind ≡ true → Holds F w n
makers_hold F shape o w n p sound r e is node at =
    let q : Some node.node ≡ Some p = sym (in_shape w n node at) ∙ e in
    let same : node.node ≡ p = cc in
    let maker : IsMaker node.node.kind = ap (λ (x : PhysicalNode). makes_table x.kind) same ∙ is in
    let k = makers_keep F shape o w n sound r node at maker in
    let made : HasMade node.node.kind node.progress = has_made F shape o w r n node at in
    record {
      pipes = pipes_hold F w n (orderly_reached F shape o w sound r) k.done;
      own = to_kind F w n node node.node.kind maker (record { turn = k.own.turn.first; stores = k.own.stores; made = k.own.made; has_made = λ g. made (λ i. maker i && g i); gives = k.own.gives });
    }

-- So what it has sent begins a table that it may give.
pub makers_are_justified : (F : Functions) (shape : Shape) (o : Options) (w : World) (n : ℕ) (p : PhysicalNode) → IsLawful F → IsSound F shape → Reaches F shape o w → slice_get (shape_of w) n ≡ Some p → makes_table p.kind ≡ true → Justified F p (input_schemas (shape_of w) p) (sent_to (sent_at w) p) (sent_at w n)
makers_are_justified F shape o w n p lawful sound r e is = made_justified F w n p lawful (orderly_reached F shape o w sound r).known e is (makers_hold F shape o w n p sound r e is)

-- What the families keep of a zip holds in every reached world.
use Rattle.std.proofs.Common.{◌≡◌, ℕ, Bool, true, false, [], length, Some, refl, sym, ap, subst, ◌∙◌}
use Rattle.std.specs.Prelude.{Contains, IsTrue, get_or, slice_get, ◌&&◌, ◌||◌}
use Rattle.ps_frame.specs.Functions.{Functions}
use Rattle.ps_meaning.specs.Shape.{PhysicalKind, PhysicalNode, Shape, zip_node}
use Rattle.ps_meaning.specs.Sound.{HasReaders, IsSound, input_schemas}
use Rattle.ps_options.specs.declared.options.Options.{Options}
use Rattle.ps_ports.specs.Ports.{is_done}
use Rattle.ps_turns.specs.Heads.{stored_rows}
use Rattle.ps_turns.specs.Progress.{Progress, is_multiplexer}
use Rattle.ps_world.specs.Laws.{Justified, sent_at, sent_to}
use Rattle.ps_world.specs.Opening.{Reaches, opening}
use Rattle.ps_world.specs.Updates.{given_at}
use Rattle.ps_world.specs.World.{IsWorking, Node, Pipe, World, schemas_for, shape_of}
use Rattle.world_claims.specs.Numbering.{Known}
use Rattle.world_ends.proofs.Stored.{HasStores}
use Rattle.world_facts.proofs.Placing.{has_readers}
use Rattle.world_laws.proofs.Answered.{in_shape}
use Rattle.family_pipes.proofs.Begins.{begins, fresh_pipes}
use Rattle.family_keeps.proofs.SinkLaw.{pipes_hold}
use Rattle.family_keeps.proofs.Done.{DoneFits}
use Rattle.family_keeps.proofs.Turns.{fill_leaves, leaves_stand, turn_leaves}
use Rattle.family_pipes.proofs.SourceSteps.{same_node}
use Rattle.world_claims.proofs.Beside.{set_from}
use Rattle.orderly_worlds.proofs.Reaching.{orderly_reached}
use Rattle.orderly_worlds.proofs.Says.{reader_pipe}
use Rattle.orderly_worlds.proofs.Stands.{Stands, zips}
use Rattle.orderly_worlds.proofs.Turned.{turned, turned_from}
use Rattle.family_keeps.proofs.UnionTurns.{mark_of}
use Rattle.world_laws.proofs.Agree.{from_map}
use Rattle.ps_world.specs.Facts.{Joins}
use Rattle.streaming_ports.proofs.OnePort.{some_state}
use Rattle.node_keeps.proofs.Law.{NodeLaw, filled, keeps_reached}
use Rattle.table_fronts.proofs.ZipJustified.{zips_justified}
use Rattle.zip_laws.proofs.Cuts.{KeepsZip}
use Rattle.zip_laws.proofs.Opens.{zip_phase, zip_stays}
use Rattle.zip_laws.proofs.Steps.{StoresNone, output_on, zip_lost, zip_step}
use Rattle.zip_laws.proofs.Turns.{zip_done, zip_turned}
use Rattle.world_families.specs.Holds.{Holds, HoldsOfKind}
use Rattle.world_families.specs.Work.{Enters, Leaves}
use Rattle.world_families.specs.Zips.{HoldsZip}

abbrev pub IsZip : Bool → PhysicalKind → Type 0
IsZip extend kind = kind ≡ zip_node extend

pub fits_zip : (k : ℕ) (kind : PhysicalKind) (extend : Bool) (node : Node) → kind ≡ zip_node extend → HasStores k kind node.progress → length node.progress.stores ≡ k
fits_zip k kind extend node is h = subst (λ z. HasStores k z node.progress) is h

module _ (F : Functions) (n : ℕ) (extend : Bool) where
  pub zip_law : NodeLaw F n (IsZip extend) (λ w node. KeepsZip F w n node extend × StoresNone w n node)
  zip_law =
      record {
        single = λ kind is. ap is_multiplexer is;
        ends = λ w m other progress o shut t kv shape here is own done.
            subst (DoneFits (turned w m other progress t.0)) (sym here)
            (zip_done F w m other progress o shut t.0 (turn_leaves F w.options other.node (schemas_for w other) (given_at w m) other.progress progress t.2).booked kv shape extend is (subst (DoneFits w) here done));
        fresh = λ shape o node sound at is. (of_fresh shape o node (subst (HoldsOfKind F (opening shape o) n node) is (begins F shape o n node at).own), λ p l gone. absurd (fresh_pipe_kept shape o p l.0 gone));
        step = λ w v node y o kv started shape there at is fits done marks lost seen same slots run h. (zip_step F w v n node y extend o kv started shape there at is (fits_zip (length node.node.inputs) node.node.kind extend node is fits) done marks h.0 seen, zip_lost F w v n node y extend o.known there at is (lost (ap zips is)) seen h.1);
        turn = λ w m other progress node y o shut t kv shape there at s stores is fits done run h.
            (zip_turned F w m other progress o shut t.0 (turn_leaves F w.options other.node (schemas_for w other) (given_at w m) other.progress progress t.2).booked kv shape n node y extend there at s stores is (fits_zip (length node.node.inputs) node.node.kind extend node is fits) done h.0, lost_turned w m other progress t.0 node y stores h.1);
        still = λ w v node y kw kv there at pipes outs options opens ends shape s stores same taken is h. stayed w v node y kw kv there at pipes outs opens shape s stores h;
        fill = λ w m other progress node y o shut t kv shape there at is done run h.
            let leaves = fill_leaves F other.node (schemas_for w other) (given_at w m) other.progress progress t.1 in
            let x = leaves_stand w m other progress t.0 leaves n y at in
            let z = set_from (λ a b. b.progress.stores ≡ a.progress.stores) (λ a. refl) w.nodes m other (record other { progress = progress }) t.0 leaves.stores n y at in
            stayed w (filled w m other progress) node y o.known kv there at refl refl (λ on. on) shape (subst (λ u. Stands u y) (same_node w n x.0 node x.1 there) x.2) (subst (λ (u : Node). y.progress.stores ≡ u.progress.stores) (same_node w n z.0 node z.1 there) z.2) h;
        phase = λ s phase journal node y o shut rest kv shape there at st stores same taken is done h. (zip_phase F s phase journal n node y extend o shut rest kv shape there at st stores is h.0, λ p l gone i. let x = from_map (mark_of s) p s.pipes l.0 in ap (λ ms. stored_rows (get_or ms i [])) stores ∙ h.1 x.0 (x.1, ap (λ (z : Pipe). z.wire.sender) x.2 ∙ l.1) (ap (λ (z : Pipe). z.is_dropped) x.2 ∙ gone) i);
      }
    where
      -- while all pipes and pieces stay
      stayed : (w v : World) (node y : Node) → Known F w → Known F v → slice_get w.nodes n ≡ Some node → slice_get v.nodes n ≡ Some y → v.pipes ≡ w.pipes → v.outs ≡ w.outs → (v.is_open ≡ true → w.is_open ≡ true) → shape_of v ≡ shape_of w → Stands node y → y.progress.stores ≡ node.progress.stores → KeepsZip F w n node extend × StoresNone w n node → KeepsZip F v n y extend × StoresNone v n y
      stayed w v node y kw kv there at pipes outs opens shape s stores h =
          (zip_stays F w v n node y extend pipes outs opens kw kv shape there at s stores h.0, λ p l gone i. ap (λ ms. stored_rows (get_or ms i [])) stores ∙ h.1 p (subst (λ ps. Contains ps p) pipes l.0, l.1) gone i)

      fresh_pipe_kept : (shape : Shape) (o : Options) (p : Pipe) → Contains (opening shape o).pipes p → p.is_dropped ≡ true → ⊥
      fresh_pipe_kept shape o p c gone = let no : true ≡ false = sym gone ∙ fresh_pipes (λ (y : Pipe). y.is_dropped ≡ false) (λ s j r i. refl) shape 0 p c in cc

      lost_turned : (w : World) (m : ℕ) (other : Node) (progress : Progress) (at : slice_get w.nodes m ≡ Some other) (node y : Node) → y.progress.stores ≡ node.progress.stores → StoresNone w n node → StoresNone (turned w m other progress at) n y
      lost_turned w m other progress at node y stores h p l gone i =
          let x = turned_from w m other progress at p l.0 in
          ap (λ ms. stored_rows (get_or ms i [])) stores ∙ h x.0 (x.1, ap (λ (j : Joins). j.sender) (sym x.2.joins) ∙ l.1) (sym x.2.dropped ∙ gone) i

      of_fresh : (shape : Shape) (o : Options) (node : Node) → HoldsZip F (opening shape o) n node extend → KeepsZip F (opening shape o) n node extend
      of_fresh shape o node h =
          record { before = h.before; from_none = h.from_none; up_to_booked = h.up_to_booked; cuts = h.cuts; gives = h.gives; stores = h.stores; beside = λ on. absurd (let no : false ≡ true = on in cc) }

  -- what is kept, as the families say it
  pub as_held : (w : World) (node : Node) → Known F w → slice_get w.nodes n ≡ Some node → node.node.kind ≡ zip_node extend → StoresNone w n node → KeepsZip F w n node extend → HoldsZip F w n node extend
  as_held w node known there is none h =
      record {
        before = h.before;
        from_none = h.from_none;
        up_to_booked = h.up_to_booked;
        cuts = h.cuts;
        gives = h.gives;
        stores = h.stores;
        lets_go = none;
        beside = λ works q e. beside works q e;
      }
    where
      opened : (b c : Bool) → (b && c) ≡ true → b ≡ true
      opened true c e = refl
      opened false c e = e

      beside : IsWorking w n → (q : Pipe) → Enters w n q → IsTrue (q.in_phase || is_done q.wire.send_state)
      beside works q e =
          let one : length (given_at w n).outputs ≡ 1 = subst (λ k. HasReaders k (length (given_at w n).outputs)) is (has_readers F w known.facts n node there) in
          let o = some_state (given_at w n).outputs one in
          let p = reader_pipe w n 0 o.0 o.1 in
          let l : Leaves w n p.0 = (p.1, p.2) in
          h.beside (opened w.is_open _ works.2) p.0 l (output_on F w n node extend known there is works p.0 l) q e

pub zips_hold : (F : Functions) (shape : Shape) (o : Options) (w : World) (n : ℕ) (p : PhysicalNode) (extend : Bool) → IsSound F shape → Reaches F shape o w → slice_get (shape_of w) n ≡ Some p → p.kind ≡ zip_node extend → Holds F w n
zips_hold F shape o w n p extend sound r e is node at =
    let q : Some node.node ≡ Some p = sym (in_shape w n node at) ∙ e in
    let same : node.node ≡ p = cc in
    let kind : node.node.kind ≡ zip_node extend = ap (λ (x : PhysicalNode). x.kind) same ∙ is in
    let orderly = orderly_reached F shape o w sound r in
    let k = keeps_reached F n (IsZip extend) (λ u x. KeepsZip F u n x extend × StoresNone u n x) (zip_law F n extend) shape o w sound r node at kind in
    record { pipes = pipes_hold F w n orderly k.done; own = subst (HoldsOfKind F w n node) (sym kind) (as_held F n extend w node orderly.known at kind k.own.1 k.own.0) }

-- So what a zip has sent begins a table that it may give.
pub zips_are_justified : (F : Functions) (shape : Shape) (o : Options) (w : World) (n : ℕ) (p : PhysicalNode) (extend : Bool) → IsSound F shape → Reaches F shape o w → slice_get (shape_of w) n ≡ Some p → p.kind ≡ zip_node extend → Justified F p (input_schemas (shape_of w) p) (sent_to (sent_at w) p) (sent_at w n)
zips_are_justified F shape o w n p extend sound r e is = zips_justified F w n p extend (orderly_reached F shape o w sound r).known e is (zips_hold F shape o w n p extend sound r e is)

-- Each step of a phase keeps what is kept of a node that makes a table: it stores what it pulls, and gives cuts of what it made.
use Rattle.std.proofs.Common.{◌≡◌, ◌≢◌, ℕ, zero, suc, ◌+◌, ◌<◌, ◌⊎◌, true, false, cond, List, [], ◌∷◌, ◌++◌, length, take, Option, Some, None, refl, sym, ap, subst, ◌∙◌, inl, inr, arith}
use Rattle.std.specs.Prelude.{Contains, get_or, nat_eq, slice_get, slice_set}
use Rattle.std.proofs.Math.Seq.{take-length}
use Rattle.std.proofs.lemmas.Bool.{cases_eq}
use Rattle.std.proofs.lemmas.Option.{slice_get_within}
use Rattle.ps_frame.specs.Functions.{Functions}
use Rattle.ps_frame.specs.Tables.{Row}
use Rattle.ps_meaning.specs.Shape.{PhysicalKind, PhysicalNode, in_memory_join, in_memory_map, negative_slice}
use Rattle.ps_meaning.specs.Sound.{HasInputs}
use Rattle.ps_ports.specs.Wires.{Wire}
use Rattle.ps_turns.specs.Claims.{Claim}
use Rattle.ps_turns.specs.Ends.{HoldsEnd, last_kept}
use Rattle.ps_turns.specs.Heads.{stored_rows}
use Rattle.ps_turns.specs.Progress.{Progress, is_multiplexer}
use Rattle.ps_turns.specs.Pulls.{after_store}
use Rattle.ps_world.specs.Pipes.{is_input}
use Rattle.ps_world.specs.World.{Node, Pipe, World, flat, morsel_at, rows_in_order, shape_of}
use Rattle.world_claims.specs.Numbering.{Known}
use Rattle.world_facts.proofs.CutOff.{both_true}
use Rattle.world_facts.proofs.EndStores.{holds_after_pull}
use Rattle.world_families.proofs.Members.{nothing_is}
use Rattle.world_families.specs.Keepers.{StoresAll}
use Rattle.world_families.specs.Work.{Enters, IsComplete, rows_read}
use Rattle.world_laws.proofs.Answered.{in_shape}
use Rattle.world_laws.proofs.PassingPorts.{same_number}
use Rattle.family_pipes.proofs.Inputs.{input_of}
use Rattle.family_pipes.proofs.SourceSteps.{StepOf}
use Rattle.orderly_worlds.proofs.Goes.{Goes, GoesOn, IsTakenBy, IsTakenOf, NoneTaken}
use Rattle.orderly_worlds.proofs.Orderly.{Orderly, complete_rests}
use Rattle.orderly_worlds.proofs.ReadRows.{ReadsOn, came_to, reads_still, rows_more, stored_more, take_fills}
use Rattle.orderly_worlds.proofs.Seen.{TakenElsewhere}
use Rattle.orderly_worlds.proofs.Stands.{Stands, stored_progress, zips}
use Rattle.passing_runs.proofs.Slots.{Came}
use Rattle.node_keeps.proofs.SameTurn.{SameTurn}
use Rattle.node_keeps.proofs.Sees.{NextStays, Sees, claims, pulls_in, stands_still}
use Rattle.keeper_laws.proofs.Turn.{turn_step}
use Rattle.keeper_laws.proofs.Made.{InputsStay, IsMaker, KeepsMade, StoresBy, claim_is, gives_step, keeps, made_on, of_stores, stores_kept, to_stores}

-- SMALL LEMMAS
pub slot_is : (o : Option (Option (List Row))) (rs : List Row) → flat o ≡ Some rs → o ≡ Some (Some rs)
slot_is None rs e = absurd (nothing_is rs e)
slot_is (Some slot) rs e = ap Some e

set_at : {A : Type 0} (xs : List A) (k : ℕ) (new d : A) → k < length xs → get_or (slice_set xs k new) k d ≡ new
set_at [] k new d short = absurd (omega arith)
set_at (x ∷ xs) zero new d short = refl
set_at (x ∷ xs) (suc k) new d short = set_at xs k new d (omega arith)

set_off : {A : Type 0} (xs : List A) (k j : ℕ) (new d : A) → j ≢ k → get_or (slice_set xs k new) j d ≡ get_or xs j d
set_off [] k j new d apart = refl
set_off (x ∷ xs) zero zero new d apart = absurd (apart refl)
set_off (x ∷ xs) zero (suc j) new d apart = refl
set_off (x ∷ xs) (suc k) zero new d apart = refl
set_off (x ∷ xs) (suc k) (suc j) new d apart = set_off xs k j new d (λ e. apart (ap suc e))

set_long : {A : Type 0} (xs : List A) (k : ℕ) (new : A) → length (slice_set xs k new) ≡ length xs
set_long [] k new = refl
set_long (x ∷ xs) zero new = refl
set_long (x ∷ xs) (suc k) new = ap suc (set_long xs k new)

pub no_zip : (kind : PhysicalKind) → IsMaker kind → zips kind ≡ false
no_zip (in_memory_map step) m = refl
no_zip (in_memory_join j) m = refl
no_zip (negative_slice back n) m = refl
no_zip kind m = absurd (let no : false ≡ true = m in cc)

no_ports : (kind : PhysicalKind) → IsMaker kind → is_multiplexer kind ≡ false
no_ports (in_memory_map step) m = refl
no_ports (in_memory_join j) m = refl
no_ports (negative_slice back n) m = refl
no_ports kind m = absurd (let no : false ≡ true = m in cc)

-- A STORE AFTER A PULL
stored_long : (kind : PhysicalKind) (i : ℕ) (m : List Row) (a : Progress) → length (after_store kind i m a).stores ≡ length a.stores
stored_long (negative_slice back n) i m a = set_long a.stores i (last_kept back (get_or a.stores i [] ++ m ∷ []))
stored_long kind i m a = set_long a.stores i (get_or a.stores i [] ++ m ∷ [])

pub stored_here : (kind : PhysicalKind) (i : ℕ) (m : List Row) (a : Progress) (rows : List Row) → i < length a.stores → StoresBy kind a.booked a.stores i rows → StoresBy kind (after_store kind i m a).booked (after_store kind i m a).stores i (rows ++ m)
stored_here (negative_slice back n) i m a rows short h =
    subst (HoldsEnd back (rows ++ m) (a.booked + length m)) (sym (set_at a.stores i (last_kept back (get_or a.stores i [] ++ m ∷ [])) [] short)) (holds_after_pull back rows m a.booked (get_or a.stores i []) h)
stored_here kind i m a rows short h = ap stored_rows (set_at a.stores i (get_or a.stores i [] ++ m ∷ []) [] short) ∙ stored_more (get_or a.stores i []) m ∙ ap (λ zs. zs ++ m) h

stored_off : (kind : PhysicalKind) (k i j : ℕ) (m : List Row) (a : Progress) (rows : List Row) → HasInputs kind k → i < k → j < k → j ≢ i → StoresBy kind a.booked a.stores j rows → StoresBy kind (after_store kind i m a).booked (after_store kind i m a).stores j rows
stored_off (negative_slice back n) k i j m a rows one short less apart h = absurd (apart (omega (arith, one, short, less)))
stored_off kind k i j m a rows one short less apart h = ap stored_rows (set_off a.stores i j (get_or a.stores i [] ++ m ∷ []) [] apart) ∙ h

-- THE STEPS
module _ (F : Functions) (w v : World) (n : ℕ) (node y : Node) (o : Orderly F w) (kv : Known F v) (begun : w.is_open ≡ true) (shape : shape_of v ≡ shape_of w) (there : slice_get w.nodes n ≡ Some node) (at : slice_get v.nodes n ≡ Some y) (maker : IsMaker node.node.kind) (same : SameTurn node.progress y.progress) (h : KeepsMade F w n node) where
  -- complete inputs stay
  module _ (Takes Musts : Pipe → Type 0) (some : (x : Pipe) → Takes x → (rs : List Row) × (slice_get x.got x.next ≡ Some (Some rs))) (g : GoesOn Takes Musts w v) where
    inputs_stay : InputsStay w v n
    inputs_stay q e = let x = g q e.0 in (x.0, (x.1, ap (λ (u : Wire). u.receiver) (sym x.2.wire) ∙ e.1), ap (λ (u : Wire). u.input) x.2.wire, λ c. rests x.0 x.1 x.2 c)
      where
        rests : (x : Pipe) → Contains w.pipes x → Goes Takes Musts x q → IsComplete x → IsComplete q × (q.got ≡ x.got)
        rests x cx go c =
            let r = complete_rests F w Takes Musts o begun some x q cx go c in
            let all = o.read x cx c in (
              r.is_complete,
              sym (take-length q.got) ∙ ap (λ k. take k q.got) (r.longer ∙ sym all) ∙ take_fills x.got q.got x.next go.got (came_to F w o.known x cx) ∙ ap (λ k. take k x.got) all ∙ take-length x.got,
            )

    -- all but the stores
    keeps_on : Sees F w v n node → StepOf F w v n node → length y.progress.stores ≡ length node.progress.stores → StoresAll v n y → KeepsMade F v n y
    keeps_on seen s long stores =
        let node_is = (s.sent y at).0 in
        record {
          turn = turn_step F w v n node y o.known there at (keeps node.node.kind maker) same h.turn seen;
          long = long ∙ h.long ∙ ap (λ (p : PhysicalNode). length p.inputs) (sym node_is);
          stores = stores;
          made = λ rows e. made_on F w v n node y o.known.facts kv.facts there at node_is shape inputs_stay rows (h.made rows (sym same.made ∙ e));
          gives = gives_step F w v n node y at maker same s h.gives;
        }

  -- of what stands still, and of a claim
  still_reads : (i : ℕ) (c : Claim) → c.takes_morsel ≡ false → GoesOn (IsTakenOf n i) (IsTakenBy n i c.takes_morsel) w v → NextStays w v → ReadsOn w v n
  still_reads i c none g next q e =
      let x = g q e.0 in
      let z = next q e.0 in
      let enters : x.0.wire.receiver ≡ n = ap (λ (u : Wire). u.receiver) (sym x.2.wire) ∙ e.1 in
      let wires = sym z.2 ∙ x.2.wire in
      let one : z.0 ≡ x.0 = o.known.facts.one_input z.0 x.0 z.1 x.1 (ap (λ (u : Wire). u.receiver) wires) (ap (λ (u : Wire). u.input) wires) in
      let same_next : q.next ≡ x.0.next = z.3 ∙ ap (λ (p : Pipe). p.next) one in
      (x.0, (x.1, enters), ap (λ (u : Wire). u.input) x.2.wire, ap (λ j. take j q.got) same_next ∙ take_fills x.0.got q.got x.0.next x.2.got (came_to F w o.known x.0 x.1))

  -- IT PULLS
  module _ (i : ℕ) (p : Pipe) (rs : List Row) (cp : Contains w.pipes p) (input : is_input n i p ≡ true) (is : morsel_at p.next p.got ≡ Some rs) (g : GoesOn (IsTakenOf n i) (IsTakenBy n i true) w v) (st : Stands (record node { progress = stored_progress node i rs }) y) where
    abbrev now : Progress
    now = after_store node.node.kind i rs node.progress

    now_is : stored_progress node i rs ≡ now
    now_is = ap (λ b. cond b node.progress now) (no_ports node.node.kind maker)

    stores_are : y.progress.stores ≡ now.stores
    stores_are = st.stores (no_zip node.node.kind maker) ∙ ap (λ (z : Progress). z.stores) now_is

    booked_is : y.progress.booked ≡ now.booked
    booked_is = st.booked ∙ ap (λ (z : Progress). z.booked) now_is

    at_p : (p.wire.receiver ≡ n) × (p.wire.input ≡ i)
    at_p = let a = both_true (nat_eq p.wire.receiver n) (nat_eq p.wire.input i) input in (same_number p.wire.receiver n a.0, same_number p.wire.input i a.1)

    slot : slice_get p.got p.next ≡ Some (Some rs)
    slot = slot_is (slice_get p.got p.next) rs is

    one_more : (x : Pipe) → slice_get x.got x.next ≡ Some (Some rs) → Came x.got x.next → Came x.got (suc x.next)
    one_more x e came k less = by (cases_eq k x.next)
      where
        by : (k ≡ x.next) ⊎ (k ≢ x.next) → (a : List Row) × (slice_get x.got k ≡ Some (Some a))
        by (inl same) = (rs, ap (slice_get x.got) same ∙ e)
        by (inr other) = came k (omega (arith, less, other))

    -- the pipe that it pulls
    pulled : (x b : Pipe) → Enters w n x → x.wire.input ≡ i → Goes (IsTakenOf n i) (IsTakenBy n i true) x b → rows_read b ≡ rows_read x ++ rs
    pulled x b e at_i go =
        let same : p ≡ x = o.known.facts.one_input p x cp e.0 (at_p.0 ∙ sym e.1) (at_p.1 ∙ sym at_i) in
        let here : slice_get x.got x.next ≡ Some (Some rs) = subst (λ (z : Pipe). slice_get z.got z.next ≡ Some (Some rs)) same slot in
        let on = go.surely (refl, subst (λ z. is_input n i z ≡ true) same input) in
        let came = came_to F w o.known x e.0 in
        ap (λ j. rows_in_order (take j b.got)) on ∙ ap rows_in_order (take_fills x.got b.got (suc x.next) go.got (one_more x here came)) ∙ rows_more x.got x.next rs came here

    others : (x b : Pipe) → (x.wire.input ≢ i) → (b.next ≡ x.next) ⊎ (b.next ≡ suc x.next) × IsTakenOf n i x → b.next ≡ x.next
    others x b apart (inl same) = same
    others x b apart (inr (more, t)) = absurd (apart (same_number x.wire.input i (both_true (nat_eq x.wire.receiver n) (nat_eq x.wire.input i) t.0).1))

    -- an input is one of the node's
    in_node : (q : Pipe) → Enters w n q → q.wire.input < length node.node.inputs
    in_node q e = slice_get_within node.node.inputs q.wire.input (q.wire.sender, q.wire.port) (input_of F w o.known.facts n node.node q (in_shape w n node there) e.0 e.1)

    pulled_stores : y.node ≡ node.node → StoresAll v n y
    pulled_stores node_is q e = to_stores y.node.kind y.progress q (subst (λ (z : PhysicalNode). StoresBy z.kind y.progress.booked y.progress.stores q.wire.input (rows_read q)) (sym node_is) (moved (g q e.0)))
      where
        by : (x : Pipe) → Enters w n x → Goes (IsTakenOf n i) (IsTakenBy n i true) x q → (x.wire.input ≡ i) ⊎ (x.wire.input ≢ i) → StoresBy node.node.kind now.booked now.stores x.wire.input (rows_read q)
        by x ex go (inl here) =
            let old = of_stores node.node.kind node.progress x (h.stores x ex) in
            let l = h.long in
            let within = in_node x ex in
            let moved = stored_here node.node.kind i rs node.progress (rows_read x) (subst (λ j. j < length node.progress.stores) here (omega (arith, within, l))) (subst (λ j. StoresBy node.node.kind node.progress.booked node.progress.stores j (rows_read x)) here old) in
            subst (λ j. StoresBy node.node.kind now.booked now.stores j (rows_read q)) (sym here) (subst (StoresBy node.node.kind now.booked now.stores i) (sym (pulled x q ex here go)) moved)
        by x ex go (inr apart) =
            let next = others x q apart go.next in
            let read : rows_read q ≡ rows_read x = ap (λ j. rows_in_order (take j q.got)) next ∙ ap rows_in_order (take_fills x.got q.got x.next go.got (came_to F w o.known x ex.0)) in
            subst (StoresBy node.node.kind now.booked now.stores x.wire.input) (sym read)
            (stored_off node.node.kind (length node.node.inputs) i x.wire.input rs node.progress (rows_read x) (o.known.facts.sound.0 n node.node (in_shape w n node there)).inputs (subst (λ j. j < length node.node.inputs) at_p.1 (in_node p (cp, at_p.0))) (in_node x ex) apart (of_stores node.node.kind node.progress x (h.stores x ex)))

        moved : (x : Pipe) × Contains w.pipes x × Goes (IsTakenOf n i) (IsTakenBy n i true) x q → StoresBy node.node.kind y.progress.booked y.progress.stores q.wire.input (rows_read q)
        moved (x, cx, go) =
            let ex : Enters w n x = (cx, ap (λ (u : Wire). u.receiver) (sym go.wire) ∙ e.1) in
            subst (λ b. StoresBy node.node.kind b y.progress.stores q.wire.input (rows_read q)) (sym booked_is)
            (subst (λ ss. StoresBy node.node.kind now.booked ss q.wire.input (rows_read q)) (sym stores_are)
            (subst (λ j. StoresBy node.node.kind now.booked now.stores j (rows_read q)) (ap (λ (u : Wire). u.input) (sym go.wire)) (by x ex go (cases_eq x.wire.input i))))

    pulled_long : length y.progress.stores ≡ length node.progress.stores
    pulled_long = ap length stores_are ∙ stored_long node.node.kind i rs node.progress

  pub made_step : Sees F w v n node → KeepsMade F v n y
  made_step seen = by seen
    where
      by : Sees F w v n node → KeepsMade F v n y
      by (stands_still g s st stores outs) =
          let z = st y at in
          let kept = z.stores (no_zip node.node.kind maker) in
          keeps_on (TakenElsewhere n) NoneTaken (λ x t. t.1) g seen s (ap length kept) (stores_kept w v n node y z.node z.booked kept (reads_still F w v n o.known g) h.stores)
      by (claims i c e cut on g s st stores next outs) =
          let z = st y at in
          let k = claim_is w n i node c maker e in
          let kept = z.stores (no_zip node.node.kind maker) ∙ ap (λ (a : Progress). a.stores) k.progress in
          let booked = z.booked ∙ ap (λ (a : Progress). a.booked) k.progress in
          keeps_on (IsTakenOf n i) (IsTakenBy n i c.takes_morsel) (λ x t. t.1) g seen s (ap length kept) (stores_kept w v n node y z.node booked kept (still_reads i c k.takes g (next k.takes)) h.stores)
      by (pulls_in i p rs pulling cut on cp input is g s st stores outs) =
          let z = st y at in
          keeps_on (IsTakenOf n i) (IsTakenBy n i true) (λ x t. t.1) g seen s (pulled_long i p rs cp input is g z) (pulled_stores i p rs cp input is g z z.node)

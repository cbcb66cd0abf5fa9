-- A sink stores what it read, along every step.
use Rattle.std.proofs.Common.{◌≡◌, ◌≢◌, ℕ, zero, suc, ◌<◌, ◌⊎◌, true, cond, List, [], ◌∷◌, ◌++◌, length, take, Option, Some, None, refl, sym, ap, subst, ◌∙◌, inl, inr, arith}
use Rattle.std.specs.Prelude.{Contains, get_or, nat_eq, slice_get, slice_set}
use Rattle.std.proofs.lemmas.Bool.{cases_eq}
use Rattle.std.proofs.lemmas.Option.{slice_get_within}
use Rattle.ps_frame.specs.Functions.{Functions}
use Rattle.ps_frame.specs.Tables.{Row}
use Rattle.ps_meaning.specs.Shape.{in_memory_sink}
use Rattle.ps_meaning.specs.Sound.{HasInputs}
use Rattle.ps_ports.specs.Wires.{Wire}
use Rattle.ps_turns.specs.Claims.{Claim, claim_by}
use Rattle.ps_turns.specs.Heads.{stored_rows}
use Rattle.ps_turns.specs.Progress.{is_multiplexer}
use Rattle.ps_turns.specs.Pulls.{after_store}
use Rattle.ps_world.specs.Claims.{claim_at, inputs_in_phase, next_morsel}
use Rattle.ps_world.specs.Pipes.{is_input}
use Rattle.ps_world.specs.World.{Node, Pipe, World, flat, heads_of, inputs_done, morsel_at, rows_in_order, schemas_for}
use Rattle.passing_runs.proofs.Slots.{Came}
use Rattle.world_claims.specs.Numbering.{Known}
use Rattle.world_facts.proofs.CutOff.{both_true}
use Rattle.world_laws.proofs.Answered.{in_shape}
use Rattle.world_laws.proofs.PassingPorts.{same_number}
use Rattle.family_pipes.proofs.Inputs.{input_of}
use Rattle.world_families.proofs.Members.{nothing_is}
use Rattle.world_families.specs.Keepers.{Stores, StoresAll}
use Rattle.world_families.specs.Work.{Enters, rows_read}
use Rattle.orderly_worlds.proofs.Goes.{GoesOn, IsTakenBy, IsTakenOf}
use Rattle.orderly_worlds.proofs.ReadRows.{ReadsOn, came_to, reads_still, rows_more, stored_more, take_fills}
use Rattle.orderly_worlds.proofs.Seen.{Seen, claims, pulls_in, stands_still}
use Rattle.orderly_worlds.proofs.Stands.{stored_progress, Stands, zips}

-- it has a store, and in it what it read
pub record SinkStores (w : World) (n : ℕ) (node : Node) : Type 0 where
  pub has_store : 0 < length node.progress.stores
  pub stored : (q : Pipe) → Enters w n q → stored_rows (get_or node.progress.stores q.wire.input []) ≡ rows_read q

pub stores_all : (w : World) (n : ℕ) (node : Node) → node.node.kind ≡ in_memory_sink → SinkStores w n node → StoresAll w n node
stores_all w n node is_one h q c = subst (λ k. Stores k node.progress q) (sym is_one) (h.stored q c)

-- while it reads nothing
pub sink_still : (w v : World) (n : ℕ) (node y : Node) → node.node.kind ≡ in_memory_sink → ReadsOn w v n → Stands node y → SinkStores w n node → SinkStores v n y
sink_still w v n node y is_one reads s h =
    let stores = s.stores (ap zips is_one) in
    record {
      has_store = subst (λ ss. 0 < length ss) (sym stores) h.has_store;
      stored = λ q c. let x = reads q c in (λ i. stored_rows (get_or (stores i) (x.2 i) [])) ∙ h.stored x.0 x.1 ∙ ap rows_in_order (sym x.3);
    }

-- the one input of a node
pub first_input : (F : Functions) (w : World) (n : ℕ) (node : Node) → Known F w → slice_get w.nodes n ≡ Some node → length node.node.inputs ≡ 1 → (q : Pipe) → Enters w n q → q.wire.input ≡ 0
first_input F w n node known there one q c =
    let at = input_of F w known.facts n node.node q (in_shape w n node there) c.0 c.1 in
    let short = slice_get_within node.node.inputs q.wire.input (q.wire.sender, q.wire.port) at in
    omega (arith, short, one)

pub sink_input : (F : Functions) (w : World) (n : ℕ) (node : Node) → Known F w → slice_get w.nodes n ≡ Some node → node.node.kind ≡ in_memory_sink → length node.node.inputs ≡ 1
sink_input F w n node known there is_one = subst (λ k. HasInputs k (length node.node.inputs)) is_one (known.facts.sound.0 n node.node (in_shape w n node there)).inputs

set_first : (ss : List (List (List Row))) (m : List (List Row)) → 0 < length ss → get_or (slice_set ss 0 m) 0 [] ≡ m
set_first [] m h = absurd (omega arith)
set_first (s ∷ ss) m h = refl

set_length : (ss : List (List (List Row))) (k : ℕ) (m : List (List Row)) → 0 < length ss → 0 < length (slice_set ss k m)
set_length [] k m h = absurd (omega arith)
set_length (s ∷ ss) zero m h = h
set_length (s ∷ ss) (suc k) m h = omega arith

slot_is : (o : Option (Option (List Row))) (rs : List Row) → flat o ≡ Some rs → o ≡ Some (Some rs)
slot_is None rs e = absurd (nothing_is rs e)
slot_is (Some slot) rs e = ap Some e

module _ (F : Functions) (w v : World) (n : ℕ) (node : Node) (known : Known F w) (there : slice_get w.nodes n ≡ Some node) (is_one : node.node.kind ≡ in_memory_sink) (h : SinkStores w n node) (y : Node) (at : slice_get v.nodes n ≡ Some y) where
  no_claim : (i : ℕ) (c : Claim) → claim_at w n i node ≡ Some c → ⊥
  no_claim i c e = nothing_is c ((λ j. claim_by w.options node.node (schemas_for w node) (sym is_one j) node.progress (heads_of w n node) (inputs_done w n) i (next_morsel (inputs_in_phase w n i))) ∙ e)

  module _ (i : ℕ) (p : Pipe) (rs : List Row) (cp : Contains w.pipes p) (input : is_input n i p ≡ true) (is : morsel_at p.next p.got ≡ Some rs) (g : GoesOn (IsTakenOf n i) (IsTakenBy n i true) w v) (s : Stands (record node { progress = stored_progress node i rs }) y) where
    ends : (p.wire.receiver ≡ n) × (p.wire.input ≡ i)
    ends = let a = both_true (nat_eq p.wire.receiver n) (nat_eq p.wire.input i) input in (same_number p.wire.receiver n a.0, same_number p.wire.input i a.1)

    first : (q : Pipe) → Enters w n q → q.wire.input ≡ 0
    first q c = first_input F w n node known there (sink_input F w n node known there is_one) q c

    zero_input : i ≡ 0
    zero_input = sym ends.1 ∙ first p (cp, ends.0)

    new_stores : y.progress.stores ≡ slice_set node.progress.stores 0 (get_or node.progress.stores 0 [] ++ rs ∷ [])
    new_stores =
        s.stores (ap zips is_one) ∙ ap (λ k. (cond (is_multiplexer k) node.progress (after_store k i rs node.progress)).stores) is_one
        ∙ ap (λ j. slice_set node.progress.stores j (get_or node.progress.stores j [] ++ rs ∷ [])) zero_input

    read_more : (q : Pipe) → Enters v n q → stored_rows (get_or y.progress.stores q.wire.input []) ≡ rows_read q
    read_more q c =
        let x = g q c.0 in
        let enters : x.0.wire.receiver ≡ n = ap (λ (u : Wire). u.receiver) (sym x.2.wire) ∙ c.1 in
        let at_zero = first x.0 (x.1, enters) in
        let same = known.facts.one_input p x.0 cp x.1 (ends.0 ∙ sym enters) (ends.1 ∙ zero_input ∙ sym at_zero) in
        let slot : slice_get x.0.got x.0.next ≡ Some (Some rs) = subst (λ (z : Pipe). slice_get z.got z.next ≡ Some (Some rs)) same (slot_is (slice_get p.got p.next) rs is) in
        let next = x.2.surely (refl, subst (λ z. is_input n i z ≡ true) same input) in
        let came = came_to F w known x.0 x.1 in
        let taken : take q.next q.got ≡ take (suc x.0.next) x.0.got = ap (λ j. take j q.got) next ∙ take_fills x.0.got q.got (suc x.0.next) x.2.got (one_more x.0 came slot) in
        let input_zero : q.wire.input ≡ 0 = ap (λ (u : Wire). u.input) x.2.wire ∙ at_zero in
        let old = h.stored x.0 (x.1, enters) in
        (λ j. stored_rows (get_or (new_stores j) (input_zero j) [])) ∙ ap stored_rows (set_first node.progress.stores (get_or node.progress.stores 0 [] ++ rs ∷ []) h.has_store) ∙ stored_more (get_or node.progress.stores 0 []) rs
        ∙ ap (λ z. z ++ rs) (ap (λ j. stored_rows (get_or node.progress.stores j [])) (sym at_zero) ∙ old)
        ∙ sym (rows_more x.0.got x.0.next rs came slot)
        ∙ ap rows_in_order (sym taken)
      where
        one_more : (x : Pipe) → Came x.got x.next → slice_get x.got x.next ≡ Some (Some rs) → Came x.got (suc x.next)
        one_more x came slot k less = by (cases_eq k x.next)
          where
            by : (k ≡ x.next) ⊎ (k ≢ x.next) → (a : List Row) × (slice_get x.got k ≡ Some (Some a))
            by (inl e) = (rs, ap (slice_get x.got) e ∙ slot)
            by (inr other) = came k (omega (arith, less, other))

    pulled_sink : SinkStores v n y
    pulled_sink = record { has_store = subst (λ ss. 0 < length ss) (sym new_stores) (set_length node.progress.stores 0 (get_or node.progress.stores 0 [] ++ rs ∷ []) h.has_store); stored = read_more }

  pub sink_step : Seen F w v n node → SinkStores v n y
  sink_step (stands_still g s st outs) = sink_still w v n node y is_one (reads_still F w v n known g) (st y at) h
  sink_step (claims i c e g s st outs) = absurd (no_claim i c e)
  sink_step (pulls_in i p rs pulling cp input is g s st outs) = pulled_sink i p rs cp input is g (st y at)

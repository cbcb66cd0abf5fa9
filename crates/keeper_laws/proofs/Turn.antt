-- What a keeper keeps of its stage: it takes before it gives, while it takes it sent nothing, and once it is spent it gave all or its output is read no more.
use Rattle.std.proofs.Common.{◌≡◌, ℕ, ◌⊎◌, Bool, true, false, cond, List, length, Some, refl, sym, ap, ◌∙◌, inl, inr, arith}
use Rattle.std.specs.Prelude.{nat_eq, slice_get, ◌||◌}
use Rattle.std.proofs.lemmas.Bool.Decides.{nat_tests}
use Rattle.ps_frame.specs.Functions.{Functions}
use Rattle.ps_frame.specs.Tables.{Row}
use Rattle.ps_meaning.specs.Shape.{PhysicalKind, negative_slice}
use Rattle.ps_ports.specs.Ports.{is_done, is_ready}
use Rattle.ps_ports.specs.Wires.{Wire}
use Rattle.ps_turns.specs.Progress.{Progress, is_giving, is_spent, is_taking, is_multiplexer}
use Rattle.ps_turns.specs.Updates.{has_given_all}
use Rattle.ps_turns.specs.Pulls.{after_store}
use Rattle.ps_world.specs.Claims.{inputs_in_phase, next_morsel}
use Rattle.ps_world.specs.Updates.{given_at, sent}
use Rattle.ps_world.specs.World.{Node, Pipe, World, heads_of, inputs_done, schemas_for}
use Rattle.world_claims.specs.Numbering.{Known}
use Rattle.world_facts.proofs.CutOff.{both_true}
use Rattle.world_facts.proofs.Placing.{has_readers}
use Rattle.world_families.specs.Keepers.{TakesFirst}
use Rattle.world_families.specs.Sources.{HasGivenAll}
use Rattle.world_families.specs.Work.{Leaves}
use Rattle.family_fronts.proofs.SourceLaw.{from_single}
use Rattle.orderly_worlds.proofs.Goes.{Goes, GoesOn, IsTakenBy, IsTakenOf, NoneTaken}
use Rattle.orderly_worlds.proofs.Seen.{TakenElsewhere}
use Rattle.node_keeps.proofs.SameTurn.{SameTurn}
use Rattle.node_keeps.proofs.Sees.{Sees, claims, pulls_in, stands_still}
use Rattle.keeper_laws.proofs.Says.{IsKeeper, Keeper, claims_while, given_same, gives_not_spent, keeper}

-- no reader wants more of it
abbrev pub IsReadOut : World → ℕ → Type 0
IsReadOut w n = (p : Pipe) → Leaves w n p → is_done p.wire.receive_state ≡ true

pub record KeepsTurn (w : World) (n : ℕ) (node : Node) : Type 0 where
  pub first : TakesFirst w n node
  pub unsent : is_taking node.progress.stage ≡ true → node.progress.sent ≡ 0
  pub gave : is_spent node.progress.stage ≡ true → HasGivenAll w node ⊎ IsReadOut w n

-- BOOLEANS
never : (b : Bool) → b ≡ true → b ≡ false → ⊥
never b t f = let no : true ≡ false = sym t ∙ f in cc

false_if : (b : Bool) → (b ≡ true → ⊥) → b ≡ false
false_if true h = absurd (h refl)
false_if false h = refl

or_last : (a b : Bool) → b ≡ true → (a || b) ≡ true
or_last true b e = refl
or_last false b e = e

eq_true : (k m : ℕ) → k ≡ m → nat_eq k m ≡ true
eq_true k m e = grind (arith, nat_tests)

-- WHILE IT TAKES ITS OUTPUT IS OF NO PHASE
module _ (F : Functions) (w : World) (n : ℕ) (node : Node) (known : Known F w) (there : slice_get w.nodes n ≡ Some node) (k : Keeper node.node.kind) where
  pub outside : is_taking node.progress.stage ≡ true → (p : Pipe) → Leaves w n p → p.in_phase ≡ false
  outside takes p l = false_if p.in_phase by
    where
      by : p.in_phase ≡ true → ⊥
      by e =
          let a = (known.facts.pipes p l.0).at_hand e in
          let off = known.outs.takes p node l.0 (ap (slice_get w.nodes) l.1 ∙ there) a.1 (k.takes node.progress.stage takes) in
          never (is_ready p.wire.send_state) (both_true (is_ready p.wire.send_state) (is_ready p.wire.receive_state) a.0).0 off

  pub one_output : (p r : Pipe) → Leaves w n p → Leaves w n r → p ≡ r
  one_output p r l q = known.facts.one_output p r l.0 q.0 (l.1 ∙ sym q.1) (from_single w n node p there k.single l.1)

  pub one_out : length (given_at w n).outputs ≡ 1
  one_out = k.one_reader (length (given_at w n).outputs) (has_readers F w known.facts n node there)

-- A STEP OF A PHASE
module _ (F : Functions) (w v : World) (n : ℕ) (node y : Node) (known : Known F w) (there : slice_get w.nodes n ≡ Some node) (at : slice_get v.nodes n ≡ Some y) (is : IsKeeper node.node.kind) (same : SameTurn node.progress y.progress) (h : KeepsTurn w n node) where
  k : Keeper node.node.kind
  k = keeper node.node.kind is

  module _ (Takes Musts : Pipe → Type 0) (g : GoesOn Takes Musts w v) where
    back : (p : Pipe) → Leaves v n p → (x : Pipe) × Leaves w n x × Goes Takes Musts x p
    back p l = let x = g p l.0 in (x.0, (x.1, ap (λ (u : Wire). u.sender) (sym x.2.wire) ∙ l.1), x.2)

    first_on : TakesFirst v n y
    first_on = record { takes = λ t p l. false_if p.is_dropped (by t p l); took = λ t q e. let x = g q e.0 in ap (λ (u : Wire). is_done u.receive_state) x.2.wire ∙ h.first.took (ap is_taking (sym same.stage) ∙ t) x.0 (x.1, ap (λ (u : Wire). u.receiver) (sym x.2.wire) ∙ e.1) }
      where
        by : is_taking y.progress.stage ≡ true → (p : Pipe) → Leaves v n p → p.is_dropped ≡ true → ⊥
        by t p l gone = of (x.2.lost gone)
          where
            x : (x : Pipe) × Leaves w n x × Goes Takes Musts x p
            x = back p l

            was : is_taking node.progress.stage ≡ true
            was = ap is_taking (sym same.stage) ∙ t

            of : ((back p l).0.is_dropped ≡ true) ⊎ ((back p l).0.in_phase ≡ true) → ⊥
            of (inl old) = never (back p l).0.is_dropped old (h.first.takes was (back p l).0 (back p l).1)
            of (inr on) = never (back p l).0.in_phase on (outside F w n node known there k was (back p l).0 (back p l).1)

    read_out : IsReadOut w n → IsReadOut v n
    read_out r p l = let x = back p l in ap (λ (u : Wire). is_done u.receive_state) x.2.wire ∙ r x.0 x.1

    -- while what was sent stays
    stays : v.options ≡ w.options → y.node ≡ node.node → y.progress.sent ≡ node.progress.sent → KeepsTurn v n y
    stays options node_is sent =
        record {
          first = first_on;
          unsent = λ t. sent ∙ h.unsent (ap is_taking (sym same.stage) ∙ t);
          gave = λ t. by (h.gave (ap is_spent (sym same.stage) ∙ t));
        }
      where
        by : HasGivenAll w node ⊎ IsReadOut w n → HasGivenAll v y ⊎ IsReadOut v n
        by (inl all) = inl ((λ i. has_given_all (options i) (node_is i).kind y.progress) ∙ given_same w.options node.node.kind node.progress y.progress is same sent ∙ all)
        by (inr r) = inr (read_out r)

    -- it claims what it gives
    gives_on : is_giving node.progress.stage ≡ true → KeepsTurn v n y
    gives_on g =
        record {
          first = first_on;
          unsent = λ t. absurd ((gives_not_spent node.progress.stage g).0 (ap is_taking (sym same.stage) ∙ t));
          gave = λ t. absurd ((gives_not_spent node.progress.stage g).1 (ap is_spent (sym same.stage) ∙ t));
        }

  stored_sent : (b : Bool) (kind : PhysicalKind) (i : ℕ) (rs : List Row) (a : Progress) → (cond b a (after_store kind i rs a)).sent ≡ a.sent
  stored_sent true kind i rs a = refl
  stored_sent false kind i rs a = of kind
    where
      of : (z : PhysicalKind) → (after_store z i rs a).sent ≡ a.sent
      of (negative_slice b n) = refl
      of z = refl

  pub turn_step : Sees F w v n node → KeepsTurn v n y
  turn_step (stands_still g s st stores outs) = stays (TakenElsewhere n) NoneTaken g s.options (st y at).node (st y at).sent
  turn_step (claims i c e cut on g s st stores next outs) = by (claims_while w.options node.node (schemas_for w node) node.progress (heads_of w n node) (inputs_done w n) i (next_morsel (inputs_in_phase w n i)) c node.node.kind is e)
    where
      by : (is_taking node.progress.stage ≡ true) × (c.progress.sent ≡ node.progress.sent) ⊎ (is_giving node.progress.stage ≡ true) → KeepsTurn v n y
      by (inl (t, sent)) = stays (IsTakenOf n i) (IsTakenBy n i c.takes_morsel) g s.options (st y at).node ((st y at).sent ∙ sent)
      by (inr gives) = gives_on (IsTakenOf n i) (IsTakenBy n i c.takes_morsel) g gives
  turn_step (pulls_in i p rs pulling cut on cp input m g s st stores outs) = stays (IsTakenOf n i) (IsTakenBy n i true) g s.options (st y at).node ((st y at).sent ∙ stored_sent (is_multiplexer node.node.kind) node.node.kind i rs node.progress)

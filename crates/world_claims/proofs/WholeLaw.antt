-- What is known of every reached world is what the induction over a graph asks of it.
use Rattle.std.proofs.Common.{◌≡◌, Bool, true, false, refl, ap, ◌∙◌}
use Rattle.std.specs.Prelude.{nat_lt, not, ◌||◌}
use Rattle.ps_frame.specs.Functions.{Functions}
use Rattle.ps_world.specs.Laws.{FactsLaw, IsFull, PhaseFacts}
use Rattle.ps_world.specs.World.{Pipe, World, is_bounded, multiplexes, places_taken, room, running}
use Rattle.std.specs.Prelude.{slice_get}
use Rattle.world_facts.proofs.FromFacts.{forward, full_reader, piece_nodes, pieces_open, starved_sender}
use Rattle.world_facts.proofs.Placing.{ends_agree}
use Rattle.world_facts.proofs.UpdatedKeeps.{updates_keep_facts}
use Rattle.world_facts.proofs.Wiring.{wires_forward, wires_inside}
use Rattle.world_laws.proofs.InOrder.{contains_map}
use Rattle.world_claims.proofs.Outs.{outs_shut}
use Rattle.world_claims.proofs.ReachedFacts.{known_opening, known_step}
use Rattle.world_claims.proofs.Steps.{updates_number}
use Rattle.world_claims.specs.Numbering.{Known}

neither : (a b : Bool) → (a || b) ≡ false → (a ≡ false) × (b ≡ false)
neither true b e = absurd (let no : true ≡ false = e in cc)
neither false b e = (refl, e)

not_not : (b : Bool) → not (not b) ≡ false → b ≡ false
not_not true e = absurd (let no : true ≡ false = e in cc)
not_not false e = refl

-- a full pipe doesn't leave a multiplexer
full_single : (w : World) (p : Pipe) → IsFull w p → multiplexes (slice_get w.nodes p.wire.sender) ≡ false
full_single w p full =
    let a = neither p.is_dropped (not (is_bounded w p) || nat_lt (places_taken w p) (room w)) full.2 in
    let b = neither (not (is_bounded w p)) (nat_lt (places_taken w p) (room w)) a.1 in
    not_not (multiplexes (slice_get w.nodes p.wire.sender)) b.0

module _ (F : Functions) where
  of_phase : (w : World) → Known F w → w.ending ≡ running → PhaseFacts w
  of_phase w k runs =
      record {
        forward = λ p c. wires_forward F w k.facts p.wire (contains_map (λ (q : Pipe). q.wire) p w.pipes c);
        starved_sender = starved_sender F w k.facts runs;
        full_reader = full_reader F w k.facts runs;
        one_output = λ p q starved full same. k.facts.one_output p q starved.0 full.0 same (ap (λ n. multiplexes (slice_get w.nodes n)) same ∙ full_single w q full);
      }

  pub facts_law : FactsLaw F (Known F)
  facts_law =
      record {
        at_opening = λ shape o sound. known_opening F shape o sound;
        at_step = λ w v r k s. known_step F w v r k s;
        at_update = λ w s k shut u. let f = updates_keep_facts F w s u k.facts shut in record { facts = f.0; numbers = updates_number F w s u k.numbers; outs = outs_shut s f.1 };
        forward = λ w k. forward F w k.facts;
        wires_forward = λ w k. wires_forward F w k.facts;
        wires_inside = λ w k. wires_inside F w k.facts;
        phase = of_phase;
        ends_agree = λ s k rest. ends_agree F s k.facts rest;
        pieces_open = λ w q k c. pieces_open F w k.facts q c;
        piece_nodes = λ w q k c. piece_nodes F w k.facts q c;
      }

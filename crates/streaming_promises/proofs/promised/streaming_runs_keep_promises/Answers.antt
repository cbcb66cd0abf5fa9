use Rattle.streaming_promises.proofs.OfWorlds.{pieces_have_results, sinks_hold}
use Rattle.streaming_promises.proofs.promised.streaming_runs_keep_promises.Goals as goal

pub returns : goal.returns
returns c = λ F shape o w laws sound streams r.
    let results = pieces_have_results F shape o sound streams (λ x s n node q there is cq at. c.streaming_pieces_have_results.ensures F shape o x n node q sound s there is cq at) in
    record {
      promises = record { served = c.streaming_graphs_are_served.ensures F shape o w sound streams r; answered = c.streaming_runs_are_answered.ensures.lawful F shape o w laws sound streams r; never_stuck = c.no_run_is_stuck.ensures F shape o sound w r };
      sinks_hold = sinks_hold F shape o w sound r (λ n p e is. c.streaming_nodes_hold.ensures F shape o w n p sound r e is);
      claimed_once = c.numbers_come_once.ensures F shape sound o w r;
      hands_all_in = c.claims_are_handed_in.ensures F shape o w sound r;
      all_claimed = c.sources_claim_all.ensures F shape o w sound r;
      drops = c.slices_halt_sources.ensures.drops F w;
      stays_halted = c.halted_nodes_stay_so.ensures F shape o w sound r;
      bounded = c.little_is_in_flight.ensures F shape o w sound r;
      stores_few = c.ends_are_enough.ensures.few F shape o w r;
      piece_results = λ q cq. results w q r cq;
      run_ends = c.runs_end.ensures F shape o w sound r;
      reaches_end = c.ends_are_reached.ensures F shape o w sound (c.no_run_is_stuck.ensures F shape o sound) results r;
    }

-- One pipe more.
use Rattle.std.proofs.Common.{◌≡◌, ℕ, ◌<◌, ◌++◌, [], ◌∷◌, true, false, List, length, take, sym, ap, ◌∙◌, arith}
use Rattle.ps_graph.specs.declared.key.LogicalPipeKey.{LogicalPipeKey}
use Rattle.ps_graph.specs.Running.{feeds_flagged, passes}
use Rattle.ps_graph.specs.Shown.{numbers, places_from, values, wire_of}
use Rattle.ps_graph.proofs.Growing.{append_nil, map-append}
use Rattle.ps_graph.proofs.Places.{count_there, length_there}
use Rattle.ps_graph.proofs.Scanning.{places_next, take_all}
use Rattle.ps_graph.proofs.phase.feeding_pipes.Goals as goal
use Rattle.ps_graph.proofs.phase.feeding_pipes.Goals.{then-feeds+in_ok-push, else-feeds}

pub loop-number-init : goal.loop-number-init
loop-number-init c = ap numbers c.new-keys.ensures.items

pub loop-number-preserved : goal.loop-number-preserved
loop-number-preserved c =
    let count = c.len-number-end.ensures.count ∙ count_there c.args.pipes.now.slots c.requires.there in
    let test = c.loop-number-test.true in
    let inside : c.loop-number.number < length c.args.pipes.now.slots = omega (arith, count, test) in
    let told : c.feeds.result ≡ passes (feeds_flagged c.args.flags.now) c.args.pipes.now.slots c.loop-number.number = c.feeds.ensures ∙ ap (λ (k : LogicalPipeKey). passes (feeds_flagged c.args.flags.now) c.args.pipes.now.slots k.0) c.from_number-key.ensures in
    let before : List ℕ = places_from 0 (λ p. feeds_flagged c.args.flags.now (wire_of p)) (take c.loop-number.number (values c.args.pipes.now.slots)) in
    elim c.if-feeds.branch [
      | then-feeds+in_ok-push w ↦
          let next = places_next c.args.pipes.now.slots (feeds_flagged c.args.flags.now) c.loop-number.number true c.requires.there inside (sym told ∙ w.if-feeds.true) in
          ap (λ v. numbers v.items) w.keys-is ∙ ap numbers w.in_ok-push.ensures.items ∙ map-append (λ (k : LogicalPipeKey). k.0) c.loop-number.keys.items (c.from_number-key.result ∷ [])
          ∙ ap (λ l. l ++ c.from_number-key.result.0 ∷ []) c.loop-number.invariant ∙ ap (λ (k : LogicalPipeKey). before ++ k.0 ∷ []) c.from_number-key.ensures ∙ sym next
      | else-feeds w ↦
          let next = places_next c.args.pipes.now.slots (feeds_flagged c.args.flags.now) c.loop-number.number false c.requires.there inside (sym told ∙ w.if-feeds.false) in
          ap (λ v. numbers v.items) w.keys-is ∙ c.loop-number.invariant ∙ sym (next ∙ append_nil before)
    ]

pub returns-clause-keys : goal.returns-clause-keys
returns-clause-keys c =
    let count = c.len-number-end.ensures.count ∙ count_there c.args.pipes.now.slots c.requires.there in
    let long = length_there c.args.pipes.now.slots c.requires.there in
    let over = c.loop-number-test.false in
    c.loop-number.invariant ∙ ap (places_from 0 (λ p. feeds_flagged c.args.flags.now (wire_of p))) (take_all c.loop-number.number (values c.args.pipes.now.slots) (omega (arith, count, long, over)))

-- One flag more.
use Rattle.std.proofs.Common.{◌≡◌, ℕ, ◌++◌, [], ◌∷◌, true, false, List, get_or, length, sym, ap, ◌∙◌, arith}
use Rattle.std.specs.List.{filter as kept}
use Rattle.ps_frame.specs.Zip.{below}
use Rattle.ps_graph.specs.declared.key.GraphNodeKey.{GraphNodeKey}
use Rattle.ps_graph.specs.Running.{node_numbers}
use Rattle.ps_graph.proofs.Growing.{append_nil, map-append}
use Rattle.ps_graph.proofs.Scanning.{flagged_more}
use Rattle.ps_graph.proofs.phase.flagged_nodes.Goals as goal
use Rattle.ps_graph.proofs.phase.flagged_nodes.Goals.{then-flag+in_ok-push, else-flag}

pub loop-number-init : goal.loop-number-init
loop-number-init c = ap node_numbers c.new-keys.ensures.items

pub loop-number-preserved : goal.loop-number-preserved
loop-number-preserved c =
    let before : List ℕ = kept (λ n. get_or c.args.flags.now n false) (below c.loop-number.number) in
    elim c.if-flag.branch [
      | then-flag+in_ok-push w ↦
          let next = flagged_more c.args.flags.now c.loop-number.number true w.if-flag.true in
          ap (λ v. node_numbers v.items) w.keys-is ∙ ap node_numbers w.in_ok-push.ensures.items ∙ map-append (λ (k : GraphNodeKey). k.0) c.loop-number.keys.items (w.from_number.result ∷ [])
          ∙ ap (λ l. l ++ w.from_number.result.0 ∷ []) c.loop-number.invariant ∙ ap (λ (k : GraphNodeKey). before ++ k.0 ∷ []) w.from_number.ensures ∙ sym next
      | else-flag w ↦
          let next = flagged_more c.args.flags.now c.loop-number.number false w.if-flag.false in
          ap (λ v. node_numbers v.items) w.keys-is ∙ c.loop-number.invariant ∙ sym (next ∙ append_nil before)
    ]

pub returns-clause-keys : goal.returns-clause-keys
returns-clause-keys c =
    let over = c.loop-number-test.false in
    let within = c.loop-number.auto.number-end in
    let all : c.loop-number.number ≡ length c.args.flags.now = omega (arith, over, within) in
    c.loop-number.invariant ∙ ap (λ n. kept (λ m. get_or c.args.flags.now m false) (below n)) all

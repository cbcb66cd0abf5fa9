-- Errors of later updates are errors after the ones before.
use Rattle.std.proofs.Common.{◌≡◌, ℕ, List, Some, sym, ap, ◌∙◌, inl, inr}
use Rattle.std.specs.Prelude.{slice_get}
use Rattle.pu_base.specs.declared.arena.Node.{Node}
use Rattle.ps_frame.specs.declared.refusal.PolarsError.{PolarsError}
use Rattle.ps_ports.specs.Ports.{Sides}
use Rattle.ps_ports.specs.Wires.{given_to}
use Rattle.ps_settle.specs.Standings.{Standing, Updates, no_update}
use Rattle.ps_settle.proofs.Rest.{after}
use Rattle.ps_graph.specs.declared.graph.GraphNode.{GraphNode}
use Rattle.ps_graph.specs.Turning.{MayFail, NodeFails}

module _ {N : Type 0} (rank : N → ℕ) (Update : N → Sides → N → Sides → Type 0) (Faults : N → Sides → PolarsError → Type 0) where
  -- at once
  pub fails_now : (s : Standing N) (origins : List Node) (number : ℕ) (node : GraphNode N) (e : PolarsError) → slice_get s.nodes number ≡ Some node.compute → slice_get origins number ≡ Some node.origin
      → NodeFails Faults node (given_to number s.wires) e → MayFail rank Update Faults s origins e
  fails_now s origins number node e at from (inl memory) = inl memory
  fails_now s origins number node e at from (inr (fault, faults, told)) =
      inr (record { last = s; reached = no_update; number = number; node = node.compute; fault = fault; origin = node.origin; stands = at; comes_from = from; faults = faults; told = told })

  -- after some updates
  pub fails_later : (s0 s : Standing N) (origins0 origins : List Node) (e : PolarsError) → Updates rank Update s0 s → origins ≡ origins0 → MayFail rank Update Faults s origins e → MayFail rank Update Faults s0 origins0 e
  fails_later s0 s origins0 origins e so_far same (inl memory) = inl memory
  fails_later s0 s origins0 origins e so_far same (inr f) =
      inr (record {
        last = f.last;
        reached = after rank Update s0 s f.last so_far f.reached;
        number = f.number;
        node = f.node;
        fault = f.fault;
        origin = f.origin;
        stands = f.stands;
        comes_from = ap (λ l. slice_get l f.number) (sym same) ∙ f.comes_from;
        faults = f.faults;
        told = f.told;
      })

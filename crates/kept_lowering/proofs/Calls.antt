-- From what the calls leave to what their answers mean.
use Rattle.std.proofs.Common.{◌≡◌, ℕ, ◌<◌, ◌^◌, List, [], ◌∷◌, refl, ap, subst}
use Rattle.pu_base.specs.declared.arena.Node.{Node}
use Rattle.ps_frame.specs.Functions.{Functions}
use Rattle.ps_frame.specs.Trees.{Tree}
use Rattle.ps_meaning.specs.Steps.{Named, exprs_of, key_trees, named_trees}
use Rattle.ps_meaning.specs.declared.options.ExprIR.{ExprIR}
use Rattle.ps_rules.specs.Lowered.{lower_exprs, select_stream}
use Rattle.ps_rules.specs.Slots.{Made, State, Stream, under}
use Rattle.ps_shares.specs.Kept.{IsReady}
use Rattle.lowering_laws.specs.Kept.{KeepsExprs, KeepsSelect, names_asked}
use Rattle.lowering_laws.proofs.Keeping.{asked_kept, stream_kept}

pub exprs_kept : (F : Functions) (f : Node → Tree) (at : ℕ) (input : Stream) (s t : State) (asked : List ExprIR) (answered : List Named) (stream : Stream)
    → t ≡ (lower_exprs at input (key_trees f asked) s).state → stream ≡ (lower_exprs at input (key_trees f asked) s).stream → answered ≡ under (names_asked asked) (lower_exprs at input (key_trees f asked) s).exprs
    → t.names.next < 2 ^ 64 → IsReady s input (key_trees f asked) → KeepsExprs F at s t input (named_trees f asked) answered stream
exprs_kept F f at input s t asked answered stream nodes to exprs small ready = asked_kept F f at input s t asked answered stream (record { nodes = nodes; to = to; exprs = exprs }) small ready

trees_named : (f : Node → Tree) (asked : List ExprIR) → key_trees f asked ≡ exprs_of (named_trees f asked)
trees_named f [] = refl
trees_named f (e ∷ es) = ap (λ ts. f e.node ∷ ts) (trees_named f es)

pub select_kept : (F : Functions) (f : Node → Tree) (at : ℕ) (input : Stream) (s t : State) (asked : List ExprIR) (stream : Stream) → record { state = t; stream = stream } ≡ select_stream at input (named_trees f asked) s
    → t.names.next < 2 ^ 64 → IsReady s input (key_trees f asked) → KeepsSelect F at s t input (named_trees f asked) stream
select_kept F f at input s t asked stream made small ready =
    stream_kept F at input s t (named_trees f asked) stream (record { nodes = ap (λ (m : Made). m.state) made; to = ap (λ (m : Made). m.stream) made }) small (subst (IsReady s input) (trees_named f asked) ready)

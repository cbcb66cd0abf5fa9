-- What a node of a sound shape gives at each kind, and that what is made at a kind is made of the node.
use Rattle.std.proofs.Common.{◌≡◌, Bool, ℕ, ℤ, List, [], ◌∷◌, ◌++◌, Option, Result, subst, sym}
use Rattle.std.specs.Prelude.{IfOk}
use Rattle.std.specs.List.{AllByRecursion}
use Rattle.pu_base.specs.declared.arena.Node.{Node}
use Rattle.ps_frame.specs.Functions.{Functions}
use Rattle.ps_frame.specs.Tables.{Fields}
use Rattle.ps_frame.specs.Trees.{IsComplete, Tree}
use Rattle.ps_frame.specs.declared.refusal.PolarsError.{PolarsError}
use Rattle.ps_meaning.specs.Maps.{map_step}
use Rattle.ps_meaning.specs.Schemas.{expr_names, names_of}
use Rattle.ps_meaning.specs.Sound.{IsFunctionStep, IsReduction}
use Rattle.ps_meaning.specs.Steps.{Cut, key_trees, named_trees, sort_step, step_exprs}
use Rattle.ps_meaning.specs.declared.map.MapKind.{MapKind}
use Rattle.ps_meaning.specs.declared.options.ExprIR.{ExprIR}
use Rattle.ps_meaning.specs.declared.options.JoinArgs.{JoinArgs}
use Rattle.ps_meaning.specs.declared.options.SortMultipleOptions.{SortMultipleOptions}
use Rattle.ps_nodes.specs.declared.flow.FlowNode.{FlowNode}
use Rattle.ps_phys.specs.Shown.{inputs_of, join_of, kind_of}
use Rattle.ps_phys.specs.declared.phys.PhysNode.{PhysNode}
use Rattle.ps_phys.specs.declared.phys.PhysNodeKind.{PhysNodeKind}
use Rattle.ps_phys.specs.declared.phys.PhysNodeKind.TheVariants as phys
use Rattle.ps_phys.specs.declared.phys.PhysStream.{PhysStream}
use Rattle.plan_graphs.specs.Made.{IsMadeOf}
use Rattle.graph_parts.specs.SoundShapes.{IsOfSoundShape}
use Rattle.graph_parts.specs.Read.{schemas_read}
use Rattle.graph_parts.proofs.SoundNodes.{aggregates-reduce, aggregates-whole, equi-whole, filter-whole, function-streams, group-names, independent-whole, join-whole, keys-whole, map-whole, reduce-names, reduce-reduces, reduce-whole, select-whole}

module _ (f : Node → Tree) (slots : List (Option PhysNode)) (s : Fields) where
  abbrev pub IsSoundAt : PhysNodeKind → Type 0
  IsSoundAt k = IsOfSoundShape (kind_of f k) s (schemas_read slots (inputs_of k))

  abbrev pub IsMadeAt : PhysNodeKind → FlowNode → Type 0
  IsMadeAt k n = IsMadeOf (kind_of f k) s (schemas_read slots (inputs_of k)) n

  module _ (k : PhysNodeKind) where
    pub made_at : (q : PhysNodeKind) → k ≡ q → (r : Result FlowNode PolarsError) → IfOk r (IsMadeAt q) → IfOk r (IsMadeAt k)
    made_at q e r made = let P : PhysNodeKind → Type 0 = λ x. IfOk r (IsMadeAt x) in subst P (sym e) made

    module _ (x : IsSoundAt k) where
      pub select_fits : (i : PhysStream) (es : List ExprIR) (extends : Bool) → k ≡ phys.Select i es extends → AllByRecursion IsComplete (key_trees f es)
      select_fits i es extends e = select-whole f s (schemas_read slots (inputs_of (phys.Select i es extends))) es extends (subst IsSoundAt e x)

      pub independent_fits : (es : List ExprIR) → k ≡ phys.InputIndependentSelect es → AllByRecursion IsComplete (key_trees f es)
      independent_fits es e = independent-whole f s [] es (subst IsSoundAt e x)

      pub reduce_whole : (i : PhysStream) (es : List ExprIR) → k ≡ phys.Reduce i es → AllByRecursion IsComplete (key_trees f es)
      reduce_whole i es e = reduce-whole f s (schemas_read slots (inputs_of (phys.Reduce i es))) es (subst IsSoundAt e x)

      pub reduce_reduces : (i : PhysStream) (es : List ExprIR) → k ≡ phys.Reduce i es → AllByRecursion IsReduction (key_trees f es)
      reduce_reduces i es e = reduce-reduces f s (schemas_read slots (inputs_of (phys.Reduce i es))) es (subst IsSoundAt e x)

      pub reduce_names : (i : PhysStream) (es : List ExprIR) → k ≡ phys.Reduce i es → names_of s ≡ expr_names (named_trees f es)
      reduce_names i es e = reduce-names f s (schemas_read slots (inputs_of (phys.Reduce i es))) es (subst IsSoundAt e x)

      pub filter_fits : (i : PhysStream) (p : ExprIR) → k ≡ phys.Filter i p → IsComplete (f p.node)
      filter_fits i p e = filter-whole f s (schemas_read slots (inputs_of (phys.Filter i p))) (f p.node) (subst IsSoundAt e x)

      pub map_fits : (i : PhysStream) (m : MapKind) → k ≡ phys.InMemoryMap i m → AllByRecursion IsComplete (step_exprs (map_step f m))
      map_fits i m e = map-whole f s (schemas_read slots (inputs_of (phys.InMemoryMap i m))) (map_step f m) (subst IsSoundAt e x)

      pub stream_fits : (i : PhysStream) (m : MapKind) → k ≡ phys.Map i m → (g : Node → Tree) × (F : Functions) × IsFunctionStep F (map_step g m)
      stream_fits i m e = let streams = function-streams f s (schemas_read slots (inputs_of (phys.Map i m))) (map_step f m) (subst IsSoundAt e x) in (f, streams.0, streams.1)

      pub sort_fits : (i : PhysStream) (by : List ExprIR) (cut : Cut) (options : SortMultipleOptions) → k ≡ phys.Sort i by cut options → AllByRecursion IsComplete (key_trees f by)
      sort_fits i by cut options e = map-whole f s (schemas_read slots (inputs_of (phys.Sort i by cut options))) (sort_step f by cut options) (subst IsSoundAt e x)

      pub keys_whole : (i : PhysStream) (ks as' : List ExprIR) → k ≡ phys.GroupBy i ks as' → AllByRecursion IsComplete (key_trees f ks)
      keys_whole i ks as' e = keys-whole f s (schemas_read slots (inputs_of (phys.GroupBy i ks as'))) ks as' (subst IsSoundAt e x)

      pub aggregates_whole : (i : PhysStream) (ks as' : List ExprIR) → k ≡ phys.GroupBy i ks as' → AllByRecursion IsComplete (key_trees f as')
      aggregates_whole i ks as' e = aggregates-whole f s (schemas_read slots (inputs_of (phys.GroupBy i ks as'))) ks as' (subst IsSoundAt e x)

      pub aggregates_reduce : (i : PhysStream) (ks as' : List ExprIR) → k ≡ phys.GroupBy i ks as' → AllByRecursion IsReduction (key_trees f as')
      aggregates_reduce i ks as' e = aggregates-reduce f s (schemas_read slots (inputs_of (phys.GroupBy i ks as'))) ks as' (subst IsSoundAt e x)

      pub group_names : (i : PhysStream) (ks as' : List ExprIR) → k ≡ phys.GroupBy i ks as' → names_of s ≡ expr_names (named_trees f ks ++ named_trees f as')
      group_names i ks as' e = group-names f s (schemas_read slots (inputs_of (phys.GroupBy i ks as'))) ks as' (subst IsSoundAt e x)

      pub equi_fits : (l r : PhysStream) (ls rs : List ExprIR) (a : JoinArgs) → k ≡ phys.EquiJoin l r ls rs a → AllByRecursion IsComplete (key_trees f ls) × AllByRecursion IsComplete (key_trees f rs)
      equi_fits l r ls rs a e = equi-whole f s (schemas_read slots (inputs_of (phys.EquiJoin l r ls rs a))) (join_of f ls rs a) (subst IsSoundAt e x)

      pub join_fits : (l r : PhysStream) (ls rs : List ExprIR) (a : JoinArgs) → k ≡ phys.InMemoryJoin l r ls rs a → AllByRecursion IsComplete (key_trees f ls) × AllByRecursion IsComplete (key_trees f rs)
      join_fits l r ls rs a e = join-whole f s (schemas_read slots (inputs_of (phys.InMemoryJoin l r ls rs a))) (join_of f ls rs a) (subst IsSoundAt e x)

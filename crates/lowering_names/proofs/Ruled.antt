-- Each node that a call makes keeps the rules on names and kinds.
use Rattle.std.proofs.Common.{ℕ, ◌<◌, ◌≤◌, ◌^◌, List, length, sym, ap, subst, ◌∙◌}
use Rattle.std.specs.Prelude.{map, slice_get}
use Rattle.std.specs.List.{AllByRecursion}
use Rattle.ps_frame.specs.Functions.{Functions}
use Rattle.ps_frame.specs.Tables.{Fields}
use Rattle.ps_frame.specs.Trees.{Tree}
use Rattle.ps_meaning.specs.Schemas.{expr_names}
use Rattle.ps_meaning.specs.Shape.{PhysicalNode, Shape}
use Rattle.ps_meaning.specs.Sound.{schema_at as schema_of}
use Rattle.ps_meaning.specs.Steps.{exprs_of}
use Rattle.ps_rules.specs.Lowered.{lower_exprs, select_stream}
use Rattle.ps_rules.specs.Slots.{State, Stream}
use Rattle.ps_shares.specs.Kept.{IsOrdered, IsReady}
use Rattle.ps_shares.proofs.Adding.{calls_add}
use Rattle.ps_shares.proofs.Members.{from_has}
use Rattle.ps_bundles.proofs.ExprEnds.{from_each}
use Rattle.name_rules.proofs.Listing.{schemas_before}
use Rattle.name_rules.specs.Lawful.{KeepsRules}
use Rattle.name_rules.proofs.Items.{each_some}
use Rattle.name_rules.proofs.Extending.{found}
use Rattle.name_rules.proofs.Times.{never_once}
use Rattle.lowering_names.specs.Lawful.{ExprsKeepRules, NewKeepRules, SelectsKeepRules}
use Rattle.lowering_names.proofs.Calling.{AllTyped, Fine, Makes, Right, answered_right, select_makes}
use Rattle.lowering_names.proofs.Stepping.{list_steps}

module _ (F : Functions) (at : ℕ) (input : Stream) (s : State) (es : List Tree) (ready : IsReady s input es) where
  abbrev node : PhysicalNode
  node = ready.node

  fine : Fine F at input node ready.distinct_names s
  fine = record { ordered = ready.ordered; there = ready.there; known = ready.known }

  typed : AllTyped F at input node ready.distinct_names es
  typed = each_some node.schema es ready.typed

  -- over the nodes that a call leaves
  ruled : (b : Shape) → Makes F at input node ready.distinct_names s.nodes b → IsOrdered b → NewKeepRules F s.nodes b
  ruled b made ordered n p le e =
      let f = found (Right F at input node ready.distinct_names) s.nodes b made n p le e in
      let earlier : AllByRecursion (λ (i : Stream). i.0 < length f.before) p.inputs = subst (λ m. AllByRecursion (λ (i : Stream). i.0 < m) p.inputs) (sym f.count) (from_each (λ (i : Stream). i.0 < n) p.inputs (λ i has. ordered n p i e (from_has p.inputs i has))) in
      let below = schemas_before f.before f.rest p.inputs earlier in
      subst (λ (ss : List Fields). KeepsRules F p.kind p.schema ss) (below ∙ ap (λ nodes. map (λ (i : Stream). schema_of (slice_get nodes i.0)) p.inputs) (sym f.whole)) f.right

  pub exprs_ruled : (lower_exprs at input es s).state.names.next ≤ 2 ^ 64 → NewKeepRules F s.nodes (lower_exprs at input es s).state.nodes
  exprs_ruled small =
      ruled (lower_exprs at input es s).state.nodes (answered_right F at input node ready.distinct_names es (list_steps F at input node ready.distinct_names es) s fine typed ready.some small) (calls_add.exprs at input s es ready).ordered

pub exprs_keep_rules : ExprsKeepRules
exprs_keep_rules F at input s es ready small = exprs_ruled F at input s es ready small

pub selects_keep_rules : SelectsKeepRules
selects_keep_rules F at input s es ready differ small =
    let d = ready.distinct_names in
    let made =
    select_makes F at input ready.node d es (list_steps F at input ready.node d (exprs_of es)) s (fine F at input s (exprs_of es) ready) (typed F at input s (exprs_of es) ready) (λ e. ready.some (ap exprs_of e)) (λ n. never_once n (expr_names es) (differ n)) small in
    ruled F at input s (exprs_of es) ready (select_stream at input es s).state.nodes made (calls_add.selects at input s es ready).ordered

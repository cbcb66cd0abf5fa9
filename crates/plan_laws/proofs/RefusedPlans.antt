-- Why small plans are refused, and at which node.
use Rattle.std.proofs.Common.{◌≡◌, ◌≢◌, ℕ, ◌≤◌, List, [], ◌∷◌, None, refl, inl, inr, arith}
use Rattle.std.specs.Prelude.{Bool, true, false, codes, Contains, ◌&&◌, ◌||◌}
use Rattle.std.specs.Str.{bytes_eq}
use Rattle.ps_frame.specs.Functions.{Functions}
use Rattle.ps_frame.specs.Trees.{tree_within}
use Rattle.ps_frame.specs.declared.expr.AExpr.{AExpr}
use Rattle.ps_frame.specs.declared.expr.What.{What}
use Rattle.ps_frame.specs.declared.expr.What.TheVariants as what
use Rattle.ps_frame.specs.declared.refusal.Why.TheVariants as why
use Rattle.ps_plan.specs.Graph.{here, onward}
use Rattle.ps_plan.specs.Plans.{Plan, plan_within}
use Rattle.ps_meaning.specs.StepRefusals.{Refusal, TypingRefused, column_not_found, duplicate, invalid_plan, no_key, schema_mismatch, unsupported}
use Rattle.ps_plan.specs.Refusals.{AreClean, GraphRefused, HasUnsupported, IsLeftOut, IsMisshapen, IsPastLimits, IsRefused, expr_in_circle, expr_left_out, expr_missing, function_missing, in_circle, input_missing, no_input, node_left_out, root_missing, sink_below, too_deep, too_large, two_inputs}
use Rattle.ps_meaning.specs.Steps.{scan}
use Rattle.ps_meaning.specs.declared.options.ExprIR.{ExprIR}
use Rattle.ps_plan.specs.declared.ir.IR.{IR}
use Rattle.plan_laws.specs.Examples.{a_frame, one_input, scan_of}
use Rattle.plan_laws.specs.Refused.{above_one, by_function, circle, group_by_keys, named, number_as_predicate, over_a, project_all, root_below_sink, select_all, sort_by_keys, two_sinks, unknown_column, window_in_predicate}

abbrev nothing : List ℕ
nothing = []

in_none : (m : ℕ) → Contains nothing m → ⊥
in_none m (k, h, e) = absurd (omega arith)

-- A scan of column a is clean, under whatever stands above it.
module _ (F : Functions) (e : IR) (exprs : List AExpr) (root : ℕ) (other : 0 ≢ root) where
  abbrev plan : Plan
  plan = over_a e exprs root

  fits_limits : IsPastLimits plan 0 → ⊥
  unfolding plan_within
  fits_limits (too_deep clear deep) = absurd (omega arith)
  fits_limits (too_large clear large) = absurd (omega arith)
  fits_limits (two_inputs other_node id a b reached first second differ) = first

  has_shape : IsMisshapen F plan 0 → ⊥
  has_shape (root_missing is_root long) = other is_root
  has_shape (input_missing m named long) = in_none m named
  has_shape (expr_missing x names long) = in_none names.from names.is_own
  has_shape (function_missing missing) = missing
  has_shape (in_circle leads) = in_none leads.first leads.is_next
  has_shape (expr_in_circle x names leads) = in_none names.from names.is_own
  has_shape (sink_below below is_sink) = is_sink
  has_shape (no_input needs none) = needs

  is_supported : (w : What) → HasUnsupported plan 0 w → ⊥
  is_supported what.Validation h = h
  is_supported what.RootNotSink h = other h.0
  is_supported what.FileSink h = h
  is_supported _ h = h

  is_built : (w : What) → IsLeftOut plan 0 w → ⊥
  is_built w (node_left_out q) = cc
  is_built w (expr_left_out x names q) = in_none names.from names.is_own

  no_graph : (R : Refusal) → GraphRefused F plan 0 R → ⊥
  no_graph (invalid_plan why.Shape) h = has_shape h
  no_graph (invalid_plan why.Keys) h = h
  no_graph (invalid_plan why.Limits) h = fits_limits h
  no_graph no_key h = h
  no_graph (unsupported w) (inl h) = is_supported w h
  no_graph (unsupported w) (inr h) = is_built w h
  no_graph (column_not_found name) h = h
  no_graph (duplicate name) h = h
  no_graph schema_mismatch h = h

  once : (b : Bool) → ((b && false) || false) ≡ true → ⊥
  once true h = cc
  once false h = cc

  no_typing : (R : Refusal) → TypingRefused F (scan (a_frame (1 ∷ 2 ∷ 3 ∷ [])) None) [] R → ⊥
  no_typing (column_not_found name) h = cc
  no_typing (duplicate name) (inl h) = h
  no_typing (duplicate name) (inr h) = once (bytes_eq name (codes "a")) h
  no_typing schema_mismatch (inl h) = h
  no_typing schema_mismatch (inr h) = cc
  no_typing (unsupported what.NoColumns) h = cc
  no_typing (unsupported what.LiteralAggregate) h = h
  no_typing (unsupported _) h = h
  no_typing _ h = h

  clean_scan : AreClean F plan (one_input (scan_of 0 (a_frame (1 ∷ 2 ∷ 3 ∷ []))))
  clean_scan = ((tt, no_graph, no_typing), tt)

-- The node over the scan is reached from the sink.
reached : (F : Functions) (e : IR) (exprs : List AExpr) (R : Refusal) → GraphRefused F (over_a e exprs 2) 1 R → IsRefused F (over_a e exprs 2) 1 R
reached F e exprs R h = record { reached = onward (0, omega arith, refl) here; because = inl h }

pub root_refused : (F : Functions) → IsRefused F root_below_sink 1 (unsupported what.RootNotSink)
root_refused F = record { reached = here; because = inl (inl (refl, λ h. h)) }

pub sinks_refused : (F : Functions) → IsRefused F two_sinks 1 (invalid_plan why.Shape)
sinks_refused F = reached F _ _ (invalid_plan why.Shape) (sink_below (λ e. cc) tt)

pub window_refused : (F : Functions) → IsRefused F window_in_predicate 1 (unsupported what.Window)
window_refused F = reached F _ _ (unsupported what.Window) (inr (expr_left_out 0 (record { from = 2; is_own = (0, omega arith, refl); way = onward (0, omega arith, refl) here }) refl))

pub function_refused : (F : Functions) (n : ℕ) → F.count ≤ n → IsRefused F (by_function n) 1 (invalid_plan why.Shape)
function_refused F n h = reached F _ _ (invalid_plan why.Shape) (function_missing h)

pub circle_refused : (F : Functions) → IsRefused F circle 0 (invalid_plan why.Shape)
circle_refused F = record { reached = onward (0, omega arith, refl) here; because = inl (in_circle (record { first = 0; is_next = (0, omega arith, refl); way = here })) }

pub column_refused : (F : Functions) → IsRefused F unknown_column 1 (column_not_found (codes "z"))
unfolding plan_within tree_within
column_refused F = record { reached = onward (0, omega arith, refl) here; because = inr (clean_scan F _ _ 2 (λ e. cc), (((tt, tt), tt), λ h. h), refl) }

pub predicate_refused : (F : Functions) → IsRefused F number_as_predicate 1 schema_mismatch
unfolding plan_within tree_within
predicate_refused F = record { reached = onward (0, omega arith, refl) here; because = inr (clean_scan F _ _ 2 (λ e. cc), ((tt, tt), λ h. h), inl refl) }

-- Entries with lists.
pub sort_refused : (F : Functions) (descending nulls_last : List Bool) → IsRefused F (sort_by_keys [] descending nulls_last) 1 (invalid_plan why.Keys)
sort_refused F descending nulls_last = reached F _ _ (invalid_plan why.Keys) (inl refl)

pub keyless_refused : (F : Functions) (aggs : List ExprIR) (exprs : List AExpr) → IsRefused F (group_by_keys [] aggs exprs) 1 no_key
keyless_refused F aggs exprs = reached F _ _ no_key refl

pub empty_group_refused : (F : Functions) → IsRefused F (group_by_keys [] [] []) 1 (unsupported what.NoColumns)
unfolding plan_within tree_within
empty_group_refused F =
    record { reached = onward (0, omega arith, refl) here; because = inr (clean_scan F _ _ 2 (λ e. cc), (tt, λ h. h), refl) }

pub select_refused : (F : Functions) → IsRefused F (select_all (named (codes "x") 0 ∷ named (codes "x") 0 ∷ []) (above_one (codes "a"))) 1 (duplicate (codes "x"))
unfolding plan_within tree_within
select_refused F =
    record { reached = onward (0, omega arith, refl) here; because = inr (clean_scan F _ _ 2 (λ e. cc), ((tt, (tt, tt)), λ h. h), inr refl) }

pub projection_refused : (F : Functions) → IsRefused F (project_all []) 1 (unsupported what.NoColumns)
unfolding plan_within tree_within
projection_refused F =
    record { reached = onward (0, omega arith, refl) here; because = inr (clean_scan F _ _ 2 (λ e. cc), (tt, λ h. h), refl) }

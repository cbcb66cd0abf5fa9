-- A group-by of a valid plan is ready.
use Rattle.std.proofs.Common.{◌≡◌, ◌≢◌, inl, inr, Bool, true, false, not, List, [], ◌∷◌, ◌++◌, refl, ap, ◌∙◌}
use Rattle.std.specs.Prelude.{◌&&◌, ◌||◌}
use Rattle.std.specs.List.{list_all, list_any}
use Rattle.ps_frame.specs.Functions.{Functions}
use Rattle.ps_frame.specs.Tables.{Fields}
use Rattle.ps_frame.specs.Trees.{Tree}
use Rattle.ps_frame.specs.Typing.{is_scalar}
use Rattle.ps_frame.specs.declared.expr.What.TheVariants as what
use Rattle.ps_meaning.specs.Schemas.{expr_names, is_among, schema_or_empty}
use Rattle.ps_meaning.specs.Sound.{IsSoundButForReaders}
use Rattle.ps_meaning.specs.StepRefusals.{duplicate, schema_mismatch, unsupported}
use Rattle.ps_meaning.specs.Steps.{GroupStep, Named, exprs_of, group_by, step_exprs}
use Rattle.ps_rules.specs.Names.{IsKnown}
use Rattle.ps_rules.specs.Slots.{State, Stream, schema_at}
use Rattle.name_rules.proofs.Ruling.{field_names}
use Rattle.rule_parts.specs.Good.{IsGoodStep, IsStream, KnowsNames}
use Rattle.rule_parts.proofs.Passing.{good_there}
use Rattle.rule_parts.proofs.Standing.{sound_some}
use Rattle.rule_nodes.proofs.Calls.{all_among, ready}
use Rattle.kept_groups.specs.Asked.{IsReadyToGroup}

pub some_keys : (keys : List Named) (es : List Tree) → keys ≢ [] → exprs_of keys ++ es ≢ []
some_keys [] es some e = some refl
some_keys (x ∷ keys) es some e = let w : x.1 ∷ (exprs_of keys ++ es) ≡ [] = e in cc

each_passes : (test : Tree → Bool) (es : List Tree) → (list_any (λ e. not (test e)) es ≡ true → ⊥) → list_all test es ≡ true
each_passes test [] none = refl
each_passes test (e ∷ es) none = by (test e) none (each_passes test es)
  where
    by : (b : Bool) → ((not b || list_any (λ e. not (test e)) es) ≡ true → ⊥) → ((list_any (λ e. not (test e)) es ≡ true → ⊥) → list_all test es ≡ true) → (b && list_all test es) ≡ true
    by true none rest = rest none
    by false none rest = absurd (none refl)

pub good_is_ready : (F : Functions) (s : State) (i : Stream) (o : GroupStep) → let f = schema_at s.nodes i in
    IsSoundButForReaders F s.nodes → IsStream s.nodes i f → KnowsNames s.names f → IsGoodStep F (group_by o) (f ∷ []) → KnowsNames s.names (schema_or_empty F (group_by o) (f ∷ [])) → IsReadyToGroup s i o
good_is_ready F s i o sound stream known good named =
    let f = schema_at s.nodes i in
    let ss : List Fields = f ∷ [] in
    let asked = o.keys ++ o.aggregates in
    let out = schema_or_empty F (group_by o) ss in
    record {
      exprs = ready F 0 i s f sound stream known (step_exprs (group_by o)) good.typed.kinds (some_keys o.keys (exprs_of o.aggregates) (λ e. good.key e));
      column = sound_some F s.nodes i f sound stream;
      key = λ e. good.key e;
      known = all_among (IsKnown s.names) (expr_names asked) (λ n q. named n (ap (is_among n) (field_names f asked out (good_there F (group_by o) ss good)) ∙ q));
      differ = λ n q. good.typed.rules (duplicate n) (inr q);
      scalar = each_passes is_scalar (exprs_of o.aggregates) (λ q. good.typed.rules schema_mismatch (inl q));
      reads = λ q. good.typed.rules (unsupported what.LiteralAggregate) q;
    }

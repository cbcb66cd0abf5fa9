use Rattle.std.proofs.Common.{◌≡◌, ◌<◌, [], length, get_or, map, take, inr, arith, subst, sym, ap, ◌∙◌}
use Rattle.std.specs.Prelude.{IsTrue, Ok, Err}
use Rattle.std.proofs.lemmas.List.{take_all}
use Rattle.std.proofs.lemmas.Result.{IfOk-weaker}
use Rattle.ps_frame.specs.Causes.{column_causes}
use Rattle.ps_frame.specs.Eval.{eval}
use Rattle.ps_frame.specs.Tables.{Frame, whole}
use Rattle.ps_frame.specs.Trees.{tree_at}
use Rattle.ps_frame.specs.Series.{Series, all_fit}
use Rattle.ps_meaning.specs.Groups.{only_value}
use Rattle.ps_groups.specs.Grouped.{IsValueOf}
use Rattle.ps_groups.specs.GroupTables.{part_in, parts_in}
use Rattle.ps_keys.proofs.FirstRows.{at-below}
use Rattle.ps_groups.proofs.Parts.{length-parts_in}
use Rattle.ps_groups.proofs.Values.{clean-more, fault-over, values-more}
use Rattle.ps_groups.proofs.aggregates.evaluated_column.Goals as goal

pub loop-group-preserved : goal.loop-group-preserved
loop-group-preserved c =
    let at = c.args.at.0 in
    let t = tree_at c.args.arena.now.items c.args.expr in
    let tables = parts_in c.args.table.now c.args.groups.now in
    let i = c.loop-group.group in
    let among : i < length c.args.groups.now = omega arith in
    let within : i < length tables = omega (arith, length-parts_in c.args.table.now c.args.groups.now) in
    let own : (f : Frame) → part_in c.args.table.now c.args.groups.now i ≡ get_or tables i f = λ f. sym (at-below (part_in c.args.table.now c.args.groups.now) (length c.args.groups.now) i f among) in
    let here : (f : Frame) → IsValueOf at (get_or tables i f) t (Ok c.in-Ok.value) = λ f. subst (λ g. IsValueOf at g t (Ok c.in-Ok.value)) (own f) (rw c.in-Ok.is at (c.in_ok-value.ensures at)) in
    record {
      values = values-more at t tables i c.in-Ok.value c.loop-group.values.items c.push.new.self.items within c.loop-group.invariant.values (λ f. (here f).1) c.in_ok-push-in-Ok.ensures.items;
      clean = clean-more (λ f. column_causes (eval at (whole f) t) ≡ []) tables i c.loop-group.invariant.clean (λ f. (here f).0);
    }

pub returns-in-Err-clause-error : goal.returns-in-Err-clause-error
returns-in-Err-clause-error c =
    let at = c.args.at.0 in
    let t = tree_at c.args.arena.now.items c.args.expr in
    let tables = parts_in c.args.table.now c.args.groups.now in
    let i = c.loop-group.group in
    let among : i < length c.args.groups.now = omega arith in
    let within : i < length tables = omega (arith, length-parts_in c.args.table.now c.args.groups.now) in
    let own : (f : Frame) → part_in c.args.table.now c.args.groups.now i ≡ get_or tables i f = λ f. sym (at-below (part_in c.args.table.now c.args.groups.now) (length c.args.groups.now) i f among) in
    let here : (f : Frame) → IsValueOf at (get_or tables i f) t (Err c.in-Err.fault) = λ f. subst (λ g. IsValueOf at g t (Err c.in-Err.fault)) (own f) (rw c.in-Err.is at (c.in_ok-value.ensures at)) in
    inr (c.in-Err.fault, c.fault_at.ensures, fault-over at t tables i c.in-Err.fault within here)

pub column_of_values-requires : goal.column_of_values-requires
column_of_values-requires c =
    let at = c.args.at.0 in
    let t = tree_at c.args.arena.now.items c.args.expr in
    let tables = parts_in c.args.table.now c.args.groups.now in
    let all : take c.loop-group.group tables ≡ tables = take_all c.loop-group.group tables (omega (arith, length-parts_in c.args.table.now c.args.groups.now)) in
    let values = c.loop-group.invariant.values ∙ ap (map (λ f. only_value (eval at (whole f) t))) all in
    subst (λ vs. IsTrue (all_fit c.args.dtype vs)) (sym values) c.requires.fit

pub returns-clause-column : goal.returns-clause-column
returns-clause-column c =
    let at = c.args.at.0 in
    let t = tree_at c.args.arena.now.items c.args.expr in
    let tables = parts_in c.args.table.now c.args.groups.now in
    let all : take c.loop-group.group tables ≡ tables = take_all c.loop-group.group tables (omega (arith, length-parts_in c.args.table.now c.args.groups.now)) in
    let values = c.loop-group.invariant.values ∙ ap (map (λ f. only_value (eval at (whole f) t))) all in
    IfOk-weaker c.column_of_values.result _ _
    (λ column is. record { values = ap (λ (x : Series). x.values) is ∙ values; clean = λ k d within. c.loop-group.invariant.clean k d (omega (arith, length-parts_in c.args.table.now c.args.groups.now)) })
    c.column_of_values.ensures.made

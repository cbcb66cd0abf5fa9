use Rattle.ps_frame.specs.Functions.{Functions}
use Rattle.ps_frame.specs.Tables.{Fields}
use Rattle.ps_frame.specs.Trees.{tree_at}
use Rattle.ps_frame.specs.declared.refusal.PolarsError.{PolarsError}
use Rattle.ps_meaning.specs.Steps.{join, key_trees}
use Rattle.ps_validate.proofs.Joining.{column-error, join-gives, left-error, pair-error, right-error}
use Rattle.ps_validate.proofs.KeyCounts.{keys-length}
use Rattle.ps_validate.proofs.Typed.{answered, passed-on}
use Rattle.ps_validate.proofs.joins.join_schema.Goals as goal
use Rattle.ps_validate.specs.Nodes.{GivesSchema, IsNodeError}
use Rattle.std.proofs.Common.{◌≡◌, ◌≢◌, ◌∷◌, [], refl, sym, ◌∙◌}
use Rattle.std.proofs.lemmas.Bool.{iff_false}

pub returns-in_err-left_kinds-clause-refused : goal.returns-in_err-left_kinds-clause-refused
returns-in_err-left_kinds-clause-refused g c =
    passed-on (λ (e : PolarsError). (F : Functions) → IsNodeError F c.args.at (join (record { left_on = key_trees (tree_at c.args.arena.now.items) c.args.left_on.now; right_on = key_trees (tree_at c.args.arena.now.items) c.args.right_on.now; args = c.args.args.now })) (c.args.left.now ∷ c.args.right.now ∷ []) e) c.in_err-left_kinds.field-0.0 c.from_residual.result c.from_residual.ensures.1
    (λ F. left-error F c.args.at c.args.left.now c.args.right.now (record { left_on = key_trees (tree_at c.args.arena.now.items) c.args.left_on.now; right_on = key_trees (tree_at c.args.arena.now.items) c.args.right_on.now; args = c.args.args.now }) c.in_err-left_kinds.field-0.0 c.in_err-left_kinds.ensures.refused)

pub returns-in_err-right_kinds-clause-refused : goal.returns-in_err-right_kinds-clause-refused
returns-in_err-right_kinds-clause-refused g c =
    passed-on (λ (e : PolarsError). (F : Functions) → IsNodeError F c.args.at (join (record { left_on = key_trees (tree_at c.args.arena.now.items) c.args.left_on.now; right_on = key_trees (tree_at c.args.arena.now.items) c.args.right_on.now; args = c.args.args.now })) (c.args.left.now ∷ c.args.right.now ∷ []) e) c.in_err-right_kinds.field-0.0 c.from_residual-in_err-right_kinds.result c.from_residual-in_err-right_kinds.ensures.1
    (λ F. right-error F c.args.at c.args.left.now c.args.right.now (record { left_on = key_trees (tree_at c.args.arena.now.items) c.args.left_on.now; right_on = key_trees (tree_at c.args.arena.now.items) c.args.right_on.now; args = c.args.args.now }) c.in_err-right_kinds.field-0.0 c.in_err-right_kinds.ensures.refused)

pub returns-then-not-same_kinds-clause-refused : goal.returns-then-not-same_kinds-clause-refused
returns-then-not-same_kinds-clause-refused g c =
    let other : c.in_ok-left_kinds.left_kinds.items ≢ c.in_ok-right_kinds.right_kinds.items = λ q. iff_false c.same_kinds.ensures c.if-not-same_kinds.true (c.deref.ensures.value ∙ q ∙ sym c.deref-2.ensures.value) in
    λ F. pair-error F c.args.at c.args.left.now c.args.right.now (record { left_on = key_trees (tree_at c.args.arena.now.items) c.args.left_on.now; right_on = key_trees (tree_at c.args.arena.now.items) c.args.right_on.now; args = c.args.args.now }) c.in_ok-left_kinds.left_kinds.items c.in_ok-right_kinds.right_kinds.items
    (keys-length (tree_at c.args.arena.now.items) c.args.left_on.now ∙ c.requires.paired ∙ sym (keys-length (tree_at c.args.arena.now.items) c.args.right_on.now)) c.in_ok-left_kinds.ensures.kinds c.in_ok-right_kinds.ensures.kinds other

pub returns-in_err-push_suffixed-clause-refused : goal.returns-in_err-push_suffixed-clause-refused
returns-in_err-push_suffixed-clause-refused g c =
    passed-on (λ (e : PolarsError). (F : Functions) → IsNodeError F c.args.at (join (record { left_on = key_trees (tree_at c.args.arena.now.items) c.args.left_on.now; right_on = key_trees (tree_at c.args.arena.now.items) c.args.right_on.now; args = c.args.args.now })) (c.args.left.now ∷ c.args.right.now ∷ []) e) c.in_err-push_suffixed.field-0.0 c.from_residual-in_err-push_suffixed.result c.from_residual-in_err-push_suffixed.ensures.1
    (λ F. column-error F c.args.at c.args.left.now c.args.right.now (record { left_on = key_trees (tree_at c.args.arena.now.items) c.args.left_on.now; right_on = key_trees (tree_at c.args.arena.now.items) c.args.right_on.now; args = c.args.args.now }) c.in_ok-schema.schema c.in_ok-added.added (c.in_ok-schema.ensures.columns (record { left_on = key_trees (tree_at c.args.arena.now.items) c.args.left_on.now; right_on = key_trees (tree_at c.args.arena.now.items) c.args.right_on.now; args = c.args.args.now }) refl) (c.in_ok-added.ensures.columns (record { left_on = key_trees (tree_at c.args.arena.now.items) c.args.left_on.now; right_on = key_trees (tree_at c.args.arena.now.items) c.args.right_on.now; args = c.args.args.now }) refl) c.suffix.result.now c.in_ok-taken.taken c.suffix.ensures c.in_ok-taken.ensures.same c.in_err-push_suffixed.field-0.0 c.in_err-push_suffixed.ensures.refused)

pub returns-clause-given : goal.returns-clause-given
returns-clause-given g c =
    let same : c.in_ok-left_kinds.left_kinds.items ≡ c.in_ok-right_kinds.right_kinds.items = sym c.deref.ensures.value ∙ c.same_kinds.ensures.0 c.if-not-same_kinds.false ∙ c.deref-2.ensures.value in
    answered (λ (s : Fields). (F : Functions) → GivesSchema F (join (record { left_on = key_trees (tree_at c.args.arena.now.items) c.args.left_on.now; right_on = key_trees (tree_at c.args.arena.now.items) c.args.right_on.now; args = c.args.args.now })) (c.args.left.now ∷ c.args.right.now ∷ []) s) c.push_suffixed.new.schema c.some_columns.result c.some_columns.ensures.same c.some_columns.ensures.some
    (λ some F. join-gives F c.args.at c.args.left.now c.args.right.now (record { left_on = key_trees (tree_at c.args.arena.now.items) c.args.left_on.now; right_on = key_trees (tree_at c.args.arena.now.items) c.args.right_on.now; args = c.args.args.now }) c.in_ok-schema.schema c.in_ok-added.added (c.in_ok-schema.ensures.columns (record { left_on = key_trees (tree_at c.args.arena.now.items) c.args.left_on.now; right_on = key_trees (tree_at c.args.arena.now.items) c.args.right_on.now; args = c.args.args.now }) refl) (c.in_ok-added.ensures.columns (record { left_on = key_trees (tree_at c.args.arena.now.items) c.args.left_on.now; right_on = key_trees (tree_at c.args.arena.now.items) c.args.right_on.now; args = c.args.args.now }) refl) c.suffix.result.now c.in_ok-taken.taken c.suffix.ensures c.in_ok-taken.ensures.same c.push_suffixed.new.schema
    c.in_ok-left_kinds.left_kinds.items c.in_ok-right_kinds.right_kinds.items (λ t. c.kinds_are_exact.ensures c.args.left.now t) (λ t. c.kinds_are_exact.ensures c.args.right.now t) c.in_ok-left_kinds.ensures.kinds c.in_ok-right_kinds.ensures.kinds same c.in_ok-push_suffixed.ensures.added c.names_differ.ensures some)

-- A join that is fit for tables of these schemas.
use Rattle.std.proofs.Common.{◌≡◌, ℕ, suc, List, [], ◌∷◌, ap, length, map, refl, subst, sym, ◌∙◌}
use Rattle.std.specs.Prelude.{Some}
use Rattle.std.specs.List.{AllByRecursion}
use Rattle.std.proofs.lemmas.List.{length-map}
use Rattle.std.proofs.lemmas.Option.{same_Some}
use Rattle.pu_base.specs.declared.arena.Node.{Node}
use Rattle.made_tables.specs.Joinable.{CanJoin}
use Rattle.bare_nodes.specs.Bare.{nowhere}
use Rattle.bare_nodes.specs.Uncalled.{no_functions}
use Rattle.made_tables.specs.Uncalling.{none_lawful}
use Rattle.ps_frame.specs.Tables.{Fields, Frame, whole}
use Rattle.ps_frame.specs.Trees.{IsComplete, Tree}
use Rattle.ps_meaning.proofs.SchemaLaw.{case-schema}
use Rattle.ps_meaning.specs.Nodes.{GivesFrame}
use Rattle.ps_meaning.specs.Schemas.{join_schema}
use Rattle.ps_meaning.specs.Sound.{HasFieldsOf}
use Rattle.ps_meaning.specs.Steps.{JoinStep, join, key_trees}
use Rattle.ps_meaning.specs.declared.options.ExprIR.{ExprIR}
use Rattle.ready_steps.proofs.JoinSteps.{keys-paired, left-typed, right-typed}
use Rattle.ps_validate.specs.Nodes.{GivesSchema}
use Rattle.ps_zip.specs.Zips.{AreTypedOver, expr_kinds}

-- as many kinds as expressions
many_kinds : (s : Fields) (es : List Tree) → length (expr_kinds s es) ≡ length es
many_kinds s [] = refl
many_kinds s (e ∷ es) = ap (λ n. suc n) (many_kinds s es)

abbrev empty : Fields → Frame
empty s = record { schema = s; rows = [] }

module _ (j : JoinStep) (l r s : Fields) (can : CanJoin j l r s) where
  pub left_typed : AreTypedOver l j.left_on
  left_typed = left-typed j (empty l ∷ empty r ∷ []) (empty l) (empty r) can.given refl can.fit

  pub right_typed : AreTypedOver r j.right_on
  right_typed = right-typed j (empty l ∷ empty r ∷ []) (empty l) (empty r) can.given refl can.fit

  pub paired : expr_kinds l j.left_on ≡ expr_kinds r j.right_on
  paired = keys-paired j (empty l ∷ empty r ∷ []) (empty l) (empty r) can.given refl can.fit

  pub as_many : length j.left_on ≡ length j.right_on
  as_many = sym (many_kinds l j.left_on) ∙ ap length paired ∙ many_kinds r j.right_on

  -- the table of the join has each field that is asked for
  pub asked_of : (f g t : Frame) → f.schema ≡ l → g.schema ≡ r → GivesFrame no_functions nowhere (join j) (f ∷ g ∷ []) t → HasFieldsOf t.schema s
  asked_of f g t left right gives =
      let schema : t.schema ≡ join_schema j f.schema g.schema = case-schema no_functions (none_lawful 0) nowhere (join j) (whole f ∷ whole g ∷ []) (whole t) gives in
      let over : join_schema j f.schema g.schema ≡ join_schema j l r = λ i. join_schema j (left i) (right i) in
      subst (λ (x : Fields). HasFieldsOf x s) (sym (schema ∙ over)) can.fields

-- the schema that a step gives is the only one
pub schema_given : (j : JoinStep) (l r s : Fields) → GivesSchema no_functions (join j) (l ∷ r ∷ []) s → s ≡ join_schema j l r
schema_given j l r s g = sym (same_Some _ _ g.schema)

-- as many keys as trees of them
pub as_many_keys : (f : Node → Tree) (ls rs : List ExprIR) → length (key_trees f ls) ≡ length (key_trees f rs) → length ls ≡ length rs
as_many_keys f ls rs e = sym (length-map ls (λ (x : ExprIR). f x.node)) ∙ e ∙ length-map rs (λ (x : ExprIR). f x.node)

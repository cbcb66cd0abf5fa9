-- Sorts by typed keys.
use Rattle.std.proofs.Common.{◌≡◌, ◌≢◌, List, [], ◌∷◌, refl, inr}
use Rattle.std.specs.Prelude.{IsTrue, Some, is_some, map}
use Rattle.pu_base.specs.declared.arena.Node.{Node}
use Rattle.ps_frame.specs.Frames.{has_distinct_names}
use Rattle.ps_frame.specs.Functions.{Functions}
use Rattle.ps_frame.specs.Refusals.{is_accepted}
use Rattle.ps_frame.specs.Tables.{Fields}
use Rattle.ps_frame.specs.Trees.{Tree}
use Rattle.ps_frame.specs.Typing.{kind_over}
use Rattle.ps_frame.specs.declared.refusal.PolarsError.{PolarsError}
use Rattle.ps_frame.specs.declared.value.DataType.{DataType}
use Rattle.ps_meaning.specs.Steps.{SortStep, sort}
use Rattle.ps_typing.specs.Refused.{IsErrorAmong}
use Rattle.ps_validate.proofs.Keying.{among-error, keys-break, keys-hold, keys-lack}
use Rattle.ps_validate.proofs.Typed.{gives-by}
use Rattle.valid_plans.specs.Fields.{all_parts}
use Rattle.ps_validate.specs.Nodes.{GivesSchema, IsNodeError}

module _ (F : Functions) where
  pub sort-error : (at : Node) (s : Fields) (o : SortStep) (e : PolarsError) → IsErrorAmong at s (all_parts o.keys) e → IsNodeError F at (sort o) (s ∷ []) e
  sort-error at s o e h = among-error F at (sort o) (s ∷ []) s o.keys e h (λ n l. l) (λ b. inr b) (λ w c. c)

  pub sort-gives : (s : Fields) (o : SortStep) (ks : List DataType) → ((t : Tree) → is_some (kind_over s t) ≡ is_accepted s t) → map Some ks ≡ map (kind_over s) o.keys → IsTrue (has_distinct_names s) → s ≢ [] → GivesSchema F (sort o) (s ∷ []) s
  sort-gives s o ks exact h d some =
      gives-by F (sort o) (s ∷ []) s (record { schema = refl; names = refl; distinct = d; some = some }) (λ n l. keys-lack s exact o.keys ks n h l) (λ n r. r) (λ r. r) (λ b. keys-break s exact o.keys ks h b) (λ r. r) (λ w c. keys-hold s exact o.keys ks h w c)

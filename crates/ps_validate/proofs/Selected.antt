-- Selects and filters of typed expressions.
use Rattle.std.proofs.Common.{◌≡◌, ◌≢◌, List, [], ◌∷◌, ◌++◌, true, false, refl, sym, ◌∙◌, ap}
use Rattle.std.specs.Prelude.{IsTrue, Option, Some, None, option_map, is_some}
use Rattle.ps_frame.specs.Frames.{has_distinct_names}
use Rattle.ps_frame.specs.Functions.{Functions}
use Rattle.ps_frame.specs.Refusals.{has_kind_where, is_accepted, is_not}
use Rattle.ps_frame.specs.Tables.{Fields}
use Rattle.ps_frame.specs.Trees.{Tree}
use Rattle.ps_frame.specs.Typing.{kind_over}
use Rattle.ps_frame.specs.declared.value.DataType.{DataType}
use Rattle.ps_frame.specs.declared.value.DataType.TheVariants as kind
use Rattle.ps_meaning.specs.Schemas.{both as both_of, fields_of}
use Rattle.ps_meaning.specs.Steps.{Named, filter, select}
use Rattle.ps_validate.proofs.Selecting.{breaks-none, holds-none, lacks-none, names-same}
use Rattle.ps_validate.proofs.Typed.{gives-by}
use Rattle.ps_validate.specs.Nodes.{GivesSchema}

pub added-first : (r : Option Fields) (fs : Fields) → option_map (λ gs. [] ++ gs) r ≡ Some fs → r ≡ Some fs
added-first None fs h = cc
added-first (Some gs) fs h = h

-- a select of typed expressions with names that differ
pub select-gives : (F : Functions) (s : Fields) (es : List Named) (fs : Fields) → ((t : Tree) → is_some (kind_over s t) ≡ is_accepted s t) → fields_of es s ≡ Some fs → IsTrue (has_distinct_names fs) → fs ≢ [] → GivesSchema F (select es) (s ∷ []) fs
select-gives F s es fs exact h d some =
    gives-by F (select es) (s ∷ []) fs (record { schema = h; names = sym (names-same s es fs h); distinct = d; some = some }) (λ n l. lacks-none s exact es fs n h l) (λ n r. r) (λ r. r) (λ b. breaks-none s exact es fs h b) (λ r. r) (λ w c. holds-none s exact es fs h w c)

-- a filter by a typed predicate over names that differ
pub filter-gives : (F : Functions) (s : Fields) (e : Tree) → ((t : Tree) → is_some (kind_over s t) ≡ is_accepted s t) → kind_over s e ≡ Some kind.Boolean → IsTrue (has_distinct_names s) → s ≢ [] → GivesSchema F (filter e) (s ∷ []) s
filter-gives F s e exact k d some =
    let es : List Named = ([], e) ∷ [] in
    let h : fields_of es s ≡ Some (([], kind.Boolean) ∷ []) = ap (λ o. both_of (λ (j : DataType) (fs : Fields). ([], j) ∷ fs) o (Some [])) k in
    gives-by F (filter e) (s ∷ []) s (record { schema = refl; names = refl; distinct = d; some = some }) (λ n l. lacks-none s exact es (([], kind.Boolean) ∷ []) n h l) (λ n r. r) (λ q. let x : false ≡ true = sym (ap (has_kind_where (is_not kind.Boolean)) k) ∙ q in cc) (λ b. breaks-none s exact es (([], kind.Boolean) ∷ []) h b) (λ r. r)
    (λ w c. holds-none s exact es (([], kind.Boolean) ∷ []) h w c)

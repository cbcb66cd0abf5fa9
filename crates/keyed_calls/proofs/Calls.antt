-- A call for all columns of its input and further expressions.
use Rattle.std.proofs.Common.{◌≡◌, ◌≢◌, ◌≤◌, ◌^◌, ℕ, List, [], ◌∷◌, ◌++◌, length, Some, refl, sym, ap, subst, ◌∙◌}
use Rattle.std.specs.Prelude.{slice_get}
use Rattle.std.specs.List.{AllByRecursion}
use Rattle.ps_frame.specs.Functions.{Functions}
use Rattle.ps_frame.specs.Tables.{Fields, Table, field_kind}
use Rattle.ps_frame.specs.Trees.{Tree}
use Rattle.ps_frame.specs.declared.value.DataType.{DataType}
use Rattle.ps_meaning.specs.Schemas.{names_of}
use Rattle.ps_meaning.specs.Shape.{IsPhysicalChoice}
use Rattle.ps_meaning.specs.Sound.{schema_at as schema_there}
use Rattle.ps_meaning.specs.Steps.{Name}
use Rattle.ps_meaning.proofs.StepFits.{own-kinds}
use Rattle.ps_plan.specs.Lowering.{HasRowsOf}
use Rattle.ps_rules.specs.Calls.{Answer}
use Rattle.ps_rules.specs.Lowered.{lower_exprs}
use Rattle.ps_rules.specs.Slots.{State, Stream, schema_at, schema_or_none}
use Rattle.ps_shares.specs.Kept.{IsReady}
use Rattle.plan_rules.specs.Groups.{columns_over}
use Rattle.step_keeps.proofs.ByCell.{columns_read, some_column, some_later}
use Rattle.keyed_calls.specs.Keyed.{AnswersAlike, KeyedAlike, ShowsOnlyKeyed}
use Rattle.keyed_calls.proofs.Answered.{columns_first, columns_last}
use Rattle.keyed_calls.proofs.Alike.{first_alike, first_shows, last_alike, last_shows}
use Rattle.keyed_calls.proofs.Asked.{answers, shows}

-- each name has a kind
abbrev HaveKind : Fields → List Name → Type 0
HaveKind s ns = AllByRecursion (λ n. (k : DataType) × (field_kind n s ≡ Some k)) ns

kinds_of_names : (given s : Fields) → AllByRecursion (λ (f : Name × DataType). field_kind f.0 given ≡ Some f.1) s → HaveKind given (names_of s)
kinds_of_names given [] all = tt
kinds_of_names given (f ∷ s) all = ((f.1, all.0), kinds_of_names given s all.1)

some_names : (s : Fields) → s ≢ [] → names_of s ≢ []
some_names [] some = absurd (some refl)
some_names (f ∷ s) some = λ e. cc

module _ (F : Functions) (at : ℕ) (input : Stream) (s : State) (keys : List Tree) (some : schema_at s.nodes input ≢ []) where
  abbrev pub names : List Name
  names = names_of (schema_at s.nodes input)

  abbrev columns : List Tree
  columns = columns_over input s

  -- the kinds of all columns, whatever is asked beside them
  all_kinds : (es : List Tree) (ready : IsReady s input es) (t : Table) → HasRowsOf (schema_there (slice_get s.nodes input.0)) t → HaveKind t.schema names
  all_kinds es ready t rows =
      let is : t.schema ≡ ready.node.schema = rows.0 ∙ ap schema_there ready.there in
      let own : schema_at s.nodes input ≡ ready.node.schema = ap schema_or_none ready.there in
      subst (λ (f : Fields). HaveKind f names) (sym is) (subst (λ (f : Fields). HaveKind ready.node.schema (names_of f)) (sym own) (kinds_of_names ready.node.schema ready.node.schema (own-kinds ready.node.schema ready.distinct_names)))

  -- columns first
  module _ (ready : IsReady s input (columns ++ keys)) where
    abbrev pub first_answer : Answer
    first_answer = lower_exprs at input (columns ++ keys) s

    pub keys_behind : (xs : List Tree) × (first_answer.exprs ≡ columns ++ xs) × (length xs ≡ length keys)
    keys_behind = columns_first at input names keys s (some_column (schema_at s.nodes input) keys some)

    module _ (low : first_answer.state.names.next ≤ 2 ^ 64) (tables : ℕ → Table) (chosen : IsPhysicalChoice F first_answer.state.nodes tables) (rows : HasRowsOf (schema_there (slice_get s.nodes input.0)) (tables input.0)) where
      pub alike_behind : KeyedAlike at names keys keys_behind.0 (tables input.0) (tables first_answer.stream.0)
      alike_behind =
          let t = tables input.0 in
          let z = tables first_answer.stream.0 in
          let ans = answers F at input s (columns ++ keys) ready low tables chosen rows in
          first_alike at names keys keys_behind.0 t z (some_names (schema_at s.nodes input) some) (all_kinds (columns ++ keys) ready t rows)
          (subst (λ (xs : List Tree). AnswersAlike at (columns ++ keys) xs t z) keys_behind.1 ans)

      pub shows_behind : ShowsOnlyKeyed F s.nodes first_answer.state.nodes tables at keys (tables input.0)
      shows_behind =
          let t = tables input.0 in
          first_shows at names keys t (some_names (schema_at s.nodes input) some) (all_kinds (columns ++ keys) ready t rows) F s.nodes first_answer.state.nodes tables (shows F at input s (columns ++ keys) ready low tables chosen rows)

  -- columns last
  module _ (ready : IsReady s input (keys ++ columns)) where
    abbrev pub last_answer : Answer
    last_answer = lower_exprs at input (keys ++ columns) s

    pub keys_before : (xs : List Tree) × (last_answer.exprs ≡ xs ++ columns) × (length xs ≡ length keys)
    keys_before = columns_last at input names keys s (some_later keys columns (columns_read (schema_at s.nodes input) some))

    module _ (low : last_answer.state.names.next ≤ 2 ^ 64) (tables : ℕ → Table) (chosen : IsPhysicalChoice F last_answer.state.nodes tables) (rows : HasRowsOf (schema_there (slice_get s.nodes input.0)) (tables input.0)) where
      pub alike_before : KeyedAlike at names keys keys_before.0 (tables input.0) (tables last_answer.stream.0)
      alike_before =
          let t = tables input.0 in
          let z = tables last_answer.stream.0 in
          let ans = answers F at input s (keys ++ columns) ready low tables chosen rows in
          last_alike at names keys keys_before.0 t z (some_names (schema_at s.nodes input) some) (all_kinds (keys ++ columns) ready t rows) keys_before.2
          (subst (λ (xs : List Tree). AnswersAlike at (keys ++ columns) xs t z) keys_before.1 ans)

      pub shows_before : ShowsOnlyKeyed F s.nodes last_answer.state.nodes tables at keys (tables input.0)
      shows_before =
          let t = tables input.0 in
          last_shows at names keys t (some_names (schema_at s.nodes input) some) (all_kinds (keys ++ columns) ready t rows) F s.nodes last_answer.state.nodes tables (shows F at input s (keys ++ columns) ready low tables chosen rows)

-- The first part and the part on faults of the law of group-bys, over what a port has sent.
use Rattle.std.proofs.Common.{◌≡◌, ℕ, zero, suc, ◌⊎◌, List, [], ◌∷◌, ◌++◌, Some, refl, sym, ap, ◌∙◌, subst, inl, inr}
use Rattle.std.proofs.lemmas.List.Sorted.{IsPermutation-refl}
use Rattle.std.specs.Prelude.{Contains, IsTrue, slice_get, unwrap_or}
use Rattle.std.specs.List.{AllZip}
use Rattle.ps_frame.specs.Causes.{Cause}
use Rattle.ps_frame.specs.Functions.{Functions}
use Rattle.ps_frame.specs.Tables.{Fields, Row, Table}
use Rattle.ps_meaning.specs.Cases.{if_whole, keyed, rows_table, with_group_causes}
use Rattle.ps_meaning.specs.Groups.{groups, groups_table}
use Rattle.ps_meaning.specs.Schemas.{schema_or_empty}
use Rattle.ps_meaning.specs.Shape.{PhysicalCase, PhysicalKind, PhysicalNode, Shape, group_by_node}
use Rattle.ps_meaning.specs.Sound.{IsSound, input_schemas}
use Rattle.ps_meaning.specs.Steps.{Named, exprs_of, group_by}
use Rattle.ps_turns.specs.Keys.{IsSplit, part_of}
use Rattle.ps_turns.specs.Results.{HasTooManyKeys, IsBrokenOver, rows_fault}
use Rattle.ps_world.specs.Laws.{Extends, Justified, Sent, nothing_sent, sent_by}
use Rattle.ps_world.specs.Passing.{one_port}
use Rattle.ps_world.specs.World.{Pipe}
use Rattle.passing_laws.proofs.ZipPieces.{table_with}
use Rattle.part_laws.specs.Parts.{IsShownOver}
use Rattle.part_laws.proofs.Received.{IsShownWhatever, is-table, same-schema, shown-complete}
use Rattle.part_laws.specs.Lists.{BeginsWith, GivesList, end_to_end}
use Rattle.part_laws.proofs.GroupAnswers.{schema, sound-lists-few, sound-lists-show, sound-parts-begin}
use Rattle.part_laws.proofs.GroupTables.{group_step}

-- over each table it has one, of its schema
module _ (F : Functions) (p : PhysicalNode) (keys aggregates : List Named) (s : Fields) where
  abbrev step_schema : Fields
  step_schema = schema_or_empty F (group_by (group_step keys aggregates)) (s ∷ [])

  given-schema : (o : Fields) (bs : List Cause) (T : Table) → T.schema ≡ o → (if_whole o bs T).schema ≡ o
  given-schema o [] T e = e
  given-schema o (b ∷ bs) T e = refl

  some-table : (rows : List Row) (causes : List Cause) → (U : Table) × PhysicalCase F (record p { kind = group_by_node keys aggregates }) (table_with s rows causes ∷ []) U × (U.schema ≡ schema_or_empty F (group_by (group_step keys aggregates)) (s ∷ []))
  some-table rows causes =
      let z = keyed p.origin (exprs_of keys) (table_with s rows causes) in
      let gs = groups p.origin (exprs_of aggregates) s z.rows in
      let U = if_whole step_schema (with_group_causes z.broken gs) (groups_table step_schema gs) in
      (U, (U, inl (gs, IsPermutation-refl gs, refl), refl), given-schema step_schema (with_group_causes z.broken gs) (groups_table step_schema gs) refl)

  pub has-table : p.kind ≡ group_by_node keys aggregates → schema_or_empty F (group_by (group_step keys aggregates)) (s ∷ []) ≡ p.schema → (T : Table) → T.schema ≡ s → (U : Table) × PhysicalCase F p (T ∷ []) U × (U.schema ≡ p.schema)
  has-table is same T e =
      let table : table_with s T.rows T.broken ≡ T = λ i. table_with (sym e i) T.rows T.broken in
      let u = some-table T.rows T.broken in
      (u.0, subst (λ t. PhysicalCase F p (t ∷ []) u.0) table (subst (λ (kd : PhysicalKind). PhysicalCase F (record p { kind = kd }) (table_with s T.rows T.broken ∷ []) u.0) (sym is) u.1), u.2 ∙ same)

nothing-extends : (T : Table) → Extends nothing_sent T
nothing-extends T = record { rest = T.rows; begins = refl; ends = λ h. cc }

module _ (F : Functions) (shape : Shape) (n : ℕ) (p : PhysicalNode) (s : Fields) (keys aggregates : List Named) (sound : IsSound F shape) (there : slice_get shape n ≡ Some p) (is : p.kind ≡ group_by_node keys aggregates) (reads : input_schemas shape p ≡ s ∷ []) where
  same-schema-of : schema_or_empty F (group_by (group_step keys aggregates)) (s ∷ []) ≡ p.schema
  same-schema-of = ap (λ o. unwrap_or o []) (schema F shape n p s keys aggregates sound there is reads)

  -- as long as it sends nothing
  pub nothing-justified : (sent : Sent) → Justified F p (s ∷ []) (sent ∷ []) (λ k. nothing_sent)
  nothing-justified sent [] e x = absurd x
  nothing-justified sent (T ∷ []) e x = let u = has-table F p keys aggregates s is same-schema-of T (same-schema s T e) in (u.0, u.2, u.1, λ k. nothing-extends u.0)
  nothing-justified sent (T ∷ V ∷ Ts) e x = absurd x.1

  module _ (sent : Sent) (complete : IsTrue sent.is_complete) (whole : (keyed p.origin (exprs_of keys) (rows_table s sent.rows)).broken ≡ []) where
    -- what its first lists gave, in order, and all of them where it has sent all
    pub parts-justified : (partitions : ℕ) (given left rss : List (List Row)) → IsSplit p (rows_table s sent.rows ∷ []) partitions (given ++ left) → AllZip (GivesList F p (rows_table s sent.rows ∷ [])) given rss
        → (to : Pipe) → (sent_by to).rows ≡ end_to_end rss → (IsTrue (sent_by to).is_complete → left ≡ []) → Justified F p (s ∷ []) (sent ∷ []) (one_port to)
    parts-justified partitions given left rss split gave to rows all [] e x = absurd x
    parts-justified partitions given left rss split gave to rows all (T ∷ []) e x = (b.table, b.schema, subst (λ t. PhysicalCase F p (t ∷ []) b.table) (is-table F p s sent T (same-schema s T e) x.0 complete) b.case, ports)
      where
        b : BeginsWith F p (rows_table s sent.rows ∷ []) left (end_to_end rss)
        b = sound-parts-begin F shape n p s keys aggregates sound there is reads sent.rows whole partitions given left rss split gave

        ports : (k : ℕ) → Extends (one_port to k) b.table
        ports zero = record { rest = b.rest; begins = ap (λ rs. rs ++ b.rest) rows ∙ b.begins; ends = λ c. let d = b.ends (all c) in (rows ∙ d.0, d.1) }
        ports (suc k) = nothing-extends b.table
    parts-justified partitions given left rss split gave to rows all (T ∷ V ∷ Ts) e x = absurd x.1

    -- what is found for a list
    pub list-shown : (partitions : ℕ) (lists : List (List Row)) (l : List Row) → IsSplit p (rows_table s sent.rows ∷ []) partitions lists → Contains lists l
        → (c : Cause) → IsBrokenOver F p (part_of p l (rows_table s sent.rows ∷ [])) c ⊎ HasTooManyKeys F p l (rows_table s sent.rows ∷ []) × (c ≡ rows_fault p) → IsShownWhatever F p s sent c
    list-shown partitions lists l split inside c m = shown-complete F p s sent complete c (by m)
      where
        by : IsBrokenOver F p (part_of p l (rows_table s sent.rows ∷ [])) c ⊎ HasTooManyKeys F p l (rows_table s sent.rows ∷ []) × (c ≡ rows_fault p) → IsShownOver F p (rows_table s sent.rows) sent.rows c
        by (inl x) = sound-lists-show F shape n p s keys aggregates sound there is reads sent.rows whole l c x
        by (inr x) = inr (x.1, sound-lists-few F shape n p s keys aggregates sound there is reads sent.rows partitions lists l split inside x.0)

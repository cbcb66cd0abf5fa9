-- Of a morsel and of each list of keys a group-by has an answer; and what a sound shape says of it.
use Rattle.std.proofs.Common.{◌≡◌, ℕ, ◌<◌, ◌⊎◌, List, [], ◌∷◌, ◌++◌, Some, length, refl, sym, ap, ◌∙◌, subst, inl, inr}
use Rattle.std.proofs.lemmas.List.Sorted.{IsPermutation-refl}
use Rattle.std.specs.Prelude.{◌≢◌, ◌&&◌, Bool, true, Contains, IsTrue, is_some, slice_get}
use Rattle.std.specs.List.{AllByRecursion, AllZip, list_all}
use Rattle.ps_frame.specs.Aggregates.{max_rows}
use Rattle.ps_frame.specs.Causes.{Cause}
use Rattle.ps_frame.specs.Functions.{Functions}
use Rattle.ps_frame.specs.Tables.{Fields, Row, Table}
use Rattle.ps_frame.specs.Typing.{kind_over}
use Rattle.ps_meaning.specs.Cases.{first_table, if_whole, keyed, out_schema, rows_table, with_group_causes}
use Rattle.ps_meaning.specs.Groups.{groups, groups_table}
use Rattle.ps_meaning.specs.Schemas.{output_schema}
use Rattle.ps_meaning.specs.Shape.{PhysicalKind, PhysicalNode, Shape, group_by_node}
use Rattle.ps_meaning.specs.Sound.{AreElementwise, AreReductions, IsSound, have_all_kinds, input_schemas}
use Rattle.ps_meaning.specs.Steps.{Named, exprs_of, group_by}
use Rattle.ps_rowwise.proofs.ByRow.{both}
use Rattle.ps_turns.specs.Keys.{IsSplit, part_of}
use Rattle.ps_turns.specs.Results.{BreaksPartial, HasTooManyKeys, IsBrokenOver, IsMade, IsPartial}
use Rattle.part_laws.specs.Parts.{IsShownOver, ShowsParts}
use Rattle.part_laws.proofs.Partials.{IsMadeOrBroken, made-or-broken}
use Rattle.part_laws.proofs.SoundInputs.{has-columns, kinds-of-input, parameters-of, schema-of}
use Rattle.part_laws.specs.Lists.{BeginsWith, GivesList, end_to_end}
use Rattle.part_laws.proofs.GroupTables.{group_step, parts-begin}
use Rattle.part_laws.proofs.ListFaults.{groups-show, lists-few, lists-show, partials-whole}

pub group-made : (F : Functions) (p : PhysicalNode) (keys aggregates : List Named) → p.kind ≡ group_by_node keys aggregates → (ts : List Table) → IsMadeOrBroken F p ts
group-made F p keys aggregates is ts =
    let step = group_by (group_step keys aggregates) in
    let z = keyed p.origin (exprs_of keys) (first_table ts) in
    let gs = groups p.origin (exprs_of aggregates) (first_table ts).schema z.rows in
    subst (λ (kd : PhysicalKind). IsMadeOrBroken F (record p { kind = kd }) ts) (sym is)
    (made-or-broken F (record p { kind = group_by_node keys aggregates }) ts (if_whole (out_schema F p.origin step ts) (with_group_causes z.broken gs) (groups_table (out_schema F p.origin step ts) gs)) (inl (gs, IsPermutation-refl gs, refl)) refl)

pub group-partial : (F : Functions) (p : PhysicalNode) (keys aggregates : List Named) → p.kind ≡ group_by_node keys aggregates → (i : ℕ) (ts : List Table) → ((n : ℕ) × IsPartial F p p.kind i ts n) ⊎ ((c : Cause) × BreaksPartial F p p.kind i ts c)
group-partial F p keys aggregates is i ts = subst (λ (kd : PhysicalKind). ((n : ℕ) × IsPartial F p kd i ts n) ⊎ ((c : Cause) × BreaksPartial F p kd i ts c)) (sym is) (by (group-made F p keys aggregates is ts))
  where
    by : IsMadeOrBroken F p ts → ((n : ℕ) × IsPartial F p (group_by_node keys aggregates) i ts n) ⊎ ((c : Cause) × BreaksPartial F p (group_by_node keys aggregates) i ts c)
    by (inl (rs, m)) = inl (length rs, (rs, m, refl))
    by (inr (c, m)) = inr (c, m)

all-parts : {A : Type 0} (t : A → Bool) (xs ys : List A) → list_all t (xs ++ ys) ≡ true → (list_all t xs ≡ true) × (list_all t ys ≡ true)
all-parts t [] ys h = (refl, h)
all-parts t (x ∷ xs) ys h = let b = both (t x) (list_all t (xs ++ ys)) h in let r = all-parts t xs ys b.1 in (ap (λ c. c && list_all t xs) b.0 ∙ r.0, r.1)

-- of a sound shape
module _ (F : Functions) (shape : Shape) (n : ℕ) (p : PhysicalNode) (s : Fields) (keys aggregates : List Named) (sound : IsSound F shape) (there : slice_get shape n ≡ Some p) (is : p.kind ≡ group_by_node keys aggregates) (reads : input_schemas shape p ≡ s ∷ []) where
  some : s ≢ []
  some = has-columns F shape n p s sound there reads

  parameters : AreElementwise (exprs_of keys) × AreReductions (exprs_of aggregates)
  parameters = parameters-of F shape n p s sound there reads (group_by_node keys aggregates) is

  kinds : IsTrue (have_all_kinds s (exprs_of keys)) × IsTrue (have_all_kinds s (exprs_of aggregates))
  kinds = all-parts (λ e. is_some (kind_over s e)) (exprs_of keys) (exprs_of aggregates) (kinds-of-input F shape n p s sound there reads (group_by_node keys aggregates) is)

  pub schema : output_schema F (group_by (group_step keys aggregates)) (s ∷ []) ≡ Some p.schema
  schema = schema-of F shape n p s sound there reads (group_by_node keys aggregates) is

  pub sound-groups-show : ShowsParts F p s
  sound-groups-show = groups-show F p keys aggregates s is some parameters.0 kinds.0 parameters.1 kinds.1

  pub sound-lists-show : (rows : List Row) → (keyed p.origin (exprs_of keys) (rows_table s rows)).broken ≡ [] → (l : List Row) (c : Cause) → IsBrokenOver F p (part_of p l (rows_table s rows ∷ [])) c → IsShownOver F p (rows_table s rows) rows c
  sound-lists-show = lists-show F p keys aggregates s is some parameters.0 kinds.0 parameters.1 kinds.1

  pub sound-lists-few : (rows : List Row) (m : ℕ) (lists : List (List Row)) (l : List Row) → IsSplit p (rows_table s rows ∷ []) m lists → Contains lists l → HasTooManyKeys F p l (rows_table s rows ∷ []) → max_rows < length rows
  sound-lists-few = lists-few F p keys aggregates s is some parameters.0 kinds.0

  pub sound-partials-whole : (morsels : List (List Row)) → AllByRecursion (λ a. (rs : List Row) × IsMade F p (rows_table s a ∷ []) rs) morsels → (keyed p.origin (exprs_of keys) (rows_table s (end_to_end morsels))).broken ≡ []
  sound-partials-whole = partials-whole F p keys aggregates s is some parameters.0 kinds.0

  pub sound-parts-begin : (rows : List Row) → (keyed p.origin (exprs_of keys) (rows_table s rows)).broken ≡ [] → (m : ℕ) (given left rss : List (List Row)) → IsSplit p (rows_table s rows ∷ []) m (given ++ left) → AllZip (GivesList F p (rows_table s rows ∷ [])) given rss
      → BeginsWith F p (rows_table s rows ∷ []) left (end_to_end rss)
  sound-parts-begin = parts-begin F p keys aggregates s is schema some parameters.0 kinds.0

-- A join over its whole inputs, and what narrowing leaves of a join's table: all of it.
use Rattle.std.proofs.Common.{◌≡◌, ℕ, suc, ◌+◌, ◌-◌, Bool, true, false, not, cond, ◌&&◌, ℤ, pos, negsuc, List, [], ◌∷◌, ◌++◌, take, length, get_or, Some, None, refl, sym, ap, subst, ◌∙◌, inl, inr, length-append}
use Rattle.std.proofs.lemmas.List.{length-map}
use Rattle.std.specs.Prelude.{nat_eq, slice_get, if◌then◌else◌}
use Rattle.std.specs.List.{AllByRecursion}
use Rattle.ps_frame.specs.Causes.{Cause, is_empty}
use Rattle.ps_frame.specs.Frames.{has_distinct_names}
use Rattle.ps_frame.specs.Functions.{Functions}
use Rattle.ps_frame.specs.Tables.{Fields, Table, no_rows}
use Rattle.ps_frame.specs.Zip.{Zipped}
use Rattle.ps_frame.specs.declared.value.Value.{Value}
use Rattle.ps_frame.specs.declared.value.Value.TheVariants as val
use Rattle.ps_meaning.specs.Cases.{Case, GivesBeforeCut, cut_at, cut_by, end_of, if_whole, joined_table, keyed, projected, rows_from_end, rows_table}
use Rattle.ps_meaning.specs.Distinct.{picked, places_in}
use Rattle.ps_meaning.specs.Joins.{Pair, front_rows, goes_by_left, join_rows, joined_row, rows_of_pairs}
use Rattle.ps_meaning.specs.Schemas.{join_schema, left_output, names_of, right_output, suffix_of, suffixed}
use Rattle.ps_meaning.specs.Shape.{in_memory_join}
use Rattle.ps_meaning.specs.Sound.{schema_at}
use Rattle.ps_meaning.specs.Steps.{Cut, JoinStep, Name, join}
use Rattle.ps_meaning.proofs.Fits.{all-drop, all-take}
use Rattle.ps_meaning.proofs.SchemaLaw.{cut_by-schema, joined-schema}
use Rattle.ps_rules.specs.Slots.{Made, State, Stream}
use Rattle.plan_rules.specs.Joins.{equi_join_stream, over_both}
use Rattle.step_keeps.specs.Kept.{HaveRows, IsKeptStep, KeepsStep}
use Rattle.step_keeps.proofs.One.{node_keeps}
use Rattle.step_keeps.proofs.OwnColumns.{own_table}

abbrev Wide : ℕ → List (List Value) → Type 0
Wide w rows = AllByRecursion (λ (row : List Value). length row ≡ w) rows

-- a slice keeps the width of rows
module _ (w : ℕ) where
  unless_broken : (s : Fields) (cs : List Cause) (rows : List (List Value)) → Wide w rows → Wide w (if_whole s cs (rows_table s rows)).rows
  unless_broken s [] rows f = f
  unless_broken s (c ∷ cs) rows f = tt

  at_wide : (offset : ℤ) (n : ℕ) (t : Table) → Wide w t.rows → Wide w (cut_at offset n t).rows
  at_wide (pos offset) n t f = all-drop (λ (row : List Value). length row ≡ w) offset (take (end_of offset n) t.rows) (all-take (λ (row : List Value). length row ≡ w) (end_of offset n) t.rows f)
  at_wide (negsuc k) n t f = by (nat_eq n 0)
    where
      by : (b : Bool) → Wide w (if b then no_rows t.schema [] else if_whole t.schema t.broken (rows_table t.schema (rows_from_end (k + 1) n t.rows))).rows
      by true = tt
      by false = unless_broken t.schema t.broken (rows_from_end (k + 1) n t.rows)
          (all-drop (λ (row : List Value). length row ≡ w) (length t.rows - (k + 1)) (take (length t.rows + n - (k + 1)) t.rows) (all-take (λ (row : List Value). length row ≡ w) (length t.rows + n - (k + 1)) t.rows f))

  cut_wide : (cut : Cut) (t : Table) → Wide w t.rows → Wide w (cut_by cut t).rows
  cut_wide None t f = f
  cut_wide (Some s) t f = at_wide s.0 s.1 t f

-- each row of a join has a value for each field
suffixed_length : (suffix : Name) (taken : List Name) (fs : Fields) → length (suffixed suffix taken fs) ≡ length fs
suffixed_length suffix taken [] = refl
suffixed_length suffix taken (f ∷ fs) = ap suc (suffixed_length suffix taken fs)

module _ (o : JoinStep) (l r : Fields) where
  abbrev lefts : List ℕ
  lefts = places_in (names_of (left_output o l)) l

  abbrev rights : List ℕ
  rights = places_in (names_of (right_output o r)) r

  places_length : (part s : Fields) → length (places_in (names_of part) s) ≡ length part
  places_length part s = length-map (names_of part) _ ∙ length-map part (λ f. f.0)

  joined_length : (p : Pair) → length (joined_row lefts rights p) ≡ length (join_schema o l r)
  joined_length p =
      length-append (picked lefts p.0) (picked rights p.1)
      ∙ (λ i. length-map lefts (λ k. get_or p.0 k val.Null) i + length-map rights (λ k. get_or p.1 k val.Null) i)
      ∙ (λ i. places_length (left_output o l) l i + places_length (right_output o r) r i)
      ∙ ap (λ n. length (left_output o l) + n) (sym (suffixed_length (suffix_of o) (names_of (left_output o l)) (right_output o r)))
      ∙ sym (length-append (left_output o l) (suffixed (suffix_of o) (names_of (left_output o l)) (right_output o r)))

  pairs_wide : (ps : List Pair) → Wide (length (join_schema o l r)) (rows_of_pairs o l r ps)
  pairs_wide [] = tt
  pairs_wide (p ∷ ps) = (joined_length p, pairs_wide ps)

  joined_wide : (a b : Zipped) → Wide (length (join_schema o l r)) (joined_table o l r (join_schema o l r) a b).rows
  joined_wide a b = by (goes_by_left o.args.how && (is_empty b.broken && not (is_empty a.broken)))
    where
      by : (t : Bool)
          → Wide (length (join_schema o l r)) (cond {A = Table} t (record { schema = join_schema o l r; rows = front_rows o l r a.rows b.rows; broken = a.broken }) (if_whole (join_schema o l r) (a.broken ++ b.broken) (rows_table (join_schema o l r) (join_rows o l r a.rows b.rows)))).rows
      by true = pairs_wide _
      by false = unless_broken (length (join_schema o l r)) (join_schema o l r) (a.broken ++ b.broken) (join_rows o l r a.rows b.rows) (pairs_wide _)

-- a table of a join has the join's schema, with a value for each field in each row
module _ (F : Functions) (at : ℕ) (o : JoinStep) (L R : Table) where
  abbrev out : Fields
  out = join_schema o L.schema R.schema

  before_join : (U : Table) → GivesBeforeCut F at (join o) (L ∷ R ∷ []) U → (U.schema ≡ out) × Wide (length out) U.rows
  before_join U (inl e) =
      let l = keyed at o.left_on L in
      let r = keyed at o.right_on R in
      (ap (λ (T : Table). T.schema) e ∙ joined-schema o L.schema R.schema out l r, subst (λ (T : Table). Wide (length out) T.rows) (sym e) (joined_wide o L.schema R.schema l r))
  before_join U (inr (V, g, lost, e)) =
      let l = keyed at o.left_on L in
      let r = keyed at o.right_on R in
      (ap (λ (T : Table). T.schema) e ∙ ap (λ (T : Table). T.schema) g ∙ joined-schema o L.schema R.schema out l r, subst (λ (T : Table). Wide (length out) T.rows) (sym e) tt)

  pub join_is_wide : (V : Table) → Case F at (join o) (L ∷ R ∷ []) V → (V.schema ≡ out) × Wide (length out) V.rows
  join_is_wide V (U, g, e) =
      let b = before_join U g in
      (ap (λ (T : Table). T.schema) e ∙ cut_by-schema o.args.slice U ∙ b.0, subst (λ (T : Table). Wide (length out) T.rows) (sym e) (cut_wide (length out) o.args.slice U b.1))

  -- narrowed to the schema it is the table
  pub join_narrowed : (schema : Fields) → out ≡ schema → has_distinct_names schema ≡ true → (V : Table) → Case F at (join o) (L ∷ R ∷ []) V → projected (names_of schema) schema V ≡ V
  join_narrowed schema e d V k =
      let is = join_is_wide V k in
      own_table schema V (is.0 ∙ e) d (subst (λ (s : Fields). Wide (length s) V.rows) e is.1)

module _ (F : Functions) (at : ℕ) (o : JoinStep) (schema : Fields) (l r : Stream) (s : State) (is : schema ≡ join_schema o (schema_at (slice_get s.nodes l.0)) (schema_at (slice_get s.nodes r.0))) (distinct : has_distinct_names schema ≡ true) where
  -- narrowing leaves all of a join over tables of these schemas
  pub same_narrowed : (tables : ℕ → Table) → HaveRows s.nodes tables (l ∷ r ∷ []) → (V : Table) → Case F at (join o) (tables l.0 ∷ tables r.0 ∷ []) V → projected (names_of schema) schema V ≡ V
  same_narrowed tables rows V k = join_narrowed F at o (tables l.0) (tables r.0) schema ((λ i. join_schema o (rows.0.0 i) (rows.1.0.0 i)) ∙ sym is) distinct V k

  pub whole_joins_keep : goes_by_left o.args.how ≡ false → IsKeptStep F at (join o) schema (l ∷ r ∷ []) s
  whole_joins_keep whole =
      let node = node_keeps F at (join o) (in_memory_join o) schema (l ∷ r ∷ []) refl (λ ts. refl) s same_narrowed in
      subst (λ (b : Bool). let m = cond {A = Stream → Stream → State → Made} b (equi_join_stream at o schema) (over_both at (in_memory_join o) schema) l r s in KeepsStep F at (join o) s m.state (l ∷ r ∷ []) m.stream) (sym whole) node

-- A reduction over a part of the rows: what it finds there it finds over all of them, but for a count of too many rows.
use Rattle.std.proofs.Common.{◌≡◌, ℕ, ◌<◌, ◌⊎◌, List, [], ◌∷◌, ◌++◌, length, refl, sym, ap, subst, ◌∙◌, inl, inr, arith}
use Rattle.std.specs.Prelude.{Bool, true, false, not, ◌||◌, Contains, cond, flat_map, map, nat_le, IsTrue, is_some, Option, Some, None}
use Rattle.ps_frame.specs.Aggregates.{aggregate_column, max_rows}
use Rattle.ps_frame.specs.Causes.{Cause, Column, value, cell_causes, cell_values, column_causes, has_cause, is_empty, is_ended, whole_column}
use Rattle.ps_frame.specs.Eval.{eval, from_whole, height_column, operand}
use Rattle.ps_frame.specs.Tables.{Fields, Row, Table}
use Rattle.ps_frame.specs.Trees.{Aggregation, Tree}
use Rattle.ps_frame.specs.Typing.{is_elementwise, is_independent, kind_over, sum_kind}
use Rattle.ps_frame.specs.declared.value.DataFault.TheVariants as fault
use Rattle.ps_frame.specs.declared.value.DataType.{DataType}
use Rattle.ps_frame.specs.declared.value.Value.{Value}
use Rattle.ps_frame.specs.declared.value.Value.TheVariants as val
use Rattle.ps_meaning.specs.Sound.{IsReduced, IsReduction}
use Rattle.ps_rowwise.specs.Rows.{HasKind}
use Rattle.ps_rowwise.proofs.ByRow.{both, cell_for, goes-by}
use Rattle.ps_rowwise.proofs.Standing.{Stands}
use Rattle.passing_laws.proofs.PartFaults.{tree-shows}
use Rattle.passing_laws.proofs.Shows.{among-either, among-left}
use Rattle.passing_laws.proofs.ZipPieces.{table_with}
use Rattle.part_laws.specs.Parts.{strict_cause}
use Rattle.part_laws.proofs.Members.{in-flat, out-flat, out-map}
use Rattle.part_laws.proofs.OneCause.{column-is}
use Rattle.world_laws.proofs.InOrder.{contains_cases, contains_first, contains_map, none_in_nil}

-- whatever the values, the aggregate is one value
abbrev pub GivesValue : ℕ → Aggregation → Type 0
GivesValue node a = (k : Option DataType) (vs : List Value) → (v : Value) × (aggregate_column node a k vs ≡ whole_column (v ∷ []))

-- an aggregate of what a reduction takes
pub record IsAggregate (node : ℕ) (t : Tree) : Type 0 where
  pub aggregation : Aggregation
  pub taken : Tree
  pub is : t ≡ Tree.aggregate aggregation taken
  pub reduced : IsReduced taken
  pub gives : GivesValue node aggregation

pub reduction-cases : (node : ℕ) (t : Tree) → IsReduction t → (t ≡ Tree.len) ⊎ IsAggregate node t
reduction-cases node Tree.len h = inl refl
reduction-cases node (Tree.aggregate Aggregation.min e) h = inr (record { aggregation = Aggregation.min; taken = e; is = refl; reduced = h; gives = λ k vs. (_, refl) })
reduction-cases node (Tree.aggregate Aggregation.max e) h = inr (record { aggregation = Aggregation.max; taken = e; is = refl; reduced = h; gives = λ k vs. (_, refl) })
reduction-cases node (Tree.aggregate Aggregation.first e) h = inr (record { aggregation = Aggregation.first; taken = e; is = refl; reduced = h; gives = λ k vs. (_, refl) })
reduction-cases node (Tree.aggregate Aggregation.last e) h = inr (record { aggregation = Aggregation.last; taken = e; is = refl; reduced = h; gives = λ k vs. (_, refl) })
reduction-cases node (Tree.aggregate Aggregation.sum e) h = inr (record { aggregation = Aggregation.sum; taken = e; is = refl; reduced = h; gives = λ k vs. (_, refl) })
reduction-cases node (Tree.aggregate Aggregation.n_unique e) h = absurd h
reduction-cases node (Tree.aggregate (Aggregation.count b) e) h = absurd h
reduction-cases node (Tree.column name) h = absurd h
reduction-cases node (Tree.literal l) h = absurd h
reduction-cases node (Tree.binary o l r) h = absurd h
reduction-cases node (Tree.cast k strict e) h = absurd h
reduction-cases node (Tree.ternary p a b) h = absurd h
reduction-cases node (Tree.function g e) h = absurd h
reduction-cases node (Tree.sort d n e) h = absurd h
reduction-cases node (Tree.sort_by d n e by) h = absurd h
reduction-cases node (Tree.gather b e i) h = absurd h
reduction-cases node (Tree.filter e by) h = absurd h
reduction-cases node (Tree.slice e o l) h = absurd h
reduction-cases node (Tree.left_out w) h = absurd h
reduction-cases node Tree.missing h = absurd h

-- a value alone, or ended before that
abbrev pub IsSingle : Column → Type 0
IsSingle c = ((v : Value) × (c.cells ≡ value v ∷ []) × (c.broken ≡ [])) ⊎ (c.cells ≡ []) × (is_ended c ≡ true)

some-cause : (cs : List Cause) (c : Cause) → Contains cs c → not (is_empty cs) ≡ true
some-cause [] c h = absurd (none_in_nil c h)
some-cause (x ∷ cs) c h = refl

still-some : (cs : List Cause) → not (is_empty cs) ≡ true → not (is_empty (cs ++ [])) ≡ true
still-some [] h = cc
still-some (c ∷ cs) h = refl

-- What takes one whole operand and gives one value: it has the operand's causes, and loses what that loses.
module _ (f : List (List Value) → Column) (one : (vs : List (List Value)) → (v : Value) × (f vs ≡ whole_column (v ∷ []))) (d : Column) where
  abbrev whole : List (List Value)
  whole = cell_values d.cells ∷ []

  abbrev given : Bool → Column
  given b = cond b (record { cells = []; broken = column_causes d ++ []; lost = d.lost ++ [] }) (record (f whole) { lost = d.lost ++ [] })

  given-is : (b : Bool) → has_cause d ≡ b → from_whole f (d ∷ []) ≡ given b
  given-is true e = ap (λ b. given (b || false)) e
  given-is false e = ap (λ b. given (b || false)) e

  value-cells : (f whole).cells ≡ value (one whole).0 ∷ []
  value-cells = ap (λ (c : Column). c.cells) (one whole).1

  value-broken : (f whole).broken ≡ []
  value-broken = ap (λ (c : Column). c.broken) (one whole).1

  pub single : IsSingle (from_whole f (d ∷ []))
  single = by (has_cause d) refl
    where
      by : (b : Bool) → has_cause d ≡ b → IsSingle (from_whole f (d ∷ []))
      by true e = subst IsSingle (sym (given-is true e)) (inr (refl, still-some (column_causes d) e))
      by false e = subst IsSingle (sym (given-is false e)) (inl ((one whole).0, value-cells, value-broken))

  pub causes-from : (c : Cause) → Contains (column_causes (from_whole f (d ∷ []))) c → Contains (column_causes d) c
  causes-from c h = by (has_cause d) refl
    where
      from : Contains (column_causes d) c ⊎ Contains [] c → Contains (column_causes d) c
      from (inl x) = x
      from (inr x) = absurd (none_in_nil c x)

      none : Contains [] c → Contains (column_causes d) c
      none x = absurd (none_in_nil c x)

      by : (b : Bool) → has_cause d ≡ b → Contains (column_causes d) c
      by true e = from (among-either (column_causes d) [] c (subst (λ (w : Column). Contains (column_causes w) c) (given-is true e) h))
      by false e = none (subst (λ cs. Contains cs c) (λ i. flat_map cell_causes (value-cells i) ++ value-broken i) (subst (λ (w : Column). Contains (column_causes w) c) (given-is false e) h))

  pub causes-into : (c : Cause) → Contains (column_causes d) c → Contains (column_causes (from_whole f (d ∷ []))) c
  causes-into c h = subst (λ (w : Column). Contains (column_causes w) c) (sym (given-is true (some-cause (column_causes d) c h))) (among-left (column_causes d) [] c h)

  pub lost-of : (from_whole f (d ∷ [])).lost ≡ d.lost ++ []
  lost-of = by (has_cause d) refl
    where
      by : (b : Bool) → has_cause d ≡ b → (from_whole f (d ∷ [])).lost ≡ d.lost ++ []
      by true e = ap (λ (w : Column). w.lost) (given-is true e)
      by false e = ap (λ (w : Column). w.lost) (given-is false e)

-- the height
over-limit : (m n : ℕ) → nat_le n m ≡ false → m < n
over-limit m n h = grind arith

module _ (node : ℕ) where
  abbrev pub rows_cause : Cause
  rows_cause = record { fault = fault.Rows; node = node }

  abbrev counted : ℕ → Bool → Column
  counted n b = cond b (whole_column (val.IdxSize n ∷ [])) (record { cells = []; broken = rows_cause ∷ []; lost = [] })

  counted-single : (n : ℕ) (b : Bool) → IsSingle (counted n b)
  counted-single n true = inl (val.IdxSize n, refl, refl)
  counted-single n false = inr (refl, refl)

  counted-causes : (n : ℕ) (b : Bool) (c : Cause) → Contains (column_causes (counted n b)) c → (b ≡ false) × (c ≡ rows_cause)
  counted-causes n true c h = absurd (none_in_nil c h)
  counted-causes n false c h = (refl, only (contains_cases rows_cause c [] h))
    where
      only : (rows_cause ≡ c) ⊎ Contains [] c → c ≡ rows_cause
      only (inl e) = sym e
      only (inr x) = absurd (none_in_nil c x)

  counted-lost : (n : ℕ) (b : Bool) → (counted n b).lost ≡ []
  counted-lost n true = refl
  counted-lost n false = refl

  height-single : (T : Table) → IsSingle (height_column node T)
  height-single T = by T.broken
    where
      by : (cs : List Cause) → IsSingle (height_column node (record { schema = T.schema; rows = T.rows; broken = cs }))
      by [] = counted-single (length T.rows) (nat_le (length T.rows) max_rows)
      by (c ∷ cs) = inr (refl, refl)

  height-lost : (T : Table) → (height_column node T).lost ≡ []
  height-lost T = by T.broken
    where
      by : (cs : List Cause) → (height_column node (record { schema = T.schema; rows = T.rows; broken = cs })).lost ≡ []
      by [] = counted-lost (length T.rows) (nat_le (length T.rows) max_rows)
      by (c ∷ cs) = refl

  height-causes : (s : Fields) (rows : List Row) (c : Cause) → Contains (column_causes (height_column node (table_with s rows []))) c → (c ≡ rows_cause) × (max_rows < length rows)
  height-causes s rows c h = let k = counted-causes (length rows) (nat_le (length rows) max_rows) c h in (k.1, over-limit max_rows (length rows) k.0)

  -- over any table a reduction gives a value, or it is ended
  pub reduction-single : (t : Tree) → IsReduction t → (T : Table) → IsSingle (eval node T t)
  reduction-single t h T = by (reduction-cases node t h)
    where
      by : (t ≡ Tree.len) ⊎ IsAggregate node t → IsSingle (eval node T t)
      by (inl e) = subst (λ t. IsSingle (eval node T t)) (sym e) (height-single T)
      by (inr a) = subst (λ t. IsSingle (eval node T t)) (sym a.is) (single (λ vs. aggregate_column node a.aggregation (kind_over T.schema a.taken) (operand 0 vs)) (λ vs. a.gives (kind_over T.schema a.taken) (operand 0 vs)) (eval node T a.taken))

not-true : (b : Bool) → not b ≡ true → b ≡ false
not-true true h = cc
not-true false h = refl

no-end : (xs : List Cause) → not (is_empty xs) ≡ false → xs ≡ []
no-end [] h = refl
no-end (x ∷ xs) h = cc

-- what a reduction takes, over rows
module _ (node : ℕ) (s : Fields) (e : Tree) (reduced : IsReduced e) (k : HasKind s e) where
  abbrev pub taken_over : List Row → List Cause → Column
  taken_over rows causes = eval node (table_with s rows causes) e

  elementwise : IsTrue (is_elementwise e)
  elementwise = (both (is_elementwise e) (not (is_independent e)) reduced).0

  stands : (rows : List Row) (causes : List Cause) → Stands rows (not (is_empty causes)) false (taken_over rows causes) (cell_for node s e)
  stands rows causes = subst (λ b. Stands rows (not (is_empty causes)) b (taken_over rows causes) (cell_for node s e)) (not-true (is_independent e) (both (is_elementwise e) (not (is_independent e)) reduced).1) (goes-by node s rows causes e elementwise k)

  -- a cause of a row's cell is one of the column
  of-row : (rows : List Row) (causes : List Cause) (x : Row) (c : Cause) → Contains rows x → Contains (cell_causes (cell_for node s e x)) c → Contains (column_causes (taken_over rows causes)) c
  of-row rows causes x c there h =
      among-left (flat_map cell_causes (taken_over rows causes).cells) (taken_over rows causes).broken c
      (subst (λ cells. Contains (flat_map cell_causes cells) c) (sym (stands rows causes).0) (in-flat cell_causes (map (cell_for node s e) rows) (cell_for node s e x) c (contains_map (cell_for node s e) x rows there) h))

  -- a cause over rows that nothing ended is one of a row's cell
  row-of : (rows : List Row) (c : Cause) → Contains (column_causes (taken_over rows [])) c → (x : Row) × Contains rows x × Contains (cell_causes (cell_for node s e x)) c
  row-of rows c h = by (among-either (flat_map cell_causes (taken_over rows []).cells) (taken_over rows []).broken c h)
    where
      by : Contains (flat_map cell_causes (taken_over rows []).cells) c ⊎ Contains (taken_over rows []).broken c → (x : Row) × Contains rows x × Contains (cell_causes (cell_for node s e x)) c
      by (inl here) =
          let f = out-flat cell_causes (map (cell_for node s e) rows) c (subst (λ cells. Contains (flat_map cell_causes cells) c) (stands rows []).0 here) in
          let r = out-map (cell_for node s e) rows f.0 f.1 in
          (r.0, r.1, subst (λ cell. Contains (cell_causes cell) c) (sym r.2) f.2)
      by (inr there) = absurd (none_in_nil c (subst (λ cs. Contains cs c) (no-end (taken_over rows []).broken (stands rows []).1) there))

  -- where a row is among others, what it finds there it finds over those
  pub taken-part : (a rows : List Row) (causes : List Cause) → ((x : Row) → Contains a x → Contains rows x) → (c : Cause) → Contains (column_causes (taken_over a [])) c → Contains (column_causes (taken_over rows causes)) c
  taken-part a rows causes among c h = let r = row-of a c h in of-row rows causes r.0 c (among r.0 r.1) r.2

  -- it loses causes over no rows alone, whatever ends these; over a row it finds them
  pub taken-loses : (x : Row) (a : List Row) (causes : List Cause) → (taken_over (x ∷ a) causes).lost ≡ []
  taken-loses x a causes = (stands (x ∷ a) causes).2 (λ e. cc)

  pub taken-lost : (rows : List Row) (causes : List Cause) (c : Cause) → Contains (taken_over [] []).lost c → Contains (taken_over rows causes).lost c ⊎ Contains (column_causes (taken_over rows causes)) c
  taken-lost [] causes c h = inl (subst (λ cs. Contains cs c) (sym ((tree-shows node s e elementwise k).lost_same causes)) h)
  taken-lost (x ∷ rows) causes c h = inr (of-row (x ∷ rows) causes x c (contains_first x rows) ((tree-shows node s e elementwise k).lost_shows c x h))

  pub taken-strict : (rows : List Row) (c : Cause) → Contains (column_causes (taken_over rows [])) c → c ≡ strict_cause node
  taken-strict rows c h = column-is node s e elementwise k rows c h

summed : (o : Option DataType) → IsTrue (is_some (sum_kind o)) → IsTrue (is_some o)
summed None h = cc
summed (Some k) h = refl

kind-of-taken : (a : Aggregation) (s : Fields) (e : Tree) → IsReduction (Tree.aggregate a e) → HasKind s (Tree.aggregate a e) → HasKind s e
kind-of-taken Aggregation.min s e h k = k
kind-of-taken Aggregation.max s e h k = k
kind-of-taken Aggregation.first s e h k = k
kind-of-taken Aggregation.last s e h k = k
kind-of-taken Aggregation.sum s e h k = summed (kind_over s e) k
kind-of-taken Aggregation.n_unique s e h k = absurd h
kind-of-taken (Aggregation.count b) s e h k = absurd h

-- a reduction, over rows
module _ (node : ℕ) (s : Fields) (t : Tree) (reduction : IsReduction t) (k : HasKind s t) where
  abbrev pub over : List Row → List Cause → Column
  over rows causes = eval node (table_with s rows causes) t

  -- what it finds over some of the rows it finds over all, or these are too many
  pub reduction-part : (a rows : List Row) (causes : List Cause) → ((x : Row) → Contains a x → Contains rows x) → (c : Cause) → Contains (column_causes (over a [])) c
      → Contains (column_causes (over rows causes)) c ⊎ (c ≡ rows_cause node) × (max_rows < length a)
  reduction-part a rows causes among c h = by (reduction-cases node t reduction)
    where
      by : (t ≡ Tree.len) ⊎ IsAggregate node t → Contains (column_causes (over rows causes)) c ⊎ (c ≡ rows_cause node) × (max_rows < length a)
      by (inl e) = inr (height-causes node s a c (subst (λ t. Contains (column_causes (eval node (table_with s a []) t)) c) e h))
      by (inr g) =
          let j = kind-of-taken g.aggregation s g.taken (subst IsReduction g.is reduction) (subst (HasKind s) g.is k) in
          let f : List (List Value) → Column = λ vs. aggregate_column node g.aggregation (kind_over s g.taken) (operand 0 vs) in
          let one = λ (vs : List (List Value)). g.gives (kind_over s g.taken) (operand 0 vs) in
          let there = causes-from f one (eval node (table_with s a []) g.taken) c (subst (λ t. Contains (column_causes (eval node (table_with s a []) t)) c) g.is h) in
          inl (subst (λ t. Contains (column_causes (eval node (table_with s rows causes) t)) c) (sym g.is) (causes-into f one (eval node (table_with s rows causes) g.taken) c (taken-part node s g.taken g.reduced j a rows causes among c there)))

  -- over rows that nothing ended it finds the one cause of an elementwise expression, or these are too many
  pub reduction-strict : (a : List Row) (c : Cause) → Contains (column_causes (over a [])) c → (c ≡ strict_cause node) ⊎ (c ≡ rows_cause node) × (max_rows < length a)
  reduction-strict a c h = by (reduction-cases node t reduction)
    where
      by : (t ≡ Tree.len) ⊎ IsAggregate node t → (c ≡ strict_cause node) ⊎ (c ≡ rows_cause node) × (max_rows < length a)
      by (inl e) = inr (height-causes node s a c (subst (λ t. Contains (column_causes (eval node (table_with s a []) t)) c) e h))
      by (inr g) =
          let j = kind-of-taken g.aggregation s g.taken (subst IsReduction g.is reduction) (subst (HasKind s) g.is k) in
          let f : List (List Value) → Column = λ vs. aggregate_column node g.aggregation (kind_over s g.taken) (operand 0 vs) in
          let one = λ (vs : List (List Value)). g.gives (kind_over s g.taken) (operand 0 vs) in
          inl (taken-strict node s g.taken g.reduced j a c (causes-from f one (eval node (table_with s a []) g.taken) c (subst (λ t. Contains (column_causes (eval node (table_with s a []) t)) c) g.is h)))

  -- it loses nothing over rows
  pub reduction-loses : (x : Row) (a : List Row) (causes : List Cause) → (over (x ∷ a) causes).lost ≡ []
  reduction-loses x a causes = by (reduction-cases node t reduction)
    where
      by : (t ≡ Tree.len) ⊎ IsAggregate node t → (over (x ∷ a) causes).lost ≡ []
      by (inl e) = subst (λ t. (eval node (table_with s (x ∷ a) causes) t).lost ≡ []) (sym e) (height-lost node (table_with s (x ∷ a) causes))
      by (inr g) =
          let j = kind-of-taken g.aggregation s g.taken (subst IsReduction g.is reduction) (subst (HasKind s) g.is k) in
          let f : List (List Value) → Column = λ vs. aggregate_column node g.aggregation (kind_over s g.taken) (operand 0 vs) in
          let one = λ (vs : List (List Value)). g.gives (kind_over s g.taken) (operand 0 vs) in
          subst (λ t. (eval node (table_with s (x ∷ a) causes) t).lost ≡ []) (sym g.is)
          (lost-of f one (eval node (table_with s (x ∷ a) causes) g.taken) ∙ ap (λ cs. cs ++ []) (taken-loses node s g.taken g.reduced j x a causes))

  -- what it loses over no rows it loses or finds over any, whatever ends these
  pub reduction-lost : (rows : List Row) (causes : List Cause) (c : Cause) → Contains (over [] []).lost c → Contains (over rows causes).lost c ⊎ Contains (column_causes (over rows causes)) c
  reduction-lost rows causes c h = by (reduction-cases node t reduction)
    where
      by : (t ≡ Tree.len) ⊎ IsAggregate node t → Contains (over rows causes).lost c ⊎ Contains (column_causes (over rows causes)) c
      by (inl e) = absurd (none_in_nil c (subst (λ cs. Contains cs c) (height-lost node (table_with s [] [])) (subst (λ t. Contains (eval node (table_with s [] []) t).lost c) e h)))
      by (inr g) = found (taken-lost node s g.taken g.reduced j rows causes c there)
        where
          j : HasKind s g.taken
          j = kind-of-taken g.aggregation s g.taken (subst IsReduction g.is reduction) (subst (HasKind s) g.is k)

          f : List (List Value) → Column
          f vs = aggregate_column node g.aggregation (kind_over s g.taken) (operand 0 vs)

          one : (vs : List (List Value)) → (v : Value) × (f vs ≡ whole_column (v ∷ []))
          one vs = g.gives (kind_over s g.taken) (operand 0 vs)

          of : List Row → List Cause → Column
          of rs cs = eval node (table_with s rs cs) g.taken

          first : Contains (of [] []).lost c ⊎ Contains [] c → Contains (of [] []).lost c
          first (inl x) = x
          first (inr x) = absurd (none_in_nil c x)

          there : Contains (of [] []).lost c
          there = first (among-either (of [] []).lost [] c (subst (λ cs. Contains cs c) (lost-of f one (of [] [])) (subst (λ t. Contains (eval node (table_with s [] []) t).lost c) g.is h)))

          found : Contains (of rows causes).lost c ⊎ Contains (column_causes (of rows causes)) c → Contains (over rows causes).lost c ⊎ Contains (column_causes (over rows causes)) c
          found (inl x) = inl (subst (λ t. Contains (eval node (table_with s rows causes) t).lost c) (sym g.is) (subst (λ cs. Contains cs c) (sym (lost-of f one (of rows causes))) (among-left (of rows causes).lost [] c x)))
          found (inr x) = inr (subst (λ t. Contains (column_causes (eval node (table_with s rows causes) t)) c) (sym g.is) (causes-into f one (of rows causes) c x))

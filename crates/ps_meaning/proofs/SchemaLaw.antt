-- A table that a node may mean has the node's schema.
use Rattle.std.proofs.Common.{◌≡◌, ℕ, ℤ, pos, negsuc, ◌+◌, List, [], ◌∷◌, ◌++◌, refl, sym, ap, subst, ◌∙◌, inl, inr}
use Rattle.std.specs.Prelude.{Bool, true, false, nat_eq, not, ◌&&◌, Option, Some, None, if◌then◌else◌, unwrap_or}
use Rattle.ps_frame.specs.Causes.{Cause, is_empty}
use Rattle.ps_frame.specs.Functions.{Functions, IsLawful}
use Rattle.ps_frame.specs.Tables.{Fields, Frame, Table, no_rows}
use Rattle.ps_meaning.specs.Cases.{Case, Gives, GivesBeforeCut, answer_or_fault, cut_at, cut_by, first_table, if_whole, joined_table, keyed, out_schema, rows_from_end, rows_table, schemas_of, second_table, stream_table, user_table}
use Rattle.ps_frame.specs.Zip.{Zipped}
use Rattle.ps_meaning.specs.Meaning.{Choice, Means, by_case, AllMean, none_mean, more_mean}
use Rattle.ps_meaning.specs.Joins.{front_rows, goes_by_left, join_rows}
use Rattle.ps_meaning.specs.PlanTrees.{PlanTree, PlanTrees}
use Rattle.ps_meaning.specs.Schemas.{first_schema, schema_or_empty, tree_schema, tree_schemas}
use Rattle.ps_meaning.specs.Steps.{Cut, JoinStep, Step, scan, project, select, hstack, filter, slice, sink, row_index, user, sort, union, hconcat, cache, group_by, join, distinct, left_out, step_cut}

pub first-is : (ts : List Table) → (first_table ts).schema ≡ first_schema (schemas_of ts)
first-is [] = refl
first-is (t ∷ ts) = refl

pub if_whole-schema : (s : Fields) (cs : List Cause) (t : Table) → t.schema ≡ s → (if_whole s cs t).schema ≡ s
if_whole-schema s [] t e = e
if_whole-schema s (c ∷ cs) t e = refl

pub cut_at-schema : (offset : ℤ) (n : ℕ) (t : Table) → (cut_at offset n t).schema ≡ t.schema
cut_at-schema (pos offset) n t = refl
cut_at-schema (negsuc k) n t = by (nat_eq n 0)
  where
    by : (b : Bool) → (if b then no_rows t.schema [] else if_whole t.schema t.broken (rows_table t.schema (rows_from_end (k + 1) n t.rows))).schema ≡ t.schema
    by true = refl
    by false = if_whole-schema t.schema t.broken _ refl

pub cut_by-schema : (cut : Cut) (t : Table) → (cut_by cut t).schema ≡ t.schema
cut_by-schema None t = refl
cut_by-schema (Some s) t = cut_at-schema s.0 s.1 t

pub joined-schema : (o : JoinStep) (left right out : Fields) (l r : Zipped) → (joined_table o left right out l r).schema ≡ out
joined-schema o left right out l r = by (goes_by_left o.args.how && (is_empty r.broken && not (is_empty l.broken)))
  where
    front : Table
    front = record { schema = out; rows = front_rows o left right l.rows r.rows; broken = l.broken }

    by : (b : Bool) → (if b then front else if_whole out (l.broken ++ r.broken) (rows_table out (join_rows o left right l.rows r.rows))).schema ≡ out
    by true = refl
    by false = if_whole-schema out (l.broken ++ r.broken) _ refl

module _ (F : Functions) (lawful : IsLawful F) (at : ℕ) where
  answer-schema : (n : ℕ) (f : Frame) (o : Option Frame) → F.answer n f ≡ o → (answer_or_fault at (unwrap_or (F.declared n f.schema) []) o).schema ≡ unwrap_or (F.declared n f.schema) []
  answer-schema n f None e = refl
  answer-schema n f (Some g) e = sym (ap (λ o. unwrap_or o []) (lawful.keeps_schema n f g e))

  pub user-schema : (n : ℕ) (t : Table) → (user_table F at n (unwrap_or (F.declared n t.schema) []) t).schema ≡ unwrap_or (F.declared n t.schema) []
  user-schema n t = by (F.streams n)
    where
      s : Fields
      s = unwrap_or (F.declared n t.schema) []

      by : (b : Bool) → (if b then stream_table F at n (unwrap_or (F.declared n t.schema) []) t else if_whole (unwrap_or (F.declared n t.schema) []) t.broken (answer_or_fault at (unwrap_or (F.declared n t.schema) []) (F.answer n (record { schema = t.schema; rows = t.rows })))).schema ≡ unwrap_or (F.declared n t.schema) []
      by true = refl
      by false = if_whole-schema _ t.broken _ (answer-schema n (record { schema = t.schema; rows = t.rows }) (F.answer n (record { schema = t.schema; rows = t.rows })) refl)

  pub gives-schema : (step : Step) (ts : List Table) (T : Table) → Gives F at step ts T → T.schema ≡ schema_or_empty F step (schemas_of ts)
  gives-schema (scan t None) ts T g = ap (λ (U : Table). U.schema) g
  gives-schema (scan t (Some ns)) ts T g = ap (λ (U : Table). U.schema) g
  gives-schema (project ns) ts T g = ap (λ (U : Table). U.schema) g
  gives-schema (select es) ts T g = ap (λ (U : Table). U.schema) g
  gives-schema (hstack es) ts T g = ap (λ (U : Table). U.schema) g
  gives-schema (filter e) ts T g = ap (λ (U : Table). U.schema) g ∙ first-is ts
  gives-schema (slice offset n) ts T g = ap (λ (U : Table). U.schema) g ∙ cut_at-schema offset n (first_table ts) ∙ first-is ts
  gives-schema (sink payload) ts T g = ap (λ (U : Table). U.schema) g ∙ first-is ts
  gives-schema (row_index name offset) ts T g = ap (λ (U : Table). U.schema) g
  gives-schema (user n) ts T g =
      ap (λ (U : Table). U.schema) g
      ∙ subst (λ (s : Fields). (user_table F at n (unwrap_or (F.declared n s) []) (first_table ts)).schema ≡ unwrap_or (F.declared n s) []) (first-is ts) (user-schema n (first_table ts))
  gives-schema (sort o) ts T g = ap (λ (U : Table). U.schema) g ∙ if_whole-schema _ _ _ refl ∙ first-is ts
  gives-schema (union cut) ts T g = ap (λ (U : Table). U.schema) g
  gives-schema hconcat ts T g = ap (λ (U : Table). U.schema) g
  gives-schema (cache id) ts T g = ap (λ (U : Table). U.schema) g ∙ first-is ts
  gives-schema (group_by o) ts T g = ap (λ (U : Table). U.schema) g.2 ∙ if_whole-schema _ _ _ refl
  gives-schema (join o) ts T g = ap (λ (U : Table). U.schema) g
      ∙ joined-schema o (first_table ts).schema (second_table ts).schema (out_schema F at (join o) ts) (keyed at o.left_on (first_table ts)) (keyed at o.right_on (second_table ts))
  gives-schema (distinct o) ts T g = ap (λ (U : Table). U.schema) g.2 ∙ if_whole-schema _ _ _ refl ∙ first-is ts
  gives-schema (left_out what) ts T g = absurd g

  pub before-schema : (step : Step) (ts : List Table) (T : Table) → GivesBeforeCut F at step ts T → T.schema ≡ schema_or_empty F step (schemas_of ts)
  before-schema step ts T (inl g) = gives-schema step ts T g
  before-schema step ts T (inr l) = ap (λ (U : Table). U.schema) l.3 ∙ gives-schema step ts l.0 l.1

  pub case-schema : (step : Step) (ts : List Table) (T : Table) → Case F at step ts T → T.schema ≡ schema_or_empty F step (schemas_of ts)
  case-schema step ts T k = ap (λ (U : Table). U.schema) k.2 ∙ cut_by-schema (step_cut step) k.0 ∙ before-schema step ts k.0 k.1

module _ (F : Functions) (lawful : IsLawful F) (c : Choice) where
  mutual
    pub means-schema : {t : PlanTree} {T : Table} → Means F c t T → T.schema ≡ tree_schema F t
    means-schema (by_case {at} {step} {below} {Ts} {T} ms k chosen) = case-schema F lawful at step Ts T k ∙ ap (schema_or_empty F step) (all_mean-schemas ms)

    pub all_mean-schemas : {ts : PlanTrees} {Ts : List Table} → AllMean F c ts Ts → schemas_of Ts ≡ tree_schemas F ts
    all_mean-schemas none_mean = refl
    all_mean-schemas (more_mean {t} {ts} {T} {Ts} m ms) = ap (λ s. s ∷ schemas_of Ts) (means-schema m) ∙ ap (λ ss. tree_schema F t ∷ ss) (all_mean-schemas ms)

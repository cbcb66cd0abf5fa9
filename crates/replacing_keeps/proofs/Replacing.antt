-- Further columns, of which one that doesn't go by cell reads all rows of its stream.
use Rattle.std.proofs.Common.{◌≡◌, ◌≢◌, ℕ, zero, suc, ◌<◌, ◌≤◌, ◌^◌, Bool, true, false, ◌&&◌, List, [], ◌∷◌, ◌++◌, length, drop, get_or, Option, Some, None, refl, sym, ap, subst, ◌∙◌, arith}
use Rattle.std.proofs.Math.Seq.{drop-append_seam}
use Rattle.std.proofs.lemmas.List.{get_or-map, length-map}
use Rattle.std.specs.Prelude.{is_some, not}
use Rattle.std.specs.List.{list_all}
use Rattle.ps_frame.specs.Causes.{is_empty}
use Rattle.ps_frame.specs.Eval.{eval}
use Rattle.ps_frame.specs.Frames.{has_distinct_names}
use Rattle.ps_frame.specs.Functions.{Functions}
use Rattle.ps_frame.specs.Tables.{Fields, Table, field_kind}
use Rattle.ps_frame.specs.Trees.{Tree}
use Rattle.ps_frame.specs.Typing.{is_elementwise, is_independent, kind_over}
use Rattle.ps_frame.specs.Zip.{extent_of}
use Rattle.ps_frame.specs.declared.value.DataType.{DataType}
use Rattle.ps_meaning.specs.Schemas.{both as both_of, fields_of, names_of, put_fields}
use Rattle.ps_meaning.specs.Steps.{Name, Named, exprs_of, hstack}
use Rattle.ps_rules.specs.Lowered.{lower_exprs}
use Rattle.ps_rules.specs.Slots.{State, Stream, schema_at}
use Rattle.ps_rowwise.specs.Rows.{GoesByRow}
use Rattle.ps_rowwise.proofs.RowLaws.{cell-each, spreads}
use Rattle.ps_shares.specs.Kept.{IsReady}
use Rattle.ps_shares.proofs.Members.{Has}
use Rattle.ps_shares.proofs.Stands.{HasKind}
use Rattle.ps_bundles.proofs.ExprEnds.{one_of}
use Rattle.plan_rules.specs.Groups.{columns_over}
use Rattle.step_keeps.specs.Kept.{IsKeptStep}
use Rattle.step_keeps.proofs.ByCell.{some_column}
use Rattle.picked_zips.proofs.Members.{has_place}
use Rattle.keyed_calls.specs.Keyed.{KeyedAlike}
use Rattle.keyed_calls.proofs.Alike.{of_named}
use Rattle.rule_parts.proofs.Positions.{AllFollow, answers_follow, columns_first, follow_count}
use Rattle.column_keeps.proofs.Columns.{all_outs, columns_keep, each_out}
use Rattle.column_keeps.proofs.Entries.{at_or}
use Rattle.column_keeps.proofs.Places.{OutsStandForAll, columns_alike, expr, own_unneeded, there}
use Rattle.replacing_keeps.proofs.Reading.{reads_show}

-- an answer that reads its stream: that of an expression that doesn't go by cell
record Reads (es xs : List Tree) : Type 0 where
  m : ℕ
  inside : m < length es
  reads : is_independent (get_or xs m Tree.missing) ≡ false

some_reads : (es xs : List Tree) → AllFollow es xs → list_all is_elementwise es ≡ false → Reads es xs
some_reads [] xs follow h = cc
some_reads (e ∷ es) [] follow h = absurd follow
some_reads (e ∷ es) (x ∷ xs) follow h = by (is_elementwise e) refl h (some_reads es xs follow.1)
  where
    never : (b : Bool) → (b && false) ≡ false
    never true = refl
    never false = refl

    by : (b : Bool) → is_elementwise e ≡ b → (b && list_all is_elementwise es) ≡ false → (list_all is_elementwise es ≡ false → Reads es xs) → Reads (e ∷ es) (x ∷ xs)
    by false q h rest = record { m = 0; inside = omega arith; reads = follow.0.reads (ap (λ b. is_independent e && b) q ∙ never (is_independent e)) }
    by true q h rest =
        let r = rest h in
        let lt = r.inside in
        record { m = suc r.m; inside = omega arith; reads = r.reads }

-- each expression of fields has a kind
kind_at : (es : List Named) (s gs : Fields) → fields_of es s ≡ Some gs → (m : ℕ) → m < length es → is_some (kind_over s (get_or (exprs_of es) m Tree.missing)) ≡ true
kind_at [] s gs e m lt = absurd (omega arith)
kind_at (x ∷ es) s gs e m lt = by (kind_over s x.1) refl (fields_of es s) e m lt (λ rest r k lt'. kind_at es s rest r k lt')
  where
    by : (o : Option DataType) → kind_over s x.1 ≡ o → (r : Option Fields) → both_of (λ (k : DataType) (fs : Fields). (x.0, k) ∷ fs) o r ≡ Some gs → (m : ℕ) → m < suc (length es) → ((rest : Fields) → r ≡ Some rest → (k : ℕ) → k < length es → is_some (kind_over s (get_or (exprs_of es) k Tree.missing)) ≡ true)
        → is_some (kind_over s (get_or (x.1 ∷ exprs_of es) m Tree.missing)) ≡ true
    by None q None e m lt more = cc
    by None q (Some r) e m lt more = cc
    by (Some k) q None e m lt more = cc
    by (Some k) q (Some r) e zero lt more = ap is_some q
    by (Some k) q (Some r) e (suc m) lt more = more r refl m (omega arith)

module _ (at : ℕ) (es : List Named) (xs : List Tree) (gs : Fields) (t z : Table) (alike : KeyedAlike at (names_of t.schema) (exprs_of es) xs t z) (fields : fields_of es t.schema ≡ Some gs) (distinct : has_distinct_names t.schema ≡ true) (apart : has_distinct_names gs ≡ true) (count : length xs ≡ length es)
    (follow : AllFollow (exprs_of es) xs) (cells : list_all is_elementwise (exprs_of es) ≡ false) where
  r : Reads (exprs_of es) xs
  r = some_reads (exprs_of es) xs follow cells

  abbrev x : Tree
  x = get_or xs r.m Tree.missing

  here : r.m < length es
  here = subst (λ n. r.m < n) (length-map es (λ (e : Named). e.1)) r.inside

  there_too : r.m < length xs
  there_too = subst (λ n. r.m < n) (sym count) here

  plain : is_elementwise x ≡ true
  plain = one_of (λ e. is_elementwise e ≡ true) xs x alike.elementwise (has_place xs r.m Tree.missing there_too)

  kind : is_some (kind_over z.schema x) ≡ true
  kind =
      ap is_some (
      sym (get_or-map (kind_over z.schema) xs r.m Tree.missing None there_too)
      ∙ ap (λ ks. get_or ks r.m None) alike.kinds
      ∙ get_or-map (kind_over t.schema) (exprs_of es) r.m Tree.missing None r.inside
      )
      ∙ kind_at es t.schema gs fields r.m here

  goes : GoesByRow z.schema x
  goes = record { elementwise = plain; reads_input = r.reads; kind = kind }

  extent : extent_of (eval at z x) ≡ record { ended = not (is_empty z.broken); len = length z.rows }
  extent = let e = (spreads at z x goes).1 in let l = cell-each at z x goes in λ i. record { ended = e i; len = l i }

  pub reading_stands : OutsStandForAll at es gs xs t z
  reading_stands =
      let out = names_of (put_fields t.schema gs) in
      let same : (n : Name) → HasKind t.schema n → field_kind n z.schema ≡ field_kind n t.schema = λ n h. of_named (λ n. field_kind n z.schema ≡ field_kind n t.schema) t.schema n h alike.same_kinds in
      let all = all_outs es t.schema gs fields distinct apart in
      let n = each_out es t.schema gs fields apart r.m here in
      let is : expr es t.schema z.schema xs count same at z refl n.0 ≡ x = ap (λ o. at_or (λ m. get_or xs m Tree.missing) (Tree.column n.0) o) n.2 in
      let column = there es t.schema z.schema xs count same at z refl out all n.0 n.1 in
      columns_alike es t.schema z.schema xs count same at z refl out all (each_out es t.schema gs fields apart)
      (own_unneeded es t.schema z.schema xs count same at z refl out all (eval at z (expr es t.schema z.schema xs count same at z refl n.0)) column (ap (λ e. extent_of (eval at z e)) is ∙ extent)
      (λ c h. subst (λ e. Has (eval at z e).broken c) (sym is) (reads_show at z c h x plain r.reads)))

pub replacing_columns_keep : (F : Functions) (at : ℕ) (s : State) (i : Stream) (es : List Named) (gs : Fields) → list_all is_elementwise (exprs_of es) ≡ false → schema_at s.nodes i ≢ [] → fields_of es (schema_at s.nodes i) ≡ Some gs → has_distinct_names gs ≡ true
    → let asked = columns_over i s ++ exprs_of es in IsReady s i asked → (lower_exprs at i asked s).state.names.next ≤ 2 ^ 64 → IsKeptStep F at (hstack es) (put_fields (schema_at s.nodes i) gs) (i ∷ []) s
replacing_columns_keep F at s i es gs cells some fields apart ready low =
    let columns = columns_over i s in
    let a = lower_exprs at i (columns ++ exprs_of es) s in
    let xs = drop (length columns) a.exprs in
    let p = answers_follow at i (columns ++ exprs_of es) s (some_column (schema_at s.nodes i) (exprs_of es) some) in
    let q = columns_first (names_of (schema_at s.nodes i)) (exprs_of es) p.news p.follow in
    let is : q.news ≡ xs = sym (drop-append_seam columns q.news) ∙ sym (ap (drop (length columns)) (p.exprs ∙ q.exprs)) in
    let follow : AllFollow (exprs_of es) xs = subst (AllFollow (exprs_of es)) is q.follow in
    let count : length xs ≡ length es = follow_count (exprs_of es) xs follow ∙ length-map es (λ (e : Named). e.1) in
    columns_keep F at s i es gs cells some fields apart ready low (λ t z same alike distinct. reading_stands at es xs gs t z alike (ap (fields_of es) same ∙ fields) distinct apart count follow cells)

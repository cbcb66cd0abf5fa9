-- What a reduce finds over a part of the rows is shown over all of them.
use Rattle.std.proofs.Common.{◌≡◌, ℕ, ◌<◌, ◌⊎◌, List, [], ◌∷◌, ◌++◌, length, refl, sym, ap, subst, ◌∙◌, inl, inr, arith}
use Rattle.std.proofs.lemmas.Bool.{cases_eq}
use Rattle.std.specs.Prelude.{◌≢◌, Bool, false, true, Contains, flat_map, is_some, nat_lt, IsTrue}
use Rattle.ps_frame.specs.declared.value.DataFault.{DataFault}
use Rattle.ps_frame.specs.declared.value.DataFault.TheVariants as fault
use Rattle.std.specs.List.{AllByRecursion, list_all}
use Rattle.ps_frame.specs.Aggregates.{max_rows}
use Rattle.ps_frame.specs.Causes.{Cause, Column, column_causes}
use Rattle.ps_frame.specs.Eval.{eval}
use Rattle.ps_frame.specs.Functions.{Functions}
use Rattle.ps_frame.specs.Tables.{Fields, Row, Table, no_rows}
use Rattle.ps_frame.specs.Trees.{Tree}
use Rattle.ps_frame.specs.Typing.{kind_over}
use Rattle.ps_frame.specs.Zip.{Zipped, zipped}
use Rattle.ps_meaning.specs.Cases.{GivesBeforeCut, rows_table, columns_at, out_schema, table_of}
use Rattle.ps_meaning.specs.Shape.{PhysicalKind, PhysicalNode, reduce}
use Rattle.ps_meaning.specs.Sound.{AreReductions, IsReduction, have_all_kinds}
use Rattle.ps_meaning.specs.Steps.{Named, exprs_of, select}
use Rattle.ps_rowwise.specs.Rows.{HasKind}
use Rattle.ps_rowwise.proofs.ByRow.{both}
use Rattle.passing_laws.proofs.Shows.{among-left, among-right}
use Rattle.passing_laws.proofs.ZipPieces.{table_with}
use Rattle.ps_turns.specs.Results.{IsBrokenOver, rows_fault}
use Rattle.part_laws.specs.Parts.{AreTooMany, BreaksOver, IsShownOver, ShowsParts, strict_cause}
use Rattle.part_laws.proofs.Members.{all-at, in-flat, out-flat, out-map}
use Rattle.part_laws.proofs.Reductions.{reduction-loses, reduction-lost, reduction-part, reduction-single, reduction-strict, rows_cause}
use Rattle.part_laws.proofs.Singles.{AreSingle, broken-by, broken-from, lost-are, one-row}
use Rattle.world_laws.proofs.InOrder.{contains_map, none_in_nil}

-- a reduction of a kind
pub record IsOfKind (s : Fields) (t : Tree) : Type 0 where
  pub reduction : IsReduction t
  pub kind : HasKind s t

pub of-kinds : (s : Fields) (es : List Tree) → AreReductions es → IsTrue (have_all_kinds s es) → AllByRecursion (IsOfKind s) es
of-kinds s [] h k = tt
of-kinds s (e ∷ es) h k =
    let q = both (is_some (kind_over s e)) (list_all (λ e. is_some (kind_over s e)) es) k in
    (record { reduction = h.0; kind = q.0 }, of-kinds s es h.1 q.1)

module _ (node : ℕ) (s : Fields) (es : List Tree) (known : AllByRecursion (IsOfKind s) es) where
  abbrev pub columns_over : List Row → List Cause → List Column
  columns_over rows causes = columns_at node es (table_with s rows causes)

  pub columns-single : (rows : List Row) (causes : List Cause) → AreSingle (columns_over rows causes)
  columns-single rows causes = each es known
    where
      each : (es : List Tree) → AllByRecursion (IsOfKind s) es → AreSingle (columns_at node es (table_with s rows causes))
      each [] all = tt
      each (e ∷ es) all = (reduction-single node e all.0.reduction (table_with s rows causes), each es all.1)

  -- an expression whose column over these rows has it
  column-of : {B : Type 0} (f : Column → List B) (rows : List Row) (causes : List Cause) (c : B) → Contains (flat_map f (columns_over rows causes)) c → (e : Tree) × Contains es e × Contains (f (eval node (table_with s rows causes) e)) c
  column-of f rows causes c h =
      let d = out-flat f (columns_over rows causes) c h in
      let e = out-map (λ e. eval node (table_with s rows causes) e) es d.0 d.1 in
      (e.0, e.1, subst (λ col. Contains (f col) c) (sym e.2) d.2)

  of-column : {B : Type 0} (f : Column → List B) (rows : List Row) (causes : List Cause) (c : B) (e : Tree) → Contains es e → Contains (f (eval node (table_with s rows causes) e)) c → Contains (flat_map f (columns_over rows causes)) c
  of-column f rows causes c e there h = in-flat f (columns_over rows causes) (eval node (table_with s rows causes) e) c (contains_map (λ e. eval node (table_with s rows causes) e) e es there) h

  -- The causes of the columns over some of the rows are causes over all, or there are too many.
  pub causes-part : (a rows : List Row) (causes : List Cause) → ((x : Row) → Contains a x → Contains rows x) → (c : Cause) → Contains (flat_map column_causes (columns_over a [])) c
      → Contains (flat_map column_causes (columns_over rows causes)) c ⊎ (c ≡ rows_cause node) × (max_rows < length a)
  causes-part a rows causes among c h = by (reduction-part node s e.0 k.reduction k.kind a rows causes among c e.2)
    where
      e : (e : Tree) × Contains es e × Contains (column_causes (eval node (table_with s a []) e)) c
      e = column-of column_causes a [] c h

      k : IsOfKind s e.0
      k = all-at (IsOfKind s) es e.0 known e.1

      by : Contains (column_causes (eval node (table_with s rows causes) e.0)) c ⊎ (c ≡ rows_cause node) × (max_rows < length a) → Contains (flat_map column_causes (columns_over rows causes)) c ⊎ (c ≡ rows_cause node) × (max_rows < length a)
      by (inl x) = inl (of-column column_causes rows causes c e.0 e.1 x)
      by (inr x) = inr x

  -- over rows that nothing ended they are the one cause of an elementwise expression, or there are too many rows
  pub causes-strict : (a : List Row) (c : Cause) → Contains (flat_map column_causes (columns_over a [])) c → (c ≡ strict_cause node) ⊎ (c ≡ rows_cause node) × (max_rows < length a)
  causes-strict a c h =
      let e = column-of column_causes a [] c h in
      let k = all-at (IsOfKind s) es e.0 known e.1 in
      reduction-strict node s e.0 k.reduction k.kind a c e.2

  -- what they lose over no rows they lose or find over any
  pub lost-none : (rows : List Row) (causes : List Cause) (c : Cause) → Contains (flat_map (λ (d : Column). d.lost) (columns_over [] [])) c
      → Contains (flat_map (λ (d : Column). d.lost) (columns_over rows causes)) c ⊎ Contains (flat_map column_causes (columns_over rows causes)) c
  lost-none rows causes c h = by (reduction-lost node s e.0 k.reduction k.kind rows causes c e.2)
    where
      e : (e : Tree) × Contains es e × Contains (eval node (table_with s [] []) e).lost c
      e = column-of (λ (d : Column). d.lost) [] [] c h

      k : IsOfKind s e.0
      k = all-at (IsOfKind s) es e.0 known e.1

      by : Contains (eval node (table_with s rows causes) e.0).lost c ⊎ Contains (column_causes (eval node (table_with s rows causes) e.0)) c
          → Contains (flat_map (λ (d : Column). d.lost) (columns_over rows causes)) c ⊎ Contains (flat_map column_causes (columns_over rows causes)) c
      by (inl x) = inl (of-column (λ (d : Column). d.lost) rows causes c e.0 e.1 x)
      by (inr x) = inr (of-column column_causes rows causes c e.0 e.1 x)

  -- over rows they lose nothing
  pub loses-none : (x : Row) (a : List Row) (causes : List Cause) → flat_map (λ (d : Column). d.lost) (columns_over (x ∷ a) causes) ≡ []
  loses-none x a causes = each es known
    where
      each : (es : List Tree) → AllByRecursion (IsOfKind s) es → flat_map (λ (d : Column). d.lost) (columns_at node es (table_with s (x ∷ a) causes)) ≡ []
      each [] all = refl
      each (e ∷ es) all = ap (λ cs. cs ++ flat_map (λ (d : Column). d.lost) (columns_at node es (table_with s (x ∷ a) causes))) (reduction-loses node s e all.0.reduction all.0.kind x a causes) ∙ each es all.1

  -- side by side
  abbrev pub zip : List Row → List Cause → Zipped
  zip rows causes = zipped false node (columns_over rows causes)

  pub zip-part : (a rows : List Row) (causes : List Cause) → ((x : Row) → Contains a x → Contains rows x) → (c : Cause) → Contains (zip a []).broken c → Contains (zip rows causes).broken c ⊎ (c ≡ rows_cause node) × (max_rows < length a)
  zip-part a rows causes among c h = by (causes-part a rows causes among c (broken-from node (columns_over a []) (columns-single a []) c h))
    where
      by : Contains (flat_map column_causes (columns_over rows causes)) c ⊎ (c ≡ rows_cause node) × (max_rows < length a) → Contains (zip rows causes).broken c ⊎ (c ≡ rows_cause node) × (max_rows < length a)
      by (inl x) = inl (broken-by node (columns_over rows causes) (columns-single rows causes) c x)
      by (inr x) = inr x

  pub zip-lost : (a rows : List Row) (causes : List Cause) (c : Cause) → Contains (zip a []).lost c → Contains (zip rows causes).lost c ⊎ Contains (zip rows causes).broken c
  zip-lost a rows causes c h = of a (subst (λ cs. Contains cs c) (lost-are node (columns_over a []) (columns-single a [])) h)
    where
      by : Contains (flat_map (λ (d : Column). d.lost) (columns_over rows causes)) c ⊎ Contains (flat_map column_causes (columns_over rows causes)) c → Contains (zip rows causes).lost c ⊎ Contains (zip rows causes).broken c
      by (inl x) = inl (subst (λ cs. Contains cs c) (sym (lost-are node (columns_over rows causes) (columns-single rows causes))) x)
      by (inr x) = inr (broken-by node (columns_over rows causes) (columns-single rows causes) c x)

      of : (a : List Row) → Contains (flat_map (λ (d : Column). d.lost) (columns_over a [])) c → Contains (zip rows causes).lost c ⊎ Contains (zip rows causes).broken c
      of [] x = by (lost-none rows causes c x)
      of (r ∷ a) x = absurd (none_in_nil c (subst (λ cs. Contains cs c) (loses-none r a []) x))

-- a part of the rows is among all
pub part-among : (front a rest : List Row) (x : Row) → Contains a x → Contains (front ++ (a ++ rest)) x
part-among front a rest x h = among-right front (a ++ rest) x (among-left a rest x h)

-- over each table by itself
abbrev pub ShowsEach : Functions → PhysicalNode → Fields → Type 0
ShowsEach F p s = (front a rest : List Row) (causes : List Cause) (c : Cause) → IsBrokenOver F p (rows_table s a ∷ []) c → IsShownOver F p (record { schema = s; rows = front ++ (a ++ rest); broken = causes }) a c

is-rows : (f : DataFault) → (f ≡ fault.Rows) ⊎ (f ≢ fault.Rows)
is-rows fault.Rows = inl refl
is-rows fault.StrictCast = inr (λ e. cc)
is-rows fault.SliceBound = inr (λ e. cc)
is-rows fault.Function = inr (λ e. cc)
is-rows fault.Shape = inr (λ e. cc)
is-rows fault.RowIndex = inr (λ e. cc)
is-rows fault.Gather = inr (λ e. cc)

same-cause : (c : Cause) (f : DataFault) (n : ℕ) → c.fault ≡ f → c.node ≡ n → c ≡ record { fault = f; node = n }
same-cause c f n e g = λ i. record { fault = e i; node = g i }

is-fault : (p : PhysicalNode) (c : Cause) → (c ≡ rows_fault p) ⊎ (c ≢ rows_fault p)
is-fault p c = by (is-rows c.fault) (cases_eq c.node p.origin)
  where
    by : (c.fault ≡ fault.Rows) ⊎ (c.fault ≢ fault.Rows) → (c.node ≡ p.origin) ⊎ (c.node ≡ p.origin → ⊥) → (c ≡ rows_fault p) ⊎ (c ≢ rows_fault p)
    by (inl e) (inl g) = inl (same-cause c fault.Rows p.origin e g)
    by (inr e) g = inr (λ q. e (ap (λ (d : Cause). d.fault) q))
    by e (inr g) = inr (λ q. g (ap (λ (d : Cause). d.node) q))

over-limit : (m n : ℕ) → nat_lt m n ≡ true → m < n
over-limit m n h = grind arith

not-over : (m n : ℕ) → nat_lt m n ≡ false → m < n → ⊥
not-over m n h k = grind arith

-- whether there are too many rows depends on the part alone
pub at-once : (F : Functions) (p : PhysicalNode) (s : Fields) → ShowsEach F p s → ShowsParts F p s
at-once F p s each a c m = by (is-fault p c) (nat_lt max_rows (length a)) refl
  where
    shown : (AreTooMany p a c → ⊥) → (front rest : List Row) (causes : List Cause) → IsShownOver F p (table_with s (front ++ (a ++ rest)) causes) a c → BreaksOver F p (table_with s (front ++ (a ++ rest)) causes) c
    shown never front rest causes (inl x) = x
    shown never front rest causes (inr x) = absurd (never x)

    all : (AreTooMany p a c → ⊥) → (front rest : List Row) (causes : List Cause) → BreaksOver F p (table_with s (front ++ (a ++ rest)) causes) c
    all never front rest causes = shown never front rest causes (each front a rest causes c m)

    by : (c ≡ rows_fault p) ⊎ (c ≢ rows_fault p) → (b : Bool) → nat_lt max_rows (length a) ≡ b → ((front rest : List Row) (causes : List Cause) → BreaksOver F p (record { schema = s; rows = front ++ (a ++ rest); broken = causes }) c) ⊎ AreTooMany p a c
    by (inl e) true q = inr (e, over-limit max_rows (length a) q)
    by (inl e) false q = inl (all (λ x. not-over max_rows (length a) q x.1))
    by (inr e) b q = inl (all (λ x. e x.0))

reduces : (F : Functions) (p : PhysicalNode) (s : Fields) (es : List Named) → AllByRecursion (IsOfKind s) (exprs_of es) → ShowsEach F (record p { kind = reduce es }) s
reduces F p s es known front a rest causes c (U, g, h) = by g h
  where
    node : ℕ
    node = p.origin

    rows : List Row
    rows = front ++ (a ++ rest)

    o : Fields
    o = out_schema F p.origin (select es) (table_with s rows causes ∷ [])

    q : PhysicalNode
    q = record p { kind = reduce es }

    z : List Row → List Cause → Zipped
    z = zip p.origin s (exprs_of es) known

    given : Table
    given = table_of o (λ rows. rows) (z rows causes)

    broken : Contains (z rows causes).broken c → IsShownOver F q (table_with s rows causes) a c
    broken x = inl (given, inl refl, x)

    lost : Contains (z rows causes).lost c → IsShownOver F q (table_with s rows causes) a c
    lost x = inl (no_rows o (z rows causes).lost, inr (given, refl, (λ e. none_in_nil c (subst (λ cs. Contains cs c) e x)), refl), x)

    of-broken : Contains (z rows causes).broken c ⊎ (c ≡ rows_cause p.origin) × (max_rows < length a) → IsShownOver F q (table_with s rows causes) a c
    of-broken (inl x) = broken x
    of-broken (inr x) = inr x

    of-lost : Contains (z rows causes).lost c ⊎ Contains (z rows causes).broken c → IsShownOver F q (table_with s rows causes) a c
    of-lost (inl x) = lost x
    of-lost (inr x) = broken x

    by : GivesBeforeCut F p.origin (select es) (table_with s a [] ∷ []) U → Contains U.broken c ⊎ (max_rows < length U.rows) × (c ≡ rows_fault q) → IsShownOver F q (table_with s rows causes) a c
    by (inl e) (inl x) = of-broken (zip-part p.origin s (exprs_of es) known a rows causes (part-among front a rest) c (subst (λ (t : Table). Contains t.broken c) e x))
    by (inr (W, g, l, e)) (inl x) = of-lost (zip-lost p.origin s (exprs_of es) known a rows causes c (subst (λ (t : Table). Contains t.broken c) e x))
    by (inl e) (inr x) =
        let one = one-row p.origin (columns_at p.origin (exprs_of es) (table_with s a [])) (columns-single p.origin s (exprs_of es) known a []) in
        let k = ap (λ (t : Table). length t.rows) e in
        absurd (omega (arith, x.0))
    by (inr (W, g, l, e)) (inr x) = let k = ap (λ (t : Table). length t.rows) e in absurd (omega (arith, x.0))

pub reduces-show : (F : Functions) (p : PhysicalNode) (s : Fields) (es : List Named) → p.kind ≡ reduce es → AreReductions (exprs_of es) → IsTrue (have_all_kinds s (exprs_of es)) → ShowsParts F p s
reduces-show F p s es is h k = subst (λ (kd : PhysicalKind). ShowsParts F (record p { kind = kd }) s) (sym is) (at-once F (record p { kind = reduce es }) s (reduces F p s es (of-kinds s (exprs_of es) h k)))

-- What a call does at an expression that stays, or that is left to a map or to the reduce of the input.
use Rattle.std.proofs.Common.{◌≡◌, ◌≢◌, ◌⊎◌, inl, inr, ℕ, ◌≤◌, ◌^◌, Bool, true, false, not, cond, List, [], ◌∷◌, ◌++◌, length, get_or, Some, None, refl, sym, ap, subst, ◌∙◌}
use Rattle.std.specs.Prelude.{IsTrue, Option, flat_map, is_some, map, ◌==◌, ◌||◌}
use Rattle.std.specs.Cmp.Lexicographic.{bytes_decides}
use Rattle.std.specs.List.{AllByRecursion, list_any}
use Rattle.std.specs.Str.{bytes_eq}
use Rattle.std.proofs.lemmas.Bool.{eqb-true}
use Rattle.std.proofs.lemmas.Grind.{flat_map-append}
use Rattle.std.proofs.lemmas.List.{length-map}
use Rattle.ps_frame.specs.Causes.{Cause, Column, value, is_empty}
use Rattle.ps_frame.specs.Eval.{eval}
use Rattle.ps_frame.specs.Frames.{has_distinct_names}
use Rattle.ps_frame.specs.Functions.{Functions}
use Rattle.ps_frame.specs.Tables.{Fields, Table, column_at, field_index, field_kind, table_column, values_at, values_at_some}
use Rattle.ps_frame.specs.Trees.{Tree}
use Rattle.ps_frame.specs.Typing.{is_elementwise, is_independent, kind_over}
use Rattle.ps_frame.specs.Zip.{extent_of, extents}
use Rattle.ps_frame.specs.declared.value.DataType.{DataType}
use Rattle.ps_frame.proofs.NamePlaces.{is_some-position}
use Rattle.ps_frame.specs.declared.value.Value.{Value}
use Rattle.ps_frame.specs.declared.value.Value.TheVariants as val
use Rattle.ps_meaning.specs.Cases.{columns_at}
use Rattle.ps_meaning.specs.Schemas.{expr_names, is_among, names_of}
use Rattle.ps_meaning.specs.Shape.{IsPhysicalChoice, Shape}
use Rattle.ps_meaning.specs.Steps.{Name, Named}
use Rattle.ps_rules.specs.Calls.{Call, left_to_map}
use Rattle.ps_rules.specs.Names.{IsKnown, Names}
use Rattle.ps_rules.specs.Rules.{stays, stays_or}
use Rattle.ps_rules.specs.Slots.{State, Stream, added, after_name, columns_named, new_name, same_stream}
use Rattle.ps_rules.proofs.Free.{fresh_known}
use Rattle.ps_shares.specs.Leaves.{AtLeaves, all_leaves, leaves, eval_with, put_back, stands_for}
use Rattle.ps_shares.proofs.Adding.{Adds, AreNodes, added_nodes, adds_same}
use Rattle.ps_shares.proofs.Ends.{has_first, leaves_show_in}
use Rattle.ps_shares.proofs.Fresh.{Grown, grown_fresh, grown_same}
use Rattle.ps_shares.proofs.FlatLength.{both_hold}
use Rattle.ps_shares.proofs.InputShares.{inputs_share}
use Rattle.ps_shares.proofs.KeySorts.{from, own_places, placed_columns}
use Rattle.ps_shares.proofs.Leaves.{put_none, puts_back}
use Rattle.ps_shares.proofs.Members.{Has}
use Rattle.ps_shares.proofs.Named.{at_all, at_leaf, table_extent}
use Rattle.ps_shares.proofs.Stands.{HasKind, map_two, put_same, typed_reads}
use Rattle.ps_shares.proofs.Stepped.{those_at}
use Rattle.ps_shares.proofs.Projected.{kind_as, named_as}
use Rattle.ps_bundles.proofs.Gathered.{Col, Covered, Extends, Gathered, IsFine, IsItem, IsNarrow, IsRead, IsStream, Kind, OnlyKnown, Stands, all_map, among_all, back_later, extends_fresh, extends_same, has_last, items_later, named, only_fresh, own_named, own_stands, streams_later}
use Rattle.ps_bundles.proofs.NewNodes.{AllOf, Inside, KnownOf, New, new_none}
use Rattle.ps_bundles.proofs.Reading.{among_first, among_last, among_or, at_leaves, kinds_own, or_first, or_last, reads_none, some_name}
use Rattle.ps_bundles.proofs.ZipEnds.{differ, inputs_end}

pub all_and : {A : Type 0} (P : A → Type 0) (xs ys : List A) → AllByRecursion P xs → AllByRecursion P ys → AllByRecursion P (xs ++ ys)
all_and P [] ys p q = q
all_and P (x ∷ xs) ys p q = (p.0, all_and P xs ys p.1 q)

-- a stream that is added
pub all_added_one : (P : Stream → Type 0) (i : Stream) (ss : List Stream) → P i → AllByRecursion P ss → AllByRecursion P (added i ss)
all_added_one P i ss p all = by (list_any (same_stream i) ss)
  where
    by : (b : Bool) → AllByRecursion P (cond b ss (ss ++ i ∷ []))
    by true = all
    by false = all_and P ss (i ∷ []) all (p, tt)

module _ (at : ℕ) (input : Stream) (tables : ℕ → Table) where
  abbrev pub names_in : List Stream → List Name
  names_in ss = flat_map (λ (i : Stream). names_of (tables i.0).schema) ss

  same_table : (i : Stream) (n : Name) (ss : List Stream) → list_any (same_stream i) ss ≡ true → is_among n (names_of (tables i.0).schema) ≡ true → is_among n (names_in ss) ≡ true
  same_table i n [] h k = absurd (differ (sym h))
  same_table i n (j ∷ ss) h k = by (same_stream i j) refl (λ q. same_table i n ss q k)
    where
      by : (b : Bool) → same_stream i j ≡ b → (list_any (same_stream i) ss ≡ true → is_among n (names_in ss) ≡ true) → is_among n (names_of (tables j.0).schema ++ names_in ss) ≡ true
      by true q rest =
          let e : i.0 ≡ j.0 = eqb-true i.0 j.0 (both_hold (i.0 == j.0) (i.1 == j.1) q).0 in
          among_first n (names_of (tables j.0).schema) (names_in ss) (ap (λ m. is_among n (names_of (tables m).schema)) (sym e) ∙ k)
      by false q rest = among_last n (names_of (tables j.0).schema) (names_in ss) (rest (sym (ap (λ b. b || list_any (same_stream i) ss) q) ∙ h))

  -- the names of a stream that is added stand, and those of the others
  pub added_stands : (i : Stream) (ss : List Stream) (n : Name) → is_among n (names_of (tables i.0).schema) ≡ true → is_among n (names_in (added i ss)) ≡ true
  added_stands i ss n h = by (list_any (same_stream i) ss) refl
    where
      by : (b : Bool) → list_any (same_stream i) ss ≡ b → is_among n (names_in (cond b ss (ss ++ i ∷ []))) ≡ true
      by true q = same_table i n ss q h
      by false q =
          ap (is_among n) (flat_map-append (λ (i : Stream). names_of (tables i.0).schema) ss (i ∷ []))
          ∙ among_last n (names_in ss) (names_of (tables i.0).schema ++ []) (among_first n (names_of (tables i.0).schema) [] h)

  pub others_stand : (i : Stream) (ss : List Stream) (n : Name) → is_among n (names_in ss) ≡ true → is_among n (names_in (added i ss)) ≡ true
  others_stand i ss n h = by (list_any (same_stream i) ss)
    where
      by : (b : Bool) → is_among n (names_in (cond b ss (ss ++ i ∷ []))) ≡ true
      by true = h
      by false = ap (is_among n) (flat_map-append (λ (i : Stream). names_of (tables i.0).schema) ss (i ∷ [])) ∙ among_first n (names_in ss) (names_of (tables i.0).schema ++ []) h

  -- where more stands, what stood does
  pub stands_more : (ss us : List Stream) (rs rs' mp mp' : List Named) → ((n : Name) → is_among n (names_in ss) ≡ true → is_among n (names_in us) ≡ true)
      → ((n : Name) → is_among n (expr_names rs) ≡ true → is_among n (expr_names rs') ≡ true) → ((n : Name) → is_among n (expr_names mp) ≡ true → is_among n (expr_names mp') ≡ true)
      → (n : Name) → Stands at input tables ss rs mp n → Stands at input tables us rs' mp' n
  stands_more ss us rs rs' mp mp' f g k n h = by (among_or n (names_in ss) (expr_names rs ++ expr_names mp) h)
    where
      rest : (is_among n (expr_names rs) ≡ true) ⊎ (is_among n (expr_names mp) ≡ true) → is_among n (expr_names rs' ++ expr_names mp') ≡ true
      rest (inl r) = among_first n (expr_names rs') (expr_names mp') (g n r)
      rest (inr r) = among_last n (expr_names rs') (expr_names mp') (k n r)

      by : (is_among n (names_in ss) ≡ true) ⊎ (is_among n (expr_names rs ++ expr_names mp) ≡ true) → Stands at input tables us rs' mp' n
      by (inl r) = among_first n (names_in us) (expr_names rs' ++ expr_names mp') (f n r)
      by (inr r) = among_last n (names_in us) (expr_names rs' ++ expr_names mp') (rest (among_or n (expr_names rs) (expr_names mp) r))

  -- One expression more.
  pub gathered_more : (ms more : List Named) (asked : List Tree) (causes : List Cause) (a b : State) (ss us : List Stream) (rs rs' mp mp' : List Named) (es : List Tree) (e new : Tree)
      → Gathered at input tables ms asked causes a ss rs es mp → Extends at input tables a.names ms more → Grown a.names b.names → Adds a.nodes b.nodes
      → put_back more new ≡ e → is_elementwise new ≡ true → AtLeaves (IsRead at input tables more b.names) new → AtLeaves (Stands at input tables us rs' mp') new
      → ((n : Name) → Stands at input tables ss rs mp n → Stands at input tables us rs' mp' n)
      → AllByRecursion (IsStream at input tables more (es ++ new ∷ []) causes b.names b.nodes) us → AreNodes b.nodes us
      → AllByRecursion (IsItem at input tables more (es ++ new ∷ []) causes b.names) rs' → AllByRecursion (λ (m : Named). IsNarrow at input tables (eval at (tables input.0) m.1)) rs'
      → AllByRecursion (IsItem at input tables more (es ++ new ∷ []) causes b.names) mp' → AllByRecursion (λ (m : Named). Has (asked ++ e ∷ []) m.1) mp' → OnlyKnown at input tables more b.names
      → Gathered at input tables more (asked ++ e ∷ []) causes b us rs' (es ++ new ∷ []) mp'
  gathered_more ms more asked causes a b ss us rs rs' mp mp' es e new h x g d put plain known stand old streams nodes reduced narrow mapped asked_for only =
      record {
        back =
            map_two (put_back more) es (new ∷ [])
            ∙ (λ i. (back_later at input tables a b ms more g d x es [] h.names_known ∙ h.back) i ++ put i ∷ []);
        plain = all_and (λ e. IsTrue (is_elementwise e)) es (new ∷ []) h.plain (plain, tt);
        names_known = all_and (AtLeaves (IsKnown b.names)) es (new ∷ []) (at_all (IsKnown a.names) (IsKnown b.names) g.0 es h.names_known) (at_leaf (IsRead at input tables more b.names) (IsKnown b.names) (λ n k. k.0) new known, tt);
        names_named = all_and (AtLeaves (IsRead at input tables more b.names)) es (new ∷ []) (at_all (IsRead at input tables ms a.names) (IsRead at input tables more b.names) (λ n k. (g.0 n k.0, (x n k.0).1 ∙ k.1)) es h.names_named) (known, tt);
        names_stand = all_and (AtLeaves (Stands at input tables us rs' mp')) es (new ∷ []) (at_all (Stands at input tables ss rs mp) (Stands at input tables us rs' mp') old es h.names_stand) (stand, tt);
        streams = streams;
        nodes = nodes;
        reduced = reduced;
        narrow = narrow;
        mapped = mapped;
        asked_for = asked_for;
        only = only;
      }

  pub asked_more : (asked : List Tree) (e : Tree) (mp : List Named) → AllByRecursion (λ (m : Named). Has asked m.1) mp → AllByRecursion (λ (m : Named). Has (asked ++ e ∷ []) m.1) mp
  asked_more asked e mp h = all_map (λ (m : Named). Has asked m.1) (λ (m : Named). Has (asked ++ e ∷ []) m.1) (λ m k. has_first asked (e ∷ []) m.1 k) mp h

module _ (F : Functions) (at : ℕ) (input : Stream) (N : Shape) (tables : ℕ → Table) (choice : IsPhysicalChoice F N tables) where
  -- what a call does at an expression
  pub record StepTo (e : Tree) (c d : Call) (ms : List Named) (asked : List Tree) (causes : List Cause) : Type 0 where
    pub more : List Named
    pub extends : Extends at input tables c.state.names ms more
    pub after : Gathered at input tables more (asked ++ e ∷ []) causes d.state d.streams d.reduced d.exprs d.mapped
    pub made : New F N tables choice causes c.state.nodes d.state.nodes
    pub new : Tree
    pub answers : d.exprs ≡ c.exprs ++ new ∷ []
    pub reads : is_independent e ≡ false → is_independent new ≡ false

  abbrev pub Steps : Tree → (Call → Call) → Type 0
  Steps e rule =
      (c : Call) (ms : List Named) (asked : List Tree) (causes : List Cause) → IsFine at input tables ms c.state → Gathered at input tables ms asked causes c.state c.streams c.reduced c.exprs c.mapped
      → Inside F N tables choice (rule c).state.nodes → (rule c).state.names.next ≤ 2 ^ 64 → IsTrue (is_some (kind_over (tables input.0).schema e)) → KnownOf causes (eval at (tables input.0) e)
      → StepTo e c (rule c) ms asked causes

  -- an expression that is left to a map, under a fresh name
  pub left_steps : (e : Tree) → Steps e (left_to_map e)
  left_steps e c ms asked causes fine h inside small typed causes_known =
      let f = new_name c.state in
      let more = (f, e) ∷ ms in
      let x = extends_fresh at input tables c.state.names ms e small in
      let g = grown_fresh c.state.names in
      let d = adds_same c.state.nodes fine.ordered in
      let fs = Tree.column f ∷ [] in
      let stands = own_stands at input tables f e ms in
      let mp = c.mapped ++ (f, e) ∷ [] in
      let here : Has (all_leaves (Col at input tables more) (c.exprs ++ fs)) (Col at input tables more f) = subst (λ cs. Has cs (Col at input tables more f)) (sym (flat_map-append (leaves (Col at input tables more)) c.exprs fs)) (has_last (all_leaves (Col at input tables more) c.exprs) (Col at input tables more f ∷ []) (Col at input tables more f) (inl refl)) in
      let item : IsItem at input tables more (c.exprs ++ fs) causes (after_name c.state).names (f, e) =
      record { is = stands; is_named = own_named at input tables f e ms; name_known = fresh_known c.state.names small; covered = here; typed = typed; causes_known = causes_known } in
      let names : expr_names mp ≡ expr_names c.mapped ++ f ∷ [] = names_append c.mapped ((f, e) ∷ []) in
      record {
        more = more;
        extends = x;
        after =
            gathered_more at input tables ms more asked causes c.state (after_name c.state) c.streams c.streams c.reduced c.reduced c.mapped mp c.exprs e (Tree.column f) h x g d stands refl (fresh_known c.state.names small, own_named at input tables f e ms)
            (among_last f (flat_map (λ (i : Stream). names_of (tables i.0).schema) c.streams) (expr_names c.reduced ++ expr_names mp)
            (among_last f (expr_names c.reduced) (expr_names mp) (ap (is_among f) names ∙ among_last f (expr_names c.mapped) (f ∷ []) (own f))))
            (stands_more at input tables c.streams c.streams c.reduced c.reduced c.mapped mp (λ n k. k) (λ n k. k) (λ n k. ap (is_among n) names ∙ among_first n (expr_names c.mapped) (f ∷ []) k))
            (streams_later at input tables c.state (after_name c.state) ms more g d x c.exprs fs h.names_known causes c.streams h.nodes h.streams) h.nodes
            (items_later at input tables c.state (after_name c.state) ms more g d x c.exprs fs h.names_known causes c.reduced h.reduced) h.narrow
            (all_and (IsItem at input tables more (c.exprs ++ fs) causes (after_name c.state).names) c.mapped ((f, e) ∷ []) (items_later at input tables c.state (after_name c.state) ms more g d x c.exprs fs h.names_known causes c.mapped h.mapped) (item, tt))
            (all_and (λ (m : Named). Has (asked ++ e ∷ []) m.1) c.mapped ((f, e) ∷ []) (asked_more at input tables asked e c.mapped h.asked_for) (has_last asked (e ∷ []) e (inl refl), tt))
            (only_fresh at input tables ms c.state.names e g small h.only);
        made = new_none F N tables choice causes c.state.nodes;
        new = Tree.column f;
        answers = refl;
        reads = λ i. refl;
      }
    where
      names_append : (xs ys : List Named) → expr_names (xs ++ ys) ≡ expr_names xs ++ expr_names ys
      names_append [] ys = refl
      names_append (y ∷ xs) ys = ap (λ ns. y.0 ∷ ns) (names_append xs ys)

      own : (n : Name) → is_among n (n ∷ []) ≡ true
      own n = or_first (bytes_eq n n) false ((bytes_decides n n).1 refl)

module _ (F : Functions) (at : ℕ) (input : Stream) (N : Shape) (tables : ℕ → Table) (choice : IsPhysicalChoice F N tables) (distinct : IsTrue (has_distinct_names (tables input.0).schema))
    (wide : AllByRecursion (λ (row : List Value). length row ≡ length (tables input.0).schema) (tables input.0).rows) where
  abbrev t : Table
  t = tables input.0

  -- the names of the input stand for themselves, and what is asked reads these alone
  abbrev IsOwn : Name → Type 0
  IsOwn n = is_among n (names_of t.schema) ≡ true

  pub own_reads : (names : Names) (e : Tree) → is_some (kind_over t.schema e) ≡ true → AtLeaves IsOwn e
  own_reads names e typed = at_leaf (HasKind t.schema) IsOwn (λ n h. named_as n t.schema ∙ sym (kind_as n t.schema) ∙ h) e (at_leaves (HasKind t.schema) names e (typed_reads t.schema e typed))

  pub own_put : (ms : List Named) (s : State) → IsFine at input tables ms s → (e : Tree) → is_elementwise e ≡ true → AtLeaves IsOwn e → put_back ms e ≡ e
  own_put ms s fine e h k = put_same ms [] e (at_leaf IsOwn (λ n. stands_for ms n ≡ stands_for [] n) (λ n own. fine.own n own) e k) ∙ put_none e h

  -- the input as a stream
  module _ (ms : List Named) (s : State) (fine : IsFine at input tables ms s) (es : List Tree) (causes : List Cause) (n : Name) (own : IsOwn n) (read : Has (all_leaves (Col at input tables ms) es) (Col at input tables ms n)) (broken : AllOf causes t.broken) where
    some_field : t.schema ≢ []
    some_field e = differ (sym (sym (ap (λ s. is_among n (names_of s)) e) ∙ own))

    abbrev cs : List Column
    cs = columns_at at (columns_named (names_of t.schema)) t

    known_own : (s : Fields) → AllByRecursion (λ m. IsOwn m) (names_of s) → AllByRecursion (λ m. IsTrue (named at input tables ms m) → table_column m t ≡ Col at input tables ms m) (names_of s)
    known_own [] all = tt
    known_own (f ∷ s) all = ((λ is. sym (ap (eval at t) (fine.own f.0 all.0))), known_own s all.1)

    here : AllByRecursion IsOwn (names_of t.schema)
    here = own_of (names_of t.schema) (names_of t.schema) (λ m h. h)
      where
        own_of : (ns ms : List Name) → ((m : Name) → is_among m ns ≡ true → is_among m ms ≡ true) → AllByRecursion (λ m. is_among m ms ≡ true) ns
        own_of [] ms f = tt
        own_of (m ∷ ns) ms f = (f m (or_first (bytes_eq m m) (is_among m ns) ((bytes_decides m m).1 refl)), own_of ns ms (λ k h. f k (or_last (bytes_eq k m) (is_among k ns) h)))

    own_kinds : (s : Fields) → AllByRecursion (λ (f : Name × DataType). field_kind f.0 t.schema ≡ Some f.1) s → AllByRecursion (λ m. IsOwn m) (names_of s)
        → AllByRecursion (λ (f : Name × DataType). IsTrue (named at input tables ms f.0) → Some f.1 ≡ Kind at input tables ms f.0) s
    own_kinds [] all own = tt
    own_kinds (f ∷ s) all own = ((λ is. sym (ap (kind_over t.schema) (fine.own f.0 own.0) ∙ all.0)), own_kinds s all.1 own.1)

    placed : cs ≡ those_at at t (from 0 t.schema)
    placed = placed_columns at t t.schema 0 (own_places t.schema distinct)

    column_extent : (j : ℕ) → extent_of (column_at j t) ≡ table_extent t
    column_extent j =
        let l = length-map (values_at j t.rows) value ∙ length-map t.rows (λ row. get_or row j val.Null) in
        λ i. record { ended = not (is_empty t.broken); len = l i }

    named_column : (o : Option ℕ) → field_index n t.schema ≡ o → is_some o ≡ true → extent_of (table_column n t) ≡ table_extent t
    named_column None q h = absurd (differ (sym h))
    named_column (Some j) q h = ap (λ o. extent_of (record { cells = map value (values_at_some o t.rows); broken = t.broken; lost = [] })) q ∙ column_extent j

    read_extent : Has (extents (all_leaves (Col at input tables ms) es)) (table_extent t)
    read_extent =
        let e : extent_of (Col at input tables ms n) ≡ table_extent t = ap (λ e. extent_of (eval at t e)) (fine.own n own) ∙ named_column (field_index n t.schema) refl (index_there n t.schema own) in
        subst (Has (extents (all_leaves (Col at input tables ms) es))) e (extent_there (all_leaves (Col at input tables ms) es) (Col at input tables ms n) read)
      where
        extent_there : (cs : List Column) (c : Column) → Has cs c → Has (extents cs) (extent_of c)
        extent_there [] c h = absurd h
        extent_there (x ∷ xs) c (inl e) = inl (ap extent_of e)
        extent_there (x ∷ xs) c (inr h) = inr (extent_there xs c h)

        index_there : (n : Name) (s : Fields) → is_among n (names_of s) ≡ true → is_some (field_index n s) ≡ true
        index_there n s h = is_some-position (λ f. bytes_eq n f.0) s ∙ sym (named_as n s) ∙ h

    covered : (js : List ℕ) → AllByRecursion (Covered at input tables (Col at input tables ms) es) (those_at at t js)
    covered [] = tt
    covered (j ∷ js) = (inr (((values_at j t.rows, refl), refl), (λ moves. subst (Has (extents (all_leaves (Col at input tables ms) es))) (sym (column_extent j)) read_extent)), covered js)

    pub input_stream : IsStream at input tables ms es causes s.names s.nodes input
    input_stream =
        let share = inputs_share at (named at input tables ms) (Col at input tables ms) t some_field distinct wide (known_own t.schema here) in
        record {
          columns = cs;
          ends = inputs_end at t some_field distinct wide;
          known = share.1;
          kinds = own_kinds t.schema (kinds_own t.schema distinct) here;
          some = share.0.some;
          covered = subst (AllByRecursion (Covered at input tables (Col at input tables ms) es)) (sym placed) (covered (from 0 t.schema));
          broken = broken;
          names_known = fine.known;
          schema = fine.schema;
        }

  -- an elementwise expression stays, over the input unless it is independent of it
  stays_step : (e : Tree) → is_elementwise e ≡ true → Steps F at input N tables choice e (stays at input e)
  stays_step e plain c ms asked causes fine h inside small typed causes_known = by (is_independent e) refl
    where
      g : Grown c.state.names c.state.names
      g = grown_same c.state.names

      d : Adds c.state.nodes c.state.nodes
      d = adds_same c.state.nodes fine.ordered

      x : Extends at input tables c.state.names ms ms
      x = extends_same at input tables c.state.names ms

      own : AtLeaves IsOwn e
      own = own_reads c.state.names e typed

      later : AllByRecursion (IsStream at input tables ms (c.exprs ++ e ∷ []) causes c.state.names c.state.nodes) c.streams
      later = streams_later at input tables c.state c.state ms ms g d x c.exprs (e ∷ []) h.names_known causes c.streams h.nodes h.streams

      items : (rs : List Named) → AllByRecursion (IsItem at input tables ms c.exprs causes c.state.names) rs → AllByRecursion (IsItem at input tables ms (c.exprs ++ e ∷ []) causes c.state.names) rs
      items rs k = items_later at input tables c.state c.state ms ms g d x c.exprs (e ∷ []) h.names_known causes rs k

      over : (ss : List Stream) → AtLeaves (Stands at input tables ss c.reduced c.mapped) e → ((n : Name) → Stands at input tables c.streams c.reduced c.mapped n → Stands at input tables ss c.reduced c.mapped n)
          → AllByRecursion (IsStream at input tables ms (c.exprs ++ e ∷ []) causes c.state.names c.state.nodes) ss → AreNodes c.state.nodes ss
          → StepTo F at input N tables choice e c (record { state = c.state; streams = ss; reduced = c.reduced; exprs = c.exprs ++ e ∷ []; mapped = c.mapped }) ms asked causes
      over ss stand old streams nodes =
          record {
            more = ms;
            extends = x;
            after =
                gathered_more at input tables ms ms asked causes c.state c.state c.streams ss c.reduced c.reduced c.mapped c.mapped c.exprs e e h x g d (own_put ms c.state fine e plain own) plain
                (at_leaf IsOwn (IsRead at input tables ms c.state.names) (λ n k. (among_all at input tables (IsKnown c.state.names) n (names_of t.schema) fine.known k, or_last (is_among n (expr_names ms)) (is_among n (names_of t.schema)) k)) e own) stand old streams nodes (items c.reduced h.reduced) h.narrow (items c.mapped h.mapped)
                (asked_more at input tables asked e c.mapped h.asked_for) h.only;
            made = new_none F N tables choice causes c.state.nodes;
            new = e;
            answers = refl;
            reads = λ i. i;
          }

      reading : is_independent e ≡ false → (n : Name) × (IsOwn n × KnownOf causes (Col at input tables ms n)) × Has (leaves (Col at input tables ms) e) (Col at input tables ms n)
      reading q =
          let shown : KnownOf causes (eval_with at (Col at input tables ms) e) = subst (KnownOf causes) (ap (eval at t) (sym (own_put ms c.state fine e plain own)) ∙ puts_back at ms t e plain) causes_known in
          let known = leaves_show_in (λ (c : Cause). Has causes c) at (Col at input tables ms) e plain shown in
          some_name (Col at input tables ms) (λ n. IsOwn n × KnownOf causes (Col at input tables ms n)) e plain q (both_leaves e own known)
        where
          both_leaves : (e : Tree) → AtLeaves IsOwn e → AtLeaves (λ n. KnownOf causes (Col at input tables ms n)) e → AtLeaves (λ n. IsOwn n × KnownOf causes (Col at input tables ms n)) e
          both_leaves (Tree.column name) p k = (p, k)
          both_leaves (Tree.literal l) p k = tt
          both_leaves (Tree.binary o l r) p k = (both_leaves l p.0 k.0, both_leaves r p.1 k.1)
          both_leaves (Tree.cast c strict e) p k = both_leaves e p k
          both_leaves (Tree.ternary y a b) p k = (both_leaves y p.0 k.0, both_leaves a p.1 k.1, both_leaves b p.2 k.2)
          both_leaves (Tree.function g e) p k = both_leaves e p k
          both_leaves (Tree.sort d n e) p k = tt
          both_leaves (Tree.sort_by d n e by) p k = tt
          both_leaves (Tree.gather s e i) p k = tt
          both_leaves (Tree.filter e by) p k = tt
          both_leaves (Tree.aggregate a e) p k = tt
          both_leaves (Tree.slice e o l) p k = tt
          both_leaves Tree.len p k = tt
          both_leaves (Tree.left_out w) p k = tt
          both_leaves Tree.missing p k = tt

      by : (b : Bool) → is_independent e ≡ b → StepTo F at input N tables choice e c (record { state = c.state; streams = cond b c.streams (added input c.streams); reduced = c.reduced; exprs = c.exprs ++ e ∷ []; mapped = c.mapped }) ms asked causes
      by true q = over c.streams (reads_none (Stands at input tables c.streams c.reduced c.mapped) e q) (λ n k. k) later h.nodes
      by false q =
          let r = reading q in
          let es = c.exprs ++ e ∷ [] in
          let there = subst (λ cs. Has cs (Col at input tables ms r.0)) (sym (flat_map-append (leaves (Col at input tables ms)) c.exprs (e ∷ []))) (has_last (all_leaves (Col at input tables ms) c.exprs) (leaves (Col at input tables ms) e ++ []) (Col at input tables ms r.0) (has_first (leaves (Col at input tables ms) e) [] (Col at input tables ms r.0) r.2)) in
          let k : KnownOf causes (table_column r.0 t) = subst (KnownOf causes) (ap (eval at t) (fine.own r.0 r.1.0)) r.1.1 in
          let broken : AllOf causes t.broken = k.1 in
          let own_stream = input_stream ms c.state fine es causes r.0 r.1.0 there broken in
          over (added input c.streams)
          (at_leaf IsOwn (Stands at input tables (added input c.streams) c.reduced c.mapped) (λ n k. among_first n (names_in at input tables (added input c.streams)) (expr_names c.reduced ++ expr_names c.mapped) (added_stands at input tables input c.streams n k)) e own)
          (stands_more at input tables c.streams (added input c.streams) c.reduced c.reduced c.mapped c.mapped (others_stand at input tables input c.streams) (λ n k. k) (λ n k. k))
          (all_added_one (IsStream at input tables ms es causes c.state.names c.state.nodes) input c.streams own_stream later)
          (added_nodes c.state.nodes input c.streams fine.node h.nodes)

  pub stays_or_steps : (e : Tree) (rule : Call → Call) → (is_elementwise e ≡ false → Steps F at input N tables choice e rule) → Steps F at input N tables choice e (stays_or at input e rule)
  stays_or_steps e rule rest = by (is_elementwise e) refl
    where
      by : (b : Bool) → is_elementwise e ≡ b → Steps F at input N tables choice e (cond {A = Call → Call} b (stays at input e) rule)
      by true q = stays_step e q
      by false q = rest q

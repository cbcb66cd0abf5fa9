-- Expressions that are lowered together: one after the other, and what is left to one map or one reduce.
use Rattle.std.proofs.Common.{◌≡◌, ◌⊎◌, inl, inr, ℕ, ◌≤◌, ◌^◌, Bool, true, false, not, cond, List, [], ◌∷◌, ◌++◌, length, refl, sym, ap, subst, ◌∙◌, arith, append_assoc}
use Rattle.std.specs.Prelude.{IsTrue, filter, is_some, unwrap_or, ◌||◌}
use Rattle.std.specs.Cmp.Lexicographic.{bytes_decides}
use Rattle.std.specs.List.{AllByRecursion, list_any}
use Rattle.std.specs.Str.{bytes_eq}
use Rattle.std.proofs.lemmas.List.{append-nil}
use Rattle.ps_frame.specs.Causes.{Cause}
use Rattle.ps_frame.specs.Eval.{eval}
use Rattle.ps_frame.specs.Functions.{Functions}
use Rattle.ps_frame.specs.Parts.{reads_column}
use Rattle.ps_frame.specs.Tables.{Fields, Table}
use Rattle.ps_frame.specs.Trees.{Tree}
use Rattle.ps_frame.specs.Typing.{is_independent, kind_over}
use Rattle.ps_meaning.specs.Cases.{GivesBeforeCut, columns_at, projected}
use Rattle.ps_meaning.specs.Schemas.{is_among, named_fields, names_of}
use Rattle.ps_meaning.specs.Shape.{IsPhysicalChoice, PhysicalNode, Shape, simple_projection}
use Rattle.ps_meaning.specs.Steps.{Name, Named, project}
use Rattle.ps_rules.specs.Bundles.{names_kept, names_read, or_first as kept_or_first}
use Rattle.ps_rules.specs.Calls.{Call, Operand, each, exprs_of_all}
use Rattle.ps_rules.specs.Names.{IsKnown}
use Rattle.ps_rules.specs.Slots.{Made, State, Stream, projection, same_names, schema_at, schema_or_none, with_columns}
use Rattle.ps_shares.specs.Leaves.{AtLeaves, IsSameIn}
use Rattle.ps_shares.proofs.Adding.{Adds, AllAdd, AreNodes, each_adds, node_later}
use Rattle.ps_shares.proofs.Agreeing.{same_kind}
use Rattle.ps_shares.proofs.Ends.{last_there}
use Rattle.ps_shares.proofs.Fresh.{Grown}
use Rattle.ps_shares.proofs.Growing.{AllGrow, grows_each}
use Rattle.ps_shares.proofs.Members.{Has}
use Rattle.ps_shares.proofs.Named.{at_all}
use Rattle.ps_shares.proofs.Projected.{reads_all, reads_projected}
use Rattle.ps_shares.proofs.Stands.{HasKind, typed_reads}
use Rattle.ps_shares.proofs.Projected.{kind_as, named_as}
use Rattle.ps_bundles.proofs.CallSteps.{Steps}
use Rattle.ps_bundles.proofs.Depending.{is_read}
use Rattle.ps_bundles.proofs.Gathered.{AreNarrow, Extends, Gathered, IsFine, IsItem, IsRead, IsStream, OnlyKnown, Stands, extends_same, extends_then, fine_later, items_later, only_later, streams_later}
use Rattle.ps_bundles.proofs.NewNodes.{AllOf, Inside, KnownOf, New, inside_before, new_none, new_one, new_then, project_all, there}
use Rattle.ps_bundles.proofs.Reading.{HasFields, has_fields, or_first, or_last}
use Rattle.ps_bundles.proofs.ZipEnds.{differ}

-- the columns that a projection for some expressions keeps
module _ (items : List Named) (s : Fields) where
  abbrev reads : Name → Bool
  reads n = list_any (λ (e : Named). reads_column n e.1) items

  kept_there : (ns : List Name) → AllByRecursion (λ n. is_among n (names_of s) ≡ true) ns → AllByRecursion (λ n. is_among n (names_of s) ≡ true) (filter reads ns)
  kept_there [] all = tt
  kept_there (n ∷ ns) all = by (reads n) (kept_there ns all.1)
    where
      by : (b : Bool) → AllByRecursion (λ n. is_among n (names_of s) ≡ true) (filter reads ns) → AllByRecursion (λ n. is_among n (names_of s) ≡ true) (cond b (n ∷ filter reads ns) (filter reads ns))
      by true h = (all.0, h)
      by false h = h

  own_names : (ns ms : List Name) → ((m : Name) → is_among m ns ≡ true → is_among m ms ≡ true) → AllByRecursion (λ m. is_among m ms ≡ true) ns
  own_names [] ms f = tt
  own_names (m ∷ ns) ms f = (f m (or_first (bytes_eq m m) (is_among m ns) ((bytes_decides m m).1 refl)), own_names ns ms (λ k h. f k (or_last (bytes_eq k m) (is_among k ns) h)))

  pub kept_names : AllByRecursion (λ n. is_among n (names_of s) ≡ true) (names_kept items s)
  kept_names = by (names_read items s) (names_of s) (kept_there (names_of s) own) own
    where
      own : AllByRecursion (λ n. is_among n (names_of s) ≡ true) (names_of s)
      own = own_names (names_of s) (names_of s) (λ m h. h)

      by : (ms ns : List Name) → AllByRecursion (λ n. is_among n (names_of s) ≡ true) ms → AllByRecursion (λ n. is_among n (names_of s) ≡ true) ns → AllByRecursion (λ n. is_among n (names_of s) ≡ true) (kept_or_first ms ns)
      by [] [] p q = tt
      by [] (n ∷ ns) p q = (q.0, tt)
      by (m ∷ ms) ns p q = p

  kept_if : (n : Name) (ns : List Name) → reads n ≡ true → is_among n ns ≡ true → is_among n (filter reads ns) ≡ true
  kept_if n [] r h = h
  kept_if n (m ∷ ns) r h = by (bytes_eq n m) refl h (kept_if n ns r)
    where
      later : (b : Bool) → is_among n (filter reads ns) ≡ true → is_among n (cond b (m ∷ filter reads ns) (filter reads ns)) ≡ true
      later true k = or_last (bytes_eq n m) (is_among n (filter reads ns)) k
      later false k = k

      by : (b : Bool) → bytes_eq n m ≡ b → (bytes_eq n m || is_among n ns) ≡ true → (is_among n ns ≡ true → is_among n (filter reads ns) ≡ true) → is_among n (filter reads (m ∷ ns)) ≡ true
      by true q h rest =
          let e : n ≡ m = (bytes_decides n m).0 q in
          ap (λ b. is_among n (cond b (m ∷ filter reads ns) (filter reads ns))) (sym (ap reads e) ∙ r) ∙ or_first (bytes_eq n m) (is_among n (filter reads ns)) q
      by false q h rest = later (reads m) (rest (sym (ap (λ b. b || is_among n ns) q) ∙ h))

  pub kept_reads : (n : Name) → reads n ≡ true → is_among n (names_of s) ≡ true → is_among n (names_kept items s) ≡ true
  kept_reads n r h = by (names_read items s) (names_of s) (kept_if n (names_of s) r h)
    where
      by : (ms ns : List Name) → is_among n ms ≡ true → is_among n (kept_or_first ms ns) ≡ true
      by [] ns k = absurd (differ (sym k))
      by (m ∷ ms) ns k = k

reads_by : (n : Name) (items : List Named) (m : Named) → Has items m → reads_column n m.1 ≡ true → list_any (λ (e : Named). reads_column n e.1) items ≡ true
reads_by n [] m h r = absurd h
reads_by n (x ∷ items) m (inl e) r = or_first (reads_column n x.1) (list_any (λ (e : Named). reads_column n e.1) items) (ap (λ (m : Named). reads_column n m.1) e ∙ r)
reads_by n (x ∷ items) m (inr h) r = or_last (reads_column n x.1) (list_any (λ (e : Named). reads_column n e.1) items) (reads_by n items m h r)

module _ (at : ℕ) (input : Stream) (tables : ℕ → Table) where
  -- what was gathered, once more nodes stand
  pub gathered_later : (ms : List Named) (asked : List Tree) (causes : List Cause) (a b : State) (ss us : List Stream) (rs rs' mp mp' : List Named) (es : List Tree) → Gathered at input tables ms asked causes a ss rs es mp → Grown a.names b.names → Adds a.nodes b.nodes
      → ((n : Name) → Stands at input tables ss rs mp n → Stands at input tables us rs' mp' n) → AllByRecursion (IsStream at input tables ms es causes b.names b.nodes) us → AreNodes b.nodes us
      → (rs' ≡ rs) ⊎ (rs' ≡ []) → mp' ≡ [] → Gathered at input tables ms asked causes b us rs' es mp'
  gathered_later ms asked causes a b ss us rs rs' mp mp' es h g d old streams nodes which none =
      record {
        back = h.back;
        plain = h.plain;
        names_known = at_all (IsKnown a.names) (IsKnown b.names) g.0 es h.names_known;
        names_named = at_all (IsRead at input tables ms a.names) (IsRead at input tables ms b.names) (λ n k. (g.0 n k.0, k.1)) es h.names_named;
        names_stand = at_all (Stands at input tables ss rs mp) (Stands at input tables us rs' mp') old es h.names_stand;
        streams = streams;
        nodes = nodes;
        reduced = items which;
        narrow = narrow which;
        mapped = subst (AllByRecursion (IsItem at input tables ms es causes b.names)) (sym none) tt;
        asked_for = subst (AllByRecursion (λ (m : Named). Has asked m.1)) (sym none) tt;
        only = only_later at input tables ms a.names b.names g h.only;
      }
    where
      items : (rs' ≡ rs) ⊎ (rs' ≡ []) → AllByRecursion (IsItem at input tables ms es causes b.names) rs'
      items (inl e) =
          let k = items_later at input tables a b ms ms g d (extends_same at input tables a.names ms) es [] h.names_known causes rs h.reduced in
          subst (AllByRecursion (IsItem at input tables ms es causes b.names)) (sym e) (subst (λ es. AllByRecursion (IsItem at input tables ms es causes b.names) rs) (append-nil es) k)
      items (inr e) = subst (AllByRecursion (IsItem at input tables ms es causes b.names)) (sym e) tt

      narrow : (rs' ≡ rs) ⊎ (rs' ≡ []) → AreNarrow at input tables rs'
      narrow (inl e) = subst (AreNarrow at input tables) (sym e) h.narrow
      narrow (inr e) = subst (AreNarrow at input tables) (sym e) tt

  pub streams_on : (ms : List Named) (es : List Tree) (causes : List Cause) (a b : State) (ss : List Stream) → Grown a.names b.names → Adds a.nodes b.nodes → AllByRecursion (AtLeaves (IsKnown a.names)) es → AreNodes a.nodes ss
      → AllByRecursion (IsStream at input tables ms es causes a.names a.nodes) ss → AllByRecursion (IsStream at input tables ms es causes b.names b.nodes) ss
  streams_on ms es causes a b ss g d known nodes h =
      subst (λ es. AllByRecursion (IsStream at input tables ms es causes b.names b.nodes) ss) (append-nil es) (streams_later at input tables a b ms ms g d (extends_same at input tables a.names ms) es [] known causes ss nodes h)

module _ (F : Functions) (at : ℕ) (input : Stream) (N : Shape) (tables : ℕ → Table) (choice : IsPhysicalChoice F N tables) where
  abbrev t : Table
  t = tables input.0

  -- what the rules of some operands do, one after the other
  pub record EachTo (es : List Tree) (c d : Call) (ms : List Named) (asked : List Tree) (causes : List Cause) : Type 0 where
    pub more : List Named
    pub extends : Extends at input tables c.state.names ms more
    pub after : Gathered at input tables more (asked ++ es) causes d.state d.streams d.reduced d.exprs d.mapped
    pub made : New F N tables choice causes c.state.nodes d.state.nodes
    pub news : List Tree
    pub answers : d.exprs ≡ c.exprs ++ news
    pub reads : list_any (λ e. not (is_independent e)) es ≡ true → list_any (λ e. not (is_independent e)) news ≡ true

  abbrev pub AllSteps : List Operand → Type 0
  AllSteps os = AllByRecursion (λ (o : Operand). Steps F at input N tables choice o.expr o.rule) os

  pub each_to : (os : List Operand) → AllAdd at input os → AllGrow at input os → AllSteps os → (c : Call) (ms : List Named) (asked : List Tree) (causes : List Cause) → IsFine at input tables ms c.state
      → Gathered at input tables ms asked causes c.state c.streams c.reduced c.exprs c.mapped → Inside F N tables choice (each os c).state.nodes → (each os c).state.names.next ≤ 2 ^ 64
      → AllByRecursion (λ e. IsTrue (is_some (kind_over t.schema e))) (exprs_of_all os) → AllByRecursion (KnownOf causes) (columns_at at (exprs_of_all os) t) → EachTo (exprs_of_all os) c (each os c) ms asked causes
  each_to [] adds grow steps c ms asked causes fine h inside small typed known =
      record {
        more = ms;
        extends = extends_same at input tables c.state.names ms;
        after = subst (λ as'. Gathered at input tables ms as' causes c.state c.streams c.reduced c.exprs c.mapped) (sym (append-nil asked)) h;
        made = new_none F N tables choice causes c.state.nodes;
        news = [];
        answers = sym (append-nil c.exprs);
        reads = λ q. q;
      }
  each_to (o ∷ os) adds grow steps c ms asked causes fine h inside small typed known =
      let d = o.rule c in
      let p = adds.0 c fine.ordered fine.node h.nodes in
      let q = each_adds at input os adds.1 d p.0.1 (node_later c.state.nodes d.state.nodes p.0 input fine.node) p.1 in
      let g = grow.0 c in
      let gs = grows_each at input os grow.1 d in
      let le = gs.1 in
      let s = steps.0 c ms asked causes fine h (inside_before F N tables choice d.state.nodes (each os d).state.nodes q.0 inside) (omega arith) typed.0 known.0 in
      let r = each_to os adds.1 grow.1 steps.1 d s.more (asked ++ o.expr ∷ []) causes (fine_later at input tables ms s.more c.state d.state fine g p.0 s.extends s.after.only) s.after inside small typed.1 known.1 in
      record {
        more = r.more;
        extends = extends_then at input tables c.state.names d.state.names ms s.more r.more g s.extends r.extends;
        after =
            subst (λ as'. Gathered at input tables r.more as' causes (each os d).state (each os d).streams (each os d).reduced (each os d).exprs (each os d).mapped) (append_assoc asked (o.expr ∷ []) (exprs_of_all os)) r.after;
        made = new_then F N tables choice causes c.state.nodes d.state.nodes (each os d).state.nodes s.made r.made;
        news = s.new ∷ r.news;
        answers = r.answers ∙ ap (λ xs. xs ++ r.news) s.answers ∙ append_assoc c.exprs (s.new ∷ []) r.news;
        reads = λ w. by s.new s.reads r.news r.reads (is_independent o.expr) refl w;
      }
    where
      by : (new : Tree) → (is_independent o.expr ≡ false → is_independent new ≡ false) → (news : List Tree) → (list_any (λ e. not (is_independent e)) (exprs_of_all os) ≡ true → list_any (λ e. not (is_independent e)) news ≡ true) → (b : Bool)
          → is_independent o.expr ≡ b → (not (is_independent o.expr) || list_any (λ e. not (is_independent e)) (exprs_of_all os)) ≡ true → (not (is_independent new) || list_any (λ e. not (is_independent e)) news) ≡ true
      by new f news rest false q w = or_first (not (is_independent new)) (list_any (λ e. not (is_independent e)) news) (ap not (f q))
      by new f news rest true q w = or_last (not (is_independent new)) (list_any (λ e. not (is_independent e)) news) (rest (sym (ap (λ b. not b || list_any (λ e. not (is_independent e)) (exprs_of_all os)) q) ∙ w))

  -- nothing is gathered yet
  pub none_gathered : (ms : List Named) (causes : List Cause) (s : State) → OnlyKnown at input tables ms s.names → Gathered at input tables ms [] causes s [] [] [] []
  none_gathered ms causes s only = record { only = only; back = refl; plain = tt; names_known = tt; names_named = tt; names_stand = tt; streams = tt; nodes = tt; reduced = tt; narrow = tt; mapped = tt; asked_for = tt }

  -- The columns that a map reads: those of the input, with their kinds.
  pub record Below (causes : List Cause) (s : State) (m : Made) (items : List Named) : Type 0 where
    pub same : AllByRecursion (λ (i : Named). (eval at (tables m.stream.0) i.1 ≡ eval at t i.1) × (kind_over (tables m.stream.0).schema i.1 ≡ kind_over t.schema i.1)) items
    pub schema : schema_at m.state.nodes m.stream ≡ (tables m.stream.0).schema
    pub made : New F N tables choice causes s.nodes m.state.nodes

  abbrev AreTyped : List Named → Type 0
  AreTyped items = AllByRecursion (λ (m : Named). IsTrue (is_some (kind_over t.schema m.1))) items

  module _ (items : List Named) (typed : AreTyped items) where
    abbrev ns : List Name
    ns = names_kept items t.schema

    abbrev fs : HasFields ns t.schema
    fs = has_fields ns t.schema (kept_names items t.schema)

    abbrev P : Table
    P = projected ns fs.fields t

    pub reads_kept : (m : Named) → Has items m → is_some (kind_over t.schema m.1) ≡ true → (name : Name) → IsTrue (reads_column name m.1) → is_among name ns ≡ true
    reads_kept m has k name r = kept_reads items t.schema name (reads_by name items m has r) (named_as name t.schema ∙ sym (kind_as name t.schema) ∙ is_read (HasKind t.schema) name m.1 (typed_reads t.schema m.1 k) r)

    pub column_kept : (e : Tree) → ((name : Name) → IsTrue (reads_column name e) → is_among name ns ≡ true) → eval at P e ≡ eval at t e
    column_kept e reads = reads_projected at ns fs.fields t e fs.names reads fs.kinds

    kind_kept : (e : Tree) → ((name : Name) → IsTrue (reads_column name e) → is_among name ns ≡ true) → kind_over P.schema e ≡ kind_over t.schema e
    kind_kept e reads =
        same_kind P t e (reads_all (IsSameIn P t) e (λ name some.
        let among = reads name some in
        record { column = column_kept (Tree.column name) (λ other q. one other name q among); kind = fs.kinds name among }))
      where
        one : (other name : Name) → (bytes_eq other name || false) ≡ true → is_among name ns ≡ true → is_among other ns ≡ true
        one other name q among = by (bytes_eq other name) refl q
          where
            by : (b : Bool) → bytes_eq other name ≡ b → (bytes_eq other name || false) ≡ true → is_among other ns ≡ true
            by true r q = ap (λ n. is_among n ns) ((bytes_decides other name).0 r) ∙ among
            by false r q = absurd (differ (sym (sym (ap (λ b. b || false) r) ∙ q)))

    all_kept : (is : List Named) → ((m : Named) → Has is m → Has items m) → AreTyped is → AllByRecursion (λ (i : Named). (eval at P i.1 ≡ eval at t i.1) × (kind_over P.schema i.1 ≡ kind_over t.schema i.1)) is
    all_kept [] f typed = tt
    all_kept (m ∷ is) f typed = let r = reads_kept m (f m (inl refl)) typed.0 in ((column_kept m.1 r, kind_kept m.1 r), all_kept is (λ k h. f k (inr h)) typed.1)

    all_same : (is : List Named) → AllByRecursion (λ (i : Named). (eval at t i.1 ≡ eval at t i.1) × (kind_over t.schema i.1 ≡ kind_over t.schema i.1)) is
    all_same [] = tt
    all_same (m ∷ is) = ((refl, refl), all_same is)

    pub projection_is : (T U : Table) → GivesBeforeCut F at (project ns) (t ∷ []) U → T ≡ U → T ≡ P
    projection_is T U (inl g) e = e ∙ g ∙ ap (λ o. projected ns (unwrap_or o []) t) fs.found
    projection_is T U (inr (V, g, some, u)) e = absurd (some refl)

    pub below_is : (causes : List Cause) (s : State) → schema_at s.nodes input ≡ t.schema → AllOf causes t.broken → Inside F N tables choice (with_columns at ns input s).state.nodes → Below causes s (with_columns at ns input s) items
    below_is causes s schema broken = by (same_names ns (names_of (schema_at s.nodes input)))
      where
        by : (b : Bool) → Inside F N tables choice (cond {A = Made} b (record { state = s; stream = input }) (projection at ns input s)).state.nodes → Below causes s (cond {A = Made} b (record { state = s; stream = input }) (projection at ns input s)) items
        by true inside = record { same = all_same items; schema = schema; made = new_none F N tables choice causes s.nodes }
        by false inside =
            let p : PhysicalNode = record { kind = simple_projection ns; schema = unwrap_or (named_fields ns (schema_at s.nodes input)) []; origin = at; inputs = input ∷ [] } in
            let T = tables (length s.nodes) in
            let own = choice (length s.nodes) p (there F N tables choice s.nodes p inside) in
            let is = projection_is T own.0 own.1 own.2 in
            record {
              same = subst (λ T. AllByRecursion (λ (i : Named). (eval at T i.1 ≡ eval at t i.1) × (kind_over T.schema i.1 ≡ kind_over t.schema i.1)) items) (sym is) (all_kept items (λ m h. h) typed);
              schema = ap schema_or_none (last_there s.nodes p) ∙ ap (λ f. unwrap_or (named_fields ns f) []) schema ∙ ap (λ o. unwrap_or o []) fs.found ∙ sym (ap (λ (T : Table). T.schema) is);
              made = new_one F N tables choice causes s.nodes p inside (λ U. refl) (λ U before. project_all F N tables choice causes at ns t U broken before);
            }

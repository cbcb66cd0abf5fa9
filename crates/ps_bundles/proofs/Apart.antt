-- What is independent of the input, and all that one call for some expressions gathers.
use Rattle.std.proofs.Common.{◌≡◌, ◌≢◌, inl, inr, ℕ, suc, ◌≤◌, ◌<◌, ◌^◌, Bool, true, false, not, cond, List, [], ◌∷◌, ◌++◌, length, refl, sym, ap, subst, ◌∙◌, arith, length-append}
use Rattle.std.specs.Prelude.{IsTrue, is_some, map, ◌&&◌, ◌||◌}
use Rattle.std.specs.Cmp.Lexicographic.{bytes_decides}
use Rattle.std.specs.List.{AllByRecursion, list_all, list_any}
use Rattle.std.specs.Str.{bytes_eq}
use Rattle.ps_frame.specs.Causes.{Cause}
use Rattle.ps_frame.specs.Eval.{eval}
use Rattle.ps_frame.specs.Functions.{Functions}
use Rattle.ps_frame.specs.Tables.{Table, no_rows}
use Rattle.ps_frame.specs.Trees.{Tree}
use Rattle.ps_frame.specs.Typing.{is_elementwise, is_independent, kind_over}
use Rattle.ps_frame.specs.Zip.{zipped}
use Rattle.ps_meaning.specs.Cases.{columns_at}
use Rattle.ps_meaning.specs.Schemas.{expr_names, is_among, names_of}
use Rattle.ps_meaning.specs.Shape.{IsPhysicalChoice, PhysicalNode, Shape, independent_select}
use Rattle.ps_meaning.specs.Steps.{Name, Named, exprs_of}
use Rattle.ps_rowwise.proofs.Ignoring.{same-column, same-kind}
use Rattle.ps_rules.specs.Bundles.{gathered}
use Rattle.ps_rules.specs.Calls.{Bundle, Operand, all_independent, each, exprs_of_all, new_call}
use Rattle.ps_rules.specs.Names.{IsKnown, Names}
use Rattle.ps_rules.specs.Rules.{apart_from_input, over_input, together}
use Rattle.ps_rules.specs.Slots.{State, Stream, after_name, after_names, columns_named, new_name, new_names, schema_or_none, selected_schema, under}
use Rattle.ps_rules.proofs.Free.{fresh_known}
use Rattle.ps_shares.specs.Kept.{all_causes}
use Rattle.ps_shares.specs.Leaves.{AtLeaves, all_leaves, put_back, stands_for}
use Rattle.ps_shares.proofs.Adding.{AllAdd, each_adds, gathers, named_nodes, node_later}
use Rattle.ps_shares.proofs.Ends.{exprs_under, last_there}
use Rattle.ps_shares.proofs.FlatLength.{both_hold}
use Rattle.ps_shares.proofs.Fresh.{grown_fresh, grown_names}
use Rattle.ps_shares.proofs.Growing.{AllGrow, gathered_exprs, gathered_names, grows_each}
use Rattle.ps_shares.proofs.Members.{Has}
use Rattle.ps_shares.proofs.Named.{at_all}
use Rattle.ps_bundles.proofs.Bundling.{gathered_bundle}
use Rattle.ps_bundles.proofs.Depending.{input_shows}
use Rattle.ps_bundles.proofs.Gathered.{Col, Extends, Gathered, IsFine, IsRead, OnlyKnown, Stands, extends_fresh, extends_same, extends_then, fine_later, named, only_fresh, own_named, own_stands}
use Rattle.ps_bundles.proofs.NewNodes.{AllOf, Covers, Inside, KnownOf, New, covers_zip, inside_before, last_broken, new_one, new_then, select_all, there}
use Rattle.ps_bundles.proofs.Reading.{among_first, or_first, or_last}
use Rattle.ps_bundles.proofs.Streams.{IsOver, select_stream_is}
use Rattle.ps_bundles.proofs.Together.{AllSteps, each_to, none_gathered}
use Rattle.ps_bundles.proofs.ZipEnds.{differ}

module _ (at : ℕ) (input : Stream) (tables : ℕ → Table) where
  -- fresh names for expressions
  pub record AreFresh (es : List Tree) (s : State) (ms : List Named) : Type 0 where
    pub more : List Named
    pub extends : Extends at input tables s.names ms more
    pub back : map (put_back more) (columns_named (new_names es s)) ≡ es
    pub stand : AllByRecursion (λ (m : Named). (stands_for more m.0 ≡ m.1) × IsTrue (named at input tables more m.0) × IsKnown (after_names es s).names m.0) (under (new_names es s) es)
    pub only : OnlyKnown at input tables more (after_names es s).names

  pub are_fresh : (es : List Tree) (s : State) (ms : List Named) → OnlyKnown at input tables ms s.names → (after_names es s).names.next ≤ 2 ^ 64 → AreFresh es s ms
  are_fresh [] s ms known small = record { only = known; more = ms; extends = extends_same at input tables s.names ms; back = refl; stand = tt }
  are_fresh (e ∷ es) s ms known small =
      let f = new_name s in
      let a = after_name s in
      let first = (f, e) ∷ ms in
      let g = grown_names es a in
      let le = g.1 in
      let one : a.names.next ≤ 2 ^ 64 = omega arith in
      let r = are_fresh es a first (only_fresh at input tables ms s.names e (grown_fresh s.names) one known) small in
      let k = fresh_known s.names one in
      let x = r.extends f k in
      let is = x.0 ∙ own_stands at input tables f e ms in
      let b = r.back in
      record {
        more = r.more;
        extends = extends_then at input tables s.names a.names ms first r.more (grown_fresh s.names) (extends_fresh at input tables s.names ms e one) r.extends;
        only = r.only;
        back = λ i. is i ∷ b i;
        stand = ((is, x.1 ∙ own_named at input tables f e ms, g.0 f k), r.stand);
      }

  count_names : (es : List Tree) (s : State) → length (new_names es s) ≡ length es
  count_names [] s = refl
  count_names (e ∷ es) s = ap suc (count_names es (after_name s))

  names_under : (es : List Tree) (s : State) → expr_names (under (new_names es s) es) ≡ new_names es s
  names_under [] s = refl
  names_under (e ∷ es) s = ap (λ ns. new_name s ∷ ns) (names_under es (after_name s))

module _ (F : Functions) (at : ℕ) (input : Stream) (N : Shape) (tables : ℕ → Table) (choice : IsPhysicalChoice F N tables) where
  abbrev t : Table
  t = tables input.0

  -- what one call for expressions gathers
  pub record Collected (es : List Tree) (s : State) (b : Bundle) (ms : List Named) (causes : List Cause) : Type 0 where
    pub more : List Named
    pub extends : Extends at input tables s.names ms more
    pub after : Gathered at input tables more es causes b.state b.streams b.reduced b.exprs []
    pub made : New F N tables choice causes s.nodes b.state.nodes
    pub dependent : list_any (λ e. not (is_independent e)) b.exprs ≡ true

  abbrev pub AllTyped : List Tree → Type 0
  AllTyped es = AllByRecursion (λ e. IsTrue (is_some (kind_over t.schema e))) es

  abbrev pub lone : Table
  lone = no_rows [] []

  pub all_of : (es : List Tree) → list_all is_independent es ≡ true → AllByRecursion (λ e. is_independent e ≡ true) es
  all_of [] h = tt
  all_of (e ∷ es) h = let b = both_hold (is_independent e) (list_all is_independent es) h in (b.0, all_of es b.1)

  pub lone_columns : (es : List Tree) → AllByRecursion (λ e. is_independent e ≡ true) es → columns_at at es lone ≡ columns_at at es t
  lone_columns [] all = refl
  lone_columns (e ∷ es) all = let p = same-column at lone t e all.0 in let q = lone_columns es all.1 in λ i. p i ∷ q i

  lone_over : (more : List Named) (s : State) (es fs : List Tree) (names : Names) → AllByRecursion (λ e. is_independent e ≡ true) es → AllTyped es
      → AllByRecursion (λ (m : Named). (stands_for more m.0 ≡ m.1) × IsTrue (named at input tables more m.0) × IsKnown names m.0) (under (new_names es s) es)
      → ((n : Name) → is_among n (new_names es s) ≡ true → Has (all_leaves (Col at input tables more) fs) (Col at input tables more n)) → AllByRecursion (IsOver at input tables more fs names lone) (under (new_names es s) es)
  lone_over more s [] fs names all typed stand has = tt
  lone_over more s (e ∷ es) fs names all typed stand has =
      let kind = same-kind [] t.schema e all.0 in (
        record {
          column = same-column at lone t e all.0 ∙ ap (eval at t) (sym stand.0.0);
          kind = kind ∙ ap (kind_over t.schema) (sym stand.0.0);
          typed = ap is_some kind ∙ typed.0;
          name_known = stand.0.2;
          covered = has (new_name s) (own (new_name s) (new_names es (after_name s)));
        },
        lone_over more (after_name s) es fs names all.1 typed.1 stand.1 (λ n k. has n (or_last (bytes_eq n (new_name s)) (is_among n (new_names es (after_name s))) k)),
      )
    where
      own : (n : Name) (ns : List Name) → is_among n (n ∷ ns) ≡ true
      own n ns = or_first (bytes_eq n n) (is_among n ns) ((bytes_decides n n).1 refl)

  -- the columns of names
  named_leaves : (more : List Named) (ns : List Name) (n : Name) → is_among n ns ≡ true → Has (all_leaves (Col at input tables more) (columns_named ns)) (Col at input tables more n)
  named_leaves more [] n h = absurd (differ (sym h))
  named_leaves more (m ∷ ns) n h = by (bytes_eq n m) refl h (named_leaves more ns n)
    where
      by : (b : Bool) → bytes_eq n m ≡ b → (bytes_eq n m || is_among n ns) ≡ true → (is_among n ns ≡ true → Has (all_leaves (Col at input tables more) (columns_named ns)) (Col at input tables more n))
          → Has (Col at input tables more m ∷ all_leaves (Col at input tables more) (columns_named ns)) (Col at input tables more n)
      by true q h rest = inl (ap (Col at input tables more) (sym ((bytes_decides n m).0 q)))
      by false q h rest = inr (rest (sym (ap (λ b. b || is_among n ns) q) ∙ h))

  plain_columns : (ns : List Name) → AllByRecursion (λ e. IsTrue (is_elementwise e)) (columns_named ns)
  plain_columns [] = tt
  plain_columns (n ∷ ns) = (refl, plain_columns ns)

  at_columns : (P : Name → Type 0) (ns : List Name) → ((n : Name) → is_among n ns ≡ true → P n) → AllByRecursion (AtLeaves P) (columns_named ns)
  at_columns P [] f = tt
  at_columns P (n ∷ ns) f = (f n (or_first (bytes_eq n n) (is_among n ns) ((bytes_decides n n).1 refl)), at_columns P ns (λ m h. f m (or_last (bytes_eq m n) (is_among m ns) h)))

  read_under : (more : List Named) (names : Names) (es : List Tree) (s : State) → AllByRecursion (λ (m : Named). (stands_for more m.0 ≡ m.1) × IsTrue (named at input tables more m.0) × IsKnown names m.0) (under (new_names es s) es)
      → AllByRecursion (AtLeaves (IsRead at input tables more names)) (columns_named (new_names es s))
  read_under more names [] s h = tt
  read_under more names (e ∷ es) s h = ((h.0.2, h.0.1), read_under more names es (after_name s) h.1)

  known_read : (more : List Named) (names : Names) (es : List Tree) → AllByRecursion (AtLeaves (IsRead at input tables more names)) es → AllByRecursion (AtLeaves (IsKnown names)) es
  known_read more names es h = at_all (IsRead at input tables more names) (IsKnown names) (λ n k. k.0) es h

  apart_collected : (es : List Tree) (s : State) (ms : List Named) (causes : List Cause) → IsFine at input tables ms s → es ≢ [] → list_all is_independent es ≡ true → AllTyped es → Covers at causes (columns_at at es t)
      → Inside F N tables choice (apart_from_input at input es s).state.nodes → (after_names es s).names.next ≤ 2 ^ 64 → Collected es s (apart_from_input at input es s) ms causes
  apart_collected es s ms causes fine some independent typed covers inside small =
      let ns = new_names es s in
      let items = under ns es in
      let a = after_names es s in
      let all = all_of es independent in
      let f = are_fresh at input tables es s ms fine.only small in
      let fs = columns_named ns in
      let p : PhysicalNode = record { kind = independent_select items; schema = selected_schema items []; origin = at; inputs = [] } in
      let nodes = named_nodes es s in
      let exprs = exprs_under ns es (count_names at input tables es s) in
      let zip : AllOf causes (all_causes (zipped false at (columns_at at (exprs_of items) lone))) =
      subst (λ cs. AllOf causes (all_causes (zipped false at cs))) (sym (ap (λ es. columns_at at es lone) exprs ∙ lone_columns es all)) (covers_zip at causes (columns_at at es t) covers) in
      let new = new_one F N tables choice causes a.nodes p inside (λ U. refl) (λ U before. select_all F N tables choice causes at items lone U zip before) in
      let own = choice (length a.nodes) p (there F N tables choice a.nodes p inside) in
      let i : Stream = (length a.nodes, 0) in
      let over = lone_over f.more s es fs a.names all typed f.stand (named_leaves f.more ns) in
      let stream = select_stream_is at input tables F f.more fs causes a.names (a.nodes ++ p ∷ []) lone items i over (none_under es s some) own (last_broken F N tables choice causes a.nodes p new) (ap schema_or_none (last_there a.nodes p)) in
      let read = read_under f.more a.names es s f.stand in
      let l = length_more a.nodes p in
      record {
        more = f.more;
        extends = f.extends;
        after =
            record {
              back = f.back;
              plain = plain_columns ns;
              names_known = known_read f.more a.names fs read;
              names_named = read;
              names_stand = at_columns (Stands at input tables (i ∷ []) [] []) ns (λ n h.
                  among_first n (names_of (tables i.0).schema ++ []) [] (among_first n (names_of (tables i.0).schema) [] (ap (is_among n) (stream.1 ∙ names_under at input tables es s) ∙ h)));
              streams = (stream.0, tt);
              nodes = (l, tt);
              reduced = tt;
              narrow = tt;
              mapped = tt;
              asked_for = tt;
              only = f.only;
            };
        made = subst (λ from. New F N tables choice causes from (a.nodes ++ p ∷ [])) nodes new;
        dependent = reads_some es s some;
      }
    where
      none_under : (es : List Tree) (s : State) → es ≢ [] → under (new_names es s) es ≢ []
      none_under [] s some e = some refl
      none_under (x ∷ es) s some e = cc

      reads_some : (es : List Tree) (s : State) → es ≢ [] → list_any (λ e. not (is_independent e)) (columns_named (new_names es s)) ≡ true
      reads_some [] s some = absurd (some refl)
      reads_some (x ∷ es) s some = refl

      length_more : (nodes : Shape) (p : PhysicalNode) → length nodes < length (nodes ++ p ∷ [])
      length_more nodes p = let l = length-append nodes (p ∷ []) in omega arith

  dependent_of : (es : List Tree) → list_all is_independent es ≡ false → list_any (λ e. not (is_independent e)) es ≡ true
  dependent_of [] h = absurd (differ h)
  dependent_of (e ∷ es) h = by (is_independent e) refl (dependent_of es)
    where
      by : (b : Bool) → is_independent e ≡ b → (list_all is_independent es ≡ false → list_any (λ e. not (is_independent e)) es ≡ true) → (not (is_independent e) || list_any (λ e. not (is_independent e)) es) ≡ true
      by false q rest = or_first (not (is_independent e)) (list_any (λ e. not (is_independent e)) es) (ap not q)
      by true q rest = or_last (not (is_independent e)) (list_any (λ e. not (is_independent e)) es) (rest (sym (ap (λ b. b && list_all is_independent es) q) ∙ h))

  input_broken : (causes : List Cause) (es : List Tree) → list_all is_independent es ≡ false → AllByRecursion (KnownOf causes) (columns_at at es t) → AllOf causes t.broken
  input_broken causes [] h known = absurd (differ h)
  input_broken causes (e ∷ es) h known = by (is_independent e) refl (λ q. input_broken causes es q known.1)
    where
      by : (b : Bool) → is_independent e ≡ b → (list_all is_independent es ≡ false → AllOf causes t.broken) → AllOf causes t.broken
      by false q rest = input_shows (λ (c : Cause). Has causes c) at t e q known.0
      by true q rest = rest (sym (ap (λ b. b && list_all is_independent es) q) ∙ h)

  -- All that one call for some expressions gathers.
  pub collected : (os : List Operand) → AllAdd at input os → AllGrow at input os → AllSteps F at input N tables choice os → (s : State) (ms : List Named) (causes : List Cause) → IsFine at input tables ms s → exprs_of_all os ≢ [] → AllTyped (exprs_of_all os)
      → Covers at causes (columns_at at (exprs_of_all os) t) → Inside F N tables choice (together at input os s).state.nodes → (together at input os s).state.names.next ≤ 2 ^ 64 → Collected (exprs_of_all os) s (together at input os s) ms causes
  collected os adds grow steps s ms causes fine some typed covers = by (all_independent (exprs_of_all os)) refl
    where
      by : (b : Bool) → all_independent (exprs_of_all os) ≡ b → Inside F N tables choice (cond {A = State → Bundle} b (apart_from_input at input (exprs_of_all os)) (over_input at input os) s).state.nodes
          → (cond {A = State → Bundle} b (apart_from_input at input (exprs_of_all os)) (over_input at input os) s).state.names.next ≤ 2 ^ 64
          → Collected (exprs_of_all os) s (cond {A = State → Bundle} b (apart_from_input at input (exprs_of_all os)) (over_input at input os) s) ms causes
      by true q inside small = apart_collected (exprs_of_all os) s ms causes fine some q typed covers inside small
      by false q inside small =
          let c = new_call s in
          let d = each os c in
          let p = each_adds at input os adds c fine.ordered fine.node tt in
          let n = node_later s.nodes d.state.nodes p.0 input fine.node in
          let g = grows_each at input os grow c in
          let e = gathers at input d p.0.1 n p.1 in
          let names = gathered_names at input d in
          let r = each_to F at input N tables choice os adds grow steps c ms [] causes fine (none_gathered F at input N tables choice ms causes s fine.only) (inside_before F N tables choice d.state.nodes (gathered at input d).state.nodes e.0 inside)
          (subst (λ (a : Names). a.next ≤ 2 ^ 64) names small) typed covers.0 in
          let b = gathered_bundle F at input N tables choice d r.more (exprs_of_all os) causes (fine_later at input tables ms r.more s d.state fine g p.0 r.extends r.after.only) r.after covers (input_broken causes (exprs_of_all os) q covers.0) inside in
          record {
            more = r.more;
            extends = r.extends;
            after = b.after;
            made = new_then F N tables choice causes s.nodes d.state.nodes (gathered at input d).state.nodes r.made b.made;
            dependent = ap (list_any (λ e. not (is_independent e))) (gathered_exprs at input d ∙ r.answers) ∙ r.reads (dependent_of (exprs_of_all os) q);
          }

-- Rules that answer over a stream of their own, over the reduce of the input, or over operands that are lowered together.
use Rattle.std.proofs.Common.{◌≡◌, ◌≢◌, ◌⊎◌, inl, inr, ℕ, ◌≤◌, ◌^◌, true, false, not, List, [], ◌∷◌, ◌++◌, refl, sym, ap, subst, ◌∙◌}
use Rattle.std.specs.Prelude.{IsTrue, is_some, map}
use Rattle.std.specs.Cmp.Lexicographic.{bytes_decides}
use Rattle.std.specs.List.{AllByRecursion, list_any}
use Rattle.std.specs.Str.{bytes_eq}
use Rattle.std.proofs.lemmas.Grind.{flat_map-append}
use Rattle.ps_frame.specs.Causes.{Cause, Column}
use Rattle.ps_frame.specs.Eval.{eval}
use Rattle.ps_frame.specs.Functions.{Functions}
use Rattle.ps_frame.specs.Tables.{Table}
use Rattle.ps_frame.specs.Trees.{Tree}
use Rattle.ps_frame.specs.Typing.{is_elementwise, is_independent, kind_over}
use Rattle.ps_frame.specs.Zip.{extent_of, extents}
use Rattle.ps_meaning.specs.Cases.{columns_at}
use Rattle.ps_meaning.specs.Schemas.{expr_names, is_among, names_of}
use Rattle.ps_meaning.specs.Shape.{IsPhysicalChoice, Shape}
use Rattle.ps_meaning.specs.Steps.{Name, Named}
use Rattle.ps_rules.specs.Calls.{Call, Operand, exprs_of_all, given, given_reduction}
use Rattle.ps_rules.specs.Names.{IsKnown, Names}
use Rattle.ps_rules.specs.Rules.{over_operands, together}
use Rattle.ps_rules.specs.Slots.{State, Stream, added, after_name, all_added, new_name}
use Rattle.ps_rules.proofs.Free.{fresh_known}
use Rattle.ps_shares.specs.Leaves.{AtLeaves, Naming, all_leaves, leaves, put_back, stands_for}
use Rattle.ps_shares.proofs.Adding.{Adds, AllAdd, IsNode, added_nodes, all_added_nodes, nodes_later, together_gathers}
use Rattle.ps_shares.proofs.Ends.{has_first}
use Rattle.ps_shares.proofs.Fresh.{Grown, grown_fresh, grown_then}
use Rattle.ps_shares.proofs.Growing.{AllGrow, grows_together}
use Rattle.ps_shares.proofs.Members.{Has}
use Rattle.ps_shares.proofs.Named.{at_all}
use Rattle.ps_bundles.proofs.Apart.{AllTyped, collected}
use Rattle.ps_bundles.proofs.CallSteps.{StepTo, Steps, added_stands, all_added_one, all_and, asked_more, gathered_more, names_in, others_stand, stands_more}
use Rattle.ps_bundles.proofs.Gathered.{Col, Covered, Extends, Gathered, IsItem, IsNarrow, IsRead, IsStream, OnlyKnown, Stands, all_map, extends_fresh, extends_then, has_last, items_later, named, only_fresh, own_named, own_stands, streams_later}
use Rattle.ps_bundles.proofs.NewNodes.{Covers, KnownOf, New}
use Rattle.ps_bundles.proofs.Reading.{among_first, among_last, among_or, or_first}
use Rattle.ps_bundles.proofs.Together.{AllSteps}
use Rattle.ps_bundles.proofs.ZipEnds.{never_true}

-- several streams that are added
pub all_added_all : (P : Stream → Type 0) (xs ss : List Stream) → AllByRecursion P xs → AllByRecursion P ss → AllByRecursion P (all_added xs ss)
all_added_all P [] ss p q = q
all_added_all P (i ∷ xs) ss p q = all_added_all P xs (added i ss) p.1 (all_added_one P i ss p.0 q)

names_append : (xs ys : List Named) → expr_names (xs ++ ys) ≡ expr_names xs ++ expr_names ys
names_append [] ys = refl
names_append (y ∷ xs) ys = ap (λ ns. y.0 ∷ ns) (names_append xs ys)

own_among : (n : Name) (ns : List Name) → is_among n (n ∷ ns) ≡ true
own_among n ns = or_first (bytes_eq n n) (is_among n ns) ((bytes_decides n n).1 refl)

module _ (at : ℕ) (input : Stream) (tables : ℕ → Table) where
  pub others_stand_all : (xs ss : List Stream) (n : Name) → is_among n (names_in at input tables ss) ≡ true → is_among n (names_in at input tables (all_added xs ss)) ≡ true
  others_stand_all [] ss n h = h
  others_stand_all (i ∷ xs) ss n h = others_stand_all xs (added i ss) n (others_stand at input tables i ss n h)

  pub added_stand_all : (xs ss : List Stream) (n : Name) → is_among n (names_in at input tables xs) ≡ true → is_among n (names_in at input tables (all_added xs ss)) ≡ true
  added_stand_all [] ss n h = never_true (is_among n (names_in at input tables ss)) h
  added_stand_all (i ∷ xs) ss n h = by (among_or n (names_of (tables i.0).schema) (names_in at input tables xs) h) (added_stand_all xs (added i ss) n)
    where
      by : (is_among n (names_of (tables i.0).schema) ≡ true) ⊎ (is_among n (names_in at input tables xs) ≡ true) → (is_among n (names_in at input tables xs) ≡ true → is_among n (names_in at input tables (all_added xs (added i ss))) ≡ true)
          → is_among n (names_in at input tables (all_added xs (added i ss))) ≡ true
      by (inl q) rest = others_stand_all xs (added i ss) n (added_stands at input tables i ss n q)
      by (inr q) rest = rest q

  -- a stream, or an item, over more expressions
  pub stream_over : (ms : List Named) (es fs : List Tree) (causes : List Cause) (names : Names) (nodes : Shape) → ((c : Column) → Covered at input tables (Col at input tables ms) es c → Covered at input tables (Col at input tables ms) fs c)
      → (ss : List Stream) → AllByRecursion (IsStream at input tables ms es causes names nodes) ss → AllByRecursion (IsStream at input tables ms fs causes names nodes) ss
  stream_over ms es fs causes names nodes f ss h =
      all_map (IsStream at input tables ms es causes names nodes) (IsStream at input tables ms fs causes names nodes) (λ i k.
      record {
        columns = k.columns;
        ends = k.ends;
        known = k.known;
        kinds = k.kinds;
        some = k.some;
        covered = all_map (Covered at input tables (Col at input tables ms) es) (Covered at input tables (Col at input tables ms) fs) f k.columns k.covered;
        broken = k.broken;
        names_known = k.names_known;
        schema = k.schema;
      }) ss h

  pub items_over : (ms : List Named) (es fs : List Tree) (causes : List Cause) (names : Names) → ((c : Column) → Has (all_leaves (Col at input tables ms) es) c → Has (all_leaves (Col at input tables ms) fs) c)
      → (rs : List Named) → AllByRecursion (IsItem at input tables ms es causes names) rs → AllByRecursion (IsItem at input tables ms fs causes names) rs
  items_over ms es fs causes names f rs h =
      all_map (IsItem at input tables ms es causes names) (IsItem at input tables ms fs causes names) (λ m k.
      record { is = k.is; is_named = k.is_named; name_known = k.name_known; covered = f (Col at input tables ms m.0) k.covered; typed = k.typed; causes_known = k.causes_known }) rs h

module _ (F : Functions) (at : ℕ) (input : Stream) (N : Shape) (tables : ℕ → Table) (choice : IsPhysicalChoice F N tables) where
  abbrev t : Table
  t = tables input.0

  -- an answer over a stream of its own
  pub given_step : (e : Tree) (c : Call) (ms : List Named) (asked : List Tree) (causes : List Cause) (f : Name) (stream : Stream) (b : State) (more : List Named) → Gathered at input tables ms asked causes c.state c.streams c.reduced c.exprs c.mapped
      → Extends at input tables c.state.names ms more → Grown c.state.names b.names → Adds c.state.nodes b.nodes → stands_for more f ≡ e → IsTrue (named at input tables more f) → IsKnown b.names f
      → IsStream at input tables more (c.exprs ++ Tree.column f ∷ []) causes b.names b.nodes stream → IsNode b.nodes stream → is_among f (names_of (tables stream.0).schema) ≡ true → New F N tables choice causes c.state.nodes b.nodes → OnlyKnown at input tables more b.names
      → StepTo F at input N tables choice e c (given (Tree.column f) stream b c) ms asked causes
  given_step e c ms asked causes f stream b more h x g d stands is_named known is node among made only =
      let fs = Tree.column f ∷ [] in
      let later = streams_later at input tables c.state b ms more g d x c.exprs fs h.names_known causes c.streams h.nodes h.streams in
      let ss = added stream c.streams in
      record {
        more = more;
        extends = x;
        after =
            gathered_more at input tables ms more asked causes c.state b c.streams ss c.reduced c.reduced c.mapped c.mapped c.exprs e (Tree.column f) h x g d stands refl (known, is_named)
            (among_first f (names_in at input tables ss) (expr_names c.reduced ++ expr_names c.mapped) (added_stands at input tables stream c.streams f among))
            (stands_more at input tables c.streams ss c.reduced c.reduced c.mapped c.mapped (others_stand at input tables stream c.streams) (λ n k. k) (λ n k. k))
            (all_added_one (IsStream at input tables more (c.exprs ++ fs) causes b.names b.nodes) stream c.streams is later) (added_nodes b.nodes stream c.streams node (nodes_later c.state.nodes b.nodes d c.streams h.nodes))
            (items_later at input tables c.state b ms more g d x c.exprs fs h.names_known causes c.reduced h.reduced) h.narrow
            (items_later at input tables c.state b ms more g d x c.exprs fs h.names_known causes c.mapped h.mapped)
            (asked_more at input tables asked e c.mapped h.asked_for) only;
        made = made;
        new = Tree.column f;
        answers = refl;
        reads = λ i. refl;
      }

  -- an answer over the reduce of the input
  pub reduction_step : (e : Tree) (c : Call) (ms : List Named) (asked : List Tree) (causes : List Cause) (s : State) (middle : List Named) (item : Tree) → Gathered at input tables ms asked causes c.state c.streams c.reduced c.exprs c.mapped
      → Extends at input tables c.state.names ms middle → Grown c.state.names s.names → Adds c.state.nodes s.nodes → (after_name s).names.next ≤ 2 ^ 64 → item ≡ e → IsTrue (is_some (kind_over t.schema e)) → KnownOf causes (eval at t e)
      → IsNarrow at input tables (eval at t e) → New F N tables choice causes c.state.nodes s.nodes → OnlyKnown at input tables middle s.names → StepTo F at input N tables choice e c (given_reduction item s c) ms asked causes
  reduction_step e c ms asked causes s middle item h x g d small is typed known narrow made only =
      let f = new_name s in
      let more = (f, e) ∷ middle in
      let b = after_name s in
      let fs = Tree.column f ∷ [] in
      let y = extends_then at input tables c.state.names s.names ms middle more g x (extends_fresh at input tables s.names middle e small) in
      let g' = grown_then c.state.names s.names b.names g (grown_fresh s.names) in
      let stands = own_stands at input tables f e middle in
      let k = fresh_known s.names small in
      let rs = c.reduced ++ (f, item) ∷ [] in
      let names : expr_names rs ≡ expr_names c.reduced ++ f ∷ [] = names_append c.reduced ((f, item) ∷ []) in
      let here : Has (all_leaves (Col at input tables more) (c.exprs ++ fs)) (Col at input tables more f) = subst (λ cs. Has cs (Col at input tables more f)) (sym (flat_map-append (leaves (Col at input tables more)) c.exprs fs)) (has_last (all_leaves (Col at input tables more) c.exprs) (Col at input tables more f ∷ []) (Col at input tables more f) (inl refl)) in
      let one : IsItem at input tables more (c.exprs ++ fs) causes b.names (f, item) =
      record {
        is = stands ∙ sym is;
        is_named = own_named at input tables f e middle;
        name_known = k;
        covered = here;
        typed = ap (λ e. is_some (kind_over t.schema e)) is ∙ typed;
        causes_known = subst (λ e. KnownOf causes (eval at t e)) (sym is) known;
      } in
      record {
        more = more;
        extends = y;
        after =
            gathered_more at input tables ms more asked causes c.state b c.streams c.streams c.reduced rs c.mapped c.mapped c.exprs e (Tree.column f) h y g' d stands refl (k, own_named at input tables f e middle)
            (among_last f (names_in at input tables c.streams) (expr_names rs ++ expr_names c.mapped) (among_first f (expr_names rs) (expr_names c.mapped) (ap (is_among f) names ∙ among_last f (expr_names c.reduced) (f ∷ []) (own_among f []))))
            (stands_more at input tables c.streams c.streams c.reduced rs c.mapped c.mapped (λ n k. k) (λ n k. ap (is_among n) names ∙ among_first n (expr_names c.reduced) (f ∷ []) k) (λ n k. k))
            (streams_later at input tables c.state b ms more g' d y c.exprs fs h.names_known causes c.streams h.nodes h.streams) (nodes_later c.state.nodes b.nodes d c.streams h.nodes)
            (all_and (IsItem at input tables more (c.exprs ++ fs) causes b.names) c.reduced ((f, item) ∷ []) (items_later at input tables c.state b ms more g' d y c.exprs fs h.names_known causes c.reduced h.reduced) (one, tt))
            (all_and (λ (m : Named). IsNarrow at input tables (eval at t m.1)) c.reduced ((f, item) ∷ []) h.narrow (subst (λ e. IsNarrow at input tables (eval at t e)) (sym is) narrow, tt))
            (items_later at input tables c.state b ms more g' d y c.exprs fs h.names_known causes c.mapped h.mapped)
            (asked_more at input tables asked e c.mapped h.asked_for) (only_fresh at input tables middle s.names e (grown_fresh s.names) small only);
        made = made;
        new = Tree.column f;
        answers = refl;
        reads = λ i. refl;
      }

  -- An operator over operands that are lowered together.
  module _ (e : Tree) (op : List Tree → Tree) (os : List Operand) (adds : AllAdd at input os) (grow : AllGrow at input os) (steps : AllSteps F at input N tables choice os) (some : exprs_of_all os ≢ []) (typed_os : IsTrue (is_some (kind_over t.schema e)) → AllTyped F at input N tables choice (exprs_of_all os))
      (covers_os : (causes : List Cause) → KnownOf causes (eval at t e) → Covers at causes (columns_at at (exprs_of_all os) t)) (put : (ms : List Named) (bs : List Tree) → map (put_back ms) bs ≡ exprs_of_all os → put_back ms (op bs) ≡ e)
      (plain : (ms : List Named) (bs : List Tree) → map (put_back ms) bs ≡ exprs_of_all os → AllByRecursion (λ e. IsTrue (is_elementwise e)) bs → is_elementwise (op bs) ≡ true)
      (reads : (ms : List Named) (bs : List Tree) → map (put_back ms) bs ≡ exprs_of_all os → list_any (λ e. not (is_independent e)) bs ≡ true → is_independent (op bs) ≡ false)
      (has : (ms : List Named) (bs : List Tree) → map (put_back ms) bs ≡ exprs_of_all os → all_leaves (Col at input tables ms) (op bs ∷ []) ≡ all_leaves (Col at input tables ms) bs ++ [])
      (at_op : (P : Name → Type 0) (ms : List Named) (bs : List Tree) → map (put_back ms) bs ≡ exprs_of_all os → AllByRecursion (AtLeaves P) bs → AtLeaves P (op bs)) where
    pub operator_steps : Steps F at input N tables choice e (over_operands at input op os)
    operator_steps c ms asked causes fine h inside small typed known =
        let b = together at input os c.state in
        let r = collected F at input N tables choice os adds grow steps c.state ms causes fine some (typed_os typed) (covers_os causes known) inside small in
        let k = together_gathers at input os adds c.state fine.ordered fine.node in
        let g = grows_together at input os grow c.state in
        let d = k.0 in
        let x = r.extends in
        let new = op b.exprs in
        let es = c.exprs ++ new ∷ [] in
        let back = r.after.back in
        let ss = all_added b.streams c.streams in
        let rs = c.reduced ++ b.reduced in
        let names : expr_names rs ≡ expr_names c.reduced ++ expr_names b.reduced = names_append c.reduced b.reduced in
        let env = Col at input tables r.more in
        let all : all_leaves env es ≡ all_leaves env c.exprs ++ (all_leaves env b.exprs ++ []) = flat_map-append (leaves env) c.exprs (new ∷ []) ∙ ap (λ cs. all_leaves env c.exprs ++ cs) (has r.more b.exprs back) in
        let leaf : (c : Column) → Has (all_leaves env b.exprs) c → Has (all_leaves env es) c = λ col q. subst (λ cs. Has cs col) (sym all) (has_last (all_leaves env c.exprs) (all_leaves env b.exprs ++ []) col (has_first (all_leaves env b.exprs) [] col q)) in
        let cover : (col : Column) → Covered at input tables env b.exprs col → Covered at input tables env es col = λ col q. covered_by env c.exprs b.exprs es all col q in
        record {
          more = r.more;
          extends = x;
          after =
              gathered_more at input tables ms r.more asked causes c.state b.state c.streams ss c.reduced rs c.mapped c.mapped c.exprs e new h x g d (put r.more b.exprs back) (plain r.more b.exprs back r.after.plain)
              (at_op (IsRead at input tables r.more b.state.names) r.more b.exprs back r.after.names_named)
              (at_op (Stands at input tables ss rs c.mapped) r.more b.exprs back (at_all (Stands at input tables b.streams b.reduced []) (Stands at input tables ss rs c.mapped)
              (stands_more at input tables b.streams ss b.reduced rs [] c.mapped (added_stand_all at input tables b.streams c.streams) (λ n q. ap (is_among n) names ∙ among_last n (expr_names c.reduced) (expr_names b.reduced) q) (λ n q. never_true (is_among n (expr_names c.mapped)) q)) b.exprs r.after.names_stand))
              (stands_more at input tables c.streams ss c.reduced rs c.mapped c.mapped (others_stand_all at input tables b.streams c.streams) (λ n q. ap (is_among n) names ∙ among_first n (expr_names c.reduced) (expr_names b.reduced) q) (λ n q. q))
              (all_added_all (IsStream at input tables r.more es causes b.state.names b.state.nodes) b.streams c.streams (stream_over at input tables r.more b.exprs es causes b.state.names b.state.nodes cover b.streams r.after.streams)
              (streams_later at input tables c.state b.state ms r.more g d x c.exprs (new ∷ []) h.names_known causes c.streams h.nodes h.streams))
              (all_added_nodes b.state.nodes b.streams c.streams k.1 (nodes_later c.state.nodes b.state.nodes d c.streams h.nodes))
              (all_and (IsItem at input tables r.more es causes b.state.names) c.reduced b.reduced (items_later at input tables c.state b.state ms r.more g d x c.exprs (new ∷ []) h.names_known causes c.reduced h.reduced) (items_over at input tables r.more b.exprs es causes b.state.names leaf b.reduced r.after.reduced))
              (all_and (λ (m : Named). IsNarrow at input tables (eval at t m.1)) c.reduced b.reduced h.narrow r.after.narrow)
              (items_later at input tables c.state b.state ms r.more g d x c.exprs (new ∷ []) h.names_known causes c.mapped h.mapped)
              (asked_more at input tables asked e c.mapped h.asked_for) r.after.only;
          made = r.made;
          new = new;
          answers = refl;
          reads = λ i. reads r.more b.exprs back r.dependent;
        }
      where
        covered_by : (env : Naming) (xs bs es : List Tree) → all_leaves env es ≡ all_leaves env xs ++ (all_leaves env bs ++ []) → (col : Column) → Covered at input tables env bs col → Covered at input tables env es col
        covered_by env xs bs es all col (inl q) = inl (subst (λ cs. Has cs col) (sym all) (has_last (all_leaves env xs) (all_leaves env bs ++ []) col (has_first (all_leaves env bs) [] col q)))
        covered_by env xs bs es all col (inr (clear, q)) =
            inr (clear, (λ moves. subst (λ cs. Has (extents cs) (extent_of col)) (sym all) (in_last (all_leaves env xs) (all_leaves env bs ++ []) (in_first (all_leaves env bs) [] (q moves)))))
          where
            in_first : (xs ys : List Column) → Has (extents xs) (extent_of col) → Has (extents (xs ++ ys)) (extent_of col)
            in_first [] ys k = absurd k
            in_first (y ∷ xs) ys (inl k) = inl k
            in_first (y ∷ xs) ys (inr k) = inr (in_first xs ys k)

            in_last : (xs ys : List Column) → Has (extents ys) (extent_of col) → Has (extents (xs ++ ys)) (extent_of col)
            in_last [] ys k = k
            in_last (y ∷ xs) ys k = inr (in_last xs ys k)

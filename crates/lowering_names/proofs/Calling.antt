-- What the rules on lists of expressions make: fresh names that stand once, kinds over schemas, and nodes that keep the rules.
use Rattle.std.proofs.Common.{◌≡◌, ◌≢◌, ℕ, suc, ◌+◌, ◌≤◌, ◌^◌, Bool, true, false, cond, List, [], ◌∷◌, ◌++◌, length, Some, refl, sym, ap, subst, ◌∙◌, arith, length-append}
use Rattle.std.specs.Prelude.{IsTrue, flat_map, is_some, map, slice_get, unwrap_or, ◌==◌, ◌&&◌}
use Rattle.std.specs.List.{AllByRecursion, list_all}
use Rattle.std.proofs.lemmas.Bool.{eqb-true}
use Rattle.std.proofs.lemmas.Option.{slice_get_within}
use Rattle.ps_frame.proofs.Lists.{and_both}
use Rattle.ps_frame.specs.Causes.{is_empty}
use Rattle.ps_frame.specs.Frames.{has_distinct_names}
use Rattle.ps_frame.specs.Functions.{Functions}
use Rattle.ps_frame.specs.Tables.{Fields}
use Rattle.ps_frame.specs.Trees.{Tree}
use Rattle.ps_frame.specs.Typing.{is_elementwise, is_independent, kind_over}
use Rattle.ps_meaning.specs.Schemas.{expr_names, joined_schemas, named_fields, names_of}
use Rattle.ps_meaning.specs.Shape.{PhysicalNode, Shape, in_memory_map, independent_select, reduce, select_node, simple_projection, zip_node}
use Rattle.ps_meaning.specs.Sound.{have_all_kinds}
use Rattle.ps_meaning.specs.Steps.{Name, Named, exprs_of, select}
use Rattle.ps_rowwise.proofs.Ignoring.{same-kind}
use Rattle.ps_rules.specs.Bundles.{gathered, names_kept, one_of, one_stream, with_map, with_reduce, without_map}
use Rattle.ps_rules.specs.Calls.{Bundle, Call, Operand, all_independent, each, exprs_of_all, given, given_bundle, given_reduction, left_to_map, new_call}
use Rattle.ps_rules.specs.Lowered.{as_operand, lower, select_stream}
use Rattle.ps_rules.specs.Names.{IsKnown, Names}
use Rattle.ps_rules.specs.Rules.{NamedOperand, answered, apart_from_input, are_own_columns, computed, names_of_items, operands_of, over_input, stays, stays_or, together}
use Rattle.ps_rules.specs.Slots.{Made, State, Stream, added, after_name, after_names, new_name, new_names, node_at, over_selected, projection, same_names, same_stream, schema_at, schema_or_none, selected_schema, under, with_columns, without_input}
use Rattle.ps_shares.specs.Kept.{AreKnown, IsOrdered, IsReady}
use Rattle.ps_shares.proofs.Adding.{Adds, IsNode, MadeFrom, adds, adds_same, adds_then, all_add, all_grow, answers_made, columns_made, each_adds, inserted, named_nodes, together_gathers}
use Rattle.ps_shares.proofs.Ends.{exprs_under, kept_there, last_there}
use Rattle.ps_shares.proofs.FlatLength.{both_hold}
use Rattle.ps_shares.proofs.Fresh.{Grown, grown_fresh, grown_same, grown_then}
use Rattle.ps_shares.proofs.Growing.{columns_names, finished_names, gathered_names, grows, grows_each, grows_together}
use Rattle.ps_shares.proofs.Stands.{among_known}
use Rattle.ps_bundles.proofs.CallSteps.{all_and}
use Rattle.ps_bundles.proofs.Reading.{has_fields}
use Rattle.ps_bundles.proofs.Together.{kept_names}
use Rattle.ps_bundles.proofs.ZipEnds.{is_some as is_not_empty}
use Rattle.name_rules.proofs.Listing.{empty_none, joined_streams}
use Rattle.name_rules.specs.Lawful.{KeepsRules}
use Rattle.name_rules.proofs.Extending.{Extends, extends_none, extends_one, extends_then}
use Rattle.name_rules.proofs.Items.{all_some, as_many, count_names, each_among, found_among, items_some, kinds_same, names_under, operands_listed, some_under, times_items}
use Rattle.name_rules.proofs.Ruling.{field_names, independent_right, map_right, project_right, reduce_right, select_right, some_fields, typed_fields, zip_right}
use Rattle.name_rules.proofs.Streams.{Held, are_nodes, held_fewer, held_input, held_last, held_moved, held_none, held_one, held_then, zip_once, zip_some}
use Rattle.name_rules.proofs.Times.{FreshOnce, distinct_once, fewer_fresh, names_fresh, one_fresh, times, times_among}
use Rattle.lowering_nodes.specs.Formed.{NewAreFormed}
use Rattle.lowering_nodes.proofs.Forming.{exprs_form_nodes}
use Rattle.lowering_kinds.proofs.Selecting.{exprs_back, items_of, named_back, names_back, operands_back, own_fields}
use Rattle.lowering_kinds.proofs.Staying.{kinds_stay}
use Rattle.lowering_names.proofs.Keeping.{all_kept, kept_once, some_kept}

alone_typed : (g : Fields) (es : List Tree) → list_all is_independent es ≡ true → have_all_kinds g es ≡ true → have_all_kinds [] es ≡ true
alone_typed g [] i h = refl
alone_typed g (e ∷ es) i h =
    let a = both_hold (is_independent e) (list_all is_independent es) i in
    let b = both_hold (is_some (kind_over g e)) (have_all_kinds g es) h in
    and_both (is_some (kind_over [] e)) (have_all_kinds [] es) (ap is_some (same-kind [] g e a.0) ∙ b.0) (alone_typed g es a.1 b.1)

none_some : {A : Type 0} (xs : List A) (n : ℕ) → xs ≢ [] → 1 ≤ length xs
none_some [] n some = absurd (some refl)
none_some (x ∷ xs) n some = omega arith

module _ (F : Functions) (at : ℕ) (input : Stream) (node : PhysicalNode) (distinct : IsTrue (has_distinct_names node.schema)) where
  abbrev pub f : Fields
  f = node.schema

  abbrev pub Right : Shape → PhysicalNode → Type 0
  Right a p = KeepsRules F p.kind p.schema (map (schema_at a) p.inputs)

  -- nodes that were added, each of which keeps the rules
  abbrev pub Makes : Shape → Shape → Type 0
  Makes a b = Extends Right a b

  abbrev pub Later : State → State → Type 0
  Later s t = Adds s.nodes t.nodes × Grown s.names t.names

  pub later_then : (r s t : State) → Later r s → Later s t → Later r t
  later_then r s t p q = (adds_then r.nodes s.nodes t.nodes p.0 q.0, grown_then r.names s.names t.names p.1 q.1)

  -- where a call may be made
  pub record Fine (s : State) : Type 0 where
    pub ordered : IsOrdered s.nodes
    pub there : node_at s.nodes input.0 ≡ Some node
    pub known : AreKnown s.names (names_of f)

  known_later : (a b : Names) (ns : List Name) → Grown a b → AreKnown a ns → AreKnown b ns
  known_later a b [] g h = tt
  known_later a b (n ∷ ns) g h = (g.0 n h.0, known_later a b ns g h.1)

  pub fine_later : (s t : State) → Later s t → Fine s → Fine t
  fine_later s t l h =
      record {
        ordered = l.0.1;
        there = ap (λ nodes. slice_get nodes input.0) l.0.0.1 ∙ kept_there s.nodes l.0.0.0 input.0 node h.there;
        known = known_later s.names t.names (names_of f) l.1 h.known;
      }

  pub is_node : (s : State) → Fine s → IsNode s.nodes input
  is_node s h = slice_get_within s.nodes input.0 node h.there

  pub schema_is : (s : State) → Fine s → schema_at s.nodes input ≡ f
  schema_is s h = ap schema_or_none h.there

  -- the input's names are known
  abbrev pub KnowsInput : Names → Type 0
  KnowsInput a = (n : Name) → 1 ≤ times n (names_of f) → IsKnown a n

  pub input_known : (s : State) → Fine s → KnowsInput s.names
  input_known s h n some = among_known n (names_of f) s.names h.known (times_among n (names_of f) some)

  abbrev pub Typed : Tree → Type 0
  Typed e = IsTrue (is_some (kind_over f e))

  abbrev pub AllTyped : List Tree → Type 0
  AllTyped es = AllByRecursion Typed es

  abbrev pub Items : List Named → Type 0
  Items rs = AllByRecursion (λ (m : Named). Typed m.1) rs

  pub ready : (s : State) → Fine s → (es : List Tree) → AllTyped es → es ≢ [] → IsReady s input es
  ready s h es typed some = record { ordered = h.ordered; node = node; there = h.there; known = h.known; distinct_names = distinct; typed = all_some f es typed; some = some }

  abbrev pub others : List Named → List Named → Name → ℕ
  others rs ms n = times n (expr_names rs) + times n (expr_names ms)

  -- what a call has gathered, since these names were known
  pub record Good (a : Names) (c : Call) : Type 0 where
    pub held : Held input a c.state c.streams (others c.reduced c.mapped)
    pub reduced : Items c.reduced
    pub mapped : Items c.mapped

  pub record StepTo (a : Names) (c d : Call) : Type 0 where
    pub good : Good a d
    pub made : Makes c.state.nodes d.state.nodes

  abbrev pub Steps : Tree → (Call → Call) → Type 0
  Steps e rule = (a : Names) (c : Call) → Grown a c.state.names → Fine c.state → Good a c → Typed e → (rule c).state.names.next ≤ 2 ^ 64 → StepTo a c (rule c)

  abbrev pub Does : Tree → Type 0
  Does e = Steps e (lower at input e)

  abbrev pub AllDo : List Tree → Type 0
  AllDo es = AllByRecursion Does es

  abbrev pub ops : List Tree → List Operand
  ops es = map (as_operand at input) es

  -- what is left to a map
  pub left_steps : (e : Tree) → Steps e (left_to_map e)
  left_steps e a c g fine h typed small =
      let s = c.state in
      let m : Named = (new_name s, e) in
      let v : Name → ℕ = λ n. times n (new_name s ∷ []) in
      record {
        good =
            record {
              held =
                  held_then input a s (after_name s) c.streams [] (others c.reduced c.mapped) v (others c.reduced (c.mapped ++ m ∷ [])) g (adds_same s.nodes fine.ordered) (grown_fresh s.names) (λ n. let r = times_items n c.mapped (m ∷ []) in omega arith) h.held
                  (held_none input s.names (after_name s) v (one_fresh s.names small));
              reduced = h.reduced;
              mapped = all_and (λ (m : Named). Typed m.1) c.mapped (m ∷ []) h.mapped (typed, tt);
            };
        made = extends_none Right s.nodes;
      }

  -- what stays
  stays_steps : (e : Tree) → Steps e (stays at input e)
  stays_steps e a c g fine h typed small = by (is_independent e)
    where
      by : (b : Bool) → StepTo a c (record { state = c.state; streams = cond b c.streams (added input c.streams); reduced = c.reduced; exprs = c.exprs ++ e ∷ []; mapped = c.mapped })
      by true = record { good = record { held = h.held; reduced = h.reduced; mapped = h.mapped }; made = extends_none Right c.state.nodes }
      by false =
          let u = others c.reduced c.mapped in
          record {
            good =
                record {
                  held =
                      held_then input a c.state c.state c.streams (input ∷ []) u (λ n. 0) u g (adds_same c.state.nodes fine.ordered) (grown_same c.state.names) (λ n. omega arith) h.held (held_input input c.state.names c.state (is_node c.state fine));
                  reduced = h.reduced;
                  mapped = h.mapped;
                };
            made = extends_none Right c.state.nodes;
          }

  pub stays_or_steps : (e : Tree) (rule : Call → Call) → (is_elementwise e ≡ false → Steps e rule) → Steps e (stays_or at input e rule)
  stays_or_steps e rule rest = by (is_elementwise e) refl
    where
      by : (b : Bool) → is_elementwise e ≡ b → Steps e (cond {A = Call → Call} b (stays at input e) rule)
      by true q = stays_steps e
      by false q = rest q

  -- an answer over a stream of its own
  pub given_steps : (x : Tree) (a : Names) (c : Call) (m : Made) → Grown a c.state.names → Later c.state m.state → Good a c → IsNode m.state.nodes m.stream → schema_at m.state.nodes m.stream ≢ []
      → FreshOnce c.state.names m.state.names (λ n. times n (names_of (schema_at m.state.nodes m.stream))) → Makes c.state.nodes m.state.nodes → StepTo a c (given x m.stream m.state c)
  given_steps x a c m g l h there some fresh made =
      let u = others c.reduced c.mapped in
      record {
        good =
            record {
              held = held_then input a c.state m.state c.streams (m.stream ∷ []) u (λ n. 0) u g l.0 l.1 (λ n. omega arith) h.held (held_one input c.state.names m.state m.stream there some fresh);
              reduced = h.reduced;
              mapped = h.mapped;
            };
        made = made;
      }

  -- an answer over the reduce of the input
  pub reduction_steps : (x : Tree) (a : Names) (c : Call) (s : State) → Grown a c.state.names → Later c.state s → Good a c → Typed x → FreshOnce c.state.names (after_name s).names (λ n. times n (new_name s ∷ [])) → Makes c.state.nodes s.nodes
      → StepTo a c (given_reduction x s c)
  reduction_steps x a c s g l h typed fresh made =
      let m : Named = (new_name s, x) in
      let v : Name → ℕ = λ n. times n (new_name s ∷ []) in
      record {
        good =
            record {
              held =
                  held_then input a c.state (after_name s) c.streams [] (others c.reduced c.mapped) v (others (c.reduced ++ m ∷ []) c.mapped) g l.0 (grown_then c.state.names s.names (after_name s).names l.1 (grown_fresh s.names))
                  (λ n. let r = times_items n c.reduced (m ∷ []) in omega arith) h.held (held_none input c.state.names (after_name s) v fresh);
              reduced = all_and (λ (m : Named). Typed m.1) c.reduced (m ∷ []) h.reduced (typed, tt);
              mapped = h.mapped;
            };
        made = made;
      }

  -- what a call has gathered in the end
  pub record Bundled (a : Names) (s : State) (b : Bundle) : Type 0 where
    pub held : Held input a b.state b.streams (λ n. times n (expr_names b.reduced))
    pub reduced : Items b.reduced
    pub made : Makes s.nodes b.state.nodes

  pub bundle_steps : (op : List Tree → Tree) (a : Names) (c : Call) (b : Bundle) → Grown a c.state.names → Later c.state b.state → Good a c → Bundled c.state.names c.state b → StepTo a c (given_bundle op b c)
  bundle_steps op a c b g l h k =
      record {
        good =
            record {
              held =
                  held_then input a c.state b.state c.streams b.streams (others c.reduced c.mapped) (λ n. times n (expr_names b.reduced)) (others (c.reduced ++ b.reduced) c.mapped) g l.0 l.1 (λ n. let r = times_items n c.reduced b.reduced in omega arith) h.held k.held;
              reduced = all_and (λ (m : Named). Typed m.1) c.reduced b.reduced h.reduced k.reduced;
              mapped = h.mapped;
            };
        made = k.made;
      }

  -- the rules of some expressions, one after the other
  step_later : (a : Names) (e : Tree) (c : Call) → Fine c.state → Good a c → Later c.state (lower at input e c).state
  step_later a e c fine h = ((adds at input e c fine.ordered (is_node c.state fine) (are_nodes input c.state.nodes c.streams h.held.streams)).0, grows at input e c)

  pub each_later : (a : Names) (es : List Tree) (c : Call) → Fine c.state → Good a c → Later c.state (each (ops es) c).state
  each_later a es c fine h =
      ((each_adds at input (ops es) (all_add at input es) c fine.ordered (is_node c.state fine) (are_nodes input c.state.nodes c.streams h.held.streams)).0, grows_each at input (ops es) (all_grow at input es) c)

  each_steps : (es : List Tree) → AllDo es → (a : Names) (c : Call) → Grown a c.state.names → Fine c.state → Good a c → AllTyped es → (each (ops es) c).state.names.next ≤ 2 ^ 64 → StepTo a c (each (ops es) c)
  each_steps [] steps a c g fine h typed small = record { good = h; made = extends_none Right c.state.nodes }
  each_steps (e ∷ es) steps a c g fine h typed small =
      let d = lower at input e c in
      let l = step_later a e c fine h in
      let more = grows_each at input (ops es) (all_grow at input es) d in
      let le = more.1 in
      let s = steps.0 a c g fine h typed.0 (omega arith) in
      let r = each_steps es steps.1 a d (grown_then a c.state.names d.state.names g l.1) (fine_later c.state d.state l fine) s.good typed.1 small in
      record { good = r.good; made = extends_then Right c.state.nodes d.state.nodes (each (ops es) d).state.nodes s.made r.made }

  -- columns of a stream
  module _ (s : State) (fine : Fine s) (items : List Named) (typed : Items items) where
    abbrev g : Fields
    g = schema_at s.nodes input

    input_items : AllByRecursion (λ (m : Named). IsTrue (is_some (kind_over g m.1))) items
    input_items = subst (λ (g : Fields). AllByRecursion (λ (m : Named). IsTrue (is_some (kind_over g m.1))) items) (sym (schema_is s fine)) typed

    once_there : (n : Name) → times n (names_of g) ≤ 1
    once_there = distinct_once g (ap has_distinct_names (schema_is s fine) ∙ distinct)

    -- the columns that a map of the items reads
    pub below_right : Makes s.nodes (with_columns at (names_kept items g) input s).state.nodes
        × (have_all_kinds (schema_at (with_columns at (names_kept items g) input s).state.nodes (with_columns at (names_kept items g) input s).stream) (exprs_of items) ≡ true)
    below_right = by (same_names ns (names_of g)) refl
      where
        ns : List Name
        ns = names_kept items g

        by : (b : Bool) → same_names ns (names_of g) ≡ b → Makes s.nodes (cond {A = Made} b (record { state = s; stream = input }) (projection at ns input s)).state.nodes
            × (have_all_kinds (schema_at (cond {A = Made} b (record { state = s; stream = input }) (projection at ns input s)).state.nodes (cond {A = Made} b (record { state = s; stream = input }) (projection at ns input s)).stream) (exprs_of items) ≡ true)
        by true q = (extends_none Right s.nodes, items_some g items input_items)
        by false q =
            let fs = has_fields ns g (kept_names items g) in
            let is : unwrap_or (named_fields ns g) [] ≡ fs.fields = ap (λ o. unwrap_or o []) fs.found in
            let p : PhysicalNode = record { kind = simple_projection ns; schema = unwrap_or (named_fields ns g) []; origin = at; inputs = input ∷ [] } in (
              extends_one Right s.nodes p
                  (subst (λ (h : Fields). KeepsRules F (simple_projection ns) h (g ∷ [])) (sym is) (project_right F ns g fs.fields fs.found fs.names (some_kept items g q) (kept_once items g once_there) (each_among ns (names_of g) (kept_names items g)))),
              subst (λ (h : Fields). have_all_kinds h (exprs_of items) ≡ true) (sym (ap schema_or_none (last_there s.nodes p) ∙ is)) (all_kept F at input g items input_items fs),
            )

  -- the map of a call
  gathered_steps : (a : Names) (c : Call) → Fine c.state → Good a c → Bundled a c.state (gathered at input c)
  gathered_steps a c fine h = by (is_empty c.mapped) refl
    where
      by : (b : Bool) → is_empty c.mapped ≡ b → Bundled a c.state (cond {A = Bundle} b (without_map at input c) (with_map at input c))
      by true q =
          record {
            held = held_fewer input a c.state c.streams (others c.reduced c.mapped) (λ n. times n (expr_names c.reduced)) (λ n. omega arith) h.held;
            reduced = h.reduced;
            made = extends_none Right c.state.nodes;
          }
      by false q =
          let s = c.state in
          let items = c.mapped in
          let ns = names_kept items (schema_at s.nodes input) in
          let below = with_columns at ns input s in
          let z = schema_at below.state.nodes below.stream in
          let p : PhysicalNode = record { kind = in_memory_map (select items); schema = selected_schema items z; origin = at; inputs = below.stream ∷ [] } in
          let k = columns_made at input ns input s fine.ordered (is_node s fine) in
          let l = inserted below.state p k.0.1 (k.1, tt) in
          let r = below_right s fine items h.mapped in
          let t : State = record { nodes = below.state.nodes ++ p ∷ []; names = below.state.names } in
          let i : Stream = (length below.state.nodes, 0) in
          let some = is_not_empty items q in
          let once : (n : Name) → times n (expr_names items) ≤ 1 = λ n. (let o = h.held.names.once n in omega arith) in
          let is = ap schema_or_none (last_there below.state.nodes p) in
          let fields = typed_fields z items r.1 in
          let names : names_of (schema_at t.nodes i) ≡ expr_names items = ap names_of is ∙ field_names z items (selected_schema items z) fields in
          record {
            held =
                held_moved input a s t c.streams i (others c.reduced items) (λ n. times n (expr_names c.reduced)) (adds_then s.nodes below.state.nodes t.nodes k.0 l.0) (sym (columns_names at input ns input s)) l.1 (λ e. some_fields z items (selected_schema items z) fields some (sym is ∙ e))
                (λ n. let same = ap (times n) names in omega arith) h.held;
            reduced = h.reduced;
            made = extends_then Right s.nodes below.state.nodes t.nodes r.0 (extends_one Right below.state.nodes p (map_right F items (z ∷ []) (r.1, some, once)));
          }

  -- several streams are zipped
  stream_right : (a : Names) (s : State) (ss : List Stream) → Fine s → KnowsInput a → 1 ≤ length ss → Held input a s ss (λ n. 0) → Makes s.nodes (one_stream at input ss s).state.nodes
  stream_right a s [] fine known some h = absurd (omega arith)
  stream_right a s (i ∷ []) fine known some h = extends_none Right s.nodes
  stream_right a s (i ∷ j ∷ more) fine known some h =
      let ss = i ∷ j ∷ more in
      let g : Fields = flat_map (schema_at s.nodes) ss in
      let below = map (schema_at s.nodes) ss in
      let e : g ≡ joined_schemas below = joined_streams s.nodes ss in
      let is = schema_is s fine in
      let once : (n : Name) → times n (names_of g) ≤ 1 =
      zip_once input a s ss h (λ n k. known n (subst (λ (x : Fields). 1 ≤ times n (names_of x)) is k)) (distinct_once (schema_at s.nodes input) (ap has_distinct_names is ∙ distinct)) in
      let few : g ≢ [] = zip_some input s.nodes i j more h.streams h.one_input in
      extends_one Right s.nodes (record { kind = zip_node false; schema = g; origin = at; inputs = ss })
      (subst (λ (x : Fields). KeepsRules F (zip_node false) x below) (sym e) (zip_right F below (λ q. few (e ∙ q)) (λ n. subst (λ (x : Fields). times n (names_of x) ≤ 1) e (once n))))

  pub other_stream : (s : State) → Fine s → same_stream input (length s.nodes, 0) ≡ false
  other_stream s fine = by (input.0 == length s.nodes) refl
    where
      by : (b : Bool) → (input.0 == length s.nodes) ≡ b → (b && (input.1 == 0)) ≡ false
      by true q =
          let lt = is_node s fine in
          let e = eqb-true input.0 (length s.nodes) q in
          absurd (omega arith)
      by false q = refl

  -- the end of a call
  finished_right : (a : Names) (b : Bundle) → Fine b.state → KnowsInput a → 1 ≤ length b.streams + length b.reduced → Held input a b.state b.streams (λ n. times n (expr_names b.reduced)) → Items b.reduced
      → Makes b.state.nodes (one_of at input b.streams b.reduced b.state).state.nodes
  finished_right a b fine known some h typed = by (is_empty b.reduced) refl
    where
      by : (e : Bool) → is_empty b.reduced ≡ e → Makes b.state.nodes (cond {A = State → Made} e (one_stream at input b.streams) (with_reduce at input b.streams b.reduced) b.state).state.nodes
      by true q =
          let none = empty_none b.reduced q in
          stream_right a b.state b.streams fine known (omega arith) (held_fewer input a b.state b.streams (λ n. times n (expr_names b.reduced)) (λ n. 0) (λ n. omega arith) h)
      by false q =
          let s = b.state in
          let rs = b.reduced in
          let z = schema_at s.nodes input in
          let p : PhysicalNode = record { kind = reduce rs; schema = selected_schema rs z; origin = at; inputs = input ∷ [] } in
          let t : State = record { nodes = s.nodes ++ p ∷ []; names = s.names } in
          let i : Stream = (length s.nodes, 0) in
          let l = inserted s p fine.ordered (is_node s fine, tt) in
          let items = is_not_empty rs q in
          let kinds : have_all_kinds z (exprs_of rs) ≡ true = subst (λ (g : Fields). have_all_kinds g (exprs_of rs) ≡ true) (sym (schema_is s fine)) (items_some f rs typed) in
          let once : (n : Name) → times n (expr_names rs) ≤ 1 = λ n. (let o = h.names.once n in omega arith) in
          let is = ap schema_or_none (last_there s.nodes p) in
          let fields = typed_fields z rs kinds in
          let names : names_of (schema_at t.nodes i) ≡ expr_names rs = ap names_of is ∙ field_names z rs (selected_schema rs z) fields in
          let held = held_last input a s t b.streams i (λ n. times n (expr_names rs)) l.0 refl (other_stream s fine) l.1 (λ e. some_fields z rs (selected_schema rs z) fields items (sym is ∙ e)) (λ n. let same = ap (times n) names in omega arith) h in
          let count = length-append b.streams (i ∷ []) in
          extends_then Right s.nodes t.nodes (one_stream at input (b.streams ++ i ∷ []) t).state.nodes (extends_one Right s.nodes p (reduce_right F rs (z ∷ []) (kinds, items, once)))
          (stream_right a t (b.streams ++ i ∷ []) (fine_later s t (l.0, grown_same s.names) fine) known (omega arith) held)

  -- what is independent of the input
  apart_right : (es : List Tree) (s : State) → Fine s → AllTyped es → es ≢ [] → list_all is_independent es ≡ true → (after_names es s).names.next ≤ 2 ^ 64 → Bundled s.names s (apart_from_input at input es s)
  apart_right es s fine typed some alone small =
      let ns = new_names es s in
      let t = after_names es s in
      let items = under ns es in
      let p : PhysicalNode = record { kind = independent_select items; schema = selected_schema items []; origin = at; inputs = [] } in
      let after : State = record { nodes = t.nodes ++ p ∷ []; names = t.names } in
      let i : Stream = (length t.nodes, 0) in
      let count = count_names es s in
      let few = some_under ns es count some in
      let own = names_under ns es count in
      let back = exprs_under ns es count in
      let kinds : have_all_kinds [] (exprs_of items) ≡ true = ap (have_all_kinds []) back ∙ alone_typed f es alone (all_some f es typed) in
      let fresh = names_fresh es s small in
      let is = ap schema_or_none (last_there t.nodes p) in
      let fields = typed_fields [] items kinds in
      let names : names_of (schema_at after.nodes i) ≡ ns = ap names_of is ∙ field_names [] items (selected_schema items []) fields ∙ own in
      let l = length-append t.nodes (p ∷ []) in
      record {
        held =
            held_one input s.names after i (omega arith) (λ e. some_fields [] items (selected_schema items []) fields few (sym is ∙ e))
            (fewer_fresh s.names t.names (λ n. times n ns) (λ n. times n (names_of (schema_at after.nodes i))) (λ n. let same = ap (times n) names in omega arith) fresh);
        reduced = tt;
        made = subst (λ (from : Shape). Makes from after.nodes) (named_nodes es s) (extends_one Right t.nodes p (independent_right F items [] (kinds, few, (λ n. let o = fresh.once n in let same = ap (times n) own in omega arith))));
      }

  pub together_later : (es : List Tree) (s : State) → Fine s → Later s (together at input (ops es) s).state
  together_later es s fine = ((together_gathers at input (ops es) (all_add at input es) s fine.ordered (is_node s fine)).0, grows_together at input (ops es) (all_grow at input es) s)

  -- what one call gathers
  pub together_right : (es : List Tree) → AllDo es → (s : State) → Fine s → AllTyped es → es ≢ [] → (together at input (ops es) s).state.names.next ≤ 2 ^ 64 → Bundled s.names s (together at input (ops es) s)
  together_right es steps s fine typed some = by (all_independent (exprs_of_all (ops es))) refl
    where
      by : (b : Bool) → all_independent (exprs_of_all (ops es)) ≡ b → (cond {A = State → Bundle} b (apart_from_input at input (exprs_of_all (ops es))) (over_input at input (ops es)) s).state.names.next ≤ 2 ^ 64
          → Bundled s.names s (cond {A = State → Bundle} b (apart_from_input at input (exprs_of_all (ops es))) (over_input at input (ops es)) s)
      by true q small =
          let back = operands_listed at input es in
          subst (λ (xs : List Tree). Bundled s.names s (apart_from_input at input xs s)) (sym back) (apart_right es s fine typed some (ap (list_all is_independent) (sym back) ∙ q) (subst (λ (xs : List Tree). (after_names xs s).names.next ≤ 2 ^ 64) back small))
      by false q small =
          let c = new_call s in
          let d = each (ops es) c in
          let none : Good s.names c = record { held = held_none input s.names s (λ n. 0 + 0) (none_new s.names); reduced = tt; mapped = tt } in
          let same = gathered_names at input d in
          let r = each_steps es steps s.names c (grown_same s.names) fine none typed (subst (λ (a : Names). a.next ≤ 2 ^ 64) same small) in
          let k = gathered_steps s.names d (fine_later s d.state (each_later s.names es c fine none) fine) r.good in
          record { held = k.held; reduced = k.reduced; made = extends_then Right s.nodes d.state.nodes (gathered at input d).state.nodes r.made k.made }
        where
          none_new : (a : Names) → FreshOnce a a (λ n. 0 + 0)
          none_new a = record { once = λ n. omega arith; fresh = λ n h. absurd (omega arith) }

  -- a call that is ready gathers something
  gathers_some : (before : Shape) (ss : List Stream) (rs : List Named) (s : State) → NewAreFormed F before (one_of at input ss rs s).state.nodes → length before ≤ length s.nodes → 1 ≤ length ss + length rs
  gathers_some before [] [] s formed le =
      let p : PhysicalNode = record { kind = zip_node false; schema = []; origin = at; inputs = [] } in
      let one = (formed (length s.nodes) p le (last_there s.nodes p)).inputs in
      absurd (omega arith)
  gathers_some before [] (r ∷ rs) s formed le = omega arith
  gathers_some before (i ∷ ss) rs s formed le = omega arith

  pub answered_later : (es : List Tree) (s : State) → Fine s → MadeFrom s.nodes (one_of at input (together at input (ops es) s).streams (together at input (ops es) s).reduced (together at input (ops es) s).state) × Grown s.names (answered at input (ops es) s).state.names
  answered_later es s fine = (
    answers_made at input (ops es) (all_add at input es) s fine.ordered (is_node s fine),
    subst (λ (a : Names). Grown s.names a) (sym (finished_names at input (together at input (ops es) s))) (grows_together at input (ops es) (all_grow at input es) s),
  )

  pub answered_right : (es : List Tree) → AllDo es → (s : State) → Fine s → AllTyped es → es ≢ [] → (answered at input (ops es) s).state.names.next ≤ 2 ^ 64 → Makes s.nodes (answered at input (ops es) s).state.nodes
  answered_right es steps s fine typed some small =
      let b = together at input (ops es) s in
      let l = together_later es s fine in
      let r = together_right es steps s fine typed some (subst (λ (a : Names). a.next ≤ 2 ^ 64) (finished_names at input b) small) in
      let longer = ap length l.0.0.1 ∙ length-append s.nodes l.0.0.0 in
      let holds = gathers_some s.nodes b.streams b.reduced b.state (exprs_form_nodes F at input s es (ready s fine es typed some)) (omega arith) in
      extends_then Right s.nodes b.state.nodes (answered at input (ops es) s).state.nodes r.made (finished_right s.names b (fine_later s b.state l fine) (input_known s fine) holds r.held r.reduced)

  -- the kinds of what is answered
  pub answered_kinds : (es : List Tree) (s : State) → Fine s → AllTyped es → es ≢ [] → (answered at input (ops es) s).state.names.next ≤ 2 ^ 64
      → map (kind_over (schema_at (answered at input (ops es) s).state.nodes (answered at input (ops es) s).stream)) (answered at input (ops es) s).exprs ≡ map (kind_over f) es
  answered_kinds es s fine typed some small = kinds_stay F at input s es (ready s fine es typed some) small ∙ ap (λ (g : Fields). map (kind_over g) es) (schema_is s fine)

  -- a select
  abbrev selected_over : List Name → List Operand → State → Made
  selected_over ns os s =
      let a = answered at input os s in
      let es = under ns a.exprs in
      over_selected at (select_node es false) es a.stream a.state

  computed_right : (ns : List Name) (es : List Tree) → AllDo es → (s : State) → Fine s → AllTyped es → es ≢ [] → length ns ≡ length es → ((n : Name) → times n ns ≤ 1) → (answered at input (ops es) s).state.names.next ≤ 2 ^ 64
      → Makes s.nodes (selected_over ns (ops es) s).state.nodes
  computed_right ns es steps s fine typed some many once small =
      let a = answered at input (ops es) s in
      let z = schema_at a.state.nodes a.stream in
      let kinds = answered_kinds es s fine typed some small in
      let count : length ns ≡ length a.exprs = many ∙ sym (as_many z f a.exprs es kinds) in
      let items = under ns a.exprs in
      let own = names_under ns a.exprs count in
      let p : PhysicalNode = record { kind = select_node items false; schema = selected_schema items z; origin = at; inputs = a.stream ∷ [] } in
      let given : have_all_kinds z (exprs_of items) ≡ true = ap (have_all_kinds z) (exprs_under ns a.exprs count) ∙ kinds_same z f a.exprs es kinds (all_some f es typed) in
      let l = none_some es 0 some in
      let few : items ≢ [] = some_under ns a.exprs count (λ e. let none = ap length e in let m = as_many z f a.exprs es kinds in absurd (omega arith)) in
      extends_then Right s.nodes a.state.nodes (a.state.nodes ++ p ∷ []) (answered_right es steps s fine typed some small)
      (extends_one Right a.state.nodes p (select_right F items (z ∷ []) (given, few, (λ n. let o = once n in let same = ap (times n) own in omega arith))))

  own_right : (es : List Named) (s : State) → Fine s → AllTyped (exprs_of es) → es ≢ [] → ((n : Name) → times n (expr_names es) ≤ 1) → are_own_columns (items_of F at input es) ≡ true → Makes s.nodes (with_columns at (expr_names es) input s).state.nodes
  own_right es s fine typed some once own = by (same_names ns (names_of g)) refl
    where
      g : Fields
      g = schema_at s.nodes input

      ns : List Name
      ns = expr_names es

      by : (b : Bool) → same_names ns (names_of g) ≡ b → Makes s.nodes (cond {A = Made} b (record { state = s; stream = input }) (projection at ns input s)).state.nodes
      by true q = extends_none Right s.nodes
      by false q =
          let kinds : have_all_kinds g (exprs_of es) ≡ true = subst (λ (g : Fields). have_all_kinds g (exprs_of es) ≡ true) (sym (schema_is s fine)) (all_some f (exprs_of es) typed) in
          let fs = selected_schema es g in
          let fields = typed_fields g es kinds in
          let found : named_fields ns g ≡ Some fs = ap (λ ms. named_fields ms g) (sym (names_back F at input es)) ∙ sym (own_fields F at input g es own) ∙ fields in
          let is : unwrap_or (named_fields ns g) [] ≡ fs = ap (λ o. unwrap_or o []) found in
          let p : PhysicalNode = record { kind = simple_projection ns; schema = unwrap_or (named_fields ns g) []; origin = at; inputs = input ∷ [] } in
          extends_one Right s.nodes p
          (subst (λ (h : Fields). KeepsRules F (simple_projection ns) h (g ∷ [])) (sym is) (project_right F ns g fs found (field_names g es fs fields) (some_names es some) once (each_among ns (names_of g) (found_among ns g fs found))))
        where
          some_names : (es : List Named) → es ≢ [] → expr_names es ≢ []
          some_names [] some e = some refl
          some_names (x ∷ es) some e = let w : x.0 ∷ expr_names es ≡ [] = e in cc

  pub select_makes : (es : List Named) → AllDo (exprs_of es) → (s : State) → Fine s → AllTyped (exprs_of es) → es ≢ [] → ((n : Name) → times n (expr_names es) ≤ 1) → (select_stream at input es s).state.names.next ≤ 2 ^ 64
      → Makes s.nodes (select_stream at input es s).state.nodes
  select_makes es steps s fine typed some once = by (all_independent (exprs_of_all (operands_of items))) (are_own_columns items) refl refl
    where
      items : List NamedOperand
      items = items_of F at input es

      some_exprs : (es : List Named) → es ≢ [] → exprs_of es ≢ []
      some_exprs [] some e = some refl
      some_exprs (x ∷ es) some e = let w : x.1 ∷ exprs_of es ≡ [] = e in cc

      counted : (es : List Named) → length (expr_names es) ≡ length (exprs_of es)
      counted [] = refl
      counted (e ∷ es) = ap suc (counted es)

      by : (x y : Bool) → all_independent (exprs_of_all (operands_of items)) ≡ x → are_own_columns items ≡ y
          → (cond {A = State → Made} x (without_input at (under (names_of_items items) (exprs_of_all (operands_of items)))) (cond {A = State → Made} y (with_columns at (names_of_items items) input) (computed at input items)) s).state.names.next ≤ 2 ^ 64
          → Makes s.nodes (cond {A = State → Made} x (without_input at (under (names_of_items items) (exprs_of_all (operands_of items)))) (cond {A = State → Made} y (with_columns at (names_of_items items) input) (computed at input items)) s).state.nodes
      by true y p q small =
          let alone : list_all is_independent (exprs_of es) ≡ true = ap (list_all is_independent) (sym (exprs_back F at input es)) ∙ p in
          let kinds = alone_typed f (exprs_of es) alone (all_some f (exprs_of es) typed) in
          subst (λ (xs : List Named). Makes s.nodes (without_input at xs s).state.nodes) (sym (named_back F at input es))
          (extends_one Right s.nodes (record { kind = independent_select es; schema = selected_schema es []; origin = at; inputs = [] }) (independent_right F es [] (kinds, some, once)))
      by false true p q small = subst (λ (ns : List Name). Makes s.nodes (with_columns at ns input s).state.nodes) (sym (names_back F at input es)) (own_right es s fine typed some once q)
      by false false p q small =
          let back = operands_back F at input es in
          subst (λ (ns : List Name). Makes s.nodes (selected_over ns (operands_of items) s).state.nodes) (sym (names_back F at input es))
          (subst (λ (os : List Operand). Makes s.nodes (selected_over (expr_names es) os s).state.nodes) (sym back)
          (computed_right (expr_names es) (exprs_of es) steps s fine typed (some_exprs es some) (counted es) once (subst (λ (os : List Operand). (answered at input os s).state.names.next ≤ 2 ^ 64) back small)))

-- Cache ids and their streams.
use Rattle.std.proofs.Common.{◌≡◌, ◌≢◌, ℕ, Bool, true, false, cond, List, [], ◌∷◌, Result, refl, sym, ap, subst, ◌∙◌, arith}
use Rattle.std.specs.Prelude.{◌==◌, IfOk, None, Option, Some, option_map}
use Rattle.std.specs.BTreeMap.{get}
use Rattle.std.specs.Ordering.{nat_cmp}
use Rattle.std.proofs.lemmas.Bool.{eqb-true}
use Rattle.std.proofs.lemmas.Option.{same_Some}
use Rattle.pu_base.specs.declared.arena.Node.{Node}
use Rattle.ps_frame.specs.Functions.{Functions}
use Rattle.ps_frame.specs.Trees.{Tree, tree_at}
use Rattle.ps_frame.specs.declared.expr.AExpr.{AExpr}
use Rattle.ps_frame.specs.declared.refusal.PolarsError.{PolarsError}
use Rattle.ps_meaning.specs.PlanTrees.{PlanTree, node, no_trees, tree}
use Rattle.ps_meaning.specs.Steps.{cache}
use Rattle.ps_phys.specs.Shown.{stream_of}
use Rattle.ps_phys.specs.declared.phys.PhysStream.{PhysStream}
use Rattle.ps_plan.specs.Entries.{entry_inputs, entry_step}
use Rattle.ps_plan.specs.Lowering.{Cached}
use Rattle.ps_plan.specs.Plans.{plan_trees_of}
use Rattle.ps_plan.specs.declared.ir.IR.{IR}
use Rattle.ps_plan.specs.declared.ir.IR.TheVariants as entry
use Rattle.ps_rules.specs.Slots.{Stream}
use Rattle.plan_rules.specs.Plans.{LoweredPlan, cache_stream, lower_plan, lower_plans, stream_of_cache}
use Rattle.ps_fresh.specs.Known.{Remembers}
use Rattle.ps_fresh.specs.declared.lowering.Lowering.{Lowering}
use Rattle.lowering_parts.proofs.Going.{goes_nowhere}
use Rattle.plan_lowering.specs.Lowered.{AreNoted, CacheStreams, LowersAs, ShowsPlan, cache_in, cache_over}

-- which entry it is
pub cache_is : (e : IR) (input : Node) (id : ℕ) → cache_in e ≡ Some (input, id) → (hits : ℕ) × (e ≡ entry.Cache input id hits)
cache_is (entry.DataFrameScan df columns) input id h = cc
cache_is (entry.SimpleProjection i columns) input id h = cc
cache_is (entry.Select i es) input id h = cc
cache_is (entry.HStack i es) input id h = cc
cache_is (entry.Filter i predicate) input id h = cc
cache_is (entry.Slice i offset len) input id h = cc
cache_is (entry.Sink i payload) input id h = cc
cache_is (entry.MapFunction i g) input id h = cc
cache_is (entry.Sort i by cut options) input id h = cc
cache_is (entry.Union is options) input id h = cc
cache_is (entry.HConcat is) input id h = cc
cache_is (entry.Cache i d hits) input id h = let p : (i, d) ≡ (input, id) = same_Some (i, d) (input, id) h in (hits, λ j. entry.Cache (p j).0 (p j).1 hits)
cache_is (entry.GroupBy i keys aggs maintain options) input id h = cc
cache_is (entry.Join l r left_on right_on args) input id h = cc
cache_is (entry.Distinct i o) input id h = cc
cache_is (entry.LeftOut what) input id h = cc

-- the input of a cache, and its tree
pub cache_inputs : (e : IR) (input : Node) (id : ℕ) → cache_in e ≡ Some (input, id) → entry_inputs e ≡ input ∷ []
cache_inputs e input id h = ap entry_inputs (cache_is e input id h).1

pub cache_tree : (f : Node → Tree) (g : Node → PlanTree) (n : ℕ) (e : IR) (input : Node) (id : ℕ) → cache_in e ≡ Some (input, id) → node n (entry_step f e) (plan_trees_of g (entry_inputs e)) ≡ node n (cache id) (tree (g input) no_trees)
cache_tree f g n e input id h = ap (λ (x : IR). node n (entry_step f x) (plan_trees_of g (entry_inputs x))) (cache_is e input id h).1

-- a node that is a cache
pub cache_lowers : (F : Functions) (n id : ℕ) (t u : PlanTree) (r : Result PhysStream PolarsError) (a b : List AExpr) (l m : Lowering) (s0 s1 : CacheStreams) → t ≡ node n (cache id) (tree u no_trees) → IfOk r (LowersAs (cache_over F id u) a b l m s0 s1) → IfOk r (LowersAs (lower_plan F t) a b l m s0 s1)
cache_lowers F n id t u r a b l m s0 s1 is h = subst (λ (x : PlanTree). IfOk r (LowersAs (lower_plan F x) a b l m s0 s1)) (sym is) h

-- an id that has a stream
pub cache_kept : (F : Functions) (id : ℕ) (t : PlanTree) (a : List AExpr) (l : Lowering) (s0 : CacheStreams) (s : PhysStream) → Remembers a l.cache → get nat_cmp s0 id ≡ Some s → LowersAs (cache_over F id t) a a l l s0 s0 s
cache_kept F id t a l s0 s known had =
    record {
      by_rule = λ later k p shows.
          (let f = tree_at later in
          let at : Some (stream_of s) ≡ stream_of_cache id p.cached = ap (option_map stream_of) (sym had) ∙ shows.cached id in
          let here : ShowsPlan f l s0 s (record { progress = p; stream = stream_of s }) = record { progress = shows; stream = refl } in
          subst (λ (o : Option Stream). ShowsPlan f l s0 s (cache_stream o id t (lower_plans F (tree t no_trees)) p)) at here);
      goes_on = goes_nowhere a l l known refl;
    }

-- an id that gets one
differs : (k : ℕ) → (k == k) ≡ false → ⊥
differs k apart = grind arith

noted_now : (id : ℕ) (t : PlanTree) (s1 s2 : CacheStreams) (s new : PhysStream) (from : Stream) (cached : List Cached) → AreNoted s1 cached → stream_of s ≡ from → new.node ≡ s.node → new.port ≡ 0 → get nat_cmp s2 id ≡ Some new
    → ((q : ℕ) → q ≢ id → get nat_cmp s2 q ≡ get nat_cmp s1 q) → AreNoted s2 (record { id = id; input = t; from = from.0 } ∷ cached)
noted_now id t s1 s2 s new from cached h is at port put others q = by (id == q) refl
  where
    by : (b : Bool) → (id == q) ≡ b → option_map stream_of (get nat_cmp s2 q) ≡ cond b (Some (from.0, 0)) (stream_of_cache q cached)
    by true e =
        let same : id ≡ q = eqb-true id q e in
        ap (λ k. option_map stream_of (get nat_cmp s2 k)) (sym same) ∙ ap (option_map stream_of) put ∙ (λ i. Some ((at i).0, port i)) ∙ (λ i. Some ((is i).0, 0))
    by false e = ap (option_map stream_of) (others q (λ w. let apart : (id == id) ≡ false = ap (λ k. id == k) (sym w) ∙ e in differs id apart)) ∙ h q

pub cache_made : (F : Functions) (id : ℕ) (t : PlanTree) (a b : List AExpr) (l m : Lowering) (s0 s1 s2 : CacheStreams) (s new : PhysStream) → get nat_cmp s0 id ≡ None → LowersAs (lower_plan F t) a b l m s0 s1 s
    → new.node ≡ s.node → new.port ≡ 0 → get nat_cmp s2 id ≡ Some new → ((q : ℕ) → q ≢ id → get nat_cmp s2 q ≡ get nat_cmp s1 q) → LowersAs (cache_over F id t) a b l m s0 s2 s
cache_made F id t a b l m s0 s1 s2 s new none below at port put others =
    record {
      by_rule = λ later k p shows.
          (let f = tree_at later in
          let L : LoweredPlan = lower_plan F t p in
          let x : ShowsPlan f m s1 s L = below.by_rule later k p shows in
          let had : None ≡ stream_of_cache id p.cached = ap (option_map stream_of) (sym none) ∙ shows.cached id in
          let here : ShowsPlan f m s2 s (cache_stream None id t (lower_plans F (tree t no_trees)) p) =
          record { progress = record { state = x.progress.state; cached = noted_now id t s1 s2 s new L.stream L.progress.cached x.progress.cached x.stream at port put others }; stream = x.stream } in
          subst (λ (o : Option Stream). ShowsPlan f m s2 s (cache_stream o id t (lower_plans F (tree t no_trees)) p)) had here);
      goes_on = below.goes_on;
    }

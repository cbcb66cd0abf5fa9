-- Expressions that are lowered together with columns, put together from what the steps answer.
use Rattle.std.proofs.Common.{◌≡◌, ℕ, zero, suc, List, [], ◌∷◌, ◌++◌, drop, length, min, refl, sym, ap, subst, take, ◌∙◌, arith}
use Rattle.std.specs.Prelude.{map}
use Rattle.std.specs.List.{AllByRecursion}
use Rattle.std.proofs.lemmas.List.{drop-map, map-append}
use Rattle.pu_base.specs.declared.arena.Node.{Node}
use Rattle.ps_frame.specs.Trees.{IsComplete, Tree, tree_at}
use Rattle.ps_frame.specs.declared.expr.AExpr.{AExpr}
use Rattle.ps_copies.specs.Copies.{KeepsTrees}
use Rattle.ps_meaning.specs.Schemas.{names_of}
use Rattle.ps_meaning.specs.Steps.{Name}
use Rattle.ps_phys.specs.declared.phys.PhysStream.{PhysStream}
use Rattle.ps_rules.specs.Bundles.{finished}
use Rattle.ps_rules.specs.Lowered.{as_operand, lower_exprs}
use Rattle.ps_rules.specs.Rules.{together}
use Rattle.ps_rules.specs.Slots.{Stream, columns_named, schema_at}
use Rattle.plan_rules.specs.Groups.{columns_over}
use Rattle.ps_fresh.specs.Known.{Remembers}
use Rattle.ps_fresh.specs.declared.lowering.Lowering.{Lowering}
use Rattle.lowering_parts.specs.declared.gathered.Gathered.{Gathered}
use Rattle.lowering_parts.specs.Gathered.{Begins, Gathers, GoesOn, Later, bundle_of, made_of, state_of, trees_at}
use Rattle.lowering_parts.proofs.Going.{goes_added, goes_built, goes_nowhere, goes_then}
use Rattle.node_lowering.specs.Answers.{Answers, answer_of, before_columns, behind_columns}

-- nothing but entries is added
pub goes_with_entries : (a b : List AExpr) (l : Lowering) → Remembers a l.cache → Begins a b → KeepsTrees a b → GoesOn a b l l
goes_with_entries a b l known entries keeps = goes_added a a b l l (goes_nowhere a l l known refl) entries keeps

-- nothing but nodes
pub goes_with_nodes : (a : List AExpr) (l m : Lowering) → Remembers a l.cache → Begins l.phys_sm.slots m.phys_sm.slots → m ≡ record l { phys_sm = m.phys_sm } → GoesOn a a l m
goes_with_nodes a l m known nodes only = goes_built a a l l m (goes_nowhere a l l known refl) nodes only

-- trees of several lists of numbers
pub trees_both : (f : Node → Tree) (ns ms : List Node) → trees_at f (ns ++ ms) ≡ trees_at f ns ++ trees_at f ms
trees_both f ns ms = map-append f ns ms

pub trees_dropped : (f : Node → Tree) (k : ℕ) (ns : List Node) → trees_at f (drop k ns) ≡ drop k (trees_at f ns)
trees_dropped f k ns = sym (drop-map f k ns)

pub trees_taken : (f : Node → Tree) (k : ℕ) (ns : List Node) → trees_at f (take k ns) ≡ take k (trees_at f ns)
trees_taken f zero ns = refl
trees_taken f (suc k) [] = refl
trees_taken f (suc k) (n ∷ ns) = ap (λ ts. f n ∷ ts) (trees_taken f k ns)

pub trees_later : (a b : List AExpr) → KeepsTrees a b → (ns : List Node) → AllByRecursion IsComplete (trees_at (tree_at a) ns) → trees_at (tree_at b) ns ≡ trees_at (tree_at a) ns
trees_later a b keeps [] h = refl
trees_later a b keeps (n ∷ ns) h = λ i. keeps n h.0 i ∷ trees_later a b keeps ns h.1 i

all_both : (es gs : List Tree) → AllByRecursion IsComplete es → AllByRecursion IsComplete gs → AllByRecursion IsComplete (es ++ gs)
all_both [] gs h g = g
all_both (e ∷ es) gs h g = (h.0, all_both es gs h.1 g)

columns_whole : (ns : List Name) → AllByRecursion IsComplete (columns_named ns)
columns_whole [] = tt
columns_whole (n ∷ ns) = (tt, columns_whole ns)

as_many_columns : (ns : List Name) → length (columns_named ns) ≡ length ns
as_many_columns [] = refl
as_many_columns (n ∷ ns) = ap suc (as_many_columns ns)

as_many_trees : (f : Node → Tree) (ns : List Node) → length (trees_at f ns) ≡ length ns
as_many_trees f [] = refl
as_many_trees f (n ∷ ns) = ap suc (as_many_trees f ns)

-- what stands behind so many, where there may be fewer
pub dropped_least : (k : ℕ) (ns : List Node) → drop (min k (length ns)) ns ≡ drop k ns
dropped_least zero ns = ap (λ m. drop m ns) none
  where
    none : min zero (length ns) ≡ zero
    none = omega arith
dropped_least (suc k) [] = ap (λ m. drop m []) none
  where
    none : min (suc k) zero ≡ zero
    none = omega arith
dropped_least (suc k) (n ∷ ns) = ap (λ m. drop m (n ∷ ns)) least ∙ dropped_least k ns
  where
    least : min (suc k) (suc (length ns)) ≡ suc (min k (length ns))
    least = omega arith

-- one call for expressions
pub together_answers : (input : Stream) (es : List Tree) (a b : List AExpr) (l m p : Lowering) (g : Gathered) (s : PhysStream) (ns : List Node)
    → Gathers (together l.origin.0 input (map (as_operand l.origin.0 input) es)) a b l m g
    → Later b (λ f. made_of f p s ≡ record { state = (finished m.origin.0 input (bundle_of f m g)).state; stream = (finished m.origin.0 input (bundle_of f m g)).stream })
    → Begins m.phys_sm.slots p.phys_sm.slots → p ≡ record m { phys_sm = p.phys_sm } → ns ≡ g.exprs.items
    → Answers (lower_exprs l.origin.0 input es) a b l p s ns
together_answers input es a b l m p g s ns h made nodes only same =
    let at = l.origin.0 in
    record {
      by_rule = λ later k.
          (let f = tree_at later in
          let y : bundle_of f m g ≡ together at input (map (as_operand at input) es) (state_of f l) = h.by_rule later k in
          let mid : made_of f p s ≡ (let r = finished at input (together at input (map (as_operand at input) es) (state_of f l)) in record { state = r.state; stream = r.stream }) =
          made later k ∙ (λ i. (let r = finished (h.goes_on.origin i).0 input (y i) in record { state = r.state; stream = r.stream })) in
          let exprs = ap (trees_at f) same ∙ (λ i. (y i).exprs) in
          λ i. record { state = (mid i).state; stream = (mid i).stream; exprs = exprs i });
      goes_on = goes_built a b l m p h.goes_on nodes only;
    }

-- columns that were added to the arena, and expressions behind them or before them
module _ (a a1 : List AExpr) (keeps : KeepsTrees a a1) (names : List Name) (cols exprs asked : List Node) (whole : AllByRecursion IsComplete (trees_at (tree_at a) exprs)) (columns : trees_at (tree_at a1) cols ≡ columns_named names) where
  pub behind_trees : asked ≡ cols ++ exprs → trees_at (tree_at a1) asked ≡ columns_named names ++ trees_at (tree_at a) exprs
  behind_trees all = ap (trees_at (tree_at a1)) all ∙ trees_both (tree_at a1) cols exprs ∙ (λ i. columns i ++ trees_later a a1 keeps exprs whole i)

  pub before_trees : asked ≡ exprs ++ cols → trees_at (tree_at a1) asked ≡ trees_at (tree_at a) exprs ++ columns_named names
  before_trees all = ap (trees_at (tree_at a1)) all ∙ trees_both (tree_at a1) exprs cols ∙ (λ i. trees_later a a1 keeps exprs whole i ++ columns i)

  pub behind_whole : asked ≡ cols ++ exprs → AllByRecursion IsComplete (trees_at (tree_at a1) asked)
  behind_whole all = subst (AllByRecursion IsComplete) (sym (behind_trees all)) (all_both (columns_named names) (trees_at (tree_at a) exprs) (columns_whole names) whole)

  pub before_whole : asked ≡ exprs ++ cols → AllByRecursion IsComplete (trees_at (tree_at a1) asked)
  before_whole all = subst (AllByRecursion IsComplete) (sym (before_trees all)) (all_both (trees_at (tree_at a) exprs) (columns_named names) whole (columns_whole names))

  pub behind_answers : (input : Stream) (b : List AExpr) (l p : Lowering) (s : PhysStream) (ns out : List Node) → asked ≡ cols ++ exprs → Remembers a l.cache → Begins a a1 → ((f : Node → Tree) → names ≡ names_of (schema_at (state_of f l).nodes input))
      → Answers (lower_exprs l.origin.0 input (trees_at (tree_at a1) asked)) a1 b l p s ns → out ≡ drop (length names) ns → Answers (behind_columns l.origin.0 input (trees_at (tree_at a) exprs)) a b l p s out
  behind_answers input b l p s ns out all known entries named h others =
      let at = l.origin.0 in
      record {
        by_rule = λ later k.
            (let f = tree_at later in
            let trees : trees_at (tree_at a1) asked ≡ columns_over input (state_of f l) ++ trees_at (tree_at a) exprs = behind_trees all ∙ ap (λ ns. columns_named ns ++ trees_at (tree_at a) exprs) (named f) in
            let y : answer_of f p s ns ≡ lower_exprs at input (columns_over input (state_of f l) ++ trees_at (tree_at a) exprs) (state_of f l) = h.by_rule later k ∙ (λ i. lower_exprs at input (trees i) (state_of f l)) in
            let count : length names ≡ length (columns_over input (state_of f l)) = sym (as_many_columns names) ∙ ap (λ ns. length (columns_named ns)) (named f) in
            let rest = ap (trees_at f) others ∙ trees_dropped f (length names) ns ∙ (λ i. drop (count i) (y i).exprs) in
            λ i. record { state = (y i).state; stream = (y i).stream; exprs = rest i });
        goes_on = goes_then a a1 b l l p (goes_with_entries a a1 l known entries keeps) h.goes_on;
      }

  pub before_answers : (input : Stream) (b : List AExpr) (l p : Lowering) (s : PhysStream) (ns out : List Node) → asked ≡ exprs ++ cols → Remembers a l.cache → Begins a a1 → ((f : Node → Tree) → names ≡ names_of (schema_at (state_of f l).nodes input))
      → Answers (lower_exprs l.origin.0 input (trees_at (tree_at a1) asked)) a1 b l p s ns → out ≡ take (length exprs) ns → Answers (before_columns l.origin.0 input (trees_at (tree_at a) exprs)) a b l p s out
  before_answers input b l p s ns out all known entries named h others =
      let at = l.origin.0 in
      record {
        by_rule = λ later k.
            (let f = tree_at later in
            let trees : trees_at (tree_at a1) asked ≡ trees_at (tree_at a) exprs ++ columns_over input (state_of f l) = before_trees all ∙ ap (λ ns. trees_at (tree_at a) exprs ++ columns_named ns) (named f) in
            let y : answer_of f p s ns ≡ lower_exprs at input (trees_at (tree_at a) exprs ++ columns_over input (state_of f l)) (state_of f l) = h.by_rule later k ∙ (λ i. lower_exprs at input (trees i) (state_of f l)) in
            let count : length exprs ≡ length (trees_at (tree_at a) exprs) = sym (as_many_trees (tree_at a) exprs) in
            let first = ap (trees_at f) others ∙ trees_taken f (length exprs) ns ∙ (λ i. take (count i) (y i).exprs) in
            λ i. record { state = (y i).state; stream = (y i).stream; exprs = first i });
        goes_on = goes_then a a1 b l l p (goes_with_entries a a1 l known entries keeps) h.goes_on;
      }

-- How what follows a rule is put together: over an arena that grew, and one step after the other.
use Rattle.std.proofs.Common.{◌≡◌, suc, ◌+◌, ◌-◌, List, [], ◌∷◌, ◌++◌, length, refl, sym, ap, subst, ◌∙◌}
use Rattle.std.specs.Prelude.{Err, Ok, OnErr, OnOk, Result, Option}
use Rattle.std.specs.List.{AllByRecursion}
use Rattle.pu_base.specs.declared.arena.Node.{Node}
use Rattle.ps_frame.specs.Trees.{IsComplete, IsExpression, Tree, tree_at}
use Rattle.ps_frame.specs.declared.expr.AExpr.{AExpr}
use Rattle.ps_meaning.specs.Shape.{PhysicalKind}
use Rattle.ps_meaning.specs.Steps.{key_trees, name_in, named_trees}
use Rattle.ps_meaning.specs.declared.options.ExprIR.{ExprIR}
use Rattle.ps_phys.specs.Shown.{kind_of, nodes_of, stream_of, streams_of}
use Rattle.ps_phys.specs.declared.phys.PhysNode.{PhysNode}
use Rattle.ps_phys.specs.declared.phys.PhysNodeKind.{PhysNodeKind}
use Rattle.ps_phys.specs.declared.phys.PhysStream.{PhysStream}
use Rattle.ps_copies.specs.Copies.{KeepsTrees}
use Rattle.ps_frame.specs.declared.refusal.PolarsError.{PolarsError}
use Rattle.ps_rules.specs.Names.{after_fresh}
use Rattle.ps_rules.specs.Calls.{Bundle, Call, given, given_bundle}
use Rattle.ps_rules.specs.Slots.{Made, State, Stream, added, all_added, over_same}
use Rattle.ps_fresh.specs.Known.{Remembers}
use Rattle.ps_fresh.specs.declared.lowering.Lowering.{Lowering}
use Rattle.lowering_parts.specs.declared.gathered.Gathered.{Gathered}
use Rattle.lowering_parts.specs.Gathered.{AreWhole, Begins, Follows, Gathers, GoesOn, KeepsNames, Later, Makes, call_of, made_of, state_of, trees_at}
use Rattle.lowering_parts.proofs.Going.{begins_same, goes_added, goes_built, goes_knowing, goes_named, goes_nowhere, goes_then}
use Rattle.lowering_parts.proofs.Grown.{kept-then}

-- The names alone have changed; and what is known of expressions.
pub goes_renamed : (a : List AExpr) (l m : Lowering) → Remembers a l.cache → KeepsNames l.names m.names → m ≡ record l { names = m.names } → GoesOn a a l m
goes_renamed a l m known names e =
    let P : Lowering → Type 0 = λ n. GoesOn a a l n in
    subst P (sym e) (record {
      entries = begins_same a;
      trees = λ n h. refl;
      nodes = begins_same l.phys_sm.slots;
      names = names;
      origin = refl;
      cache = known;
    })

pub goes_cached : (a : List AExpr) (l m : Lowering) → Remembers a m.cache → m ≡ record l { cache = m.cache } → GoesOn a a l m
goes_cached a l m known e = let P : Lowering → Type 0 = λ n. GoesOn a a l n in subst P (sym e) (goes_knowing a l m.cache known)

-- a name more, or none
pub goes_fresh : {X : Type 0} (r : Result X PolarsError) (a : List AExpr) (l m : Lowering) → Remembers a l.cache → OnOk r (m ≡ record l { names = after_fresh l.names }) → OnErr r (m ≡ l) → GoesOn a a l m
goes_fresh (Ok x) a l m known next same = goes_named a l m known next
goes_fresh (Err x) a l m known next same = goes_nowhere a l m known same

-- what stands in an arena stands when entries are added
module _ (a b : List AExpr) (keeps : KeepsTrees a b) where
  pub expr_later : (n : Node) → IsExpression a n → IsExpression b n
  expr_later n h = subst IsComplete (sym (keeps n h)) h

  pub trees_later : (ns : List Node) → AllByRecursion IsComplete (trees_at (tree_at a) ns) → trees_at (tree_at b) ns ≡ trees_at (tree_at a) ns
  trees_later [] h = refl
  trees_later (n ∷ ns) h = λ i. keeps n h.0 i ∷ trees_later ns h.1 i

  pub keys_later : (es : List ExprIR) → AllByRecursion IsComplete (key_trees (tree_at a) es) → key_trees (tree_at b) es ≡ key_trees (tree_at a) es
  keys_later [] h = refl
  keys_later (e ∷ es) h = λ i. keeps e.node h.0 i ∷ keys_later es h.1 i

  pub nodes_whole : (ns : List Node) → AllByRecursion IsComplete (trees_at (tree_at a) ns) → AllByRecursion IsComplete (trees_at (tree_at b) ns)
  nodes_whole ns h = subst (AllByRecursion IsComplete) (sym (trees_later ns h)) h

  pub keys_whole : (es : List ExprIR) → AllByRecursion IsComplete (key_trees (tree_at a) es) → AllByRecursion IsComplete (key_trees (tree_at b) es)
  keys_whole es h = subst (AllByRecursion IsComplete) (sym (keys_later es h)) h

  pub whole_later : (c : Gathered) → AreWhole a c → AreWhole b c
  whole_later c h = record { reduced = keys_whole c.reduced.items h.reduced; exprs = nodes_whole c.exprs.items h.exprs; mapped = keys_whole c.mapped.items h.mapped }

-- what goes before a rule and changes neither nodes nor names
pub follows_from : (r : Call → Call) (a b : List AExpr) (l m n : Lowering) (c d : Gathered) → ((f : Node → Tree) → state_of f m ≡ state_of f l) → GoesOn a a l m → Follows r a b m n c d → Follows r a b l n c d
follows_from r a b l m n c d same before h =
    record {
      by_rule = λ later keeps. h.by_rule later keeps ∙ (λ i. r (record (call_of (tree_at later) m c) { state = same (tree_at later) i }));
      goes_on = goes_then a a b l m n before h.goes_on;
      whole = h.whole;
    }

pub follows_same : (r s : Call → Call) → r ≡ s → (a b : List AExpr) (l m : Lowering) (c d : Gathered) → Follows r a b l m c d → Follows s a b l m c d
follows_same r s e a b l m c d h = record { by_rule = λ later keeps. h.by_rule later keeps ∙ (λ i. e i (call_of (tree_at later) l c)); goes_on = h.goes_on; whole = h.whole }

-- a stream that is made after a first step, which changes nodes and names alone
pub makes_from : (r first : State → Made) (a b : List AExpr) (l m n : Lowering) (s : PhysStream) → Makes r a b m n s → GoesOn a a l m → ((f : Node → Tree) → r (state_of f m) ≡ first (state_of f l)) → Makes first a b l n s
makes_from r first a b l m n s h before same =
    record {
      by_rule = λ later keeps. h.by_rule later keeps ∙ same (tree_at later);
      goes_on = goes_then a a b l m n before h.goes_on;
    }

-- a stream that is made of another one
pub makes_next : (first : State → Made) (next : State → Stream → State → Made) (a b e : List AExpr) (l m n : Lowering) (s t : PhysStream) → Makes first a b l m s → Begins b e → KeepsTrees b e → Begins m.phys_sm.slots n.phys_sm.slots → n ≡ record m { phys_sm = n.phys_sm }
    → Later e (λ f. made_of f n t ≡ next (state_of f l) (stream_of s) (state_of f m)) → Makes (λ st. let made = first st in next st made.stream made.state) a e l n t
makes_next first next a b e l m n s t h entries keeps nodes others made =
    record {
      by_rule = λ later k. made later k ∙ ap (λ (x : Made). next (state_of (tree_at later) l) x.stream x.state) (h.by_rule later (kept-then b e later keeps k));
      goes_on = goes_built a e l m n (goes_added a b e l m h.goes_on entries keeps) nodes others;
    }

-- a node that keeps the columns of a stream
pub same_next : (first : State → Made) (kind : State → PhysicalKind) (a b e : List AExpr) (l m n : Lowering) (s t : PhysStream) (k : PhysNodeKind) → Makes first a b l m s → Begins b e → KeepsTrees b e → Begins m.phys_sm.slots n.phys_sm.slots → n ≡ record m { phys_sm = n.phys_sm }
    → Later e (λ f. kind_of f k ≡ kind (state_of f l)) → ((f : Node → Tree) → made_of f n t ≡ over_same m.origin.0 (kind_of f k) (stream_of s) (state_of f m))
    → Makes (λ st. let made = first st in over_same l.origin.0 (kind st) made.stream made.state) a e l n t
same_next first kind a b e l m n s t k h entries keeps nodes others is made =
    makes_next first (λ st. over_same l.origin.0 (kind st)) a b e l m n s t h entries keeps nodes others
    (λ later g. made (tree_at later) ∙ (λ i. over_same (h.goes_on.origin i).0 (is later g i) (stream_of s) (state_of (tree_at later) m)))

-- lists with one more at the end
pub trees_last : (f : Node → Tree) (ns : List Node) (n : Node) → trees_at f (ns ++ n ∷ []) ≡ trees_at f ns ++ f n ∷ []
trees_last f [] n = refl
trees_last f (m ∷ ns) n = ap (λ more. f m ∷ more) (trees_last f ns n)

pub named_both : (f : Node → Tree) (es gs : List ExprIR) → named_trees f (es ++ gs) ≡ named_trees f es ++ named_trees f gs
named_both f [] gs = refl
named_both f (e ∷ es) gs = ap (λ more. (name_in e.output_name, f e.node) ∷ more) (named_both f es gs)

nodes_last : (f : Node → Tree) (ns : List Node) (n : Node) → AllByRecursion IsComplete (trees_at f ns) → IsComplete (f n) → AllByRecursion IsComplete (trees_at f (ns ++ n ∷ []))
nodes_last f [] n h own = (own, tt)
nodes_last f (m ∷ ns) n h own = (h.0, nodes_last f ns n h.1 own)

keys_both : (f : Node → Tree) (es gs : List ExprIR) → AllByRecursion IsComplete (key_trees f es) → AllByRecursion IsComplete (key_trees f gs) → AllByRecursion IsComplete (key_trees f (es ++ gs))
keys_both f [] gs h own = own
keys_both f (e ∷ es) gs h own = (h.0, keys_both f es gs h.1 own)

-- what a call has gathered with one more expression, and more reductions
pub whole_more : (a b : List AExpr) → KeepsTrees a b → (c d : Gathered) (n : Node) (more : List ExprIR) → AreWhole a c → IsExpression b n → AllByRecursion IsComplete (key_trees (tree_at b) more) → d.reduced.items ≡ c.reduced.items ++ more
    → d.exprs.items ≡ c.exprs.items ++ n ∷ [] → d.mapped.items ≡ c.mapped.items → AreWhole b d
whole_more a b keeps c d n more h own others er ee em =
    let w = whole_later a b keeps c h in
    let K : List ExprIR → Type 0 = λ es. AllByRecursion IsComplete (key_trees (tree_at b) es) in
    let N : List Node → Type 0 = λ ns. AllByRecursion IsComplete (trees_at (tree_at b) ns) in
    record {
      reduced = subst K (sym er) (keys_both (tree_at b) c.reduced.items more w.reduced others);
      exprs = subst N (sym ee) (nodes_last (tree_at b) c.exprs.items n w.exprs own);
      mapped = subst K (sym em) w.mapped;
    }

pub append_none : (es : List ExprIR) → es ≡ es ++ []
append_none [] = refl
append_none (e ∷ es) = ap (λ more. e ∷ more) (append_none es)

-- an expression over a stream that was made
pub given_follows : (made : State → Made) (expr : State → Tree) (a b : List AExpr) (l m : Lowering) (c d : Gathered) (s : PhysStream) (n : Node) → Makes made a b l m s → AreWhole a c → Later b (λ f. f n ≡ expr (state_of f l)) → IsExpression b n
    → streams_of d.streams ≡ added (stream_of s) (streams_of c.streams) → d.reduced.items ≡ c.reduced.items → d.exprs.items ≡ c.exprs.items ++ n ∷ [] → d.mapped.items ≡ c.mapped.items
    → Follows (λ call. let x = made call.state in given (expr call.state) x.stream x.state call) a b l m c d
given_follows made expr a b l m c d s n h whole is own es er ee em =
    record {
      by_rule = λ later k.
          (let f = tree_at later in
          let x = h.by_rule later k in
          let streams = es ∙ ap (λ (y : Made). added y.stream (streams_of c.streams)) x in
          let exprs = ap (trees_at f) ee ∙ trees_last f c.exprs.items n ∙ ap (λ t. trees_at f c.exprs.items ++ t ∷ []) (is later k) in
          λ i. record { state = (x i).state; streams = streams i; reduced = named_trees f (er i); exprs = exprs i; mapped = named_trees f (em i) });
      goes_on = h.goes_on;
      whole = whole_more a b h.goes_on.trees c d n [] whole own tt (er ∙ append_none c.reduced.items) ee em;
    }

-- an expression over all that a call for its operands has gathered
pub bundle_follows : (rule : State → Bundle) (operator : List Tree → Tree) (a b e : List AExpr) (l m : Lowering) (c d g : Gathered) (n : Node) → Gathers rule a b l m g → Begins b e → KeepsTrees b e → AreWhole a c
    → Later e (λ f. f n ≡ operator (trees_at f g.exprs.items)) → IsExpression e n
    → streams_of d.streams ≡ all_added (streams_of g.streams) (streams_of c.streams) → d.reduced.items ≡ c.reduced.items ++ g.reduced.items → d.exprs.items ≡ c.exprs.items ++ n ∷ [] → d.mapped.items ≡ c.mapped.items
    → Follows (λ call. given_bundle operator (rule call.state) call) a e l m c d
bundle_follows rule operator a b e l m c d g n h entries keeps whole is own es er ee em =
    record {
      by_rule = λ later k.
          (let f = tree_at later in
          let x = h.by_rule later (kept-then b e later keeps k) in
          let streams = es ∙ ap (λ (y : Bundle). all_added y.streams (streams_of c.streams)) x in
          let reduced = ap (named_trees f) er ∙ named_both f c.reduced.items g.reduced.items ∙ ap (λ (y : Bundle). named_trees f c.reduced.items ++ y.reduced) x in
          let exprs = ap (trees_at f) ee ∙ trees_last f c.exprs.items n ∙ ap (λ t. trees_at f c.exprs.items ++ t ∷ []) (is later k) ∙ ap (λ (y : Bundle). trees_at f c.exprs.items ++ operator y.exprs ∷ []) x in
          λ i. record { state = (x i).state; streams = streams i; reduced = reduced i; exprs = exprs i; mapped = named_trees f (em i) });
      goes_on = goes_added a b e l m h.goes_on entries keeps;
      whole = whole_more a e (kept-then a b e h.goes_on.trees keeps) c d n g.reduced.items whole own (keys_whole b e keeps g.reduced.items h.whole.reduced) er ee em;
    }

-- how many nodes stand
pub as_many_slots : (f : Node → Tree) (slots : List (Option PhysNode)) → length (nodes_of f slots) ≡ length slots
as_many_slots f [] = refl
as_many_slots f (o ∷ slots) = ap suc (as_many_slots f slots)

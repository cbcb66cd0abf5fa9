-- What a call has gathered, made one stream.
use Rattle.std.proofs.Common.{◌≡◌, ℕ, zero, suc, ◌-◌, ◌^◌, ◌<◌, ◌≤◌, Bool, true, false, cond, List, [], ◌∷◌, ◌++◌, length, refl, sym, ap, subst, ◌∙◌, arith, length-append}
use Rattle.std.specs.Prelude.{None, Option, Some, nat_eq}
use Rattle.std.specs.List.{AllByRecursion}
use Rattle.std.proofs.Math.Dec.{eqb-suc-zero}
use Rattle.pu_base.specs.declared.arena.Node.{Node}
use Rattle.ps_copies.specs.Copies.{KeepsTrees}
use Rattle.ps_frame.specs.Causes.{is_empty}
use Rattle.ps_frame.specs.Tables.{Fields}
use Rattle.ps_frame.specs.Trees.{IsComplete, Tree, tree_at}
use Rattle.ps_frame.specs.declared.expr.AExpr.{AExpr}
use Rattle.ps_fresh.specs.declared.lowering.Lowering.{Lowering}
use Rattle.ps_meaning.specs.Schemas.{names_of}
use Rattle.ps_meaning.specs.Shape.{PhysicalNode, in_memory_map, reduce}
use Rattle.ps_meaning.specs.Steps.{Name, Named, exprs_of, key_trees, named_trees, select}
use Rattle.ps_meaning.specs.declared.options.ExprIR.{ExprIR}
use Rattle.ps_phys.specs.Shown.{nodes_of, stream_of, streams_of}
use Rattle.ps_phys.specs.declared.phys.PhysNode.{PhysNode}
use Rattle.ps_phys.specs.declared.phys.PhysStream.{PhysStream}
use Rattle.ps_rules.specs.Bundles.{gathered, mapped_stream, names_kept, one_of, one_stream, with_map, with_reduce, without_map}
use Rattle.ps_rules.specs.Calls.{Bundle}
use Rattle.ps_rules.specs.Names.{Names}
use Rattle.ps_rules.specs.Slots.{Made, State, Stream, added, over_selected, projection, same_names, schema_at, with_columns}
use Rattle.lowering_parts.proofs.NodeLemmas.{named_later}
use Rattle.lowering_parts.proofs.StreamLemmas.{streams_last}
use Rattle.lowering_parts.specs.Gathered.{bundle_of, call_of, made_of, state_of}
use Rattle.lowering_parts.specs.declared.gathered.Gathered.{Gathered}

pub none_added : (arena : List AExpr) → KeepsTrees arena arena
none_added arena n h = refl

-- nothing but nodes has changed
pub others_then : (a b c : Lowering) → b ≡ record a { phys_sm = b.phys_sm } → c ≡ record b { phys_sm = c.phys_sm } → c ≡ record a { phys_sm = c.phys_sm }
others_then a b c e g = g ∙ (λ i. record (e i) { phys_sm = c.phys_sm })

exprs_keys : (f : Node → Tree) (es : List ExprIR) → exprs_of (named_trees f es) ≡ key_trees f es
exprs_keys f [] = refl
exprs_keys f (e ∷ es) = ap (λ ts. f e.node ∷ ts) (exprs_keys f es)

-- nothing is missing in named expressions
pub whole_named : (f : Node → Tree) (es : List ExprIR) → AllByRecursion IsComplete (key_trees f es) → AllByRecursion IsComplete (exprs_of (named_trees f es))
whole_named f es h = subst (λ ts. AllByRecursion IsComplete ts) (sym (exprs_keys f es)) h

pub is_empty_when : (f : Node → Tree) (es : List ExprIR) (b : Bool) → b ≡ nat_eq (length es) 0 → is_empty (named_trees f es) ≡ b
is_empty_when f [] b h = sym h
is_empty_when f (e ∷ es) b h = sym (h ∙ eqb-suc-zero (length es))

-- one map over the columns that its expressions read
module _ (arena : List AExpr) (low low' : Lowering) (input columns : PhysStream) (es : List ExprIR) (ns : List Name) (schema : Fields)
    (below : (f : Node → Tree) → schema ≡ schema_at (nodes_of f low.phys_sm.slots) (stream_of input)) (read : ns ≡ names_kept (named_trees (tree_at arena) es) schema) where
  -- the names of columns, as the rule has them
  names_as : (later : List AExpr) → KeepsTrees arena later → AllByRecursion IsComplete (exprs_of (named_trees (tree_at arena) es)) → ns ≡ names_kept (named_trees (tree_at later) es) (schema_at (nodes_of (tree_at later) low.phys_sm.slots) (stream_of input))
  names_as later keeps whole = read ∙ (λ i. names_kept (sym (named_later arena later keeps es whole) i) (below (tree_at later) i))

  abbrev At : List AExpr → Made
  At later = mapped_stream low.origin.0 (stream_of input) (named_trees (tree_at later) es) (state_of (tree_at later) low)

  abbrev Below : List AExpr → Made
  Below later = with_columns low.origin.0 ns (stream_of input) (state_of (tree_at later) low)

  abbrev Over : List AExpr → Made → Made
  Over later k = over_selected low.origin.0 (in_memory_map (select (named_trees (tree_at later) es))) (named_trees (tree_at later) es) k.stream k.state

  mapped_as : (later : List AExpr) → KeepsTrees arena later → AllByRecursion IsComplete (exprs_of (named_trees (tree_at arena) es)) → Over later (Below later) ≡ At later
  mapped_as later keeps whole = ap (λ names. Over later (with_columns low.origin.0 names (stream_of input) (state_of (tree_at later) low))) (names_as later keeps whole)

  module _ (whole : AllByRecursion IsComplete (exprs_of (named_trees (tree_at arena) es)))
      (made : (f : Node → Tree) → made_of f low' columns ≡ with_columns low.origin.0 ns (stream_of input) (state_of f low)) where
    pub map_made : (later : List AExpr) → KeepsTrees arena later → (m : Made) → low'.origin.0 ≡ low.origin.0
        → m ≡ over_selected low'.origin.0 (in_memory_map (select (named_trees (tree_at later) es))) (named_trees (tree_at later) es) (stream_of columns) (state_of (tree_at later) low')
        → m ≡ mapped_stream low.origin.0 (stream_of input) (named_trees (tree_at later) es) (state_of (tree_at later) low)
    map_made later keeps m same e =
        e ∙ ap (λ at. over_selected at (in_memory_map (select (named_trees (tree_at later) es))) (named_trees (tree_at later) es) (stream_of columns) (state_of (tree_at later) low')) same ∙ ap (λ (k : Made). Over later k) (made (tree_at later))
        ∙ mapped_as later keeps whole

-- the map, after the other streams
module _ (at : ℕ) (input : Stream) (f : Node → Tree) (low : Lowering) (call : Gathered) (b : Bool) (is : b ≡ nat_eq (length call.mapped.items) 0) where
  abbrev Chosen : Bool → Bundle
  Chosen c = cond c (without_map at input (call_of f low call)) (with_map at input (call_of f low call))

  chosen : b ≡ true → Chosen true ≡ gathered at input (call_of f low call)
  chosen e = ap Chosen (sym (is_empty_when f call.mapped.items b is ∙ e))

  chosen_map : b ≡ false → Chosen false ≡ gathered at input (call_of f low call)
  chosen_map e = ap Chosen (sym (is_empty_when f call.mapped.items b is ∙ e))

  pub gathered_none : b ≡ true → bundle_of f low call ≡ gathered at input (call_of f low call)
  gathered_none e = chosen e

  pub gathered_map : b ≡ false → (low' : Lowering) (s : PhysStream) (streams : List PhysStream) → made_of f low' s ≡ mapped_stream at input (named_trees f call.mapped.items) (state_of f low) → streams_of streams ≡ added (stream_of s) (streams_of call.streams)
      → record { state = state_of f low'; streams = streams_of streams; reduced = named_trees f call.reduced.items; exprs = (call_of f low call).exprs } ≡ gathered at input (call_of f low call)
  gathered_map e low' s streams made w =
      (λ i. record {
        state = (made i).state;
        streams = (w ∙ ap (λ (m : Made). added m.stream (streams_of call.streams)) made) i;
        reduced = named_trees f call.reduced.items;
        exprs = (call_of f low call).exprs;
      })
      ∙ chosen_map e

-- one stream of several, and of a reduce that comes last
module _ (at : ℕ) (input : Stream) (f : Node → Tree) (low low' : Lowering) (ss streams : List PhysStream) (one : PhysStream) (es : List ExprIR) (same : low'.origin.0 ≡ at)
    (made : made_of f low' one ≡ over_selected at (reduce (named_trees f es)) (named_trees f es) input (state_of f low)) (last : streams ≡ ss ++ one ∷ []) where
  pub reduce_made : (m : Made) → m ≡ one_stream low'.origin.0 input (streams_of streams) (state_of f low') → m ≡ with_reduce at input (streams_of ss) (named_trees f es) (state_of f low)
  reduce_made m e =
      e ∙ (λ i. one_stream (same i) input ((ap streams_of last ∙ streams_last ss one) i) (state_of f low')) ∙ ap (λ (k : Made). one_stream at input (streams_of ss ++ k.stream ∷ []) k.state) made

-- a reduce where there is something to reduce
module _ (at : ℕ) (input : Stream) (f : Node → Tree) (low : Lowering) (ss : List PhysStream) (es : List ExprIR) (b : Bool) (is : b ≡ nat_eq (length es) 0) where
  abbrev OneOf : Bool → Made
  OneOf c = cond c (one_stream at input (streams_of ss)) (with_reduce at input (streams_of ss) (named_trees f es)) (state_of f low)

  one_of_none : b ≡ true → one_stream at input (streams_of ss) (state_of f low) ≡ one_of at input (streams_of ss) (named_trees f es) (state_of f low)
  one_of_none e = ap OneOf (sym (is_empty_when f es b is ∙ e))

  one_of_some : b ≡ false → with_reduce at input (streams_of ss) (named_trees f es) (state_of f low) ≡ one_of at input (streams_of ss) (named_trees f es) (state_of f low)
  one_of_some e = ap OneOf (sym (is_empty_when f es b is ∙ e))

  pub made_of_none : b ≡ true → (m : Made) → m ≡ one_stream at input (streams_of ss) (state_of f low) → m ≡ one_of at input (streams_of ss) (named_trees f es) (state_of f low)
  made_of_none e m w = w ∙ one_of_none e

  pub made_of_some : b ≡ false → (m : Made) → m ≡ with_reduce at input (streams_of ss) (named_trees f es) (state_of f low) → m ≡ one_of at input (streams_of ss) (named_trees f es) (state_of f low)
  made_of_some e m w = w ∙ one_of_some e

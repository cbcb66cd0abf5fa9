-- Nodes of a slot map.
use Rattle.std.proofs.Common.{◌≡◌, Bool, false, cond, subst, length-append, ℕ, zero, suc, ◌+◌, ◌-◌, ◌^◌, ◌<◌, List, [], ◌∷◌, ◌++◌, Ok, Err, Result, refl, ap, sym, ◌∙◌, arith, length, take, get_or, add-one}
use Rattle.std.specs.Prelude.{IfOk, None, OnOk, Option, Some, flat_map, unwrap_or}
use Rattle.std.specs.List.{AllByRecursion}
use Rattle.std.proofs.lemmas.List.{append-nil, append_assoc}
use Rattle.std.proofs.lemmas.Option.{same_Some}
use Rattle.keyed_slots.specs.Slots.{value_at}
use Rattle.pu_base.specs.declared.arena.Node.{Node}
use Rattle.ps_frame.specs.Tables.{Fields}
use Rattle.ps_frame.specs.Trees.{IsComplete, Tree, tree_at}
use Rattle.ps_frame.specs.declared.expr.AExpr.{AExpr}
use Rattle.ps_frame.specs.declared.refusal.PolarsError.{PolarsError}
use Rattle.ps_copies.specs.Copies.{KeepsTrees}
use Rattle.ps_meaning.specs.Schemas.{fields_of, names_of}
use Rattle.ps_meaning.specs.Shape.{PhysicalKind, PhysicalNode}
use Rattle.ps_meaning.specs.Steps.{Name, exprs_of, name_in, named_trees}
use Rattle.ps_meaning.specs.declared.options.ExprIR.{ExprIR}
use Rattle.ps_phys.specs.Shown.{node_of_slot, nodes_of, stream_of, streams_of}
use Rattle.ps_phys.specs.declared.phys.PhysNode.{PhysNode}
use Rattle.ps_phys.specs.declared.phys.PhysStream.{PhysStream}
use Rattle.lowering_parts.specs.Operations.{only_stream}
use Rattle.ps_rules.specs.Bundles.{one_stream, zip_of}
use Rattle.ps_rules.specs.Names.{Names}
use Rattle.ps_rules.specs.Slots.{Made, State, Stream, insert_node, projection, same_names, schema_at, selected_schema, with_columns}

-- the schema of a node that is there, and of one that isn't
pub schema_there : (f : Node → Tree) (slots : List (Option PhysNode)) (n port : ℕ) (p : PhysNode) → value_at slots n ≡ Some p → p.output_schema ≡ schema_at (nodes_of f slots) (n, port)
schema_there f [] n port p e = cc
schema_there f (None ∷ slots) zero port p e = cc
schema_there f (Some q ∷ slots) zero port p e = ap (λ (x : PhysNode). x.output_schema) (sym (same_Some q p e))
schema_there f (o ∷ slots) (suc n) port p e = schema_there f slots n port p e

pub schema_nowhere : (f : Node → Tree) (slots : List (Option PhysNode)) (n port : ℕ) → value_at slots n ≡ None → [] ≡ schema_at (nodes_of f slots) (n, port)
schema_nowhere f [] n port e = refl
schema_nowhere f (None ∷ slots) zero port e = refl
schema_nowhere f (Some q ∷ slots) zero port e = cc
schema_nowhere f (o ∷ slots) (suc n) port e = schema_nowhere f slots n port e

pub nodes_last : (f : Node → Tree) (slots : List (Option PhysNode)) (o : Option PhysNode) → nodes_of f (slots ++ o ∷ []) ≡ nodes_of f slots ++ node_of_slot f o ∷ []
nodes_last f [] o = refl
nodes_last f (x ∷ slots) o = ap (λ more. node_of_slot f x ∷ more) (nodes_last f slots o)

pub pushed_there : (r : Result (Unit {0}) PolarsError) (f : Node → Tree) (slots : List (Option PhysNode)) (n port : ℕ) (p : PhysNode) (old new : Fields) → value_at slots n ≡ Some p → OnOk r (new ≡ old ++ p.output_schema)
    → OnOk r (new ≡ old ++ schema_at (nodes_of f slots) (n, port))
pushed_there (Ok x) f slots n port p old new e h = h ∙ ap (λ fs. old ++ fs) (schema_there f slots n port p e)
pushed_there (Err x) f slots n port p old new e h = tt

pub same_there : (r : Result Fields PolarsError) (f : Node → Tree) (slots : List (Option PhysNode)) (n port : ℕ) (p : PhysNode) → value_at slots n ≡ Some p → IfOk r (λ s. s ≡ p.output_schema) → IfOk r (λ s. s ≡ schema_at (nodes_of f slots) (n, port))
same_there (Ok x) f slots n port p e h = h ∙ schema_there f slots n port p e
same_there (Err x) f slots n port p e h = tt

-- the columns of one more stream
pub joined_more : (at : Stream → Fields) (ss : List PhysStream) (i : ℕ) (d : PhysStream) (now next : Fields) → i < length ss → next ≡ now ++ at (stream_of (get_or ss i d)) → now ≡ flat_map at (streams_of (take i ss)) → next ≡ flat_map at (streams_of (take (i + 1) ss))
joined_more at ss i d now next lt e h = e ∙ ap (λ fs. fs ++ at (stream_of (get_or ss i d))) h ∙ sym (rw add-one (more ss i lt))
  where
    more : (ss : List PhysStream) (i : ℕ) → i < length ss → flat_map at (streams_of (take (suc i) ss)) ≡ flat_map at (streams_of (take i ss)) ++ at (stream_of (get_or ss i d))
    more [] i lt = absurd (omega arith)
    more (s ∷ ss) zero lt = append-nil (at (stream_of s))
    more (s ∷ ss) (suc i) lt = ap (λ fs. at (stream_of s) ++ fs) (more ss i (omega arith)) ∙ sym (append_assoc (at (stream_of s)) (flat_map at (streams_of (take i ss))) (at (stream_of (get_or ss i d))))

-- named expressions have their trees in an arena that was added to
pub named_later : (arena later : List AExpr) → KeepsTrees arena later → (es : List ExprIR) → AllByRecursion IsComplete (exprs_of (named_trees (tree_at arena) es)) → named_trees (tree_at later) es ≡ named_trees (tree_at arena) es
named_later arena later keeps [] h = refl
named_later arena later keeps (e ∷ es) h = λ i. (name_in e.output_name, keeps e.node h.0 i) ∷ named_later arena later keeps es h.1 i

-- the schema of expressions over a stream, whatever is added later
pub schema_later : (arena later : List AExpr) → KeepsTrees arena later → (es : List ExprIR) → AllByRecursion IsComplete (exprs_of (named_trees (tree_at arena) es)) → (below given schema : Fields) → below ≡ given
    → fields_of (named_trees (tree_at arena) es) below ≡ Some schema → schema ≡ selected_schema (named_trees (tree_at later) es) given
schema_later arena later keeps es h below given schema e f =
    sym (ap (λ ns. unwrap_or (fields_of ns given) []) (named_later arena later keeps es h) ∙ ap (λ s. unwrap_or (fields_of (named_trees (tree_at arena) es) s) []) (sym e) ∙ ap (λ o. unwrap_or o []) f)

-- a node of named expressions, whatever is added later
pub node_later : (kind given : PhysicalKind) (schema fields : Fields) (at : ℕ) (from inputs : List Stream) (m : Made) (s : State) → kind ≡ given → schema ≡ fields → from ≡ inputs → m ≡ insert_node s (record { kind = kind; schema = schema; origin = at; inputs = from })
    → m ≡ insert_node s (record { kind = given; schema = fields; origin = at; inputs = inputs })
node_later kind given schema fields at from inputs m s k f n e = e ∙ (λ i. insert_node s (record { kind = k i; schema = f i; origin = at; inputs = n i }))

pub as_many : (f : Node → Tree) (slots : List (Option PhysNode)) → length (nodes_of f slots) ≡ length slots
as_many f [] = refl
as_many f (o ∷ slots) = ap suc (as_many f slots)

pub several : (at : ℕ) (input : Stream) (ss : List PhysStream) (s : State) → only_stream ss ≡ None → one_stream at input (streams_of ss) s ≡ zip_of at input (streams_of ss) s
several at input [] s e = refl
several at input (x ∷ []) s e = cc
several at input (x ∷ y ∷ ss) s e = refl

pub single : (at : ℕ) (input : Stream) (ss : List PhysStream) (x : PhysStream) (s : State) → only_stream ss ≡ Some x → record { state = s; stream = stream_of x } ≡ one_stream at input (streams_of ss) s
single at input [] x s e = cc
single at input (y ∷ []) x s e = λ i. record { state = s; stream = stream_of (same_Some x y (sym e) i) }
single at input (y ∷ z ∷ ss) x s e = cc

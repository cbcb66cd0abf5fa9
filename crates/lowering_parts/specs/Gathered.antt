-- What a lowering has made, and what a call of it has gathered, as the rules see them.
use Rattle.std.specs.Prelude.{◌≡◌, List, map, length, take}
use Rattle.pu_base.specs.declared.arena.Node.{Node}
use Rattle.std.specs.List.{AllByRecursion}
use Rattle.ps_frame.specs.Trees.{IsComplete, Tree, tree_at}
use Rattle.ps_frame.specs.declared.expr.AExpr.{AExpr}
use Rattle.ps_meaning.specs.Steps.{Name, key_trees, name_in, named_trees}
use Rattle.ps_meaning.specs.declared.options.ExprIR.{ExprIR}
use Rattle.ps_phys.specs.Shown.{nodes_of, stream_of, streams_of}
use Rattle.ps_phys.specs.declared.phys.PhysStream.{PhysStream}
use Rattle.ps_copies.specs.Copies.{KeepsTrees}
use Rattle.ps_rules.specs.Calls.{Bundle, Call}
use Rattle.ps_rules.specs.Names.{IsKnown, Names}
use Rattle.ps_rules.specs.Slots.{Made, State}
use Rattle.ps_fresh.specs.Known.{Remembers}
use Rattle.ps_fresh.specs.declared.lowering.Lowering.{Lowering}
use Rattle.lowering_parts.specs.declared.gathered.Gathered.{Gathered}

-- the trees of expressions, by the trees of their numbers
abbrev pub trees_at : (Node → Tree) → List Node → List Tree
trees_at f ns = map f ns

-- the names under which expressions are asked for
abbrev pub names_asked : List ExprIR → List Name
names_asked es = map (λ (e : ExprIR). name_in e.output_name) es

abbrev pub state_of : (Node → Tree) → Lowering → State
state_of f low = record { nodes = nodes_of f low.phys_sm.slots; names = low.names }

-- a stream that was made, and what stands then
abbrev pub made_of : (Node → Tree) → Lowering → PhysStream → Made
made_of f low s = record { state = state_of f low; stream = stream_of s }

abbrev pub call_of : (Node → Tree) → Lowering → Gathered → Call
call_of f low c =
    record {
      state = state_of f low;
      streams = streams_of c.streams;
      reduced = named_trees f c.reduced.items;
      exprs = trees_at f c.exprs.items;
      mapped = named_trees f c.mapped.items;
    }

abbrev pub bundle_of : (Node → Tree) → Lowering → Gathered → Bundle
bundle_of f low c = record { state = state_of f low; streams = streams_of c.streams; reduced = named_trees f c.reduced.items; exprs = trees_at f c.exprs.items }

-- what holds of the trees of an arena, whatever is added to it
abbrev pub Later : List AExpr → ((Node → Tree) → Type 0) → Type 0
Later arena P = (later : List AExpr) → KeepsTrees arena later → P (tree_at later)

-- all that a call has gathered are expressions
pub record AreWhole (arena : List AExpr) (c : Gathered) : Type 0 where
  pub reduced : AllByRecursion IsComplete (key_trees (tree_at arena) c.reduced.items)
  pub exprs : AllByRecursion IsComplete (trees_at (tree_at arena) c.exprs.items)
  pub mapped : AllByRecursion IsComplete (key_trees (tree_at arena) c.mapped.items)

-- what stood first stands there, whatever came behind it
abbrev pub Begins : {A : Type 0} → List A → List A → Type 0
Begins xs ys = take (length xs) ys ≡ xs

-- what was known as no fresh name is still none
abbrev pub KeepsNames : Names → Names → Type 0
KeepsNames names names' = (n : Name) → IsKnown names n → IsKnown names' n

-- A lowering has gone on: entries and nodes stand where they stood, expressions keep their trees, names in use stay in use, the logical node is the same, and what is known of expressions is right.
pub record GoesOn (arena arena' : List AExpr) (low low' : Lowering) : Type 0 where
  pub entries : Begins arena arena'
  pub trees : KeepsTrees arena arena'
  pub nodes : Begins low.phys_sm.slots low'.phys_sm.slots
  pub names : KeepsNames low.names low'.names
  pub origin : low'.origin ≡ low.origin
  pub cache : Remembers arena' low'.cache

-- a call goes on as a rule says
pub record Follows (rule : Call → Call) (arena arena' : List AExpr) (low low' : Lowering) (call call' : Gathered) : Type 0 where
  pub by_rule : Later arena' (λ f. call_of f low' call' ≡ rule (call_of f low call))
  pub goes_on : GoesOn arena arena' low low'
  pub whole : AreWhole arena' call'

-- what a call for expressions gathers, as a rule says
pub record Gathers (rule : State → Bundle) (arena arena' : List AExpr) (low low' : Lowering) (bundle : Gathered) : Type 0 where
  pub by_rule : Later arena' (λ f. bundle_of f low' bundle ≡ rule (state_of f low))
  pub goes_on : GoesOn arena arena' low low'
  pub whole : AreWhole arena' bundle

-- the stream that a rule makes
pub record Makes (rule : State → Made) (arena arena' : List AExpr) (low low' : Lowering) (stream : PhysStream) : Type 0 where
  pub by_rule : Later arena' (λ f. made_of f low' stream ≡ rule (state_of f low))
  pub goes_on : GoesOn arena arena' low low'

-- Nodes that read first ports of nodes before them, and that aren't sinks.
use Rattle.std.proofs.Common.{◌≡◌, ℕ, zero, suc, ◌<◌, ◌≤◌, Bool, true, false, List, [], ◌∷◌, ◌++◌, length, refl, subst, arith}
use Rattle.std.proofs.lemmas.List.{length-append}
use Rattle.std.specs.Prelude.{if◌then◌else◌, unwrap_or}
use Rattle.std.specs.List.{AllByRecursion, list_any}
use Rattle.ps_frame.specs.Tables.{Fields}
use Rattle.ps_meaning.specs.Schemas.{named_fields, names_of}
use Rattle.ps_meaning.specs.Shape.{PhysicalKind, PhysicalNode, Shape, in_memory_sink, independent_select, simple_projection}
use Rattle.ps_meaning.specs.Sound.{EachNode}
use Rattle.ps_meaning.specs.Steps.{Name, Named}
use Rattle.ps_rules.specs.Slots.{Made, State, Stream, added, all_added, insert_node, over, over_same, over_selected, projection, same_names, same_stream, schema_at, selected_schema, with_columns, without_input}

-- the first port of a node that is there
abbrev pub IsFirst : Shape → Stream → Type 0
IsFirst nodes s = (s.0 < length nodes) × (s.1 ≡ 0)

abbrev pub AllFirst : Shape → List Stream → Type 0
AllFirst nodes ss = AllByRecursion (IsFirst nodes) ss

abbrev pub ReadsFirst : ℕ → PhysicalNode → Type 0
ReadsFirst n p = AllByRecursion (λ (i : Stream). (i.0 < n) × (i.1 ≡ 0)) p.inputs

abbrev pub ArePlain : Shape → Type 0
ArePlain nodes = EachNode nodes (λ n p. ReadsFirst n p × (p.kind ≡ in_memory_sink → ⊥))

pub no_nodes : ArePlain []
no_nodes n p e = cc

-- at the end
pub at_end : (P : ℕ → PhysicalNode → Type 0) (nodes : Shape) (q : PhysicalNode) → EachNode nodes P → P (length nodes) q → EachNode (nodes ++ q ∷ []) P
at_end P [] q each last zero p e = let is : q ≡ p = cc in subst (P 0) is last
at_end P [] q each last (suc n) p e = cc
at_end P (x ∷ nodes) q each last zero p e = each zero p e
at_end P (x ∷ nodes) q each last (suc n) p e = at_end (λ m r. P (suc m) r) nodes q (λ m r f. each (suc m) r f) last n p e

pub plain_more : (nodes : Shape) (q : PhysicalNode) → ArePlain nodes → AllFirst nodes q.inputs → (q.kind ≡ in_memory_sink → ⊥) → ArePlain (nodes ++ q ∷ [])
plain_more nodes q plain first kind = at_end (λ n p. ReadsFirst n p × (p.kind ≡ in_memory_sink → ⊥)) nodes q plain (first, kind)

-- what was a first port stays one
pub first_stays : (a b : Shape) (s : Stream) → length a ≤ length b → IsFirst a s → IsFirst b s
first_stays a b s l f = let k = f.0 in (omega (arith, k, l), f.1)

pub all_stay : (a b : Shape) (ss : List Stream) → length a ≤ length b → AllFirst a ss → AllFirst b ss
all_stay a b [] l f = tt
all_stay a b (s ∷ ss) l f = (first_stays a b s l f.0, all_stay a b ss l f.1)

pub all_joined : (nodes : Shape) (xs ys : List Stream) → AllFirst nodes xs → AllFirst nodes ys → AllFirst nodes (xs ++ ys)
all_joined nodes [] ys a b = b
all_joined nodes (x ∷ xs) ys a b = (a.0, all_joined nodes xs ys a.1 b)

pub added_first : (nodes : Shape) (s : Stream) (ss : List Stream) → IsFirst nodes s → AllFirst nodes ss → AllFirst nodes (added s ss)
added_first nodes s ss f all = by (list_any (same_stream s) ss)
  where
    by : (b : Bool) → AllFirst nodes (if b then ss else ss ++ s ∷ [])
    by true = all
    by false = all_joined nodes ss (s ∷ []) all (f, tt)

pub all_added_first : (nodes : Shape) (more ss : List Stream) → AllFirst nodes more → AllFirst nodes ss → AllFirst nodes (all_added more ss)
all_added_first nodes [] ss m all = all
all_added_first nodes (s ∷ more) ss m all = all_added_first nodes more (added s ss) m.1 (added_first nodes s ss m.0 all)

-- what a rule makes from a state
pub record Makes (s : State) (m : Made) : Type 0 where
  pub plain : ArePlain m.state.nodes
  pub stream : IsFirst m.state.nodes m.stream
  pub more : length s.nodes ≤ length m.state.nodes

pub inserted : (s : State) (p : PhysicalNode) → ArePlain s.nodes → AllFirst s.nodes p.inputs → (p.kind ≡ in_memory_sink → ⊥) → Makes s (insert_node s p)
inserted s p plain first kind =
    let long = length-append s.nodes (p ∷ []) in
    record { plain = plain_more s.nodes p plain first kind; stream = (omega (arith, long), refl); more = omega (arith, long) }

-- from a state before
pub made_from : (r s : State) (m : Made) → length r.nodes ≤ length s.nodes → Makes s m → Makes r m
made_from r s m l k = let more = k.more in record { plain = k.plain; stream = k.stream; more = omega (arith, l, more) }

module _ (at : ℕ) where
  pub over_makes : (kind : PhysicalKind) (schema : Fields) (input : Stream) (s : State) → (kind ≡ in_memory_sink → ⊥) → ArePlain s.nodes → IsFirst s.nodes input → Makes s (over at kind schema input s)
  over_makes kind schema input s k plain first = inserted s (record { kind = kind; schema = schema; origin = at; inputs = input ∷ [] }) plain (first, tt) k

  pub same_makes : (kind : PhysicalKind) (input : Stream) (s : State) → (kind ≡ in_memory_sink → ⊥) → ArePlain s.nodes → IsFirst s.nodes input → Makes s (over_same at kind input s)
  same_makes kind input s k plain first = over_makes kind (schema_at s.nodes input) input s k plain first

  pub selected_makes : (kind : PhysicalKind) (es : List Named) (input : Stream) (s : State) → (kind ≡ in_memory_sink → ⊥) → ArePlain s.nodes → IsFirst s.nodes input → Makes s (over_selected at kind es input s)
  selected_makes kind es input s k plain first = over_makes kind (selected_schema es (schema_at s.nodes input)) input s k plain first

  pub projection_makes : (ns : List Name) (input : Stream) (s : State) → ArePlain s.nodes → IsFirst s.nodes input → Makes s (projection at ns input s)
  projection_makes ns input s plain first = over_makes (simple_projection ns) (unwrap_or (named_fields ns (schema_at s.nodes input)) []) input s (λ e. cc) plain first

  pub stands_as : (s : State) (input : Stream) → ArePlain s.nodes → IsFirst s.nodes input → Makes s (record { state = s; stream = input })
  stands_as s input plain first = record { plain = plain; stream = first; more = omega arith }

  pub with_columns_makes : (ns : List Name) (input : Stream) (s : State) → ArePlain s.nodes → IsFirst s.nodes input → Makes s (with_columns at ns input s)
  with_columns_makes ns input s plain first = by (same_names ns (names_of (schema_at s.nodes input)))
    where
      by : (b : Bool) → Makes s (if b then record { state = s; stream = input } else projection at ns input s)
      by true = stands_as s input plain first
      by false = projection_makes ns input s plain first

  pub without_makes : (es : List Named) (s : State) → ArePlain s.nodes → Makes s (without_input at es s)
  without_makes es s plain = inserted s (record { kind = independent_select es; schema = selected_schema es []; origin = at; inputs = [] }) plain tt (λ e. cc)

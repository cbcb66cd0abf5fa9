-- Two nodes, one above the other, put together from what both steps answer.
use Rattle.std.proofs.Common.{◌≡◌, List, [], ap, ◌∙◌}
use Rattle.pu_base.specs.declared.arena.Node.{Node}
use Rattle.ps_frame.specs.Tables.{Fields, Frame}
use Rattle.ps_frame.specs.Trees.{Tree}
use Rattle.ps_meaning.specs.Schemas.{names_of}
use Rattle.ps_meaning.specs.Shape.{in_memory_source, ordered_union}
use Rattle.ps_meaning.specs.Steps.{Cut, Name}
use Rattle.ps_phys.specs.Shown.{stream_of}
use Rattle.ps_phys.specs.declared.phys.PhysStream.{PhysStream}
use Rattle.ps_rules.specs.Slots.{Stream, with_columns}
use Rattle.plan_rules.specs.Nodes.{over_all, scan_stream, union_stream}
use Rattle.plan_rules.specs.Slices.{cut_stream}
use Rattle.ps_fresh.specs.declared.lowering.Lowering.{Lowering}
use Rattle.lowering_parts.specs.Gathered.{made_of, state_of}

-- nodes alone have changed, twice
pub only_then : (l m p : Lowering) → m ≡ record l { phys_sm = m.phys_sm } → p ≡ record m { phys_sm = p.phys_sm } → p ≡ record l { phys_sm = p.phys_sm }
only_then l m p e h = h ∙ ap (λ (x : Lowering). record x { phys_sm = p.phys_sm }) e

module _ (f : Node → Tree) (l m p : Lowering) (s t : PhysStream) (only : m ≡ record l { phys_sm = m.phys_sm }) where
  -- the columns of a whole table
  pub scan_made : (table : Frame) (schema : Fields) (names : List Name) → names ≡ names_of schema → made_of f m s ≡ over_all l.origin.0 (in_memory_source table) table.schema [] (state_of f l)
      → made_of f p t ≡ with_columns m.origin.0 names (stream_of s) (state_of f m) → made_of f p t ≡ scan_stream l.origin.0 table schema (state_of f l)
  scan_made table schema names named source columns =
      columns ∙ (λ i. with_columns (only i).origin.0 (named i) (stream_of s) (state_of f m)) ∙ (λ i. with_columns l.origin.0 (names_of schema) (source i).stream (source i).state)

  -- the slice of a union
  pub union_made : (cut : Cut) (schema : Fields) (inputs : List Stream) → made_of f m s ≡ over_all l.origin.0 ordered_union schema inputs (state_of f l) → made_of f p t ≡ cut_stream m.origin.0 cut (stream_of s) (state_of f m)
      → made_of f p t ≡ union_stream l.origin.0 cut schema inputs (state_of f l)
  union_made cut schema inputs union sliced = sliced ∙ (λ i. cut_stream (only i).origin.0 cut (stream_of s) (state_of f m)) ∙ (λ i. cut_stream l.origin.0 cut (union i).stream (union i).state)

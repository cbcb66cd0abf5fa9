-- What a step gives over whole tables, as what the node of a map or of a join makes.
use Rattle.std.proofs.Common.{◌≡◌, ◌≤◌, List, [], ◌∷◌, ap, inl, inr, length, refl, subst, sym}
use Rattle.std.specs.Prelude.{Contains}
use Rattle.made_tables.proofs.Broken.{of_cut}
use Rattle.bare_nodes.specs.Bare.{bare_node, nowhere}
use Rattle.made_tables.specs.Made.{MayBreak}
use Rattle.ps_frame.specs.Aggregates.{max_rows}
use Rattle.ps_frame.specs.Functions.{Functions}
use Rattle.ps_frame.specs.Tables.{Fields, Frame, Table, whole}
use Rattle.ps_frame.specs.declared.refusal.PolarsError.{PolarsError}
use Rattle.ps_frame.specs.declared.value.DataFault.{DataFault}
use Rattle.ps_meaning.specs.Cases.{projected}
use Rattle.ps_meaning.specs.Nodes.{GivesFrame, IsFaultAt, MayFault, wholes}
use Rattle.ps_meaning.specs.Schemas.{names_of}
use Rattle.ps_meaning.specs.Shape.{in_memory_join, in_memory_map}
use Rattle.ps_meaning.specs.Steps.{JoinStep, Step, join, step_cut}
use Rattle.ps_turns.specs.Results.{BreaksRows, IsMade}

module _ (F : Functions) (step : Step) (fs : List Frame) where
  pub made_by_map : (t : Frame) → GivesFrame F nowhere step fs t → length t.rows ≤ max_rows → IsMade F (bare_node (in_memory_map step) []) (wholes fs) t.rows
  made_by_map t g few = (whole t, g, refl, refl, few)

  broken_at : (x : DataFault) → IsFaultAt F nowhere step fs x → BreaksRows F (bare_node (in_memory_map step) []) (wholes fs) (record { fault = x; node = nowhere })
  broken_at x (inl (U, inl (V, before, is), c)) = inl (V, before, inl (of_cut (step_cut step) V (record { fault = x; node = nowhere }) (subst (λ (T : Table). Contains T.broken (record { fault = x; node = nowhere })) is c)))
  broken_at x (inl (U, inr before, c)) = inl (U, before, inl c)
  broken_at x (inr (rows, inl large)) = inr (large, ap (λ (y : DataFault). record { fault = y; node = nowhere }) rows)
  broken_at x (inr (rows, inr (U, before, many))) = inl (U, before, inr (many, ap (λ (y : DataFault). record { fault = y; node = nowhere }) rows))

  pub broken_by_map : (e : PolarsError) → MayFault F nowhere step fs e → MayBreak F (bare_node (in_memory_map step) []) (wholes fs) e
  broken_by_map e (inl memory) = inl memory
  broken_by_map e (inr (x, is, at)) = inr (record { fault = x; node = nowhere }, broken_at x at, is)

-- the node of a join gives the columns that it is asked for
module _ (F : Functions) (j : JoinStep) (l r : Frame) (s : Fields) where
  pub made_by_join : (t f : Frame) → GivesFrame F nowhere (join j) (l ∷ r ∷ []) t → whole f ≡ projected (names_of s) s (whole t) → length f.rows ≤ max_rows → IsMade F (bare_node (in_memory_join j) s) (whole l ∷ whole r ∷ []) f.rows
  made_by_join t f (U, before, is) narrow few = (projected (names_of s) s (whole t), (U, before, ap (projected (names_of s) s) is), refl, ap (λ (T : Table). T.rows) (sym narrow), few)

  pub broken_by_join : (e : PolarsError) → MayFault F nowhere (join j) (l ∷ r ∷ []) e → MayBreak F (bare_node (in_memory_join j) s) (whole l ∷ whole r ∷ []) e
  broken_by_join e fault = broken_by_map F (join j) (l ∷ r ∷ []) e fault

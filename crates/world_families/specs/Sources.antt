-- Sources: each number stands for the next cut of the same rows.
use Rattle.std.specs.Prelude.{◌≡◌, ℕ, List, [], ◌∷◌, IsTrue, ⊤}
use Rattle.ps_frame.specs.Functions.{Functions}
use Rattle.ps_frame.specs.Tables.{Fields, Row}
use Rattle.ps_meaning.specs.Shape.{PhysicalKind, in_memory_source, independent_select}
use Rattle.ps_options.specs.declared.options.Options.{Options}
use Rattle.ps_turns.specs.Cuts.{cut_of_source}
use Rattle.ps_turns.specs.Tasks.{Piece, computes, hands_on}
use Rattle.ps_turns.specs.Updates.{has_given_all}
use Rattle.ps_world.specs.World.{Node, World}
use Rattle.world_families.specs.Work.{Gives, Work}

-- what needs no input
abbrev pub IsSource : PhysicalKind → Type 0
IsSource (in_memory_source t) = ⊤
IsSource (independent_select es) = ⊤
IsSource _ = ⊥

abbrev pub KeepsNone : Piece → Type 0
KeepsNone q = ⊥

-- a cut of rows is handed on
abbrev pub cut_work : Options → Fields → List Row → (number : ℕ) → Work
cut_work o s rows k = record { task = hands_on; schemas = s ∷ []; tables = cut_of_source o rows k ∷ [] }

-- nothing is left of what the node gives by itself
abbrev pub HasGivenAll : World → Node → Type 0
HasGivenAll w node = IsTrue (has_given_all w.options node.node.kind node.progress)

abbrev pub HoldsSource : Functions → World → ℕ → Node → List Row → Type 0
HoldsSource F w n node rows = Gives F w n (λ k x. x ≡ cut_work w.options node.node.schema rows k) KeepsNone (HasGivenAll w node)

-- what needs no input computes once
abbrev pub HoldsSelect : Functions → World → ℕ → Node → Type 0
HoldsSelect F w n node = Gives F w n (λ k x. (k ≡ 0) × (x ≡ record { task = computes node.node; schemas = []; tables = [] })) KeepsNone (HasGivenAll w node)

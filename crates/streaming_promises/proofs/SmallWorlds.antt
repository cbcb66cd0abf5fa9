-- A sink that holds what it took and one that doesn't; a piece with a result and one without.
use Rattle.std.proofs.Common.{◌≡◌, zero, suc, List, [], ◌∷◌, Some, length, refl, sym, ap, subst, ◌∙◌, arith}
use Rattle.ps_frame.specs.Functions.{Functions}
use Rattle.ps_frame.specs.Tables.{Row}
use Rattle.ps_meaning.specs.Shape.{in_memory_sink, in_memory_source}
use Rattle.ps_turns.specs.Results.{IsResult}
use Rattle.ps_turns.specs.Tasks.{Answer, Piece, bad, good, partial}
use Rattle.ps_world.specs.World.{Node, Pipe}
use Rattle.world_facts.proofs.Wiring.{each_of}
use Rattle.world_families.proofs.Members.{apart, nothing_is, smaller}
use Rattle.world_families.specs.Examples.{a_schema, a_sender, row, three_rows}
use Rattle.world_families.specs.Keepers.{Stores, StoresAll}
use Rattle.streaming_promises.specs.Examples.{a_sink, handing_on, piece_world, sink_world, two_came}
use Rattle.streaming_promises.specs.Kept.{EachPieceHasResult, SinksHold}

abbrev in_turn : List (List Row)
in_turn = (row 1 ∷ []) ∷ (row 2 ∷ []) ∷ []

abbrev turned_round : List (List Row)
turned_round = (row 2 ∷ []) ∷ (row 1 ∷ []) ∷ []

both_stored : StoresAll (sink_world in_turn) 1 (a_sink in_turn)
both_stored q c = each_of (λ (y : Pipe). y.wire.receiver ≡ 1 → Stores in_memory_sink (a_sink in_turn).progress y) (two_came ∷ []) q ((λ s. refl), tt) c.0 c.1

pub sink_in_order : SinksHold (sink_world in_turn)
sink_in_order zero node e kind =
    let both : Some a_sender ≡ Some node = e in
    let is : a_sender ≡ node = cc in
    absurd (let no : in_memory_source (record { schema = a_schema; rows = three_rows }) ≡ in_memory_sink = ap (λ (x : Node). x.node.kind) is ∙ kind in cc)
sink_in_order (suc zero) node e kind =
    let both : Some (a_sink in_turn) ≡ Some node = e in
    let is : a_sink in_turn ≡ node = cc in
    subst (StoresAll (sink_world in_turn) 1) is both_stored
sink_in_order (suc (suc n)) node e kind = absurd (nothing_is node e)

pub sink_turned_round : SinksHold (sink_world turned_round) → ⊥
sink_turned_round h =
    let e : row 2 ∷ row 1 ∷ [] ≡ row 1 ∷ row 2 ∷ [] = h 1 (a_sink turned_round) refl refl two_came ((0, omega arith, refl), refl) in
    apart (row 1 ∷ row 2 ∷ []) (row 2 ∷ row 1 ∷ []) refl refl (sym e)

module _ (F : Functions) where
  pub one_table : EachPieceHasResult F (piece_world ((row 1 ∷ []) ∷ []))
  one_table q c = each_of (λ (x : Piece). (a : Answer) × IsResult F x a) (handing_on ((row 1 ∷ []) ∷ []) ∷ []) q ((good (row 1 ∷ []), refl), tt) c

  abbrev two : List (List Row)
  two = (row 1 ∷ []) ∷ (row 2 ∷ []) ∷ []

  no_answer : (a : Answer) → IsResult F (handing_on two) a → ⊥
  no_answer (good rs) r = let e : two ≡ rs ∷ [] = r in smaller 1 2 (omega arith) (sym (ap length e))
  no_answer (partial k) r = r
  no_answer (bad c) r = r

  pub not_two_tables : EachPieceHasResult F (piece_world two) → ⊥
  not_two_tables h = let a = h (handing_on two) (0, omega arith, refl) in no_answer a.0 a.1

-- A slice from the end, a reduce that took two morsels, and lists of keys.
use Rattle.std.proofs.Common.{◌≡◌, ℕ, zero, suc, ◌≤◌, ◌⊎◌, List, [], ◌∷◌, ◌++◌, Some, None, true, false, length, refl, sym, ap, ◌∙◌, inl, inr, arith}
use Rattle.std.specs.Prelude.{Contains, IsFalse, IsTrue, slice_get}
use Rattle.std.proofs.lemmas.List.Sorted.{IsPermutation-refl, length_permutation}
use Rattle.ps_frame.specs.Functions.{Functions}
use Rattle.ps_frame.specs.Tables.{Row}
use Rattle.ps_meaning.specs.Shape.{negative_slice}
use Rattle.ps_ports.specs.declared.port_state.PortState.TheVariants as port
use Rattle.ps_turns.specs.Ends.{HoldsEnd}
use Rattle.ps_turns.specs.Keys.{IsSplit}
use Rattle.ps_meaning.specs.Cases.{rows_table}
use Rattle.ps_turns.specs.Tasks.{Piece}
use Rattle.ps_world.specs.Facts.{keeps_one}
use Rattle.ps_world.specs.World.{Pipe}
use Rattle.world_facts.proofs.Wiring.{each_of}
use Rattle.world_families.proofs.Members.{apart, nothing_is, smaller}
use Rattle.world_families.specs.Examples.{a_reduce, a_schema, an_end, by_a, came, end_world, grouped_rows, keeping, pipe, reduce_world, row, slots}
use Rattle.world_families.specs.Keepers.{HoldsMade, KeepsMorsels, Stores}
use Rattle.world_families.specs.Work.{IsComplete}

-- A SLICE FROM THE END
abbrev kept_rows : List (List Row)
kept_rows = (row 2 ∷ row 3 ∷ []) ∷ []

abbrev pipes : List Pipe
pipes = (end_world kept_rows).pipes

keeps_two : HoldsEnd 2 (row 1 ∷ row 2 ∷ row 3 ∷ []) 3 kept_rows
keeps_two = record { gone = row 1 ∷ []; splits = refl; counted = refl; enough = inr (omega arith); short = omega arith }

module _ (F : Functions) where
  pub two_rows : HoldsMade F (end_world kept_rows) 1 (an_end kept_rows)
  two_rows =
      record {
        turn =
            record {
              takes = λ t p l. each_of (λ (y : Pipe). y.wire.sender ≡ 1 → IsFalse y.is_dropped) pipes p ((λ s. refl), ((λ s. refl), tt)) l.0 l.1;
              took = λ t. absurd (let never : true ≡ false = t in cc);
            };
        stores = λ q c.
            each_of (λ (y : Pipe). y.wire.receiver ≡ 1 → Stores (negative_slice 2 1) (an_end kept_rows).progress y) pipes q
            ((λ s. keeps_two), ((λ s. let never : 2 ≡ 1 = s in absurd (omega arith)), tt)) c.0 c.1;
        made = λ rows e. absurd (let never : None ≡ Some rows = e in cc);
        has_made = λ g. absurd (let never : false ≡ true = g in cc);
        gives =
            record {
              answers = λ p k rs l e.
                  absurd
                  (each_of (λ (y : Pipe). y.wire.sender ≡ 1 → slice_get y.got k ≡ Some (Some rs) → ⊥) pipes p
                  ((λ s g. let never : 0 ≡ 1 = s in absurd (omega arith)), ((λ s g. let never : None ≡ Some (Some rs) = g in cc), tt)) l.0 l.1 e);
              pieces = λ q c e. absurd (each_of (λ (y : Piece). ⊥) [] q tt c);
              completes = λ p l c.
                  absurd
                  (each_of (λ (y : Pipe). y.wire.sender ≡ 1 → IsComplete y → ⊥) pipes p
                  ((λ s g. let never : 0 ≡ 1 = s in absurd (omega arith)), ((λ s g. let never : false ≡ true = g in cc), tt)) l.0 l.1 c);
            };
      }

  pub not_one_row : HoldsMade F (end_world ((row 3 ∷ []) ∷ [])) 1 (an_end ((row 3 ∷ []) ∷ [])) → ⊥
  not_one_row h =
      let e : HoldsEnd 2 (row 1 ∷ row 2 ∷ row 3 ∷ []) 3 ((row 3 ∷ []) ∷ []) = h.stores (pipe 0 1 0 port.Ready (came (row 1) ∷ Some (row 2 ∷ row 3 ∷ []) ∷ []) 2) ((0, omega arith, refl), refl) in
      by e.gone e.splits e.enough
    where
      by : (gone : List Row) → gone ++ row 3 ∷ [] ≡ row 1 ∷ row 2 ∷ row 3 ∷ [] → (gone ≡ []) ⊎ (2 ≤ 1) → ⊥
      by gone splits (inl none) =
          let short : row 3 ∷ [] ≡ row 1 ∷ row 2 ∷ row 3 ∷ [] = sym (ap (λ g. g ++ row 3 ∷ []) none) ∙ splits in
          smaller 1 3 (omega arith) (ap length short)
      by gone splits (inr enough) = absurd (omega arith)

-- A REDUCE
none_kept : (k : ℕ) (rs : List Row) → let both : slots = None ∷ None ∷ [] in slice_get both k ≡ Some (Some rs) → ⊥
none_kept zero rs e = let never : Some None ≡ Some (Some rs) = e in cc
none_kept (suc zero) rs e = let never : Some None ≡ Some (Some rs) = e in cc
none_kept (suc (suc k)) rs e = let never : None ≡ Some (Some rs) = e in cc

abbrev out_pieces : List Piece
out_pieces = keeping 1 (row 2 ∷ []) ∷ keeping 0 (row 1 ∷ []) ∷ []

abbrev Awaits : List Piece → ℕ → Type 0
Awaits outs k = (x : Piece) × Contains outs x × (x.node ≡ 1) × (x.input ≡ 0) × (x.number ≡ k) × IsTrue (keeps_one x.task)

both_awaited : (k : ℕ) → let both : slots = None ∷ None ∷ [] in slice_get both k ≡ Some None → Awaits out_pieces k
both_awaited zero e = (keeping 0 (row 1 ∷ []), (1, omega arith, refl), refl, refl, refl, refl)
both_awaited (suc zero) e = (keeping 1 (row 2 ∷ []), (0, omega arith, refl), refl, refl, refl, refl)
both_awaited (suc (suc k)) e = absurd (nothing_is None e)

module _ (F : Functions) where
  pub both_out : KeepsMorsels F (reduce_world (None ∷ None ∷ []) out_pieces) 1 (a_reduce (None ∷ None ∷ [])) 0
  both_out = record { kept = λ q k rs c i e. absurd (none_kept k rs e); awaited = λ runs k e. both_awaited k e }

  pub no_other_morsel : KeepsMorsels F (reduce_world (came (row 2) ∷ None ∷ []) (keeping 1 (row 2 ∷ []) ∷ [])) 1 (a_reduce (came (row 2) ∷ None ∷ [])) 0 → ⊥
  no_other_morsel h =
      let a = h.kept (pipe 0 1 0 port.Ready (came (row 1) ∷ came (row 2) ∷ []) 2) 0 (row 2 ∷ []) ((0, omega arith, refl), refl) refl refl in
      let same : Some (Some (row 1 ∷ [])) ≡ Some (Some (row 2 ∷ [])) = a.0 in
      apart (row 1 ∷ []) (row 2 ∷ []) refl refl cc

  pub not_forgotten : KeepsMorsels F (reduce_world (None ∷ None ∷ []) (keeping 1 (row 2 ∷ []) ∷ [])) 1 (a_reduce (None ∷ None ∷ [])) 0 → ⊥
  not_forgotten h =
      let a = h.awaited refl 0 refl in
      each_of (λ (y : Piece). y.number ≡ 0 → ⊥) (keeping 1 (row 2 ∷ []) ∷ []) a.0 ((λ e. let never : 1 ≡ 0 = e in absurd (omega arith)), tt) a.1 a.4

-- LISTS OF KEYS
pub one_list_each : IsSplit by_a (rows_table a_schema grouped_rows ∷ []) 2 ((row 1 ∷ []) ∷ (row 2 ∷ []) ∷ [])
one_list_each = record { number = refl; each_once = IsPermutation-refl (row 1 ∷ row 2 ∷ []) }

pub not_in_two : IsSplit by_a (rows_table a_schema grouped_rows ∷ []) 2 ((row 1 ∷ []) ∷ (row 1 ∷ row 2 ∷ []) ∷ []) → ⊥
not_in_two h = smaller 2 3 (omega arith) (sym (length_permutation (row 1 ∷ row 2 ∷ []) (row 1 ∷ row 1 ∷ row 2 ∷ []) h.each_once))

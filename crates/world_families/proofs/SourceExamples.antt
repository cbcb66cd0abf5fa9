-- A source of three rows with its pieces and answers.
use Rattle.std.proofs.Common.{◌≡◌, ℕ, zero, suc, List, [], ◌∷◌, Some, None, true, false, refl, ap, subst, inl, inr, arith, ◌⊎◌}
use Rattle.std.specs.Prelude.{IsTrue, slice_get}
use Rattle.ps_frame.specs.Functions.{Functions}
use Rattle.ps_frame.specs.Tables.{Row}
use Rattle.ps_ports.specs.declared.port_state.PortState.TheVariants as port
use Rattle.ps_turns.specs.Tasks.{Piece}
use Rattle.ps_world.specs.Laws.{sent_by}
use Rattle.ps_world.specs.World.{Pipe}
use Rattle.world_facts.proofs.Wiring.{each_of}
use Rattle.world_families.proofs.Members.{apart}
use Rattle.world_families.specs.Examples.{a_schema, a_source, came, handing, pipe, row, slots, source_world, three_rows, two_workers}
use Rattle.world_families.specs.Sources.{HasGivenAll, HoldsSource, cut_work}
use Rattle.world_families.specs.Work.{Answers, Work, work_of}

abbrev out : slots
out = None ∷ came (row 2) ∷ []

module _ (F : Functions) where
  answered : (k : ℕ) (rs : List Row) → slice_get out k ≡ Some (Some rs) → (x : Work) × (x ≡ cut_work two_workers a_schema three_rows k) × Answers F x rs
  answered zero rs e = absurd (let no : Some None ≡ Some (Some rs) = e in cc)
  answered (suc zero) rs e =
      let same : row 2 ∷ [] ≡ rs = let q : Some (Some (row 2 ∷ [])) ≡ Some (Some rs) = e in cc in
      (cut_work two_workers a_schema three_rows 1, refl, ap (λ z. z ∷ []) same)
  answered (suc (suc k)) rs e = absurd (let no : None ≡ Some (Some rs) = e in cc)

  pub out_of_order : HoldsSource F (source_world port.Ready out (handing 0 (row 1 ∷ []) ∷ [])) 0 a_source three_rows
  out_of_order =
      record {
        answers = λ p k rs l e. each_of (λ (y : Pipe). slice_get y.got k ≡ Some (Some rs) → (x : Work) × (x ≡ cut_work two_workers a_schema three_rows k) × Answers F x rs) (source_world port.Ready out []).pipes p (answered k rs, tt) l.0 e;
        pieces = λ q c e. inl (each_of (λ (y : Piece). work_of y ≡ cut_work two_workers a_schema three_rows y.gives) (handing 0 (row 1 ∷ []) ∷ []) q (refl, tt) c);
        completes = λ p l c. each_of (λ (y : Pipe). IsTrue (sent_by y).is_complete → HasGivenAll (source_world port.Ready out []) a_source) (source_world port.Ready out []).pipes p ((λ h. absurd (let no : false ≡ true = h in cc)), tt) l.0 c;
      }

  pub no_other_cut : HoldsSource F (source_world port.Ready (came (row 2) ∷ None ∷ []) []) 0 a_source three_rows → ⊥
  no_other_cut h =
      let a = h.answers (pipe 0 1 0 port.Ready (came (row 2) ∷ None ∷ []) 0) 0 (row 2 ∷ []) ((0, omega arith, refl), refl) refl in
      let same : (row 1 ∷ []) ∷ [] ≡ (row 2 ∷ []) ∷ [] = subst (λ x. Answers F x (row 2 ∷ [])) a.1 a.2 in
      apart (row 1 ∷ []) (row 2 ∷ []) refl refl cc

  pub no_other_piece : HoldsSource F (source_world port.Ready (None ∷ None ∷ []) (handing 1 (row 1 ∷ []) ∷ [])) 0 a_source three_rows → ⊥
  no_other_piece h = by (h.pieces (handing 1 (row 1 ∷ [])) (0, omega arith, refl) refl)
    where
      by : (work_of (handing 1 (row 1 ∷ [])) ≡ cut_work two_workers a_schema three_rows 1) ⊎ ⊥ → ⊥
      by (inl e) = let same : (row 1 ∷ []) ∷ [] ≡ (row 2 ∷ []) ∷ [] = ap (λ (x : Work). x.tables) e in apart (row 1 ∷ []) (row 2 ∷ []) refl refl cc
      by (inr never) = never

  pub not_complete_yet : HoldsSource F (source_world port.Done (came (row 1) ∷ came (row 2) ∷ []) []) 0 a_source three_rows → ⊥
  not_complete_yet h =
      let all = h.completes (pipe 0 1 0 port.Done (came (row 1) ∷ came (row 2) ∷ []) 0) ((0, omega arith, refl), refl) refl in
      let no : false ≡ true = all in cc

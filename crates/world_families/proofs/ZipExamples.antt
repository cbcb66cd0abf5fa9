-- A zip of an input of three rows and one of a single row, in two cuts.
use Rattle.std.proofs.Common.{◌≡◌, ℕ, zero, suc, ◌<◌, ◌≤◌, ◌-◌, ◌+◌, ◌⊎◌, Bool, List, [], ◌∷◌, Some, None, true, false, length, take, drop, refl, sym, ap, subst, inl, inr, arith}
use Rattle.std.specs.Prelude.{Contains, IsTrue, get_or, map, slice_get, ◌||◌}
use Rattle.std.proofs.lemmas.List.{length-take}
use Rattle.ps_frame.specs.Functions.{Functions}
use Rattle.ps_frame.specs.Tables.{Row}
use Rattle.ps_ports.specs.Ports.{is_done}
use Rattle.ps_ports.specs.declared.port_state.PortState.TheVariants as port
use Rattle.ps_turns.specs.Heads.{stored_rows}
use Rattle.ps_turns.specs.Tasks.{Piece, computes}
use Rattle.ps_world.specs.World.{Pipe, World}
use Rattle.world_facts.proofs.Wiring.{each_of}
use Rattle.world_families.proofs.Members.{smaller}
use Rattle.world_families.specs.Examples.{a_schema, a_zip, a_zip_of, all_read, both_cuts, long_input, overlapping, row, single_input, slots, three_rows, zip_out, zip_piece, zip_world, zip_world_of}
use Rattle.world_families.specs.Work.{IsComplete, Leaves, Work, rows_read, work_of}
use Rattle.world_families.specs.Zips.{HoldsZip, IsCut, ServesCut, rows_in_cut}

abbrev cut_ends : ℕ → ℕ
cut_ends zero = 0
cut_ends (suc zero) = 2
cut_ends (suc (suc k)) = 3

-- no more rows than were asked for
taken_few : (n : ℕ) (rows : List Row) → length (take n rows) ≤ n
taken_few n rows = let e = length-take n rows in grind (arith, e)

-- two rows aren't both in front of a number of rows and in so many behind it that three are all
no_overlap : (b : ℕ) → row 1 ∷ row 2 ∷ [] ≡ take (b - 0) (drop 0 three_rows) → row 2 ∷ row 3 ∷ [] ≡ take (3 - b) (drop b three_rows) → ⊥
no_overlap b first second =
    let a : 2 ≡ length (take (b - 0) (drop 0 three_rows)) = ap length first in
    let c : 2 ≡ length (take (3 - b) (drop b three_rows)) = ap length second in
    let p = taken_few (b - 0) (drop 0 three_rows) in
    let q = taken_few (3 - b) (drop b three_rows) in
    absurd (omega arith)

-- what holds of both inputs
of_inputs : (dropped : Bool) (single : Pipe) (P : Pipe → Type 0) → P long_input → P single → (q : Pipe) → Contains (long_input ∷ single ∷ zip_out dropped ∷ []) q → q.wire.receiver ≡ 2 → P q
of_inputs dropped single P a b q c r = each_of (λ y. y.wire.receiver ≡ 2 → P y) (long_input ∷ single ∷ zip_out dropped ∷ []) q ((λ s. a), ((λ s. b), ((λ s. let no : 3 ≡ 2 = s in absurd (omega arith)), tt))) c r

-- the world in which both cuts are out
abbrev cutting : List (List (List Row)) → Bool → World
cutting stores dropped = zip_world_of stores dropped port.Done both_cuts

is_cut : (stores : List (List (List Row))) (dropped : Bool) (k : ℕ) → k < 2 → IsCut (cutting stores dropped) 2 false (cut_ends k) (cut_ends (k + 1))
is_cut stores dropped zero h =
    record { some_rows = omega arith; served = λ q c. of_inputs dropped (single_input port.Done) (ServesCut false 0 2) (inr (inl (omega arith))) (inl refl) q c.0 c.1; reached = (long_input, ((0, omega arith, refl), refl), omega arith) }
is_cut stores dropped (suc zero) h =
    record { some_rows = omega arith; served = λ q c. of_inputs dropped (single_input port.Done) (ServesCut false 2 3) (inr (inl (omega arith))) (inl refl) q c.0 c.1; reached = (long_input, ((0, omega arith, refl), refl), omega arith) }
is_cut stores dropped (suc (suc k)) h = absurd (omega arith)

none_came : (k : ℕ) (rs : List Row) → let places : slots = None ∷ None ∷ [] in slice_get places k ≡ Some (Some rs) → ⊥
none_came zero rs e = let no : Some None ≡ Some (Some rs) = e in cc
none_came (suc zero) rs e = let no : Some None ≡ Some (Some rs) = e in cc
none_came (suc (suc k)) rs e = let no : None ≡ Some (Some rs) = e in cc

abbrev IsCutWork : ℕ → Work → Type 0
IsCutWork k x = (k < 2) × (x ≡ record { task = computes a_zip.node; schemas = a_schema ∷ a_schema ∷ []; tables = map (rows_in_cut false (cut_ends k) (cut_ends (k + 1))) (long_input ∷ single_input port.Done ∷ []) })

-- what is stored of an input that was read, where the output is dropped or not
abbrev StoresOf : List (List (List Row)) → Bool → Pipe → Type 0
StoresOf stores dropped y = (stored_rows (get_or stores y.wire.input []) ≡ rows_read y) ⊎ (p : Pipe) × Leaves (cutting stores dropped) 2 p × IsTrue p.is_dropped

module _ (F : Functions) where
  both_cut : (stores : List (List (List Row))) (dropped : Bool) → StoresOf stores dropped long_input → StoresOf stores dropped (single_input port.Done) → (IsTrue dropped → (i : ℕ) → stored_rows (get_or stores i []) ≡ [])
      → HoldsZip F (cutting stores dropped) 2 (a_zip_of stores) false
  both_cut stores dropped long single gone =
      record {
        before = cut_ends;
        from_none = refl;
        up_to_booked = refl;
        cuts = is_cut stores dropped;
        gives =
            record {
              answers = λ p k rs l e.
                  absurd
                  (each_of (λ (y : Pipe). y.wire.sender ≡ 2 → slice_get y.got k ≡ Some (Some rs) → ⊥) (cutting stores dropped).pipes p
                  ((λ s g. let no : 0 ≡ 2 = s in absurd (omega arith)), ((λ s g. let no : 1 ≡ 2 = s in absurd (omega arith)), ((λ s g. none_came k rs g), tt))) l.0 l.1 e);
              pieces = λ q c e. inl (each_of (λ (y : Piece). IsCutWork y.gives (work_of y)) both_cuts q ((omega arith, refl), ((omega arith, refl), tt)) c);
              completes = λ p l c.
                  absurd
                  (each_of (λ (y : Pipe). y.wire.sender ≡ 2 → IsComplete y → ⊥) (cutting stores dropped).pipes p
                  ((λ s g. let no : 0 ≡ 2 = s in absurd (omega arith)), ((λ s g. let no : 1 ≡ 2 = s in absurd (omega arith)), ((λ s g. let no : false ≡ true = g in cc), tt))) l.0 l.1 c);
            };
        stores = λ q c. of_inputs dropped (single_input port.Done) (StoresOf stores dropped) long single q c.0 c.1;
        lets_go = λ p l.
            each_of (λ (y : Pipe). y.wire.sender ≡ 2 → IsTrue y.is_dropped → (i : ℕ) → stored_rows (get_or stores i []) ≡ []) (cutting stores dropped).pipes p
            ((λ s. let no : 0 ≡ 2 = s in absurd (omega arith)), ((λ s. let no : 1 ≡ 2 = s in absurd (omega arith)), ((λ s. gone), tt))) l.0 l.1;
        beside = λ u q c. of_inputs dropped (single_input port.Done) (λ (y : Pipe). IsTrue (y.in_phase || is_done y.wire.send_state)) refl refl q c.0 c.1;
      }

  pub side_by_side : HoldsZip F (zip_world port.Done both_cuts) 2 a_zip false
  side_by_side = both_cut all_read false (inl refl) (inl refl) (λ gone. absurd (let no : false ≡ true = gone in cc))

  nothing_stored : (i : ℕ) → let stores : List (List (List Row)) = [] ∷ [] ∷ [] in stored_rows (get_or stores i []) ≡ []
  nothing_stored zero = refl
  nothing_stored (suc zero) = refl
  nothing_stored (suc (suc i)) = refl

  pub lets_go : HoldsZip F (zip_world_of ([] ∷ [] ∷ []) true port.Done both_cuts) 2 (a_zip_of ([] ∷ [] ∷ [])) false
  lets_go =
      let out : (p : Pipe) × Leaves (cutting ([] ∷ [] ∷ []) true) 2 p × IsTrue p.is_dropped = (zip_out true, ((2, omega arith, refl), refl), refl) in
      both_cut ([] ∷ [] ∷ []) true (inr out) (inr out) (λ gone. nothing_stored)

  pub not_once_dropped : HoldsZip F (zip_world_of all_read true port.Done both_cuts) 2 (a_zip_of all_read) false → ⊥
  not_once_dropped h = smaller 0 3 (omega arith) (ap length (sym (h.lets_go (zip_out true) ((2, omega arith, refl), refl) refl 0)))

  pub not_overlapping : HoldsZip F (zip_world port.Done overlapping) 2 a_zip false → ⊥
  not_overlapping h =
      let b = h.before 1 in
      let one = by_piece (h.gives.pieces (get_or overlapping 0 (zip_piece 0 [] [])) (0, omega arith, refl) refl) in
      let two = by_piece (h.gives.pieces (get_or overlapping 1 (zip_piece 0 [] [])) (1, omega arith, refl) refl) in
      let first : row 1 ∷ row 2 ∷ [] ≡ take (b - h.before 0) (drop (h.before 0) three_rows) = ap (λ (x : Work). get_or x.tables 0 []) one.1 in
      let second : row 2 ∷ row 3 ∷ [] ≡ take (h.before 2 - b) (drop b three_rows) = ap (λ (x : Work). get_or x.tables 0 []) two.1 in
      let starts : row 1 ∷ row 2 ∷ [] ≡ take (b - 0) (drop 0 three_rows) = subst (λ z. row 1 ∷ row 2 ∷ [] ≡ take (b - z) (drop z three_rows)) h.from_none first in
      let ends : row 2 ∷ row 3 ∷ [] ≡ take (3 - b) (drop b three_rows) = subst (λ z. row 2 ∷ row 3 ∷ [] ≡ take (z - b) (drop b three_rows)) h.up_to_booked second in
      no_overlap b starts ends
    where
      by_piece : {A : Type 0} → A ⊎ ⊥ → A
      by_piece (inl a) = a
      by_piece (inr never) = absurd never

  pub not_before_it_is_complete : HoldsZip F (zip_world port.Ready both_cuts) 2 a_zip false → ⊥
  not_before_it_is_complete h = by ((h.cuts 1 (omega arith)).served (single_input port.Ready) ((1, omega arith, refl), refl))
    where
      by : ServesCut false (h.before 1) (h.before 2) (single_input port.Ready) → ⊥
      by (inl b) = let no : false ≡ true = b in cc
      by (inr (inl few)) = let all : h.before 2 ≡ 3 = h.up_to_booked in let less : h.before 2 ≤ 1 = few in absurd (omega arith)
      by (inr (inr ended)) = let no : false ≡ true = ended.0 in cc

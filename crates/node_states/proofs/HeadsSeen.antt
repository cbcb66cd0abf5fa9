-- The heads that are made of counts are those of the definitions, whatever rows were stored.
use Rattle.std.proofs.Common.{◌≡◌, ℕ, ◌-◌, Bool, true, false, ◌&&◌, not, cond, List, [], ◌∷◌, length, map, drop, nat_eq, refl, sym, ap, ap₂, ◌∙◌, length-drop}
use Rattle.std.specs.Prelude.{nat_lt}
use Rattle.std.proofs.lemmas.List.{length-map}
use Rattle.std.specs.List.{list_all}
use Rattle.node_states.specs.Heads.{all_single, head_from, head_state, heads_from, rows_stored}
use Rattle.node_states.specs.declared.heads.HeadState.{HeadState}
use Rattle.ps_frame.specs.Tables.{Row}
use Rattle.ps_ports.specs.declared.port_state.PortState.{PortState}
use Rattle.ps_ports.specs.Ports.{is_done}
use Rattle.ps_turns.specs.Heads.{head_of, heads_by, is_single, stored_inputs, stored_rows}

all_single_seen : (extend : Bool) (ss : List PortState) (stores : List (List (List Row))) → length stores ≡ length ss
    → all_single extend ss (map rows_stored stores) ≡ list_all (is_single extend) (stored_inputs (map is_done ss) stores)
all_single_seen extend [] [] long = refl
all_single_seen extend [] (m ∷ ms) long = absurd (cc)
all_single_seen extend (s ∷ ss) [] long = absurd (cc)
all_single_seen extend (s ∷ ss) (m ∷ ms) long = ap (λ b. (not extend && (is_done s && nat_eq (rows_stored m) 1)) && b) (all_single_seen extend ss ms (cc))

abbrev head_with : (rows : ℕ) → (broadcasts : Bool) → HeadState
head_with rows broadcasts = record { rows = rows; broadcasts = broadcasts }

-- one head
head_seen : (extend spent : Bool) (booked : ℕ) (s : PortState) (m : List (List Row)) → head_state (head_of extend spent booked (record { rows = stored_rows m; is_over = is_done s })) ≡ head_from extend spent booked s (rows_stored m)
head_seen extend spent booked s m = by_case (not extend && (is_done s && nat_eq (rows_stored m) 1) && not spent)
  where
    by_case : (b : Bool) → head_with (length (cond b (stored_rows m) (drop booked (stored_rows m)))) b ≡ head_with (cond b (rows_stored m) (rows_stored m - booked)) b
    by_case true = refl
    by_case false = ap (λ k. head_with k false) (length-drop booked (stored_rows m))

heads_seen : (extend spent : Bool) (booked : ℕ) (ss : List PortState) (stores : List (List (List Row))) → length stores ≡ length ss
    → map head_state (map (head_of extend spent booked) (stored_inputs (map is_done ss) stores)) ≡ heads_from extend spent booked ss (map rows_stored stores)
heads_seen extend spent booked [] [] long = refl
heads_seen extend spent booked [] (m ∷ ms) long = absurd (cc)
heads_seen extend spent booked (s ∷ ss) [] long = absurd (cc)
heads_seen extend spent booked (s ∷ ss) (m ∷ ms) long = ap₂ (λ h hs. h ∷ hs) (head_seen extend spent booked s m) (heads_seen extend spent booked ss ms (cc))

pub heads_made : (extend : Bool) (booked : ℕ) (ss : List PortState) (stores : List (List (List Row))) (cs : List ℕ) (heads : List HeadState) → length cs ≡ length ss → map rows_stored stores ≡ cs
    → heads ≡ heads_from extend (all_single extend ss cs && nat_lt 0 booked) booked ss cs → heads ≡ map head_state (heads_by extend booked (stored_inputs (map is_done ss) stores))
heads_made extend booked ss stores cs heads long came made =
    let as_long : length stores ≡ length ss = sym (length-map stores rows_stored) ∙ ap length came ∙ long in
    made
    ∙ ap (λ k. heads_from extend (all_single extend ss k && nat_lt 0 booked) booked ss k) (sym came)
    ∙ ap (λ b. heads_from extend (b && nat_lt 0 booked) booked ss (map rows_stored stores)) (all_single_seen extend ss stores as_long)
    ∙ sym (heads_seen extend (list_all (is_single extend) (stored_inputs (map is_done ss) stores) && nat_lt 0 booked) booked ss stores as_long)

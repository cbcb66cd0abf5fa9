-- The worlds of a run of a zip whose second input has one row, written out, and its steps.
use Rattle.std.proofs.Common.{◌≡◌, ℕ, zero, suc, Bool, true, false, cond, List, [], ◌∷◌, take, Option, Some, None, refl, subst, inl, arith}
use Rattle.std.specs.Prelude.{nat_eq, pos, slice_get}
use Rattle.ps_frame.specs.Functions.{Functions}
use Rattle.ps_frame.specs.Tables.{Row}
use Rattle.ps_frame.specs.declared.value.Value.TheVariants as val
use Rattle.ps_meaning.specs.Shape.{in_memory_sink}
use Rattle.ps_ports.specs.declared.port_state.PortState.TheVariants as port
use Rattle.ps_turns.specs.Claims.{Claim}
use Rattle.ps_turns.specs.Results.{IsMade}
use Rattle.ps_turns.specs.Tables.{whole_tables}
use Rattle.ps_turns.specs.Tasks.{Piece, good, hands_on, rows}
use Rattle.ps_world.specs.Opening.{no_progress, opening}
use Rattle.ps_world.specs.Step.{Replays, Steps, settles}
use Rattle.ps_world.specs.Updates.{IsAtRest, IsSettled, Updates, no_update, one_update}
use Rattle.ps_world.specs.World.{Node, Pipe, World, claimed, closed, ended, handed_in, opened, pulled, running}
use Rattle.world_families.proofs.Members.{nothing_is}
use Rattle.world_families.specs.Examples.{a_schema, pipe, slots}
use Rattle.zip_laws.specs.Worlds.{a_cut, ab_schema, b_schema, cut_journal, cut_world, given_journal, given_world, one_row, one_worker, read_by, side_by_side, source_of, two_rows, zip_shape, zipped_rows}

-- the world after so many records, of the nodes and pipes of the shape
abbrev at : (records phase : ℕ) → Bool → (a b z s : Node) → (p q r : Pipe) → List Piece → World
at k phase is_open a b z s p q r outs =
    record { options = one_worker; nodes = a ∷ b ∷ z ∷ s ∷ []; pipes = p ∷ q ∷ r ∷ []; outs = outs; phase = phase; is_open = is_open; journal = take k cut_journal; ending = running }

abbrev first_source : (sent : ℕ) (in_phase is_closed : Bool) → Node
first_source k i c = record { node = source_of a_schema 0 two_rows; progress = record (no_progress 0) { sent = k }; in_phase = i; is_closed = c }

abbrev second_source : (sent : ℕ) (in_phase is_closed : Bool) → Node
second_source k i c = record { node = source_of b_schema 1 one_row; progress = record (no_progress 0) { sent = k }; in_phase = i; is_closed = c }

abbrev zipping : (first second : List (List Row)) (in_phase is_closed : Bool) → Node
zipping first second i c = record { node = side_by_side; progress = record (no_progress 2) { stores = first ∷ second ∷ [] }; in_phase = i; is_closed = c }

abbrev sinking : (in_phase is_closed : Bool) → Node
sinking i c = record { node = read_by in_memory_sink ab_schema 3 ((2, 0) ∷ []); progress = no_progress 1; in_phase = i; is_closed = c }

-- a pipe that is ready on both ends
abbrev ready : (sender receiver input : ℕ) → slots → (next : ℕ) (in_phase is_closed : Bool) → Pipe
ready s r i got next p c = record (pipe s r i port.Ready got next) { in_phase = p; is_closed = c }

abbrev first : slots → (next : ℕ) (in_phase is_closed : Bool) → Pipe
first got next p c = ready 0 2 0 got next p c

abbrev second : slots → (next : ℕ) (in_phase is_closed : Bool) → Pipe
second got next p c = ready 1 2 1 got next p c

abbrev out : (in_phase is_closed : Bool) → Pipe
out p c = ready 2 3 0 [] 0 p c

abbrev came_first : slots
came_first = Some two_rows ∷ []

abbrev came_second : slots
came_second = Some one_row ∷ []

abbrev w0 : World
w0 = opening zip_shape one_worker

abbrev s1 : World
s1 = at 0 0 false (first_source 0 false false) (second_source 0 false false) (zipping [] [] false false) (sinking false false) (first [] 0 false false) (second [] 0 false false) (out false false) []

abbrev w1 : World
w1 = at 1 1 true (first_source 0 true false) (second_source 0 true false) (zipping [] [] true false) (sinking true false) (first [] 0 true false) (second [] 0 true false) (out true false) []

abbrev first_cut : Piece
first_cut = record { node = 0; input = 0; number = 0; worker = 0; gives = 0; task = hands_on; schemas = a_schema ∷ []; tables = two_rows ∷ [] }

abbrev w2 : World
w2 = at 2 1 true (first_source 1 true false) (second_source 0 true false) (zipping [] [] true false) (sinking true false) (first (None ∷ []) 0 true false) (second [] 0 true false) (out true false) (first_cut ∷ [])

abbrev w3 : World
w3 = at 3 1 true (first_source 1 true false) (second_source 0 true false) (zipping [] [] true false) (sinking true false) (first came_first 0 true false) (second [] 0 true false) (out true false) []

abbrev second_cut : Piece
second_cut = record { node = 1; input = 0; number = 0; worker = 0; gives = 0; task = hands_on; schemas = b_schema ∷ []; tables = one_row ∷ [] }

abbrev w4 : World
w4 = at 4 1 true (first_source 1 true false) (second_source 1 true false) (zipping [] [] true false) (sinking true false) (first came_first 0 true false) (second (None ∷ []) 0 true false) (out true false) (second_cut ∷ [])

abbrev w5 : World
w5 = at 5 1 true (first_source 1 true false) (second_source 1 true false) (zipping [] [] true false) (sinking true false) (first came_first 0 true false) (second came_second 0 true false) (out true false) []

abbrev w6 : World
w6 = at 6 1 true (first_source 1 true false) (second_source 1 true false) (zipping (two_rows ∷ []) [] true false) (sinking true false) (first came_first 1 true false) (second came_second 0 true false) (out true false) []

abbrev w7 : World
w7 = at 7 1 true (first_source 1 true false) (second_source 1 true false) (zipping (two_rows ∷ []) (one_row ∷ []) true false) (sinking true false) (first came_first 1 true false) (second came_second 1 true false) (out true false) []

abbrev w8 : World
w8 = at 8 1 true (first_source 1 true true) (second_source 1 true false) (zipping (two_rows ∷ []) (one_row ∷ []) true false) (sinking true false) (first came_first 1 true true) (second came_second 1 true false) (out true false) []

abbrev w9 : World
w9 = at 9 1 true (first_source 1 true true) (second_source 1 true true) (zipping (two_rows ∷ []) (one_row ∷ []) true false) (sinking true false) (first came_first 1 true true) (second came_second 1 true true) (out true false) []

abbrev w10 : World
w10 = at 10 1 true (first_source 1 true true) (second_source 1 true true) (zipping (two_rows ∷ []) (one_row ∷ []) true true) (sinking true false) (first came_first 1 true true) (second came_second 1 true true) (out true true) []

abbrev w11 : World
w11 = at 11 1 true (first_source 1 true true) (second_source 1 true true) (zipping (two_rows ∷ []) (one_row ∷ []) true true) (sinking true true) (first came_first 1 true true) (second came_second 1 true true) (out true true) []

abbrev w12 : World
w12 = at 12 1 false (first_source 1 false false) (second_source 1 false false) (zipping (two_rows ∷ []) (one_row ∷ []) false false) (sinking false false) (first came_first 1 false false) (second came_second 1 false false) (out false false) []

-- both inputs are done
abbrev s2 : World
s2 =
    at 12 1 false (first_source 1 false false) (second_source 1 false false) (zipping (two_rows ∷ []) (one_row ∷ []) false false) (sinking false false)
    (pipe 0 2 0 port.Done came_first 1) (pipe 1 2 1 port.Done came_second 1) (out false false) []

abbrev w13 : World
w13 =
    at 13 2 true (first_source 1 false false) (second_source 1 false false) (zipping (two_rows ∷ []) (one_row ∷ []) true false) (sinking true false)
    (pipe 0 2 0 port.Done came_first 1) (pipe 1 2 1 port.Done came_second 1) (out true false) []

none_left : (b : Bool) → cond {A = Option Claim} b None None ≡ None
none_left true = refl
none_left false = refl

-- the four nodes are at rest
abbrev RestAll : World → (a b z s : Node) → Type 0
RestAll w a b z s = IsAtRest w 0 a × IsAtRest w 1 b × IsAtRest w 2 z × IsAtRest w 3 s

all_rest : (w : World) (a b z s : Node) → w.nodes ≡ a ∷ b ∷ z ∷ s ∷ [] → RestAll w a b z s → IsSettled w
all_rest w a b z s e h n node there = by n (subst (λ ns. slice_get ns n ≡ Some node) e there)
  where
    by : (n : ℕ) → slice_get (a ∷ b ∷ z ∷ s ∷ []) n ≡ Some node → IsAtRest w n node
    by zero e = let q : Some a ≡ Some node = e in let same : a ≡ node = cc in subst (IsAtRest w 0) same h.0
    by (suc zero) e = let q : Some b ≡ Some node = e in let same : b ≡ node = cc in subst (IsAtRest w 1) same h.1
    by (suc (suc zero)) e = let q : Some z ≡ Some node = e in let same : z ≡ node = cc in subst (IsAtRest w 2) same h.2
    by (suc (suc (suc zero))) e = let q : Some s ≡ Some node = e in let same : s ≡ node = cc in subst (IsAtRest w 3) same h.3
    by (suc (suc (suc (suc n)))) e = absurd (nothing_is node e)

settled_1 : IsSettled s1
settled_1 =
    all_rest s1 (first_source 0 false false) (second_source 0 false false) (zipping [] [] false false) (sinking false false) refl
    (record { stage = refl; states = refl; agrees = refl; filled = refl }, record { stage = refl; states = refl; agrees = refl; filled = refl }, record { stage = refl; states = refl; agrees = refl; filled = refl }, record { stage = refl; states = refl; agrees = refl; filled = refl })

settled_2 : IsSettled s2
settled_2 =
    all_rest s2 (first_source 1 false false) (second_source 1 false false) (zipping (two_rows ∷ []) (one_row ∷ []) false false) (sinking false false) refl
    (record { stage = refl; states = refl; agrees = refl; filled = refl }, record { stage = refl; states = refl; agrees = refl; filled = refl }, record { stage = refl; states = refl; agrees = refl; filled = refl }, record { stage = refl; states = refl; agrees = refl; filled = refl })

module _ (F : Functions) where
  updates_1 : Updates F w0 s1
  updates_1 =
      one_update 3 (sinking false false) (no_progress 1) (refl, refl, inl (refl, refl))
      (one_update 0 (first_source 0 false false) (no_progress 0) (refl, refl, inl (refl, refl))
      (one_update 1 (second_source 0 false false) (no_progress 0) (refl, refl, inl (refl, refl)) (one_update 2 (zipping [] [] false false) (no_progress 2) (refl, refl, inl (refl, refl)) no_update)))

  step_1 : Steps F w0 (opened 1) w1
  step_1 = (refl, refl, refl, (s1, updates_1, settles settled_1 refl))

  step_2 : Steps F w1 (claimed 0 0 0 0) w2
  step_2 = (first_source 0 true false, (refl, refl, refl), (omega arith, tt), refl, (refl, tt), (_, refl, refl, refl))

  step_3 : Steps F w2 (handed_in 0 0 0 0 (rows 2)) w3
  step_3 = (first_cut, (0, omega arith, refl), refl, refl, refl, refl, refl, (good two_rows, refl, refl, refl))

  step_4 : Steps F w3 (claimed 1 0 0 0) w4
  step_4 = (second_source 0 true false, (refl, refl, refl), (omega arith, tt), refl, (refl, tt), (_, refl, refl, refl))

  step_5 : Steps F w4 (handed_in 1 0 0 0 (rows 1)) w5
  step_5 = (second_cut, (0, omega arith, refl), refl, refl, refl, refl, refl, (good one_row, refl, refl, refl))

  step_6 : Steps F w5 (pulled 2 0 0) w6
  step_6 = (zipping [] [] true false, (refl, refl, refl), refl, refl, (first came_first 0 true false, two_rows, (0, omega arith, refl), refl, refl, refl, refl, refl, refl))

  step_7 : Steps F w6 (pulled 2 1 0) w7
  step_7 = (zipping (two_rows ∷ []) [] true false, (refl, refl, refl), refl, refl, (second came_second 0 true false, one_row, (1, omega arith, refl), refl, refl, refl, refl, refl, refl))

  step_8 : Steps F w7 (closed 0) w8
  step_8 = (first_source 1 true false, (refl, refl, refl), refl, inl (refl, λ i. none_left (nat_eq i 0)), refl)

  step_9 : Steps F w8 (closed 1) w9
  step_9 = (second_source 1 true false, (refl, refl, refl), refl, inl (refl, λ i. none_left (nat_eq i 0)), refl)

  step_10 : Steps F w9 (closed 2) w10
  step_10 = (zipping (two_rows ∷ []) (one_row ∷ []) true false, (refl, refl, refl), refl, inl (refl, λ i. none_left (nat_eq i 0)), refl)

  step_11 : Steps F w10 (closed 3) w11
  step_11 = (sinking true false, (refl, refl, refl), refl, inl (refl, λ i. refl), refl)

  step_12 : Steps F w11 (ended 1) w12
  step_12 = (refl, refl, refl, ((λ h. refl), ((λ h. refl), ((λ h. refl), ((λ h. refl), tt)))), refl)

  updates_2 : Updates F w12 s2
  updates_2 =
      one_update 0 (first_source 1 false false) (record (no_progress 0) { sent = 1 }) (refl, refl, inl (refl, refl))
      (one_update 1 (second_source 1 false false) (record (no_progress 0) { sent = 1 }) (refl, refl, inl (refl, refl))
      (one_update 2 (zipping (two_rows ∷ []) (one_row ∷ []) false false) (record (no_progress 2) { stores = (two_rows ∷ []) ∷ (one_row ∷ []) ∷ [] }) (refl, refl, inl (refl, refl)) no_update))

  step_13 : Steps F w12 (opened 2) w13
  step_13 = (refl, refl, refl, (s2, updates_2, settles settled_2 refl))

  step_14 : Steps F w13 (claimed 2 0 0 0) (cut_world cut_journal two_rows)
  step_14 = (zipping (two_rows ∷ []) (one_row ∷ []) true false, (refl, refl, refl), (omega arith, tt), refl, (refl, tt), (_, refl, refl, refl))

  -- what comes of the cut
  zipped : IsMade F side_by_side (whole_tables (a_schema ∷ b_schema ∷ []) (two_rows ∷ one_row ∷ [])) (zipped_rows (val.Int64 (pos 7)))
  zipped = (_, (_, inl refl, refl), refl, refl, omega arith)

  step_15 : Steps F (cut_world cut_journal two_rows) (handed_in 2 0 0 0 (rows 2)) (given_world given_journal (val.Int64 (pos 7)))
  step_15 = (a_cut two_rows, (0, omega arith, refl), refl, refl, refl, refl, refl, (good (zipped_rows (val.Int64 (pos 7))), zipped, refl, refl))

  pub cuts_both : Replays F (opening zip_shape one_worker) cut_journal (cut_world cut_journal two_rows)
  cuts_both =
      (w1, step_1, (w2, step_2, (w3, step_3, (w4, step_4, (w5, step_5, (w6, step_6, (w7, step_7, (w8, step_8, (w9, step_9, (w10, step_10, (w11, step_11, (w12, step_12, (w13, step_13, (cut_world cut_journal two_rows, step_14, refl))))))))))))))

  pub in_each_row : Replays F (opening zip_shape one_worker) given_journal (given_world given_journal (val.Int64 (pos 7)))
  in_each_row =
      (w1, step_1, (w2, step_2, (w3, step_3, (w4, step_4, (w5, step_5, (w6, step_6, (w7, step_7, (w8, step_8, (w9, step_9, (w10, step_10, (w11, step_11, (w12, step_12, (w13, step_13, (cut_world cut_journal two_rows, step_14, (given_world given_journal (val.Int64 (pos 7)), step_15, refl)))))))))))))))

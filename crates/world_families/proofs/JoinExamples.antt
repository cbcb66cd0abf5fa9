-- A join that probes two right rows.
use Rattle.std.proofs.Common.{◌≡◌, ℕ, zero, suc, ◌<◌, ◌⊎◌, List, [], ◌∷◌, Some, None, true, false, length, refl, ap, subst, ◌∙◌, inl, inr, arith}
use Rattle.std.specs.Prelude.{Contains, IsTrue, get_or, slice_get}
use Rattle.ps_frame.specs.Functions.{Functions}
use Rattle.ps_frame.specs.Tables.{Row}
use Rattle.ps_ports.specs.Ports.{is_done}
use Rattle.ps_ports.specs.declared.port_state.PortState.TheVariants as port
use Rattle.ps_turns.specs.Results.{IsPartial}
use Rattle.ps_meaning.specs.Cases.{rows_table}
use Rattle.ps_turns.specs.Tasks.{Piece}
use Rattle.ps_world.specs.World.{Pipe, rows_in_order}
use Rattle.world_facts.proofs.Wiring.{each_of}
use Rattle.world_families.proofs.Members.{nothing_is, smaller}
use Rattle.world_families.specs.Examples.{a_join, a_schema, a_spent_join, came, join_world, join_world_of, left_input, on_a, pipe, probing, right_input, row, slots, spent_world}
use Rattle.world_families.specs.Joins.{HasRight, HoldsJoin, IsJoinOf, IsJoinWork}
use Rattle.world_families.specs.Keepers.{IsKeptOf, KeepsMorsels, slots_at}
use Rattle.world_families.specs.Work.{IsComplete, Work, work_of}

abbrev right_rows : List Row
right_rows = row 2 ∷ row 3 ∷ []

abbrev both_probe : List Piece
both_probe = probing 1 (row 2 ∷ []) right_rows ∷ probing 0 (row 1 ∷ []) right_rows ∷ []

abbrev out_pipe : Pipe
out_pipe = pipe 2 3 0 port.Ready (None ∷ None ∷ []) 0

-- what holds of the right input
of_right : (P : Pipe → Type 0) → P right_input → (q : Pipe) → Contains (left_input ∷ right_input ∷ out_pipe ∷ []) q → q.wire.receiver ≡ 2 → q.wire.input ≡ 1 → P q
of_right P a q c r i =
    each_of (λ y. y.wire.receiver ≡ 2 → y.wire.input ≡ 1 → P y) (left_input ∷ right_input ∷ out_pipe ∷ []) q
    ((λ s t. let never : 0 ≡ 1 = t in absurd (omega arith)), ((λ s t. a), ((λ s t. let never : 3 ≡ 2 = s in absurd (omega arith)), tt))) c r i

none_came : (k : ℕ) (rs : List Row) → slice_get out_pipe.got k ≡ Some (Some rs) → ⊥
none_came zero rs e = let never : Some None ≡ Some (Some rs) = e in cc
none_came (suc zero) rs e = let never : Some None ≡ Some (Some rs) = e in cc
none_came (suc (suc k)) rs e = let never : None ≡ Some (Some rs) = e in cc

all_kept : (k : ℕ) → slice_get (slots_at a_join 1) k ≡ Some None → ⊥
all_kept zero e = let never : Some (came (row 2)) ≡ Some None = e in cc
all_kept (suc zero) e = let never : Some (came (row 3)) ≡ Some None = e in cc
all_kept (suc (suc k)) e = nothing_is None e

is_join : (outs : List Piece) → IsJoinOf (join_world outs) 2 left_input right_input
is_join outs = record { left_enters = (((0, omega arith, refl), refl), refl); right_enters = (((1, omega arith, refl), refl), refl) }

module _ (F : Functions) where
  abbrev IsKeptRight : ℕ → List Row → Type 0
  IsKeptRight k rs = (slice_get right_input.got k ≡ Some (Some rs)) × (size : ℕ) × IsPartial F a_join.node a_join.node.kind 1 (rows_table a_schema rs ∷ []) size

  kept_at : (k : ℕ) (rs : List Row) → slice_get right_input.got k ≡ Some (Some rs) → IsKeptRight k rs
  kept_at zero rs e = let same : row 2 ∷ [] ≡ rs = let q : Some (came (row 2)) ≡ Some (Some rs) = e in cc in subst (IsKeptRight 0) same (refl, 1, (refl, refl))
  kept_at (suc zero) rs e = let same : row 3 ∷ [] ≡ rs = let q : Some (came (row 3)) ≡ Some (Some rs) = e in cc in subst (IsKeptRight 1) same (refl, 1, (refl, refl))
  kept_at (suc (suc k)) rs e = absurd (let never : None ≡ Some (Some rs) = e in cc)

  keeps_right : KeepsMorsels F (join_world both_probe) 2 a_join 1
  keeps_right =
      record {
        kept = λ q k rs c i e.
            of_right (λ (y : Pipe). (slice_get y.got k ≡ Some (Some rs)) × (size : ℕ) × IsPartial F a_join.node a_join.node.kind 1 (rows_table a_schema rs ∷ []) size) (kept_at k rs e) q c.0 c.1 i;
        awaited = λ runs k e. absurd (all_kept k e);
      }

  is_probed : (k : ℕ) (rs : List Row) → k < left_input.next → slice_get left_input.got k ≡ Some (Some rs) → IsJoinWork (join_world both_probe) 2 a_join on_a k (work_of (probing k rs right_rows))
  is_probed k rs taken e = (left_input, right_input, is_join both_probe, (refl, refl), inl (taken, rs, e, refl))

  pub all_rows : HoldsJoin F (join_world both_probe) 2 a_join on_a
  all_rows =
      record {
        turn = λ l r is.
            record {
              builds = λ t. absurd (let never : false ≡ true = t in cc);
              built = λ t. of_right (λ (y : Pipe). IsTrue (is_done y.wire.receive_state)) refl r is.right_enters.0.0 is.right_enters.0.1 is.right_enters.1;
              ends = λ t. absurd (let never : false ≡ true = t in cc);
            };
        keeps_right = keeps_right;
        keeps_left = λ fills. absurd (let never : false ≡ true = fills in cc);
        has_right = λ g r c i. of_right (HasRight a_join) (refl, refl) r c.0 c.1 i;
        gives =
            record {
              answers = λ p k rs l e.
                  absurd
                  (each_of (λ (y : Pipe). y.wire.sender ≡ 2 → slice_get y.got k ≡ Some (Some rs) → ⊥) (left_input ∷ right_input ∷ out_pipe ∷ []) p
                  ((λ s g. let never : 0 ≡ 2 = s in absurd (omega arith)), ((λ s g. let never : 1 ≡ 2 = s in absurd (omega arith)), ((λ s g. none_came k rs g), tt))) l.0 l.1 e);
              pieces = λ q c e.
                  inl (each_of (λ (y : Piece). IsJoinWork (join_world both_probe) 2 a_join on_a y.gives (work_of y)) both_probe q (is_probed 1 (row 2 ∷ []) (omega arith) refl, (is_probed 0 (row 1 ∷ []) (omega arith) refl, tt)) c);
              completes = λ p l c.
                  absurd
                  (each_of (λ (y : Pipe). y.wire.sender ≡ 2 → IsComplete y → ⊥) (left_input ∷ right_input ∷ out_pipe ∷ []) p
                  ((λ s g. let never : 0 ≡ 2 = s in absurd (omega arith)), ((λ s g. let never : 1 ≡ 2 = s in absurd (omega arith)), ((λ s g. let never : false ≡ true = g in cc), tt))) l.0 l.1 c);
            };
      }

  abbrev part_probe : Piece
  part_probe = probing 1 (row 2 ∷ []) (row 2 ∷ [])

  pub not_a_part : HoldsJoin F (join_world (part_probe ∷ [])) 2 a_join on_a → ⊥
  not_a_part h = by (h.gives.pieces part_probe (0, omega arith, refl) refl)
    where
      by : IsJoinWork (join_world (part_probe ∷ [])) 2 a_join on_a 1 (work_of part_probe) ⊎ IsKeptOf (join_world (part_probe ∷ [])) 2 a_join 1 part_probe → ⊥
      by (inl (l, r, is, complete, inl (taken, rs, e, same))) =
          let all : rows_in_order r.got ≡ right_rows = of_right (λ (y : Pipe). rows_in_order y.got ≡ right_rows) refl r is.right_enters.0.0 is.right_enters.0.1 is.right_enters.1 in
          let part : row 2 ∷ [] ≡ rows_in_order r.got = ap (λ (x : Work). get_or x.tables 1 []) same in
          smaller 1 2 (omega arith) (ap length (part ∙ all))
      by (inl (l, r, is, complete, inr last)) = let never : false ≡ true = last.0 in cc
      by (inr kept) = smaller 0 1 (omega arith) kept.0

  abbrev not_taken : Piece
  not_taken = probing 1 (row 2 ∷ []) right_rows

  pub not_before_it_is_taken : HoldsJoin F (join_world_of 1 (not_taken ∷ [])) 2 a_join on_a → ⊥
  not_before_it_is_taken h = by (h.gives.pieces not_taken (0, omega arith, refl) refl)
    where
      -- its left pipe is the one of which one morsel was taken
      read_one : (q : Pipe) → Contains (join_world_of 1 (not_taken ∷ [])).pipes q → q.wire.receiver ≡ 2 → q.wire.input ≡ 0 → q.next ≡ 1
      read_one q c r i =
          each_of (λ (y : Pipe). y.wire.receiver ≡ 2 → y.wire.input ≡ 0 → y.next ≡ 1) (join_world_of 1 (not_taken ∷ [])).pipes q
          ((λ s t. refl), ((λ s t. let never : 1 ≡ 0 = t in absurd (omega arith)), ((λ s t. let never : 3 ≡ 2 = s in absurd (omega arith)), tt))) c r i

      by : IsJoinWork (join_world_of 1 (not_taken ∷ [])) 2 a_join on_a 1 (work_of not_taken) ⊎ IsKeptOf (join_world_of 1 (not_taken ∷ [])) 2 a_join 1 not_taken → ⊥
      by (inl (l, r, is, right, inl (taken, rs, e, same))) =
          let few = read_one l is.left_enters.0.0 is.left_enters.0.1 is.left_enters.1 in
          absurd (let less : 1 < 1 = subst (λ z. 1 < z) few taken in omega arith)
      by (inl (l, r, is, right, inr last)) = let never : false ≡ true = last.0 in cc
      by (inr kept) = smaller 0 1 (omega arith) kept.0

-- A JOIN THAT IS SPENT
abbrev all_right : slots
all_right = came (row 2) ∷ came (row 3) ∷ []

abbrev left_over : Pipe
left_over = pipe 0 2 0 port.Done [] 0

abbrev given_out : Pipe
given_out = pipe 2 3 0 port.Done [] 0

-- what holds of both inputs
of_both : (P : Pipe → Type 0) → P left_over → P right_input → (q : Pipe) → Contains (left_over ∷ right_input ∷ given_out ∷ []) q → q.wire.receiver ≡ 2 → P q
of_both P a b q c r = each_of (λ y. y.wire.receiver ≡ 2 → P y) (left_over ∷ right_input ∷ given_out ∷ []) q ((λ s. a), ((λ s. b), ((λ s. let never : 3 ≡ 2 = s in absurd (omega arith)), tt))) c r

module _ (F : Functions) where
  has_right : (q : Pipe) → Contains (left_over ∷ right_input ∷ given_out ∷ []) q → q.wire.receiver ≡ 2 → q.wire.input ≡ 1 → HasRight (a_spent_join all_right) q
  has_right q c r i = of_both (λ (y : Pipe). y.wire.input ≡ 1 → HasRight (a_spent_join all_right) y) (λ t. let never : 0 ≡ 1 = t in absurd (omega arith)) (λ t. (refl, refl)) q c r i

  pub all_kept_on : HoldsJoin F (spent_world all_right) 2 (a_spent_join all_right) on_a
  all_kept_on =
      record {
        turn = λ l r is.
            record {
              builds = λ t. absurd (let never : false ≡ true = t in cc);
              built = λ t. of_both (λ (y : Pipe). IsTrue (is_done y.wire.receive_state)) refl refl r is.right_enters.0.0 is.right_enters.0.1;
              ends = λ t. of_both (λ (y : Pipe). IsTrue (is_done y.wire.receive_state)) refl refl l is.left_enters.0.0 is.left_enters.0.1;
            };
        keeps_right =
            record {
              kept = λ q k rs c i e.
                  of_both (λ (y : Pipe). y.wire.input ≡ 1 → (slice_get y.got k ≡ Some (Some rs)) × (size : ℕ) × IsPartial F a_join.node a_join.node.kind 1 (rows_table a_schema rs ∷ []) size)
                  (λ t. let never : 0 ≡ 1 = t in absurd (omega arith)) (λ t. kept_at F k rs e) q c.0 c.1 i;
              awaited = λ runs k e. absurd (all_kept k e);
            };
        keeps_left = λ fills. absurd (let never : false ≡ true = fills in cc);
        has_right = λ g. absurd (let never : false ≡ true = g in cc);
        gives =
            record {
              answers = λ p k rs l e.
                  absurd
                  (each_of (λ (y : Pipe). y.wire.sender ≡ 2 → slice_get y.got k ≡ Some (Some rs) → ⊥) (left_over ∷ right_input ∷ given_out ∷ []) p
                  ((λ s g. let never : 0 ≡ 2 = s in absurd (omega arith)), ((λ s g. let never : 1 ≡ 2 = s in absurd (omega arith)), ((λ s g. nothing_is (Some rs) g), tt))) l.0 l.1 e);
              pieces = λ q c e. absurd (each_of (λ (y : Piece). ⊥) [] q tt c);
              completes = λ p l c. ((λ q d. of_both IsComplete refl refl q d.0 d.1), (λ r d i. has_right r d.0 d.1 i), refl);
            };
      }

  pub not_forgotten : HoldsJoin F (spent_world []) 2 (a_spent_join []) on_a → ⊥
  not_forgotten h =
      let all = h.gives.completes given_out ((2, omega arith, refl), refl) refl in
      let kept = all.1 right_input ((1, omega arith, refl), refl) refl in
      let none : [] ≡ right_input.got = kept.1 in
      smaller 0 2 (omega arith) (ap length none)

-- A right join that gave the right rows without a match behind its left morsels, and worlds in which they stand elsewhere.
use Rattle.std.proofs.Common.{◌≡◌, ℕ, zero, suc, ◌<◌, List, [], ◌∷◌, Some, None, true, false, length, take, refl, sym, ap, subst, ◌∙◌, inl, inr, arith}
use Rattle.std.specs.Prelude.{Contains, IsTrue, slice_get}
use Rattle.ps_frame.specs.Functions.{Functions}
use Rattle.ps_frame.specs.Tables.{Row}
use Rattle.ps_meaning.specs.Cases.{rows_table}
use Rattle.ps_meaning.specs.Shape.{Shape}
use Rattle.ps_meaning.specs.Sound.{IsSound}
use Rattle.ps_options.specs.declared.options.Options.{Options}
use Rattle.ps_ports.specs.Ports.{is_done}
use Rattle.ps_turns.specs.Results.{IsPartial, IsResultOf}
use Rattle.ps_turns.specs.Tables.{whole_tables}
use Rattle.ps_turns.specs.Tasks.{gives_last, good, probes}
use Rattle.ps_world.specs.Opening.{Reaches}
use Rattle.ps_world.specs.World.{Pipe, Record, rows_in_order}
use Rattle.world_facts.proofs.Wiring.{each_of}
use Rattle.world_families.proofs.Members.{first_number, nothing_is, smaller}
use Rattle.world_families.specs.Examples.{a_schema, came, row, slots}
use Rattle.world_families.specs.Joins.{HasRight, HoldsJoin, IsJoinOf, IsJoinWork}
use Rattle.world_families.specs.Keepers.{slots_at}
use Rattle.world_families.specs.Work.{Answers, IsComplete, Work}
use Rattle.world_laws.proofs.InOrder.{none_in_nil}
use Rattle.join_run_laws.specs.Worlds.{given_pipe, given_twice, in_order, last_claimed, last_world, left_morsels, left_pipe, right_join, right_on_a, right_pipe, under_a_left_number}
use Rattle.join_run_laws.proofs.Held.{joins_hold}

abbrev left_rows : List Row
left_rows = row 1 ∷ row 2 ∷ []

abbrev right_rows : List Row
right_rows = row 2 ∷ row 3 ∷ []

-- a left morsel over all right rows, and all rows of both sides
abbrev probe : List Row → Work
probe rs = record { task = probes right_join right_on_a; schemas = a_schema ∷ a_schema ∷ []; tables = rs ∷ right_rows ∷ [] }

abbrev last : Work
last = record { task = gives_last right_join right_on_a; schemas = a_schema ∷ a_schema ∷ []; tables = left_rows ∷ right_rows ∷ [] }

all_kept : (k : ℕ) → slice_get (slots_at last_claimed 1) k ≡ Some None → ⊥
all_kept zero e = let never : Some (came (row 2)) ≡ Some None = e in cc
all_kept (suc zero) e = let never : Some (came (row 3)) ≡ Some None = e in cc
all_kept (suc (suc k)) e = nothing_is None e

module _ (F : Functions) (journal : List Record) where
  -- what is so of the left pipe, of the right one, and of the one that leaves the join
  of_left : (given : slots) (P : Pipe → Type 0) → P left_pipe → (q : Pipe) → Contains (last_world journal given).pipes q → q.wire.receiver ≡ 2 → q.wire.input ≡ 0 → P q
  of_left given P a q c r i =
      each_of (λ (y : Pipe). y.wire.receiver ≡ 2 → y.wire.input ≡ 0 → P y) (last_world journal given).pipes q
      ((λ s t. a), ((λ s t. absurd (smaller 0 1 (omega arith) (sym t))), ((λ s t. absurd (smaller 2 3 (omega arith) (sym s))), tt))) c r i

  of_right : (given : slots) (P : Pipe → Type 0) → P right_pipe → (q : Pipe) → Contains (last_world journal given).pipes q → q.wire.receiver ≡ 2 → q.wire.input ≡ 1 → P q
  of_right given P a q c r i =
      each_of (λ (y : Pipe). y.wire.receiver ≡ 2 → y.wire.input ≡ 1 → P y) (last_world journal given).pipes q
      ((λ s t. absurd (smaller 0 1 (omega arith) t)), ((λ s t. a), ((λ s t. absurd (smaller 2 3 (omega arith) (sym s))), tt))) c r i

  of_out : (given : slots) (P : Pipe → Type 0) → P (given_pipe given) → (p : Pipe) → Contains (last_world journal given).pipes p → p.wire.sender ≡ 2 → P p
  of_out given P a p c r =
      each_of (λ (y : Pipe). y.wire.sender ≡ 2 → P y) (last_world journal given).pipes p
      ((λ s. absurd (smaller 0 2 (omega arith) s)), ((λ s. absurd (smaller 1 2 (omega arith) s)), ((λ s. a), tt))) c r

  is_join : (given : slots) → IsJoinOf (last_world journal given) 2 left_pipe right_pipe
  is_join given = record { left_enters = (((0, omega arith, refl), refl), refl); right_enters = (((1, omega arith, refl), refl), refl) }

  abbrev IsKeptRight : ℕ → List Row → Type 0
  IsKeptRight k rs = (slice_get right_pipe.got k ≡ Some (Some rs)) × (size : ℕ) × IsPartial F right_join right_join.kind 1 (rows_table a_schema rs ∷ []) size

  kept_at : (k : ℕ) (rs : List Row) → slice_get right_pipe.got k ≡ Some (Some rs) → IsKeptRight k rs
  kept_at zero rs e = let same : row 2 ∷ [] ≡ rs = let q : Some (came (row 2)) ≡ Some (Some rs) = e in cc in subst (IsKeptRight 0) same (refl, 1, (refl, refl))
  kept_at (suc zero) rs e = let same : row 3 ∷ [] ≡ rs = let q : Some (came (row 3)) ≡ Some (Some rs) = e in cc in subst (IsKeptRight 1) same (refl, 1, (refl, refl))
  kept_at (suc (suc k)) rs e = absurd (nothing_is (Some rs) e)

  -- what the left rows give, and the right row without a match
  first_gives : Answers F (probe (row 1 ∷ [])) []
  first_gives = (refl, refl, refl, omega arith)

  second_gives : Answers F (probe (row 2 ∷ [])) (row 2 ∷ [])
  second_gives = (refl, refl, refl, omega arith)

  last_gives : Answers F last (row 3 ∷ [])
  last_gives = (refl, refl, refl, omega arith)

  abbrev IsGiven : ℕ → List Row → Type 0
  IsGiven k rs = (x : Work) × IsJoinWork (last_world journal in_order) 2 last_claimed right_on_a k x × Answers F x rs

  given_at : (k : ℕ) (rs : List Row) → slice_get in_order k ≡ Some (Some rs) → IsGiven k rs
  given_at zero rs e =
      let same : [] ≡ rs = (let rows : List Row = [] in let q : Some (Some rows) ≡ Some (Some rs) = e in cc) in
      subst (IsGiven 0) same (probe (row 1 ∷ []), (left_pipe, right_pipe, is_join in_order, (refl, refl), inl (omega arith, row 1 ∷ [], refl, refl)), first_gives)
  given_at (suc zero) rs e =
      let same : row 2 ∷ [] ≡ rs = (let q : Some (came (row 2)) ≡ Some (Some rs) = e in cc) in
      subst (IsGiven 1) same (probe (row 2 ∷ []), (left_pipe, right_pipe, is_join in_order, (refl, refl), inl (omega arith, row 2 ∷ [], refl, refl)), second_gives)
  given_at (suc (suc zero)) rs e =
      let same : row 3 ∷ [] ≡ rs = (let q : Some (came (row 3)) ≡ Some (Some rs) = e in cc) in
      subst (IsGiven 2) same (last, (left_pipe, right_pipe, is_join in_order, (refl, refl), inr (refl, refl, refl, refl)), last_gives)
  given_at (suc (suc (suc k))) rs e = absurd (nothing_is (Some rs) e)

  pub last_holds : HoldsJoin F (last_world journal in_order) 2 last_claimed right_on_a
  last_holds =
      record {
        turn = λ l r is.
            record {
              builds = λ t. absurd (let never : false ≡ true = t in cc);
              built = λ t. of_right in_order (λ (y : Pipe). IsTrue (is_done y.wire.receive_state)) refl r is.right_enters.0.0 is.right_enters.0.1 is.right_enters.1;
              ends = λ t. absurd (let never : false ≡ true = t in cc);
            };
        keeps_right =
            record {
              kept = λ q k rs c i e.
                  of_right in_order (λ (y : Pipe). (slice_get y.got k ≡ Some (Some rs)) × (size : ℕ) × IsPartial F right_join right_join.kind 1 (rows_table a_schema rs ∷ []) size) (kept_at k rs e) q c.0 c.1 i;
              awaited = λ runs k e. absurd (all_kept k e);
            };
        keeps_left = λ fills q c i. of_left in_order (λ (y : Pipe). slots_at last_claimed 0 ≡ take y.next y.got) refl q c.0 c.1 i;
        has_right = λ g r c i. of_right in_order (HasRight last_claimed) (refl, refl) r c.0 c.1 i;
        gives =
            record {
              answers = λ p k rs l e. of_out in_order (λ (y : Pipe). slice_get y.got k ≡ Some (Some rs) → IsGiven k rs) (λ g. given_at k rs g) p l.0 l.1 e;
              pieces = λ q c e. absurd (none_in_nil q c);
              completes = λ p l c. absurd (of_out in_order (λ (y : Pipe). IsComplete y → ⊥) (λ g. let never : false ≡ true = g in cc) p l.0 l.1 c);
            };
      }

  -- THE ROW UNDER THE NUMBER OF A LEFT MORSEL
  left_stands_before : HoldsJoin F (last_world journal under_a_left_number) 2 last_claimed right_on_a → ⊥
  left_stands_before h = by (h.gives.answers (given_pipe under_a_left_number) 1 (row 3 ∷ []) ((2, omega arith, refl), refl) refl)
    where
      by : (x : Work) × IsJoinWork (last_world journal under_a_left_number) 2 last_claimed right_on_a 1 x × Answers F x (row 3 ∷ []) → ⊥
      by (x, (l, r, is, right, inr (fills, complete, behind, same)), a) =
          let two : l.got ≡ left_morsels = of_left under_a_left_number (λ (y : Pipe). y.got ≡ left_morsels) refl l is.left_enters.0.0 is.left_enters.0.1 is.left_enters.1 in
          smaller 1 2 (omega arith) (behind ∙ ap length two)
      by (x, (l, r, is, right, inl (taken, rs, e, same)), a) =
          let two : l.got ≡ left_morsels = of_left under_a_left_number (λ (y : Pipe). y.got ≡ left_morsels) refl l is.left_enters.0.0 is.left_enters.0.1 is.left_enters.1 in
          let all : rows_in_order r.got ≡ right_rows = of_right under_a_left_number (λ (y : Pipe). rows_in_order y.got ≡ right_rows) refl r is.right_enters.0.0 is.right_enters.0.1 is.right_enters.1 in
          let its : Some (came (row 2)) ≡ Some (Some rs) = sym (ap (λ (xs : slots). slice_get xs 1) two) ∙ e in
          let rows : row 2 ∷ [] ≡ rs = cc in
          let work : x ≡ probe (row 2 ∷ []) = same ∙ ap (λ ys. record { task = probes right_join right_on_a; schemas = a_schema ∷ a_schema ∷ []; tables = rs ∷ ys ∷ [] }) all ∙ ap probe (sym rows) in
          let gives = subst (λ (y : Work). IsResultOf F y.task 0 (whole_tables y.schemas y.tables) y.tables (good (row 3 ∷ []))) work a in
          let equal : row 3 ∷ [] ≡ row 2 ∷ [] = gives.2 in
          smaller 2 3 (omega arith) (sym (ap first_number equal))

  pub never_under_a_left_number : (shape : Shape) (o : Options) → IsSound F shape → Reaches F shape o (last_world journal under_a_left_number) → ⊥
  never_under_a_left_number shape o sound r =
      left_stands_before (joins_hold F shape o (last_world journal under_a_left_number) sound r 2 right_join right_on_a refl refl last_claimed refl).own

  -- THE ROW ONCE MORE BEHIND ITS OWN NUMBER
  one_is_last : HoldsJoin F (last_world journal given_twice) 2 last_claimed right_on_a → ⊥
  one_is_last h = by (h.gives.answers (given_pipe given_twice) 3 (row 3 ∷ []) ((2, omega arith, refl), refl) refl)
    where
      by : (x : Work) × IsJoinWork (last_world journal given_twice) 2 last_claimed right_on_a 3 x × Answers F x (row 3 ∷ []) → ⊥
      by (x, (l, r, is, right, inr (fills, complete, behind, same)), a) =
          let two : l.got ≡ left_morsels = of_left given_twice (λ (y : Pipe). y.got ≡ left_morsels) refl l is.left_enters.0.0 is.left_enters.0.1 is.left_enters.1 in
          smaller 2 3 (omega arith) (sym (behind ∙ ap length two))
      by (x, (l, r, is, right, inl (taken, rs, e, same)), a) =
          let two : l.next ≡ 2 = of_left given_twice (λ (y : Pipe). y.next ≡ 2) refl l is.left_enters.0.0 is.left_enters.0.1 is.left_enters.1 in
          absurd (let less : 3 < 2 = subst (λ z. 3 < z) two taken in omega arith)

  pub never_twice : (shape : Shape) (o : Options) → IsSound F shape → Reaches F shape o (last_world journal given_twice) → ⊥
  never_twice shape o sound r = one_is_last (joins_hold F shape o (last_world journal given_twice) sound r 2 right_join right_on_a refl refl last_claimed refl).own

-- Small worlds in which a slice from the end, a map, a reduce and a group-by keep what their families keep, and worlds that differ in one place, in which they don't.
use Rattle.std.proofs.Common.{◌≡◌, ℕ, Bool, cond, zero, suc, ◌≤◌, ◌⊎◌, ◌++◌, List, [], ◌∷◌, Some, None, true, false, length, refl, sym, ap, subst, ◌∙◌, inl, inr, arith, IsPermutation}
use Rattle.std.specs.Prelude.{Contains, IsFalse, IsTrue, codes, get_or, slice_get}
use Rattle.std.proofs.lemmas.List.Sorted.{Contains-permutation, IsPermutation-refl, length_permutation}
use Rattle.ps_frame.specs.Aggregates.{max_rows}
use Rattle.ps_frame.specs.Causes.{Cause, is_empty}
use Rattle.ps_frame.specs.Functions.{Functions}
use Rattle.ps_frame.specs.Tables.{Row, Table}
use Rattle.ps_frame.specs.Trees.{Tree}
use Rattle.ps_frame.specs.declared.value.Value.{Value}
use Rattle.ps_frame.specs.declared.value.Value.TheVariants as val
use Rattle.ps_meaning.specs.Cases.{Gives, out_schema, rows_table}
use Rattle.ps_meaning.specs.Groups.{Group, rows_before_faulty}
use Rattle.ps_meaning.specs.Shape.{PhysicalCase, Shape, negative_slice}
use Rattle.ps_meaning.specs.Sound.{IsSound}
use Rattle.ps_meaning.specs.Steps.{Step, group_by}
use Rattle.ps_options.specs.declared.options.Options.{Options}
use Rattle.ps_ports.specs.Ports.{is_done}
use Rattle.ps_ports.specs.declared.port_state.PortState.TheVariants as port
use Rattle.ps_turns.specs.Ends.{HoldsEnd}
use Rattle.ps_turns.specs.Results.{IsMade, IsPartial, IsResultOf}
use Rattle.ps_turns.specs.Tables.{whole_tables}
use Rattle.ps_turns.specs.Tasks.{Piece, computes, gives_part, good}
use Rattle.ps_world.specs.Opening.{Reaches}
use Rattle.ps_world.specs.Updates.{FaultFound}
use Rattle.ps_world.specs.World.{Pipe, Record}
use Rattle.world_facts.proofs.Wiring.{each_of}
use Rattle.world_families.proofs.Members.{apart, nothing_is, smaller}
use Rattle.world_families.specs.Examples.{a_schema, came, pipe, row, slots}
use Rattle.world_families.specs.Keepers.{HasKeptAll, HasSplitAll, HoldsGroups, HoldsMade, HoldsReduce, IsMadeOfAll, IsPartWork, Stores}
use Rattle.world_families.specs.Work.{Answers, IsComplete, Work}
use Rattle.world_laws.proofs.InOrder.{contains_cases, none_in_nil}
use Rattle.keeper_laws.proofs.MadeLaw.{makers_hold}
use Rattle.group_run_laws.specs.Worlds.{a_count, a_map, a_split, a_tail, below_zero, both_taken, by_row, count_world, first_list, made_numbers, made_world, no_number, number, split_world, stored_both, tail_world}
use Rattle.group_run_laws.proofs.GroupHolds.{groups_hold}
use Rattle.group_run_laws.proofs.ReduceHolds.{reduces_hold}

-- what is so of the pipe that enters the node, and of the one that leaves it
on_input : (P : Pipe → Type 0) (a b : Pipe) → b.wire.receiver ≡ 2 → P a → (q : Pipe) → Contains (a ∷ b ∷ []) q → q.wire.receiver ≡ 1 → P q
on_input P a b away h q c r = each_of (λ (y : Pipe). y.wire.receiver ≡ 1 → P y) (a ∷ b ∷ []) q ((λ s. h), ((λ s. absurd (smaller 1 2 (omega arith) (sym s ∙ away))), tt)) c r

on_output : (P : Pipe → Type 0) (a b : Pipe) → a.wire.sender ≡ 0 → P b → (p : Pipe) → Contains (a ∷ b ∷ []) p → p.wire.sender ≡ 1 → P p
on_output P a b away h p c r = each_of (λ (y : Pipe). y.wire.sender ≡ 1 → P y) (a ∷ b ∷ []) p ((λ s. absurd (smaller 0 1 (omega arith) (sym away ∙ s))), ((λ s. h), tt)) c r

none_either : (b : Bool) → (let none : List Cause = [] in cond b none none) ≡ []
none_either true = refl
none_either false = refl

numbers_apart : number 2 ∷ [] ≡ number 1 ∷ [] → ⊥
numbers_apart e = smaller 1 2 (omega arith) (sym (ap of_rows e))
  where
    of_value : Value → ℕ
    of_value (val.IdxSize n) = n
    of_value v = 0

    of_rows : List Row → ℕ
    of_rows ((v ∷ vs) ∷ rs) = of_value v
    of_rows rs = 0

module _ (F : Functions) (journal : List Record) where
  -- A SLICE FROM THE END
  abbrev idle : Pipe
  idle = pipe 1 2 0 port.Blocked [] 0

  abbrev read_both : Pipe
  read_both = both_taken port.Ready (row 1) (row 2)

  last_kept : HoldsEnd 1 (row 1 ∷ row 2 ∷ []) 2 ((row 2 ∷ []) ∷ [])
  last_kept = record { gone = row 1 ∷ []; splits = refl; counted = refl; enough = inr (omega arith); short = omega arith }

  pub lets_go : HoldsMade F (tail_world journal ((row 2 ∷ []) ∷ [])) 1 (a_tail ((row 2 ∷ []) ∷ []))
  lets_go =
      record {
        turn = record { takes = λ t p l. on_output (λ y. IsFalse y.is_dropped) read_both idle refl refl p l.0 l.1; took = λ t. absurd (let never : true ≡ false = t in cc) };
        stores = λ q e. on_input (λ y. Stores (negative_slice 1 1) (a_tail ((row 2 ∷ []) ∷ [])).progress y) read_both idle refl last_kept q e.0 e.1;
        made = λ rows e. absurd (let never : None ≡ Some rows = e in cc);
        has_made = λ g. absurd (let never : false ≡ true = g in cc);
        gives =
            record {
              answers = λ p k rs l e. absurd (on_output (λ y. slice_get y.got k ≡ Some (Some rs) → ⊥) read_both idle refl (λ g. nothing_is (Some rs) g) p l.0 l.1 e);
              pieces = λ q c e. absurd (none_in_nil q c);
              completes = λ p l c. absurd (on_output (λ y. IsComplete y → ⊥) read_both idle refl (λ g. let never : false ≡ true = g in cc) p l.0 l.1 c);
            };
      }

  keeps_the_first : HoldsMade F (tail_world journal ((row 1 ∷ []) ∷ [])) 1 (a_tail ((row 1 ∷ []) ∷ [])) → ⊥
  keeps_the_first h =
      let e : HoldsEnd 1 (row 1 ∷ row 2 ∷ []) 2 ((row 1 ∷ []) ∷ []) = h.stores read_both ((0, omega arith, refl), refl) in
      by e.gone e.splits
    where
      by : (gone : List Row) → gone ++ row 1 ∷ [] ≡ row 1 ∷ row 2 ∷ [] → ⊥
      by [] e = smaller 1 2 (omega arith) (ap length e)
      by (x ∷ []) e = apart (row 1 ∷ []) (row 2 ∷ []) refl refl (let same : x ∷ row 1 ∷ [] ≡ row 1 ∷ row 2 ∷ [] = e in cc)
      by (x ∷ y ∷ gone) e = let same : y ∷ (gone ++ row 1 ∷ []) ≡ row 2 ∷ [] = (let all : x ∷ y ∷ (gone ++ row 1 ∷ []) ≡ row 1 ∷ row 2 ∷ [] = e in cc) in let rest : gone ++ row 1 ∷ [] ≡ [] = cc in none gone rest
        where
          none : (g : List Row) → g ++ row 1 ∷ [] ≡ [] → ⊥
          none [] e = cc
          none (x ∷ g) e = cc

  pub never_keeps_the_first : (shape : Shape) (o : Options) → IsSound F shape → Reaches F shape o (tail_world journal ((row 1 ∷ []) ∷ [])) → ⊥
  never_keeps_the_first shape o sound r = keeps_the_first (makers_hold F shape o (tail_world journal ((row 1 ∷ []) ∷ [])) 1 (a_tail ((row 1 ∷ []) ∷ [])).node sound r refl refl (a_tail ((row 1 ∷ []) ∷ [])) refl).own

  -- A MAP
  pub faults_at_the_open : FaultFound F (stored_both journal below_zero) 1 no_number
  faults_at_the_open = (_, refl, inr (refl, inl (_, inl refl, inl (0, omega arith, refl))))

  abbrev all_read : (second : Row) → Pipe
  all_read second = both_taken port.Done (row 1) second

  abbrev open_out : Pipe
  open_out = pipe 1 2 0 port.Ready [] 0

  made_of_both : IsMadeOfAll F (made_world journal (row 2)) 1 (made_numbers (row 2)) (number 1 ∷ number 2 ∷ [])
  made_of_both = ((λ q e. on_input IsComplete (all_read (row 2)) open_out refl refl q e.0 e.1), _, (_, inl refl, refl), refl, refl)

  pub makes_its_table : HoldsMade F (made_world journal (row 2)) 1 (made_numbers (row 2))
  makes_its_table =
      record {
        turn = record { takes = λ t. absurd (let never : false ≡ true = t in cc); took = λ t q e. on_input (λ y. IsTrue (is_done y.wire.receive_state)) (all_read (row 2)) open_out refl refl q e.0 e.1 };
        stores = λ q e. on_input (λ y. Stores a_map.kind (made_numbers (row 2)).progress y) (all_read (row 2)) open_out refl refl q e.0 e.1;
        made = λ rows e. subst (IsMadeOfAll F (made_world journal (row 2)) 1 (made_numbers (row 2))) (let q : Some (number 1 ∷ number 2 ∷ []) ≡ Some rows = e in cc) made_of_both;
        has_made = λ g. refl;
        gives =
            record {
              answers = λ p k rs l e. absurd (on_output (λ y. slice_get y.got k ≡ Some (Some rs) → ⊥) (all_read (row 2)) open_out refl (λ g. nothing_is (Some rs) g) p l.0 l.1 e);
              pieces = λ q c e. absurd (none_in_nil q c);
              completes = λ p l c. absurd (on_output (λ y. IsComplete y → ⊥) (all_read (row 2)) open_out refl (λ g. let never : false ≡ true = g in cc) p l.0 l.1 c);
            };
      }

  broken_by : (T : Table) → PhysicalCase F a_map (rows_table a_schema (row 1 ∷ below_zero ∷ []) ∷ []) T → T.broken ≡ no_number ∷ []
  broken_by T (U, inl e, is) = ap (λ (t : Table). t.broken) is ∙ ap (λ (t : Table). t.broken) e
  broken_by T (U, inr (V, gives, lost, e), is) = absurd (lost refl)

  made_of_no_number : HoldsMade F (made_world journal below_zero) 1 (made_numbers below_zero) → ⊥
  made_of_no_number h =
      let m : IsMadeOfAll F (made_world journal below_zero) 1 (made_numbers below_zero) (number 1 ∷ number 2 ∷ []) = h.made (number 1 ∷ number 2 ∷ []) refl in
      let whole : m.1.broken ≡ [] = m.3 in
      let broken = broken_by m.1 m.2 in
      (let no : no_number ∷ [] ≡ [] = sym broken ∙ whole in cc)

  pub never_makes_it : (shape : Shape) (o : Options) → IsSound F shape → Reaches F shape o (made_world journal below_zero) → ⊥
  never_makes_it shape o sound r = made_of_no_number (makers_hold F shape o (made_world journal below_zero) 1 a_map sound r refl refl (made_numbers below_zero) refl).own

  -- A REDUCE
  abbrev both : slots
  both = came (row 1) ∷ came (row 2) ∷ []

  abbrev came_in : Pipe
  came_in = both_taken port.Done (row 1) (row 2)

  abbrev went_out : slots → Pipe
  went_out given = pipe 1 2 0 port.Ready given 0

  none_open : (k : ℕ) → slice_get both k ≡ Some None → ⊥
  none_open zero e = let never : Some (came (row 1)) ≡ Some None = e in cc
  none_open (suc zero) e = let never : Some (came (row 2)) ≡ Some None = e in cc
  none_open (suc (suc k)) e = nothing_is None e

  counts : (T : Table) → PhysicalCase F a_count.node (rows_table a_schema (row 1 ∷ row 2 ∷ []) ∷ []) T → T.rows ≡ number 2 ∷ []
  counts T (U, inl e, is) = ap (λ (t : Table). t.rows) is ∙ ap (λ (t : Table). t.rows) e
  counts T (U, inr (V, gives, lost, e), is) = absurd (lost refl)

  counted_one : (r : Row) → IsMade F a_count.node (rows_table a_schema (r ∷ []) ∷ []) (number 1 ∷ [])
  counted_one r = (_, (_, inl refl, refl), refl, refl, omega arith)

  counted_both : IsMade F a_count.node (rows_table a_schema (row 1 ∷ row 2 ∷ []) ∷ []) (number 2 ∷ [])
  counted_both = (_, (_, inl refl, refl), refl, refl, omega arith)

  counted_at : (k : ℕ) (rs : List Row) → slice_get both k ≡ Some (Some rs) → (slice_get came_in.got k ≡ Some (Some rs)) × (size : ℕ) × IsPartial F a_count.node a_count.node.kind 0 (rows_table a_schema rs ∷ []) size
  counted_at zero rs e =
      let same : row 1 ∷ [] ≡ rs = (let q : Some (came (row 1)) ≡ Some (Some rs) = e in cc) in
      (e, 1, subst (λ z. IsPartial F a_count.node a_count.node.kind 0 (rows_table a_schema z ∷ []) 1) same (number 1 ∷ [], counted_one (row 1), refl))
  counted_at (suc zero) rs e =
      let same : row 2 ∷ [] ≡ rs = (let q : Some (came (row 2)) ≡ Some (Some rs) = e in cc) in
      (e, 1, subst (λ z. IsPartial F a_count.node a_count.node.kind 0 (rows_table a_schema z ∷ []) 1) same (number 1 ∷ [], counted_one (row 2), refl))
  counted_at (suc (suc k)) rs e = absurd (nothing_is (Some rs) e)

  abbrev row_work : Work
  row_work = record { task = computes a_count.node; schemas = a_schema ∷ []; tables = (row 1 ∷ row 2 ∷ []) ∷ [] }

  all_counted : (given : Row) → HasKeptAll (count_world journal given) 1 a_count
  all_counted given = ((λ q e. on_input IsComplete came_in (went_out (came given ∷ [])) refl refl q e.0 e.1), refl)

  row_at : (k : ℕ) (rs : List Row) → slice_get (went_out (came (number 2) ∷ [])).got k ≡ Some (Some rs) → (x : Work) × ((k ≡ 0) × ((q : Pipe) → Contains (count_world journal (number 2)).pipes q × (q.wire.receiver ≡ 1) → IsComplete q) × (x ≡ row_work)) × Answers F x rs
  row_at zero rs e = let same : number 2 ∷ [] ≡ rs = (let q : Some (came (number 2)) ≡ Some (Some rs) = e in cc) in (row_work, (refl, (all_counted (number 2)).0, refl), subst (Answers F row_work) same counted_both)
  row_at (suc k) rs e = absurd (nothing_is (Some rs) e)

  pub gives_its_row : HoldsReduce F (count_world journal (number 2)) 1 a_count
  gives_its_row =
      record {
        turn = record { takes = λ t. absurd (let never : false ≡ true = t in cc); took = λ t q e. on_input (λ y. IsTrue (is_done y.wire.receive_state)) came_in (went_out (came (number 2) ∷ [])) refl refl q e.0 e.1 };
        keeps_morsels =
            record {
              kept = λ q k rs c i e. on_input (λ y. (slice_get y.got k ≡ Some (Some rs)) × (size : ℕ) × IsPartial F a_count.node a_count.node.kind 0 (rows_table a_schema rs ∷ []) size) came_in (went_out (came (number 2) ∷ [])) refl (counted_at k rs e) q c.0 c.1;
              awaited = λ runs k e. absurd (none_open k e);
            };
        has_all = λ g. all_counted (number 2);
        gives =
            record {
              answers = λ p k rs l e. on_output (λ y. slice_get y.got k ≡ Some (Some rs) → (x : Work) × ((k ≡ 0) × ((q : Pipe) → Contains (count_world journal (number 2)).pipes q × (q.wire.receiver ≡ 1) → IsComplete q) × (x ≡ row_work)) × Answers F x rs) came_in (went_out (came (number 2) ∷ [])) refl (λ g. row_at k rs g) p l.0 l.1 e;
              pieces = λ q c e. absurd (none_in_nil q c);
              completes = λ p l c. absurd (on_output (λ y. IsComplete y → ⊥) came_in (went_out (came (number 2) ∷ [])) refl (λ g. let never : false ≡ true = g in cc) p l.0 l.1 c);
            };
      }

  gives_another_row : HoldsReduce F (count_world journal (number 1)) 1 a_count → ⊥
  gives_another_row h =
      let a = h.gives.answers (went_out (came (number 1) ∷ [])) 0 (number 1 ∷ []) ((1, omega arith, refl), refl) refl in
      let made : IsMade F a_count.node (rows_table a_schema (row 1 ∷ row 2 ∷ []) ∷ []) (number 1 ∷ []) = subst (λ (x : Work). IsResultOf F x.task 0 (whole_tables x.schemas x.tables) x.tables (good (number 1 ∷ []))) a.1.2 a.2 in
      numbers_apart (sym (counts made.0 made.1) ∙ made.3)

  pub never_gives_another : (shape : Shape) (o : Options) → IsSound F shape → Reaches F shape o (count_world journal (number 1)) → ⊥
  never_gives_another shape o sound r = gives_another_row (reduces_hold F shape o (count_world journal (number 1)) 1 a_count.node sound r refl refl a_count refl).own

  -- A GROUP-BY
  abbrev by_keys : Step
  by_keys = group_by (record { keys = (codes "a", Tree.column (codes "a")) ∷ []; aggregates = []; maintain_order = false; cut = None })

  abbrev lone : ℕ → Group
  lone k = record { cells = row k; causes = [] }

  given_by : (rows given : List Row) (gs : List Group) → Gives F 1 by_keys (rows_table a_schema rows ∷ []) (rows_table (out_schema F 1 by_keys (rows_table a_schema rows ∷ [])) given)
      → length given ≤ max_rows → IsMade F by_row (rows_table a_schema rows ∷ []) given
  given_by rows given gs g few = (_, (_, inl g, refl), refl, refl, few)

  one_group : (k : ℕ) → k ≡ 1 ⊎ k ≡ 2 → IsMade F by_row (rows_table a_schema (row k ∷ []) ∷ []) (row k ∷ [])
  one_group k (inl e) = subst (λ z. IsMade F by_row (rows_table a_schema (row z ∷ []) ∷ []) (row z ∷ [])) (sym e) (given_by (row 1 ∷ []) (row 1 ∷ []) (lone 1 ∷ []) (lone 1 ∷ [], IsPermutation-refl (lone 1 ∷ []), refl) (omega arith))
  one_group k (inr e) = subst (λ z. IsMade F by_row (rows_table a_schema (row z ∷ []) ∷ []) (row z ∷ [])) (sym e) (given_by (row 2 ∷ []) (row 2 ∷ []) (lone 2 ∷ []) (lone 2 ∷ [], IsPermutation-refl (lone 2 ∷ []), refl) (omega arith))

  kept_at : (k : ℕ) (rs : List Row) → slice_get both k ≡ Some (Some rs) → (slice_get came_in.got k ≡ Some (Some rs)) × (size : ℕ) × IsPartial F by_row by_row.kind 0 (rows_table a_schema rs ∷ []) size
  kept_at zero rs e =
      let same : row 1 ∷ [] ≡ rs = (let q : Some (came (row 1)) ≡ Some (Some rs) = e in cc) in
      (e, 1, subst (λ z. IsPartial F by_row by_row.kind 0 (rows_table a_schema z ∷ []) 1) same (row 1 ∷ [], one_group 1 (inl refl), refl))
  kept_at (suc zero) rs e =
      let same : row 2 ∷ [] ≡ rs = (let q : Some (came (row 2)) ≡ Some (Some rs) = e in cc) in
      (e, 1, subst (λ z. IsPartial F by_row by_row.kind 0 (rows_table a_schema z ∷ []) 1) same (row 2 ∷ [], one_group 2 (inr refl), refl))
  kept_at (suc (suc k)) rs e = absurd (nothing_is (Some rs) e)

  all_split : HasSplitAll (split_world journal (row 2)) 1 a_split
  all_split =
      let complete : (q : Pipe) → Contains (split_world journal (row 2)).pipes q × (q.wire.receiver ≡ 1) → IsComplete q = λ q e. on_input IsComplete came_in (went_out (None ∷ came (row 2) ∷ [])) refl refl q e.0 e.1 in
      ((complete, refl), (complete, record { number = refl; each_once = IsPermutation-refl (row 1 ∷ row 2 ∷ []) }))

  abbrev part : ℕ → Work
  part k = record { task = gives_part by_row (get_or ((row 1 ∷ []) ∷ (row 2 ∷ []) ∷ []) k []); schemas = a_schema ∷ []; tables = (row 1 ∷ row 2 ∷ []) ∷ [] }

  part_at : (k : ℕ) (rs : List Row) → slice_get (went_out (None ∷ came (row 2) ∷ [])).got k ≡ Some (Some rs) → (x : Work) × IsPartWork (split_world journal (row 2)) 1 a_split k x × Answers F x rs
  part_at zero rs e = absurd (let never : Some None ≡ Some (Some rs) = e in cc)
  part_at (suc zero) rs e = let same : row 2 ∷ [] ≡ rs = (let q : Some (came (row 2)) ≡ Some (Some rs) = e in cc) in (part 1, (all_split, omega arith, refl), subst (Answers F (part 1)) same (one_group 2 (inr refl)))
  part_at (suc (suc k)) rs e = absurd (nothing_is (Some rs) e)

  pub second_list_first : HoldsGroups F (split_world journal (row 2)) 1 a_split
  second_list_first =
      record {
        turn = record { takes = λ t. absurd (let never : false ≡ true = t in cc); took = λ t q e. on_input (λ y. IsTrue (is_done y.wire.receive_state)) came_in (went_out (None ∷ came (row 2) ∷ [])) refl refl q e.0 e.1 };
        keeps_morsels =
            record {
              kept = λ q k rs c i e. on_input (λ y. (slice_get y.got k ≡ Some (Some rs)) × (size : ℕ) × IsPartial F by_row by_row.kind 0 (rows_table a_schema rs ∷ []) size) came_in (went_out (None ∷ came (row 2) ∷ [])) refl (kept_at k rs e) q c.0 c.1;
              awaited = λ runs k e. absurd (none_open k e);
            };
        has_all = λ g. all_split;
        gives =
            record {
              answers = λ p k rs l e. on_output (λ y. slice_get y.got k ≡ Some (Some rs) → (x : Work) × IsPartWork (split_world journal (row 2)) 1 a_split k x × Answers F x rs) came_in (went_out (None ∷ came (row 2) ∷ [])) refl (λ g. part_at k rs g) p l.0 l.1 e;
              pieces = λ q c e. inl (is_first q (contains_cases first_list q [] c));
              completes = λ p l c. absurd (on_output (λ y. IsComplete y → ⊥) came_in (went_out (None ∷ came (row 2) ∷ [])) refl (λ g. let never : false ≡ true = g in cc) p l.0 l.1 c);
            };
      }
    where
      is_first : (q : Piece) → (first_list ≡ q) ⊎ Contains [] q → IsPartWork (split_world journal (row 2)) 1 a_split q.gives (record { task = q.task; schemas = q.schemas; tables = q.tables })
      is_first q (inl same) = subst (λ (z : Piece). IsPartWork (split_world journal (row 2)) 1 a_split z.gives (record { task = z.task; schemas = z.schemas; tables = z.tables })) same (all_split, omega arith, refl)
      is_first q (inr none) = absurd (none_in_nil q none)

  -- the rows of the second list are its one key
  second_rows : (T : Table) → PhysicalCase F by_row (rows_table a_schema (row 2 ∷ []) ∷ []) T → T.rows ≡ row 2 ∷ []
  second_rows T (U, inr (V, gives, lost, e), is) = absurd (lost (none_either (is_empty V.rows)))
  second_rows T (U, inl (gs, perm, e), is) = by gs perm (ap (λ (t : Table). t.rows) is ∙ ap (λ (t : Table). t.rows) e)
    where
      by : (gs : List Group) → IsPermutation (lone 2 ∷ []) gs → T.rows ≡ rows_before_faulty gs → T.rows ≡ row 2 ∷ []
      by [] perm e = absurd (smaller 0 1 (omega arith) (length_permutation (lone 2 ∷ []) [] perm))
      by (g ∷ h ∷ gs) perm e = let many = length_permutation (lone 2 ∷ []) (g ∷ h ∷ gs) perm in absurd (omega (arith, many))
      by (g ∷ []) perm e = e ∙ ap rows_before_faulty (ap (λ z. z ∷ []) (sym (the_one (contains_cases g (lone 2) [] (Contains-permutation (lone 2 ∷ []) (g ∷ []) (lone 2) perm (0, omega arith, refl))))))
        where
          the_one : (g ≡ lone 2) ⊎ Contains [] (lone 2) → lone 2 ≡ g
          the_one (inl same) = sym same
          the_one (inr none) = absurd (none_in_nil (lone 2) none)

  another_list : HoldsGroups F (split_world journal (row 1)) 1 a_split → ⊥
  another_list h =
      let a = h.gives.answers (went_out (None ∷ came (row 1) ∷ [])) 1 (row 1 ∷ []) ((1, omega arith, refl), refl) refl in
      let made : IsMade F by_row (rows_table a_schema (row 2 ∷ []) ∷ []) (row 1 ∷ []) = subst (λ (x : Work). IsResultOf F x.task 0 (whole_tables x.schemas x.tables) x.tables (good (row 1 ∷ []))) a.1.2 a.2 in
      apart (row 1 ∷ []) (row 2 ∷ []) refl refl (sym made.3 ∙ second_rows made.0 made.1)

  pub never_another_list : (shape : Shape) (o : Options) → IsSound F shape → Reaches F shape o (split_world journal (row 1)) → ⊥
  never_another_list shape o sound r = another_list (groups_hold F shape o (split_world journal (row 1)) 1 by_row sound r refl refl a_split refl).own

-- A group-by that gave the rows of two lists.
use Rattle.std.proofs.Common.{◌≡◌, ℕ, zero, suc, ◌≤◌, ◌<◌, List, [], ◌∷◌, Some, None, true, false, length, refl, ap, subst, inl, arith}
use Rattle.std.specs.Prelude.{Contains, IsTrue, codes, get_or, slice_get}
use Rattle.std.proofs.lemmas.List.Sorted.{IsPermutation-refl}
use Rattle.ps_frame.specs.Functions.{Functions}
use Rattle.ps_frame.specs.Aggregates.{max_rows}
use Rattle.ps_frame.specs.Tables.{Row, Table}
use Rattle.ps_frame.specs.Trees.{Tree}
use Rattle.ps_meaning.specs.Cases.{Gives, out_schema, rows_table}
use Rattle.ps_meaning.specs.Groups.{Group}
use Rattle.ps_meaning.specs.Steps.{Step, group_by}
use Rattle.ps_ports.specs.Ports.{is_done}
use Rattle.ps_ports.specs.declared.port_state.PortState.TheVariants as port
use Rattle.ps_turns.specs.Results.{IsMade, IsPartial}
use Rattle.ps_turns.specs.Tasks.{Piece, gives_part}
use Rattle.ps_world.specs.World.{Pipe}
use Rattle.world_facts.proofs.Wiring.{each_of}
use Rattle.world_families.proofs.KeeperExamples.{one_list_each}
use Rattle.world_families.proofs.Members.{nothing_is, smaller}
use Rattle.world_families.specs.Examples.{a_group_by, a_schema, both_lists, by_a, came, group_world, grouped_rows, pipe, row, slots}
use Rattle.world_families.specs.Keepers.{HasSplitAll, HoldsGroups, IsPartWork}
use Rattle.world_families.specs.Work.{Answers, IsComplete, Work}

abbrev whole : slots
whole = Some grouped_rows ∷ []

abbrev in_pipe : Pipe
in_pipe = pipe 0 1 0 port.Done whole 1

abbrev out_pipe : Pipe
out_pipe = pipe 1 2 0 port.Done (came (row 1) ∷ came (row 2) ∷ []) 0

-- what holds of the input
of_input : (P : Pipe → Type 0) → P in_pipe → (q : Pipe) → Contains (in_pipe ∷ out_pipe ∷ []) q → q.wire.receiver ≡ 1 → P q
of_input P a q c r = each_of (λ y. y.wire.receiver ≡ 1 → P y) (in_pipe ∷ out_pipe ∷ []) q ((λ s. a), ((λ s. let never : 2 ≡ 1 = s in absurd (omega arith)), tt)) c r

none_open : (k : ℕ) → slice_get whole k ≡ Some None → ⊥
none_open zero e = let never : Some (Some grouped_rows) ≡ Some None = e in cc
none_open (suc k) e = nothing_is None e

all_split : HasSplitAll (group_world whole) 1 (a_group_by whole)
all_split = (((λ q c. of_input IsComplete refl q c.0 c.1), refl), ((λ q c. of_input IsComplete refl q c.0 c.1), one_list_each))

abbrev part : ℕ → Work
part k = record { task = gives_part by_a (get_or both_lists k []); schemas = a_schema ∷ []; tables = grouped_rows ∷ [] }

abbrev by_keys : Step
by_keys = group_by (record { keys = (codes "a", Tree.column (codes "a")) ∷ []; aggregates = []; maintain_order = false; cut = None })

-- a group of one key, without aggregates
abbrev lone : ℕ → Group
lone k = record { cells = row k; causes = [] }

module _ (F : Functions) where
  abbrev given_table : List Row → List Row → Table
  given_table rows given = rows_table (out_schema F 0 by_keys (rows_table a_schema rows ∷ [])) given

  given_by : (rows given : List Row) → Gives F 0 by_keys (rows_table a_schema rows ∷ []) (given_table rows given) → length given ≤ max_rows → IsMade F by_a (rows_table a_schema rows ∷ []) given
  given_by rows given g few = (given_table rows given, (given_table rows given, inl g, refl), refl, refl, few)

  both_groups : IsMade F by_a (rows_table a_schema grouped_rows ∷ []) (row 1 ∷ row 2 ∷ [])
  both_groups = given_by grouped_rows (row 1 ∷ row 2 ∷ []) (lone 1 ∷ lone 2 ∷ [], IsPermutation-refl (lone 1 ∷ lone 2 ∷ []), refl) (omega arith)

  first_group : IsMade F by_a (rows_table a_schema (row 1 ∷ row 1 ∷ []) ∷ []) (row 1 ∷ [])
  first_group = given_by (row 1 ∷ row 1 ∷ []) (row 1 ∷ []) (lone 1 ∷ [], IsPermutation-refl (lone 1 ∷ []), refl) (omega arith)

  second_group : IsMade F by_a (rows_table a_schema (row 2 ∷ []) ∷ []) (row 2 ∷ [])
  second_group = given_by (row 2 ∷ []) (row 2 ∷ []) (lone 2 ∷ [], IsPermutation-refl (lone 2 ∷ []), refl) (omega arith)

  kept_at : (k : ℕ) (rs : List Row) → slice_get whole k ≡ Some (Some rs) → (slice_get in_pipe.got k ≡ Some (Some rs)) × (size : ℕ) × IsPartial F by_a by_a.kind 0 (rows_table a_schema rs ∷ []) size
  kept_at zero rs e =
      let same : grouped_rows ≡ rs = let q : Some (Some grouped_rows) ≡ Some (Some rs) = e in cc in
      (e, 2, subst (λ z. IsPartial F by_a by_a.kind 0 (rows_table a_schema z ∷ []) 2) same (row 1 ∷ row 2 ∷ [], both_groups, refl))
  kept_at (suc k) rs e = absurd (nothing_is (Some rs) e)

  given_at : (k : ℕ) (rs : List Row) → slice_get out_pipe.got k ≡ Some (Some rs) → (x : Work) × IsPartWork (group_world whole) 1 (a_group_by whole) k x × Answers F x rs
  given_at zero rs e = let same : row 1 ∷ [] ≡ rs = let q : Some (came (row 1)) ≡ Some (Some rs) = e in cc in (part 0, (all_split, omega arith, refl), subst (Answers F (part 0)) same first_group)
  given_at (suc zero) rs e = let same : row 2 ∷ [] ≡ rs = let q : Some (came (row 2)) ≡ Some (Some rs) = e in cc in (part 1, (all_split, omega arith, refl), subst (Answers F (part 1)) same second_group)
  given_at (suc (suc k)) rs e = absurd (nothing_is (Some rs) e)

  pub all_kept : HoldsGroups F (group_world whole) 1 (a_group_by whole)
  all_kept =
      record {
        turn =
            record {
              takes = λ t. absurd (let never : false ≡ true = t in cc);
              took = λ t q c. of_input (λ (y : Pipe). IsTrue (is_done y.wire.receive_state)) refl q c.0 c.1;
            };
        keeps_morsels =
            record {
              kept = λ q k rs c i e. of_input (λ (y : Pipe). (slice_get y.got k ≡ Some (Some rs)) × (size : ℕ) × IsPartial F by_a by_a.kind 0 (rows_table a_schema rs ∷ []) size) (kept_at k rs e) q c.0 c.1;
              awaited = λ runs k e. absurd (none_open k e);
            };
        has_all = λ g. absurd (let never : false ≡ true = g in cc);
        gives =
            record {
              answers = λ p k rs l e.
                  each_of (λ (y : Pipe). y.wire.sender ≡ 1 → slice_get y.got k ≡ Some (Some rs) → (x : Work) × IsPartWork (group_world whole) 1 (a_group_by whole) k x × Answers F x rs) (in_pipe ∷ out_pipe ∷ []) p
                  ((λ s g. let never : 0 ≡ 1 = s in absurd (omega arith)), ((λ s g. given_at k rs g), tt)) l.0 l.1 e;
              pieces = λ q c e. absurd (each_of (λ (y : Piece). ⊥) [] q tt c);
              completes = λ p l c. (all_split, omega arith);
            };
      }

  pub not_forgotten : HoldsGroups F (group_world []) 1 (a_group_by []) → ⊥
  not_forgotten h =
      let a = h.gives.answers out_pipe 0 (row 1 ∷ []) ((1, omega arith, refl), refl) refl in
      let kept : [] ∷ [] ≡ grouped_rows ∷ [] = a.1.0.0.1 in
      smaller 0 3 (omega arith) (ap (λ rs. length (get_or rs 0 [])) kept)

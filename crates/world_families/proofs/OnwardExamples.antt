-- A row index that took two morsels, and a multiplexer with two ports.
use Rattle.std.proofs.Common.{◌≡◌, ℕ, ◌+◌, List, [], ◌∷◌, Some, None, true, false, length, take, refl, sym, ap, arith}
use Rattle.std.specs.Prelude.{Contains, IsFalse, ◌||◌}
use Rattle.ps_frame.specs.Functions.{Functions}
use Rattle.ps_meaning.specs.Shape.{PhysicalKind, with_row_index}
use Rattle.ps_ports.specs.Ports.{is_done}
use Rattle.ps_ports.specs.declared.port_state.PortState.TheVariants as port
use Rattle.ps_turns.specs.Tasks.{Piece, Task, computes}
use Rattle.ps_world.specs.Booking.{HasBooked, HoldsAfter}
use Rattle.ps_world.specs.Keeping.{IsFrontOf}
use Rattle.ps_world.specs.Laws.{sent_by}
use Rattle.ps_world.specs.World.{Pipe, World, rows_in_order}
use Rattle.world_facts.proofs.Wiring.{each_of}
use Rattle.world_families.proofs.Members.{first_number, smaller}
use Rattle.world_families.specs.Examples.{a_port, a_schema, an_index, came, index_world, indexing, pipe, ports_world, row, slots}
use Rattle.world_families.specs.Onward.{HoldsPassing, HoldsPorts, IsMorselWork}
use Rattle.world_families.specs.Work.{PipesHold, Work, rows_read}

-- A ROW INDEX
abbrev both : List Piece
both = indexing 1 2 (row 3 ∷ []) ∷ indexing 0 0 (row 1 ∷ row 2 ∷ []) ∷ []

abbrev into : Pipe
into = pipe 0 1 0 port.Ready (Some (row 1 ∷ row 2 ∷ []) ∷ came (row 3) ∷ []) 2

abbrev onward : Pipe
onward = pipe 1 2 0 port.Ready (None ∷ None ∷ []) 0

-- what holds of the input, and of the output
of_input : (P : Pipe → Type 0) → P into → (q : Pipe) → Contains (into ∷ onward ∷ []) q → q.wire.receiver ≡ 1 → P q
of_input P a q c r = each_of (λ y. y.wire.receiver ≡ 1 → P y) (into ∷ onward ∷ []) q ((λ s. a), ((λ s. let never : 2 ≡ 1 = s in absurd (omega arith)), tt)) c r

of_output : (P : Pipe → Type 0) → P onward → (p : Pipe) → Contains (into ∷ onward ∷ []) p → p.wire.sender ≡ 1 → P p
of_output P a p c r = each_of (λ y. y.wire.sender ≡ 1 → P y) (into ∷ onward ∷ []) p ((λ s. let never : 0 ≡ 1 = s in absurd (omega arith)), ((λ s. a), tt)) c r

-- where a piece begins to count
abbrev offset_in : PhysicalKind → ℕ
offset_in (with_row_index name (Some k)) = k
offset_in _ = 0

abbrev counts_from : Task → ℕ
counts_from (computes p) = offset_in p.kind
counts_from _ = 0

module _ (F : Functions) where
  none_answered : HoldsAfter F (an_index 3).node a_schema into onward
  none_answered = record { answers = tt; completes = λ c. absurd (let never : false ≡ true = c in cc) }

  abbrev out_world : World
  out_world = index_world 3 both

  pub goes_on : HoldsPassing F out_world 1 (an_index 3)
  goes_on =
      record {
        answers = λ q p c l. of_input (λ y. HoldsAfter F (an_index 3).node a_schema y p) (of_output (λ z. HoldsAfter F (an_index 3).node a_schema into z) none_answered p l.0 l.1) q c.0 c.1;
        booked = λ q c. of_input (λ y. HasBooked (an_index 3).node.kind (an_index 3).progress (length (rows_read y))) refl q c.0 c.1;
        pieces = λ x c e.
            each_of (IsMorselWork out_world 1 (an_index 3)) both x
            ((into, row 3 ∷ [], ((0, omega arith, refl), refl), refl, refl), ((into, row 1 ∷ row 2 ∷ [], ((0, omega arith, refl), refl), refl, refl), tt)) c;
      }

  pub not_anew : HoldsPassing F (index_world 3 (indexing 1 0 (row 3 ∷ []) ∷ [])) 1 (an_index 3) → ⊥
  not_anew h =
      let a = h.pieces (indexing 1 0 (row 3 ∷ [])) (0, omega arith, refl) refl in
      let two : length (rows_in_order (take 1 a.0.got)) ≡ 2 = of_input (λ (y : Pipe). length (rows_in_order (take 1 y.got)) ≡ 2) refl a.0 a.2.0 a.2.1 in
      let same : 0 ≡ 0 + length (rows_in_order (take 1 a.0.got)) = ap (λ (x : Work). counts_from x.task) a.4 in
      absurd (omega (arith, two, same))

  pub not_short : HoldsPassing F (index_world 2 []) 1 (an_index 2) → ⊥
  not_short h = smaller 2 3 (omega arith) (h.booked into ((0, omega arith, refl), refl))

-- A MULTIPLEXER
abbrev given : Pipe
given = pipe 0 1 0 port.Ready (came (row 1) ∷ came (row 2) ∷ came (row 3) ∷ []) 2

abbrev ports : (first second : slots) → List Pipe
ports first second = given ∷ a_port 0 2 port.Blocked first ∷ a_port 1 3 port.Done second ∷ []

of_given : (first second : slots) (P : Pipe → Type 0) → P given → (q : Pipe) → Contains (ports first second) q → q.wire.receiver ≡ 1 → P q
of_given first second P a q c r =
    each_of (λ y. y.wire.receiver ≡ 1 → P y) (ports first second) q
    ((λ s. a), ((λ s. let never : 2 ≡ 1 = s in absurd (omega arith)), ((λ s. let never : 3 ≡ 1 = s in absurd (omega arith)), tt))) c r

of_ports : (first second : slots) (P : Pipe → Type 0) → P (a_port 0 2 port.Blocked first) → P (a_port 1 3 port.Done second) → (p : Pipe) → Contains (ports first second) p → p.wire.sender ≡ 1 → P p
of_ports first second P a b p c r =
    each_of (λ y. y.wire.sender ≡ 1 → P y) (ports first second) p ((λ s. let never : 0 ≡ 1 = s in absurd (omega arith)), ((λ s. a), ((λ s. b), tt))) c r

abbrev pulled : slots
pulled = came (row 1) ∷ came (row 2) ∷ []

abbrev earlier : slots
earlier = came (row 1) ∷ []

first_front : IsFrontOf (sent_by (a_port 0 2 port.Blocked pulled)) (sent_by given)
first_front = record { rest = row 3 ∷ []; begins = refl; all = λ c. absurd (let never : false ≡ true = c in cc) }

second_front : IsFrontOf (sent_by (a_port 1 3 port.Done earlier)) (sent_by given)
second_front = record { rest = row 2 ∷ row 3 ∷ []; begins = refl; all = λ c. absurd (let never : false ≡ true = c in cc) }

pub a_front : HoldsPorts (ports_world pulled earlier) 1
a_front =
    record {
      fronts = λ p q l c. of_given pulled earlier (λ y. IsFrontOf (sent_by p) (sent_by y)) (of_ports pulled earlier (λ z. IsFrontOf (sent_by z) (sent_by given)) first_front second_front p l.0 l.1) q c.0 c.1;
      open_ports = λ p q l c open_end.
          of_given pulled earlier (λ (y : Pipe). p.got ≡ take y.next y.got)
          (of_ports pulled earlier (λ (z : Pipe). IsFalse (is_done z.wire.receive_state || z.is_dropped) → z.got ≡ take 2 given.got) (λ o. refl) (λ o. absurd (let never : true ≡ false = o in cc)) p l.0 l.1 open_end) q c.0 c.1;
    }

pub not_less_while_open : HoldsPorts (ports_world earlier earlier) 1 → ⊥
not_less_while_open h =
    let same : earlier ≡ pulled = h.open_ports (a_port 0 2 port.Blocked earlier) given ((1, omega arith, refl), refl) ((0, omega arith, refl), refl) refl in
    smaller 1 2 (omega arith) (ap length same)

pub not_the_others : HoldsPorts (ports_world pulled (came (row 2) ∷ [])) 1 → ⊥
not_the_others h =
    let f = h.fronts (a_port 1 3 port.Done (came (row 2) ∷ [])) given ((2, omega arith, refl), refl) ((0, omega arith, refl), refl) in
    let same : row 2 ∷ f.rest ≡ row 1 ∷ row 2 ∷ row 3 ∷ [] = f.begins in
    smaller 1 2 (omega arith) (sym (ap first_number same))

pub unread : PipesHold (ports_world pulled earlier) 1 → ⊥
unread h = let never : false ≡ true = h.unread (a_port 1 3 port.Done earlier) ((2, omega arith, refl), refl) refl in cc

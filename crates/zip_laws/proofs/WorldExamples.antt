-- Worlds of a zip and of a multiplexer that differ in one place from those to which a run may lead.
use Rattle.std.proofs.Common.{◌≡◌, ℕ, ◌-◌, ◌⊎◌, List, [], ◌∷◌, Some, true, false, length, take, drop, refl, sym, ap, subst, ◌∙◌, inl, inr, arith}
use Rattle.std.specs.Prelude.{Contains, IsFalse, get_or, pos, ◌||◌}
use Rattle.ps_frame.specs.Functions.{Functions}
use Rattle.ps_frame.specs.Tables.{Row, Table}
use Rattle.ps_frame.specs.declared.value.Value.{Value}
use Rattle.ps_frame.specs.declared.value.Value.TheVariants as val
use Rattle.ps_meaning.specs.Shape.{PhysicalCase, Shape}
use Rattle.ps_meaning.specs.Sound.{IsSound}
use Rattle.ps_options.specs.declared.options.Options.{Options}
use Rattle.ps_ports.specs.Ports.{is_done}
use Rattle.ps_ports.specs.declared.port_state.PortState.TheVariants as port
use Rattle.ps_turns.specs.Results.{IsMade, IsResultOf}
use Rattle.ps_turns.specs.Tables.{whole_tables}
use Rattle.ps_turns.specs.Tasks.{computes, good}
use Rattle.ps_world.specs.Keeping.{IsFrontOf}
use Rattle.ps_world.specs.Laws.{sent_by}
use Rattle.ps_world.specs.Opening.{Reaches, no_progress}
use Rattle.ps_world.specs.World.{Pipe, Record}
use Rattle.world_facts.proofs.Wiring.{each_of}
use Rattle.world_families.proofs.Members.{smaller}
use Rattle.world_families.specs.Examples.{a_schema, came, pipe, row, slots}
use Rattle.world_families.specs.Onward.{HoldsPorts}
use Rattle.world_families.specs.Work.{Work}
use Rattle.world_families.specs.Zips.{HoldsZip}
use Rattle.zip_laws.specs.Worlds.{a_cut, a_multiplexer, at_work, b_schema, both_booked, cut_world, done_port, given_world, one_row, open_port, ports_world, side_by_side, two_rows, zipped_rows}
use Rattle.zip_laws.proofs.MuxLaw.{multiplexers_hold}
use Rattle.zip_laws.proofs.ZipLaw.{zips_hold}

-- THE ZIP
-- whether there is a value beside the second row
abbrev value_in : Value → ℕ
value_in val.Null = 0
value_in v = 1

abbrev last_in : Row → ℕ
last_in (a ∷ b ∷ row) = value_in b
last_in row = 0

abbrev beside_second : List Row → ℕ
beside_second (r ∷ s ∷ rows) = last_in s
beside_second rows = 0

module _ (F : Functions) (journal : List Record) where
  the_work : {A : Type 0} → A ⊎ ⊥ → A
  the_work (inl a) = a
  the_work (inr never) = absurd never

  cuts_one : HoldsZip F (cut_world journal (row 1 ∷ [])) 2 both_booked false → ⊥
  cuts_one h =
      let work = the_work (h.gives.pieces (a_cut (row 1 ∷ [])) (0, omega arith, refl) refl) in
      let some : row 1 ∷ [] ≡ take (h.before 1 - h.before 0) (drop (h.before 0) two_rows) = ap (λ (x : Work). get_or x.tables 0 []) work.1 in
      let from : row 1 ∷ [] ≡ take (h.before 1 - 0) (drop 0 two_rows) = subst (λ z. row 1 ∷ [] ≡ take (h.before 1 - z) (drop z two_rows)) h.from_none some in
      let both : row 1 ∷ [] ≡ two_rows = subst (λ z. row 1 ∷ [] ≡ take (z - 0) (drop 0 two_rows)) h.up_to_booked from in
      smaller 1 2 (omega arith) (ap length both)

  pub never_the_first_alone : (shape : Shape) (o : Options) → IsSound F shape → Reaches F shape o (cut_world journal (row 1 ∷ [])) → ⊥
  never_the_first_alone shape o sound r = cuts_one (zips_hold F shape o (cut_world journal (row 1 ∷ [])) 2 side_by_side false sound r refl refl both_booked refl).own

  zipped : (T : Table) → PhysicalCase F side_by_side (whole_tables (a_schema ∷ b_schema ∷ []) (two_rows ∷ one_row ∷ [])) T → T.rows ≡ zipped_rows (val.Int64 (pos 7))
  zipped T (U, inl e, is) = ap (λ (t : Table). t.rows) is ∙ ap (λ (t : Table). t.rows) e
  zipped T (U, inr (lost, e), is) = absurd (lost refl)

  abbrev cut_from : (start end : ℕ) → Work
  cut_from a b = record { task = computes side_by_side; schemas = a_schema ∷ b_schema ∷ []; tables = take (b - a) (drop a two_rows) ∷ one_row ∷ [] }

  gives_once : HoldsZip F (given_world journal val.Null) 2 both_booked false → ⊥
  gives_once h =
      let a = h.gives.answers (pipe 2 3 0 port.Ready (Some (zipped_rows val.Null) ∷ []) 0) 0 (zipped_rows val.Null) ((2, omega arith, refl), refl) refl in
      let same : a.0 ≡ cut_from 0 2 = a.1.1 ∙ ap (λ k. cut_from k (h.before 1)) h.from_none ∙ ap (cut_from 0) h.up_to_booked in
      let made : IsMade F side_by_side (whole_tables (a_schema ∷ b_schema ∷ []) (two_rows ∷ one_row ∷ [])) (zipped_rows val.Null) =
      subst (λ (x : Work). IsResultOf F x.task 0 (whole_tables x.schemas x.tables) x.tables (good (zipped_rows val.Null))) same a.2 in
      smaller 0 1 (omega arith) (ap beside_second (sym made.3 ∙ zipped made.0 made.1))

  pub never_once : (shape : Shape) (o : Options) → IsSound F shape → Reaches F shape o (given_world journal val.Null) → ⊥
  never_once shape o sound r = gives_once (zips_hold F shape o (given_world journal val.Null) 2 side_by_side false sound r refl refl both_booked refl).own

-- THE MULTIPLEXER
abbrev into : Pipe
into = pipe 0 1 0 port.Done (came (row 1) ∷ came (row 2) ∷ []) 2

abbrev the_first : slots
the_first = came (row 1) ∷ []

abbrev both : slots
both = came (row 1) ∷ came (row 2) ∷ []

module _ (journal : List Record) where
  -- what is so of its input, and of its ports
  of_input : (second : slots) (P : Pipe → Type 0) → P into → (q : Pipe) → Contains (ports_world journal the_first second).pipes q → q.wire.receiver ≡ 1 → P q
  of_input second P a q c r =
      each_of (λ (y : Pipe). y.wire.receiver ≡ 1 → P y) (ports_world journal the_first second).pipes q
      ((λ s. a), ((λ s. absurd (smaller 1 2 (omega arith) (sym s))), ((λ s. absurd (smaller 1 3 (omega arith) (sym s))), ((λ s. absurd (smaller 1 3 (omega arith) (sym s))), ((λ s. absurd (smaller 1 4 (omega arith) (sym s))), tt))))) c r

  of_ports : (second : slots) (P : Pipe → Type 0) → P (done_port the_first) → P (open_port second) → (p : Pipe) → Contains (ports_world journal the_first second).pipes p → p.wire.sender ≡ 1 → P p
  of_ports second P a b p c r =
      each_of (λ (y : Pipe). y.wire.sender ≡ 1 → P y) (ports_world journal the_first second).pipes p
      ((λ s. absurd (smaller 0 1 (omega arith) s)), ((λ s. a), ((λ s. absurd (smaller 1 2 (omega arith) (sym s))), ((λ s. b), ((λ s. absurd (smaller 1 3 (omega arith) (sym s))), tt))))) c r

  first_front : IsFrontOf (sent_by (done_port the_first)) (sent_by into)
  first_front = record { rest = row 2 ∷ []; begins = refl; all = λ c. absurd (let never : false ≡ true = c in cc) }

  second_front : IsFrontOf (sent_by (open_port both)) (sent_by into)
  second_front = record { rest = []; begins = refl; all = λ c. absurd (let never : false ≡ true = c in cc) }

  pub gets_both : HoldsPorts (ports_world journal the_first both) 1
  gets_both =
      record {
        fronts = λ p q l c. of_input both (λ y. IsFrontOf (sent_by p) (sent_by y)) (of_ports both (λ z. IsFrontOf (sent_by z) (sent_by into)) first_front second_front p l.0 l.1) q c.0 c.1;
        open_ports = λ p q l c open_end.
            of_input both (λ (y : Pipe). p.got ≡ take y.next y.got)
            (of_ports both (λ (z : Pipe). IsFalse (is_done z.wire.receive_state || z.is_dropped) → z.got ≡ take 2 into.got) (λ o. absurd (let never : true ≡ false = o in cc)) (λ o. refl) p l.0 l.1 open_end) q c.0 c.1;
      }

  misses_one : HoldsPorts (ports_world journal the_first the_first) 1 → ⊥
  misses_one h =
      let same : the_first ≡ both = h.open_ports (open_port the_first) into ((3, omega arith, refl), refl) ((0, omega arith, refl), refl) refl in
      smaller 1 2 (omega arith) (ap length same)

  pub never_misses_one : (F : Functions) (shape : Shape) (o : Options) → IsSound F shape → Reaches F shape o (ports_world journal the_first the_first) → ⊥
  never_misses_one F shape o sound r =
      misses_one (multiplexers_hold F shape o (ports_world journal the_first the_first) 1 a_multiplexer sound r refl refl (at_work a_multiplexer (no_progress 1)) refl).own

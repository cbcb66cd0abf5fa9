-- Which world of the definitions a world is after a hand-in.
use Rattle.std.proofs.Common.{◌≡◌, ℕ, suc, ◌+◌, ◌<◌, ◌≤◌, ◌⊎◌, inl, inr, Bool, true, false, cond, List, [], ◌∷◌, ◌++◌, length, Some, None, refl, sym, ap, subst, ◌∙◌, arith}
use Rattle.std.specs.Prelude.{◌&&◌, ◌||◌, Contains, nat_eq, not, slice_get, slice_set}
use Rattle.std.specs.List.{filter as kept}
use Rattle.std.proofs.lemmas.Bool.{cases_lt}
use Rattle.ps_flow.proofs.Moving.{not_finished}
use Rattle.ps_flow.proofs.OutputKeys.{tests_alike}
use Rattle.ps_flow.proofs.Stepping.{journal_more, same_wires}
use Rattle.ps_flow.specs.Handing.{HasOneOutput, IsPlaceOf, MayHandIn}
use Rattle.ps_flow.specs.Standing.{Stands, schema_if, setting_of}
use Rattle.ps_flow.specs.declared.piece_node.Place.{Place}
use Rattle.ps_flow.specs.declared.world.World.{World as Held}
use Rattle.ps_frame.specs.Causes.{Cause}
use Rattle.ps_frame.specs.Functions.{Functions}
use Rattle.ps_frame.specs.Tables.{Row}
use Rattle.ps_frame.specs.declared.refusal.PolarsError.{PolarsError}
use Rattle.ps_meaning.specs.Errors.{cause_error}
use Rattle.ps_options.specs.declared.options.Options.{Options}
use Rattle.ps_outs.specs.declared.outs.Outs.{Outs}
use Rattle.ps_outs.specs.Out.{AreOut}
use Rattle.ps_ports.specs.Ports.{is_done}
use Rattle.ps_settle.proofs.Ends.{is_number, same_number}
use Rattle.ps_settle.proofs.Members.{contains_cases, map_at, none_in_nil}
use Rattle.ps_turns.specs.Tasks.{Handed, Piece, bad, good, handed_of}
use Rattle.ps_world.specs.Answers.{answered, without_piece}
use Rattle.ps_world.specs.Pipes.{change_pipes, with_answer}
use Rattle.ps_world.specs.World.{Node, Pipe, World, counts_for_sender, handed_in, multiplexes, shape_of}
use Rattle.turn_laws.specs.Updating.{SeenNode}
use Rattle.world_pipes.specs.Giving.{IsAwaitedIn}
use Rattle.world_pipes.specs.Shown.{AreShown}
use Rattle.world_pipes.specs.declared.pipes.Pipes.{Pipes}
use Rattle.world_records.specs.Journals.{Written}
use Rattle.world_records.specs.Shown.{handed_shown, journal_shown}
use Rattle.world_records.specs.declared.records.Handed.{Handed as Answered}
use Rattle.world_records.specs.declared.records.Record.TheVariants as entry

-- one piece fewer is out
some_out : (q : Piece) (ps : List Piece) → Contains ps q → length (without_piece q ps) + 1 ≤ length ps
some_out q [] c = absurd (none_in_nil q c)
some_out q (p ∷ ps) c = by (nat_eq p.worker q.worker) refl (contains_cases p q ps c) (some_out q ps)
  where
    at_most : (rs : List Piece) → length (without_piece q rs) ≤ length rs
    at_most [] = omega arith
    at_most (r ∷ rs) = one (nat_eq r.worker q.worker) refl (at_most rs)
      where
        one : (b : Bool) → nat_eq r.worker q.worker ≡ b → length (without_piece q rs) ≤ length rs → length (without_piece q (r ∷ rs)) ≤ length (r ∷ rs)
        one true e rest = let is : length (without_piece q (r ∷ rs)) ≡ length (without_piece q rs) = ap (λ b. length (cond (not b) (r ∷ without_piece q rs) (without_piece q rs))) e in omega (arith, is, rest)
        one false e rest = let is : length (without_piece q (r ∷ rs)) ≡ suc (length (without_piece q rs)) = ap (λ b. length (cond (not b) (r ∷ without_piece q rs) (without_piece q rs))) e in omega (arith, is, rest)

    by : (b : Bool) → nat_eq p.worker q.worker ≡ b → (p ≡ q) ⊎ Contains ps q → (Contains ps q → length (without_piece q ps) + 1 ≤ length ps) → length (without_piece q (p ∷ ps)) + 1 ≤ length (p ∷ ps)
    by true e c rest =
        let is : length (without_piece q (p ∷ ps)) ≡ length (without_piece q ps) = ap (λ b. length (cond (not b) (p ∷ without_piece q ps) (without_piece q ps))) e in
        let few = at_most ps in
        omega (arith, is, few)
    by false e (inl same) rest = absurd (let clash : true ≡ false = sym (same_number p.worker q.worker (ap (λ (x : Piece). x.worker) same)) ∙ e in cc)
    by false e (inr later) rest =
        let is : length (without_piece q (p ∷ ps)) ≡ suc (length (without_piece q ps)) = ap (λ b. length (cond (not b) (p ∷ without_piece q ps) (without_piece q ps))) e in
        let few = rest later in
        omega (arith, is, few)

module _ (F : Functions) (w : World) (q : Piece) (x : Node) (may : MayHandIn F w q x) where
  not_multiplexer : multiplexes (slice_get w.nodes q.node) ≡ false
  not_multiplexer = ap multiplexes may.here ∙ may.single

  pub one_output : HasOneOutput q.node w.pipes
  one_output = λ p r c d e f. may.facts.one_output p r c d (e ∙ sym f) (ap (λ n. multiplexes (slice_get w.nodes n)) e ∙ not_multiplexer)

  -- the place of its answer waits
  pub awaits : (p : Pipe) → Contains w.pipes p → p.wire.sender ≡ q.node → IsAwaitedIn q.gives p
  awaits p among sender phase kept =
      let there = (may.facts.expected q may.out).1 may.goes_on p (among, sender, (λ i. (phase i || (multiplexes (slice_get w.nodes p.wire.sender) && not (is_done p.wire.receive_state))) && not (kept i))) in
      (behind there (may.facts.pipes p among).came, there)
    where
      behind : slice_get p.got q.gives ≡ Some None → ((k : ℕ) → k < p.next → (rs : List Row) × (slice_get p.got k ≡ Some (Some rs))) → p.next ≤ q.gives
      behind none came = elim (cases_lt q.gives p.next) [
        | inl before ↦ (let rs = came q.gives before in absurd (let clash : Some None ≡ Some (Some rs.0) = sym none ∙ rs.1 in cc))
        | inr after ↦ after
      ]

  -- what counts for its sender is what is in the phase
  pub in_phase_alone : (f : Pipe → Pipe) → change_pipes (λ p. nat_eq p.wire.sender q.node && p.in_phase) f w.pipes ≡ change_pipes (λ p. nat_eq p.wire.sender q.node && counts_for_sender w p) f w.pipes
  in_phase_alone f = tests_alike (λ p. nat_eq p.wire.sender q.node && p.in_phase) (λ p. nat_eq p.wire.sender q.node && counts_for_sender w p) f w.pipes (λ p among. by p (nat_eq p.wire.sender q.node) refl)
    where
      or_false : (b : Bool) → b ≡ (b || false)
      or_false true = refl
      or_false false = refl

      by : (p : Pipe) (b : Bool) → nat_eq p.wire.sender q.node ≡ b → (b && p.in_phase) ≡ (b && counts_for_sender w p)
      by p false e = refl
      by p true e =
          or_false p.in_phase ∙ (λ i. p.in_phase || (sym (ap (λ n. multiplexes (slice_get w.nodes n)) (is_number p.wire.sender q.node e) ∙ not_multiplexer) i && not (is_done p.wire.receive_state)))

  module _ {N : Type 0} (Has : Options → N → SeenNode → Type 0) (h : Held N) (stands : Stands Has w h) where
    pub some_spare : 1 ≤ h.journal.spare
    some_spare = let few = some_out q w.outs may.out in let spare = stands.spare in omega (arith, few, spare)

    pub schema_is : (setting_of (shape_of w) w.options).schema q.node ≡ x.node.schema
    schema_is = ap schema_if (map_at (λ (n : Node). n.node) w.nodes q.node x may.here)

    module _ (place : Place) (is : IsPlaceOf q place) (answer : Answered) (outs : Outs) (written : Written)
        (took : (workers : ℕ) (ps : List Piece) (r : Piece) → AreOut workers ps h.outs → r.worker ≡ place.worker → AreOut workers (without_piece r ps) outs)
        (more : written.records ≡ h.journal.records ++ entry.HandIn place.node place.input place.number place.worker answer ∷ []) (one : written.spare + 1 ≡ h.journal.spare) where
      out : AreOut w.options.workers (without_piece q w.outs) outs
      out = took w.options.workers w.outs q stands.outs (sym is.worker)

      spare : length (without_piece q w.outs) ≤ written.spare
      spare = let few = some_out q w.outs may.out in let spare = stands.spare in omega (arith, few, spare, one)

      told : (a : Handed) → handed_shown answer ≡ a → journal_shown written.records ≡ w.journal ++ handed_in q.node q.input q.number q.worker a ∷ []
      told a e =
          journal_more Has w h stands (entry.HandIn place.node place.input place.number place.worker answer) written.records more
          ∙ (λ i. w.journal ++ handed_in (is.node i) (is.input i) (is.number i) (is.worker i) (e i) ∷ [])

      pub hands_rows : (rs : List Row) (pipes : Pipes) → AreShown (setting_of (shape_of w) w.options) (change_pipes (λ p. nat_eq p.wire.sender q.node && p.in_phase) (with_answer q.gives rs) w.pipes) pipes → handed_shown answer ≡ handed_of (good rs)
          → Stands Has (answered w q (good rs)) (record h { pipes = pipes; outs = outs; journal = written })
      hands_rows rs pipes shown e =
          record {
            options = stands.options;
            linked = stands.linked;
            nodes = stands.nodes;
            origins = stands.origins;
            wires = stands.wires ∙ sym (same_wires (with_answer q.gives rs) (wire_kept rs) (λ p. nat_eq p.wire.sender q.node && counts_for_sender w p) w.pipes);
            marks = stands.marks;
            pipes = subst (λ l. AreShown (setting_of (shape_of w) w.options) l pipes) (in_phase_alone (with_answer q.gives rs)) shown;
            outs = out;
            phase = stands.phase;
            open_as = stands.open_as;
            journal = told (handed_of (good rs)) e;
            spare = spare;
            ending = stands.ending;
          }
        where
          wire_kept : (rs : List Row) (p : Pipe) → (with_answer q.gives rs p).wire ≡ p.wire
          wire_kept rs p = by p.is_dropped
            where
              by : (b : Bool) → (cond b p (record p { got = slice_set p.got q.gives (Some rs) })).wire ≡ p.wire
              by true = refl
              by false = refl

      pub hands_fault : (c : Cause) (fault : PolarsError) → fault ≡ cause_error c → handed_shown answer ≡ handed_of (bad c) → Stands Has (answered w q (bad c)) (record h { fault = Some fault; outs = outs; journal = written })
      hands_fault c fault f e =
          record {
            options = stands.options;
            linked = stands.linked;
            nodes = stands.nodes;
            origins = stands.origins;
            wires = stands.wires;
            marks = stands.marks;
            pipes = stands.pipes;
            outs = out;
            phase = stands.phase;
            open_as = stands.open_as;
            journal = told (handed_of (bad c)) e;
            spare = spare;
            ending = (not_finished w.ending h.is_finished h.fault stands.ending may.runs, ap Some f);
          }

-- Why an update of a node that hands on says that it is done with an input, or with its output.
use Rattle.std.proofs.Common.{◌≡◌, ℕ, zero, suc, ◌⊎◌, Bool, true, false, cond, List, [], ◌∷◌, length, Option, Some, None, refl, sym, ap, subst, ◌∙◌, inl, inr, arith}
use Rattle.std.specs.Prelude.{Contains, get_or, nat_eq, nat_lt, option_map, slice_get, ◌&&◌}
use Rattle.std.specs.List.{filter as kept}
use Rattle.std.proofs.lemmas.Option.{slice_get-map}
use Rattle.ps_meaning.specs.Shape.{PhysicalKind, filter_node, in_memory_sink, ordered_union, select_node, simple_projection, stream_map, streaming_slice, with_row_index}
use Rattle.ps_options.specs.declared.options.Options.{Options}
use Rattle.ps_ports.specs.Ports.{Sides, all_done, first_port, is_done, kept_done, repeated}
use Rattle.ps_ports.specs.Wires.{Wire, wires_out}
use Rattle.ps_ports.specs.declared.port_state.PortState.{PortState}
use Rattle.ps_ports.specs.declared.port_state.PortState.TheVariants as port
use Rattle.ps_turns.specs.Heads.{Head}
use Rattle.ps_turns.specs.Progress.{Progress}
use Rattle.ps_turns.specs.Updates.{answer_by, done_on_both, passing_answer, slice_is_over, union_inputs, union_output}
use Rattle.ps_world.specs.Booking.{IsPassing}
use Rattle.ps_world.specs.Facts.{is_over_slice}
use Rattle.ps_world.specs.Updates.{given_at}
use Rattle.ps_world.specs.World.{Pipe, World, wires_of}
use Rattle.world_facts.proofs.HandedIn.{contains_of}
use Rattle.world_laws.proofs.Agree.{from_map}
use Rattle.world_laws.proofs.PassingPorts.{ordered, same_number, was_kept}
use Rattle.world_families.proofs.Members.{nothing_is}
use Rattle.orderly_worlds.proofs.Orderly.{all_done_at}
use Rattle.orderly_worlds.proofs.Turned.{kept_cases}
use Rattle.world_families.specs.Kinds.{HandsOn}

-- a state is newly done where it was given so, or where the answer is
pub kept_at : (olds news : List PortState) (k : ℕ) (old d : PortState) → slice_get olds k ≡ Some old → is_done d ≡ false → is_done (get_or (kept_done olds news) k d) ≡ true → (is_done old ≡ true) ⊎ (is_done (get_or news k d) ≡ true)
kept_at [] news k old d at none now = absurd (nothing_is old at)
kept_at (o ∷ olds) [] k old d at none now = absurd (let no : true ≡ false = sym now ∙ none in cc)
kept_at (o ∷ olds) (n ∷ news) zero old d at none now =
    let q : Some o ≡ Some old = at in
    let same : o ≡ old = cc in
    subst (λ x. (is_done x ≡ true) ⊎ (is_done n ≡ true)) same (kept_cases o n now)
kept_at (o ∷ olds) (n ∷ news) (suc k) old d at none now = kept_at olds news k old d at none now

-- a state of a list that is newly done stands there
pub stands_done : (ss : List PortState) (k : ℕ) (d : PortState) → is_done d ≡ false → is_done (get_or ss k d) ≡ true → (s : PortState) × (slice_get ss k ≡ Some s) × (is_done s ≡ true)
stands_done [] k d none now = absurd (let no : true ≡ false = sym now ∙ none in cc)
stands_done (s ∷ ss) zero d none now = (s, refl, now)
stands_done (s ∷ ss) (suc k) d none now = stands_done ss k d none now

not_repeated : (s : PortState) (ss : List PortState) (k : ℕ) (d : PortState) → is_done s ≡ false → is_done d ≡ false → is_done (get_or (repeated s ss) k d) ≡ true → ⊥
not_repeated s [] k d off none now = let no : true ≡ false = sym now ∙ none in cc
not_repeated s (x ∷ ss) zero d off none now = let no : true ≡ false = sym now ∙ off in cc
not_repeated s (x ∷ ss) (suc k) d off none now = not_repeated s ss k d off none now

repeated_done : (b : Bool) (ss : List PortState) (k : ℕ) (d : PortState) → is_done d ≡ false → is_done (get_or (repeated (cond b port.Done port.Ready) ss) k d) ≡ true → b ≡ true
repeated_done true ss k d none now = refl
repeated_done false ss k d none now = absurd (not_repeated port.Ready ss k d refl none now)

-- the inputs of a union: one is newly done where it was given so, or where the output is
abbrev InputOr : PortState → PortState → Type 0
InputOr old out = (is_done old ≡ true) ⊎ (is_done out ≡ true)

union_done : (out : PortState) (ss : List PortState) (k : ℕ) (old d : PortState) → slice_get ss k ≡ Some old → is_done d ≡ false → is_done (get_or (union_inputs out ss) k d) ≡ true → InputOr old out
union_done out [] k old d at none now = absurd (nothing_is old at)
union_done out (port.Done ∷ ss) zero old d at none now = let q : Some port.Done ≡ Some old = at in let same : port.Done ≡ old = cc in inl (ap is_done (sym same))
union_done out (port.Done ∷ ss) (suc k) old d at none now = union_done out ss k old d at none now
union_done out (port.Ready ∷ ss) zero old d at none now = inr now
union_done out (port.Ready ∷ ss) (suc k) old d at none now = absurd (not_repeated port.Blocked ss k d refl none now)
union_done out (port.Blocked ∷ ss) zero old d at none now = inr now
union_done out (port.Blocked ∷ ss) (suc k) old d at none now = absurd (not_repeated port.Blocked ss k d refl none now)

-- its output is done where all its inputs are
union_all : (ss : List PortState) → is_done (union_output ss) ≡ true → all_done ss ≡ true
union_all [] e = refl
union_all (port.Done ∷ ss) e = union_all ss e
union_all (port.Ready ∷ ss) e = absurd (let no : false ≡ true = e in cc)
union_all (port.Blocked ∷ ss) e = absurd (let no : false ≡ true = e in cc)

first_is : (ss : List PortState) → first_port ss ≡ get_or ss 0 port.Blocked
first_is [] = refl
first_is (s ∷ ss) = refl

-- An input is done: it was sent to its end, the node is a slice that has its rows, or a reader of the node is done.
pub data WhyDone (progress : Progress) (given : Sides) (kind : PhysicalKind) (old : PortState) : Type 0 where
  sent_all : is_done old ≡ true → WhyDone progress given kind old
  is_over : is_over_slice kind progress.booked ≡ true → WhyDone progress given kind old
  reader_done : (k : ℕ) (s : PortState) → slice_get given.outputs k ≡ Some s → is_done s ≡ true → WhyDone progress given kind old

-- An output is done: its reader is, the node is a slice that has its rows, or all its inputs were sent to their end.
pub data WhyAll (progress : Progress) (given : Sides) (kind : PhysicalKind) (old : PortState) : Type 0 where
  was_read : is_done old ≡ true → WhyAll progress given kind old
  has_rows : is_over_slice kind progress.booked ≡ true → WhyAll progress given kind old
  all_sent : all_done given.inputs ≡ true → WhyAll progress given kind old

module _ (o : Options) (progress : Progress) (hs : List Head) (es : List Bool) (given : Sides) where
  of_reader : (kind : PhysicalKind) (old : PortState) (k : ℕ) (d : PortState) → is_done d ≡ false → is_done (get_or given.outputs k d) ≡ true → WhyDone progress given kind old
  of_reader kind old k d none now = let s = stands_done given.outputs k d none now in reader_done k s.0 s.1 s.2

  passes_done : (kind : PhysicalKind) (k : ℕ) (old d : PortState) → slice_get given.inputs k ≡ Some old → is_done d ≡ false → is_done (get_or (kept_done given.inputs given.outputs) k d) ≡ true → WhyDone progress given kind old
  passes_done kind k old d at none now = by (kept_at given.inputs given.outputs k old d at none now)
    where
      by : (is_done old ≡ true) ⊎ (is_done (get_or given.outputs k d) ≡ true) → WhyDone progress given kind old
      by (inl e) = sent_all e
      by (inr e) = of_reader kind old k d none e

  pub input_done : (kind : PhysicalKind) → HandsOn kind → (k : ℕ) (old d : PortState) → slice_get given.inputs k ≡ Some old → is_done d ≡ false → is_done (get_or (kept_done given.inputs (answer_by o kind progress hs es given).inputs) k d) ≡ true → WhyDone progress given kind old
  input_done in_memory_sink h k old d at none now = by (kept_at given.inputs (repeated (cond (all_done given.inputs) port.Done port.Ready) given.inputs) k old d at none now)
    where
      by : (is_done old ≡ true) ⊎ (is_done (get_or (repeated (cond (all_done given.inputs) port.Done port.Ready) given.inputs) k d) ≡ true) → WhyDone progress given in_memory_sink old
      by (inl e) = sent_all e
      by (inr e) = sent_all (all_done_at given.inputs k old (repeated_done (all_done given.inputs) given.inputs k d none e) at)
  input_done ordered_union h k old d at none now = by (kept_at given.inputs (union_inputs (first_port given.outputs) given.inputs) k old d at none now)
    where
      of : InputOr old (first_port given.outputs) → WhyDone progress given ordered_union old
      of (inl e) = sent_all e
      of (inr e) = of_reader ordered_union old 0 port.Blocked refl (ap is_done (sym (first_is given.outputs)) ∙ e)

      by : (is_done old ≡ true) ⊎ (is_done (get_or (union_inputs (first_port given.outputs) given.inputs) k d) ≡ true) → WhyDone progress given ordered_union old
      by (inl e) = sent_all e
      by (inr e) = of (union_done (first_port given.outputs) given.inputs k old d at none e)
  input_done (streaming_slice offset n) h k old d at none now = by (slice_is_over offset n progress.booked) refl now
    where
      by : (b : Bool) → slice_is_over offset n progress.booked ≡ b → is_done (get_or (kept_done given.inputs (cond b (done_on_both given) (passing_answer given)).inputs) k d) ≡ true → WhyDone progress given (streaming_slice offset n) old
      by true e told = is_over e
      by false e told = passes_done (streaming_slice offset n) k old d at none told
  input_done (with_row_index name offset) h k old d at none now = passes_done (with_row_index name offset) k old d at none now
  input_done (filter_node e) h k old d at none now = passes_done (filter_node e) k old d at none now
  input_done (select_node e extends) h k old d at none now = passes_done (select_node e extends) k old d at none now
  input_done (simple_projection names) h k old d at none now = passes_done (simple_projection names) k old d at none now
  input_done (stream_map step) h k old d at none now = passes_done (stream_map step) k old d at none now
  input_done kind h k old d at none now = absurd h

  -- a node with one input
  one_sent : (ss : List PortState) (k : ℕ) (d : PortState) → length ss ≡ 1 → is_done d ≡ false → is_done (get_or ss k d) ≡ true → all_done ss ≡ true
  one_sent [] k d one none now = absurd (let no : true ≡ false = sym now ∙ none in cc)
  one_sent (s ∷ []) zero d one none now = now_all (is_done s) now
    where
      now_all : (b : Bool) → b ≡ true → (b && true) ≡ true
      now_all true e = refl
      now_all false e = e
  one_sent (s ∷ []) (suc k) d one none now = absurd (let no : true ≡ false = sym now ∙ none in cc)
  one_sent (s ∷ t ∷ ss) k d one none now = absurd (omega arith)

  passes_all : (kind : PhysicalKind) → length given.inputs ≡ 1 → (k : ℕ) (old d : PortState) → slice_get given.outputs k ≡ Some old → is_done d ≡ false → is_done (get_or (kept_done given.outputs given.inputs) k d) ≡ true → WhyAll progress given kind old
  passes_all kind one k old d at none now = by (kept_at given.outputs given.inputs k old d at none now)
    where
      by : (is_done old ≡ true) ⊎ (is_done (get_or given.inputs k d) ≡ true) → WhyAll progress given kind old
      by (inl e) = was_read e
      by (inr e) = all_sent (one_sent given.inputs k d one none e)

  pub passing_all : (kind : PhysicalKind) → IsPassing kind → length given.inputs ≡ 1 → (k : ℕ) (old d : PortState) → slice_get given.outputs k ≡ Some old → is_done d ≡ false → is_done (get_or (kept_done given.outputs (answer_by o kind progress hs es given).outputs) k d) ≡ true → WhyAll progress given kind old
  passing_all (streaming_slice offset n) h one k old d at none now = by (slice_is_over offset n progress.booked) refl now
    where
      by : (b : Bool) → slice_is_over offset n progress.booked ≡ b → is_done (get_or (kept_done given.outputs (cond b (done_on_both given) (passing_answer given)).outputs) k d) ≡ true → WhyAll progress given (streaming_slice offset n) old
      by true e told = has_rows e
      by false e told = passes_all (streaming_slice offset n) one k old d at none told
  passing_all (with_row_index name offset) h one k old d at none now = passes_all (with_row_index name offset) one k old d at none now
  passing_all (filter_node e) h one k old d at none now = passes_all (filter_node e) one k old d at none now
  passing_all (select_node e extends) h one k old d at none now = passes_all (select_node e extends) one k old d at none now
  passing_all (simple_projection names) h one k old d at none now = passes_all (simple_projection names) one k old d at none now
  passing_all (stream_map step) h one k old d at none now = passes_all (stream_map step) one k old d at none now
  passing_all kind h one k old d at none now = absurd h

  pub unions_all : (k : ℕ) (old d : PortState) → slice_get given.outputs k ≡ Some old → is_done d ≡ false → is_done (get_or (kept_done given.outputs (union_output given.inputs ∷ [])) k d) ≡ true → (is_done old ≡ true) ⊎ (all_done given.inputs ≡ true)
  unions_all k old d at none now = by (kept_at given.outputs (union_output given.inputs ∷ []) k old d at none now)
    where
      of : (k : ℕ) → is_done (get_or (union_output given.inputs ∷ []) k d) ≡ true → all_done given.inputs ≡ true
      of zero e = union_all given.inputs e
      of (suc k) e = absurd (let no : true ≡ false = sym e ∙ none in cc)

      by : (is_done old ≡ true) ⊎ (is_done (get_or (union_output given.inputs ∷ []) k d) ≡ true) → (is_done old ≡ true) ⊎ (all_done given.inputs ≡ true)
      by (inl e) = inl e
      by (inr e) = inr (of k e)

-- THE PIPE OF A STATE THAT AN UPDATE IS GIVEN
from_option : (o : Option Wire) (f : Wire → PortState) (s : PortState) → option_map f o ≡ Some s → (u : Wire) × (o ≡ Some u) × (f u ≡ s)
from_option None f s e = absurd (nothing_is s e)
from_option (Some u) f s e = (u, refl, let q : Some (f u) ≡ Some s = e in let same : f u ≡ s = cc in same)

pub reader_pipe : (w : World) (n k : ℕ) (s : PortState) → slice_get (given_at w n).outputs k ≡ Some s → (z : Pipe) × Contains w.pipes z × (z.wire.sender ≡ n) × (z.wire.receive_state ≡ s)
reader_pipe w n k s at =
    let ws = wires_out n (wires_of w) in
    let u = from_option (slice_get ws k) (λ (p : Wire). p.receive_state) s (sym (slice_get-map (λ (p : Wire). p.receive_state) ws k) ∙ at) in
    let among = was_kept (λ (p : Wire). nat_eq p.sender n) u.0 (wires_of w) (ordered (λ (p q : Wire). nat_lt p.port q.port) u.0 (kept (λ (p : Wire). nat_eq p.sender n) (wires_of w)) (contains_of ws k u.0 u.1)) in
    let z = from_map (λ (p : Pipe). p.wire) u.0 w.pipes among.0 in
    (z.0, z.1, ap (λ (p : Wire). p.sender) z.2 ∙ same_number u.0.sender n among.1, ap (λ (p : Wire). p.receive_state) z.2 ∙ u.2)

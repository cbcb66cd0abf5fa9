-- What a world keeps of a passing node: its answers, the rows that it booked, its pieces, and that a complete output ends where its input does or it gives no more.
use Rattle.std.proofs.Common.{◌≡◌, ℕ, ◌<◌, ◌+◌, ◌⊎◌, Bool, true, false, List, length, take, Some, refl, sym, ap, subst, ◌∙◌, inl, inr, arith}
use Rattle.std.specs.Prelude.{Contains, IsTrue, slice_get, ◌||◌}
use Rattle.std.proofs.lemmas.List.{take_all}
use Rattle.ps_frame.specs.Functions.{Functions}
use Rattle.ps_frame.specs.Tables.{Fields, Row}
use Rattle.ps_meaning.specs.Shape.{PhysicalKind, PhysicalNode, filter_node, select_node, simple_projection, stream_map, streaming_slice, with_row_index}
use Rattle.ps_ports.specs.Ports.{Sides, all_done, is_done}
use Rattle.ps_ports.specs.Wires.{Wire}
use Rattle.ps_turns.specs.Progress.{Progress}
use Rattle.ps_world.specs.Booking.{EndsAfter, GivesAfter, GivesNoMore, HasBooked, IsPassing, PassesAfter}
use Rattle.ps_world.specs.Facts.{HasNoUse, Joins, is_over_slice}
use Rattle.ps_world.specs.Laws.{sent_by}
use Rattle.ps_world.specs.Updates.{empty_outs, given_at}
use Rattle.ps_world.specs.World.{Node, Pipe, World, heads_of, multiplexes, rows_in_order}
use Rattle.world_claims.specs.Numbering.{Known, last_given, passes_numbers}
use Rattle.world_facts.proofs.Slots.{set_here}
use Rattle.family_pipes.proofs.Complete.{filled}
use Rattle.world_families.specs.Work.{Enters, IsComplete, Leaves}
use Rattle.passing_fronts.proofs.PassingKinds.{single}
use Rattle.passing_runs.proofs.Slots.{Came, Fills, Places, fills_same}
use Rattle.family_keeps.proofs.Done.{DoneFits, sent_cases}
use Rattle.family_keeps.proofs.Ends.{ends_of, ends_on}
use Rattle.orderly_worlds.proofs.Goes.{GoesOn}
use Rattle.orderly_worlds.proofs.Orderly.{Newly, Orderly, all_done_at, complete_before, complete_rests, complete_turned, newly}
use Rattle.orderly_worlds.proofs.PortPipes.{given_input, given_output}
use Rattle.orderly_worlds.proofs.ReadRows.{came_to, take_fills}
use Rattle.orderly_worlds.proofs.Says.{WhyAll, all_sent, has_rows, passing_all, was_read}
use Rattle.orderly_worlds.proofs.Turned.{Turned, answer, turned, turned_from}

-- a complete output ends where its input does, or the node gives no more
abbrev pub EndsWhole : Functions → World → ℕ → PhysicalNode → Fields → Type 0
EndsWhole F w n p s = (q r : Pipe) → Enters w n q → Leaves w n r → IsComplete r → EndsAfter (GivesAfter F p s) (GivesNoMore p.kind) (sent_by q).is_complete 0 q.got r.got

-- all of a complete pipe came
pub came_all : (F : Functions) (w : World) → Orderly F w → (x : Pipe) → Contains w.pipes x → IsComplete x → Came x.got (length x.got)
came_all F w o x c is = subst (Came x.got) (o.read x c is) (came_to F w o.known x c)

same_all : (xs ys : Places) → Fills xs ys → Came xs (length xs) → length ys ≡ length xs → ys ≡ xs
same_all xs ys f came e = sym (take_all (length xs) ys (omega (arith, e))) ∙ take_fills xs ys (length xs) f came ∙ take_all (length xs) xs (omega arith)

yes_or : (b : Bool) → (b ≡ true) ⊎ (b ≡ false)
yes_or true = inl refl
yes_or false = inr refl

module _ (F : Functions) (w v : World) (n : ℕ) (p : PhysicalNode) (s : Fields) (o : Orderly F w) (begun : w.is_open ≡ true) (Takes Musts : Pipe → Type 0) (some : (x : Pipe) → Takes x → (rs : List Row) × (slice_get x.got x.next ≡ Some (Some rs))) (g : GoesOn Takes Musts w v) where
  pub ends_step : EndsWhole F w n p s → EndsWhole F v n p s
  ends_step h q r cq cr is =
      let a = g q cq.0 in
      let b = g r cr.0 in
      let ea : Enters w n a.0 = (a.1, ap (λ (u : Wire). u.receiver) (sym a.2.wire) ∙ cq.1) in
      let eb : Leaves w n b.0 = (b.1, ap (λ (u : Wire). u.sender) (sym b.2.wire) ∙ cr.1) in
      let was = complete_before Takes Musts b.0 r b.2 is in
      let rest = complete_rests F w Takes Musts o begun some b.0 r b.1 b.2 was in
      let outs : r.got ≡ b.0.got = same_all b.0.got r.got b.2.got (came_all F w o b.0 b.1 was) rest.longer in
      let ended = h a.0 b.0 ea eb was in
      subst (EndsAfter (GivesAfter F p s) (GivesNoMore p.kind) (sent_by q).is_complete 0 q.got) (sym outs)
      (ends_on (GivesAfter F p s) (GivesNoMore p.kind) (sent_by a.0).is_complete (sent_by q).is_complete 0 a.0.got q.got b.0.got a.2.got
      (λ c. let k = complete_rests F w Takes Musts o begun some a.0 q a.1 a.2 c in (k.is_complete, same_all a.0.got q.got a.2.got (came_all F w o a.0 a.1 c) k.longer)) ended)

-- WHAT A PASSING NODE BOOKS
no_more : (kind : PhysicalKind) → IsPassing kind → (progress : Progress) (k : ℕ) → HasBooked kind progress k → is_over_slice kind progress.booked ≡ true → GivesNoMore kind k
no_more (streaming_slice offset n) h progress k booked e = subst (GivesNoMore (streaming_slice offset n)) booked e
no_more (with_row_index name offset) h progress k booked e = absurd (let no : false ≡ true = e in cc)
no_more (filter_node x) h progress k booked e = absurd (let no : false ≡ true = e in cc)
no_more (select_node es extends) h progress k booked e = absurd (let no : false ≡ true = e in cc)
no_more (simple_projection names) h progress k booked e = absurd (let no : false ≡ true = e in cc)
no_more (stream_map step) h progress k booked e = absurd (let no : false ≡ true = e in cc)
no_more kind h progress k booked e = absurd h

numbers : (kind : PhysicalKind) → IsPassing kind → passes_numbers kind ≡ true
numbers (streaming_slice offset n) h = refl
numbers (with_row_index name offset) h = refl
numbers (filter_node x) h = refl
numbers (select_node es extends) h = refl
numbers (simple_projection names) h = refl
numbers (stream_map step) h = refl
numbers kind h = absurd h

none_last : (kind : PhysicalKind) → IsPassing kind → (progress : Progress) → last_given kind progress ≡ 0
none_last (streaming_slice offset n) h progress = refl
none_last (with_row_index name offset) h progress = refl
none_last (filter_node x) h progress = refl
none_last (select_node es extends) h progress = refl
none_last (simple_projection names) h progress = refl
none_last (stream_map step) h progress = refl
none_last kind h progress = absurd h

-- AN UPDATE
module _ (F : Functions) (w : World) (m : ℕ) (other : Node) (progress : Progress) (o : Orderly F w) (shut : w.is_open ≡ false) (at : slice_get w.nodes m ≡ Some other) (booked : progress.booked ≡ other.progress.booked) (kv : Known F (turned w m other progress at)) where
  abbrev v : World
  v = turned w m other progress at

  abbrev a : Sides
  a = answer w m other progress at

  module _ (n : ℕ) (p : PhysicalNode) (s : Fields) (is_node : (x : Node) → slice_get w.nodes n ≡ Some x → x.node ≡ p) (passing : IsPassing p.kind) (answers : (q r : Pipe) → Enters w n q → Leaves w n r → PassesAfter (GivesAfter F p s) 0 q.got r.got)
      (books : (x : Node) → slice_get w.nodes n ≡ Some x → (q : Pipe) → Enters w n q → HasBooked p.kind x.progress (length (rows_in_order (take q.next q.got)))) (done : DoneFits w n) (one : (q : Pipe) → Enters w n q → q.wire.input ≡ 0) (inputs : length (given_at w n).inputs ≡ 1) where
    abbrev MayEnd : Pipe → Pipe → Type 0
    MayEnd q x = (IsTrue (sent_by q).is_complete × (length q.got ≡ length x.got)) ⊎ GivesNoMore p.kind (0 + length (rows_in_order (take (length x.got) q.got)))

    -- a newly complete output
    new_ends : n ≡ m → (x r q : Pipe) → Leaves w n x → Contains v.pipes r → Turned m a x r → Enters w n q → IsComplete r → Newly F w m other progress o shut at x r → EndsAfter (GivesAfter F p s) (GivesNoMore p.kind) (sent_by q).is_complete 0 q.got r.got
    new_ends here x r q lx cr t eq is new = subst (EndsAfter (GivesAfter F p s) (GivesNoMore p.kind) (sent_by q).is_complete 0 q.got) (sym t.got) (ends_of (GivesAfter F p s) (GivesNoMore p.kind) (sent_by q).is_complete 0 q.got x.got (answers q x eq lx) all_filled (by why))
      where
        at_n : slice_get w.nodes n ≡ Some other
        at_n = ap (slice_get w.nodes) here ∙ at

        node_is : other.node ≡ p
        node_is = is_node other at_n

        is_passing : IsPassing other.node.kind
        is_passing = subst (λ (z : PhysicalNode). IsPassing z.kind) (sym node_is) passing

        sender : r.wire.sender ≡ m
        sender = ap (λ (j : Joins). j.sender) t.joins ∙ lx.1 ∙ here

        bounded : multiplexes (slice_get v.nodes r.wire.sender) ≡ false
        bounded = ap (λ k. multiplexes (slice_get v.nodes k)) sender ∙ ap multiplexes (set_here w.nodes m other (record other { progress = progress }) at) ∙ single other.node.kind is_passing

        all_filled : (j : ℕ) → j < length x.got → (b : List Row) × (slice_get x.got j ≡ Some (Some b))
        all_filled j less = let f = filled F v r kv cr bounded is j (let e = ap length t.got in omega (arith, less, e)) in (f.0, ap (λ xs. slice_get xs j) (sym t.got) ∙ f.1)

        long : length x.got ≡ q.next
        long =
            let numbered = (o.known.numbers n other at_n).passed (numbers other.node.kind is_passing) x q lx.0 eq.0 lx.1 new.dropped eq.1 (one q eq) in
            let none = none_last other.node.kind is_passing other.progress in
            omega (arith, numbered, none)

        full : is_over_slice other.node.kind other.progress.booked ≡ true → GivesNoMore p.kind (0 + length (rows_in_order (take (length x.got) q.got)))
        full e =
            let k = no_more p.kind passing other.progress (length (rows_in_order (take q.next q.got))) (books other at_n q eq) (ap (λ (z : PhysicalNode). is_over_slice z.kind other.progress.booked) (sym node_is) ∙ e) in
            let start : length (rows_in_order (take (length x.got) q.got)) ≡ 0 + length (rows_in_order (take (length x.got) q.got)) = omega arith in
            subst (GivesNoMore p.kind) (ap (λ j. length (rows_in_order (take j q.got))) (sym long) ∙ start) k

        given : slice_get (given_at w m).outputs x.wire.port ≡ Some x.wire.receive_state
        given = ap (λ k. slice_get (given_at w k).outputs x.wire.port) (sym here ∙ sym lx.1) ∙ given_output F w o.known.facts x lx.0

        why : WhyAll progress (given_at w m) other.node.kind x.wire.receive_state
        why = passing_all w.options progress (heads_of w m other) (empty_outs w m) (given_at w m) other.node.kind is_passing (ap (λ k. length (given_at w k).inputs) (sym here) ∙ inputs) x.wire.port x.wire.receive_state x.wire.send_state given new.sent new.said

        sent : all_done (given_at w m).inputs ≡ true → is_done q.wire.send_state ≡ true
        sent all = all_done_at (given_at w m).inputs q.wire.input q.wire.send_state all (ap (λ k. slice_get (given_at w k).inputs q.wire.input) (sym here ∙ sym eq.1) ∙ given_input F w o.known.facts q eq.0)

        no_use : HasNoUse w n → MayEnd q x
        no_use (inl (z, at_z, over)) = let same : z ≡ other = (let e : Some z ≡ Some other = sym at_z ∙ at_n in cc) in inr (full ((λ i. is_over_slice (sym same i).node.kind (sym same i).progress.booked) ∙ over))
        no_use (inr (z, cz, from, each)) = absurd (let no : false ≡ true = sym (λ i. new.dropped i || new.reader i) ∙ each x lx.0 lx.1 in cc)

        of : IsComplete q ⊎ HasNoUse w n → MayEnd q x
        of (inl c) = inl (c, sym (o.read q eq.0 c) ∙ sym long)
        of (inr none) = no_use none

        by : WhyAll progress (given_at w m) other.node.kind x.wire.receive_state → MayEnd q x
        by (was_read d) = absurd (let no : true ≡ false = sym d ∙ new.reader in cc)
        by (has_rows e) = inr (full (ap (is_over_slice other.node.kind) (sym booked) ∙ e))
        by (all_sent all) = of (sent_cases F w m other progress o shut at booked n q eq (sent all) done)

    pub ends_turned : EndsWhole F w n p s → EndsWhole F v n p s
    ends_turned h q r cq cr is =
        let a' = turned_from w m other progress at q cq.0 in
        let b' = turned_from w m other progress at r cr.0 in
        let ea : Enters w n a'.0 = (a'.1, ap (λ (j : Joins). j.receiver) (sym a'.2.joins) ∙ cq.1) in
        let eb : Leaves w n b'.0 = (b'.1, ap (λ (j : Joins). j.sender) (sym b'.2.joins) ∙ cr.1) in
        onto a'.0 a'.2 (by a'.0 b'.0 ea eb b'.2 (newly F w m other progress o shut at b'.0 r b'.1 b'.2 is))
      where
        by : (x z : Pipe) → Enters w n x → Leaves w n z → Turned m a z r → IsComplete z ⊎ Newly F w m other progress o shut at z r → EndsAfter (GivesAfter F p s) (GivesNoMore p.kind) (sent_by x).is_complete 0 x.got r.got
        by x z ex ez t (inl was) = subst (EndsAfter (GivesAfter F p s) (GivesNoMore p.kind) (sent_by x).is_complete 0 x.got) (sym t.got) (h x z ex ez was)
        by x z ex ez t (inr new) = new_ends (sym ez.1 ∙ new.from) z r x ez cr.0 t ex is new

        onto : (x : Pipe) → Turned m a x q → EndsAfter (GivesAfter F p s) (GivesNoMore p.kind) (sent_by x).is_complete 0 x.got r.got → EndsAfter (GivesAfter F p s) (GivesNoMore p.kind) (sent_by q).is_complete 0 q.got r.got
        onto x t e =
            ends_on (GivesAfter F p s) (GivesNoMore p.kind) (sent_by x).is_complete (sent_by q).is_complete 0 x.got q.got r.got (subst (Fills x.got) (sym t.got) (fills_same x.got)) (λ c. (complete_turned F w m other progress o shut at x q t c, t.got)) e

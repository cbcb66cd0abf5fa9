-- Steps that leave what a node counts, and the pipes around it, leave its numbers as they were.
use Rattle.std.proofs.Common.{◌≡◌, ℕ, ◌+◌, Bool, true, false, [], length, Some, refl, sym, ap, subst, ◌∙◌}
use Rattle.std.specs.Prelude.{Contains, IsTrue, get_or, map, slice_get}
use Rattle.ps_meaning.specs.Shape.{PhysicalKind, PhysicalNode, equi_join, group_by_node, reduce}
use Rattle.ps_ports.specs.Ports.{is_done}
use Rattle.ps_turns.specs.Progress.{Progress, is_multiplexer}
use Rattle.ps_world.specs.Facts.{Joins, joins_of}
use Rattle.ps_world.specs.World.{Node, Pipe, World}
use Rattle.world_laws.proofs.Agree.{from_map}
use Rattle.world_claims.proofs.Forms.{own_single, passing_single}
use Rattle.world_claims.specs.Numbering.{IsNumbered, NumberedAt, counts_own, has_given_last, keeps_slots, last_given, passes_numbers}

pub record Counts (x y : Node) : Type 0 where
  pub node : y.node ≡ x.node
  pub sent : y.progress.sent ≡ x.progress.sent
  pub taken : (i : ℕ) → length (get_or y.progress.taken i []) ≡ length (get_or x.progress.taken i [])
  pub lists : length y.progress.taken ≡ length x.progress.taken

pub same_counts : (x : Node) → Counts x x
same_counts x = record { node = refl; sent = refl; taken = λ i. refl; lists = refl }

-- what takes morsels by their numbers
abbrev pub by_number : PhysicalKind → Bool
by_number (reduce es) = true
by_number (group_by_node keys aggregates) = true
by_number kind = passes_numbers kind

slots_by_number : (kind : PhysicalKind) (i : ℕ) → keeps_slots kind i ≡ true → by_number kind ≡ true
slots_by_number (reduce es) i e = refl
slots_by_number (group_by_node keys aggregates) i e = refl
slots_by_number (equi_join j) i e = refl
slots_by_number kind i e = absurd (let no : false ≡ true = e in cc)

passing_by_number : (kind : PhysicalKind) → passes_numbers kind ≡ true → by_number kind ≡ true
passing_by_number (reduce es) e = refl
passing_by_number (group_by_node keys aggregates) e = refl
passing_by_number kind e = e

pub last_by : (kind : PhysicalKind) (a b : Progress) → a.sent ≡ b.sent → last_given kind a ≡ last_given kind b
last_by (equi_join j) a b e = e
last_by kind a b e = refl

module _ (w v : World) (g : Pipe → Pipe) (pipes : v.pipes ≡ map g w.pipes) (joins : (x : Pipe) → joins_of (g x) ≡ joins_of x) (lost : (x : Pipe) → (g x).is_dropped ≡ false → x.is_dropped ≡ false)
    (done : (x : Pipe) → Contains w.pipes x → is_done x.wire.send_state ≡ true → is_done (g x).wire.send_state ≡ true) where
  pub came : (y : Pipe) → Contains v.pipes y → (x : Pipe) × Contains w.pipes x × (g x ≡ y)
  came y c = from_map g y w.pipes (subst (λ ps. Contains ps y) pipes c)

  sender_is : (x y : Pipe) (m : ℕ) → g x ≡ y → y.wire.sender ≡ m → x.wire.sender ≡ m
  sender_is x y m e s = sym (ap (λ (j : Joins). j.sender) (joins x)) ∙ ap (λ (p : Pipe). p.wire.sender) e ∙ s

  receiver_is : (x y : Pipe) (m : ℕ) → g x ≡ y → y.wire.receiver ≡ m → x.wire.receiver ≡ m
  receiver_is x y m e s = sym (ap (λ (j : Joins). j.receiver) (joins x)) ∙ ap (λ (p : Pipe). p.wire.receiver) e ∙ s

  input_is : (x y : Pipe) → g x ≡ y → x.wire.input ≡ y.wire.input
  input_is x y e = sym (ap (λ (j : Joins). j.input) (joins x)) ∙ ap (λ (p : Pipe). p.wire.input) e

  pub numbered_at : (m : ℕ) (x y : Node) → Counts x y → ((p : Pipe) → Contains w.pipes p → p.wire.sender ≡ m → is_multiplexer x.node.kind ≡ false → length (g p).got ≡ length p.got)
      → ((q : Pipe) → Contains w.pipes q → q.wire.receiver ≡ m → by_number x.node.kind ≡ true → (g q).next ≡ q.next) → NumberedAt w m x → NumberedAt v m y
  numbered_at m x y c long next h =
      record {
        own = λ k p d s u.
            let z = came p d in
            let kind = kind_is counts_own k in
            let at = sender_is z.0 p m z.2 s in
            sym (ap (λ (r : Pipe). length r.got) z.2) ∙ long z.0 z.1 at (own_single x.node.kind kind) ∙ h.own kind z.0 z.1 at (lost z.0 (ap (λ (r : Pipe). r.is_dropped) z.2 ∙ u)) ∙ sym c.sent;
        passed = λ k p q d e s u r i.
            let z = came p d in
            let t = came q e in
            let kind = kind_is passes_numbers k in
            let at = sender_is z.0 p m z.2 s in
            let to = receiver_is t.0 q m t.2 r in
            sym (ap (λ (r : Pipe). length r.got) z.2) ∙ long z.0 z.1 at (passing_single x.node.kind kind)
            ∙ h.passed kind z.0 t.0 z.1 t.1 at (lost z.0 (ap (λ (r : Pipe). r.is_dropped) z.2 ∙ u)) to (input_is t.0 q t.2 ∙ i)
            ∙ (λ j. sym (next t.0 t.1 to (passing_by_number x.node.kind kind)) j + last_given x.node.kind x.progress) ∙ ap (λ (r : Pipe). r.next + last_given x.node.kind x.progress) t.2 ∙ ap (λ k. q.next + k) (sym (ap (λ (n : PhysicalNode). last_given n.kind y.progress) c.node ∙ last_by x.node.kind y.progress x.progress c.sent));
        slots = λ q d r k. slot q d r k;
        inputs = c.lists ∙ h.inputs ∙ ap (λ (n : PhysicalNode). length n.inputs) (sym c.node);
        ended = λ e q d r i.
            let z = came q d in
            let first : has_given_last x.node.kind x.progress = λ none. e (ap (λ (n : PhysicalNode). last_given n.kind y.progress) c.node ∙ last_by x.node.kind y.progress x.progress c.sent ∙ none) in
            ap (λ (p : Pipe). is_done p.wire.send_state) (sym z.2) ∙ done z.0 z.1 (h.ended first z.0 z.1 (receiver_is z.0 q m z.2 r) (input_is z.0 q z.2 ∙ i));
      }
    where
      kind_is : (t : PhysicalKind → Bool) → t y.node.kind ≡ true → t x.node.kind ≡ true
      kind_is t k = ap (λ (n : PhysicalNode). t n.kind) (sym c.node) ∙ k

      slot : (q : Pipe) → Contains v.pipes q → q.wire.receiver ≡ m → IsTrue (keeps_slots y.node.kind q.wire.input) → length (get_or y.progress.taken q.wire.input []) ≡ q.next
      slot q d r k =
          let z = came q d in
          let at = receiver_is z.0 q m z.2 r in
          let input = input_is z.0 q z.2 in
          let kind : keeps_slots x.node.kind z.0.wire.input ≡ true = ap (λ i. keeps_slots x.node.kind i) input ∙ ap (λ (n : PhysicalNode). keeps_slots n.kind q.wire.input) (sym c.node) ∙ k in
          c.taken q.wire.input ∙ ap (λ i. length (get_or x.progress.taken i [])) (sym input) ∙ h.slots z.0 z.1 at kind ∙ sym (next z.0 z.1 at (slots_by_number x.node.kind z.0.wire.input kind)) ∙ ap (λ (p : Pipe). p.next) z.2

  -- where each node counts as before, and no pipe has another length or next number
  pub numbers_keep : ((m : ℕ) (y : Node) → slice_get v.nodes m ≡ Some y → (x : Node) × (slice_get w.nodes m ≡ Some x) × Counts x y) → ((p : Pipe) → length (g p).got ≡ length p.got) → ((q : Pipe) → (g q).next ≡ q.next) → IsNumbered w → IsNumbered v
  numbers_keep back long next h m y e = let x = back m y e in numbered_at m x.0 y x.2 (λ p c s k. long p) (λ q c r k. next q) (h m x.0 x.1)

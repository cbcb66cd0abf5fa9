-- Steps of the open phase that leave the pieces out, or what is dropped; and nodes that are set in their places.
use Rattle.std.proofs.Common.{◌≡◌, ◌≢◌, ℕ, ◌<◌, ◌≤◌, ◌⊎◌, Bool, true, false, List, Some, None, refl, sym, ap, subst, ◌∙◌, inl, inr}
use Rattle.std.specs.Prelude.{Contains, IsTrue, nat_eq, not, slice_get, slice_set, ◌&&◌}
use Rattle.std.proofs.lemmas.Bool.{not_from_true, cases_eq}
use Rattle.ps_frame.specs.Functions.{Functions}
use Rattle.ps_ports.specs.Wires.{Wire}
use Rattle.ps_turns.specs.Tasks.{Piece}
use Rattle.ps_world.specs.Facts.{FactsDownTo, IsExpected, is_filled_by, slots_of}
use Rattle.ps_world.specs.World.{Node, Pipe, World, counts_for_sender, is_cut_off}
use Rattle.world_facts.proofs.CutOff.{and_true, both_true, cut_off_same, goes_live}
use Rattle.world_facts.proofs.Follows.{Follows, HasMarksOf, OwesPieces, counts_same, traced, working}
use Rattle.world_facts.proofs.Slots.{set_here, set_other}

pub same_marks : (x : Node) → HasMarksOf x x
same_marks x = record { in_phase = refl; is_closed = refl; over = λ o. o }

-- a node with the marks of another in its place
pub set_onward : (nodes : List Node) (n : ℕ) (old new : Node) → slice_get nodes n ≡ Some old → HasMarksOf old new
    → (m : ℕ) (x : Node) → slice_get nodes m ≡ Some x → (y : Node) × (slice_get (slice_set nodes n new) m ≡ Some y) × HasMarksOf x y
set_onward nodes n old new at marks m x e = by (cases_eq m n)
  where
    by : (m ≡ n) ⊎ (m ≢ n) → (y : Node) × (slice_get (slice_set nodes n new) m ≡ Some y) × HasMarksOf x y
    by (inl same) =
        let there : slice_get nodes m ≡ Some old = ap (slice_get nodes) same ∙ at in
        let q : Some old ≡ Some x = sym there ∙ e in let is : old ≡ x = cc in
        (new, ap (slice_get (slice_set nodes n new)) same ∙ set_here nodes n old new at, subst (λ z. HasMarksOf z new) is marks)
    by (inr other) = (x, set_other nodes n m new other ∙ e, same_marks x)

pub set_back : (nodes : List Node) (n : ℕ) (old new : Node) → slice_get nodes n ≡ Some old → HasMarksOf old new
    → (m : ℕ) (y : Node) → slice_get (slice_set nodes n new) m ≡ Some y → (x : Node) × (slice_get nodes m ≡ Some x) × HasMarksOf x y
set_back nodes n old new at marks m y e = by (cases_eq m n)
  where
    by : (m ≡ n) ⊎ (m ≢ n) → (x : Node) × (slice_get nodes m ≡ Some x) × HasMarksOf x y
    by (inl same) =
        let there : slice_get (slice_set nodes n new) m ≡ Some new = ap (slice_get (slice_set nodes n new)) same ∙ set_here nodes n old new at in
        let q : Some new ≡ Some y = sym there ∙ e in let is : new ≡ y = cc in
        (old, ap (slice_get nodes) same ∙ at, subst (λ z. HasMarksOf old z) is marks)
    by (inr other) = (y, sym (set_other nodes n m new other) ∙ e, same_marks y)

module _ (w v : World) (h : Follows w v) where
  not_dropped : (a b : Bool) → (a ≡ true → b ≡ true) → not b ≡ true → not a ≡ true
  not_dropped true b e d = absurd (let no : false ≡ true = sym (not_from_true b (e refl)) ∙ d in cc)
  not_dropped false b e d = refl

  pub was_filled : (n : ℕ) (p : Pipe) → is_filled_by v n p → (x : Pipe) × is_filled_by w n x × (h.pipe x ≡ p)
  was_filled n p (c, s, e) = by (traced w v h p c)
    where
      by : (x : Pipe) × Contains w.pipes x × (h.pipe x ≡ p) → (x : Pipe) × is_filled_by w n x × (h.pipe x ≡ p)
      by (x, d, q) =
          let parts = both_true (counts_for_sender v p) (not p.is_dropped) e in
          let counts : counts_for_sender w x ≡ true = sym (counts_same w v h x) ∙ ap (counts_for_sender v) q ∙ parts.0 in
          let kept : not x.is_dropped ≡ true = not_dropped x.is_dropped p.is_dropped (λ t. ap (λ (z : Pipe). z.is_dropped) (sym q) ∙ (h.like x).dropped t) parts.1 in
          (x, (d, sym (ap (λ (u : Wire). u.sender) (h.like x).wire) ∙ ap (λ (z : Pipe). z.wire.sender) q ∙ s, and_true (counts_for_sender w x) (not x.is_dropped) counts kept), q)

  pub live_same : (n : ℕ) (x : Pipe) → goes_live v n (h.pipe x) ≡ goes_live w n x
  live_same n x = let a = ap (λ (u : Wire). nat_eq u.sender n) (h.like x).wire in let b = counts_same w v h x in λ i. a i && b i

  module _ {k : ℕ} (F : Functions) (f : FactsDownTo F k w) where
    -- nothing is dropped
    pub cut_stays : ((x : Pipe) → (h.pipe x).is_dropped ≡ x.is_dropped) → (p : Pipe) → Contains v.pipes p → k ≤ p.wire.receiver → IsTrue p.in_phase → IsTrue (is_cut_off v p.wire.receiver) → IsTrue p.is_dropped
    cut_stays same p c at on cut = by (traced w v h p c)
      where
        by : (x : Pipe) × Contains w.pipes x × (h.pipe x ≡ p) → IsTrue p.is_dropped
        by (x, d, q) =
            let wire : p.wire ≡ x.wire = ap (λ (z : Pipe). z.wire) (sym q) ∙ (h.like x).wire in
            let r : p.wire.receiver ≡ x.wire.receiver = ap (λ (u : Wire). u.receiver) wire in
            let before : is_cut_off w x.wire.receiver ≡ true = sym (cut_off_same w v x.wire.receiver h.pipe h.pipes (λ z e. live_same x.wire.receiver z) (λ z e l. same z)) ∙ ap (is_cut_off v) (sym r) ∙ cut in
            ap (λ (z : Pipe). z.is_dropped) (sym q) ∙ same x ∙ f.cut_off x d (subst (λ m. k ≤ m) r at) (sym (h.like x).in_phase ∙ ap (λ (z : Pipe). z.in_phase) q ∙ on) before

    -- a piece of before is still expected
    pub still_expected : ((m i j : ℕ) → slice_get (slots_of (slice_get w.nodes m) i) j ≡ Some None → slice_get (slots_of (slice_get v.nodes m) i) j ≡ Some None)
        → ((x : Pipe) (j : ℕ) → slice_get x.got j ≡ Some None → slice_get (h.pipe x).got j ≡ Some None) → (q : Piece) → Contains w.outs q → IsExpected v q
    still_expected slots got q c = (
      λ keeps. slots q.node q.input q.number ((f.expected q c).0 keeps),
      λ gives p fills. let x = was_filled q.node p fills in subst (λ (z : Pipe). slice_get z.got q.gives ≡ Some None) x.2 (got x.0 q.gives ((f.expected q c).1 gives x.0 x.1)),
    )

    -- the pieces out are those of before
    pub pieces_stay : v.outs ≡ w.outs → ((m i j : ℕ) → slice_get (slots_of (slice_get w.nodes m) i) j ≡ Some None → slice_get (slots_of (slice_get v.nodes m) i) j ≡ Some None)
        → ((x : Pipe) (j : ℕ) → slice_get x.got j ≡ Some None → slice_get (h.pipe x).got j ≡ Some None) → OwesPieces w v h
    pieces_stay outs slots got =
        record {
          workers = λ q c. subst (λ (o : Rattle.ps_options.specs.declared.options.Options.Options). q.worker < o.workers) (sym h.options) (f.workers q (was q c));
          own_workers = λ i j q r a b. f.own_workers i j q r (ap (λ xs. slice_get xs i) (sym outs) ∙ a) (ap (λ xs. slice_get xs j) (sym outs) ∙ b);
          at_work = λ q c. working w v h q.node (f.at_work q (was q c));
          expected = λ q c. still_expected slots got q (was q c);
          own_numbers = λ q r p c d a b n g fills. let x = was_filled q.node p fills in f.own_numbers q r x.0 (was q c) (was r d) a b n g x.1;
          own_slots = λ q r c d. f.own_slots q r (was q c) (was r d);
        }
      where
        was : (q : Piece) → Contains v.outs q → Contains w.outs q
        was q c = subst (λ xs. Contains xs q) outs c

-- What each step of an open phase leaves of a node that is no multiplexer.
use Rattle.std.proofs.Common.{◌≡◌, ◌≢◌, ℕ, zero, suc, ◌⊎◌, Bool, true, false, cond, List, [], ◌∷◌, ◌++◌, length, Option, Some, None, refl, sym, ap, subst, ◌∙◌, inl, inr, map-id}
use Rattle.std.specs.Prelude.{Contains, get_or, map, nat_eq, not, slice_get, slice_set, ◌&&◌}
use Rattle.std.proofs.lemmas.Bool.{cases_eq}
use Rattle.ps_frame.specs.Functions.{Functions}
use Rattle.ps_frame.specs.Tables.{Row}
use Rattle.ps_meaning.specs.Shape.{PhysicalKind, negative_slice, zip_node}
use Rattle.ps_turns.specs.Claims.{Claim, filled_slot}
use Rattle.ps_turns.specs.Progress.{Progress, is_multiplexer}
use Rattle.ps_turns.specs.Pulls.{after_store}
use Rattle.ps_turns.specs.Results.{IsResult}
use Rattle.ps_turns.specs.Tasks.{Answer, Piece, bad, good, handed_of, partial}
use Rattle.ps_world.specs.Answers.{answered, with_partial, without_piece}
use Rattle.ps_world.specs.Claims.{after_claim, before_drops, claim_at, piece_of}
use Rattle.ps_world.specs.Closing.{after_close, after_end}
use Rattle.ps_world.specs.Pipes.{change_pipes, drop_at, drop_if, drops_from, is_input, put_progress, taken, with_answer, with_morsel, with_place, without_heads}
use Rattle.ps_world.specs.Pulls.{after_pull, is_open_port}
use Rattle.ps_world.specs.World.{Node, Pipe, World, bounded_out, counts_for_sender, handed_in, is_cut_off}
use Rattle.world_claims.proofs.Beside.{Before, heads_from, map_from, set_from}
use Rattle.world_claims.proofs.Claiming.{change, pipes_are}
use Rattle.world_claims.proofs.Steps.{map_map}
use Rattle.world_facts.proofs.CutOff.{both_true}
use Rattle.world_facts.proofs.Slots.{set_here, set_other}
use Rattle.world_laws.proofs.Agree.{from_map}
use Rattle.world_laws.proofs.InOrder.{contains_cases}
use Rattle.world_laws.proofs.PassingPorts.{same_number, was_kept}
use Rattle.family_pipes.proofs.Outputs.{MayCome, Onto, answers, drops_onto, drops_rest, if_onto, itself, onward, places, takes, drops}
use Rattle.world_families.specs.Work.{Leaves}

-- a claim of the node, and the piece of one
abbrev pub HasClaim : World → ℕ → Node → Type 0
HasClaim w n node = (i : ℕ) × (c : Claim) × (claim_at w n i node ≡ Some c)

abbrev pub IsClaimed : World → ℕ → Node → Piece → Type 0
IsClaimed w n node q = (i worker : ℕ) × (c : Claim) × (claim_at w n i node ≡ Some c) × (piece_of n i worker c ≡ q)

pub record StepOf (F : Functions) (w v : World) (n : ℕ) (node : Node) : Type 0 where
  pub options : v.options ≡ w.options
  pub outputs : (y : Pipe) → Leaves v n y → (x : Pipe) × Leaves w n x × Onto (MayCome F w n) x y
  pub pieces : (q : Piece) → Contains v.outs q → q.node ≡ n → Contains w.outs q ⊎ IsClaimed w n node q
  pub sent : (y : Node) → slice_get v.nodes n ≡ Some y → (y.node ≡ node.node) × ((y.progress.sent ≡ node.progress.sent) ⊎ HasClaim w n node)

-- the same node, with as many numbers
abbrev pub Sends : Node → Node → Type 0
Sends x y = (y.node ≡ x.node) × (y.progress.sent ≡ x.progress.sent)

same_sends : (x : Node) → Sends x x
same_sends x = (refl, refl)

lost_sends : (x : Node) → Sends x (without_heads x.node.kind x)
lost_sends x = by x.node.kind
  where
    by : (k : PhysicalKind) → Sends x (without_heads k x)
    by (zip_node extend) = (refl, refl)
    by k = (refl, refl)

drop_sends : (b : Bool) (k : ℕ) (u : World) (n : ℕ) (y : Node) → slice_get (drop_if b k u).nodes n ≡ Some y → Before Sends u.nodes n y
drop_sends false k u n y e = (y, e, same_sends y)
drop_sends true k u n y e = heads_from Sends same_sends lost_sends k u.nodes n y e

drops_sends : (k : ℕ) (u : World) (n : ℕ) (y : Node) → slice_get (drops_from u k).nodes n ≡ Some y → Before Sends u.nodes n y
drops_sends zero u n y e = (y, e, same_sends y)
drops_sends (suc k) u n y e =
    let z = drops_sends k (drop_at u k) n y e in
    let x = drop_sends (is_cut_off u k) k u n z.0 z.1 in
    (x.0, x.1, (z.2.0 ∙ x.2.0, z.2.1 ∙ x.2.1))

pub same_node : (w : World) (n : ℕ) (x y : Node) → slice_get w.nodes n ≡ Some x → slice_get w.nodes n ≡ Some y → x ≡ y
same_node w n x y a b = let q : Some x ≡ Some y = sym a ∙ b in cc

claims_same : (w : World) (i n m : ℕ) (x y : Node) → n ≡ m → x ≡ y → claim_at w n i x ≡ claim_at w m i y
claims_same w i n m x y same is = λ j. claim_at w (same j) i (is j)

module _ (F : Functions) (w : World) (n : ℕ) (node : Node) (there : slice_get w.nodes n ≡ Some node) (single : is_multiplexer node.node.kind ≡ false) where
  abbrev N : ℕ → List Row → Type 0
  N = MayCome F w n

  -- pipes that are those before, one by one
  from_pipes : (v : World) (g : Pipe → Pipe) → v.pipes ≡ map g w.pipes → ((x : Pipe) → Contains w.pipes x → (g x).wire.sender ≡ n → Onto N x (g x)) → (y : Pipe) → Leaves v n y → (x : Pipe) × Leaves w n x × Onto N x y
  from_pipes v g e h y l =
      let x = from_map g y w.pipes (subst (λ ps. Contains ps y) e l.0) in
      let o = h x.0 x.1 (ap (λ (p : Pipe). p.wire.sender) x.2 ∙ l.1) in
      let onto = subst (Onto N x.0) x.2 o in
      (x.0, (x.1, ap (λ u. u.sender) (sym onto.wire) ∙ l.1), onto)

  -- a node after a change of one node
  after_set : (v : World) (m : ℕ) (old new : Node) → slice_get w.nodes m ≡ Some old → v.nodes ≡ slice_set w.nodes m new → Sends old new → (y : Node) → slice_get v.nodes n ≡ Some y → (y.node ≡ node.node) × ((y.progress.sent ≡ node.progress.sent) ⊎ HasClaim w n node)
  after_set v m old new at e s y h =
      let x = set_from Sends same_sends w.nodes m old new at s n y (ap (λ ns. slice_get ns n) (sym e) ∙ h) in
      let is = same_node w n x.0 node x.1 there in
      (x.2.0 ∙ ap (λ (z : Node). z.node) is, inl (x.2.1 ∙ ap (λ (z : Node). z.progress.sent) is))

  unchanged : (v : World) → v.nodes ≡ w.nodes → (y : Node) → slice_get v.nodes n ≡ Some y → (y.node ≡ node.node) × ((y.progress.sent ≡ node.progress.sent) ⊎ HasClaim w n node)
  unchanged v e y h = let is = same_node w n y node (ap (λ ns. slice_get ns n) (sym e) ∙ h) there in (ap (λ (z : Node). z.node) is, inl (ap (λ (z : Node). z.progress.sent) is))

  -- a step that leaves all pipes
  bare_step : (v : World) → v.options ≡ w.options → v.pipes ≡ w.pipes → ((q : Piece) → Contains v.outs q → Contains w.outs q) → ((y : Node) → slice_get v.nodes n ≡ Some y → (y.node ≡ node.node) × ((y.progress.sent ≡ node.progress.sent) ⊎ HasClaim w n node)) → StepOf F w v n node
  bare_step v options pipes outs nodes =
      record { options = options; outputs = from_pipes v (λ p. p) (pipes ∙ sym (map-id w.pipes)) (λ x d s. itself N x); pieces = λ q d e. inl (outs q d); sent = nodes }

  -- A CLAIM
  module _ (m i worker : ℕ) (other : Node) (c : Claim) (at : slice_get w.nodes m ≡ Some other) (claim : claim_at w m i other ≡ Some c) where
    change_onto : (t d : Bool) (x : Pipe) → Onto N x (change w m i t d x)
    change_onto t d x =
        let a = cond t (cond (is_input m i x) (taken x) x) x in
        let A = if_onto N t x (cond (is_input m i x) (taken x) x) x (if_onto N (is_input m i x) x (taken x) x (takes N x) (itself N x)) (itself N x) in
        let r = cond (bounded_out w m a) (with_place a) a in
        let R = if_onto N (bounded_out w m a) x (with_place a) a (onward N x a (with_place a) A (places N a)) A in
        if_onto N d x (cond (is_input m i r) (record r { is_dropped = true }) r) r (if_onto N (is_input m i r) x (record r { is_dropped = true }) r (onward N x r (record r { is_dropped = true }) R (drops N r)) R) R

    abbrev taking : World
    taking = before_drops w m i worker other c

    outputs : (y : Pipe) → Leaves (after_claim w m i worker other c) n y → (x : Pipe) × Leaves w n x × Onto N x y
    outputs y l =
        let z = drops_onto N (length taking.nodes) taking y l.0 in
        let x = from_map (change w m i c.takes_morsel c.drops_input) z.0 w.pipes (subst (λ ps. Contains ps z.0) (pipes_are w m i c.takes_morsel c.drops_input) z.1) in
        let onto = onward N x.0 z.0 y (subst (Onto N x.0) x.2 (change_onto c.takes_morsel c.drops_input x.0)) z.2 in
        (x.0, (x.1, ap (λ u. u.sender) (sym onto.wire) ∙ l.1), onto)

    pieces : (q : Piece) → Contains (after_claim w m i worker other c).outs q → q.node ≡ n → Contains w.outs q ⊎ IsClaimed w n node q
    pieces q k e = by (contains_cases (piece_of m i worker c) q w.outs (subst (λ qs. Contains qs q) (drops_rest (length taking.nodes) taking).0 k))
      where
        by : (piece_of m i worker c ≡ q) ⊎ Contains w.outs q → Contains w.outs q ⊎ IsClaimed w n node q
        by (inr old) = inl old
        by (inl new) =
            let same : m ≡ n = ap (λ (p : Piece). p.node) new ∙ e in
            let is : other ≡ node = same_node w n other node (ap (slice_get w.nodes) (sym same) ∙ at) there in
            inr (i, worker, c, claims_same w i n m node other (sym same) (sym is) ∙ claim, ap (λ k. piece_of k i worker c) (sym same) ∙ new)

    sent : (y : Node) → slice_get (after_claim w m i worker other c).nodes n ≡ Some y → (y.node ≡ node.node) × ((y.progress.sent ≡ node.progress.sent) ⊎ HasClaim w n node)
    sent y e = by (drops_sends (length taking.nodes) taking n y e) (cases_eq n m)
      where
        new : Node
        new = record other { progress = c.progress }

        by : Before Sends (slice_set w.nodes m (record other { progress = c.progress })) n y → (n ≡ m) ⊎ (n ≢ m) → (y.node ≡ node.node) × ((y.progress.sent ≡ node.progress.sent) ⊎ HasClaim w n node)
        by (z, there_z, s) (inr apart) =
            let is = same_node w n z node (sym (set_other w.nodes m n (record other { progress = c.progress }) apart) ∙ there_z) there in
            (s.0 ∙ ap (λ (x : Node). x.node) is, inl (s.1 ∙ ap (λ (x : Node). x.progress.sent) is))
        by (z, there_z, s) (inl same) =
            let here : slice_get (slice_set w.nodes m (record other { progress = c.progress })) n ≡ Some (record other { progress = c.progress }) =
            ap (slice_get (slice_set w.nodes m (record other { progress = c.progress }))) same ∙ set_here w.nodes m other (record other { progress = c.progress }) at in
            let q : Some (record other { progress = c.progress }) ≡ Some z = sym here ∙ there_z in
            let z_is : record other { progress = c.progress } ≡ z = cc in
            let is : other ≡ node = same_node w n other node (ap (slice_get w.nodes) same ∙ at) there in
            (s.0 ∙ ap (λ (x : Node). x.node) (sym z_is) ∙ ap (λ (x : Node). x.node) is, inr (i, c, claims_same w i n m node other same (sym is) ∙ claim))

    pub claim_step : StepOf F w (after_claim w m i worker other c) n node
    claim_step = record { options = (drops_rest (length taking.nodes) taking).1; outputs = outputs; pieces = pieces; sent = sent }

  -- AN ANSWER
  fewer : (q x : Piece) → Contains (without_piece q w.outs) x → Contains w.outs x
  fewer q x c = (was_kept (λ (p : Piece). not (nat_eq p.worker q.worker)) x w.outs c).0

  pub answer_step : (q : Piece) (a : Answer) → Contains w.outs q → IsResult F q a → StepOf F w (answered w q a) n node
  answer_step q (good rs) c result =
      let t : Pipe → Bool = λ p. nat_eq p.wire.sender q.node && counts_for_sender w p in
      record {
        options = refl;
        outputs = from_pipes (answered w q (good rs)) (λ p. cond (t p) (with_answer q.gives rs p) p) refl (λ x k s. onto x (t x) refl s);
        pieces = λ x k e. inl (fewer q x k);
        sent = unchanged (answered w q (good rs)) refl;
      }
    where
      onto : (x : Pipe) (b : Bool) → (nat_eq x.wire.sender q.node && counts_for_sender w x) ≡ b → (cond (nat_eq x.wire.sender q.node && counts_for_sender w x) (with_answer q.gives rs x) x).wire.sender ≡ n → Onto N x (cond (nat_eq x.wire.sender q.node && counts_for_sender w x) (with_answer q.gives rs x) x)
      onto x false e s = rw e (itself N x)
      onto x true e s =
          let mine = same_number x.wire.sender q.node (both_true (nat_eq x.wire.sender q.node) (counts_for_sender w x) e).0 in
          let kept_wire : (cond (nat_eq x.wire.sender q.node && counts_for_sender w x) (with_answer q.gives rs x) x).wire.sender ≡ x.wire.sender = ap (λ b. (cond b (with_answer q.gives rs x) x).wire.sender) e ∙ answer_sender x x.is_dropped in
          let here : q.node ≡ n = sym mine ∙ sym kept_wire ∙ s in
          rw e (answers N q.gives rs (q, c, here, refl, result) x)
        where
          answer_sender : (y : Pipe) (b : Bool) → (cond b y (record y { got = slice_set y.got q.gives (Some rs) })).wire.sender ≡ y.wire.sender
          answer_sender y true = refl
          answer_sender y false = refl
  answer_step q (partial k) c result = by (slice_get w.nodes q.node) refl
    where
      by : (o : Option Node) → slice_get w.nodes q.node ≡ o → StepOf F w (record (with_partial q o w) { outs = without_piece q w.outs; journal = w.journal ++ handed_in q.node q.input q.number q.worker (handed_of (partial k)) ∷ [] }) n node
      by None e = bare_step (record w { outs = without_piece q w.outs; journal = w.journal ++ handed_in q.node q.input q.number q.worker (handed_of (partial k)) ∷ [] }) refl refl (λ x d. fewer q x d) (unchanged w refl)
      by (Some x) e =
          let new : Node = record x { progress = record x.progress { taken = filled_slot q.input q.number (get_or q.tables 0 []) x.progress.taken } } in
          let u : World = record w { nodes = slice_set w.nodes q.node new } in
          let is : u ≡ with_partial q (Some x) w = sym (λ j. put_progress (e j) q.node (record x.progress { taken = filled_slot q.input q.number (get_or q.tables 0 []) x.progress.taken }) w) in
          subst (λ z. StepOf F w (record z { outs = without_piece q w.outs; journal = w.journal ++ handed_in q.node q.input q.number q.worker (handed_of (partial k)) ∷ [] }) n node) is
          (bare_step (record u { outs = without_piece q w.outs; journal = w.journal ++ handed_in q.node q.input q.number q.worker (handed_of (partial k)) ∷ [] }) refl refl (λ z d. fewer q z d) (after_set u q.node x new e refl (refl, refl)))
  answer_step q (bad k) c result = bare_step (answered w q (bad k)) refl refl (λ x d. fewer q x d) (unchanged w refl)

  -- A PULL
  stored_sent : (b : Bool) (kind : PhysicalKind) (i : ℕ) (rs : List Row) (a : Progress) → (cond b a (after_store kind i rs a)).sent ≡ a.sent
  stored_sent true kind i rs a = refl
  stored_sent false (negative_slice back count) i rs a = refl
  stored_sent false kind i rs a = refl

  module _ (m i : ℕ) (other : Node) (p : Pipe) (rs : List Row) (at : slice_get w.nodes m ≡ Some other) where
    abbrev take : Pipe → Pipe
    take x = cond (is_input m i x) (taken x) x

    take_onto : (x : Pipe) → Onto N x (take x)
    take_onto x = if_onto N (is_input m i x) x (taken x) x (takes N x) (itself N x)

    abbrev place : Bool → Pipe → Pipe
    place b x = cond b (cond (is_open_port m (take x)) (with_morsel rs (take x)) (take x)) (take x)

    abbrev pulling : Bool → World
    pulling b =
        record (after_pull w m i other p rs) {
          nodes = slice_set w.nodes m (record other { progress = cond b other.progress (after_store other.node.kind i rs other.progress) });
          pipes = cond b (change_pipes (is_open_port m) (with_morsel rs) (change_pipes (is_input m i) taken w.pipes)) (change_pipes (is_input m i) taken w.pipes);
        }

    placed : (b : Bool) → (pulling b).pipes ≡ map (place b) w.pipes
    placed true = map_map take (λ y. cond (is_open_port m y) (with_morsel rs y) y) w.pipes
    placed false = refl

    -- a morsel goes into the ports of a multiplexer alone
    no_port : (x : Pipe) → is_multiplexer other.node.kind ≡ true → (place true x).wire.sender ≡ n → is_open_port m (take x) ≡ false
    no_port x mux s = by (is_open_port m (take x)) refl
      where
        morsel_sender : (y : Pipe) (b : Bool) → (cond b y (record y { got = y.got ++ Some rs ∷ [] })).wire.sender ≡ y.wire.sender
        morsel_sender y true = refl
        morsel_sender y false = refl

        by : (b : Bool) → is_open_port m (take x) ≡ b → b ≡ false
        by false e = refl
        by true e =
            let from : (take x).wire.sender ≡ m = same_number (take x).wire.sender m (both_true (nat_eq (take x).wire.sender m) _ e).0 in
            let here : (place true x).wire.sender ≡ (take x).wire.sender = ap (λ b. (cond b (with_morsel rs (take x)) (take x)).wire.sender) e ∙ morsel_sender (take x) (take x).is_dropped in
            let same : m ≡ n = sym from ∙ sym here ∙ s in
            let is = same_node w n other node (ap (slice_get w.nodes) (sym same) ∙ at) there in
            absurd (let never : true ≡ false = sym mux ∙ ap (λ (z : Node). is_multiplexer z.node.kind) is ∙ single in cc)

    place_onto : (b : Bool) → is_multiplexer other.node.kind ≡ b → (x : Pipe) → (place b x).wire.sender ≡ n → Onto N x (place b x)
    place_onto false e x s = take_onto x
    place_onto true e x s = rw (no_port x e s) (take_onto x)

    pull_by : (b : Bool) → is_multiplexer other.node.kind ≡ b → StepOf F w (pulling b) n node
    pull_by b e =
        record {
          options = refl;
          outputs = from_pipes (pulling b) (place b) (placed b) (λ x d s. place_onto b e x s);
          pieces = λ q d e. inl d;
          sent = after_set (pulling b) m other (record other { progress = cond b other.progress (after_store other.node.kind i rs other.progress) }) at refl (refl, stored_sent b other.node.kind i rs other.progress);
        }

    pub pull_step : StepOf F w (after_pull w m i other p rs) n node
    pull_step = pull_by (is_multiplexer other.node.kind) refl

  -- A CLOSE, AND THE END OF A PHASE
  pub close_step : (m : ℕ) (other : Node) → slice_get w.nodes m ≡ Some other → StepOf F w (after_close w m other) n node
  close_step m other at =
      record {
        options = refl;
        outputs = from_pipes (after_close w m other) (λ p. cond (nat_eq p.wire.sender m && p.in_phase) (record p { is_closed = true }) p) refl
            (λ x d s. if_onto N (nat_eq x.wire.sender m && x.in_phase) x (record x { is_closed = true }) x (record { wire = refl; unread = refl; lost = λ g. g; got = λ k rs e. inl e }) (itself N x));
        pieces = λ q d e. inl d;
        sent = after_set (after_close w m other) m other (record other { is_closed = true }) at refl (refl, refl);
      }

  pub end_step : StepOf F w (after_end w) n node
  end_step =
      record {
        options = refl;
        outputs = from_pipes (after_end w) (λ p. record p { in_phase = false; is_closed = false }) refl (λ x d s. record { wire = refl; unread = refl; lost = λ g. g; got = λ k rs e. inl e });
        pieces = λ q d e. inl d;
        sent = λ y e.
            let x = map_from Sends (λ (z : Node). record z { in_phase = false; is_closed = false }) (λ z. (refl, refl)) w.nodes n y e in
            let is = same_node w n x.0 node x.1 there in
            (x.2.0 ∙ ap (λ (z : Node). z.node) is, inl (x.2.1 ∙ ap (λ (z : Node). z.progress.sent) is));
      }

-- A pipe after a step beside the one before: its wire stays, what came stays, and only what stands in the phase is taken, gets a place or is dropped.
use Rattle.std.proofs.Common.{◌≡◌, ℕ, zero, suc, ◌+◌, ◌⊎◌, Bool, true, false, cond, List, [], ◌∷◌, ◌++◌, length, Option, Some, None, refl, sym, ap, subst, ◌∙◌, inl, inr, arith}
use Rattle.std.specs.Prelude.{Contains, get_or, map, nat_eq, not, slice_get, slice_set, ◌&&◌}
use Rattle.ps_frame.specs.Functions.{Functions}
use Rattle.ps_frame.specs.Tables.{Row, Table}
use Rattle.ps_ports.specs.Ports.{is_done}
use Rattle.ps_meaning.specs.Shape.{PhysicalKind}
use Rattle.ps_ports.specs.Wires.{Wire}
use Rattle.ps_turns.specs.Claims.{Claim, Next}
use Rattle.ps_turns.specs.Progress.{Progress, is_multiplexer}
use Rattle.ps_turns.specs.Results.{IsResult, IsResultOf}
use Rattle.ps_turns.specs.Tasks.{Answer, Piece, Task, bad, computes, gives_last, gives_part, good, hands_on, keeps, partial, probes}
use Rattle.ps_world.specs.Answers.{answered, with_partial}
use Rattle.ps_world.specs.Claims.{after_claim, before_drops, claim_at, inputs_in_phase, next_morsel}
use Rattle.ps_world.specs.Closing.{after_close, after_end}
use Rattle.ps_world.specs.Facts.{Facts, keeps_one}
use Rattle.ps_world.specs.Pipes.{change_pipes, drop_at, drop_if, dropped_pipe, drops_from, is_input, put_progress, taken, with_answer, with_morsel, with_place}
use Rattle.ps_world.specs.Pulls.{after_pull, is_open_port}
use Rattle.ps_world.specs.World.{Node, Pipe, World, bounded_out, counts_for_sender, has_next, heads_of, inputs_done, is_bounded, is_cut_off, schemas_for}
use Rattle.world_claims.proofs.Claiming.{change, fits_whole, pipes_are}
use Rattle.world_claims.proofs.Forms.{Form, form, gives_last as last_form, gives_own, gives_union, keeps_slot, passes_on}
use Rattle.world_claims.proofs.Steps.{map_map}
use Rattle.world_claims.specs.Numbering.{Known}
use Rattle.world_facts.proofs.CutOff.{and_true, both_true}
use Rattle.world_facts.proofs.HandedIn.{length_set}
use Rattle.world_facts.proofs.Taken.{next_slot}
use Rattle.world_laws.proofs.Agree.{from_map}
use Rattle.world_laws.proofs.PassingPorts.{same_number}
use Rattle.passing_runs.proofs.Slots.{Fills, fills_more, fills_same, fills_set}

pub record Goes (Takes Musts : Pipe → Type 0) (x y : Pipe) : Type 0 where
  pub wire : y.wire ≡ x.wire
  pub unread : y.is_unread ≡ x.is_unread
  pub kept : x.is_dropped ≡ true → y.is_dropped ≡ true
  pub lost : y.is_dropped ≡ true → (x.is_dropped ≡ true) ⊎ (x.in_phase ≡ true)
  -- the next morsel is taken: of which pipes that may be, and of which it surely is
  pub next : (y.next ≡ x.next) ⊎ (y.next ≡ suc x.next) × Takes x
  pub surely : Musts x → y.next ≡ suc x.next
  pub got : Fills x.got y.got
  pub longer : (length y.got ≡ length x.got) ⊎ (x.in_phase ≡ true) ⊎ (is_done x.wire.receive_state ≡ false)
  pub mark : (y.in_phase ≡ x.in_phase) ⊎ (y.in_phase ≡ false)

-- each pipe of a world stood in the one before
abbrev pub GoesOn : (Takes Musts : Pipe → Type 0) → World → World → Type 0
GoesOn Takes Musts w v = (y : Pipe) → Contains v.pipes y → (x : Pipe) × Contains w.pipes x × Goes Takes Musts x y

abbrev pub NoneTaken : Pipe → Type 0
NoneTaken x = ⊥

-- the morsel of an input of a node, where one is taken
abbrev pub IsTakenBy : ℕ → ℕ → Bool → Pipe → Type 0
IsTakenBy m i takes x = (takes ≡ true) × (is_input m i x ≡ true)

-- the next morsel of an input of a node is there
abbrev pub IsTakenOf : ℕ → ℕ → Pipe → Type 0
IsTakenOf m i x = (is_input m i x ≡ true) × ((rs : List Row) × (slice_get x.got x.next ≡ Some (Some rs))) × (x.in_phase ≡ true)

pub stays : (Takes : Pipe → Type 0) (x : Pipe) → Goes Takes NoneTaken x x
stays Takes x = record { wire = refl; unread = refl; kept = λ d. d; lost = inl; next = inl refl; surely = λ t. absurd t; got = fills_same x.got; longer = inl refl; mark = inl refl }

-- that it is taken for sure is left out where nothing says so
pub for_sure : (Takes Musts : Pipe → Type 0) (x y : Pipe) → Goes Takes NoneTaken x y → (Musts x → y.next ≡ suc x.next) → Goes Takes Musts x y
for_sure Takes Musts x y g s = record { wire = g.wire; unread = g.unread; kept = g.kept; lost = g.lost; next = g.next; surely = s; got = g.got; longer = g.longer; mark = g.mark }

stays_if : (b : Bool) (x y : Pipe) → (b ≡ true → Goes NoneTaken NoneTaken x y) → Goes NoneTaken NoneTaken x (cond b y x)
stays_if true x y h = h refl
stays_if false x y h = stays NoneTaken x

-- the same pipes, one by one
pub by_pipes : (Takes Musts : Pipe → Type 0) (w v : World) (g : Pipe → Pipe) → v.pipes ≡ map g w.pipes → ((x : Pipe) → Contains w.pipes x → Goes Takes Musts x (g x)) → GoesOn Takes Musts w v
by_pipes Takes Musts w v g e h y c = let x = from_map g y w.pipes (subst (λ ps. Contains ps y) e c) in (x.0, x.1, subst (Goes Takes Musts x.0) x.2 (h x.0 x.1))

pub same_pipes : (w v : World) → v.pipes ≡ w.pipes → GoesOn NoneTaken NoneTaken w v
same_pipes w v e y c = (y, subst (λ ps. Contains ps y) e c, stays NoneTaken y)

-- DROPS
record Drops (x y : Pipe) : Type 0 where
  wire : y.wire ≡ x.wire
  unread : y.is_unread ≡ x.is_unread
  kept : x.is_dropped ≡ true → y.is_dropped ≡ true
  lost : y.is_dropped ≡ true → (x.is_dropped ≡ true) ⊎ (x.in_phase ≡ true)
  next : y.next ≡ x.next
  got : y.got ≡ x.got
  mark : y.in_phase ≡ x.in_phase

drops_none : (x : Pipe) → Drops x x
drops_none x = record { wire = refl; unread = refl; kept = λ d. d; lost = inl; next = refl; got = refl; mark = refl }

drop_one : (b : Bool) (x : Pipe) → (b ≡ true → x.in_phase ≡ true) → Drops x (cond b (dropped_pipe x) x)
drop_one true x on = record { wire = refl; unread = refl; kept = λ d. refl; lost = λ d. inr (on refl); next = refl; got = refl; mark = refl }
drop_one false x on = drops_none x

drop_then : (x y z : Pipe) → Drops x y → Drops y z → Drops x z
drop_then x y z a b =
    record { wire = b.wire ∙ a.wire; unread = b.unread ∙ a.unread; kept = λ d. b.kept (a.kept d); lost = λ d. by (b.lost d); next = b.next ∙ a.next; got = b.got ∙ a.got; mark = b.mark ∙ a.mark }
  where
    by : (y.is_dropped ≡ true) ⊎ (y.in_phase ≡ true) → (x.is_dropped ≡ true) ⊎ (x.in_phase ≡ true)
    by (inl d) = a.lost d
    by (inr on) = inr (sym a.mark ∙ on)

drop_at_goes : (b : Bool) (n : ℕ) (u : World) (y : Pipe) → Contains (drop_if b n u).pipes y → (x : Pipe) × Contains u.pipes x × Drops x y
drop_at_goes false n u y c = (y, c, drops_none y)
drop_at_goes true n u y c =
    let x = from_map (λ (p : Pipe). cond (nat_eq p.wire.receiver n && p.in_phase) (dropped_pipe p) p) y u.pipes c in
    (x.0, x.1, subst (Drops x.0) x.2 (drop_one (nat_eq x.0.wire.receiver n && x.0.in_phase) x.0 (λ e. (both_true (nat_eq x.0.wire.receiver n) x.0.in_phase e).1)))

drops_go : (k : ℕ) (u : World) (y : Pipe) → Contains (drops_from u k).pipes y → (x : Pipe) × Contains u.pipes x × Drops x y
drops_go zero u y c = (y, c, drops_none y)
drops_go (suc k) u y c =
    let z = drops_go k (drop_at u k) y c in
    let x = drop_at_goes (is_cut_off u k) k u z.0 z.1 in
    (x.0, x.1, drop_then x.0 z.0 y x.2 z.2)

then_drops : (Takes Musts : Pipe → Type 0) (x y z : Pipe) → Goes Takes Musts x y → Drops y z → Goes Takes Musts x z
then_drops Takes Musts x y z a b =
    record {
      wire = b.wire ∙ a.wire;
      unread = b.unread ∙ a.unread;
      kept = λ d. b.kept (a.kept d);
      lost = λ d. by (b.lost d) a.mark;
      next = next a.next;
      surely = λ s. b.next ∙ a.surely s;
      got = subst (Fills x.got) (sym b.got) a.got;
      longer = longer a.longer;
      mark = mark a.mark;
    }
  where
    by : (y.is_dropped ≡ true) ⊎ (y.in_phase ≡ true) → (y.in_phase ≡ x.in_phase) ⊎ (y.in_phase ≡ false) → (x.is_dropped ≡ true) ⊎ (x.in_phase ≡ true)
    by (inl d) m = a.lost d
    by (inr on) (inl m) = inr (sym m ∙ on)
    by (inr on) (inr off) = absurd (let no : true ≡ false = sym on ∙ off in cc)

    next : (y.next ≡ x.next) ⊎ (y.next ≡ suc x.next) × Takes x → (z.next ≡ x.next) ⊎ (z.next ≡ suc x.next) × Takes x
    next (inl e) = inl (b.next ∙ e)
    next (inr (e, t)) = inr (b.next ∙ e, t)

    longer : (length y.got ≡ length x.got) ⊎ (x.in_phase ≡ true) ⊎ (is_done x.wire.receive_state ≡ false) → (length z.got ≡ length x.got) ⊎ (x.in_phase ≡ true) ⊎ (is_done x.wire.receive_state ≡ false)
    longer (inl e) = inl (ap length b.got ∙ e)
    longer (inr h) = inr h

    mark : (y.in_phase ≡ x.in_phase) ⊎ (y.in_phase ≡ false) → (z.in_phase ≡ x.in_phase) ⊎ (z.in_phase ≡ false)
    mark (inl e) = inl (b.mark ∙ e)
    mark (inr off) = inr (b.mark ∙ off)

-- A CLAIM
-- what drops its input takes a morsel of it
drops_takes : (kind : PhysicalKind) (a : Progress) (d : Bool) (i : ℕ) (next : Next) (c : Claim) → Form kind a d i next c → c.drops_input ≡ true → c.takes_morsel ≡ true
drops_takes kind a d i next c (gives_own k t g n s l m r v) e = absurd (let no : true ≡ false = sym e ∙ r in cc)
drops_takes kind a d i next c (gives_union k m e2 g n s l t r v) e = absurd (let no : true ≡ false = sym e ∙ r in cc)
drops_takes kind a d i next c (passes_on k t m e2 g n l s x r y v) e = x
drops_takes kind a d i next c (keeps_slot t k z m e2 n y s x r) e = absurd (let no : true ≡ false = sym e ∙ r in cc)
drops_takes kind a d i next c (last_form j k f t y g n z s l m r v) e = absurd (let no : true ≡ false = sym e ∙ r in cc)

module _ (F : Functions) (w : World) (known : Known F w) where
  f : Facts F w
  f = known.facts

  module _ (m i worker : ℕ) (node : Node) (c : Claim) (at : slice_get w.nodes m ≡ Some node) (on : (w.is_open && (node.in_phase && not node.is_closed)) ≡ true) (is : claim_at w m i node ≡ Some c) where
    -- a morsel that it takes
    record Source (x : Pipe) : Type 0 where
      in_phase : x.in_phase ≡ true
      slot : (rs : List Row) × (slice_get x.got x.next ≡ Some (Some rs))

    source : c.takes_morsel ≡ true → (x : Pipe) → Contains w.pipes x → is_input m i x ≡ true → Source x
    source t x cx here =
        let p = (fits_whole F w known.facts known.numbers known.outs m i node at on c is).takes t in
        let a = both_true (nat_eq p.0.wire.receiver m) (nat_eq p.0.wire.input i) p.2 in
        let b = both_true (nat_eq x.wire.receiver m) (nat_eq x.wire.input i) here in
        let same = f.one_input p.0 x p.1 cx (same_number p.0.wire.receiver m a.0 ∙ sym (same_number x.wire.receiver m b.0)) (same_number p.0.wire.input i a.1 ∙ sym (same_number x.wire.input i b.1)) in
        subst Source same (record { in_phase = p.3; slot = (next_slot p.0 p.4).1 })

    takes_too : c.drops_input ≡ true → c.takes_morsel ≡ true
    takes_too d = drops_takes node.node.kind node.progress (get_or (inputs_done w m) 0 false) i (next_morsel (inputs_in_phase w m i)) c (form w.options node.node (schemas_for w node) node.progress (heads_of w m node) (inputs_done w m) i (next_morsel (inputs_in_phase w m i)) c node.node.kind is) d

    abbrev T : Pipe → Type 0
    T = IsTakenOf m i

    abbrev M : Pipe → Type 0
    M = IsTakenBy m i c.takes_morsel

    take_goes : (t a : Bool) (x : Pipe) → c.takes_morsel ≡ t → is_input m i x ≡ a → Contains w.pipes x → Goes T M x (cond t (cond a (taken x) x) x)
    take_goes true true x e h cx = let more : x.next + 1 ≡ suc x.next = omega arith in record { wire = refl; unread = refl; kept = λ d. d; lost = inl; next = inr (more, (h, (source e x cx h).slot, (source e x cx h).in_phase)); surely = λ s. more; got = fills_same x.got; longer = inl refl; mark = inl refl }
    take_goes true false x e h cx = for_sure T M x x (stays T x) (λ s. absurd (let no : false ≡ true = sym h ∙ s.1 in cc))
    take_goes false a x e h cx = for_sure T M x x (stays T x) (λ s. absurd (let no : false ≡ true = sym e ∙ s.0 in cc))

    place_goes : (b : Bool) (x y : Pipe) → Goes T M x y → y.got ≡ x.got → (b ≡ true → x.in_phase ≡ true) → Goes T M x (cond b (with_place y) y)
    place_goes false x y g same on = g
    place_goes true x y g same on =
        record { wire = g.wire; unread = g.unread; kept = g.kept; lost = g.lost; next = g.next; surely = g.surely; got = subst (λ xs. Fills x.got (xs ++ None ∷ [])) (sym same) (fills_more x.got (None ∷ [])); longer = inr (inl (on refl)); mark = g.mark }

    drop_goes : (d a : Bool) (x y : Pipe) → Goes T M x y → (d ≡ true → a ≡ true → x.in_phase ≡ true) → Goes T M x (cond d (cond a (dropped_pipe y) y) y)
    drop_goes false a x y g on = g
    drop_goes true false x y g on = g
    drop_goes true true x y g on = record { wire = g.wire; unread = g.unread; kept = λ d. refl; lost = λ d. inr (on refl refl); next = g.next; surely = g.surely; got = g.got; longer = g.longer; mark = g.mark }

    taken_got : (t a : Bool) (x : Pipe) → (cond t (cond a (taken x) x) x).got ≡ x.got
    taken_got true true x = refl
    taken_got true false x = refl
    taken_got false a x = refl

    taken_bounded : (t a : Bool) (x : Pipe) → bounded_out w m (cond t (cond a (taken x) x) x) ≡ bounded_out w m x
    taken_bounded true true x = refl
    taken_bounded true false x = refl
    taken_bounded false a x = refl

    placed_input : (b : Bool) (y : Pipe) → is_input m i (cond b (with_place y) y) ≡ is_input m i y
    placed_input true y = refl
    placed_input false y = refl

    taken_input : (t a : Bool) (x : Pipe) → is_input m i (cond t (cond a (taken x) x) x) ≡ is_input m i x
    taken_input true true x = refl
    taken_input true false x = refl
    taken_input false a x = refl

    bounded_in_phase : (x : Pipe) → bounded_out w m x ≡ true → x.in_phase ≡ true
    bounded_in_phase x e = (both_true x.in_phase (is_bounded w x && not x.is_dropped) (both_true (nat_eq x.wire.sender m) (x.in_phase && (is_bounded w x && not x.is_dropped)) e).1).0

    pub change_goes : (x : Pipe) → Contains w.pipes x → Goes T M x (change w m i c.takes_morsel c.drops_input x)
    change_goes x cx =
        let y = cond c.takes_morsel (cond (is_input m i x) (taken x) x) x in
        let z = cond (bounded_out w m y) (with_place y) y in
        let took = take_goes c.takes_morsel (is_input m i x) x refl refl cx in
        let placed = place_goes (bounded_out w m y) x y took (taken_got c.takes_morsel (is_input m i x) x) (λ e. bounded_in_phase x (sym (taken_bounded c.takes_morsel (is_input m i x) x) ∙ e)) in
        drop_goes c.drops_input (is_input m i z) x z placed
        (λ d e. (source (takes_too d) x cx (sym (taken_input c.takes_morsel (is_input m i x) x) ∙ sym (placed_input (bounded_out w m y) y) ∙ e)).in_phase)

    abbrev start : World
    start = before_drops w m i worker node c

    pub before_goes : GoesOn T M w start
    before_goes = by_pipes T M w start (change w m i c.takes_morsel c.drops_input) (pipes_are w m i c.takes_morsel c.drops_input) change_goes

    pub claim_goes : GoesOn T M w (after_claim w m i worker node c)
    claim_goes y cy =
        let z = drops_go (length start.nodes) start y cy in
        let x = before_goes z.0 z.1 in
        (x.0, x.1, then_drops T M x.0 z.0 y x.2 z.2)

  -- AN ANSWER
  gives_rows : (task : Task) (i : ℕ) (ts : List Table) (tables : List (List Row)) (rs : List Row) → IsResultOf F task i ts tables (good rs) → keeps_one task ≡ false
  gives_rows hands_on i ts tables rs r = refl
  gives_rows (computes x) i ts tables rs r = refl
  gives_rows (keeps x) i ts tables rs r = absurd r
  gives_rows (gives_part x keys) i ts tables rs r = refl
  gives_rows (probes x j) i ts tables rs r = refl
  gives_rows (gives_last x j) i ts tables rs r = refl

  module _ (q : Piece) (cq : Contains w.outs q) where
    abbrev pub hits : Pipe → Bool
    hits x = nat_eq x.wire.sender q.node && counts_for_sender w x

    pub awaits : (rs : List Row) → IsResult F q (good rs) → (x : Pipe) → Contains w.pipes x → hits x ≡ true → x.is_dropped ≡ false → slice_get x.got q.gives ≡ Some None
    awaits rs result x cx e d =
        let b = both_true (nat_eq x.wire.sender q.node) (counts_for_sender w x) e in
        (f.expected q cq).1 (gives_rows q.task q.input _ q.tables rs result) x (cx, same_number x.wire.sender q.node b.0, and_true (counts_for_sender w x) (not x.is_dropped) b.1 (ap not d))

    put_goes : (rs : List Row) (x : Pipe) (h d : Bool) → x.is_dropped ≡ d → (h ≡ true → d ≡ false → slice_get x.got q.gives ≡ Some None) → Goes NoneTaken NoneTaken x (cond h (cond d x (record x { got = slice_set x.got q.gives (Some rs) })) x)
    put_goes rs x false d e empty = stays NoneTaken x
    put_goes rs x true true e empty = stays NoneTaken x
    put_goes rs x true false e empty = record { wire = refl; unread = refl; kept = λ k. k; lost = inl; next = inl refl; surely = λ s. absurd s; got = fills_set x.got q.gives rs (empty refl refl); longer = inl (length_set x.got q.gives (Some rs)); mark = inl refl }

    pub answer_goes : (a : Answer) → IsResult F q a → GoesOn NoneTaken NoneTaken w (answered w q a)
    answer_goes (good rs) result =
        by_pipes NoneTaken NoneTaken w (answered w q (good rs)) (λ p. cond (hits p) (with_answer q.gives rs p) p) refl (λ x cx. put_goes rs x (hits x) x.is_dropped refl (λ h d. awaits rs result x cx h d))
    answer_goes (partial n) result = same_pipes w (answered w q (partial n)) (kept_pipes (slice_get w.nodes q.node))
      where
        put_pipes : (o : Option Node) (k : ℕ) (progress : Progress) (u : World) → (put_progress o k progress u).pipes ≡ u.pipes
        put_pipes None k progress u = refl
        put_pipes (Some node) k progress u = refl

        kept_pipes : (o : Option Node) → (with_partial q o w).pipes ≡ w.pipes
        kept_pipes None = refl
        kept_pipes (Some node) = put_pipes (slice_get w.nodes q.node) q.node _ w
    answer_goes (bad k) result = same_pipes w (answered w q (bad k)) refl

  -- A PULL
  module _ (m i : ℕ) (node : Node) (p : Pipe) (rs : List Row) (cp : Contains w.pipes p) (input : (is_input m i p && p.in_phase) ≡ true) (has : has_next p ≡ true) where
    pulls_of : (x : Pipe) → Contains w.pipes x → is_input m i x ≡ true → IsTakenOf m i x
    pulls_of x cx here =
        let k = both_true (is_input m i p) p.in_phase input in
        let a = both_true (nat_eq p.wire.receiver m) (nat_eq p.wire.input i) k.0 in
        let b = both_true (nat_eq x.wire.receiver m) (nat_eq x.wire.input i) here in
        let same = f.one_input p x cp cx (same_number p.wire.receiver m a.0 ∙ sym (same_number x.wire.receiver m b.0)) (same_number p.wire.input i a.1 ∙ sym (same_number x.wire.input i b.1)) in
        subst (IsTakenOf m i) same (k.0, (next_slot p has).1, k.1)

    pull_takes : (a : Bool) (x : Pipe) → Contains w.pipes x → is_input m i x ≡ a → Goes (IsTakenOf m i) (IsTakenBy m i true) x (cond a (taken x) x)
    pull_takes true x cx h = let more : x.next + 1 ≡ suc x.next = omega arith in record { wire = refl; unread = refl; kept = λ d. d; lost = inl; next = inr (more, pulls_of x cx h); surely = λ s. more; got = fills_same x.got; longer = inl refl; mark = inl refl }
    pull_takes false x cx h = for_sure (IsTakenOf m i) (IsTakenBy m i true) x x (stays (IsTakenOf m i) x) (λ s. absurd (let no : false ≡ true = sym h ∙ s.1 in cc))

    took_got : (a : Bool) (x : Pipe) → (cond a (taken x) x).got ≡ x.got
    took_got true x = refl
    took_got false x = refl

    more_goes : (x y : Pipe) (b d : Bool) → y.is_dropped ≡ d → Goes (IsTakenOf m i) (IsTakenBy m i true) x y → y.got ≡ x.got → (b ≡ true → is_done x.wire.receive_state ≡ false) → Goes (IsTakenOf m i) (IsTakenBy m i true) x (cond b (cond d y (record y { got = y.got ++ Some rs ∷ [] })) y)
    more_goes x y false d e g same begun = g
    more_goes x y true true e g same begun = g
    more_goes x y true false e g same begun =
        record { wire = g.wire; unread = g.unread; kept = g.kept; lost = g.lost; next = g.next; surely = g.surely; got = subst (λ xs. Fills x.got (xs ++ Some rs ∷ [])) (sym same) (fills_more x.got (Some rs ∷ [])); longer = inr (inr (begun refl)); mark = g.mark }

    not_false : (b : Bool) → not b ≡ true → b ≡ false
    not_false true e = absurd (let no : false ≡ true = e in cc)
    not_false false e = refl

    abbrev took : Pipe → Pipe
    took x = cond (is_input m i x) (taken x) x

    got_goes : (b : Bool) (x : Pipe) → Contains w.pipes x → Goes (IsTakenOf m i) (IsTakenBy m i true) x (cond b (cond (is_open_port m (took x)) (with_morsel rs (took x)) (took x)) (took x))
    got_goes false x cx = pull_takes (is_input m i x) x cx refl
    got_goes true x cx =
        let g = pull_takes (is_input m i x) x cx refl in
        more_goes x (took x) (is_open_port m (took x)) (took x).is_dropped refl g (took_got (is_input m i x) x)
        (λ e.
        let a = both_true (nat_eq (took x).wire.sender m) (not (is_done (took x).wire.receive_state) && not (took x).is_dropped) e in
        ap (λ (u : Wire). is_done u.receive_state) (sym g.wire) ∙ not_false (is_done (took x).wire.receive_state) (both_true (not (is_done (took x).wire.receive_state)) (not (took x).is_dropped) a.1).0)

    pipes_by : (b : Bool) → cond b (change_pipes (is_open_port m) (with_morsel rs) (change_pipes (is_input m i) taken w.pipes)) (change_pipes (is_input m i) taken w.pipes) ≡ map (λ x. cond b (cond (is_open_port m (took x)) (with_morsel rs (took x)) (took x)) (took x)) w.pipes
    pipes_by true = map_map took (λ y. cond (is_open_port m y) (with_morsel rs y) y) w.pipes
    pipes_by false = refl

    pub pull_goes : GoesOn (IsTakenOf m i) (IsTakenBy m i true) w (after_pull w m i node p rs)
    pull_goes =
        by_pipes (IsTakenOf m i) (IsTakenBy m i true) w (after_pull w m i node p rs) (λ x. cond (is_multiplexer node.node.kind) (cond (is_open_port m (took x)) (with_morsel rs (took x)) (took x)) (took x)) (pipes_by (is_multiplexer node.node.kind)) (got_goes (is_multiplexer node.node.kind))

  -- A CLOSE, AND THE END OF A PHASE
  pub close_goes : (m : ℕ) (node : Node) → GoesOn NoneTaken NoneTaken w (after_close w m node)
  close_goes m node =
      by_pipes NoneTaken NoneTaken w (after_close w m node) (λ p. cond (nat_eq p.wire.sender m && p.in_phase) (record p { is_closed = true }) p) refl
      (λ x cx. stays_if (nat_eq x.wire.sender m && x.in_phase) x (record x { is_closed = true }) (λ e. record { wire = refl; unread = refl; kept = λ d. d; lost = inl; next = inl refl; surely = λ s. absurd s; got = fills_same x.got; longer = inl refl; mark = inl refl }))

  pub end_goes : GoesOn NoneTaken NoneTaken w (after_end w)
  end_goes =
      by_pipes NoneTaken NoneTaken w (after_end w) (λ (p : Pipe). record p { in_phase = false; is_closed = false }) refl
      (λ x cx. record { wire = refl; unread = refl; kept = λ d. d; lost = inl; next = inl refl; surely = λ s. absurd s; got = fills_same x.got; longer = inl refl; mark = inr refl })

-- A node that is closed in its phase has given all that is its own, or is cut off. So where a phase ends, a source of that phase has no number left to claim.
use Rattle.std.proofs.Common.{◌≡◌, ◌≢◌, ℕ, zero, suc, ◌≤◌, ◌⊎◌, Bool, true, false, cond, List, [], ◌∷◌, length, Some, None, refl, sym, ap, subst, ◌∙◌, inl, inr, arith}
use Rattle.std.specs.Prelude.{Contains, IsFalse, IsTrue, map, nat_eq, not, option_map, slice_get, slice_set, ◌&&◌, ◌||◌}
use Rattle.std.specs.List.{list_all, list_any}
use Rattle.std.proofs.lemmas.Bool.{cases_eq, or_right}
use Rattle.std.proofs.lemmas.Option.{slice_get-map}
use Rattle.ps_frame.specs.Causes.{is_empty}
use Rattle.ps_frame.specs.Functions.{Functions}
use Rattle.ps_frame.specs.Tables.{Fields}
use Rattle.ps_meaning.specs.Shape.{PhysicalKind, PhysicalNode, Shape, equi_join, in_memory_join, in_memory_source, independent_select, ordered_union, zip_node}
use Rattle.ps_meaning.specs.Sound.{HasInputs, IsSound}
use Rattle.ps_options.specs.declared.options.Options.{Options}
use Rattle.ps_ports.specs.Ports.{is_done}
use Rattle.ps_turns.specs.Claims.{Claim, Next, claim_by}
use Rattle.ps_turns.specs.Cuts.{is_exhausted}
use Rattle.ps_turns.specs.Heads.{Head}
use Rattle.ps_turns.specs.Progress.{Progress}
use Rattle.ps_world.specs.Claims.{claim_at, inputs_in_phase, next_morsel}
use Rattle.ps_world.specs.Closing.{HasFinished}
use Rattle.ps_world.specs.Facts.{Facts}
use Rattle.ps_world.specs.Opening.{Reaches, fresh_node, opening}
use Rattle.ps_world.specs.Phases.{after_open, blockers_in, nodes_of_phase}
use Rattle.ps_world.specs.Promises.{ClaimsAll}
use Rattle.ps_world.specs.Step.{Opens, Replays, Steps, breaks, settles}
use Rattle.ps_world.specs.World.{Node, Pipe, Record, World, claimed, closed, counts_for_sender, ended, handed_in, heads_of, inputs_done, is_cut_off, multiplexes, opened, pulled, room, schemas_for, shape_of}
use Rattle.world_facts.proofs.CutOff.{both_true, cut_all, cut_is, cut_some, goes_live, its_number, same_number, and_true}
use Rattle.world_facts.proofs.Follows.{multiplexes_by, shows}
use Rattle.world_facts.proofs.HandedIn.{contains_of}
use Rattle.world_facts.proofs.Slots.{set_here, set_other}
use Rattle.world_facts.proofs.UpdatedKeeps.{updates_keep_facts}
use Rattle.world_facts.proofs.Wiring.{each_of}
use Rattle.world_laws.proofs.Agree.{from_map}
use Rattle.world_laws.proofs.InOrder.{contains_first, contains_later, contains_map, list_any-contains}
use Rattle.world_laws.proofs.Shapes.{step_keeps}
use Rattle.world_claims.proofs.Beside.{Before, map_from, marked_from}
use Rattle.world_claims.proofs.ReachedFacts.{known_opening, known_reached, known_step}
use Rattle.world_claims.specs.Numbering.{Known}
use Rattle.world_bounds.proofs.Nodes.{AllGo, claim_goes, hand_in_goes, pull_goes}
use Rattle.world_bounds.proofs.Pipes.{GoOn, step_pipes}
use Rattle.world_bounds.proofs.Rooms.{step_options}

-- WHAT IS CUT OFF STAYS SO
all_from : {A : Type 0} (t : A → Bool) (xs : List A) → ((x : A) → Contains xs x → t x ≡ true) → list_all t xs ≡ true
all_from t [] h = refl
all_from t (x ∷ xs) h = let here = h x (contains_first x xs) in let rest = all_from t xs (λ y c. h y (contains_later x y xs c)) in and_true (t x) (list_all t xs) here rest

module _ (w v : World) (h : GoOn (shape_of w) (room w) w.pipes v.pipes) (shape : shape_of v ≡ shape_of w) (n : ℕ) where
  live_same : (x : Pipe) → Contains w.pipes x → goes_live v n (h.pipe x) ≡ goes_live w n x
  live_same x c =
      let wire = (h.like x c).wire in
      let phase = (h.like x c).in_phase in
      let many = multiplexes_by v x.wire.sender ∙ ap (λ s. shows (slice_get s x.wire.sender)) shape ∙ sym (multiplexes_by w x.wire.sender) in
      (λ i. nat_eq (wire i).sender n && (phase i || (multiplexes (slice_get v.nodes (wire i).sender) && not (is_done (wire i).receive_state))))
      ∙ (λ i. nat_eq x.wire.sender n && (x.in_phase || (many i && not (is_done x.wire.receive_state))))

  pub cut_stays : is_cut_off w n ≡ true → is_cut_off v n ≡ true
  cut_stays cut = cut_is v n ∙ and_true (list_any (goes_live v n) v.pipes) (list_all (λ p. not (goes_live v n p) || p.is_dropped) v.pipes) some all
    where
      some : list_any (goes_live v n) v.pipes ≡ true
      some =
          let p = cut_some w n cut in
          let live : goes_live w n p.0 ≡ true = and_true (nat_eq p.0.wire.sender n) (counts_for_sender w p.0) (its_number p.0.wire.sender n p.2) p.3 in
          list_any-contains (goes_live v n) (h.pipe p.0) v.pipes (subst (λ ps. Contains ps (h.pipe p.0)) (sym h.pipes) (contains_map h.pipe p.0 w.pipes p.1)) (live_same p.0 p.1 ∙ live)

      of : (x : Pipe) → Contains w.pipes x → (b : Bool) → goes_live w n x ≡ b → (not (goes_live v n (h.pipe x)) || (h.pipe x).is_dropped) ≡ true
      of x c false e = ap (λ b. not b || (h.pipe x).is_dropped) (live_same x c ∙ e)
      of x c true e =
          let parts = both_true (nat_eq x.wire.sender n) (counts_for_sender w x) e in
          or_right (not (goes_live v n (h.pipe x))) (h.pipe x).is_dropped ((h.like x c).dropped (cut_all w n cut x c (same_number x.wire.sender n parts.0) parts.1))

      all : list_all (λ p. not (goes_live v n p) || p.is_dropped) v.pipes ≡ true
      all = all_from (λ p. not (goes_live v n p) || p.is_dropped) v.pipes (λ p c. let x = from_map h.pipe p w.pipes (subst (λ ps. Contains ps p) h.pipes c) in subst (λ (y : Pipe). (not (goes_live v n y) || y.is_dropped) ≡ true) x.2 (of x.0 x.1 (goes_live w n x.0) refl))

-- WHAT A NODE WITHOUT INPUTS HAS LEFT
abbrev pub gave_all : Options → PhysicalKind → (sent : ℕ) → Bool
gave_all o (in_memory_source t) sent = is_exhausted o t.rows sent
gave_all o (independent_select es) sent = not (nat_eq sent 0)
gave_all o kind sent = true

none_left : (b : Bool) (x : Claim) → cond b None (Some x) ≡ None → b ≡ true
none_left true x e = refl
none_left false x e = absurd (let no : Some x ≡ None = e in cc)

left_none : (b : Bool) (x : Claim) → b ≡ true → cond b None (Some x) ≡ None
left_none true x e = refl
left_none false x e = absurd (let no : false ≡ true = e in cc)

none_first : (b : Bool) (x : Claim) → cond b (Some x) None ≡ None → not b ≡ true
none_first false x e = refl
none_first true x e = absurd (let no : Some x ≡ None = e in cc)

first_none : (b : Bool) (x : Claim) → not b ≡ true → cond b (Some x) None ≡ None
first_none false x e = refl
first_none true x e = absurd (let no : false ≡ true = e in cc)

module _ (o : Options) (p : PhysicalNode) (ss : List Fields) (a : Progress) (hs : List Head) (ds : List Bool) (next : Next) where
  gave : (kind : PhysicalKind) → claim_by o p ss kind a hs ds 0 next ≡ None → gave_all o kind a.sent ≡ true
  gave (in_memory_source t) e = none_left (is_exhausted o t.rows a.sent) _ e
  gave (independent_select es) e = none_first (nat_eq a.sent 0) _ e
  gave kind e = refl

  no_claim : (kind : PhysicalKind) → HasInputs kind 0 → gave_all o kind a.sent ≡ true → claim_by o p ss kind a hs ds 0 next ≡ None
  no_claim (in_memory_source t) k e = left_none (is_exhausted o t.rows a.sent) _ e
  no_claim (independent_select es) k e = first_none (nat_eq a.sent 0) _ e
  no_claim ordered_union k e = absurd (let no : 1 ≤ 0 = k in omega (arith, no))
  no_claim (zip_node extend) k e = absurd (let no : 1 ≤ 0 = k in omega (arith, no))
  no_claim (equi_join j) k e = absurd (let no : 0 ≡ 2 = k in omega (arith, no))
  no_claim (in_memory_join j) k e = absurd (let no : 0 ≡ 2 = k in omega (arith, no))
  no_claim kind k e = absurd (let no : 0 ≡ 1 = k in omega (arith, no))

abbrev IsSpent : World → ℕ → Node → Type 0
IsSpent w n x = (gave_all w.options x.node.kind x.progress.sent ≡ true) ⊎ (is_cut_off w n ≡ true)

abbrev pub ClosedAreSpent : World → Type 0
ClosedAreSpent w = (n : ℕ) (x : Node) → slice_get w.nodes n ≡ Some x → x.is_closed ≡ true → IsSpent w n x

-- CLAIMS, HAND-INS AND PULLS
spent_on : (w v : World) (n : ℕ) (x y : Node) → v.options ≡ w.options → y.node ≡ x.node → y.progress.sent ≡ x.progress.sent → (is_cut_off w n ≡ true → is_cut_off v n ≡ true) → IsSpent w n x → IsSpent v n y
spent_on w v n x y options node sent cut (inl g) = inl ((λ i. gave_all (options i) (node i).kind (sent i)) ∙ g)
spent_on w v n x y options node sent cut (inr c) = inr (cut c)

carry : (F : Functions) (w v : World) (r : Record) → Steps F w r v → GoOn (shape_of w) (room w) w.pipes v.pipes → AllGo w v → ClosedAreSpent w → ClosedAreSpent v
carry F w v r s h back all n y at shut =
    let x = back n y at in
    let was = x.2.closed shut in
    spent_on w v n x.0 y (step_options F w v r s) x.2.node was.1 (cut_stays w v h (step_keeps F w v r s) n) (all n x.0 x.1 was.0)

-- CLOSES
closes : (F : Functions) (w v : World) (m : ℕ) → Steps F w (closed m) v → ClosedAreSpent w → ClosedAreSpent v
closes F w v m s all n y at shut = by (cases_eq n m)
  where
    cut : is_cut_off w n ≡ true → is_cut_off v n ≡ true
    cut = cut_stays w v (step_pipes F w v (closed m) refl s) (step_keeps F w v (closed m) s) n

    options : v.options ≡ w.options
    options = step_options F w v (closed m) s

    there : slice_get (slice_set w.nodes m (record s.0 { is_closed = true })) n ≡ Some y
    there = subst (λ (u : World). slice_get u.nodes n ≡ Some y) s.4 at

    finished : HasFinished w m s.0 → IsSpent w m s.0
    finished (inl (over, none)) = inl (gave w.options s.0.node (schemas_for w s.0) s.0.progress (heads_of w m s.0) (inputs_done w m) (next_morsel (inputs_in_phase w m 0)) s.0.node.kind (none 0))
    finished (inr c) = inr c

    by : (n ≡ m) ⊎ (n ≢ m) → IsSpent v n y
    by (inl same) =
        let here = ap (slice_get (slice_set w.nodes m (record s.0 { is_closed = true }))) same ∙ set_here w.nodes m s.0 (record s.0 { is_closed = true }) s.1.0 in
        let both : Some (record s.0 { is_closed = true }) ≡ Some y = sym here ∙ there in
        let is : record s.0 { is_closed = true } ≡ y = cc in
        spent_on w v n s.0 y options (ap (λ (z : Node). z.node) (sym is)) (ap (λ (z : Node). z.progress.sent) (sym is)) cut (subst (λ k. IsSpent w k s.0) (sym same) (finished s.3))
    by (inr other) =
        let old = sym (set_other w.nodes m n (record s.0 { is_closed = true }) other) ∙ there in
        spent_on w v n y y options refl refl cut (all n y old shut)

-- OPENS AND ENDS: no node is closed
abbrev Shut : Node → Node → Type 0
Shut x y = y.is_closed ≡ x.is_closed

or_false : (a b : Bool) → (a || b) ≡ false → b ≡ false
or_false false b e = e
or_false true b e = absurd (let no : true ≡ false = e in cc)

none_closed : (F : Functions) (w : World) → Facts F w → w.is_open ≡ false → (n : ℕ) (x : Node) → slice_get w.nodes n ≡ Some x → x.is_closed ≡ false
none_closed F w f shut n x at = or_false x.in_phase x.is_closed (each_of (λ (y : Node). IsFalse (y.in_phase || y.is_closed)) w.nodes x (f.no_marks shut).0 (contains_of w.nodes n x at))

open_shut : (s : World) (phase n : ℕ) (y : Node) → slice_get (after_open s phase).nodes n ≡ Some y → Before Shut s.nodes n y
open_shut s phase n y = by (is_empty (blockers_in s)) refl
  where
    by : (b : Bool) → is_empty (blockers_in s) ≡ b → slice_get (after_open s phase).nodes n ≡ Some y → Before Shut s.nodes n y
    by true e = rw e (λ at. (y, at, refl))
    by false e = rw e (λ at. marked_from Shut (λ x b. refl) (nodes_of_phase s) 0 s.nodes n y at)

opens_shut : (F : Functions) (s v : World) (phase : ℕ) → Opens F s phase v → (n : ℕ) (y : Node) → slice_get v.nodes n ≡ Some y → Before Shut s.nodes n y
opens_shut F s v phase (settles rest e) n y at = open_shut s phase n y (subst (λ (u : World). slice_get u.nodes n ≡ Some y) e at)
opens_shut F s v phase (breaks m c b e) n y at = (y, subst (λ (u : World). slice_get u.nodes n ≡ Some y) e at, refl)

not_closed : (y : Node) → y.is_closed ≡ false → y.is_closed ≡ true → ⊥
not_closed y e shut = let no : true ≡ false = sym shut ∙ e in cc

abbrev Unmarked : Node → Node → Type 0
Unmarked x y = y.is_closed ≡ false

step_spent : (F : Functions) (w v : World) (r : Record) → Facts F w → Steps F w r v → ClosedAreSpent w → ClosedAreSpent v
step_spent F w v (opened phase) f s all =
    λ n y at shut.
    let known = updates_keep_facts F w s.3.0 s.3.1 f s.0 in
    let x = opens_shut F s.3.0 v phase s.3.2 n y at in
    absurd (not_closed y (x.2 ∙ none_closed F s.3.0 known.0 known.1 n x.0 x.1) shut)
step_spent F w v (claimed m i number worker) f s all = carry F w v (claimed m i number worker) s (step_pipes F w v (claimed m i number worker) refl s) (claim_goes F w v m i number worker s) all
step_spent F w v (handed_in m i number worker handed) f s all =
    carry F w v (handed_in m i number worker handed) s (step_pipes F w v (handed_in m i number worker handed) refl s) (hand_in_goes F w v m i number worker handed s) all
step_spent F w v (pulled m i number) f s all = carry F w v (pulled m i number) s (step_pipes F w v (pulled m i number) refl s) (pull_goes F w v m i number s) all
step_spent F w v (closed m) f s all = closes F w v m s all
step_spent F w v (ended phase) f s all =
    λ n y at shut.
    let x = map_from Unmarked (λ (x : Node). record x { in_phase = false; is_closed = false }) (λ x. refl) w.nodes n y (subst (λ (u : World). slice_get u.nodes n ≡ Some y) s.4 at) in
    absurd (not_closed y x.2 shut)

replay_spent : (F : Functions) (w v : World) (rs : List Record) → Known F w → Replays F w rs v → ClosedAreSpent w → ClosedAreSpent v
replay_spent F w v [] k e all = subst ClosedAreSpent (sym e) all
replay_spent F w v (r ∷ rs) k s all = replay_spent F s.0 v rs (known_step F w s.0 r k s.1) s.2 (step_spent F w s.0 r k.facts s.1 all)

fresh_spent : (shape : Shape) (o : Options) → ClosedAreSpent (opening shape o)
fresh_spent shape o n y at shut = let x = from_shape shape n y at in absurd (not_closed y x shut)
  where
    from_shape : (ps : List PhysicalNode) (m : ℕ) (z : Node) → slice_get (map fresh_node ps) m ≡ Some z → z.is_closed ≡ false
    from_shape [] m z e = absurd (let no : None ≡ Some z = e in cc)
    from_shape (p ∷ ps) zero z e = let both : Some (fresh_node p) ≡ Some z = e in let is : fresh_node p ≡ z = cc in ap (λ (u : Node). u.is_closed) (sym is)
    from_shape (p ∷ ps) (suc m) z e = from_shape ps m z e

reached_spent : (F : Functions) (shape : Shape) (o : Options) (w : World) → IsSound F shape → Reaches F shape o w → ClosedAreSpent w
reached_spent F shape o w sound r = replay_spent F (opening shape o) w r.0 (known_opening F shape o sound) r.1 (fresh_spent shape o)

pub claims_all : (F : Functions) (shape : Shape) (o : Options) (w : World) → IsSound F shape → Reaches F shape o w → ClaimsAll F w
claims_all F shape o w sound r phase v n node s at none on open_out = by (reached_spent F shape o w sound r n node at shut)
  where
    shut : node.is_closed ≡ true
    shut = each_of (λ (x : Node). IsTrue x.in_phase → IsTrue x.is_closed) w.nodes node s.3 (contains_of w.nodes n node at) on

    shown : slice_get (shape_of w) n ≡ Some node.node
    shown = slice_get-map (λ (x : Node). x.node) w.nodes n ∙ ap (option_map (λ (x : Node). x.node)) at

    alone : HasInputs node.node.kind 0
    alone = subst (HasInputs node.node.kind) (ap length none) ((known_reached F shape o w sound r).facts.sound.0 n node.node shown).inputs

    by : IsSpent w n node → claim_at w n 0 node ≡ None
    by (inl g) = no_claim w.options node.node (schemas_for w node) node.progress (heads_of w n node) (inputs_done w n) (next_morsel (inputs_in_phase w n 0)) node.node.kind alone g
    by (inr cut) = absurd (let no : true ≡ false = sym cut ∙ open_out in cc)

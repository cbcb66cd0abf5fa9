-- What every step keeps of each node's own progress: an induction along runs for what turns, fills, claims, hand-ins and pulls of the node keep.
use Rattle.std.proofs.Common.{◌≡◌, ℕ, zero, suc, ◌+◌, Bool, true, false, cond, List, [], ◌∷◌, length, Option, Some, None, refl, sym, subst}
use Rattle.std.specs.Prelude.{get_or, map, slice_get, slice_set}
use Rattle.ps_frame.specs.Causes.{is_empty}
use Rattle.ps_frame.specs.Functions.{Functions}
use Rattle.ps_frame.specs.Tables.{Fields, Row}
use Rattle.ps_ports.specs.Ports.{Sides}
use Rattle.ps_turns.specs.Claims.{Claim, filled_slot}
use Rattle.ps_turns.specs.Progress.{Progress, is_multiplexer}
use Rattle.ps_turns.specs.Pulls.{after_store}
use Rattle.ps_turns.specs.Tasks.{Answer, Piece, bad, good, partial}
use Rattle.ps_turns.specs.Updates.{Fills, Turns}
use Rattle.ps_options.specs.declared.options.Options.{Options}
use Rattle.ps_meaning.specs.Shape.{PhysicalNode, Shape}
use Rattle.ps_world.specs.Answers.{answered, with_partial}
use Rattle.ps_world.specs.Claims.{before_drops, claim_at}
use Rattle.ps_world.specs.Opening.{fresh_node, no_progress, opening}
use Rattle.ps_world.specs.Phases.{after_open, blockers_in, marked_nodes, nodes_of_phase}
use Rattle.ps_world.specs.Pipes.{drop_at, drop_if, drops_from, heads_lost, put_progress, put_without_heads, with_progress, without_heads}
use Rattle.ps_world.specs.Step.{Opens, Replays, Steps, breaks, settles}
use Rattle.ps_world.specs.Updates.{Updates, given_at, no_update, one_fill, one_update}
use Rattle.ps_world.specs.World.{Node, Record, World, claimed, closed, ended, handed_in, is_cut_off, opened, pulled, schemas_for}

pub record IsKeptByAll (F : Functions) (Good : PhysicalNode → Progress → Type 0) : Type 0 where
  pub begins : (p : PhysicalNode) → Good p (no_progress (length p.inputs))
  pub turned : (o : Options) (p : PhysicalNode) (ss : List Fields) (given : Sides) (a b : Progress) → Turns F o p ss given a b → Good p a → Good p b
  pub filled : (p : PhysicalNode) (ss : List Fields) (given : Sides) (a b : Progress) → Fills F p ss given a b → Good p a → Good p b
  pub claims : (w : World) (n i : ℕ) (node : Node) (c : Claim) → claim_at w n i node ≡ Some c → Good node.node node.progress → Good node.node c.progress
  pub keeps : (p : PhysicalNode) (a : Progress) (taken : List (List (Option (List Row)))) → Good p a → Good p (record a { taken = taken })
  pub pulls : (p : PhysicalNode) (a : Progress) (i : ℕ) (m : List Row) → Good p a → Good p (after_store p.kind i m a)
  pub loses : (node : Node) → Good node.node node.progress → Good (without_heads node.node.kind node).node (without_heads node.node.kind node).progress

module _ (F : Functions) (Good : PhysicalNode → Progress → Type 0) (k : IsKeptByAll F Good) where
  abbrev pub AllGood : List Node → Type 0
  AllGood nodes = (n : ℕ) (node : Node) → slice_get nodes n ≡ Some node → Good node.node node.progress

  same_some : (x y : Node) → Some x ≡ Some y → x ≡ y
  same_some x y e = cc

  set_good : (nodes : List Node) (n : ℕ) (new : Node) → AllGood nodes → Good new.node new.progress → AllGood (slice_set nodes n new)
  set_good [] n new all g j node e = all j node e
  set_good (x ∷ xs) zero new all g zero node e = subst (λ y. Good y.node y.progress) (same_some new node e) g
  set_good (x ∷ xs) zero new all g (suc j) node e = all (suc j) node e
  set_good (x ∷ xs) (suc n) new all g zero node e = all zero node e
  set_good (x ∷ xs) (suc n) new all g (suc j) node e = set_good xs n new (λ m. all (suc m)) g j node e

  put_good : (w : World) (n : ℕ) (node : Node) (progress : Progress) → slice_get w.nodes n ≡ Some node → AllGood w.nodes → Good node.node progress → AllGood (with_progress n progress w).nodes
  put_good w n node progress e all g = subst (λ o. AllGood (put_progress o n progress w).nodes) (sym e) (set_good w.nodes n (record node { progress = progress }) all g)

  updates_good : (w s : World) → Updates F w s → AllGood w.nodes → AllGood s.nodes
  updates_good w s no_update all = all
  updates_good w s (one_update n node progress t u) all =
      updates_good _ s u (put_good w n node progress t.0 all (k.turned w.options node.node (schemas_for w node) (given_at w n) node.progress progress t.2 (all n node t.0)))
  updates_good w s (one_fill n node progress t u) all =
      updates_good _ s u (put_good w n node progress t.0 all (k.filled node.node (schemas_for w node) (given_at w n) node.progress progress t.1 (all n node t.0)))

  lost_good : (n : ℕ) (nodes : List Node) → AllGood nodes → AllGood (heads_lost n nodes)
  lost_good n nodes all = by (slice_get nodes n) refl
    where
      by : (o : Option Node) → slice_get nodes n ≡ o → AllGood (put_without_heads o n nodes)
      by None e = all
      by (Some node) e = set_good nodes n (without_heads node.node.kind node) all (k.loses node (all n node e))

  drop_good : (b : Bool) (n : ℕ) (w : World) → AllGood w.nodes → AllGood (drop_if b n w).nodes
  drop_good true n w all = lost_good n w.nodes all
  drop_good false n w all = all

  drops_good : (n : ℕ) (w : World) → AllGood w.nodes → AllGood (drops_from w n).nodes
  drops_good zero w all = all
  drops_good (suc n) w all = drops_good n (drop_at w n) (drop_good (is_cut_off w n) n w all)

  marks_good : (ns : List ℕ) (m : ℕ) (nodes : List Node) → AllGood nodes → AllGood (marked_nodes ns m nodes)
  marks_good ns m [] all j node e = all j node e
  marks_good ns m (x ∷ xs) all zero node e = subst (λ y. Good y.node y.progress) (same_some _ node e) (all zero x refl)
  marks_good ns m (x ∷ xs) all (suc j) node e = marks_good ns (m + 1) xs (λ i. all (suc i)) j node e

  unmarked_good : (nodes : List Node) → AllGood nodes → AllGood (map (λ (n : Node). record n { in_phase = false; is_closed = false }) nodes)
  unmarked_good [] all j node e = all j node e
  unmarked_good (x ∷ xs) all zero node e = subst (λ y. Good y.node y.progress) (same_some _ node e) (all zero x refl)
  unmarked_good (x ∷ xs) all (suc j) node e = unmarked_good xs (λ i. all (suc i)) j node e

  open_good : (s : World) (phase : ℕ) → AllGood s.nodes → AllGood (after_open s phase).nodes
  open_good s phase all = by (is_empty (blockers_in s)) refl
    where
      by : (b : Bool) → is_empty (blockers_in s) ≡ b → AllGood (after_open s phase).nodes
      by true e = rw e all
      by false e = rw e (marks_good (nodes_of_phase s) 0 s.nodes all)

  of_opens : (s v : World) (phase : ℕ) → Opens F s phase v → AllGood s.nodes → AllGood v.nodes
  of_opens s v phase (settles rest e) all = subst (λ (x : World). AllGood x.nodes) (sym e) (open_good s phase all)
  of_opens s v phase (breaks n c f e) all = subst (λ (x : World). AllGood x.nodes) (sym e) all

  partial_good : (q : Piece) (w : World) → AllGood w.nodes → AllGood (with_partial q (slice_get w.nodes q.node) w).nodes
  partial_good q w all = by (slice_get w.nodes q.node) refl
    where
      by : (o : Option Node) → slice_get w.nodes q.node ≡ o → AllGood (with_partial q o w).nodes
      by None e = all
      by (Some node) e =
          let taken = filled_slot q.input q.number (get_or q.tables 0 []) node.progress.taken in
          put_good w q.node node (record node.progress { taken = taken }) e all (k.keeps node.node node.progress taken (all q.node node e))

  answer_good : (q : Piece) (a : Answer) (w : World) → AllGood w.nodes → AllGood (answered w q a).nodes
  answer_good q (good rs) w all = all
  answer_good q (partial m) w all = partial_good q w all
  answer_good q (bad c) w all = all

  pulled_good : (b : Bool) (node : Node) (i : ℕ) (m : List Row) → Good node.node node.progress → Good node.node (cond b node.progress (after_store node.node.kind i m node.progress))
  pulled_good true node i m g = g
  pulled_good false node i m g = k.pulls node.node node.progress i m g

  pub step_good : (w v : World) (r : Record) → Steps F w r v → AllGood w.nodes → AllGood v.nodes
  step_good w v (opened phase) s all = of_opens s.3.0 v phase s.3.2 (updates_good w s.3.0 s.3.1 all)
  step_good w v (claimed n i number worker) s all =
      let before = before_drops w n i worker s.0 s.5.0 in
      let own = k.claims w n i s.0 s.5.0 s.5.1 (all n s.0 s.1.0) in
      subst (λ (x : World). AllGood x.nodes) (sym s.5.3) (drops_good (length before.nodes) before (set_good w.nodes n (record s.0 { progress = s.5.0.progress }) all own))
  step_good w v (handed_in n i number worker handed) s all = subst (λ (x : World). AllGood x.nodes) (sym s.7.3) (answer_good s.0 s.7.0 w all)
  step_good w v (pulled n i number) s all =
      let own = pulled_good (is_multiplexer s.0.node.kind) s.0 i s.4.1 (all n s.0 s.1.0) in
      subst (λ (x : World). AllGood x.nodes) (sym s.4.8)
      (set_good w.nodes n (record s.0 { progress = cond (is_multiplexer s.0.node.kind) s.0.progress (after_store s.0.node.kind i s.4.1 s.0.progress) }) all own)
  step_good w v (closed n) s all = subst (λ (x : World). AllGood x.nodes) (sym s.4) (set_good w.nodes n (record s.0 { is_closed = true }) all (all n s.0 s.1.0))
  step_good w v (ended phase) s all = subst (λ (x : World). AllGood x.nodes) (sym s.4) (unmarked_good w.nodes all)

  replay_good : (w v : World) (rs : List Record) → Replays F w rs v → AllGood w.nodes → AllGood v.nodes
  replay_good w v [] e all = subst (λ (x : World). AllGood x.nodes) (sym e) all
  replay_good w v (r ∷ rs) s all = replay_good s.0 v rs s.2 (step_good w s.0 r s.1 all)

  fresh_good : (shape : Shape) → AllGood (map fresh_node shape)
  fresh_good [] j node e = absurd (let no : None ≡ Some node = e in cc)
  fresh_good (p ∷ ps) zero node e = subst (λ y. Good y.node y.progress) (same_some _ node e) (k.begins p)
  fresh_good (p ∷ ps) (suc j) node e = fresh_good ps j node e

  pub reached_good : (shape : Shape) (o : Options) (v : World) (journal : List Record) → Replays F (opening shape o) journal v → AllGood v.nodes
  reached_good shape o v journal r = replay_good (opening shape o) v journal r (fresh_good shape)

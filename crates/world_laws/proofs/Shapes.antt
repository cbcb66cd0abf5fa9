-- Each step and each update leaves the shape.
use Rattle.std.proofs.Common.{◌≡◌, ℕ, zero, suc, ◌+◌, Bool, true, false, cond, List, [], ◌∷◌, Option, Some, None, refl, sym, ap, ◌∙◌}
use Rattle.std.specs.Prelude.{get_or, map, slice_get, slice_set}
use Rattle.ps_frame.specs.Causes.{is_empty}
use Rattle.ps_frame.specs.Functions.{Functions}
use Rattle.ps_turns.specs.Claims.{filled_slot}
use Rattle.ps_turns.specs.Progress.{Progress}
use Rattle.ps_turns.specs.Tasks.{Answer, Piece, bad, good, partial}
use Rattle.ps_meaning.specs.Shape.{PhysicalKind, Shape, zip_node}
use Rattle.ps_world.specs.World.{Node, Record, World, claimed, closed, ended, handed_in, is_cut_off, opened, pulled, shape_of}
use Rattle.ps_world.specs.Answers.{answered, with_partial}
use Rattle.ps_world.specs.Claims.{before_drops}
use Rattle.ps_world.specs.Phases.{after_open, blockers_in, marked_nodes, nodes_of_phase}
use Rattle.ps_world.specs.Pipes.{drop_at, drop_if, drops_from, heads_lost, put_progress, put_without_heads, with_progress, without_heads}
use Rattle.ps_world.specs.Step.{Opens, Steps, breaks, settles}
use Rattle.ps_world.specs.Updates.{Updates, no_update, one_fill, one_update}

-- the nodes of the shape
abbrev pub shown : List Node → Shape
shown nodes = map (λ (n : Node). n.node) nodes

-- a node that shows the same in another's place
pub shown_set : (nodes : List Node) (n : ℕ) (old new : Node) → slice_get nodes n ≡ Some old → new.node ≡ old.node → shown (slice_set nodes n new) ≡ shown nodes
shown_set [] n old new e same = refl
shown_set (x ∷ xs) zero old new e same = let q : Some x ≡ Some old = e in let is_old : x ≡ old = cc in let at : new.node ≡ x.node = same ∙ ap (λ (y : Node). y.node) (sym is_old) in ap (λ p. p ∷ shown xs) at
shown_set (x ∷ xs) (suc n) old new e same = ap (λ ps. x.node ∷ ps) (shown_set xs n old new e same)

put_keeps : (w : World) (n : ℕ) (progress : Progress) → shape_of (with_progress n progress w) ≡ shape_of w
put_keeps w n progress = by (slice_get w.nodes n) refl
  where
    by : (o : Option Node) → slice_get w.nodes n ≡ o → shape_of (put_progress o n progress w) ≡ shape_of w
    by None e = refl
    by (Some node) e = shown_set w.nodes n node (record node { progress = progress }) e refl

pub same_zip : (k : PhysicalKind) (node : Node) → (without_heads k node).node ≡ node.node
same_zip (zip_node extend) node = refl
same_zip k node = refl

pub updates_keep : (F : Functions) (w s : World) → Updates F w s → shape_of s ≡ shape_of w
updates_keep F w s no_update = refl
updates_keep F w s (one_update n node progress t u) = updates_keep F _ s u ∙ put_keeps w n progress
updates_keep F w s (one_fill n node progress t u) = updates_keep F _ s u ∙ put_keeps w n progress

pub lost_keep : (n : ℕ) (nodes : List Node) → shown (heads_lost n nodes) ≡ shown nodes
lost_keep n nodes = by (slice_get nodes n) refl
  where
    by : (o : Option Node) → slice_get nodes n ≡ o → shown (put_without_heads o n nodes) ≡ shown nodes
    by None e = refl
    by (Some node) e = shown_set nodes n node (without_heads node.node.kind node) e (same_zip node.node.kind node)

pub drop_keeps : (b : Bool) (n : ℕ) (w : World) → shape_of (drop_if b n w) ≡ shape_of w
drop_keeps true n w = lost_keep n w.nodes
drop_keeps false n w = refl

drops_keep : (n : ℕ) (w : World) → shape_of (drops_from w n) ≡ shape_of w
drops_keep zero w = refl
drops_keep (suc n) w = drops_keep n (drop_at w n) ∙ drop_keeps (is_cut_off w n) n w

pub marks_keep : (ns : List ℕ) (k : ℕ) (nodes : List Node) → shown (marked_nodes ns k nodes) ≡ shown nodes
marks_keep ns k [] = refl
marks_keep ns k (x ∷ xs) = ap (λ ps. x.node ∷ ps) (marks_keep ns (k + 1) xs)

pub unmarked_keep : (nodes : List Node) → shown (map (λ (n : Node). record n { in_phase = false; is_closed = false }) nodes) ≡ shown nodes
unmarked_keep [] = refl
unmarked_keep (x ∷ xs) = ap (λ ps. x.node ∷ ps) (unmarked_keep xs)

open_keeps : (s : World) (phase : ℕ) → shape_of (after_open s phase) ≡ shape_of s
open_keeps s phase = by (is_empty (blockers_in s)) refl
  where
    by : (b : Bool) → is_empty (blockers_in s) ≡ b → shape_of (after_open s phase) ≡ shape_of s
    by true e = rw e refl
    by false e = rw e (marks_keep (nodes_of_phase s) 0 s.nodes)

of_opens : (F : Functions) (s v : World) (phase : ℕ) → Opens F s phase v → shape_of v ≡ shape_of s
of_opens F s v phase (settles rest e) = ap shape_of e ∙ open_keeps s phase
of_opens F s v phase (breaks n c f e) = ap shape_of e

partial_keeps : (q : Piece) (w : World) → shape_of (with_partial q (slice_get w.nodes q.node) w) ≡ shape_of w
partial_keeps q w = by (slice_get w.nodes q.node) refl
  where
    by : (o : Option Node) → slice_get w.nodes q.node ≡ o → shape_of (with_partial q o w) ≡ shape_of w
    by None e = refl
    by (Some node) e = put_keeps w q.node (record node.progress { taken = filled_slot q.input q.number (get_or q.tables 0 []) node.progress.taken })

answer_keeps : (q : Piece) (a : Answer) (w : World) → shape_of (answered w q a) ≡ shape_of w
answer_keeps q (good rs) w = refl
answer_keeps q (partial k) w = partial_keeps q w
answer_keeps q (bad c) w = refl

pub step_keeps : (F : Functions) (w v : World) (r : Record) → Steps F w r v → shape_of v ≡ shape_of w
step_keeps F w v (opened phase) s = of_opens F s.3.0 v phase s.3.2 ∙ updates_keep F w s.3.0 s.3.1
step_keeps F w v (claimed n i number worker) s =
    let before = before_drops w n i worker s.0 s.5.0 in
    ap shape_of s.5.3 ∙ drops_keep (Rattle.std.specs.Prelude.length before.nodes) before ∙ shown_set w.nodes n s.0 (record s.0 { progress = s.5.0.progress }) s.1.0 refl
step_keeps F w v (handed_in n i number worker handed) s = ap shape_of s.7.3 ∙ answer_keeps s.0 s.7.0 w
step_keeps F w v (pulled n i number) s = by s.0 s.1.0 s.4.8
  where
    by : (node : Node) → slice_get w.nodes n ≡ Some node → v ≡ Rattle.ps_world.specs.Pulls.after_pull w n i node s.4.0 s.4.1 → shape_of v ≡ shape_of w
    by node at e =
        ap shape_of e ∙ shown_set w.nodes n node (record node { progress = cond (Rattle.ps_turns.specs.Progress.is_multiplexer node.node.kind) node.progress (Rattle.ps_turns.specs.Pulls.after_store node.node.kind i s.4.1 node.progress) }) at refl
step_keeps F w v (closed n) s = ap shape_of s.4 ∙ shown_set w.nodes n s.0 (record s.0 { is_closed = true }) s.1.0 refl
step_keeps F w v (ended phase) s = ap shape_of s.4 ∙ unmarked_keep w.nodes

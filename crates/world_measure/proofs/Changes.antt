-- Changes between phases: updates and fills take none back, and what leaves them as they are leaves all else to do as it was.
use Rattle.std.proofs.Common.{◌≡◌, ℕ, zero, suc, ◌<◌, ◌+◌, ◌≤◌, ◌⊎◌, Bool, true, false, cond, List, [], ◌∷◌, length, Option, None, Some, refl, sym, ap, subst, ◌∙◌, inl, inr, arith}
use Rattle.std.specs.Prelude.{get_or, is_some, map, nat_eq, not, slice_get, slice_set, ◌&&◌}
use Rattle.ps_frame.specs.Causes.{is_empty}
use Rattle.ps_frame.specs.Functions.{Functions}
use Rattle.ps_frame.specs.Tables.{Fields, Row}
use Rattle.ps_meaning.specs.Shape.{PhysicalKind, PhysicalNode, equi_join, group_by_node, in_memory_join, in_memory_map, in_memory_source, independent_select, negative_slice, reduce, zip_node}
use Rattle.ps_options.specs.declared.options.Options.{Options}
use Rattle.ps_ports.specs.declared.port_state.PortState.{PortState}
use Rattle.ps_ports.specs.declared.port_state.PortState.TheVariants as port
use Rattle.ps_ports.specs.Ports.{Sides, all_done, first_port, is_done, kept_state, second_port}
use Rattle.ps_ports.specs.Wires.{Wire}
use Rattle.ps_turns.specs.Progress.{Progress, Stage, giving, is_giving, is_taking, is_user_map, spent, taking}
use Rattle.ps_turns.specs.Updates.{Fills, Makes, Turns, has_given_all, is_filled, next_stage, stage_after, turns}
use Rattle.ps_world.specs.Phases.{after_open, blockers_in, intensive_at, marked_nodes, nodes_of_phase, with_phase}
use Rattle.ps_ports.specs.Phases.{is_in_phase}
use Rattle.ps_world.specs.Pipes.{put_progress, with_progress}
use Rattle.ps_world.specs.Step.{Opens, breaks, settles}
use Rattle.ps_world.specs.Updates.{Updates, answer_at, given_at, no_update, one_fill, one_update, received, sent, updated, written}
use Rattle.ps_world.specs.World.{Node, Pipe, World, schemas_for}
use Rattle.world_facts.proofs.CutOff.{both_true}
use Rattle.world_facts.proofs.HandedIn.{length_set}
use Rattle.world_measure.proofs.Drops.{set_as_much}
use Rattle.world_measure.proofs.Pipes.{as_many, untaken_at}
use Rattle.world_measure.specs.Left.{own_left, own_left_at, own_left_of, untaken_by}
use Rattle.world_measure.specs.Turns.{changes_left, ends_left, stages_left, turns_left, turns_of, undone}

-- ENDS
abbrev pub ends_at : Pipe → ℕ
ends_at p = undone p.wire.send_state + undone p.wire.receive_state

pub no_more_ends : (g : Pipe → Pipe) (ps : List Pipe) → ((p : Pipe) → ends_at (g p) ≤ ends_at p) → ends_left (map g ps) ≤ ends_left ps
no_more_ends g [] h = omega arith
no_more_ends g (p ∷ ps) h = let here = h p in let rest = no_more_ends g ps h in omega arith

pub same_ends : (g : Pipe → Pipe) (ps : List Pipe) → ((p : Pipe) → (g p).wire ≡ p.wire) → ends_left (map g ps) ≡ ends_left ps
same_ends g [] h = refl
same_ends g (p ∷ ps) h = let here = ap (λ (u : Wire). undone u.send_state + undone u.receive_state) (h p) in let rest = same_ends g ps h in λ i. here i + rest i

at_most_one : (s : PortState) → undone s ≤ 1
at_most_one port.Blocked = omega arith
at_most_one port.Ready = omega arith
at_most_one port.Done = omega arith

kept_end : (old new : PortState) → undone (kept_state old new) ≤ undone old
kept_end port.Done new = omega arith
kept_end port.Ready new = at_most_one new
kept_end port.Blocked new = at_most_one new

received_ends : (s : PortState) (p : Pipe) (b : Bool) → ends_at (cond b (received s p) p) ≤ ends_at p
received_ends s p true = let h = kept_end p.wire.receive_state s in omega arith
received_ends s p false = omega arith

sent_ends : (s : PortState) (p : Pipe) (b : Bool) → ends_at (cond b (sent s p) p) ≤ ends_at p
sent_ends s p true = let h = kept_end p.wire.send_state s in omega arith
sent_ends s p false = omega arith

received_takes : (s : PortState) (j : ℕ) (p : Pipe) (b : Bool) → untaken_at j (cond b (received s p) p) ≡ untaken_at j p
received_takes s j p true = refl
received_takes s j p false = refl

sent_takes : (s : PortState) (j : ℕ) (p : Pipe) (b : Bool) → untaken_at j (cond b (sent s p) p) ≡ untaken_at j p
sent_takes s j p true = refl
sent_takes s j p false = refl

-- NODES
-- a node with these turns in the place of another
pub turned : (nodes : List Node) (n : ℕ) (old new : Node) → slice_get nodes n ≡ Some old → turns_left (slice_set nodes n new) + turns_of old.progress ≡ turns_left nodes + turns_of new.progress
turned [] n old new at = absurd (let no : None ≡ Some old = at in cc)
turned (x ∷ xs) zero old new at = let is : x ≡ old = (let q : Some x ≡ Some old = at in cc) in let e = ap (λ (y : Node). turns_of y.progress) is in omega arith
turned (x ∷ xs) (suc n) old new at = let rest = turned xs n old new at in omega arith

pub same_turns : (g : Node → Node) (xs : List Node) → ((x : Node) → (g x).progress ≡ x.progress) → turns_left (map g xs) ≡ turns_left xs
same_turns g [] h = refl
same_turns g (x ∷ xs) h = let here = ap turns_of (h x) in let rest = same_turns g xs h in λ i. here i + rest i

-- STAGES
stage_falls : (st : Stage) (a b c : Bool) → stages_left (next_stage st a b c) ≤ stages_left st
stage_falls taking true true true = omega arith
stage_falls taking true true false = omega arith
stage_falls taking true false true = omega arith
stage_falls taking true false false = omega arith
stage_falls taking false true true = omega arith
stage_falls taking false true false = omega arith
stage_falls taking false false true = omega arith
stage_falls taking false false false = omega arith
stage_falls giving true true true = omega arith
stage_falls giving true true false = omega arith
stage_falls giving true false true = omega arith
stage_falls giving true false false = omega arith
stage_falls giving false true true = omega arith
stage_falls giving false true false = omega arith
stage_falls giving false false true = omega arith
stage_falls giving false false false = omega arith
stage_falls spent true true true = omega arith
stage_falls spent true true false = omega arith
stage_falls spent true false true = omega arith
stage_falls spent true false false = omega arith
stage_falls spent false true true = omega arith
stage_falls spent false true false = omega arith
stage_falls spent false false true = omega arith
stage_falls spent false false false = omega arith

-- what turns to giving was taking
was_taking : (st : Stage) (a b c : Bool) → not (is_giving st) ≡ true → is_giving (next_stage st a b c) ≡ true → st ≡ taking
was_taking taking a b c stays starts = refl
was_taking giving a b c stays starts = absurd (let no : false ≡ true = stays in cc)
was_taking spent true true true stays starts = absurd (let no : false ≡ true = starts in cc)
was_taking spent true true false stays starts = absurd (let no : false ≡ true = starts in cc)
was_taking spent true false true stays starts = absurd (let no : false ≡ true = starts in cc)
was_taking spent true false false stays starts = absurd (let no : false ≡ true = starts in cc)
was_taking spent false true true stays starts = absurd (let no : false ≡ true = starts in cc)
was_taking spent false true false stays starts = absurd (let no : false ≡ true = starts in cc)
was_taking spent false false true stays starts = absurd (let no : false ≡ true = starts in cc)
was_taking spent false false false stays starts = absurd (let no : false ≡ true = starts in cc)

-- the stage after an update is that of before, or the next by some tests
pub data After (st after : Stage) : Type 0 where
  stays : after ≡ st → After st after
  goes : (a b c : Bool) → after ≡ next_stage st a b c → After st after

by_turns : (o : Options) (kind : PhysicalKind) (a : Progress) (given : Sides) (b : Bool) → After a.stage (cond b (next_stage a.stage (is_done (first_port given.outputs)) (all_done given.inputs && is_filled kind a) (has_given_all o kind a)) a.stage)
by_turns o kind a given true = goes (is_done (first_port given.outputs)) (all_done given.inputs && is_filled kind a) (has_given_all o kind a) refl
by_turns o kind a given false = stays refl

after : (o : Options) (kind : PhysicalKind) (a : Progress) (given : Sides) → After a.stage (stage_after o kind a given)
after o (equi_join j) a given = goes (is_done (first_port given.outputs)) (is_done (second_port given.inputs)) (is_done (first_port given.inputs) && has_given_all o (equi_join j) a) refl
after o kind a given = by_turns o kind a given (turns kind)

no_later : (st new : Stage) → After st new → stages_left new ≤ stages_left st
no_later st new (stays e) = let s = ap stages_left e in omega arith
no_later st new (goes a b c e) = let s = ap stages_left e in let h = stage_falls st a b c in omega arith

started : (st new : Stage) → After st new → (not (is_giving st) && is_giving new) ≡ true → st ≡ taking
started st new (stays e) h =
    let parts = both_true (not (is_giving st)) (is_giving new) h in
    absurd (let no : true ≡ false = sym (sym (ap is_giving e) ∙ parts.1) ∙ not_true (is_giving st) parts.0 in cc)
  where
    not_true : (b : Bool) → not b ≡ true → b ≡ false
    not_true true q = absurd (let no : false ≡ true = q in cc)
    not_true false q = refl
started st new (goes a b c e) h = let parts = both_true (not (is_giving st)) (is_giving new) h in was_taking st a b c parts.0 (sym (ap is_giving e) ∙ parts.1)

-- TABLES

made_counts : (x y : Option (List Row)) → (y ≡ x) ⊎ ((rs : List Row) × (y ≡ Some rs)) → cond {A = ℕ} (is_some y) 0 1 ≤ cond (is_some x) 0 1
made_counts x y (inl e) = let s = ap (λ mk. cond {A = ℕ} (is_some mk) 0 1) e in omega arith
made_counts x y (inr (rs, e)) = let s = ap (λ mk. cond {A = ℕ} (is_some mk) 0 1) e in omega arith

keeps_table : (F : Functions) (o : Options) (p : PhysicalNode) (kind : PhysicalKind) (ss : List Fields) (a c : Progress) → Makes F o p kind ss a c → (c.made ≡ a.made) ⊎ ((rs : List Row) × (c.made ≡ Some rs))
keeps_table F o p (in_memory_map step) ss a c (inl (is, e)) = inl (ap (λ (x : Progress). x.made) e)
keeps_table F o p (in_memory_map step) ss a c (inr m) = inr (m.1, ap (λ (x : Progress). x.made) m.3)
keeps_table F o p (in_memory_join j) ss a c m = inr (m.0, ap (λ (x : Progress). x.made) m.2)
keeps_table F o p (group_by_node keys aggregates) ss a c m = inl (ap (λ (x : Progress). x.made) m.2)
keeps_table F o p (negative_slice back n) ss a c e = inr (_, ap (λ (x : Progress). x.made) e)
keeps_table F o p kind ss a c e = inl (ap (λ (x : Progress). x.made) e)

-- what a node has of its own doesn't hang on its stage
stage_own : (kind : PhysicalKind) (a : Progress) (st : Stage) → own_left kind (record a { stage = st }) ≡ own_left kind a
stage_own (in_memory_source t) a st = refl
stage_own (independent_select es) a st = refl
stage_own (in_memory_map step) a st = refl
stage_own (in_memory_join j) a st = refl
stage_own (negative_slice back n) a st = refl
stage_own (zip_node extend) a st = refl
stage_own (reduce es) a st = refl
stage_own (group_by_node keys aggregates) a st = refl
stage_own (equi_join j) a st = refl
stage_own kind a st = refl

-- fewer turns, or no more of them and as much of its own
abbrev pub Turned : PhysicalKind → (a b : Progress) → Type 0
Turned kind a b = (turns_of b < turns_of a) ⊎ ((turns_of b ≤ turns_of a) × (own_left kind b ≡ own_left kind a))

turn : (F : Functions) (o : Options) (p : PhysicalNode) (ss : List Fields) (given : Sides) (a b : Progress) → Turns F o p ss given a b → Turned p.kind a b
turn F o p ss given a b (inl (is, e)) =
    let s = no_later a.stage (stage_after o p.kind a given) (after o p.kind a given) in
    let t = ap turns_of e in
    inr (omega arith, ap (own_left p.kind) e ∙ stage_own p.kind a (stage_after o p.kind a given))
turn F o p ss given a b (inr t) =
    let c = t.1 in
    let first = started a.stage (stage_after o p.kind a given) (after o p.kind a given) t.0 in
    let two = ap stages_left first in
    let table = made_counts a.made c.made (keeps_table F o p p.kind ss a c t.2) in
    let e = ap turns_of t.3 in
    inl (omega arith)

filled : (F : Functions) (p : PhysicalNode) (ss : List Fields) (given : Sides) (a b : Progress) → Fills F p ss given a b → Turned p.kind a b
filled F p ss given a b f =
    let first = both_true (is_user_map p.kind && (is_taking a.stage && not (is_some a.made))) (all_done given.inputs && not (is_done (first_port given.outputs))) f.0 in
    let second = both_true (is_user_map p.kind) (is_taking a.stage && not (is_some a.made)) first.0 in
    let third = both_true (is_taking a.stage) (not (is_some a.made)) second.1 in
    let none = was_none (is_some a.made) third.1 in
    let e = ap turns_of f.3 in
    inl (omega arith)
  where
    was_none : (b : Bool) → not b ≡ true → cond {A = ℕ} b 0 1 ≡ 1
    was_none true q = absurd (let no : false ≡ true = q in cc)
    was_none false q = refl

-- WORLDS
-- nothing more to take, and fewer changes to come, or no more of them and for each node as much of its own
pub record Onward (w v : World) : Type 0 where
  pub nodes : length v.nodes ≡ length w.nodes
  pub pipes : (j : ℕ) → untaken_by j v.pipes ≡ untaken_by j w.pipes
  pub turn : (changes_left v < changes_left w) ⊎ ((changes_left v ≤ changes_left w) × ((j : ℕ) → own_left_at v j ≡ own_left_at w j))

pub still : (w : World) → Onward w w
still w = record { nodes = refl; pipes = λ j. refl; turn = inr (omega arith, λ j. refl) }

pub joined_onward : (u w v : World) → Onward u w → Onward w v → Onward u v
joined_onward u w v a b = record { nodes = b.nodes ∙ a.nodes; pipes = λ j. b.pipes j ∙ a.pipes j; turn = by a.turn b.turn }
  where
    by : (changes_left w < changes_left u) ⊎ ((changes_left w ≤ changes_left u) × ((j : ℕ) → own_left_at w j ≡ own_left_at u j)) → (changes_left v < changes_left w) ⊎ ((changes_left v ≤ changes_left w) × ((j : ℕ) → own_left_at v j ≡ own_left_at w j))
        → (changes_left v < changes_left u) ⊎ ((changes_left v ≤ changes_left u) × ((j : ℕ) → own_left_at v j ≡ own_left_at u j))
    by (inl x) (inl y) = inl (omega arith)
    by (inl x) (inr (y, o)) = inl (omega arith)
    by (inr (x, o)) (inl y) = inl (omega arith)
    by (inr (x, o)) (inr (y, q)) = inr (omega arith, λ j. q j ∙ o j)

-- a node's progress in its place
put_onward : (w : World) (n : ℕ) (node : Node) (b : Progress) → slice_get w.nodes n ≡ Some node → Turned node.node.kind node.progress b → Onward w (record w { nodes = slice_set w.nodes n (record node { progress = b }) })
put_onward w n node b at t = record { nodes = length_set w.nodes n (record node { progress = b }); pipes = λ j. refl; turn = by t }
  where
    sum : turns_left (slice_set w.nodes n (record node { progress = b })) + turns_of node.progress ≡ turns_left w.nodes + turns_of b
    sum = turned w.nodes n node (record node { progress = b }) at

    by : Turned node.node.kind node.progress b → (changes_left (record w { nodes = slice_set w.nodes n (record node { progress = b }) }) < changes_left w)
        ⊎ ((changes_left (record w { nodes = slice_set w.nodes n (record node { progress = b }) }) ≤ changes_left w) × ((j : ℕ) → own_left_at (record w { nodes = slice_set w.nodes n (record node { progress = b }) }) j ≡ own_left_at w j))
    by (inl less) = let s = sum in inl (omega arith)
    by (inr (less, same)) = let s = sum in inr (omega arith, set_as_much w.nodes n node (record node { progress = b }) at same)

progress_onward : (w : World) (n : ℕ) (node : Node) (b : Progress) → slice_get w.nodes n ≡ Some node → Turned node.node.kind node.progress b → Onward w (with_progress n b w)
progress_onward w n node b at t = subst (λ o. Onward w (put_progress o n b w)) (sym at) (put_onward w n node b at t)

written_onward : (n : ℕ) (a : Sides) (w : World) → Onward w (written n a w)
written_onward n a w =
    let receives : Pipe → Pipe = λ p. cond (nat_eq p.wire.receiver n) (received (get_or a.inputs p.wire.input p.wire.receive_state) p) p in
    let sends : Pipe → Pipe = λ p. cond (nat_eq p.wire.sender n) (sent (get_or a.outputs p.wire.port p.wire.send_state) p) p in
    let first = no_more_ends receives w.pipes (λ p. received_ends (get_or a.inputs p.wire.input p.wire.receive_state) p (nat_eq p.wire.receiver n)) in
    let second = no_more_ends sends (map receives w.pipes) (λ p. sent_ends (get_or a.outputs p.wire.port p.wire.send_state) p (nat_eq p.wire.sender n)) in
    record {
      nodes = refl;
      pipes = λ j. as_many j sends (map receives w.pipes) (λ p. sent_takes (get_or a.outputs p.wire.port p.wire.send_state) j p (nat_eq p.wire.sender n)) ∙ as_many j receives w.pipes (λ p. received_takes (get_or a.inputs p.wire.input p.wire.receive_state) j p (nat_eq p.wire.receiver n));
      turn = inr (omega arith, λ j. refl);
    }

pub updates_onward : (F : Functions) (w v : World) → Updates F w v → Onward w v
updates_onward F w v no_update = still w
updates_onward F w v (one_update n node b t more) =
    let first = progress_onward w n node b t.0 (turn F w.options node.node (schemas_for w node) (given_at w n) node.progress b t.2) in
    let answered = written_onward n (answer_at w n node b) (with_progress n b w) in
    joined_onward w (updated w n node b) v (joined_onward w (with_progress n b w) (updated w n node b) first answered) (updates_onward F (updated w n node b) v more)
updates_onward F w v (one_fill n node b f more) =
    joined_onward w (with_progress n b w) v (progress_onward w n node b f.0 (filled F node.node (schemas_for w node) (given_at w n) node.progress b f.1)) (updates_onward F (with_progress n b w) v more)

-- OPENS
marked_length : (ns : List ℕ) (n : ℕ) (xs : List Node) → length (marked_nodes ns n xs) ≡ length xs
marked_length ns n [] = refl
marked_length ns n (x ∷ xs) = ap suc (marked_length ns (n + 1) xs)

marked_turns : (ns : List ℕ) (n : ℕ) (xs : List Node) → turns_left (marked_nodes ns n xs) ≡ turns_left xs
marked_turns ns n [] = refl
marked_turns ns n (x ∷ xs) = ap (λ k. turns_of x.progress + k) (marked_turns ns (n + 1) xs)

marked_own : (ns : List ℕ) (n : ℕ) (xs : List Node) (j : ℕ) → own_left_of (slice_get (marked_nodes ns n xs) j) ≡ own_left_of (slice_get xs j)
marked_own ns n [] j = refl
marked_own ns n (x ∷ xs) zero = refl
marked_own ns n (x ∷ xs) (suc j) = marked_own ns (n + 1) xs j

open_onward : (s : World) (phase : ℕ) → Onward s (after_open s phase)
open_onward s phase = by (is_empty (blockers_in s)) refl
  where
    by : (b : Bool) → is_empty (blockers_in s) ≡ b → Onward s (after_open s phase)
    by true e = subst (λ b. Onward s (record (cond b (record s { ending = Rattle.ps_world.specs.World.finished }) (with_phase s)) { phase = phase; journal = (after_open s phase).journal })) (sym e) (record { nodes = refl; pipes = λ j. refl; turn = inr (omega arith, λ j. refl) })
    by false e =
        let ends = same_ends (λ p. record p { in_phase = is_in_phase (length s.nodes) (intensive_at s) (Rattle.ps_world.specs.World.wires_of s) p.wire }) s.pipes (λ p. refl) in
        let nodes = marked_turns (nodes_of_phase s) 0 s.nodes in
        subst (λ b. Onward s (record (cond b (record s { ending = Rattle.ps_world.specs.World.finished }) (with_phase s)) { phase = phase; journal = (after_open s phase).journal })) (sym e)
        (record {
          nodes = marked_length (nodes_of_phase s) 0 s.nodes;
          pipes = λ j. as_many j (λ p. record p { in_phase = is_in_phase (length s.nodes) (intensive_at s) (Rattle.ps_world.specs.World.wires_of s) p.wire }) s.pipes (λ p. refl);
          turn = inr (omega arith, marked_own (nodes_of_phase s) 0 s.nodes);
        })

pub opens_onward : (F : Functions) (s v : World) (phase : ℕ) → Opens F s phase v → Onward s v
opens_onward F s v phase (settles settled e) = subst (Onward s) (sym e) (open_onward s phase)
opens_onward F s v phase (breaks n c found e) = subst (Onward s) (sym e) (record { nodes = refl; pipes = λ j. refl; turn = inr (omega arith, λ j. refl) })

-- Which pipes are dropped after a claim that drops its input.
use Rattle.std.proofs.Common.{◌≡◌, ℕ, zero, suc, ◌+◌, ◌-◌, ◌<◌, ◌≤◌, ◌⊎◌, inl, inr, Bool, true, false, cond, List, [], ◌∷◌, length, Option, Some, None, refl, sym, ap, subst, ◌∙◌, arith}
use Rattle.std.specs.Prelude.{◌&&◌, ◌||◌, Contains, IsTrue, map, nat_eq, nat_lt, not, slice_get, slice_set}
use Rattle.std.specs.List.{filter as kept, list_all, list_any}
use Rattle.keyed_slots.specs.Slots.{value_at}
use Rattle.ps_flow.proofs.OutputKeys.{lowest, no_node, none_out, output_is, place_from}
use Rattle.ps_flow.proofs.Stepping.{same_wires}
use Rattle.ps_flow.specs.Claiming.{AllStream, streams}
use Rattle.ps_flow.specs.Drops.{cut_at, cut_below, is_cut, lost_inputs}
use Rattle.ps_flow.specs.Handing.{HasOneOutput}
use Rattle.ps_frame.specs.Causes.{is_empty}
use Rattle.ps_frame.specs.Sorting.{in_order}
use Rattle.ps_graph.specs.declared.graph.Graph.{Graph}
use Rattle.ps_graph.specs.declared.graph.GraphNode.{GraphNode}
use Rattle.ps_graph.specs.declared.key.LogicalPipeKey.{LogicalPipeKey}
use Rattle.ps_graph.proofs.Turning.{set_same}
use Rattle.ps_graph.specs.Shown.{IsLinked, places_from, wires_of}
use Rattle.ps_meaning.specs.Shape.{PhysicalKind, equi_join, filter_node, group_by_node, in_memory_join, in_memory_map, in_memory_sink, in_memory_source, independent_select, multiplexer, negative_slice, ordered_union, reduce, select_node, simple_projection, stream_map, streaming_slice, with_row_index, zip_node}
use Rattle.ps_ports.specs.Phases.{is_one_of}
use Rattle.ps_ports.specs.Ports.{is_done}
use Rattle.ps_settle.proofs.Ends.{same_number}
use Rattle.ps_settle.proofs.Members.{at_map, contains_at, place_of}
use Rattle.ps_turns.specs.Progress.{is_multiplexer}
use Rattle.ps_world.specs.Pipes.{change_pipes, drop_at, drop_if, dropped_pipe, drops_from, heads_lost, put_without_heads, with_drops, without_heads}
use Rattle.ps_world.specs.World.{Node, Pipe, World, counts_for_sender, is_cut_off, multiplexes}
use Rattle.world_pipes.specs.Shown.{AreKeysOf, AreShown, IsAt, Setting}
use Rattle.world_pipes.specs.declared.pipes.Pipes.{Pipes}

-- what one place alone passes
module _ {A : Type 0} (t : A → Bool) where
  none_kept : (k : ℕ) (xs : List A) → places_from k t xs ≡ [] → kept t xs ≡ []
  none_kept k [] e = refl
  none_kept k (x ∷ xs) e = by (t x) refl (none_kept (k + 1) xs)
    where
      by : (b : Bool) → t x ≡ b → (places_from (k + 1) t xs ≡ [] → kept t xs ≡ []) → kept t (x ∷ xs) ≡ []
      by true p rest = absurd (let clash : k ∷ places_from (k + 1) t xs ≡ [] = sym (ap (λ b. cond b (k ∷ places_from (k + 1) t xs) (places_from (k + 1) t xs)) p) ∙ e in cc)
      by false p rest = ap (λ b. cond b (x ∷ kept t xs) (kept t xs)) p ∙ rest (sym (ap (λ b. cond b (k ∷ places_from (k + 1) t xs) (places_from (k + 1) t xs)) p) ∙ e)

  one_kept : (k j : ℕ) (xs : List A) (x : A) → places_from k t xs ≡ (k + j) ∷ [] → slice_get xs j ≡ Some x → kept t xs ≡ x ∷ []
  one_kept k j [] x e at = absurd (let clash : None ≡ Some x = at in cc)
  one_kept k j (y ∷ ys) x e at = by (t y) refl j e at (λ j' e' at'. one_kept (k + 1) j' ys x e' at')
    where
      by : (b : Bool) → t y ≡ b → (j : ℕ) → places_from k t (y ∷ ys) ≡ (k + j) ∷ [] → slice_get (y ∷ ys) j ≡ Some x → ((j' : ℕ) → places_from (k + 1) t ys ≡ (k + 1 + j') ∷ [] → slice_get ys j' ≡ Some x → kept t ys ≡ x ∷ [])
          → kept t (y ∷ ys) ≡ x ∷ []
      by true p j e at rest =
          let is : k ∷ places_from (k + 1) t ys ≡ (k + j) ∷ [] = sym (ap (λ b. cond b (k ∷ places_from (k + 1) t ys) (places_from (k + 1) t ys)) p) ∙ e in
          let first : k ≡ k + j = cc in
          let others : places_from (k + 1) t ys ≡ [] = cc in
          let zero_is : j ≡ 0 = omega (arith, first) in
          let here : Some y ≡ Some x = sym (ap (slice_get (y ∷ ys)) zero_is) ∙ at in
          let same : y ≡ x = cc in
          ap (λ b. cond b (y ∷ kept t ys) (kept t ys)) p ∙ (λ i. same i ∷ none_kept (k + 1) ys others i)
      by false p zero e at rest =
          let others : places_from (k + 1) t ys ≡ (k + 0) ∷ [] = sym (ap (λ b. cond b (k ∷ places_from (k + 1) t ys) (places_from (k + 1) t ys)) p) ∙ e in
          absurd (let low = lowest t (k + 1) (k + 0) ys [] others in omega (arith, low))
      by false p (suc j) e at rest =
          let others : places_from (k + 1) t ys ≡ (k + suc j) ∷ [] = sym (ap (λ b. cond b (k ∷ places_from (k + 1) t ys) (places_from (k + 1) t ys)) p) ∙ e in
          let more : k + suc j ≡ k + 1 + j = omega arith in
          ap (λ b. cond b (y ∷ kept t ys) (kept t ys)) p ∙ rest j (others ∙ ap (λ m. m ∷ []) more) at

  pub kept_at : (key : ℕ) (xs : List A) (x : A) → key ∷ [] ≡ places_from 0 t xs → slice_get xs key ≡ Some x → kept t xs ≡ x ∷ []
  kept_at key xs x e at = one_kept 0 key xs x (sym e ∙ ap (λ m. m ∷ []) (omega arith)) at

  any_kept : (u : A → Bool) (xs : List A) → list_any (λ x. t x && u x) xs ≡ list_any u (kept t xs)
  any_kept u [] = refl
  any_kept u (x ∷ xs) = by (t x) refl (any_kept u xs)
    where
      by : (b : Bool) → t x ≡ b → list_any (λ x. t x && u x) xs ≡ list_any u (kept t xs) → list_any (λ x. t x && u x) (x ∷ xs) ≡ list_any u (kept t (x ∷ xs))
      by true e rest = (λ i. (e i && u x) || rest i) ∙ sym (ap (λ b. list_any u (cond b (x ∷ kept t xs) (kept t xs))) e)
      by false e rest = (λ i. (e i && u x) || rest i) ∙ sym (ap (λ b. list_any u (cond b (x ∷ kept t xs) (kept t xs))) e)

  pub any_at : (u : A → Bool) (key : ℕ) (xs : List A) (x : A) → key ∷ [] ≡ places_from 0 t xs → slice_get xs key ≡ Some x → list_any (λ x. t x && u x) xs ≡ u x
  any_at u key xs x e at = any_kept u xs ∙ ap (list_any u) (kept_at key xs x e at) ∙ or_false (u x)
    where
      or_false : (b : Bool) → (b || false) ≡ b
      or_false true = refl
      or_false false = refl

-- what passes no test
pub none_any : {A : Type 0} (t u : A → Bool) (xs : List A) → ((x : A) → Contains xs x → t x ≡ false) → list_any (λ x. t x && u x) xs ≡ false
none_any t u [] h = refl
none_any t u (x ∷ xs) h = λ i. (h x (contains_at (x ∷ xs) 0 x refl) i && u x) || none_any t u xs (λ y c. h y (let at = place_of xs y c in contains_at (x ∷ xs) (suc at.0) y at.1)) i

pub none_passes : {A : Type 0} (t : A → Bool) (xs : List A) → ((x : A) → Contains xs x → t x ≡ false) → kept t xs ≡ []
none_passes t [] h = refl
none_passes t (x ∷ xs) h = ap (λ b. cond b (x ∷ kept t xs) (kept t xs)) (h x (contains_at (x ∷ xs) 0 x refl)) ∙ none_passes t xs (λ y c. h y (let at = place_of xs y c in contains_at (x ∷ xs) (suc at.0) y at.1))

-- nothing leaves it
pub uncut : (n : ℕ) (ps : List Pipe) → ((p : Pipe) → Contains ps p → nat_eq p.wire.sender n ≡ false) → is_cut n ps ≡ false
uncut n ps none = none_any (λ (p : Pipe). nat_eq p.wire.sender n) (λ (p : Pipe). p.in_phase && p.is_dropped) ps none

-- a change of pipes leaves their wires, and at most one pipe out of a node
pub lost_wires : (n : ℕ) (ps : List Pipe) → map (λ (p : Pipe). p.wire) (cut_at n ps) ≡ map (λ (p : Pipe). p.wire) ps
lost_wires n ps = by (is_cut n ps)
  where
    by : (b : Bool) → map (λ (p : Pipe). p.wire) (cond b (lost_inputs n ps) ps) ≡ map (λ (p : Pipe). p.wire) ps
    by true = same_wires dropped_pipe (λ p. refl) (λ p. nat_eq p.wire.receiver n && p.in_phase) ps
    by false = refl

pub cut_wires : (k : ℕ) (ps : List Pipe) → map (λ (p : Pipe). p.wire) (cut_below k ps) ≡ map (λ (p : Pipe). p.wire) ps
cut_wires zero ps = refl
cut_wires (suc n) ps = cut_wires n (cut_at n ps) ∙ lost_wires n ps

pub changed_one_output : (test : Pipe → Bool) (f : Pipe → Pipe) (ps : List Pipe) → ((p : Pipe) → (f p).wire ≡ p.wire) → (n : ℕ) → HasOneOutput n ps → HasOneOutput n (change_pipes test f ps)
changed_one_output test f ps same n one = λ p q c d e g.
    let i = place_of (change_pipes test f ps) p c in
    let j = place_of (change_pipes test f ps) q d in
    let a = at_map (λ x. cond (test x) (f x) x) ps i.0 p i.1 in
    let b = at_map (λ x. cond (test x) (f x) x) ps j.0 q j.1 in
    sym a.2 ∙ ap (λ x. cond (test x) (f x) x) (one a.0 b.0 (contains_at ps i.0 a.0 a.1) (contains_at ps j.0 b.0 b.1) (sym (sender a.0 (test a.0)) ∙ ap (λ (x : Pipe). x.wire.sender) a.2 ∙ e) (sym (sender b.0 (test b.0)) ∙ ap (λ (x : Pipe). x.wire.sender) b.2 ∙ g)) ∙ b.2
  where
    sender : (x : Pipe) (b : Bool) → (cond b (f x) x).wire.sender ≡ x.wire.sender
    sender x true = ap (λ w. w.sender) (same x)
    sender x false = refl

pub cut_one_output : (n : ℕ) (ps : List Pipe) (m : ℕ) → HasOneOutput m ps → HasOneOutput m (cut_at n ps)
cut_one_output n ps m one = by (is_cut n ps)
  where
    by : (b : Bool) → HasOneOutput m (cond b (lost_inputs n ps) ps)
    by true = changed_one_output (λ p. nat_eq p.wire.receiver n && p.in_phase) dropped_pipe ps (λ p. refl) m one
    by false = one

-- by a test that was made
pub cut_then : (s : Setting) (n : ℕ) (ps : List Pipe) (pipes : Pipes) (b : Bool) → b ≡ is_cut n ps → b ≡ true → AreShown s (lost_inputs n ps) pipes → AreShown s (cut_at n ps) pipes
cut_then s n ps pipes b is here shown = subst (λ c. AreShown s (cond c (lost_inputs n ps) ps) pipes) (sym here ∙ is) shown

pub cut_else : (s : Setting) (n : ℕ) (ps : List Pipe) (pipes : Pipes) (b : Bool) → b ≡ is_cut n ps → b ≡ false → AreShown s ps pipes → AreShown s (cut_at n ps) pipes
cut_else s n ps pipes b is absent shown = subst (λ c. AreShown s (cond c (lost_inputs n ps) ps) pipes) (sym absent ∙ is) shown

-- no node that streams has heads, or several outputs
pub plain : (kind : PhysicalKind) (x : Node) → IsTrue (streams kind) → (is_multiplexer kind ≡ false) × (without_heads kind x ≡ x)
plain (in_memory_source t) x s = (refl, refl)
plain (select_node es e) x s = (refl, refl)
plain (with_row_index n o) x s = (refl, refl)
plain (independent_select es) x s = (refl, refl)
plain (reduce es) x s = (refl, refl)
plain (streaming_slice o n) x s = (refl, refl)
plain (negative_slice b n) x s = (refl, refl)
plain (filter_node e) x s = (refl, refl)
plain (simple_projection ns) x s = (refl, refl)
plain in_memory_sink x s = (refl, refl)
plain (in_memory_map t) x s = (refl, refl)
plain (stream_map t) x s = (refl, refl)
plain ordered_union x s = (refl, refl)
plain (zip_node e) x s = absurd (let clash : false ≡ true = s in cc)
plain multiplexer x s = absurd (let clash : false ≡ true = s in cc)
plain (group_by_node ks es) x s = (refl, refl)
plain (equi_join j) x s = (refl, refl)
plain (in_memory_join j) x s = (refl, refl)

pub no_multiplexer : (w : World) → AllStream w → (n : ℕ) → multiplexes (slice_get w.nodes n) ≡ false
no_multiplexer w all n = by (slice_get w.nodes n) refl
  where
    by : (o : Option Node) → slice_get w.nodes n ≡ o → multiplexes o ≡ false
    by None e = refl
    by (Some x) e = (plain x.node.kind x (all n x e)).0

no_heads : (w : World) → AllStream w → (n : ℕ) → heads_lost n w.nodes ≡ w.nodes
no_heads w all n = by (slice_get w.nodes n) refl
  where
    by : (o : Option Node) → slice_get w.nodes n ≡ o → put_without_heads o n w.nodes ≡ w.nodes
    by None e = refl
    by (Some x) e = ap (slice_set w.nodes n) (plain x.node.kind x (all n x e)).1 ∙ set_same w.nodes n x e

-- all of what leaves a node is one pipe, or nothing
module _ {N : Type 0} (g : Graph N) (linked : IsLinked g) where
  pub record LeavesBy (n : ℕ) (ps : List Pipe) : Type 0 where
    pub pipe : Pipe
    pub kept_is : kept (λ (p : Pipe). nat_eq p.wire.sender n) ps ≡ pipe ∷ []
    pub cut_is : is_cut n ps ≡ (pipe.in_phase && pipe.is_dropped)

  pub record LeavesNot (n : ℕ) (ps : List Pipe) : Type 0 where
    pub kept_none : kept (λ (p : Pipe). nat_eq p.wire.sender n) ps ≡ []
    pub cut_not : is_cut n ps ≡ false

  module _ (ps : List Pipe) (wires : wires_of g.pipes.slots ≡ map (λ (p : Pipe). p.wire) ps) (n : ℕ) (one : HasOneOutput n ps) where
    nothing : ((p : Pipe) → Contains ps p → nat_eq p.wire.sender n ≡ false) → LeavesNot n ps
    nothing none =
        record { kept_none = none_passes (λ (p : Pipe). nat_eq p.wire.sender n) ps none; cut_not = none_any (λ (p : Pipe). nat_eq p.wire.sender n) (λ (p : Pipe). p.in_phase && p.is_dropped) ps none }

    pub by_key : (key : ℕ) → key ∷ [] ≡ places_from 0 (λ (p : Pipe). nat_eq p.wire.sender n) ps → LeavesBy n ps
    by_key key names =
        let p = place_from g linked ps wires n one key (ap (is_one_of key) (sym names) ∙ (λ i. same_number key key refl i || false)) in
        record { pipe = p.0; kept_is = kept_at (λ (q : Pipe). nat_eq q.wire.sender n) key ps p.0 names p.1; cut_is = any_at (λ (q : Pipe). nat_eq q.wire.sender n) (λ (q : Pipe). q.in_phase && q.is_dropped) key ps p.0 names p.1 }

    pub leaves : LeavesBy n ps ⊎ LeavesNot n ps
    leaves = by (value_at g.nodes.slots n) refl
      where
        by_first : (x : GraphNode N) → value_at g.nodes.slots n ≡ Some x → (o : Option LogicalPipeKey) → slice_get x.outputs.items 0 ≡ o → LeavesBy n ps ⊎ LeavesNot n ps
        by_first x at (Some key) first = inl (by_key key.0 (output_is g linked ps wires n one x key at first))
        by_first x at None first = inr (nothing (none_out g linked ps wires n x at first))

        by : (o : Option (GraphNode N)) → value_at g.nodes.slots n ≡ o → LeavesBy n ps ⊎ LeavesNot n ps
        by None e = inr (nothing (no_node g linked ps wires n e))
        by (Some x) e = by_first x e (slice_get x.outputs.items 0) refl

  -- what leaves by one pipe is cut where that is dropped in the phase
  pub cut_at_key : (ps : List Pipe) → wires_of g.pipes.slots ≡ map (λ (p : Pipe). p.wire) ps → (n : ℕ) → HasOneOutput n ps → (key : LogicalPipeKey) → AreKeysOf (λ p. nat_eq p.wire.sender n) (key ∷ []) ps → (p : Pipe) × IsAt key ps p × (is_cut n ps ≡ (p.in_phase && p.is_dropped))
  cut_at_key ps wires n one key names =
      let p = place_from g linked ps wires n one key.0 (ap (is_one_of key.0) (sym names) ∙ (λ i. same_number key.0 key.0 refl i || false)) in
      (p.0, p.1, any_at (λ (q : Pipe). nat_eq q.wire.sender n) (λ (q : Pipe). q.in_phase && q.is_dropped) key.0 ps p.0 names p.1)

  -- a node is cut off where what leaves it is
  pub cut_off_is : (w : World) → wires_of g.pipes.slots ≡ map (λ (p : Pipe). p.wire) w.pipes → AllStream w → (n : ℕ) → HasOneOutput n w.pipes → is_cut_off w n ≡ is_cut n w.pipes
  cut_off_is w wires all n one = elim (leaves w.pipes wires n one) [
    | inl l ↦ ap test l.kept_is ∙ single l.pipe ∙ sym l.cut_is
    | inr l ↦ ap test l.kept_none ∙ sym l.cut_not
  ]
    where
      test : List Pipe → Bool
      test ps =
          not (is_empty (kept (counts_for_sender w) (in_order (λ (p q : Pipe). nat_lt p.wire.port q.wire.port) ps)))
          && list_all (λ (p : Pipe). p.is_dropped) (kept (counts_for_sender w) (in_order (λ (p q : Pipe). nat_lt p.wire.port q.wire.port) ps))

      counts : (p : Pipe) → counts_for_sender w p ≡ p.in_phase
      counts p = (λ i. p.in_phase || (no_multiplexer w all p.wire.sender i && not (is_done p.wire.receive_state))) ∙ or_false p.in_phase
        where
          or_false : (b : Bool) → (b || false) ≡ b
          or_false true = refl
          or_false false = refl

      by : (p : Pipe) (b : Bool) → (not (is_empty (cond b (p ∷ []) [])) && list_all (λ (q : Pipe). q.is_dropped) (cond b (p ∷ []) [])) ≡ (b && p.is_dropped)
      by p true = and_true p.is_dropped
        where
          and_true : (b : Bool) → (true && (b && true)) ≡ b
          and_true true = refl
          and_true false = refl
      by p false = refl

      single : (p : Pipe) → test (p ∷ []) ≡ (p.in_phase && p.is_dropped)
      single p = by p (counts_for_sender w p) ∙ ap (λ b. b && p.is_dropped) (counts p)

  drop_is : (w : World) → wires_of g.pipes.slots ≡ map (λ (p : Pipe). p.wire) w.pipes → AllStream w → (n : ℕ) → HasOneOutput n w.pipes → drop_at w n ≡ record w { pipes = cut_at n w.pipes }
  drop_is w wires all n one = ap (λ b. drop_if b n w) (cut_off_is w wires all n one) ∙ by (is_cut n w.pipes)
    where
      by : (b : Bool) → drop_if b n w ≡ record w { pipes = cond b (lost_inputs n w.pipes) w.pipes }
      by true = λ i. record w { nodes = no_heads w all n i; pipes = lost_inputs n w.pipes }
      by false = refl

  drops_are : (k : ℕ) (w : World) → wires_of g.pipes.slots ≡ map (λ (p : Pipe). p.wire) w.pipes → AllStream w → ((n : ℕ) → HasOneOutput n w.pipes) → drops_from w k ≡ record w { pipes = cut_below k w.pipes }
  drops_are zero w wires all one = refl
  drops_are (suc n) w wires all one =
      ap (λ v. drops_from v n) (drop_is w wires all n (one n))
      ∙ drops_are n (record w { pipes = cut_at n w.pipes }) (wires ∙ sym (lost_wires n w.pipes)) all (λ m. cut_one_output n w.pipes m (one m))

  pub all_drops : (w : World) → wires_of g.pipes.slots ≡ map (λ (p : Pipe). p.wire) w.pipes → AllStream w → ((n : ℕ) → HasOneOutput n w.pipes) → with_drops w ≡ record w { pipes = cut_below (length w.nodes) w.pipes }
  all_drops w wires all one = drops_are (length w.nodes) w wires all one

-- THE SWEEP
-- What is shown now, with the nodes below this one still to come, leads to what is to be shown at the end.
abbrev pub Sweeps : {N : Type 0} → Graph N → (old now : Pipes) → (below : ℕ) → Type 0
Sweeps g old now k =
    (s : Setting) (ps : List Pipe) → AreShown s ps old → wires_of g.pipes.slots ≡ map (λ (p : Pipe). p.wire) ps → ((n : ℕ) → HasOneOutput n ps)
    → (qs : List Pipe) × AreShown s qs now × (wires_of g.pipes.slots ≡ map (λ (p : Pipe). p.wire) qs) × ((n : ℕ) → HasOneOutput n qs) × (cut_below k qs ≡ cut_below (length g.nodes.slots) ps)

module _ {N : Type 0} (g : Graph N) (old : Pipes) where
  pub sweeps_all : (k : ℕ) → k ≡ length g.nodes.slots → Sweeps g old old k
  sweeps_all k is = λ s ps shown wires one. (ps, shown, wires, one, ap (λ j. cut_below j ps) is)

  pub sweeps_done : (now : Pipes) (k : ℕ) → k ≡ 0 → Sweeps g old now k → (s : Setting) (ps : List Pipe) → AreShown s ps old → wires_of g.pipes.slots ≡ map (λ (p : Pipe). p.wire) ps → ((n : ℕ) → HasOneOutput n ps) → AreShown s (cut_below (length g.nodes.slots) ps) now
  sweeps_done now k is sweeps s ps shown wires one =
      let r = sweeps s ps shown wires one in
      subst (λ l. AreShown s l now) (sym (ap (λ j. cut_below j r.0) is) ∙ r.4) r.1

pub sweeps_on : {N : Type 0} (g : Graph N) (linked : IsLinked g) (old now next : Pipes) (k : ℕ) → k ≤ length g.nodes.slots → 0 < k → Sweeps g old now k
    → ((s : Setting) (ps : List Pipe) → AreShown s ps now → IsLinked g → wires_of g.pipes.slots ≡ map (λ (p : Pipe). p.wire) ps → k - 1 < length g.nodes.slots → HasOneOutput (k - 1) ps → AreShown s (cut_at (k - 1) ps) next) → Sweeps g old next (k - 1)
sweeps_on g linked old now next zero within some sweeps step = absurd (omega (arith, some))
sweeps_on g linked old now next (suc k) within some sweeps step = λ s ps shown wires one.
    let r = sweeps s ps shown wires one in
    let same : suc k - 1 ≡ k = omega arith in (
      cut_at (suc k - 1) r.0,
      step s r.0 r.1 linked r.2 (omega (arith, within)) (r.3 (suc k - 1)),
      r.2 ∙ sym (lost_wires (suc k - 1) r.0),
      λ m. cut_one_output (suc k - 1) r.0 m (r.3 m),
      ap (λ j. cut_below j (cut_at j r.0)) same ∙ r.4,
    )

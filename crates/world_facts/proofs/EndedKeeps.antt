-- The end of a phase keeps the facts: no node is at work any more, so nothing is out and nothing waits.
use Rattle.std.proofs.Common.{◌≡◌, ℕ, zero, suc, ◌⊎◌, Bool, true, false, List, [], ◌∷◌, Some, None, refl, sym, ap, subst, ◌∙◌, inl, inr}
use Rattle.std.specs.Prelude.{◌-◌, Contains, IsFalse, IsTrue, length, map, nat_eq, not, slice_get, ◌&&◌, ◌||◌}
use Rattle.std.specs.List.{AllByRecursion}
use Rattle.ps_frame.specs.Functions.{Functions}
use Rattle.ps_turns.specs.Tasks.{Piece}
use Rattle.ps_world.specs.Closing.{after_end}
use Rattle.ps_world.specs.Facts.{Facts, IsAwaited, PipeFacts}
use Rattle.ps_world.specs.Step.{Steps}
use Rattle.ps_world.specs.World.{Node, Pipe, World, ended, is_bounded, is_drained, running, IsWorking}
use Rattle.world_facts.proofs.CutOff.{both_true}
use Rattle.world_facts.proofs.Kin.{Kin, base, came_from, multiplexes_kin, no_use_kin}
use Rattle.world_laws.proofs.Shapes.{unmarked_keep}
use Rattle.world_facts.proofs.Taken.{not_true}

abbrev bare : Pipe → Pipe
bare p = record p { in_phase = false; is_closed = false }

abbrev bare_node : Node → Node
bare_node n = record n { in_phase = false; is_closed = false }

bare_at : (nodes : List Node) (m : ℕ) (x : Node) → slice_get nodes m ≡ Some x → slice_get (map bare_node nodes) m ≡ Some (bare_node x)
bare_at [] m x e = absurd (let no : None ≡ Some x = e in cc)
bare_at (y ∷ ys) zero x e = let s : Some y ≡ Some x = e in let is : y ≡ x = cc in ap (λ z. Some (bare_node z)) is
bare_at (y ∷ ys) (suc m) x e = bare_at ys m x e

nodes_bare : (nodes : List Node) → AllByRecursion (λ (n : Node). IsFalse (n.in_phase || n.is_closed)) (map bare_node nodes)
nodes_bare [] = tt
nodes_bare (x ∷ xs) = (refl, nodes_bare xs)

pipes_bare : (pipes : List Pipe) → AllByRecursion (λ (p : Pipe). IsFalse (p.in_phase || p.is_closed)) (map bare pipes)
pipes_bare [] = tt
pipes_bare (x ∷ xs) = (refl, pipes_bare xs)

each_at : {A : Type 0} (P : A → Type 0) (xs : List A) (m : ℕ) (x : A) → AllByRecursion P xs → slice_get xs m ≡ Some x → P x
each_at P [] m x all e = absurd (let no : None ≡ Some x = e in cc)
each_at P (y ∷ ys) zero x all e = let s : Some y ≡ Some x = e in let is : y ≡ x = cc in subst P is all.0
each_at P (y ∷ ys) (suc m) x all e = each_at P ys m x all.1 e

module _ (F : Functions) (w : World) (f : Facts F w) (runs : w.ending ≡ running) (shut : AllByRecursion (λ (n : Node). IsTrue n.in_phase → IsTrue n.is_closed) w.nodes) where
  abbrev v : World
  v = after_end w

  idle : (m : ℕ) → IsWorking w m → ⊥
  idle m (x, at, on) =
      let a = both_true w.is_open (x.in_phase && not x.is_closed) on in
      let b = both_true x.in_phase (not x.is_closed) a.1 in
      let closed = each_at (λ (n : Node). IsTrue n.in_phase → IsTrue n.is_closed) w.nodes m x shut at b.0 in
      let no : true ≡ false = sym closed ∙ not_true x.is_closed b.1 in cc

  none_out : (q : Piece) → Contains w.outs q → ⊥
  none_out q c = idle q.node (f.at_work q c)

  kin : Kin w v
  kin =
      record {
        shape = unmarked_keep w.nodes;
        options = refl;
        over = λ m x at o. (bare_node x, bare_at w.nodes m x at, o);
        pipe = bare;
        pipes = refl;
        joins = λ x. refl;
        dropped = λ x d. d;
        done = λ x c d. d;
      }

  true_or_false : (b : Bool) → (b ≡ true) ⊎ (b ≡ false)
  true_or_false true = inl refl
  true_or_false false = inr refl

  of_pipe : (x : Pipe) → Contains w.pipes x → PipeFacts v (bare x)
  of_pipe x c =
      record {
        taken = facts.taken;
        came = facts.came;
        expected = λ r k hole. still k (facts.expected runs k hole);
        at_hand = λ on. never on;
        closed_with_sender = λ on. never on;
        closed_by_sender = λ on. never on;
        closed_in_phase = λ on. never on;
        read_to_end = λ on. never on;
        drained = λ off bound. dry (sym (ap not (multiplexes_kin w v kin x.wire.sender)) ∙ bound) (true_or_false x.in_phase) (true_or_false (x.is_dropped || (x.is_closed && is_drained x)));
        unread_done = facts.unread_done;
        why_dropped = λ gone. no_use_kin w v kin x.wire.receiver (facts.why_dropped gone);
      }
    where
      facts : PipeFacts w x
      facts = f.pipes x c

      never : {A : Type 0} → IsTrue false → A
      never on = absurd (let no : false ≡ true = on in cc)

      still : (k : ℕ) → IsTrue x.is_dropped ⊎ IsTrue x.in_phase × IsAwaited w x.wire.sender k → IsTrue x.is_dropped ⊎ IsTrue false × IsAwaited v x.wire.sender k
      still k (inl gone) = inl gone
      still k (inr (on, a)) = absurd (none_out a.0 a.1)

      dropped_drained : (d c e n : Bool) → (d || (c && (d || n))) ≡ true → (d || n) ≡ true
      dropped_drained true c e n h = refl
      dropped_drained false true e n h = h
      dropped_drained false false e n h = absurd (let no : false ≡ true = h in cc)

      dry : IsTrue (is_bounded w x) → (x.in_phase ≡ true) ⊎ (x.in_phase ≡ false) → ((x.is_dropped || (x.is_closed && is_drained x)) ≡ true) ⊎ ((x.is_dropped || (x.is_closed && is_drained x)) ≡ false) → IsTrue (is_drained x)
      dry bound (inr off) h = facts.drained off bound
      dry bound (inl on) (inr left) = absurd (idle x.wire.receiver (facts.read_to_end on left))
      dry bound (inl on) (inl over) = dropped_drained x.is_dropped x.is_closed true (nat_eq (length x.got - x.next) 0) over

  b : Rattle.world_facts.proofs.Kin.Base w v kin F
  b = base w v kin F f

  pub end_keeps : Facts F v
  unfolding kin
  end_keeps =
      record {
        sound = b.sound;
        wires = b.wires;
        one_input = b.one_input;
        one_output = b.one_output;
        workers = f.workers;
        own_workers = f.own_workers;
        at_work = λ q c. absurd (none_out q c);
        expected = λ q c. absurd (none_out q c);
        own_numbers = λ q r p c d g h n k e. absurd (none_out q c);
        own_slots = f.own_slots;
        pipes = λ p c. let x = came_from w v kin p c in subst (PipeFacts v) x.2 (of_pipe x.0 x.1);
        cut_off = λ p c near on off. let x = came_from w v kin p c in absurd (let no : false ≡ true = ap (λ (z : Pipe). z.in_phase) x.2 ∙ on in cc);
        no_marks = λ e. (nodes_bare w.nodes, pipes_bare w.pipes);
      }

pub ended_keeps : (F : Functions) (w v : World) (phase : ℕ) → Facts F w → Steps F w (ended phase) v → Facts F v
ended_keeps F w v phase f s = subst (Facts F) (sym s.4) (end_keeps F w f s.1 s.3)

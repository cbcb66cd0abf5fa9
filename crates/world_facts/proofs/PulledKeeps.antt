-- A pull keeps the facts.
use Rattle.std.proofs.Common.{◌≡◌, ◌≢◌, ℕ, zero, suc, ◌⊎◌, Bool, true, false, cond, List, [], ◌∷◌, ◌++◌, Option, Some, None, refl, sym, ap, subst, ◌∙◌, inl, inr, arith, map-id}
use Rattle.std.specs.Prelude.{Contains, IsTrue, get_or, map, nat_eq, not, slice_get, slice_set, ◌&&◌}
use Rattle.std.proofs.lemmas.Bool.{and_left, cases_eq, or_from}
use Rattle.ps_frame.specs.Functions.{Functions}
use Rattle.ps_frame.specs.Tables.{Row}
use Rattle.ps_meaning.specs.Shape.{PhysicalKind, equi_join, filter_node, group_by_node, in_memory_join, in_memory_map, in_memory_sink, in_memory_source, independent_select, multiplexer, negative_slice, ordered_union, reduce, select_node, simple_projection, stream_map, streaming_slice, with_row_index, zip_node}
use Rattle.ps_ports.specs.Ports.{is_done}
use Rattle.ps_turns.specs.Progress.{Progress, is_multiplexer}
use Rattle.ps_turns.specs.Pulls.{after_store}
use Rattle.ps_world.specs.Facts.{Facts, IsAwaited, PipeFacts, is_over_slice, slots_of}
use Rattle.ps_world.specs.Pipes.{change_pipes, is_input, with_morsel}
use Rattle.ps_world.specs.Pulls.{after_pull, is_open_port}
use Rattle.ps_world.specs.Step.{Steps}
use Rattle.ps_world.specs.World.{Node, Pipe, World, is_bounded, is_drained, multiplexes, pulled, running, IsWorking}
use Rattle.world_facts.proofs.CutOff.{both_true, same_number}
use Rattle.world_facts.proofs.Follows.{Follows, HasMarksOf, IsLike, OwesPipe, follow, multiplexes_same, still_no_use, working}
use Rattle.world_laws.proofs.Shapes.{shown_set}
use Rattle.world_facts.proofs.Slots.{at_before, length-append_one, set_here, set_other}
use Rattle.world_facts.proofs.Stays.{cut_stays, pieces_stay, set_back, set_onward}
use Rattle.world_facts.proofs.Taken.{take_keeps, take_world}

some_at_end : {A : Type 0} (xs : List (Option A)) (y : A) (k : ℕ) → slice_get (xs ++ Some y ∷ []) k ≡ Some None → slice_get xs k ≡ Some None
some_at_end [] y zero e = absurd (let no : Some (Some y) ≡ Some None = e in cc)
some_at_end [] y (suc k) e = absurd (let no : None ≡ Some None = e in cc)
some_at_end (x ∷ xs) y zero e = e
some_at_end (x ∷ xs) y (suc k) e = some_at_end xs y k e

-- a change where a test holds at all
change_if : (b : Bool) (t : Pipe → Bool) (g : Pipe → Pipe) (ps : List Pipe) → cond b (change_pipes t g ps) ps ≡ map (λ p. cond (b && t p) (g p) p) ps
change_if true t g ps = refl
change_if false t g ps = sym (map-id ps)

-- w is the world after its morsel was taken, v that in which the node stores it or hands it on
module _ (w v : World) (n : ℕ) (node : Node) (progress : Progress) (m : List Row) (at : slice_get w.nodes n ≡ Some node) (on : (w.is_open && (node.in_phase && not node.is_closed)) ≡ true) (runs : w.ending ≡ running)
    (over : IsTrue (is_over_slice node.node.kind node.progress.booked) → IsTrue (is_over_slice node.node.kind progress.booked)) (kept : progress.taken ≡ node.progress.taken)
    (nodes : v.nodes ≡ slice_set w.nodes n (record node { progress = progress })) (pipes : v.pipes ≡ cond (is_multiplexer node.node.kind) (change_pipes (is_open_port n) (with_morsel m) w.pipes) w.pipes)
    (outs : v.outs ≡ w.outs) (options : v.options ≡ w.options) (stays : v.is_open ≡ w.is_open) where
  is_open : w.is_open ≡ true
  is_open = (both_true w.is_open (node.in_phase && not node.is_closed) on).0

  marks : HasMarksOf node (record node { progress = progress })
  marks = record { in_phase = refl; is_closed = refl; over = over }

  abbrev hands : Pipe → Bool
  hands p = is_multiplexer node.node.kind && is_open_port n p

  abbrev pull_follows : Follows w v
  pull_follows =
      record {
        shape = ap (map (λ (x : Node). x.node)) nodes ∙ shown_set w.nodes n node (record node { progress = progress }) at refl;
        options = options;
        open_before = is_open;
        open_after = stays ∙ is_open;
        onward = λ k x e. subst (λ (ns : List Node). (y : Node) × (slice_get ns k ≡ Some y) × HasMarksOf x y) (sym nodes) (set_onward w.nodes n node (record node { progress = progress }) at marks k x e);
        back = λ k y e. set_back w.nodes n node (record node { progress = progress }) at marks k y (ap (λ ns. slice_get ns k) (sym nodes) ∙ e);
        pipe = λ p. cond (hands p) (with_morsel m p) p;
        pipes = pipes ∙ change_if (is_multiplexer node.node.kind) (is_open_port n) (with_morsel m) w.pipes;
        like = λ x. like x (hands x) x.is_dropped;
      }
    where
      like : (x : Pipe) (b d : Bool) → IsLike x (cond b (cond d x (record x { got = x.got ++ Some m ∷ [] })) x)
      like x true true = record { wire = refl; in_phase = refl; is_closed = refl; is_unread = refl; dropped = λ d. d }
      like x true false = record { wire = refl; in_phase = refl; is_closed = refl; is_unread = refl; dropped = λ d. d }
      like x false d = record { wire = refl; in_phase = refl; is_closed = refl; is_unread = refl; dropped = λ d. d }

  true_or_false : (b : Bool) → (b ≡ true) ⊎ (b ≡ false)
  true_or_false true = inl refl
  true_or_false false = inr refl

  module _ (F : Functions) (f : Facts F w) where
    owed : (x : Pipe) → Contains w.pipes x → OwesPipe w v pull_follows (cond (hands x) (cond x.is_dropped x (record x { got = x.got ++ Some m ∷ [] })) x)
    owed x c = by (hands x) x.is_dropped refl refl
      where
        facts : PipeFacts w x
        facts = f.pipes x c

        awaited : (k : ℕ) → IsTrue x.is_dropped ⊎ IsTrue x.in_phase × IsAwaited w x.wire.sender k → IsTrue x.is_dropped ⊎ IsTrue x.in_phase × IsAwaited v x.wire.sender k
        awaited k (inl gone) = inl gone
        awaited k (inr (here, a)) = inr (here, (a.0, subst (λ xs. Contains xs a.0) (sym outs) a.1, a.2, a.3, a.4))

        same_bound : is_bounded v x ≡ is_bounded w x
        same_bound = ap not (multiplexes_same w v pull_follows x.wire.sender)

        sender : hands x ≡ true → (x.wire.sender ≡ n) × (is_multiplexer node.node.kind ≡ true)
        sender e =
            let a = both_true (is_multiplexer node.node.kind) (is_open_port n x) e in
            let b = both_true (nat_eq x.wire.sender n) (not (is_done x.wire.receive_state) && not x.is_dropped) a.1 in
            (same_number x.wire.sender n b.0, a.0)

        still_open : hands x ≡ true → (x.is_closed ≡ true) ⊎ (x.is_closed ≡ false) → x.is_closed ≡ false
        still_open e (inl shut) = absurd (facts.closed_by_sender shut (subst (IsWorking w) (sym (sender e).0) (node, at, on)))
        still_open e (inr h) = h

        unbounded : hands x ≡ true → is_bounded w x ≡ false
        unbounded e = ap not (ap (λ k. multiplexes (slice_get w.nodes k)) (sender e).0 ∙ ap multiplexes at ∙ (sender e).1)

        unchanged : OwesPipe w v pull_follows x
        unchanged =
            record {
              taken = facts.taken;
              came = facts.came;
              expected = λ r k hole. awaited k (facts.expected runs k hole);
              read_to_end = λ here left. working w v pull_follows x.wire.receiver (facts.read_to_end here left);
              drained = λ off bound. facts.drained off (sym same_bound ∙ bound);
              why_dropped = λ gone. still_no_use w v pull_follows x.wire.receiver (facts.why_dropped gone);
            }

        by : (b d : Bool) → hands x ≡ b → x.is_dropped ≡ d → OwesPipe w v pull_follows (cond b (cond d x (record x { got = x.got ++ Some m ∷ [] })) x)
        by true true e d = unchanged
        by false d e g = unchanged
        by true false e d =
            let grown = length-append_one x.got (Some m) in
            record {
              taken = let t = facts.taken in omega arith;
              came = λ k h. let r = facts.came k h in (r.0, at_before x.got (Some m ∷ []) k (Some r.0) r.1);
              expected = λ r k hole. awaited k (facts.expected runs k (some_at_end x.got m k hole));
              read_to_end = λ here left. working w v pull_follows x.wire.receiver (facts.read_to_end here (or_from x.is_dropped (x.is_closed && is_drained x) d (and_left x.is_closed (is_drained x) (still_open e (true_or_false x.is_closed)))));
              drained = λ off bound. absurd (let no : false ≡ true = sym (unbounded e) ∙ sym same_bound ∙ bound in cc);
              why_dropped = λ gone. still_no_use w v pull_follows x.wire.receiver (facts.why_dropped gone);
            }

    slots : (j i k : ℕ) → slice_get (slots_of (slice_get w.nodes j) i) k ≡ Some None → slice_get (slots_of (slice_get v.nodes j) i) k ≡ Some None
    slots j i k e = ap (λ ns. slice_get (slots_of (slice_get ns j) i) k) nodes ∙ by (cases_eq j n)
      where
        by : (j ≡ n) ⊎ (j ≢ n) → slice_get (slots_of (slice_get (slice_set w.nodes n (record node { progress = progress })) j) i) k ≡ Some None
        by (inl same) =
            ap (λ o. slice_get (slots_of o i) k) (ap (slice_get (slice_set w.nodes n (record node { progress = progress }))) same ∙ set_here w.nodes n node (record node { progress = progress }) at)
            ∙ ap (λ t. slice_get (get_or t i []) k) kept ∙ sym (ap (λ o. slice_get (slots_of o i) k) (ap (slice_get w.nodes) same ∙ at)) ∙ e
        by (inr other) = ap (λ o. slice_get (slots_of o i) k) (set_other w.nodes n j (record node { progress = progress }) other) ∙ e

    got_later : (x : Pipe) (j : ℕ) (b d : Bool) → slice_get x.got j ≡ Some None → slice_get (cond b (cond d x (record x { got = x.got ++ Some m ∷ [] })) x).got j ≡ Some None
    got_later x j true true e = e
    got_later x j true false e = at_before x.got (Some m ∷ []) j None e
    got_later x j false d e = e

    same_dropped : (x : Pipe) (b d : Bool) → (cond b (cond d x (record x { got = x.got ++ Some m ∷ [] })) x).is_dropped ≡ x.is_dropped
    same_dropped x true true = refl
    same_dropped x true false = refl
    same_dropped x false d = refl

    pub store_keeps : Facts F v
    store_keeps = follow w v pull_follows F f owed (pieces_stay w v pull_follows F f outs slots (λ x j e. got_later x j (hands x) x.is_dropped e)) (cut_stays w v pull_follows F f (λ x. same_dropped x (hands x) x.is_dropped))

pub pulled_keeps : (F : Functions) (w v : World) (n i number : ℕ) → Facts F w → Steps F w (pulled n i number) v → Facts F v
pulled_keeps F w v n i number f s =
    let node : Node = s.0 in let p : Pipe = s.4.0 in let m : List Row = s.4.1 in
    let progress : Progress = cond (is_multiplexer node.node.kind) node.progress (after_store node.node.kind i m node.progress) in
    let here = both_true (is_input n i p) p.in_phase s.4.3 in
    let opened = (both_true w.is_open (node.in_phase && not node.is_closed) s.1.1).0 in
    let taken_facts = take_keeps w n i opened F f p s.4.2 here.0 here.1 s.4.4 in
    subst (Facts F) (sym s.4.8)
    (store_keeps (take_world w n i) (after_pull w n i node p m) n node progress m s.1.0 s.1.1 s.1.2 (still_over node.node.kind i m node.progress) (same_taken node.node.kind i m node.progress) refl refl refl refl refl F taken_facts)
  where
    -- a negative slice counts the rows that it pulls, and it is no slice that ends early
    still_over : (k : PhysicalKind) (i : ℕ) (m : List Row) (p : Progress) → IsTrue (is_over_slice k p.booked) → IsTrue (is_over_slice k (cond (is_multiplexer k) p (after_store k i m p)).booked)
    still_over (in_memory_source t) i m p o = o
    still_over (independent_select es) i m p o = o
    still_over (reduce es) i m p o = o
    still_over (filter_node e) i m p o = o
    still_over (select_node es extends) i m p o = o
    still_over (simple_projection ns) i m p o = o
    still_over (stream_map step) i m p o = o
    still_over (with_row_index name offset) i m p o = o
    still_over (streaming_slice offset n) i m p o = o
    still_over (negative_slice back n) i m p o = o
    still_over in_memory_sink i m p o = o
    still_over (in_memory_map step) i m p o = o
    still_over ordered_union i m p o = o
    still_over (zip_node extend) i m p o = o
    still_over multiplexer i m p o = o
    still_over (group_by_node keys aggregates) i m p o = o
    still_over (equi_join j) i m p o = o
    still_over (in_memory_join j) i m p o = o

    same_taken : (k : PhysicalKind) (i : ℕ) (m : List Row) (p : Progress) → (cond (is_multiplexer k) p (after_store k i m p)).taken ≡ p.taken
    same_taken (in_memory_source t) i m p = refl
    same_taken (independent_select es) i m p = refl
    same_taken (reduce es) i m p = refl
    same_taken (filter_node e) i m p = refl
    same_taken (select_node es extends) i m p = refl
    same_taken (simple_projection ns) i m p = refl
    same_taken (stream_map step) i m p = refl
    same_taken (with_row_index name offset) i m p = refl
    same_taken (streaming_slice offset n) i m p = refl
    same_taken (negative_slice back n) i m p = refl
    same_taken in_memory_sink i m p = refl
    same_taken (in_memory_map step) i m p = refl
    same_taken ordered_union i m p = refl
    same_taken (zip_node extend) i m p = refl
    same_taken multiplexer i m p = refl
    same_taken (group_by_node keys aggregates) i m p = refl
    same_taken (equi_join j) i m p = refl
    same_taken (in_memory_join j) i m p = refl

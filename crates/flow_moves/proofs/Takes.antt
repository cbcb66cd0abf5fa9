-- The moves of a node at work, by whether an input has a next morsel.
use Rattle.std.proofs.Common.{◌≡◌, ◌⊎◌, ℕ, Bool, true, false, cond, List, [], ◌∷◌, inl, inr, length, Option, Some, None, refl, sym, ap, subst, ◌∙◌, arith}
use Rattle.std.specs.Prelude.{◌&&◌, Contains, IsTrue, is_some, nat_eq, not, option_map, slice_get}
use Rattle.std.proofs.lemmas.Option.{slice_get_within}
use Rattle.flow_moves.proofs.InputsOver.{no_next, pulls_none, waits_on}
use Rattle.flow_moves.proofs.Moves.{no_move}
use Rattle.flow_moves.proofs.Possible.{next_claims, own_claims}
use Rattle.ps_flow.proofs.Senders.{names_sender, receiver_is}
use Rattle.ps_flow.specs.Claiming.{streams}
use Rattle.flow_moves.specs.Moves.{IsMoveOf, MayPick, OnlyClaims, TakesAt, TakesNothing, is_waiting}
use Rattle.ps_frame.specs.Functions.{Functions}
use Rattle.ps_frame.specs.Tables.{Row}
use Rattle.ps_meaning.specs.Shape.{PhysicalKind, equi_join, filter_node, group_by_node, in_memory_join, in_memory_map, in_memory_sink, in_memory_source, independent_select, multiplexer, negative_slice, ordered_union, reduce, select_node, simple_projection, stream_map, streaming_slice, with_row_index, zip_node}
use Rattle.ps_settle.proofs.Members.{at_both, contains_cases, in_kept, map_at, none_in_nil}
use Rattle.ps_turns.specs.Claims.{Claim, claim_of}
use Rattle.ps_turns.specs.Heads.{Head}
use Rattle.ps_turns.specs.Pulls.{pulls, wants}
use Rattle.ps_world.specs.Claims.{claim_at, inputs_in_phase, next_morsel}
use Rattle.ps_world.specs.Closing.{HasFinished, inputs_over}
use Rattle.ps_world.specs.Pipes.{is_input}
use Rattle.ps_world.specs.Pulls.{after_pull, closed_inputs}
use Rattle.ps_world.specs.Step.{IsAtWork, Steps}
use Rattle.ps_world.specs.World.{Node, Pipe, Record, World, claimed, closed, ended, handed_in, has_next, heads_of, inputs_done, is_cut_off, morsel_at, opened, pulled, schemas_for, shape_of}
use Rattle.world_records.specs.declared.records.Move.TheVariants as turn

both_true : (a b : Bool) → (a && b) ≡ true → (a ≡ true) × (b ≡ true)
both_true true true e = (refl, refl)
both_true true false e = absurd (let no_way : false ≡ true = e in cc)
both_true false b e = absurd (let no_way : false ≡ true = e in cc)

clash : (b : Bool) → b ≡ true → b ≡ false → ⊥
clash b x y = absurd (let both : true ≡ false = sym x ∙ y in cc)

some_clash : {A : Type 0} {o : Option A} (x : A) → o ≡ Some x → o ≡ None → ⊥
some_clash x e f = absurd (let both : Some x ≡ None = sym e ∙ f in cc)

-- a sink wants what it may pull
wants_it : (kind : PhysicalKind) → IsTrue (streams kind) → pulls kind ≡ true → (hs : List Head) (cs : List Bool) (i : ℕ) → wants kind hs cs i ≡ true
wants_it in_memory_sink s p hs cs i = refl
wants_it (in_memory_source t) s p hs cs i = p
wants_it (independent_select es) s p hs cs i = p
wants_it (select_node es extends) s p hs cs i = p
wants_it (with_row_index name offset) s p hs cs i = p
wants_it (streaming_slice offset l) s p hs cs i = p
wants_it (filter_node t) s p hs cs i = p
wants_it (simple_projection names) s p hs cs i = p
wants_it (stream_map step) s p hs cs i = p
wants_it ordered_union s p hs cs i = p
wants_it (reduce es) s p hs cs i = p
wants_it (negative_slice back l) s p hs cs i = refl
wants_it (in_memory_map step) s p hs cs i = refl
wants_it (zip_node extend) s p hs cs i = absurd (let no_way : false ≡ true = s in cc)
wants_it multiplexer s p hs cs i = refl
wants_it (group_by_node keys aggregates) s p hs cs i = p
wants_it (equi_join j) s p hs cs i = p
wants_it (in_memory_join j) s p hs cs i = refl

morsel_there : (p : Pipe) → has_next p ≡ true → (m : List Row) × (morsel_at p.next p.got ≡ Some m)
morsel_there p e = by (morsel_at p.next p.got) refl
  where
    by : (o : Option (List Row)) → morsel_at p.next p.got ≡ o → (m : List Row) × (morsel_at p.next p.got ≡ Some m)
    by (Some m) is = (m, is)
    by None is = absurd (clash false (sym (ap is_some is) ∙ (both_true (not p.is_dropped) (is_some (morsel_at p.next p.got)) e).1) refl)

next_some : (ps : List Pipe) (p : Pipe) → Contains ps p → has_next p ≡ true → (m : ℕ × List Row) × (next_morsel ps ≡ Some m)
next_some [] p c e = absurd (none_in_nil p c)
next_some (q ∷ qs) p c e = by (λ later. next_some qs p later e) (has_next q) refl (contains_cases q p qs c)
  where
    by : (Contains qs p → (m : ℕ × List Row) × (next_morsel qs ≡ Some m)) → (b : Bool) → has_next q ≡ b → (q ≡ p) ⊎ Contains qs p → (m : ℕ × List Row) × (next_morsel (q ∷ qs) ≡ Some m)
    by rest true is d = let m = morsel_there q is in ((q.next, m.0), ap (λ b. cond b (option_map (λ rs. (q.next, rs)) (morsel_at q.next q.got)) (next_morsel qs)) is ∙ ap (option_map (λ rs. (q.next, rs))) m.1)
    by rest false is (inl same) = absurd (clash (has_next q) (ap has_next same ∙ e) is)
    by rest false is (inr later) = let r = rest later in (r.0, ap (λ b. cond b (option_map (λ rs. (q.next, rs)) (morsel_at q.next q.got)) (next_morsel qs)) is ∙ r.1)

module _ (F : Functions) (w : World) (may : MayPick F w) (n : ℕ) (x : Node) (at : IsAtWork w n x) (uncut : is_cut_off w n ≡ false) where
  node_is : slice_get (shape_of w) n ≡ Some x.node
  node_is = map_at (λ (z : Node). z.node) w.nodes n x at.0

  same_node : (y : Node) → IsAtWork w n y → y ≡ x
  same_node y other = at_both w.nodes n y x other.0 at.0

  streaming : IsTrue (streams x.node.kind)
  streaming = may.all_stream n x at.0

  module _ (i : ℕ) (p : Pipe) (among : Contains w.pipes p) (leads : is_input n i p ≡ true) (waits : is_waiting p ≡ true) where
    phase : p.in_phase ≡ true
    phase = (both_true p.in_phase (has_next p) waits).0

    next : has_next p ≡ true
    next = (both_true p.in_phase (has_next p) waits).1

    no_close : (v : World) → Steps F w (closed n) v → ⊥
    no_close v s = waits_on F w n s.0 uncut p among (receiver_is F w may.facts n i p among leads) waits s.3

    pub pulls_it : pulls x.node.kind ≡ true → IsMoveOf F w n (Some (turn.Pull n i))
    pulls_it pulling =
        let m = morsel_there p next in (
          pulled n i p.next,
          after_pull w n i x p m.0,
          refl,
          (x, at, pulling, uncut, (p, m.0, among, (λ j. leads j && phase j), next, m.1, refl, wants_it x.node.kind streaming pulling (heads_of w n x) (closed_inputs w n) i, refl)),
        )

    pub only_claims : pulls x.node.kind ≡ false → (c : Claim) × OnlyClaims F w n i x c
    only_claims other =
        let m = next_some (inputs_in_phase w n i) p (in_kept (λ (q : Pipe). is_input n i q && q.in_phase) p w.pipes among (λ j. leads j && phase j)) next in
        let inside = slice_get_within x.node.inputs i (p.wire.sender, p.wire.port) (names_sender F w may.facts n i p among leads x.node node_is) in
        let c = next_claims w.options x.node (schemas_for w x) x.node.kind streaming other (length x.node.inputs) (may.facts.sound.0 n x.node node_is).inputs (omega (arith, inside)) x.progress (heads_of w n x) (inputs_done w n) i m.0 in (
          c.0,
          record {
            at_work = at;
            kept = uncut;
            claims = ap (claim_of w.options x.node (schemas_for w x) x.progress (heads_of w n x) (inputs_done w n) i) m.1 ∙ c.1;
            no_pull = λ j k v s. clash (pulls x.node.kind) (subst (λ (y : Node). pulls y.node.kind ≡ true) (same_node s.0 s.1) s.2) other;
            no_close = no_close;
          },
        )

  module _ (none : (p : Pipe) → Contains w.pipes p → nat_eq p.wire.receiver n ≡ true → is_waiting p ≡ false) where
    abbrev own : Option Claim
    own = claim_of w.options x.node (schemas_for w x) x.progress (heads_of w n x) (inputs_done w n) 0 None

    at_none : (i : ℕ) → claim_at w n i x ≡ claim_of w.options x.node (schemas_for w x) x.progress (heads_of w n x) (inputs_done w n) i None
    at_none i = ap (claim_of w.options x.node (schemas_for w x) x.progress (heads_of w n x) (inputs_done w n) i) (no_next F w n none i)

    pub own_claim : (c : Claim) → own ≡ Some c → OnlyClaims F w n 0 x c
    own_claim c is =
        record {
          at_work = at;
          kept = uncut;
          claims = at_none 0 ∙ is;
          no_pull = pulls_none F w n none;
          no_close = λ v s. not_over s.0 (same_node s.0 s.1) s.3;
        }
      where
        not_over : (y : Node) → y ≡ x → HasFinished w n y → ⊥
        not_over y same (inr cut) = clash (is_cut_off w n) cut uncut
        not_over y same (inl over) = some_clash c (ap (claim_at w n 0) same ∙ at_none 0 ∙ is) (over.1 0)

    no_claim : own ≡ None → (i : ℕ) → claim_at w n i x ≡ None
    no_claim is i = by (claim_at w n i x) refl
      where
        by : (o : Option Claim) → claim_at w n i x ≡ o → o ≡ None
        by None e = refl
        by (Some c) e = absurd (some_clash c (own_claims w.options x.node (schemas_for w x) x.node.kind streaming x.progress (heads_of w n x) (inputs_done w n) i c (sym (at_none i) ∙ e)) is)

    pub finishes : own ≡ None → inputs_over w n ≡ true → HasFinished w n x
    finishes is over = inl (over, no_claim is)

    claims_nothing : own ≡ None → (i k worker : ℕ) (v : World) → Steps F w (claimed n i k worker) v → ⊥
    claims_nothing is i k worker v s = some_clash s.5.0 (ap (claim_at w n i) (sym (same_node s.0 s.1)) ∙ s.5.1) (no_claim is i)

    pub takes_nothing : own ≡ None → TakesNothing F w n
    takes_nothing is = by
      where
        by : (r : Record) (v : World) → Steps F w r v → TakesAt r n → ⊥
        by (claimed m i k worker) v s e = claims_nothing is i k worker v (subst (λ j. Steps F w (claimed j i k worker) v) e s)
        by (pulled m i k) v s e = pulls_none F w n none i k v (subst (λ j. Steps F w (pulled j i k) v) e s)
        by (closed m) v s e = absurd e
        by (opened k) v s e = absurd e
        by (handed_in m i k worker a) v s e = absurd e
        by (ended k) v s e = absurd e

    pub still_open : own ≡ None → inputs_over w n ≡ false → IsMoveOf F w n None
    still_open is open_still = no_move F w n (claims_nothing is) (pulls_none F w n none) (λ v s. not_over s.0 s.3)
      where
        not_over : (y : Node) → HasFinished w n y → ⊥
        not_over y (inr cut) = clash (is_cut_off w n) cut uncut
        not_over y (inl over) = clash (inputs_over w n) over.0 open_still

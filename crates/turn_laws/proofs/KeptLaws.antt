-- The updates of every kind of node keep the laws by which a graph comes to rest, also where a map that waits for its table is filled first.
use Rattle.std.proofs.Common.{◌≡◌, ◌≤◌, ◌⊎◌, true, false, length, refl, sym, ap, subst, ◌∙◌, inl, inr, arith}
use Rattle.std.specs.Prelude.{IsFalse, IsTrue, is_some}
use Rattle.ps_frame.specs.Functions.{Functions}
use Rattle.ps_options.specs.declared.options.Options.{Options}
use Rattle.ps_ports.specs.Ports.{Sides, keeping_done}
use Rattle.ps_ports.specs.UpdateLaws.{AgreeApartFromDone, KeepsUpdateLaws, StayDone}
use Rattle.ps_turns.specs.Progress.{Progress, giving, taking}
use Rattle.ps_turns.specs.Updates.{answer_by, is_waiting, stage_after}
use Rattle.turn_laws.specs.Updating.{FilledTo, FillsAndUpdates, SeenNode, UpdatesTo, heads_given, heads_seen, stages_before, stages_behind}
use Rattle.turn_laws.proofs.Kept.{kept_agree, kept_long, kept_stays}
use Rattle.turn_laws.proofs.Long.{has_states}
use Rattle.turn_laws.proofs.Sends.{same_answer, same_sends}
use Rattle.turn_laws.proofs.Turned.{LeavesBehind, Waits, fills_stage, same_heads, same_stage, stage_later, turn_leaves, turn_stage, turn_stays, waits}

module _ (F : Functions) (o : Options) where
  -- ONE UPDATE
  module _ (a b : SeenNode) (given answer : Sides) (u : UpdatesTo F o a given b answer) where
    pub left_behind : LeavesBehind a.progress b.progress
    left_behind = turn_leaves F o a.node a.schemas given a.progress b.progress u.turns

    pub stage_is : b.progress.stage ≡ stage_after o a.node.kind a.progress given
    stage_is = turn_stage F o a.node a.schemas given a.progress b.progress u.turns

    pub long_answer : (length answer.inputs ≡ length given.inputs) × (length answer.outputs ≡ length given.outputs)
    long_answer =
        let raw = answer_by o a.node.kind b.progress (heads_seen a given) a.empties given in
        let enough = has_states o a.node.kind b.progress (heads_seen a given) a.empties given u.ports.0 u.ports.1 in
        (ap (λ (s : Sides). length s.inputs) u.answers ∙ kept_long given.inputs raw.inputs enough.0, ap (λ (s : Sides). length s.outputs) u.answers ∙ kept_long given.outputs raw.outputs enough.1)

    pub stays_done : StayDone given.inputs answer.inputs × StayDone given.outputs answer.outputs
    stays_done =
        let raw = answer_by o a.node.kind b.progress (heads_seen a given) a.empties given in
        let enough = has_states o a.node.kind b.progress (heads_seen a given) a.empties given u.ports.0 u.ports.1 in
        let P : Sides → Type 0 = λ s. StayDone given.inputs s.inputs × StayDone given.outputs s.outputs in
        subst P (sym u.answers) (kept_stays given.inputs raw.inputs enough.0, kept_stays given.outputs raw.outputs enough.1)

    pub later_stage : (stages_behind a ≤ stages_behind b) × (stages_behind b ≤ 2)
    later_stage =
        let later = stage_later o a.node.kind a.progress given in
        let same = ap stages_before stage_is in
        (omega (arith, later.0, same), omega (arith, later.1, same))

    -- in one stage nothing of the node changes
    pub stays_same : stages_behind a ≡ stages_behind b → b ≡ a
    stays_same e =
        let stage = sym (same_stage a.progress.stage b.progress.stage e) in
        let progress = turn_stays F o a.node a.schemas given a.progress b.progress u.turns stage in
        u.others ∙ (λ i. record a { progress = progress i })

  -- Two nodes of one kind, with the same inputs and empty pipes, that gave, booked and stored the same.
  pub record Alike (a a' : SeenNode) : Type 0 where
    pub others : a' ≡ record a { progress = a'.progress }
    pub behind : LeavesBehind a.progress a'.progress

  module _ (a a' b c : SeenNode) (alike : Alike a a') (given given' answer answer' : Sides) (u : UpdatesTo F o a given b answer) (v : UpdatesTo F o a' given' c answer') (stage : b.progress.stage ≡ c.progress.stage) where
    sent : b.progress.sent ≡ c.progress.sent
    sent = (left_behind a b given answer u).sent ∙ sym alike.behind.sent ∙ sym (left_behind a' c given' answer' v).sent

    booked : b.progress.booked ≡ c.progress.booked
    booked = (left_behind a b given answer u).booked ∙ sym alike.behind.booked ∙ sym (left_behind a' c given' answer' v).booked

    other_answer : answer' ≡ keeping_done given' (answer_by o a.node.kind c.progress (heads_seen a' given') a.empties given')
    other_answer = v.answers ∙ (λ i. keeping_done given' (answer_by o (alike.others i).node.kind c.progress (heads_seen a' given') (alike.others i).empties given'))

    pub agree : given.inputs ≡ given'.inputs → AgreeApartFromDone answer.outputs answer'.outputs
    agree same =
        let raw = answer_by o a.node.kind b.progress (heads_seen a given) a.empties given in
        let raw' = answer_by o a.node.kind c.progress (heads_seen a' given') a.empties given' in
        let sends = same_sends given given' same o a.node.kind b.progress c.progress (heads_seen a given) (heads_seen a' given') a.empties stage sent in
        let kept = kept_agree given.outputs given'.outputs raw.outputs raw'.outputs sends in
        let P : Sides → Sides → Type 0 = λ x y. AgreeApartFromDone x.outputs y.outputs in
        subst (λ x. P x answer') (sym u.answers) (subst (P (keeping_done given raw)) (sym other_answer) kept)

    same_seen : heads_seen a' given ≡ heads_seen a given
    same_seen = (λ i. heads_given (alike.others i).node.kind a'.progress given) ∙ same_heads a.node.kind a.progress a'.progress given alike.behind

    pub same_answers : given ≡ given' → answer ≡ answer'
    same_answers same =
        let at_given : answer' ≡ keeping_done given (answer_by o a.node.kind c.progress (heads_seen a' given) a.empties given) =
        other_answer ∙ (λ i. keeping_done (sym same i) (answer_by o a.node.kind c.progress (heads_seen a' (sym same i)) a.empties (sym same i))) in
        u.answers ∙ ap (keeping_done given) (same_answer o a.node.kind b.progress c.progress (heads_seen a given) a.empties given stage sent booked)
        ∙ (λ i. keeping_done given (answer_by o a.node.kind c.progress (sym same_seen i) a.empties given)) ∙ sym at_given

  itself : (a : SeenNode) → Alike a a
  itself a = record { others = refl; behind = record { sent = refl; booked = refl; stores = refl } }

  -- FILLS
  fill_leaves : (a : SeenNode) (given : Sides) (filled : Progress) → FilledTo F o a given filled → LeavesBehind a.progress filled × (filled.stage ≡ a.progress.stage)
  fill_leaves a given filled (inl (w, e)) =
      (record { sent = ap (λ (x : Progress). x.sent) e; booked = ap (λ (x : Progress). x.booked) e; stores = ap (λ (x : Progress). x.stores) e }, ap (λ (x : Progress). x.stage) e)
  fill_leaves a given filled (inr (w, rs, made, e)) =
      (record { sent = ap (λ (x : Progress). x.sent) e; booked = ap (λ (x : Progress). x.booked) e; stores = ap (λ (x : Progress). x.stores) e }, ap (λ (x : Progress). x.stage) e)

  two_fills : (a : SeenNode) (f g : Progress) → LeavesBehind a.progress f → LeavesBehind a.progress g → Alike (record a { progress = f }) (record a { progress = g })
  two_fills a f g l m = record { others = refl; behind = record { sent = m.sent ∙ sym l.sent; booked = m.booked ∙ sym l.booked; stores = m.stores ∙ sym l.stores } }

  module _ (a b : SeenNode) (given answer : Sides) (u : FillsAndUpdates F o a given b answer) where
    pub filled_behind : LeavesBehind a.progress u.filled
    filled_behind = (fill_leaves a given u.filled u.fills).0

    filled_stage : u.filled.stage ≡ a.progress.stage
    filled_stage = (fill_leaves a given u.filled u.fills).1

    pub later_filled : (stages_behind a ≤ stages_behind b) × (stages_behind b ≤ 2)
    later_filled =
        let later = later_stage (record a { progress = u.filled }) b given answer u.update in
        let same = ap stages_before filled_stage in
        (omega (arith, later.0, same), omega (arith, later.1))

    -- a node that was filled gives
    gives_filled : IsTrue (is_waiting a.node.kind a.progress given) → is_some u.filled.made ≡ true → b.progress.stage ≡ giving
    gives_filled w made =
        let known : Waits a.node.kind a.progress given = waits a.node.kind a.progress given w in
        stage_is (record a { progress = u.filled }) b given answer u.update ∙ fills_stage o a.node.kind u.filled given known.is_map (filled_stage ∙ known.takes) made known.ins known.out

    -- either the node didn't wait, and nothing was filled in, or it waited, and gives now
    pub cases : (IsFalse (is_waiting a.node.kind a.progress given) × (u.filled ≡ a.progress)) ⊎ (IsTrue (is_waiting a.node.kind a.progress given) × (a.progress.stage ≡ taking) × (b.progress.stage ≡ giving))
    cases = by u.fills
      where
        by : FilledTo F o a given u.filled → (IsFalse (is_waiting a.node.kind a.progress given) × (u.filled ≡ a.progress)) ⊎ (IsTrue (is_waiting a.node.kind a.progress given) × (a.progress.stage ≡ taking) × (b.progress.stage ≡ giving))
        by (inl none) = inl none
        by (inr (w, rs, made, e)) = inr (w, (waits a.node.kind a.progress given w).takes, gives_filled w (ap (λ (x : Progress). is_some x.made) e))

    pub stays_filled : stages_behind a ≡ stages_behind b → b ≡ a
    stays_filled e = by cases
      where
        by : (IsFalse (is_waiting a.node.kind a.progress given) × (u.filled ≡ a.progress)) ⊎ (IsTrue (is_waiting a.node.kind a.progress given) × (a.progress.stage ≡ taking) × (b.progress.stage ≡ giving)) → b ≡ a
        by (inl (w, same)) =
            stays_same (record a { progress = u.filled }) b given answer u.update (ap stages_before filled_stage ∙ e) ∙ (λ i. record a { progress = same i })
        by (inr (w, t, g)) = absurd (let no : 0 ≡ 1 = sym (ap stages_before t) ∙ e ∙ ap stages_before g in omega (arith, no))

  module _ (a b c : SeenNode) (given answer other : Sides) (u : FillsAndUpdates F o a given b answer) (v : FillsAndUpdates F o a given c other) where
    same_turn : b.progress.stage ≡ c.progress.stage
    same_turn = by (cases a b given answer u) (cases a c given other v)
      where
        stage_u : b.progress.stage ≡ stage_after o a.node.kind u.filled given
        stage_u = stage_is (record a { progress = u.filled }) b given answer u.update

        stage_v : c.progress.stage ≡ stage_after o a.node.kind v.filled given
        stage_v = stage_is (record a { progress = v.filled }) c given other v.update

        by : (IsFalse (is_waiting a.node.kind a.progress given) × (u.filled ≡ a.progress)) ⊎ (IsTrue (is_waiting a.node.kind a.progress given) × (a.progress.stage ≡ taking) × (b.progress.stage ≡ giving))
            → (IsFalse (is_waiting a.node.kind a.progress given) × (v.filled ≡ a.progress)) ⊎ (IsTrue (is_waiting a.node.kind a.progress given) × (a.progress.stage ≡ taking) × (c.progress.stage ≡ giving)) → b.progress.stage ≡ c.progress.stage
        by (inl (w, e)) (inl (w', d)) = stage_u ∙ ap (λ x. stage_after o a.node.kind x given) (e ∙ sym d) ∙ sym stage_v
        by (inl (w, e)) (inr (w', t, g)) = absurd (let no : false ≡ true = sym w ∙ w' in cc)
        by (inr (w, t, g)) (inl (w', d)) = absurd (let no : false ≡ true = sym w' ∙ w in cc)
        by (inr (w, t, g)) (inr (w', t', g')) = g ∙ sym g'

    pub one_of_two : (answer ≡ other) × (stages_behind b ≡ stages_behind c)
    one_of_two = (
      same_answers (record a { progress = u.filled }) (record a { progress = v.filled }) b c (two_fills a u.filled v.filled (filled_behind a b given answer u) (filled_behind a c given other v)) given given answer other u.update v.update
          same_turn refl,
      ap stages_before same_turn,
    )

  -- THE LAWS, of any nodes that are seen so
  module _ {N : Type 0} (seen : N → SeenNode) where
    pub updates_keep_laws : KeepsUpdateLaws (λ a. stages_behind (seen a)) (λ a given b answer. UpdatesTo F o (seen a) given (seen b) answer)
    updates_keep_laws =
        record {
          lengths = λ a b given answer u. long_answer (seen a) (seen b) given answer u;
          done_stays = λ a b given answer u. stays_done (seen a) (seen b) given answer u;
          two_stages = λ a b given answer u. later_stage (seen a) (seen b) given answer u;
          one_answer = λ a b c given answer other u v.
              let stage = stage_is (seen a) (seen b) given answer u ∙ sym (stage_is (seen a) (seen c) given other v) in
              (same_answers (seen a) (seen a) (seen b) (seen c) (itself (seen a)) given given answer other u v stage refl, ap stages_before stage);
          sends_follow = λ a b c given given' answer answer' same u v stage.
              agree (seen a) (seen a) (seen b) (seen c) (itself (seen a)) given given' answer answer' u v (same_stage (seen b).progress.stage (seen c).progress.stage stage) same;
          quiet = λ a b given answer u stage none given' answer' c ins outs v.
              let P : SeenNode → Type 0 = λ x. UpdatesTo F o x given' (seen c) answer' in
              (c, subst P (stays_same (seen a) (seen b) given answer u stage) v, refl);
        }

    pub fills_keep_laws : KeepsUpdateLaws (λ a. stages_behind (seen a)) (λ a given b answer. FillsAndUpdates F o (seen a) given (seen b) answer)
    fills_keep_laws =
        record {
          lengths = λ a b given answer u. long_answer (record (seen a) { progress = u.filled }) (seen b) given answer u.update;
          done_stays = λ a b given answer u. stays_done (record (seen a) { progress = u.filled }) (seen b) given answer u.update;
          two_stages = λ a b given answer u. later_filled (seen a) (seen b) given answer u;
          one_answer = λ a b c given answer other u v. one_of_two (seen a) (seen b) (seen c) given answer other u v;
          sends_follow = λ a b c given given' answer answer' same u v stage.
              agree (record (seen a) { progress = u.filled }) (record (seen a) { progress = v.filled }) (seen b) (seen c)
              (two_fills (seen a) u.filled v.filled (filled_behind (seen a) (seen b) given answer u) (filled_behind (seen a) (seen c) given' answer' v)) given given' answer answer' u.update v.update
              (same_stage (seen b).progress.stage (seen c).progress.stage stage) same;
          quiet = λ a b given answer u stage none given' answer' c ins outs v.
              let P : SeenNode → Type 0 = λ x. FillsAndUpdates F o x given' (seen c) answer' in
              (c, subst P (stays_filled (seen a) (seen b) given answer u stage) v, refl);
        }

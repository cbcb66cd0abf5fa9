-- The updates of a graph's nodes keep the laws by which a graph comes to rest.
use Rattle.std.proofs.Common.{◌≡◌, refl, sym, subst, ◌∙◌}
use Rattle.bare_nodes.specs.Uncalled.{no_functions}
use Rattle.ps_nodes.specs.Seen.{Updates, options_of, seen}
use Rattle.ps_nodes.specs.declared.flow.FlowNode.{FlowNode}
use Rattle.ps_options.specs.declared.options.Options.{Options}
use Rattle.ps_ports.specs.Ports.{Sides}
use Rattle.ps_ports.specs.UpdateLaws.{KeepsUpdateLaws}
use Rattle.turn_laws.proofs.KeptLaws.{updates_keep_laws}
use Rattle.turn_laws.proofs.Turned.{same_stage, turn_stays}
use Rattle.turn_laws.specs.Updating.{SeenNode, UpdatesTo, stages_behind}

-- in one stage nothing changes of what updates see
seen_stays : (a b : FlowNode) (given answer : Sides) → Updates a given b answer → stages_behind (seen a) ≡ stages_behind (seen b) → seen b ≡ seen a
seen_stays a b given answer u e =
    let stage = sym (same_stage (seen a).progress.stage (seen b).progress.stage e) in
    let progress = turn_stays no_functions (options_of a) (seen a).node (seen a).schemas given (seen a).progress (seen b).progress u.update.turns stage in
    u.update.others ∙ (λ i. record (seen a) { progress = progress i })

by_options : (a : FlowNode) → KeepsUpdateLaws (λ (n : FlowNode). stages_behind (seen n)) (λ x given y answer. UpdatesTo no_functions (options_of a) (seen x) given (seen y) answer)
by_options a = updates_keep_laws no_functions (options_of a) seen

pub flow_laws : KeepsUpdateLaws (λ (n : FlowNode). stages_behind (seen n)) Updates
flow_laws =
    record {
      lengths = λ a b given answer u. (by_options a).lengths a b given answer u.update;
      done_stays = λ a b given answer u. (by_options a).done_stays a b given answer u.update;
      two_stages = λ a b given answer u. (by_options a).two_stages a b given answer u.update;
      one_answer = λ a b c given answer other u v. (by_options a).one_answer a b c given answer other u.update v.update;
      sends_follow = λ a b c given given' answer answer' same u v stage. (by_options a).sends_follow a b c given given' answer answer' same u.update v.update stage;
      quiet = λ a b given answer u stage none given' answer' c ins outs v.
          let P : Options → Type 0 = λ o. UpdatesTo no_functions o (seen b) given' (seen c) answer' in
          let Q : SeenNode → Type 0 = λ x. UpdatesTo no_functions (options_of a) x given' (seen c) answer' in
          (c, record { update = subst Q (seen_stays a b given answer u stage) (subst P u.options v.update); options = v.options ∙ u.options; ports = λ inputs outputs p. v.ports inputs outputs (u.ports inputs outputs p) }, refl);
    }

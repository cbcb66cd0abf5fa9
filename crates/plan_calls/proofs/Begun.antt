-- A lowering in which nothing of a plan was lowered yet, and one to which other nodes were added.
use Rattle.std.proofs.Common.{◌≡◌, ◌++◌, List, [], drop, length, refl, sym, ap, subst, ◌∙◌}
use Rattle.std.proofs.lemmas.List.{map-append, take-append-drop}
use Rattle.std.specs.BTreeMap.{is_at}
use Rattle.std.specs.Map.{lookup}
use Rattle.std.specs.Ordering.{nat_cmp}
use Rattle.std.specs.Prelude.{Option, option_map}
use Rattle.plan_calls.specs.Left.{AreLeftByCalls}
use Rattle.lowering_parts.specs.Gathered.{Begins, KeepsNames, state_of}
use Rattle.physical_laws.proofs.Good.{known_plan}
use Rattle.plan_calls.proofs.Come.{come_known, still_known}
use Rattle.plan_calls.specs.Calls.{added, begun}
use Rattle.plan_lowering.specs.Lowered.{CacheStreams}
use Rattle.ps_frame.specs.Functions.{Functions}
use Rattle.ps_frame.specs.Trees.{Tree}
use Rattle.ps_fresh.specs.InPlans.{IsNameUnder}
use Rattle.ps_fresh.specs.declared.lowering.Lowering.{Lowering}
use Rattle.ps_meaning.specs.Sound.{IsSoundButForReaders}
use Rattle.ps_phys.specs.Shown.{node_of_slot, nodes_of, stream_of}
use Rattle.ps_phys.specs.declared.phys.PhysNode.{PhysNode}
use Rattle.ps_plan.specs.Plans.{Plan, tree_of}
use Rattle.ps_plan.specs.Refusals.{IsValid}
use Rattle.ps_rules.specs.Names.{Knows}
use Rattle.ps_rules.specs.Slots.{State}
use Rattle.pu_base.specs.declared.arena.Node.{Node}
use Rattle.rule_soundness.specs.Plans.{KnowsPlan}

module _ (F : Functions) (plan : Plan) (f : Node → Tree) where
  pub nothing_lowered : (low : Lowering) (caches : CacheStreams) → IsValid F plan → Knows low.names (IsNameUnder F plan) → IsSoundButForReaders F (nodes_of f low.phys_sm.slots) → caches.entries ≡ [] → AreLeftByCalls F plan f low caches
  nothing_lowered low caches valid knows sound none =
      record {
        progress = record { state = state_of f low; cached = [] };
        shows = record { state = refl; cached = λ id. ap (λ es. option_map stream_of (lookup (is_at (nat_cmp id)) es)) none };
        come = begun (state_of f low) (record { sound = sound; known = known_plan F plan valid low.names knows });
      }

  none_sound : (slots : List (Option PhysNode)) → slots ≡ [] → IsSoundButForReaders F (nodes_of f slots)
  none_sound slots none = subst (λ (xs : List (Option PhysNode)). IsSoundButForReaders F (nodes_of f xs)) (sym none) (λ n p e. cc)

  pub empty_lowered : (low : Lowering) (caches : CacheStreams) → IsValid F plan → Knows low.names (IsNameUnder F plan) → low.phys_sm.slots ≡ [] → caches.entries ≡ [] → AreLeftByCalls F plan f low caches
  empty_lowered low caches valid knows no_nodes none = nothing_lowered low caches valid knows (none_sound low.phys_sm.slots no_nodes) none

  -- nodes that stood
  grown : (old new : List (Option PhysNode)) → Begins old new → nodes_of f new ≡ nodes_of f old ++ nodes_of f (drop (length old) new)
  grown old new begins =
      ap (nodes_of f) (sym (ap (λ xs. xs ++ drop (length old) new) (sym begins) ∙ take-append-drop (length old) new)) ∙ map-append (node_of_slot f) old (drop (length old) new)

  pub still_left : (low later : Lowering) (caches : CacheStreams) → AreLeftByCalls F plan f low caches → Begins low.phys_sm.slots later.phys_sm.slots → KeepsNames low.names later.names → IsSoundButForReaders F (nodes_of f later.phys_sm.slots) → AreLeftByCalls F plan f later caches
  still_left low later caches left begins stay sound =
      let t = tree_of plan plan.root.0 in
      let p = left.progress in
      let known = subst (λ (x : State). KnowsPlan F x.names t) (sym left.shows.state) (come_known F t p left.come) in
      let more = nodes_of f (drop (length low.phys_sm.slots) later.phys_sm.slots) in
      let behind = grown low.phys_sm.slots later.phys_sm.slots begins ∙ ap (λ (x : State). x.nodes ++ more) left.shows.state in
      record {
        progress = record { state = state_of f later; cached = p.cached };
        shows = record { state = refl; cached = left.shows.cached };
        come = added p (state_of f later) more left.come behind (record { sound = sound; known = still_known F low.names later.names stay t known });
      }

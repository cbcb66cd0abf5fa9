-- The maps of the trials can make their tables.
use Rattle.std.proofs.Common.{◌≡◌, ◌<◌, ℕ, refl, sym, ap, subst, inl, ◌∷◌, []}
use Rattle.ps_frame.specs.Tables.{Fields}
use Rattle.ps_meaning.specs.Steps.{Step, user}
use Rattle.ready_steps.specs.Ready.{IsReadyFor}
use Rattle.ps_nodes.specs.Seen.{HasInputsOf}
use Rattle.ps_nodes.specs.declared.flow.FlowNode.TheVariants as flow
use Rattle.ps_nodes.specs.declared.in_memory_map.InMemoryMapNode.{InMemoryMapNode}
use Rattle.ps_owned_maps.specs.Owned.{step_of}
use Rattle.map_flow_trials.proofs.Rules.{IsAsked, asked, can_read}
use Rattle.map_flow_trials.specs.Answers.{first_row_or_none}
use Rattle.map_flow_trials.specs.Shown.{CanTurn, Shown, over_numbers, reads, shown_of}

pub still_turns : (a b : Shown) → b ≡ a → CanTurn a → CanTurn b
still_turns a b same can = subst CanTurn (sym same) can

reads-turn : CanTurn (over_numbers reads)
unfolding CanTurn over_numbers
reads-turn = can_read

pub reads_turn : (s : Shown) → s ≡ over_numbers reads → CanTurn s
reads_turn s is = still_turns (over_numbers reads) s is reads-turn

calls-turn : (n : ℕ) → CanTurn (over_numbers (user n))
unfolding CanTurn over_numbers
calls-turn n = inl refl

pub calls_turn : (s : Shown) (n : ℕ) → s ≡ over_numbers (user n) → CanTurn s
calls_turn s n is = still_turns (over_numbers (user n)) s is (calls-turn n)

pub unclaimed : (s : Shown) (step : Step) → s ≡ over_numbers step → s.sent ≡ 0
unfolding over_numbers
unclaimed s step is = ap (λ (x : Shown). x.sent) is

-- what an update wants of the ports
pub has_input : (n : InMemoryMapNode) (k : ℕ) → k ≡ 1 → CanTurn (shown_of n) → HasInputsOf (flow.InMemoryMap n) k
unfolding CanTurn shown_of
has_input n k one can = (one, can)

-- and what a fill wants of the function
pub can_call : (n : InMemoryMapNode) (k : ℕ) → k < 2 → shown_of n ≡ over_numbers (user k) → (s : Fields) × IsReadyFor first_row_or_none (step_of n.map) (n.input ∷ []) s
unfolding over_numbers shown_of
can_call n k low is =
    let all : IsAsked (step_of n.map) n.input.schema = subst (λ (x : Shown). IsAsked x.step x.schema) (sym is) (asked k low) in
    (n.input.schema, record { fit = all.fit; schema = all.schema })

whatever-sent : (a : Shown) (n : ℕ) → CanTurn a → CanTurn (record a { sent = n })
unfolding CanTurn
whatever-sent a n can = can

pub claimed_turns : (a b : Shown) (n : ℕ) → b ≡ record a { sent = n } → CanTurn a → CanTurn b
claimed_turns a b n is can = still_turns (record a { sent = n }) b is (whatever-sent a n can)

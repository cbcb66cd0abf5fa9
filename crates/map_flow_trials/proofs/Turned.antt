-- What calls leave of what the trials know of a map.
use Rattle.std.proofs.Common.{◌≡◌, false, [], ◌∷◌, ap, ◌∙◌}
use Rattle.std.specs.Prelude.{◌+◌}
use Rattle.bare_nodes.specs.Uncalled.{no_functions}
use Rattle.ps_frame.specs.Lawful.{empty_frame, stacked}
use Rattle.ps_frame.specs.Tables.{Fields, Frame}
use Rattle.ps_meaning.specs.Schemas.{first_schema}
use Rattle.ps_meaning.specs.Shape.{PhysicalKind, in_memory_map}
use Rattle.ps_meaning.specs.Steps.{Step, hconcat}
use Rattle.ps_nodes.specs.Seen.{IsNewKeeper, Updates, options_of, seen}
use Rattle.ps_nodes.specs.declared.flow.FlowNode.TheVariants as flow
use Rattle.ps_nodes.specs.declared.in_memory_map.InMemoryMapNode.{InMemoryMapNode}
use Rattle.ps_options.specs.declared.options.Options.{Options}
use Rattle.ps_owned_maps.specs.Owned.{step_of}
use Rattle.ps_ports.specs.Ports.{Sides}
use Rattle.turn_laws.proofs.Turned.{turn_leaves}
use Rattle.turn_laws.specs.Updating.{SeenNode}
use Rattle.map_flow_trials.specs.Shown.{numbers, over_numbers, shown_of}

abbrev map-in : PhysicalKind → Step
map-in (in_memory_map step) = step
map-in _ = hconcat

-- a new one, cut by any options
pub made : (a b : InMemoryMapNode) (o : Options) (step : Step) (s : Fields) → IsNewKeeper (in_memory_map step) (s ∷ []) (([] ∷ []) ∷ []) (flow.InMemoryMap a) → b ≡ record a { made = record a.made { options = o } } → s ≡ numbers → shown_of b ≡ over_numbers step
unfolding shown_of over_numbers
made a b o step s new cut one =
    ap shown_of cut
    ∙ (λ i. record { step = map-in (new i).node.kind; schema = first_schema (new i).schemas; sent = (new i).progress.sent })
    ∙ (λ i. record { step = step; schema = one i; sent = 0 })

-- an update
pub turned : (a b : InMemoryMapNode) (given answer : Sides) → Updates (flow.InMemoryMap a) given (flow.InMemoryMap b) answer → shown_of b ≡ shown_of a
unfolding shown_of
turned a b given answer u =
    let before = seen (flow.InMemoryMap a) in
    let after = seen (flow.InMemoryMap b) in
    let step : step_of b.map ≡ step_of a.map = ap (λ (x : SeenNode). map-in x.node.kind) u.update.others in
    let schema : b.input.schema ≡ a.input.schema = ap (λ (x : SeenNode). first_schema x.schemas) u.update.others in
    let sent : b.made.sent ≡ a.made.sent = (turn_leaves no_functions (options_of (flow.InMemoryMap a)) before.node before.schemas given before.progress after.progress u.update.turns).sent in
    λ i. record { step = step i; schema = schema i; sent = sent i }

-- a claim
pub claimed : (a b : InMemoryMapNode) → b ≡ record a { made = record a.made { sent = a.made.sent + 1 } } → shown_of b ≡ record (shown_of a) { sent = (shown_of a).sent + 1 }
unfolding shown_of
claimed a b is = ap shown_of is

-- rows that were stored, or refused
pub fed : (a b : InMemoryMapNode) (f : Frame) → b ≡ record a { input = stacked a.input f } → shown_of b ≡ shown_of a
unfolding shown_of
fed a b f is = ap shown_of is

pub dropped : (a b : InMemoryMapNode) → b ≡ record a { input = empty_frame a.input.schema } → shown_of b ≡ shown_of a
unfolding shown_of
dropped a b is = ap shown_of is

-- a table that was filled in, or broken
pub filled : (a b : InMemoryMapNode) → b ≡ record a { made = record a.made { table = b.made.table }; waits = false } → shown_of b ≡ shown_of a
unfolding shown_of
filled a b is = ap shown_of is

pub refused : (a b : InMemoryMapNode) → b ≡ record a { input = b.input } → b.input.schema ≡ a.input.schema → shown_of b ≡ shown_of a
unfolding shown_of
refused a b is same = ap shown_of is ∙ (λ i. record { step = step_of a.map; schema = same i; sent = a.made.sent })

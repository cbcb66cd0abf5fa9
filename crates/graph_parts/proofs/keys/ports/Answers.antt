use Rattle.std.proofs.Common.{◌-◌, ◌^◌, sym}
use Rattle.ps_phys.specs.Shown.{inputs_of, stream_of}
use Rattle.graph_parts.specs.Keyed.{port_of}
use Rattle.graph_parts.proofs.Lists.{past-end}
use Rattle.graph_parts.proofs.Steps.{mapped_all, mapped_more}
use Rattle.graph_parts.proofs.keys.ports.Goals as goal

pub loop-input-preserved : goal.loop-input-preserved
loop-input-preserved c =
    mapped_more (port_of (record { 0 = 2 ^ 32 - 1 }) c.args.keys.now.slots) (inputs_of c.args.kind.now) c.loop-input.place (stream_of c.in-Some.input) c.loop-input.ports.items c.push.new.self.items c.port-sender.result (sym c.in-Some.ensures.stream)
    c.loop-input.invariant c.in_ok-push.ensures.items c.port-sender.ensures

pub returns-clause-ports : goal.returns-clause-ports
returns-clause-ports c =
    mapped_all (port_of (record { 0 = 2 ^ 32 - 1 }) c.args.keys.now.slots) (inputs_of c.args.kind.now) c.loop-input.place c.loop-input.ports.items (past-end (inputs_of c.args.kind.now) c.loop-input.place (sym c.in_default.ensures.stream)) c.loop-input.invariant

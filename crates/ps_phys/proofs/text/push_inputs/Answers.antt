use Rattle.std.proofs.Common.{◌++◌, map, string_bytes, sym}
use Rattle.ps_phys.proofs.Lines.{all-inputs, one-more-input}
use Rattle.ps_phys.specs.Placed.{placed}
use Rattle.ps_phys.specs.Printed.{inputs_text}
use Rattle.ps_phys.specs.Shown.{inputs_of, stream_of}
use Rattle.ps_phys.proofs.text.push_inputs.Goals as goal

pub loop-input-preserved : goal.loop-input-preserved
loop-input-preserved c =
    one-more-input c.args.places.now.slots c.args.count (inputs_of c.args.kind.now) (string_bytes c.args.text.now ++ inputs_text (map (placed c.args.places.now.slots c.args.count) (inputs_of c.args.kind.now)))
    (string_bytes c.loop-input.text) (string_bytes c.push_str-in-Some-input.new.self) (string_bytes c.push_input-in-Some-input.new.text) c.loop-input.place (stream_of c.in-Some-input.input)
    (sym c.in-Some-input.ensures.stream) c.loop-input.invariant c.in_ok-push_str-2.ensures.bytes c.in_ok-push_input-2.ensures.text

pub returns-clause-text : goal.returns-clause-text
returns-clause-text c =
    all-inputs c.args.places.now.slots c.args.count (inputs_of c.args.kind.now) (string_bytes c.args.text.now ++ inputs_text (map (placed c.args.places.now.slots c.args.count) (inputs_of c.args.kind.now)))
    (string_bytes c.loop-input.text) c.loop-input.place (sym c.in_default-input.ensures.stream) c.loop-input.invariant

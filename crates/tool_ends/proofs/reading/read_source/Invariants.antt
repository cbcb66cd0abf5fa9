use Rattle.std.proofs.Common.{◌≡◌, ◌≤◌, ◌+◌, ◌-◌, vec_len}
use Rattle.tool_ends.specs.Outside.{TakesFront}
use Rattle.tool_ends.specs.declared.reading.TheConstants.{MAX_DOCUMENT_BYTES, PIECE_BYTES}
use Rattle.tool_ends.proofs.reading.read_source.Given as goal

abbrev pub invariant-pieces : goal.invariant-pieces
invariant-pieces g l = record {
  taken : TakesFront (g.S.Source.left l.initial.source) l.bytes.items (g.S.Source.left l.source);
  counted : g.S.Source.faults l.initial.source ≤ g.S.Source.faults l.source;
  room : vec_len l.bytes ≤ MAX_DOCUMENT_BYTES + 1;
  full : vec_len l.buffer ≡ PIECE_BYTES;
}

abbrev pub decreases-pieces : goal.decreases-pieces
decreases-pieces g l = MAX_DOCUMENT_BYTES + 1 - vec_len l.bytes

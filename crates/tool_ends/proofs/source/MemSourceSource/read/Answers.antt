use Rattle.std.proofs.Common.{sym, ◌∙◌, ap, refl, arith}
use Rattle.tool_ends.specs.Memory.{SourceState}
use Rattle.tool_ends.proofs.Pieces.{read_front}
use Rattle.tool_ends.proofs.source.MemSourceSource.read.Goals as goal

pub returns-clause-front : goal.returns-clause-front
returns-clause-front c =
    let same = read_front c.self.inside.stored.items c.deref-2.result.now c.copy_from_slice.new.self c.args.buf.now c.self.inside.position c.min-count.result c.deref-2.ensures.value (omega arith) c.copy_from_slice.ensures.after in
    (_, sym (ap (λ (s : SourceState). s.bytes) c.self.view_is) ∙ same, refl)

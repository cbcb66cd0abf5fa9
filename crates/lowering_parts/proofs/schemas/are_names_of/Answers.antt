use Rattle.std.proofs.Common.{ap, drop, sym, ◌∙◌, ◌+◌, ◌&&◌}
use Rattle.ps_meaning.specs.Schemas.{names_of}
use Rattle.ps_rules.specs.Slots.{same_names}
use Rattle.lowering_parts.proofs.SchemaLemmas.{compared, others}
use Rattle.lowering_parts.proofs.schemas.are_names_of.Goals as goal

pub returns-then-not-are_as_many : goal.returns-then-not-are_as_many
returns-then-not-are_as_many c = others c.args.names.now c.args.schema.now (λ e. (let h = c.are_as_many.ensures.1 e in let g = c.if-not-are_as_many.true in cc))

pub returns-then-not-eq_str : goal.returns-then-not-eq_str
returns-then-not-eq_str c =
    let s = compared c.args.names.now c.args.schema.now c.loop-i.i c.index-names-i.result c.name.result.now c.as_str.result.now c.eq_str.result c.loop-i-test.true c.name.ensures c.index-names-i.is c.as_str.ensures c.eq_str.ensures c.loop-i.invariant in
    sym (s ∙ ap (λ r. r && same_names (drop (c.loop-i.i + 1) c.args.names.now) (names_of (drop (c.loop-i.i + 1) c.args.schema.now))) c.if-not-eq_str.true)

pub loop-i-preserved : goal.loop-i-preserved
loop-i-preserved c =
    let s = compared c.args.names.now c.args.schema.now c.loop-i.i c.index-names-i.result c.name.result.now c.as_str.result.now c.eq_str.result c.loop-i-test.true c.name.ensures c.index-names-i.is c.as_str.ensures c.eq_str.ensures c.loop-i.invariant in
    s ∙ ap (λ r. r && same_names (drop (c.loop-i.i + 1) c.args.names.now) (names_of (drop (c.loop-i.i + 1) c.args.schema.now))) c.if-not-eq_str.false

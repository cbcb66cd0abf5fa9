-- The answer stands in its place in a pipe of the phase, and another pipe stays.
use Rattle.std.proofs.Common.{◌≡◌, ◌∙◌, ap, refl, sym, true}
use Rattle.ps_pipes.proofs.Showing.{awaited}
use Rattle.ps_pipes.specs.declared.pipe.Pipe.{Pipe as Held}
use Rattle.ps_world.specs.Pipes.{with_answer}
use Rattle.world_pipes.proofs.Given.{put_else, put_then}
use Rattle.world_pipes.proofs.giving.put_in.Goals as goal

pub put-requires : goal.put-requires
put-requires c = λ kept.
    let r = c.requires in
    let there : r.1.in_phase ≡ true = sym (c.in_phase.ensures r.0 r.1 r.2) ∙ c.if-in_phase.true in
    let a = r.3 there (sym r.2.dropped ∙ kept) in
    awaited r.0 r.1 c.args.pipe.now r.2 c.args.number a.0 a.1 kept

pub returns-then-in_phase : goal.returns-then-in_phase
returns-then-in_phase c =
    put_then c.args.pipe.now c.put.new.self c.args.table.schema (with_answer c.args.number c.args.table.rows) c.in_phase.result c.in_phase.ensures c.if-in_phase.true
    (λ p shown. c.put.ensures.shows c.args.table.schema p shown refl) (ap (λ (x : Held). x.is_bounded) c.put.ensures.others) (ap (λ (x : Held). x.room) c.put.ensures.others)

pub returns-else-in_phase : goal.returns-else-in_phase
returns-else-in_phase c = put_else c.args.pipe.now c.args.table.schema (with_answer c.args.number c.args.table.rows) c.in_phase.result c.in_phase.ensures c.if-in_phase.false

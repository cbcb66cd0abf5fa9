use Rattle.std.proofs.Common.{ℕ, ap, ◌∙◌}
use Rattle.std.specs.Prelude.{nat_eq}
use Rattle.ps_frame.specs.Trees.{tree_at}
use Rattle.ps_phys.specs.Shown.{stream_of}
use Rattle.lowering_parts.specs.Gathered.{made_of}
use Rattle.lowering_parts.proofs.BundleLemmas.{made_of_none, made_of_some}
use Rattle.lowering_parts.proofs.bundles.one_of.Goals as goal

pub returns-then-is_empty-clause-made : goal.returns-then-is_empty-clause-made
returns-then-is_empty-clause-made c later keeps =
    let f = tree_at later in
    made_of_none c.args.low.now.origin.0 (stream_of c.args.input) f c.args.low.now c.args.streams.items c.args.reduced.items c.is_empty.result (c.is_empty.ensures ∙ ap (λ (n : ℕ). nat_eq n 0) c.args.reduced.ok.0) c.if-is_empty.true (made_of f c.one_of_all.new.low c.in_ok-alone.alone)
    (c.in_ok-alone.ensures.made f (stream_of c.args.input))

pub returns-clause-made : goal.returns-clause-made
returns-clause-made c later keeps =
    let f = tree_at later in
    made_of_some c.args.low.now.origin.0 (stream_of c.args.input) f c.args.low.now c.args.streams.items c.args.reduced.items c.is_empty.result (c.is_empty.ensures ∙ ap (λ (n : ℕ). nat_eq n 0) c.args.reduced.ok.0) c.if-is_empty.false (made_of f c.with_reduce.new.low c.in_ok-stream.stream)
    (c.in_ok-stream.ensures.made later keeps)

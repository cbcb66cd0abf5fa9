use Rattle.std.proofs.Common.{List, ap, sym, subst, ◌∙◌, ◌<◌, ◌^◌, length}
use Rattle.ps_frame.specs.Trees.{tree_at}
use Rattle.ps_meaning.specs.Steps.{named_trees}
use Rattle.ps_phys.specs.Shown.{stream_of, streams_of}
use Rattle.ps_phys.specs.declared.phys.PhysStream.{PhysStream}
use Rattle.ps_rules.specs.Bundles.{one_of}
use Rattle.lowering_parts.specs.Gathered.{state_of}
use Rattle.lowering_parts.proofs.BundleLemmas.{whole_named}
use Rattle.lowering_parts.proofs.bundles.finish.Goals as goal

pub one_of-requires : goal.one_of-requires
one_of-requires c = record { whole = whole_named (tree_at c.args.arena.now.items) c.args.bundle.reduced.items c.requires.whole.reduced }

pub returns-clause-made : goal.returns-clause-made
returns-clause-made c later keeps =
    let f = tree_at later in
    c.in_ok-stream.ensures.made later keeps ∙ ap (λ (ss : List PhysStream). one_of c.args.low.now.origin.0 (stream_of c.args.input) (streams_of ss) (named_trees f c.args.bundle.reduced.items) (state_of f c.args.low.now)) c.into_vec.ensures

use Rattle.std.proofs.Common.{ap, ◌∙◌}
use Rattle.ps_frame.specs.Trees.{tree_at}
use Rattle.ps_meaning.specs.Schemas.{names_of}
use Rattle.ps_meaning.specs.Steps.{exprs_of, named_trees}
use Rattle.ps_rules.specs.Bundles.{or_first}
use Rattle.lowering_parts.specs.Reads.{any_reads}
use Rattle.lowering_parts.proofs.ReadLemmas.{names_as_read}
use Rattle.lowering_parts.proofs.reads.names_kept.Goals as goal

pub returns-clause-names : goal.returns-clause-names
returns-clause-names c =
    let es = named_trees (tree_at c.args.arena.now.items) c.args.exprs.now in
    c.in_ok-names.ensures.names
    ∙ ap (λ ns. or_first ns (names_of c.args.schema.now)) (names_as_read es c.args.schema.now c.in_ok-read.read.items (c.in_ok-read.ensures.names (any_reads (exprs_of es)) c.in_ok-places.ensures.places))

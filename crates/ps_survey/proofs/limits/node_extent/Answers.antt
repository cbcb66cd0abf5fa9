use Rattle.ps_survey.proofs.limits.node_extent.Goals as goal

pub returns-clause-extent : goal.returns-clause-extent
returns-clause-extent g c = λ d s f t inputs own. c.above.ensures _ _ (c.beside.ensures _ _ _ _ (c.extent_below-beside.ensures.below f t own) (c.extent_below-below.ensures.below d s inputs))

use Rattle.world_families.proofs.SourceExamples.{no_other_cut, no_other_piece, not_complete_yet, out_of_order}
use Rattle.world_families.proofs.examples.sources_give_their_cuts.Goals as goal

pub returns-clause-out_of_order : goal.returns-clause-out_of_order
returns-clause-out_of_order c = λ F. out_of_order F

pub returns-clause-no_other_cut : goal.returns-clause-no_other_cut
returns-clause-no_other_cut c = λ F h. no_other_cut F h

pub returns-clause-no_other_piece : goal.returns-clause-no_other_piece
returns-clause-no_other_piece c = λ F h. no_other_piece F h

pub returns-clause-not_complete_yet : goal.returns-clause-not_complete_yet
returns-clause-not_complete_yet c = λ F h. not_complete_yet F h

use Rattle.orderly_worlds.proofs.Reaching.{orderly_reached}
use Rattle.orderly_worlds.proofs.worlds.reached_worlds_are_orderly.Goals as goal

pub returns-clause-agree : goal.returns-clause-agree
returns-clause-agree c = λ F shape o w sound r on. (orderly_reached F shape o w sound r).agree on

pub returns-clause-unread : goal.returns-clause-unread
returns-clause-unread c = λ F shape o w p sound r there d. (orderly_reached F shape o w sound r).unread p there d

pub returns-clause-read : goal.returns-clause-read
returns-clause-read c = λ F shape o w p sound r there is. (orderly_reached F shape o w sound r).read p there is

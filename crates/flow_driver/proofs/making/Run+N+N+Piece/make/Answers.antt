-- By the move.
use Rattle.std.proofs.Common.{◌≡◌, ◌∙◌, rules, subst, sym}
use Rattle.flow_driver.proofs.Moves.{made_as, made_by}
use Rattle.flow_driver.proofs.making.Run+N+N+Piece.make.Goals as goal
use Rattle.flow_driver.specs.Runs.{MayMake}
use Rattle.world_records.specs.declared.records.Move.TheVariants as turn

pub open-requires : goal.open-requires
open-requires g c = let r = c.requires in (search rules, (r.0, r.1, r.2, r.3, c.args.worker, subst (λ m. MayMake g.N.RunNode.Has g.N.PieceNode.Shows g.N.ClaimNode.IsFor r.0 r.1 r.2 r.3 c.args.worker m c.args.self.now) c.in-Open.is r.4))

pub claim-requires : goal.claim-requires
claim-requires g c = let r = c.requires in (search rules, (r.0, r.1, r.2, r.3, subst (λ m. MayMake g.N.RunNode.Has g.N.PieceNode.Shows g.N.ClaimNode.IsFor r.0 r.1 r.2 r.3 c.args.worker m c.args.self.now) c.in-Claim.is r.4))

pub pull-requires : goal.pull-requires
pull-requires g c = let r = c.requires in (search rules, (r.0, r.1, r.2, r.3, c.args.worker, subst (λ m. MayMake g.N.RunNode.Has g.N.PieceNode.Shows g.N.ClaimNode.IsFor r.0 r.1 r.2 r.3 c.args.worker m c.args.self.now) c.in-Pull.is r.4))

pub close-requires : goal.close-requires
close-requires g c = let r = c.requires in (search rules, (r.0, r.1, r.2, r.3, c.args.worker, subst (λ m. MayMake g.N.RunNode.Has g.N.PieceNode.Shows g.N.ClaimNode.IsFor r.0 r.1 r.2 r.3 c.args.worker m c.args.self.now) c.in-Close.is r.4))

pub end-requires : goal.end-requires
end-requires g c = let r = c.requires in (search rules, (r.0, r.1, r.2, r.3, c.args.worker, subst (λ m. MayMake g.N.RunNode.Has g.N.PieceNode.Shows g.N.ClaimNode.IsFor r.0 r.1 r.2 r.3 c.args.worker m c.args.self.now) c.in-End.is r.4))

pub returns-in-Open-clause-made : goal.returns-in-Open-clause-made
returns-in-Open-clause-made g c = made_by g.N.RunNode.Has g.N.PieceNode.Shows g.N.ClaimNode.IsFor c.open.result c.args.worker c.args.self.now c.open.new.self c.args.found turn.Open c.in-Open.is c.open.ensures.made

pub returns-in-Claim-clause-made : goal.returns-in-Claim-clause-made
returns-in-Claim-clause-made g c = made_as g.N.RunNode.Has g.N.PieceNode.Shows g.N.ClaimNode.IsFor c.claim.result c.args.worker c.args.self.now c.claim.new.self c.args.found (turn.Claim c.in-Claim.node c.in-Claim.input) c.in-Claim.is c.claim.ensures.made

pub returns-in-Pull-clause-made : goal.returns-in-Pull-clause-made
returns-in-Pull-clause-made g c = made_by g.N.RunNode.Has g.N.PieceNode.Shows g.N.ClaimNode.IsFor c.pull.result c.args.worker c.args.self.now c.pull.new.self c.args.found (turn.Pull c.in-Pull.node c.in-Pull.input) c.in-Pull.is c.pull.ensures.made

pub returns-in-Close-clause-made : goal.returns-in-Close-clause-made
returns-in-Close-clause-made g c = made_by g.N.RunNode.Has g.N.PieceNode.Shows g.N.ClaimNode.IsFor c.close.result c.args.worker c.args.self.now c.close.new.self c.args.found (turn.Close c.in-Close.node) c.in-Close.is c.close.ensures.made

pub returns-in-End-clause-made : goal.returns-in-End-clause-made
returns-in-End-clause-made g c = made_by g.N.RunNode.Has g.N.PieceNode.Shows g.N.ClaimNode.IsFor c.end.result c.args.worker c.args.self.now c.end.new.self c.args.found turn.End c.in-End.is c.end.ensures.made

pub returns-in-Open-clause-marked : goal.returns-in-Open-clause-marked
returns-in-Open-clause-marked g c = λ is. c.open.ensures.marked

pub returns-in-Claim-clause-marked : goal.returns-in-Claim-clause-marked
returns-in-Claim-clause-marked g c = λ is. absurd (let clash : turn.Claim c.in-Claim.node c.in-Claim.input ≡ turn.Open = sym c.in-Claim.is ∙ is in cc)

pub returns-in-Pull-clause-marked : goal.returns-in-Pull-clause-marked
returns-in-Pull-clause-marked g c = λ is. absurd (let clash : turn.Pull c.in-Pull.node c.in-Pull.input ≡ turn.Open = sym c.in-Pull.is ∙ is in cc)

pub returns-in-Close-clause-marked : goal.returns-in-Close-clause-marked
returns-in-Close-clause-marked g c = λ is. absurd (let clash : turn.Close c.in-Close.node ≡ turn.Open = sym c.in-Close.is ∙ is in cc)

pub returns-in-End-clause-marked : goal.returns-in-End-clause-marked
returns-in-End-clause-marked g c = λ is. absurd (let clash : turn.End ≡ turn.Open = sym c.in-End.is ∙ is in cc)

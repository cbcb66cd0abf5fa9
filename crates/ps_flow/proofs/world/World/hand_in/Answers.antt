-- What is handed in is rows or a fault.
use Rattle.std.proofs.Common.{rules, ◌≡◌, ◌∙◌, None, ap, subst, sym}
use Rattle.ps_flow.proofs.world.World.hand_in.Goals as goal
use Rattle.ps_flow.specs.Standing.{Stands}
use Rattle.ps_turns.specs.Tasks.{handed_of}
use Rattle.ps_world.specs.Answers.{answered}

pub hand_rows-requires : goal.hand_rows-requires
hand_rows-requires g c =
    let none : c.args.self.now.fault ≡ None = search rules in
    let r = c.requires none in
    (search rules, (r.0, r.1, r.2, r.3, r.4, r.5, c.place_of-place.ensures r.2 r.6))

pub hand_fault-requires : goal.hand_fault-requires
hand_fault-requires g c =
    let none : c.args.self.now.fault ≡ None = search rules in
    let r = c.requires none in
    (search rules, (r.0, r.1, r.2, r.3, r.4, r.5, c.place_of-place.ensures r.2 r.6))

pub returns-in-Ok-clause-answered : goal.returns-in-Ok-clause-answered
returns-in-Ok-clause-answered g c = λ none F w q x stands may shows schema.
    let is = c.in-Ok.ensures.rows in
    subst (λ a. Stands g.N.RunNode.Has (answered w q a) c.hand_rows.new.self) (sym is)
    (c.hand_rows.ensures F w q x stands may (c.place_of-place.ensures q shows) (c.in-Ok.ensures.schema ∙ schema c.in-Ok.rows.rows is) (c.handed-handed.ensures c.args.piece ∙ ap handed_of is))

pub returns-clause-answered : goal.returns-clause-answered
returns-clause-answered g c = λ none F w q x stands may shows schema.
    let fault = c.in-Err.ensures.fault in
    subst (λ a. Stands g.N.RunNode.Has (answered w q a) c.hand_fault.new.self) (sym fault.1)
    (c.hand_fault.ensures F w q x fault.0 stands may (c.place_of-place.ensures q shows) fault.2 (c.handed-handed.ensures c.args.piece ∙ ap handed_of fault.1))

-- The rows stand in their place.
use Rattle.std.proofs.Common.{◌∙◌, ◌∷◌, ◌++◌, [], ap, subst, sym}
use Rattle.std.specs.Prelude.{◌&&◌, nat_eq}
use Rattle.ps_flow.proofs.HandingIn.{awaits, hands_rows, one_output, schema_is}
use Rattle.ps_flow.proofs.world.World.hand_rows.Goals as goal
use Rattle.ps_flow.specs.Handing.{HasOneOutput}
use Rattle.ps_flow.specs.Standing.{setting_of}
use Rattle.ps_world.specs.Pipes.{change_pipes, with_answer}
use Rattle.ps_world.specs.World.{shape_of}
use Rattle.world_pipes.specs.Giving.{IsAwaitedIn}
use Rattle.world_pipes.specs.Shown.{AreShown}

pub put_out-requires : goal.put_out-requires
put_out-requires g c =
    let r = c.requires in
    let w = r.1 in
    let q = r.2 in
    let stands = r.4 in
    let is = r.6 in (
      setting_of (shape_of w) w.options,
      w.pipes,
      stands.pipes,
      stands.linked,
      stands.wires,
      subst (λ n. HasOneOutput n w.pipes) (sym is.node) (one_output r.0 w q r.3 r.5),
      λ p among e. subst (λ k. IsAwaitedIn k p) (sym is.gives) (awaits r.0 w q r.3 r.5 p among (e ∙ is.node)),
    )

pub returns : goal.returns
returns g c = λ F w q x stands may is schema e.
    let s = setting_of (shape_of w) w.options in
    let rs = c.args.rows.rows in
    let one = subst (λ n. HasOneOutput n w.pipes) (sym is.node) (one_output F w q x may) in
    let given = schema ∙ sym (schema_is F w q x may g.N.RunNode.Has c.args.self.now stands) ∙ ap s.schema (sym is.node) in
    let shown = c.put_out.ensures s w.pipes stands.pipes stands.linked stands.wires one given in
    let moved = subst (λ k. AreShown s (change_pipes (λ p. nat_eq p.wire.sender c.args.place.node && p.in_phase) (with_answer k rs) w.pipes) c.put_out.new.pipes) is.gives shown in
    hands_rows F w q x may g.N.RunNode.Has c.args.self.now stands c.args.place is c.args.handed c.take_back.new.self c.append.new.self c.take_back.ensures (c.append.ensures.records ∙ ap (λ r. c.args.self.now.journal.records ++ r ∷ []) c.record_of.ensures) c.append.ensures.spare
    rs c.put_out.new.pipes (subst (λ n. AreShown s (change_pipes (λ p. nat_eq p.wire.sender n && p.in_phase) (with_answer q.gives rs) w.pipes) c.put_out.new.pipes) is.node moved) e

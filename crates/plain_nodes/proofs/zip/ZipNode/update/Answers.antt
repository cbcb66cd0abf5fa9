-- Where its heads agree it answers by them, and else it finds that they don't.
use Rattle.std.proofs.Common.{◌≡◌, ◌∙◌, Bool, List, None, Some, arith, ap, cond, inl, refl, subst, sym}
use Rattle.bare_nodes.specs.Bare.{nowhere}
use Rattle.node_states.specs.States.{IsZip}
use Rattle.node_states.specs.Views.{NodeView, sides_of}
use Rattle.node_states.specs.declared.heads.HeadState.{HeadState}
use Rattle.ps_frame.specs.Causes.{Cause}
use Rattle.ps_frame.specs.declared.refusal.PolarsError.TheVariants as error
use Rattle.ps_frame.specs.declared.value.DataFault.TheVariants as data_fault
use Rattle.plain_nodes.specs.Seen.{Updates, seen, view_of}
use Rattle.plain_nodes.specs.Plain as plain
use Rattle.plain_nodes.specs.declared.zip.ZipNode.{ZipNode}
use Rattle.pu_base.specs.declared.arena.Node.{Node}
use Rattle.plain_nodes.proofs.zip.ZipNode.update.Goals as goal

-- a zip is seen as it stands, whatever its heads were
same_extent : (a b : ZipNode) → b ≡ record a { heads = b.heads } → b.null_extend ≡ a.null_extend
same_extent a b same = ap (λ (z : ZipNode). z.null_extend) same

is_zip : (extend extend' : Bool) (hs hs' : List HeadState) (n : NodeView) → extend' ≡ extend → hs' ≡ hs → IsZip extend hs n → IsZip extend' hs' n
is_zip extend extend' hs hs' n e s h = subst (λ x. IsZip x hs' n) (sym e) (subst (λ x. IsZip extend x n) (sym s) h)

pub returns-then-has_shape_fault-clause-fault : goal.returns-then-has_shape_fault-clause-fault
returns-then-has_shape_fault-clause-fault c =
    let a = plain.zip c.args.self.now in
    let given = sides_of c.args.recv.now c.args.send.now in
    let zip = is_zip _ _ _ _ (view_of a given) (same_extent c.args.self.now c.see_heads.new.self c.see_heads.ensures.others) c.as_slice-heads.ensures.value (c.see_heads.ensures.heads c.args.send.now) in
    let shape : Cause = record { fault = data_fault.Shape; node = nowhere } in
    let at : c.default.result.0 ≡ nowhere = omega arith in
    let node : Node → Node = λ n. n in (
      shape,
      inl (c.has_shape_fault.ensures (view_of a given) (seen a).node zip ∙ ap (λ b. cond b (Some shape) None) c.if-has_shape_fault.true),
      ap (λ n. error.ShapeMismatch (node (record { 0 = n }))) at,
    )

pub returns-clause-updated : goal.returns-clause-updated
returns-clause-updated c =
    let a = plain.zip c.args.self.now in
    let given = sides_of c.args.recv.now c.args.send.now in
    let others = c.see_heads.ensures.others in
    let zip = is_zip _ _ _ _ (view_of a given) (same_extent c.args.self.now c.see_heads.new.self others) c.as_slice-heads.ensures.value (c.see_heads.ensures.heads c.args.send.now) in
    let shape : Cause = record { fault = data_fault.Shape; node = nowhere } in
    let update : Updates a given (plain.zip (record c.args.self.now { heads = c.see_heads.new.self.heads })) (sides_of c.answer.new.recv c.answer.new.send) =
    record {
      update = record {
        ports = (c.requires.inputs.0, c.requires.output);
        agrees = c.has_shape_fault.ensures (view_of a given) (seen a).node zip ∙ ap (λ b. cond b (Some shape) None) c.if-has_shape_fault.false;
        turns = inl (refl, refl);
        others = refl;
        answers = c.answer.ensures (view_of a given) _ zip;
      };
      options = refl;
      ports = λ i o p. ((p.0.0, p.0.1, c.see_heads.ensures.as_many ∙ p.0.2), p.1);
    } in
    subst (λ z. Updates a given (plain.zip z) (sides_of c.answer.new.recv c.answer.new.send)) (sym others) update

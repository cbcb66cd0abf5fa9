-- The first part of the law of passing nodes: over what came of the one input, behind the rows before.
use Rattle.std.proofs.Common.{◌≡◌, ℕ, [], ◌∷◌, length, Some, sym, ap, subst, ◌∙◌}
use Rattle.std.specs.Prelude.{get_or, map, slice_get}
use Rattle.ps_frame.specs.Functions.{Functions}
use Rattle.ps_frame.specs.Tables.{Fields}
use Rattle.ps_meaning.specs.Shape.{PhysicalCase, PhysicalNode}
use Rattle.ps_meaning.specs.Sound.{input_schemas, schema_at}
use Rattle.ps_world.specs.Booking.{GoesOn, HoldsAfter, IsPassing}
use Rattle.ps_world.specs.Laws.{Justified, sent_at, sent_by, sent_to}
use Rattle.ps_world.specs.World.{Node, Pipe, World, pipes_in, shape_of}
use Rattle.world_claims.specs.Numbering.{Known}
use Rattle.world_facts.proofs.Placing.{map_length}
use Rattle.world_laws.proofs.OnwardLaw.{onward-justified}
use Rattle.passing_laws.proofs.SoundPieces.{sound-goes-on}
use Rattle.family_fronts.proofs.FrontsLaw.{only_one}
use Rattle.family_pipes.proofs.Inputs.{enters, inputs_long, sent_to_is}
use Rattle.family_pipes.proofs.Sent.{node_of, one_table}
use Rattle.family_fronts.proofs.SourceLaw.{from_single}
use Rattle.world_families.specs.Holds.{Holds}
use Rattle.world_families.specs.Onward.{HoldsPassing}
use Rattle.world_families.specs.Work.{Enters, Leaves}
use Rattle.passing_fronts.proofs.PassingKinds.{no_sink, of_kind, one_input, single}

-- THE ONE INPUT OF A PASSING NODE
module _ (F : Functions) (w : World) (n : ℕ) (node : Node) (known : Known F w) (there : slice_get w.nodes n ≡ Some node) (shows : slice_get (shape_of w) n ≡ Some node.node) (passing : IsPassing node.node.kind) where
  long : length node.node.inputs ≡ 1
  long = one_input node.node.kind (length node.node.inputs) passing (known.facts.sound.0 n node.node shows).inputs

  pub input : (q : Pipe) × (pipes_in w n ≡ q ∷ [])
  input = only_one (pipes_in w n) (inputs_long F w known.facts n node there ∙ long)

  pub came : Enters w n input.0 × (input.0.wire.input ≡ 0)
  came = enters F w known.facts n 0 input.0 (ap (λ ps. slice_get ps 0) input.1)

  pub schema : (s : Fields) × (input_schemas (shape_of w) node.node ≡ s ∷ [])
  schema = only_one (input_schemas (shape_of w) node.node) (map_length (λ (i : ℕ × ℕ). schema_at (slice_get (shape_of w) i.0)) node.node.inputs ∙ long)

  pub goes : GoesOn F node.node schema.0
  goes = sound-goes-on F (shape_of w) n node.node schema.0 known.facts.sound shows passing schema.1

  pub one_output : (p r : Pipe) → Leaves w n p → Leaves w n r → p ≡ r
  one_output p r l m = known.facts.one_output p r l.0 m.0 (l.1 ∙ sym m.1) (from_single w n node p there (single node.node.kind passing) l.1)

  module _ (h : HoldsPassing F w n node) where
    holds : (p : Pipe) → Leaves w n p → HoldsAfter F node.node schema.0 input.0 p
    holds p l = subst (λ s. HoldsAfter F node.node s input.0 p) (ap (λ ss. get_or ss 0 []) schema.1) (h.answers input.0 p came.0 l)

    over_one : Justified F node.node (schema.0 ∷ []) (sent_by input.0 ∷ []) (sent_at w n)
    over_one [] e m = absurd m
    over_one (T ∷ []) e m =
        let same : T.schema ≡ schema.0 = (let q : T.schema ∷ [] ≡ schema.0 ∷ [] = e in cc) in
        let t = goes.total 0 T same in
        let r = one_table w n node (λ U. (U.schema ≡ node.node.schema) × PhysicalCase F node.node (T ∷ []) U) there (no_sink node.node.kind passing) one_output (t.0, (t.2, goes.starts T t.0 same t.1))
        (λ p l. let j = onward-justified F node.node schema.0 goes input.0 p (holds p l) (T ∷ []) e m in (j.0, (j.1, j.2), j.3 0)) in
        (r.0, r.1.0, r.1.1, r.2)
    over_one (T ∷ U ∷ Ts) e m = absurd m.1

    pub served : Justified F node.node (input_schemas (shape_of w) node.node) (sent_to (sent_at w) node.node) (sent_at w n)
    served =
        subst (λ ss. Justified F node.node ss (sent_to (sent_at w) node.node) (sent_at w n)) (sym schema.1)
        (subst (λ ins. Justified F node.node (schema.0 ∷ []) ins (sent_at w n)) (sym (sent_to_is F w known.facts n node there shows ∙ ap (map sent_by) input.1)) over_one)

pub passing_justified : (F : Functions) (w : World) (n : ℕ) (p : PhysicalNode) → Known F w → slice_get (shape_of w) n ≡ Some p → IsPassing p.kind → Holds F w n → Justified F p (input_schemas (shape_of w) p) (sent_to (sent_at w) p) (sent_at w n)
passing_justified F w n p known e passing holds =
    let x = node_of w n p e in
    let kind = subst (λ (q : PhysicalNode). IsPassing q.kind) (sym x.2) passing in
    subst (λ q. Justified F q (input_schemas (shape_of w) q) (sent_to (sent_at w) q) (sent_at w n)) x.2
    (served F w n x.0 known x.1 (e ∙ ap Some (sym x.2)) kind (of_kind F w n x.0 x.0.node.kind kind (holds x.0 x.1).own))

-- The streams that a step reads, one by one, and their schemas.
use Rattle.std.proofs.Common.{◌≡◌, ◌<◌, List, [], ◌∷◌, length, refl, sym, ap, subst, arith}
use Rattle.std.specs.Prelude.{Contains, map}
use Rattle.std.specs.List.{AllByRecursion}
use Rattle.ps_frame.specs.Tables.{Fields}
use Rattle.ps_meaning.specs.Shape.{Shape}
use Rattle.ps_meaning.proofs.Containing.{contains-first, contains-later}
use Rattle.ps_rules.specs.Slots.{Stream, schema_at}
use Rattle.plan_rules.specs.Nodes.{first_stream, second_stream}
use Rattle.rule_parts.specs.Good.{AreStreams, IsStream}
use Rattle.rule_parts.proofs.Standing.{schema_is, stream_below}

-- the schemas that streams have
pub schemas_are : (nodes : Shape) (is : List Stream) (ss : List Fields) → AreStreams nodes is ss → map (schema_at nodes) is ≡ ss
schemas_are nodes [] [] h = refl
schemas_are nodes [] (s ∷ ss) h = absurd h
schemas_are nodes (i ∷ is) [] h = absurd h
schemas_are nodes (i ∷ is) (s ∷ ss) h =
    let p = schema_is nodes i s h.0 in
    let q = schemas_are nodes is ss h.1 in
    λ j. p j ∷ q j

pub all_below : (nodes : Shape) (is : List Stream) (ss : List Fields) → AreStreams nodes is ss → AllByRecursion (λ (i : Stream). i.0 < length nodes) is
all_below nodes [] [] h = tt
all_below nodes [] (s ∷ ss) h = absurd h
all_below nodes (i ∷ is) [] h = absurd h
all_below nodes (i ∷ is) (s ∷ ss) h = (stream_below nodes i s h.0, all_below nodes is ss h.1)

pub as_many : (nodes : Shape) (is : List Stream) (ss : List Fields) → AreStreams nodes is ss → length is ≡ length ss
as_many nodes [] [] h = refl
as_many nodes [] (s ∷ ss) h = absurd h
as_many nodes (i ∷ is) [] h = absurd h
as_many nodes (i ∷ is) (s ∷ ss) h = let r = as_many nodes is ss h.1 in omega arith

-- of one input, and of two
pub record OneInput (nodes : Shape) (is : List Stream) (ss : List Fields) : Type 0 where
  pub is_alone : ss ≡ schema_at nodes (first_stream is) ∷ []
  pub stream : IsStream nodes (first_stream is) (schema_at nodes (first_stream is))

pub own_schema : (nodes : Shape) (i : Stream) (f : Fields) → IsStream nodes i f → IsStream nodes i (schema_at nodes i)
own_schema nodes i f h = subst (IsStream nodes i) (sym (schema_is nodes i f h)) h

pub one_input : (nodes : Shape) (is : List Stream) (ss : List Fields) → AreStreams nodes is ss → length ss ≡ 1 → OneInput nodes is ss
one_input nodes is [] h n = absurd (omega arith)
one_input nodes is (s ∷ t ∷ ss) h n = absurd (omega arith)
one_input nodes [] (s ∷ []) h n = absurd h
one_input nodes (i ∷ is) (s ∷ []) h n = record { is_alone = ap (λ (f : Fields). f ∷ []) (sym (schema_is nodes i s h.0)); stream = own_schema nodes i s h.0 }

pub record TwoInputs (nodes : Shape) (is : List Stream) (ss : List Fields) : Type 0 where
  pub are_both : ss ≡ schema_at nodes (first_stream is) ∷ schema_at nodes (second_stream is) ∷ []
  pub left : IsStream nodes (first_stream is) (schema_at nodes (first_stream is))
  pub right : IsStream nodes (second_stream is) (schema_at nodes (second_stream is))

pub two_inputs : (nodes : Shape) (is : List Stream) (ss : List Fields) → AreStreams nodes is ss → length ss ≡ 2 → TwoInputs nodes is ss
two_inputs nodes is [] h n = absurd (omega arith)
two_inputs nodes is (s ∷ []) h n = absurd (omega arith)
two_inputs nodes is (s ∷ t ∷ u ∷ ss) h n = absurd (omega arith)
two_inputs nodes [] (s ∷ t ∷ []) h n = absurd h
two_inputs nodes (i ∷ []) (s ∷ t ∷ []) h n = absurd h.1
two_inputs nodes (i ∷ j ∷ is) (s ∷ t ∷ []) h n =
    let p = schema_is nodes i s h.0 in
    let q = schema_is nodes j t h.1.0 in
    record { are_both = λ k. sym p k ∷ sym q k ∷ []; left = own_schema nodes i s h.0; right = own_schema nodes j t h.1.0 }

pub all_contained : (f : Fields) → AllByRecursion (Contains f) f
all_contained f = each f (λ x c. c)
  where
    each : (g : Fields) → ((x : _) → Contains g x → Contains f x) → AllByRecursion (Contains f) g
    each [] inside = tt
    each (x ∷ g) inside = (inside x (contains-first x g), each g (λ y c. inside y (contains-later x y g c)))

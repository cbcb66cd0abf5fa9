-- A node that was there stays one of a sound shape among more nodes.
use Rattle.std.proofs.Common.{◌≡◌, ℕ, zero, suc, ◌<◌, ◌≤◌, List, [], ◌∷◌, ◌++◌, length, Some, sym, ap, subst, ◌∙◌, arith}
use Rattle.std.specs.Prelude.{IsTrue, map, slice_get}
use Rattle.std.specs.List.{AllByRecursion}
use Rattle.std.proofs.lemmas.List.{append-nil}
use Rattle.ps_frame.specs.Functions.{Functions}
use Rattle.ps_frame.specs.Tables.{Fields}
use Rattle.ps_meaning.specs.Shape.{PhysicalNode, Shape}
use Rattle.ps_meaning.specs.Sound.{BreaksNoRule, HasSchema, IsFitNode, have_kinds_over, rules_of, schema_at as schema_of}
use Rattle.ps_rules.specs.Slots.{Stream}
use Rattle.name_rules.proofs.Listing.{schemas_before}

pub was_there : (a more : Shape) (n : ℕ) (p : PhysicalNode) → n < length a → slice_get (a ++ more) n ≡ Some p → slice_get a n ≡ Some p
was_there [] more n p lt e = absurd (omega arith)
was_there (x ∷ a) more zero p lt e = e
was_there (x ∷ a) more (suc n) p lt e = was_there a more n p (omega arith) e

pub all_below : (k m : ℕ) (is : List Stream) → k ≤ m → AllByRecursion (λ (i : Stream). i.0 < k) is → AllByRecursion (λ (i : Stream). i.0 < m) is
all_below k m [] le all = tt
all_below k m (i ∷ is) le all = (let lt = all.0 in omega arith, all_below k m is le all.1)

-- what nodes read has the same schemas among more nodes
pub same_below : (a more : Shape) (is : List Stream) → AllByRecursion (λ (i : Stream). i.0 < length a) is → map (λ (i : Stream). schema_of (slice_get a i.0)) is ≡ map (λ (i : Stream). schema_of (slice_get (a ++ more) i.0)) is
same_below a more is all = ap (λ (nodes : Shape). map (λ (i : Stream). schema_of (slice_get nodes i.0)) is) (sym (append-nil a)) ∙ sym (schemas_before a [] is all) ∙ schemas_before a more is all

module _ (F : Functions) where
  -- a node that was there
  pub fit_later : (a more : Shape) (n : ℕ) (p : PhysicalNode) → n < length a → IsFitNode F a n p → IsFitNode F (a ++ more) n p
  fit_later a more n p lt h =
      let same = same_below a more p.inputs (all_below n (length a) p.inputs (omega arith) h.earlier) in
      record {
        earlier = h.earlier;
        inputs = h.inputs;
        schema = subst (λ (ss : List Fields). HasSchema F p.kind ss p.schema) same h.schema;
        not_empty = h.not_empty;
        parameters = h.parameters;
        kinds = subst (λ (ss : List Fields). IsTrue (have_kinds_over ss (rules_of p.kind))) same h.kinds;
        rules = subst (λ (ss : List Fields). BreaksNoRule F (rules_of p.kind) ss) same h.rules;
      }

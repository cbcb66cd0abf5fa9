use Rattle.std.proofs.Common.{◌≡◌, zero, suc, inl, [], ◌∷◌, ◌++◌, false, refl, sym, subst}
use Rattle.std.specs.Prelude.{Contains, codes}
use Rattle.std.specs.Int.{int_wrap}
use Rattle.ps_frame.specs.Functions.{Functions}
use Rattle.ps_frame.specs.declared.value.DataType.TheVariants as kind
use Rattle.ps_meaning.specs.Shape.{IsPhysicalChoice, PhysicalCase, PhysicalNode, input_tables, zip_node}
use Rattle.ps_rules.specs.Names.{temporary}
use Rattle.ps_rules.specs.Worked.{ab_fields, field, over_two, source, start, sum_beside_b, sum_node}
use Rattle.ps_shares.specs.Kept.{IsOrdered}
use Rattle.ps_shares.proofs.Members.{to_has}
use Rattle.worked_examples.specs.Lowering.{worked_tables}
use Rattle.worked_examples.proofs.lowering.worked_call_has_tables.Goals as goal

ordered : IsOrdered start.nodes
ordered zero p i e h = let is : source ≡ p = cc in absurd (to_has [] i (subst (λ (p : PhysicalNode). Contains p.inputs i) (sym is) h))
ordered (suc n) p i e h = cc

pub returns-clause-ready : goal.returns-clause-ready
returns-clause-ready c =
    record {
      ordered = ordered;
      node = source;
      there = refl;
      known = ((λ k t. let w : codes "a" ≡ temporary k = t.1 in cc), ((λ k t. let w : codes "b" ≡ temporary k = t.1 in cc), tt));
      distinct_names = refl;
      typed = refl;
      some = λ e. cc;
    }

abbrev zipped_node : PhysicalNode
zipped_node = over_two (zip_node false) (ab_fields ++ field 0 kind.Int64 ∷ []) 0 1

are_tables : (F : Functions) → IsPhysicalChoice F sum_beside_b.state.nodes worked_tables
unfolding int_wrap
are_tables F zero p e = let is : source ≡ p = cc in subst (λ (p : PhysicalNode). PhysicalCase F p (input_tables F worked_tables p) (worked_tables 0)) is (worked_tables 0, inl refl, refl)
are_tables F (suc zero) p e = let is : sum_node ≡ p = cc in subst (λ (p : PhysicalNode). PhysicalCase F p (input_tables F worked_tables p) (worked_tables 1)) is (worked_tables 1, inl refl, refl)
are_tables F (suc (suc zero)) p e = let is : zipped_node ≡ p = cc in subst (λ (p : PhysicalNode). PhysicalCase F p (input_tables F worked_tables p) (worked_tables 2)) is (worked_tables 2, inl refl, refl)
are_tables F (suc (suc (suc n))) p e = cc

pub returns-clause-tables : goal.returns-clause-tables
returns-clause-tables c = are_tables

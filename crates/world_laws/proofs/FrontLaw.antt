-- The first part of the law of multiplexers and sinks: each port gives a front of what came.
use Rattle.std.proofs.Common.{◌≡◌, ℕ, [], ◌∷◌, ◌++◌, refl, sym, ap, subst, ◌∙◌, append_assoc, append-nil, inl}
use Rattle.ps_frame.specs.Functions.{Functions}
use Rattle.ps_frame.specs.Tables.{Fields, Table}
use Rattle.ps_meaning.specs.Shape.{PhysicalCase, PhysicalKind, PhysicalNode, in_memory_sink, multiplexer}
use Rattle.ps_world.specs.Keeping.{IsFrontOf}
use Rattle.ps_world.specs.Laws.{Extends, Justified, Sent}

through_front : (out inp : Sent) (T : Table) → IsFrontOf out inp → Extends inp T → Extends out T
through_front out inp T f m =
    record {
      rest = f.rest ++ m.rest;
      begins = sym (append_assoc out.rows f.rest m.rest) ∙ ap (λ rs. rs ++ m.rest) f.begins ∙ m.begins;
      ends = λ c. let a = f.all c in let h = m.ends a.1 in (sym (append-nil out.rows) ∙ ap (λ rs. out.rows ++ rs) (sym a.0) ∙ f.begins ∙ h.0, h.1);
    }

pub passes_on : (F : Functions) (p : PhysicalNode) (T : Table) → p.kind ≡ multiplexer → PhysicalCase F p (T ∷ []) T
passes_on F p T is_one = subst (λ (k : PhysicalKind). PhysicalCase F (record p { kind = k }) (T ∷ []) T) (sym is_one) (T, inl refl, refl)

pub kept_whole : (F : Functions) (p : PhysicalNode) (T : Table) → p.kind ≡ in_memory_sink → PhysicalCase F p (T ∷ []) T
kept_whole F p T is_one = subst (λ (k : PhysicalKind). PhysicalCase F (record p { kind = k }) (T ∷ []) T) (sym is_one) (T, inl refl, refl)

pub front_justified : (F : Functions) (p : PhysicalNode) (s : Fields) (inp : Sent) (outs : ℕ → Sent) → ((T : Table) → PhysicalCase F p (T ∷ []) T) → p.schema ≡ s → ((k : ℕ) → IsFrontOf (outs k) inp) → Justified F p (s ∷ []) (inp ∷ []) outs
front_justified F p s inp outs passes same fronts [] e m = absurd m
front_justified F p s inp outs passes same fronts (T ∷ []) e m =
    let here : T.schema ≡ s = let q : T.schema ∷ [] ≡ s ∷ [] = e in cc in
    (T, here ∙ sym same, passes T, λ k. through_front (outs k) inp T (fronts k) m.0)
front_justified F p s inp outs passes same fronts (T ∷ U ∷ Ts) e m = absurd m.1

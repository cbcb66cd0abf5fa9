-- What the nodes of caches tell.
use Rattle.std.proofs.Common.{◌≡◌, ℕ, ◌⊎◌, [], ◌∷◌, length, Some, None, ap, subst, ◌∙◌, inl, inr}
use Rattle.std.specs.Prelude.{Contains}
use Rattle.ps_frame.specs.Causes.{Cause}
use Rattle.ps_frame.specs.Functions.{Functions}
use Rattle.ps_frame.specs.Tables.{Table}
use Rattle.ps_meaning.specs.Meaning.{IsLarge}
use Rattle.ps_meaning.specs.PlanTrees.{PlanTree, no_trees, node, tree}
use Rattle.ps_meaning.specs.Shape.{Shape}
use Rattle.ps_meaning.specs.Steps.{cache}
use Rattle.ps_plan.specs.Lowering.{Cached}
use Rattle.plan_laws.specs.Laws.{StandsOver}
use Rattle.ps_rules.specs.Slots.{Stream}
use Rattle.plan_rules.specs.Plans.{LoweredPlan, Progress, stream_of_cache}
use Rattle.within_plans.proofs.Caches.{cache_lowered}
use Rattle.plan_keeps.specs.Kept.{HasNumber}
use Rattle.plan_keeps.proofs.Inputs.{AreFine}
use Rattle.within_plans.proofs.Inputs.{IsLowered}
use Rattle.plan_keeps.proofs.Lists.{in_cons, stream_known}
use Rattle.plan_keeps.proofs.Told.{Later, none_behind}
use Rattle.within_plans.proofs.Told.{IsTold, Tells, TellsOf, able_after}

-- above a cache the same is told
above : (F : Functions) (shape : Shape) (tables : ℕ → Table) (n at id : ℕ) (t : PlanTree) → TellsOf F shape tables n t → TellsOf F shape tables n (node at (cache id) (tree t no_trees))
above F shape tables n at id t tells =
    record {
      numbers = λ c h. by c (tells.numbers c h);
      sizes = λ m feeds large. let l = tells.sizes m feeds large in (l.0, inl (inl l.1));
    }
  where
    by : (c : Cause) → HasNumber c.node t ⊎ IsLarge F t → HasNumber c.node (node at (cache id) (tree t no_trees)) ⊎ IsLarge F (node at (cache id) (tree t no_trees))
    by c (inl h) = inl (inr (inl h))
    by c (inr l) = inr (l.0, inl (inl l.1))

module _ (F : Functions) (stored : ℕ → PlanTree) (p : Progress) (fine : AreFine stored p) (at id : ℕ) (told : IsTold F p) where
  abbrev u : PlanTree
  u = node at (cache id) (tree (stored id) no_trees)

  pub again_tells : (stream : Stream) → stream_of_cache id p.cached ≡ Some stream → Tells F p u (record { progress = p; stream = stream })
  again_tells stream e =
      let c = stream_known id p.cached stream e in
      let f = fine c.0 c.1 in
      let input : c.0.input ≡ stored id = f.input ∙ ap stored c.2 in
      let from : c.0.from ≡ stream.0 = ap (λ (s : Stream). s.0) c.3 in
      record {
        told = told;
        stream = λ shape more is early tables given.
            above F shape tables stream.0 at id (stored id) (subst (λ (x : ℕ × PlanTree). TellsOf F shape tables x.0 x.1) (λ i. (from i, input i)) (told.caches c.0 c.1 shape more is early tables given));
        nodes = λ n low high. none_behind (length p.state.nodes) n low high;
      }

  pub cache_tells : (none : stream_of_cache id p.cached ≡ None) (stands : StandsOver stored (stored id)) (q : LoweredPlan) → IsLowered F stored p (stored id) q → Tells F p (stored id) q
      → Tells F p u (record { progress = record { state = q.progress.state; cached = record { id = id; input = stored id; from = q.stream.0 } ∷ q.progress.cached }; stream = q.stream })
  cache_tells none stands q low tells =
      let mine : Cached = record { id = id; input = stored id; from = q.stream.0 } in
      record {
        told =
            record {
              able = able_after F stored p u (record { progress = record { state = q.progress.state; cached = record { id = id; input = stored id; from = q.stream.0 } ∷ q.progress.cached }; stream = q.stream }) (cache_lowered F stored p fine at id none stands q low) told.able;
              caches = λ c h. by c (in_cons (record { id = id; input = stored id; from = q.stream.0 }) c q.progress.cached h);
            };
        stream = λ shape more is early tables given. above F shape tables q.stream.0 at id (stored id) (tells.stream shape more is early tables given);
        nodes = λ n behind within. let v = tells.nodes n behind within in (v.0, inr (inl v.1), v.2);
      }
    where
      by : (c : Cached) → (record { id = id; input = stored id; from = q.stream.0 } ≡ c) ⊎ Contains q.progress.cached c → Later F q.progress.state.nodes (λ shape tables. TellsOf F shape tables c.from c.input)
      by c (inl e) = subst (λ (c : Cached). Later F q.progress.state.nodes (λ shape tables. TellsOf F shape tables c.from c.input)) e tells.stream
      by c (inr h) = tells.told.caches c h

-- What is known of plans that are lowered, whatever sizes tables have, and the lowering of several plans one after the other.
use Rattle.std.proofs.Common.{◌≡◌, ℕ, ◌+◌, ◌<◌, ◌⊎◌, List, [], ◌∷◌, ◌++◌, length, refl, sym, ap, ◌∙◌, inl, inr, arith, length-append}
use Rattle.std.proofs.lemmas.List.{append_assoc, append-nil}
use Rattle.std.specs.Prelude.{Contains}
use Rattle.std.specs.List.{AllByRecursion}
use Rattle.ps_frame.specs.Functions.{Functions}
use Rattle.ps_frame.specs.Tables.{Table}
use Rattle.ps_meaning.specs.Meaning.{AllMean, Choice, Means, more_mean, none_mean}
use Rattle.ps_meaning.specs.PlanTrees.{PlanTree, PlanTrees, no_trees, tree}
use Rattle.ps_meaning.specs.Shape.{Shape}
use Rattle.ps_plan.specs.Lowering.{AgreesOn, AreTablesOf, Cached}
use Rattle.within_plans.specs.Within.{AllMet, IsMet, LowersWithin, ServesWithin}
use Rattle.plan_laws.specs.Laws.{HoldsId, SomeHoldsId}
use Rattle.plan_keeps.proofs.Inputs.{AreFine, agree_then, means_later}
use Rattle.ps_rules.specs.Slots.{Stream}
use Rattle.plan_rules.specs.Plans.{LoweredPlan, LoweredPlans, Progress}
use Rattle.step_keeps.specs.Kept.{tables_from}
use Rattle.plan_keeps.proofs.Lists.{Known, known_in}

-- What holds once a plan is lowered: in each shape that goes on from there its stream means what the tree does.
pub record IsLowered (F : Functions) (stored : ℕ → PlanTree) (p : Progress) (t : PlanTree) (q : LoweredPlan) : Type 0 where
  pub more : Shape
  pub nodes : q.progress.state.nodes ≡ p.state.nodes ++ more
  pub there : q.stream.0 < length q.progress.state.nodes
  pub fine : AreFine stored q.progress
  pub old : (c : Cached) → Contains p.cached c → Contains q.progress.cached c
  pub new : (c : Cached) → Contains q.progress.cached c → Contains p.cached c ⊎ HoldsId c.id t
  pub held : (k : ℕ) → HoldsId k t → Known k q.progress.cached
  pub lowers : (shape later : Shape) → shape ≡ q.progress.state.nodes ++ later → LowersWithin F shape p.cached q.progress.cached t q.stream.0

-- the same of several streams and trees
abbrev pub LowersAll : Functions → Shape → (before after : List Cached) → PlanTrees → List Stream → Type 0
LowersAll F shape before after ts streams =
    (tables : ℕ → Table) → AreTablesOf F shape tables → (choice : Choice) → ServesWithin F tables before choice
    → (other : Choice) × AgreesOn before choice other × ServesWithin F tables after other × ((Ls : List Table) × AllMean F other ts Ls × AllMet F ts (tables_from tables streams) Ls)

pub record AreLowered (F : Functions) (stored : ℕ → PlanTree) (p : Progress) (ts : PlanTrees) (q : LoweredPlans) : Type 0 where
  pub more : Shape
  pub nodes : q.progress.state.nodes ≡ p.state.nodes ++ more
  pub there : AllByRecursion (λ (s : Stream). s.0 < length q.progress.state.nodes) q.streams
  pub fine : AreFine stored q.progress
  pub old : (c : Cached) → Contains p.cached c → Contains q.progress.cached c
  pub new : (c : Cached) → Contains q.progress.cached c → Contains p.cached c ⊎ SomeHoldsId c.id ts
  pub held : (k : ℕ) → SomeHoldsId k ts → Known k q.progress.cached
  pub lowers : (shape later : Shape) → shape ≡ q.progress.state.nodes ++ later → LowersAll F shape p.cached q.progress.cached ts q.streams

longer : (a b more : Shape) (n : ℕ) → b ≡ a ++ more → n < length a → n < length b
longer a b more n e h = let l = ap length e ∙ length-append a more in omega arith

module _ (F : Functions) (stored : ℕ → PlanTree) (p : Progress) where
  pub none_lowered : AreFine stored p → AreLowered F stored p no_trees (record { progress = p; streams = [] })
  none_lowered fine =
      record {
        more = [];
        nodes = sym (append-nil p.state.nodes);
        there = tt;
        fine = fine;
        old = λ c h. h;
        new = λ c h. inl h;
        held = λ k h. absurd h;
        lowers = λ shape later e tables given choice serves. (choice, (λ c h. refl), serves, ([], none_mean, tt));
      }

  module _ (t : PlanTree) (ts : PlanTrees) (q : LoweredPlan) (r : LoweredPlans) (first : IsLowered F stored p t q) (others : AreLowered F stored q.progress ts r) where
    pub more_lowered : AreLowered F stored p (tree t ts) (record { progress = r.progress; streams = q.stream ∷ r.streams })
    more_lowered =
        record {
          more = first.more ++ others.more;
          nodes = others.nodes ∙ ap (λ (xs : Shape). xs ++ others.more) first.nodes ∙ append_assoc p.state.nodes first.more others.more;
          there = (longer q.progress.state.nodes r.progress.state.nodes others.more q.stream.0 others.nodes first.there, others.there);
          fine = others.fine;
          old = λ c h. others.old c (first.old c h);
          new = λ c h. by c (others.new c h);
          held = held;
          lowers = λ shape later e tables given choice serves.
              let a = first.lowers shape (others.more ++ later) (e ∙ ap (λ (xs : Shape). xs ++ later) others.nodes ∙ append_assoc q.progress.state.nodes others.more later) tables given choice serves in
              let b = others.lowers shape later e tables given a.0 a.2 in
              let l = a.3 in
              let ls = b.3 in (
                b.0,
                agree_then p.cached q.progress.cached choice a.0 b.0 first.old a.1 b.1,
                b.2,
                (l.0 ∷ ls.0, more_mean (means_later F q.progress.cached a.0 b.0 t l.0 first.held b.1 l.1) ls.1, (l.2, ls.2)),
              );
        }
      where
        by : (c : Cached) → Contains q.progress.cached c ⊎ SomeHoldsId c.id ts → Contains p.cached c ⊎ SomeHoldsId c.id (tree t ts)
        by c (inr h) = inr (inr h)
        by c (inl h) = either (first.new c h)
          where
            either : Contains p.cached c ⊎ HoldsId c.id t → Contains p.cached c ⊎ SomeHoldsId c.id (tree t ts)
            either (inl k) = inl k
            either (inr k) = inr (inl k)

        held : (k : ℕ) → SomeHoldsId k (tree t ts) → Known k r.progress.cached
        held k (inl h) = known_in q.progress.cached r.progress.cached others.old k (first.held k h)
        held k (inr h) = others.held k h

  -- of one plan alone
  module _ (t : PlanTree) (q : LoweredPlan) (all : AreLowered F stored p (tree t no_trees) (record { progress = q.progress; streams = q.stream ∷ [] })) where
    pub one_lowered : IsLowered F stored p t q
    one_lowered =
        record {
          more = all.more;
          nodes = all.nodes;
          there = all.there.0;
          fine = all.fine;
          old = all.old;
          new = λ c h. by c (all.new c h);
          held = λ k h. all.held k (inl h);
          lowers = λ shape later e tables given choice serves.
              let b = all.lowers shape later e tables given choice serves in
              let ls = b.3 in
              (b.0, b.1, b.2, one_of b.0 (tables q.stream.0) ls.0 ls.1 ls.2);
        }
      where
        by : (c : Cached) → Contains p.cached c ⊎ SomeHoldsId c.id (tree t no_trees) → Contains p.cached c ⊎ HoldsId c.id t
        by c (inl h) = inl h
        by c (inr (inl h)) = inr h
        by c (inr (inr h)) = absurd h

        one_of : (o : Choice) (P : Table) (Ls : List Table) → AllMean F o (tree t no_trees) Ls → AllMet F (tree t no_trees) (P ∷ []) Ls → (L : Table) × Means F o t L × IsMet F t P L
        one_of o P Ls (more_mean {T = T} m ms) e = (T, m, e.0)

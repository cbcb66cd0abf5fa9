-- Caches: an id that has a stream, and one whose input is lowered now.
use Rattle.std.proofs.Common.{◌≡◌, ℕ, suc, ◌+◌, ◌<◌, ◌⊎◌, Bool, true, false, cond, List, [], ◌∷◌, length, Some, None, refl, sym, ap, subst, ◌∙◌, inl, inr, arith}
use Rattle.std.proofs.lemmas.List.{append-nil}
use Rattle.std.specs.Prelude.{◌==◌, Contains}
use Rattle.ps_frame.specs.Functions.{Functions}
use Rattle.ps_frame.specs.Tables.{Table}
use Rattle.ps_meaning.specs.Meaning.{Choice, IsLarge, Means, by_case, more_mean, none_mean}
use Rattle.ps_meaning.specs.PlanTrees.{PlanTree, PlanTrees, missing, no_trees, node, plan_size, plans_size, tree}
use Rattle.ps_meaning.specs.Shape.{Shape}
use Rattle.ps_meaning.specs.Steps.{Step, cache}
use Rattle.ps_meaning.proofs.Containing.{contains-first, contains-later}
use Rattle.ps_plan.specs.Lowering.{Cached}
use Rattle.ps_meaning.specs.Within.{EndAlike}
use Rattle.within_plans.specs.Within.{IsMet, LowersWithin, ServesWithin}
use Rattle.plan_laws.proofs.ChoiceLaw.{means-same}
use Rattle.plan_laws.specs.Laws.{HaveStored, HoldsId, IsCacheOf, IsStored, SomeHoldsId, StandsOver}
use Rattle.ps_rules.specs.Slots.{Stream}
use Rattle.plan_rules.specs.Plans.{LoweredPlan, Progress, stream_of_cache}
use Rattle.plan_keeps.proofs.Inputs.{AreFine, IsFineCache}
use Rattle.within_plans.proofs.Inputs.{IsLowered}
use Rattle.plan_keeps.proofs.Lists.{Known, in_cons, known_in, not_known, stream_known}

-- a cache in a tree is smaller than the tree
module _ (stored : ℕ → PlanTree) (k : ℕ) where
  stored_smaller : (step : Step) (below : PlanTrees) → IsStored stored step below → IsCacheOf k step → plan_size (stored k) < suc (plans_size below)
  stored_smaller (cache id) below so is =
      let e : plans_size below ≡ suc (plan_size (stored k) + 0) = ap plans_size so ∙ ap (λ (id : ℕ). suc (plan_size (stored id) + 0)) (sym is) in
      omega arith
  stored_smaller _ below so is = absurd is

  mutual
    held_smaller : (t : PlanTree) → StandsOver stored t → HoldsId k t → plan_size (stored k) < plan_size t
    held_smaller (node at step below) so (inl h) = stored_smaller step below so.0 h
    held_smaller (node at step below) so (inr h) = let more = some_smaller below so.1 h in omega arith
    held_smaller missing so h = absurd h

    some_smaller : (ts : PlanTrees) → HaveStored stored ts → SomeHoldsId k ts → plan_size (stored k) < plans_size ts
    some_smaller no_trees so h = absurd h
    some_smaller (tree t ts) so (inl h) = let more = held_smaller t so.0 h in omega arith
    some_smaller (tree t ts) so (inr h) = let more = some_smaller ts so.1 h in omega arith

-- what meets a table of a cache's input meets that of the cache
met_above : (F : Functions) (at id : ℕ) (t : PlanTree) (P L : Table) → IsMet F t P L → IsMet F (node at (cache id) (tree t no_trees)) P L
met_above F at id t P L m = (m.0, by m.1)
  where
    by : EndAlike P L ⊎ IsLarge F t → EndAlike P L ⊎ IsLarge F (node at (cache id) (tree t no_trees))
    by (inl a) = inl a
    by (inr l) = inr (l.0, inl (inl l.1))

-- a cache whose id has a stream gives that stream, and no node
cache_lowers : (F : Functions) (shape : Shape) (before : List Cached) (at : ℕ) (c : Cached) → Contains before c → LowersWithin F shape before before (node at (cache c.id) (tree c.input no_trees)) c.from
cache_lowers F shape before at c known tables given choice serves =
    let m = serves c known in
    (choice, (λ d h. refl), serves, (choice c.id, by_case (more_mean m.0 none_mean) (choice c.id, inl refl, refl) refl, met_above F at c.id c.input (tables c.from) (choice c.id) m.1))

module _ (F : Functions) (stored : ℕ → PlanTree) (p : Progress) (fine : AreFine stored p) (at id : ℕ) where
  abbrev cached : PlanTree
  cached = node at (cache id) (tree (stored id) no_trees)

  -- an id that has a stream
  pub again_lowered : (stream : Stream) → stream_of_cache id p.cached ≡ Some stream → IsLowered F stored p cached (record { progress = p; stream = stream })
  again_lowered stream e =
      let c = stream_known id p.cached stream e in
      let f = fine c.0 c.1 in
      let input : c.0.input ≡ stored id = f.input ∙ ap stored c.2 in
      let from : c.0.from ≡ stream.0 = ap (λ (s : Stream). s.0) c.3 in
      record {
        more = [];
        nodes = sym (append-nil p.state.nodes);
        there = subst (λ n. n < length p.state.nodes) from f.there;
        fine = fine;
        old = λ d h. h;
        new = λ d h. inl h;
        held = held c.0 c.1 c.2 (λ k h. f.held k (subst (HoldsId k) (sym input) h));
        lowers = λ shape later is.
            subst (λ (x : ℕ × PlanTree × ℕ). LowersWithin F shape p.cached p.cached (node at (cache x.0) (tree x.1 no_trees)) x.2) (λ i. (c.2 i, input i, from i)) (cache_lowers F shape p.cached at c.0 c.1);
      }
    where
      held : (c : Cached) → Contains p.cached c → c.id ≡ id → ((k : ℕ) → HoldsId k (stored id) → Known k p.cached) → (k : ℕ) → HoldsId k cached → Known k p.cached
      held c there is inner k (inl h) = record { cache = c; there = there; id = is ∙ sym h }
      held c there is inner k (inr (inl h)) = inner k h
      held c there is inner k (inr (inr h)) = absurd h

  -- an id whose input is lowered now
  module _ (none : stream_of_cache id p.cached ≡ None) (stands : StandsOver stored (stored id)) (q : LoweredPlan) (low : IsLowered F stored p (stored id) q) where
    abbrev mine : Cached
    mine = record { id = id; input = stored id; from = q.stream.0 }

    -- the input doesn't hold the id itself
    not_inside : HoldsId id (stored id) → ⊥
    not_inside h = let never = held_smaller stored id (stored id) stands h in omega arith

    other_id : (c : Cached) → Contains q.progress.cached c → c.id ≡ id → ⊥
    other_id c h is = by (low.new c h)
      where
        by : Contains p.cached c ⊎ HoldsId c.id (stored id) → ⊥
        by (inl k) = not_known id p.cached none c k is
        by (inr k) = not_inside (subst (λ (k : ℕ). HoldsId k (stored id)) is k)

    -- nor does the input of a cache that is known
    not_below : (c : Cached) → Contains q.progress.cached c → HoldsId id c.input → ⊥
    not_below c h inside = by (low.new c h)
      where
        by : Contains p.cached c ⊎ HoldsId c.id (stored id) → ⊥
        by (inl k) = let known = (fine c k).held id inside in not_known id p.cached none known.cache known.there known.id
        by (inr k) =
            let f = low.fine c h in
            let lower = held_smaller stored c.id (stored id) stands k in
            let higher = held_smaller stored id c.input f.stands inside in
            let same = ap plan_size f.input in
            omega arith

    -- the choice with the table of the id
    abbrev with_table : Table → Choice → Choice
    with_table L choice k = cond {A = Table} (k == id) L (choice k)

    at_id : (L : Table) (choice : Choice) → with_table L choice id ≡ L
    at_id L choice = let same : (id == id) ≡ true = grind (arith) in ap (λ (b : Bool). cond {A = Table} b L (choice id)) same

    elsewhere : (L : Table) (choice : Choice) (k : ℕ) → (k ≡ id → ⊥) → with_table L choice k ≡ choice k
    elsewhere L choice k differs = by (k == id) refl
      where
        by : (b : Bool) → (k == id) ≡ b → cond {A = Table} b L (choice k) ≡ choice k
        by true q = let same : k ≡ id = grind (arith) in absurd (differs same)
        by false q = refl

    abbrev after : List Cached
    after = mine ∷ q.progress.cached

    pub cache_lowered : IsLowered F stored p cached (record { progress = record { state = q.progress.state; cached = mine ∷ q.progress.cached }; stream = q.stream })
    cache_lowered =
        record {
          more = low.more;
          nodes = low.nodes;
          there = low.there;
          fine = λ c h. all_fine c (in_cons mine c q.progress.cached h);
          old = λ c h. contains-later mine c q.progress.cached (low.old c h);
          new = λ c h. later c (in_cons mine c q.progress.cached h);
          held = held;
          lowers = λ shape rest e tables given choice serves.
              let a = low.lowers shape rest e tables given choice serves in
              let l = a.3 in
              let now = with_table l.0 a.0 in
              let own = means-same F a.0 now (λ k h. sym (elsewhere l.0 a.0 k (λ is. not_inside (subst (λ (k : ℕ). HoldsId k (stored id)) is h)))) l.1 in (
                now,
                (λ c h. elsewhere l.0 a.0 c.id (λ is. not_known id p.cached none c h is) ∙ a.1 c h),
                (λ c h. serve tables a.0 l.0 a.2 own l.2 c (in_cons mine c q.progress.cached h)),
                (l.0, by_case (more_mean own none_mean) (l.0, inl refl, refl) (sym (at_id l.0 a.0)), met_above F at id (stored id) (tables q.stream.0) l.0 l.2),
              );
        }
      where
        wider : (k : ℕ) → Known k q.progress.cached → Known k after
        wider k h = known_in q.progress.cached after (λ c h. contains-later mine c q.progress.cached h) k h

        all_fine : (c : Cached) → (mine ≡ c) ⊎ Contains q.progress.cached c → IsFineCache stored q.progress.state.nodes after c
        all_fine c (inl e) = subst (IsFineCache stored q.progress.state.nodes after) e (record { input = refl; stands = stands; there = low.there; held = λ k h. wider k (low.held k h) })
        all_fine c (inr h) = let f = low.fine c h in record { input = f.input; stands = f.stands; there = f.there; held = λ k h. wider k (f.held k h) }

        later : (c : Cached) → (mine ≡ c) ⊎ Contains q.progress.cached c → Contains p.cached c ⊎ HoldsId c.id cached
        later c (inl e) = inr (inl (ap (λ (c : Cached). c.id) (sym e)))
        later c (inr h) = by (low.new c h)
          where
            by : Contains p.cached c ⊎ HoldsId c.id (stored id) → Contains p.cached c ⊎ HoldsId c.id cached
            by (inl k) = inl k
            by (inr k) = inr (inr (inl k))

        held : (k : ℕ) → HoldsId k cached → Known k after
        held k (inl h) = record { cache = mine; there = contains-first mine q.progress.cached; id = sym h }
        held k (inr (inl h)) = wider k (low.held k h)
        held k (inr (inr h)) = absurd h

        serve : (tables : ℕ → Table) (choice : Choice) (L : Table) → ServesWithin F tables q.progress.cached choice → Means F (with_table L choice) (stored id) L → IsMet F (stored id) (tables q.stream.0) L → (c : Cached) → (mine ≡ c) ⊎ Contains q.progress.cached c
            → Means F (with_table L choice) c.input (with_table L choice c.id) × IsMet F c.input (tables c.from) (with_table L choice c.id)
        serve tables choice L serves own ends c (inl e) =
            subst (λ (c : Cached). Means F (with_table L choice) c.input (with_table L choice c.id) × IsMet F c.input (tables c.from) (with_table L choice c.id)) e
            (subst (λ (T : Table). Means F (with_table L choice) (stored id) T × IsMet F (stored id) (tables q.stream.0) T) (sym (at_id L choice)) (own, ends))
        serve tables choice L serves own ends c (inr h) =
            let s = serves c h in
            let at = elsewhere L choice c.id (other_id c h) in
            subst (λ (T : Table). Means F (with_table L choice) c.input T × IsMet F c.input (tables c.from) T) (sym at)
            (means-same F choice (with_table L choice) (λ k inside. sym (elsewhere L choice k (λ is. not_below c h (subst (λ (k : ℕ). HoldsId k c.input) is inside)))) s.0, s.1)

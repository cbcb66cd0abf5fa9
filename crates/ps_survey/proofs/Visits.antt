-- One more start of a search, and one more node whose expressions are met.
use Rattle.std.proofs.Common.{◌≡◌, ◌⊎◌, inl, inr, ℕ, suc, ◌+◌, ◌<◌, ◌≤◌, List, [], ◌∷◌, ◌++◌, length, get_or, take, slice_get, sym, ◌∙◌, ap, subst, arith}
use Rattle.std.specs.Prelude.{Some, Contains}
use Rattle.std.proofs.lemmas.List.{take_all, take_more}
use Rattle.std.proofs.lemmas.List.Elements.{Contains-append_left, Contains-get_or, Contains-push, Contains-push_cases}
use Rattle.std.proofs.lemmas.List.Sums.{sum_by-take-le, sum_by_push}
use Rattle.std.proofs.lemmas.Option.{get_or_from_slice_get, slice_get_within}
use Rattle.pu_base.specs.declared.arena.Node.{Node}
use Rattle.ps_frame.specs.declared.expr.AExpr.{AExpr}
use Rattle.ps_plan.specs.Graph.{Names, Path}
use Rattle.ps_plan.specs.declared.ir.IR.{IR}
use Rattle.ps_survey.specs.Counts.{looks_at}
use Rattle.ps_survey.specs.Flaws.{plan_of}
use Rattle.ps_survey.specs.Orders.{HasVisited, IsExprOrder, exprs_in, operands_in}
use Rattle.ps_survey.specs.Search.{AtRest, Ended}
use Rattle.ps_survey.specs.declared.search.Mark.{Mark}
use Rattle.ps_survey.specs.declared.search.Mark.TheVariants as mark

pub take-push : (xs : List ℕ) (k x : ℕ) → slice_get xs k ≡ Some x → take (k + 1) xs ≡ take k xs ++ x ∷ []
take-push xs k x e = let l = slice_get_within xs k x e in take_more xs k x l ∙ ap (λ y. take k xs ++ y ∷ []) (get_or_from_slice_get xs k x x e)

pub visited-all : (next : ℕ → List ℕ) (starts before order : List ℕ) (marks : List Mark) (k : ℕ) → length starts ≤ k → HasVisited next (take k starts) before order marks → HasVisited next starts before order marks
visited-all next starts before order marks k h v = subst (λ xs. HasVisited next xs before order marks) (take_all k starts h) v

pub visited-more : (next : ℕ → List ℕ) (starts before order order' : List ℕ) (marks marks' : List Mark) (k s : ℕ) → slice_get starts k ≡ Some s → HasVisited next (take k starts) before order marks → Ended next s order order' marks'
    → HasVisited next (take (k + 1) starts) before order' marks'
visited-more next starts before order order' marks marks' k s at v ended =
    subst (λ xs. HasVisited next xs before order' marks') (sym (take-push starts k s at))
    (record { rest = ended.rest; own = λ e c. own e (Contains-push_cases (take k starts) s e c); kept = λ e c. ended.kept e (v.kept e c); more = λ e c. more e (ended.more e c) })
  where
    own : (e : ℕ) → Contains (take k starts) e ⊎ (s ≡ e) → Contains order' e
    own e (inl c) = ended.kept e (v.own e c)
    own e (inr h) = subst (λ x. Contains order' x) h ended.reaches

    lift : (e : ℕ) → Contains before e ⊎ ((t : ℕ) × Contains (take k starts) t × Path next t e) → Contains before e ⊎ ((t : ℕ) × Contains (take k starts ++ s ∷ []) t × Path next t e)
    lift e (inl c) = inl c
    lift e (inr h) = inr (h.0, Contains-append_left (take k starts) (s ∷ []) h.0 h.1, h.2)

    more : (e : ℕ) → Contains order e ⊎ Path next s e → Contains before e ⊎ ((t : ℕ) × Contains (take k starts ++ s ∷ []) t × Path next t e)
    more e (inl c) = lift e (v.more e c)
    more e (inr w) = inr (s, Contains-push (take k starts) s, w)

module _ (nodes : List IR) (exprs : List AExpr) where
  abbrev pub AreNamed : List ℕ → List ℕ → Type 0
  AreNamed ns es = (root : Node) (e : ℕ) → Contains es e → (n : ℕ) × Contains ns n × Names (plan_of root nodes exprs) n e

  abbrev pub HasOwn : List ℕ → List ℕ → Type 0
  HasOwn ns es = (n e : ℕ) → Contains ns n → Contains (exprs_in nodes n) e → Contains es e

  pub none-named : (es : List ℕ) → es ≡ [] → AreNamed [] es
  none-named es is root e c = let d = subst (λ xs. Contains xs e) is c in absurd (omega (arith, d.1))

  pub none-own : (es : List ℕ) → HasOwn [] es
  none-own es n e c own = absurd (omega (arith, c.1))

  module _ (order : List ℕ) (i : ℕ) (h : i < length order) (before after : List ℕ) (marks : List Mark) (v : HasVisited (operands_in exprs) (exprs_in nodes (get_or order i 0)) before after marks) where
    pub named-more : AreNamed (take i order) before → AreNamed (take (i + 1) order) after
    named-more all root e c = subst (λ ns. (n : ℕ) × Contains ns n × Names (plan_of root nodes exprs) n e) (sym (take_more order i 0 h)) (by (v.more e c))
      where
        by : Contains before e ⊎ ((t : ℕ) × Contains (exprs_in nodes (get_or order i 0)) t × Path (operands_in exprs) t e) → (n : ℕ) × Contains (take i order ++ get_or order i 0 ∷ []) n × Names (plan_of root nodes exprs) n e
        by (inl c) = let a = all root e c in (a.0, Contains-append_left (take i order) (get_or order i 0 ∷ []) a.0 a.1, a.2)
        by (inr t) = (get_or order i 0, Contains-push (take i order) (get_or order i 0), record { from = t.0; is_own = t.1; way = t.2 })

    pub own-more : HasOwn (take i order) before → HasOwn (take (i + 1) order) after
    own-more all n e c own = by (Contains-push_cases (take i order) (get_or order i 0) n (subst (λ ns. Contains ns n) (take_more order i 0 h) c))
      where
        by : Contains (take i order) n ⊎ (get_or order i 0 ≡ n) → Contains after e
        by (inl c) = v.kept e (all n e c own)
        by (inr q) = v.own e (subst (λ x. Contains (exprs_in nodes x) e) (sym q) own)

  pub expr-order : (root : Node) (order es : List ℕ) (marks : List Mark) (i : ℕ) → length order ≤ i → length marks ≡ length exprs → AtRest (operands_in exprs) es marks → AreNamed (take i order) es → HasOwn (take i order) es
      → IsExprOrder (plan_of root nodes exprs) order es
  expr-order root order es marks i h size rest named own =
      let all = take_all i order h in
      record {
        named = λ e c. subst (λ ns. (n : ℕ) × Contains ns n × Names (plan_of root nodes exprs) n e) all (named root e c);
        own = λ n e c. own n e (subst (λ ns. Contains ns n) (sym all) c);
        within = λ e c. let l = slice_get_within marks e mark.Done (rest.marked e c) in omega (arith, l, size);
        once = rest.once;
        first = rest.first;
      }

pub looks-more : (next : ℕ → List ℕ) (order : List ℕ) (i : ℕ) → i < length order → looks_at next (take (i + 1) order) ≡ looks_at next (take i order) + suc (length (next (get_or order i 0)))
looks-more next order i h = ap (looks_at next) (take_more order i 0 h) ∙ sum_by_push (λ n. suc (length (next n))) (take i order) (get_or order i 0)

pub looks-within : (next : ℕ → List ℕ) (order : List ℕ) (i : ℕ) → i < length order → looks_at next (take i order) + suc (length (next (get_or order i 0))) ≤ looks_at next order
looks-within next order i h = let a = looks-more next order i h in let b = sum_by-take-le (λ n. suc (length (next n))) order (i + 1) in omega (arith, a, b)

pub looks-all : (next : ℕ → List ℕ) (order : List ℕ) (i : ℕ) → looks_at next (take i order) ≤ looks_at next order
looks-all next order i = sum_by-take-le (λ n. suc (length (next n))) order i

pub among : (order : List ℕ) (i : ℕ) → i < length order → Contains order (get_or order i 0)
among order i h = Contains-get_or order i 0 h

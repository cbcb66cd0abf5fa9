-- One more call.
use Rattle.std.proofs.Common.{◌≡◌, List, [], ◌∷◌, ◌++◌, Option, Some, None, refl, ap, subst}
use Rattle.pu_index.specs.Calls.{Calls, kept}

module _ {F A R : Type 0} (step : F → A → R → F → Type 0) where
  pub Calls-push : (f : F) (args : List A) (rs : List R) (g : F) (a : A) (r : R) (h : F) → Calls step f args rs g → step g a r h → Calls step f (args ++ a ∷ []) (rs ++ r ∷ []) h
  Calls-push f [] [] g a r h c s = (h, subst (λ k. step k a r h) c s, refl)
  Calls-push f [] (q ∷ rs) g a r h c s = absurd c
  Calls-push f (b ∷ args) [] g a r h c s = absurd c
  Calls-push f (b ∷ args) (q ∷ rs) g a r h c s = (c.0, c.1, Calls-push c.0 args rs g a r h c.2 s)

pub kept-push : {A : Type 0} (rs : List (Option A)) (r : Option A) → kept (rs ++ r ∷ []) ≡ kept rs ++ kept (r ∷ [])
kept-push [] r = refl
kept-push (None ∷ rs) r = kept-push rs r
kept-push (Some x ∷ rs) r = ap (λ xs. x ∷ xs) (kept-push rs r)

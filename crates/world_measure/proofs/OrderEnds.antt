-- Lists of numbers go down finitely often: by induction on their length, then on the first number, then on what goes down from the rest.
use Rattle.std.proofs.Common.{◌≡◌, ℕ, zero, suc, ◌<◌, ◌⊎◌, List, [], ◌∷◌, ◌++◌, length, refl, sym, ap, subst, ◌∙◌, inl, inr, arith}
use Rattle.std.proofs.lemmas.List.{length-append}
use Rattle.world_measure.specs.Order.{Ends, IsLess, ends}

pub same_length : (ls bs : List ℕ) → IsLess ls bs → length ls ≡ length bs
same_length [] bs wrong = absurd wrong
same_length (a ∷ ls) [] wrong = absurd wrong
same_length (a ∷ ls) (b ∷ bs) (inl (less, same)) = ap suc same
same_length (a ∷ ls) (b ∷ bs) (inr (equal, less)) = ap suc (same_length ls bs less)

-- what is below b and more, given what ends below it
one_below : (n b : ℕ) (bs : List ℕ) → length bs ≡ n → ((a : ℕ) → a < b → (ls : List ℕ) → length ls ≡ n → Ends IsLess (a ∷ ls)) → ((ls : List ℕ) → IsLess ls bs → length ls ≡ n → Ends IsLess (b ∷ ls))
    → (cs : List ℕ) → IsLess cs (b ∷ bs) → Ends IsLess cs
one_below n b bs e outer inner [] wrong = absurd wrong
one_below n b bs e outer inner (a ∷ ls) (inl (less, same)) = outer a less ls (same ∙ e)
one_below n b bs e outer inner (a ∷ ls) (inr (equal, less)) = subst (λ c. Ends IsLess (c ∷ ls)) (sym equal) (inner ls less (same_length ls bs less ∙ e))

by_rest : (n b : ℕ) → ((a : ℕ) → a < b → (ls : List ℕ) → length ls ≡ n → Ends IsLess (a ∷ ls)) → (bs : List ℕ) → Ends IsLess bs → length bs ≡ n → Ends IsLess (b ∷ bs)
by_rest n b outer bs (ends bs' below) e = ends (b ∷ bs') (one_below n b bs' e outer (λ ls less s. by_rest n b outer ls (below ls less) s))

by_first : (n : ℕ) → ((bs : List ℕ) → length bs ≡ n → Ends IsLess bs) → (k b : ℕ) → b < k → (bs : List ℕ) → length bs ≡ n → Ends IsLess (b ∷ bs)
by_first n shorter zero b h bs e = absurd (omega arith)
by_first n shorter (suc k) b h bs e = by_rest n b (λ a less ls s. by_first n shorter k a (omega arith) ls s) bs (shorter bs e) e

none_below : (ls : List ℕ) → IsLess ls [] → Ends IsLess ls
none_below [] wrong = absurd wrong
none_below (a ∷ ls) wrong = absurd wrong

of_length : (n : ℕ) (bs : List ℕ) → length bs ≡ n → Ends IsLess bs
of_length zero [] e = ends [] none_below
of_length zero (b ∷ bs) e = absurd (let wrong : suc (length bs) ≡ 0 = e in omega arith)
of_length (suc n) [] e = absurd (let wrong : 0 ≡ suc n = e in omega arith)
of_length (suc n) (b ∷ bs) e = by_first n (of_length n) (suc b) b (omega arith) bs (let s : suc (length bs) ≡ suc n = e in omega arith)

pub lists_end : (bs : List ℕ) → Ends IsLess bs
lists_end bs = of_length (length bs) bs refl

-- what goes down in a measure goes down in an order that ends
by_measure : {A : Type 0} (Below : A → A → Type 0) (measure : A → List ℕ) (Good : A → Type 0) → ((x y : A) → Good x → Below y x → Good y) → ((x y : A) → Good x → Below y x → IsLess (measure y) (measure x))
    → (m : List ℕ) → Ends IsLess m → (x : A) → measure x ≡ m → Good x → Ends Below x
by_measure Below measure Good keeps falls m (ends m' below) x e g =
    ends x (λ y b. by_measure Below measure Good keeps falls (measure y) (below (measure y) (subst (IsLess (measure y)) e (falls x y g b))) y refl (keeps x y g b))

pub ends_by_measure : {A : Type 0} (Below : A → A → Type 0) (measure : A → List ℕ) (Good : A → Type 0) → ((x y : A) → Good x → Below y x → Good y) → ((x y : A) → Good x → Below y x → IsLess (measure y) (measure x))
    → (x : A) → Good x → Ends Below x
ends_by_measure Below measure Good keeps falls x g = by_measure Below measure Good keeps falls (measure x) (lists_end (measure x)) x refl g

-- LISTS IN TWO PARTS
longer : (ls bs xs ys : List ℕ) → length ls ≡ length bs → length xs ≡ length ys → length (ls ++ xs) ≡ length (bs ++ ys)
longer ls bs xs ys e h = let a = length-append ls xs in let b = length-append bs ys in omega arith

pub front_less : (ls bs xs ys : List ℕ) → IsLess ls bs → length xs ≡ length ys → IsLess (ls ++ xs) (bs ++ ys)
front_less [] bs xs ys wrong h = absurd wrong
front_less (a ∷ ls) [] xs ys wrong h = absurd wrong
front_less (a ∷ ls) (b ∷ bs) xs ys (inl (less, same)) h = inl (less, longer ls bs xs ys same h)
front_less (a ∷ ls) (b ∷ bs) xs ys (inr (equal, less)) h = inr (equal, front_less ls bs xs ys less h)

behind_same : (ls xs ys : List ℕ) → IsLess xs ys → IsLess (ls ++ xs) (ls ++ ys)
behind_same [] xs ys less = less
behind_same (a ∷ ls) xs ys less = inr (refl, behind_same ls xs ys less)

pub back_less : (ls bs xs ys : List ℕ) → ls ≡ bs → IsLess xs ys → IsLess (ls ++ xs) (bs ++ ys)
back_less ls bs xs ys e less = subst (λ cs. IsLess (ls ++ xs) (cs ++ ys)) e (behind_same ls xs ys less)

-- what is less than no more is less
less_than_less : (ls ms ns : List ℕ) → IsLess ls ms → IsLess ms ns → IsLess ls ns
less_than_less [] ms ns wrong h = absurd wrong
less_than_less (a ∷ ls) [] ns wrong h = absurd wrong
less_than_less (a ∷ ls) (b ∷ ms) [] less wrong = absurd wrong
less_than_less (a ∷ ls) (b ∷ ms) (c ∷ ns) (inl (x, s)) (inl (y, t)) = inl (omega arith, s ∙ t)
less_than_less (a ∷ ls) (b ∷ ms) (c ∷ ns) (inl (x, s)) (inr (y, less)) = inl (omega arith, s ∙ same_length ms ns less)
less_than_less (a ∷ ls) (b ∷ ms) (c ∷ ns) (inr (x, less)) (inl (y, t)) = inl (omega arith, same_length ls ms less ∙ t)
less_than_less (a ∷ ls) (b ∷ ms) (c ∷ ns) (inr (x, less)) (inr (y, h)) = inr (x ∙ y, less_than_less ls ms ns less h)

pub less_after : (ns ms ls : List ℕ) → IsLess ms ns ⊎ (ms ≡ ns) → IsLess ls ms → IsLess ls ns
less_after ns ms ls (inl less) h = less_than_less ls ms ns h less
less_after ns ms ls (inr same) h = subst (IsLess ls) same h

-- The slots that were looked at so far, and the one among them of which something holds.
use Rattle.std.proofs.Common.{◌≡◌, ℕ, zero, suc, ◌+◌, ◌≤◌, ◌<◌, Bool, true, false, inl, inr, List, [], ◌∷◌, length, Option, None, Some, sym, ap, subst, ◌∙◌, arith}
use Rattle.std.specs.Prelude.{◌↔◌, IfSome, IsSome, IsTrue, MatchOption, is_some}
use Rattle.std.proofs.lemmas.Bool.{cases_eq}
use Rattle.keyed_slots.specs.Slots.{value_at}

-- what is there
some_there : {A : Type 0} (o : Option A) → IsSome o → (x : A) × (o ≡ Some x)
some_there None e = absurd (let clash : false ≡ true = e in cc)
some_there (Some x) e = (x, λ i. Some x)

within : {A : Type 0} (slots : List (Option A)) (k : ℕ) (x : A) → value_at slots k ≡ Some x → k < length slots
within [] k x e = absurd (let clash : None ≡ Some x = e in cc)
within (y ∷ ys) zero x e = omega arith
within (y ∷ ys) (suc k) x e = let rest = within ys k x e in omega (arith, rest)

module _ {A : Type 0} (Holds : A → Type 0) (slots : List (Option A)) where
  at_same : (n k : ℕ) (a : A) → k ≡ n → value_at slots k ≡ Some a → value_at slots n ≡ Some a
  at_same n k a is at = ap (λ (m : ℕ). value_at slots m) (sym is) ∙ at

  -- it holds of the values of the first slots, so many
  abbrev pub HoldsBelow : ℕ → Type 0
  HoldsBelow n = (k : ℕ) (a : A) → k < n → value_at slots k ≡ Some a → Holds a

  pub one_more : (n : ℕ) → HoldsBelow n → IfSome (value_at slots n) Holds → HoldsBelow (n + 1)
  one_more n below here k a h at =
      elim (cases_eq k n) [
        | inl is ↦ subst (λ (o : Option A). IfSome o Holds) (at_same n k a is at) here
        | inr other ↦ below k a (omega (arith, h, other)) at
      ]

  pub all_below : (n : ℕ) → length slots ≤ n → HoldsBelow n → (k : ℕ) (a : A) → value_at slots k ≡ Some a → Holds a
  all_below n long below k a at = let inside = within slots k a at in below k a (omega (arith, inside, long)) at

  -- it holds of none of the first values; or of the one at a place, and of no other
  abbrev pub NoneBelow : ℕ → Type 0
  NoneBelow n = (k : ℕ) (a : A) → k < n → value_at slots k ≡ Some a → Holds a → ⊥

  pub record OneBelow (n place : ℕ) : Type 0 where
    pub value : A
    pub there : value_at slots place ≡ Some value
    pub holds : Holds value
    pub only : (k : ℕ) (a : A) → k < n → value_at slots k ≡ Some a → Holds a → k ≡ place

  abbrev pub FoundBelow : ℕ → Option ℕ → Type 0
  FoundBelow n found = MatchOption found (NoneBelow n) (OneBelow n)

  -- what was told of the value at a place
  abbrev pub IsTold : ℕ → Bool → Type 0
  IsTold n told = IfSome (value_at slots n) (λ a. IsTrue told ↔ Holds a)

  told_of : (n : ℕ) (told : Bool) (a : A) → IsTold n told → value_at slots n ≡ Some a → IsTrue told ↔ Holds a
  told_of n told a t at = subst (λ (o : Option A). IfSome o (λ b. IsTrue told ↔ Holds b)) at t

  not_here : (n k : ℕ) (a : A) → IsTold n false → k ≡ n → value_at slots k ≡ Some a → Holds a → ⊥
  not_here n k a t is at holds = absurd (let clash : false ≡ true = (told_of n false a t (at_same n k a is at)).1 holds in cc)

  -- a value of which it doesn't hold
  pub pass_over : (n : ℕ) (found : Option ℕ) → IsTold n false → FoundBelow n found → FoundBelow (n + 1) found
  pass_over n None t none = λ k a h at holds. elim (cases_eq k n) [
    | inl is ↦ not_here n k a t is at holds
    | inr other ↦ none k a (omega (arith, h, other)) at holds
  ]
  pass_over n (Some place) t one =
      record {
        value = one.value;
        there = one.there;
        holds = one.holds;
        only = λ k a h at holds. elim (cases_eq k n) [
          | inl is ↦ absurd (not_here n k a t is at holds)
          | inr other ↦ one.only k a (omega (arith, h, other)) at holds
        ];
      }

  -- the first of which it does
  pub find_here : (n : ℕ) → IsSome (value_at slots n) → IsTold n true → NoneBelow n → OneBelow (n + 1) n
  find_here n there t none =
      let a = some_there (value_at slots n) there in
      record {
        value = a.0;
        there = a.1;
        holds = (told_of n true a.0 t a.1).0 (λ i. true);
        only = λ k b h at holds. elim (cases_eq k n) [
          | inl is ↦ is
          | inr other ↦ absurd (none k b (omega (arith, h, other)) at holds)
        ];
      }

  pub one_of_all : (n place : ℕ) → length slots ≤ n → OneBelow n place → (k : ℕ) (a : A) → value_at slots k ≡ Some a → Holds a → k ≡ place
  one_of_all n place long one k a at holds = let inside = within slots k a at in one.only k a (omega (arith, inside, long)) at holds

  -- the node of a key at a place, as a loop looks at it: it holds, and none was found before
  pub found_new : (n j : ℕ) (old new : Option ℕ) (told : Bool) → j ≡ n → told ≡ true → (IsTrue told → IsSome (value_at slots j)) → IsTold j told → FoundBelow n old → is_some old ≡ false → new ≡ Some n → FoundBelow (n + 1) new
  found_new n j (Some place) new told key held there t below free is = absurd (let clash : true ≡ false = free in cc)
  found_new n j None new told key held there t below free is =
      subst (λ (o : Option ℕ). FoundBelow (n + 1) o) (sym is) (find_here n (subst (λ (m : ℕ). IsSome (value_at slots m)) key (there held)) (subst (λ (b : Bool). IsTold n b) held (subst (λ (m : ℕ). IsTold m told) key t)) below)

  -- or it doesn't hold
  pub found_old : (n j : ℕ) (old new : Option ℕ) (told : Bool) → j ≡ n → told ≡ false → IsTold j told → FoundBelow n old → new ≡ old → FoundBelow (n + 1) new
  found_old n j old new told key fails t below is =
      subst (λ (o : Option ℕ). FoundBelow (n + 1) o) (sym is) (pass_over n old (subst (λ (b : Bool). IsTold n b) fails (subst (λ (m : ℕ). IsTold m told) key t)) below)

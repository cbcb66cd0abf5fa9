-- What is said of an answer where there is one, or none.
use Rattle.std.proofs.Common.{◌≡◌, ◌≢◌, ℕ, List, ap, true, false, Option, None, Some, refl, sym, subst, ◌∙◌}
use Rattle.std.specs.Prelude.{IfNone, IfSome, OnErr, Result, Ok, Err, is_some, slice_get}

pub on_some : {A : Type 0} {Q : A → Type 0} (r : Option A) → ((x : A) → r ≡ Some x → Q x) → IfSome r Q
on_some None h = tt
on_some (Some x) h = h x refl

pub at_some : {A : Type 0} (Q : A → Type 0) (r : Option A) (x : A) → r ≡ Some x → IfSome r Q → Q x
at_some Q None x e q = absurd (let clash : None ≡ Some x = e in cc)
at_some Q (Some y) x e q = let same : y ≡ x = (let both : Some y ≡ Some x = e in cc) in subst Q same q

pub at_none : {A : Type 0} {Q : Type 0} (r : Option A) → r ≡ None → IfNone r Q → Q
at_none None e q = q
at_none (Some x) e q = absurd (let clash : Some x ≡ None = e in cc)

pub none_on : {A : Type 0} {Q R : Type 0} (r : Option A) → (Q → R) → IfNone r Q → IfNone r R
none_on None f q = f q
none_on (Some x) f q = tt

-- where there is an answer, nothing speaks against it
pub unmarked_by : {A B : Type 0} (mark : Option A) (r : Option B) (x : B) → IfSome mark (λ e. r ≡ None) → r ≡ Some x → mark ≡ None
unmarked_by None r x h e = refl
unmarked_by (Some m) r x h e = absurd (let clash : None ≡ Some x = sym h ∙ e in cc)

pub both_on_err : {T E : Type 0} {P Q R : Type 0} (r : Result T E) → (P → Q → R) → OnErr r P → OnErr r Q → OnErr r R
both_on_err (Ok x) f p q = tt
both_on_err (Err e) f p q = f p q

pub no_mark : {A : Type 0} (x : Option A) → is_some x ≡ false → x ≡ None
no_mark None e = refl
no_mark (Some y) e = absurd (let clash : true ≡ false = e in cc)

pub some_mark : {A : Type 0} (x : Option A) → is_some x ≡ true → x ≡ None → ⊥
some_mark None e none = absurd (let clash : false ≡ true = e in cc)
some_mark (Some y) e none = absurd (let clash : Some y ≡ None = none in cc)

pub if_none : {A : Type 0} (R : Type 0) (x : Option A) → x ≡ None → IfSome x (λ y. R)
if_none R None e = tt
if_none R (Some y) e = absurd (let clash : Some y ≡ None = e in cc)

-- two answers for one place are the same
pub same_piece : {A : Type 0} (x : Option (Option A)) (a b : A) → x ≡ Some (Some a) → x ≡ Some (Some b) → a ≡ b
same_piece x a b ea eb = let both : Some (Some a) ≡ Some (Some b) = sym ea ∙ eb in cc

pub no_piece : {A : Type 0} (x : Option (Option A)) (a : A) → x ≡ Some (Some a) → x ≡ Some None → ⊥
no_piece x a ea none = absurd (let clash : Some (Some a) ≡ Some None = sym ea ∙ none in cc)

-- what stands in a list stands in one that is the same
pub held_in : {P : Type 0} (xs ys : List (Option P)) (k : ℕ) → xs ≡ ys → (piece : P) × (slice_get xs k ≡ Some (Some piece)) → (piece : P) × (slice_get ys k ≡ Some (Some piece))
held_in xs ys k e found = (found.0, ap (λ l. slice_get l k) (sym e) ∙ found.1)

pub none_in : {P : Type 0} (xs ys : List (Option P)) → xs ≡ ys → ((k : ℕ) (piece : P) → slice_get xs k ≢ Some (Some piece)) → (k : ℕ) (piece : P) → slice_get ys k ≢ Some (Some piece)
none_in xs ys e none k piece at = none k piece (ap (λ l. slice_get l k) e ∙ at)

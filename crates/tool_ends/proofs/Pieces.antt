-- What is read or written in several pieces.
use Rattle.std.proofs.Common.{◌≡◌, ℕ, ◌+◌, ◌<◌, ◌≤◌, List, [], ◌∷◌, ◌++◌, length, take, refl, sym, ◌∙◌, ap, subst, append_assoc, arith, inl, inr, length-append, length-drop, length-take}
use Rattle.std.proofs.Math.Seq.{take-add}
use Rattle.std.proofs.lemmas.List.{take-append-drop, take_at, take_rest}
use Rattle.ps_frame.proofs.Lists.{drop-drop}
use Rattle.std.specs.Prelude.{Option, Some, None, drop, ◌-◌, Result, Ok, Err, OnErr}
use Rattle.tool_ends.specs.Outside.{Appends, AppendsFront, IsAtEnd, IsLonger, Rose, TakesAll, TakesFront}

append_nil : (xs : List ℕ) → xs ++ [] ≡ xs
append_nil [] = refl
append_nil (x ∷ xs) = ap (λ ys. x ∷ ys) (append_nil xs)

-- nothing was taken
pub takes_nothing : (left : Option (List ℕ)) → TakesFront left [] left
takes_nothing None = tt
takes_nothing (Some bytes) = (bytes, refl, refl)

-- one piece after another
pub takes_more : (a b c : Option (List ℕ)) (p q : List ℕ) → TakesFront a p b → TakesFront b q c → TakesFront a (p ++ q) c
takes_more None b c p q t u = tt
takes_more (Some bytes) b c p q t u =
    let v : TakesFront (Some t.0) q c = subst (λ (o : Option (List ℕ)). TakesFront o q c) t.2 u in
    (v.0, t.1 ∙ ap (λ ys. p ++ ys) v.1 ∙ sym (append_assoc p q v.0), v.2)

-- taken up to the end
pub takes_all : (a b c : Option (List ℕ)) (p q : List ℕ) → TakesFront a p b → IsAtEnd b → TakesFront b q c → q ≡ [] → TakesAll a p c
takes_all None b c p q t h u e = tt
takes_all (Some bytes) b c p q t h u e =
    let at_end : t.0 ≡ [] = subst (λ (o : Option (List ℕ)). IsAtEnd o) t.2 h in
    let v : TakesFront (Some t.0) q c = subst (λ (o : Option (List ℕ)). TakesFront o q c) t.2 u in
    let rest : v.0 ≡ [] = sym (ap (λ ys. ys ++ v.0) e) ∙ sym v.1 ∙ at_end in
    (t.1 ∙ ap (λ ys. p ++ ys) at_end ∙ append_nil p, v.2 ∙ ap Some rest)

-- a front that is too long
pub takes_longer : (limit : ℕ) (a b : Option (List ℕ)) (p : List ℕ) → TakesFront a p b → limit < length p → IsLonger limit a
takes_longer limit None b p t h = tt
takes_longer limit (Some bytes) b p t h = let e : length bytes ≡ length p + length t.0 = ap length t.1 ∙ length-append p t.0 in omega arith

-- a count that rose from a later moment on
pub rose_later : (a b c : ℕ) → a ≤ b → Rose b c → Rose a c
rose_later a b c h (inl r) = inl (omega arith)
rose_later a b c h (inr r) = inr r

-- nothing was appended
pub appends_nothing : (written : Option (List ℕ)) → Appends written [] written
appends_nothing None = tt
appends_nothing (Some bytes) = ap Some (sym (append_nil bytes))

-- one piece after another
pub appends_more : (a b c : Option (List ℕ)) (p q : List ℕ) → Appends a p b → Appends b q c → Appends a (p ++ q) c
appends_more None b c p q t u = tt
appends_more (Some bytes) b c p q t u = (subst (λ (o : Option (List ℕ)). Appends o q c) t u) ∙ ap Some (append_assoc bytes p q)

-- a front, and nothing more of the rest
pub appends_front : (a b : Option (List ℕ)) (p q : List ℕ) → Appends a p b → AppendsFront a (p ++ q) b
appends_front None b p q t = tt
appends_front (Some bytes) b p q t = (p, q, refl, t)

-- the first bytes of a text were written, and then more of the rest
pub write_more : (a b c : Option (List ℕ)) (text : List ℕ) (done n : ℕ) → Appends a (take done text) b → Appends b (take n (take (length text - done) (drop done text))) c → Appends a (take (done + n) text) c
write_more a b c text done n t u =
    let v : Appends b (take n (drop done text)) c = subst (λ p. Appends b (take n p) c) (take_rest text done) u in
    subst (λ p. Appends a p c) (sym (take-add done n text)) (appends_more a b c (take done text) (take n (drop done text)) t v)

-- what is written of the rest lies inside the text
pub more_inside : (text : List ℕ) (done n : ℕ) → done ≤ length text → n ≤ length (take (length text - done) (drop done text)) → done + n ≤ length text
more_inside text done n h k = let m : n ≤ length (drop done text) = subst (λ p. n ≤ length p) (take_rest text done) k in let l : length (drop done text) ≡ length text - done = length-drop done text in omega arith

-- the first bytes of a text were written, and no more
pub write_front : (a b c : Option (List ℕ)) (text : List ℕ) (done : ℕ) → Appends a (take done text) b → c ≡ b → AppendsFront a text c
write_front a b c text done t e =
    let u : AppendsFront a (take done text ++ drop done text) b = appends_front a b (take done text) (drop done text) t in
    subst (λ (o : Option (List ℕ)). AppendsFront a text o) (sym e) (subst (λ p. AppendsFront a p b) (take-append-drop done text) u)

-- what holds in any case holds beside an error
pub on_err : {T E : Type 0} {P : Type 0} (r : Result T E) → P → OnErr r P
on_err (Ok x) h = tt
on_err (Err e) h = h

-- what is copied to the front of a buffer is the front of what is left, and the rest is left
pub read_front : (stored d copied buf : List ℕ) (p n : ℕ) → d ≡ stored → n ≤ length (take (length d - p) (drop p d)) → copied ≡ take n (take (length d - p) (drop p d)) → drop p stored ≡ take n (copied ++ drop n buf) ++ drop (p + n) stored
read_front stored d copied buf p n e h c =
    let rest : take (length d - p) (drop p d) ≡ drop p stored = take_rest d p ∙ ap (drop p) e in
    let front : copied ≡ take n (drop p stored) = c ∙ ap (take n) rest in
    let fits : n ≤ length (drop p stored) = subst (λ ys. n ≤ length ys) rest h in
    let l : length copied ≡ n = ap length front ∙ length-take n (drop p stored) ∙ omega arith in
    sym (ap (λ ys. ys ++ drop (p + n) stored) (take_at copied (drop n buf) n l ∙ front) ∙ ap (λ ys. take n (drop p stored) ++ ys) (sym (drop-drop n p stored)) ∙ take-append-drop n (drop p stored))

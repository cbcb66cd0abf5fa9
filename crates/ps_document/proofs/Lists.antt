-- Lists of JSON.
use Rattle.std.proofs.Common.{◌≡◌, ℕ, zero, suc, ◌+◌, ◌<◌, List, [], ◌∷◌, ◌++◌, length, take, get_or, refl, ap, sym, ◌∙◌, arith}
use Rattle.std.specs.Prelude.{map, Option, Some, None, IfNone, IfSome, Result, Ok, Err, IfOk}
use Rattle.std.specs.List.{AllZip}
use Rattle.std.proofs.lemmas.Grind.{take_at_read}
use Rattle.std.proofs.lemmas.List.{append-nil, length-map}
use Rattle.serde_json.specs.Data.{Data, Items, item, no_items}
use Rattle.serde_json.specs.View.{items_of}
use Rattle.ps_document.specs.Json.{list}

items_length : Items → ℕ
items_length no_items = zero
items_length (item d ds) = suc (items_length ds)

items_length-of : (ds : List Data) → items_length (items_of ds) ≡ length ds
unfolding items_length
items_length-of [] = refl
items_length-of (d ∷ ds) = ap suc (items_length-of ds)

-- equal lists of JSON have one length
pub list_length : (ds es : List Data) → list ds ≡ list es → length ds ≡ length es
list_length ds es e = let f : items_of ds ≡ items_of es = cc in sym (items_length-of ds) ∙ ap items_length f ∙ items_length-of es

-- the JSON of values has as many elements
pub list_length-map : {A : Type 0} (f : A → Data) (xs : List A) (es : List Data) → list (map f xs) ≡ list es → length xs ≡ length es
list_length-map f xs es e = sym (length-map xs f) ∙ list_length (map f xs) es e

-- what follows the first element of a list of JSON has as many elements
pub parts_length : {A : Type 0} (f : A → Data) (d : Data) (xs : List A) (es : List Data) → list (d ∷ map f xs) ≡ list (d ∷ es) → length xs ≡ length es
parts_length f d xs es e = let n : suc (length (map f xs)) ≡ suc (length es) = list_length (d ∷ map f xs) (d ∷ es) e in sym (length-map xs f) ∙ omega arith

-- the elements of a list of JSON
abbrev pub elements_of : Items → List Data
elements_of no_items = []
elements_of (item d ds) = d ∷ elements_of ds

pub elements_of-items : (ds : List Data) → elements_of (items_of ds) ≡ ds
elements_of-items [] = refl
elements_of-items (d ∷ ds) = ap (λ es. d ∷ es) (elements_of-items ds)

pub list_same : (ds es : List Data) → list ds ≡ list es → ds ≡ es
list_same ds es e = let f : items_of ds ≡ items_of es = cc in sym (elements_of-items ds) ∙ ap elements_of f ∙ elements_of-items es

-- an element of what is the JSON of parts is that of one of them
pub part_at : {A B : Type 0} (f : A → Data) (j : B → Data) (xs : List A) (zs : List B) (i : ℕ) (x : A) → map f xs ≡ map j zs → i < length xs → x ≡ get_or xs i x → (z : B) × (f x ≡ j z)
part_at f j [] zs i x e h k = absurd (omega arith)
part_at f j (y ∷ ys) [] i x e h k = cc
part_at f j (y ∷ ys) (z ∷ zs) zero x e h k = let first : f y ≡ j z = cc in (z, ap f k ∙ first)
part_at f j (y ∷ ys) (z ∷ zs) (suc i) x e h k = let rest : map f ys ≡ map j zs = cc in let l : i < length ys = omega arith in part_at f j ys zs i x rest l k

pub map-snoc : {A B : Type 0} (f : A → B) (xs : List A) (x : A) → map f (xs ++ x ∷ []) ≡ map f xs ++ f x ∷ []
map-snoc f [] x = refl
map-snoc f (y ∷ ys) x = ap (λ zs. f y ∷ zs) (map-snoc f ys x)

-- one more element, which is the JSON of one more part
pub one_more : {A B : Type 0} (f : A → Data) (j : B → Data) (xs : List A) (i : ℕ) (x : A) (zs : List B) (z : B) → i < length xs → x ≡ get_or xs i x → map f (take i xs) ≡ map j zs → f x ≡ j z
    → map f (take (i + 1) xs) ≡ map j (zs ++ z ∷ [])
one_more f j xs i x zs z h k e n =
    let t : take (i + 1) xs ≡ take i xs ++ x ∷ [] = (take_at_read xs i x h).1 ∙ ap (λ y. take i xs ++ y ∷ []) (sym k) in
    ap (map f) t ∙ map-snoc f (take i xs) x ∙ ap (λ ys. ys ++ f x ∷ []) e ∙ ap (λ d. map j zs ++ d ∷ []) n ∙ sym (map-snoc j zs z)

-- what holds in any case holds where there is nothing
pub if_none : {T P : Type 0} (o : Option T) → P → IfNone o P
if_none None h = h
if_none (Some x) h = tt

-- one more part, beside its JSON
pub zip_more : {A B : Type 0} (R : A → Data → Type 0) (f : B → Data) (xs : List A) (ys : List B) (x : A) (y : B) → AllZip R xs (map f ys) → R x (f y) → AllZip R (xs ++ x ∷ []) (map f (ys ++ y ∷ []))
zip_more R f [] [] x y h r = (r, tt)
zip_more R f [] (z ∷ zs) x y h r = absurd h
zip_more R f (w ∷ ws) [] x y h r = absurd h
zip_more R f (w ∷ ws) (z ∷ zs) x y h r = (h.0, zip_more R f ws zs x y h.1 r)

-- a value among those that are the JSON of parts is that of one of them
pub zip_at : {A B : Type 0} (R : A → Data → Type 0) (f : B → Data) (xs : List A) (front rest : List B) (y : B) → AllZip R xs (map f (front ++ y ∷ rest)) → (x : A) × R x (f y)
zip_at R f [] [] rest y h = absurd h
zip_at R f [] (z ∷ zs) rest y h = absurd h
zip_at R f (w ∷ ws) [] rest y h = (w, h.0)
zip_at R f (w ∷ ws) (z ∷ zs) rest y h = zip_at R f ws zs rest y h.1

-- nothing comes after all
pub all_of : {A : Type 0} (ys rest zs : List A) → ys ++ rest ≡ zs → length rest ≡ 0 → ys ≡ zs
all_of ys [] zs e n = sym (append-nil ys) ∙ e
all_of ys (x ∷ xs) zs e n = absurd (omega arith)

-- what follows from what holds of what was found
pub where_some : {T E : Type 0} {P Q : T → Type 0} (r : Result (Option T) E) → ((x : T) → P x → Q x) → IfOk r (λ o. IfSome o P) → IfOk r (λ o. IfSome o Q)
where_some (Ok None) f h = tt
where_some (Ok (Some x)) f h = f x h
where_some (Err e) f h = tt

pub if_some : {T : Type 0} {P Q : T → Type 0} (o : Option T) → ((x : T) → P x → Q x) → IfSome o P → IfSome o Q
if_some None f h = tt
if_some (Some x) f h = f x h

pub where_nothing : {T P Q : Type 0} (o : Option T) → (P → Q) → IfNone o P → IfNone o Q
where_nothing None f h = f h
where_nothing (Some x) f h = tt

-- what follows from what holds where nothing was found
pub where_none : {T E P Q : Type 0} (r : Result (Option T) E) → (P → Q) → IfOk r (λ o. IfNone o P) → IfOk r (λ o. IfNone o Q)
where_none (Ok None) f h = f h
where_none (Ok (Some x)) f h = tt
where_none (Err e) f h = tt

-- what follows from three facts that hold where there is nothing
pub none_of_three : {T P Q R S : Type 0} (o : Option T) → (P → Q → R → S) → IfNone o P → IfNone o Q → IfNone o R → IfNone o S
none_of_three None f p q r = f p q r
none_of_three (Some x) f p q r = tt

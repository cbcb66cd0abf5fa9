-- Lengths of operands, one more at a time, and which of them can't agree.
use Rattle.std.proofs.Common.{◌≡◌, ℕ, ◌+◌, ◌<◌, min, List, [], ◌∷◌, ◌++◌, length, take, get_or, Bool, true, false, refl, sym, ◌∙◌, ap, append-nil, eq-eqb, eqb→eq}
use Rattle.std.specs.Prelude.{map, filter, fold, not, ◌&&◌, ◌||◌, ◌==◌, nat_lt, nat_le, is_some, Option, Some, None, if◌then◌else◌}
use Rattle.std.specs.List.{list_all, list_any}
use Rattle.std.proofs.lemmas.List.{take_more}
use Rattle.std.proofs.lemmas.Grind.{fold-append}
use Rattle.ps_expr_eval.specs.Lengths.{disagrees, extent_held, first_open, lesser_of}
use Rattle.ps_expr_eval.specs.declared.lengths.Ending.{Ending}
use Rattle.ps_frame.specs.Zip.{Extent, all_same, breaks_shape, broadcasts, ended_lengths, least_or, lengths_where, open_lengths, outgrows}

-- the least of the numbers, if there is one
abbrev pub least_of : List ℕ → Option ℕ
least_of [] = None
least_of (n ∷ ns) = Some (fold min n ns)

-- the lengths of the operands that don't repeat
abbrev pub unrepeated : List Ending → List ℕ
unrepeated es = lengths_where (λ e. not (broadcasts false e)) (map extent_held es)

least_of-push : (ns : List ℕ) (n : ℕ) → least_of (ns ++ n ∷ []) ≡ Some (lesser_of (least_of ns) n)
least_of-push [] n = refl
least_of-push (m ∷ ns) n = ap Some (fold-append min m ns (n ∷ []))

unrepeated-push : (es : List Ending) (e : Ending) → unrepeated (es ++ e ∷ []) ≡ unrepeated es ++ unrepeated (e ∷ [])
unrepeated-push [] e = refl
unrepeated-push (x ∷ es) e = go (not (broadcasts false (extent_held x))) (unrepeated-push es e)
  where
    go : (b : Bool) → unrepeated (es ++ e ∷ []) ≡ unrepeated es ++ unrepeated (e ∷ [])
        → map (λ (e : Extent). e.len) (if b then extent_held x ∷ filter (λ e. not (broadcasts false e)) (map extent_held (es ++ e ∷ [])) else filter (λ e. not (broadcasts false e)) (map extent_held (es ++ e ∷ [])))
        ≡ map (λ (e : Extent). e.len) (if b then extent_held x ∷ filter (λ e. not (broadcasts false e)) (map extent_held es) else filter (λ e. not (broadcasts false e)) (map extent_held es)) ++ unrepeated (e ∷ [])
    go true rest = ap (λ zs. x.len ∷ zs) rest
    go false rest = rest

at-push : (es : List Ending) (i : ℕ) (e : Ending) → i < length es → e ≡ get_or es i e → take (i + 1) es ≡ take i es ++ e ∷ []
at-push es i e h at = take_more es i e h ∙ ap (λ x. take i es ++ x ∷ []) (sym at)

one-unrepeated : (e : Ending) (b : Bool) → broadcasts false (extent_held e) ≡ b → unrepeated (e ∷ []) ≡ (if b then [] else e.len ∷ [])
one-unrepeated e true r = rw r refl
one-unrepeated e false r = rw r refl

-- one more operand that doesn't repeat, and one that does
pub least-more : (es : List Ending) (i n : ℕ) (e : Ending) (least : Option ℕ) → least ≡ least_of (unrepeated (take i es)) → i < length es → e ≡ get_or es i e
    → broadcasts false (extent_held e) ≡ false → n ≡ lesser_of least e.len → Some n ≡ least_of (unrepeated (take (i + 1) es))
least-more es i n e least before h at r is =
    ap Some (is ∙ ap (λ o. lesser_of o e.len) before) ∙ sym (least_of-push (unrepeated (take i es)) e.len)
    ∙ sym (ap (λ xs. least_of (unrepeated xs)) (at-push es i e h at) ∙ ap least_of (unrepeated-push (take i es) e) ∙ ap (λ xs. least_of (unrepeated (take i es) ++ xs)) (one-unrepeated e false r))

pub least-same : (es : List Ending) (i : ℕ) (e : Ending) (least : Option ℕ) → least ≡ least_of (unrepeated (take i es)) → i < length es → e ≡ get_or es i e
    → broadcasts false (extent_held e) ≡ true → least ≡ least_of (unrepeated (take (i + 1) es))
least-same es i e least before h at r =
    before ∙ ap least_of (sym (append-nil (unrepeated (take i es))))
    ∙ sym (ap (λ xs. least_of (unrepeated xs)) (at-push es i e h at) ∙ ap least_of (unrepeated-push (take i es) e) ∙ ap (λ xs. least_of (unrepeated (take i es) ++ xs)) (one-unrepeated e true r))

abbrev one_or : Option ℕ → ℕ
one_or None = 1
one_or (Some n) = n

pub least-all : (ns : List ℕ) → one_or (least_of ns) ≡ least_or 1 ns
least-all [] = refl
least-all (n ∷ ns) = refl

-- no whole operand of another length than 1: the lengths agree
opens-none : (es : List Ending) → first_open es ≡ None → open_lengths (map extent_held es) ≡ []
opens-none [] e = refl
opens-none (x ∷ es) e = go (not (is_some x.fault) && not (x.len == 1)) e (opens-none es)
  where
    go : (b : Bool) → (if b then Some x.len else first_open es) ≡ None → (first_open es ≡ None → open_lengths (map extent_held es) ≡ [])
        → map (λ (e : Extent). e.len) (if b then extent_held x ∷ filter (λ e. not e.ended && not (e.len == 1)) (map extent_held es) else filter (λ e. not e.ended && not (e.len == 1)) (map extent_held es)) ≡ []
    go true e rest = cc
    go false e rest = rest e

and-false : (b : Bool) → (b && false) ≡ false
and-false true = refl
and-false false = refl

outgrows-none : (ns : List ℕ) → list_any (outgrows []) ns ≡ false
outgrows-none [] = refl
outgrows-none (n ∷ ns) = ap (λ b. b || list_any (outgrows []) ns) (and-false (nat_le 2 n)) ∙ outgrows-none ns

pub agree-none : (es : List Ending) → first_open es ≡ None → false ≡ breaks_shape false (map extent_held es)
agree-none es e =
    sym (ap (λ os. not (all_same os) || list_any (outgrows os) (ended_lengths (map extent_held es))) (opens-none es e) ∙ outgrows-none (ended_lengths (map extent_held es)))

-- an operand disagrees with a length where it has another one, or is an ended one that is longer
abbrev longer : ℕ → ℕ → Bool
longer n part = nat_le 2 part && nat_lt n part

or-swap : (a b c : Bool) → (a || (b || c)) ≡ (b || (a || c))
or-swap true true c = refl
or-swap true false c = refl
or-swap false b c = refl

not-and : (a b c : Bool) → (not a || (not b || c)) ≡ (not (a && b) || c)
not-and true b c = refl
not-and false b c = refl

any-disagrees : (n : ℕ) (es : List Ending) → list_any (disagrees n) es ≡ (not (list_all (λ m. m == n) (open_lengths (map extent_held es))) || list_any (longer n) (ended_lengths (map extent_held es)))
any-disagrees n [] = refl
any-disagrees n (x ∷ es) = ap (λ b. disagrees n x || b) (any-disagrees n es) ∙ go (is_some x.fault) (x.len == 1)
  where
    go : (f one : Bool) → ((if f then longer n x.len else not one && not (x.len == n)) || (not (list_all (λ m. m == n) (open_lengths (map extent_held es))) || list_any (longer n) (ended_lengths (map extent_held es))))
        ≡ (not (list_all (λ m. m == n) (map (λ (e : Extent). e.len) (if not f && not one then extent_held x ∷ filter (λ e. not e.ended && not (e.len == 1)) (map extent_held es) else filter (λ e. not e.ended && not (e.len == 1)) (map extent_held es))))
        || list_any (longer n) (map (λ (e : Extent). e.len) (if f then extent_held x ∷ filter (λ e. e.ended) (map extent_held es) else filter (λ e. e.ended) (map extent_held es))))
    go true one = or-swap (longer n x.len) (not (list_all (λ m. m == n) (open_lengths (map extent_held es)))) (list_any (longer n) (ended_lengths (map extent_held es)))
    go false true = refl
    go false false = not-and (x.len == n) (list_all (λ m. m == n) (open_lengths (map extent_held es))) (list_any (longer n) (ended_lengths (map extent_held es)))

-- the first open length is the first of the open lengths
opens-some : (es : List Ending) (n : ℕ) → first_open es ≡ Some n → (ns : List ℕ) × (open_lengths (map extent_held es) ≡ n ∷ ns)
opens-some [] n e = cc
opens-some (x ∷ es) n e = go (not (is_some x.fault) && not (x.len == 1)) e (opens-some es n)
  where
    go : (b : Bool) → (if b then Some x.len else first_open es) ≡ Some n → (first_open es ≡ Some n → (ns : List ℕ) × (open_lengths (map extent_held es) ≡ n ∷ ns))
        → (ns : List ℕ) × (map (λ (e : Extent). e.len) (if b then extent_held x ∷ filter (λ e. not e.ended && not (e.len == 1)) (map extent_held es) else filter (λ e. not e.ended && not (e.len == 1)) (map extent_held es)) ≡ n ∷ ns)
    go true e rest = (open_lengths (map extent_held es), let same : x.len ≡ n = cc in ap (λ m. m ∷ open_lengths (map extent_held es)) same)
    go false e rest = rest e

-- among lengths that are all n, a part outgrows one where it outgrows n
or-idem : (a : Bool) → (a || a) ≡ a
or-idem true = refl
or-idem false = refl

any-same : (n part : ℕ) (ns : List ℕ) → list_all (λ m. m == n) ns ≡ true → list_any (λ m. nat_lt m part) (n ∷ ns) ≡ nat_lt n part
any-same n part [] e = or-nil (nat_lt n part)
  where
    or-nil : (b : Bool) → (b || false) ≡ b
    or-nil true = refl
    or-nil false = refl
any-same n part (m ∷ ns) e = go (m == n) refl e (any-same n part ns)
  where
    go : (b : Bool) → (m == n) ≡ b → (b && list_all (λ m. m == n) ns) ≡ true → (list_all (λ m. m == n) ns ≡ true → list_any (λ m. nat_lt m part) (n ∷ ns) ≡ nat_lt n part)
        → (nat_lt n part || (nat_lt m part || list_any (λ m. nat_lt m part) ns)) ≡ nat_lt n part
    go true is all rest =
        let same : m ≡ n = eqb→eq m n (rw is tt) in
        ap (λ k. nat_lt n part || (nat_lt k part || list_any (λ m. nat_lt m part) ns)) same
        ∙ ap (λ b. nat_lt n part || b) (rest all) ∙ or-idem (nat_lt n part)
    go false is all rest = cc

any-outgrows : (n : ℕ) (ns parts : List ℕ) → list_all (λ m. m == n) ns ≡ true → list_any (outgrows (n ∷ ns)) parts ≡ list_any (longer n) parts
any-outgrows n ns [] e = refl
any-outgrows n ns (p ∷ parts) e =
    ap (λ b. (nat_le 2 p && b) || list_any (outgrows (n ∷ ns)) parts) (any-same n p ns e) ∙ ap (λ b. longer n p || b) (any-outgrows n ns parts e)

decided : (n : ℕ) (ns parts : List ℕ) (b : Bool) → list_all (λ m. m == n) ns ≡ b
    → (not (list_all (λ m. m == n) (n ∷ ns)) || list_any (longer n) parts) ≡ (not (list_all (λ m. m == n) ns) || list_any (outgrows (n ∷ ns)) parts)
decided n ns parts true e =
    let same : (n == n) ≡ true = eq-eqb n n refl in
    rw (same, e) (sym (any-outgrows n ns parts e))
decided n ns parts false e =
    let same : (n == n) ≡ true = eq-eqb n n refl in
    rw (same, e) refl

pub agree-some : (es : List Ending) (n : ℕ) → first_open es ≡ Some n → list_any (disagrees n) es ≡ breaks_shape false (map extent_held es)
agree-some es n e =
    let o = opens-some es n e in
    any-disagrees n es
    ∙ ap (λ os. not (list_all (λ m. m == n) os) || list_any (longer n) (ended_lengths (map extent_held es))) o.1
    ∙ decided n o.0 (ended_lengths (map extent_held es)) (list_all (λ m. m == n) o.0) refl
    ∙ sym (ap (λ os. not (all_same os) || list_any (outgrows os) (ended_lengths (map extent_held es))) o.1)

-- A zip inside a zip gives place to its inputs: both are ended alike.
use Rattle.std.proofs.Common.{◌≡◌, ℕ, zero, suc, Bool, true, false, not, cond, List, [], ◌∷◌, ◌++◌, replicate, refl, sym, ap, ◌∙◌}
use Rattle.std.specs.Prelude.{filter, ◌==◌, ◌&&◌, ◌||◌}
use Rattle.std.specs.List.{list_all, list_any}
use Rattle.std.proofs.Math.Bool.{or-false, or-true}
use Rattle.std.proofs.lemmas.Bool.{eqb-true, eq-eqb}
use Rattle.std.proofs.lemmas.List.{map-append}
use Rattle.std.proofs.lemmas.List.Elements.{filter-append}
use Rattle.std.proofs.lemmas.List.Folds.{list_all-append, list_any-append}
use Rattle.ps_frame.specs.Zip.{Extent, all_same, breaks_shape, broadcasts, ended_lengths, least_or, open_lengths, outgrows, zip_length}
use Rattle.ps_shares.proofs.FlatLength.{both_hold, copies_broadcast, copies_move, ends, least_of_same, lens, moving_is_open, neither, open_is_not_one, zip_extent}

abbrev any : List Extent → Bool
any es = list_any (λ (e : Extent). e.ended) es

any_parts : (xs ys zs : List Extent) → any (xs ++ (ys ++ zs)) ≡ (any xs || (any ys || any zs))
any_parts xs ys zs = list_any-append (λ (e : Extent). e.ended) xs (ys ++ zs) ∙ ap (λ b. any xs || b) (list_any-append (λ (e : Extent). e.ended) ys zs)

open-append : (xs ys : List Extent) → open_lengths (xs ++ ys) ≡ open_lengths xs ++ open_lengths ys
open-append xs ys = ap lens (filter-append (λ e. not e.ended && not (e.len == 1)) xs ys) ∙ map-append (λ (e : Extent). e.len) _ _

open_parts : (xs ys zs : List Extent) → open_lengths (xs ++ (ys ++ zs)) ≡ open_lengths xs ++ (open_lengths ys ++ open_lengths zs)
open_parts xs ys zs = open-append xs (ys ++ zs) ∙ ap (λ ns. open_lengths xs ++ ns) (open-append ys zs)

ended_none : (es : List Extent) → any es ≡ false → ended_lengths es ≡ []
ended_none [] h = refl
ended_none (e ∷ es) h =
    let n = neither e.ended (any es) h in
    ap (λ b. lens (cond b (e ∷ filter (λ (x : Extent). x.ended) es) (filter (λ (x : Extent). x.ended) es))) n.0 ∙ ended_none es n.1

-- where no input is ended, the lengths alone end a zip
pub ends_whole : (es : List Extent) → any es ≡ false → ends es ≡ not (all_same (open_lengths es))
ends_whole es h =
    let o = open_lengths es in
    ap (λ b. b || breaks_shape false es) h ∙ ap (λ ns. not (all_same o) || list_any (outgrows o) ns) (ended_none es h) ∙ or-false (not (all_same o))

ends_any : (es : List Extent) → any es ≡ true → ends es ≡ true
ends_any es h = ap (λ b. b || breaks_shape false es) h

all_hold : (a b : Bool) → a ≡ true → b ≡ true → (a && b) ≡ true
all_hold true true p q = refl
all_hold true false p q = cc
all_hold false b p q = cc

copies_same : (m k : ℕ) → list_all (λ n. n == m) (replicate k m) ≡ true
copies_same m zero = refl
copies_same m (suc k) = all_hold (m == m) _ (eq-eqb m m refl) (copies_same m k)

-- where all numbers are the same, a part's are
same_in_part : (xs ys zs : List ℕ) → all_same (xs ++ (ys ++ zs)) ≡ true → all_same ys ≡ true
same_in_part xs [] zs h = refl
same_in_part [] (m ∷ ms) zs h = (both_hold (list_all (λ n. n == m) ms) (list_all (λ n. n == m) zs) (sym (list_all-append (λ n. n == m) ms zs) ∙ h)).0
same_in_part (x ∷ xs) (m ∷ ms) zs h =
    let test = λ (n : ℕ). n == x in
    let a = both_hold (list_all test xs) (list_all test ((m ∷ ms) ++ zs)) (sym (list_all-append test xs ((m ∷ ms) ++ zs)) ∙ h) in
    let b = both_hold (list_all test (m ∷ ms)) (list_all test zs) (sym (list_all-append test (m ∷ ms) zs) ∙ a.1) in
    let c = both_hold (m == x) (list_all test ms) b.0 in
    let e : x ≡ m = sym (eqb-true m x c.0) in
    ap (λ k. list_all (λ n. n == k) ms) (sym e) ∙ c.1

-- copies of a number stand for numbers that are all that one
copies_test : (m x k : ℕ) (ms : List ℕ) → list_all (λ n. n == m) ms ≡ true → (b : Bool) → (m == x) ≡ b → list_all (λ n. n == x) (m ∷ ms) ≡ list_all (λ n. n == x) (replicate (suc k) m)
copies_test m x k ms h true e =
    let same : m ≡ x = eqb-true m x e in
    let l : list_all (λ n. n == x) ms ≡ true = ap (λ y. list_all (λ n. n == y) ms) (sym same) ∙ h in
    let r : list_all (λ n. n == x) (replicate k m) ≡ true = ap (λ y. list_all (λ n. n == y) (replicate k m)) (sym same) ∙ copies_same m k in
    ap (λ b. (m == x) && b) (l ∙ sym r)
copies_test m x k ms h false e = ap (λ b. b && list_all (λ n. n == x) ms) e ∙ sym (ap (λ b. b && list_all (λ n. n == x) (replicate k m)) e)

same_copies : (m : ℕ) (ms xs ys : List ℕ) (k : ℕ) → list_all (λ n. n == m) ms ≡ true → all_same (xs ++ ((m ∷ ms) ++ ys)) ≡ all_same (xs ++ (replicate (suc k) m ++ ys))
same_copies m ms [] ys k h =
    let test = λ (n : ℕ). n == m in
    list_all-append test ms ys ∙ ap (λ b. b && list_all test ys) (h ∙ sym (copies_same m k)) ∙ sym (list_all-append test (replicate k m) ys)
same_copies m ms (x ∷ xs) ys k h =
    let test = λ (n : ℕ). n == x in
    list_all-append test xs ((m ∷ ms) ++ ys)
    ∙ ap (λ b. list_all test xs && b) (list_all-append test (m ∷ ms) ys ∙ ap (λ b. b && list_all test ys) (copies_test m x k ms h (m == x) refl) ∙ sym (list_all-append test (replicate (suc k) m) ys))
    ∙ sym (list_all-append test xs (replicate (suc k) m ++ ys))

copies_whole : (n : ℕ) (e : Extent) → e.ended ≡ false → any (replicate n e) ≡ false
copies_whole zero e h = refl
copies_whole (suc n) e h = ap (λ b. b || any (replicate n e)) h ∙ copies_whole n e h

-- the open lengths of copies of a whole zip: none where all its inputs broadcast, else its length
open_copies : (es : List Extent) (k : ℕ) (ns : List ℕ) → any es ≡ false → ends es ≡ false → open_lengths es ≡ ns → (xs ys : List ℕ)
    → all_same (xs ++ (open_lengths (replicate (suc k) (zip_extent es)) ++ ys)) ≡ all_same (xs ++ (ns ++ ys))
open_copies es k [] whole fits e xs ys =
    let one : zip_length false es ≡ 1 = ap (least_or 1) (moving_is_open es whole ∙ e) in
    let yes : broadcasts false (zip_extent es) ≡ true = ap (λ b. not b && (zip_length false es == 1)) fits ∙ ap (λ n. n == 1) one in
    let none = sym (moving_is_open (replicate (suc k) (zip_extent es)) (copies_whole (suc k) (zip_extent es) fits)) ∙ copies_broadcast (suc k) (zip_extent es) yes in
    ap (λ ns. all_same (xs ++ (ns ++ ys))) none
open_copies es k (m ∷ ms) whole fits e xs ys =
    let all : list_all (λ n. n == m) ms ≡ true = held (list_all (λ n. n == m) ms) (ap (λ ns. not (all_same ns)) (sym e) ∙ sym (ends_whole es whole) ∙ fits) in
    let length_is : zip_length false es ≡ m = ap (least_or 1) (moving_is_open es whole ∙ e) ∙ least_of_same m ms all in
    let no : broadcasts false (zip_extent es) ≡ false = ap (λ b. not b && (zip_length false es == 1)) fits ∙ ap (λ n. n == 1) length_is ∙ open_is_not_one es m ms e in
    let copies : open_lengths (replicate (suc k) (zip_extent es)) ≡ replicate (suc k) m =
    sym (moving_is_open (replicate (suc k) (zip_extent es)) (copies_whole (suc k) (zip_extent es) fits)) ∙ copies_move (suc k) (zip_extent es) no ∙ ap (replicate (suc k)) length_is in
    ap (λ ns. all_same (xs ++ (ns ++ ys))) copies ∙ sym (same_copies m ms xs ys k all)
  where
    held : (b : Bool) → not b ≡ false → b ≡ true
    held true h = refl
    held false h = cc

differ : true ≡ false → ⊥
differ h = cc

module _ (before inner after : List Extent) (k : ℕ) where
  abbrev copies : List Extent
  copies = replicate (suc k) (zip_extent inner)

  abbrev more : List Extent
  more = before ++ (copies ++ after)

  abbrev flat : List Extent
  flat = before ++ (inner ++ after)

  flat_breaks : (b : Bool) → all_same (open_lengths flat) ≡ b → any inner ≡ false → ends inner ≡ true → not (all_same (open_lengths flat)) ≡ true
  flat_breaks false e whole broken = ap not e
  flat_breaks true e whole broken =
      let part = same_in_part (open_lengths before) (open_lengths inner) (open_lengths after) (ap all_same (sym (open_parts before inner after)) ∙ e) in
      absurd (differ (sym broken ∙ ends_whole inner whole ∙ ap not part))

  ends_by : (x y z w : Bool) → any before ≡ x → any after ≡ y → any inner ≡ z → ends inner ≡ w → ends more ≡ ends flat
  ends_by true y z w p q r e = ends_any more (any_parts before copies after ∙ ap (λ b. b || (any copies || any after)) p) ∙ sym (ends_any flat (any_parts before inner after ∙ ap (λ b. b || (any inner || any after)) p))
  ends_by false true z w p q r e =
      ends_any more (any_parts before copies after ∙ ap (λ b. b || (any copies || any after)) p ∙ ap (λ b. any copies || b) q ∙ or-true (any copies))
      ∙ sym (ends_any flat (any_parts before inner after ∙ ap (λ b. b || (any inner || any after)) p ∙ ap (λ b. any inner || b) q ∙ or-true (any inner)))
  ends_by false false true w p q r e =
      ends_any more (any_parts before copies after ∙ ap (λ b. b || (any copies || any after)) p ∙ ap (λ b. (b || any (replicate k (zip_extent inner))) || any after) (ends_any inner r))
      ∙ sym (ends_any flat (any_parts before inner after ∙ ap (λ b. b || (any inner || any after)) p ∙ ap (λ b. b || any after) r))
  ends_by false false false true p q r e =
      let whole : any flat ≡ false = any_parts before inner after ∙ ap (λ b. b || (any inner || any after)) p ∙ ap (λ b. b || any after) r ∙ q in
      ends_any more (any_parts before copies after ∙ ap (λ b. b || (any copies || any after)) p ∙ ap (λ b. (b || any (replicate k (zip_extent inner))) || any after) e)
      ∙ sym (ends_whole flat whole ∙ flat_breaks (all_same (open_lengths flat)) refl r e)
  ends_by false false false false p q r e =
      let whole : any flat ≡ false = any_parts before inner after ∙ ap (λ b. b || (any inner || any after)) p ∙ ap (λ b. b || any after) r ∙ q in
      let whole_more : any more ≡ false = any_parts before copies after ∙ ap (λ b. b || (any copies || any after)) p ∙ ap (λ b. b || any after) (copies_whole (suc k) (zip_extent inner) e) ∙ q in
      ends_whole more whole_more
      ∙ ap (λ ns. not (all_same ns)) (open_parts before copies after)
      ∙ ap not (open_copies inner k (open_lengths inner) r e refl (open_lengths before) (open_lengths after))
      ∙ ap (λ ns. not (all_same ns)) (sym (open_parts before inner after))
      ∙ sym (ends_whole flat whole)

  pub flat_ends : ends more ≡ ends flat
  flat_ends = ends_by (any before) (any after) (any inner) (ends inner) refl refl refl refl

-- A search that has met nothing, and the looks that it needs.
use Rattle.std.proofs.Common.{◌≡◌, inl, inr, ℕ, zero, suc, ◌+◌, ◌*◌, List, [], ◌∷◌, length, map, replicate, slice_get, refl, sym, ◌∙◌, ap, subst, arith}
use Rattle.std.proofs.lemmas.List.Sums.{sum_by-cons}
use Rattle.std.proofs.lemmas.Option.{slice_get_within}
use Rattle.pu_base.specs.declared.arena.Node.{Node}
use Rattle.ps_plan.specs.Graph.{Path, named_by}
use Rattle.ps_survey.specs.Counts.{names_in}
use Rattle.ps_survey.specs.Search.{AtRest, Ended, IsMarked, IsOrderFrom, looks_left}
use Rattle.ps_survey.specs.declared.search.Mark.{Mark}
use Rattle.ps_survey.specs.declared.search.Mark.TheVariants as mark

map-length : (ns : List Node) → length (map (λ (n : Node). n.0) ns) ≡ length ns
map-length [] = refl
map-length (n ∷ ns) = ap (λ k. suc k) (map-length ns)

all-new : (count n : ℕ) (m : Mark) → IsMarked (replicate count mark.New) n m → mark.New ≡ m
all-new zero n m h = cc
all-new (suc count) zero m h = cc
all-new (suc count) (suc n) m h = all-new count n m h

pub fresh : (next : ℕ → List ℕ) (count : ℕ) → AtRest next [] (replicate count mark.New)
fresh next count =
    record {
      done = λ n h. let e = all-new count n mark.Done h in cc;
      marked = λ n c. absurd (omega (arith, c.1));
      none_open = λ n k h. let e = all-new count n (mark.Open k) h in cc;
      once = λ i j d h l. absurd (omega (arith, l));
      first = λ i n m e c. cc;
    }

pub fresh-is : (next : ℕ → List ℕ) (count : ℕ) (order : List ℕ) (marks : List Mark) → order ≡ [] → marks ≡ replicate count mark.New → AtRest next order marks
fresh-is next count order marks o m = subst (λ xs. AtRest next xs marks) (sym o) (subst (λ ms. AtRest next [] ms) (sym m) (fresh next count))

-- what a first search leaves
pub order-of : (next : ℕ → List ℕ) (count start : ℕ) (order : List ℕ) (marks : List Mark) → length marks ≡ count → Ended next start [] order marks → IsOrderFrom next count start order
order-of next count start order marks size e =
    record {
      has_start = e.reaches;
      reached = λ n c. elim (e.more n c) as (λ _. Path next start n) [ inl h ↦ absurd (omega (arith, h.1)) | inr w ↦ w ];
      within = λ n c. let l = slice_get_within marks n mark.Done (e.rest.marked n c) in omega (arith, l, size);
      once = e.rest.once;
      first = e.rest.first;
    }

module _ {E : Type 0} (f : E → List Node) where
  looks-from : (next : ℕ → List ℕ) (i : ℕ) (es : List E) → ((k : ℕ) → next (i + k) ≡ named_by f (slice_get es k)) → looks_left next i (replicate (length es) mark.New) ≡ 2 * length es + names_in f es
  looks-from next i [] same = refl
  looks-from next i (e ∷ es) same =
      let rest = looks-from next (suc i) es (λ k. let z : suc i + k ≡ i + suc k = omega arith in ap next z ∙ same (suc k)) in
      let z : i + 0 ≡ i = omega arith in
      let own : length (next i) ≡ length (f e) = ap (λ k. length (next k)) (sym z) ∙ ap length (same 0) ∙ map-length (f e) in
      let sum = sum_by-cons (λ e. length (f e)) e es in
      omega (arith, rest, own, sum)

  pub looks-new : (es : List E) → looks_left (λ n. named_by f (slice_get es n)) 0 (replicate (length es) mark.New) ≡ 2 * length es + names_in f es
  looks-new es = looks-from (λ n. named_by f (slice_get es n)) 0 es (λ k. let z : 0 + k ≡ k = omega arith in ap (λ n. named_by f (slice_get es n)) z)

  pub looks-fresh : (es : List E) (count : ℕ) (marks : List Mark) → marks ≡ replicate count mark.New → count ≡ length es → looks_left (λ n. named_by f (slice_get es n)) 0 marks ≡ 2 * length es + names_in f es
  looks-fresh es count marks m c = ap (looks_left (λ n. named_by f (slice_get es n)) 0) (m ∙ ap (λ n. replicate n mark.New) c) ∙ looks-new es

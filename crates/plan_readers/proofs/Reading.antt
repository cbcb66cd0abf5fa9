-- Ports that are read: marks of those that were met, and the ports of each node.
use Rattle.std.proofs.Common.{◌≡◌, ◌≢◌, ℕ, zero, suc, ◌+◌, ◌<◌, ◌≤◌, ◌⊎◌, inl, inr, Bool, true, false, cond, List, [], ◌∷◌, ◌++◌, length, take, get_or, refl, ap, sym, subst, ◌∙◌, arith}
use Rattle.std.specs.Prelude.{map, slice_set, filter as kept, replicate, ◌==◌}
use Rattle.std.specs.List.{count_by}
use Rattle.std.proofs.lemmas.Bool.{eqb-false, eqb-true}
use Rattle.std.proofs.lemmas.List.{get_or-replicate, get_or-set_other, get_or-set_same, length-replicate, length-set, take_all}
use Rattle.std.proofs.lemmas.List.Elements.{filter_more}
use Rattle.std.proofs.lemmas.List.Sums.{count_by_more_no, count_by_more_yes}
use Rattle.plan_readers.specs.Readers.{AreTold, ports_read}

-- a port is marked where it stood once among the first ones, and none stood twice
abbrev pub AreMarked : List ℕ → ℕ → List Bool → Type 0
AreMarked ports k read = (length read ≡ length ports) × ((q : ℕ) → q < length ports → count_by (λ p. p == q) (take k ports) ≡ cond (get_or read q false) 1 0)

pub marks-start : (ports : List ℕ) (size : ℕ) → size ≡ length ports → AreMarked ports 0 (replicate size false)
marks-start ports size is =
    (length-replicate size false ∙ is, λ q h. ap (λ (b : Bool). cond b 1 0) (sym (get_or-replicate size q false false (omega (arith, h, is)))))

unlike : (a b : ℕ) → a ≢ b → a == b ≡ false
unlike a b h = by (a == b) refl
  where
    by : (c : Bool) → a == b ≡ c → c ≡ false
    by true e = absurd (h (eqb-true a b e))
    by false e = refl

alike : (a b : ℕ) → a ≡ b → a == b ≡ true
alike a b h = by (a == b) refl
  where
    by : (c : Bool) → a == b ≡ c → c ≡ true
    by true e = refl
    by false e = absurd (eqb-false a b e h)

module _ (ports : List ℕ) (k : ℕ) (read : List Bool) (l : k < length ports) (marks : AreMarked ports k read) where
  -- a port past the last one
  pub marks-skip : (port : ℕ) → port ≡ get_or ports k 0 → length read ≤ port → AreMarked ports (k + 1) read
  marks-skip port is past =
      let size = marks.0 in (
        marks.0,
        λ q h. count_by_more_no (λ p. p == q) ports k 0 l (unlike (get_or ports k 0) q (λ same. omega (arith, same, is, past, size, h))) ∙ marks.1 q h,
      )

  -- a port that wasn't met yet
  pub marks-set : (port : ℕ) → port ≡ get_or ports k 0 → port < length read → get_or read port false ≡ false → AreMarked ports (k + 1) (slice_set read port true)
  marks-set port is within new = (length-set read port true ∙ marks.0, λ q h. by q h (port == q) refl)
    where
      by : (q : ℕ) → q < length ports → (b : Bool) → port == q ≡ b → count_by (λ p. p == q) (take (k + 1) ports) ≡ cond (get_or (slice_set read port true) q false) 1 0
      by q h true e =
          let same : port ≡ q = eqb-true port q e in
          let none : count_by (λ p. p == q) (take k ports) ≡ 0 = marks.1 q h ∙ ap (λ (b : Bool). cond b 1 0) (ap (λ m. get_or read m false) (sym same) ∙ new) in
          let set : get_or (slice_set read port true) q false ≡ true = ap (λ m. get_or (slice_set read port true) m false) (sym same) ∙ get_or-set_same read port true false within in
          count_by_more_yes (λ p. p == q) ports k 0 l (alike (get_or ports k 0) q (sym is ∙ same)) ∙ ap (λ m. m + 1) none ∙ ap (λ (b : Bool). cond b 1 0) (sym set)
      by q h false e =
          let other : q ≢ port = λ s. eqb-false port q e (sym s) in
          count_by_more_no (λ p. p == q) ports k 0 l (unlike (get_or ports k 0) q (λ s. other (sym (is ∙ s)))) ∙ marks.1 q h
          ∙ ap (λ (b : Bool). cond b 1 0) (sym (get_or-set_other read port q true false other))

  -- a port is marked, if there are so many
  pub marks-next : (port : ℕ) (new : List Bool) → port ≡ get_or ports k 0 → (port < length read → (get_or read port false ≡ false) × (new ≡ slice_set read port true)) → (length read ≤ port → new ≡ read) → AreMarked ports (k + 1) new
  marks-next port new is within past = by (split port (length read))
    where
      split : (a b : ℕ) → (a < b) ⊎ (b ≤ a)
      split zero zero = inr (omega arith)
      split zero (suc b) = inl (omega arith)
      split (suc a) zero = inr (omega arith)
      split (suc a) (suc b) = next (split a b)
        where
          next : (a < b) ⊎ (b ≤ a) → (suc a < suc b) ⊎ (suc b ≤ suc a)
          next (inl h) = inl (omega (arith, h))
          next (inr h) = inr (omega (arith, h))

      by : (port < length read) ⊎ (length read ≤ port) → AreMarked ports (k + 1) new
      by (inl h) = let P : List Bool → Type 0 = λ m. AreMarked ports (k + 1) m in subst P (sym (within h).1) (marks-set port is h (within h).0)
      by (inr h) = let P : List Bool → Type 0 = λ m. AreMarked ports (k + 1) m in subst P (sym (past h)) (marks-skip port is h)

-- all are marked
pub marks-end : (ports : List ℕ) (k : ℕ) (read : List Bool) → AreMarked ports k read → length ports ≤ k → ((i : ℕ) → i < length read → get_or read i false ≡ true) → (port : ℕ) → port < length ports → count_by (λ q. q == port) ports ≡ 1
marks-end ports k read marks all set port h =
    let size = marks.0 in
    ap (count_by (λ q. q == port)) (sym (take_all k ports all)) ∙ marks.1 port h ∙ ap (λ (b : Bool). cond b 1 0) (set port (omega (arith, h, size)))

pub told-start : (inputs : List (ℕ × ℕ)) (nodes : ℕ) (readers : List (List ℕ)) → readers ≡ replicate nodes [] → AreTold (take 0 inputs) nodes readers
told-start inputs nodes readers is =
    let P : List (List ℕ) → Type 0 = λ rs. AreTold (take 0 inputs) nodes rs in
    let none : List ℕ = [] in
    subst P (sym is) (length-replicate nodes none, λ n h. get_or-replicate nodes n none none h)

module _ (inputs : List (ℕ × ℕ)) (k nodes : ℕ) (readers : List (List ℕ)) (l : k < length inputs) (told : AreTold (take k inputs) nodes readers) where
  abbrev d : ℕ × ℕ
  d = (0, 0)

  more : (n : ℕ) → ports_read n (take (k + 1) inputs) ≡ ports_read n (take k inputs) ++ map (λ (i : ℕ × ℕ). i.1) (cond ((get_or inputs k d).0 == n) (get_or inputs k d ∷ []) [])
  more n = ap (map (λ (i : ℕ × ℕ). i.1)) (filter_more (λ (i : ℕ × ℕ). i.0 == n) inputs k d l) ∙ map-both (kept (λ (i : ℕ × ℕ). i.0 == n) (take k inputs)) (cond ((get_or inputs k d).0 == n) (get_or inputs k d ∷ []) [])
    where
      map-both : (xs ys : List (ℕ × ℕ)) → map (λ (i : ℕ × ℕ). i.1) (xs ++ ys) ≡ map (λ (i : ℕ × ℕ). i.1) xs ++ map (λ (i : ℕ × ℕ). i.1) ys
      map-both [] ys = refl
      map-both (x ∷ xs) ys = ap (λ zs. x.1 ∷ zs) (map-both xs ys)

  none : List ℕ → (xs : List ℕ) → xs ++ [] ≡ xs
  none e [] = refl
  none e (x ∷ xs) = ap (λ zs. x ∷ zs) (none e xs)

  stays : (n : ℕ) → (get_or inputs k d).0 == n ≡ false → ports_read n (take (k + 1) inputs) ≡ ports_read n (take k inputs)
  stays n e = more n ∙ ap (λ (b : Bool). ports_read n (take k inputs) ++ map (λ (i : ℕ × ℕ). i.1) (cond b (get_or inputs k d ∷ []) [])) e ∙ none [] (ports_read n (take k inputs))

  -- an input from a node that isn't there
  pub told-skip : (node port : ℕ) → (node, port) ≡ get_or inputs k d → length readers ≤ node → AreTold (take (k + 1) inputs) nodes readers
  told-skip node port is past =
      let size = told.0 in
      let first : node ≡ (get_or inputs k d).0 = ap (λ (i : ℕ × ℕ). i.0) is in (
        told.0,
        λ n h. told.1 n h ∙ sym (stays n (unlike (get_or inputs k d).0 n (λ s. omega (arith, s, first, past, size, h)))),
      )

  -- an input from one that is
  pub told-next : (node port : ℕ) (new : List (List ℕ)) → (node, port) ≡ get_or inputs k d → node < length readers → new ≡ slice_set readers node (get_or readers node [] ++ port ∷ []) → AreTold (take (k + 1) inputs) nodes new
  told-next node port new is within set =
      let P : List (List ℕ) → Type 0 = λ rs. AreTold (take (k + 1) inputs) nodes rs in
      subst P (sym set) (length-set readers node (get_or readers node [] ++ port ∷ []) ∙ told.0, λ n h. by n h (node == n) refl)
    where
      by : (n : ℕ) → n < nodes → (b : Bool) → node == n ≡ b → get_or (slice_set readers node (get_or readers node [] ++ port ∷ [])) n [] ≡ ports_read n (take (k + 1) inputs)
      by n h true e =
          let same : node ≡ n = eqb-true node n e in
          let here : (get_or inputs k d).0 == n ≡ true = alike (get_or inputs k d).0 n (sym (ap (λ (i : ℕ × ℕ). i.0) is) ∙ same) in
          let grown : ports_read n (take (k + 1) inputs) ≡ ports_read n (take k inputs) ++ port ∷ [] =
          more n ∙ ap (λ (b : Bool). ports_read n (take k inputs) ++ map (λ (i : ℕ × ℕ). i.1) (cond b (get_or inputs k d ∷ []) [])) here ∙ ap (λ (i : ℕ × ℕ). ports_read n (take k inputs) ++ i.1 ∷ []) (sym is) in
          ap (λ m. get_or (slice_set readers node (get_or readers node [] ++ port ∷ [])) m []) (sym same) ∙ get_or-set_same readers node (get_or readers node [] ++ port ∷ []) [] within
          ∙ ap (λ m. get_or readers m [] ++ port ∷ []) same ∙ ap (λ (ps : List ℕ). ps ++ port ∷ []) (told.1 n h) ∙ sym grown
      by n h false e =
          let other : n ≢ node = λ s. eqb-false node n e (sym s) in
          get_or-set_other readers node n (get_or readers node [] ++ port ∷ []) [] other ∙ told.1 n h ∙ sym (stays n (unlike (get_or inputs k d).0 n (λ s. other (sym (ap (λ (i : ℕ × ℕ). i.0) is ∙ s)))))

pub told-end : (inputs : List (ℕ × ℕ)) (k nodes : ℕ) (readers : List (List ℕ)) → length inputs ≤ k → AreTold (take k inputs) nodes readers → AreTold inputs nodes readers
told-end inputs k nodes readers all told = let P : List (ℕ × ℕ) → Type 0 = λ is. AreTold is nodes readers in subst P (take_all k inputs all) told

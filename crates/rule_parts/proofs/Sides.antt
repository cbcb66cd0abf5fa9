-- The sides of a join by keys: what it gives of each, and its names, over streams that show more.
use Rattle.std.proofs.Common.{◌≡◌, ◌⊎◌, inl, inr, ◌+◌, ◌≤◌, Bool, true, false, not, cond, List, [], ◌∷◌, ◌++◌, length, Some, None, refl, sym, ap, subst, ◌∙◌, arith}
use Rattle.std.specs.Prelude.{◌||◌, map, if◌then◌else◌, ⊤}
use Rattle.std.specs.Cmp.Lexicographic.{bytes_decides}
use Rattle.std.specs.List.{AllByRecursion}
use Rattle.std.specs.Str.{bytes_eq}
use Rattle.std.proofs.lemmas.Bool.{or_cases}
use Rattle.ps_frame.specs.Refusals.{refuses_pair}
use Rattle.ps_frame.specs.Tables.{Fields, field_kind}
use Rattle.ps_frame.specs.Trees.{Tree}
use Rattle.ps_frame.specs.Typing.{kind_over}
use Rattle.ps_frame.specs.Values.{same_kind}
use Rattle.ps_frame.specs.declared.value.DataType.{DataType}
use Rattle.ps_meaning.proofs.Begins.{or-left, or-right}
use Rattle.ps_meaning.specs.Joins.{goes_by_left}
use Rattle.ps_meaning.specs.Schemas.{bare_names, is_among, left_part, names_of, right_part, without}
use Rattle.ps_meaning.specs.StepRefusals.{pairs_differ}
use Rattle.ps_meaning.specs.Steps.{JoinStep, Name, Named}
use Rattle.ps_meaning.specs.declared.options.JoinType.{JoinType}
use Rattle.ps_meaning.specs.declared.options.JoinType.TheVariants as how
use Rattle.ps_rules.specs.Names.{IsKnown, Names}
use Rattle.ps_shares.specs.Leaves.{put_back, stands_for}
use Rattle.ps_shares.proofs.Members.{Has}
use Rattle.name_rules.proofs.Times.{times}
use Rattle.rule_parts.proofs.Picks.{same_self}

-- a side, without the fields of some names where these are left out
abbrev pub side : Bool → List Name → Fields → Fields
side c ns s = if c then without ns s else s

abbrev pub drops_left : JoinType → Bool
drops_left how.Right = true
drops_left _ = false

abbrev pub drops_right : JoinType → Bool
drops_right how.Inner = true
drops_right how.Left = true
drops_right _ = false

pub left_is : (h : JoinType) (o : JoinStep) (s : Fields) → left_part h o s ≡ side (drops_left h) (bare_names o.left_on) s
left_is how.Inner o s = refl
left_is how.Left o s = refl
left_is how.Right o s = refl
left_is how.Full o s = refl
left_is how.Semi o s = refl
left_is how.Anti o s = refl
left_is how.Cross o s = refl

pub right_is : (h : JoinType) → goes_by_left h ≡ true → (o : JoinStep) (s : Fields) → right_part h o s ≡ side (drops_right h) (bare_names o.right_on) s
right_is how.Inner q o s = refl
right_is how.Left q o s = refl
right_is how.Right q o s = refl
right_is how.Full q o s = refl
right_is how.Semi q o s = cc
right_is how.Anti q o s = cc
right_is how.Cross q o s = cc

-- fields that are found by their names stand there
pub kind_has : (n : Name) (k : DataType) (s : Fields) → field_kind n s ≡ Some k → Has s (n, k)
kind_has n k [] q = let w : None ≡ Some k = q in cc
kind_has n k (x ∷ s) q = by (bytes_eq n x.0) refl q (kind_has n k s)
  where
    by : (b : Bool) → bytes_eq n x.0 ≡ b → cond b (Some x.1) (field_kind n s) ≡ Some k → (field_kind n s ≡ Some k → Has s (n, k)) → Has (x ∷ s) (n, k)
    by true p q more =
        let name = (bytes_decides n x.0).0 p in
        let w : Some x.1 ≡ Some k = q in
        let is : x.1 ≡ k = cc in
        inl (λ i. (sym name i, is i))
    by false p q more = inr (more q)

has_name_in : (s : Fields) (x : Name × DataType) → Has s x → is_among x.0 (names_of s) ≡ true
has_name_in [] x h = absurd h
has_name_in (y ∷ s) x (inl e) = or-left (bytes_eq x.0 y.0) (is_among x.0 (names_of s)) ((bytes_decides x.0 y.0).1 (ap (λ (f : Name × DataType). f.0) (sym e)))
has_name_in (y ∷ s) x (inr h) = or-right (bytes_eq x.0 y.0) (is_among x.0 (names_of s)) (has_name_in s x h)

-- without some names
without_has : (ns : List Name) (s : Fields) (x : Name × DataType) → Has s x → is_among x.0 ns ≡ false → Has (without ns s) x
without_has ns [] x h q = absurd h
without_has ns (y ∷ s) x h q = by (is_among y.0 ns) refl h (without_has ns s x)
  where
    by : (b : Bool) → is_among y.0 ns ≡ b → (y ≡ x) ⊎ Has s x → (Has s x → is_among x.0 ns ≡ false → Has (without ns s) x) → Has (cond (not b) (y ∷ without ns s) (without ns s)) x
    by true p (inl e) more = let w : true ≡ false = sym p ∙ ap (λ (f : Name × DataType). is_among f.0 ns) e ∙ q in cc
    by true p (inr h) more = more h q
    by false p (inl e) more = inl e
    by false p (inr h) more = inr (more h q)

without_from : (ns : List Name) (s : Fields) (x : Name × DataType) → Has (without ns s) x → Has s x × (is_among x.0 ns ≡ false)
without_from ns [] x h = absurd h
without_from ns (y ∷ s) x h = by (is_among y.0 ns) refl h (without_from ns s x)
  where
    by : (b : Bool) → is_among y.0 ns ≡ b → Has (cond (not b) (y ∷ without ns s) (without ns s)) x → (Has (without ns s) x → Has s x × (is_among x.0 ns ≡ false)) → Has (y ∷ s) x × (is_among x.0 ns ≡ false)
    by true p h more = let r = more h in (inr r.0, r.1)
    by false p (inl e) more = (inl e, ap (λ (f : Name × DataType). is_among f.0 ns) (sym e) ∙ p)
    by false p (inr h) more = let r = more h in (inr r.0, r.1)

pub without_in : (ns : List Name) (s : Fields) (n : Name) → is_among n (names_of (without ns s)) ≡ true → (is_among n (names_of s) ≡ true) × (is_among n ns ≡ false)
without_in ns [] n h = cc
without_in ns (y ∷ s) n h = by (is_among y.0 ns) refl h (without_in ns s n)
  where
    later : (is_among n (names_of s) ≡ true) × (is_among n ns ≡ false) → (is_among n (names_of (y ∷ s)) ≡ true) × (is_among n ns ≡ false)
    later r = (or-right (bytes_eq n y.0) (is_among n (names_of s)) r.0, r.1)

    by : (b : Bool) → is_among y.0 ns ≡ b → is_among n (names_of (cond (not b) (y ∷ without ns s) (without ns s))) ≡ true → (is_among n (names_of (without ns s)) ≡ true → (is_among n (names_of s) ≡ true) × (is_among n ns ≡ false)) → (is_among n (names_of (y ∷ s)) ≡ true) × (is_among n ns ≡ false)
    by true p h more = later (more h)
    by false p h more =
        elim (or_cases (bytes_eq n y.0) (is_among n (names_of (without ns s))) h) [
          | inl k ↦ (or-left (bytes_eq n y.0) (is_among n (names_of s)) k, ap (λ m. is_among m ns) ((bytes_decides n y.0).0 k) ∙ p)
          | inr k ↦ later (more k)
        ]

pub without_there : (ns : List Name) (s : Fields) (n : Name) → is_among n (names_of s) ≡ true → is_among n ns ≡ false → is_among n (names_of (without ns s)) ≡ true
without_there ns [] n h q = cc
without_there ns (y ∷ s) n h q = by (is_among y.0 ns) refl (or_cases (bytes_eq n y.0) (is_among n (names_of s)) h) (without_there ns s n)
  where
    by : (b : Bool) → is_among y.0 ns ≡ b → (bytes_eq n y.0 ≡ true) ⊎ (is_among n (names_of s) ≡ true) → (is_among n (names_of s) ≡ true → is_among n ns ≡ false → is_among n (names_of (without ns s)) ≡ true) → is_among n (names_of (cond (not b) (y ∷ without ns s) (without ns s))) ≡ true
    by true p (inl k) more = let w : true ≡ false = sym p ∙ ap (λ m. is_among m ns) (sym ((bytes_decides n y.0).0 k)) ∙ q in cc
    by true p (inr k) more = more k q
    by false p (inl k) more = or-left (bytes_eq n y.0) (is_among n (names_of (without ns s))) k
    by false p (inr k) more = or-right (bytes_eq n y.0) (is_among n (names_of (without ns s))) (more k q)

without_few : (ns : List Name) (s : Fields) (n : Name) → times n (names_of (without ns s)) ≤ times n (names_of s)
without_few ns [] n = omega arith
without_few ns (y ∷ s) n = by (is_among y.0 ns) (without_few ns s n)
  where
    by : (b : Bool) → times n (names_of (without ns s)) ≤ times n (names_of s) → times n (names_of (cond (not b) (y ∷ without ns s) (without ns s))) ≤ cond (bytes_eq n y.0) 1 0 + times n (names_of s)
    by true le = omega arith
    by false le = omega arith

pub narrow_in : (c : Bool) (ns : List Name) (s : Fields) (n : Name) → is_among n (names_of (side c ns s)) ≡ true → is_among n (names_of s) ≡ true
narrow_in false ns s n q = q
narrow_in true ns s n q = (without_in ns s n q).0

-- keys that are bare columns
bare_first : (x : Tree) (xs : List Tree) (n : Name) → is_among n (bare_names (x ∷ xs)) ≡ true → (x ≡ Tree.column n) ⊎ (is_among n (bare_names xs) ≡ true)
bare_first (Tree.column m) xs n h = elim (or_cases (bytes_eq n m) (is_among n (bare_names xs)) h) [ inl k ↦ inl (ap Tree.column (sym ((bytes_decides n m).0 k))) | inr k ↦ inr k ]
bare_first _ xs n h = inr h

bare_here : (x : Tree) (xs : List Tree) (n : Name) → x ≡ Tree.column n → is_among n (bare_names (x ∷ xs)) ≡ true
bare_here x xs n e = subst (λ (y : Tree). is_among n (bare_names (y ∷ xs)) ≡ true) (sym e) (or-left (bytes_eq n n) (is_among n (bare_names xs)) (same_self n))

bare_later : (x : Tree) (xs : List Tree) (n : Name) → is_among n (bare_names xs) ≡ true → is_among n (bare_names (x ∷ xs)) ≡ true
bare_later (Tree.column m) xs n h = or-right (bytes_eq n m) (is_among n (bare_names xs)) h
bare_later _ xs n h = h

-- where one list has a bare column the other has it
abbrev pub Carries : (Name → Type 0) → List Tree → List Tree → Type 0
Carries P [] [] = ⊤
Carries P (e ∷ es) (x ∷ xs) = ((n : Name) → P n → e ≡ Tree.column n → x ≡ Tree.column n) × Carries P es xs
Carries P _ _ = ⊥

pub carried_bare : (P : Name → Type 0) (es xs : List Tree) (n : Name) → Carries P es xs → P n → is_among n (bare_names es) ≡ true → is_among n (bare_names xs) ≡ true
carried_bare P [] xs n h p q = cc
carried_bare P (e ∷ es) [] n h p q = absurd h
carried_bare P (e ∷ es) (x ∷ xs) n h p q =
    elim (bare_first e es n q) [
      | inl k ↦ bare_here x xs n (h.0 n p k)
      | inr k ↦ bare_later x xs n (carried_bare P es xs n h.1 p k)
    ]

-- What a join gives of a side whose stream shows more than the input: known names are those of the input, and the others are new.
pub record IsSide (c : Bool) (names : Names) (bare wide : List Name) (f z : Fields) : Type 0 where
  pub own : AllByRecursion (λ (x : Name × DataType). field_kind x.0 z ≡ Some x.1) f
  pub known : (n : Name) → is_among n (names_of f) ≡ true → IsKnown names n
  pub old : (n : Name) → is_among n (names_of z) ≡ true → IsKnown names n → is_among n (names_of f) ≡ true
  pub kept : (n : Name) → IsKnown names n → is_among n bare ≡ true → is_among n wide ≡ true
  pub back : (n : Name) → IsKnown names n → is_among n wide ≡ true → is_among n bare ≡ true
  pub once : (n : Name) → times n (names_of z) ≤ 1

module _ (c : Bool) (names : Names) (bare wide : List Name) (f z : Fields) (h : IsSide c names bare wide f z) where
  not_wide : (n : Name) → IsKnown names n → is_among n bare ≡ false → is_among n wide ≡ false
  not_wide n k q = by (is_among n wide) refl
    where
      by : (b : Bool) → is_among n wide ≡ b → is_among n wide ≡ false
      by false p = p
      by true p = let w : true ≡ false = sym (h.back n k p) ∙ q in cc

  not_bare : (n : Name) → IsKnown names n → is_among n wide ≡ false → is_among n bare ≡ false
  not_bare n k q = by (is_among n bare) refl
    where
      by : (b : Bool) → is_among n bare ≡ b → is_among n bare ≡ false
      by false p = p
      by true p = let w : true ≡ false = sym (h.kept n k p) ∙ q in cc

  -- each field of the side is one of the wider side
  side_has : (x : Name × DataType) → Has f x → field_kind x.0 z ≡ Some x.1 → Has (side c bare f) x → Has (side c wide z) x
  side_has x here kind = by c
    where
      by : (b : Bool) → Has (side b bare f) x → Has (side b wide z) x
      by false k = kind_has x.0 x.1 z kind
      by true k = without_has wide z x (kind_has x.0 x.1 z kind) (not_wide x.0 (h.known x.0 (has_name_in f x here)) (without_from bare f x k).1)

  each_has : (g : Fields) → AllByRecursion (λ (x : Name × DataType). field_kind x.0 z ≡ Some x.1) g → (x : Name × DataType) → Has g x → field_kind x.0 z ≡ Some x.1
  each_has [] own x k = absurd k
  each_has (y ∷ g) own x (inl e) = subst (λ (w : Name × DataType). field_kind w.0 z ≡ Some w.1) e own.0
  each_has (y ∷ g) own x (inr k) = each_has g own.1 x k

  side_from : (x : Name × DataType) → Has (side c bare f) x → Has f x
  side_from x = by c
    where
      by : (b : Bool) → Has (side b bare f) x → Has f x
      by false k = k
      by true k = (without_from bare f x k).0

  pub all_have : (x : Name × DataType) → Has (side c bare f) x → Has (side c wide z) x
  all_have x k = let here = side_from x k in side_has x here (each_has f h.own x here) k

  -- a known name of the wider side is one of the side
  pub side_old : (n : Name) → is_among n (names_of (side c wide z)) ≡ true → IsKnown names n → is_among n (names_of (side c bare f)) ≡ true
  side_old n q k = by c q
    where
      by : (b : Bool) → is_among n (names_of (side b wide z)) ≡ true → is_among n (names_of (side b bare f)) ≡ true
      by false q = h.old n q k
      by true q = let r = without_in wide z n q in without_there bare f n (h.old n r.0 k) (not_bare n k r.1)

  pub side_in : (n : Name) → is_among n (names_of (side c wide z)) ≡ true → is_among n (names_of z) ≡ true
  side_in n q = by c q
    where
      by : (b : Bool) → is_among n (names_of (side b wide z)) ≡ true → is_among n (names_of z) ≡ true
      by false q = q
      by true q = (without_in wide z n q).0

  pub side_once : (n : Name) → times n (names_of (side c wide z)) ≤ 1
  side_once n = let o = h.once n in by c o
    where
      by : (b : Bool) → times n (names_of z) ≤ 1 → times n (names_of (side b wide z)) ≤ 1
      by false o = o
      by true o = let le = without_few wide z n in omega arith

  -- a name of the side is one of the wider side
  pub side_new : (n : Name) → is_among n (names_of (side c bare f)) ≡ true → is_among n (names_of (side c wide z)) ≡ true
  side_new n q = named_of (side c bare f) n q (λ x k e. subst (λ m. is_among m (names_of (side c wide z)) ≡ true) e (has_name_in (side c wide z) x (all_have x k)))
    where
      named_of : (s : Fields) (n : Name) → is_among n (names_of s) ≡ true → ((x : Name × DataType) → Has s x → x.0 ≡ n → is_among n (names_of (side c wide z)) ≡ true) → is_among n (names_of (side c wide z)) ≡ true
      named_of [] n q g = cc
      named_of (y ∷ s) n q g =
          elim (or_cases (bytes_eq n y.0) (is_among n (names_of s)) q) [
            | inl k ↦ g y (inl refl) (sym ((bytes_decides n y.0).0 k))
            | inr k ↦ named_of s n k (λ x k e. g x (inr k) e)
          ]

-- what is answered goes back to what was asked: known names are no fresh ones
stands_none : (names : Names) (Q : Named → Type 0) (ms : List Named) (n : Name) → AllByRecursion (λ (m : Named). (IsKnown names m.0 → ⊥) × Q m) ms → IsKnown names n → stands_for ms n ≡ Tree.column n
stands_none names Q [] n all k = refl
stands_none names Q (m ∷ ms) n all k = by (bytes_eq m.0 n) refl (stands_none names Q ms n all.1 k)
  where
    by : (b : Bool) → bytes_eq m.0 n ≡ b → stands_for ms n ≡ Tree.column n → cond b m.1 (stands_for ms n) ≡ Tree.column n
    by true q r = absurd (all.0.0 (subst (IsKnown names) (sym ((bytes_decides m.0 n).0 q)) k))
    by false q r = r

pub goes_back : (names : Names) (Q : Named → Type 0) (ms : List Named) (xs es : List Tree) → AllByRecursion (λ (m : Named). (IsKnown names m.0 → ⊥) × Q m) ms → map (put_back ms) xs ≡ es → Carries (IsKnown names) xs es
goes_back names Q ms [] [] all e = tt
goes_back names Q ms [] (y ∷ es) all e = let w : [] ≡ y ∷ es = e in cc
goes_back names Q ms (x ∷ xs) [] all e = let w : put_back ms x ∷ map (put_back ms) xs ≡ [] = e in cc
goes_back names Q ms (x ∷ xs) (y ∷ es) all e =
    let w : put_back ms x ∷ map (put_back ms) xs ≡ y ∷ es = e in
    let p : put_back ms x ≡ y = cc in
    let q : map (put_back ms) xs ≡ es = cc in
    ((λ n k is. sym p ∙ ap (put_back ms) is ∙ stands_none names Q ms n all k), goes_back names Q ms xs es all q)

pub carries_first : (P : Name → Type 0) (xs es ys zs : List Tree) → length xs ≡ length es → Carries P (xs ++ ys) (es ++ zs) → Carries P xs es
carries_first P [] [] ys zs l h = tt
carries_first P [] (e ∷ es) ys zs l h = absurd (omega arith)
carries_first P (x ∷ xs) [] ys zs l h = absurd (omega arith)
carries_first P (x ∷ xs) (e ∷ es) ys zs l h = (h.0, carries_first P xs es ys zs (omega arith) h.1)

-- keys that have the kinds of others are paired alike
pub same_pairs : (l z r t : Fields) (us bs cs ds : List Tree) → map (kind_over l) us ≡ map (kind_over z) cs → map (kind_over r) bs ≡ map (kind_over t) ds → pairs_differ l r us bs ≡ pairs_differ z t cs ds
same_pairs l z r t [] bs [] ds p q = refl
same_pairs l z r t [] bs (c ∷ cs) ds p q = let w : [] ≡ kind_over z c ∷ map (kind_over z) cs = p in cc
same_pairs l z r t (a ∷ us) bs [] ds p q = let w : kind_over l a ∷ map (kind_over l) us ≡ [] = p in cc
same_pairs l z r t (a ∷ us) [] (c ∷ cs) [] p q = refl
same_pairs l z r t (a ∷ us) [] (c ∷ cs) (d ∷ ds) p q = let w : [] ≡ kind_over t d ∷ map (kind_over t) ds = q in cc
same_pairs l z r t (a ∷ us) (b ∷ bs) (c ∷ cs) [] p q = let w : kind_over r b ∷ map (kind_over r) bs ≡ [] = q in cc
same_pairs l z r t (a ∷ us) (b ∷ bs) (c ∷ cs) (d ∷ ds) p q =
    let w : kind_over l a ∷ map (kind_over l) us ≡ kind_over z c ∷ map (kind_over z) cs = p in
    let v : kind_over r b ∷ map (kind_over r) bs ≡ kind_over t d ∷ map (kind_over t) ds = q in
    let x : kind_over l a ≡ kind_over z c = cc in
    let y : kind_over r b ≡ kind_over t d = cc in
    let more = same_pairs l z r t us bs cs ds (let u : map (kind_over l) us ≡ map (kind_over z) cs = cc in u) (let u : map (kind_over r) bs ≡ map (kind_over t) ds = cc in u) in
    λ i. refuses_pair same_kind (x i) (y i) || more i

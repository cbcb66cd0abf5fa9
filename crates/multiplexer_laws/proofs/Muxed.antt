-- The nodes once multiplexers are there: each is one that stood before, or the multiplexer of one.
use Rattle.std.proofs.Common.{◌≡◌, ◌≢◌, ◌⊎◌, inl, inr, ℕ, zero, suc, ◌+◌, ◌-◌, ◌<◌, ◌≤◌, Bool, true, false, get_or, List, [], ◌∷◌, ◌++◌, length, map, Option, Some, None, refl, sym, ap, subst, ◌∙◌, arith}
use Rattle.std.proofs.lemmas.List.{length-append, length-map}
use Rattle.std.proofs.lemmas.Bool.{le-ltb, lt-ltb, ltb-false, ltb-true}
use Rattle.std.specs.Prelude.{flat_map, if◌then◌else◌, nat_lt, unwrap_or}
use Rattle.std.specs.List.{AllByRecursion}
use Rattle.ps_multiplexers.proofs.Apart.{rewired-other, walk-apart}
use Rattle.multiplexer_laws.proofs.Counting.{map_stands, stands_flat, stands_map}
use Rattle.ps_multiplexers.proofs.Keeping.{AllBelow, get-right, node-left, number-place, rewired-length}
use Rattle.multiplexer_laws.proofs.Leaving.{Reached, onward, start}
use Rattle.multiplexer_laws.proofs.Members.{Apart, Stands, either, front_or_more, got_stands, no_stand, not_both, stands_here, stands_more}
use Rattle.multiplexer_laws.proofs.Numbered.{again_apart, again_read, number_at, numbers_through, through}
use Rattle.multiplexer_laws.proofs.Placed.{at_place}
use Rattle.multiplexer_laws.proofs.Taking.{reached_walk, walk_reached}
use Rattle.ps_multiplexers.specs.Multiplexers.{changed, inputs_through, multiplexer_number, multiplexer_of, port_or_stream, rewired, shared, times, walk_of, with_inputs, with_multiplexers}
use Rattle.ps_meaning.specs.Shape.{PhysicalNode, Shape}
use Rattle.ps_phys.specs.Walks.{Stream, is_one_of, node_at, node_or_none, numbers_of, numbers_read}

-- the node reads first ports of nodes before this number
abbrev pub ReadsBefore : ℕ → PhysicalNode → Type 0
ReadsBefore n p = AllByRecursion (λ (i : Stream). (i.0 < n) × (i.1 ≡ 0)) p.inputs

-- a node that reads is there
reads_within : (nodes : Shape) (n m : ℕ) → Stands m (numbers_read nodes n) → n < length nodes
reads_within [] n m h = cc
reads_within (p ∷ nodes) zero m h = omega arith
reads_within (p ∷ nodes) (suc n) m h = let l = reads_within nodes n m h in omega (arith, l)

stands_below : (n m : ℕ) (is : List Stream) → AllByRecursion (λ (i : Stream). (i.0 < n) × (i.1 ≡ 0)) is → Stands m (numbers_of is) → m < n
stands_below n m [] a h = cc
stands_below n m (i ∷ is) a h = by (front_or_more m i.0 (numbers_of is) h) (λ k. stands_below n m is a.1 k)
  where
    by : (i.0 ≡ m) ⊎ Stands m (numbers_of is) → (Stands m (numbers_of is) → m < n) → m < n
    by (inl e) rest = let P : ℕ → Type 0 = λ x. x < n in subst P e a.0.0
    by (inr k) rest = rest k

pub all_below : (k : ℕ) (ns : List ℕ) → ((m : ℕ) → Stands m ns → m < k) → AllBelow k ns
all_below k [] h = tt
all_below k (n ∷ ns) h = (h n (stands_here n n ns refl), all_below k ns (λ m e. h m (stands_more m n ns e)))

-- a node that isn't the one that is changed
changed_other : (g : PhysicalNode → PhysicalNode) (nodes : Shape) (n m : ℕ) → n ≢ m → node_at (changed n g nodes) m ≡ node_at nodes m
changed_other g [] n m other = refl
changed_other g (p ∷ nodes) zero zero other = absurd (other refl)
changed_other g (p ∷ nodes) zero (suc m) other = refl
changed_other g (p ∷ nodes) (suc n) zero other = refl
changed_other g (p ∷ nodes) (suc n) (suc m) other = changed_other g nodes n m (λ e. other (ap (λ x. suc x) e))

changed_here : (g : PhysicalNode → PhysicalNode) (nodes : Shape) (n : ℕ) → n < length nodes → node_at (changed n g nodes) n ≡ g (node_at nodes n)
changed_here g [] n h = absurd (omega (arith, h))
changed_here g (p ∷ nodes) zero h = refl
changed_here g (p ∷ nodes) (suc n) h = changed_here g nodes n (omega (arith, h))

changed_length : (g : PhysicalNode → PhysicalNode) (nodes : Shape) (n : ℕ) → length (changed n g nodes) ≡ length nodes
changed_length g [] n = refl
changed_length g (p ∷ nodes) zero = refl
changed_length g (p ∷ nodes) (suc n) = ap (λ m. suc m) (changed_length g nodes n)

-- a node of the walk reads through the multiplexers, after what was read before it
rewired_at : (number : ℕ → Option ℕ) (ns before : List ℕ) (nodes : Shape) (n : ℕ) → Apart ns → Stands n ns → n < length nodes
    → (b : List ℕ) × (node_at (rewired number before ns nodes) n ≡ with_inputs (inputs_through number b (node_at nodes n).inputs) (node_at nodes n))
rewired_at number [] before nodes n a h low = cc
rewired_at number (x ∷ ns) before nodes n a h low =
    let inputs = (node_at nodes x).inputs in
    let next = changed x (with_inputs (inputs_through number before inputs)) nodes in
    by (either (is_one_of n ns)) (λ k. rewired_at number ns (before ++ numbers_of inputs) next n a.1 k (let e = changed_length (with_inputs (inputs_through number before inputs)) nodes x in omega (arith, low, e)))
  where
    inputs : List Stream
    inputs = (node_at nodes x).inputs

    g : PhysicalNode → PhysicalNode
    g = with_inputs (inputs_through number before (node_at nodes x).inputs)

    after : Shape
    after = rewired number (before ++ numbers_of (node_at nodes x).inputs) ns (changed x (with_inputs (inputs_through number before (node_at nodes x).inputs)) nodes)

    first : x ≡ n → is_one_of n ns ≡ false → (b : List ℕ) × (node_at (rewired number (before ++ numbers_of (node_at nodes x).inputs) ns (changed x (with_inputs (inputs_through number before (node_at nodes x).inputs)) nodes)) n ≡ with_inputs (inputs_through number b (node_at nodes n).inputs) (node_at nodes n))
    first is f =
        let P : ℕ → Type 0 = λ y. node_at (rewired number (before ++ numbers_of (node_at nodes x).inputs) ns (changed x (with_inputs (inputs_through number before (node_at nodes x).inputs)) nodes)) y ≡ with_inputs (inputs_through number before (node_at nodes y).inputs) (node_at nodes y) in
        let Q : ℕ → Type 0 = λ y. y < length nodes in
        let R : ℕ → Type 0 = λ y. is_one_of y ns ≡ false in (
          before,
          subst P is (rewired-other number ns (before ++ numbers_of (node_at nodes x).inputs) (changed x (with_inputs (inputs_through number before (node_at nodes x).inputs)) nodes) x (subst R (sym is) f)
              ∙ changed_here (with_inputs (inputs_through number before (node_at nodes x).inputs)) nodes x (subst Q (sym is) low)),
        )

    old : is_one_of n ns ≡ true → x ≢ n
    old e is = let P : ℕ → Type 0 = λ y. Stands y ns in not_both (is_one_of x ns) (subst P (sym is) e) a.0

    which : (x ≡ n) ⊎ Stands n ns → is_one_of n ns ≡ false → x ≡ n
    which (inl is) f = is
    which (inr e) f = absurd (not_both (is_one_of n ns) e f)

    by : (is_one_of n ns ≡ true) ⊎ (is_one_of n ns ≡ false)
        → (Stands n ns → (b : List ℕ) × (node_at (rewired number (before ++ numbers_of (node_at nodes x).inputs) ns (changed x (with_inputs (inputs_through number before (node_at nodes x).inputs)) nodes)) n ≡ with_inputs (inputs_through number b (node_at (changed x (with_inputs (inputs_through number before (node_at nodes x).inputs)) nodes) n).inputs) (node_at (changed x (with_inputs (inputs_through number before (node_at nodes x).inputs)) nodes) n)))
        → (b : List ℕ) × (node_at (rewired number (before ++ numbers_of (node_at nodes x).inputs) ns (changed x (with_inputs (inputs_through number before (node_at nodes x).inputs)) nodes)) n ≡ with_inputs (inputs_through number b (node_at nodes n).inputs) (node_at nodes n))
    by (inl e) rest =
        let r = rest e in
        let same = changed_other (with_inputs (inputs_through number before (node_at nodes x).inputs)) nodes x n (old e) in
        (r.0, r.1 ∙ ap (λ (p : PhysicalNode). with_inputs (inputs_through number r.0 p.inputs) p) same)
    by (inr f) rest = first (which (front_or_more n x ns h) f) f

module _ (nodes : Shape) (root : ℕ) (low : root < length nodes) (reads : (n : ℕ) → ReadsBefore n (node_at nodes n)) where
  abbrev pub olds : ℕ → List ℕ
  olds n = numbers_read nodes n

  pub old_before : (n m : ℕ) → Stands m (olds n) → m < n
  old_before n m h = stands_below n m (node_at nodes n).inputs (reads n) h

  pub old_low : (n m : ℕ) → Stands m (olds n) → m < length nodes
  old_low n m h = let a = old_before n m h in let b = reads_within nodes n m h in omega (arith, a, b)

  abbrev pub several : List ℕ
  several = shared nodes root

  abbrev pub number : ℕ → Option ℕ
  number = multiplexer_number (length nodes) several

  abbrev pub behind : Shape
  behind = map (multiplexer_of nodes) several

  abbrev pub after : Shape
  after = with_multiplexers root nodes

  abbrev pub news : ℕ → List ℕ
  news n = numbers_read after n

  pub taken_reached : (m : ℕ) → Stands m (walk_of nodes root) → Reached olds root m
  taken_reached m h = walk_reached olds (length nodes) root old_low low m h

  pub reached_taken : (m : ℕ) → Reached olds root m → Stands m (walk_of nodes root)
  reached_taken m r = reached_walk olds (length nodes) root old_low low m r

  pub reached_low : (m : ℕ) → Reached olds root m → m < length nodes
  reached_low _ start = low
  reached_low m (onward {n = n} r h) = old_low n m h

  pub taken_low : (m : ℕ) → Stands m (walk_of nodes root) → m < length nodes
  taken_low m h = reached_low m (taken_reached m h)

  pub taken_below : AllBelow (length nodes) (walk_of nodes root)
  taken_below = all_below (length nodes) (walk_of nodes root) taken_low

  pub taken_apart : Apart (walk_of nodes root)
  taken_apart = walk-apart olds (length nodes) root

  pub several_apart : Apart several
  several_apart = again_apart [] (flat_map olds (walk_of nodes root))

  -- a shared node is read by one of the walk
  pub several_read : (m : ℕ) → Stands m several → (n : ℕ) × Stands n (walk_of nodes root) × Stands m (olds n)
  several_read m h = stands_flat olds (walk_of nodes root) m (again_read m [] (flat_map olds (walk_of nodes root)) h)

  pub several_low : (m : ℕ) → Stands m several → m < length nodes
  several_low m h = let r = several_read m h in old_low r.0 m r.2

  pub after_length : length after ≡ length nodes + length several
  after_length =
      rewired-length number (walk_of nodes root) [] (nodes ++ behind) ∙ length-append nodes behind ∙ ap (λ k. length nodes + k) (length-map several (multiplexer_of nodes))

  -- the node for which a node stands: itself, or the one that a multiplexer reads
  pub base : ℕ → ℕ
  base n = if nat_lt n (length nodes) then n else get_or several (n - length nodes) 0

  pub base_low : (n : ℕ) → n < length nodes → base n ≡ n
  unfolding base
  base_low n h = ap (λ b. if b then n else get_or several (n - length nodes) 0) (lt-ltb n (length nodes) h)

  pub base_high : (j : ℕ) → base (length nodes + j) ≡ get_or several j 0
  unfolding base
  base_high j =
      ap (λ b. if b then length nodes + j else get_or several (length nodes + j - length nodes) 0) (le-ltb (length nodes + j) (length nodes) (omega arith))
      ∙ ap (λ m. get_or several m 0) (let e : length nodes + j - length nodes ≡ j = omega arith in e)

  pub record IsMux (n : ℕ) : Type 0 where
    pub place : ℕ
    pub within : place < length several
    pub at : n ≡ length nodes + place
    pub is_read : Stands (base n) several
    pub node : node_at after n ≡ multiplexer_of nodes (base n)
    pub numbered : number (base n) ≡ Some n

  pub record IsOriginal (n : ℕ) : Type 0 where
    pub within : n < length nodes
    pub kind : (node_at after n).kind ≡ (node_at nodes n).kind
    pub schema : (node_at after n).schema ≡ (node_at nodes n).schema
    pub origin : (node_at after n).origin ≡ (node_at nodes n).origin
    pub bases : map base (news n) ≡ olds n
    pub firsts : AllByRecursion (λ (s : Stream). s.0 < length nodes → s.1 ≡ 0) (node_at after n).inputs
    pub inside : (m : ℕ) → Stands m (news n) → m < length nodes + length several
    pub goes : Stands n (walk_of nodes root) → news n ≡ map (through number) (olds n)

  not_taken : (n : ℕ) → length nodes ≤ n → is_one_of n (walk_of nodes root) ≡ false
  not_taken n h = no_stand n (walk_of nodes root) (λ e. (let l = taken_low n e in omega (arith, l, h)))

  pub mux_at : (j : ℕ) → j < length several → IsMux (length nodes + j)
  mux_at j h =
      let is = base_high j in
      let P : ℕ → Type 0 = λ m. Stands m several in
      let g = multiplexer_of nodes in
      record {
        place = j;
        within = h;
        at = refl;
        is_read = subst P (sym is) (got_stands several j h);
        node = rewired-other number (walk_of nodes root) [] (nodes ++ behind) (length nodes + j) (not_taken (length nodes + j) (omega arith)) ∙ ap node_or_none (get-right nodes behind j ∙ at_place g several j h) ∙ ap g (sym is);
        numbered = ap number is ∙ number_at (length nodes) several j several_apart h;
      }

  -- what a node reads through multiplexers stands for what it read
  back : (m : ℕ) → m < length nodes → base (through number m) ≡ m
  back m h = by (number m) refl
    where
      by : (o : Option ℕ) → number m ≡ o → base (unwrap_or o m) ≡ m
      by None e = base_low m h
      by (Some k) e = let r = number-place nodes (length nodes) several m k e in ap base r.1 ∙ base_high r.0 ∙ r.4

  through_inside : (m : ℕ) → m < length nodes → through number m < length nodes + length several
  through_inside m h = by (number m) refl
    where
      by : (o : Option ℕ) → number m ≡ o → unwrap_or o m < length nodes + length several
      by None e = omega (arith, h)
      by (Some k) e = let r = number-place nodes (length nodes) several m k e in let at = r.1 in let l = r.3 in omega (arith, at, l)

  number_high : (m k : ℕ) → number m ≡ Some k → length nodes ≤ k
  number_high m k e = let r = number-place nodes (length nodes) several m k e in let at = r.1 in omega (arith, at)

  back_all : (ns : List ℕ) → ((m : ℕ) → Stands m ns → m < length nodes) → map base (map (through number) ns) ≡ ns
  back_all [] h = refl
  back_all (n ∷ ns) h = λ i. back n (h n (stands_here n n ns refl)) i ∷ back_all ns (λ m e. h m (stands_more m n ns e)) i

  bases_low : (ns : List ℕ) → ((m : ℕ) → Stands m ns → m < length nodes) → map base ns ≡ ns
  bases_low [] h = refl
  bases_low (n ∷ ns) h = λ i. base_low n (h n (stands_here n n ns refl)) i ∷ bases_low ns (λ m e. h m (stands_more m n ns e)) i

  firsts_through : (before : List ℕ) (ss : List Stream) (n : ℕ) → AllByRecursion (λ (i : Stream). (i.0 < n) × (i.1 ≡ 0)) ss → AllByRecursion (λ (s : Stream). s.0 < length nodes → s.1 ≡ 0) (inputs_through number before ss)
  firsts_through before [] n a = tt
  firsts_through before (s ∷ ss) n a = (by (number s.0) refl, firsts_through (before ++ s.0 ∷ []) ss n a.1)
    where
      by : (o : Option ℕ) → number s.0 ≡ o → (port_or_stream s o (times s.0 before)).0 < length nodes → (port_or_stream s o (times s.0 before)).1 ≡ 0
      by None e l = a.0.1
      by (Some k) e l = let h = number_high s.0 k e in absurd (omega (arith, h, l))

  firsts_kept : (ss : List Stream) (n : ℕ) → AllByRecursion (λ (i : Stream). (i.0 < n) × (i.1 ≡ 0)) ss → AllByRecursion (λ (s : Stream). s.0 < length nodes → s.1 ≡ 0) ss
  firsts_kept [] n a = tt
  firsts_kept (s ∷ ss) n a = ((λ l. a.0.1), firsts_kept ss n a.1)

  pub original_at : (n : ℕ) → n < length nodes → IsOriginal n
  original_at n h = by (either (is_one_of n (walk_of nodes root)))
    where
      here : node_at (nodes ++ behind) n ≡ node_at nodes n
      here = node-left nodes behind n h

      longer : length (nodes ++ behind) ≡ length nodes + length several
      longer = length-append nodes behind ∙ ap (λ k. length nodes + k) (length-map several (multiplexer_of nodes))

      by : (is_one_of n (walk_of nodes root) ≡ true) ⊎ (is_one_of n (walk_of nodes root) ≡ false) → IsOriginal n
      by (inl e) =
          let r = rewired_at number (walk_of nodes root) [] (nodes ++ behind) n taken_apart e (omega (arith, h, longer)) in
          let is : node_at after n ≡ with_inputs (inputs_through number r.0 (node_at nodes n).inputs) (node_at nodes n) = r.1 ∙ ap (λ (p : PhysicalNode). with_inputs (inputs_through number r.0 p.inputs) p) here in
          let ns : news n ≡ map (through number) (olds n) = ap (λ (p : PhysicalNode). numbers_of p.inputs) is ∙ numbers_through number r.0 (node_at nodes n).inputs in
          let F : PhysicalNode → Type 0 = λ p. AllByRecursion (λ (s : Stream). s.0 < length nodes → s.1 ≡ 0) p.inputs in
          let S : List ℕ → Type 0 = λ xs. (m : ℕ) → Stands m xs → m < length nodes + length several in
          record {
            within = h;
            kind = ap (λ (p : PhysicalNode). p.kind) is;
            schema = ap (λ (p : PhysicalNode). p.schema) is;
            origin = ap (λ (p : PhysicalNode). p.origin) is;
            bases = ap (λ xs. map base xs) ns ∙ back_all (olds n) (old_low n);
            firsts = subst F (sym is) (firsts_through r.0 (node_at nodes n).inputs n (reads n));
            inside = subst S (sym ns) (λ m s. some_through m (map_stands (through number) (olds n) m s));
            goes = λ k. ns;
          }
        where
          some_through : (m : ℕ) → ((x : ℕ) × Stands x (olds n) × (through number x ≡ m)) → m < length nodes + length several
          some_through m w = let P : ℕ → Type 0 = λ y. y < length nodes + length several in subst P w.2 (through_inside w.0 (old_low n w.0 w.1))
      by (inr f) =
          let is : node_at after n ≡ node_at nodes n = rewired-other number (walk_of nodes root) [] (nodes ++ behind) n f ∙ here in
          let ns : news n ≡ olds n = ap (λ (p : PhysicalNode). numbers_of p.inputs) is in
          let F : PhysicalNode → Type 0 = λ p. AllByRecursion (λ (s : Stream). s.0 < length nodes → s.1 ≡ 0) p.inputs in
          let S : List ℕ → Type 0 = λ xs. (m : ℕ) → Stands m xs → m < length nodes + length several in
          record {
            within = h;
            kind = ap (λ (p : PhysicalNode). p.kind) is;
            schema = ap (λ (p : PhysicalNode). p.schema) is;
            origin = ap (λ (p : PhysicalNode). p.origin) is;
            bases = ap (λ xs. map base xs) ns ∙ bases_low (olds n) (old_low n);
            firsts = subst F (sym is) (firsts_kept (node_at nodes n).inputs n (reads n));
            inside = subst S (sym ns) (λ m s. (let l = old_low n m s in omega (arith, l)));
            goes = λ k. absurd (not_both (is_one_of n (walk_of nodes root)) k f);
          }

  pub view : (n : ℕ) → n < length after → IsOriginal n ⊎ IsMux n
  view n h = by (nat_lt n (length nodes)) refl
    where
      by : (b : Bool) → nat_lt n (length nodes) ≡ b → IsOriginal n ⊎ IsMux n
      by true e = inl (original_at n (ltb-true n (length nodes) e))
      by false e =
          let above = ltb-false n (length nodes) e in
          let long = after_length in
          let is : length nodes + (n - length nodes) ≡ n = omega (arith, above) in
          inr (subst IsMux is (mux_at (n - length nodes) (omega (arith, above, h, long))))

  -- what a multiplexer reads
  pub mux_reads : (n : ℕ) → IsMux n → news n ≡ base n ∷ []
  mux_reads n x = ap (λ (p : PhysicalNode). numbers_of p.inputs) x.node

  pub news_within : (n m : ℕ) → Stands m (news n) → n < length after
  news_within n m h = reads_within after n m h

  -- each node reads what stands lower: nodes count twice, and a multiplexer once more
  pub rank : ℕ → ℕ
  rank n = base n + base n + (if nat_lt n (length nodes) then 0 else 1)

  rank_low : (n : ℕ) → n < length nodes → rank n ≡ n + n
  unfolding rank
  rank_low n h = let e = base_low n h in let z : (if nat_lt n (length nodes) then 0 else 1) ≡ 0 = ap {B = ℕ} (λ b. if b then 0 else 1) (lt-ltb n (length nodes) h) in omega (arith, e, z)

  rank_most : (n : ℕ) → rank n ≤ base n + base n + 1
  unfolding rank
  rank_most n = by (nat_lt n (length nodes))
    where
      by : (b : Bool) → base n + base n + (if b then 0 else 1) ≤ base n + base n + 1
      by true = omega arith
      by false = omega arith

  rank_high : (n : ℕ) → length nodes ≤ n → rank n ≡ base n + base n + 1
  unfolding rank
  rank_high n h = ap {B = ℕ} (λ b. base n + base n + (if b then 0 else 1)) (le-ltb n (length nodes) h)

  pub new_low : (n m : ℕ) → Stands m (news n) → m < length after
  new_low n m h = by (view n (news_within n m h))
    where
      by : IsOriginal n ⊎ IsMux n → m < length after
      by (inl o) = let l = o.inside m h in let e = after_length in omega (arith, l, e)
      by (inr x) =
          let P : List ℕ → Type 0 = λ xs. Stands m xs in
          let l = several_low (base n) x.is_read in
          let e = after_length in
          let Q : ℕ → Type 0 = λ y. y < length after in
          subst Q (only (front_or_more m (base n) [] (subst P (mux_reads n x) h))) (omega (arith, l, e))
        where
          only : (base n ≡ m) ⊎ Stands m [] → base n ≡ m
          only (inl is) = is
          only (inr k) = cc

  pub new_base : (n m : ℕ) → IsOriginal n → Stands m (news n) → Stands (base m) (olds n)
  new_base n m o h = let P : List ℕ → Type 0 = λ xs. Stands (base m) xs in subst P o.bases (stands_map base (news n) m h)

  pub new_falls : (n m : ℕ) → Stands m (news n) → rank m < rank n
  new_falls n m h = by (view n (news_within n m h))
    where
      by : IsOriginal n ⊎ IsMux n → rank m < rank n
      by (inl o) =
          let l = old_before n (base m) (new_base n m o h) in
          let a = rank_most m in
          let b = rank_low n o.within in
          omega (arith, l, a, b)
      by (inr x) =
          let P : List ℕ → Type 0 = λ xs. Stands m xs in
          let l = several_low (base n) x.is_read in
          let is = only (front_or_more m (base n) [] (subst P (mux_reads n x) h)) in
          let Q : ℕ → Type 0 = λ y. y < length nodes in
          let a = rank_low m (subst Q is l) in
          let above = x.at in
          let b = rank_high n (omega (arith, above)) in
          omega (arith, a, b, is)
        where
          only : (base n ≡ m) ⊎ Stands m [] → base n ≡ m
          only (inl is) = is
          only (inr k) = cc

  -- the root reaches the nodes that it reached, and their multiplexers
  pub base_reached : (n : ℕ) → Reached news root n → Reached olds root (base n)
  base_reached _ start = let P : ℕ → Type 0 = λ y. Reached olds root y in subst P (sym (base_low root low)) start
  base_reached m (onward {n = n} r h) = by (view n (news_within n m h)) (base_reached n r)
    where
      by : IsOriginal n ⊎ IsMux n → Reached olds root (base n) → Reached olds root (base m)
      by (inl o) r' = let P : ℕ → Type 0 = λ y. Reached olds root y in onward (subst P (base_low n o.within) r') (new_base n m o h)
      by (inr x) r' =
          let P : List ℕ → Type 0 = λ xs. Stands m xs in
          let is = only (front_or_more m (base n) [] (subst P (mux_reads n x) h)) in
          let R : ℕ → Type 0 = λ y. Reached olds root y in
          subst R (sym (base_low (base n) (several_low (base n) x.is_read)) ∙ ap base is) r'
        where
          only : (base n ≡ m) ⊎ Stands m [] → base n ≡ m
          only (inl is) = is
          only (inr k) = cc

  -- from a node that is reached to the one for which it stands
  pub to_base : (x : ℕ) → x < length after → Reached news root x → Reached news root (base x)
  to_base x h r = by (view x h)
    where
      by : IsOriginal x ⊎ IsMux x → Reached news root (base x)
      by (inl o) = let P : ℕ → Type 0 = λ y. Reached news root y in subst P (sym (base_low x o.within)) r
      by (inr m) = let P : List ℕ → Type 0 = λ xs. Stands (base x) xs in onward r (subst P (sym (mux_reads x m)) (stands_here (base x) (base x) [] refl))

  pub old_reached : (m : ℕ) → Reached olds root m → Reached news root m
  old_reached _ start = start
  old_reached m (onward {n = n} r h) =
      let o = original_at n (reads_within nodes n m h) in
      let P : List ℕ → Type 0 = λ xs. Stands m xs in
      let f = map_stands base (news n) m (subst P (sym o.bases) h) in
      let R : ℕ → Type 0 = λ y. Reached news root y in
      subst R f.2 (to_base f.0 (new_low n f.0 f.1) (onward (old_reached n r) f.1))

  pub mux_reached : (n : ℕ) → IsMux n → Reached news root n
  mux_reached n x =
      let r = several_read (base n) x.is_read in
      let o = original_at r.0 (taken_low r.0 r.1) in
      let P : List ℕ → Type 0 = λ xs. Stands n xs in
      let Q : ℕ → Type 0 = λ y. Stands y (map (through number) (olds r.0)) in
      let is : through number (base n) ≡ n = ap (λ (q : Option ℕ). unwrap_or q (base n)) x.numbered in
      onward (old_reached r.0 (taken_reached r.0 r.1)) (subst P (sym (o.goes r.1)) (subst Q is (stands_map (through number) (olds r.0) (base n) r.2)))

-- A walk step by step.
use Rattle.std.proofs.Common.{◌≡◌, ◌≢◌, ◌⊎◌, inl, inr, ℕ, zero, suc, ◌+◌, ◌<◌, ◌≤◌, Bool, true, false, List, [], ◌∷◌, ◌++◌, length, drop, Option, Some, None, refl, sym, ap, subst, ◌∙◌, arith}
use Rattle.std.proofs.lemmas.List.{length-map}
use Rattle.std.proofs.lemmas.Bool.{eqb-false, eqb-true}
use Rattle.std.specs.Prelude.{IfSome, MatchOption, fold, is_some, slice_get, IsSome, ◌==◌}
use Rattle.std.specs.List.{AllByRecursion}
use Rattle.keyed_slots.specs.Slots.{Updates, value_at}
use Rattle.pu_base.specs.declared.arena.Node.{Node}
use Rattle.ps_frame.specs.Trees.{Tree}
use Rattle.ps_phys.specs.Shown.{ReadsWhatIsThere, inputs_of, node_of_slot, nodes_of, stream_of}
use Rattle.ps_phys.specs.Underway.{AreLeft, IsUnderway, Standing, goes_all_back, goes_back, inputs_or_none, looks_at, looks_left, looks_on_way, numbers_in, slot_inputs, slot_reads, unmet}
use Rattle.ps_phys.specs.Walks.{Stream, Walk, goes_to, is_one_of, leaves, leaving_order, meets, numbers_of, numbers_read, order_from}
use Rattle.ps_phys.specs.declared.order.Open.{Open}
use Rattle.ps_phys.specs.declared.phys.PhysNode.{PhysNode}
use Rattle.ps_phys.specs.declared.phys.PhysNodeKey.{PhysNodeKey}
use Rattle.ps_phys.specs.declared.phys.PhysStream.{PhysStream}

below_or_is : (n c : ℕ) → n < suc c → (n < c) ⊎ (n ≡ c)
below_or_is zero zero h = inr refl
below_or_is zero (suc c) h = inl (omega arith)
below_or_is (suc n) zero h = absurd (omega (arith, h))
below_or_is (suc n) (suc c) h = by (below_or_is n c (omega (arith, h)))
  where
    by : (n < c) ⊎ (n ≡ c) → (suc n < suc c) ⊎ (suc n ≡ suc c)
    by (inl l) = inl (omega (arith, l))
    by (inr e) = inr (ap (λ m. suc m) e)

module _ (weight : ℕ → ℕ) (old new : List (Option Unit)) (n : ℕ) (updates : Updates old new n (Some tt)) where
  unmet-same : (c : ℕ) → c ≤ n → unmet weight c new ≡ unmet weight c old
  unmet-same zero h = refl
  unmet-same (suc c) h =
      let other : c ≢ n = λ e. omega (arith, h, e) in
      rw (updates.others c other, unmet-same c (omega (arith, h))) refl

  pub unmet-less : (c : ℕ) → n < c → value_at old n ≡ None → unmet weight c new + weight n ≡ unmet weight c old
  unmet-less zero h none = absurd (omega (arith, h))
  unmet-less (suc c) h none = by (below_or_is n c h) (λ l. unmet-less c l none)
    where
      by : (n < c) ⊎ (n ≡ c) → (n < c → unmet weight c new + weight n ≡ unmet weight c old) → unmet weight (suc c) new + weight n ≡ unmet weight (suc c) old
      by (inl l) rest =
          let other : c ≢ n = λ e. omega (arith, l, e) in
          let below = rest l in
          rw (updates.others c other) (omega (arith, below))
      by (inr e) rest =
          let P : ℕ → Type 0 = λ m. unmet weight (suc m) new + weight n ≡ unmet weight (suc m) old in
          subst P e (let same = unmet-same n (omega arith) in rw (updates.changed, none, same) (omega arith))

pub not-some : (o : Option Unit) → (IsSome o → false ≡ true) → is_some o ≡ false
not-some None h = refl
not-some (Some v) h = absurd (let never : false ≡ true = h refl in cc)

not-there : (o : Option Unit) → is_some o ≡ false → o ≡ None
not-there None e = refl
not-there (Some v) e = cc

-- a met node is passed by
goes-met : (reads : ℕ → List ℕ) (k n : ℕ) (w : Walk) → is_one_of n w.met ≡ true → goes_to reads k w n ≡ w
goes-met reads zero n w e = refl
goes-met reads (suc k) n w e = rw (e, goes_to) refl

goes-new : (reads : ℕ → List ℕ) (k n : ℕ) (w : Walk) → is_one_of n w.met ≡ false → goes_to reads (suc k) w n ≡ leaves n (fold (goes_to reads k) (meets n w) (reads n))
goes-new reads k n w e = rw (e, goes_to) refl

goes_all_back-append : (reads : ℕ → List ℕ) (os : List Open) (o : Open) (s : Standing) → goes_all_back reads (os ++ o ∷ []) s ≡ goes_all_back reads os (goes_back reads o s)
goes_all_back-append reads [] o s = refl
goes_all_back-append reads (p ∷ os) o s = ap (goes_back reads p) (goes_all_back-append reads os o s)

looks_on_way-append : (reads : ℕ → List ℕ) (os : List Open) (o : Open) → looks_on_way reads (os ++ o ∷ []) ≡ looks_on_way reads os + looks_at reads o
looks_on_way-append reads [] o = omega arith
looks_on_way-append reads (p ∷ os) o = let rest = looks_on_way-append reads os o in omega (arith, rest)

drop-at : (xs : List ℕ) (k x : ℕ) → slice_get xs k ≡ Some x → drop k xs ≡ x ∷ drop (suc k) xs
drop-at [] k x e = cc
drop-at (y ∷ ys) zero x e = let is : y ≡ x = cc in ap (λ z. z ∷ ys) is
drop-at (y ∷ ys) (suc k) x e = drop-at ys k x e

drop-next : (xs : List ℕ) (k x : ℕ) → slice_get xs k ≡ Some x → drop k xs ≡ x ∷ drop (k + 1) xs
drop-next xs k x e = let P : ℕ → Type 0 = λ m. drop k xs ≡ x ∷ drop m xs in let same : suc k ≡ k + 1 = omega arith in subst P same (drop-at xs k x e)

drop-past : (xs : List ℕ) (k : ℕ) → slice_get xs k ≡ None → drop k xs ≡ []
drop-past [] zero e = refl
drop-past [] (suc k) e = refl
drop-past (y ∷ ys) zero e = cc
drop-past (y ∷ ys) (suc k) e = drop-past ys k e

number-at : (inputs : List Stream) (k : ℕ) (s : Stream) → slice_get inputs k ≡ Some s → slice_get (numbers_of inputs) k ≡ Some s.0
number-at [] k s e = cc
number-at (i ∷ is) zero s e = let same : i ≡ s = cc in ap (λ (j : Stream). Some j.0) same
number-at (i ∷ is) (suc k) s e = number-at is k s e

no-number-at : (inputs : List Stream) (k : ℕ) → slice_get inputs k ≡ None → slice_get (numbers_of inputs) k ≡ None
no-number-at [] k e = refl
no-number-at (i ∷ is) zero e = cc
no-number-at (i ∷ is) (suc k) e = no-number-at is k e

all-at : (P : Stream → Type 0) (xs : List Stream) (k : ℕ) (x : Stream) → AllByRecursion P xs → slice_get xs k ≡ Some x → P x
all-at P [] k x all e = cc
all-at P (y ∷ ys) zero x all e = let is : y ≡ x = cc in subst P is all.0
all-at P (y ∷ ys) (suc k) x all e = all-at P ys k x all.1 e

all-push : {A : Type 0} (P : A → Type 0) (xs : List A) (x : A) → AllByRecursion P xs → P x → AllByRecursion P (xs ++ x ∷ [])
all-push P [] x all h = (h, tt)
all-push P (y ∷ ys) x all h = (all.0, all-push P ys x all.1 h)

all-before : {A : Type 0} (P : A → Type 0) (xs : List A) (x : A) → AllByRecursion P (xs ++ x ∷ []) → AllByRecursion P xs
all-before P [] x all = tt
all-before P (y ∷ ys) x all = (all.0, all-before P ys x all.1)

all-last : {A : Type 0} (P : A → Type 0) (xs : List A) (x : A) → AllByRecursion P (xs ++ x ∷ []) → P x
all-last P [] x all = all.0
all-last P (y ∷ ys) x all = all-last P ys x all.1

there-within : (slots : List (Option PhysNode)) (n : ℕ) → IsSome (value_at slots n) → n < length slots
there-within [] n h = cc
there-within (s ∷ slots) zero h = omega arith
there-within (s ∷ slots) (suc n) h = let l = there-within slots n h in omega (arith, l)

-- the numbers of a slot map's nodes are those that its shape's nodes read
reads-shown : (f : Node → Tree) (slots : List (Option PhysNode)) (n : ℕ) → slot_reads slots n ≡ numbers_read (nodes_of f slots) n
reads-shown f [] n = refl
reads-shown f (None ∷ slots) zero = refl
reads-shown f (Some p ∷ slots) zero = refl
reads-shown f (s ∷ slots) (suc n) = reads-shown f slots n

pub order-shown : (f : Node → Tree) (slots : List (Option PhysNode)) (root : ℕ) → leaving_order (slot_reads slots) (length slots) root ≡ order_from (nodes_of f slots) root
order-shown f slots root = λ i. leaving_order (λ n. reads-shown f slots n i) (sym (length-map slots (node_of_slot f)) i) root

module _ (slots : List (Option PhysNode)) (whole : ReadsWhatIsThere slots) where
  abbrev reads : ℕ → List ℕ
  reads = slot_reads slots

  -- what is read is there
  read-there : (n k : ℕ) (s : Stream) → slice_get (slot_inputs slots n) k ≡ Some s → IsSome (value_at slots s.0)
  read-there n k s = by (value_at slots n) refl
    where
      by : (o : Option PhysNode) → value_at slots n ≡ o → slice_get (inputs_or_none o) k ≡ Some s → IsSome (value_at slots s.0)
      by None e h = cc
      by (Some p) e h = all-at (λ (i : Stream). IsSome (value_at slots i.0)) (inputs_of p.kind) k s (whole n p e) h

  abbrev IsThere : PhysNodeKey → Type 0
  IsThere k = IsSome (value_at slots k.0)

  abbrev IsOpenThere : Open → Type 0
  IsOpenThere o = IsSome (value_at slots o.node.0)

  abbrev standing : List ℕ → List PhysNodeKey → ℕ → Standing
  standing numbers left room = record { walk = record { met = numbers; left = numbers_in left }; room = room }

  module _ (root : ℕ) (met : List (Option Unit)) (way : List Open) (left : List PhysNodeKey) (at : Open) (u : IsUnderway slots root met way left at) where
    -- no input is left: the walk goes back
    back-walk : slice_get (slot_inputs slots at.node.0) at.place ≡ None → (goes_back reads at (standing u.numbers left u.room)) ≡ standing u.numbers (left ++ at.node ∷ []) (suc u.room)
    back-walk none = rw (drop-past (reads at.node.0) at.place (no-number-at (slot_inputs slots at.node.0) at.place none)) (λ i. record { walk = record { met = u.numbers; left = sym (numbers_in-append left at.node) i }; room = suc u.room })
      where
        numbers_in-append : (ks : List PhysNodeKey) (k : PhysNodeKey) → numbers_in (ks ++ k ∷ []) ≡ numbers_in ks ++ k.0 ∷ []
        numbers_in-append [] k = refl
        numbers_in-append (x ∷ ks) k = ap (λ ns. x.0 ∷ ns) (numbers_in-append ks k)

    pub back-ends : slice_get (slot_inputs slots at.node.0) at.place ≡ None → way ≡ [] → AreLeft slots root (left ++ at.node ∷ [])
    back-ends none empty =
        let P : List Open → Type 0 = λ os. (goes_all_back reads os (goes_back reads at (standing u.numbers left u.room))).walk.left ≡ leaving_order reads (length slots) root in
        let Q : Standing → Type 0 = λ s. s.walk.left ≡ leaving_order reads (length slots) root in
        record { order = subst Q (back-walk none) (subst P empty u.goes); there = all-push IsThere left at.node u.gone u.here }

    pub back-on : (rest : List Open) (b : Open) → slice_get (slot_inputs slots at.node.0) at.place ≡ None → way ≡ rest ++ b ∷ [] → IsUnderway slots root met rest (left ++ at.node ∷ []) b
    back-on rest b none is =
        let P : List Open → Type 0 = λ os. (goes_all_back reads os (goes_back reads at (standing u.numbers left u.room))).walk.left ≡ leaving_order reads (length slots) root in
        let Q : Standing → Type 0 = λ s. s.walk.left ≡ leaving_order reads (length slots) root in
        let R : Standing → Type 0 = λ s. (goes_all_back reads rest (goes_back reads b s)).walk.left ≡ leaving_order reads (length slots) root in
        let W : List Open → Type 0 = λ os. AllByRecursion IsOpenThere os in
        let enough = u.enough in
        record {
          numbers = u.numbers;
          marked = u.marked;
          room = suc u.room;
          enough = omega (arith, enough);
          goes = subst R (back-walk none) (subst Q (goes_all_back-append reads rest b (goes_back reads at (standing u.numbers left u.room))) (subst P is u.goes));
          here = all-last IsOpenThere rest b (subst W is u.on_way);
          on_way = all-before IsOpenThere rest b (subst W is u.on_way);
          gone = all-push IsThere left at.node u.gone u.here;
        }

    pub went-back : (r : Option Open) (met' : List (Option Unit)) (way' : List Open) (left' : List PhysNodeKey) → slice_get (slot_inputs slots at.node.0) at.place ≡ None → met' ≡ met → left' ≡ left ++ at.node ∷ []
        → MatchOption r ((way ≡ []) × (way' ≡ [])) (λ b. way ≡ way' ++ b ∷ [])
        → MatchOption r (AreLeft slots root left') (λ to. IsUnderway slots root met' way' left' to)
    went-back None met' way' left' none same is (empty, _) = let P : List PhysNodeKey → Type 0 = λ l. AreLeft slots root l in subst P (sym is) (back-ends none empty)
    went-back (Some b) met' way' left' none same is way_is =
        let P : List PhysNodeKey → Type 0 = λ l. IsUnderway slots root met' way' l b in
        let Q : List (Option Unit) → Type 0 = λ m. IsUnderway slots root m way' (left ++ at.node ∷ []) b in
        subst P (sym is) (subst Q (sym same) (back-on way' b none way_is))

    abbrev next : Open
    next = record { node = at.node; place = at.place + 1 }

    -- the next input was met before
    pub on-met : (s : Stream) → slice_get (slot_inputs slots at.node.0) at.place ≡ Some s → IsSome (value_at met s.0) → IsUnderway slots root met way left next
    on-met s there known =
        let Q : Standing → Type 0 = λ v. (goes_all_back reads way v).walk.left ≡ leaving_order reads (length slots) root in
        record { numbers = u.numbers; marked = u.marked; room = u.room; enough = u.enough; goes = subst Q passes u.goes; here = u.here; on_way = u.on_way; gone = u.gone }
      where
        w : Walk
        w = record { met = u.numbers; left = numbers_in left }

        rest : List ℕ
        rest = drop (at.place + 1) (reads at.node.0)

        passes : goes_back reads at (standing u.numbers left u.room) ≡ goes_back reads next (standing u.numbers left u.room)
        passes =
            let P : List ℕ → Type 0 = λ ns. goes_back reads at (standing u.numbers left u.room) ≡ record { walk = leaves at.node.0 (fold (goes_to reads u.room) w ns); room = suc u.room } in
            subst P (drop-next (reads at.node.0) at.place s.0 (number-at (slot_inputs slots at.node.0) at.place s there)) refl
            ∙ ap (λ v. record { walk = leaves at.node.0 (fold (goes_to reads u.room) v rest); room = suc u.room }) (goes-met reads u.room s.0 w (sym (u.marked s.0) ∙ known))

    -- the next input is met now
    pub on-new : (s : Stream) (node : PhysNodeKey) (marks : List (Option Unit)) → slice_get (slot_inputs slots at.node.0) at.place ≡ Some s → node.0 ≡ s.0 → is_some (value_at met s.0) ≡ false → Updates met marks s.0 (Some tt)
        → IsUnderway slots root marks (way ++ next ∷ []) left (record { node = node; place = 0 })
    on-new s node marks there same unknown updates = by u.room refl
      where
        within : s.0 < length slots
        within = there-within slots s.0 (read-there at.node.0 at.place s there)

        none : value_at met s.0 ≡ None
        none = not-there (value_at met s.0) unknown

        fewer : unmet (λ n. 1) (length slots) marks + 1 ≡ unmet (λ n. 1) (length slots) met
        fewer = unmet-less (λ n. 1) met marks s.0 updates (length slots) within none

        both : (n : ℕ) → is_some (value_at marks n) ≡ is_one_of n (s.0 ∷ u.numbers)
        both n = which (s.0 == n) refl
          where
            which : (b : Bool) → s.0 == n ≡ b → is_some (value_at marks n) ≡ is_one_of n (s.0 ∷ u.numbers)
            which true e = let is : s.0 ≡ n = eqb-true s.0 n e in let P : ℕ → Type 0 = λ m. is_some (value_at marks m) ≡ true in rw e (subst P is (ap is_some updates.changed))
            which false e = let other : n ≢ s.0 = λ is. eqb-false s.0 n e (sym is) in rw e (ap is_some (updates.others n other) ∙ u.marked n)

        w : Walk
        w = record { met = u.numbers; left = numbers_in left }

        down : Open
        down = record { node = node; place = 0 }

        rest : List ℕ
        rest = drop (at.place + 1) (reads at.node.0)

        new : is_one_of s.0 u.numbers ≡ false
        new = sym (u.marked s.0) ∙ unknown

        enters : (k : ℕ) → goes_back reads at (standing u.numbers left (suc k)) ≡ goes_back reads next (goes_back reads down (record { walk = meets s.0 w; room = k }))
        enters k =
            let P : List ℕ → Type 0 = λ ns. goes_back reads at (standing u.numbers left (suc k)) ≡ record { walk = leaves at.node.0 (fold (goes_to reads (suc k)) w ns); room = suc (suc k) } in
            subst P (drop-next (reads at.node.0) at.place s.0 (number-at (slot_inputs slots at.node.0) at.place s there)) refl
            ∙ ap (λ v. record { walk = leaves at.node.0 (fold (goes_to reads (suc k)) v rest); room = suc (suc k) }) (goes-new reads k s.0 w new ∙ ap (λ m. leaves m (fold (goes_to reads k) (meets s.0 w) (reads m))) (sym same))

        by : (k : ℕ) → u.room ≡ k → IsUnderway slots root marks (way ++ next ∷ []) left (record { node = node; place = 0 })
        by zero e = let enough = u.enough in absurd (omega (arith, fewer, enough, e))
        by (suc k) e =
            let enough = u.enough in
            let P : ℕ → Type 0 = λ room. (goes_all_back reads way (goes_back reads at (standing u.numbers left room))).walk.left ≡ leaving_order reads (length slots) root in
            let Q : Standing → Type 0 = λ v. (goes_all_back reads way v).walk.left ≡ leaving_order reads (length slots) root in
            let R : Standing → Type 0 = λ v. v.walk.left ≡ leaving_order reads (length slots) root in
            let IsNumberThere : ℕ → Type 0 = λ m. IsSome (value_at slots m) in
            let below = goes_back reads down (record { walk = meets s.0 w; room = k }) in
            record {
              numbers = s.0 ∷ u.numbers;
              marked = both;
              room = k;
              enough = omega (arith, fewer, enough, e);
              goes = subst R (sym (goes_all_back-append reads way next below)) (subst Q (enters k) (subst P e u.goes));
              here = subst IsNumberThere (sym same) (read-there at.node.0 at.place s there);
              on_way = all-push IsOpenThere way next u.on_way u.here;
              gone = u.gone;
            }

  -- the walk begins at the root
  pub begins : (root : PhysNodeKey) (marks : List (Option Unit)) → IsSome (value_at slots root.0) → Updates [] marks root.0 (Some tt) → IsUnderway slots root.0 marks [] [] (record { node = root; place = 0 })
  begins root marks there updates = by (length slots) refl
    where
      within : root.0 < length slots
      within = there-within slots root.0 there

      marked : (n : ℕ) → is_some (value_at marks n) ≡ is_one_of n (root.0 ∷ [])
      marked n = which (root.0 == n) refl
        where
          which : (b : Bool) → root.0 == n ≡ b → is_some (value_at marks n) ≡ is_one_of n (root.0 ∷ [])
          which true e = let is : root.0 ≡ n = eqb-true root.0 n e in let P : ℕ → Type 0 = λ m. is_some (value_at marks m) ≡ true in rw e (subst P is (ap is_some updates.changed))
          which false e = let other : n ≢ root.0 = λ is. eqb-false root.0 n e (sym is) in rw e (ap is_some (updates.others n other))

      all-unmet : (c : ℕ) → unmet (λ n. 1) c [] ≡ c
      all-unmet zero = refl
      all-unmet (suc c) = let h = all-unmet c in omega (arith, h)

      by : (count : ℕ) → length slots ≡ count → IsUnderway slots root.0 marks [] [] (record { node = root; place = 0 })
      by zero e = absurd (omega (arith, within, e))
      by (suc k) e =
          let fewer = unmet-less (λ n. 1) [] marks root.0 updates (length slots) within refl in
          let all = all-unmet (length slots) in
          let P : ℕ → Type 0 = λ c. (goes_back reads (record { node = root; place = 0 }) (record { walk = record { met = root.0 ∷ []; left = [] }; room = k })).walk.left ≡ leaving_order reads c root.0 in
          record { numbers = root.0 ∷ []; marked = marked; room = k; enough = omega (arith, fewer, all, e); goes = subst P (sym e) refl; here = there; on_way = tt; gone = tt }

  -- the same of a step down whose end is told by equations
  pub went-down : (root : ℕ) (met marks : List (Option Unit)) (way way' : List Open) (left left' : List PhysNodeKey) (at to : Open) (s : PhysStream)
      → IsUnderway slots root met way left at → slice_get (slot_inputs slots at.node.0) at.place ≡ Some (stream_of s) → is_some (value_at met s.node.0) ≡ false → Updates met marks s.node.0 (Some tt)
      → way' ≡ way ++ record { node = at.node; place = at.place + 1 } ∷ [] → left' ≡ left → to ≡ record { node = s.node; place = 0 } → IsUnderway slots root marks way' left' to
  went-down root met marks way way' left left' at to s u there unknown updates way_is left_is to_is =
      let P : List Open → Type 0 = λ os. IsUnderway slots root marks os left' to in
      let Q : List PhysNodeKey → Type 0 = λ l. IsUnderway slots root marks (way ++ record { node = at.node; place = at.place + 1 } ∷ []) l to in
      let R : Open → Type 0 = λ o. IsUnderway slots root marks (way ++ record { node = at.node; place = at.place + 1 } ∷ []) left o in
      subst P (sym way_is) (subst Q (sym left_is) (subst R (sym to_is) (on-new root met way left at u (stream_of s) s.node marks there refl unknown updates)))

  -- each look takes one of those that are left
  module _ (met : List (Option Unit)) (way : List Open) (at : Open) where
    abbrev left_before : ℕ
    left_before = looks_left reads (length slots) met way at

    pub less-back : (rest : List Open) (b : Open) → way ≡ rest ++ b ∷ [] → looks_left reads (length slots) met rest b < left_before
    less-back rest b is =
        let P : List Open → Type 0 = λ os. looks_left reads (length slots) met rest b < looks_left reads (length slots) met os at in
        subst P (sym is) (let h = looks_on_way-append reads rest b in omega (arith, h))

    pub less-went-back : (r : Option Open) (met' : List (Option Unit)) (way' : List Open) → met' ≡ met → MatchOption r ((way ≡ []) × (way' ≡ [])) (λ b. way ≡ way' ++ b ∷ []) → IfSome r (λ to. looks_left reads (length slots) met' way' to < left_before)
    less-went-back None met' way' same is = tt
    less-went-back (Some b) met' way' same is = let P : List (Option Unit) → Type 0 = λ m. looks_left reads (length slots) m way' b < left_before in subst P (sym same) (less-back way' b is)

    pub less-on : (s : Stream) → slice_get (slot_inputs slots at.node.0) at.place ≡ Some s → looks_left reads (length slots) met way (record { node = at.node; place = at.place + 1 }) < left_before
    less-on s there =
        let h = ap length (drop-next (reads at.node.0) at.place s.0 (number-at (slot_inputs slots at.node.0) at.place s there)) in
        omega (arith, h)

    pub less-down : (s : Stream) (node : PhysNodeKey) (marks : List (Option Unit)) → slice_get (slot_inputs slots at.node.0) at.place ≡ Some s → node.0 ≡ s.0 → is_some (value_at met s.0) ≡ false → Updates met marks s.0 (Some tt)
        → looks_left reads (length slots) marks (way ++ record { node = at.node; place = at.place + 1 } ∷ []) (record { node = node; place = 0 }) < left_before
    less-down s node marks there same unknown updates =
        let h = ap length (drop-next (reads at.node.0) at.place s.0 (number-at (slot_inputs slots at.node.0) at.place s there)) in
        let on = looks_on_way-append reads way (record { node = at.node; place = at.place + 1 }) in
        let fewer = unmet-less (λ n. suc (length (reads n))) met marks s.0 updates (length slots) (there-within slots s.0 (read-there at.node.0 at.place s there)) (not-there (value_at met s.0) unknown) in
        let first = ap (λ m. length (reads m)) same in
        omega (arith, h, on, fewer, first)

    pub less-went-down : (s : PhysStream) (marks : List (Option Unit)) (way' : List Open) (to : Open) → slice_get (slot_inputs slots at.node.0) at.place ≡ Some (stream_of s) → is_some (value_at met s.node.0) ≡ false → Updates met marks s.node.0 (Some tt)
        → way' ≡ way ++ record { node = at.node; place = at.place + 1 } ∷ [] → to ≡ record { node = s.node; place = 0 } → looks_left reads (length slots) marks way' to < left_before
    less-went-down s marks way' to there unknown updates way_is to_is =
        let P : List Open → Type 0 = λ os. looks_left reads (length slots) marks os to < left_before in
        let R : Open → Type 0 = λ o. looks_left reads (length slots) marks (way ++ record { node = at.node; place = at.place + 1 } ∷ []) o < left_before in
        subst P (sym way_is) (subst R (sym to_is) (less-down (stream_of s) s.node marks there refl unknown updates))

-- what the whole walk leaves
pub started : (slots : List (Option PhysNode)) → ReadsWhatIsThere slots → (root : PhysNodeKey) (none marks : List (Option Unit)) (way : List Open) (old left : List PhysNodeKey) → IsSome (value_at slots root.0)
    → none ≡ [] → Updates none marks root.0 (Some tt) → way ≡ [] → old ≡ [] → ((r : ℕ) → IsUnderway slots r marks way old (record { node = root; place = 0 }) → AreLeft slots r left) → AreLeft slots root.0 left
started slots whole root none marks way old left there is_none updates is_way is_old ends =
    let P : List (Option Unit) → Type 0 = λ m. Updates m marks root.0 (Some tt) in
    let Q : List Open → Type 0 = λ os. IsUnderway slots root.0 marks os old (record { node = root; place = 0 }) in
    let R : List PhysNodeKey → Type 0 = λ l. IsUnderway slots root.0 marks [] l (record { node = root; place = 0 }) in
    ends root.0 (subst Q (sym is_way) (subst R (sym is_old) (begins slots whole root marks there (subst P is_none updates))))

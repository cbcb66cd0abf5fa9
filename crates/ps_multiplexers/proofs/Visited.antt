-- The walk step by step.
use Rattle.std.proofs.Common.{◌≡◌, ◌≢◌, ◌⊎◌, inl, inr, ℕ, zero, suc, ◌+◌, ◌-◌, ◌<◌, ◌≤◌, Bool, true, false, List, [], ◌∷◌, ◌++◌, length, take, Option, Some, None, refl, sym, ap, subst, ◌∙◌, arith}
use Rattle.std.proofs.lemmas.List.{append_assoc, append-nil, length-append, reverse-append}
use Rattle.std.proofs.lemmas.List.Concat.{flat_map-append}
use Rattle.std.proofs.lemmas.Bool.{eqb-false, eqb-true}
use Rattle.std.specs.Prelude.{flat_map, fold, if◌then◌else◌, is_some, reverse, slice_get, IsSome, ◌==◌}
use Rattle.std.specs.List.{AllByRecursion}
use Rattle.keyed_slots.specs.Slots.{Updates, value_at}
use Rattle.ps_multiplexers.specs.Multiplexers.{Waiting, push_if_new, walk_from, walked}
use Rattle.ps_multiplexers.specs.Visiting.{IsVisited, IsVisiting, Waits, left_to_take, unpushed}
use Rattle.ps_phys.specs.Shown.{ReadsWhatIsThere, inputs_of}
use Rattle.ps_phys.specs.Underway.{AreThere, inputs_or_none, numbers_in, slot_reads}
use Rattle.ps_phys.specs.Walks.{Stream, is_one_of, numbers_of}
use Rattle.ps_phys.specs.declared.phys.PhysNode.{PhysNode}
use Rattle.ps_phys.specs.declared.phys.PhysNodeKey.{PhysNodeKey}

below_or_is : (n c : ℕ) → n < suc c → (n < c) ⊎ (n ≡ c)
below_or_is zero zero h = inr refl
below_or_is zero (suc c) h = inl (omega arith)
below_or_is (suc n) zero h = absurd (omega (arith, h))
below_or_is (suc n) (suc c) h = by (below_or_is n c (omega (arith, h)))
  where
    by : (n < c) ⊎ (n ≡ c) → (suc n < suc c) ⊎ (suc n ≡ suc c)
    by (inl l) = inl (omega (arith, l))
    by (inr e) = inr (ap (λ m. suc m) e)

module _ (old new : List (Option Unit)) (n : ℕ) (updates : Updates old new n (Some tt)) where
  unpushed-same : (c : ℕ) → c ≤ n → unpushed c new ≡ unpushed c old
  unpushed-same zero h = refl
  unpushed-same (suc c) h =
      let other : c ≢ n = λ e. omega (arith, h, e) in
      rw (updates.others c other, unpushed-same c (omega (arith, h))) refl

  pub unpushed-less : (c : ℕ) → n < c → value_at old n ≡ None → unpushed c new + 1 ≡ unpushed c old
  unpushed-less zero h none = absurd (omega (arith, h))
  unpushed-less (suc c) h none = by (below_or_is n c h) (λ l. unpushed-less c l none)
    where
      by : (n < c) ⊎ (n ≡ c) → (n < c → unpushed c new + 1 ≡ unpushed c old) → unpushed (suc c) new + 1 ≡ unpushed (suc c) old
      by (inl l) rest =
          let other : c ≢ n = λ e. omega (arith, l, e) in
          let below = rest l in
          rw (updates.others c other) (omega (arith, below))
      by (inr e) rest =
          let P : ℕ → Type 0 = λ m. unpushed (suc m) new + 1 ≡ unpushed (suc m) old in
          subst P e (let same = unpushed-same n (omega arith) in rw (updates.changed, none, same) (omega arith))

pub unknown-is : (o : Option Unit) → (IsSome o → false ≡ true) → is_some o ≡ false
unknown-is None h = refl
unknown-is (Some v) h = absurd (let never : false ≡ true = h refl in cc)

none-of : (o : Option Unit) → is_some o ≡ false → o ≡ None
none-of None e = refl
none-of (Some v) e = cc

pub numbers-push : (ks : List PhysNodeKey) (k : PhysNodeKey) → numbers_in (ks ++ k ∷ []) ≡ numbers_in ks ++ k.0 ∷ []
numbers-push [] k = refl
numbers-push (x ∷ ks) k = ap (λ ns. x.0 ∷ ns) (numbers-push ks k)

-- a key on top of others
on-top : (ks : List PhysNodeKey) (k : PhysNodeKey) → reverse (numbers_in (ks ++ k ∷ [])) ≡ k.0 ∷ reverse (numbers_in ks)
on-top ks k = ap (λ ns. reverse ns) (numbers-push ks k) ∙ reverse-append (numbers_in ks) (k.0 ∷ [])

pub all-push : {A : Type 0} (P : A → Type 0) (xs : List A) (x : A) → AllByRecursion P xs → P x → AllByRecursion P (xs ++ x ∷ [])
all-push P [] x all h = (h, tt)
all-push P (y ∷ ys) x all h = (all.0, all-push P ys x all.1 h)

pub all-before : {A : Type 0} (P : A → Type 0) (xs : List A) (x : A) → AllByRecursion P (xs ++ x ∷ []) → AllByRecursion P xs
all-before P [] x all = tt
all-before P (y ∷ ys) x all = (all.0, all-before P ys x all.1)

pub all-last : {A : Type 0} (P : A → Type 0) (xs : List A) (x : A) → AllByRecursion P (xs ++ x ∷ []) → P x
all-last P [] x all = all.0
all-last P (y ∷ ys) x all = all-last P ys x all.1

pub all-at : {A : Type 0} (P : A → Type 0) (xs : List A) (k : ℕ) (x : A) → AllByRecursion P xs → slice_get xs k ≡ Some x → P x
all-at P [] k x all e = cc
all-at P (y ∷ ys) zero x all e = let is : y ≡ x = cc in subst P is all.0
all-at P (y ∷ ys) (suc k) x all e = all-at P ys k x all.1 e

pub there-within : {A : Type 0} (slots : List (Option A)) (n : ℕ) → IsSome (value_at slots n) → n < length slots
there-within [] n h = cc
there-within (s ∷ slots) zero h = omega arith
there-within (s ∷ slots) (suc n) h = let l = there-within slots n h in omega (arith, l)

pub all-mapped : {A : Type 0} (P Q : A → Type 0) (xs : List A) → ((x : A) → P x → Q x) → AllByRecursion P xs → AllByRecursion Q xs
all-mapped P Q [] f all = tt
all-mapped P Q (x ∷ xs) f all = (f x all.0, all-mapped P Q xs f all.1)

-- a node that was pushed before
pub waits-known : (pushed : List (Option Unit)) (waiting : List PhysNodeKey) (w : Waiting) (n : ℕ) → Waits pushed waiting w → IsSome (value_at pushed n) → Waits pushed waiting (push_if_new w n)
waits-known pushed waiting w n waits known =
    let P : Waiting → Type 0 = λ v. Waits pushed waiting v in
    let is : is_one_of n w.pushed ≡ true = sym (waits.marked n) ∙ known in
    subst P (sym (by (is_one_of n w.pushed) is)) waits
  where
    by : (b : Bool) → b ≡ true → ◌≡◌ {A = Waiting} (if b then w else record { stack = n ∷ w.stack; pushed = n ∷ w.pushed }) w
    by true e = refl
    by false e = cc

-- a node that is pushed now
pub waits-new : (pushed new : List (Option Unit)) (waiting more : List PhysNodeKey) (w : Waiting) (k : PhysNodeKey) → Waits pushed waiting w → is_some (value_at pushed k.0) ≡ false
    → Updates pushed new k.0 (Some tt) → more ≡ waiting ++ k ∷ [] → Waits new more (push_if_new w k.0)
waits-new pushed new waiting more w k waits unknown updates is =
    let P : Waiting → Type 0 = λ v. Waits new more v in
    let new_one : is_one_of k.0 w.pushed ≡ false = sym (waits.marked k.0) ∙ unknown in
    subst P (sym (by (is_one_of k.0 w.pushed) new_one)) (record { stack = ap (λ ns. k.0 ∷ ns) waits.stack ∙ sym (on-top waiting k) ∙ ap (λ ks. reverse (numbers_in ks)) (sym is); marked = both })
  where
    by : (b : Bool) → b ≡ false → ◌≡◌ {A = Waiting} (if b then w else record { stack = k.0 ∷ w.stack; pushed = k.0 ∷ w.pushed }) (record { stack = k.0 ∷ w.stack; pushed = k.0 ∷ w.pushed })
    by true e = cc
    by false e = refl

    both : (n : ℕ) → is_some (value_at new n) ≡ is_one_of n (k.0 ∷ w.pushed)
    both n = which (k.0 == n) refl
      where
        which : (b : Bool) → k.0 == n ≡ b → is_some (value_at new n) ≡ is_one_of n (k.0 ∷ w.pushed)
        which true e = let is : k.0 ≡ n = eqb-true k.0 n e in let P : ℕ → Type 0 = λ m. is_some (value_at new m) ≡ true in rw e (subst P is (ap is_some updates.changed))
        which false e = let other : n ≢ k.0 = λ is. eqb-false k.0 n e (sym is) in rw e (ap is_some (updates.others n other) ∙ waits.marked n)

-- it waits, and no longer counts as not pushed
pub left-new : (pushed new : List (Option Unit)) (waiting more : List PhysNodeKey) (k : PhysNodeKey) (count : ℕ) → is_some (value_at pushed k.0) ≡ false → Updates pushed new k.0 (Some tt) → more ≡ waiting ++ k ∷ []
    → k.0 < count → left_to_take count new more ≡ left_to_take count pushed waiting
left-new pushed new waiting more k count unknown updates is within =
    let fewer = unpushed-less pushed new k.0 updates count within (none-of (value_at pushed k.0) unknown) in
    let longer = ap length is ∙ length-append waiting (k ∷ []) in
    omega (arith, fewer, longer)

pub there-new : (slots : List (Option PhysNode)) (waiting more : List PhysNodeKey) (k : PhysNodeKey) → IsSome (value_at slots k.0) → AreThere slots waiting → more ≡ waiting ++ k ∷ [] → AreThere slots more
there-new slots waiting more k here all is =
    let P : List PhysNodeKey → Type 0 = λ ks. AreThere slots ks in
    let Q : PhysNodeKey → Type 0 = λ x. IsSome (value_at slots x.0) in
    subst P (sym is) (all-push Q waiting k all here)

-- one more input is read
fold-push : (w : Waiting) (xs : List ℕ) (x : ℕ) → fold push_if_new w (xs ++ x ∷ []) ≡ push_if_new (fold push_if_new w xs) x
fold-push w [] x = refl
fold-push w (y ∷ ys) x = fold-push (push_if_new w y) ys x

numbers_of-push : (xs : List Stream) (x : Stream) → numbers_of (xs ++ x ∷ []) ≡ numbers_of xs ++ x.0 ∷ []
numbers_of-push [] x = refl
numbers_of-push (y ∷ ys) x = ap (λ ns. y.0 ∷ ns) (numbers_of-push ys x)

take-next : {A : Type 0} (xs : List A) (k : ℕ) (x : A) → slice_get xs k ≡ Some x → take (suc k) xs ≡ take k xs ++ x ∷ []
take-next [] k x e = cc
take-next (y ∷ ys) zero x e = let is : y ≡ x = cc in ap (λ z. z ∷ []) is
take-next (y ∷ ys) (suc k) x e = ap (λ zs. y ∷ zs) (take-next ys k x e)

take-one-more : {A : Type 0} (xs : List A) (k : ℕ) (x : A) → slice_get xs k ≡ Some x → take (k + 1) xs ≡ take k xs ++ x ∷ []
take-one-more xs k x e = let P : ℕ → Type 0 = λ m. take m xs ≡ take k xs ++ x ∷ [] in let same : suc k ≡ k + 1 = omega arith in subst P same (take-next xs k x e)

take-to-end : {A : Type 0} (xs : List A) (k : ℕ) → slice_get xs k ≡ None → take k xs ≡ xs
take-to-end [] zero e = refl
take-to-end [] (suc k) e = refl
take-to-end (y ∷ ys) zero e = cc
take-to-end (y ∷ ys) (suc k) e = ap (λ zs. y ∷ zs) (take-to-end ys k e)

pub input-within : {A : Type 0} (xs : List A) (k : ℕ) (x : A) → slice_get xs k ≡ Some x → k < length xs
input-within [] k x e = cc
input-within (y ∷ ys) zero x e = omega arith
input-within (y ∷ ys) (suc k) x e = let l = input-within ys k x e in omega (arith, l)

module _ (inputs : List Stream) (k : ℕ) where
  abbrev so_far : List ℕ
  so_far = numbers_of (take k inputs)

  numbers-next : (x : Stream) → slice_get inputs k ≡ Some x → numbers_of (take (k + 1) inputs) ≡ so_far ++ x.0 ∷ []
  numbers-next x e = ap (λ is. numbers_of is) (take-one-more inputs k x e) ∙ numbers_of-push (take k inputs) x

  pub waits-next : (x : Stream) (w : Waiting) (pushed : List (Option Unit)) (waiting : List PhysNodeKey) → slice_get inputs k ≡ Some x → Waits pushed waiting (push_if_new (fold push_if_new w so_far) x.0)
      → Waits pushed waiting (fold push_if_new w (numbers_of (take (k + 1) inputs)))
  waits-next x w pushed waiting e waits = let P : Waiting → Type 0 = λ v. Waits pushed waiting v in subst P (sym (ap (λ ns. fold push_if_new w ns) (numbers-next x e) ∙ fold-push w so_far x.0)) waits

  pub waits-end : (w : Waiting) (pushed : List (Option Unit)) (waiting : List PhysNodeKey) → slice_get inputs k ≡ None → Waits pushed waiting (fold push_if_new w so_far) → Waits pushed waiting (fold push_if_new w (numbers_of inputs))
  waits-end w pushed waiting e waits = let P : List Stream → Type 0 = λ is. Waits pushed waiting (fold push_if_new w (numbers_of is)) in subst P (take-to-end inputs k e) waits

  pub read-next : (x : Stream) (key : PhysNodeKey) (old read more : List PhysNodeKey) → slice_get inputs k ≡ Some x → key.0 ≡ x.0 → numbers_in read ≡ numbers_in old ++ so_far → more ≡ read ++ key ∷ []
      → numbers_in more ≡ numbers_in old ++ numbers_of (take (k + 1) inputs)
  read-next x key old read more e same before is =
      ap numbers_in is ∙ numbers-push read key ∙ ap (λ ns. ns ++ key.0 ∷ []) before ∙ append_assoc (numbers_in old) so_far (key.0 ∷ [])
      ∙ ap (λ n. numbers_in old ++ (so_far ++ n ∷ [])) same ∙ ap (λ ns. numbers_in old ++ ns) (sym (numbers-next x e))

  pub read-end : (old read : List PhysNodeKey) → slice_get inputs k ≡ None → numbers_in read ≡ numbers_in old ++ so_far → numbers_in read ≡ numbers_in old ++ numbers_of inputs
  read-end old read e before = before ∙ ap (λ is. numbers_in old ++ numbers_of is) (take-to-end inputs k e)

-- a node is taken from the top
module _ (slots : List (Option PhysNode)) (whole : ReadsWhatIsThere slots) (n : PhysNodeKey) (p : PhysNode) (here : value_at slots n.0 ≡ Some p) where
  reads-of : slot_reads slots n.0 ≡ numbers_of (inputs_of p.kind)
  reads-of = ap (λ o. numbers_of (inputs_or_none o)) here

  pub inputs-within : AllByRecursion (λ (i : Stream). i.0 < length slots) (inputs_of p.kind)
  inputs-within = all-mapped (λ (i : Stream). IsSome (value_at slots i.0)) (λ (i : Stream). i.0 < length slots) (inputs_of p.kind) (λ (i : Stream) h. there-within slots i.0 h) (whole n.0 p here)

  pub took : (root : ℕ) (pushed pushed' : List (Option Unit)) (waiting waiting' taken taken' read read' : List PhysNodeKey)
      → ((w : Waiting) → Waits pushed waiting w → Waits pushed' waiting' (fold push_if_new w (numbers_of (inputs_of p.kind))))
      → left_to_take (length slots) pushed' waiting' ≡ left_to_take (length slots) pushed waiting
      → (AreThere slots waiting → AreThere slots waiting')
      → taken' ≡ taken ++ n ∷ [] → numbers_in read' ≡ numbers_in read ++ numbers_of (inputs_of p.kind)
      → IsVisiting slots root pushed (waiting ++ n ∷ []) taken read → IsVisiting slots root pushed' waiting' taken' read'
  took root pushed pushed' waiting waiting' taken taken' read read' waits left there taken_is read_is v =
      let Q : PhysNodeKey → Type 0 = λ x. IsSome (value_at slots x.0) in
      let P : List PhysNodeKey → Type 0 = λ ks. AreThere slots ks in
      record {
        w = after;
        waits = waits before (record { stack = refl; marked = v.waits.marked });
        goes = goes;
        reads = read_is ∙ ap (λ ns. ns ++ numbers_of (inputs_of p.kind)) v.reads ∙ ap (λ ns. flat_map (slot_reads slots) (numbers_in taken) ++ ns) (sym reads-of)
            ∙ reads-more ∙ ap (λ ks. flat_map (slot_reads slots) (numbers_in ks)) (sym taken_is);
        there = there (all-before Q waiting n v.there);
        gone = subst P (sym taken_is) (all-push Q taken n v.gone (all-last Q waiting n v.there));
      }
    where
      before : Waiting
      before = record { stack = reverse (numbers_in waiting); pushed = v.w.pushed }

      after : Waiting
      after = fold push_if_new before (numbers_of (inputs_of p.kind))

      reads-more : flat_map (slot_reads slots) (numbers_in taken) ++ slot_reads slots n.0 ≡ flat_map (slot_reads slots) (numbers_in (taken ++ n ∷ []))
      reads-more =
          ap (λ ns. flat_map (slot_reads slots) (numbers_in taken) ++ ns) (sym (append-nil (slot_reads slots n.0))) ∙ sym (flat_map-append (slot_reads slots) (numbers_in taken) (n.0 ∷ []))
          ∙ ap (λ ns. flat_map (slot_reads slots) ns) (sym (numbers-push taken n))

      goes : numbers_in taken' ++ walked (slot_reads slots) (left_to_take (length slots) pushed' waiting') after ≡ walk_from (slot_reads slots) (length slots) root
      goes = by (left_to_take (length slots) pushed waiting) refl
        where
          walks : (k : ℕ) → walked (slot_reads slots) (suc k) v.w ≡ n.0 ∷ walked (slot_reads slots) k (fold push_if_new before (slot_reads slots n.0))
          walks k =
              let P : List ℕ → Type 0 = λ stack. walked (slot_reads slots) (suc k) (record { stack = stack; pushed = v.w.pushed }) ≡ n.0 ∷ walked (slot_reads slots) k (fold push_if_new before (slot_reads slots n.0)) in
              subst P (sym (v.waits.stack ∙ on-top waiting n)) refl

          more : (k : ℕ) → left_to_take (length slots) pushed waiting ≡ k → left_to_take (length slots) pushed (waiting ++ n ∷ []) ≡ suc k
          more k e = let longer = length-append waiting (n ∷ []) in omega (arith, longer, e)

          by : (k : ℕ) → left_to_take (length slots) pushed waiting ≡ k → numbers_in taken' ++ walked (slot_reads slots) (left_to_take (length slots) pushed' waiting') after ≡ walk_from (slot_reads slots) (length slots) root
          by k e =
              ap (λ ks. numbers_in ks ++ walked (slot_reads slots) (left_to_take (length slots) pushed' waiting') after) taken_is
              ∙ ap (λ ns. ns ++ walked (slot_reads slots) (left_to_take (length slots) pushed' waiting') after) (numbers-push taken n)
              ∙ append_assoc (numbers_in taken) (n.0 ∷ []) (walked (slot_reads slots) (left_to_take (length slots) pushed' waiting') after)
              ∙ ap (λ m. numbers_in taken ++ (n.0 ∷ walked (slot_reads slots) m after)) (left ∙ e)
              ∙ ap (λ ns. numbers_in taken ++ (n.0 ∷ walked (slot_reads slots) k (fold push_if_new before ns))) (sym reads-of)
              ∙ ap (λ ns. numbers_in taken ++ ns) (sym (walks k))
              ∙ ap (λ m. numbers_in taken ++ walked (slot_reads slots) m v.w) (sym (more k e))
              ∙ v.goes

-- the walk begins at the root
pub begins : (slots : List (Option PhysNode)) (root : PhysNodeKey) (marks : List (Option Unit)) (waiting : List PhysNodeKey) → IsSome (value_at slots root.0) → Updates [] marks root.0 (Some tt) → waiting ≡ root ∷ [] → IsVisiting slots root.0 marks waiting [] []
begins slots root marks waiting there updates is =
    let P : List PhysNodeKey → Type 0 = λ ks. IsVisiting slots root.0 marks ks [] [] in
    let empty : Waits [] [] (record { stack = []; pushed = [] }) = record { stack = refl; marked = λ n. refl } in
    subst P (sym is) (record {
      w = record { stack = root.0 ∷ []; pushed = root.0 ∷ [] };
      waits = waits-new [] marks [] (root ∷ []) (record { stack = []; pushed = [] }) root empty refl updates refl;
      goes = ap (λ m. walked (slot_reads slots) m (record { stack = root.0 ∷ []; pushed = root.0 ∷ [] })) (left-new [] marks [] (root ∷ []) root (length slots) refl updates refl (there-within slots root.0 there) ∙ all-left (length slots));
      reads = refl;
      there = (there, tt);
      gone = tt;
    })
  where
    all-unpushed : (c : ℕ) → unpushed c [] ≡ c
    all-unpushed zero = refl
    all-unpushed (suc c) = let h = all-unpushed c in omega (arith, h)

    all-left : (c : ℕ) → left_to_take c [] [] ≡ c
    all-left c = let h = all-unpushed c in omega (arith, h)

-- and ends when none waits
pub ends : (slots : List (Option PhysNode)) (root : ℕ) (pushed : List (Option Unit)) (waiting taken read : List PhysNodeKey) → waiting ≡ [] → IsVisiting slots root pushed waiting taken read → IsVisited slots root taken read
ends slots root pushed waiting taken read none v =
    record {
      walk = sym (append-nil (numbers_in taken)) ∙ ap (λ ns. numbers_in taken ++ ns) (sym (over (left_to_take (length slots) pushed waiting))) ∙ v.goes;
      reads = v.reads;
      gone = v.gone;
    }
  where
    over : (k : ℕ) → walked (slot_reads slots) k v.w ≡ []
    over zero = refl
    over (suc k) =
        let P : List ℕ → Type 0 = λ stack. walked (slot_reads slots) (suc k) (record { stack = stack; pushed = v.w.pushed }) ≡ [] in
        subst P (sym (v.waits.stack ∙ ap (λ ks. reverse (numbers_in ks)) none)) refl

pub started : (slots : List (Option PhysNode)) (root : PhysNodeKey) (empty marks : List (Option Unit)) (none waiting taken read : List PhysNodeKey) → IsSome (value_at slots root.0) → empty ≡ [] → Updates empty marks root.0 (Some tt)
    → none ≡ [] → waiting ≡ none ++ root ∷ [] → taken ≡ [] → read ≡ [] → IsVisiting slots root.0 marks waiting taken read
started slots root empty marks none waiting taken read there is_empty updates is_none is no_taken no_read =
    let P : List (Option Unit) → Type 0 = λ m. Updates m marks root.0 (Some tt) in
    let Q : List PhysNodeKey → Type 0 = λ ks. IsVisiting slots root.0 marks waiting ks read in
    let R : List PhysNodeKey → Type 0 = λ ks. IsVisiting slots root.0 marks waiting [] ks in
    subst Q (sym no_taken) (subst R (sym no_read) (begins slots root marks waiting there (subst P is_empty updates) (is ∙ ap (λ ks. ks ++ root ∷ []) is_none)))

pub root-waits : (slots : List (Option PhysNode)) (root : PhysNodeKey) (none waiting : List PhysNodeKey) → IsSome (value_at slots root.0) → none ≡ [] → waiting ≡ none ++ root ∷ [] → AreThere slots waiting
root-waits slots root none waiting there is_none is =
    let P : List PhysNodeKey → Type 0 = λ ks. AreThere slots ks in
    subst P (sym (is ∙ ap (λ ks. ks ++ root ∷ []) is_none)) (there, tt)

-- the last one that waits is popped
pub popped-less : (count : ℕ) (pushed pushed' : List (Option Unit)) (waiting rest waiting' : List PhysNodeKey) (n : PhysNodeKey) → waiting ≡ rest ++ n ∷ [] → left_to_take count pushed' waiting' ≡ left_to_take count pushed rest → left_to_take count pushed' waiting' < left_to_take count pushed waiting
popped-less count pushed pushed' waiting rest waiting' n is left = let longer = ap length is ∙ length-append rest (n ∷ []) in omega (arith, longer, left)

pub popped-there : (slots : List (Option PhysNode)) (waiting rest : List PhysNodeKey) (n : PhysNodeKey) → waiting ≡ rest ++ n ∷ [] → AreThere slots waiting → IsSome (value_at slots n.0) × AreThere slots rest
popped-there slots waiting rest n is all =
    let P : List PhysNodeKey → Type 0 = λ ks. AreThere slots ks in
    let Q : PhysNodeKey → Type 0 = λ x. IsSome (value_at slots x.0) in
    (all-last Q rest n (subst P is all), all-before Q rest n (subst P is all))

pub popped-visits : (slots : List (Option PhysNode)) (root : ℕ) (pushed : List (Option Unit)) (waiting rest taken read : List PhysNodeKey) (n : PhysNodeKey) → waiting ≡ rest ++ n ∷ [] → IsVisiting slots root pushed waiting taken read → IsVisiting slots root pushed (rest ++ n ∷ []) taken read
popped-visits slots root pushed waiting rest taken read n is v = let P : List PhysNodeKey → Type 0 = λ ks. IsVisiting slots root pushed ks taken read in subst P is v

pub popped-none : (m : ℕ) (old new : List PhysNodeKey) → m ≡ 0 → new ≡ take (m - 1) old → old ≡ new ++ [] → old ≡ []
popped-none m old new none is all = all ∙ append-nil new ∙ is ∙ ap (λ k. take (k - 1) old) none

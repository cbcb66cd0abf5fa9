-- The walk takes no node twice, and each reader's streams stand where it was taken.
use Rattle.std.proofs.Common.{◌≡◌, ◌≢◌, ◌⊎◌, inl, inr, ℕ, zero, suc, ◌+◌, ◌<◌, Bool, true, false, List, [], ◌∷◌, ◌++◌, length, refl, sym, ap, subst, ◌∙◌, arith}
use Rattle.std.proofs.lemmas.List.{append_assoc, append-nil}
use Rattle.std.proofs.lemmas.Bool.{eqb-false, eqb-true}
use Rattle.std.specs.Prelude.{Option, fold, if◌then◌else◌, ◌==◌, ◌||◌}
use Rattle.ps_meaning.specs.Shape.{PhysicalNode, Shape}
use Rattle.ps_multiplexers.proofs.Keeping.{AllBelow}
use Rattle.ps_multiplexers.specs.Multiplexers.{Waiting, changed, inputs_through, port_or_stream, push_if_new, rewired, times, walked, with_inputs}
use Rattle.ps_multiplexers.specs.Taken.{streams_of_nodes}
use Rattle.ps_phys.specs.Walks.{Stream, is_one_of, node_at, numbers_of}

-- no number stands twice
abbrev pub Apart : List ℕ → Type 0
Apart [] = Unit {0}
Apart (n ∷ ns) = (is_one_of n ns ≡ false) × Apart ns

abbrev wait : List ℕ → List ℕ → Waiting
wait stack pushed = record { stack = stack; pushed = pushed }

pub record IsApart (w : Waiting) : Type 0 where
  pub apart : Apart w.stack
  pub inside : (m : ℕ) → is_one_of m w.stack ≡ true → is_one_of m w.pushed ≡ true

true-false : (b : Bool) → b ≡ true → b ≡ false → ⊥
true-false b t f = let never : true ≡ false = sym t ∙ f in cc

not-one : (b : Bool) → (b ≡ true → ⊥) → b ≡ false
not-one true h = absurd (h refl)
not-one false h = refl

either-way : (b : Bool) → (b ≡ true) ⊎ (b ≡ false)
either-way true = inl refl
either-way false = inr refl

push-new : (w : Waiting) (n : ℕ) → is_one_of n w.pushed ≡ false → push_if_new w n ≡ wait (n ∷ w.stack) (n ∷ w.pushed)
push-new w n e = by (is_one_of n w.pushed) e
  where
    by : (b : Bool) → b ≡ false → ◌≡◌ {A = Waiting} (if b then w else record { stack = n ∷ w.stack; pushed = n ∷ w.pushed }) (wait (n ∷ w.stack) (n ∷ w.pushed))
    by true f = cc
    by false f = refl

push-known : (w : Waiting) (n : ℕ) → is_one_of n w.pushed ≡ true → push_if_new w n ≡ w
push-known w n e = by (is_one_of n w.pushed) e
  where
    by : (b : Bool) → b ≡ true → ◌≡◌ {A = Waiting} (if b then w else record { stack = n ∷ w.stack; pushed = n ∷ w.pushed }) w
    by true f = refl
    by false f = cc

member-front : (m n : ℕ) (ns : List ℕ) → is_one_of m (n ∷ ns) ≡ true → (n ≡ m) ⊎ (is_one_of m ns ≡ true)
member-front m n ns e = by (n == m) refl e
  where
    by : (b : Bool) → n == m ≡ b → (b || is_one_of m ns) ≡ true → (n ≡ m) ⊎ (is_one_of m ns ≡ true)
    by true is f = inl (eqb-true n m is)
    by false is f = inr f

member-more : (m n : ℕ) (ns : List ℕ) → is_one_of m ns ≡ true → is_one_of m (n ∷ ns) ≡ true
member-more m n ns e = by (n == m)
  where
    by : (b : Bool) → (b || is_one_of m ns) ≡ true
    by true = refl
    by false = e

member-here : (m n : ℕ) (ns : List ℕ) → n ≡ m → is_one_of m (n ∷ ns) ≡ true
member-here m n ns is = by (n == m) refl
  where
    by : (b : Bool) → n == m ≡ b → (b || is_one_of m ns) ≡ true
    by true e = refl
    by false e = absurd (eqb-false n m e is)

-- what was pushed stays so
stays-one : (w : Waiting) (n m : ℕ) → is_one_of m w.pushed ≡ true → is_one_of m (push_if_new w n).pushed ≡ true
stays-one w n m e = by (either-way (is_one_of n w.pushed))
  where
    P : Waiting → Type 0
    P v = is_one_of m v.pushed ≡ true

    by : (is_one_of n w.pushed ≡ true) ⊎ (is_one_of n w.pushed ≡ false) → is_one_of m (push_if_new w n).pushed ≡ true
    by (inl t) = ap (λ (v : Waiting). is_one_of m v.pushed) (push-known w n t) ∙ e
    by (inr f) = ap (λ (v : Waiting). is_one_of m v.pushed) (push-new w n f) ∙ member-more m n w.pushed e

stays : (ns : List ℕ) (w : Waiting) (m : ℕ) → is_one_of m w.pushed ≡ true → is_one_of m (fold push_if_new w ns).pushed ≡ true
stays [] w m e = e
stays (n ∷ ns) w m e = stays ns (push_if_new w n) m (stays-one w n m e)

-- what waits was there before, or wasn't pushed
back-one : (w : Waiting) (n m : ℕ) → is_one_of m (push_if_new w n).stack ≡ true → (is_one_of m w.stack ≡ true) ⊎ (is_one_of m w.pushed ≡ false)
back-one w n m e = by (either-way (is_one_of n w.pushed))
  where
    new : is_one_of n w.pushed ≡ false → (n ≡ m) ⊎ (is_one_of m w.stack ≡ true) → (is_one_of m w.stack ≡ true) ⊎ (is_one_of m w.pushed ≡ false)
    new f (inl is) = let P : ℕ → Type 0 = λ x. is_one_of x w.pushed ≡ false in inr (subst P is f)
    new f (inr t) = inl t

    by : (is_one_of n w.pushed ≡ true) ⊎ (is_one_of n w.pushed ≡ false) → (is_one_of m w.stack ≡ true) ⊎ (is_one_of m w.pushed ≡ false)
    by (inl t) = inl (sym (ap (λ (v : Waiting). is_one_of m v.stack) (push-known w n t)) ∙ e)
    by (inr f) = new f (member-front m n w.stack (sym (ap (λ (v : Waiting). is_one_of m v.stack) (push-new w n f)) ∙ e))

back : (ns : List ℕ) (w : Waiting) (m : ℕ) → is_one_of m (fold push_if_new w ns).stack ≡ true → (is_one_of m w.stack ≡ true) ⊎ (is_one_of m w.pushed ≡ false)
back [] w m e = inl e
back (n ∷ ns) w m e = by (back ns (push_if_new w n) m e)
  where
    by : (is_one_of m (push_if_new w n).stack ≡ true) ⊎ (is_one_of m (push_if_new w n).pushed ≡ false) → (is_one_of m w.stack ≡ true) ⊎ (is_one_of m w.pushed ≡ false)
    by (inl t) = back-one w n m t
    by (inr f) = inr (not-one (is_one_of m w.pushed) (λ t. true-false (is_one_of m (push_if_new w n).pushed) (stays-one w n m t) f))

apart-one : (w : Waiting) (n : ℕ) → IsApart w → IsApart (push_if_new w n)
apart-one w n a = by (either-way (is_one_of n w.pushed))
  where
    by : (is_one_of n w.pushed ≡ true) ⊎ (is_one_of n w.pushed ≡ false) → IsApart (push_if_new w n)
    by (inl t) = let P : Waiting → Type 0 = λ v. IsApart v in subst P (sym (push-known w n t)) a
    by (inr f) =
        let P : Waiting → Type 0 = λ v. IsApart v in
        subst P (sym (push-new w n f)) (record {
          apart = (not-one (is_one_of n w.stack) (λ t. true-false (is_one_of n w.pushed) (a.inside n t) f), a.apart);
          inside = λ m e. which m (member-front m n w.stack e);
        })
      where
        which : (m : ℕ) → (n ≡ m) ⊎ (is_one_of m w.stack ≡ true) → is_one_of m (n ∷ w.pushed) ≡ true
        which m (inl is) = member-here m n w.pushed is
        which m (inr t) = member-more m n w.pushed (a.inside m t)

apart-all : (ns : List ℕ) (w : Waiting) → IsApart w → IsApart (fold push_if_new w ns)
apart-all [] w a = a
apart-all (n ∷ ns) w a = apart-all ns (push_if_new w n) (apart-one w n a)

module _ (reads : ℕ → List ℕ) where
  walked-in : (k : ℕ) (stack pushed : List ℕ) (m : ℕ) → is_one_of m (walked reads k (wait stack pushed)) ≡ true → (is_one_of m stack ≡ true) ⊎ (is_one_of m pushed ≡ false)
  walked-in zero stack pushed m e = cc
  walked-in (suc k) [] pushed m e = cc
  walked-in (suc k) (n ∷ stack) pushed m e =
      by (member-front m n (walked reads k next) e) (λ f. walked-in k next.stack next.pushed m f)
    where
      next : Waiting
      next = fold push_if_new (wait stack pushed) (reads n)

      was : (is_one_of m stack ≡ true) ⊎ (is_one_of m pushed ≡ false) → (is_one_of m (n ∷ stack) ≡ true) ⊎ (is_one_of m pushed ≡ false)
      was (inl t) = inl (member-more m n stack t)
      was (inr f) = inr f

      later : (is_one_of m next.stack ≡ true) ⊎ (is_one_of m next.pushed ≡ false) → (is_one_of m (n ∷ stack) ≡ true) ⊎ (is_one_of m pushed ≡ false)
      later (inl t) = was (back (reads n) (wait stack pushed) m t)
      later (inr f) = inr (not-one (is_one_of m pushed) (λ t. true-false (is_one_of m next.pushed) (stays (reads n) (wait stack pushed) m t) f))

      by : (n ≡ m) ⊎ (is_one_of m (walked reads k next) ≡ true) → (is_one_of m (walked reads k next) ≡ true → (is_one_of m next.stack ≡ true) ⊎ (is_one_of m next.pushed ≡ false))
          → (is_one_of m (n ∷ stack) ≡ true) ⊎ (is_one_of m pushed ≡ false)
      by (inl is) rest = inl (member-here m n stack is)
      by (inr t) rest = later (rest t)

  -- the walk takes no node twice
  pub walked-apart : (k : ℕ) (stack pushed : List ℕ) → IsApart (wait stack pushed) → Apart (walked reads k (wait stack pushed))
  walked-apart zero stack pushed a = tt
  walked-apart (suc k) [] pushed a = tt
  walked-apart (suc k) (n ∷ stack) pushed a =
      (not-one (is_one_of n (walked reads k next)) (λ t. never (walked-in k next.stack next.pushed n t)), walked-apart k next.stack next.pushed (apart-all (reads n) (wait stack pushed) tail))
    where
      next : Waiting
      next = fold push_if_new (wait stack pushed) (reads n)

      tail : IsApart (wait stack pushed)
      tail = record { apart = a.apart.1; inside = λ m e. a.inside m (member-more m n stack e) }

      known : is_one_of n pushed ≡ true
      known = a.inside n (member-here n n stack refl)

      before : (is_one_of n stack ≡ true) ⊎ (is_one_of n pushed ≡ false) → ⊥
      before (inl t) = true-false (is_one_of n stack) t a.apart.0
      before (inr f) = true-false (is_one_of n pushed) known f

      never : (is_one_of n next.stack ≡ true) ⊎ (is_one_of n next.pushed ≡ false) → ⊥
      never (inl t) = before (back (reads n) (wait stack pushed) n t)
      never (inr f) = true-false (is_one_of n next.pushed) (stays (reads n) (wait stack pushed) n known) f

  pub walk-apart : (count root : ℕ) → Apart (walked reads count (wait (root ∷ []) (root ∷ [])))
  walk-apart count root = walked-apart count (root ∷ []) (root ∷ []) (record { apart = (refl, tt); inside = λ m e. e })

-- a node that isn't rewired keeps what it reads
changed-other : (g : PhysicalNode → PhysicalNode) (nodes : Shape) (n m : ℕ) → n ≢ m → node_at (changed n g nodes) m ≡ node_at nodes m
changed-other g [] n m other = refl
changed-other g (p ∷ nodes) zero zero other = absurd (other refl)
changed-other g (p ∷ nodes) zero (suc m) other = refl
changed-other g (p ∷ nodes) (suc n) zero other = refl
changed-other g (p ∷ nodes) (suc n) (suc m) other = changed-other g nodes n m (λ e. other (ap (λ x. suc x) e))

changed-here : (nodes : Shape) (n : ℕ) (inputs : List Stream) → n < length nodes → (node_at (changed n (with_inputs inputs) nodes) n).inputs ≡ inputs
changed-here [] n inputs h = absurd (omega (arith, h))
changed-here (p ∷ nodes) zero inputs h = refl
changed-here (p ∷ nodes) (suc n) inputs h = changed-here nodes n inputs (omega (arith, h))

changed-size : (g : PhysicalNode → PhysicalNode) (nodes : Shape) (n : ℕ) → length (changed n g nodes) ≡ length nodes
changed-size g [] n = refl
changed-size g (p ∷ nodes) zero = refl
changed-size g (p ∷ nodes) (suc n) = ap (λ m. suc m) (changed-size g nodes n)

not-here : (m n : ℕ) (ns : List ℕ) → is_one_of m (n ∷ ns) ≡ false → (n ≢ m) × (is_one_of m ns ≡ false)
not-here m n ns e = (
  λ is. true-false (is_one_of m (n ∷ ns)) (member-here m n ns is) e,
  not-one (is_one_of m ns) (λ t. true-false (is_one_of m (n ∷ ns)) (member-more m n ns t) e),
)

pub rewired-other : (number : ℕ → Option ℕ) (ns before : List ℕ) (nodes : Shape) (m : ℕ) → is_one_of m ns ≡ false → node_at (rewired number before ns nodes) m ≡ node_at nodes m
rewired-other number [] before nodes m e = refl
rewired-other number (n ∷ ns) before nodes m e =
    let inputs = (node_at nodes n).inputs in
    let g = with_inputs (inputs_through number before inputs) in
    let r = not-here m n ns e in
    rewired-other number ns (before ++ numbers_of inputs) (changed n g nodes) m r.1 ∙ changed-other g nodes n m r.0

pub through-append : (number : ℕ → Option ℕ) (before : List ℕ) (xs ys : List Stream) → inputs_through number before (xs ++ ys) ≡ inputs_through number before xs ++ inputs_through number (before ++ numbers_of xs) ys
through-append number before [] ys = ap (λ ns. inputs_through number ns ys) (sym (append-nil before))
through-append number before (x ∷ xs) ys =
    ap (λ zs. port_or_stream x (number x.0) (times x.0 before) ∷ zs) (through-append number (before ++ x.0 ∷ []) xs ys ∙ ap (λ ns. inputs_through number (before ++ x.0 ∷ []) xs ++ inputs_through number ns ys) (append_assoc before (x.0 ∷ []) (numbers_of xs)))

streams-other : (g : PhysicalNode → PhysicalNode) (nodes : Shape) (n : ℕ) (ns : List ℕ) → is_one_of n ns ≡ false → streams_of_nodes (changed n g nodes) ns ≡ streams_of_nodes nodes ns
streams-other g nodes n [] e = refl
streams-other g nodes n (m ∷ ns) e =
    let r = not-here n m ns e in
    let here = changed-other g nodes n m (λ is. r.0 (sym is)) in
    (λ i. (here i).inputs ++ streams-other g nodes n ns r.1 i)

-- what the readers take afterwards, one after the other
pub rewired-streams : (number : ℕ → Option ℕ) (ns before : List ℕ) (nodes : Shape) → Apart ns → AllBelow (length nodes) ns → streams_of_nodes (rewired number before ns nodes) ns ≡ inputs_through number before (streams_of_nodes nodes ns)
rewired-streams number [] before nodes apart below = refl
rewired-streams number (n ∷ ns) before nodes apart below =
    let inputs = (node_at nodes n).inputs in
    let g = with_inputs (inputs_through number before inputs) in
    let P : ℕ → Type 0 = λ k. AllBelow k ns in
    let head = ap (λ (p : PhysicalNode). p.inputs) (rewired-other number ns (before ++ numbers_of inputs) (changed n g nodes) n apart.0) ∙ changed-here nodes n (inputs_through number before inputs) below.0 in
    let tail = rewired-streams number ns (before ++ numbers_of inputs) (changed n g nodes) apart.1 (subst P (sym (changed-size g nodes n)) below.1) ∙ ap (λ (ss : List Stream). inputs_through number (before ++ numbers_of inputs) ss) (streams-other g nodes n ns apart.0) in
    (λ i. head i ++ tail i) ∙ sym (through-append number before inputs (streams_of_nodes nodes ns))

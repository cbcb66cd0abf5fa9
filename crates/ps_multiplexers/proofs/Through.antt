-- Readers one by one take their ports.
use Rattle.std.proofs.Common.{◌≡◌, ◌≢◌, ℕ, zero, suc, ◌+◌, ◌<◌, ◌≤◌, ◌^◌, Bool, true, false, get_or, List, [], ◌∷◌, ◌++◌, length, set, take, drop, Option, Some, None, refl, sym, ap, subst, ◌∙◌, arith}
use Rattle.std.proofs.lemmas.List.{length-append, length-map, append_assoc, append-nil, drop_more, length-take-le, map-append, map-set, set_at, take_all, take_more, drop_all}
use Rattle.std.proofs.lemmas.Bool.{eqb-false, eqb-true}
use Rattle.std.specs.Prelude.{option_map, ◌==◌}
use Rattle.keyed_slots.specs.Slots.{value_at}
use Rattle.ps_multiplexers.proofs.Noted.{times-le-length, times-push-other, times-push-same}
use Rattle.ps_multiplexers.specs.Multiplexers.{inputs_through, port_or_stream, times}
use Rattle.ps_multiplexers.specs.Readers.{HasPorts, next_stream}
use Rattle.ps_multiplexers.specs.declared.readers.Readers.{Readers}
use Rattle.ps_phys.specs.Shown.{stream_of, streams_of}
use Rattle.ps_phys.specs.Walks.{Stream, numbers_of}
use Rattle.ps_phys.specs.declared.phys.PhysStream.{PhysStream}

abbrev port_after : ℕ → List ℕ → Option ℕ → Option Stream
port_after n before m = option_map (λ (k : ℕ). (k, times n before)) m

no-number : (n : ℕ) (before : List ℕ) (m : Option ℕ) → port_after n before m ≡ None → m ≡ None
no-number n before None e = refl
no-number n before (Some k) e = cc

a-number : (n : ℕ) (before : List ℕ) (m : Option ℕ) (s : Stream) → port_after n before m ≡ Some s → (m ≡ Some s.0) × (s.1 ≡ times n before)
a-number n before None s e = cc
a-number n before (Some k) s e = let is : ◌≡◌ {A = Stream} (k, times n before) s = cc in (ap (λ (t : Stream). Some t.0) is, sym (ap (λ (t : Stream). t.1) is))

module _ (number : ℕ → Option ℕ) (before : List ℕ) (old new : List (Option Readers)) (n : ℕ)
    (ports : HasPorts number before old) (others : (q : ℕ) → q ≢ n → value_at new q ≡ value_at old q) where
  ports-at : next_stream (value_at new n) ≡ port_after n (before ++ n ∷ []) (number n) → HasPorts number (before ++ n ∷ []) new
  ports-at here q = by (n == q) refl
    where
      by : (b : Bool) → n == q ≡ b → next_stream (value_at new q) ≡ port_after q (before ++ n ∷ []) (number q)
      by true e = let P : ℕ → Type 0 = λ m. next_stream (value_at new m) ≡ port_after m (before ++ n ∷ []) (number m) in subst P (eqb-true n q e) here
      by false e =
          let other : n ≢ q = λ is. eqb-false n q e is in
          let apart : q ≢ n = λ is. other (sym is) in
          ap next_stream (others q apart) ∙ ports q ∙ ap (λ (k : ℕ). option_map (λ (m : ℕ). (m, k)) (number q)) (sym (times-push-other q n before other))

  -- there is one reader
  pub through-none : (input : Stream) → next_stream (value_at old n) ≡ None → value_at new n ≡ value_at old n → (input ≡ port_or_stream input (number n) (times n before)) × HasPorts number (before ++ n ∷ []) new
  through-none input none same =
      let no = no-number n before (number n) (sym (ports n) ∙ none) in
      (sym (ap (λ m. port_or_stream input m (times n before)) no), ports-at (ap next_stream same ∙ none ∙ sym (ap (λ m. port_after n (before ++ n ∷ []) m) no)))

  -- there are several
  pub through-some : (input s : Stream) → next_stream (value_at old n) ≡ Some s → ((m port : ℕ) → next_stream (value_at old n) ≡ Some (m, port) → port + 1 < 2 ^ 64 → next_stream (value_at new n) ≡ Some (m, port + 1))
      → length before + 1 < 2 ^ 64 → (s ≡ port_or_stream input (number n) (times n before)) × HasPorts number (before ++ n ∷ []) new
  through-some input s some next fits =
      let is = a-number n before (number n) s (sym (ports n) ∙ some) in
      let few = times-le-length n before in
      let port = is.1 in
      let small : s.1 + 1 < 2 ^ 64 = omega (arith, few, port, fits) in (
        sym (ap (λ m. port_or_stream input m (times n before)) is.0 ∙ ap (λ (k : ℕ). (s.0, k)) (sym is.1)),
        ports-at (next s.0 s.1 some small ∙ ap (λ (k : ℕ). Some (s.0, k + 1)) is.1 ∙ ap (λ (k : ℕ). Some (s.0, k)) (sym (times-push-same n before)) ∙ sym (ap (λ m. port_after n (before ++ n ∷ []) m) is.0)),
      )

pub length-through : (number : ℕ → Option ℕ) (before : List ℕ) (xs : List Stream) → length (inputs_through number before xs) ≡ length xs
length-through number before [] = refl
length-through number before (x ∷ xs) = let h = length-through number (before ++ x.0 ∷ []) xs in omega (arith, h)

pub through-push : (number : ℕ → Option ℕ) (before : List ℕ) (xs : List Stream) (x : Stream) → inputs_through number before (xs ++ x ∷ []) ≡ inputs_through number before xs ++ port_or_stream x (number x.0) (times x.0 (before ++ numbers_of xs)) ∷ []
through-push number before [] x = ap (λ ns. port_or_stream x (number x.0) (times x.0 ns) ∷ []) (sym (append-nil before))
through-push number before (y ∷ ys) x =
    ap (λ zs. port_or_stream y (number y.0) (times y.0 before) ∷ zs) (through-push number (before ++ y.0 ∷ []) ys x ∙ ap (λ ns. inputs_through number (before ++ y.0 ∷ []) ys ++ port_or_stream x (number x.0) (times x.0 ns) ∷ []) (append_assoc before (y.0 ∷ []) (numbers_of ys)))

-- so many of the inputs go through
pub record AreThrough (number : ℕ → Option ℕ) (before : List ℕ) (olds : List Stream) (k : ℕ) (now : List PhysStream) (readers : List (Option Readers)) : Type 0 where
  pub same : streams_of now ≡ inputs_through number before (take k olds) ++ drop k olds
  pub ports : HasPorts number (before ++ numbers_of (take k olds)) readers

pub none-through : (number : ℕ → Option ℕ) (before : List ℕ) (now : List PhysStream) (readers : List (Option Readers)) → HasPorts number before readers → AreThrough number before (streams_of now) 0 now readers
none-through number before now readers ports = let P : List ℕ → Type 0 = λ ns. HasPorts number ns readers in record { same = refl; ports = subst P (sym (append-nil before)) ports }

read-at : (now : List PhysStream) (done rest : List Stream) (y : Stream) (d : PhysStream) (k : ℕ) → streams_of now ≡ done ++ y ∷ rest → length done ≡ k → stream_of (get_or now k d) ≡ y
read-at [] [] rest y d k e size = cc
read-at [] (x ∷ done) rest y d k e size = cc
read-at (s ∷ now) [] rest y d zero e size = cc
read-at (s ∷ now) [] rest y d (suc k) e size = cc
read-at (s ∷ now) (x ∷ done) rest y d zero e size = cc
read-at (s ∷ now) (x ∷ done) rest y d (suc k) e size =
    let tail : streams_of now ≡ done ++ y ∷ rest = cc in
    read-at now done rest y d k tail (omega (arith, size))

-- and one more
pub one-through : (number : ℕ → Option ℕ) (before : List ℕ) (olds : List Stream) (k : ℕ) (now now' : List PhysStream) (readers readers' : List (Option Readers)) (x d : PhysStream)
    → k < length olds → AreThrough number before olds k now readers → now' ≡ set now k x
    → (HasPorts number (before ++ numbers_of (take k olds)) readers → (stream_of x ≡ port_or_stream (stream_of (get_or now k d)) (number (get_or now k d).node.0) (times (get_or now k d).node.0 (before ++ numbers_of (take k olds)))) × HasPorts number ((before ++ numbers_of (take k olds)) ++ (get_or now k d).node.0 ∷ []) readers')
    → AreThrough number before olds (k + 1) now' readers'
one-through number before olds k now now' readers readers' x d within are is goes =
    let P : List ℕ → Type 0 = λ ns. HasPorts number ns readers' in
    let g = goes are.ports in
    record {
      same = ap streams_of is ∙ map-set stream_of now k x ∙ ap (λ ss. set ss k (stream_of x)) split ∙ set_at done y (drop (k + 1) olds) (stream_of x) k size
          ∙ ap (λ s. done ++ s ∷ drop (k + 1) olds) (g.0 ∙ ap (λ s. port_or_stream s (number s.0) (times s.0 (before ++ numbers_of (take k olds)))) here)
          ∙ sym (append_assoc done (port_or_stream y (number y.0) (times y.0 (before ++ numbers_of (take k olds))) ∷ []) (drop (k + 1) olds))
          ∙ ap (λ ss. ss ++ drop (k + 1) olds) (sym (through-push number before (take k olds) y) ∙ ap (λ ss. inputs_through number before ss) (sym next));
      ports = subst P (append_assoc before (numbers_of (take k olds)) ((get_or now k d).node.0 ∷ []) ∙ ap (λ ns. before ++ ns) (ap (λ s. numbers_of (take k olds) ++ s.0 ∷ []) here ∙ sym (map-append (λ (i : Stream). i.0) (take k olds) (y ∷ [])) ∙ ap numbers_of (sym next))) g.1;
    }
  where
    y : Stream
    y = get_or olds k (stream_of d)

    done : List Stream
    done = inputs_through number before (take k olds)

    next : take (k + 1) olds ≡ take k olds ++ y ∷ []
    next = take_more olds k (stream_of d) within

    split : streams_of now ≡ done ++ y ∷ drop (k + 1) olds
    split = are.same ∙ ap (λ ss. done ++ ss) (drop_more olds k (stream_of d) within)

    size : length done ≡ k
    size = length-through number before (take k olds) ∙ length-take-le k olds (omega (arith, within))

    here : stream_of (get_or now k d) ≡ y
    here = read-at now done (drop (k + 1) olds) y d k split size

pub all-through : (number : ℕ → Option ℕ) (before : List ℕ) (olds : List Stream) (k : ℕ) (now : List PhysStream) (readers : List (Option Readers)) → length olds ≤ k → AreThrough number before olds k now readers
    → (streams_of now ≡ inputs_through number before olds) × HasPorts number (before ++ numbers_of olds) readers
all-through number before olds k now readers past are =
    let P : List Stream → Type 0 = λ ss. HasPorts number (before ++ numbers_of ss) readers in (
      are.same ∙ ap (λ ss. inputs_through number before (take k olds) ++ ss) (drop_all k olds past) ∙ append-nil (inputs_through number before (take k olds)) ∙ ap (λ ss. inputs_through number before ss) (take_all k olds past),
      subst P (take_all k olds past) are.ports,
    )

-- two inputs, one after the other
pub both-through : (number : ℕ → Option ℕ) (before : List ℕ) (old mid new : List (Option Readers)) (left left' right right' : PhysStream) → HasPorts number before old → length before + 2 < 2 ^ 64
    → (length before + 1 < 2 ^ 64 → (stream_of left' ≡ port_or_stream (stream_of left) (number left.node.0) (times left.node.0 before)) × HasPorts number (before ++ left.node.0 ∷ []) mid)
    → ((more : List ℕ) → HasPorts number more mid → length more + 1 < 2 ^ 64 → (stream_of right' ≡ port_or_stream (stream_of right) (number right.node.0) (times right.node.0 more)) × HasPorts number (more ++ right.node.0 ∷ []) new)
    → (stream_of left' ∷ stream_of right' ∷ [] ≡ inputs_through number before (stream_of left ∷ stream_of right ∷ [])) × HasPorts number (before ++ numbers_of (stream_of left ∷ stream_of right ∷ [])) new
both-through number before old mid new left left' right right' ports fits first second =
    let P : List ℕ → Type 0 = λ ns. HasPorts number ns new in
    let a = first (omega (arith, fits)) in
    let size = length-append before (left.node.0 ∷ []) in
    let b = second (before ++ left.node.0 ∷ []) a.1 (omega (arith, size, fits)) in
    (λ i. a.0 i ∷ b.0 i ∷ [], subst P (append_assoc before (left.node.0 ∷ []) (right.node.0 ∷ [])) b.1)

pub so-far-fits : (before : List ℕ) (inputs : List PhysStream) (k : ℕ) → length before + length inputs < 2 ^ 64 → k < length inputs → length (before ++ numbers_of (take k (streams_of inputs))) + 1 < 2 ^ 64
so-far-fits before inputs k fits within =
    let all : length (streams_of inputs) ≡ length inputs = length-map inputs stream_of in
    let part : length (take k (streams_of inputs)) ≡ k = length-take-le k (streams_of inputs) (omega (arith, within, all)) in
    let numbers : length (numbers_of (take k (streams_of inputs))) ≡ length (take k (streams_of inputs)) = length-map (take k (streams_of inputs)) (λ (i : Stream). i.0) in
    let joined = length-append before (numbers_of (take k (streams_of inputs))) in
    omega (arith, fits, within, part, numbers, joined)

-- the inputs of a list that were lent
pub lent-through : (number : ℕ → Option ℕ) (before : List ℕ) (old lent lent' new : List PhysStream) (readers : List (Option Readers)) → lent ≡ old → new ≡ lent' → length before + length old < 2 ^ 64
    → (length before + length lent < 2 ^ 64 → (streams_of lent' ≡ inputs_through number before (streams_of lent)) × HasPorts number (before ++ numbers_of (streams_of lent)) readers)
    → (streams_of new ≡ inputs_through number before (streams_of old)) × HasPorts number (before ++ numbers_of (streams_of old)) readers
lent-through number before old lent lent' new readers same is fits goes =
    let P : List PhysStream → Type 0 = λ xs. length before + length xs < 2 ^ 64 in
    let Q : List PhysStream → Type 0 = λ xs. HasPorts number (before ++ numbers_of (streams_of xs)) readers in
    let g = goes (subst P (sym same) fits) in
    (ap streams_of is ∙ g.0 ∙ ap (λ xs. inputs_through number before (streams_of xs)) same, subst Q same g.1)

-- a node of any kind, by the inputs that it has
pub arm-through : (number : ℕ → Option ℕ) (before : List ℕ) (all ins outs : List Stream) (old new : List (Option Readers)) → all ≡ ins
    → (HasPorts number before old → length before + length ins < 2 ^ 64 → (outs ≡ inputs_through number before ins) × HasPorts number (before ++ numbers_of ins) new)
    → HasPorts number before old → length before + length all < 2 ^ 64 → (outs ≡ inputs_through number before all) × HasPorts number (before ++ numbers_of all) new
arm-through number before all ins outs old new is goes ports fits =
    let P : List Stream → Type 0 = λ ss. length before + length ss < 2 ^ 64 in
    let Q : List Stream → Type 0 = λ ss. HasPorts number (before ++ numbers_of ss) new in
    let g = goes ports (subst P is fits) in
    (g.0 ∙ ap (λ ss. inputs_through number before ss) (sym is), subst Q (sym is) g.1)

pub list-fits : (before : List ℕ) (inputs : List PhysStream) → length before + length (streams_of inputs) < 2 ^ 64 → length before + length inputs < 2 ^ 64
list-fits before inputs fits = let size : length (streams_of inputs) ≡ length inputs = length-map inputs stream_of in omega (arith, fits, size)

-- The opening of a sound shape keeps the facts.
use Rattle.std.proofs.Common.{◌≡◌, ℕ, ◌<◌, ◌+◌, ◌-◌, ◌≤◌, ◌⊎◌, Bool, true, false, cond, List, [], ◌∷◌, ◌++◌, length, Option, Some, None, refl, sym, ap, subst, ◌∙◌, inl, inr, arith}
use Rattle.std.specs.Prelude.{◌==◌, Contains, IsFalse, get_or, map, nat_eq, slice_get, ◌||◌}
use Rattle.std.specs.List.{AllByRecursion, count_by, fold}
use Rattle.std.proofs.lemmas.List.Elements.{Contains-append_cases}
use Rattle.std.proofs.lemmas.Option.{slice_get-get_or, slice_get_within}
use Rattle.ps_frame.specs.Functions.{Functions}
use Rattle.ps_turns.specs.Progress.{is_multiplexer}
use Rattle.ps_options.specs.declared.options.Options.{Options}
use Rattle.ps_meaning.specs.Shape.{PhysicalKind, PhysicalNode, Shape, in_memory_sink, multiplexer}
use Rattle.ps_meaning.specs.Sound.{HasReaders, IsSound, all_inputs, readers_of}
use Rattle.ps_world.specs.Facts.{Facts, PipeFacts, joins_of}
use Rattle.ps_world.specs.Opening.{fresh_node, fresh_pipe, opening, pipes_from, pipes_to}
use Rattle.ps_world.specs.World.{Node, Pipe, World}
use Rattle.world_facts.proofs.CutOff.{its_number}
use Rattle.world_facts.proofs.Follows.{multiplexes_by, shows}
use Rattle.world_laws.proofs.InOrder.{contains_cases, contains_first, contains_later, none_in_nil}
use Rattle.world_laws.proofs.Induction.{opening_shape}
use Rattle.world_facts.proofs.Wiring.{each_of, ToNode, of_shape}

receiver_is : (n i : ℕ) (qs : List (ℕ × ℕ)) (x : Pipe) → Contains (pipes_to n i qs) x → (x.wire.receiver ≡ n) × (i ≤ x.wire.input)
receiver_is n i [] x c = absurd (none_in_nil x c)
receiver_is n i (q ∷ qs) x c = by (receiver_is n (i + 1) qs x) (contains_cases (fresh_pipe q.0 q.1 n i) x (pipes_to n (i + 1) qs) c)
  where
    by : (Contains (pipes_to n (i + 1) qs) x → (x.wire.receiver ≡ n) × (i + 1 ≤ x.wire.input)) → (fresh_pipe q.0 q.1 n i ≡ x) ⊎ Contains (pipes_to n (i + 1) qs) x → (x.wire.receiver ≡ n) × (i ≤ x.wire.input)
    by rest (inl e) = (sym (ap (λ (p : Pipe). p.wire.receiver) e), let s : i ≡ x.wire.input = ap (λ (p : Pipe). p.wire.input) e in omega arith)
    by rest (inr later) = let r = rest later in let h = r.1 in (r.0, omega arith)

one_of_inputs : (n i : ℕ) (qs : List (ℕ × ℕ)) (p q : Pipe) → Contains (pipes_to n i qs) p → Contains (pipes_to n i qs) q → p.wire.input ≡ q.wire.input → p ≡ q
one_of_inputs n i [] p q c d e = absurd (none_in_nil p c)
one_of_inputs n i (x ∷ xs) p q c d e =
    by (one_of_inputs n (i + 1) xs p q) (contains_cases (fresh_pipe x.0 x.1 n i) p (pipes_to n (i + 1) xs) c) (contains_cases (fresh_pipe x.0 x.1 n i) q (pipes_to n (i + 1) xs) d)
  where
    by : (Contains (pipes_to n (i + 1) xs) p → Contains (pipes_to n (i + 1) xs) q → p.wire.input ≡ q.wire.input → p ≡ q)
        → (fresh_pipe x.0 x.1 n i ≡ p) ⊎ Contains (pipes_to n (i + 1) xs) p → (fresh_pipe x.0 x.1 n i ≡ q) ⊎ Contains (pipes_to n (i + 1) xs) q → p ≡ q
    by rest (inl a) (inl b) = sym a ∙ b
    by rest (inl a) (inr b) = absurd (let s : i ≡ p.wire.input = ap (λ (z : Pipe). z.wire.input) a in let h = (receiver_is n (i + 1) xs q b).1 in omega arith)
    by rest (inr a) (inl b) = absurd (let s : i ≡ q.wire.input = ap (λ (z : Pipe). z.wire.input) b in let h = (receiver_is n (i + 1) xs p a).1 in omega arith)
    by rest (inr a) (inr b) = rest a b e

receiver_from : (shape : Shape) (k : ℕ) (x : Pipe) → Contains (pipes_from shape k) x → k ≤ x.wire.receiver
receiver_from [] k x c = absurd (none_in_nil x c)
receiver_from (p ∷ ps) k x c = by (receiver_from ps (k + 1) x) (Contains-append_cases (pipes_to k 0 p.inputs) (pipes_from ps (k + 1)) x c)
  where
    by : (Contains (pipes_from ps (k + 1)) x → k + 1 ≤ x.wire.receiver) → Contains (pipes_to k 0 p.inputs) x ⊎ Contains (pipes_from ps (k + 1)) x → k ≤ x.wire.receiver
    by rest (inl a) = let r = (receiver_is k 0 p.inputs x a).0 in omega arith
    by rest (inr b) = let r = rest b in omega arith

one_of_shape : (shape : Shape) (k : ℕ) (p q : Pipe) → Contains (pipes_from shape k) p → Contains (pipes_from shape k) q → p.wire.receiver ≡ q.wire.receiver → p.wire.input ≡ q.wire.input → p ≡ q
one_of_shape [] k p q c d r e = absurd (none_in_nil p c)
one_of_shape (x ∷ xs) k p q c d r e =
    by (one_of_shape xs (k + 1) p q) (Contains-append_cases (pipes_to k 0 x.inputs) (pipes_from xs (k + 1)) p c) (Contains-append_cases (pipes_to k 0 x.inputs) (pipes_from xs (k + 1)) q d)
  where
    by : (Contains (pipes_from xs (k + 1)) p → Contains (pipes_from xs (k + 1)) q → p.wire.receiver ≡ q.wire.receiver → p.wire.input ≡ q.wire.input → p ≡ q)
        → Contains (pipes_to k 0 x.inputs) p ⊎ Contains (pipes_from xs (k + 1)) p → Contains (pipes_to k 0 x.inputs) q ⊎ Contains (pipes_from xs (k + 1)) q → p ≡ q
    by rest (inl a) (inl b) = one_of_inputs k 0 x.inputs p q a b e
    by rest (inl a) (inr b) = absurd (let s = (receiver_is k 0 x.inputs p a).0 in let h = receiver_from xs (k + 1) q b in omega arith)
    by rest (inr a) (inl b) = absurd (let s = (receiver_is k 0 x.inputs q b).0 in let h = receiver_from xs (k + 1) p a in omega arith)
    by rest (inr a) (inr b) = rest a b r e

-- counts
pub counts_one : (b : Bool) → b ≡ true → cond {A = ℕ} b 1 0 ≡ 1
counts_one true e = refl
counts_one false e = absurd (let no : false ≡ true = e in cc)

module _ {A : Type 0} (t : A → Bool) where
  add : ℕ → A → ℕ
  add a x = a + cond (t x) 1 0

  from_start : (a : ℕ) (xs : List A) → fold (λ a x. a + cond (t x) 1 0) a xs ≡ a + count_by t xs
  from_start a [] = omega arith
  from_start a (x ∷ xs) =
      let h = from_start (a + cond (t x) 1 0) xs in
      let g = from_start (0 + cond (t x) 1 0) xs in
      omega (arith, h, g)

  pub count_first : (x : A) (xs : List A) → count_by t (x ∷ xs) ≡ cond (t x) 1 0 + count_by t xs
  count_first x xs = let g = from_start (0 + cond (t x) 1 0) xs in omega (arith, g)

  pub some_count : (xs : List A) (q : A) → Contains xs q → t q ≡ true → 1 ≤ count_by t xs
  some_count [] q c e = absurd (none_in_nil q c)
  some_count (x ∷ xs) q c e = by (some_count xs q) (contains_cases x q xs c)
    where
      by : (Contains xs q → t q ≡ true → 1 ≤ count_by t xs) → (x ≡ q) ⊎ Contains xs q → 1 ≤ count_by t (x ∷ xs)
      by rest (inl same) = let f = count_first x xs in let one = counts_one (t x) (ap t same ∙ e) in omega (arith, f, one)
      by rest (inr later) = let f = count_first x xs in let h = rest later e in omega (arith, f, h)

  one_counted : (xs : List A) (p q : A) → count_by t xs ≤ 1 → Contains xs p → t p ≡ true → Contains xs q → t q ≡ true → p ≡ q
  one_counted [] p q h c e d g = absurd (none_in_nil p c)
  one_counted (x ∷ xs) p q h c e d g = by (one_counted xs p q) (contains_cases x p xs c) (contains_cases x q xs d)
    where
      two : (y z : A) → x ≡ y → t y ≡ true → Contains xs z → t z ≡ true → ⊥
      two y z same a later b =
          let f = count_first x xs in let one = counts_one (t x) (ap t same ∙ a) in let more = some_count xs z later b in absurd (omega (arith, f, one, more, h))

      by : (count_by t xs ≤ 1 → Contains xs p → t p ≡ true → Contains xs q → t q ≡ true → p ≡ q) → (x ≡ p) ⊎ Contains xs p → (x ≡ q) ⊎ Contains xs q → p ≡ q
      by rest (inl a) (inl b) = sym a ∙ b
      by rest (inl a) (inr b) = absurd (two p q a e b g)
      by rest (inr a) (inl b) = absurd (two q p b g a e)
      by rest (inr a) (inr b) = let f = count_first x xs in rest (omega (arith, f, h)) a e b g

pub fold_map : {A B : Type 0} (f : A → B) (t : B → Bool) (a : ℕ) (xs : List A) → fold (λ (a : ℕ) (y : B). a + cond (t y) 1 0) a (map f xs) ≡ fold (λ (a : ℕ) (x : A). a + cond (t (f x)) 1 0) a xs
fold_map f t a [] = refl
fold_map f t a (x ∷ xs) = fold_map f t (a + cond (t (f x)) 1 0) xs

pub map_append : {A B : Type 0} (f : A → B) (xs ys : List A) → map f (xs ++ ys) ≡ map f xs ++ map f ys
map_append f [] ys = refl
map_append f (x ∷ xs) ys = ap (λ zs. f x ∷ zs) (map_append f xs ys)

senders_to : (n i : ℕ) (qs : List (ℕ × ℕ)) → map (λ (p : Pipe). p.wire.sender) (pipes_to n i qs) ≡ map (λ (q : ℕ × ℕ). q.0) qs
senders_to n i [] = refl
senders_to n i (q ∷ qs) = ap (λ xs. q.0 ∷ xs) (senders_to n (i + 1) qs)

senders_from : (shape : Shape) (k : ℕ) → map (λ (p : Pipe). p.wire.sender) (pipes_from shape k) ≡ map (λ (q : ℕ × ℕ). q.0) (all_inputs shape)
senders_from [] k = refl
senders_from (p ∷ ps) k =
    map_append (λ (p : Pipe). p.wire.sender) (pipes_to k 0 p.inputs) (pipes_from ps (k + 1))
    ∙ (λ i. senders_to k 0 p.inputs i ++ senders_from ps (k + 1) i)
    ∙ sym (map_append (λ (q : ℕ × ℕ). q.0) p.inputs (all_inputs ps))

senders_count : (shape : Shape) (s : ℕ) → count_by (λ (p : Pipe). p.wire.sender == s) (pipes_from shape 0) ≡ readers_of shape s
senders_count shape s =
    sym (fold_map (λ (p : Pipe). p.wire.sender) (λ n. n == s) 0 (pipes_from shape 0))
    ∙ ap (fold (λ (a : ℕ) (n : ℕ). a + cond (n == s) 1 0) 0) (senders_from shape 0)
    ∙ fold_map (λ (q : ℕ × ℕ). q.0) (λ n. n == s) 0 (all_inputs shape)

few_readers : (k : PhysicalKind) (n : ℕ) → HasReaders k n → is_multiplexer k ≡ false → n ≤ 1
few_readers multiplexer n h m = absurd (let no : true ≡ false = m in cc)
few_readers in_memory_sink n h m = omega (arith, h)
few_readers k n h m = omega (arith, h)

-- a sound shape's pipes of one sender that is no multiplexer are one
module _ (F : Functions) (shape : Shape) (sound : IsSound F shape) where
  pub one_sender : (p q : Pipe) → Contains (pipes_from shape 0) p → Contains (pipes_from shape 0) q → p.wire.sender ≡ q.wire.sender → shows (slice_get shape p.wire.sender) ≡ false → p ≡ q
  one_sender p q c d same single = by (slice_get shape p.wire.sender) refl
    where
      itself : (n m : ℕ) → n ≡ m → (n == m) ≡ true
      itself n m e = its_number n m e

      place : ToNode 0 shape p
      place = of_shape 0 shape p c

      inside : slice_get shape p.wire.sender ≡ None → ⊥
      inside e =
          let t = place in
          let earlier = each_of (λ (i : ℕ × ℕ). i.0 < t.place) t.node.inputs t.input.source (sound.0 t.place t.node t.is_node).earlier t.input.is_one in
          let within = slice_get_within shape t.place t.node t.is_node in
          let s = t.input.sender in
          let less : p.wire.sender < length shape = omega arith in
          let there = slice_get-get_or shape p.wire.sender t.node less in
          let no : None ≡ Some (get_or shape p.wire.sender t.node) = sym e ∙ there in cc

      by : (o : Option PhysicalNode) → slice_get shape p.wire.sender ≡ o → p ≡ q
      by None e = absurd (inside e)
      by (Some x) e =
          let readers = (sound.1 p.wire.sender x e).readers in
          let few = few_readers x.kind (readers_of shape p.wire.sender) readers (sym (ap shows e) ∙ single) in
          let counted = senders_count shape p.wire.sender in
          one_counted (λ (z : Pipe). z.wire.sender == p.wire.sender) (pipes_from shape 0) p q (omega (arith, few, counted)) c (itself p.wire.sender p.wire.sender refl) d (itself q.wire.sender p.wire.sender (sym same))

record IsFresh (p : Pipe) : Type 0 where
  got : p.got ≡ []
  next : p.next ≡ 0
  in_phase : p.in_phase ≡ false
  is_closed : p.is_closed ≡ false
  is_dropped : p.is_dropped ≡ false
  is_unread : p.is_unread ≡ false

fresh_inputs : (n i : ℕ) (qs : List (ℕ × ℕ)) → AllByRecursion IsFresh (pipes_to n i qs)
fresh_inputs n i [] = tt
fresh_inputs n i (q ∷ qs) = (record { got = refl; next = refl; in_phase = refl; is_closed = refl; is_dropped = refl; is_unread = refl }, fresh_inputs n (i + 1) qs)

fresh_at : (shape : Shape) (k : ℕ) (p : Pipe) → Contains (pipes_from shape k) p → IsFresh p
fresh_at [] k p c = absurd (none_in_nil p c)
fresh_at (x ∷ xs) k p c = by (fresh_at xs (k + 1) p) (Contains-append_cases (pipes_to k 0 x.inputs) (pipes_from xs (k + 1)) p c)
  where
    by : (Contains (pipes_from xs (k + 1)) p → IsFresh p) → Contains (pipes_to k 0 x.inputs) p ⊎ Contains (pipes_from xs (k + 1)) p → IsFresh p
    by rest (inl a) = each_of IsFresh (pipes_to k 0 x.inputs) p (fresh_inputs k 0 x.inputs) a
    by rest (inr b) = rest b

nodes_fresh : (shape : Shape) → AllByRecursion (λ (n : Node). IsFalse (n.in_phase || n.is_closed)) (map fresh_node shape)
nodes_fresh [] = tt
nodes_fresh (x ∷ xs) = (refl, nodes_fresh xs)

bare_pipes : (ps : List Pipe) → ((p : Pipe) → Contains ps p → IsFresh p) → AllByRecursion (λ (p : Pipe). IsFalse (p.in_phase || p.is_closed)) ps
bare_pipes [] h = tt
bare_pipes (p ∷ ps) h = (let f = h p (contains_first p ps) in (λ i. f.in_phase i || f.is_closed i), bare_pipes ps (λ q c. h q (contains_later p q ps c)))

fresh_facts : (w : World) (p : Pipe) → IsFresh p → PipeFacts w p
fresh_facts w p f =
    record {
      taken = let n = f.next in omega arith;
      came = λ k h. absurd (let n = f.next in omega arith);
      expected = λ runs k e. absurd (let no : None ≡ Some None = sym (ap (λ xs. slice_get xs k) f.got) ∙ e in cc);
      at_hand = λ on. absurd (let no : false ≡ true = sym f.in_phase ∙ on in cc);
      closed_with_sender = λ on. absurd (let no : false ≡ true = sym f.in_phase ∙ on in cc);
      closed_by_sender = λ shut. absurd (let no : false ≡ true = sym f.is_closed ∙ shut in cc);
      closed_in_phase = λ shut. absurd (let no : false ≡ true = sym f.is_closed ∙ shut in cc);
      read_to_end = λ on. absurd (let no : false ≡ true = sym f.in_phase ∙ on in cc);
      drained = λ off bound. (λ i. f.is_dropped i || nat_eq (length (f.got i) - f.next i) 0);
      unread_done = λ un. absurd (let no : false ≡ true = sym f.is_unread ∙ un in cc);
      why_dropped = λ gone. absurd (let no : false ≡ true = sym f.is_dropped ∙ gone in cc);
    }

pub at_opening : (F : Functions) (shape : Shape) (o : Options) → IsSound F shape → Facts F (opening shape o)
at_opening F shape o sound =
    record {
      sound = subst (IsSound F) (sym (opening_shape shape)) sound;
      wires = ap (λ s. map joins_of (pipes_from s 0)) (sym (opening_shape shape));
      one_input = λ p q c d r i. one_of_shape shape 0 p q c d r i;
      one_output = λ p q c d s m. one_sender F shape sound p q c d s (ap (λ t. shows (slice_get t p.wire.sender)) (sym (opening_shape shape)) ∙ sym (multiplexes_by (opening shape o) p.wire.sender) ∙ m);
      workers = λ q c. absurd (none_in_nil q c);
      own_workers = λ i j q r a b e. absurd (let no : None ≡ Some q = a in cc);
      at_work = λ q c. absurd (none_in_nil q c);
      expected = λ q c. absurd (none_in_nil q c);
      own_numbers = λ q r p c d g h n k e. absurd (none_in_nil q c);
      own_slots = λ q r c d g h n i k. absurd (none_in_nil q c);
      pipes = λ p c. fresh_facts (opening shape o) p (fresh_at shape 0 p c);
      cut_off = λ p c near on cut. absurd (let f = fresh_at shape 0 p c in let no : false ≡ true = sym f.in_phase ∙ on in cc);
      no_marks = λ shut. (nodes_fresh shape, bare_pipes (pipes_from shape 0) (fresh_at shape 0));
    }

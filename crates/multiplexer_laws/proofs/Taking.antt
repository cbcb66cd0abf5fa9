-- The nodes that a walk over a stack takes: those that the root reaches.
use Rattle.std.proofs.Common.{◌≡◌, ◌⊎◌, inl, inr, ℕ, zero, suc, ◌+◌, ◌<◌, ◌≤◌, Bool, true, false, List, [], ◌∷◌, length, refl, sym, subst, arith}
use Rattle.std.specs.Prelude.{fold, if◌then◌else◌}
use Rattle.multiplexer_laws.proofs.Leaving.{Reached, onward, start}
use Rattle.multiplexer_laws.proofs.Members.{Stands, front_or_more, missing, missing_less, stands_here, stands_more}
use Rattle.ps_multiplexers.specs.Multiplexers.{Waiting, push_if_new, walk_from, walked}
use Rattle.ps_phys.specs.Walks.{is_one_of}

abbrev AllLow : ℕ → List ℕ → Type 0
AllLow c ns = (m : ℕ) → Stands m ns → m < c

-- what some pushes leave
record Pushed (count : ℕ) (w : Waiting) (ns : List ℕ) (v : Waiting) : Type 0 where
  stack : (m : ℕ) → Stands m w.stack → Stands m v.stack
  fresh : (m : ℕ) → Stands m v.pushed → Stands m w.pushed ⊎ Stands m v.stack
  all : (m : ℕ) → Stands m ns → Stands m v.pushed
  from : (m : ℕ) → Stands m v.stack → Stands m w.stack ⊎ Stands m ns
  kept : (m : ℕ) → Stands m w.pushed → Stands m v.pushed
  left : missing count v.pushed + length v.stack ≤ missing count w.pushed + length w.stack

push_one : (count : ℕ) (w : Waiting) (n : ℕ) → n < count → Pushed count w (n ∷ []) (push_if_new w n)
push_one count w n low = by (is_one_of n w.pushed) refl
  where
    only : (m : ℕ) → Stands m (n ∷ []) → n ≡ m
    only m h = which (front_or_more m n [] h)
      where
        which : (n ≡ m) ⊎ Stands m [] → n ≡ m
        which (inl is) = is
        which (inr k) = cc

    by : (b : Bool) → is_one_of n w.pushed ≡ b → Pushed count w (n ∷ []) (if b then w else record { stack = n ∷ w.stack; pushed = n ∷ w.pushed })
    by true e =
        record {
          stack = λ m h. h;
          fresh = λ m h. inl h;
          all = λ m h. let P : ℕ → Type 0 = λ x. Stands x w.pushed in subst P (only m h) e;
          from = λ m h. inl h;
          kept = λ m h. h;
          left = omega arith;
        }
    by false e =
        record {
          stack = λ m h. stands_more m n w.stack h;
          fresh = λ m h. fresh m (front_or_more m n w.pushed h);
          all = λ m h. stands_here m n w.pushed (only m h);
          from = λ m h. from m (front_or_more m n w.stack h);
          kept = λ m h. stands_more m n w.pushed h;
          left = let l = missing_less count n w.pushed low e in omega (arith, l);
        }
      where
        fresh : (m : ℕ) → (n ≡ m) ⊎ Stands m w.pushed → Stands m w.pushed ⊎ Stands m (n ∷ w.stack)
        fresh m (inl is) = inr (stands_here m n w.stack is)
        fresh m (inr h) = inl h

        from : (m : ℕ) → (n ≡ m) ⊎ Stands m w.stack → Stands m w.stack ⊎ Stands m (n ∷ [])
        from m (inl is) = inr (stands_here m n [] is)
        from m (inr h) = inl h

push_all : (count : ℕ) (ns : List ℕ) (w : Waiting) → AllLow count ns → Pushed count w ns (fold push_if_new w ns)
push_all count [] w low = record { stack = λ m h. h; fresh = λ m h. inl h; all = λ m h. cc; from = λ m h. inl h; kept = λ m h. h; left = omega arith }
push_all count (n ∷ ns) w low = both (push_one count w n (low n (stands_here n n ns refl))) (push_all count ns (push_if_new w n) (λ m h. low m (stands_more m n ns h)))
  where
    v : Waiting
    v = push_if_new w n

    both : Pushed count w (n ∷ []) (push_if_new w n) → Pushed count (push_if_new w n) ns (fold push_if_new (push_if_new w n) ns) → Pushed count w (n ∷ ns) (fold push_if_new (push_if_new w n) ns)
    both a b =
        record {
          stack = λ m h. b.stack m (a.stack m h);
          fresh = λ m h. fresh m (b.fresh m h);
          all = λ m h. all m (front_or_more m n ns h);
          from = λ m h. from m (b.from m h);
          kept = λ m h. b.kept m (a.kept m h);
          left = let l = a.left in let k = b.left in omega (arith, l, k);
        }
      where
        u : Waiting
        u = fold push_if_new (push_if_new w n) ns

        was : (m : ℕ) → Stands m w.pushed ⊎ Stands m (push_if_new w n).stack → Stands m w.pushed ⊎ Stands m (fold push_if_new (push_if_new w n) ns).stack
        was m (inl h) = inl h
        was m (inr h) = inr (b.stack m h)

        fresh : (m : ℕ) → Stands m (push_if_new w n).pushed ⊎ Stands m (fold push_if_new (push_if_new w n) ns).stack → Stands m w.pushed ⊎ Stands m (fold push_if_new (push_if_new w n) ns).stack
        fresh m (inl h) = was m (a.fresh m h)
        fresh m (inr h) = inr h

        all : (m : ℕ) → (n ≡ m) ⊎ Stands m ns → Stands m (fold push_if_new (push_if_new w n) ns).pushed
        all m (inl is) = b.kept m (a.all m (stands_here m n [] is))
        all m (inr h) = b.all m h

        one : (m : ℕ) → Stands m w.stack ⊎ Stands m (n ∷ []) → Stands m w.stack ⊎ Stands m (n ∷ ns)
        one m (inl h) = inl h
        one m (inr h) = which (front_or_more m n [] h)
          where
            which : (n ≡ m) ⊎ Stands m [] → Stands m w.stack ⊎ Stands m (n ∷ ns)
            which (inl is) = inr (stands_here m n ns is)
            which (inr k) = cc

        from : (m : ℕ) → Stands m (push_if_new w n).stack ⊎ Stands m ns → Stands m w.stack ⊎ Stands m (n ∷ ns)
        from m (inl h) = one m (a.from m h)
        from m (inr h) = inr (stands_more m n ns h)

module _ (reads : ℕ → List ℕ) (count root : ℕ) (low : (n m : ℕ) → Stands m (reads n) → m < count) where
  -- what a walk that has turns enough takes
  record Takes (w : Waiting) (ns : List ℕ) : Type 0 where
    waiting : (m : ℕ) → Stands m w.stack → Stands m ns
    closed : (n m : ℕ) → Stands n ns → Stands m (reads n) → Stands m w.pushed ⊎ Stands m ns
    reached : ((m : ℕ) → Stands m w.stack → Reached reads root m) → (m : ℕ) → Stands m ns → Reached reads root m

  -- the top one is taken
  module _ (n : ℕ) (stack pushed ns : List ℕ) (v : Waiting) (p : Pushed count (record { stack = stack; pushed = pushed }) (reads n) v) (t : Takes v ns) where
    known : (m : ℕ) → Stands m pushed ⊎ Stands m v.stack → Stands m pushed ⊎ Stands m (n ∷ ns)
    known m (inl h) = inl h
    known m (inr h) = inr (stands_more m n ns (t.waiting m h))

    later : (m : ℕ) → Stands m v.pushed ⊎ Stands m ns → Stands m pushed ⊎ Stands m (n ∷ ns)
    later m (inl h) = known m (p.fresh m h)
    later m (inr h) = inr (stands_more m n ns h)

    waits : (m : ℕ) → (n ≡ m) ⊎ Stands m stack → Stands m (n ∷ ns)
    waits m (inl is) = stands_here m n ns is
    waits m (inr h) = stands_more m n ns (t.waiting m (p.stack m h))

    shut : (x m : ℕ) → Stands m (reads x) → (n ≡ x) ⊎ Stands x ns → Stands m pushed ⊎ Stands m (n ∷ ns)
    shut x m e (inl is) = let P : ℕ → Type 0 = λ y. Stands m (reads y) in known m (p.fresh m (p.all m (subst P (sym is) e)))
    shut x m e (inr h) = later m (t.closed x m h e)

    module _ (r : (m : ℕ) → Stands m (n ∷ stack) → Reached reads root m) where
      goes_on : (m : ℕ) → Stands m stack ⊎ Stands m (reads n) → Reached reads root m
      goes_on m (inl h) = r m (stands_more m n stack h)
      goes_on m (inr h) = onward (r n (stands_here n n stack refl)) h

      all_reached : (m : ℕ) → (n ≡ m) ⊎ Stands m ns → Reached reads root m
      all_reached m (inl is) = r m (stands_here m n stack is)
      all_reached m (inr h) = t.reached (λ x k. goes_on x (p.from x k)) m h

    taken : Takes (record { stack = n ∷ stack; pushed = pushed }) (n ∷ ns)
    taken = record { waiting = λ m h. waits m (front_or_more m n stack h); closed = λ x m h e. shut x m e (front_or_more x n ns h); reached = λ r m h. all_reached r m (front_or_more m n ns h) }

  takes : (k : ℕ) (stack pushed : List ℕ) → missing count pushed + length stack ≤ k → Takes (record { stack = stack; pushed = pushed }) (walked reads k (record { stack = stack; pushed = pushed }))
  takes zero [] pushed turns = record { waiting = λ m h. h; closed = λ n m h e. cc; reached = λ r m h. cc }
  takes zero (n ∷ stack) pushed turns = absurd (omega (arith, turns))
  takes (suc k) [] pushed turns = record { waiting = λ m h. h; closed = λ n m h e. cc; reached = λ r m h. cc }
  takes (suc k) (n ∷ stack) pushed turns =
      let p = push_all count (reads n) (record { stack = stack; pushed = pushed }) (low n) in
      let left = p.left in
      let next = fold push_if_new (record { stack = stack; pushed = pushed }) (reads n) in
      taken n stack pushed (walked reads k next) next p (takes k next.stack next.pushed (omega (arith, turns, left)))

  module _ (within : root < count) where
    abbrev pub walk : List ℕ
    walk = walk_from reads count root

    all_missing : (c : ℕ) → missing c [] ≤ c
    all_missing zero = omega arith
    all_missing (suc c) = let h = all_missing c in omega (arith, h)

    whole : Takes (record { stack = root ∷ []; pushed = root ∷ [] }) walk
    whole = let l = missing_less count root [] within refl in let h = all_missing count in takes count (root ∷ []) (root ∷ []) (omega (arith, l, h))

    only_root : (m : ℕ) → Stands m (root ∷ []) → root ≡ m
    only_root m h = by (front_or_more m root [] h)
      where
        by : (root ≡ m) ⊎ Stands m [] → root ≡ m
        by (inl is) = is
        by (inr k) = cc

    pub walk_reached : (m : ℕ) → Stands m walk → Reached reads root m
    walk_reached m h = whole.reached (λ x k. let P : ℕ → Type 0 = λ y. Reached reads root y in subst P (only_root x k) start) m h

    root_taken : Stands root walk
    root_taken = whole.waiting root (stands_here root root [] refl)

    closes : (m : ℕ) → Stands m (root ∷ []) ⊎ Stands m walk → Stands m walk
    closes m (inl h) = let P : ℕ → Type 0 = λ y. Stands y walk in subst P (only_root m h) root_taken
    closes m (inr h) = h

    pub reached_walk : (m : ℕ) → Reached reads root m → Stands m walk
    reached_walk _ start = root_taken
    reached_walk m (onward {n = n} r h) = closes m (whole.closed n m (reached_walk n r) h)

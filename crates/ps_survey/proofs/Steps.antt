-- One look of the search, by what it finds.
use Rattle.std.proofs.Common.{◌≡◌, ◌≢◌, ℕ, zero, suc, ◌+◌, ◌<◌, ◌≤◌, ◌⊎◌, inl, inr, List, [], ◌∷◌, ◌++◌, length, set, slice_get, refl, sym, ◌∙◌, ap, subst, arith}
use Rattle.std.specs.Prelude.{Option, Some, None, Result, Ok, Err, Contains, IfOk, OnOk, OnErr, MatchOption, MatchResult}
use Rattle.std.proofs.lemmas.List.Elements.{Contains-append_left, Contains-push, Contains-push_cases}
use Rattle.std.proofs.lemmas.Option.{slice_get_within}
use Rattle.ps_plan.specs.Graph.{Path, Leads, here, onward}
use Rattle.ps_survey.specs.Search.{AtRest, Ended, HasStopped, IsMarked, IsTrail, Underway, looks_left}
use Rattle.valid_plans.specs.Surveys.{NamedFirst, Once}
use Rattle.ps_survey.specs.declared.search.Mark.{Mark}
use Rattle.ps_survey.specs.declared.search.Mark.TheVariants as mark
use Rattle.ps_survey.specs.declared.search.Stop.{Stop}
use Rattle.ps_survey.specs.declared.search.Stop.TheVariants as stop
use Rattle.ps_survey.proofs.Lists.{at-from, first-push, from-at, length-from_none, once-front, once-last, once-push, same-or-not}
use Rattle.ps_survey.proofs.Marks.{mark-cases, mark-here, mark-other, looks-at, one-mark}

pub path-then : {next : ℕ → List ℕ} {a b c : ℕ} → Path next a b → Contains (next b) c → Path next a c
path-then here h = onward h here
path-then (onward k way) h = onward k (path-then way h)

pub path-path : {next : ℕ → List ℕ} {a b c : ℕ} → Path next a b → Path next b c → Path next a c
path-path here w = w
path-path (onward k way) w = onward k (path-path way w)

module _ (next : ℕ → List ℕ) where
  trail-push : (from : ℕ) (trail : List ℕ) (at to : ℕ) → IsTrail next from trail at → Contains (next at) to → IsTrail next from (trail ++ at ∷ []) to
  trail-push from [] at to h c = (sym h, (to, c, refl))
  trail-push from (x ∷ xs) at to h c = (h.0, (h.1.0, h.1.1, trail-push h.1.0 xs at to h.1.2 c))

  trail-pop : (from : ℕ) (trail : List ℕ) (below to : ℕ) → IsTrail next from (trail ++ below ∷ []) to → IsTrail next from trail below
  trail-pop from [] below to h = sym h.0
  trail-pop from (x ∷ xs) below to h = (h.0, (h.1.0, h.1.1, trail-pop h.1.0 xs below to h.1.2))

  pub trail-path : (from : ℕ) (trail : List ℕ) (to : ℕ) → IsTrail next from trail to → Path next from to
  trail-path from [] to h = subst (λ n. Path next from n) h here
  trail-path from (x ∷ xs) to h = subst (λ n. Path next n to) h.0 (onward h.1.1 (trail-path h.1.0 xs to h.1.2))

  trail-leads : (from : ℕ) (trail : List ℕ) (to n : ℕ) → IsTrail next from trail to → Contains trail n → Path next from n × Leads next n to
  trail-leads from [] to n h c = absurd (omega (arith, c.1))
  trail-leads from (x ∷ xs) to n h (zero, l, e) =
      (subst (λ k. Path next from k) (sym h.0 ∙ e) here, record { first = h.1.0; is_next = subst (λ k. Contains (next k) h.1.0) e h.1.1; way = trail-path h.1.0 xs to h.1.2 })
  trail-leads from (x ∷ xs) to n h (suc k, l, e) =
      let r = trail-leads h.1.0 xs to n h.1.2 (k, omega (arith, l), e) in
      (subst (λ m. Path next m n) h.0 (onward h.1.1 r.0), r.1)

  module _ (start : ℕ) (before order : List ℕ) (marks : List Mark) (trail : List ℕ) (at k : ℕ) (u : Underway next start before order marks trail at) (here-mark : IsMarked marks at (mark.Open k)) where
    pub way-here : Path next start at
    way-here = trail-path start trail at u.way

    -- a number on the way closes a circle
    pub circle : (m j : ℕ) → Contains (next at) m → IsMarked marks m (mark.Open j) → Path next start m × Leads next m m
    circle m j c h = by (Contains-push_cases trail at m (u.on_way m j h))
      where
        by : Contains trail m ⊎ (at ≡ m) → Path next start m × Leads next m m
        by (inl t) = let r = trail-leads start trail at m u.way t in (r.0, record { first = r.1.first; is_next = r.1.is_next; way = path-then r.1.way c })
        by (inr e) = (subst (λ n. Path next start n) e way-here, record { first = m; is_next = subst (λ n. Contains (next n) m) e c; way = here })

    -- the name that was looked at is done
    pub step-on : (m : ℕ) → slice_get (next at) k ≡ Some m → IsMarked marks m mark.Done → Underway next start before order (set marks at (mark.Open (k + 1))) trail at
    step-on m name known =
        record {
          done = λ n h. done n (mark-cases marks at n (mark.Open k) (mark.Open (k + 1)) mark.Done here-mark h);
          marked = λ n c. mark-other marks at n mark.Done (mark.Open (k + 1)) (λ e. not-open n c e) (u.marked n c);
          on_way = λ n j h. on_way n j (mark-cases marks at n (mark.Open k) (mark.Open (k + 1)) (mark.Open j) here-mark h);
          way_marked = λ n c. way_marked n c (same-or-not n at);
          seen = λ n j i a h. seen n j i a (mark-cases marks at n (mark.Open k) (mark.Open (k + 1)) (mark.Open j) here-mark h);
          places = λ n j h. places n j (mark-cases marks at n (mark.Open k) (mark.Open (k + 1)) (mark.Open j) here-mark h);
          way_once = u.way_once;
          way = u.way;
          once = u.once;
          first = u.first;
          more = u.more;
          kept = u.kept;
        }
      where
        done : (n : ℕ) → ((n ≡ at) × (mark.Open (k + 1) ≡ mark.Done)) ⊎ ((n ≢ at) × IsMarked marks n mark.Done) → Contains order n
        done n (inl (e, f)) = cc
        done n (inr h) = u.done n h.1

        not-open : (n : ℕ) → Contains order n → n ≡ at → ⊥
        not-open n c e = let h = subst (λ x. IsMarked marks x mark.Done) e (u.marked n c) in let f : mark.Done ≡ mark.Open k = one-mark marks at mark.Done (mark.Open k) h here-mark in cc

        on_way : (n j : ℕ) → ((n ≡ at) × (mark.Open (k + 1) ≡ mark.Open j)) ⊎ ((n ≢ at) × IsMarked marks n (mark.Open j)) → Contains (trail ++ at ∷ []) n
        on_way n j (inl h) = subst (λ x. Contains (trail ++ at ∷ []) x) (sym h.0) (Contains-push trail at)
        on_way n j (inr h) = u.on_way n j h.1

        way_marked : (n : ℕ) → Contains (trail ++ at ∷ []) n → (n ≡ at) ⊎ (n ≢ at) → (j : ℕ) × IsMarked (set marks at (mark.Open (k + 1))) n (mark.Open j)
        way_marked n c (inl e) = (k + 1, subst (λ x. IsMarked (set marks at (mark.Open (k + 1))) x (mark.Open (k + 1))) (sym e) (mark-here marks at (mark.Open k) (mark.Open (k + 1)) here-mark))
        way_marked n c (inr d) = let h = u.way_marked n c in (h.0, mark-other marks at n (mark.Open h.0) (mark.Open (k + 1)) d h.1)

        last : (i a : ℕ) → i < k + 1 → slice_get (next at) i ≡ Some a → (i ≡ k) ⊎ (i ≢ k) → Contains order a
        last i a l e (inl same) = let f : Some m ≡ Some a = sym name ∙ sym (ap (slice_get (next at)) same) ∙ e in let g : m ≡ a = cc in subst (λ x. Contains order x) g (u.done m known)
        last i a l e (inr d) = u.seen at k i a here-mark (omega (arith, l, d)) e

        seen : (n j i a : ℕ) → ((n ≡ at) × (mark.Open (k + 1) ≡ mark.Open j)) ⊎ ((n ≢ at) × IsMarked marks n (mark.Open j)) → i < j → slice_get (next n) i ≡ Some a → Contains order a
        seen n j i a (inl h) l e = let p : k + 1 ≡ j = cc in last i a (omega (arith, l, p)) (subst (λ x. slice_get (next x) i ≡ Some a) h.0 e) (same-or-not i k)
        seen n j i a (inr h) l e = u.seen n j i a h.1 l e

        places : (n j : ℕ) → ((n ≡ at) × (mark.Open (k + 1) ≡ mark.Open j)) ⊎ ((n ≢ at) × IsMarked marks n (mark.Open j)) → j ≤ length (next n)
        places n j (inl h) = let p : k + 1 ≡ j = cc in let q = slice_get_within (next at) k m name in subst (λ x. j ≤ length (next x)) (sym h.0) (omega (arith, p, q))
        places n j (inr h) = u.places n j h.1

    -- the name that was looked at is met for the first time
    pub step-into : (m : ℕ) → slice_get (next at) k ≡ Some m → IsMarked marks m mark.New → Underway next start before order (set marks m (mark.Open 0)) (trail ++ at ∷ []) m
    step-into m name new =
        record {
          done = λ n h. done n (mark-cases marks m n mark.New (mark.Open 0) mark.Done new h);
          marked = λ n c. mark-other marks m n mark.Done (mark.Open 0) (λ e. not-new n c e) (u.marked n c);
          on_way = λ n j h. on_way n j (mark-cases marks m n mark.New (mark.Open 0) (mark.Open j) new h);
          way_marked = λ n c. way_marked n (Contains-push_cases (trail ++ at ∷ []) m n c);
          seen = λ n j i a h. seen n j i a (mark-cases marks m n mark.New (mark.Open 0) (mark.Open j) new h);
          places = λ n j h. places n j (mark-cases marks m n mark.New (mark.Open 0) (mark.Open j) new h);
          way_once = once-push (trail ++ at ∷ []) m u.way_once (λ c. off m c refl);
          way = trail-push start trail at m u.way (from-at (next at) k m name);
          once = u.once;
          first = u.first;
          more = u.more;
          kept = u.kept;
        }
      where
        done : (n : ℕ) → ((n ≡ m) × (mark.Open 0 ≡ mark.Done)) ⊎ ((n ≢ m) × IsMarked marks n mark.Done) → Contains order n
        done n (inl (e, f)) = cc
        done n (inr h) = u.done n h.1

        not-new : (n : ℕ) → Contains order n → n ≡ m → ⊥
        not-new n c e = let h = subst (λ x. IsMarked marks x mark.Done) e (u.marked n c) in let f : mark.Done ≡ mark.New = one-mark marks m mark.Done mark.New h new in cc

        off : (n : ℕ) → Contains (trail ++ at ∷ []) n → n ≡ m → ⊥
        off n c e = let h = u.way_marked n c in let g = subst (λ x. IsMarked marks x (mark.Open h.0)) e h.1 in let f : mark.Open h.0 ≡ mark.New = one-mark marks m (mark.Open h.0) mark.New g new in cc

        on_way : (n j : ℕ) → ((n ≡ m) × (mark.Open 0 ≡ mark.Open j)) ⊎ ((n ≢ m) × IsMarked marks n (mark.Open j)) → Contains ((trail ++ at ∷ []) ++ m ∷ []) n
        on_way n j (inl h) = subst (λ x. Contains ((trail ++ at ∷ []) ++ m ∷ []) x) (sym h.0) (Contains-push (trail ++ at ∷ []) m)
        on_way n j (inr h) = Contains-append_left (trail ++ at ∷ []) (m ∷ []) n (u.on_way n j h.1)

        way_marked : (n : ℕ) → Contains (trail ++ at ∷ []) n ⊎ (m ≡ n) → (j : ℕ) × IsMarked (set marks m (mark.Open 0)) n (mark.Open j)
        way_marked n (inl c) = let h = u.way_marked n c in (h.0, mark-other marks m n (mark.Open h.0) (mark.Open 0) (off n c) h.1)
        way_marked n (inr e) = (0, subst (λ x. IsMarked (set marks m (mark.Open 0)) x (mark.Open 0)) e (mark-here marks m mark.New (mark.Open 0) new))

        seen : (n j i a : ℕ) → ((n ≡ m) × (mark.Open 0 ≡ mark.Open j)) ⊎ ((n ≢ m) × IsMarked marks n (mark.Open j)) → i < j → slice_get (next n) i ≡ Some a → Contains order a
        seen n j i a (inl h) l e = let p : 0 ≡ j = cc in absurd (omega (arith, l, p))
        seen n j i a (inr h) l e = u.seen n j i a h.1 l e

        places : (n j : ℕ) → ((n ≡ m) × (mark.Open 0 ≡ mark.Open j)) ⊎ ((n ≢ m) × IsMarked marks n (mark.Open j)) → j ≤ length (next n)
        places n j (inl h) = let p : 0 ≡ j = cc in omega (arith, p)
        places n j (inr h) = u.places n j h.1

    -- all that the number names is done
    module _ (all : slice_get (next at) k ≡ None) where
      all-seen : (m : ℕ) → Contains (next at) m → Contains order m
      all-seen m c = let a = at-from (next at) m c in let l = length-from_none (next at) k all in u.seen at k a.0 m here-mark (omega (arith, a.1, l)) a.2

      not-done : ¬ Contains order at
      not-done c = let f : mark.Done ≡ mark.Open k = one-mark marks at mark.Done (mark.Open k) (u.marked at c) here-mark in cc

      back-done : (n : ℕ) → IsMarked (set marks at mark.Done) n mark.Done → Contains (order ++ at ∷ []) n
      back-done n h = by (mark-cases marks at n (mark.Open k) mark.Done mark.Done here-mark h)
        where
          by : ((n ≡ at) × (mark.Done ≡ mark.Done)) ⊎ ((n ≢ at) × IsMarked marks n mark.Done) → Contains (order ++ at ∷ []) n
          by (inl h) = subst (λ x. Contains (order ++ at ∷ []) x) (sym h.0) (Contains-push order at)
          by (inr h) = Contains-append_left order (at ∷ []) n (u.done n h.1)

      back-marked : (n : ℕ) → Contains (order ++ at ∷ []) n → IsMarked (set marks at mark.Done) n mark.Done
      back-marked n c = by (Contains-push_cases order at n c)
        where
          by : Contains order n ⊎ (at ≡ n) → IsMarked (set marks at mark.Done) n mark.Done
          by (inl c) = mark-other marks at n mark.Done mark.Done (λ e. not-done (subst (λ x. Contains order x) e c)) (u.marked n c)
          by (inr e) = subst (λ x. IsMarked (set marks at mark.Done) x mark.Done) e (mark-here marks at (mark.Open k) mark.Done here-mark)

      -- a number that is on the way then is another
      back-open : (n j : ℕ) → IsMarked (set marks at mark.Done) n (mark.Open j) → (n ≢ at) × IsMarked marks n (mark.Open j)
      back-open n j h = by (mark-cases marks at n (mark.Open k) mark.Done (mark.Open j) here-mark h)
        where
          by : ((n ≡ at) × (mark.Done ≡ mark.Open j)) ⊎ ((n ≢ at) × IsMarked marks n (mark.Open j)) → (n ≢ at) × IsMarked marks n (mark.Open j)
          by (inl (e, f)) = cc
          by (inr h) = h

      back-trail : (n j : ℕ) → IsMarked (set marks at mark.Done) n (mark.Open j) → Contains trail n
      back-trail n j h = let o = back-open n j h in by o.0 (Contains-push_cases trail at n (u.on_way n j o.1))
        where
          by : n ≢ at → Contains trail n ⊎ (at ≡ n) → Contains trail n
          by d (inl c) = c
          by d (inr e) = absurd (d (sym e))

      back-more : (n : ℕ) → Contains (order ++ at ∷ []) n → Contains before n ⊎ Path next start n
      back-more n c = by (Contains-push_cases order at n c)
        where
          by : Contains order n ⊎ (at ≡ n) → Contains before n ⊎ Path next start n
          by (inl c) = u.more n c
          by (inr e) = inr (subst (λ x. Path next start x) e way-here)

      back-kept : (n : ℕ) → Contains before n → Contains (order ++ at ∷ []) n
      back-kept n c = Contains-append_left order (at ∷ []) n (u.kept n c)

      back-once : Once (order ++ at ∷ [])
      back-once = once-push order at u.once not-done

      back-first : NamedFirst next (order ++ at ∷ [])
      back-first = first-push next order at u.first all-seen

      -- the search goes on with the number before
      pub step-back : (rest : List ℕ) (below : ℕ) → trail ≡ rest ++ below ∷ [] → Underway next start before (order ++ at ∷ []) (set marks at mark.Done) rest below
      step-back rest below is =
          record {
            done = back-done;
            marked = back-marked;
            on_way = λ n j h. subst (λ xs. Contains xs n) is (back-trail n j h);
            way_marked = λ n c. way_marked n (subst (λ xs. Contains xs n) (sym is) c);
            seen = λ n j i a h l e. Contains-append_left order (at ∷ []) a (u.seen n j i a (back-open n j h).1 l e);
            places = λ n j h. u.places n j (back-open n j h).1;
            way_once = subst (λ xs. Once xs) is (once-front trail at u.way_once);
            way = trail-pop start rest below at (subst (λ xs. IsTrail next start xs at) is u.way);
            once = back-once;
            first = back-first;
            more = back-more;
            kept = back-kept;
          }
        where
          way_marked : (n : ℕ) → Contains trail n → (j : ℕ) × IsMarked (set marks at mark.Done) n (mark.Open j)
          way_marked n c = let h = u.way_marked n (Contains-append_left trail (at ∷ []) n c) in (h.0, mark-other marks at n (mark.Open h.0) mark.Done (once-last trail at n u.way_once c) h.1)

      -- the search has ended
      pub step-end : trail ≡ [] → Ended next start before (order ++ at ∷ []) (set marks at mark.Done)
      step-end is =
          record {
            rest = record { done = back-done; marked = back-marked; none_open = λ n j h. none n (subst (λ xs. Contains xs n) is (back-trail n j h)); once = back-once; first = back-first };
            reaches = subst (λ x. Contains (order ++ at ∷ []) x) (sym from) (Contains-push order at);
            more = back-more;
            kept = back-kept;
          }
        where
          none : (n : ℕ) → Contains [] n → ⊥
          none n c = omega (arith, c.1)

          from : start ≡ at
          from = subst (λ xs. IsTrail next start xs at) is u.way

      -- what was found after the number was done
      pub went-back : (order' : List ℕ) (marks' : List Mark) (trail' : List ℕ) (count : ℕ) (r : Result (Option ℕ) Stop) → OnOk r (marks' ≡ set marks at mark.Done) → OnOk r (order' ≡ order ++ at ∷ [])
          → IfOk r (λ o. MatchOption o ((trail ≡ []) × (trail' ≡ [])) (λ b. trail ≡ trail' ++ b ∷ [])) → OnErr r (r ≡ Err stop.OutOfMemory)
          → MatchResult r (λ o. MatchOption o (Ended next start before order' marks' × (trail' ≡ [])) (λ to. Underway next start before order' marks' trail' to)) (HasStopped next count start)
      went-back order' marks' trail' count (Ok None) m o t e = (subst (λ xs. Ended next start before xs marks') (sym o) (subst (λ ms. Ended next start before (order ++ at ∷ []) ms) (sym m) (step-end t.0)), t.1)
      went-back order' marks' trail' count (Ok (Some b)) m o t e = subst (λ xs. Underway next start before xs marks' trail' b) (sym o) (subst (λ ms. Underway next start before (order ++ at ∷ []) ms trail' b) (sym m) (step-back trail' b t))
      went-back order' marks' trail' count (Err s) m o t e = let f : s ≡ stop.OutOfMemory = cc in subst (HasStopped next count start) (sym f) tt

  -- each look leaves one look less
  pub less-on : (marks : List Mark) (at k m : ℕ) → IsMarked marks at (mark.Open k) → slice_get (next at) k ≡ Some m → looks_left next 0 (set marks at (mark.Open (k + 1))) + 1 ≡ looks_left next 0 marks
  less-on marks at k m here-mark name =
      let h = looks-at next marks at (mark.Open k) (mark.Open (k + 1)) here-mark in
      let l = slice_get_within (next at) k m name in
      omega (arith, h, l)

  pub less-into : (marks : List Mark) (m : ℕ) → IsMarked marks m mark.New → looks_left next 0 (set marks m (mark.Open 0)) + 1 ≡ looks_left next 0 marks
  less-into marks m new = let h = looks-at next marks m mark.New (mark.Open 0) new in omega (arith, h)

  pub less-back : (marks : List Mark) (at k : ℕ) → IsMarked marks at (mark.Open k) → slice_get (next at) k ≡ None → looks_left next 0 (set marks at mark.Done) + 1 ≡ looks_left next 0 marks
  less-back marks at k here-mark all =
      let h = looks-at next marks at (mark.Open k) mark.Done here-mark in
      let l = length-from_none (next at) k all in
      omega (arith, h, l)

  pub less-after : (marks marks' : List Mark) (at k : ℕ) (r : Result (Option ℕ) Stop) → IsMarked marks at (mark.Open k) → slice_get (next at) k ≡ None → OnOk r (marks' ≡ set marks at mark.Done)
      → IfOk r (λ o. looks_left next 0 marks' + 1 ≡ looks_left next 0 marks)
  less-after marks marks' at k (Ok o) here-mark all m = subst (λ ms. looks_left next 0 ms + 1 ≡ looks_left next 0 marks) (sym m) (less-back marks at k here-mark all)
  less-after marks marks' at k (Err s) here-mark all m = tt

  -- the first number of a search
  pub begin : (order : List ℕ) (marks : List Mark) (start : ℕ) → AtRest next order marks → IsMarked marks start mark.New → Underway next start order order (set marks start (mark.Open 0)) [] start
  begin order marks start rest new =
      record {
        done = λ n h. done n (mark-cases marks start n mark.New (mark.Open 0) mark.Done new h);
        marked = λ n c. mark-other marks start n mark.Done (mark.Open 0) (λ e. not-new n c e) (rest.marked n c);
        on_way = λ n j h. on_way n j (mark-cases marks start n mark.New (mark.Open 0) (mark.Open j) new h);
        way_marked = λ n c. way_marked n (Contains-push_cases [] start n c);
        seen = λ n j i a h l e. seen n j i a (mark-cases marks start n mark.New (mark.Open 0) (mark.Open j) new h) l e;
        places = λ n j h. places n j (mark-cases marks start n mark.New (mark.Open 0) (mark.Open j) new h);
        way_once = λ i j d h l. absurd (omega (arith, h, l));
        way = refl;
        once = rest.once;
        first = rest.first;
        more = λ n c. inl c;
        kept = λ n c. c;
      }
    where
      done : (n : ℕ) → ((n ≡ start) × (mark.Open 0 ≡ mark.Done)) ⊎ ((n ≢ start) × IsMarked marks n mark.Done) → Contains order n
      done n (inl (e, f)) = cc
      done n (inr h) = rest.done n h.1

      not-new : (n : ℕ) → Contains order n → n ≡ start → ⊥
      not-new n c e = let h = subst (λ x. IsMarked marks x mark.Done) e (rest.marked n c) in let f : mark.Done ≡ mark.New = one-mark marks start mark.Done mark.New h new in cc

      on_way : (n j : ℕ) → ((n ≡ start) × (mark.Open 0 ≡ mark.Open j)) ⊎ ((n ≢ start) × IsMarked marks n (mark.Open j)) → Contains (start ∷ []) n
      on_way n j (inl h) = (0, omega arith, sym h.0)
      on_way n j (inr h) = absurd (rest.none_open n j h.1)

      way_marked : (n : ℕ) → Contains [] n ⊎ (start ≡ n) → (j : ℕ) × IsMarked (set marks start (mark.Open 0)) n (mark.Open j)
      way_marked n (inl c) = absurd (omega (arith, c.1))
      way_marked n (inr e) = (0, subst (λ x. IsMarked (set marks start (mark.Open 0)) x (mark.Open 0)) e (mark-here marks start mark.New (mark.Open 0) new))

      seen : (n j i a : ℕ) → ((n ≡ start) × (mark.Open 0 ≡ mark.Open j)) ⊎ ((n ≢ start) × IsMarked marks n (mark.Open j)) → i < j → slice_get (next n) i ≡ Some a → Contains order a
      seen n j i a (inl h) l e = let p : 0 ≡ j = cc in absurd (omega (arith, l, p))
      seen n j i a (inr h) l e = absurd (rest.none_open n j h.1)

      places : (n j : ℕ) → ((n ≡ start) × (mark.Open 0 ≡ mark.Open j)) ⊎ ((n ≢ start) × IsMarked marks n (mark.Open j)) → j ≤ length (next n)
      places n j (inl h) = let p : 0 ≡ j = cc in omega (arith, p)
      places n j (inr h) = absurd (rest.none_open n j h.1)

  -- nothing to do
  pub known : (order : List ℕ) (marks : List Mark) (start : ℕ) → AtRest next order marks → IsMarked marks start mark.Done → Ended next start order order marks
  known order marks start rest done = record { rest = rest; reaches = rest.done start done; more = λ n c. inl c; kept = λ n c. c }

-- Which pieces workers have, from step to step.
use Rattle.std.proofs.Common.{◌≡◌, ◌≢◌, ◌⊎◌, ℕ, zero, suc, ◌<◌, Bool, true, false, List, [], ◌∷◌, length, Option, None, Some, inl, inr, refl, sym, ap, subst, ◌∙◌, arith}
use Rattle.std.specs.Prelude.{Contains, nat_eq, not, replicate, slice_get, slice_set}
use Rattle.std.specs.List.{AllByRecursion}
use Rattle.std.proofs.lemmas.Bool.{cases_eq}
use Rattle.std.proofs.lemmas.Option.{slice_get_within}
use Rattle.ps_frame.specs.Functions.{Functions}
use Rattle.ps_meaning.specs.Shape.{PhysicalNode, Shape}
use Rattle.ps_settle.proofs.Ends.{other_number, same_number}
use Rattle.ps_settle.proofs.Members.{at_both, contains_cases, contains_first, contains_later, from_kept, in_kept, item_at, none_in_nil, set_here, set_other}
use Rattle.ps_turns.specs.Tasks.{Piece}
use Rattle.ps_world.specs.Answers.{without_piece}
use Rattle.ps_world.specs.Claims.{IsFree}
use Rattle.ps_world.specs.Facts.{keeps_one}
use Rattle.ps_world.specs.World.{World}
use Rattle.worker_pieces.specs.Held.{AreHeld, IsHeldBy}

all_of : {A : Type 0} {Q : A → Type 0} (xs : List A) → ((x : A) → Contains xs x → Q x) → AllByRecursion Q xs
all_of [] h = tt
all_of (x ∷ xs) h = (h x (contains_first x x xs refl), all_of xs (λ y c. h y (contains_later x y xs c)))

module _ {P : Type 0} (Shows : Piece → P → Type 0) (IsFor : Functions → PhysicalNode → P → Type 0) (F : Functions) (shape : Shape) where
  -- a worker of whom the same pieces are out
  kept_by : (w v : World) (k : ℕ) (piece : Option P) → ((q : Piece) → q.worker ≡ k → Contains v.outs q → Contains w.outs q) → ((q : Piece) → q.worker ≡ k → Contains w.outs q → Contains v.outs q)
      → IsHeldBy Shows IsFor F shape w k piece → IsHeldBy Shows IsFor F shape v k piece
  kept_by w v k None back on h = λ q c e. h q (back q e c) e
  kept_by w v k (Some piece) back on h =
      record { out = h.out; node = h.node; is_out = on h.out h.worker h.is_out; worker = h.worker; shows = h.shows; there = h.there; suits = h.suits; goes_on = h.goes_on }

  module _ (w v : World) (ps : List (Option P)) (h : AreHeld Shows IsFor F shape w ps) where
    -- no piece is given or taken
    pub same_outs : v.outs ≡ w.outs → AreHeld Shows IsFor F shape v ps
    same_outs outs k piece at = kept_by w v k piece (λ q e c. subst (λ (qs : List Piece). Contains qs q) outs c) (λ q e c. subst (λ (qs : List Piece). Contains qs q) (sym outs) c) (h k piece at)

    module _ (k : ℕ) (q : Piece) (is : q.worker ≡ k) where
      -- a worker claims a piece
      module _ (outs : v.outs ≡ q ∷ w.outs) (p : PhysicalNode) (piece : P) (shows : Shows q piece) (there : slice_get shape q.node ≡ Some p) (suits : IsFor F p piece) (goes_on : keeps_one q.task ≡ false) (idle : slice_get ps k ≡ Some None) where
        at_claim : (j : ℕ) (x : Option P) → slice_get (slice_set ps k (Some piece)) j ≡ Some x → (j ≡ k) ⊎ (j ≢ k) → IsHeldBy Shows IsFor F shape v j x
        at_claim j x at (inl here) =
            let same : Some piece ≡ x = at_both (slice_set ps k (Some piece)) k (Some piece) x (set_here ps k None (Some piece) idle) (ap (slice_get (slice_set ps k (Some piece))) (sym here) ∙ at) in
            subst (IsHeldBy Shows IsFor F shape v j) same
            (record { out = q; node = p; is_out = subst (λ (qs : List Piece). Contains qs q) (sym outs) (contains_first q q w.outs refl); worker = is ∙ sym here; shows = shows; there = there; suits = suits; goes_on = goes_on })
        at_claim j x at (inr other) = kept_by w v j x back (λ r e c. subst (λ (qs : List Piece). Contains qs r) (sym outs) (contains_later q r w.outs c)) (h j x (sym (set_other ps k j (Some piece) other) ∙ at))
          where
            back : (r : Piece) → r.worker ≡ j → Contains v.outs r → Contains w.outs r
            back r e c = by (contains_cases q r w.outs (subst (λ (qs : List Piece). Contains qs r) outs c))
              where
                by : (q ≡ r) ⊎ Contains w.outs r → Contains w.outs r
                by (inl same) = absurd (other (sym e ∙ ap (λ (z : Piece). z.worker) (sym same) ∙ is))
                by (inr c) = c

        pub claimed_held : AreHeld Shows IsFor F shape v (slice_set ps k (Some piece))
        claimed_held j x at = at_claim j x at (cases_eq j k)

      -- a worker hands in its piece
      module _ (outs : v.outs ≡ without_piece q w.outs) (old : Option P) (had : slice_get ps k ≡ Some old) where
        abbrev stays : Piece → Bool
        stays r = not (nat_eq r.worker q.worker)

        at_hand_in : (j : ℕ) (x : Option P) → slice_get (slice_set ps k None) j ≡ Some x → (j ≡ k) ⊎ (j ≢ k) → IsHeldBy Shows IsFor F shape v j x
        at_hand_in j x at (inl here) =
            let same : None ≡ x = at_both (slice_set ps k None) k None x (set_here ps k old None had) (ap (slice_get (slice_set ps k None)) (sym here) ∙ at) in
            subst (IsHeldBy Shows IsFor F shape v j) same none
          where
            none : (r : Piece) → Contains v.outs r → r.worker ≢ j
            none r c e =
                let gone : stays r ≡ false = ap not (same_number r.worker q.worker (e ∙ here ∙ sym is)) in
                let stayed = (from_kept stays r w.outs (subst (λ (qs : List Piece). Contains qs r) outs c)).1 in
                absurd (let clash : true ≡ false = sym stayed ∙ gone in cc)
        at_hand_in j x at (inr other) =
            kept_by w v j x (λ r e c. (from_kept stays r w.outs (subst (λ (qs : List Piece). Contains qs r) outs c)).0) on (h j x (sym (set_other ps k j None other) ∙ at))
          where
            on : (r : Piece) → r.worker ≡ j → Contains w.outs r → Contains v.outs r
            on r e c = subst (λ (qs : List Piece). Contains qs r) (sym outs) (in_kept stays r w.outs c (ap not (other_number r.worker q.worker (λ same. other (sym e ∙ same ∙ is)))))

        pub handed_held : AreHeld Shows IsFor F shape v (slice_set ps k None)
        handed_held j x at = at_hand_in j x at (cases_eq j k)

  module _ (w : World) (ps : List (Option P)) (long : length ps ≡ w.options.workers) (h : AreHeld Shows IsFor F shape w ps) where
    pub is_free : (k : ℕ) → slice_get ps k ≡ Some None → IsFree w k
    is_free k idle =
        let within = slice_get_within ps k None idle in
        (omega (arith, within, long), all_of w.outs (λ q c. h k None idle q c))

    -- where no worker has a piece none is out
    pub none_out : ((q : Piece) → Contains w.outs q → q.worker < w.options.workers) → ((k : ℕ) (piece : P) → slice_get ps k ≢ Some (Some piece)) → w.outs ≡ []
    none_out few none = by w.outs (λ q c. not_out q c)
      where
        not_out : (q : Piece) → Contains w.outs q → ⊥
        not_out q c = let inside = few q c in let slot = item_at ps q.worker (omega (arith, inside, long)) in of_slot slot.0 slot.1
          where
            of_slot : (x : Option P) → slice_get ps q.worker ≡ Some x → ⊥
            of_slot None at = h q.worker None at q c refl
            of_slot (Some piece) at = none q.worker piece at

        by : (qs : List Piece) → ((q : Piece) → Contains qs q → ⊥) → qs ≡ []
        by [] h = refl
        by (q ∷ qs) h = absurd (h q (contains_first q q qs refl))

-- where no piece is out, and no worker has one yet
pub none_held : {P : Type 0} (Shows : Piece → P → Type 0) (IsFor : Functions → PhysicalNode → P → Type 0) (F : Functions) (shape : Shape) (w : World) (workers : ℕ) → w.outs ≡ [] → AreHeld Shows IsFor F shape w (replicate workers None)
none_held Shows IsFor F shape w workers none k piece at = subst (IsHeldBy Shows IsFor F shape w k) (all_none workers k piece at) (λ q c. absurd (none_in_nil q (subst (λ (qs : List Piece). Contains qs q) none c)))
  where
    all_none : {A : Type 0} (n k : ℕ) (x : Option A) → slice_get (replicate n None) k ≡ Some x → None ≡ x
    all_none zero k x at = absurd (let clash : None ≡ Some x = at in cc)
    all_none (suc n) zero x at = let both : Some None ≡ Some x = at in cc
    all_none (suc n) (suc k) x at = all_none n k x at

-- What is given as done is answered done: what that leaves of an answer.
use Rattle.std.proofs.Common.{◌≡◌, ℕ, zero, suc, ◌≤◌, ◌⊎◌, List, [], ◌∷◌, length, Some, None, refl, sym, ap, subst, ◌∙◌, inl, inr, arith}
use Rattle.std.specs.Prelude.{IsTrue, slice_get}
use Rattle.std.proofs.lemmas.Option.{slice_get_within}
use Rattle.ps_ports.specs.declared.port_state.PortState.{PortState}
use Rattle.ps_ports.specs.declared.port_state.PortState.TheVariants as port
use Rattle.ps_ports.specs.Ports.{is_done, kept_done, kept_state, repeated}
use Rattle.ps_ports.specs.UpdateLaws.{AgreeApartFromDone, StayDone}
use Rattle.ps_settle.proofs.Ends.{kept-at}
use Rattle.ps_settle.proofs.Members.{at_both, at_map, item_at}
use Rattle.ps_settle.proofs.Turns.{kept_is_old}

-- an answer that has a state for each port keeps as many
pub kept_long : (olds news : List PortState) → length olds ≤ length news → length (kept_done olds news) ≡ length olds
kept_long [] news h = refl
kept_long (x ∷ xs) [] h = absurd (omega arith)
kept_long (x ∷ xs) (y ∷ ys) h = ap suc (kept_long xs ys (omega arith))

-- and what is given as done is done in it
pub kept_stays : (olds news : List PortState) → length olds ≤ length news → StayDone olds (kept_done olds news)
kept_stays olds news h i s at done =
    let within = slice_get_within olds i s at in
    let k = item_at news i (omega arith) in
    kept-at olds news i s k.0 at k.1 ∙ ap Some (kept_is_old s k.0 done)

-- what stands in a kept answer comes from both
kept_from : (olds news : List PortState) (i : ℕ) (x : PortState) → slice_get (kept_done olds news) i ≡ Some x → (o : PortState) × (k : PortState) × (slice_get news i ≡ Some k) × (x ≡ kept_state o k)
kept_from [] news i x e = absurd (let no : None ≡ Some x = e in cc)
kept_from (o ∷ os) [] i x e = absurd (let no : None ≡ Some x = e in cc)
kept_from (o ∷ os) (k ∷ ks) zero x e = (o, k, refl, (let q : Some (kept_state o k) ≡ Some x = e in cc))
kept_from (o ∷ os) (k ∷ ks) (suc i) x e = kept_from os ks i x e

-- one of two states is done, or they are the same
abbrev pub AgreeAt : PortState → PortState → Type 0
AgreeAt x y = IsTrue (is_done x) ⊎ IsTrue (is_done y) ⊎ (x ≡ y)

agree_kept : (o o' k k' : PortState) → AgreeAt k k' → AgreeAt (kept_state o k) (kept_state o' k')
agree_kept port.Done o' k k' h = inl refl
agree_kept port.Ready port.Done k k' h = inr (inl refl)
agree_kept port.Ready port.Ready k k' h = h
agree_kept port.Ready port.Blocked k k' h = h
agree_kept port.Blocked port.Done k k' h = inr (inl refl)
agree_kept port.Blocked port.Ready k k' h = h
agree_kept port.Blocked port.Blocked k k' h = h

-- answers that agree apart from done do so once what was given as done is
pub kept_agree : (olds olds' news news' : List PortState) → AgreeApartFromDone news news' → AgreeApartFromDone (kept_done olds news) (kept_done olds' news')
kept_agree olds olds' news news' h i x y ex ey = by (kept_from olds news i x ex) (kept_from olds' news' i y ey)
  where
    by : (o : PortState) × (k : PortState) × (slice_get news i ≡ Some k) × (x ≡ kept_state o k) → (o : PortState) × (k : PortState) × (slice_get news' i ≡ Some k) × (y ≡ kept_state o k) → AgreeAt x y
    by (o, k, a, is) (o', k', a', is') =
        let states = agree_kept o o' k k' (h i k k' a a') in
        subst (λ s. AgreeAt s y) (sym is) (subst (AgreeAt (kept_state o k)) (sym is') states)

-- WAYS TO AGREE
pub same_agree : (xs ys : List PortState) → xs ≡ ys → AgreeApartFromDone xs ys
same_agree xs ys e i x y ex ey = inr (inr (at_both ys i x y (sym (ap (λ zs. slice_get zs i) e) ∙ ex) ey))

pub one_agree : (x y : PortState) → AgreeAt x y → AgreeApartFromDone (x ∷ []) (y ∷ [])
one_agree x y h zero u v ex ey =
    let p : x ≡ u = let q : Some x ≡ Some u = ex in cc in
    let r : y ≡ v = let q : Some y ≡ Some v = ey in cc in
    subst (λ s. AgreeAt s v) p (subst (AgreeAt x) r h)
one_agree x y h (suc i) u v ex ey = absurd (let no : None ≡ Some u = ex in cc)

pub none_agree : (ys : List PortState) → AgreeApartFromDone [] ys
none_agree ys i x y ex ey = absurd (let no : None ≡ Some x = ex in cc)

pub done_agree : (ss ys : List PortState) → AgreeApartFromDone (repeated port.Done ss) ys
done_agree ss ys i x y ex ey = let w = at_map (λ (s : PortState). port.Done) ss i x ex in inl (ap is_done (sym w.2))

pub agree_done : (xs ss : List PortState) → AgreeApartFromDone xs (repeated port.Done ss)
agree_done xs ss i x y ex ey = let w = at_map (λ (s : PortState). port.Done) ss i y ey in inr (inl (ap is_done (sym w.2)))

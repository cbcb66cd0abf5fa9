-- One turn over a queue whose front is taken off and whose kept items go to its back.
use Rattle.std.proofs.Common.{◌≡◌, ℕ, ◌+◌, ◌<◌, List, [], ◌∷◌, ◌++◌, map, length, Option, refl, sym, ap, ◌∙◌, arith, append_assoc}
use Rattle.pu_index.specs.Calls.{kept}
use Rattle.std.proofs.lemmas.List.{append-nil, map-append}
use Rattle.pu_index.proofs.CallsPush.{kept-push}

-- after some turns of n, what the queue holds of the whole, and of the answers
pub record Side {P A : Type 0} (part : P → A) (done : List P) (answers : List (Option P)) (whole items : List A) (n turn : ℕ) : Type 0 where
  pub rest : List A
  pub from : whole ≡ map part done ++ rest
  pub holds : items ≡ rest ++ map part (kept answers)
  pub left : length rest + turn ≡ n

module _ {P A : Type 0} (part : P → A) where
  push-part : (done : List P) (p : P) (a : A) (rest : List A) → part p ≡ a → map part done ++ a ∷ rest ≡ map part (done ++ p ∷ []) ++ rest
  push-part done p a rest e = ap (λ b. map part done ++ b ∷ rest) (sym e) ∙ (sym (append_assoc (map part done) (part p ∷ []) rest) ∙ ap (λ xs. xs ++ rest) (sym (map-append part done (p ∷ []))))

  push-kept : (rest : List A) (answers : List (Option P)) (r : Option P) → (rest ++ map part (kept answers)) ++ map part (kept (r ∷ [])) ≡ rest ++ map part (kept (answers ++ r ∷ []))
  push-kept rest answers r = append_assoc rest (map part (kept answers)) (map part (kept (r ∷ []))) ∙ ap (λ xs. rest ++ xs) (sym (map-append part (kept answers) (kept (r ∷ []))) ∙ ap (map part) (sym (kept-push answers r)))

  turn-rest : (done : List P) (answers : List (Option P)) (whole items items' after rest : List A) (n turn : ℕ) (p : P) (a : A) (r : Option P) → whole ≡ map part done ++ rest → items ≡ rest ++ map part (kept answers) → length rest + turn ≡ n → turn < n → items ≡ a ∷ items' → part p ≡ a → after ≡ items' ++ map part (kept (r ∷ [])) → Side part (done ++ p ∷ []) (answers ++ r ∷ []) whole after n (turn + 1)
  turn-rest done answers whole items items' after [] n turn p a r f h l lt e q w = absurd (omega arith)
  turn-rest done answers whole items items' after (b ∷ rest) n turn p a r f h l lt e q w =
      let joined : b ∷ (rest ++ map part (kept answers)) ≡ a ∷ items' = sym h ∙ e in
      let same : b ≡ a = cc in
      let tail : rest ++ map part (kept answers) ≡ items' = cc in
      record {
        rest = rest;
        from = f ∙ (ap (λ c. map part done ++ c ∷ rest) same ∙ push-part done p a rest q);
        holds = w ∙ (ap (λ xs. xs ++ map part (kept (r ∷ []))) (sym tail) ∙ push-kept rest answers r);
        left = omega arith;
      }

  pub turn : (done : List P) (answers : List (Option P)) (whole items items' after : List A) (n turn : ℕ) (p : P) (a : A) (r : Option P) → Side part done answers whole items n turn → turn < n → items ≡ a ∷ items' → part p ≡ a → after ≡ items' ++ map part (kept (r ∷ [])) → Side part (done ++ p ∷ []) (answers ++ r ∷ []) whole after n (turn + 1)
  turn done answers whole items items' after n k p a r s lt e q w = turn-rest done answers whole items items' after s.rest n k p a r s.from s.holds s.left lt e q w

  no-rest : (rest : List A) → length rest ≡ 0 → rest ≡ []
  no-rest [] e = refl
  no-rest (x ∷ xs) e = absurd (omega arith)

  pub ended : (done : List P) (answers : List (Option P)) (whole items : List A) (n turn : ℕ) → n ≡ turn → Side part done answers whole items n turn → (whole ≡ map part done) × (items ≡ map part (kept answers))
  ended done answers whole items n k e s =
      let none : s.rest ≡ [] = no-rest s.rest (omega (arith, s.left)) in
      (s.from ∙ (ap (λ xs. map part done ++ xs) none ∙ append-nil (map part done)), s.holds ∙ ap (λ xs. xs ++ map part (kept answers)) none)

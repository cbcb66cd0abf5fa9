-- From pipes that are put into a phase, and from one more, to which pipes of a world are shown.
use Rattle.std.proofs.Common.{◌≡◌, ℕ, zero, suc, ◌+◌, Bool, true, false, cond, List, [], ◌∷◌, ◌++◌, length, Some, None, refl, sym, ap, subst, ◌∙◌, arith}
use Rattle.std.specs.Prelude.{map, slice_get}
use Rattle.std.proofs.lemmas.Option.{slice_get_within}
use Rattle.ps_frame.specs.Zip.{below}
use Rattle.ps_graph.proofs.Growing.{length-more}
use Rattle.ps_graph.specs.Shown.{places_from}
use Rattle.ps_pipes.specs.declared.pipe.Pipe.{Pipe as Held}
use Rattle.ps_ports.specs.Wires.{Wire}
use Rattle.ps_world.specs.Pipes.{change_pipes}
use Rattle.ps_world.specs.World.{Pipe}
use Rattle.world_pipes.proofs.Placed.{below_has, by_keys, changed}
use Rattle.world_pipes.specs.Changed.{Becomes, Changed}
use Rattle.world_pipes.specs.Shown.{AreShown, Setting, Stands, phase_pipe}
use Rattle.world_pipes.specs.declared.pipes.Pipes.{Pipes}

-- put there again, it stays there
pub puts_twice : (b : Bool) (h h' h'' : Held) → Becomes (phase_pipe b) h h' → Becomes (phase_pipe b) h' h'' → Becomes (phase_pipe b) h h''
puts_twice b h h' h'' x y = record { shows = λ s p shown. y.shows s (phase_pipe b p) (x.shows s p shown); bounded = y.bounded ∙ x.bounded; room = y.room ∙ x.room }

module _ (s : Setting) (ps : List Pipe) (old new : Pipes) (shown : AreShown s ps old) (b : Bool) where
  pub all_put : Changed (phase_pipe b) (below (length old.list.items)) old.list.items new.list.items → AreShown s (map (phase_pipe b) ps) new
  all_put ch =
      changed (phase_pipe b) s (λ p. refl) (λ p. true) (below (length old.list.items)) ps old new shown ch
      (λ k p at. let within = slice_get_within ps k p at in let long = shown.long in below_has (length old.list.items) k (omega (arith, within, long)))

  pub keys_put : (test : Pipe → Bool) (ks : List ℕ) → Changed (phase_pipe b) ks old.list.items new.list.items → ks ≡ places_from 0 test ps → AreShown s (change_pipes test (phase_pipe b) ps) new
  keys_put test ks ch names = changed (phase_pipe b) s (λ p. refl) test ks ps old new shown ch (by_keys test ks ps names)

-- all out of the phase, and then some into it
pub out_and_in : (test : Wire → Bool) (ps : List Pipe) → change_pipes (λ p. test p.wire) (phase_pipe true) (map (phase_pipe false) ps) ≡ map (λ p. phase_pipe (test p.wire) p) ps
out_and_in test [] = refl
out_and_in test (p ∷ ps) = λ i. one (test p.wire) i ∷ out_and_in test ps i
  where
    one : (b : Bool) → cond b (phase_pipe true (phase_pipe false p)) (phase_pipe false p) ≡ phase_pipe b p
    one true = refl
    one false = refl

pub places_out : (test : Wire → Bool) (k : ℕ) (ps : List Pipe) → places_from k (λ (p : Pipe). test p.wire) ps ≡ places_from k (λ (p : Pipe). test p.wire) (map (phase_pipe false) ps)
places_out test k [] = refl
places_out test k (p ∷ ps) = ap (λ l. cond (test p.wire) (k ∷ l) l) (places_out test (k + 1) ps)

-- one more on both sides
module _ {A B : Type 0} (P : A → B → Type 0) (x : A) (y : B) (last : P x y) where
  both_more : (xs : List A) (ys : List B) → length xs ≡ length ys → ((k : ℕ) (a : A) (b : B) → slice_get xs k ≡ Some a → slice_get ys k ≡ Some b → P a b)
      → (k : ℕ) (a : A) (b : B) → slice_get (xs ++ x ∷ []) k ≡ Some a → slice_get (ys ++ y ∷ []) k ≡ Some b → P a b
  both_more [] [] e all zero a b at at' =
      let first : x ≡ a = (let both : Some x ≡ Some a = at in cc) in
      let second : y ≡ b = (let both : Some y ≡ Some b = at' in cc) in
      subst (λ z. P z b) first (subst (λ z. P x z) second last)
  both_more [] [] e all (suc k) a b at at' = absurd (let clash : None ≡ Some a = at in cc)
  both_more [] (z ∷ ys) e all k a b at at' = absurd (omega (arith, e))
  both_more (z ∷ xs) [] e all k a b at at' = absurd (omega (arith, e))
  both_more (z ∷ xs) (v ∷ ys) e all zero a b at at' = all zero a b at at'
  both_more (z ∷ xs) (v ∷ ys) e all (suc k) a b at at' = both_more xs ys (omega (arith, e)) (λ j c d. all (suc j) c d) k a b at at'

pub one_more : (s : Setting) (ps : List Pipe) (p : Pipe) (old new : Pipes) (h : Held) → AreShown s ps old → new.list.items ≡ old.list.items ++ h ∷ [] → Stands s p h → AreShown s (ps ++ p ∷ []) new
one_more s ps p old new h shown is stands =
    record {
      long = ap length is ∙ length-more old.list.items h ∙ ap (λ n. n + 1) shown.long ∙ sym (length-more ps p);
      each = λ k q g at there. both_more (Stands s) p h stands ps old.list.items (sym shown.long) shown.each k q g at (sym (ap (λ l. slice_get l k) is) ∙ there);
    }

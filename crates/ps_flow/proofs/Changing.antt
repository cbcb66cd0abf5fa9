-- How changes of pipes go together.
use Rattle.std.proofs.Common.{◌≡◌, ℕ, zero, suc, Bool, true, false, cond, List, [], ◌∷◌, refl, sym, ap, ◌∙◌}
use Rattle.std.specs.Prelude.{◌&&◌, ◌||◌, Contains, map, nat_eq, slice_get}
use Rattle.std.specs.List.{list_any}
use Rattle.ps_flow.specs.Drops.{cut_at, cut_below, is_cut, lost_inputs}
use Rattle.ps_ports.specs.Wires.{Wire}
use Rattle.ps_settle.proofs.Ends.{is_number}
use Rattle.ps_settle.proofs.Members.{at_map, contains_at, map_alike, map_at, map_twice, place_of}
use Rattle.ps_world.specs.Pipes.{change_pipes, dropped_pipe}
use Rattle.ps_world.specs.World.{Pipe}

-- two changes, neither of which the other's test sees
module _ (t u : Pipe → Bool) (f g : Pipe → Pipe) (sees : (p : Pipe) → t (g p) ≡ t p) (sees' : (p : Pipe) → u (f p) ≡ u p) (both : (p : Pipe) → f (g p) ≡ g (f p)) where
  abbrev first : Pipe → Pipe
  first p = cond (t p) (f p) p

  abbrev second : Pipe → Pipe
  second p = cond (u p) (g p) p

  one : (p : Pipe) (a b : Bool) → t p ≡ a → u p ≡ b → first (second p) ≡ second (first p)
  one p true true x y =
      ap (λ c. first (cond c (g p) p)) y ∙ ap (λ c. cond c (f (g p)) (g p)) (sees p ∙ x) ∙ both p ∙ sym (ap (λ c. second (cond c (f p) p)) x ∙ ap (λ c. cond c (g (f p)) (f p)) (sees' p ∙ y))
  one p true false x y = ap (λ c. first (cond c (g p) p)) y ∙ ap (λ c. cond c (f p) p) x ∙ sym (ap (λ c. second (cond c (f p) p)) x ∙ ap (λ c. cond c (g (f p)) (f p)) (sees' p ∙ y))
  one p false true x y = ap (λ c. first (cond c (g p) p)) y ∙ ap (λ c. cond c (f (g p)) (g p)) (sees p ∙ x) ∙ sym (ap (λ c. second (cond c (f p) p)) x ∙ ap (λ c. cond c (g p) p) y)
  one p false false x y = ap (λ c. first (cond c (g p) p)) y ∙ ap (λ c. cond c (f p) p) x ∙ sym (ap (λ c. second (cond c (f p) p)) x ∙ ap (λ c. cond c (g p) p) y)

  pub commute : (ps : List Pipe) → change_pipes t f (change_pipes u g ps) ≡ change_pipes u g (change_pipes t f ps)
  commute ps = map_twice first second ps ∙ map_alike (λ p. first (second p)) (λ p. second (first p)) ps (λ p among. one p (t p) (u p) refl refl) ∙ sym (map_twice second first ps)

-- what changes nothing where its test passes
pub change_same : (t : Pipe → Bool) (f : Pipe → Pipe) (ps : List Pipe) → ((p : Pipe) → Contains ps p → t p ≡ true → f p ≡ p) → change_pipes t f ps ≡ ps
change_same t f [] h = refl
change_same t f (p ∷ ps) h = λ i. by (t p) refl i ∷ change_same t f ps (λ q c. h q (let at = place_of ps q c in contains_at (p ∷ ps) (suc at.0) q at.1)) i
  where
    by : (b : Bool) → t p ≡ b → cond b (f p) p ≡ p
    by true e = h p (contains_at (p ∷ ps) 0 p refl) e
    by false e = refl

-- WHAT IS DROPPED
-- what tells which pipes are dropped, and which of these count
pub record Flags : Type 0 where
  pub wire : Wire
  pub in_phase : Bool
  pub is_dropped : Bool

abbrev pub flags : Pipe → Flags
flags p = record { wire = p.wire; in_phase = p.in_phase; is_dropped = p.is_dropped }

cut_flags : (n : ℕ) (ps : List Pipe) → is_cut n ps ≡ list_any (λ (x : Flags). nat_eq x.wire.sender n && (x.in_phase && x.is_dropped)) (map flags ps)
cut_flags n [] = refl
cut_flags n (p ∷ ps) = ap (λ b. (nat_eq p.wire.sender n && (p.in_phase && p.is_dropped)) || b) (cut_flags n ps)

pub same_flags : (t : Pipe → Bool) (f : Pipe → Pipe) → ((p : Pipe) → flags (f p) ≡ flags p) → (ps : List Pipe) → map flags (change_pipes t f ps) ≡ map flags ps
same_flags t f same [] = refl
same_flags t f same (p ∷ ps) = λ i. by (t p) i ∷ same_flags t f same ps i
  where
    by : (b : Bool) → flags (cond b (f p) p) ≡ flags p
    by true = same p
    by false = refl

-- where all that leaves a node is dropped, so are its inputs
abbrev pub IsSwept : List Pipe → Type 0
IsSwept ps = (p : Pipe) → Contains ps p → p.in_phase ≡ true → is_cut p.wire.receiver ps ≡ true → p.is_dropped ≡ true

pub swept_alike : (ps qs : List Pipe) → map flags qs ≡ map flags ps → IsSwept ps → IsSwept qs
swept_alike ps qs same swept = λ q among phase cut.
    let k = place_of qs q among in
    let p = at_map flags ps k.0 (flags q) (ap (λ l. slice_get l k.0) (sym same) ∙ map_at flags qs k.0 q k.1) in
    let receiver : p.0.wire.receiver ≡ q.wire.receiver = ap (λ (x : Flags). x.wire.receiver) p.2 in
    let cut' : is_cut p.0.wire.receiver ps ≡ true = ap (λ n. is_cut n ps) receiver ∙ cut_flags q.wire.receiver ps ∙ ap (list_any (λ (x : Flags). nat_eq x.wire.sender q.wire.receiver && (x.in_phase && x.is_dropped))) (sym same) ∙ sym (cut_flags q.wire.receiver qs) ∙ cut in
    sym (ap (λ (x : Flags). x.is_dropped) p.2) ∙ swept p.0 (contains_at ps k.0 p.0 p.1) (ap (λ (x : Flags). x.in_phase) p.2 ∙ phase) cut'

-- then nothing more is dropped
still : (n : ℕ) (ps : List Pipe) → IsSwept ps → cut_at n ps ≡ ps
still n ps swept = by (is_cut n ps) refl
  where
    both : (a b : Bool) → (a && b) ≡ true → (a ≡ true) × (b ≡ true)
    both true true e = (refl, refl)
    both true false e = absurd (let clash : false ≡ true = e in cc)
    both false b e = absurd (let clash : false ≡ true = e in cc)

    by : (b : Bool) → is_cut n ps ≡ b → cond b (lost_inputs n ps) ps ≡ ps
    by true cut =
        change_same (λ p. nat_eq p.wire.receiver n && p.in_phase) dropped_pipe ps
        (λ p among e.
        let is = both (nat_eq p.wire.receiver n) p.in_phase e in
        let dropped = swept p among is.1 (ap (λ m. is_cut m ps) (is_number p.wire.receiver n is.0) ∙ cut) in
        (λ i. record p { is_dropped = sym dropped i }))
    by false cut = refl

pub all_still : (k : ℕ) (ps : List Pipe) → IsSwept ps → cut_below k ps ≡ ps
all_still zero ps swept = refl
all_still (suc n) ps swept = ap (cut_below n) (still n ps swept) ∙ all_still n ps swept

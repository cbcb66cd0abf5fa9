-- Calls of a function, one after another.
use Rattle.std.specs.Prelude.{◌≡◌, List, [], ◌∷◌, map, Option}
use Rattle.std.specs.List.{filter_map}

-- from f on, a call at each argument in turn gave each answer, and left g
abbrev pub Calls : {F A R : Type 0} → (F → A → R → F → Type 0) → F → List A → List R → F → Type 0
Calls step f [] [] g = g ≡ f
Calls step f [] (r ∷ rs) g = ⊥
Calls step f (a ∷ args) [] g = ⊥
Calls {F} step f (a ∷ args) (r ∷ rs) g = (h : F) × step f a r h × Calls step h args rs g

-- the values that are there
abbrev pub kept : {A : Type 0} → List (Option A) → List A
kept rs = filter_map (λ r. r) rs

-- calls at the pairs of xs and ys, in order, gave pairs or nothing, and the parts of those pairs are xs' and ys'
abbrev pub Filters : {F X Y : Type 0} → (F → X × Y → Option (X × Y) → F → Type 0) → F → List X → List Y → List X → List Y → Type 0
Filters {F} {X} {Y} step f xs ys xs' ys' = (pairs : List (X × Y)) × (answers : List (Option (X × Y))) × (last : F) × Calls step f pairs answers last
    × (xs ≡ map (λ p. p.0) pairs) × (ys ≡ map (λ p. p.1) pairs) × (xs' ≡ map (λ p. p.0) (kept answers)) × (ys' ≡ map (λ p. p.1) (kept answers))

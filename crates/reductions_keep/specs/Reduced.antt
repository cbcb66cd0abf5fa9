-- What is put together from reductions: the reductions in it, and its column, of one cell or ended before that.
use Rattle.std.specs.Prelude.{◌≡◌, ◌⊎◌, true, List, [], ◌∷◌, ◌++◌}
use Rattle.ps_frame.specs.Causes.{Cell, Column, is_ended}
use Rattle.ps_frame.specs.Trees.{Tree}

-- the reductions in an expression, from left to right
abbrev pub reductions_in : Tree → List Tree
reductions_in (Tree.aggregate a e) = Tree.aggregate a e ∷ []
reductions_in Tree.len = Tree.len ∷ []
reductions_in (Tree.binary o l r) = reductions_in l ++ reductions_in r
reductions_in (Tree.cast k strict e) = reductions_in e
reductions_in (Tree.ternary p a b) = reductions_in p ++ (reductions_in a ++ reductions_in b)
reductions_in (Tree.function g e) = reductions_in e
reductions_in _ = []

-- one cell, and nothing ended it
pub record IsCell (c : Column) (x : Cell) : Type 0 where
  pub cells : c.cells ≡ x ∷ []
  pub broken : c.broken ≡ []

-- no cell, and a fault ended it
pub record IsEnded (c : Column) : Type 0 where
  pub cells : c.cells ≡ []
  pub ended : is_ended c ≡ true

abbrev pub IsSingle : Column → Type 0
IsSingle c = ((x : Cell) × IsCell c x) ⊎ IsEnded c

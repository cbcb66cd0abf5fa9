-- The nodes that a root shows once multiplexers are there.
use Rattle.std.proofs.Common.{◌≡◌, ℕ, zero, suc, ◌<◌, get_or, List, [], ◌∷◌, length, Option, Some, None, refl, sym, ap, ◌∙◌, arith}
use Rattle.std.specs.Prelude.{slice_get}
use Rattle.ps_meaning.specs.Shape.{PhysicalNode, Shape}
use Rattle.ps_multiplexers.specs.Multiplexers.{with_multiplexers}
use Rattle.ps_phys.specs.Walks.{node_at, node_or_none, numbers_read, order_from, place_in, renumbered, shape_from}
use Rattle.multiplexer_laws.specs.Shared.{ReadFirstPortsBefore}
use Rattle.multiplexer_laws.proofs.Leaving.{Reached, onward, order_apart, order_before, order_reached, reached_order, root_last, start}
use Rattle.multiplexer_laws.proofs.Members.{Apart, Stands, got_stands, place_within}
use Rattle.multiplexer_laws.proofs.Muxed.{ReadsBefore, after_length, new_falls, new_low, rank}
use Rattle.multiplexer_laws.proofs.Placed.{at_place, got_place, place_got, stands_at}

-- the node of a number that is there
pub node_there : (nodes : Shape) (n : ℕ) → n < length nodes → slice_get nodes n ≡ Some (node_at nodes n)
node_there [] n h = absurd (omega (arith, h))
node_there (p ∷ nodes) zero h = refl
node_there (p ∷ nodes) (suc n) h = node_there nodes n (omega (arith, h))

pub there_within : (nodes : Shape) (n : ℕ) (p : PhysicalNode) → slice_get nodes n ≡ Some p → n < length nodes
there_within [] n p e = cc
there_within (q ∷ nodes) zero p e = omega arith
there_within (q ∷ nodes) (suc n) p e = let l = there_within nodes n p e in omega (arith, l)

pub reads_at : (nodes : Shape) → ReadFirstPortsBefore nodes → (n : ℕ) → ReadsBefore n (node_at nodes n)
reads_at nodes each n = by (slice_get nodes n) refl
  where
    by : (o : Option PhysicalNode) → slice_get nodes n ≡ o → ReadsBefore n (node_or_none o)
    by None e = tt
    by (Some p) e = each n p e

module _ (nodes : Shape) (root : ℕ) (low : root < length nodes) (reads : (n : ℕ) → ReadsBefore n (node_at nodes n)) where
  abbrev pub After : Shape
  After = with_multiplexers root nodes

  abbrev pub News : ℕ → List ℕ
  News n = numbers_read After n

  abbrev pub Order : List ℕ
  Order = order_from After root

  after_low : root < length After
  after_low = let e = after_length nodes root low reads in omega (arith, low, e)

  pub order_once : Apart Order
  order_once = order_apart News (length After) root (rank nodes root low reads) (new_low nodes root low reads) (new_falls nodes root low reads) after_low

  pub order_falls : (n m : ℕ) → Stands n Order → Stands m (News n) → place_in Order m < place_in Order n
  order_falls = order_before News (length After) root (rank nodes root low reads) (new_low nodes root low reads) (new_falls nodes root low reads) after_low

  pub order_is : (n : ℕ) → Stands n Order → Reached News root n
  order_is = order_reached News (length After) root (rank nodes root low reads) (new_low nodes root low reads) (new_falls nodes root low reads) after_low

  pub is_ordered : (n : ℕ) → Reached News root n → Stands n Order
  is_ordered = reached_order News (length After) root (rank nodes root low reads) (new_low nodes root low reads) (new_falls nodes root low reads) after_low

  pub root_at : suc (place_in Order root) ≡ length Order
  root_at = root_last News (length After) root (rank nodes root low reads) (new_low nodes root low reads) (new_falls nodes root low reads) after_low

  pub order_closed : (n m : ℕ) → Stands n Order → Stands m (News n) → Stands m Order
  order_closed n m h e = is_ordered m (onward (order_is n h) e)

  pub reached_within : (n : ℕ) → Reached News root n → n < length After
  reached_within _ start = after_low
  reached_within m (onward {n = n} r h) = new_low nodes root low reads n m h

  pub order_within : (n : ℕ) → Stands n Order → n < length After
  order_within n h = reached_within n (order_is n h)

  -- the node of the shape, by its number before
  pub record IsShown (i : ℕ) (p : PhysicalNode) : Type 0 where
    pub number : ℕ
    pub stands : Stands number Order
    pub at : i ≡ place_in Order number
    pub node : p ≡ renumbered Order (node_at After number)

  pub shown_at : (i : ℕ) (p : PhysicalNode) → slice_get (shape_from After root) i ≡ Some p → IsShown i p
  shown_at i p e =
      let r = stands_at (λ n. renumbered Order (node_at After n)) Order i p e in
      record { number = get_or Order i 0; stands = got_stands Order i r.1; at = sym (place_got Order i order_once r.1); node = sym r.0 }

  pub node_placed : (n : ℕ) → Stands n Order → slice_get (shape_from After root) (place_in Order n) ≡ Some (renumbered Order (node_at After n))
  node_placed n h =
      at_place (λ m. renumbered Order (node_at After m)) Order (place_in Order n) (place_within n Order h) ∙ ap (λ m. Some (renumbered Order (node_at After m))) (got_place Order n h)

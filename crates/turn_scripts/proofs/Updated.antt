-- What updates leave.
use Rattle.std.proofs.Common.{◌≡◌, ℕ, refl}
use Rattle.bare_nodes.specs.Uncalled.{no_functions}
use Rattle.plain_nodes.specs.Plain.{PlainNode}
use Rattle.plain_nodes.specs.Plain as plain
use Rattle.plain_nodes.specs.Seen.{HasInputsOf, Updates, options_of, seen}
use Rattle.plain_nodes.specs.declared.zip.ZipNode.{ZipNode}
use Rattle.ps_ports.specs.Ports.{Sides}
use Rattle.turn_laws.proofs.Turned.{LeavesBehind, turn_leaves}
use Rattle.turn_scripts.specs.Stores.{HasStores}

pub zip_inputs : (z : ZipNode) (k : ℕ) → HasStores k z → HasInputsOf (plain.zip z) k
zip_inputs z k s = (s.some, s.came, s.heads)

pub zip_stores : (a b : ZipNode) (given answer : Sides) (k : ℕ) → HasStores k a → Updates (plain.zip a) given (plain.zip b) answer → HasStores k b
zip_stores a b given answer k s u = let p = u.ports k 1 (zip_inputs a k s, refl) in record { some = s.some; came = p.0.1; heads = p.0.2 }

-- nothing is claimed or booked by an update
pub updated : (a b : PlainNode) (given answer : Sides) → Updates a given b answer → LeavesBehind (seen a).progress (seen b).progress
updated a b given answer u =
    turn_leaves no_functions (options_of a) (seen a).node (seen a).schemas given (seen a).progress (seen b).progress u.update.turns

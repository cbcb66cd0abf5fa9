-- Names only grow.
use Rattle.std.proofs.Common.{◌≤◌, List, [], ◌∷◌, length, arith}
use Rattle.ps_meaning.specs.Steps.{Name}
use Rattle.ps_rules.specs.Names.{IsKnown, Names, after_fresh}
use Rattle.ps_rules.specs.Slots.{State, after_name, after_names}
use Rattle.ps_rules.proofs.Free.{free_from, still_known}

-- names that grow
abbrev pub Grown : Names → Names → Type 0
Grown a b = ((n : Name) → IsKnown a n → IsKnown b n) × (a.next ≤ b.next)

pub grown_same : (a : Names) → Grown a a
grown_same a = ((λ n h. h), omega arith)

pub grown_then : (a b c : Names) → Grown a b → Grown b c → Grown a c
grown_then a b c p q = let l = p.1 in let m = q.1 in ((λ n h. q.0 n (p.0 n h)), omega arith)

pub grown_fresh : (a : Names) → Grown a (after_fresh a)
grown_fresh a =
    let le = free_from (length a.taken) a.taken a.next in
    (still_known a, omega arith)

pub grown_names : {A : Type 0} (xs : List A) (s : State) → Grown s.names (after_names xs s).names
grown_names [] s = grown_same s.names
grown_names (x ∷ xs) s = grown_then s.names (after_name s).names (after_names xs (after_name s)).names (grown_fresh s.names) (grown_names xs (after_name s))

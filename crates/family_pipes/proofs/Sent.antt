-- What a node that has one output or none sends on its ports, as its pipe has it.
use Rattle.std.proofs.Common.{◌≡◌, ℕ, ◌⊎◌, Bool, true, false, List, [], ◌∷◌, Option, Some, None, refl, sym, ap, subst, ◌∙◌, inl, inr, arith}
use Rattle.std.specs.Prelude.{Contains, cond, nat_eq, option_map, slice_get, ◌&&◌}
use Rattle.std.specs.List.{find}
use Rattle.std.proofs.lemmas.Bool.Decides.{nat_tests}
use Rattle.std.proofs.lemmas.Option.{slice_get-map}
use Rattle.ps_frame.specs.Tables.{Table}
use Rattle.ps_meaning.specs.Shape.{PhysicalKind, PhysicalNode, in_memory_sink}
use Rattle.ps_world.specs.Laws.{Extends, nothing_sent, sent_at, sent_by, sent_by_some, sent_of_kind}
use Rattle.ps_world.specs.World.{Node, Pipe, World, shape_of}
use Rattle.world_facts.proofs.CutOff.{both_true}
use Rattle.world_laws.proofs.InOrder.{contains_cases, contains_first, contains_later, none_in_nil}
use Rattle.world_laws.proofs.PassingPorts.{same_number}
use Rattle.world_families.proofs.Members.{nothing_is}
use Rattle.world_families.specs.Work.{Leaves}

pub found : {A : Type 0} (t : A → Bool) (xs : List A) (x : A) → find t xs ≡ Some x → Contains xs x × (t x ≡ true)
found t [] x e = absurd (nothing_is x e)
found t (y ∷ ys) x e = by (t y) refl (found t ys x)
  where
    by : (b : Bool) → t y ≡ b → (find t ys ≡ Some x → Contains ys x × (t x ≡ true)) → Contains (y ∷ ys) x × (t x ≡ true)
    by true here rest =
        let q : Some y ≡ Some x = sym (ap (λ b. cond b (Some y) (find t ys)) here) ∙ e in
        let same : y ≡ x = cc in
        (subst (Contains (y ∷ ys)) same (contains_first y ys), subst (λ z. t z ≡ true) same here)
    by false there rest =
        let r = rest (sym (ap (λ b. cond b (Some y) (find t ys)) there) ∙ e) in
        (contains_later y x ys r.0, r.1)

pub itself : (n m : ℕ) → n ≡ m → nat_eq n m ≡ true
itself n m e = grind (arith, nat_tests)

pub missed : {A : Type 0} (t : A → Bool) (xs : List A) → find t xs ≡ None → (x : A) → Contains xs x → t x ≡ true → ⊥
missed t [] e x c h = none_in_nil x c
missed t (y ∷ ys) e x c h = by (t y) refl (λ none later. missed t ys none x later h)
  where
    by : (b : Bool) → t y ≡ b → (find t ys ≡ None → Contains ys x → ⊥) → ⊥
    by true here rest = nothing_is y (sym (sym (ap (λ b. cond b (Some y) (find t ys)) here) ∙ e))
    by false there rest = of (contains_cases y x ys c)
      where
        of : (y ≡ x) ⊎ Contains ys x → ⊥
        of (inl same) = let never : false ≡ true = sym there ∙ (subst (λ z. t z ≡ true) (sym same) h) in cc
        of (inr later) = rest (sym (ap (λ b. cond b (Some y) (find t ys)) there) ∙ e) later

-- a node of the shape is that of a node of the world
pub node_of : (w : World) (n : ℕ) (p : PhysicalNode) → slice_get (shape_of w) n ≡ Some p → (node : Node) × (slice_get w.nodes n ≡ Some node) × (node.node ≡ p)
node_of w n p e = by (slice_get w.nodes n) refl
  where
    by : (o : Option Node) → slice_get w.nodes n ≡ o → (node : Node) × (slice_get w.nodes n ≡ Some node) × (node.node ≡ p)
    by None none = absurd (nothing_is p (sym (ap (option_map (λ (x : Node). x.node)) none) ∙ sym (slice_get-map (λ (x : Node). x.node) w.nodes n) ∙ e))
    by (Some node) there =
        let q : Some node.node ≡ Some p = sym (ap (option_map (λ (x : Node). x.node)) there) ∙ sym (slice_get-map (λ (x : Node). x.node) w.nodes n) ∙ e in
        (node, there, let same : node.node ≡ p = cc in same)

abbrev pub is_sink : PhysicalKind → Bool
is_sink in_memory_sink = true
is_sink _ = false

-- the pipe of a port
abbrev pub of_port : World → ℕ → ℕ → Option Pipe
of_port w n k = find (λ (p : Pipe). nat_eq p.wire.sender n && nat_eq p.wire.port k) w.pipes

pub leaves_port : (w : World) (n k : ℕ) (p : Pipe) → of_port w n k ≡ Some p → Leaves w n p
leaves_port w n k p here =
    let f = found (λ (x : Pipe). nat_eq x.wire.sender n && nat_eq x.wire.port k) w.pipes p here in
    (f.0, same_number p.wire.sender n (both_true (nat_eq p.wire.sender n) (nat_eq p.wire.port k) f.1).0)

module _ (w : World) (n k : ℕ) (node : Node) where
  sent_by_kind : (kind : PhysicalKind) → is_sink kind ≡ false → sent_of_kind w n k (Some (record node { node = record node.node { kind = kind } })) ≡ sent_by_some (of_port w n k)
  sent_by_kind in_memory_sink e = absurd (let never : true ≡ false = e in cc)
  sent_by_kind kind e = refl

  pub sent_is : slice_get w.nodes n ≡ Some node → is_sink node.node.kind ≡ false → sent_at w n k ≡ sent_by_some (of_port w n k)
  sent_is there e = ap (sent_of_kind w n k) there ∙ sent_by_kind node.node.kind e

pub extends_nothing : (T : Table) → Extends nothing_sent T
extends_nothing T = record { rest = T.rows; begins = refl; ends = λ c. absurd (let never : false ≡ true = c in cc) }

-- a table that each output extends to serves each port
pub each_port : (w : World) (n : ℕ) (node : Node) (T : Table) → slice_get w.nodes n ≡ Some node → is_sink node.node.kind ≡ false → ((p : Pipe) → Leaves w n p → Extends (sent_by p) T) → (k : ℕ) → Extends (sent_at w n k) T
each_port w n node T there e each k = subst (λ s. Extends s T) (sym (sent_is w n k node there e)) (by (of_port w n k) refl)
  where
    by : (o : Option Pipe) → of_port w n k ≡ o → Extends (sent_by_some o) T
    by None none = extends_nothing T
    by (Some p) here = each p (leaves_port w n k p here)

-- where outputs are one, a table that serves that one serves each port
pub one_table : (w : World) (n : ℕ) (node : Node) (C : Table → Type 0) → slice_get w.nodes n ≡ Some node → is_sink node.node.kind ≡ false → ((p q : Pipe) → Leaves w n p → Leaves w n q → p ≡ q)
    → (T : Table) × C T → ((p : Pipe) → Leaves w n p → (T : Table) × C T × Extends (sent_by p) T) → (T : Table) × C T × ((k : ℕ) → Extends (sent_at w n k) T)
one_table w n node C there e one some each = by (find (λ (x : Pipe). nat_eq x.wire.sender n) w.pipes) refl
  where
    by : (o : Option Pipe) → find (λ (x : Pipe). nat_eq x.wire.sender n) w.pipes ≡ o → (T : Table) × C T × ((k : ℕ) → Extends (sent_at w n k) T)
    by None none = (some.0, some.1, each_port w n node some.0 there e (λ p l. absurd (missed (λ (x : Pipe). nat_eq x.wire.sender n) w.pipes none p l.0 (itself p.wire.sender n l.1))))
    by (Some z) here =
        let f = found (λ (x : Pipe). nat_eq x.wire.sender n) w.pipes z here in
        let l : Leaves w n z = (f.0, same_number z.wire.sender n f.1) in
        let t = each z l in
        (t.0, t.1, each_port w n node t.0 there e (λ p m. subst (λ y. Extends (sent_by y) t.0) (one z p l m) t.2))

-- A union that read a morsel of each of two inputs.
use Rattle.std.proofs.Common.{◌≡◌, ℕ, zero, suc, ◌<◌, List, [], ◌∷◌, Some, None, true, false, refl, ap, subst, inl, arith}
use Rattle.std.specs.Prelude.{Contains, slice_get}
use Rattle.ps_frame.specs.Functions.{Functions}
use Rattle.ps_frame.specs.Tables.{Row}
use Rattle.ps_ports.specs.declared.port_state.PortState.TheVariants as port
use Rattle.ps_turns.specs.Tasks.{Piece, hands_on}
use Rattle.ps_world.specs.World.{Pipe}
use Rattle.world_facts.proofs.Wiring.{each_of}
use Rattle.world_families.proofs.Members.{apart}
use Rattle.world_families.specs.Examples.{a_schema, a_union, came, pipe, row, slots, union_pipes, union_world}
use Rattle.world_families.specs.Unions.{HoldsUnion}
use Rattle.world_families.specs.Work.{AllComplete, Answers, IsComplete, Work, work_of}

abbrev given : slots
given = None ∷ came (row 2) ∷ []

abbrev handed : List Row → Work
handed rs = record { task = hands_on; schemas = a_schema ∷ a_schema ∷ []; tables = rs ∷ [] }

abbrev IsNext : ℕ → Work → Type 0
IsNext k x = (rs : List Row) × (slice_get (came (row 1) ∷ came (row 2) ∷ []) k ≡ Some (Some rs)) × (x ≡ handed rs)

module _ (F : Functions) where
  answered : (k : ℕ) (rs : List Row) → slice_get given k ≡ Some (Some rs) → (x : Work) × IsNext k x × Answers F x rs
  answered zero rs e = absurd (let no : Some None ≡ Some (Some rs) = e in cc)
  answered (suc zero) rs e =
      let same : row 2 ∷ [] ≡ rs = let q : Some (Some (row 2 ∷ [])) ≡ Some (Some rs) = e in cc in
      (handed (row 2 ∷ []), (row 2 ∷ [], refl, refl), ap (λ z. z ∷ []) same)
  answered (suc (suc k)) rs e = absurd (let no : None ≡ Some (Some rs) = e in cc)

  abbrev AnsweredIn : Pipe → ℕ → List Row → Type 0
  AnsweredIn y k rs = y.wire.sender ≡ 2 → slice_get y.got k ≡ Some (Some rs) → (x : Work) × IsNext k x × Answers F x rs

  -- an input before another one that was read, or is in the phase
  abbrev HasTurn : Pipe → Pipe → Type 0
  HasTurn q r = q.wire.receiver ≡ 2 → r.wire.receiver ≡ 2 → q.wire.input < r.wire.input → IsComplete q

  later : (r : Pipe) → Contains (union_pipes port.Done given) r → HasTurn (pipe 1 2 1 port.Ready (came (row 2) ∷ came (row 3) ∷ []) 1) r
  later r c =
      each_of (HasTurn (pipe 1 2 1 port.Ready (came (row 2) ∷ came (row 3) ∷ []) 1)) (union_pipes port.Done given) r
      ((λ a b h. let less : 1 < 0 = h in absurd (omega arith)), ((λ a b h. let less : 1 < 1 = h in absurd (omega arith)), ((λ a b h. let less : 1 < 0 = h in absurd (omega arith)), tt))) c

  turns : (q r : Pipe) → Contains (union_pipes port.Done given) q → Contains (union_pipes port.Done given) r → HasTurn q r
  turns q r c d = each_of (λ y. HasTurn y r) (union_pipes port.Done given) q ((λ a b h. refl), (later r d, ((λ a b h. let no : 3 ≡ 2 = a in absurd (omega arith)), tt))) c

  pub behind_the_first : HoldsUnion F (union_world port.Done given) 2 a_union
  behind_the_first =
      record {
        in_turn = λ q r a b h t. turns q r a.0 b.0 a.1 b.1 h;
        counted = refl;
        gives =
            record {
              answers = λ p k rs l e.
                  each_of (λ y. AnsweredIn y k rs) (union_pipes port.Done given) p
                  ((λ s g. let no : 0 ≡ 2 = s in absurd (omega arith)), ((λ s g. let no : 1 ≡ 2 = s in absurd (omega arith)), ((λ s g. answered k rs g), tt))) l.0 l.1 e;
              pieces = λ q c e. inl (each_of (λ (y : Piece). IsNext y.gives (work_of y)) (union_world port.Done given).outs q ((row 1 ∷ [], refl, refl), tt) c);
              completes = λ p l c.
                  each_of (λ (y : Pipe). y.wire.sender ≡ 2 → IsComplete y → AllComplete (union_world port.Done given) 2) (union_pipes port.Done given) p
                  ((λ s g. let no : 0 ≡ 2 = s in absurd (omega arith)), ((λ s g. let no : 1 ≡ 2 = s in absurd (omega arith)), ((λ s g. absurd (let no : false ≡ true = g in cc)), tt))) l.0 l.1 c;
            };
      }

  pub not_before_it_ends : HoldsUnion F (union_world port.Ready given) 2 a_union → ⊥
  not_before_it_ends h =
      let all = h.in_turn (pipe 0 2 0 port.Ready (came (row 1) ∷ []) 1) (pipe 1 2 1 port.Ready (came (row 2) ∷ came (row 3) ∷ []) 1) ((0, omega arith, refl), refl) ((1, omega arith, refl), refl) (omega arith) (inl (omega arith)) in
      let no : false ≡ true = all in cc

  pub not_the_other_way : HoldsUnion F (union_world port.Done (came (row 2) ∷ None ∷ [])) 2 a_union → ⊥
  not_the_other_way h =
      let a = h.gives.answers (pipe 2 3 0 port.Ready (came (row 2) ∷ None ∷ []) 0) 0 (row 2 ∷ []) ((2, omega arith, refl), refl) refl in
      let first : row 1 ∷ [] ≡ a.1.0 = let q : Some (Some (row 1 ∷ [])) ≡ Some (Some a.1.0) = a.1.1 in cc in
      let same : a.1.0 ∷ [] ≡ (row 2 ∷ []) ∷ [] = subst (λ x. Answers F x (row 2 ∷ [])) a.1.2 a.2 in
      apart (row 1 ∷ []) (row 2 ∷ []) refl refl cc

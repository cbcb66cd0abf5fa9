-- What a node read of its inputs, along steps in which it reads nothing, and with one morsel more.
use Rattle.std.proofs.Common.{◌≡◌, ℕ, zero, suc, ◌⊎◌, List, [], ◌∷◌, ◌++◌, take, Some, None, refl, sym, ap, ◌∙◌, inl, inr, append-nil, append_assoc, arith}
use Rattle.std.specs.Prelude.{Contains, slice_get}
use Rattle.ps_frame.specs.Functions.{Functions}
use Rattle.ps_frame.specs.Tables.{Row}
use Rattle.ps_ports.specs.Wires.{Wire}
use Rattle.ps_turns.specs.Heads.{stored_rows}
use Rattle.ps_turns.specs.Progress.{Progress}
use Rattle.ps_world.specs.Facts.{Joins}
use Rattle.ps_world.specs.World.{Node, Pipe, World, rows_in_order}
use Rattle.passing_runs.proofs.Slots.{Came, Fills, Places}
use Rattle.world_claims.specs.Numbering.{Known}
use Rattle.world_families.proofs.Members.{nothing_is}
use Rattle.world_families.specs.Work.{Enters}
use Rattle.orderly_worlds.proofs.Goes.{GoesOn, NoneTaken}
use Rattle.orderly_worlds.proofs.Reaching.{MarkedFrom}
use Rattle.orderly_worlds.proofs.Seen.{TakenElsewhere}
use Rattle.orderly_worlds.proofs.Turned.{turned, turned_from}

pub no_slot : (rs : List Row) → Some None ≡ Some (Some rs) → ⊥
no_slot rs e = let q : None ≡ Some rs = cc in nothing_is rs q

-- places that are filled stay
pub take_fills : (got new : Places) (j : ℕ) → Fills got new → Came got j → take j new ≡ take j got
take_fills got new zero f c = refl
take_fills [] new (suc j) f c = absurd (let first = c 0 (omega arith) in nothing_is (Some first.0) first.1)
take_fills (None ∷ got) new (suc j) f c = absurd (let first = c 0 (omega arith) in no_slot first.0 first.1)
take_fills (Some a ∷ got) [] (suc j) f c = absurd f
take_fills (Some a ∷ got) (y ∷ new) (suc j) f c = let rest = take_fills got new j f.1 (λ k h. c (suc k) (omega (arith, h))) in λ i. f.0 i ∷ rest i

pub take_more : (got : Places) (j : ℕ) (a : List Row) → slice_get got j ≡ Some (Some a) → take (suc j) got ≡ take j got ++ Some a ∷ []
take_more [] j a e = absurd (nothing_is (Some a) e)
take_more (x ∷ got) zero a e = let q : Some x ≡ Some (Some a) = e in let same : x ≡ Some a = cc in ap (λ z. z ∷ []) same
take_more (x ∷ got) (suc j) a e = ap (λ zs. x ∷ zs) (take_more got j a e)

pub rows_more : (got : Places) (j : ℕ) (a : List Row) → Came got j → slice_get got j ≡ Some (Some a) → rows_in_order (take (suc j) got) ≡ rows_in_order (take j got) ++ a
rows_more [] j a c e = absurd (nothing_is (Some a) e)
rows_more (None ∷ got) zero a c e = absurd (no_slot a e)
rows_more (Some rs ∷ got) zero a c e = let q : Some (Some rs) ≡ Some (Some a) = e in let same : rs ≡ a = cc in append-nil rs ∙ same
rows_more (None ∷ got) (suc j) a c e = absurd (let first = c 0 (omega arith) in no_slot first.0 first.1)
rows_more (Some rs ∷ got) (suc j) a c e = ap (λ z. rs ++ z) (rows_more got j a (λ k h. c (suc k) (omega (arith, h))) e) ∙ sym (append_assoc rs (rows_in_order (take j got)) a)

pub stored_more : (ms : List (List Row)) (m : List Row) → stored_rows (ms ++ m ∷ []) ≡ stored_rows ms ++ m
stored_more [] m = append-nil m
stored_more (x ∷ ms) m = ap (λ z. x ++ z) (stored_more ms m) ∙ sym (append_assoc x (stored_rows ms) m)

-- a node read as much of each input as before
abbrev pub ReadsOn : World → World → ℕ → Type 0
ReadsOn w v n = (y : Pipe) → Enters v n y → (x : Pipe) × Enters w n x × (y.wire.input ≡ x.wire.input) × (take y.next y.got ≡ take x.next x.got)

pub came_to : (F : Functions) (w : World) → Known F w → (x : Pipe) → Contains w.pipes x → Came x.got x.next
came_to F w k x c = (k.facts.pipes x c).came

pub reads_still : (F : Functions) (w v : World) (n : ℕ) → Known F w → GoesOn (TakenElsewhere n) NoneTaken w v → ReadsOn w v n
reads_still F w v n k g y c =
    let x = g y c.0 in
    let enters : x.0.wire.receiver ≡ n = ap (λ (u : Wire). u.receiver) (sym x.2.wire) ∙ c.1 in
    let next : y.next ≡ x.0.next = by x.0 enters x.2.next in
    (x.0, (x.1, enters), ap (λ (u : Wire). u.input) x.2.wire, ap (λ j. take j y.got) next ∙ take_fills x.0.got y.got x.0.next x.2.got (came_to F w k x.0 x.1))
  where
    by : (x : Pipe) → x.wire.receiver ≡ n → (y.next ≡ x.next) ⊎ (y.next ≡ suc x.next) × TakenElsewhere n x → y.next ≡ x.next
    by x enters (inl e) = e
    by x enters (inr (e, t)) = absurd (t.0 enters)

pub reads_turned : (w : World) (m : ℕ) (other : Node) (progress : Progress) (at : slice_get w.nodes m ≡ Some other) (n : ℕ) → ReadsOn w (turned w m other progress at) n
reads_turned w m other progress at n y c =
    let x = turned_from w m other progress at y c.0 in
    (x.0, (x.1, ap (λ (j : Joins). j.receiver) (sym x.2.joins) ∙ c.1), ap (λ (j : Joins). j.input) x.2.joins, λ i. take (x.2.next i) (x.2.got i))

pub reads_marked : (s v : World) (n : ℕ) → MarkedFrom s v → ReadsOn s v n
reads_marked s v n g y c =
    let x = g y c.0 in
    (x.0, (x.1, ap (λ (u : Wire). u.receiver) (sym x.2.wire) ∙ c.1), ap (λ (u : Wire). u.input) x.2.wire, λ i. take (x.2.next i) (x.2.got i))

-- What a step does to the pipes that leave a node: each keeps its wire, nothing that came is lost, and what comes new is a result of a piece that is out.
use Rattle.std.proofs.Common.{◌≡◌, ℕ, zero, suc, ◌⊎◌, Bool, true, false, cond, List, [], ◌∷◌, ◌++◌, length, Some, None, refl, sym, ap, subst, ◌∙◌, inl, inr}
use Rattle.std.specs.Prelude.{Contains, nat_eq, slice_get, slice_set, ◌&&◌}
use Rattle.ps_frame.specs.Functions.{Functions}
use Rattle.ps_frame.specs.Tables.{Row, Table}
use Rattle.ps_ports.specs.Ports.{is_done}
use Rattle.ps_ports.specs.Wires.{Wire}
use Rattle.ps_turns.specs.Results.{IsResult, IsResultOf}
use Rattle.ps_turns.specs.Tables.{whole_tables}
use Rattle.ps_turns.specs.Tasks.{Piece, Task, computes, gives_last, gives_part, good, hands_on, keeps, probes}
use Rattle.ps_world.specs.Pipes.{drop_at, drop_if, dropped_pipe, drops_from, taken, with_answer, with_place}
use Rattle.ps_world.specs.World.{Pipe, World, is_cut_off}
use Rattle.world_facts.proofs.Slots.{at_cases, at_end}
use Rattle.world_laws.proofs.Agree.{from_map}
use Rattle.family_pipes.proofs.Complete.{complete, whole}
use Rattle.world_families.specs.Work.{Answers, Gives, IsComplete, Leaves, Work, work_of}

-- a pipe after a step beside the one before; N is what may come
pub record Onto (N : ℕ → List Row → Type 0) (x y : Pipe) : Type 0 where
  pub wire : y.wire ≡ x.wire
  pub unread : y.is_unread ≡ x.is_unread
  pub lost : y.is_dropped ≡ false → x.is_dropped ≡ false
  pub got : (k : ℕ) (rs : List Row) → slice_get y.got k ≡ Some (Some rs) → (slice_get x.got k ≡ Some (Some rs)) ⊎ N k rs

pub was_complete : {N : ℕ → List Row → Type 0} (x y : Pipe) → Onto N x y → IsComplete y → IsComplete x
was_complete x y o c = let h = whole y c in complete x (record { done = ap (λ (u : Wire). is_done u.send_state) (sym o.wire) ∙ h.done; dropped = o.lost h.dropped; unread = sym o.unread ∙ h.unread })

module _ (N : ℕ → List Row → Type 0) where
  pub itself : (x : Pipe) → Onto N x x
  itself x = record { wire = refl; unread = refl; lost = λ d. d; got = λ k rs e. inl e }

  pub if_onto : (b : Bool) (x y z : Pipe) → Onto N x y → Onto N x z → Onto N x (cond b y z)
  if_onto true x y z h g = h
  if_onto false x y z h g = g

  pub onward : (x y z : Pipe) → Onto N x y → Onto N y z → Onto N x z
  onward x y z h g = record { wire = g.wire ∙ h.wire; unread = g.unread ∙ h.unread; lost = λ d. h.lost (g.lost d); got = λ k rs e. by k rs (g.got k rs e) }
    where
      by : (k : ℕ) (rs : List Row) → (slice_get y.got k ≡ Some (Some rs)) ⊎ N k rs → (slice_get x.got k ≡ Some (Some rs)) ⊎ N k rs
      by k rs (inl old) = h.got k rs old
      by k rs (inr new) = inr new

  pub takes : (x : Pipe) → Onto N x (taken x)
  takes x = record { wire = refl; unread = refl; lost = λ d. d; got = λ k rs e. inl e }

  pub drops : (x : Pipe) → Onto N x (dropped_pipe x)
  drops x = record { wire = refl; unread = refl; lost = λ d. absurd (let never : true ≡ false = d in cc); got = λ k rs e. inl e }

  pub places : (x : Pipe) → Onto N x (with_place x)
  places x = record { wire = refl; unread = refl; lost = λ d. d; got = λ k rs e. inl (by k rs (at_cases x.got None k (Some rs) e) e) }
    where
      by : (k : ℕ) (rs : List Row) → (slice_get x.got k ≡ Some (Some rs)) ⊎ (k ≡ length x.got) → slice_get (x.got ++ None ∷ []) k ≡ Some (Some rs) → slice_get x.got k ≡ Some (Some rs)
      by k rs (inl old) e = old
      by k rs (inr end) e = absurd (let never : Some None ≡ Some (Some rs) = sym (at_end x.got None) ∙ sym (ap (slice_get (x.got ++ None ∷ [])) end) ∙ e in cc)

  set_cases : {A : Type 0} (xs : List A) (k j : ℕ) (new z : A) → slice_get (slice_set xs k new) j ≡ Some z → (slice_get xs j ≡ Some z) ⊎ (j ≡ k) × (new ≡ z)
  set_cases [] k j new z e = inl e
  set_cases (x ∷ xs) zero zero new z e = let q : Some new ≡ Some z = e in inr (refl, let same : new ≡ z = cc in same)
  set_cases (x ∷ xs) zero (suc j) new z e = inl e
  set_cases (x ∷ xs) (suc k) zero new z e = inl e
  set_cases (x ∷ xs) (suc k) (suc j) new z e = by (set_cases xs k j new z e)
    where
      by : (slice_get xs j ≡ Some z) ⊎ (j ≡ k) × (new ≡ z) → (slice_get xs j ≡ Some z) ⊎ (suc j ≡ suc k) × (new ≡ z)
      by (inl old) = inl old
      by (inr here) = inr (ap suc here.0, here.1)

  pub answers : (n : ℕ) (rs : List Row) → N n rs → (x : Pipe) → Onto N x (with_answer n rs x)
  answers n rs new x = if_onto x.is_dropped x x (record x { got = slice_set x.got n (Some rs) }) (itself x) (record { wire = refl; unread = refl; lost = λ d. d; got = λ k b e. by k b (set_cases x.got n k (Some rs) (Some b) e) })
    where
      by : (k : ℕ) (b : List Row) → (slice_get x.got k ≡ Some (Some b)) ⊎ (k ≡ n) × (Some rs ≡ Some b) → (slice_get x.got k ≡ Some (Some b)) ⊎ N k b
      by k b (inl old) = inl old
      by k b (inr here) = let same : rs ≡ b = let q = here.1 in cc in inr (subst (λ j. N j b) (sym here.0) (subst (N n) same new))

  -- drops change nothing else
  drop_onto : (b : Bool) (n : ℕ) (u : World) (y : Pipe) → Contains (drop_if b n u).pipes y → (x : Pipe) × Contains u.pipes x × Onto N x y
  drop_onto false n u y c = (y, c, itself y)
  drop_onto true n u y c =
      let x = from_map (λ (p : Pipe). cond (nat_eq p.wire.receiver n && p.in_phase) (dropped_pipe p) p) y u.pipes c in
      (x.0, x.1, subst (Onto N x.0) x.2 (if_onto (nat_eq x.0.wire.receiver n && x.0.in_phase) x.0 (dropped_pipe x.0) x.0 (drops x.0) (itself x.0)))

  pub drops_onto : (k : ℕ) (u : World) (y : Pipe) → Contains (drops_from u k).pipes y → (x : Pipe) × Contains u.pipes x × Onto N x y
  drops_onto zero u y c = (y, c, itself y)
  drops_onto (suc k) u y c =
      let z = drops_onto k (drop_at u k) y c in
      let x = drop_onto (is_cut_off u k) k u z.0 z.1 in
      (x.0, x.1, onward x.0 z.0 y x.2 z.2)

drop_rest : (b : Bool) (n : ℕ) (u : World) → ((drop_if b n u).outs ≡ u.outs) × ((drop_if b n u).options ≡ u.options)
drop_rest true n u = (refl, refl)
drop_rest false n u = (refl, refl)

pub drops_rest : (k : ℕ) (u : World) → ((drops_from u k).outs ≡ u.outs) × ((drops_from u k).options ≡ u.options)
drops_rest zero u = (refl, refl)
drops_rest (suc k) u = let a = drops_rest k (drop_at u k) in let b = drop_rest (is_cut_off u k) k u in (a.0 ∙ b.0, a.1 ∙ b.1)

-- rows that may be handed in for a piece of a node, by their number
abbrev pub MayCome : Functions → World → ℕ → ℕ → List Row → Type 0
MayCome F w n k rs = (q : Piece) × Contains w.outs q × (q.node ≡ n) × (q.gives ≡ k) × IsResult F q (good rs)

-- rows don't hang on the input of a piece
pub any_input : (F : Functions) (t : Task) (i : ℕ) (ts : List Table) (tables : List (List Row)) (rs : List Row) → IsResultOf F t i ts tables (good rs) → IsResultOf F t 0 ts tables (good rs)
any_input F hands_on i ts tables rs h = h
any_input F (computes p) i ts tables rs h = h
any_input F (keeps p) i ts tables rs h = h
any_input F (gives_part p keys) i ts tables rs h = h
any_input F (probes p j) i ts tables rs h = h
any_input F (gives_last p j) i ts tables rs h = h

-- What a node gives stays so over a step: answers that come are those to its pieces, new pieces have their work, and what is newly complete has given all.
pub gives_keep : (F : Functions) (w v : World) (n : ℕ) (W W' : ℕ → Work → Type 0) (K K' : Piece → Type 0) (A A' : Type 0) → ((k : ℕ) (x : Work) → W k x → W' k x) → ((q : Piece) → K q → K' q) → ((q : Piece) (rs : List Row) → K q → IsResult F q (good rs) → ⊥)
    → ((y : Pipe) (k : ℕ) (rs : List Row) → Leaves v n y → slice_get y.got k ≡ Some (Some rs) → ((x : Pipe) × Leaves w n x × (slice_get x.got k ≡ Some (Some rs))) ⊎ MayCome F w n k rs)
    → ((q : Piece) → Contains v.outs q → q.node ≡ n → Contains w.outs q ⊎ W' q.gives (work_of q) ⊎ K' q)
    → ((y : Pipe) → Leaves v n y → IsComplete y → ((x : Pipe) × Leaves w n x × IsComplete x × (A → A')) ⊎ A')
    → Gives F w n W K A → Gives F v n W' K' A'
gives_keep F w v n W W' K K' A A' work kept silent came pieces completes g =
    record {
      answers = λ y k rs l e. answered k rs (came y k rs l e);
      pieces = λ q c e. piece q e (pieces q c e);
      completes = λ y l c. given (completes y l c);
    }
  where
    of_piece : (k : ℕ) (rs : List Row) (q : Piece) → q.gives ≡ k → IsResult F q (good rs) → W q.gives (work_of q) ⊎ K q → (x : Work) × W' k x × Answers F x rs
    of_piece k rs q at result (inl h) = (work_of q, work k (work_of q) (subst (λ j. W j (work_of q)) at h), any_input F q.task q.input (whole_tables q.schemas q.tables) q.tables rs result)
    of_piece k rs q at result (inr h) = absurd (silent q rs h result)

    answered : (k : ℕ) (rs : List Row) → ((x : Pipe) × Leaves w n x × (slice_get x.got k ≡ Some (Some rs))) ⊎ MayCome F w n k rs → (x : Work) × W' k x × Answers F x rs
    answered k rs (inl old) = let a = g.answers old.0 k rs old.1 old.2 in (a.0, work k a.0 a.1, a.2)
    answered k rs (inr new) = of_piece k rs new.0 new.3 new.4 (g.pieces new.0 new.1 new.2)

    again : (q : Piece) → W q.gives (work_of q) ⊎ K q → W' q.gives (work_of q) ⊎ K' q
    again q (inl h) = inl (work q.gives (work_of q) h)
    again q (inr h) = inr (kept q h)

    piece : (q : Piece) → q.node ≡ n → Contains w.outs q ⊎ W' q.gives (work_of q) ⊎ K' q → W' q.gives (work_of q) ⊎ K' q
    piece q e (inl old) = again q (g.pieces q old e)
    piece q e (inr new) = new

    given : ((x : Pipe) × Leaves w n x × IsComplete x × (A → A')) ⊎ A' → A'
    given (inl old) = old.3 (g.completes old.0 old.1 old.2)
    given (inr now) = now

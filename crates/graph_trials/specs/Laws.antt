-- The nodes of the trials keep the laws of updates.
use Rattle.std.specs.Prelude.{◌≡◌, ℕ, ◌≤◌, ◌⊎◌, ◌||◌, Bool, true, false, List, [], ◌∷◌, length, Some}
use Rattle.std.proofs.Common.{None, ap, sym, ◌∙◌, subst, inl, inr, arith, zero, suc, refl}
use Rattle.ps_ports.specs.declared.port_state.PortState.{PortState}
use Rattle.ps_ports.specs.declared.port_state.PortState.TheVariants as port
use Rattle.ps_ports.specs.Ports.{Sides, first_port, is_done, kept_done, kept_state, keeping_done}
use Rattle.ps_ports.specs.UpdateLaws.{AgreeApartFromDone, KeepsUpdateLaws, StayDone}
use Rattle.ps_settle.proofs.Ends.{kept-at, kept-length}
use Rattle.ps_settle.proofs.Members.{item_at}
use Rattle.std.proofs.lemmas.Option.{slice_get_within}
use Rattle.graph_trials.specs.declared.kind.Kind.{Kind}
use Rattle.graph_trials.specs.declared.kind.Kind.TheVariants as kind
use Rattle.graph_trials.specs.Trying.{Tried, answer_by, inputs_of, next_kind, outputs_of, stages_of}

ports_in : (k : Kind) (given : Sides) → inputs_of (next_kind k given) ≡ inputs_of k
ports_in (kind.Source spent) given = refl
ports_in kind.Filter given = refl
ports_in (kind.Map over) given = refl
ports_in kind.Union given = refl
ports_in kind.Taker given = refl
ports_in kind.Sink given = refl

ports_out : (k : Kind) (given : Sides) → outputs_of (next_kind k given) ≡ outputs_of k
ports_out (kind.Source spent) given = refl
ports_out kind.Filter given = refl
ports_out (kind.Map over) given = refl
ports_out kind.Union given = refl
ports_out kind.Taker given = refl
ports_out kind.Sink given = refl

pub trial_ports : (a b : Kind) (given answer : Sides) (inputs outputs : ℕ) → Tried a given b answer → (inputs ≡ inputs_of a) × (outputs ≡ outputs_of a) → (inputs ≡ inputs_of b) × (outputs ≡ outputs_of b)
trial_ports a b given answer inputs outputs u p = (p.0 ∙ sym (ports_in a given) ∙ ap inputs_of (sym u.next), p.1 ∙ sym (ports_out a given) ∙ ap outputs_of (sym u.next))

-- the stages behind a node grow, and where they don't it is as it was
grow : (k : Kind) (given : Sides) → (stages_of k ≤ stages_of (next_kind k given)) × (stages_of (next_kind k given) ≤ 2)
grow (kind.Source spent) given = (omega arith, omega arith)
grow kind.Filter given = (omega arith, omega arith)
grow (kind.Map true) given = (omega arith, omega arith)
grow (kind.Map false) given = by (is_done (first_port given.inputs) || is_done (first_port given.outputs))
  where
    by : (over : Bool) → (0 ≤ stages_of (kind.Map over)) × (stages_of (kind.Map over) ≤ 2)
    by true = (omega arith, omega arith)
    by false = (omega arith, omega arith)
grow kind.Union given = (omega arith, omega arith)
grow kind.Taker given = (omega arith, omega arith)
grow kind.Sink given = (omega arith, omega arith)

told_by_stages : (a b : Bool) → stages_of (kind.Map a) ≡ stages_of (kind.Map b) → kind.Map a ≡ kind.Map b
told_by_stages true true e = refl
told_by_stages true false e = absurd (omega (arith, e))
told_by_stages false true e = absurd (omega (arith, e))
told_by_stages false false e = refl

stays : (k : Kind) (given : Sides) → stages_of k ≡ stages_of (next_kind k given) → next_kind k given ≡ k
stays (kind.Source spent) given e = refl
stays kind.Filter given e = refl
stays (kind.Map over) given e = told_by_stages (over || is_done (first_port given.inputs) || is_done (first_port given.outputs)) over (sym e)
stays kind.Union given e = refl
stays kind.Taker given e = refl
stays kind.Sink given e = refl

same_next : (k : Kind) (given given' : Sides) → stages_of (next_kind k given) ≡ stages_of (next_kind k given') → next_kind k given ≡ next_kind k given'
same_next (kind.Source spent) given given' e = refl
same_next kind.Filter given given' e = refl
same_next (kind.Map over) given given' e =
    told_by_stages (over || is_done (first_port given.inputs) || is_done (first_port given.outputs)) (over || is_done (first_port given'.inputs) || is_done (first_port given'.outputs)) e
same_next kind.Union given given' e = refl
same_next kind.Taker given given' e = refl
same_next kind.Sink given given' e = refl

long_in : (k : Kind) (given : Sides) → length given.inputs ≡ inputs_of k → length given.outputs ≡ outputs_of k → length given.inputs ≡ length (answer_by k given).inputs
long_in (kind.Source spent) given i o = i
long_in kind.Filter given i o = i ∙ sym o
long_in (kind.Map over) given i o = i
long_in kind.Union given i o = i ∙ sym o
long_in kind.Taker given i o = i
long_in kind.Sink given i o = i

long_out : (k : Kind) (given : Sides) → length given.inputs ≡ inputs_of k → length given.outputs ≡ outputs_of k → length given.outputs ≡ length (answer_by k given).outputs
long_out (kind.Source spent) given i o = o
long_out kind.Filter given i o = o ∙ sym i
long_out (kind.Map over) given i o = o
long_out kind.Union given i o = o ∙ sym i
long_out kind.Taker given i o = o
long_out kind.Sink given i o = o

-- what is sent depends on what the inputs are given alone, but for done
sends_by : (k : Kind) (given given' : Sides) → given.inputs ≡ given'.inputs → (answer_by k given).outputs ≡ (answer_by k given').outputs
sends_by (kind.Source spent) given given' e = refl
sends_by kind.Filter given given' e = e
sends_by (kind.Map over) given given' e = refl
sends_by kind.Union given given' e = e
sends_by kind.Taker given given' e = refl
sends_by kind.Sink given given' e = refl

done_kept : (olds news : List PortState) → length olds ≡ length news → StayDone olds (kept_done olds news)
done_kept olds news e i s at done =
    let within = slice_get_within olds i s at in
    let k = item_at news i (omega (arith, within, e)) in
    kept-at olds news i s k.0 at k.1 ∙ ap Some (stays s k.0 done)
  where
    stays : (old new : PortState) → is_done old ≡ true → kept_state old new ≡ old
    stays port.Done new d = refl
    stays port.Ready new d = absurd (let clash : false ≡ true = d in cc)
    stays port.Blocked new d = absurd (let clash : false ≡ true = d in cc)

agree_kept : (olds olds' news : List PortState) → AgreeApartFromDone (kept_done olds news) (kept_done olds' news)
agree_kept [] olds' news i x y ex ey = absurd (let clash : None ≡ Some x = ex in cc)
agree_kept (o ∷ os) olds' [] i x y ex ey = absurd (let clash : None ≡ Some x = ex in cc)
agree_kept (o ∷ os) [] (n ∷ ns) i x y ex ey = absurd (let clash : None ≡ Some y = ey in cc)
agree_kept (o ∷ os) (p ∷ ps) (n ∷ ns) zero x y ex ey =
    let x_is : kept_state o n ≡ x = (let both : Some (kept_state o n) ≡ Some x = ex in cc) in
    let y_is : kept_state p n ≡ y = (let both : Some (kept_state p n) ≡ Some y = ey in cc) in
    subst (λ z. (is_done z ≡ true) ⊎ (is_done y ≡ true) ⊎ (z ≡ y)) x_is (subst (λ z. (is_done (kept_state o n) ≡ true) ⊎ (is_done z ≡ true) ⊎ (kept_state o n ≡ z)) y_is (by o p))
  where
    by : (a b : PortState) → (is_done (kept_state a n) ≡ true) ⊎ (is_done (kept_state b n) ≡ true) ⊎ (kept_state a n ≡ kept_state b n)
    by port.Done b = inl refl
    by port.Ready port.Done = inr (inl refl)
    by port.Ready port.Ready = inr (inr refl)
    by port.Ready port.Blocked = inr (inr refl)
    by port.Blocked port.Done = inr (inl refl)
    by port.Blocked port.Ready = inr (inr refl)
    by port.Blocked port.Blocked = inr (inr refl)
agree_kept (o ∷ os) (p ∷ ps) (n ∷ ns) (suc i) x y ex ey = agree_kept os ps ns i x y ex ey

-- an answer is as long as what is given, on both sides
module _ (a b : Kind) (given answer : Sides) (u : Tried a given b answer) where
  ins : length given.inputs ≡ inputs_of (next_kind a given)
  ins = u.inputs ∙ sym (ports_in a given)

  outs : length given.outputs ≡ outputs_of (next_kind a given)
  outs = u.outputs ∙ sym (ports_out a given)

  pub same_in : length given.inputs ≡ length (answer_by (next_kind a given) given).inputs
  same_in = long_in (next_kind a given) given ins outs

  pub same_out : length given.outputs ≡ length (answer_by (next_kind a given) given).outputs
  same_out = long_out (next_kind a given) given ins outs

pub trial_laws : {N : Type 0} (kind_of : N → Kind) → KeepsUpdateLaws (λ (n : N). stages_of (kind_of n)) (λ a given b answer. Tried (kind_of a) given (kind_of b) answer)
trial_laws kind_of =
    record {
      lengths = λ a b given answer u. (
        ap (λ (s : Sides). length s.inputs) u.is ∙ kept-length given.inputs (answer_by (next_kind (kind_of a) given) given).inputs (same_in (kind_of a) (kind_of b) given answer u),
        ap (λ (s : Sides). length s.outputs) u.is ∙ kept-length given.outputs (answer_by (next_kind (kind_of a) given) given).outputs (same_out (kind_of a) (kind_of b) given answer u),
      );
      done_stays = λ a b given answer u.
          let P : Sides → Type 0 = λ s. StayDone given.inputs s.inputs × StayDone given.outputs s.outputs in
          let news : Sides = answer_by (next_kind (kind_of a) given) given in
          subst P (sym u.is)
          (done_kept given.inputs news.inputs (same_in (kind_of a) (kind_of b) given answer u), done_kept given.outputs news.outputs (same_out (kind_of a) (kind_of b) given answer u));
      two_stages = λ a b given answer u.
          let P : Kind → Type 0 = λ k. (stages_of (kind_of a) ≤ stages_of k) × (stages_of k ≤ 2) in
          subst P (sym u.next) (grow (kind_of a) given);
      one_answer = λ a b c given answer other u v. (u.is ∙ sym v.is, ap stages_of (u.next ∙ sym v.next));
      sends_follow = λ a b c given given' answer answer' same u v e.
          let P : Sides → Sides → Type 0 = λ s t. AgreeApartFromDone s.outputs t.outputs in
          let k : Kind = next_kind (kind_of a) given in
          let k' : Kind = next_kind (kind_of a) given' in
          let alike : k ≡ k' = same_next (kind_of a) given given' (ap stages_of (sym u.next) ∙ e ∙ ap stages_of v.next) in
          let sent : (answer_by k given).outputs ≡ (answer_by k' given').outputs = sends_by k given given' same ∙ ap (λ l. (answer_by l given').outputs) alike in
          let agree : AgreeApartFromDone (kept_done given.outputs (answer_by k given).outputs) (kept_done given'.outputs (answer_by k' given').outputs) =
          subst (λ l. AgreeApartFromDone (kept_done given.outputs (answer_by k given).outputs) (kept_done given'.outputs l)) sent (agree_kept given.outputs given'.outputs (answer_by k given).outputs) in
          subst (λ s. P s answer') (sym u.is) (subst (λ t. P (keeping_done given (answer_by k given)) t) (sym v.is) agree);
      quiet = λ a b given answer u same quiet given' answer' c keeps_in keeps_out v.
          (c, subst (λ k. Tried k given' (kind_of c) answer') (u.next ∙ stays (kind_of a) given (same ∙ ap stages_of u.next)) v, refl);
    }

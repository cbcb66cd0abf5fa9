-- Every world that the opening of a sound shape reaches keeps the facts, whatever its nodes.
use Rattle.std.proofs.Common.{◌≡◌, ℕ, zero, suc, ◌+◌, ◌⊎◌, List, [], ◌∷◌, length, Option, None, Some, refl, sym, ap, subst, ◌∙◌, inl, inr, arith}
use Rattle.std.specs.Prelude.{Contains, get_or, map, replicate, slice_get}
use Rattle.std.proofs.lemmas.List.Elements.{Contains-append_cases}
use Rattle.ps_frame.specs.Functions.{Functions}
use Rattle.ps_frame.specs.Tables.{Row}
use Rattle.ps_meaning.specs.Shape.{PhysicalKind, PhysicalNode, Shape, equi_join}
use Rattle.ps_meaning.specs.Sound.{IsSound}
use Rattle.ps_options.specs.declared.options.Options.{Options}
use Rattle.ps_world.specs.Opening.{Reaches, fresh_node, no_progress, fresh_pipe, opening, pipes_from, pipes_to}
use Rattle.ps_world.specs.Step.{Replays, Steps}
use Rattle.ps_world.specs.World.{Node, Pipe, Record, World, claimed, closed, ended, handed_in, opened, pulled}
use Rattle.world_facts.proofs.Claimed.{claim_keeps}
use Rattle.world_facts.proofs.ClosedKeeps.{closed_keeps}
use Rattle.world_facts.proofs.DropsDone.{opened_keeps}
use Rattle.world_facts.proofs.EndedKeeps.{ended_keeps}
use Rattle.world_facts.proofs.HandedIn.{handed_in_keeps}
use Rattle.world_facts.proofs.OpeningFacts.{at_opening}
use Rattle.world_facts.proofs.PulledKeeps.{pulled_keeps}
use Rattle.world_facts.proofs.UpdatedKeeps.{updates_keep_facts}
use Rattle.world_laws.proofs.InOrder.{contains_cases, none_in_nil}
use Rattle.world_claims.proofs.Claiming.{claims_fit, claims_number, fits_whole}
use Rattle.world_claims.proofs.Outs.{outs_shut}
use Rattle.world_claims.proofs.OutsOpen.{opens_fit}
use Rattle.world_claims.proofs.Steps.{answers_fit, answers_number, closes_fit, closes_number, ends_fit, ends_number, opens_number, pulls_fit, pulls_number, updates_number}
use Rattle.world_claims.specs.Numbering.{IsNumbered, Known, NumberedAt, OutsFit, last_given}

-- THE OPENING
blank_slots : (k i : ℕ) → get_or (replicate {A = List (Option (List Row))} k []) i [] ≡ []
blank_slots zero i = refl
blank_slots (suc k) zero = refl
blank_slots (suc k) (suc i) = blank_slots k i

blank_length : (k : ℕ) → length (replicate {A = List (Option (List Row))} k []) ≡ k
blank_length zero = refl
blank_length (suc k) = ap suc (blank_length k)

fresh_last : (kind : PhysicalKind) (k : ℕ) → last_given kind (no_progress k) ≡ 0
fresh_last (equi_join j) k = refl
fresh_last kind k = refl

-- the pipes of a shape have got nothing
abbrev IsBare : Pipe → Type 0
IsBare p = (p.got ≡ []) × (p.next ≡ 0)

bare_to : (n i : ℕ) (qs : List (ℕ × ℕ)) (p : Pipe) → Contains (pipes_to n i qs) p → IsBare p
bare_to n i [] p c = absurd (none_in_nil p c)
bare_to n i (q ∷ qs) p c = by (contains_cases (fresh_pipe q.0 q.1 n i) p (pipes_to n (i + 1) qs) c) (bare_to n (i + 1) qs p)
  where
    by : (fresh_pipe q.0 q.1 n i ≡ p) ⊎ Contains (pipes_to n (i + 1) qs) p → (Contains (pipes_to n (i + 1) qs) p → IsBare p) → IsBare p
    by (inl e) rest = (ap (λ (x : Pipe). x.got) (sym e), ap (λ (x : Pipe). x.next) (sym e))
    by (inr d) rest = rest d

bare_from : (shape : Shape) (k : ℕ) (p : Pipe) → Contains (pipes_from shape k) p → IsBare p
bare_from [] k p c = absurd (none_in_nil p c)
bare_from (x ∷ xs) k p c = by (Contains-append_cases (pipes_to k 0 x.inputs) (pipes_from xs (k + 1)) p c) (bare_from xs (k + 1) p)
  where
    by : Contains (pipes_to k 0 x.inputs) p ⊎ Contains (pipes_from xs (k + 1)) p → (Contains (pipes_from xs (k + 1)) p → IsBare p) → IsBare p
    by (inl d) rest = bare_to k 0 x.inputs p d
    by (inr d) rest = rest d

fresh_from : (shape : Shape) (m : ℕ) (y : Node) → slice_get (map fresh_node shape) m ≡ Some y → (p : PhysicalNode) × (fresh_node p ≡ y)
fresh_from [] m y e = absurd (let no : None ≡ Some y = e in cc)
fresh_from (p ∷ ps) zero y e = (p, let q : Some (fresh_node p) ≡ Some y = e in cc)
fresh_from (p ∷ ps) (suc m) y e = fresh_from ps m y e

fresh_numbers : (shape : Shape) (o : Options) (m : ℕ) (p : PhysicalNode) → NumberedAt (opening shape o) m (fresh_node p)
fresh_numbers shape o m p =
    record {
      own = λ k q c s u. ap length (bare_from shape 0 q c).0;
      passed = λ k q r c d s u t i.
          let a = ap length (bare_from shape 0 q c).0 in
          let b = (bare_from shape 0 r d).1 in
          let l = fresh_last p.kind (length p.inputs) in
          omega (arith, a, b, l);
      slots = λ q c r k. ap length (blank_slots (length p.inputs) q.wire.input) ∙ sym (bare_from shape 0 q c).1;
      inputs = blank_length (length p.inputs);
      ended = λ e q c r i. absurd (e (fresh_last p.kind (length p.inputs)));
    }

pub known_opening : (F : Functions) (shape : Shape) (o : Options) → IsSound F shape → Known F (opening shape o)
known_opening F shape o sound =
    record {
      facts = at_opening F shape o sound;
      numbers = λ m y e. let x = fresh_from shape m y e in subst (NumberedAt (opening shape o) m) x.1 (fresh_numbers shape o m x.0);
      outs = outs_shut (opening shape o) refl;
    }

-- EACH STEP
pub known_step : (F : Functions) (w v : World) (r : Record) → Known F w → Steps F w r v → Known F v
known_step F w v (opened phase) h s =
    let known = updates_keep_facts F w s.3.0 s.3.1 h.facts s.0 in
    record {
      facts = opened_keeps F w s.3.0 v phase s.3.1 h.facts s.0 s.3.2;
      numbers = opens_number F s.3.0 v phase s.3.2 (updates_number F w s.3.0 s.3.1 h.numbers);
      outs = opens_fit F s.3.0 v phase known.0 known.1 s.3.2;
    }
known_step F w v (claimed n i number worker) h s =
    let node = s.0 in
    let at = s.1.0 in
    let on = s.1.1 in
    let c = s.5.0 in
    let is = s.5.1 in
    subst (Known F) (sym s.5.3)
    (record {
      facts = claim_keeps F w n i worker node c at on s.2 (fits_whole F w h.facts h.numbers h.outs n i node at on c is) h.facts;
      numbers = claims_number F w h.facts h.numbers h.outs n i node at on c is worker;
      outs = claims_fit F w h.facts h.numbers h.outs n i node at on c is worker;
    })
known_step F w v (handed_in n i number worker handed) h s =
    record {
      facts = handed_in_keeps F w v n i number worker handed h.facts s;
      numbers = subst IsNumbered (sym s.7.3) (answers_number w s.0 s.7.0 h.numbers);
      outs = subst OutsFit (sym s.7.3) (answers_fit w s.0 s.7.0 h.outs);
    }
known_step F w v (pulled n i number) h s =
    record {
      facts = pulled_keeps F w v n i number h.facts s;
      numbers = subst IsNumbered (sym s.4.8) (pulls_number w n i s.0 s.4.0 s.4.1 s.1.0 s.2 h.numbers);
      outs = subst OutsFit (sym s.4.8) (pulls_fit w n i s.0 s.4.0 s.4.1 s.1.0 s.2 h.outs);
    }
known_step F w v (closed n) h s =
    record {
      facts = closed_keeps F w v n h.facts s;
      numbers = subst IsNumbered (sym s.4) (closes_number w n s.0 s.1.0 h.numbers);
      outs = subst OutsFit (sym s.4) (closes_fit w n s.0 s.1.0 h.outs);
    }
known_step F w v (ended phase) h s =
    record {
      facts = ended_keeps F w v phase h.facts s;
      numbers = subst IsNumbered (sym s.4) (ends_number w h.numbers);
      outs = subst OutsFit (sym s.4) (ends_fit w);
    }

known_run : (F : Functions) (w v : World) (rs : List Record) → Known F w → Replays F w rs v → Known F v
known_run F w v [] h e = subst (Known F) (sym e) h
known_run F w v (r ∷ rs) h s = known_run F s.0 v rs (known_step F w s.0 r h s.1) s.2

pub known_reached : (F : Functions) (shape : Shape) (o : Options) (w : World) → IsSound F shape → Reaches F shape o w → Known F w
known_reached F shape o w sound r = known_run F (opening shape o) w r.0 (known_opening F shape o sound) r.1

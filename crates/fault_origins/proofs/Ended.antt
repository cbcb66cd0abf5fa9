-- A run that a fault ended: the step that ended it made the fault.
use Rattle.std.proofs.Common.{◌≡◌, ℕ, zero, suc, Bool, true, false, List, [], ◌∷◌, length, Option, Some, None, refl, sym, ap, subst, ◌∙◌}
use Rattle.std.specs.Prelude.{map, option_map, slice_get}
use Rattle.std.proofs.lemmas.Option.{slice_get-map}
use Rattle.ps_frame.specs.Causes.{Cause, is_empty}
use Rattle.ps_frame.specs.Functions.{Functions}
use Rattle.ps_meaning.specs.Shape.{PhysicalNode, Shape}
use Rattle.ps_meaning.specs.Sound.{IsSound}
use Rattle.ps_options.specs.declared.options.Options.{Options}
use Rattle.ps_turns.specs.Progress.{Progress}
use Rattle.ps_turns.specs.Results.{IsResult}
use Rattle.ps_turns.specs.Tasks.{Answer, Piece, bad, good, partial}
use Rattle.ps_world.specs.Answers.{answered, with_partial}
use Rattle.ps_world.specs.Claims.{before_drops}
use Rattle.ps_world.specs.Laws.{MakesFault}
use Rattle.ps_world.specs.Opening.{Reaches, fresh_node, opening}
use Rattle.ps_world.specs.Phases.{after_open, blockers_in}
use Rattle.ps_world.specs.Pipes.{drop_at, drop_if, drops_from, put_progress}
use Rattle.ps_world.specs.Step.{Opens, Replays, Steps, breaks, settles}
use Rattle.ps_world.specs.Updates.{FaultFound, Updates, no_update, one_fill, one_update}
use Rattle.ps_world.specs.World.{Node, Record, World, claimed, closed, ended, faulty, finished, handed_in, is_cut_off, opened, pulled, running, shape_of}
use Rattle.world_laws.proofs.InOrder.{none_in_nil}
use Rattle.world_facts.proofs.FromFacts.{piece_nodes}
use Rattle.world_laws.proofs.Shapes.{step_keeps, updates_keep}
use Rattle.world_claims.proofs.ReachedFacts.{known_opening, known_step}
use Rattle.world_claims.specs.Numbering.{Known}
use Rattle.world_bounds.proofs.Pieces.{AllFit, step_fits}
use Rattle.fault_origins.proofs.Results.{of_step}
use Rattle.fault_origins.proofs.Tasks.{OwnTask, own_claimed, own_onward}

-- WHAT LEAVES THE RUN GOING
put_ending : (o : Option Node) (n : ℕ) (progress : Progress) (w : World) → (put_progress o n progress w).ending ≡ w.ending
put_ending None n progress w = refl
put_ending (Some node) n progress w = refl

updates_ending : (F : Functions) (w s : World) → Updates F w s → s.ending ≡ w.ending
updates_ending F w s no_update = refl
updates_ending F w s (one_update n node progress t u) = updates_ending F _ s u ∙ put_ending (slice_get w.nodes n) n progress w
updates_ending F w s (one_fill n node progress t u) = updates_ending F _ s u ∙ put_ending (slice_get w.nodes n) n progress w

drop_ending : (b : Bool) (n : ℕ) (w : World) → (drop_if b n w).ending ≡ w.ending
drop_ending true n w = refl
drop_ending false n w = refl

drops_ending : (n : ℕ) (w : World) → (drops_from w n).ending ≡ w.ending
drops_ending zero w = refl
drops_ending (suc n) w = drops_ending n (drop_at w n) ∙ drop_ending (is_cut_off w n) n w

partial_ending : (q : Piece) (o : Option Node) (w : World) → (with_partial q o w).ending ≡ w.ending
partial_ending q None w = refl
partial_ending q (Some node) w = put_ending (slice_get w.nodes q.node) q.node _ w

goes_on : {A : Type 0} (w v : World) (c : Cause) → v.ending ≡ w.ending → w.ending ≡ running → v.ending ≡ faulty c → A
goes_on w v c same run e = absurd (let no : running ≡ faulty c = sym run ∙ sym same ∙ e in cc)

open_goes_on : {A : Type 0} (s : World) (phase : ℕ) (c : Cause) → s.ending ≡ running → (after_open s phase).ending ≡ faulty c → A
open_goes_on {A = A} s phase c run e = by (is_empty (blockers_in s)) refl
  where
    by : (b : Bool) → is_empty (blockers_in s) ≡ b → A
    by true q = absurd (let no : finished ≡ faulty c = rw q at e in cc)
    by false q = absurd (let no : running ≡ faulty c = sym run ∙ (rw q at e) in cc)

-- THE STEP THAT ENDS IT
same_cause : (c d : Cause) → faulty c ≡ faulty d → c ≡ d
same_cause c d e = cc

open_fault : (F : Functions) (s v : World) (phase : ℕ) (c : Cause) → Opens F s phase v → s.ending ≡ running → v.ending ≡ faulty c → (n : ℕ) × FaultFound F s n c
open_fault F s v phase c (settles rest q) run e = open_goes_on s phase c run (sym (ap (λ (x : World). x.ending) q) ∙ e)
open_fault F s v phase c (breaks n d found q) run e = (n, subst (FaultFound F s n) (same_cause d c (sym (ap (λ (x : World). x.ending) q) ∙ e)) found)

answer_fault : (F : Functions) (w : World) (q : Piece) (a : Answer) (c : Cause) → w.ending ≡ running → IsResult F q a → (answered w q a).ending ≡ faulty c → IsResult F q (bad c)
answer_fault F w q (good rs) c run r e = absurd (let no : running ≡ faulty c = sym run ∙ e in cc)
answer_fault F w q (partial n) c run r e = goes_on w (with_partial q (slice_get w.nodes q.node) w) c (partial_ending q (slice_get w.nodes q.node) w) run e
answer_fault F w q (bad d) c run r e = subst (λ x. IsResult F q (bad x)) (same_cause d c e) r

makes_fault : (F : Functions) (w v : World) (r : Record) (c : Cause) → Steps F w r v → v.ending ≡ faulty c → (n : ℕ) × MakesFault F w r n c
makes_fault F w v (opened phase) c s e =
    let found = open_fault F s.3.0 v phase c s.3.2 (updates_ending F w s.3.0 s.3.1 ∙ s.1) e in
    (found.0, (s.0, (s.3.0, s.3.1, found.1)))
makes_fault F w v (claimed n i number worker) c s e =
    let start = before_drops w n i worker s.0 s.5.0 in
    goes_on w v c (ap (λ (x : World). x.ending) s.5.3 ∙ drops_ending (length start.nodes) start) s.1.2 e
makes_fault F w v (handed_in n i number worker handed) c s e = (n, (refl, s.0, s.1, s.2, answer_fault F w s.0 s.7.0 c s.6 s.7.1 (sym (ap (λ (x : World). x.ending) s.7.3) ∙ e)))
makes_fault F w v (pulled n i number) c s e = (n, (refl, v, s, e))
makes_fault F w v (closed n) c s e = goes_on w v c (ap (λ (x : World). x.ending) s.4) s.1.2 e
makes_fault F w v (ended phase) c s e = goes_on w v c (ap (λ (x : World). x.ending) s.4) s.1 e

-- a node of the shape made it
abbrev pub Names : Shape → Cause → Type 0
Names shape c = (n : ℕ) × (p : PhysicalNode) × (slice_get shape n ≡ Some p) × (c.node ≡ p.origin)

abbrev pub NamesNode : Shape → World → Type 0
NamesNode shape w = (c : Cause) → w.ending ≡ faulty c → Names shape c

entry_of : (w : World) (n : ℕ) (node : Node) → slice_get w.nodes n ≡ Some node → slice_get (shape_of w) n ≡ Some node.node
entry_of w n node at = slice_get-map (λ (x : Node). x.node) w.nodes n ∙ ap (option_map (λ (x : Node). x.node)) at

has_entry : (F : Functions) (w : World) (r : Record) (n : ℕ) (c : Cause) → Known F w → MakesFault F w r n c → (p : PhysicalNode) × (slice_get (shape_of w) n ≡ Some p)
has_entry F w (opened phase) n c k m =
    let s = m.1.0 in
    let found = m.1.2 in
    (found.0.node, subst (λ x. slice_get x n ≡ Some found.0.node) (updates_keep F w s m.1.1) (entry_of s n found.0 found.1))
has_entry F w (handed_in j i number worker handed) n c k m =
    let at = piece_nodes F w k.facts m.1 m.2 in
    (at.0.node, subst (λ x. slice_get (shape_of w) x ≡ Some at.0.node) m.3 (entry_of w m.1.node at.0 at.1))
has_entry F w (pulled j i number) n c k m = (m.2.0.node, subst (λ x. slice_get (shape_of w) x ≡ Some m.2.0.node) m.0 (entry_of w j m.2.0 m.2.1.0))
has_entry F w (claimed j i number worker) n c k m = absurd m
has_entry F w (closed j) n c k m = absurd m
has_entry F w (ended phase) n c k m = absurd m

step_names : (F : Functions) (shape : Shape) (w v : World) (r : Record) → Known F w → AllFit OwnTask own_onward own_claimed w → shape_of w ≡ shape → Steps F w r v → NamesNode shape v
step_names F shape w v r k own same s c e =
    let m = makes_fault F w v r c s e in
    let p = has_entry F w r m.0 c k m.1 in
    (m.0, p.0, subst (λ x. slice_get x m.0 ≡ Some p.0) same p.1, of_step F w r m.0 p.0 c k own p.1 m.1)

replay_names : (F : Functions) (shape : Shape) (w v : World) (rs : List Record) → Known F w → AllFit OwnTask own_onward own_claimed w → shape_of w ≡ shape → Replays F w rs v → NamesNode shape w → NamesNode shape v
replay_names F shape w v [] k own same e names = subst (NamesNode shape) (sym e) names
replay_names F shape w v (r ∷ rs) k own same s names =
    replay_names F shape s.0 v rs (known_step F w s.0 r k s.1) (step_fits OwnTask own_onward own_claimed F w s.0 r k.facts s.1 own) (step_keeps F w s.0 r s.1 ∙ same) s.2 (step_names F shape w s.0 r k own same s.1)

fresh_shape : (shape : Shape) → map (λ (n : Node). n.node) (map fresh_node shape) ≡ shape
fresh_shape [] = refl
fresh_shape (p ∷ ps) = ap (λ qs. p ∷ qs) (fresh_shape ps)

pub names_node : (F : Functions) (shape : Shape) (o : Options) (w : World) → IsSound F shape → Reaches F shape o w → NamesNode shape w
names_node F shape o w sound r =
    replay_names F shape (opening shape o) w r.0 (known_opening F shape o sound) (λ q x c at. absurd (none_in_nil q c)) (fresh_shape shape) r.1 (λ c e. absurd (let no : running ≡ faulty c = e in cc))

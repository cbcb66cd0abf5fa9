-- What a turn does to a node: which stage it is in, and what stays.
use Rattle.std.proofs.Common.{◌≡◌, ◌≤◌, Bool, true, false, cond, List, refl, sym, ap, ◌∙◌, inl, inr, arith}
use Rattle.std.specs.Prelude.{is_some, map, not, ◌&&◌, ◌||◌}
use Rattle.ps_frame.specs.Functions.{Functions}
use Rattle.ps_frame.specs.Tables.{Fields}
use Rattle.ps_meaning.specs.Shape.{PhysicalKind, PhysicalNode, equi_join, group_by_node, in_memory_join, in_memory_map, negative_slice, zip_node}
use Rattle.ps_options.specs.declared.options.Options.{Options}
use Rattle.ps_ports.specs.Ports.{Sides, all_done, first_port, is_done, second_port}
use Rattle.ps_turns.specs.Heads.{heads_by, stored_inputs}
use Rattle.ps_turns.specs.Progress.{Progress, Stage, giving, is_giving, is_taking, is_user_map, spent, taking}
use Rattle.ps_turns.specs.Updates.{Makes, Turns, has_given_all, is_filled, is_waiting, next_stage, stage_after, turns}
use Rattle.turn_laws.specs.Updating.{heads_given, stages_before}

-- STAGES
abbrev pub IsLater : Stage → Stage → Type 0
IsLater s t = (stages_before s ≤ stages_before t) × (stages_before t ≤ 2)

next_later : (s : Stage) (out ins all : Bool) → IsLater s (next_stage s out ins all)
next_later taking true ins all = (omega arith, omega arith)
next_later giving true ins all = (omega arith, omega arith)
next_later spent true ins all = (omega arith, omega arith)
next_later taking false true all = (omega arith, omega arith)
next_later taking false false all = (omega arith, omega arith)
next_later giving false ins true = (omega arith, omega arith)
next_later giving false ins false = (omega arith, omega arith)
next_later spent false ins all = (omega arith, omega arith)

stays : (s : Stage) → IsLater s s
stays taking = (omega arith, omega arith)
stays giving = (omega arith, omega arith)
stays spent = (omega arith, omega arith)

if_turns : (b : Bool) (s t : Stage) → IsLater s t → IsLater s (cond b t s)
if_turns true s t h = h
if_turns false s t h = stays s

-- no stage is left for an earlier one
pub stage_later : (o : Options) (kind : PhysicalKind) (a : Progress) (given : Sides) → IsLater a.stage (stage_after o kind a given)
stage_later o (equi_join j) a given =
    next_later a.stage (is_done (first_port given.outputs)) (is_done (second_port given.inputs)) (is_done (first_port given.inputs) && has_given_all o (equi_join j) a)
stage_later o kind a given =
    if_turns (turns kind) a.stage (next_stage a.stage (is_done (first_port given.outputs)) (all_done given.inputs && is_filled kind a) (has_given_all o kind a))
    (next_later a.stage (is_done (first_port given.outputs)) (all_done given.inputs && is_filled kind a) (has_given_all o kind a))

pub same_stage : (s t : Stage) → stages_before s ≡ stages_before t → s ≡ t
same_stage taking taking e = refl
same_stage giving giving e = refl
same_stage spent spent e = refl
same_stage taking giving e = absurd (let no : 0 ≡ 1 = e in omega (arith, no))
same_stage taking spent e = absurd (let no : 0 ≡ 2 = e in omega (arith, no))
same_stage giving taking e = absurd (let no : 1 ≡ 0 = e in omega (arith, no))
same_stage giving spent e = absurd (let no : 1 ≡ 2 = e in omega (arith, no))
same_stage spent taking e = absurd (let no : 2 ≡ 0 = e in omega (arith, no))
same_stage spent giving e = absurd (let no : 2 ≡ 1 = e in omega (arith, no))

pub gives : (s : Stage) → is_giving s ≡ true → s ≡ giving
gives giving e = refl
gives taking e = absurd (let no : false ≡ true = e in cc)
gives spent e = absurd (let no : false ≡ true = e in cc)

pub takes : (s : Stage) → is_taking s ≡ true → s ≡ taking
takes taking e = refl
takes giving e = absurd (let no : false ≡ true = e in cc)
takes spent e = absurd (let no : false ≡ true = e in cc)

pub both : (a b : Bool) → (a && b) ≡ true → (a ≡ true) × (b ≡ true)
both true b e = (refl, e)
both false b e = absurd (let no : false ≡ true = e in cc)

pub not_true : (b : Bool) → not b ≡ true → b ≡ false
not_true false e = refl
not_true true e = absurd (let no : false ≡ true = e in cc)

-- WHAT A TURN KEEPS
-- the fields that a turn leaves
pub record LeavesBehind (a b : Progress) : Type 0 where
  pub sent : b.sent ≡ a.sent
  pub booked : b.booked ≡ a.booked
  pub stores : b.stores ≡ a.stores

leaves_path : (a b : Progress) → b ≡ a → LeavesBehind a b
leaves_path a b e = record { sent = ap (λ (x : Progress). x.sent) e; booked = ap (λ (x : Progress). x.booked) e; stores = ap (λ (x : Progress). x.stores) e }

makes_leaves : (F : Functions) (o : Options) (p : PhysicalNode) (kind : PhysicalKind) (ss : List Fields) (a c : Progress) → Makes F o p kind ss a c → LeavesBehind a c
makes_leaves F o p (in_memory_map step) ss a c (inl m) = leaves_path a c m.1
makes_leaves F o p (in_memory_map step) ss a c (inr m) =
    record { sent = ap (λ (x : Progress). x.sent) m.3; booked = ap (λ (x : Progress). x.booked) m.3; stores = ap (λ (x : Progress). x.stores) m.3 }
makes_leaves F o p (in_memory_join j) ss a c m = record { sent = ap (λ (x : Progress). x.sent) m.2; booked = ap (λ (x : Progress). x.booked) m.2; stores = ap (λ (x : Progress). x.stores) m.2 }
makes_leaves F o p (group_by_node keys aggregates) ss a c m =
    record { sent = ap (λ (x : Progress). x.sent) m.2; booked = ap (λ (x : Progress). x.booked) m.2; stores = ap (λ (x : Progress). x.stores) m.2 }
makes_leaves F o p (negative_slice back n) ss a c m = record { sent = ap (λ (x : Progress). x.sent) m; booked = ap (λ (x : Progress). x.booked) m; stores = ap (λ (x : Progress). x.stores) m }
makes_leaves F o p kind ss a c m = leaves_path a c m

module _ (F : Functions) (o : Options) (p : PhysicalNode) (ss : List Fields) (given : Sides) (a b : Progress) where
  pub turn_leaves : Turns F o p ss given a b → LeavesBehind a b
  turn_leaves (inl t) = record { sent = ap (λ (x : Progress). x.sent) t.1; booked = ap (λ (x : Progress). x.booked) t.1; stores = ap (λ (x : Progress). x.stores) t.1 }
  turn_leaves (inr t) =
      let made = makes_leaves F o p p.kind ss a t.1 t.2 in
      record {
        sent = ap (λ (x : Progress). x.sent) t.3 ∙ made.sent;
        booked = ap (λ (x : Progress). x.booked) t.3 ∙ made.booked;
        stores = ap (λ (x : Progress). x.stores) t.3 ∙ made.stores;
      }

  -- the stage after a turn is fixed by the node and what it is given
  pub turn_stage : Turns F o p ss given a b → b.stage ≡ stage_after o p.kind a given
  turn_stage (inl t) = ap (λ (x : Progress). x.stage) t.1
  turn_stage (inr t) = ap (λ (x : Progress). x.stage) t.3 ∙ sym (gives (stage_after o p.kind a given) (both (not (is_giving a.stage)) (is_giving (stage_after o p.kind a given)) t.0).1)

  -- a turn that leaves the stage leaves the node
  pub turn_stays : Turns F o p ss given a b → b.stage ≡ a.stage → b ≡ a
  turn_stays (inl t) e =
      let same : stage_after o p.kind a given ≡ a.stage = sym (ap (λ (x : Progress). x.stage) t.1) ∙ e in
      t.1 ∙ (λ i. record a { stage = same i })
  turn_stays (inr t) e =
      let starts = both (not (is_giving a.stage)) (is_giving (stage_after o p.kind a given)) t.0 in
      let is : giving ≡ a.stage = sym (ap (λ (x : Progress). x.stage) t.3) ∙ e in
      let no : true ≡ false = ap is_giving is ∙ not_true (is_giving a.stage) starts.0 in
      absurd cc

-- the heads hang on what a zip booked and stored
pub same_heads : (kind : PhysicalKind) (a b : Progress) (given : Sides) → LeavesBehind a b → heads_given kind b given ≡ heads_given kind a given
same_heads (zip_node extend) a b given l = λ i. heads_by extend (l.booked i) (stored_inputs (map is_done given.inputs) (l.stores i))
same_heads kind a b given l = refl

-- MAPS THAT WAIT
-- what is known of a map that waits for its table
pub record Waits (kind : PhysicalKind) (a : Progress) (given : Sides) : Type 0 where
  pub is_map : is_user_map kind ≡ true
  pub takes : a.stage ≡ taking
  pub has_none : is_some a.made ≡ false
  pub ins : all_done given.inputs ≡ true
  pub out : is_done (first_port given.outputs) ≡ false

pub waits : (kind : PhysicalKind) (a : Progress) (given : Sides) → is_waiting kind a given ≡ true → Waits kind a given
waits kind a given e =
    let halves = both (is_user_map kind && (is_taking a.stage && not (is_some a.made))) (all_done given.inputs && not (is_done (first_port given.outputs))) e in
    let first = both (is_user_map kind) (is_taking a.stage && not (is_some a.made)) halves.0 in
    let second = both (is_taking a.stage) (not (is_some a.made)) first.1 in
    let ends = both (all_done given.inputs) (not (is_done (first_port given.outputs))) halves.1 in
    record {
      is_map = first.0;
      takes = takes a.stage second.0;
      has_none = not_true (is_some a.made) second.1;
      ins = ends.0;
      out = not_true (is_done (first_port given.outputs)) ends.1;
    }

from_taking : (s : Stage) (out ins all : Bool) → s ≡ taking → out ≡ false → ins ≡ true → next_stage s out ins all ≡ giving
from_taking s out ins all e f t = λ i. next_stage (e i) (f i) (t i) all

filled_map : (m a c : Bool) → a ≡ true → c ≡ true → (a && (not m || c)) ≡ true
filled_map true a c e d = (λ i. e i && d i)
filled_map false a c e d = (λ i. e i && true)

-- once it is filled, such a map gives
pub fills_stage : (o : Options) (kind : PhysicalKind) (a : Progress) (given : Sides) → is_user_map kind ≡ true → a.stage ≡ taking → is_some a.made ≡ true → all_done given.inputs ≡ true → is_done (first_port given.outputs) ≡ false
    → stage_after o kind a given ≡ giving
fills_stage o (in_memory_map step) a given user stage made ins out =
    from_taking a.stage (is_done (first_port given.outputs)) (all_done given.inputs && is_filled (in_memory_map step) a) (has_given_all o (in_memory_map step) a) stage out
    (filled_map (is_user_map (in_memory_map step)) (all_done given.inputs) (is_some a.made) ins made)
fills_stage o kind a given user stage made ins out = absurd (let no : false ≡ true = user in cc)

-- Each piece out of a reached world computes for its own node: its task names that node's origin, if any.
use Rattle.std.proofs.Common.{◌≡◌, ℕ, zero, suc, Bool, true, false, cond, List, [], length, Option, Some, None, refl, sym, subst}
use Rattle.std.specs.Prelude.{get_or, nat_eq, nat_lt, not, option_map, ◌&&◌, ⊤}
use Rattle.std.specs.List.{list_all, list_any}
use Rattle.ps_frame.specs.Causes.{is_empty}
use Rattle.ps_frame.specs.Functions.{Functions}
use Rattle.ps_frame.specs.Tables.{Fields, Row}
use Rattle.ps_meaning.specs.Shape.{PhysicalKind, PhysicalNode, Shape, equi_join, group_by_node, in_memory_join, in_memory_map, in_memory_sink, in_memory_source, independent_select, multiplexer, negative_slice, ordered_union, reduce, streaming_slice, with_row_index, zip_node}
use Rattle.ps_meaning.specs.Sound.{IsSound}
use Rattle.ps_meaning.specs.Steps.{JoinStep}
use Rattle.ps_options.specs.declared.options.Options.{Options}
use Rattle.ps_turns.specs.Claims.{Claim, Next, claim_by, of_join, of_kept, of_made, of_parts, of_reduce, owes_last, passes}
use Rattle.ps_turns.specs.Cuts.{is_exhausted}
use Rattle.ps_turns.specs.Heads.{Head, is_ready_head}
use Rattle.ps_turns.specs.Progress.{Progress, Stage, giving, spent, taking}
use Rattle.ps_turns.specs.Tasks.{Piece, Task, computes, gives_last, gives_part, hands_on, keeps, probes}
use Rattle.ps_world.specs.Claims.{claim_at, inputs_in_phase, next_morsel, piece_of}
use Rattle.ps_world.specs.Opening.{Reaches}
use Rattle.ps_world.specs.World.{Node, World, heads_of, inputs_done, schemas_for}
use Rattle.world_bounds.proofs.Pieces.{AllFit, Keeps, reached_fits}

-- the task is computed for a node of this origin, or hands rows on
abbrev pub TaskOf : (origin : ℕ) → Task → Type 0
TaskOf n hands_on = ⊤
TaskOf n (computes p) = p.origin ≡ n
TaskOf n (keeps p) = p.origin ≡ n
TaskOf n (gives_part p keys) = p.origin ≡ n
TaskOf n (probes p j) = p.origin ≡ n
TaskOf n (gives_last p j) = p.origin ≡ n

-- FROM A CLAIM THAT IS THERE
module _ (R : Claim → Type 0) (c : Claim) where
  of_some : (x : Claim) → Some x ≡ Some c → R x → R c
  of_some x e r = let is : x ≡ c = cc in subst R is r

  of_none : {A : Type 0} → None ≡ Some c → A
  of_none e = absurd (let no : None ≡ Some c = e in cc)

  if_some : (b : Bool) (x : Claim) → cond b (Some x) None ≡ Some c → R x → R c
  if_some true x e r = of_some x e r
  if_some false x e r = of_none e

  unless_some : (b : Bool) (x : Claim) → cond b None (Some x) ≡ Some c → R x → R c
  unless_some true x e r = of_none e
  unless_some false x e r = of_some x e r

  first_if : (a b : Bool) (x : Claim) → cond a (cond b (Some x) None) None ≡ Some c → R x → R c
  first_if true b x e r = if_some b x e r
  first_if false b x e r = of_none e

  first_unless : (a b : Bool) (x : Claim) → cond a (cond b None (Some x)) None ≡ Some c → R x → R c
  first_unless true b x e r = unless_some b x e r
  first_unless false b x e r = of_none e

  first_none : (a : Bool) → cond {A = Option Claim} a None None ≡ Some c → R c
  first_none true e = of_none e
  first_none false e = of_none e

  of_next : (f : ℕ × List Row → Claim) (next : Next) → option_map f next ≡ Some c → ((m : ℕ × List Row) → R (f m)) → R c
  of_next f None e r = of_none e
  of_next f (Some m) e r = of_some (f m) e (r m)

module _ (o : Options) (p : PhysicalNode) (ss : List Fields) (a : Progress) (hs : List Head) (ds : List Bool) (i : ℕ) (next : Next) (c : Claim) where
  abbrev Own : Claim → Type 0
  Own x = TaskOf p.origin x.task

  made : (st : Stage) (mk : Option (List Row)) → cond (nat_eq i 0) (of_made o p ss a st mk) None ≡ Some c → Own c
  made giving (Some rs) e = first_unless Own c (nat_eq i 0) (is_exhausted o rs a.sent) _ e tt
  made giving None e = first_none Own c (nat_eq i 0) e
  made taking mk e = first_none Own c (nat_eq i 0) e
  made spent mk e = first_none Own c (nat_eq i 0) e

  kept : (j : ℕ) → of_kept o p ss j a next ≡ Some c → Own c
  kept j e = of_next Own c _ next e (λ m. refl)

  reduced : (st : Stage) → of_reduce o p ss st i a next ≡ Some c → Own c
  reduced taking e = kept i e
  reduced giving e = first_if Own c (nat_eq i 0) (nat_eq a.sent 0) _ e refl
  reduced spent e = of_none Own c e

  parted : (st : Stage) → of_parts o p ss st i a next ≡ Some c → Own c
  parted taking e = kept i e
  parted giving e = first_if Own c (nat_eq i 0) (nat_lt a.sent (length a.lists)) _ e refl
  parted spent e = of_none Own c e

  passed : (kind : PhysicalKind) (m : ℕ × List Row) → Own (passes o p ss kind a m.0 m.1)
  passed (streaming_slice offset n) m = tt
  passed (with_row_index name offset) m = refl
  passed ordered_union m = tt
  passed kind m = refl

joined : (o : Options) (p : PhysicalNode) (ss : List Fields) (a : Progress) (d : Bool) (i : ℕ) (next : Next) (c : Claim) (j : JoinStep) (st : Stage) → of_join o p ss j st d i a next ≡ Some c → TaskOf p.origin c.task
joined o p ss a d zero next c j taking e = of_none (λ (x : Claim). TaskOf p.origin x.task) c e
joined o p ss a d (suc i) next c j taking e = kept o p ss a [] [] (suc i) next c (suc i) e
joined o p ss a d zero (Some m) c j giving e = of_some (λ (x : Claim). TaskOf p.origin x.task) c _ e refl
joined o p ss a d zero None c j giving e = if_some (λ (x : Claim). TaskOf p.origin x.task) c (d && owes_last j a) _ e refl
joined o p ss a d (suc i) next c j giving e = of_none (λ (x : Claim). TaskOf p.origin x.task) c e
joined o p ss a d i next c j spent e = of_none (λ (x : Claim). TaskOf p.origin x.task) c e

claims_own : (o : Options) (p : PhysicalNode) (ss : List Fields) (a : Progress) (hs : List Head) (ds : List Bool) (i : ℕ) (next : Next) (c : Claim) (kind : PhysicalKind) → claim_by o p ss kind a hs ds i next ≡ Some c → TaskOf p.origin c.task
claims_own o p ss a hs ds i next c (in_memory_source t) e = first_unless (λ (x : Claim). TaskOf p.origin x.task) c (nat_eq i 0) (is_exhausted o t.rows a.sent) _ e tt
claims_own o p ss a hs ds i next c (independent_select es) e = first_if (λ (x : Claim). TaskOf p.origin x.task) c (nat_eq i 0) (nat_eq a.sent 0) _ e refl
claims_own o p ss a hs ds i next c (in_memory_map step) e = made o p ss a hs ds i next c a.stage a.made e
claims_own o p ss a hs ds i next c (in_memory_join j) e = made o p ss a hs ds i next c a.stage a.made e
claims_own o p ss a hs ds i next c (negative_slice back n) e = made o p ss a hs ds i next c a.stage a.made e
claims_own o p ss a hs ds i next c (zip_node extend) e = first_if (λ (x : Claim). TaskOf p.origin x.task) c (nat_eq i 0) (list_all (is_ready_head extend) hs && list_any (λ (h : Head). not (is_empty h.rest)) hs) _ e refl
claims_own o p ss a hs ds i next c (reduce es) e = reduced o p ss a hs ds i next c a.stage e
claims_own o p ss a hs ds i next c (group_by_node keys aggregates) e = parted o p ss a hs ds i next c a.stage e
claims_own o p ss a hs ds i next c (equi_join j) e = joined o p ss a (get_or ds 0 false) i next c j a.stage e
claims_own o p ss a hs ds i next c in_memory_sink e = of_none (λ (x : Claim). TaskOf p.origin x.task) c e
claims_own o p ss a hs ds i next c multiplexer e = of_none (λ (x : Claim). TaskOf p.origin x.task) c e
claims_own o p ss a hs ds i next c kind e = of_next (λ (x : Claim). TaskOf p.origin x.task) c (λ m. passes o p ss kind a m.0 m.1) next e (λ m. passed o p ss a hs ds i next c kind m)

-- EVERY REACHED WORLD
abbrev pub OwnTask : Piece → Node → Type 0
OwnTask q x = TaskOf x.node.origin q.task

pub own_onward : (q : Piece) (x y : Node) → Keeps x y → OwnTask q x → OwnTask q y
own_onward q x y same t = subst (λ (p : PhysicalNode). TaskOf p.origin q.task) (sym same.0) t

pub own_claimed : (w : World) (n i worker : ℕ) (node : Node) (c : Claim) → claim_at w n i node ≡ Some c → OwnTask (piece_of n i worker c) node
own_claimed w n i worker node c is = claims_own w.options node.node (schemas_for w node) node.progress (heads_of w n node) (inputs_done w n) i (next_morsel (inputs_in_phase w n i)) c node.node.kind is

pub reached_own : (F : Functions) (shape : Shape) (o : Options) (w : World) → IsSound F shape → Reaches F shape o w → AllFit OwnTask own_onward own_claimed w
reached_own F shape o w sound r = reached_fits OwnTask own_onward own_claimed F shape o w sound r

-- Each number of a node without inputs is claimed at most once: its claims so far are those of the numbers below the count that it sent.
use Rattle.std.proofs.Common.{◌≡◌, ℕ, zero, suc, ◌+◌, ◌≤◌, Bool, true, false, cond, List, [], ◌∷◌, ◌++◌, length, Option, Some, None, refl, sym, ap, subst, ◌∙◌, inl, inr, arith}
use Rattle.std.specs.Prelude.{get_or, map, nat_eq, nat_lt, slice_get, slice_set}
use Rattle.std.specs.List.{count_by, fold}
use Rattle.std.proofs.lemmas.Bool.Decides.{nat_tests}
use Rattle.ps_frame.specs.Causes.{is_empty}
use Rattle.ps_frame.specs.Functions.{Functions}
use Rattle.ps_frame.specs.Tables.{Fields, Row}
use Rattle.ps_ports.specs.Ports.{Sides}
use Rattle.ps_turns.specs.Claims.{Claim, Next, claim_by, filled_slot, of_own}
use Rattle.ps_turns.specs.Cuts.{cut_of_source, is_exhausted}
use Rattle.ps_turns.specs.Heads.{Head}
use Rattle.ps_turns.specs.Progress.{Progress, is_multiplexer}
use Rattle.ps_turns.specs.Pulls.{after_store}
use Rattle.ps_turns.specs.Tasks.{Answer, Piece, bad, computes, good, handed_of, hands_on, partial}
use Rattle.ps_turns.specs.Updates.{Makes, Turns}
use Rattle.ps_options.specs.declared.options.Options.{Options}
use Rattle.ps_meaning.specs.Shape.{PhysicalKind, PhysicalNode, Shape, group_by_node, in_memory_join, in_memory_map, in_memory_source, independent_select, negative_slice, ordered_union, zip_node}
use Rattle.ps_meaning.specs.Sound.{HasInputs, IsSound}
use Rattle.ps_world.specs.Answers.{answered, with_partial}
use Rattle.ps_world.specs.Claims.{before_drops, claim_at, inputs_in_phase, next_morsel}
use Rattle.ps_world.specs.Opening.{Reaches, fresh_node, opening}
use Rattle.ps_world.specs.Phases.{after_open, blockers_in, marked_nodes, nodes_of_phase}
use Rattle.ps_world.specs.Pipes.{drop_at, drop_if, drops_from, heads_lost, put_progress, put_without_heads, with_progress, without_heads}
use Rattle.ps_world.specs.Promises.{is_claim_of}
use Rattle.ps_world.specs.Step.{Opens, Replays, Steps, breaks, settles}
use Rattle.ps_world.specs.Updates.{Updates, no_update, one_fill, one_update}
use Rattle.ps_world.specs.World.{Node, Record, World, claimed, closed, ended, handed_in, heads_of, inputs_done, is_cut_off, opened, pulled, schemas_for, shape_of}
use Rattle.world_laws.proofs.Shapes.{step_keeps}

-- how many morsels of its own each node sent
abbrev pub sents : List Node → List ℕ
sents nodes = map (λ (n : Node). n.progress.sent) nodes

abbrev pub Same : World → World → Type 0
Same w v = (sents v.nodes ≡ sents w.nodes) × (v.journal ≡ w.journal)

set_same : (nodes : List Node) (n : ℕ) (old new : Node) → slice_get nodes n ≡ Some old → new.progress.sent ≡ old.progress.sent → sents (slice_set nodes n new) ≡ sents nodes
set_same [] n old new e same = refl
set_same (x ∷ xs) zero old new e same = let q : Some x ≡ Some old = e in let is_old : x ≡ old = cc in let at : new.progress.sent ≡ x.progress.sent = same ∙ ap (λ (y : Node). y.progress.sent) (sym is_old) in ap (λ k. k ∷ sents xs) at
set_same (x ∷ xs) (suc n) old new e same = ap (λ ks. x.progress.sent ∷ ks) (set_same xs n old new e same)

set_sent : (nodes : List Node) (n : ℕ) (new : Node) → sents (slice_set nodes n new) ≡ slice_set (sents nodes) n new.progress.sent
set_sent [] n new = refl
set_sent (x ∷ xs) zero new = refl
set_sent (x ∷ xs) (suc n) new = ap (λ ks. x.progress.sent ∷ ks) (set_sent xs n new)

put_same : (w : World) (n : ℕ) (node : Node) (progress : Progress) → slice_get w.nodes n ≡ Some node → progress.sent ≡ node.progress.sent → Same w (with_progress n progress w)
put_same w n node progress e same = subst (λ o. Same w (put_progress o n progress w)) (sym e) (set_same w.nodes n node (record node { progress = progress }) e same, refl)

makes_sent : (F : Functions) (o : Options) (p : PhysicalNode) (kind : PhysicalKind) (ss : List Fields) (a c : Progress) → Makes F o p kind ss a c → c.sent ≡ a.sent
makes_sent F o p (in_memory_map step) ss a c (inl m) = ap (λ (x : Progress). x.sent) m.1
makes_sent F o p (in_memory_map step) ss a c (inr m) = ap (λ (x : Progress). x.sent) m.3
makes_sent F o p (in_memory_join j) ss a c m = ap (λ (x : Progress). x.sent) m.2
makes_sent F o p (group_by_node keys aggregates) ss a c m = ap (λ (x : Progress). x.sent) m.2
makes_sent F o p (negative_slice back n) ss a c m = ap (λ (x : Progress). x.sent) m
makes_sent F o p kind ss a c m = ap (λ (x : Progress). x.sent) m

turn_sent : (F : Functions) (o : Options) (p : PhysicalNode) (ss : List Fields) (given : Sides) (a b : Progress) → Turns F o p ss given a b → b.sent ≡ a.sent
turn_sent F o p ss given a b (inl t) = ap (λ (x : Progress). x.sent) t.1
turn_sent F o p ss given a b (inr t) = ap (λ (x : Progress). x.sent) t.3 ∙ makes_sent F o p p.kind ss a t.1 t.2

after : (w u v : World) → Same w u → Same u v → Same w v
after w u v h k = (k.0 ∙ h.0, k.1 ∙ h.1)

pub updates_same : (F : Functions) (w s : World) → Updates F w s → Same w s
updates_same F w s no_update = (refl, refl)
updates_same F w s (one_update n node progress t u) =
    let put = put_same w n node progress t.0 (turn_sent F w.options node.node (schemas_for w node) (Rattle.ps_world.specs.Updates.given_at w n) node.progress progress t.2) in
    let rest = updates_same F _ s u in (rest.0 ∙ put.0, rest.1 ∙ put.1)
updates_same F w s (one_fill n node progress t u) =
    let put = put_same w n node progress t.0 (ap (λ (x : Progress). x.sent) t.1.3) in let rest = updates_same F _ s u in (rest.0 ∙ put.0, rest.1 ∙ put.1)

lost_sent : (kind : PhysicalKind) (node : Node) → (without_heads kind node).progress.sent ≡ node.progress.sent
lost_sent (zip_node extend) node = refl
lost_sent kind node = refl

lost_same : (n : ℕ) (nodes : List Node) → sents (heads_lost n nodes) ≡ sents nodes
lost_same n nodes = by (slice_get nodes n) refl
  where
    by : (o : Option Node) → slice_get nodes n ≡ o → sents (put_without_heads o n nodes) ≡ sents nodes
    by None e = refl
    by (Some node) e = set_same nodes n node (without_heads node.node.kind node) e (lost_sent node.node.kind node)

drop_same : (b : Bool) (n : ℕ) (w : World) → Same w (drop_if b n w)
drop_same true n w = (lost_same n w.nodes, refl)
drop_same false n w = (refl, refl)

pub drops_same : (n : ℕ) (w : World) → Same w (drops_from w n)
drops_same zero w = (refl, refl)
drops_same (suc n) w = after w (drop_at w n) (drops_from (drop_at w n) n) (drop_same (is_cut_off w n) n w) (drops_same n (drop_at w n))

marks_same : (ns : List ℕ) (m : ℕ) (nodes : List Node) → sents (marked_nodes ns m nodes) ≡ sents nodes
marks_same ns m [] = refl
marks_same ns m (x ∷ xs) = ap (λ ks. x.progress.sent ∷ ks) (marks_same ns (m + 1) xs)

unmarked_same : (nodes : List Node) → sents (map (λ (n : Node). record n { in_phase = false; is_closed = false }) nodes) ≡ sents nodes
unmarked_same [] = refl
unmarked_same (x ∷ xs) = ap (λ ks. x.progress.sent ∷ ks) (unmarked_same xs)

open_same : (s : World) (phase : ℕ) → sents (after_open s phase).nodes ≡ sents s.nodes
open_same s phase = by (is_empty (blockers_in s)) refl
  where
    by : (b : Bool) → is_empty (blockers_in s) ≡ b → sents (after_open s phase).nodes ≡ sents s.nodes
    by true e = rw e refl
    by false e = rw e (marks_same (nodes_of_phase s) 0 s.nodes)

-- a record that is added, with what the nodes then sent
abbrev pub Adds : World → Record → World → List ℕ → Type 0
Adds w r v ks = (sents v.nodes ≡ ks) × (v.journal ≡ w.journal ++ r ∷ [])

pub of_opens : (F : Functions) (s v : World) (phase : ℕ) → Opens F s phase v → Adds s (opened phase) v (sents s.nodes)
of_opens F s v phase (settles rest e) = (ap (λ (x : World). sents x.nodes) e ∙ open_same s phase, ap (λ (x : World). x.journal) e)
of_opens F s v phase (breaks n c f e) = (ap (λ (x : World). sents x.nodes) e, ap (λ (x : World). x.journal) e)

partial_same : (q : Piece) (w : World) → Same w (with_partial q (slice_get w.nodes q.node) w)
partial_same q w = by (slice_get w.nodes q.node) refl
  where
    by : (o : Option Node) → slice_get w.nodes q.node ≡ o → Same w (with_partial q o w)
    by None e = (refl, refl)
    by (Some node) e = put_same w q.node node (record node.progress { taken = filled_slot q.input q.number (get_or q.tables 0 []) node.progress.taken }) e refl

answer_adds : (q : Piece) (a : Answer) (w : World) → sents (answered w q a).nodes ≡ sents w.nodes
answer_adds q (good rs) w = refl
answer_adds q (partial m) w = (partial_same q w).0
answer_adds q (bad c) w = refl

pulled_sent : (b : Bool) (kind : PhysicalKind) (i : ℕ) (m : List Row) (a : Progress) → (cond b a (after_store kind i m a)).sent ≡ a.sent
pulled_sent true kind i m a = refl
pulled_sent false kind i m a = stored kind
  where
    stored : (kd : PhysicalKind) → (after_store kd i m a).sent ≡ a.sent
    stored (negative_slice back n) = refl
    stored kd = refl

-- counts and places
abbrev tally : {X : Type 0} → (X → Bool) → ℕ → X → ℕ
tally f k x = k + cond (f x) 1 0

count_from : {X : Type 0} (f : X → Bool) (k : ℕ) (xs : List X) → fold (tally f) k xs ≡ k + fold (tally f) 0 xs
count_from f k [] = omega arith
count_from f k (x ∷ xs) = let here = count_from f (k + cond (f x) 1 0) xs in let there = count_from f (0 + cond (f x) 1 0) xs in omega arith

pub count_cons : {X : Type 0} (f : X → Bool) (x : X) (xs : List X) → count_by f (x ∷ xs) ≡ cond (f x) 1 0 + count_by f xs
count_cons f x xs = let from = count_from f (0 + cond (f x) 1 0) xs in omega arith

pub count_last : {X : Type 0} (f : X → Bool) (xs : List X) (x : X) → count_by f (xs ++ x ∷ []) ≡ count_by f xs + cond (f x) 1 0
count_last {X} f xs x = last 0 xs
  where
    last : (k : ℕ) (ys : List X) → fold (tally f) k (ys ++ x ∷ []) ≡ fold (tally f) k ys + cond (f x) 1 0
    last k [] = refl
    last k (y ∷ ys) = last (k + cond (f y) 1 0) ys

get_set : (ks : List ℕ) (n v old : ℕ) → slice_get ks n ≡ Some old → slice_get (slice_set ks n v) n ≡ Some v
get_set [] n v old e = absurd (let no : None ≡ Some old = e in cc)
get_set (k ∷ ks) zero v old e = refl
get_set (k ∷ ks) (suc n) v old e = get_set ks n v old e

get_other : (ks : List ℕ) (m n v : ℕ) → (m ≡ n → ⊥) → slice_get (slice_set ks m v) n ≡ slice_get ks n
get_other [] m n v d = refl
get_other (k ∷ ks) zero zero v d = absurd (d refl)
get_other (k ∷ ks) zero (suc n) v d = refl
get_other (k ∷ ks) (suc m) zero v d = refl
get_other (k ∷ ks) (suc m) (suc n) v d = get_other ks m n v (λ e. d (ap suc e))

get_sents : (nodes : List Node) (n : ℕ) (node : Node) → slice_get nodes n ≡ Some node → slice_get (sents nodes) n ≡ Some node.progress.sent
get_sents [] n node e = absurd (let no : None ≡ Some node = e in cc)
get_sents (x ∷ xs) zero node e = let q : Some x ≡ Some node = e in let same : x ≡ node = cc in ap (λ (y : Node). Some y.progress.sent) same
get_sents (x ∷ xs) (suc n) node e = get_sents xs n node e

get_shown : (nodes : List Node) (n : ℕ) (node : Node) → slice_get nodes n ≡ Some node → slice_get (map (λ (x : Node). x.node) nodes) n ≡ Some node.node
get_shown [] n node e = absurd (let no : None ≡ Some node = e in cc)
get_shown (x ∷ xs) zero node e = let q : Some x ≡ Some node = e in let same : x ≡ node = cc in ap (λ (y : Node). Some y.node) same
get_shown (x ∷ xs) (suc n) node e = get_shown xs n node e

-- a node without inputs claims its next number, and names input 0
record OwnNumber (i : ℕ) (a : Progress) (c : Claim) : Type 0 where
  first : i ≡ 0
  number : c.number ≡ a.sent
  counted : c.progress.sent ≡ a.sent + 1

of_claim : (i : ℕ) (a : Progress) (x c : Claim) → Some x ≡ Some c → i ≡ 0 → x.number ≡ a.sent → x.progress.sent ≡ a.sent + 1 → OwnNumber i a c
of_claim i a x c e z n s =
    let same : x ≡ c = cc in record { first = z; number = ap (λ (y : Claim). y.number) (sym same) ∙ n; counted = ap (λ (y : Claim). y.progress.sent) (sym same) ∙ s }

of_test : (i : ℕ) (a : Progress) (b d : Bool) (x c : Claim) → nat_eq i 0 ≡ b → cond b (cond d None (Some x)) None ≡ Some c → x.number ≡ a.sent → x.progress.sent ≡ a.sent + 1 → OwnNumber i a c
of_test i a true true x c t e n s = absurd (let no : None ≡ Some c = e in cc)
of_test i a true false x c t e n s = let z : i ≡ 0 = grind (arith, nat_tests) in of_claim i a x c e z n s
of_test i a false d x c t e n s = absurd (let no : None ≡ Some c = e in cc)

of_other_test : (i : ℕ) (a : Progress) (b d : Bool) (x c : Claim) → nat_eq i 0 ≡ b → cond b (cond d (Some x) None) None ≡ Some c → x.number ≡ a.sent → x.progress.sent ≡ a.sent + 1 → OwnNumber i a c
of_other_test i a true false x c t e n s = absurd (let no : None ≡ Some c = e in cc)
of_other_test i a true true x c t e n s = let z : i ≡ 0 = grind (arith, nat_tests) in of_claim i a x c e z n s
of_other_test i a false d x c t e n s = absurd (let no : None ≡ Some c = e in cc)

module _ (o : Options) (p : PhysicalNode) (ss : List Fields) (a : Progress) (hs : List Head) (ds : List Bool) (i : ℕ) (next : Next) (c : Claim) where
  own_number : (kind : PhysicalKind) → HasInputs kind 0 → claim_by o p ss kind a hs ds i next ≡ Some c → OwnNumber i a c
  own_number (in_memory_source t) h e = of_test i a (nat_eq i 0) (is_exhausted o t.rows a.sent) (of_own o p ss a hands_on (p.schema ∷ []) (cut_of_source o t.rows a.sent ∷ [])) c refl e refl refl
  own_number (independent_select es) h e = of_other_test i a (nat_eq i 0) (nat_eq a.sent 0) (of_own o p ss a (computes p) [] []) c refl e refl refl
  own_number ordered_union h e = absurd (omega arith)
  own_number (zip_node extend) h e = absurd (omega arith)
  own_number kind h e = absurd (omega arith)

tally_step : (k s : ℕ) → cond (nat_lt k s) 1 0 + cond (nat_eq s k) 1 0 ≡ cond (nat_lt k (s + 1)) 1 0
tally_step k s = by (nat_lt k s) (nat_eq s k) (nat_lt k (s + 1)) refl refl refl
  where
    by : (a b c : Bool) → nat_lt k s ≡ a → nat_eq s k ≡ b → nat_lt k (s + 1) ≡ c → cond a 1 0 + cond b 1 0 ≡ cond c 1 0
    by true false true e f g = refl
    by false true true e f g = refl
    by false false false e f g = refl
    by true true c e f g = absurd (let no : ⊥ = grind (arith, nat_tests) in no)
    by true false false e f g = absurd (let no : ⊥ = grind (arith, nat_tests) in no)
    by false true false e f g = absurd (let no : ⊥ = grind (arith, nat_tests) in no)
    by false false true e f g = absurd (let no : ⊥ = grind (arith, nat_tests) in no)

differ : (m n : ℕ) → nat_eq m n ≡ false → m ≡ n → ⊥
differ m n e q = grind (arith, nat_tests)

equal : (m n : ℕ) → nat_eq m n ≡ true → m ≡ n
equal m n e = grind (arith, nat_tests)

some_number : (a b : ℕ) → Some a ≡ Some b → a ≡ b
some_number a b e = cc

some_node_is : (a b : PhysicalNode) → Some a ≡ Some b → a ≡ b
some_node_is a b e = cc

module _ (F : Functions) (shape : Shape) (sound : IsSound F shape) where
  abbrev pub IsTallied : World → Type 0
  IsTallied w = (n k s : ℕ) (p : PhysicalNode) → slice_get shape n ≡ Some p → p.inputs ≡ [] → slice_get (sents w.nodes) n ≡ Some s → count_by (is_claim_of n 0 k) w.journal ≡ cond (nat_lt k s) 1 0

  keeps : (w v : World) (r : Record) → Adds w r v (sents w.nodes) → ((n k : ℕ) → is_claim_of n 0 k r ≡ false) → IsTallied w → IsTallied v
  keeps w v r add other t n k s p at none e =
      let before = t n k s p at none (ap (λ ks. slice_get ks n) (sym add.0) ∙ e) in
      let now = ap (count_by (is_claim_of n 0 k)) add.1 in
      let last = count_last (is_claim_of n 0 k) w.journal r in
      let zero = ap (λ (b : Bool). cond {A = ℕ} b 1 0) (other n k) in
      now ∙ last ∙ ap (λ x. count_by (is_claim_of n 0 k) w.journal + x) zero ∙ (omega arith)

  module _ (w v : World) (m i number worker : ℕ) (node : Node) (c : Claim) (is_shape : shape_of w ≡ shape) (here : slice_get w.nodes m ≡ Some node) (claim : claim_at w m i node ≡ Some c) (its : c.number ≡ number)
      (add : Adds w (claimed m i number worker) v (slice_set (sents w.nodes) m c.progress.sent)) (t : IsTallied w) where
    of_another : (n k s : ℕ) (p : PhysicalNode) → nat_eq m n ≡ false → slice_get shape n ≡ Some p → p.inputs ≡ [] → slice_get (sents v.nodes) n ≡ Some s → count_by (is_claim_of n 0 k) v.journal ≡ cond (nat_lt k s) 1 0
    of_another n k s p d at none e =
        let before = t n k s p at none (sym (get_other (sents w.nodes) m n c.progress.sent (differ m n d)) ∙ ap (λ ks. slice_get ks n) (sym add.0) ∙ e) in
        let now = ap (count_by (is_claim_of n 0 k)) add.1 in
        let last = count_last (is_claim_of n 0 k) w.journal (claimed m i number worker) in
        let none_more : cond {A = ℕ} (is_claim_of n 0 k (claimed m i number worker)) 1 0 ≡ 0 = rw d refl in
        now ∙ last ∙ ap (λ x. count_by (is_claim_of n 0 k) w.journal + x) none_more ∙ (omega arith)

    of_itself : (n k s : ℕ) (p : PhysicalNode) → m ≡ n → slice_get shape n ≡ Some p → p.inputs ≡ [] → slice_get (sents v.nodes) n ≡ Some s → count_by (is_claim_of n 0 k) v.journal ≡ cond (nat_lt k s) 1 0
    of_itself n k s p same at none e =
        now ∙ last ∙ ap (λ x. count_by (is_claim_of n 0 k) w.journal + x) one_more ∙ ap (λ x. x + cond (nat_eq node.progress.sent k) 1 0) before ∙ tally_step k node.progress.sent ∙ ap (λ x. cond (nat_lt k x) 1 0) (sym sent_now)
      where
        p_is : p ≡ node.node
        p_is = some_node_is p node.node (sym at ∙ ap (λ sh. slice_get sh n) (sym is_shape) ∙ ap (λ x. slice_get (shape_of w) x) (sym same) ∙ get_shown w.nodes m node here)

        no_inputs : HasInputs node.node.kind 0
        no_inputs = subst (λ (q : PhysicalNode). HasInputs q.kind 0) p_is (subst (λ xs. HasInputs p.kind (length xs)) none (sound.0 n p at).inputs)

        its_own : OwnNumber i node.progress c
        its_own = own_number w.options node.node (schemas_for w node) node.progress (heads_of w m node) (inputs_done w m) i (next_morsel (inputs_in_phase w m i)) c node.node.kind no_inputs claim

        sent_before : slice_get (sents w.nodes) m ≡ Some node.progress.sent
        sent_before = get_sents w.nodes m node here

        sent_now : s ≡ node.progress.sent + 1
        sent_now =
            some_number s c.progress.sent (sym e ∙ ap (λ ks. slice_get ks n) add.0 ∙ ap (λ x. slice_get (slice_set (sents w.nodes) m c.progress.sent) x) (sym same) ∙ get_set (sents w.nodes) m c.progress.sent node.progress.sent sent_before)
            ∙ its_own.counted

        before : count_by (is_claim_of n 0 k) w.journal ≡ cond (nat_lt k node.progress.sent) 1 0
        before = t n k node.progress.sent p at none (ap (λ x. slice_get (sents w.nodes) x) (sym same) ∙ sent_before)

        now : count_by (is_claim_of n 0 k) v.journal ≡ count_by (is_claim_of n 0 k) (w.journal ++ claimed m i number worker ∷ [])
        now = ap (count_by (is_claim_of n 0 k)) add.1

        last : count_by (is_claim_of n 0 k) (w.journal ++ claimed m i number worker ∷ []) ≡ count_by (is_claim_of n 0 k) w.journal + cond (is_claim_of n 0 k (claimed m i number worker)) 1 0
        last = count_last (is_claim_of n 0 k) w.journal (claimed m i number worker)

        it_is : nat_eq m n ≡ true
        it_is = grind (arith, nat_tests)

        input_is : nat_eq i 0 ≡ true
        input_is = let z = its_own.first in grind (arith, nat_tests)

        one_more : cond {A = ℕ} (is_claim_of n 0 k (claimed m i number worker)) 1 0 ≡ cond {A = ℕ} (nat_eq node.progress.sent k) 1 0
        one_more =
            let named : nat_eq number k ≡ nat_eq node.progress.sent k = ap (λ x. nat_eq x k) (sym its ∙ its_own.number) in
            rw (it_is, input_is, named) refl

    claim_tallied : IsTallied v
    claim_tallied n k s p at none e = by (nat_eq m n) refl
      where
        by : (b : Bool) → nat_eq m n ≡ b → count_by (is_claim_of n 0 k) v.journal ≡ cond (nat_lt k s) 1 0
        by true d = of_itself n k s p (equal m n d) at none e
        by false d = of_another n k s p d at none e

  step_tallied : (w v : World) (r : Record) → shape_of w ≡ shape → Steps F w r v → IsTallied w → IsTallied v
  step_tallied w v (opened phase) is_shape s t =
      let up = updates_same F w s.3.0 s.3.1 in
      let add = of_opens F s.3.0 v phase s.3.2 in
      keeps w v (opened phase) (add.0 ∙ up.0, add.1 ∙ ap (λ js. js ++ opened phase ∷ []) up.1) (λ n k. refl) t
  step_tallied w v (claimed n i number worker) is_shape s t =
      let before = before_drops w n i worker s.0 s.5.0 in
      let drops = drops_same (length before.nodes) before in
      let said : claimed n i s.5.0.number worker ≡ claimed n i number worker = ap (λ k. claimed n i k worker) s.5.2 in
      claim_tallied w v n i number worker s.0 s.5.0 is_shape s.1.0 s.5.1 s.5.2
      (ap (λ (x : World). sents x.nodes) s.5.3 ∙ drops.0 ∙ set_sent w.nodes n (record s.0 { progress = s.5.0.progress }), ap (λ (x : World). x.journal) s.5.3 ∙ drops.1 ∙ ap (λ r. w.journal ++ r ∷ []) said) t
  step_tallied w v (handed_in n i number worker handed) is_shape s t =
      keeps w v (handed_in s.0.node s.0.input s.0.number s.0.worker (handed_of s.7.0)) (ap (λ (x : World). sents x.nodes) s.7.3 ∙ answer_adds s.0 s.7.0 w, ap (λ (x : World). x.journal) s.7.3) (λ m k. refl) t
  step_tallied w v (pulled n i number) is_shape s t =
      keeps w v (pulled n i s.4.0.next) (
        ap (λ (x : World). sents x.nodes) s.4.8
            ∙ set_same w.nodes n s.0 (record s.0 { progress = cond (is_multiplexer s.0.node.kind) s.0.progress (after_store s.0.node.kind i s.4.1 s.0.progress) }) s.1.0 (pulled_sent (is_multiplexer s.0.node.kind) s.0.node.kind i s.4.1 s.0.progress),
        ap (λ (x : World). x.journal) s.4.8,
      )
      (λ m k. refl) t
  step_tallied w v (closed n) is_shape s t =
      keeps w v (closed n) (ap (λ (x : World). sents x.nodes) s.4 ∙ set_same w.nodes n s.0 (record s.0 { is_closed = true }) s.1.0 refl, ap (λ (x : World). x.journal) s.4) (λ m k. refl) t
  step_tallied w v (ended phase) is_shape s t = keeps w v (ended w.phase) (ap (λ (x : World). sents x.nodes) s.4 ∙ unmarked_same w.nodes, ap (λ (x : World). x.journal) s.4) (λ m k. refl) t

  replay_tallied : (w v : World) (rs : List Record) → shape_of w ≡ shape → Replays F w rs v → IsTallied w → IsTallied v
  replay_tallied w v [] is_shape e t = subst IsTallied (sym e) t
  replay_tallied w v (r ∷ rs) is_shape s t = replay_tallied s.0 v rs (step_keeps F w s.0 r s.1 ∙ is_shape) s.2 (step_tallied w s.0 r is_shape s.1 t)

fresh_sent : (shape : Shape) (n s : ℕ) → slice_get (sents (map fresh_node shape)) n ≡ Some s → s ≡ 0
fresh_sent [] n s e = absurd (let no : None ≡ Some s = e in cc)
fresh_sent (p ∷ ps) zero s e = let q : Some 0 ≡ Some s = e in cc
fresh_sent (p ∷ ps) (suc n) s e = fresh_sent ps n s e

none_below : (k s : ℕ) → s ≡ 0 → ◌≡◌ {A = ℕ} 0 (cond (nat_lt k s) 1 0)
none_below k s z = let below : nat_lt k s ≡ false = grind (arith, nat_tests) in ap (λ (b : Bool). cond {A = ℕ} b 1 0) (sym below)

opening_shows : (shape : Shape) → map (λ (n : Node). n.node) (map fresh_node shape) ≡ shape
opening_shows [] = refl
opening_shows (p ∷ ps) = ap (λ xs. p ∷ xs) (opening_shows ps)

pub tallied : (F : Functions) (shape : Shape) (sound : IsSound F shape) (o : Options) (w : World) → Reaches F shape o w → IsTallied F shape sound w
tallied F shape sound o w r = replay_tallied F shape sound (opening shape o) w r.0 (opening_shows shape) r.1 (λ n k s p at none e. none_below k s (fresh_sent shape n s e))

at_most_one : (b : Bool) → cond {A = ℕ} b 1 0 ≤ 1
at_most_one true = omega arith
at_most_one false = omega arith

sent_there : (nodes : List Node) (n : ℕ) (p : PhysicalNode) → slice_get (map (λ (x : Node). x.node) nodes) n ≡ Some p → (s : ℕ) × (slice_get (sents nodes) n ≡ Some s)
sent_there [] n p e = absurd (let no : None ≡ Some p = e in cc)
sent_there (x ∷ xs) zero p e = (x.progress.sent, refl)
sent_there (x ∷ xs) (suc n) p e = sent_there xs n p e

pub replay_shape : (F : Functions) (w v : World) (rs : List Record) → Replays F w rs v → shape_of v ≡ shape_of w
replay_shape F w v [] e = ap shape_of e
replay_shape F w v (r ∷ rs) s = replay_shape F s.0 v rs s.2 ∙ step_keeps F w s.0 r s.1

-- in every world that the opening of a sound shape reaches
pub claimed_once : (F : Functions) (shape : Shape) → IsSound F shape → (o : Options) (w : World) → Reaches F shape o w
    → (n k : ℕ) (p : PhysicalNode) → slice_get (shape_of w) n ≡ Some p → p.inputs ≡ [] → count_by (is_claim_of n 0 k) w.journal ≤ 1
claimed_once F shape sound o w r n k p at none =
    let there = sent_there w.nodes n p at in
    let shown : shape_of w ≡ shape = replay_shape F (opening shape o) w r.0 r.1 ∙ opening_shows shape in
    let t = tallied F shape sound o w r n k there.0 p (ap (λ sh. slice_get sh n) (sym shown) ∙ at) none there.1 in
    let small = at_most_one (nat_lt k there.0) in
    omega arith

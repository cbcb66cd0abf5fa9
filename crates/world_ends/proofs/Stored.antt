-- In every reached world a node that gives the table it makes has made it, and a zip has a store for each of its inputs.
use Rattle.std.proofs.Common.{◌≡◌, ℕ, zero, suc, ◌+◌, ◌⊎◌, Bool, true, false, cond, List, [], ◌∷◌, length, Option, None, Some, refl, sym, ap, subst, ◌∙◌, inl, inr}
use Rattle.std.specs.Prelude.{IsTrue, is_some, map, nat_eq, not, replicate, slice_get, ◌&&◌, ◌||◌, ⊤}
use Rattle.std.specs.List.{list_all, list_any}
use Rattle.ps_frame.specs.Causes.{is_empty}
use Rattle.ps_frame.specs.Functions.{Functions}
use Rattle.ps_frame.specs.Tables.{Fields, Row}
use Rattle.ps_meaning.specs.Shape.{PhysicalKind, PhysicalNode, Shape, in_memory_join, in_memory_map, negative_slice, zip_node}
use Rattle.ps_options.specs.declared.options.Options.{Options}
use Rattle.ps_ports.specs.Ports.{Sides, all_done, first_port, is_done}
use Rattle.ps_turns.specs.Claims.{Claim, Next, claim_by, of_made, of_own}
use Rattle.ps_turns.specs.Cuts.{cut_of_source, is_exhausted}
use Rattle.ps_turns.specs.Heads.{Head, is_ready_head}
use Rattle.ps_turns.specs.Progress.{Progress, Stage, giving, is_giving, is_user_step, makes_table, spent, taking}
use Rattle.ps_turns.specs.Pulls.{after_store}
use Rattle.ps_turns.specs.Tasks.{hands_on}
use Rattle.ps_turns.specs.Updates.{Makes, has_given_all, is_filled, next_stage, stage_after, starts_giving}
use Rattle.ps_world.specs.Claims.{inputs_in_phase, next_morsel}
use Rattle.ps_world.specs.Opening.{Reaches, no_progress}
use Rattle.ps_world.specs.Pipes.{without_heads}
use Rattle.ps_world.specs.World.{Node, World, heads_of, inputs_done, schemas_for}
use Rattle.world_facts.proofs.CutOff.{and_true, both_true}
use Rattle.world_facts.proofs.HandedIn.{length_set}
use Rattle.world_facts.proofs.OwnProgress.{IsKeptByAll, reached_good}
use Rattle.world_facts.proofs.Placing.{map_length}

-- what makes a table has it while it gives
abbrev pub HasMade : PhysicalKind → Progress → Type 0
HasMade kind a = (makes_table kind && is_giving a.stage) ≡ true → is_some a.made ≡ true

-- a zip has a store for each input
abbrev pub HasStores : (inputs : ℕ) → PhysicalKind → Progress → Type 0
HasStores k (zip_node extend) a = length a.stores ≡ k
HasStores k kind a = ⊤

-- a turn, by kinds
abbrev TurnsBy : Functions → Options → PhysicalNode → PhysicalKind → List Fields → Sides → Progress → Progress → Type 0
TurnsBy F o p kind ss given a b =
    (IsTrue (not (starts_giving o kind a given)) × (b ≡ record a { stage = stage_after o kind a given }))
    ⊎ (IsTrue (starts_giving o kind a given) × (c : Progress) × Makes F o p kind ss a c × (b ≡ record c { stage = giving }))

-- TABLES
and_false : (b : Bool) → (b && false) ≡ true → ⊥
and_false true e = let no : false ≡ true = e in cc
and_false false e = let no : false ≡ true = e in cc

was_giving : (x y : Bool) → not (not x && y) ≡ true → y ≡ true → x ≡ true
was_giving true y e g = refl
was_giving false true e g = absurd (let no : false ≡ true = e in cc)
was_giving false false e g = absurd (let no : false ≡ true = g in cc)

-- what turns to giving has its inputs done, and its table filled in where it waited for one
inputs_were : (st : Stage) (d ins all : Bool) → not (is_giving st) ≡ true → is_giving (next_stage st d ins all) ≡ true → ins ≡ true
inputs_were taking true ins all n g = absurd (let no : false ≡ true = g in cc)
inputs_were giving true ins all n g = absurd (let no : false ≡ true = g in cc)
inputs_were spent true ins all n g = absurd (let no : false ≡ true = g in cc)
inputs_were taking false true all n g = refl
inputs_were taking false false all n g = absurd (let no : false ≡ true = g in cc)
inputs_were giving false ins all n g = absurd (let no : false ≡ true = n in cc)
inputs_were spent false ins all n g = absurd (let no : false ≡ true = g in cc)

of_filled : (user made : Bool) → user ≡ true → (not user || made) ≡ true → made ≡ true
of_filled true made e h = h
of_filled false made e h = absurd (let no : false ≡ true = e in cc)

started_made : (F : Functions) (o : Options) (p : PhysicalNode) (ss : List Fields) (given : Sides) (a c : Progress) (kind : PhysicalKind) → makes_table kind ≡ true → starts_giving o kind a given ≡ true → Makes F o p kind ss a c → is_some c.made ≡ true
started_made F o p ss given a c (in_memory_map step) makes starts (inl (user, same)) =
    let turned = both_true (not (is_giving a.stage)) (is_giving (stage_after o (in_memory_map step) a given)) starts in
    let ins = inputs_were a.stage (is_done (first_port given.outputs)) (all_done given.inputs && is_filled (in_memory_map step) a) (has_given_all o (in_memory_map step) a) turned.0 turned.1 in
    let filled = both_true (all_done given.inputs) (is_filled (in_memory_map step) a) ins in
    ap (λ (x : Progress). is_some x.made) same ∙ of_filled (is_user_step step) (is_some a.made) user filled.1
started_made F o p ss given a c (in_memory_map step) makes starts (inr (plain, rs, made, same)) = ap (λ (x : Progress). is_some x.made) same
started_made F o p ss given a c (in_memory_join j) makes starts m = ap (λ (x : Progress). is_some x.made) m.2
started_made F o p ss given a c (negative_slice back n) makes starts m = ap (λ (x : Progress). is_some x.made) m
started_made F o p ss given a c kind makes starts m = absurd (let no : false ≡ true = makes in cc)

turned_made : (F : Functions) (o : Options) (p : PhysicalNode) (kind : PhysicalKind) (ss : List Fields) (given : Sides) (a b : Progress) → TurnsBy F o p kind ss given a b → HasMade kind a → HasMade kind b
turned_made F o p kind ss given a b (inl t) has =
    subst (HasMade kind) (sym t.1)
    (λ h.
    let now = both_true (makes_table kind) (is_giving (stage_after o kind a given)) h in
    has (and_true (makes_table kind) (is_giving a.stage) now.0 (was_giving (is_giving a.stage) (is_giving (stage_after o kind a given)) t.0 now.1)))
turned_made F o p kind ss given a b (inr t) has =
    λ h. let makes = both_true (makes_table kind) (is_giving b.stage) h in ap (λ (x : Progress). is_some x.made) t.3 ∙ started_made F o p ss given a t.1 kind makes.0 t.0 t.2

some_same : (x y : Claim) → Some x ≡ Some y → x ≡ y
some_same x y e = cc

of_cut : (b : Bool) (x c : Claim) → cond b None (Some x) ≡ Some c → x ≡ c
of_cut true x c e = absurd (let no : None ≡ Some c = e in cc)
of_cut false x c e = some_same x c e

-- a claim of the table that was made leaves all but the count of what was sent
made_claims : (o : Options) (p : PhysicalNode) (ss : List Fields) (a : Progress) (stage : Stage) (rows : Option (List Row)) (c : Claim) → of_made o p ss a stage rows ≡ Some c → c.progress ≡ record a { sent = a.sent + 1 }
made_claims o p ss a taking rows c e = absurd (let no : None ≡ Some c = e in cc)
made_claims o p ss a spent rows c e = absurd (let no : None ≡ Some c = e in cc)
made_claims o p ss a giving None c e = absurd (let no : None ≡ Some c = e in cc)
made_claims o p ss a giving (Some rs) c e =
    let same = of_cut (is_exhausted o rs a.sent) (of_own o p ss a hands_on (p.schema ∷ []) (cut_of_source o rs a.sent ∷ [])) c e in sym (ap (λ (x : Claim). x.progress) same)

first_claims : (o : Options) (p : PhysicalNode) (ss : List Fields) (a : Progress) (b : Bool) (c : Claim) → cond b (of_made o p ss a a.stage a.made) None ≡ Some c → c.progress ≡ record a { sent = a.sent + 1 }
first_claims o p ss a true c e = made_claims o p ss a a.stage a.made c e
first_claims o p ss a false c e = absurd (let no : None ≡ Some c = e in cc)

claimed_made : (o : Options) (p : PhysicalNode) (ss : List Fields) (a : Progress) (hs : List Head) (ds : List Bool) (i : ℕ) (next : Next) (c : Claim) (kind : PhysicalKind) → claim_by o p ss kind a hs ds i next ≡ Some c → HasMade kind a → HasMade kind c.progress
claimed_made o p ss a hs ds i next c (in_memory_map step) e has = subst (HasMade (in_memory_map step)) (sym (first_claims o p ss a (nat_eq i 0) c e)) has
claimed_made o p ss a hs ds i next c (in_memory_join j) e has = subst (HasMade (in_memory_join j)) (sym (first_claims o p ss a (nat_eq i 0) c e)) has
claimed_made o p ss a hs ds i next c (negative_slice back n) e has = subst (HasMade (negative_slice back n)) (sym (first_claims o p ss a (nat_eq i 0) c e)) has
claimed_made o p ss a hs ds i next c kind e has = λ h. absurd (let no : false ≡ true = h in cc)

stored_made : (kind : PhysicalKind) (i : ℕ) (m : List Row) (a : Progress) → HasMade kind a → HasMade kind (after_store kind i m a)
stored_made (negative_slice back n) i m a has = has
stored_made kind i m a has = has

lost_made : (kind : PhysicalKind) (node : Node) → HasMade node.node.kind node.progress → HasMade (without_heads kind node).node.kind (without_heads kind node).progress
lost_made (zip_node extend) node has = has
lost_made kind node has = has

pub kept_made : (F : Functions) → IsKeptByAll F (λ p a. HasMade p.kind a)
kept_made F =
    record {
      begins = λ p h. absurd (and_false (makes_table p.kind) h);
      turned = λ o p ss given a b t has. turned_made F o p p.kind ss given a b t has;
      filled = λ p ss given a b t has. subst (HasMade p.kind) (sym t.3) (λ h. refl);
      claims = λ w n i node c e has. claimed_made w.options node.node (schemas_for w node) node.progress (heads_of w n node) (inputs_done w n) i (next_morsel (inputs_in_phase w n i)) c node.node.kind e has;
      keeps = λ p a slots has. has;
      pulls = λ p a i m has. stored_made p.kind i m a has;
      loses = λ node has. lost_made node.node.kind node has;
    }

-- STORES
blank_stores : (k : ℕ) → length (replicate {A = List (List Row)} k []) ≡ k
blank_stores zero = refl
blank_stores (suc k) = ap suc (blank_stores k)

begun_stores : (k : ℕ) (kind : PhysicalKind) → HasStores k kind (no_progress k)
begun_stores k (zip_node extend) = blank_stores k
begun_stores k kind = tt

turned_stores : (F : Functions) (o : Options) (p : PhysicalNode) (ss : List Fields) (given : Sides) (a b : Progress) (k : ℕ) (kind : PhysicalKind) → TurnsBy F o p kind ss given a b → HasStores k kind a → HasStores k kind b
turned_stores F o p ss given a b k (zip_node extend) (inl t) has = ap (λ (x : Progress). length x.stores) t.1 ∙ has
turned_stores F o p ss given a b k (zip_node extend) (inr t) has = ap (λ (x : Progress). length x.stores) t.3 ∙ ap (λ (x : Progress). length x.stores) t.2 ∙ has
turned_stores F o p ss given a b k kind t has = tt

filled_stores : (a b : Progress) (rs : List Row) (k : ℕ) (kind : PhysicalKind) → b ≡ record a { made = Some rs } → HasStores k kind a → HasStores k kind b
filled_stores a b rs k (zip_node extend) e has = ap (λ (x : Progress). length x.stores) e ∙ has
filled_stores a b rs k kind e has = tt

by_tests : (b e : Bool) (x c : Claim) → cond b (cond e (Some x) None) None ≡ Some c → x ≡ c
by_tests true true x c q = some_same x c q
by_tests true false x c q = absurd (let no : None ≡ Some c = q in cc)
by_tests false e x c q = absurd (let no : None ≡ Some c = q in cc)

claimed_stores : (o : Options) (p : PhysicalNode) (ss : List Fields) (a : Progress) (hs : List Head) (ds : List Bool) (i : ℕ) (next : Next) (c : Claim) (k : ℕ) (kind : PhysicalKind) → claim_by o p ss kind a hs ds i next ≡ Some c → HasStores k kind a → HasStores k kind c.progress
claimed_stores o p ss a hs ds i next c k (zip_node extend) e has =
    let same = by_tests (nat_eq i 0) (list_all (is_ready_head extend) hs && list_any (λ (h : Head). not (is_empty h.rest)) hs) _ c e in sym (ap (λ (x : Claim). length x.progress.stores) same) ∙ has
claimed_stores o p ss a hs ds i next c k kind e has = tt

pulled_stores : (i : ℕ) (m : List Row) (a : Progress) (k : ℕ) (kind : PhysicalKind) → HasStores k kind a → HasStores k kind (after_store kind i m a)
pulled_stores i m a k (zip_node extend) has = length_set a.stores i _ ∙ has
pulled_stores i m a k kind has = tt

taken_stores : (a : Progress) (slots : List (List (Option (List Row)))) (k : ℕ) (kind : PhysicalKind) → HasStores k kind a → HasStores k kind (record a { taken = slots })
taken_stores a slots k (zip_node extend) has = has
taken_stores a slots k kind has = tt

lost_stores : (kind : PhysicalKind) (node : Node) → node.node.kind ≡ kind → HasStores (length node.node.inputs) node.node.kind node.progress → HasStores (length (without_heads kind node).node.inputs) (without_heads kind node).node.kind (without_heads kind node).progress
lost_stores (zip_node extend) node e has =
    let k = length node.node.inputs in
    let here : HasStores k (zip_node extend) node.progress = subst (λ x. HasStores k x node.progress) e has in
    let lost : HasStores k (zip_node extend) (record node.progress { stores = map (λ ms. []) node.progress.stores }) = map_length (λ (ms : List (List Row)). []) node.progress.stores ∙ here in
    subst (λ x. HasStores k x (record node.progress { stores = map (λ ms. []) node.progress.stores })) (sym e) lost
lost_stores kind node e has = has

pub kept_stores : (F : Functions) → IsKeptByAll F (λ p a. HasStores (length p.inputs) p.kind a)
kept_stores F =
    record {
      begins = λ p. begun_stores (length p.inputs) p.kind;
      turned = λ o p ss given a b t has. turned_stores F o p ss given a b (length p.inputs) p.kind t has;
      filled = λ p ss given a b t has. filled_stores a b t.1 (length p.inputs) p.kind t.3 has;
      claims = λ w n i node c e has.
          claimed_stores w.options node.node (schemas_for w node) node.progress (heads_of w n node) (inputs_done w n) i (next_morsel (inputs_in_phase w n i)) c (length node.node.inputs) node.node.kind e has;
      keeps = λ p a slots has. taken_stores a slots (length p.inputs) p.kind has;
      pulls = λ p a i m has. pulled_stores i m a (length p.inputs) p.kind has;
      loses = λ node has. lost_stores node.node.kind node refl has;
    }

-- EVERY REACHED WORLD
pub has_made : (F : Functions) (shape : Shape) (o : Options) (w : World) → Reaches F shape o w → (n : ℕ) (node : Node) → slice_get w.nodes n ≡ Some node → HasMade node.node.kind node.progress
has_made F shape o w r n node e = reached_good F (λ p a. HasMade p.kind a) (kept_made F) shape o w r.0 r.1 n node e

pub has_stores : (F : Functions) (shape : Shape) (o : Options) (w : World) → Reaches F shape o w → (n : ℕ) (node : Node) → slice_get w.nodes n ≡ Some node → HasStores (length node.node.inputs) node.node.kind node.progress
has_stores F shape o w r n node e = reached_good F (λ p a. HasStores (length p.inputs) p.kind a) (kept_stores F) shape o w r.0 r.1 n node e

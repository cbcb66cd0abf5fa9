-- In every reached world a negative slice stores, beside its first morsel, fewer rows than it looks back on.
use Rattle.std.proofs.Common.{◌≡◌, ℕ, zero, suc, Bool, true, false, List, [], ◌∷◌, length, Option, Some, None, refl, sym, ap, subst, ◌∙◌, inl, inr}
use Rattle.std.specs.Prelude.{◌++◌, cond, get_or, nat_eq, replicate, slice_set}
use Rattle.ps_frame.specs.Functions.{Functions}
use Rattle.ps_frame.specs.Tables.{Fields, Row}
use Rattle.ps_ports.specs.Ports.{Sides}
use Rattle.ps_turns.specs.Claims.{Claim, claim_by, of_made, of_own}
use Rattle.ps_turns.specs.Cuts.{cut_of_source, is_exhausted}
use Rattle.ps_turns.specs.Ends.{IsShort, last_kept}
use Rattle.ps_turns.specs.Progress.{Progress, Stage, giving, spent, taking}
use Rattle.ps_turns.specs.Pulls.{after_store}
use Rattle.ps_turns.specs.Tasks.{hands_on}
use Rattle.ps_turns.specs.Updates.{Makes, Turns}
use Rattle.ps_options.specs.declared.options.Options.{Options}
use Rattle.world_facts.proofs.EndStores.{lets_go}
use Rattle.ps_meaning.specs.Shape.{PhysicalKind, PhysicalNode, Shape, negative_slice, zip_node}
use Rattle.ps_world.specs.Claims.{claim_at, inputs_in_phase, next_morsel}
use Rattle.ps_world.specs.Opening.{Reaches, no_progress}
use Rattle.ps_world.specs.Pipes.{without_heads}
use Rattle.ps_world.specs.Promises.{StoresFew}
use Rattle.ps_world.specs.World.{Node, World, heads_of, inputs_done, schemas_for}
use Rattle.world_facts.proofs.OwnProgress.{IsKeptByAll, reached_good}

abbrev pub IsFew : PhysicalNode → Progress → Type 0
IsFew p a = (back k : ℕ) → p.kind ≡ negative_slice back k → IsShort back (get_or a.stores 0 [])

none_stored : (k : ℕ) → get_or (replicate {A = List (List Row)} k []) 0 [] ≡ []
none_stored zero = refl
none_stored (suc k) = refl

-- neither a turn nor a claim of a negative slice changes what it stores
made_keeps : (F : Functions) (o : Options) (p : PhysicalNode) (ss : List Fields) (a c : Progress) (back k : ℕ) → p.kind ≡ negative_slice back k → Makes F o p p.kind ss a c → c.stores ≡ a.stores
made_keeps F o p ss a c back k e m = let made : Makes F o p (negative_slice back k) ss a c = subst (λ kind. Makes F o p kind ss a c) e m in ap (λ (x : Progress). x.stores) made

turn_keeps : (F : Functions) (o : Options) (p : PhysicalNode) (ss : List Fields) (given : Sides) (a b : Progress) → Turns F o p ss given a b → IsFew p a → IsFew p b
turn_keeps F o p ss given a b (inl t) few back k e = subst (λ st. IsShort back (get_or st 0 [])) (sym (ap (λ (x : Progress). x.stores) t.1)) (few back k e)
turn_keeps F o p ss given a b (inr t) few back k e =
    let same : b.stores ≡ a.stores = ap (λ (x : Progress). x.stores) t.3 ∙ made_keeps F o p ss a t.1 back k e t.2 in
    subst (λ st. IsShort back (get_or st 0 [])) (sym same) (few back k e)

some_same : (x y : Claim) → Some x ≡ Some y → x ≡ y
some_same x y e = cc

of_cut : (b : Bool) (x c : Claim) → cond b None (Some x) ≡ Some c → x ≡ c
of_cut true x c e = absurd (let no : None ≡ Some c = e in cc)
of_cut false x c e = some_same x c e

made_claims : (o : Options) (p : PhysicalNode) (ss : List Fields) (a : Progress) (stage : Stage) (rows : Option (List Row)) (c : Claim) → of_made o p ss a stage rows ≡ Some c → c.progress.stores ≡ a.stores
made_claims o p ss a taking rows c e = absurd (let no : None ≡ Some c = e in cc)
made_claims o p ss a spent rows c e = absurd (let no : None ≡ Some c = e in cc)
made_claims o p ss a giving None c e = absurd (let no : None ≡ Some c = e in cc)
made_claims o p ss a giving (Some rs) c e =
    let same = of_cut (is_exhausted o rs a.sent) (of_own o p ss a hands_on (p.schema ∷ []) (cut_of_source o rs a.sent ∷ [])) c e in sym (ap (λ (x : Claim). x.progress.stores) same)

first_claims : (o : Options) (p : PhysicalNode) (ss : List Fields) (a : Progress) (b : Bool) (c : Claim) → cond b (of_made o p ss a a.stage a.made) None ≡ Some c → c.progress.stores ≡ a.stores
first_claims o p ss a true c e = made_claims o p ss a a.stage a.made c e
first_claims o p ss a false c e = absurd (let no : None ≡ Some c = e in cc)

claim_keeps : (w : World) (n i : ℕ) (node : Node) (c : Claim) → claim_at w n i node ≡ Some c → IsFew node.node node.progress → IsFew node.node c.progress
claim_keeps w n i node c e few back k kind =
    let claimed : claim_by w.options node.node (schemas_for w node) (negative_slice back k) node.progress (heads_of w n node) (inputs_done w n) i (next_morsel (inputs_in_phase w n i)) ≡ Some c =
    subst (λ kd. claim_by w.options node.node (schemas_for w node) kd node.progress (heads_of w n node) (inputs_done w n) i (next_morsel (inputs_in_phase w n i)) ≡ Some c) kind e in
    let same = first_claims w.options node.node (schemas_for w node) node.progress (nat_eq i 0) c claimed in
    subst (λ st. IsShort back (get_or st 0 [])) (sym same) (few back k kind)

-- a store of a pull is short
set_short : (back : ℕ) (st : List (List (List Row))) (i : ℕ) (x : List (List Row)) → IsShort back (get_or st 0 []) → IsShort back x → IsShort back (get_or (slice_set st i x) 0 [])
set_short back [] i x h g = h
set_short back (s ∷ ss) zero x h g = g
set_short back (s ∷ ss) (suc i) x h g = h

pull_keeps : (p : PhysicalNode) (a : Progress) (i : ℕ) (m : List Row) → IsFew p a → IsFew p (after_store p.kind i m a)
pull_keeps p a i m few back k e =
    let store = get_or a.stores i [] ++ m ∷ [] in
    let here : IsShort back (get_or (after_store (negative_slice back k) i m a).stores 0 []) = set_short back a.stores i (last_kept back store) (few back k e) (lets_go back store).short in
    subst (λ kd. IsShort back (get_or (after_store kd i m a).stores 0 [])) (sym e) here

same_node : (kd : PhysicalKind) (node : Node) → (without_heads kd node).node ≡ node.node
same_node (zip_node extend) node = refl
same_node kd node = refl

lost_keeps : (node : Node) → IsFew node.node node.progress → IsFew (without_heads node.node.kind node).node (without_heads node.node.kind node).progress
lost_keeps node few back k e =
    let kind : node.node.kind ≡ negative_slice back k = sym (ap (λ (p : PhysicalNode). p.kind) (same_node node.node.kind node)) ∙ e in
    subst (λ kd. IsShort back (get_or (without_heads kd node).progress.stores 0 [])) (sym kind) (few back k kind)

begins_few : (p : PhysicalNode) → IsFew p (no_progress (length p.inputs))
begins_few p back k e = subst (IsShort back) (sym (none_stored (length p.inputs))) tt

kept_few : (F : Functions) → IsKeptByAll F IsFew
kept_few F =
    record {
      begins = begins_few;
      turned = turn_keeps F;
      filled = λ p ss given a b t few back k e. subst (λ st. IsShort back (get_or st 0 [])) (sym (ap (λ (x : Progress). x.stores) t.3)) (few back k e);
      claims = claim_keeps;
      keeps = λ p a taken few. few;
      pulls = pull_keeps;
      loses = lost_keeps;
    }

pub stores_few : (F : Functions) (shape : Shape) (o : Options) (w : World) → Reaches F shape o w → StoresFew w
stores_few F shape o w r n node back k e kind = reached_good F IsFew (kept_few F) shape o w r.0 r.1 n node e back k kind

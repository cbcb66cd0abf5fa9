-- What is asked and said of an entry's step, by the form of the entry.
use Rattle.std.proofs.Common.{◌≡◌, ℕ, List, length, sym, subst}
use Rattle.std.proofs.lemmas.Result.{IfErr-weaker, IfOk-weaker}
use Rattle.std.specs.Prelude.{IfErr, IfOk}
use Rattle.pu_base.specs.declared.arena.Node.{Node}
use Rattle.ps_frame.specs.Functions.{Functions}
use Rattle.ps_frame.specs.Tables.{Fields, Frame}
use Rattle.ps_frame.specs.Trees.{Tree}
use Rattle.ps_frame.specs.declared.expr.What.{What}
use Rattle.ps_meaning.specs.Nodes.{GivesFrame, MayFault}
use Rattle.ps_meaning.specs.Steps.{Step}
use Rattle.ps_plan.specs.Entries.{entry_inputs, entry_step}
use Rattle.ps_plan.specs.declared.ir.IR.{IR}
use Rattle.ps_plan.specs.declared.ir.IR.TheVariants as entry
use Rattle.ready_steps.specs.Ready.{IsReady, IsReadyFor}
use Rattle.ready_steps.proofs.OverInputs.{Answer}

module _ (F : Functions) (f : Node → Tree) (e x : IR) (fs : List Frame) (is : e ≡ x) where
  pub ready-for : (s : Fields) → IsReadyFor F (entry_step f e) fs s → IsReadyFor F (entry_step f x) fs s
  ready-for s r = subst (λ y. IsReadyFor F (entry_step f y) fs s) is r

  pub ready-as : (s : Fields) → IsReadyFor F (entry_step f e) fs s → IsReady (entry_step f x) fs s
  ready-as s r = (F, ready-for s r)

  pub many-as : length fs ≡ length (entry_inputs e) → length fs ≡ length (entry_inputs x)
  many-as q = subst (λ y. length fs ≡ length (entry_inputs y)) is q

  pub gives-as : (at : ℕ) (r : Answer) → IfOk r (λ t. GivesFrame F at (entry_step f x) fs t) → IfOk r (λ t. GivesFrame F at (entry_step f e) fs t)
  gives-as at r h = subst (λ y. IfOk r (λ t. GivesFrame F at (entry_step f y) fs t)) (sym is) h

  pub faults-as : (at : ℕ) (r : Answer) → IfErr r (λ t. MayFault F at (entry_step f x) fs t) → IfErr r (λ t. MayFault F at (entry_step f e) fs t)
  faults-as at r h = subst (λ y. IfErr r (λ t. MayFault F at (entry_step f y) fs t)) (sym is) h

  -- the same of what is said for all functions
  pub gives-all : (at : ℕ) (r : Answer) → IfOk r (λ t. (G : Functions) → GivesFrame G at (entry_step f x) fs t) → IfOk r (λ t. GivesFrame F at (entry_step f e) fs t)
  gives-all at r h = gives-as at r (IfOk-weaker r _ _ (λ t g. g F) h)

  pub faults-all : (at : ℕ) (r : Answer) → IfErr r (λ t. (G : Functions) → MayFault G at (entry_step f x) fs t) → IfErr r (λ t. MayFault F at (entry_step f e) fs t)
  faults-all at r h = faults-as at r (IfErr-weaker r _ _ (λ t g. g F) h)

  -- and of what is said for each value of something that the step holds
  pub gives-any : {A : Type 0} (a : A) (step : A → Step) (at : ℕ) (r : Answer) → step a ≡ entry_step f x → IfOk r (λ t. (G : Functions) (b : A) → GivesFrame G at (step b) fs t) → IfOk r (λ t. GivesFrame F at (entry_step f e) fs t)
  gives-any a step at r q h = gives-as at r (IfOk-weaker r _ _ (λ t g. subst (λ s. GivesFrame F at s fs t) q (g F a)) h)

  pub faults-any : {A : Type 0} (a : A) (step : A → Step) (at : ℕ) (r : Answer) → step a ≡ entry_step f x → IfErr r (λ t. (G : Functions) (b : A) → MayFault G at (step b) fs t) → IfErr r (λ t. MayFault F at (entry_step f e) fs t)
  faults-any a step at r q h = faults-as at r (IfErr-weaker r _ _ (λ t g. subst (λ s. MayFault F at s fs t) q (g F a)) h)

-- a step that is left out is fit for nothing
pub none-left-out : (F : Functions) (f : Node → Tree) (e : IR) (w : What) (fs : List Frame) (s : Fields) → e ≡ entry.LeftOut w → IsReadyFor F (entry_step f e) fs s → ⊥
none-left-out F f e w fs s is r = (ready-for F f e (entry.LeftOut w) fs is s r).fit.built

-- What a join is ready for.
use Rattle.std.proofs.Common.{◌≡◌, ◌≢◌, ℕ, ◌⊎◌, List, [], ◌∷◌, length, refl, sym, subst, ap, ◌∙◌, inl, inr, arith}
use Rattle.std.specs.Prelude.{true, false, not, ◌||◌, IsTrue, IsSome, Option, Some, None}
use Rattle.std.specs.List.{AllByRecursion}
use lib.Dec.{eqb}
use Rattle.std.proofs.lemmas.Bool.Decides.{eqb_tells}
use Rattle.std.proofs.lemmas.Option.{same_Some}
use Rattle.ps_frame.proofs.Lists.{both}
use Rattle.ps_frame.specs.Refusals.{refuses_pair}
use Rattle.ps_frame.specs.Tables.{Fields, Frame}
use Rattle.ps_frame.specs.Trees.{IsComplete, Tree}
use Rattle.ps_frame.specs.Typing.{kind_over}
use Rattle.ps_frame.specs.Values.{same_kind}
use Rattle.ps_frame.specs.declared.value.DataType.{DataType}
use Rattle.ps_frame.specs.declared.value.DataType.TheVariants as kind
use Rattle.ps_meaning.proofs.Begins.{or-left, or-right}
use Rattle.ps_plan.proofs.TypedKinds.{all-left, all-right}
use Rattle.ps_meaning.specs.StepRefusals.{KeysMisfit, break_rules, pairs_differ, schema_mismatch}
use Rattle.ps_meaning.specs.Schemas.{join_schema}
use Rattle.ps_meaning.specs.Sound.{have_all_kinds}
use Rattle.ps_meaning.specs.Steps.{JoinStep, join}
use Rattle.ps_meaning.specs.declared.options.JoinType.{JoinType}
use Rattle.ps_meaning.specs.declared.options.JoinType.TheVariants as how
use Rattle.ps_zip.specs.Zips.{AreTypedOver, expr_kinds}
use Rattle.ready_steps.specs.Ready.{IsReady}
use Rattle.ready_steps.proofs.RowSteps.{all-kinds}

-- as many keys on either side
as-many : (n m : ℕ) → ¬ (n ≢ m) → n ≡ m
as-many n m h = by (eqb_tells n m)
  where
    by : ((eqb n m ≡ true) × (n ≡ m)) ⊎ ((eqb n m ≡ false) × (n ≢ m)) → n ≡ m
    by (inl q) = q.1
    by (inr q) = absurd (h q.1)

none-there : (es : List Tree) → ¬ (es ≢ []) → es ≡ []
none-there [] h = refl
none-there (e ∷ es) h = absurd (h (λ q. cc))

keys-match : (w : JoinType) (ls rs : List Tree) → ¬ KeysMisfit w ls rs → length ls ≡ length rs
keys-match how.Inner ls rs h = as-many (length ls) (length rs) (λ q. h (inl q))
keys-match how.Left ls rs h = as-many (length ls) (length rs) (λ q. h (inl q))
keys-match how.Right ls rs h = as-many (length ls) (length rs) (λ q. h (inl q))
keys-match how.Full ls rs h = as-many (length ls) (length rs) (λ q. h (inl q))
keys-match how.Semi ls rs h = as-many (length ls) (length rs) (λ q. h (inl q))
keys-match how.Anti ls rs h = as-many (length ls) (length rs) (λ q. h (inl q))
keys-match how.Cross ls rs h = ap length (none-there ls (λ q. h (inl q))) ∙ sym (ap length (none-there rs (λ q. h (inr q))))

-- paired keys that have kinds which none refuses have the same
same-kinds : (j k : DataType) → ¬ IsTrue (not (same_kind j k)) → j ≡ k
same-kinds kind.Boolean kind.Boolean h = refl
same-kinds kind.Int64 kind.Int64 h = refl
same-kinds kind.IdxSize kind.IdxSize h = refl
same-kinds kind.String kind.String h = refl
same-kinds kind.Boolean kind.Int64 h = absurd (h refl)
same-kinds kind.Boolean kind.IdxSize h = absurd (h refl)
same-kinds kind.Boolean kind.String h = absurd (h refl)
same-kinds kind.Int64 kind.Boolean h = absurd (h refl)
same-kinds kind.Int64 kind.IdxSize h = absurd (h refl)
same-kinds kind.Int64 kind.String h = absurd (h refl)
same-kinds kind.IdxSize kind.Boolean h = absurd (h refl)
same-kinds kind.IdxSize kind.Int64 h = absurd (h refl)
same-kinds kind.IdxSize kind.String h = absurd (h refl)
same-kinds kind.String kind.Boolean h = absurd (h refl)
same-kinds kind.String kind.Int64 h = absurd (h refl)
same-kinds kind.String kind.IdxSize h = absurd (h refl)

same-pair : (o p : Option DataType) → IsSome o → IsSome p → ¬ IsTrue (refuses_pair same_kind o p) → o ≡ p
same-pair None p a b h = absurd (let q : false ≡ true = a in cc)
same-pair (Some j) None a b h = absurd (let q : false ≡ true = b in cc)
same-pair (Some j) (Some k) a b h = ap (λ x. Some x) (same-kinds j k h)

same-pairs : (l r : Fields) (ls rs : List Tree) → length ls ≡ length rs → AllByRecursion (λ e. IsSome (kind_over l e)) ls → AllByRecursion (λ e. IsSome (kind_over r e)) rs → ¬ IsTrue (pairs_differ l r ls rs)
    → expr_kinds l ls ≡ expr_kinds r rs
same-pairs l r [] [] e a b h = refl
same-pairs l r [] (y ∷ rs) e a b h = absurd (omega arith)
same-pairs l r (x ∷ ls) [] e a b h = absurd (omega arith)
same-pairs l r (x ∷ ls) (y ∷ rs) e a b h =
    let first = same-pair (kind_over l x) (kind_over r y) a.0 b.0 (λ q. h (or-left (refuses_pair same_kind (kind_over l x) (kind_over r y)) (pairs_differ l r ls rs) q)) in
    let more = same-pairs l r ls rs (omega arith) a.1 b.1 (λ q. h (or-right (refuses_pair same_kind (kind_over l x) (kind_over r y)) (pairs_differ l r ls rs) q)) in
    ap (λ k. k ∷ expr_kinds l ls) first ∙ ap (λ ks. kind_over r y ∷ ks) more

module _ (o : JoinStep) (fs : List Frame) (l r : Frame) (s : Fields) (two : fs ≡ l ∷ r ∷ []) (ready : IsReady (join o) fs s) where
  over : IsReady (join o) (l ∷ r ∷ []) s
  over = subst (λ gs. IsReady (join o) gs s) two ready

  kinds : IsTrue (have_all_kinds l.schema o.left_on) × IsTrue (have_all_kinds r.schema o.right_on)
  kinds = both _ _ over.1.fit.typed.kinds

  pub left-typed : AreTypedOver l.schema o.left_on
  left-typed = (all-left IsComplete o.left_on o.right_on over.1.fit.complete, all-kinds l.schema o.left_on kinds.0)

  pub right-typed : AreTypedOver r.schema o.right_on
  right-typed = (all-right IsComplete o.left_on o.right_on over.1.fit.complete, all-kinds r.schema o.right_on kinds.1)

  pub keys-paired : expr_kinds l.schema o.left_on ≡ expr_kinds r.schema o.right_on
  keys-paired =
      same-pairs l.schema r.schema o.left_on o.right_on (keys-match o.args.how o.left_on o.right_on over.1.fit.keys) left-typed.1 right-typed.1
      (λ q. over.1.fit.typed.rules schema_mismatch (inl (or-right (break_rules l.schema o.left_on || break_rules r.schema o.right_on) (pairs_differ l.schema r.schema o.left_on o.right_on) q)))

  pub join-schema : s ≡ join_schema o l.schema r.schema
  join-schema = sym (same_Some _ _ over.1.schema)

-- What a step over a zip gives, and what breaks it.
use Rattle.std.proofs.Common.{◌≡◌, ℕ, List, [], ◌∷◌, refl, sym, ◌∙◌, ap, inl, inr}
use Rattle.std.specs.Prelude.{Contains, IsSome, map, Option, Some, None}
use Rattle.std.specs.List.{AllByRecursion}
use Rattle.ps_frame.specs.Causes.{Cause}
use Rattle.ps_frame.specs.Functions.{Functions}
use Rattle.ps_frame.specs.Tables.{Fields, Frame, Table, whole}
use Rattle.ps_frame.specs.Trees.{IsComplete, Tree}
use Rattle.ps_frame.specs.Typing.{kind_over}
use Rattle.ps_frame.specs.Zip.{Zipped}
use Rattle.ps_frame.specs.declared.refusal.PolarsError.{PolarsError}
use Rattle.ps_frame.specs.declared.value.DataType.{DataType}
use Rattle.ps_frame.specs.declared.value.Value.{Value}
use Rattle.ps_frame.specs.Frames.{kinds_of}
use Rattle.ps_frame.specs.Series.{Series}
use Rattle.ps_meaning.specs.Cases.{IsCaseBrokenBy}
use Rattle.ps_meaning.specs.Meaning.{HasLargeColumn, IsLargeStep}
use Rattle.ps_meaning.specs.Nodes.{MayFault}
use Rattle.ps_meaning.specs.Schemas.{both, fields_of}
use Rattle.ps_meaning.specs.Steps.{Step, key_trees, name_in, named_trees}
use Rattle.ps_meaning.specs.declared.options.ExprIR.{ExprIR}
use Rattle.pu_base.specs.declared.arena.Node.{Node}
use Rattle.ps_zip.specs.Zips.{AreTypedOver, IsZipError, expr_kinds}

-- the table of a schema, rows and causes
abbrev pub table : Fields → List (List Value) → List Cause → Table
table s rows broken = record { schema = s; rows = rows; broken = broken }

-- an error of the zip is an error of the step, if its causes break the step, and its large columns are the step's
pub may-fault : (F : Functions) (at : ℕ) (step : Step) (fs : List Frame) (ts : List Tree) (t : Table) (z : Zipped) → ((c : Cause) → Contains z.broken c → IsCaseBrokenBy F at step (map whole fs) c) → (HasLargeColumn at ts t → IsLargeStep F at step (map whole fs))
    → (e : PolarsError) → IsZipError at ts t z e → MayFault F at step fs e
may-fault F at step fs ts t z broken large e (inl m) = inl m
may-fault F at step fs ts t z broken large e (inr (d, is, inl c)) = inr (d, is, inl (broken (record { fault = d; node = at }) c))
may-fault F at step fs ts t z broken large e (inr (d, is, inr (r, l))) = inr (d, is, inr (r, inl (large l)))

-- expressions that give fields are typed, and these are their kinds
module _ (f : Node → Tree) (s : Fields) where
  typed-kinds : (es : List ExprIR) (out : Fields) → fields_of (named_trees f es) s ≡ Some out → expr_kinds s (key_trees f es) ≡ map Some (kinds_of out)
  typed-kinds [] out q = let is : out ≡ [] = cc in ap (λ (fs : Fields). map Some (kinds_of fs)) (sym is)
  typed-kinds (e ∷ es) out q = by (kind_over s (f e.node)) (fields_of (named_trees f es) s) refl refl q (typed-kinds es)
    where
      by : (o : Option DataType) (r : Option Fields) → kind_over s (f e.node) ≡ o → fields_of (named_trees f es) s ≡ r → both (λ (k : DataType) (fs : Fields). (name_in e.output_name, k) ∷ fs) o r ≡ Some out
          → ((out : Fields) → fields_of (named_trees f es) s ≡ Some out → expr_kinds s (key_trees f es) ≡ map Some (kinds_of out)) → expr_kinds s (key_trees f (e ∷ es)) ≡ map Some (kinds_of out)
      by None r p q h rest = cc
      by (Some k) None p q h rest = cc
      by (Some k) (Some fs) p q h rest =
          let is : (name_in e.output_name, k) ∷ fs ≡ out = cc in
          (λ i. p i ∷ rest fs q i) ∙ ap (λ (fs : Fields). map Some (kinds_of fs)) is

  pub fields-kinds : (es : List ExprIR) (out : Fields) → fields_of (named_trees f es) s ≡ Some out → expr_kinds s (key_trees f es) ≡ map Some (kinds_of out)
  fields-kinds es out q = typed-kinds es out q

  have-kinds : (ts : List Tree) (ks : List DataType) → expr_kinds s ts ≡ map Some ks → AllByRecursion (λ t. IsSome (kind_over s t)) ts
  have-kinds [] ks e = tt
  have-kinds (t ∷ ts) [] e = cc
  have-kinds (t ∷ ts) (k ∷ ks) e =
      let here : kind_over s t ≡ Some k = cc in
      let rest : expr_kinds s ts ≡ map Some ks = cc in
      (rw here refl, have-kinds ts ks rest)

  pub fields-typed : (es : List ExprIR) (out : Fields) → AllByRecursion IsComplete (key_trees f es) → fields_of (named_trees f es) s ≡ Some out → AreTypedOver s (key_trees f es)
  fields-typed es out complete q = (complete, have-kinds (key_trees f es) (kinds_of out) (typed-kinds es out q))

-- kinds that are there
pub some-kinds : (cs : List Series) (ks : List DataType) → map (λ (c : Series). Some c.kind) cs ≡ map Some ks → map (λ (c : Series). c.kind) cs ≡ ks
some-kinds [] [] e = refl
some-kinds [] (k ∷ ks) e = cc
some-kinds (c ∷ cs) [] e = cc
some-kinds (c ∷ cs) (k ∷ ks) e =
    let here : c.kind ≡ k = cc in
    let rest : map (λ (c : Series). Some c.kind) cs ≡ map Some ks = cc in
    λ i. here i ∷ some-kinds cs ks rest i

-- Names that are copied one after another.
use Rattle.std.proofs.Common.{◌≡◌, ℕ, zero, suc, ◌+◌, ◌<◌, ◌≤◌, List, [], ◌∷◌, ◌++◌, add-one, ap, arith, get_or, length, refl, sym, take, take_all, ◌∙◌}
use Rattle.std.specs.Prelude.{Some, option_map, slice_get}
use Rattle.std.proofs.lemmas.Option.{same_Some}
use Rattle.pu_base.specs.declared.arena.Node.{Node}
use Rattle.ps_frame.specs.Tables.{Fields}
use Rattle.ps_frame.specs.Trees.{Tree}
use Rattle.ps_frame.specs.declared.value.DataType.{DataType}
use Rattle.ps_meaning.specs.Schemas.{names_of}
use Rattle.ps_meaning.specs.Steps.{Name, key_trees, name_in}
use Rattle.ps_meaning.specs.declared.options.ExprIR.{ExprIR}
use Rattle.lowering_parts.specs.Gathered.{names_asked, trees_at}

names_more : (s : Fields) (i : ℕ) (n : Name) → option_map (λ (f : Name × DataType). f.0) (slice_get s i) ≡ Some n → names_of (take (i + 1) s) ≡ names_of (take i s) ++ n ∷ []
names_more s i n e = rw add-one (by s i e)
  where
    by : (s : Fields) (i : ℕ) → option_map (λ (f : Name × DataType). f.0) (slice_get s i) ≡ Some n → names_of (take (suc i) s) ≡ names_of (take i s) ++ n ∷ []
    by [] i e = cc
    by (f ∷ s) zero e = ap (λ m. m ∷ []) (same_Some f.0 n e)
    by (f ∷ s) (suc i) e = ap (λ more. f.0 ∷ more) (by s i e)

-- one more name of a schema, and all of them
pub names_step : (s : Fields) (i : ℕ) (n copy : Name) (now next : List Name) → option_map (λ (f : Name × DataType). f.0) (slice_get s i) ≡ Some n → copy ≡ n → next ≡ now ++ copy ∷ [] → now ≡ names_of (take i s) → next ≡ names_of (take (i + 1) s)
names_step s i n copy now next e c p h = p ∙ (λ j. h j ++ c j ∷ []) ∙ sym (names_more s i n e)

pub names_end : (s : Fields) (i : ℕ) (now : List Name) → length s ≤ i → now ≡ names_of (take i s) → now ≡ names_of s
names_end s i now le h = h ∙ ap names_of (take_all i s le)

-- one more number of an expression, and the name of one
pub keys_more : (f : Node → Tree) (es : List ExprIR) (i : ℕ) (d : ExprIR) → i < length es → key_trees f (take (i + 1) es) ≡ key_trees f (take i es) ++ f (get_or es i d).node ∷ []
keys_more f es i d lt = rw add-one (by es i lt)
  where
    by : (es : List ExprIR) (i : ℕ) → i < length es → key_trees f (take (suc i) es) ≡ key_trees f (take i es) ++ f (get_or es i d).node ∷ []
    by [] i lt = absurd (omega arith)
    by (e ∷ es) zero lt = refl
    by (e ∷ es) (suc i) lt = ap (λ more. f e.node ∷ more) (by es i (omega arith))

pub asked_more : (es : List ExprIR) (i : ℕ) (d : ExprIR) → i < length es → names_asked (take (i + 1) es) ≡ names_asked (take i es) ++ name_in (get_or es i d).output_name ∷ []
asked_more es i d lt = rw add-one (by es i lt)
  where
    by : (es : List ExprIR) (i : ℕ) → i < length es → names_asked (take (suc i) es) ≡ names_asked (take i es) ++ name_in (get_or es i d).output_name ∷ []
    by [] i lt = absurd (omega arith)
    by (e ∷ es) zero lt = refl
    by (e ∷ es) (suc i) lt = ap (λ more. name_in e.output_name ∷ more) (by es i (omega arith))

pub keys_last : (f : Node → Tree) (es : List ExprIR) (e : ExprIR) → key_trees f (es ++ e ∷ []) ≡ key_trees f es ++ f e.node ∷ []
keys_last f [] e = refl
keys_last f (x ∷ es) e = ap (λ more. f x.node ∷ more) (keys_last f es e)

pub trees_more : (f : Node → Tree) (ns : List Node) (i : ℕ) (d : Node) → i < length ns → trees_at f (take (i + 1) ns) ≡ trees_at f (take i ns) ++ f (get_or ns i d) ∷ []
trees_more f ns i d lt = rw add-one (by ns i lt)
  where
    by : (ns : List Node) (i : ℕ) → i < length ns → trees_at f (take (suc i) ns) ≡ trees_at f (take i ns) ++ f (get_or ns i d) ∷ []
    by [] i lt = absurd (omega arith)
    by (n ∷ ns) zero lt = refl
    by (n ∷ ns) (suc i) lt = ap (λ more. f n ∷ more) (by ns i (omega arith))

-- one more key, under whatever name
pub keys_step : (f : Node → Tree) (now next : List ExprIR) (e : ExprIR) (ns : List Node) (i : ℕ) (d : Node) → i < length ns → e.node ≡ get_or ns i d → next ≡ now ++ e ∷ [] → key_trees f now ≡ trees_at f (take i ns) → key_trees f next ≡ trees_at f (take (i + 1) ns)
keys_step f now next e ns i d lt own pushed h = ap (key_trees f) pushed ∙ keys_last f now e ∙ (λ j. h j ++ f (own j) ∷ []) ∙ sym (trees_more f ns i d lt)

pub trees_end : (f : Node → Tree) (ns : List Node) (i : ℕ) (ts : List Tree) → length ns ≤ i → ts ≡ trees_at f (take i ns) → ts ≡ trees_at f ns
trees_end f ns i ts le h = h ∙ ap (trees_at f) (take_all i ns le)

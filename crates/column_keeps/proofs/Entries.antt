-- Which expression an output column of an hstack takes, if any.
use Rattle.std.proofs.Common.{◌≡◌, ◌⊎◌, inl, inr, ℕ, zero, suc, ◌+◌, ◌<◌, Bool, true, false, not, ◌||◌, List, [], ◌∷◌, length, get_or, Option, Some, None, refl, sym, ap, ◌∙◌, arith}
use Rattle.std.specs.Prelude.{if◌then◌else◌}
use Rattle.std.specs.List.{AllByRecursion}
use Rattle.std.specs.Str.{bytes_eq}
use Rattle.std.specs.Cmp.Lexicographic.{bytes_decides}
use Rattle.std.proofs.lemmas.Option.{same_Some}
use Rattle.ps_frame.proofs.Lists.{both}
use Rattle.ps_frame.specs.Frames.{has_distinct_names, has_name}
use Rattle.ps_frame.specs.Tables.{Fields, field_kind}
use Rattle.ps_frame.specs.Trees.{Tree}
use Rattle.ps_frame.specs.Typing.{kind_over}
use Rattle.ps_frame.specs.declared.value.DataType.{DataType}
use Rattle.ps_meaning.specs.Cases.{hstack_place}
use Rattle.ps_meaning.specs.Schemas.{both as both_of, expr_names, fields_of, put_field, put_fields}
use Rattle.ps_meaning.specs.Steps.{Name, Named, exprs_of}
use Rattle.ps_meaning.proofs.HStackFits.{put-all}
use Rattle.ps_meaning.proofs.StepFits.{apart, not-true, or-parts, own-kinds, same-name}
use Rattle.ps_rules.specs.Slots.{under}
use Rattle.plan_rules.specs.Nodes.{expr_or_column}

abbrev pub next : Option ℕ → Option ℕ
next None = None
next (Some m) = Some (suc m)

-- the first expression of a name
abbrev pub index_of : Name → List Named → Option ℕ
index_of n [] = None
index_of n (e ∷ es) = if bytes_eq n e.0 then Some 0 else next (index_of n es)

-- what is at the index, or else
abbrev pub at_or : {A : Type 0} → (ℕ → A) → A → Option ℕ → A
at_or f d None = d
at_or f d (Some m) = f m

flipped : (a b : Name) (t : Bool) → bytes_eq a b ≡ t → bytes_eq b a ≡ t
flipped a b true h = (bytes_decides b a).1 (sym ((bytes_decides a b).0 h))
flipped a b false h = apart a b h

pub place_is : (n : Name) (es : List Named) (w p : ℕ) → hstack_place w es n p ≡ at_or (λ m. w + m) p (index_of n es)
place_is n [] w p = refl
place_is n (e ∷ es) w p = by (bytes_eq n e.0) (place_is n es (w + 1) p)
  where
    shift : (o : Option ℕ) → at_or (λ m. (w + 1) + m) p o ≡ at_or (λ m. w + m) p (next o)
    shift None = refl
    shift (Some m) = omega arith

    by : (b : Bool) → hstack_place (w + 1) es n p ≡ at_or (λ m. (w + 1) + m) p (index_of n es) → (if b then w else hstack_place (w + 1) es n p) ≡ at_or (λ m. w + m) p (if b then Some 0 else next (index_of n es))
    by true h = omega arith
    by false h = h ∙ shift (index_of n es)

pub expr_is : (n : Name) (es : List Named) (xs : List Tree) → length xs ≡ length es → expr_or_column (under (expr_names es) xs) n ≡ at_or (λ m. get_or xs m Tree.missing) (Tree.column n) (index_of n es)
expr_is n [] xs l = refl
expr_is n (e ∷ es) [] l = absurd (omega (arith, l))
expr_is n (e ∷ es) (x ∷ xs) l = by (bytes_eq n e.0) refl (expr_is n es xs (omega (arith, l)))
  where
    shift : (o : Option ℕ) → at_or (λ m. get_or xs m Tree.missing) (Tree.column n) o ≡ at_or (λ m. get_or (x ∷ xs) m Tree.missing) (Tree.column n) (next o)
    shift None = refl
    shift (Some m) = refl

    by : (b : Bool) → bytes_eq n e.0 ≡ b → expr_or_column (under (expr_names es) xs) n ≡ at_or (λ m. get_or xs m Tree.missing) (Tree.column n) (index_of n es)
        → (if bytes_eq e.0 n then x else expr_or_column (under (expr_names es) xs) n) ≡ at_or (λ m. get_or (x ∷ xs) m Tree.missing) (Tree.column n) (if b then Some 0 else next (index_of n es))
    by true q h = ap (λ b. if b then x else expr_or_column (under (expr_names es) xs) n) (flipped n e.0 true q)
    by false q h = ap (λ b. if b then x else expr_or_column (under (expr_names es) xs) n) (flipped n e.0 false q) ∙ h ∙ shift (index_of n es)

-- a field of the expressions: some expression has its name, and the kind
pub record Found (n : Name) (es : List Named) (s : Fields) (k : DataType) : Type 0 where
  pub m : ℕ
  pub is : index_of n es ≡ Some m
  pub inside : m < length es
  pub kind : kind_over s (get_or (exprs_of es) m Tree.missing) ≡ Some k

-- of the other expressions
abbrev FoundLater : Name → List Named → Fields → DataType → Type 0
FoundLater n es s k = (rest : Fields) → fields_of es s ≡ Some rest → field_kind n rest ≡ Some k → Found n es s k

found : (n : Name) (es : List Named) (s gs : Fields) (k : DataType) → fields_of es s ≡ Some gs → field_kind n gs ≡ Some k → Found n es s k
found n [] s gs k e h = let none : gs ≡ [] = sym (same_Some [] gs e) in let h' : field_kind n [] ≡ Some k = ap (field_kind n) (sym none) ∙ h in cc
found n (x ∷ es) s gs k e h = by (kind_over s x.1) refl (fields_of es s) refl e (λ rest r h'. found n es s rest k r h')
  where
    last : FoundLater n es s k → (j : DataType) (rest : Fields) → kind_over s x.1 ≡ Some j → fields_of es s ≡ Some rest → (b : Bool) → bytes_eq n x.0 ≡ b → (if bytes_eq n x.0 then Some j else field_kind n rest) ≡ Some k → Found n (x ∷ es) s k
    last rec j rest kind r true q h' =
        let is : j ≡ k = same_Some j k (sym (ap (λ b. if b then Some j else field_kind n rest) q) ∙ h') in
        record { m = 0; is = ap (λ b. if b then Some 0 else next (index_of n es)) q; inside = omega arith; kind = kind ∙ ap Some is }
    last rec j rest kind r false q h' =
        let f = rec rest r (sym (ap (λ b. if b then Some j else field_kind n rest) q) ∙ h') in
        let lt = f.inside in
        record { m = suc f.m; is = ap (λ b. if b then Some 0 else next (index_of n es)) q ∙ ap next f.is; inside = omega arith; kind = f.kind }

    by : (o : Option DataType) → kind_over s x.1 ≡ o → (r : Option Fields) → fields_of es s ≡ r → both_of (λ (k : DataType) (gs : Fields). (x.0, k) ∷ gs) o r ≡ Some gs → FoundLater n es s k → Found n (x ∷ es) s k
    by None q None r e' rec = cc
    by None q (Some rest) r e' rec = cc
    by (Some j) q None r e' rec = cc
    by (Some j) q (Some rest) r e' rec = last rec j rest q r (bytes_eq n x.0) refl (ap (field_kind n) (same_Some ((x.0, j) ∷ rest) gs e') ∙ h)

not_found : (n : Name) (es : List Named) (s gs : Fields) → fields_of es s ≡ Some gs → has_name n gs ≡ false → index_of n es ≡ None
not_found n [] s gs e h = refl
not_found n (x ∷ es) s gs e h = by (kind_over s x.1) (fields_of es s) refl e (λ rest r h'. not_found n es s rest r h')
  where
    by : (o : Option DataType) (r : Option Fields) → fields_of es s ≡ r → both_of (λ (k : DataType) (gs : Fields). (x.0, k) ∷ gs) o r ≡ Some gs → ((rest : Fields) → fields_of es s ≡ Some rest → has_name n rest ≡ false → index_of n es ≡ None) → index_of n (x ∷ es) ≡ None
    by None None r e' rec = cc
    by None (Some rest) r e' rec = cc
    by (Some j) None r e' rec = cc
    by (Some j) (Some rest) r e' rec =
        let parts = or-parts (bytes_eq n x.0) (has_name n rest) (ap (has_name n) (same_Some ((x.0, j) ∷ rest) gs e') ∙ h) in
        ap (λ b. if b then Some 0 else next (index_of n es)) parts.0 ∙ ap next (rec rest r parts.1)

-- What an output field is: an expression's, of that kind, or the input's own.
abbrev pub Entry : List Named → Fields → Name × DataType → Type 0
Entry es s f = Found f.0 es s f.1 ⊎ ((index_of f.0 es ≡ None) × (field_kind f.0 s ≡ Some f.1))

pub entries : (es : List Named) (s gs : Fields) → fields_of es s ≡ Some gs → has_distinct_names s ≡ true → has_distinct_names gs ≡ true → AllByRecursion (Entry es s) (put_fields s gs)
entries es s gs e ds dg = put-all (Entry es s) s gs (news gs (own-kinds gs dg)) ds (olds s (own-kinds s ds))
  where
    news : (fs : Fields) → AllByRecursion (λ (f : Name × DataType). field_kind f.0 gs ≡ Some f.1) fs → AllByRecursion (Entry es s) fs
    news [] own = tt
    news (f ∷ fs) own = (inl (found f.0 es s gs f.1 e own.0), news fs own.1)

    olds : (fs : Fields) → AllByRecursion (λ (f : Name × DataType). field_kind f.0 s ≡ Some f.1) fs → AllByRecursion (λ (f : Name × DataType). has_name f.0 gs ≡ false → Entry es s f) fs
    olds [] own = tt
    olds (f ∷ fs) own = ((λ away. inr (not_found f.0 es s gs e away, own.0)), olds fs own.1)

-- which names are among the output's
put_own : (n : Name) (f : Name × DataType) (s : Fields) → bytes_eq n f.0 ≡ true → has_name n (put_field f s) ≡ true
put_own n f [] h = ap (λ b. b || false) h
put_own n f (g ∷ gs) h = by (bytes_eq f.0 g.0) (put_own n f gs h)
  where
    right : (a b : Bool) → b ≡ true → (a || b) ≡ true
    right true b h = refl
    right false b h = h

    by : (b : Bool) → has_name n (put_field f gs) ≡ true → has_name n (if b then f ∷ gs else g ∷ put_field f gs) ≡ true
    by true rec = ap (λ b. b || has_name n gs) h
    by false rec = right (bytes_eq n g.0) (has_name n (put_field f gs)) rec

put_other : (n : Name) (f : Name × DataType) (s : Fields) → has_name n s ≡ true → has_name n (put_field f s) ≡ true
put_other n f [] h = cc
put_other n f (g ∷ gs) h = by (bytes_eq f.0 g.0) refl (bytes_eq n g.0) refl h (put_other n f gs)
  where
    right : (a b : Bool) → b ≡ true → (a || b) ≡ true
    right true b h = refl
    right false b h = h

    by : (b : Bool) → bytes_eq f.0 g.0 ≡ b → (t : Bool) → bytes_eq n g.0 ≡ t → (bytes_eq n g.0 || has_name n gs) ≡ true → (has_name n gs ≡ true → has_name n (put_field f gs) ≡ true) → has_name n (if b then f ∷ gs else g ∷ put_field f gs) ≡ true
    by true q true p h rec = let same : f.0 ≡ g.0 = (bytes_decides f.0 g.0).0 q in ap (λ m. bytes_eq n m || has_name n gs) same ∙ ap (λ b. b || has_name n gs) p
    by true q false p h rec = right (bytes_eq n f.0) (has_name n gs) (sym (ap (λ b. b || has_name n gs) p) ∙ h)
    by false q true p h rec = ap (λ b. b || has_name n (put_field f gs)) p
    by false q false p h rec = ap (λ b. b || has_name n (put_field f gs)) p ∙ rec (sym (ap (λ b. b || has_name n gs) p) ∙ h)

pub put_keeps : (n : Name) (fs s : Fields) → has_name n s ≡ true → has_name n (put_fields s fs) ≡ true
put_keeps n [] s h = h
put_keeps n (f ∷ fs) s h = put_keeps n fs (put_field f s) (put_other n f s h)

pub put_has : (n : Name) (fs s : Fields) → has_name n fs ≡ true → has_name n (put_fields s fs) ≡ true
put_has n [] s h = cc
put_has n (f ∷ fs) s h = by (bytes_eq n f.0) refl h (put_has n fs (put_field f s))
  where
    by : (b : Bool) → bytes_eq n f.0 ≡ b → (bytes_eq n f.0 || has_name n fs) ≡ true → (has_name n fs ≡ true → has_name n (put_fields (put_field f s) fs) ≡ true) → has_name n (put_fields (put_field f s) fs) ≡ true
    by true q h rec = put_keeps n fs (put_field f s) (put_own n f s q)
    by false q h rec = rec (sym (ap (λ b. b || has_name n fs) q) ∙ h)

abbrev OwnLater : List Named → Fields → Type 0
OwnLater es s = (rest : Fields) → fields_of es s ≡ Some rest → has_distinct_names rest ≡ true → (m : ℕ) → m < length es → index_of (get_or es m ([], Tree.missing)).0 es ≡ Some m

-- the expression at a place is the first of its name, where names differ
pub own_index : (es : List Named) (gs s : Fields) → fields_of es s ≡ Some gs → has_distinct_names gs ≡ true → (m : ℕ) → m < length es → index_of (get_or es m ([], Tree.missing)).0 es ≡ Some m
own_index [] gs s e d m lt = absurd (omega arith)
own_index (x ∷ es) gs s e d m lt = by (kind_over s x.1) (fields_of es s) refl e (λ rest r d' m' lt'. own_index es rest s r d' m' lt')
  where
    first : OwnLater es s → (m : ℕ) → (rest : Fields) → fields_of es s ≡ Some rest → has_name x.0 rest ≡ false → has_distinct_names rest ≡ true → m < suc (length es) → index_of (get_or (x ∷ es) m ([], Tree.missing)).0 (x ∷ es) ≡ Some m
    first rec zero rest r away d lt = ap (λ b. if b then Some 0 else next (index_of x.0 es)) (same-name x.0)
    first rec (suc m) rest r away d lt =
        by_name (bytes_eq (get_or es m ([], Tree.missing)).0 x.0) refl
      where
        by_name : (b : Bool) → bytes_eq (get_or es m ([], Tree.missing)).0 x.0 ≡ b → index_of (get_or es m ([], Tree.missing)).0 (x ∷ es) ≡ Some (suc m)
        by_name true q =
            let same = (bytes_decides (get_or es m ([], Tree.missing)).0 x.0).0 q in
            let inside : m < length es = omega arith in
            let none = not_found x.0 es s rest r away in
            let some = ap (λ n. index_of n es) (sym same) ∙ rec rest r d m inside in
            let w : None ≡ Some m = sym none ∙ some in
            cc
        by_name false q = let inside : m < length es = omega arith in ap (λ b. if b then Some 0 else next (index_of (get_or es m ([], Tree.missing)).0 es)) q ∙ ap next (rec rest r d m inside)

    by : (o : Option DataType) (r : Option Fields) → fields_of es s ≡ r → both_of (λ (k : DataType) (gs : Fields). (x.0, k) ∷ gs) o r ≡ Some gs → OwnLater es s → index_of (get_or (x ∷ es) m ([], Tree.missing)).0 (x ∷ es) ≡ Some m
    by None None r e' rec = cc
    by None (Some rest) r e' rec = cc
    by (Some j) None r e' rec = cc
    by (Some j) (Some rest) r e' rec =
        let is = same_Some ((x.0, j) ∷ rest) gs e' in
        let parts = both (not (has_name x.0 rest)) (has_distinct_names rest) (ap has_distinct_names is ∙ d) in
        first rec m rest r (not-true (has_name x.0 rest) parts.0) parts.1 lt

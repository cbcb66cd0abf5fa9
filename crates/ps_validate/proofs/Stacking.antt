-- Fields that are put into a schema: with their kinds in the place of equal names, and the others behind.
use Rattle.std.proofs.Common.{◌≡◌, [], ◌∷◌, ◌++◌, Bool, true, false, refl, sym, ◌∙◌, ap, append_assoc}
use Rattle.std.specs.Prelude.{not, ◌&&◌, ◌||◌, if◌then◌else◌, IsTrue, Some, unwrap_or}
use Rattle.std.specs.Str.{bytes_eq}
use Rattle.std.specs.Cmp.{nat_eq_equiv}
use Rattle.std.specs.Cmp.Lexicographic.{lists_equiv}
use Rattle.std.proofs.lemmas.Bool.{and_parts}
use Rattle.std.proofs.lemmas.List.{append-nil, map-append}
use Rattle.std.proofs.lemmas.Slice.Eq.{bytes_eq-Decides}
use Rattle.ps_frame.proofs.Names.{distinct-append}
use Rattle.ps_frame.specs.Frames.{has_distinct_names, has_name}
use Rattle.ps_frame.specs.Tables.{Fields, field_kind}
use Rattle.ps_frame.specs.declared.value.DataType.{DataType}
use Rattle.ps_meaning.specs.Schemas.{is_among, names_of, put_field, put_fields}
use Rattle.ps_meaning.specs.Steps.{Name}
use Rattle.valid_plans.proofs.Adding.{among-has}
use Rattle.ps_validate.proofs.Naming.{lacking}
use Rattle.ps_validate.specs.Columns.{absent_from, with_kinds}

pub not-there : (b : Bool) → not b ≡ true → b ≡ false
not-there true q = sym q
not-there false q = refl

pub apart : (a b : Bool) → (a || b) ≡ false → (a ≡ false) × (b ≡ false)
apart true b h = cc
apart false b h = (refl, h)

same-way : (n m : Name) → bytes_eq n m ≡ bytes_eq m n
same-way n m = (lists_equiv nat_eq_equiv).symm n m

-- schemas of the same names have the same names
has-same : (n : Name) (s t : Fields) → names_of s ≡ names_of t → has_name n s ≡ has_name n t
has-same n s t h = sym (among-has n s) ∙ ap (λ ns. is_among n ns) h ∙ among-has n t

first-same : (f g : Name × DataType) (s t : Fields) → names_of (f ∷ s) ≡ names_of (g ∷ t) → f.0 ≡ g.0
first-same f g s t h = cc

later-same : (f g : Name × DataType) (s t : Fields) → names_of (f ∷ s) ≡ names_of (g ∷ t) → names_of s ≡ names_of t
later-same f g s t h = cc

distinct-same : (s t : Fields) → names_of s ≡ names_of t → has_distinct_names s ≡ has_distinct_names t
distinct-same [] [] h = refl
distinct-same [] (g ∷ t) h = cc
distinct-same (f ∷ s) [] h = cc
distinct-same (f ∷ s) (g ∷ t) h =
    ap (λ n. not (has_name n s) && has_distinct_names s) (first-same f g s t h) ∙ ap (λ b. not b && has_distinct_names s) (has-same g.0 s t (later-same f g s t h))
    ∙ ap (λ b. not (has_name g.0 t) && b) (distinct-same s t (later-same f g s t h))

-- a field whose name stands takes its place
put-names : (f : Name × DataType) (s : Fields) → has_name f.0 s ≡ true → names_of (put_field f s) ≡ names_of s
put-names f [] h = cc
put-names f (g ∷ gs) h = by (bytes_eq f.0 g.0) refl h (λ q. put-names f gs q)
  where
    by : (b : Bool) → bytes_eq f.0 g.0 ≡ b → (b || has_name f.0 gs) ≡ true → (has_name f.0 gs ≡ true → names_of (put_field f gs) ≡ names_of gs) → names_of (if b then f ∷ gs else g ∷ put_field f gs) ≡ names_of (g ∷ gs)
    by true e h r = ap (λ n. n ∷ names_of gs) ((bytes_eq-Decides f.0 g.0).0 e)
    by false e h r = ap (λ ns. g.0 ∷ ns) (r h)

-- and else the last one
put-last : (f : Name × DataType) (s : Fields) → has_name f.0 s ≡ false → put_field f s ≡ s ++ f ∷ []
put-last f [] h = refl
put-last f (g ∷ gs) h =
    let p = apart (bytes_eq f.0 g.0) (has_name f.0 gs) h in ap (λ b. if b then f ∷ gs else g ∷ put_field f gs) p.0 ∙ ap (λ fs. g ∷ fs) (put-last f gs p.1)

-- a kind of an absent name counts for nothing
kinds-without : (f : Name × DataType) (fs s : Fields) → has_name f.0 s ≡ false → with_kinds (f ∷ fs) s ≡ with_kinds fs s
kinds-without f fs [] h = refl
kinds-without f fs (g ∷ gs) h =
    let p = apart (bytes_eq f.0 g.0) (has_name f.0 gs) h in
    ap (λ b. (g.0, unwrap_or (if b then Some f.1 else field_kind g.0 fs) g.1) ∷ with_kinds (f ∷ fs) gs) (same-way g.0 f.0 ∙ p.0) ∙ ap (λ rest. (g.0, unwrap_or (field_kind g.0 fs) g.1) ∷ rest) (kinds-without f fs gs p.1)

own-kind : (f : Name × DataType) (fs : Fields) → has_name f.0 fs ≡ false → unwrap_or (field_kind f.0 fs) f.1 ≡ f.1
own-kind f fs h = ap (λ o. unwrap_or o f.1) (lacking f.0 fs h)

kinds-put : (f : Name × DataType) (fs s : Fields) → IsTrue (has_distinct_names s) → has_name f.0 fs ≡ false → has_name f.0 s ≡ true → with_kinds fs (put_field f s) ≡ with_kinds (f ∷ fs) s
kinds-put f fs [] d a h = cc
kinds-put f fs (g ∷ gs) d a h = by (bytes_eq f.0 g.0) refl h (λ q. kinds-put f fs gs (and_parts (not (has_name g.0 gs)) (has_distinct_names gs) d).1 a q)
  where
    parts : (not (has_name g.0 gs) ≡ true) × (has_distinct_names gs ≡ true)
    parts = and_parts (not (has_name g.0 gs)) (has_distinct_names gs) d

    by : (b : Bool) → bytes_eq f.0 g.0 ≡ b → (b || has_name f.0 gs) ≡ true → (has_name f.0 gs ≡ true → with_kinds fs (put_field f gs) ≡ with_kinds (f ∷ fs) gs) → with_kinds fs (if b then f ∷ gs else g ∷ put_field f gs) ≡ (g.0, unwrap_or (if bytes_eq g.0 f.0 then Some f.1 else field_kind g.0 fs) g.1) ∷ with_kinds (f ∷ fs) gs
    by true e h r =
        let same : f.0 ≡ g.0 = (bytes_eq-Decides f.0 g.0).0 e in
        let gone : has_name f.0 gs ≡ false = ap (λ n. has_name n gs) same ∙ not-there (has_name g.0 gs) parts.0 in
        ap (λ k. (f.0, k) ∷ with_kinds fs gs) (own-kind f fs a) ∙ ap (λ n. (n, f.1) ∷ with_kinds fs gs) same ∙ ap (λ rest. (g.0, f.1) ∷ rest) (sym (kinds-without f fs gs gone))
        ∙ ap (λ b. (g.0, unwrap_or (if b then Some f.1 else field_kind g.0 fs) g.1) ∷ with_kinds (f ∷ fs) gs) (sym (same-way g.0 f.0 ∙ e))
    by false e h r =
        ap (λ rest. (g.0, unwrap_or (field_kind g.0 fs) g.1) ∷ rest) (r h)
        ∙ ap (λ b. (g.0, unwrap_or (if b then Some f.1 else field_kind g.0 fs) g.1) ∷ with_kinds (f ∷ fs) gs) (sym (same-way g.0 f.0 ∙ e))

-- which fields are absent depends on the names alone
absent-same : (s t fs : Fields) → names_of s ≡ names_of t → absent_from s fs ≡ absent_from t fs
absent-same s t [] h = refl
absent-same s t (f ∷ fs) h =
    ap (λ b. if not b then f ∷ absent_from s fs else absent_from s fs) (has-same f.0 s t h) ∙ ap (λ gs. if not (has_name f.0 t) then f ∷ gs else gs) (absent-same s t fs h)

has-last : (n : Name) (s : Fields) (f : Name × DataType) → bytes_eq n f.0 ≡ false → has_name n (s ++ f ∷ []) ≡ has_name n s
has-last n [] f h = ap (λ b. b || false) h
has-last n (g ∷ gs) f h = ap (λ b. bytes_eq n g.0 || b) (has-last n gs f h)

absent-last : (s fs : Fields) (f : Name × DataType) → has_name f.0 fs ≡ false → absent_from (s ++ f ∷ []) fs ≡ absent_from s fs
absent-last s [] f h = refl
absent-last s (g ∷ gs) f h =
    let p = apart (bytes_eq f.0 g.0) (has_name f.0 gs) h in
    ap (λ b. if not b then g ∷ absent_from (s ++ f ∷ []) gs else absent_from (s ++ f ∷ []) gs) (has-last g.0 s f (same-way g.0 f.0 ∙ p.0)) ∙ ap (λ hs. if not (has_name g.0 s) then g ∷ hs else hs) (absent-last s gs f p.1)

kinds-none : (s : Fields) → with_kinds [] s ≡ s
kinds-none [] = refl
kinds-none (g ∷ gs) = ap (λ rest. g ∷ rest) (kinds-none gs)

-- the fields that are put one after another, all at once
pub put-all : (fs s : Fields) → IsTrue (has_distinct_names fs) → IsTrue (has_distinct_names s) → put_fields s fs ≡ with_kinds fs s ++ absent_from s fs
put-all [] s df ds = sym (append-nil (with_kinds [] s) ∙ kinds-none s)
put-all (f ∷ fs) s df ds = by (has_name f.0 s) refl (λ t d. put-all fs t (and_parts (not (has_name f.0 fs)) (has_distinct_names fs) df).1 d)
  where
    parts : (not (has_name f.0 fs) ≡ true) × (has_distinct_names fs ≡ true)
    parts = and_parts (not (has_name f.0 fs)) (has_distinct_names fs) df

    away : has_name f.0 fs ≡ false
    away = not-there (has_name f.0 fs) parts.0

    by : (b : Bool) → has_name f.0 s ≡ b → ((t : Fields) → IsTrue (has_distinct_names t) → put_fields t fs ≡ with_kinds fs t ++ absent_from t fs) → put_fields (put_field f s) fs ≡ with_kinds (f ∷ fs) s ++ (if not (has_name f.0 s) then f ∷ absent_from s fs else absent_from s fs)
    by true e r =
        r (put_field f s) (distinct-same (put_field f s) s (put-names f s e) ∙ ds)
        ∙ ap (λ gs. gs ++ absent_from (put_field f s) fs) (kinds-put f fs s ds away e)
        ∙ ap (λ gs. with_kinds (f ∷ fs) s ++ gs) (absent-same (put_field f s) s fs (put-names f s e))
        ∙ ap (λ b. with_kinds (f ∷ fs) s ++ (if not b then f ∷ absent_from s fs else absent_from s fs)) (sym e)
    by false e r =
        let last = put-last f s e in
        ap (λ t. put_fields t fs) last
        ∙ r (s ++ f ∷ []) (distinct-append s f ds e)
        ∙ ap (λ gs. gs ++ absent_from (s ++ f ∷ []) fs) (map-append (λ (g : Name × DataType). (g.0, unwrap_or (field_kind g.0 fs) g.1)) s (f ∷ []) ∙ ap (λ k. with_kinds fs s ++ (f.0, k) ∷ []) (own-kind f fs away))
        ∙ append_assoc (with_kinds fs s) (f ∷ []) (absent_from (s ++ f ∷ []) fs)
        ∙ ap (λ gs. with_kinds fs s ++ f ∷ gs) (absent-last s fs f away)
        ∙ ap (λ gs. gs ++ f ∷ absent_from s fs) (sym (kinds-without f fs s e))
        ∙ ap (λ b. with_kinds (f ∷ fs) s ++ (if not b then f ∷ absent_from s fs else absent_from s fs)) (sym e)

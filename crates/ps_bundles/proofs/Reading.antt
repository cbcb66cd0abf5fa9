-- Names that expressions read, and fields that are found by their names.
use Rattle.std.proofs.Common.{◌≡◌, ◌⊎◌, inl, inr, Bool, true, false, not, cond, List, [], ◌∷◌, ◌++◌, Some, None, refl, sym, ap, ◌∙◌}
use Rattle.std.specs.Prelude.{IsTrue, Option, is_some, ◌&&◌, ◌||◌}
use Rattle.std.specs.Cmp.Lexicographic.{bytes_decides}
use Rattle.std.specs.List.{AllByRecursion, list_any}
use Rattle.std.specs.Str.{bytes_eq}
use Rattle.std.proofs.lemmas.List.Folds.{list_any-append}
use Rattle.ps_frame.specs.Causes.{Column}
use Rattle.ps_frame.specs.Frames.{has_distinct_names, has_name}
use Rattle.ps_frame.specs.Tables.{Fields, field_kind}
use Rattle.ps_frame.specs.Trees.{Tree}
use Rattle.ps_frame.specs.Typing.{goes_by_cell, is_elementwise, is_independent}
use Rattle.ps_frame.specs.declared.value.DataType.{DataType}
use Rattle.ps_meaning.specs.Schemas.{both, is_among, named_fields, names_of}
use Rattle.ps_meaning.specs.Steps.{Name}
use Rattle.ps_rules.specs.Names.{Names}
use Rattle.ps_shares.specs.Leaves.{AtLeaves, Naming, ReadsAll, all_leaves, leaves}
use Rattle.ps_shares.proofs.Ends.{has_first}
use Rattle.ps_shares.proofs.FlatLength.{both_hold}
use Rattle.ps_shares.proofs.Members.{Has}
use Rattle.ps_shares.proofs.Named.{at_leaf, or_cases}
use Rattle.ps_shares.proofs.Projected.{kind_as, named_as}
use Rattle.ps_shares.proofs.Stands.{Read, reads_at}
use Rattle.ps_bundles.proofs.Gathered.{has_last}
use Rattle.ps_bundles.proofs.ZipEnds.{differ}

pub or_first : (a b : Bool) → a ≡ true → (a || b) ≡ true
or_first a b h = ap (λ c. c || b) h

pub or_last : (a b : Bool) → b ≡ true → (a || b) ≡ true
or_last true b h = refl
or_last false b h = h

-- an elementwise expression that isn't independent of its input reads a name
module _ (env : Naming) (P : Name → Type 0) where
  abbrev Reads : List Column → Type 0
  Reads cs = (n : Name) × P n × Has cs (env n)

  onto_first : (xs ys : List Column) → Reads xs → Reads (xs ++ ys)
  onto_first xs ys (n, p, h) = (n, p, has_first xs ys (env n) h)

  onto_last : (xs ys : List Column) → Reads ys → Reads (xs ++ ys)
  onto_last xs ys (n, p, h) = (n, p, has_last xs ys (env n) h)

  pub some_name : (e : Tree) → IsTrue (is_elementwise e) → is_independent e ≡ false → AtLeaves P e → Reads (leaves env e)
  some_name (Tree.column name) h i k = (name, k, inl refl)
  some_name (Tree.literal l) h i k = absurd (differ i)
  some_name (Tree.binary o l r) h i k = by (some_name l b.0) (some_name r b.1) (or_cases (is_independent l) (is_independent r) i)
    where
      b : (is_elementwise l ≡ true) × (is_elementwise r ≡ true)
      b = both_hold (is_elementwise l) (is_elementwise r) h

      by : (is_independent l ≡ false → AtLeaves P l → Reads (leaves env l)) → (is_independent r ≡ false → AtLeaves P r → Reads (leaves env r)) → (is_independent l ≡ false) ⊎ (is_independent r ≡ false) → Reads (leaves env l ++ (leaves env r ++ []))
      by L R (inl q) = onto_first (leaves env l) (leaves env r ++ []) (L q k.0)
      by L R (inr q) = onto_last (leaves env l) (leaves env r ++ []) (onto_first (leaves env r) [] (R q k.1))
  some_name (Tree.cast c strict e) h i k = onto_first (leaves env e) [] (some_name e h i k)
  some_name (Tree.ternary p a b) h i k = by (some_name p u.0) (some_name a v.0) (some_name b v.1) (or_cases (is_independent p) (is_independent a && is_independent b) i)
    where
      u : (is_elementwise p ≡ true) × ((is_elementwise a && is_elementwise b) ≡ true)
      u = both_hold (is_elementwise p) (is_elementwise a && is_elementwise b) h

      v : (is_elementwise a ≡ true) × (is_elementwise b ≡ true)
      v = both_hold (is_elementwise a) (is_elementwise b) u.1

      by : (is_independent p ≡ false → AtLeaves P p → Reads (leaves env p)) → (is_independent a ≡ false → AtLeaves P a → Reads (leaves env a)) → (is_independent b ≡ false → AtLeaves P b → Reads (leaves env b))
          → (is_independent p ≡ false) ⊎ ((is_independent a && is_independent b) ≡ false) → Reads (leaves env p ++ (leaves env a ++ (leaves env b ++ [])))
      by X Y Z (inl q) = onto_first (leaves env p) (leaves env a ++ (leaves env b ++ [])) (X q k.0)
      by X Y Z (inr q) = onto_last (leaves env p) (leaves env a ++ (leaves env b ++ [])) (more (or_cases (is_independent a) (is_independent b) q))
        where
          more : (is_independent a ≡ false) ⊎ (is_independent b ≡ false) → Reads (leaves env a ++ (leaves env b ++ []))
          more (inl r) = onto_first (leaves env a) (leaves env b ++ []) (Y r k.1)
          more (inr r) = onto_last (leaves env a) (leaves env b ++ []) (onto_first (leaves env b) [] (Z r k.2))
  some_name (Tree.function g e) h i k = onto_first (leaves env e) [] (some_name e (both_hold (goes_by_cell g) (is_elementwise e) h).1 i k)
  some_name (Tree.sort d n e) h i k = absurd (differ (sym h))
  some_name (Tree.sort_by d n e by) h i k = absurd (differ (sym h))
  some_name (Tree.gather s e x) h i k = absurd (differ (sym h))
  some_name (Tree.filter e by) h i k = absurd (differ (sym h))
  some_name (Tree.aggregate a e) h i k = absurd (differ (sym h))
  some_name (Tree.slice e o l) h i k = absurd (differ (sym h))
  some_name Tree.len h i k = absurd (differ (sym h))
  some_name (Tree.left_out w) h i k = absurd (differ (sym h))
  some_name Tree.missing h i k = absurd (differ (sym h))

  pub some_name_of_all : (es : List Tree) → AllByRecursion (λ e. IsTrue (is_elementwise e)) es → list_any (λ e. not (is_independent e)) es ≡ true → AllByRecursion (AtLeaves P) es → Reads (all_leaves env es)
  some_name_of_all [] all h k = absurd (differ (sym h))
  some_name_of_all (e ∷ es) all h k = by (is_independent e) refl (λ q. some_name_of_all es all.1 q k.1)
    where
      by : (b : Bool) → is_independent e ≡ b → (list_any (λ e. not (is_independent e)) es ≡ true → Reads (all_leaves env es)) → Reads (leaves env e ++ all_leaves env es)
      by false q rest = onto_first (leaves env e) (all_leaves env es) (some_name e all.0 q k.0)
      by true q rest = onto_last (leaves env e) (all_leaves env es) (rest (sym (ap (λ b. not b || list_any (λ e. not (is_independent e)) es) q) ∙ h))

-- one that is independent reads none
pub reads_none : (P : Name → Type 0) (e : Tree) → is_independent e ≡ true → AtLeaves P e
reads_none P (Tree.column name) h = absurd (differ (sym h))
reads_none P (Tree.literal l) h = tt
reads_none P (Tree.binary o l r) h = let b = both_hold (is_independent l) (is_independent r) h in (reads_none P l b.0, reads_none P r b.1)
reads_none P (Tree.cast k strict e) h = reads_none P e h
reads_none P (Tree.ternary p a b) h =
    let u = both_hold (is_independent p) (is_independent a && is_independent b) h in
    let v = both_hold (is_independent a) (is_independent b) u.1 in
    (reads_none P p u.0, reads_none P a v.0, reads_none P b v.1)
reads_none P (Tree.function g e) h = reads_none P e h
reads_none P (Tree.sort d n e) h = tt
reads_none P (Tree.sort_by d n e by) h = tt
reads_none P (Tree.gather s e i) h = tt
reads_none P (Tree.filter e by) h = tt
reads_none P (Tree.aggregate a e) h = tt
reads_none P (Tree.slice e o l) h = tt
reads_none P Tree.len h = tt
reads_none P (Tree.left_out w) h = tt
reads_none P Tree.missing h = tt

-- what an expression reads at its leaves
pub at_leaves : (P : Name → Type 0) (names : Names) (e : Tree) → ReadsAll P e → AtLeaves P e
at_leaves P names e h = at_leaf (Read P names names) P by e (reads_at P names e h)
  where
    by : (n : Name) → Read P names names n → P n
    by n (inl p) = p
    by n (inr f) = absurd (f.0 f.1)

-- names in two lists
pub among_append : (n : Name) (xs ys : List Name) → is_among n (xs ++ ys) ≡ (is_among n xs || is_among n ys)
among_append n xs ys = list_any-append (bytes_eq n) xs ys

pub among_first : (n : Name) (xs ys : List Name) → is_among n xs ≡ true → is_among n (xs ++ ys) ≡ true
among_first n xs ys h = among_append n xs ys ∙ or_first (is_among n xs) (is_among n ys) h

pub among_last : (n : Name) (xs ys : List Name) → is_among n ys ≡ true → is_among n (xs ++ ys) ≡ true
among_last n xs ys h = among_append n xs ys ∙ or_last (is_among n xs) (is_among n ys) h

pub among_or : (n : Name) (xs ys : List Name) → is_among n (xs ++ ys) ≡ true → (is_among n xs ≡ true) ⊎ (is_among n ys ≡ true)
among_or n xs ys h = by (is_among n xs) refl (sym (among_append n xs ys) ∙ h)
  where
    by : (b : Bool) → is_among n xs ≡ b → (is_among n xs || is_among n ys) ≡ true → (is_among n xs ≡ true) ⊎ (is_among n ys ≡ true)
    by true q h = inl q
    by false q h = inr (sym (ap (λ b. b || is_among n ys) q) ∙ h)

-- where names differ, each field is found with its own kind
pub kinds_own : (s : Fields) → IsTrue (has_distinct_names s) → AllByRecursion (λ (f : Name × DataType). field_kind f.0 s ≡ Some f.1) s
kinds_own [] d = tt
kinds_own (f ∷ s) d = (ap (λ b. cond b (Some f.1) (field_kind f.0 s)) ((bytes_decides f.0 f.0).1 refl), later s (not_true (has_name f.0 s) b.0) (kinds_own s b.1))
  where
    b : (not (has_name f.0 s) ≡ true) × (has_distinct_names s ≡ true)
    b = both_hold (not (has_name f.0 s)) (has_distinct_names s) d

    not_true : (b : Bool) → not b ≡ true → b ≡ false
    not_true false h = refl
    not_true true h = absurd (differ (sym h))

    later : (fs : Fields) → has_name f.0 fs ≡ false → AllByRecursion (λ (g : Name × DataType). field_kind g.0 s ≡ Some g.1) fs → AllByRecursion (λ (g : Name × DataType). field_kind g.0 (f ∷ s) ≡ Some g.1) fs
    later [] none all = tt
    later (g ∷ fs) none all = (one (bytes_eq g.0 f.0) refl, later fs (rest (bytes_eq f.0 g.0) none) all.1)
      where
        rest : (b : Bool) → (b || has_name f.0 fs) ≡ false → has_name f.0 fs ≡ false
        rest false h = h
        rest true h = absurd (differ h)

        one : (b : Bool) → bytes_eq g.0 f.0 ≡ b → field_kind g.0 (f ∷ s) ≡ Some g.1
        one false q = ap (λ b. cond b (Some f.1) (field_kind g.0 s)) q ∙ all.0
        one true q =
            let e : f.0 ≡ g.0 = sym ((bytes_decides g.0 f.0).0 q) in
            absurd (differ (sym (or_first (bytes_eq f.0 g.0) (has_name f.0 fs) ((bytes_decides f.0 g.0).1 e)) ∙ none))

pub kind_there : (n : Name) (s : Fields) → is_among n (names_of s) ≡ true → (k : DataType) × (field_kind n s ≡ Some k)
kind_there n s h = by (field_kind n s) (kind_as n s ∙ sym (named_as n s) ∙ h)
  where
    by : (o : Option DataType) → is_some o ≡ true → (k : DataType) × (o ≡ Some k)
    by (Some k) h = (k, refl)
    by None h = absurd (differ (sym h))

-- the fields of names that stand in a schema
pub record HasFields (ns : List Name) (s : Fields) : Type 0 where
  pub fields : Fields
  pub found : named_fields ns s ≡ Some fields
  pub names : names_of fields ≡ ns
  pub kinds : (name : Name) → IsTrue (is_among name ns) → field_kind name fields ≡ field_kind name s

pub has_fields : (ns : List Name) (s : Fields) → AllByRecursion (λ n. is_among n (names_of s) ≡ true) ns → HasFields ns s
has_fields [] s all = record { fields = []; found = refl; names = refl; kinds = λ name h. absurd (differ (sym h)) }
has_fields (n ∷ ns) s all = by (kind_there n s all.0) (has_fields ns s all.1)
  where
    by : (k : DataType) × (field_kind n s ≡ Some k) → HasFields ns s → HasFields (n ∷ ns) s
    by (k, q) h =
        let f = h.found in
        record {
          fields = (n, k) ∷ h.fields;
          found = λ i. both (λ k fs. (n, k) ∷ fs) (q i) (f i);
          names = ap (λ ms. n ∷ ms) h.names;
          kinds = λ name among. one name (bytes_eq name n) refl among;
        }
      where
        one : (name : Name) (b : Bool) → bytes_eq name n ≡ b → (bytes_eq name n || is_among name ns) ≡ true → cond (bytes_eq name n) (Some k) (field_kind name h.fields) ≡ field_kind name s
        one name true r among = ap (λ b. cond b (Some k) (field_kind name h.fields)) r ∙ sym q ∙ ap (λ m. field_kind m s) (sym ((bytes_decides name n).0 r))
        one name false r among = ap (λ b. cond b (Some k) (field_kind name h.fields)) r ∙ h.kinds name (sym (ap (λ b. b || is_among name ns) r) ∙ among)

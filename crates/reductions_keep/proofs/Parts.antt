-- What aggregates are taken apart into: the reductions in them, in order, and the same expressions over columns of the reductions' names.
use Rattle.std.proofs.Common.{◌≡◌, inl, true, List, [], ◌∷◌, ◌++◌, refl, sym, ap, ◌∙◌}
use Rattle.std.proofs.lemmas.List.{append_assoc, append-nil, map-append}
use Rattle.std.specs.Prelude.{flat_map, fold, ⊤}
use Rattle.std.specs.List.{list_all}
use Rattle.ps_frame.specs.Trees.{Tree}
use Rattle.ps_frame.specs.Typing.{goes_by_cell}
use Rattle.ps_meaning.specs.Steps.{Name, Named, exprs_of}
use Rattle.ps_rowwise.proofs.ByRow.{both}
use Rattle.ps_rules.specs.Names.{Names}
use Rattle.ps_shares.proofs.Ends.{has_first}
use Rattle.ps_shares.proofs.Members.{Has}
use Rattle.ps_bundles.proofs.Gathered.{has_last}
use Rattle.plan_rules.specs.Reductions.{Apart, Split, aggregate_apart, is_made_of_reductions, taken_apart, with_aggregate}
use Rattle.reductions_keep.specs.Reduced.{reductions_in}
use Rattle.reductions_keep.proofs.Inside.{three}

-- the second expression is the first, with a column of a found name in the place of each reduction
abbrev pub IsApart : List Named → Tree → Tree → Type 0
IsApart found (Tree.aggregate a e) x = (n : Name) × (x ≡ Tree.column n) × Has found (n, Tree.aggregate a e)
IsApart found Tree.len x = (n : Name) × (x ≡ Tree.column n) × Has found (n, Tree.len)
IsApart found (Tree.literal l) x = x ≡ Tree.literal l
IsApart found (Tree.binary o l r) x = (a : Tree) × (b : Tree) × (x ≡ Tree.binary o a b) × IsApart found l a × IsApart found r b
IsApart found (Tree.cast k strict e) x = (a : Tree) × (x ≡ Tree.cast k strict a) × IsApart found e a
IsApart found (Tree.ternary p t f) x = (a : Tree) × (b : Tree) × (c : Tree) × (x ≡ Tree.ternary a b c) × IsApart found p a × IsApart found t b × IsApart found f c
IsApart found (Tree.function g e) x = (a : Tree) × (x ≡ Tree.function g a) × IsApart found e a
IsApart found _ x = ⊥

-- each of some aggregates, under its name
abbrev pub AreApart : List Named → List Named → List Named → Type 0
AreApart found [] [] = ⊤
AreApart found (e ∷ es) (x ∷ xs) = (x.0 ≡ e.0) × IsApart found e.1 x.1 × AreApart found es xs
AreApart found _ _ = ⊥

-- found expressions, and one more
one_more : (found : List Named) (n : Name) (e : Tree) → exprs_of (found ++ (n, e) ∷ []) ≡ exprs_of found ++ e ∷ []
one_more found n e = map-append (λ (m : Named). m.1) found ((n, e) ∷ [])

none_more : (found : List Named) → exprs_of found ≡ exprs_of found ++ []
none_more found = sym (append-nil (exprs_of found))

taken_adds : (e : Tree) (names : Names) (found : List Named) → exprs_of (taken_apart e names found).reductions ≡ exprs_of found ++ reductions_in e
taken_adds (Tree.aggregate a e) names found = one_more found _ (Tree.aggregate a e)
taken_adds Tree.len names found = one_more found _ Tree.len
taken_adds (Tree.binary o l r) names found =
    let x = taken_apart l names found in
    taken_adds r x.names x.reductions ∙ ap (λ (es : List Tree). es ++ reductions_in r) (taken_adds l names found) ∙ append_assoc (exprs_of found) (reductions_in l) (reductions_in r)
taken_adds (Tree.cast k strict e) names found = taken_adds e names found
taken_adds (Tree.ternary p a b) names found =
    let x = taken_apart p names found in
    let y = taken_apart a x.names x.reductions in
    taken_adds b y.names y.reductions ∙ ap (λ (es : List Tree). es ++ reductions_in b) (taken_adds a x.names x.reductions) ∙ append_assoc (exprs_of x.reductions) (reductions_in a) (reductions_in b)
    ∙ ap (λ (es : List Tree). es ++ (reductions_in a ++ reductions_in b)) (taken_adds p names found) ∙ append_assoc (exprs_of found) (reductions_in p) (reductions_in a ++ reductions_in b)
taken_adds (Tree.function g e) names found = taken_adds e names found
taken_adds (Tree.column name) names found = none_more found
taken_adds (Tree.literal l) names found = none_more found
taken_adds (Tree.sort d n e) names found = none_more found
taken_adds (Tree.sort_by d n e by) names found = none_more found
taken_adds (Tree.gather s e i) names found = none_more found
taken_adds (Tree.filter e by) names found = none_more found
taken_adds (Tree.slice e o l) names found = none_more found
taken_adds (Tree.left_out what) names found = none_more found
taken_adds Tree.missing names found = none_more found

-- what was found stays
taken_keeps : (e : Tree) (names : Names) (found : List Named) (m : Named) → Has found m → Has (taken_apart e names found).reductions m
taken_keeps (Tree.aggregate a e) names found m h = has_first found _ m h
taken_keeps Tree.len names found m h = has_first found _ m h
taken_keeps (Tree.binary o l r) names found m h = let x = taken_apart l names found in taken_keeps r x.names x.reductions m (taken_keeps l names found m h)
taken_keeps (Tree.cast k strict e) names found m h = taken_keeps e names found m h
taken_keeps (Tree.ternary p a b) names found m h =
    let x = taken_apart p names found in
    let y = taken_apart a x.names x.reductions in
    taken_keeps b y.names y.reductions m (taken_keeps a x.names x.reductions m (taken_keeps p names found m h))
taken_keeps (Tree.function g e) names found m h = taken_keeps e names found m h
taken_keeps (Tree.column name) names found m h = h
taken_keeps (Tree.literal l) names found m h = h
taken_keeps (Tree.sort d n e) names found m h = h
taken_keeps (Tree.sort_by d n e by) names found m h = h
taken_keeps (Tree.gather s e i) names found m h = h
taken_keeps (Tree.filter e by) names found m h = h
taken_keeps (Tree.slice e o l) names found m h = h
taken_keeps (Tree.left_out what) names found m h = h
taken_keeps Tree.missing names found m h = h

module _ (all : List Named) where
  abbrev pub AllIn : List Named → Type 0
  AllIn found = (m : Named) → Has found m → Has all m

  taken_is : (e : Tree) (names : Names) (found : List Named) → is_made_of_reductions e ≡ true → AllIn (taken_apart e names found).reductions → IsApart all e (taken_apart e names found).expr
  taken_is (Tree.aggregate a e) names found h inside = (_, refl, inside _ (has_last found _ _ (inl refl)))
  taken_is Tree.len names found h inside = (_, refl, inside _ (has_last found _ _ (inl refl)))
  taken_is (Tree.literal l) names found h inside = refl
  taken_is (Tree.binary o l r) names found h inside =
      let m = both (is_made_of_reductions l) (is_made_of_reductions r) h in
      let x = taken_apart l names found in
      let y = taken_apart r x.names x.reductions in
      (x.expr, y.expr, refl, taken_is l names found m.0 (λ k p. inside k (taken_keeps r x.names x.reductions k p)), taken_is r x.names x.reductions m.1 inside)
  taken_is (Tree.cast k strict e) names found h inside = ((taken_apart e names found).expr, refl, taken_is e names found h inside)
  taken_is (Tree.ternary p a b) names found h inside =
      let m = three (is_made_of_reductions p) (is_made_of_reductions a) (is_made_of_reductions b) h in
      let x = taken_apart p names found in
      let y = taken_apart a x.names x.reductions in
      let z = taken_apart b y.names y.reductions in
      let later : AllIn y.reductions = λ k q. inside k (taken_keeps b y.names y.reductions k q) in
      (x.expr, y.expr, z.expr, refl, taken_is p names found m.0 (λ k q. later k (taken_keeps a x.names x.reductions k q)), taken_is a x.names x.reductions m.1 later, taken_is b y.names y.reductions m.2 inside)
  taken_is (Tree.function g e) names found h inside = let m = both (goes_by_cell g) (is_made_of_reductions e) h in ((taken_apart e names found).expr, refl, taken_is e names found m.1 inside)
  taken_is (Tree.column name) names found h inside = cc
  taken_is (Tree.sort d n e) names found h inside = cc
  taken_is (Tree.sort_by d n e by) names found h inside = cc
  taken_is (Tree.gather s e i) names found h inside = cc
  taken_is (Tree.filter e by) names found h inside = cc
  taken_is (Tree.slice e o l) names found h inside = cc
  taken_is (Tree.left_out what) names found h inside = cc
  taken_is Tree.missing names found h inside = cc

  -- an aggregate, whether it keeps its name or not
  record Part (name : Name) (e : Tree) (names : Names) (found : List Named) (x : Apart) : Type 0 where
    adds : exprs_of x.reductions ≡ exprs_of found ++ reductions_in e
    keeps : AllIn x.reductions → AllIn found
    parts : is_made_of_reductions e ≡ true → AllIn x.reductions → IsApart all e x.expr

  taken_part : (name : Name) (e : Tree) (names : Names) (found : List Named) → Part name e names found (taken_apart e names found)
  taken_part name e names found = record { adds = taken_adds e names found; keeps = λ inside m h. inside m (taken_keeps e names found m h); parts = λ h inside. taken_is e names found h inside }

  part : (name : Name) (e : Tree) (names : Names) (found : List Named) → Part name e names found (aggregate_apart name e names found)
  part name (Tree.aggregate a e) names found =
      record { adds = one_more found name (Tree.aggregate a e); keeps = λ inside m h. inside m (has_first found _ m h); parts = λ h inside. (name, refl, inside _ (has_last found _ _ (inl refl))) }
  part name Tree.len names found = record { adds = one_more found name Tree.len; keeps = λ inside m h. inside m (has_first found _ m h); parts = λ h inside. (name, refl, inside _ (has_last found _ _ (inl refl))) }
  part name (Tree.literal l) names found = taken_part name (Tree.literal l) names found
  part name (Tree.binary o l r) names found = taken_part name (Tree.binary o l r) names found
  part name (Tree.cast k strict e) names found = taken_part name (Tree.cast k strict e) names found
  part name (Tree.ternary p a b) names found = taken_part name (Tree.ternary p a b) names found
  part name (Tree.function g e) names found = taken_part name (Tree.function g e) names found
  part name (Tree.column n) names found = taken_part name (Tree.column n) names found
  part name (Tree.sort d n e) names found = taken_part name (Tree.sort d n e) names found
  part name (Tree.sort_by d n e by) names found = taken_part name (Tree.sort_by d n e by) names found
  part name (Tree.gather s e i) names found = taken_part name (Tree.gather s e i) names found
  part name (Tree.filter e by) names found = taken_part name (Tree.filter e by) names found
  part name (Tree.slice e o l) names found = taken_part name (Tree.slice e o l) names found
  part name (Tree.left_out what) names found = taken_part name (Tree.left_out what) names found
  part name Tree.missing names found = taken_part name Tree.missing names found

  -- all aggregates
  split_keeps : (es : List Named) (s : Split) → AllIn (fold with_aggregate s es).reductions → AllIn s.reductions
  split_keeps [] s inside = inside
  split_keeps (e ∷ es) s inside = (part e.0 e.1 s.names s.reductions).keeps (split_keeps es (with_aggregate s e) inside)

  pub split_apart : (es : List Named) (s : Split) → list_all is_made_of_reductions (exprs_of es) ≡ true → AllIn (fold with_aggregate s es).reductions
      → (xs : List Named) × ((fold with_aggregate s es).above ≡ s.above ++ xs) × AreApart all es xs
  split_apart [] s made inside = ([], sym (append-nil s.above), tt)
  split_apart (e ∷ es) s made inside =
      let m = both (is_made_of_reductions e.1) (list_all is_made_of_reductions (exprs_of es)) made in
      let t = with_aggregate s e in
      let x = aggregate_apart e.0 e.1 s.names s.reductions in
      let rest = split_apart es t m.1 inside in
      ((e.0, x.expr) ∷ rest.0, rest.1 ∙ append_assoc s.above ((e.0, x.expr) ∷ []) rest.0, (refl, (part e.0 e.1 s.names s.reductions).parts m.0 (split_keeps es t inside), rest.2))

  pub split_reductions : (es : List Named) (s : Split) → exprs_of (fold with_aggregate s es).reductions ≡ exprs_of s.reductions ++ flat_map reductions_in (exprs_of es)
  split_reductions [] s = none_more s.reductions
  split_reductions (e ∷ es) s =
      let x = aggregate_apart e.0 e.1 s.names s.reductions in
      split_reductions es (with_aggregate s e) ∙ ap (λ (rs : List Tree). rs ++ flat_map reductions_in (exprs_of es)) ((part e.0 e.1 s.names s.reductions).adds) ∙ append_assoc (exprs_of s.reductions) (reductions_in e.1) (flat_map reductions_in (exprs_of es))

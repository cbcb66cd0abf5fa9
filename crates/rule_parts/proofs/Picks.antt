-- Expressions by their names, beside the columns of other names.
use Rattle.std.proofs.Common.{◌≡◌, inl, inr, Bool, true, false, not, cond, List, [], ◌∷◌, ◌++◌, Some, None, refl, sym, ap, subst, ◌∙◌}
use Rattle.std.specs.Prelude.{◌&&◌, ◌||◌, IsTrue, Option, map}
use Rattle.std.specs.Cmp.Lexicographic.{bytes_decides}
use Rattle.std.specs.List.{AllByRecursion, list_all, list_any}
use Rattle.std.specs.Str.{bytes_eq}
use Rattle.std.proofs.lemmas.Option.{same_Some}
use Rattle.ps_frame.specs.Frames.{has_name}
use Rattle.ps_frame.specs.Tables.{Fields, field_kind}
use Rattle.ps_frame.specs.Trees.{Tree}
use Rattle.ps_frame.specs.Typing.{is_elementwise, is_independent, kind_over}
use Rattle.ps_frame.specs.declared.value.DataType.{DataType}
use Rattle.ps_meaning.proofs.Begins.{or-left, or-right}
use Rattle.ps_meaning.specs.Schemas.{both as both_of, expr_names, fields_of, is_among, names_of, put_field, put_fields}
use Rattle.ps_meaning.specs.StepRefusals.{repeats}
use Rattle.ps_meaning.specs.Steps.{Name, Named, exprs_of}
use Rattle.ps_rules.specs.Slots.{under}
use Rattle.ps_shares.proofs.Members.{Has}
use Rattle.ps_shares.proofs.Projected.{named_as}
use Rattle.name_rules.specs.Lawful.{Differ}
use Rattle.plan_rules.specs.Nodes.{expr_or_column}
use Rattle.rule_parts.proofs.Positions.{AllFollow}

pub same_self : (n : Name) → bytes_eq n n ≡ true
same_self n = (bytes_decides n n).1 refl

turned : (a b : Name) → bytes_eq a b ≡ false → bytes_eq b a ≡ false
turned a b q = by (bytes_eq b a) refl
  where
    by : (c : Bool) → bytes_eq b a ≡ c → bytes_eq b a ≡ false
    by false r = r
    by true r = absurd (let no : true ≡ false = sym ((bytes_decides a b).1 (sym ((bytes_decides b a).0 r))) ∙ q in cc)

pub or_parts : (a b : Bool) → (a || b) ≡ false → (a ≡ false) × (b ≡ false)
or_parts false b q = (refl, q)
or_parts true b q = absurd (let no : true ≡ false = q in cc)

pub at_has : {A : Type 0} (P : A → Type 0) (xs : List A) (x : A) → AllByRecursion P xs → Has xs x → P x
at_has P [] x all h = absurd h
at_has P (y ∷ xs) x all (inl e) = subst P e all.0
at_has P (y ∷ xs) x all (inr h) = at_has P xs x all.1 h

-- what holds of all holds of the first ones and of the last ones
pub all_first : {A : Type 0} (P : A → Type 0) (xs ys : List A) → AllByRecursion P (xs ++ ys) → AllByRecursion P xs
all_first P [] ys h = tt
all_first P (x ∷ xs) ys h = (h.0, all_first P xs ys h.1)

pub all_last : {A : Type 0} (P : A → Type 0) (xs ys : List A) → AllByRecursion P (xs ++ ys) → AllByRecursion P ys
all_last P [] ys h = h
all_last P (x ∷ xs) ys h = all_last P xs ys h.1

-- what differs from the rest, and the rest
pub differ_first : (n : Name) (ns : List Name) → Differ (n ∷ ns) → is_among n ns ≡ false
differ_first n ns d = by (is_among n ns) refl
  where
    by : (b : Bool) → is_among n ns ≡ b → is_among n ns ≡ false
    by false q = q
    by true q = absurd (d n (ap (λ b. (b && is_among n ns) || repeats n ns) (same_self n) ∙ ap (λ b. b || repeats n ns) q))

pub differ_rest : (n : Name) (ns : List Name) → Differ (n ∷ ns) → Differ ns
differ_rest n ns d m r = d m (or-right (bytes_eq m n && is_among m ns) (repeats m ns) r)

-- of different names each is found
abbrev pub Found : List Named → List Named → Type 0
Found ms bs = AllByRecursion (λ (e : Named). expr_or_column ms e.0 ≡ e.1) bs

found_later : (a : Named) (ms bs : List Named) → is_among a.0 (expr_names bs) ≡ false → Found ms bs → Found (a ∷ ms) bs
found_later a ms [] none h = tt
found_later a ms (e ∷ bs) none h =
    let p = or_parts (bytes_eq a.0 e.0) (is_among a.0 (expr_names bs)) none in (
      ap (λ b. cond b a.1 (expr_or_column ms e.0)) p.0 ∙ h.0,
      found_later a ms bs p.1 h.1,
    )

pub all_found : (ms : List Named) → Differ (expr_names ms) → Found ms ms
all_found [] d = tt
all_found (a ∷ ms) d = (ap (λ b. cond b a.1 (expr_or_column ms a.0)) (same_self a.0), found_later a ms ms (differ_first a.0 (expr_names ms) d) (all_found ms (differ_rest a.0 (expr_names ms) d)))

-- a name that none of them has is that of a column
other_column : (ms : List Named) (n : Name) → is_among n (expr_names ms) ≡ false → expr_or_column ms n ≡ Tree.column n
other_column [] n none = refl
other_column (a ∷ ms) n none =
    let p = or_parts (bytes_eq n a.0) (is_among n (expr_names ms)) none in
    ap (λ b. cond b a.1 (expr_or_column ms n)) (turned n a.0 p.0) ∙ other_column ms n p.1

module _ (z : Fields) (ms : List Named) where
  abbrev pub Picked : Name × DataType → Type 0
  Picked x = kind_over z (expr_or_column ms x.0) ≡ Some x.1

  pub picked_own : (bs : List Named) (gs : Fields) → fields_of bs z ≡ Some gs → Found ms bs → AllByRecursion Picked gs
  picked_own [] gs q h = subst (AllByRecursion Picked) (same_Some [] gs q) tt
  picked_own (e ∷ bs) gs q h = by (kind_over z e.1) (fields_of bs z) refl refl q (λ fs u. picked_own bs fs u h.1)
    where
      by : (o : Option DataType) (r : Option Fields) → kind_over z e.1 ≡ o → fields_of bs z ≡ r → both_of (λ (k : DataType) (fs : Fields). (e.0, k) ∷ fs) o r ≡ Some gs → ((fs : Fields) → fields_of bs z ≡ Some fs → AllByRecursion Picked fs) → AllByRecursion Picked gs
      by None r p u q more = let w : None ≡ Some gs = q in cc
      by (Some k) None p u q more = let w : None ≡ Some gs = q in cc
      by (Some k) (Some fs) p u q more =
          let w : Some ((e.0, k) ∷ fs) ≡ Some gs = q in
          subst (AllByRecursion Picked) (same_Some ((e.0, k) ∷ fs) gs w) (ap (kind_over z) h.0 ∙ p, more fs u)

  pub picked_others : (f gs : Fields) → names_of gs ≡ expr_names ms → AllByRecursion (λ (x : Name × DataType). field_kind x.0 z ≡ Some x.1) f → AllByRecursion (λ (x : Name × DataType). has_name x.0 gs ≡ false → Picked x) f
  picked_others [] gs names own = tt
  picked_others (x ∷ f) gs names own = (
    λ none. ap (kind_over z) (other_column ms x.0 (ap (is_among x.0) (sym names) ∙ named_as x.0 gs ∙ none)) ∙ own.0,
    picked_others f gs names own.1,
  )

  pub picked_fields : (out : Fields) → AllByRecursion Picked out → fields_of (under (names_of out) (map (expr_or_column ms) (names_of out))) z ≡ Some out
  picked_fields [] h = refl
  picked_fields (x ∷ out) h =
      let p = h.0 in
      let q = picked_fields out h.1 in
      λ i. both_of (λ (k : DataType) (fs : Fields). (x.0, k) ∷ fs) (p i) (q i)

-- elementwise
pick_plain : (ms : List Named) (n : Name) → AllByRecursion (λ (e : Named). IsTrue (is_elementwise e.1)) ms → is_elementwise (expr_or_column ms n) ≡ true
pick_plain [] n all = refl
pick_plain (a ∷ ms) n all = by (bytes_eq a.0 n) (pick_plain ms n all.1)
  where
    by : (b : Bool) → is_elementwise (expr_or_column ms n) ≡ true → is_elementwise (cond b a.1 (expr_or_column ms n)) ≡ true
    by true h = all.0
    by false h = h

pub picks_plain : (ms : List Named) (ns : List Name) → AllByRecursion (λ (e : Named). IsTrue (is_elementwise e.1)) ms → AllByRecursion (λ e. IsTrue (is_elementwise e)) (map (expr_or_column ms) ns)
picks_plain ms [] all = tt
picks_plain ms (n ∷ ns) all = (pick_plain ms n all, picks_plain ms ns all)

pub under_plain : (ns : List Name) (xs : List Tree) → AllByRecursion (λ e. IsTrue (is_elementwise e)) xs → AllByRecursion (λ (e : Named). IsTrue (is_elementwise e.1)) (under ns xs)
under_plain [] xs all = tt
under_plain (n ∷ ns) [] all = tt
under_plain (n ∷ ns) (x ∷ xs) all = (all.0, under_plain ns xs all.1)

-- one that isn't independent of the input
pub record SomeReads (ms : List Named) : Type 0 where
  pub item : Named
  pub has : Has ms item
  pub reads : is_independent item.1 ≡ false

pub some_reads : (es : List Named) (xs : List Tree) → AllFollow (exprs_of es) xs → list_all is_elementwise (exprs_of es) ≡ false → SomeReads (under (expr_names es) xs)
some_reads [] xs h q = absurd (let no : true ≡ false = q in cc)
some_reads (e ∷ es) [] h q = absurd h
some_reads (e ∷ es) (x ∷ xs) h q = by (is_elementwise e.1) refl q (some_reads es xs h.1)
  where
    none : (a b : Bool) → b ≡ false → (a && b) ≡ false
    none true b q = q
    none false b q = refl

    by : (b : Bool) → is_elementwise e.1 ≡ b → (b && list_all is_elementwise (exprs_of es)) ≡ false → (list_all is_elementwise (exprs_of es) ≡ false → SomeReads (under (expr_names es) xs)) → SomeReads ((e.0, x) ∷ under (expr_names es) xs)
    by false p q more = record { item = (e.0, x); has = inl refl; reads = h.0.reads (none (is_independent e.1) (is_elementwise e.1) p) }
    by true p q more = let r = more q in record { item = r.item; has = inr r.has; reads = r.reads }

pub any_pick : (g : Name → Tree) (n : Name) (ns : List Name) → is_among n ns ≡ true → is_independent (g n) ≡ false → list_any (λ e. not (is_independent e)) (map g ns) ≡ true
any_pick g n [] h q = cc
any_pick g n (m ∷ ns) h q = by (bytes_eq n m) refl h (any_pick g n ns)
  where
    by : (b : Bool) → bytes_eq n m ≡ b → (b || is_among n ns) ≡ true → (is_among n ns ≡ true → is_independent (g n) ≡ false → list_any (λ e. not (is_independent e)) (map g ns) ≡ true) → (not (is_independent (g m)) || list_any (λ e. not (is_independent e)) (map g ns)) ≡ true
    by true p h more = or-left (not (is_independent (g m))) (list_any (λ e. not (is_independent e)) (map g ns)) (ap (λ k. not (is_independent (g k))) (sym ((bytes_decides n m).0 p)) ∙ ap not q)
    by false p h more = or-right (not (is_independent (g m))) (list_any (λ e. not (is_independent e)) (map g ns)) (more h q)

pub has_name_of : (ms : List Named) (a : Named) → Has ms a → is_among a.0 (expr_names ms) ≡ true
has_name_of [] a h = absurd h
has_name_of (b ∷ ms) a (inl e) = or-left (bytes_eq a.0 b.0) (is_among a.0 (expr_names ms)) ((bytes_decides a.0 b.0).1 (ap (λ (x : Named). x.0) (sym e)))
has_name_of (b ∷ ms) a (inr h) = or-right (bytes_eq a.0 b.0) (is_among a.0 (expr_names ms)) (has_name_of ms a h)

-- fields that are put into others are among them, and so are the others' names
put_new : (g : Name × DataType) (f : Fields) → is_among g.0 (names_of (put_field g f)) ≡ true
put_new g [] = or-left (bytes_eq g.0 g.0) false (same_self g.0)
put_new g (h ∷ f) = by (bytes_eq g.0 h.0) (put_new g f)
  where
    by : (b : Bool) → is_among g.0 (names_of (put_field g f)) ≡ true → is_among g.0 (names_of (cond b (g ∷ f) (h ∷ put_field g f))) ≡ true
    by true k = or-left (bytes_eq g.0 g.0) (is_among g.0 (names_of f)) (same_self g.0)
    by false k = or-right (bytes_eq g.0 h.0) (is_among g.0 (names_of (put_field g f))) k

put_old : (g : Name × DataType) (f : Fields) (n : Name) → is_among n (names_of f) ≡ true → is_among n (names_of (put_field g f)) ≡ true
put_old g [] n h = cc
put_old g (x ∷ f) n h = by (bytes_eq g.0 x.0) refl (bytes_eq n x.0) refl h (put_old g f n)
  where
    by : (b : Bool) → bytes_eq g.0 x.0 ≡ b → (c : Bool) → bytes_eq n x.0 ≡ c → (c || is_among n (names_of f)) ≡ true → (is_among n (names_of f) ≡ true → is_among n (names_of (put_field g f)) ≡ true) → is_among n (names_of (cond b (g ∷ f) (x ∷ put_field g f))) ≡ true
    by true p true q h more = or-left (bytes_eq n g.0) (is_among n (names_of f)) ((bytes_decides n g.0).1 ((bytes_decides n x.0).0 q ∙ sym ((bytes_decides g.0 x.0).0 p)))
    by true p false q h more = or-right (bytes_eq n g.0) (is_among n (names_of f)) h
    by false p true q h more = or-left (bytes_eq n x.0) (is_among n (names_of (put_field g f))) q
    by false p false q h more = or-right (bytes_eq n x.0) (is_among n (names_of (put_field g f))) (more h)

puts_old : (gs f : Fields) (n : Name) → is_among n (names_of f) ≡ true → is_among n (names_of (put_fields f gs)) ≡ true
puts_old [] f n h = h
puts_old (g ∷ gs) f n h = puts_old gs (put_field g f) n (put_old g f n h)

pub puts_new : (gs f : Fields) (n : Name) → is_among n (names_of gs) ≡ true → is_among n (names_of (put_fields f gs)) ≡ true
puts_new [] f n h = cc
puts_new (g ∷ gs) f n h = by (bytes_eq n g.0) refl h (puts_new gs (put_field g f) n)
  where
    by : (b : Bool) → bytes_eq n g.0 ≡ b → (b || is_among n (names_of gs)) ≡ true → (is_among n (names_of gs) ≡ true → is_among n (names_of (put_fields (put_field g f) gs)) ≡ true) → is_among n (names_of (put_fields (put_field g f) gs)) ≡ true
    by true p h more = puts_old gs (put_field g f) n (ap (λ m. is_among m (names_of (put_field g f))) ((bytes_decides n g.0).0 p) ∙ put_new g f)
    by false p h more = more h

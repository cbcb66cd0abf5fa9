-- Keys and kept values of a distinct: their names differ and have kinds, and what is counted beside them.
use Rattle.std.proofs.Common.{◌≡◌, ◌≢◌, ◌+◌, ◌≤◌, Bool, true, false, not, cond, List, [], ◌∷◌, ◌++◌, Some, None, refl, sym, ap, subst, ◌∙◌, arith}
use Rattle.std.specs.Prelude.{◌||◌, IsSomeAnd, IsTrue, Option, is_some, unwrap_or}
use Rattle.std.specs.Cmp.Lexicographic.{bytes_decides}
use Rattle.std.specs.List.{AllByRecursion, list_any}
use Rattle.std.specs.Str.{bytes_eq}
use Rattle.ps_frame.proofs.Lists.{and_both}
use Rattle.ps_frame.specs.Frames.{has_distinct_names}
use Rattle.ps_frame.specs.Parts.{is_literal_aggregate, some_part}
use Rattle.ps_frame.specs.Tables.{Fields, field_kind}
use Rattle.ps_frame.specs.Trees.{Aggregation, Tree}
use Rattle.ps_frame.specs.Typing.{aggregate_kind, is_scalar}
use Rattle.ps_frame.specs.declared.value.DataType.{DataType}
use Rattle.ps_meaning.proofs.Begins.{or-left, or-right}
use Rattle.ps_meaning.specs.Schemas.{expr_names, is_among, names_of}
use Rattle.ps_meaning.specs.Sound.{have_all_kinds}
use Rattle.ps_meaning.specs.StepRefusals.{lacks_name, repeats}
use Rattle.ps_meaning.specs.Steps.{Name, Named, exprs_of}
use Rattle.ps_meaning.specs.declared.options.UniqueKeepStrategy.{UniqueKeepStrategy}
use Rattle.ps_rules.specs.Names.{IsKnown, Names}
use Rattle.ps_rules.specs.Slots.{columns_named}
use Rattle.ps_shares.proofs.Projected.{kind_as, named_as}
use Rattle.name_rules.proofs.Times.{among_times, distinct_once, never_once, times, times_among}
use Rattle.plan_rules.specs.Distinct.{keeps_last, kept_value, kept_values, other_than}
use Rattle.rule_parts.proofs.Passing.{all_stand}
use Rattle.rule_parts.proofs.Rules.{at_among}

-- the names of key columns: some, each once, and all in the schema
pub record AreKeys (f : Fields) (keys : List Name) : Type 0 where
  pub inside : AllByRecursion (λ n. is_among n (names_of f) ≡ true) keys
  pub once : (n : Name) → times n keys ≤ 1
  pub some : keys ≢ []

pub each_inside : (ns ms : List Name) → ((n : Name) → is_among n ns ≡ true → is_among n ms ≡ true) → AllByRecursion (λ n. is_among n ms ≡ true) ns
each_inside [] ms h = tt
each_inside (n ∷ ns) ms h = (h n (or-left (bytes_eq n n) (is_among n ns) ((bytes_decides n n).1 refl)), each_inside ns ms (λ m q. h m (or-right (bytes_eq m n) (is_among m ns) q)))

pub keys_of : (f : Fields) (subset : Option (List Name)) → f ≢ [] → has_distinct_names f ≡ true → (subset ≡ Some [] → ⊥) → ((n : Name) → IsSomeAnd subset (λ ns. IsTrue (lacks_name n f ns)) → ⊥) → ((n : Name) → IsSomeAnd subset (λ ns. IsTrue (repeats n ns)) → ⊥)
    → AreKeys f (unwrap_or subset (names_of f))
keys_of f None some once key missing repeated = record { inside = each_inside (names_of f) (names_of f) (λ n q. q); once = distinct_once f once; some = named f some }
  where
    named : (f : Fields) → f ≢ [] → names_of f ≢ []
    named [] some e = some refl
    named (x ∷ f) some e = let w : x.0 ∷ names_of f ≡ [] = e in cc
keys_of f (Some ns) some once key missing repeated = record { inside = all_stand ns f (λ n q. missing n q); once = λ n. never_once n ns (λ q. repeated n q); some = λ e. key (ap (λ (ns : List Name). Some ns) e) }

pub kept_names : (k : UniqueKeepStrategy) (ns : List Name) → expr_names (kept_values k ns) ≡ ns
kept_names k [] = refl
kept_names k (n ∷ ns) = ap (λ (ms : List Name). n ∷ ms) (kept_names k ns)

pub kept_kind : (k : UniqueKeepStrategy) (o : Option DataType) → aggregate_kind (kept_value k) o ≡ o
kept_kind k o = by (keeps_last k)
  where
    by : (b : Bool) → aggregate_kind (cond b Aggregation.last Aggregation.first) o ≡ o
    by true = refl
    by false = refl

pub there : (f : Fields) (n : Name) → is_among n (names_of f) ≡ true → is_some (field_kind n f) ≡ true
there f n q = kind_as n f ∙ sym (named_as n f) ∙ q

pub columns_typed : (f : Fields) (ns : List Name) → AllByRecursion (λ n. is_among n (names_of f) ≡ true) ns → have_all_kinds f (columns_named ns) ≡ true
columns_typed f [] all = refl
columns_typed f (n ∷ ns) all = and_both (is_some (field_kind n f)) (have_all_kinds f (columns_named ns)) (there f n all.0) (columns_typed f ns all.1)

pub kept_typed : (k : UniqueKeepStrategy) (f : Fields) (ns : List Name) → AllByRecursion (λ n. is_among n (names_of f) ≡ true) ns → have_all_kinds f (exprs_of (kept_values k ns)) ≡ true
kept_typed k f [] all = refl
kept_typed k f (n ∷ ns) all = and_both (is_some (aggregate_kind (kept_value k) (field_kind n f))) (have_all_kinds f (exprs_of (kept_values k ns))) (ap is_some (kept_kind k (field_kind n f)) ∙ there f n all.0) (kept_typed k f ns all.1)

pub kept_scalar : (k : UniqueKeepStrategy) (ns : List Name) (more : List Tree) → list_any (λ e. not (is_scalar e)) more ≡ false → list_any (λ e. not (is_scalar e)) (exprs_of (kept_values k ns) ++ more) ≡ false
kept_scalar k [] more h = h
kept_scalar k (n ∷ ns) more h = kept_scalar k ns more h

pub kept_literal : (k : UniqueKeepStrategy) (ns : List Name) (more : List Tree) → list_any (some_part is_literal_aggregate) more ≡ false → list_any (some_part is_literal_aggregate) (exprs_of (kept_values k ns) ++ more) ≡ false
kept_literal k [] more h = h
kept_literal k (n ∷ ns) more h = kept_literal k ns more h

-- the other columns
pub others_few : (keys : List Name) (n : Name) (ns : List Name) → times n (other_than keys ns) ≤ times n ns
others_few keys n [] = omega arith
others_few keys n (m ∷ ns) = by (is_among m keys) (others_few keys n ns)
  where
    by : (b : Bool) → times n (other_than keys ns) ≤ times n ns → times n (cond (not b) (m ∷ other_than keys ns) (other_than keys ns)) ≤ cond (bytes_eq n m) 1 0 + times n ns
    by true le = omega arith
    by false le = omega arith

pub others_none : (keys : List Name) (n : Name) (ns : List Name) → is_among n keys ≡ true → times n (other_than keys ns) ≡ 0
others_none keys n [] q = refl
others_none keys n (m ∷ ns) q = by (is_among m keys) refl (others_none keys n ns q)
  where
    by : (b : Bool) → is_among m keys ≡ b → times n (other_than keys ns) ≡ 0 → times n (cond (not b) (m ∷ other_than keys ns) (other_than keys ns)) ≡ 0
    by true p r = r
    by false p r = one (bytes_eq n m) refl
      where
        one : (c : Bool) → bytes_eq n m ≡ c → cond c 1 0 + times n (other_than keys ns) ≡ 0
        one false u = omega arith
        one true u = let w : true ≡ false = sym q ∙ ap (λ k. is_among k keys) ((bytes_decides n m).0 u) ∙ p in cc

pub others_inside : (keys ns ms : List Name) → AllByRecursion (λ n. is_among n ms ≡ true) ns → AllByRecursion (λ n. is_among n ms ≡ true) (other_than keys ns)
others_inside keys [] ms all = tt
others_inside keys (n ∷ ns) ms all = by (is_among n keys) (others_inside keys ns ms all.1)
  where
    by : (b : Bool) → AllByRecursion (λ n. is_among n ms ≡ true) (other_than keys ns) → AllByRecursion (λ n. is_among n ms ≡ true) (cond (not b) (n ∷ other_than keys ns) (other_than keys ns))
    by true r = r
    by false r = (all.0, r)

pub other_there : (keys : List Name) (n : Name) (ns : List Name) → is_among n ns ≡ true → is_among n keys ≡ false → is_among n (other_than keys ns) ≡ true
other_there keys n [] h q = cc
other_there keys n (m ∷ ns) h q = by (bytes_eq n m) refl (is_among m keys) refl h (other_there keys n ns)
  where
    by : (c : Bool) → bytes_eq n m ≡ c → (b : Bool) → is_among m keys ≡ b → (c || is_among n ns) ≡ true → (is_among n ns ≡ true → is_among n keys ≡ false → is_among n (other_than keys ns) ≡ true) → is_among n (cond (not b) (m ∷ other_than keys ns) (other_than keys ns)) ≡ true
    by true u true p h more = let w : true ≡ false = sym p ∙ ap (λ k. is_among k keys) (sym ((bytes_decides n m).0 u)) ∙ q in cc
    by true u false p h more = or-left (bytes_eq n m) (is_among n (other_than keys ns)) u
    by false u true p h more = more h q
    by false u false p h more = or-right (bytes_eq n m) (is_among n (other_than keys ns)) (more h q)

pub inside_times : (n : Name) (ns ms : List Name) → AllByRecursion (λ n. is_among n ms ≡ true) ns → 1 ≤ times n ns → 1 ≤ times n ms
inside_times n ns ms all le = among_times n ms (at_among (λ n. is_among n ms ≡ true) ns n all (times_among n ns le))

-- what is counted beside the values: nothing, or the height under a fresh name
pub record IsMore (f : Fields) (names : Names) (more : List Named) : Type 0 where
  pub typed : have_all_kinds f (exprs_of more) ≡ true
  pub once : (n : Name) → times n (expr_names more) ≤ 1
  pub apart : (n : Name) → 1 ≤ times n (expr_names more) → 1 ≤ times n (names_of f) → ⊥
  pub known : (n : Name) → 1 ≤ times n (expr_names more) → IsKnown names n
  pub scalar : list_any (λ e. not (is_scalar e)) (exprs_of more) ≡ false
  pub literal : list_any (some_part is_literal_aggregate) (exprs_of more) ≡ false

pub none_more : (f : Fields) (names : Names) → IsMore f names []
none_more f names = record { typed = refl; once = λ n. omega arith; apart = λ n p q. absurd (omega arith); known = λ n p. absurd (omega arith); scalar = refl; literal = refl }

pub one_more : (f : Fields) (name : Name) (names : Names) → IsKnown names name → (is_among name (names_of f) ≡ true → ⊥) → IsMore f names ((name, Tree.len) ∷ [])
one_more f name names known apart =
    record {
      typed = refl;
      once = λ n. few (bytes_eq n name);
      apart = λ n p q. apart (ap (λ m. is_among m (names_of f)) (is n p) ∙ times_among n (names_of f) q);
      known = λ n p. subst (IsKnown names) (is n p) known;
      scalar = refl;
      literal = refl;
    }
  where
    few : (b : Bool) → cond b 1 0 + 0 ≤ 1
    few true = omega arith
    few false = omega arith

    is : (n : Name) → 1 ≤ cond (bytes_eq n name) 1 0 + 0 → name ≡ n
    is n p = by (bytes_eq n name) refl p
      where
        by : (b : Bool) → bytes_eq n name ≡ b → 1 ≤ cond b 1 0 + 0 → name ≡ n
        by true q p = sym ((bytes_decides n name).0 q)
        by false q p = absurd (omega arith)

pub not_both : (b : Bool) → b ≡ true → b ≡ false → ⊥
not_both true p q = let w : true ≡ false = q in cc
not_both false p q = let w : false ≡ true = p in cc

-- The columns that a map keeps of its input, and expressions over these.
use Rattle.std.proofs.Common.{◌≡◌, ◌≢◌, inl, inr, ℕ, ◌+◌, ◌≤◌, Bool, true, false, cond, List, [], ◌∷◌, Some, None, refl, ap, ◌∙◌, arith}
use Rattle.std.specs.Prelude.{IsTrue, filter, is_some}
use Rattle.std.specs.List.{AllByRecursion, list_any}
use Rattle.std.specs.Str.{bytes_eq}
use Rattle.ps_frame.proofs.Lists.{and_both}
use Rattle.ps_frame.specs.Functions.{Functions}
use Rattle.ps_frame.specs.Parts.{reads_column}
use Rattle.ps_frame.specs.Tables.{Fields, Table, no_rows}
use Rattle.ps_frame.specs.Typing.{kind_over}
use Rattle.ps_meaning.specs.Schemas.{names_of}
use Rattle.ps_meaning.specs.Shape.{IsPhysicalChoice}
use Rattle.ps_meaning.specs.Sound.{have_all_kinds}
use Rattle.ps_meaning.specs.Steps.{Name, Named, exprs_of}
use Rattle.ps_rules.specs.Bundles.{names_kept, names_read, or_first}
use Rattle.ps_rules.specs.Slots.{Stream, same_names}
use Rattle.ps_shares.proofs.Members.{Has}
use Rattle.ps_bundles.proofs.Reading.{HasFields}
use Rattle.ps_bundles.proofs.Together.{reads_kept}
use Rattle.name_rules.proofs.Times.{times}
use Rattle.name_rules.proofs.Items.{kind_same}

-- items over the columns that are kept for them
module _ (F : Functions) (at : ℕ) (input : Stream) (g : Fields) (items : List Named) (typed : AllByRecursion (λ (m : Named). IsTrue (is_some (kind_over g m.1))) items) (fs : HasFields (names_kept items g) g) where
  abbrev table : ℕ → Table
  table n = no_rows g []

  no_choice : IsPhysicalChoice F [] table
  no_choice n p e = let w : None ≡ Some p = e in cc

  kind_kept : (m : Named) → Has items m → is_some (kind_over g m.1) ≡ true → kind_over fs.fields m.1 ≡ kind_over g m.1
  kind_kept m has k = kind_same fs.fields g m.1 (λ n read. fs.kinds n (reads_kept F at input [] table no_choice items typed m has k n read))

  pub all_kept : have_all_kinds fs.fields (exprs_of items) ≡ true
  all_kept = by items (λ m h. h) typed
    where
      by : (is : List Named) → ((m : Named) → Has is m → Has items m) → AllByRecursion (λ (m : Named). IsTrue (is_some (kind_over g m.1))) is → have_all_kinds fs.fields (exprs_of is) ≡ true
      by [] f h = refl
      by (m ∷ is) f h = and_both (is_some (kind_over fs.fields m.1)) (have_all_kinds fs.fields (exprs_of is)) (ap is_some (kind_kept m (f m (inl refl)) h.0) ∙ h.0) (by is (λ k has. f k (inr has)) h.1)

-- the names that are kept
fewer_times : (p : Name → Bool) (n : Name) (ns : List Name) → times n (filter p ns) ≤ times n ns
fewer_times p n [] = omega arith
fewer_times p n (m ∷ ns) = by (p m) (fewer_times p n ns)
  where
    by : (b : Bool) → times n (filter p ns) ≤ times n ns → times n (cond b (m ∷ filter p ns) (filter p ns)) ≤ cond (bytes_eq n m) 1 0 + times n ns
    by true le = omega arith
    by false le = omega arith

pub kept_once : (items : List Named) (g : Fields) → ((n : Name) → times n (names_of g) ≤ 1) → (n : Name) → times n (names_kept items g) ≤ 1
kept_once items g once n =
    let le = once n in
    by (names_read items g) (names_of g) (let few = fewer_times (λ n. list_any (λ (e : Named). reads_column n e.1) items) n (names_of g) in omega arith) le
  where
    by : (ms ns : List Name) → times n ms ≤ 1 → times n ns ≤ 1 → times n (or_first ms ns) ≤ 1
    by [] [] p q = omega arith
    by [] (m ∷ ns) p q = omega arith
    by (m ∷ ms) ns p q = p

-- where none is kept the schema has none
pub some_kept : (items : List Named) (g : Fields) → same_names (names_kept items g) (names_of g) ≡ false → names_kept items g ≢ []
some_kept items g = by (names_read items g) (names_of g)
  where
    by : (ms ns : List Name) → same_names (or_first ms ns) ns ≡ false → or_first ms ns ≢ []
    by [] [] q e = let w : true ≡ false = q in cc
    by [] (n ∷ ns) q e = let w : n ∷ [] ≡ [] = e in cc
    by (m ∷ ms) ns q e = let w : m ∷ ms ≡ [] = e in cc

-- Kinds over a schema that has these columns and more.
use Rattle.std.proofs.Common.{◌≡◌, inl, inr, Bool, true, false, List, [], ◌∷◌, refl, sym, subst, ◌∙◌}
use Rattle.std.specs.Prelude.{is_some, map}
use Rattle.std.specs.Cmp.Lexicographic.{bytes_decides}
use Rattle.std.specs.List.{AllByRecursion}
use Rattle.std.specs.Str.{bytes_eq}
use Rattle.std.proofs.lemmas.Bool.{or_cases}
use Rattle.ps_frame.specs.Frames.{has_name}
use Rattle.ps_frame.specs.Parts.{is_column_of, reads_column}
use Rattle.ps_frame.specs.Tables.{Fields, field_kind}
use Rattle.ps_frame.specs.Trees.{Tree}
use Rattle.ps_frame.specs.Typing.{kind_over}
use Rattle.ps_typing.proofs.Exact.{unknown-refused}
use Rattle.ps_meaning.specs.Schemas.{is_among, names_of}
use Rattle.ps_meaning.specs.Sound.{have_all_kinds}
use Rattle.ps_meaning.specs.Steps.{Name}
use Rattle.ps_shares.proofs.FlatLength.{both_hold}
use Rattle.ps_shares.proofs.Projected.{named_as}
use Rattle.name_rules.proofs.Items.{kind_same}
use Rattle.name_rules.proofs.Ruling.{none_such}
use Rattle.rule_parts.proofs.Columns.{SameKinds}

module _ (s : Fields) where
  -- each column that is read stands in the schema
  pub reads_there : (e : Tree) → is_some (kind_over s e) ≡ true → (n : Name) → reads_column n e ≡ true → has_name n s ≡ true
  reads_there e typed n read = by (has_name n s) refl
    where
      by : (b : Bool) → has_name n s ≡ b → has_name n s ≡ true
      by true q = q
      by false q = absurd (none_such s (is_column_of n) (unknown-refused n s q) e typed read)

pub at_among : (P : Name → Type 0) (ns : List Name) (n : Name) → AllByRecursion P ns → is_among n ns ≡ true → P n
at_among P [] n all h = cc
at_among P (m ∷ ns) n all h = elim (or_cases (bytes_eq n m) (is_among n ns) h) [ inl k ↦ (let is = (bytes_decides n m).0 k in subst P (sym is) all.0) | inr k ↦ at_among P ns n all.1 k ]

-- over a schema that has these columns, and maybe more
pub kind_wider : (z f : Fields) → SameKinds z f (names_of f) → (e : Tree) → is_some (kind_over f e) ≡ true → kind_over z e ≡ kind_over f e
kind_wider z f same e typed = kind_same z f e (λ n read. at_among (λ n. field_kind n z ≡ field_kind n f) (names_of f) n same (named_as n f ∙ reads_there f e typed n read))

pub kinds_wider : (z f : Fields) → SameKinds z f (names_of f) → (es : List Tree) → have_all_kinds f es ≡ true → map (kind_over z) es ≡ map (kind_over f) es
kinds_wider z f same [] typed = refl
kinds_wider z f same (e ∷ es) typed =
    let b = both_hold (is_some (kind_over f e)) (have_all_kinds f es) typed in
    let p = kind_wider z f same e b.0 in
    let q = kinds_wider z f same es b.1 in
    λ i. p i ∷ q i

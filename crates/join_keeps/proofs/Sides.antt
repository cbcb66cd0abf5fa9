-- The names of what a join gives of each side, over streams that show more.
use Rattle.std.proofs.Common.{◌≡◌, Bool, true, false, List, refl, sym, ◌∙◌}
use Rattle.ps_frame.specs.Tables.{Fields}
use Rattle.ps_meaning.specs.Schemas.{is_among, names_of}
use Rattle.ps_meaning.specs.Steps.{Name}
use Rattle.rule_parts.proofs.Sides.{side, without_in, without_there}

not_true : (b : Bool) → (b ≡ true → ⊥) → b ≡ false
not_true true h = absurd (h refl)
not_true false h = refl

not_both : (b : Bool) → b ≡ true → b ≡ false → ⊥
not_both b h q = let w : true ≡ false = sym h ∙ q in cc

-- What a call shows of an input with fields f, and of keys: the names that were known before are those of the input, and a key that is a column of a known name was answered by that column, and no other one was.
pub record Shows (Before : Name → Type 0) (bare wide : List Name) (f z : Fields) : Type 0 where
  pub known : (n : Name) → is_among n (names_of f) ≡ true → Before n
  pub new : (n : Name) → is_among n (names_of f) ≡ true → is_among n (names_of z) ≡ true
  pub old : (n : Name) → is_among n (names_of z) ≡ true → Before n → is_among n (names_of f) ≡ true
  pub kept : (n : Name) → Before n → is_among n bare ≡ true → is_among n wide ≡ true
  pub back : (n : Name) → Before n → is_among n wide ≡ true → is_among n bare ≡ true

module _ (Before : Name → Type 0) (bare wide : List Name) (f z : Fields) (h : Shows Before bare wide f z) where
  pub side_in : (c : Bool) (n : Name) → is_among n (names_of (side c bare f)) ≡ true → is_among n (names_of f) ≡ true
  side_in false n q = q
  side_in true n q = (without_in bare f n q).0

  pub wide_in : (c : Bool) (n : Name) → is_among n (names_of (side c wide z)) ≡ true → is_among n (names_of z) ≡ true
  wide_in false n q = q
  wide_in true n q = (without_in wide z n q).0

  -- a name of the side is one of the wider side, and one of the wider side that was known is one of the side
  pub side_new : (c : Bool) (n : Name) → is_among n (names_of (side c bare f)) ≡ true → is_among n (names_of (side c wide z)) ≡ true
  side_new false n q = h.new n q
  side_new true n q =
      let r = without_in bare f n q in
      without_there wide z n (h.new n r.0) (not_true (is_among n wide) (λ k. not_both (is_among n bare) (h.back n (h.known n r.0) k) r.1))

  pub side_old : (c : Bool) (n : Name) → is_among n (names_of (side c wide z)) ≡ true → Before n → is_among n (names_of (side c bare f)) ≡ true
  side_old false n q k = h.old n q k
  side_old true n q k =
      let r = without_in wide z n q in
      without_there bare f n (h.old n r.0 k) (not_true (is_among n bare) (λ l. not_both (is_among n wide) (h.kept n k l) r.1))

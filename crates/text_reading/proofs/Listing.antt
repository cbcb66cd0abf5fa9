-- Lists with commas between, read one entry after another.
use Rattle.std.proofs.Common.{◌≡◌, ◌⊎◌, List, [], ◌∷◌, ◌++◌, map, sym, refl, ap, ◌∙◌, subst, inl, inr, append_assoc, append-nil}
use Rattle.std.proofs.lemmas.List.{map-append}
use Rattle.text_queries.specs.Grammar.{Listed}
use Rattle.text_reading.specs.Reading.{EndsList}
use Rattle.text_tokens.specs.declared.token.Sign.TheVariants as sign
use Rattle.text_tokens.specs.declared.token.Token.{Token}
use Rattle.text_tokens.specs.declared.token.Token.TheVariants as token

abbrev pub comma : Token
comma = token.Sign sign.Comma

-- one more entry at the end
pub listed-push : {Y : Type 0} (P : List Token → Y → Type 0) → (ts : List Token) (ys : List Y) (more : List Token) (y : Y) → Listed P ts ys → P more y → Listed P (ts ++ comma ∷ more) (ys ++ y ∷ [])
listed-push P ts [] more y h p = absurd h
listed-push P ts (x ∷ []) more y h p = (ts, more, refl, h, p)
listed-push P ts (x ∷ z ∷ ys) more y (first, rest, split, here, tail) p =
    (first, rest ++ comma ∷ more, ap (λ s. s ++ comma ∷ more) split ∙ append_assoc first (comma ∷ rest) (comma ∷ more), here, listed-push P rest (z ∷ ys) more y tail p)

-- what is left of a list and what stands behind it: nothing, or a comma and entries
abbrev pub Left : {Y : Type 0} → (List Token → Y → Type 0) → List Y → List Token → List Token → Type 0
Left P ys left rest = ((ys ≡ []) × (left ≡ rest)) ⊎ ((ts : List Token) × (left ≡ comma ∷ (ts ++ rest)) × Listed P ts ys)

-- the first entry of a list, and what is left behind it
pub record First {Y : Type 0} (P : List Token → Y → Type 0) (ts : List Token) (ys : List Y) (rest : List Token) : Type 0 where
  pub front : List Token
  pub left : List Token
  pub entry : Y
  pub others : List Y
  pub entries : ys ≡ entry ∷ others
  pub split : ts ++ rest ≡ front ++ left
  pub is_entry : P front entry
  pub is_left : Left P others left rest

pub first_of : {Y : Type 0} (P : List Token → Y → Type 0) → (ts : List Token) (ys : List Y) (rest : List Token) → Listed P ts ys → First P ts ys rest
first_of P ts [] rest h = absurd h
first_of P ts (y ∷ []) rest h = record { front = ts; left = rest; entry = y; others = []; entries = refl; split = refl; is_entry = h; is_left = inl (refl, refl) }
first_of P ts (y ∷ z ∷ ys) rest (first, more, split, here, tail) = record {
  front = first;
  left = comma ∷ (more ++ rest);
  entry = y;
  others = z ∷ ys;
  entries = refl;
  split = ap (λ s. s ++ rest) split ∙ append_assoc first (comma ∷ more) rest;
  is_entry = here;
  is_left = inr (more, refl, tail);
}

-- what may stand behind an entry, where a comma may
pub follows_entry : {Y : Type 0} (P : List Token → Y → Type 0) (Follows : List Token → Type 0) → ((more : List Token) → Follows (comma ∷ more)) → (ys : List Y) (left rest : List Token) → Left P ys left rest → Follows rest → Follows left
follows_entry P Follows at_comma ys left rest (inl h) ends = subst Follows (sym h.1) ends
follows_entry P Follows at_comma ys left rest (inr h) ends = subst Follows (sym h.1) (at_comma (h.0 ++ rest))

-- the entries so far are a list, and every reading of the tokens goes on from there
pub record AreEntries {X Y : Type 0} (P : List Token → Y → Type 0) (Follows : List Token → Type 0) (view : X → Y) (tokens : List Token) (xs : List X) (left : List Token) : Type 0 where
  pub found : (front : List Token) × (tokens ≡ front ++ left) × Listed P front (map view xs)
  pub each : (front rest : List Token) (ys : List Y) → tokens ≡ front ++ rest → Listed P front ys → EndsList Follows rest → (others : List Y) × (ys ≡ map view xs ++ others) × Left P others left rest

module _ {X Y : Type 0} (P : List Token → Y → Type 0) (Follows : List Token → Type 0) (view : X → Y) (at_comma : (more : List Token) → Follows (comma ∷ more)) where
  -- the first entry
  pub entries_first : (tokens : List Token) (x : X) (left : List Token)
      → ((front : List Token) × (tokens ≡ front ++ left) × P front (view x))
      → ((front rest : List Token) (y : Y) → tokens ≡ front ++ rest → P front y → Follows rest → (view x ≡ y) × (left ≡ rest))
      → AreEntries P Follows view tokens (x ∷ []) left
  entries_first tokens x left found reads = record {
    found = found;
    each = λ front rest ys is listed ends.
        let f = first_of P front ys rest listed in
        let same = reads f.front f.left f.entry (is ∙ f.split) f.is_entry (follows_entry P Follows at_comma f.others f.left rest f.is_left ends.ends) in
        (f.others, f.entries ∙ ap (λ y. y ∷ f.others) (sym same.0), subst (λ l. Left P f.others l rest) (sym same.1) f.is_left);
  }

  -- one more entry behind a comma
  pub entries_more : (tokens : List Token) (xs : List X) (left : List Token) (x : X) (behind after : List Token)
      → AreEntries P Follows view tokens xs left → left ≡ comma ∷ behind
      → ((front : List Token) × (behind ≡ front ++ after) × P front (view x))
      → ((front rest : List Token) (y : Y) → behind ≡ front ++ rest → P front y → Follows rest → (view x ≡ y) × (after ≡ rest))
      → AreEntries P Follows view tokens (xs ++ x ∷ []) after
  entries_more tokens xs left x behind after so_far comma_is (more, split, here) reads = record {
    found =
        let f = so_far.found in (
          f.0 ++ comma ∷ more,
          f.1 ∙ ap (λ l. f.0 ++ l) (comma_is ∙ ap (λ b. comma ∷ b) split) ∙ sym (append_assoc f.0 (comma ∷ more) after),
          subst (Listed P (f.0 ++ comma ∷ more)) (sym (map-append view xs (x ∷ []))) (listed-push P f.0 (map view xs) more (view x) f.2 here),
        );
    each = λ front rest ys is listed ends.
        let left_is = so_far.each front rest ys is listed ends in
        step ys rest ends left_is.0 left_is.1 left_is.2;
  }
    where
      step : (ys : List Y) (rest : List Token) → EndsList Follows rest → (others : List Y) → ys ≡ map view xs ++ others → Left P others left rest → (fewer : List Y) × (ys ≡ map view (xs ++ x ∷ []) ++ fewer) × Left P fewer after rest
      step ys rest ends others ys_are (inl h) = absurd (ends.no_comma behind (sym h.1 ∙ comma_is))
      step ys rest ends others ys_are (inr (ts, left_is, listed)) =
          let f = first_of P ts others rest listed in
          let behind_is : behind ≡ ts ++ rest = let both : comma ∷ behind ≡ comma ∷ (ts ++ rest) = sym comma_is ∙ left_is in cc in
          let same = reads f.front f.left f.entry (behind_is ∙ f.split) f.is_entry (follows_entry P Follows at_comma f.others f.left rest f.is_left ends.ends) in (
            f.others,
            ys_are ∙ ap (λ o. map view xs ++ o) (f.entries ∙ ap (λ y. y ∷ f.others) (sym same.0)) ∙ sym (append_assoc (map view xs) (view x ∷ []) f.others)
                ∙ ap (λ m. m ++ f.others) (sym (map-append view xs (x ∷ []))),
            subst (λ l. Left P f.others l rest) (sym same.1) f.is_left,
          )

  -- where no comma stands, the list is at its end
  pub entries_all : (tokens : List Token) (xs : List X) (left : List Token) → AreEntries P Follows view tokens xs left → ((behind : List Token) → left ≡ comma ∷ behind → ⊥)
      → (front rest : List Token) (ys : List Y) → tokens ≡ front ++ rest → Listed P front ys → EndsList Follows rest → (map view xs ≡ ys) × (left ≡ rest)
  entries_all tokens xs left so_far none front rest ys is listed ends =
      let l = so_far.each front rest ys is listed ends in
      at_end l.0 l.1 l.2
    where
      at_end : (others : List Y) → ys ≡ map view xs ++ others → Left P others left rest → (map view xs ≡ ys) × (left ≡ rest)
      at_end others ys_are (inl h) = (sym (ys_are ∙ ap (λ o. map view xs ++ o) h.0 ∙ append-nil (map view xs)), h.1)
      at_end others ys_are (inr h) = absurd (none (h.0 ++ rest) h.1)

  -- where the reader of an entry refuses, it says why
  pub first_refused : (Q : Type 0) (tokens : List Token) → ((front rest : List Token) (y : Y) → tokens ≡ front ++ rest → P front y → Follows rest → Q)
      → (front rest : List Token) (ys : List Y) → tokens ≡ front ++ rest → Listed P front ys → EndsList Follows rest → Q
  first_refused Q tokens reads front rest ys is listed ends =
      let f = first_of P front ys rest listed in
      reads f.front f.left f.entry (is ∙ f.split) f.is_entry (follows_entry P Follows at_comma f.others f.left rest f.is_left ends.ends)

  pub more_refused : (Q : Type 0) (tokens : List Token) (xs : List X) (left behind : List Token) → AreEntries P Follows view tokens xs left → left ≡ comma ∷ behind → ((front rest : List Token) (y : Y) → behind ≡ front ++ rest → P front y → Follows rest → Q)
      → (front rest : List Token) (ys : List Y) → tokens ≡ front ++ rest → Listed P front ys → EndsList Follows rest → Q
  more_refused Q tokens xs left behind so_far comma_is reads front rest ys is listed ends =
      let l = so_far.each front rest ys is listed ends in
      of l.0 l.2
    where
      of : (others : List Y) → Left P others left rest → Q
      of others (inl h) = absurd (ends.no_comma behind (sym h.1 ∙ comma_is))
      of others (inr (ts, left_is, own)) =
          let f = first_of P ts others rest own in
          let behind_is : behind ≡ ts ++ rest = let both : comma ∷ behind ≡ comma ∷ (ts ++ rest) = sym comma_is ∙ left_is in cc in
          reads f.front f.left f.entry (behind_is ∙ f.split) f.is_entry (follows_entry P Follows at_comma f.others f.left rest f.is_left ends.ends)

-- Texts in quotes are read in one way.
use Rattle.std.proofs.Common.{◌≡◌, ℕ, suc, ◌+◌, ◌<◌, Bool, true, false, cond, eqb, List, [], ◌∷◌, ◌++◌, length, get_or, subst, sym, refl, ap, ◌∙◌, arith, append_assoc}
use Rattle.std.specs.Prelude.{◌≢◌}
use Rattle.std.specs.List.{flat_map}
use Rattle.std.proofs.lemmas.Bool.{true≢false, false≢true, ne_eqb, eq-eqb, cond-false, cond-true}
use Rattle.std.proofs.lemmas.List.Concat.{flat_map-append}
use Rattle.text_tokens.specs.Runs.{begins}
use Rattle.text_tokens.specs.Quotes.{doubled, IsQuoted}

-- no byte of the text is the quote
abbrev pub IsFree : ℕ → List ℕ → Type 0
IsFree quote text = (i : ℕ) → i < length text → get_or text i 0 ≢ quote

-- one byte, doubled or not
abbrev piece : Bool → ℕ → List ℕ
piece twice b = cond twice (b ∷ b ∷ []) (b ∷ [])

one_piece : (s t : Bool) (x y : ℕ) (xs ys : List ℕ) → (x ≡ y → s ≡ t) → piece s x ++ xs ≡ piece t y ++ ys → (x ≡ y) × (xs ≡ ys)
one_piece true true x y xs ys same e = ((cc), (cc))
one_piece false false x y xs ys same e = ((cc), (cc))
one_piece true false x y xs ys same e = absurd (true≢false (same (cc)))
one_piece false true x y xs ys same e = absurd (false≢true (same (cc)))

piece_closes : (t : Bool) (x quote : ℕ) (xs after : List ℕ) → t ≡ eqb x quote → piece t x ++ xs ≡ quote ∷ after → begins (λ b. eqb b quote) after ≡ false → ⊥
piece_closes true x quote xs after is e closed =
    let rest : after ≡ x ∷ xs = cc in
    true≢false (is ∙ sym (ap (begins (λ b. eqb b quote)) rest) ∙ closed)
piece_closes false x quote xs after is e closed =
    let head : x ≡ quote = cc in
    false≢true (is ∙ eq-eqb x quote head)

free_tail : (quote x : ℕ) (xs : List ℕ) → IsFree quote (x ∷ xs) → IsFree quote xs
free_tail quote x xs free i below = free (suc i) (omega arith)

-- without quotes nothing is doubled
pub doubled_free : (quote : ℕ) (text : List ℕ) → IsFree quote text → doubled quote text ≡ text
doubled_free quote [] free = refl
doubled_free quote (x ∷ xs) free =
    let differs : eqb x quote ≡ false = ne_eqb x quote (free 0 (omega arith)) in
    (λ i. piece (differs i) x ++ doubled_free quote xs (free_tail quote x xs free) i)

pub doubled_quote : (quote : ℕ) → doubled quote (quote ∷ []) ≡ quote ∷ quote ∷ []
doubled_quote quote = ap (λ t. piece t quote ++ []) (eq-eqb quote quote refl)

pub doubled-append : (quote : ℕ) (xs ys : List ℕ) → doubled quote (xs ++ ys) ≡ doubled quote xs ++ doubled quote ys
doubled-append quote xs ys = flat_map-append _ xs ys

-- one more piece without quotes, and then the quote that closes
pub quoted_end : (quote : ℕ) (text content rest before after : List ℕ) → text ≡ doubled quote content ++ rest → rest ≡ before ++ quote ∷ after → IsFree quote before → begins (λ b. eqb b quote) after ≡ false → IsQuoted quote text (content ++ before) after
quoted_end quote text content rest before after text_is rest_is free closed = record {
  text_is =
      text_is ∙ ap (λ r. doubled quote content ++ r) rest_is
      ∙ ap (λ p. doubled quote content ++ (p ++ quote ∷ after)) (sym (doubled_free quote before free))
      ∙ sym (append_assoc (doubled quote content) (doubled quote before) (quote ∷ after))
      ∙ ap (λ p. p ++ quote ∷ after) (sym (doubled-append quote content before));
  closed = closed;
}

-- one more piece, and a doubled quote
pub quoted_more : (quote : ℕ) (text content rest before after more : List ℕ) → text ≡ doubled quote content ++ rest → rest ≡ before ++ quote ∷ after → IsFree quote before → after ≡ quote ∷ more → text ≡ doubled quote ((content ++ before) ++ quote ∷ []) ++ more
quoted_more quote text content rest before after more text_is rest_is free after_is =
    let piece_is : doubled quote ((content ++ before) ++ quote ∷ []) ≡ (doubled quote content ++ before) ++ quote ∷ quote ∷ [] =
    doubled-append quote (content ++ before) (quote ∷ [])
    ∙ (λ i. doubled-append quote content before i ++ doubled_quote quote i)
    ∙ ap (λ p. (doubled quote content ++ p) ++ quote ∷ quote ∷ []) (doubled_free quote before free) in
    text_is ∙ ap (λ r. doubled quote content ++ r) (rest_is ∙ ap (λ a. before ++ quote ∷ a) after_is)
    ∙ sym (append_assoc (doubled quote content) before (quote ∷ quote ∷ more))
    ∙ sym (append_assoc (doubled quote content ++ before) (quote ∷ quote ∷ []) more)
    ∙ ap (λ p. p ++ more) (sym piece_is)

-- what has no quote any more isn't closed
not_free : (quote : ℕ) (xs ys : List ℕ) → IsFree quote (xs ++ quote ∷ ys) → ⊥
not_free quote [] ys free = free 0 (omega arith) refl
not_free quote (x ∷ xs) ys free = not_free quote xs ys (free_tail quote x (xs ++ quote ∷ ys) free)

pub unclosed : (quote : ℕ) (c d rest after : List ℕ) → doubled quote c ++ rest ≡ doubled quote d ++ quote ∷ after → IsFree quote rest → begins (λ b. eqb b quote) after ≡ false → ⊥
unclosed quote [] d rest after e free closed = not_free quote (doubled quote d) after (subst (IsFree quote) e free)
unclosed quote (x ∷ c) [] rest after e free closed =
    piece_closes (eqb x quote) x quote (doubled quote c ++ rest) after refl (sym (append_assoc (piece (eqb x quote) x) (doubled quote c) rest) ∙ e) closed
unclosed quote (x ∷ c) (y ∷ d) rest after e free closed =
    let both = one_piece (eqb x quote) (eqb y quote) x y (doubled quote c ++ rest) (doubled quote d ++ quote ∷ after) (ap (λ b. eqb b quote))
    (sym (append_assoc (piece (eqb x quote) x) (doubled quote c) rest) ∙ e ∙ append_assoc (piece (eqb y quote) y) (doubled quote d) (quote ∷ after)) in
    unclosed quote c d rest after both.1 free closed

-- a text has one content in quotes at its front
contents : (quote : ℕ) (c d after other : List ℕ) → doubled quote c ++ quote ∷ after ≡ doubled quote d ++ quote ∷ other → begins (λ b. eqb b quote) after ≡ false → begins (λ b. eqb b quote) other ≡ false → (c ≡ d) × (after ≡ other)
contents quote [] [] after other e closed other_closed = (refl, (cc))
contents quote (x ∷ c) [] after other e closed other_closed =
    absurd (piece_closes (eqb x quote) x quote (doubled quote c ++ quote ∷ after) other refl (sym (append_assoc (piece (eqb x quote) x) (doubled quote c) (quote ∷ after)) ∙ e) other_closed)
contents quote [] (y ∷ d) after other e closed other_closed =
    absurd (piece_closes (eqb y quote) y quote (doubled quote d ++ quote ∷ other) after refl (sym (append_assoc (piece (eqb y quote) y) (doubled quote d) (quote ∷ other)) ∙ sym e) closed)
contents quote (x ∷ c) (y ∷ d) after other e closed other_closed =
    let both = one_piece (eqb x quote) (eqb y quote) x y (doubled quote c ++ quote ∷ after) (doubled quote d ++ quote ∷ other) (ap (λ b. eqb b quote))
    (sym (append_assoc (piece (eqb x quote) x) (doubled quote c) (quote ∷ after)) ∙ e ∙ append_assoc (piece (eqb y quote) y) (doubled quote d) (quote ∷ other)) in
    let rest = contents quote c d after other both.1 closed other_closed in
    ((λ i. both.0 i ∷ rest.0 i), rest.1)

pub quoted_once : (quote : ℕ) (text c d after other : List ℕ) → IsQuoted quote text c after → IsQuoted quote text d other → (c ≡ d) × (after ≡ other)
quoted_once quote text c d after other h k = contents quote c d after other (sym h.text_is ∙ k.text_is) h.closed k.closed

-- what doesn't begin with the quote
pub closed_from : (quote : ℕ) (after : List ℕ) → ((rest : List ℕ) → after ≢ quote ∷ rest) → begins (λ b. eqb b quote) after ≡ false
closed_from quote [] none = refl
closed_from quote (b ∷ bs) none = ne_eqb b quote (λ e. none bs (ap (λ x. x ∷ bs) e))

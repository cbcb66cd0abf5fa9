-- Items, keys and names: what their readings are made of.
use Rattle.std.proofs.Common.{◌≡◌, ℕ, ◌⊎◌, Bool, true, false, List, [], ◌∷◌, ◌++◌, sym, refl, ap, ◌∙◌, subst, inl, inr, append_assoc}
use Rattle.std.specs.Prelude.{◌≢◌, codes}
use Rattle.std.specs.Str.{bytes_eq}
use Rattle.ps_frame.specs.declared.expr.Operator.{Operator}
use Rattle.ps_frame.specs.declared.expr.Operator.TheVariants as op
use Rattle.text_queries.specs.Grammar.{IsColumn, IsItem, IsKey, IsName, IsWhole, operator_token}
use Rattle.text_queries.specs.Queries.{Expr, Item, Key}
use Rattle.text_reading.specs.Reading.{Ends, EndsKey, HoldsShallow, IsRefusal, IsShallow}
use Rattle.text_reading.proofs.Chains.{is_memory, operator_no_mark}
use Rattle.text_reading.proofs.LeafForms.{texts_differ}
use Rattle.text_tokens.specs.declared.error.TextError.{TextError}
use Rattle.text_tokens.specs.declared.error.TextError.TheVariants as refusal
use Rattle.text_tokens.specs.declared.token.Sign.TheVariants as sign
use Rattle.text_tokens.specs.declared.token.Token.{Token}
use Rattle.text_tokens.specs.declared.token.Token.TheVariants as token

-- a token is one name at most
pub name_once : (t : Token) (n m : List ℕ) → IsName t n → IsName t m → n ≡ m
name_once (token.Word word) n m h k = sym h.0 ∙ k.0
name_once (token.Name quoted) n m h k = sym h ∙ k
name_once (token.Digits digits) n m h k = absurd h
name_once (token.Text text) n m h k = absurd h
name_once (token.Sign s) n m h k = absurd h

-- an error at a name, where there is one, is want of memory
pub name_memory : (error : TextError) (t : Token) (n : List ℕ) → (error ≡ refusal.NoReading → (name : List ℕ) → ¬ IsName t name) → IsRefusal error → IsName t n → error ≡ refusal.OutOfMemory
name_memory error t n none causes h = is_memory error (λ refused. none refused n h) causes

-- other words than `or` and `and` are no operators
pub operator_no_word : (o : Operator) (word : List ℕ) → bytes_eq (codes "or") word ≡ false → bytes_eq (codes "and") word ≡ false → operator_token o ≢ token.Word word
operator_no_word op.Or word no_or no_and e = texts_differ (codes "or") word no_or (let same : codes "or" ≡ word = cc in same)
operator_no_word op.And word no_or no_and e = texts_differ (codes "and") word no_and (let same : codes "and" ≡ word = cc in same)
operator_no_word _ word no_or no_and e = let other = e in cc

-- what may begin with another word may stand behind an expression
pub ends_word : (least : ℕ) (word : List ℕ) (rest : List Token) → bytes_eq (codes "or") word ≡ false → bytes_eq (codes "and") word ≡ false → Ends least (token.Word word ∷ rest)
ends_word least word rest no_or no_and = record {
  no_operator = λ o more is. absurd (operator_no_word o word no_or no_and (let same : operator_token o ≡ token.Word word = cc in same));
  no_call = λ more is. let other : token.Word word ≡ token.Sign sign.Open = cc in cc;
}

-- a comma may stand behind an expression, and so may a bar, and nothing
pub ends_comma : (least : ℕ) (rest : List Token) → Ends least (token.Sign sign.Comma ∷ rest)
ends_comma least rest = record {
  no_operator = λ o more is. absurd (operator_no_mark o (token.Sign sign.Comma) refl (let same : operator_token o ≡ token.Sign sign.Comma = cc in same));
  no_call = λ more is. let other : token.Sign sign.Comma ≡ token.Sign sign.Open = cc in cc;
}

pub ends_bar : (least : ℕ) (rest : List Token) → Ends least (token.Sign sign.Bar ∷ rest)
ends_bar least rest = record {
  no_operator = λ o more is. absurd (operator_no_mark o (token.Sign sign.Bar) refl (let same : operator_token o ≡ token.Sign sign.Bar = cc in same));
  no_call = λ more is. let other : token.Sign sign.Bar ≡ token.Sign sign.Open = cc in cc;
}

pub ends_close : (least : ℕ) (rest : List Token) → Ends least (token.Sign sign.Close ∷ rest)
ends_close least rest = record {
  no_operator = λ o more is. absurd (operator_no_mark o (token.Sign sign.Close) refl (let same : operator_token o ≡ token.Sign sign.Close = cc in same));
  no_call = λ more is. let other : token.Sign sign.Close ≡ token.Sign sign.Open = cc in cc;
}

pub ends_nothing : (least : ℕ) → Ends least []
ends_nothing least = record { no_operator = λ o more is. let other = is in cc; no_call = λ more is. let other = is in cc }

pub ends_key_comma : (rest : List Token) → EndsKey (token.Sign sign.Comma ∷ rest)
ends_key_comma rest = record { ends = ends_comma 1 rest; no_desc = λ more is. let other : token.Sign sign.Comma ≡ token.Word (codes "desc") = cc in cc }

-- the parts of an item that is read
pub record ItemParts (tokens after : List Token) (part : Item) : Type 0 where
  pub first : Token
  pub more : List Token
  pub begins : tokens ≡ first ∷ token.Sign sign.Is ∷ (more ++ after)
  pub named : IsName first part.name
  pub whole : IsShallow IsWhole more part.expr

pub item_parts : (tokens front after : List Token) (part : Item) → tokens ≡ front ++ after → HoldsShallow IsItem (λ item. item.expr) front part → ItemParts tokens after part
item_parts tokens front after part is h = record {
  first = h.0.0;
  more = h.0.1;
  begins = is ∙ ap (λ f. f ++ after) h.0.2;
  named = h.0.3;
  whole = (h.0.4, h.1);
}

-- the same parts, where the reader found the first two tokens
pub item_at : (tokens : List Token) (first : Token) (behind rest after : List Token) (part : Item) → ItemParts tokens after part → tokens ≡ first ∷ behind → behind ≡ token.Sign sign.Is ∷ rest → (more : List Token) × (rest ≡ more ++ after) × IsName first part.name × IsShallow IsWhole more part.expr
item_at tokens first behind rest after part parts begins goes =
    let all : first ∷ token.Sign sign.Is ∷ rest ≡ parts.first ∷ token.Sign sign.Is ∷ (parts.more ++ after) = ap (λ b. first ∷ b) (sym goes) ∙ sym begins ∙ parts.begins in
    let same : parts.first ≡ first = cc in
    let left : rest ≡ parts.more ++ after = cc in
    (parts.more, left, subst (λ t. IsName t part.name) same parts.named, parts.whole)

pub item_found : (tokens : List Token) (first : Token) (behind rest after : List Token) (name : List ℕ) (e : Expr) → tokens ≡ first ∷ behind → behind ≡ token.Sign sign.Is ∷ rest → IsName first name → ((front : List Token) × (rest ≡ front ++ after) × IsShallow IsWhole front e)
    → (front : List Token) × (tokens ≡ front ++ after) × HoldsShallow IsItem (λ item. item.expr) front (record { name = name; expr = e })
item_found tokens first behind rest after name e begins goes named found =
    (first ∷ token.Sign sign.Is ∷ found.0, begins ∙ ap (λ b. first ∷ b) (goes ∙ ap (λ r. token.Sign sign.Is ∷ r) found.1), ((first, found.0, refl, named, found.2.0), found.2.1))

pub item_same : (name : List ℕ) (e : Expr) (part : Item) → name ≡ part.name → e ≡ part.expr → (let made : Item = record { name = name; expr = e } in made ≡ part)
item_same name e part n x i = record { name = n i; expr = x i }

-- the parts of a key that is read: its expression, and what stands behind that, with `desc` before it or not
pub record KeyParts (tokens after : List Token) (part : Key) : Type 0 where
  pub more : List Token
  pub left : List Token
  pub split : tokens ≡ more ++ left
  pub whole : IsShallow IsWhole more part.expr
  pub ends : Ends 1 left
  pub which : ((part.desc ≡ false) × (left ≡ after)) ⊎ ((part.desc ≡ true) × (left ≡ token.Word (codes "desc") ∷ after))

pub key_parts : (tokens front after : List Token) (part : Key) → tokens ≡ front ++ after → HoldsShallow IsKey (λ key. key.expr) front part → EndsKey after → KeyParts tokens after part
key_parts tokens front after part is h ends = of h.0
  where
    of : IsKey front part → KeyParts tokens after part
    of (inl k) = record { more = front; left = after; split = is; whole = (k.1, h.1); ends = ends.ends; which = inl (k.0, refl) }
    of (inr k) = record {
      more = k.1;
      left = token.Word (codes "desc") ∷ after;
      split = is ∙ ap (λ f. f ++ after) k.2 ∙ append_assoc k.1 (token.Word (codes "desc") ∷ []) after;
      whole = (k.3, h.1);
      ends = ends_word 1 (codes "desc") after refl refl;
      which = inr (k.0, refl);
    }

key_same : (e : Expr) (d : Bool) (part : Key) → e ≡ part.expr → d ≡ part.desc → (let made : Key = record { expr = e; desc = d } in made ≡ part)
key_same e d part x b i = record { expr = x i; desc = b i }

-- a key with `desc`
pub key_desc_found : (tokens rest behind : List Token) (e : Expr) → ((front : List Token) × (tokens ≡ front ++ rest) × IsShallow IsWhole front e) → rest ≡ token.Word (codes "desc") ∷ behind
    → (front : List Token) × (tokens ≡ front ++ behind) × HoldsShallow IsKey (λ key. key.expr) front (record { expr = e; desc = true })
key_desc_found tokens rest behind e found goes = (
  found.0 ++ token.Word (codes "desc") ∷ [],
  found.1 ∙ ap (λ r. found.0 ++ r) goes ∙ sym (append_assoc found.0 (token.Word (codes "desc") ∷ []) behind),
  (inr (refl, found.0, refl, found.2.0), found.2.1),
)

pub key_desc_reads : (rest behind after : List Token) (e : Expr) (part : Key) (tokens : List Token) (parts : KeyParts tokens after part) → rest ≡ token.Word (codes "desc") ∷ behind → (e ≡ part.expr) × (rest ≡ parts.left) → EndsKey after
    → (let made : Key = record { expr = e; desc = true } in made ≡ part) × (behind ≡ after)
key_desc_reads rest behind after e part tokens parts goes same ends = of parts.which
  where
    of : ((part.desc ≡ false) × (parts.left ≡ after)) ⊎ ((part.desc ≡ true) × (parts.left ≡ token.Word (codes "desc") ∷ after)) → (let made : Key = record { expr = e; desc = true } in made ≡ part) × (behind ≡ after)
    of (inl k) = absurd (ends.no_desc behind (sym k.1 ∙ sym same.1 ∙ goes))
    of (inr k) =
        let all : token.Word (codes "desc") ∷ behind ≡ token.Word (codes "desc") ∷ after = sym goes ∙ same.1 ∙ k.1 in
        let left : behind ≡ after = cc in
        (key_same e true part same.0 (sym k.0), left)

-- a key without
pub key_plain_found : (tokens rest : List Token) (e : Expr) → ((front : List Token) × (tokens ≡ front ++ rest) × IsShallow IsWhole front e)
    → (front : List Token) × (tokens ≡ front ++ rest) × HoldsShallow IsKey (λ key. key.expr) front (record { expr = e; desc = false })
key_plain_found tokens rest e found = (found.0, found.1, (inl (refl, found.2.0), found.2.1))

pub key_plain_reads : (rest after : List Token) (e : Expr) (part : Key) (tokens : List Token) (parts : KeyParts tokens after part) → ((behind : List Token) → rest ≢ token.Word (codes "desc") ∷ behind) → (e ≡ part.expr) × (rest ≡ parts.left)
    → (let made : Key = record { expr = e; desc = false } in made ≡ part) × (rest ≡ after)
key_plain_reads rest after e part tokens parts none same = of parts.which
  where
    of : ((part.desc ≡ false) × (parts.left ≡ after)) ⊎ ((part.desc ≡ true) × (parts.left ≡ token.Word (codes "desc") ∷ after)) → (let made : Key = record { expr = e; desc = false } in made ≡ part) × (rest ≡ after)
    of (inl k) = (key_same e false part same.0 (sym k.0), same.1 ∙ k.1)
    of (inr k) = absurd (none after (same.1 ∙ k.1))

-- a name that is read
pub column_at : (tokens : List Token) (first : Token) (rest front after : List Token) (name : List ℕ) → tokens ≡ first ∷ rest → tokens ≡ front ++ after → IsColumn front name → IsName first name × (rest ≡ after)
column_at tokens first rest front after name begins is h =
    let all : first ∷ rest ≡ h.0 ∷ after = sym begins ∙ is ∙ ap (λ f. f ++ after) h.1 in
    let same : h.0 ≡ first = cc in
    let left : rest ≡ after = cc in
    (subst (λ t. IsName t name) same h.2, left)

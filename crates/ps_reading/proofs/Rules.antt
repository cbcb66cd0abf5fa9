-- What is read off tokens, a token and a turn at a time.
use Rattle.std.proofs.Common.{◌≡◌, ℕ, suc, ◌-◌, ◌<◌, ◌≤◌, List, [], ◌∷◌, length, Option, Some, None, option_map, option_and_then, refl, sym, ap, ◌∙◌, arith}
use Rattle.json.specs.Token.{Token}
use Rattle.json.specs.Lex.{tokens}
use Rattle.json.specs.Json as json
use Rattle.json.specs.Json.{Parse, parse_map, after_end_array, read_key, if_last, items, members, value}
use Rattle.json.proofs.Grammar.{left, value_is, value-begin_array, value-begin_object, skip_value-shorter, read_key-shorter, items_end, items_more, members_end, members_more}
use Rattle.serde_json.specs.Data.{Data, array, boolean, null, number, object, string, item, Members, no_members, Num, put}
use Rattle.serde_json.specs.Read.{converted, max_depth, number_of, of_items, of_json, of_members, read}
use Rattle.serde_json.specs.View.{items_of}
use Rattle.ps_reading.specs.Reading.{Reads, ReadsItems, ReadsMembers}

-- ---- what was converted was read

abbrev pick : {A : Type 0} → A → Option A → A
pick d None = d
pick d (Some a) = a

found : {A B : Type 0} (a : A) (r s : List Token) (x : Option B) (b : B) → option_map {U = B × List Token} (λ y. (y, r)) x ≡ Some (b, s) → (r ≡ s) × (x ≡ Some b)
found a r s None b e = absurd (cc)
found a r s (Some y) b e = let same = ap (pick (y, r)) e in (ap (λ p. p.1) same, ap (λ p. Some p.0) same)

converted_some : {A B : Type 0} (f : A → Option B) (o : Option (A × List Token)) (b : B) (r : List Token) → converted f o ≡ Some (b, r) → (a : A) × (o ≡ Some (a, r)) × (f a ≡ Some b)
converted_some f None b r e = absurd (cc)
converted_some f (Some p) b r e = let both = found p.0 p.1 r (f p.0) b e in (p.0, ap (λ s. Some (p.0, s)) both.0, both.1)

twice : {A B : Type 0} (g : A → B) (r : List Token) (x : Option A) → option_map (λ b. (b, r)) (option_map g x) ≡ parse_map g (option_map (λ a. (a, r)) x)
twice g r None = refl
twice g r (Some a) = refl

converted-array : (o : Option (json.Items × List Token)) → converted of_json (parse_map json.array o) ≡ parse_map array (converted of_items o)
converted-array None = refl
converted-array (Some p) = twice array p.1 (of_items p.0)

converted-object : (o : Option (json.Members × List Token)) → converted of_json (parse_map json.object o) ≡ parse_map object (converted (λ ms. of_members ms no_members) o)
converted-object None = refl
converted-object (Some p) = twice object p.1 (of_members p.0 no_members)

converted-item : (j : json.Json) (d : Data) → of_json j ≡ Some d → (o : Option (json.Items × List Token)) → converted of_items (parse_map (json.item j) o) ≡ parse_map (item d) (converted of_items o)
converted-item j d e None = refl
converted-item j d e (Some p) = rw e (twice (item d) p.1 (of_items p.0))

converted-member : (k : List ℕ) (j : json.Json) (d : Data) (found : Members) → of_json j ≡ Some d → (o : Option (json.Members × List Token))
    → converted (λ ms. of_members ms found) (parse_map (json.member k j) o) ≡ converted (λ ms. of_members ms (put k d found)) o
converted-member k j d found e None = refl
converted-member k j d found e (Some p) = rw e

-- ---- one token

pub reads-null : (ts : List Token) → Reads 0 (Token.null ∷ ts) null ts
reads-null ts = record { at = λ depth _. ap (converted of_json) (value_is depth (Token.null ∷ ts)) }

pub reads-boolean : (b : _) (ts : List Token) → Reads 0 (Token.boolean b ∷ ts) (boolean b) ts
reads-boolean b ts = record { at = λ depth _. ap (converted of_json) (value_is depth (Token.boolean b ∷ ts)) }

pub reads-string : (s : List ℕ) (ts : List Token) → Reads 0 (Token.string s ∷ ts) (string s) ts
reads-string s ts = record { at = λ depth _. ap (converted of_json) (value_is depth (Token.string s ∷ ts)) }

pub reads-number : (s : List ℕ) (n : Num) (ts : List Token) → number_of s ≡ Some n → Reads 0 (Token.number s ∷ ts) (number n) ts
reads-number s n ts e = record { at = λ depth _. ap (converted of_json) (value_is depth (Token.number s ∷ ts)) ∙ rw e }

-- ---- other words for the same

pub reads-same : {h : ℕ} {ts us r : List Token} {d e : Data} → us ≡ ts → e ≡ d → Reads h ts d r → Reads h us e r
reads-same {h} {ts} {us} {r} {d} {e} same alike is = record { at = λ depth enough. ap (λ vs. converted of_json (value depth vs)) same ∙ is.at depth enough ∙ ap (λ x. Some (x, r)) (sym alike) }

pub reads-within : {h k : ℕ} {ts r : List Token} {d : Data} → h ≤ k → Reads h ts d r → Reads k ts d r
reads-within {h} {k} le is = record { at = λ depth enough. is.at depth (omega arith) }

-- what was read is less
pub reads-shorter : {h : ℕ} {ts r : List Token} {d : Data} → Reads h ts d r → length r < length ts
reads-shorter {h} {ts} {r} {d} is =
    let j = converted_some of_json (value h ts) d r (is.at h (omega arith)) in
    skip_value-shorter h ts r (ap left j.1)

nothing : {A P : Type 0} (x : A) → None ≡ Some x → P
nothing x e = cc

-- no array ends where a value begins
going : (h : ℕ) (ts r : List Token) (d : Data) → Reads h ts d r → after_end_array ts ≡ None
going h [] r d is = refl
going h (Token.begin_object ∷ ts) r d is = refl
going h (Token.end_object ∷ ts) r d is = refl
going h (Token.begin_array ∷ ts) r d is = refl
going h (Token.end_array ∷ ts) r d is = nothing (d, r) (sym (ap (converted of_json) (value_is h (Token.end_array ∷ ts))) ∙ is.at h (omega arith))
going h (Token.key s ∷ ts) r d is = refl
going h (Token.string s ∷ ts) r d is = refl
going h (Token.number s ∷ ts) r d is = refl
going h (Token.boolean b ∷ ts) r d is = refl
going h (Token.null ∷ ts) r d is = refl
going h (Token.bad ∷ ts) r d is = refl

-- ---- arrays

pub reads-array : {h : ℕ} {ts r : List Token} {ds : List Data} → ReadsItems h ts ds r → Reads (suc h) (Token.begin_array ∷ ts) (array (items_of ds)) r
reads-array {h} {ts} {r} {ds} is = record {
  at = λ depth enough.
      ap (converted of_json) (value-begin_array depth ts (omega arith)) ∙ converted-array (items (value (depth - 1)) (length ts) ts)
      ∙ ap (parse_map array) (is.at (depth - 1) (length ts) (omega arith) (omega arith));
}

pub reads_items-end : (h : ℕ) {ts r : List Token} → after_end_array ts ≡ Some r → ReadsItems h ts [] r
reads_items-end h {ts} {r} e = record { at = λ depth turns deep enough. ap (converted of_items) (items_end (value depth) turns ts r enough e) }

pub reads_items-more : {h : ℕ} {ts r s : List Token} {d : Data} {ds : List Data} → Reads h ts d r → ReadsItems h r ds s → ReadsItems h ts (d ∷ ds) s
reads_items-more {h} {ts} {r} {s} {d} {ds} first rest = record {
  at = λ depth turns deep enough.
      let less = reads-shorter first in
      let j = converted_some of_json (value depth ts) d r (first.at depth deep) in
      ap (converted of_items) (items_more (value depth) turns ts r j.0 (omega arith) (going h ts r d first) j.1) ∙ converted-item j.0 d j.2 _
      ∙ ap (parse_map (item d)) (rest.at depth (turns - 1) deep (omega arith));
}

-- ---- objects

pub reads-object : {h : ℕ} {ts r : List Token} {ms : Members} → ReadsMembers h ts no_members ms r → Reads (suc h) (Token.begin_object ∷ ts) (object ms) r
reads-object {h} {ts} {r} {ms} is = record {
  at = λ depth enough.
      ap (converted of_json) (value-begin_object depth ts (omega arith)) ∙ converted-object (members (value (depth - 1)) (length ts) ts)
      ∙ ap (parse_map object) (is.at (depth - 1) (length ts) (omega arith) (omega arith));
}

pub reads_members-end : (h : ℕ) {ts r : List Token} (found : Members) → read_key ts ≡ Some (None, r) → ReadsMembers h ts found found r
reads_members-end h {ts} {r} found e = record { at = λ depth turns deep enough. ap (converted (λ ms. of_members ms found)) (members_end (value depth) turns ts r enough e) }

pub reads_members-more : {h : ℕ} {ts s r t : List Token} {k : List ℕ} {d : Data} {found all : Members}
    → read_key ts ≡ Some (Some k, s) → Reads h s d r → ReadsMembers h r (put k d found) all t → ReadsMembers h ts found all t
reads_members-more {h} {ts} {s} {r} {t} {k} {d} {found} {all} key first rest = record {
  at = λ depth turns deep enough.
      let less = read_key-shorter ts (Some k) s key in
      let lesser = reads-shorter first in
      let j = converted_some of_json (value depth s) d r (first.at depth deep) in
      ap (converted (λ ms. of_members ms found)) (members_more (value depth) turns k ts s r j.0 (omega arith) key j.1) ∙ converted-member k j.0 d found j.2 _
      ∙ rest.at depth (turns - 1) deep (omega arith);
}

-- ---- the whole text

abbrev whole : Option (json.Json × List Token) → Option Data
whole o = option_and_then of_json (option_and_then (λ p. if_last p.0 p.1) o)

pub reads-whole : (h : ℕ) (text : List ℕ) {d : Data} → h ≤ max_depth → Reads h (tokens text) d [] → read text ≡ Some d
reads-whole h text {d} enough is =
    let j = converted_some of_json (value max_depth (tokens text)) d [] (is.at max_depth enough) in
    ap whole j.1 ∙ j.2

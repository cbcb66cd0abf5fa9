-- The names that a call's streams show: beside the input's own they are fresh, and each stands once.
use Rattle.std.proofs.Common.{◌≡◌, ◌≢◌, ◌⊎◌, inl, inr, ℕ, zero, suc, ◌+◌, ◌<◌, ◌≤◌, Bool, true, false, cond, List, [], ◌∷◌, ◌++◌, length, refl, sym, ap, subst, ◌∙◌, arith}
use Rattle.std.specs.Prelude.{flat_map, slice_get, ◌==◌}
use Rattle.std.specs.List.{AllByRecursion, list_any}
use Rattle.std.proofs.lemmas.Bool.{and_from, cases_lt, eq-eqb, eqb-true}
use Rattle.std.proofs.lemmas.List.{map-append}
use Rattle.ps_frame.specs.Tables.{Fields}
use Rattle.ps_frame.specs.declared.value.DataType.{DataType}
use Rattle.ps_meaning.specs.Schemas.{names_of}
use Rattle.ps_meaning.specs.Shape.{Shape}
use Rattle.ps_meaning.specs.Steps.{Name}
use Rattle.ps_rules.specs.Names.{IsKnown, Names}
use Rattle.ps_rules.specs.Slots.{State, Stream, added, all_added, same_stream, schema_at, schema_or_none}
use Rattle.ps_shares.proofs.Adding.{Adds, IsNode}
use Rattle.ps_shares.proofs.FlatLength.{both_hold, neither}
use Rattle.ps_shares.proofs.Fresh.{Grown}
use Rattle.name_rules.proofs.Times.{FreshOnce, fewer_fresh, known_none, none_fresh, then_fresh, times, times_append}

pub same_is : (a b : Stream) → same_stream a b ≡ true → a ≡ b
same_is a b h =
    let p = both_hold (a.0 == b.0) (a.1 == b.1) h in
    let x = eqb-true a.0 b.0 p.0 in
    let y = eqb-true a.1 b.1 p.1 in
    λ i. (x i, y i)

pub same_self : (a : Stream) → same_stream a a ≡ true
same_self a = and_from (a.0 == a.0) (a.1 == a.1) (eq-eqb a.0 a.0 refl) (eq-eqb a.1 a.1 refl)

-- the schemas of nodes that were there stay
one_later : (a more : Shape) (m : ℕ) → m < length a → schema_or_none (slice_get (a ++ more) m) ≡ schema_or_none (slice_get a m)
one_later [] more m lt = absurd (omega arith)
one_later (x ∷ a) more zero lt = refl
one_later (x ∷ a) more (suc m) lt = one_later a more m (omega arith)

pub schema_later : (a more : Shape) (t : Stream) → IsNode a t → schema_at (a ++ more) t ≡ schema_at a t
schema_later a more t lt = one_later a more t.0 lt

-- of lists
pub some_first : {A : Type 0} (xs ys : List A) → xs ≢ [] → xs ++ ys ≢ []
some_first [] ys some e = some refl
some_first (x ∷ xs) ys some e = cc

pub some_last : {A : Type 0} (xs ys : List A) → ys ≢ [] → xs ++ ys ≢ []
some_last [] ys some e = some e
some_last (x ∷ xs) ys some e = cc

names_append : (xs ys : Fields) → names_of (xs ++ ys) ≡ names_of xs ++ names_of ys
names_append xs ys = map-append (λ (f : Name × DataType). f.0) xs ys

all_last : (P : Stream → Type 0) (t : Stream) (ss : List Stream) → P t → AllByRecursion P ss → AllByRecursion P (ss ++ t ∷ [])
all_last P t [] p all = (p, tt)
all_last P t (s ∷ ss) p all = (all.0, all_last P t ss p all.1)

module _ (input : Stream) where
  -- how often a name stands in a stream that isn't the input
  abbrev pub own : Shape → Name → Stream → ℕ
  own nodes n t = cond (same_stream input t) 0 (times n (names_of (schema_at nodes t)))

  abbrev pub made : Shape → List Stream → Name → ℕ
  made nodes [] n = 0
  made nodes (t ∷ ss) n = own nodes n t + made nodes ss n

  -- how often the input is among streams
  abbrev pub inputs : List Stream → ℕ
  inputs [] = 0
  inputs (t ∷ ss) = cond (same_stream input t) 1 0 + inputs ss

  made_append : (nodes : Shape) (n : Name) (ss ts : List Stream) → made nodes (ss ++ ts) n ≡ made nodes ss n + made nodes ts n
  made_append nodes n [] ts = omega arith
  made_append nodes n (s ∷ ss) ts = let r = made_append nodes n ss ts in omega arith

  made_added : (nodes : Shape) (n : Name) (t : Stream) (ss : List Stream) → made nodes (added t ss) n ≤ made nodes ss n + own nodes n t
  made_added nodes n t ss = by (list_any (same_stream t) ss)
    where
      by : (b : Bool) → made nodes (cond b ss (ss ++ t ∷ [])) n ≤ made nodes ss n + own nodes n t
      by true = omega arith
      by false = let r = made_append nodes n ss (t ∷ []) in omega arith

  made_all_added : (nodes : Shape) (n : Name) (ts ss : List Stream) → made nodes (all_added ts ss) n ≤ made nodes ss n + made nodes ts n
  made_all_added nodes n [] ss = omega arith
  made_all_added nodes n (t ∷ ts) ss =
      let p = made_added nodes n t ss in
      let q = made_all_added nodes n ts (added t ss) in
      omega arith

  made_later : (a more : Shape) (n : Name) (ss : List Stream) → AllByRecursion (IsNode a) ss → made (a ++ more) ss n ≡ made a ss n
  made_later a more n [] all = refl
  made_later a more n (t ∷ ss) all =
      let p = schema_later a more t all.0 in
      let q = made_later a more n ss all.1 in
      λ i. cond (same_stream input t) 0 (times n (names_of (p i))) + q i

  -- the input is added once
  inputs_append : (ss ts : List Stream) → inputs (ss ++ ts) ≡ inputs ss + inputs ts
  inputs_append [] ts = omega arith
  inputs_append (s ∷ ss) ts = let r = inputs_append ss ts in omega arith

  no_inputs : (ss : List Stream) → list_any (same_stream input) ss ≡ false → inputs ss ≡ 0
  no_inputs [] h = refl
  no_inputs (s ∷ ss) h =
      let b = neither (same_stream input s) (list_any (same_stream input) ss) h in
      let r = no_inputs ss b.1 in
      let q = b.0 in
      (λ i. cond (q i) 1 0 + r i) ∙ omega arith

  inputs_added : (t : Stream) (ss : List Stream) → inputs ss ≤ 1 → inputs (added t ss) ≤ 1
  inputs_added t ss le = by (list_any (same_stream t) ss) refl (same_stream input t) refl
    where
      by : (b : Bool) → list_any (same_stream t) ss ≡ b → (c : Bool) → same_stream input t ≡ c → inputs (cond b ss (ss ++ t ∷ [])) ≤ 1
      by true p c q = le
      by false p true q =
          let is : t ≡ input = sym (same_is input t q) in
          let none = no_inputs ss (ap (λ i. list_any (same_stream i) ss) (sym is) ∙ p) in
          let r = inputs_append ss (t ∷ []) in
          let one : inputs (t ∷ []) ≡ 1 = ap (λ b. cond b 1 0 + 0) q in
          omega arith
      by false p false q =
          let r = inputs_append ss (t ∷ []) in
          let one : inputs (t ∷ []) ≡ 0 = ap (λ b. cond b 1 0 + 0) q in
          omega arith

  inputs_all_added : (ts ss : List Stream) → inputs ss ≤ 1 → inputs (all_added ts ss) ≤ 1
  inputs_all_added [] ss le = le
  inputs_all_added (t ∷ ts) ss le = inputs_all_added ts (added t ss) (inputs_added t ss le)

  -- a stream of a call is a node's; it is the input, or shows a column
  abbrev pub IsStream : Shape → Stream → Type 0
  IsStream nodes t = IsNode nodes t × ((same_stream input t ≡ true) ⊎ (schema_at nodes t ≢ []))

  abbrev pub AreStreams : Shape → List Stream → Type 0
  AreStreams nodes ss = AllByRecursion (IsStream nodes) ss

  pub are_nodes : (nodes : Shape) (ss : List Stream) → AreStreams nodes ss → AllByRecursion (IsNode nodes) ss
  are_nodes nodes [] all = tt
  are_nodes nodes (s ∷ ss) all = (all.0.0, are_nodes nodes ss all.1)

  stream_later : (a more : Shape) (t : Stream) → length a ≤ length (a ++ more) → IsStream a t → IsStream (a ++ more) t
  stream_later a more t long (lt, inl q) = (omega arith, inl q)
  stream_later a more t long (lt, inr some) = (omega arith, inr (λ e. some (sym (schema_later a more t lt) ∙ e)))

  longer : (a more : Shape) → length a ≤ length (a ++ more)
  longer [] more = omega arith
  longer (x ∷ a) more = let r = longer a more in omega arith

  streams_later : (a more : Shape) (ss : List Stream) → AreStreams a ss → AreStreams (a ++ more) ss
  streams_later a more [] all = tt
  streams_later a more (s ∷ ss) all = (stream_later a more s (longer a more) all.0, streams_later a more ss all.1)

  streams_added : (nodes : Shape) (t : Stream) (ss : List Stream) → IsStream nodes t → AreStreams nodes ss → AreStreams nodes (added t ss)
  streams_added nodes t ss p all = by (list_any (same_stream t) ss)
    where
      by : (b : Bool) → AreStreams nodes (cond b ss (ss ++ t ∷ []))
      by true = all
      by false = all_last (IsStream nodes) t ss p all

  streams_all_added : (nodes : Shape) (ts ss : List Stream) → AreStreams nodes ts → AreStreams nodes ss → AreStreams nodes (all_added ts ss)
  streams_all_added nodes [] ss p all = all
  streams_all_added nodes (t ∷ ts) ss p all = streams_all_added nodes ts (added t ss) p.1 (streams_added nodes t ss p.0 all)

  -- What streams show, and what is to be computed beside them, is new since these names and stands once; the input is one of the streams at most once.
  pub record Held (a : Names) (s : State) (ss : List Stream) (u : Name → ℕ) : Type 0 where
    pub names : FreshOnce a s.names (λ n. made s.nodes ss n + u n)
    pub streams : AreStreams s.nodes ss
    pub one_input : inputs ss ≤ 1

  pub held_fewer : (a : Names) (s : State) (ss : List Stream) (u v : Name → ℕ) → ((n : Name) → v n ≤ u n) → Held a s ss u → Held a s ss v
  held_fewer a s ss u v le h =
      record {
        names = fewer_fresh a s.names (λ n. made s.nodes ss n + u n) (λ n. made s.nodes ss n + v n) (λ n. let p = le n in omega arith) h.names;
        streams = h.streams;
        one_input = h.one_input;
      }

  -- what was held, and what came to be held since
  pub held_then : (a : Names) (s t : State) (ss ts : List Stream) (u v w : Name → ℕ) → Grown a s.names → Adds s.nodes t.nodes → Grown s.names t.names → ((n : Name) → w n ≤ u n + v n) → Held a s ss u → Held s.names t ts v
      → Held a t (all_added ts ss) w
  held_then a s t ss ts u v w g adds k le h l =
      let more = adds.0.0 in
      let e : t.nodes ≡ s.nodes ++ more = adds.0.1 in
      let old : AreStreams t.nodes ss = subst (λ nodes. AreStreams nodes ss) (sym e) (streams_later s.nodes more ss h.streams) in
      let x : Name → ℕ = λ n. made s.nodes ss n + u n in
      let y : Name → ℕ = λ n. made t.nodes ts n + v n in
      record {
        names =
            fewer_fresh a t.names (λ n. x n + y n) (λ n. made t.nodes (all_added ts ss) n + w n)
            (λ n.
            let p = made_all_added t.nodes n ts ss in
            let q : made t.nodes ss n ≡ made s.nodes ss n = ap (λ nodes. made nodes ss n) e ∙ made_later s.nodes more n ss (are_nodes s.nodes ss h.streams) in
            let r = le n in
            omega arith)
            (then_fresh a s.names t.names x y g k h.names l.names);
        streams = streams_all_added t.nodes ts ss l.streams old;
        one_input = inputs_all_added ts ss h.one_input;
      }

  pub held_none : (a : Names) (s : State) (u : Name → ℕ) → FreshOnce a s.names u → Held a s [] u
  held_none a s u h = record { names = fewer_fresh a s.names u (λ n. 0 + u n) (λ n. omega arith) h; streams = tt; one_input = omega arith }

  pub held_input : (a : Names) (s : State) → IsNode s.nodes input → Held a s (input ∷ []) (λ n. 0)
  held_input a s lt =
      record {
        names =
            fewer_fresh a s.names (λ n. 0) (λ n. made s.nodes (input ∷ []) n + 0)
            (λ n. let z : made s.nodes (input ∷ []) n ≡ 0 = ap (λ b. cond b 0 (times n (names_of (schema_at s.nodes input))) + 0) (same_self input) in omega arith) (none_fresh a s.names);
        streams = ((lt, inl (same_self input)), tt);
        one_input = one (same_stream input input);
      }
    where
      one : (b : Bool) → cond b 1 0 + 0 ≤ 1
      one true = omega arith
      one false = omega arith

  pub held_one : (a : Names) (s : State) (t : Stream) → IsNode s.nodes t → schema_at s.nodes t ≢ [] → FreshOnce a s.names (λ n. times n (names_of (schema_at s.nodes t))) → Held a s (t ∷ []) (λ n. 0)
  held_one a s t lt some h =
      record {
        names = fewer_fresh a s.names (λ n. times n (names_of (schema_at s.nodes t))) (λ n. made s.nodes (t ∷ []) n + 0) (λ n. few (same_stream input t) (times n (names_of (schema_at s.nodes t)))) h;
        streams = ((lt, inr some), tt);
        one_input = one (same_stream input t);
      }
    where
      few : (b : Bool) (k : ℕ) → (cond b 0 k + 0) + 0 ≤ k
      few true k = omega arith
      few false k = omega arith

      one : (b : Bool) → cond b 1 0 + 0 ≤ 1
      one true = omega arith
      one false = omega arith

  -- a stream more, whose names were to be computed before
  pub held_moved : (a : Names) (s t : State) (ss : List Stream) (i : Stream) (u w : Name → ℕ) → Adds s.nodes t.nodes → s.names ≡ t.names → IsNode t.nodes i → schema_at t.nodes i ≢ [] → ((n : Name) → times n (names_of (schema_at t.nodes i)) + w n ≤ u n) → Held a s ss u
      → Held a t (added i ss) w
  held_moved a s t ss i u w adds same lt some le h =
      let more = adds.0.0 in
      let e : t.nodes ≡ s.nodes ++ more = adds.0.1 in
      let old : AreStreams t.nodes ss = subst (λ nodes. AreStreams nodes ss) (sym e) (streams_later s.nodes more ss h.streams) in
      record {
        names =
            subst (λ b. FreshOnce a b (λ n. made t.nodes (added i ss) n + w n)) same
            (fewer_fresh a s.names (λ n. made s.nodes ss n + u n) (λ n. made t.nodes (added i ss) n + w n)
            (λ n.
            let p = made_added t.nodes n i ss in
            let q : made t.nodes ss n ≡ made s.nodes ss n = ap (λ nodes. made nodes ss n) e ∙ made_later s.nodes more n ss (are_nodes s.nodes ss h.streams) in
            let o = few (same_stream input i) (times n (names_of (schema_at t.nodes i))) in
            let r = le n in
            omega arith)
            h.names);
        streams = streams_added t.nodes i ss (lt, inr some) old;
        one_input = inputs_added i ss h.one_input;
      }
    where
      few : (b : Bool) (k : ℕ) → cond b 0 k ≤ k
      few true k = omega arith
      few false k = omega arith

  -- a new stream behind the others
  pub held_last : (a : Names) (s t : State) (ss : List Stream) (i : Stream) (u : Name → ℕ) → Adds s.nodes t.nodes → s.names ≡ t.names → same_stream input i ≡ false → IsNode t.nodes i → schema_at t.nodes i ≢ []
      → ((n : Name) → times n (names_of (schema_at t.nodes i)) ≤ u n) → Held a s ss u → Held a t (ss ++ i ∷ []) (λ n. 0)
  held_last a s t ss i u adds same other lt some le h =
      let more = adds.0.0 in
      let e : t.nodes ≡ s.nodes ++ more = adds.0.1 in
      let old : AreStreams t.nodes ss = subst (λ nodes. AreStreams nodes ss) (sym e) (streams_later s.nodes more ss h.streams) in
      record {
        names =
            subst (λ b. FreshOnce a b (λ n. made t.nodes (ss ++ i ∷ []) n + 0)) same
            (fewer_fresh a s.names (λ n. made s.nodes ss n + u n) (λ n. made t.nodes (ss ++ i ∷ []) n + 0)
            (λ n.
            let p = made_append t.nodes n ss (i ∷ []) in
            let q : made t.nodes ss n ≡ made s.nodes ss n = ap (λ nodes. made nodes ss n) e ∙ made_later s.nodes more n ss (are_nodes s.nodes ss h.streams) in
            let o : made t.nodes (i ∷ []) n ≡ times n (names_of (schema_at t.nodes i)) + 0 = ap (λ b. cond b 0 (times n (names_of (schema_at t.nodes i))) + 0) other in
            let r = le n in
            omega arith)
            h.names);
        streams = all_last (IsStream t.nodes) i ss (lt, inr some) old;
        one_input =
            (let p = inputs_append ss (i ∷ []) in
            let q : inputs (i ∷ []) ≡ 0 = ap (λ b. cond b 1 0 + 0) other in
            let le = h.one_input in
            omega arith);
      }

  -- what a zip of the streams shows
  module _ (nodes : Shape) (n : Name) where
    abbrev zipped : List Stream → ℕ
    zipped ss = times n (names_of (flat_map (schema_at nodes) ss))

    zipped_first : (t : Stream) (ss : List Stream) → zipped (t ∷ ss) ≡ times n (names_of (schema_at nodes t)) + zipped ss
    zipped_first t ss = ap (times n) (names_append (schema_at nodes t) (flat_map (schema_at nodes) ss)) ∙ times_append n (names_of (schema_at nodes t)) (names_of (flat_map (schema_at nodes) ss))

    abbrev asked : ℕ
    asked = times n (names_of (schema_at nodes input))

    input_is : (t : Stream) → same_stream input t ≡ true → times n (names_of (schema_at nodes t)) ≡ asked
    input_is t q = ap (λ i. times n (names_of (schema_at nodes i))) (sym (same_is input t q))

    none_asked : asked ≡ 0 → (ss : List Stream) → zipped ss ≤ made nodes ss n
    none_asked z [] = omega arith
    none_asked z (t ∷ ss) = by (same_stream input t) refl (none_asked z ss)
      where
        by : (b : Bool) → same_stream input t ≡ b → zipped ss ≤ made nodes ss n → zipped (t ∷ ss) ≤ cond b 0 (times n (names_of (schema_at nodes t))) + made nodes ss n
        by true q r =
            let f = zipped_first t ss in
            let i = input_is t q in
            omega arith
        by false q r =
            let f = zipped_first t ss in
            omega arith

    one_asked : asked ≤ 1 → (ss : List Stream) → zipped ss ≤ inputs ss + made nodes ss n
    one_asked o [] = omega arith
    one_asked o (t ∷ ss) = by (same_stream input t) refl (one_asked o ss)
      where
        by : (b : Bool) → same_stream input t ≡ b → zipped ss ≤ inputs ss + made nodes ss n → zipped (t ∷ ss) ≤ (cond b 1 0 + inputs ss) + (cond b 0 (times n (names_of (schema_at nodes t))) + made nodes ss n)
        by true q r =
            let f = zipped_first t ss in
            let i = input_is t q in
            omega arith
        by false q r =
            let f = zipped_first t ss in
            omega arith

  pub zip_once : (a : Names) (s : State) (ss : List Stream) → Held a s ss (λ n. 0) → ((n : Name) → 1 ≤ times n (names_of (schema_at s.nodes input)) → IsKnown a n) → ((n : Name) → times n (names_of (schema_at s.nodes input)) ≤ 1) → (n : Name)
      → times n (names_of (flat_map (schema_at s.nodes) ss)) ≤ 1
  zip_once a s ss h known distinct n = by (cases_lt 0 (times n (names_of (schema_at s.nodes input))))
    where
      by : (0 < times n (names_of (schema_at s.nodes input))) ⊎ (times n (names_of (schema_at s.nodes input)) ≤ 0) → times n (names_of (flat_map (schema_at s.nodes) ss)) ≤ 1
      by (inl lt) =
          let z = known_none a s.names (λ n. made s.nodes ss n + 0) h.names n (known n (omega arith)) in
          let r = one_asked s.nodes n (distinct n) ss in
          let i = h.one_input in
          omega arith
      by (inr le) =
          let r = none_asked s.nodes n (omega arith) ss in
          let o = h.names.once n in
          omega arith

  two_inputs : (b c : Bool) (k : ℕ) → b ≡ true → c ≡ true → cond b 1 0 + (cond c 1 0 + k) ≤ 1 → ⊥
  two_inputs true true k p q le = absurd (omega arith)
  two_inputs true false k p q le = cc
  two_inputs false c k p q le = cc

  pub zip_some : (nodes : Shape) (t u : Stream) (ss : List Stream) → AreStreams nodes (t ∷ u ∷ ss) → inputs (t ∷ u ∷ ss) ≤ 1 → flat_map (schema_at nodes) (t ∷ u ∷ ss) ≢ []
  zip_some nodes t u ss all le = by all.0.1 all.1.0.1
    where
      by : (same_stream input t ≡ true) ⊎ (schema_at nodes t ≢ []) → (same_stream input u ≡ true) ⊎ (schema_at nodes u ≢ []) → schema_at nodes t ++ (schema_at nodes u ++ flat_map (schema_at nodes) ss) ≢ []
      by (inr some) second = some_first (schema_at nodes t) (schema_at nodes u ++ flat_map (schema_at nodes) ss) some
      by (inl p) (inr some) = some_last (schema_at nodes t) (schema_at nodes u ++ flat_map (schema_at nodes) ss) (some_first (schema_at nodes u) (flat_map (schema_at nodes) ss) some)
      by (inl p) (inl q) = absurd (two_inputs (same_stream input t) (same_stream input u) (inputs ss) p q le)

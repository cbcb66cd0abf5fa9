-- What holds of all that a call has gathered.
use Rattle.std.proofs.Common.{◌≡◌, ◌≢◌, ◌⊎◌, inl, inr, ℕ, zero, suc, ◌≤◌, ◌<◌, ◌^◌, Bool, true, false, cond, List, [], ◌∷◌, ◌++◌, length, Some, refl, sym, ap, subst, ◌∙◌, arith}
use Rattle.std.specs.Prelude.{IsTrue, Option, flat_map, is_some, map, slice_get, ◌||◌}
use Rattle.std.specs.Cmp.Lexicographic.{bytes_decides}
use Rattle.std.specs.List.{AllByRecursion}
use Rattle.std.specs.Str.{bytes_eq}
use Rattle.std.proofs.lemmas.Grind.{flat_map-append}
use Rattle.ps_frame.specs.Causes.{Cause, Column}
use Rattle.ps_frame.specs.Eval.{eval}
use Rattle.ps_frame.specs.Tables.{Fields, Table}
use Rattle.ps_frame.specs.Trees.{Tree}
use Rattle.ps_frame.specs.Typing.{is_elementwise, kind_over}
use Rattle.ps_frame.specs.Zip.{broadcasts, extent_of, extents}
use Rattle.ps_frame.specs.declared.value.DataType.{DataType}
use Rattle.ps_meaning.specs.Schemas.{expr_names, is_among, names_of}
use Rattle.ps_meaning.specs.Shape.{Shape}
use Rattle.ps_meaning.specs.Steps.{Name, Named}
use Rattle.ps_rules.specs.Names.{IsKnown, Names, after_fresh, fresh_name}
use Rattle.ps_rules.specs.Slots.{State, Stream, schema_at, schema_or_none}
use Rattle.ps_rules.proofs.Free.{fresh_known, fresh_unknown}
use Rattle.ps_shares.specs.Ends.{AreKnownBy}
use Rattle.ps_shares.specs.Kept.{IsOrdered}
use Rattle.ps_shares.specs.Leaves.{AtLeaves, Naming, all_leaves, leaves, put_back, stands_for}
use Rattle.ps_shares.specs.Shares.{IsClear}
use Rattle.ps_shares.proofs.Adding.{Adds, AreNodes, IsNode, node_later}
use Rattle.ps_shares.proofs.Causes.{Known}
use Rattle.ps_shares.proofs.Ends.{has_first}
use Rattle.ps_shares.proofs.Fresh.{Grown}
use Rattle.ps_shares.proofs.Members.{Has}
use Rattle.ps_shares.proofs.Named.{at_all}
use Rattle.ps_shares.proofs.Stands.{put_all_same}
use Rattle.ps_bundles.specs.Endings.{Ends}
use Rattle.ps_bundles.proofs.ZipEnds.{differ}

pub all_map : {A : Type 0} (P Q : A → Type 0) → ((a : A) → P a → Q a) → (xs : List A) → AllByRecursion P xs → AllByRecursion Q xs
all_map P Q f [] h = tt
all_map P Q f (x ∷ xs) h = (f x h.0, all_map P Q f xs h.1)

pub has_last : {A : Type 0} (xs ys : List A) (a : A) → Has ys a → Has (xs ++ ys) a
has_last [] ys a h = h
has_last (x ∷ xs) ys a h = inr (has_last xs ys a h)

-- leaves go by what the names stand for
module _ (env other : Naming) where
  pub leaves_as : (e : Tree) → AtLeaves (λ n. env n ≡ other n) e → leaves env e ≡ leaves other e
  leaves_as (Tree.column name) h = ap (λ c. c ∷ []) h
  leaves_as (Tree.literal l) h = refl
  leaves_as (Tree.binary o l r) h = let p = leaves_as l h.0 in let q = leaves_as r h.1 in λ i. p i ++ (q i ++ [])
  leaves_as (Tree.cast k strict e) h = ap (λ cs. cs ++ []) (leaves_as e h)
  leaves_as (Tree.ternary p a b) h = let x = leaves_as p h.0 in let y = leaves_as a h.1 in let z = leaves_as b h.2 in λ i. x i ++ (y i ++ (z i ++ []))
  leaves_as (Tree.function g e) h = ap (λ cs. cs ++ []) (leaves_as e h)
  leaves_as (Tree.sort d n e) h = refl
  leaves_as (Tree.sort_by d n e by) h = refl
  leaves_as (Tree.gather s e i) h = refl
  leaves_as (Tree.filter e by) h = refl
  leaves_as (Tree.aggregate a e) h = refl
  leaves_as (Tree.slice e o l) h = refl
  leaves_as Tree.len h = refl
  leaves_as (Tree.left_out w) h = refl
  leaves_as Tree.missing h = refl

  pub all_leaves_as : (es : List Tree) → AllByRecursion (AtLeaves (λ n. env n ≡ other n)) es → all_leaves env es ≡ all_leaves other es
  all_leaves_as [] h = refl
  all_leaves_as (e ∷ es) h = let p = leaves_as e h.0 in let q = all_leaves_as es h.1 in λ i. p i ++ q i

module _ (at : ℕ) (input : Stream) (tables : ℕ → Table) where
  abbrev pub t : Table
  t = tables input.0

  -- the column, and the kind, of what a name stands for
  abbrev pub Col : List Named → Naming
  Col ms n = eval at t (stands_for ms n)

  abbrev pub Kind : List Named → Name → Option DataType
  Kind ms n = kind_over t.schema (stands_for ms n)

  -- whether a name stands for something: a column of the input for itself, a fresh name for an expression
  abbrev pub named : List Named → Name → Bool
  named ms n = is_among n (expr_names ms) || is_among n (names_of t.schema)

  -- the names that were known stand for what they stood for
  abbrev pub Extends : Names → List Named → List Named → Type 0
  Extends names ms more = (n : Name) → IsKnown names n → (stands_for more n ≡ stands_for ms n) × (named more n ≡ named ms n)

  pub extends_same : (names : Names) (ms : List Named) → Extends names ms ms
  extends_same names ms n k = (refl, refl)

  pub extends_then : (a b : Names) (ms ns os : List Named) → Grown a b → Extends a ms ns → Extends b ns os → Extends a ms os
  extends_then a b ms ns os g x y n k = let p = x n k in let q = y n (g.0 n k) in (q.0 ∙ p.0, q.1 ∙ p.1)

  -- a fresh name
  pub extends_fresh : (names : Names) (ms : List Named) (e : Tree) → (after_fresh names).next ≤ 2 ^ 64 → Extends names ms ((fresh_name names, e) ∷ ms)
  extends_fresh names ms e small n k =
      let f = fresh_name names in
      let p = apart f n (λ e. fresh_unknown names small (subst (λ n. IsKnown names n) (sym e) k)) in
      let q = apart n f (λ e. fresh_unknown names small (subst (λ n. IsKnown names n) e k)) in
      (ap (λ b. cond b e (stands_for ms n)) p, ap (λ b. (b || is_among n (expr_names ms)) || is_among n (names_of t.schema)) q)
    where
      apart : (m n : Name) → (m ≡ n → ⊥) → bytes_eq m n ≡ false
      apart m n unless = by (bytes_eq m n) refl
        where
          by : (b : Bool) → bytes_eq m n ≡ b → bytes_eq m n ≡ false
          by false q = q
          by true q = absurd (unless ((bytes_decides m n).0 q))

  pub own_stands : (f : Name) (e : Tree) (ms : List Named) → stands_for ((f, e) ∷ ms) f ≡ e
  own_stands f e ms = ap (λ b. cond b e (stands_for ms f)) ((bytes_decides f f).1 refl)

  pub own_named : (f : Name) (e : Tree) (ms : List Named) → named ((f, e) ∷ ms) f ≡ true
  own_named f e ms = ap (λ b. (b || is_among f (expr_names ms)) || is_among f (names_of t.schema)) ((bytes_decides f f).1 refl)

  -- a column that is shown is read, or it has no cause and is as long as one that is read
  abbrev pub Covered : Naming → List Tree → Column → Type 0
  Covered env es c = Has (all_leaves env es) c ⊎ (IsClear c × (broadcasts false (extent_of c) ≡ false → Has (extents (all_leaves env es)) (extent_of c)))

  -- What is known of a stream: its table ends as columns, each the one that its name stands for, whose causes are these.
  pub record IsStream (ms : List Named) (es : List Tree) (causes : List Cause) (names : Names) (nodes : Shape) (i : Stream) : Type 0 where
    pub columns : List Column
    pub ends : Ends at (tables i.0) columns
    pub known : AreKnownBy (λ n. IsTrue (named ms n)) (Col ms) (tables i.0).schema columns
    pub kinds : AllByRecursion (λ (f : Name × DataType). IsTrue (named ms f.0) → Some f.1 ≡ Kind ms f.0) (tables i.0).schema
    pub some : columns ≢ []
    pub covered : AllByRecursion (Covered (Col ms) es) columns
    pub broken : AllByRecursion (λ (c : Cause). Has causes c) (tables i.0).broken
    pub names_known : AllByRecursion (IsKnown names) (names_of (tables i.0).schema)
    pub schema : schema_at nodes i ≡ (tables i.0).schema

  -- what is known of an expression that a reduce, or a map, is to compute
  pub record IsItem (ms : List Named) (es : List Tree) (causes : List Cause) (names : Names) (m : Named) : Type 0 where
    pub is : stands_for ms m.0 ≡ m.1
    pub is_named : IsTrue (named ms m.0)
    pub name_known : IsKnown names m.0
    pub covered : Has (all_leaves (Col ms) es) (Col ms m.0)
    pub typed : IsTrue (is_some (kind_over t.schema m.1))
    pub causes_known : Known (λ (c : Cause). Has causes c) (eval at t m.1)

  -- one cell, or none that something ended
  abbrev pub IsNarrow : Column → Type 0
  IsNarrow c = (length c.cells ≡ 1) ⊎ ((c.cells ≡ []) × (c.broken ≢ []))

  abbrev pub AreNarrow : List Named → Type 0
  AreNarrow rs = AllByRecursion (λ (m : Named). IsNarrow (eval at t m.1)) rs

  -- the names that stand in what was gathered
  abbrev pub all_names : List Stream → List Named → List Named → List Name
  all_names ss rs mp = flat_map (λ (i : Stream). names_of (tables i.0).schema) ss ++ (expr_names rs ++ expr_names mp)

  abbrev pub Stands : List Stream → List Named → List Named → Name → Type 0
  Stands ss rs mp n = is_among n (all_names ss rs mp) ≡ true

  -- a name that is read was known, and stands for something
  abbrev pub IsRead : List Named → Names → Name → Type 0
  IsRead ms names n = IsKnown names n × IsTrue (named ms n)

  -- no name stands for something before it is known
  abbrev pub OnlyKnown : List Named → Names → Type 0
  OnlyKnown ms names = (n : Name) → IsTrue (named ms n) → IsKnown names n

  pub only_later : (ms : List Named) (a b : Names) → Grown a b → OnlyKnown ms a → OnlyKnown ms b
  only_later ms a b g h n is = g.0 n (h n is)

  pub only_fresh : (ms : List Named) (names : Names) (e : Tree) → Grown names (after_fresh names) → (after_fresh names).next ≤ 2 ^ 64 → OnlyKnown ms names → OnlyKnown ((fresh_name names, e) ∷ ms) (after_fresh names)
  only_fresh ms names e g small h n is = by (bytes_eq n (fresh_name names)) refl is
    where
      by : (b : Bool) → bytes_eq n (fresh_name names) ≡ b → ((bytes_eq n (fresh_name names) || is_among n (expr_names ms)) || is_among n (names_of t.schema)) ≡ true → IsKnown (after_fresh names) n
      by true q is = subst (λ n. IsKnown (after_fresh names) n) (sym ((bytes_decides n (fresh_name names)).0 q)) (fresh_known names small)
      by false q is = g.0 n (h n (sym (ap (λ b. (b || is_among n (expr_names ms)) || is_among n (names_of t.schema)) q) ∙ is))

  -- What is known of what was gathered for expressions: streams, reductions, expressions over these, and what is left to a map.
  pub record Gathered (ms : List Named) (asked : List Tree) (causes : List Cause) (s : State) (ss : List Stream) (rs : List Named) (es : List Tree) (mp : List Named) : Type 0 where
    pub back : map (put_back ms) es ≡ asked
    pub plain : AllByRecursion (λ e. IsTrue (is_elementwise e)) es
    pub names_known : AllByRecursion (AtLeaves (IsKnown s.names)) es
    pub names_named : AllByRecursion (AtLeaves (IsRead ms s.names)) es
    pub names_stand : AllByRecursion (AtLeaves (Stands ss rs mp)) es
    pub streams : AllByRecursion (IsStream ms es causes s.names s.nodes) ss
    pub nodes : AreNodes s.nodes ss
    pub reduced : AllByRecursion (IsItem ms es causes s.names) rs
    pub narrow : AreNarrow rs
    pub mapped : AllByRecursion (IsItem ms es causes s.names) mp
    pub asked_for : AllByRecursion (λ (m : Named). Has asked m.1) mp
    pub only : OnlyKnown ms s.names

  -- What is known before a call: the input is there, its names are known and stand for themselves.
  pub record IsFine (ms : List Named) (s : State) : Type 0 where
    pub ordered : IsOrdered s.nodes
    pub node : IsNode s.nodes input
    pub schema : schema_at s.nodes input ≡ t.schema
    pub known : AllByRecursion (IsKnown s.names) (names_of t.schema)
    pub own : (n : Name) → IsTrue (is_among n (names_of t.schema)) → stands_for ms n ≡ Tree.column n
    pub only : OnlyKnown ms s.names

  -- what was known of old names and nodes is known later
  node_or : (nodes more : Shape) (n : ℕ) → n < length nodes → slice_get (nodes ++ more) n ≡ slice_get nodes n
  node_or [] more n lt = absurd (omega arith)
  node_or (x ∷ xs) more zero lt = refl
  node_or (x ∷ xs) more (suc n) lt = let lt' : n < length xs = omega arith in node_or xs more n lt'

  pub schema_later : (a b : Shape) → Adds a b → (i : Stream) → IsNode a i → schema_at b i ≡ schema_at a i
  schema_later a b g i lt = ap (λ nodes. schema_at nodes i) g.0.1 ∙ ap schema_or_none (node_or a g.0.0 i.0 lt)

  pub among_all : (P : Name → Type 0) (n : Name) (ns : List Name) → AllByRecursion P ns → is_among n ns ≡ true → P n
  among_all P n [] all h = absurd (differ (sym h))
  among_all P n (m ∷ ns) all h = by (bytes_eq n m) refl h (among_all P n ns all.1)
    where
      by : (b : Bool) → bytes_eq n m ≡ b → (bytes_eq n m || is_among n ns) ≡ true → (is_among n ns ≡ true → P n) → P n
      by true q h rest = subst P (sym ((bytes_decides n m).0 q)) all.0
      by false q h rest = rest (sym (ap (λ b. b || is_among n ns) q) ∙ h)

  pub fine_later : (ms more : List Named) (a b : State) → IsFine ms a → Grown a.names b.names → Adds a.nodes b.nodes → Extends a.names ms more → OnlyKnown more b.names → IsFine more b
  fine_later ms more a b f g d x only =
      record {
        ordered = d.1;
        node = node_later a.nodes b.nodes d input f.node;
        schema = schema_later a.nodes b.nodes d input f.node ∙ f.schema;
        known = all_map (IsKnown a.names) (IsKnown b.names) g.0 (names_of t.schema) f.known;
        only = only;
        own = λ n h. (x n (among_all (IsKnown a.names) n (names_of t.schema) f.known h)).0 ∙ f.own n h;
      }

  module _ (a b : State) (ms more : List Named) (g : Grown a.names b.names) (d : Adds a.nodes b.nodes) (x : Extends a.names ms more) (es fs : List Tree) (known : AllByRecursion (AtLeaves (IsKnown a.names)) es) where
    same_leaves : all_leaves (Col ms) es ≡ all_leaves (Col more) es
    same_leaves = all_leaves_as (Col ms) (Col more) es (at_all (IsKnown a.names) (λ n. Col ms n ≡ Col more n) (λ n k. ap (eval at t) (sym (x n k).0)) es known)

    pub leaf_later : (c : Column) → Has (all_leaves (Col ms) es) c → Has (all_leaves (Col more) (es ++ fs)) c
    leaf_later c h =
        subst (λ cs. Has cs c) (sym (flat_map-append (leaves (Col more)) es fs)) (has_first (all_leaves (Col more) es) (all_leaves (Col more) fs) c (subst (λ cs. Has cs c) same_leaves h))

    pub covered_later : (c : Column) → Covered (Col ms) es c → Covered (Col more) (es ++ fs) c
    covered_later c (inl h) = inl (leaf_later c h)
    covered_later c (inr (clear, h)) =
        inr (
          clear,
          (λ moves. subst (λ cs. Has (extents cs) (extent_of c)) (sym (flat_map-append (leaves (Col more)) es fs))
              (has_extent (all_leaves (Col more) es) (all_leaves (Col more) fs) (subst (λ cs. Has (extents cs) (extent_of c)) same_leaves (h moves)))),
        )
      where
        has_extent : (xs ys : List Column) → Has (extents xs) (extent_of c) → Has (extents (xs ++ ys)) (extent_of c)
        has_extent [] ys h = absurd h
        has_extent (y ∷ xs) ys (inl e) = inl e
        has_extent (y ∷ xs) ys (inr h) = inr (has_extent xs ys h)

    known_later : (s : Fields) (cs : List Column) → AllByRecursion (IsKnown a.names) (names_of s) → AreKnownBy (λ n. IsTrue (named ms n)) (Col ms) s cs → AreKnownBy (λ n. IsTrue (named more n)) (Col more) s cs
    known_later [] [] all h = tt
    known_later [] (c ∷ cs) all h = absurd h
    known_later (f ∷ s) [] all h = absurd h
    known_later (f ∷ s) (c ∷ cs) all h = let e = x f.0 all.0 in ((λ is. h.0 (sym e.1 ∙ is) ∙ ap (eval at t) (sym e.0)), known_later s cs all.1 h.1)

    kinds_later : (s : Fields) → AllByRecursion (IsKnown a.names) (names_of s) → AllByRecursion (λ (f : Name × DataType). IsTrue (named ms f.0) → Some f.1 ≡ Kind ms f.0) s → AllByRecursion (λ (f : Name × DataType). IsTrue (named more f.0) → Some f.1 ≡ Kind more f.0) s
    kinds_later [] all h = tt
    kinds_later (f ∷ s) all h = let e = x f.0 all.0 in ((λ is. h.0 (sym e.1 ∙ is) ∙ ap (kind_over t.schema) (sym e.0)), kinds_later s all.1 h.1)

    pub stream_later : (causes : List Cause) (i : Stream) → IsNode a.nodes i → IsStream ms es causes a.names a.nodes i → IsStream more (es ++ fs) causes b.names b.nodes i
    stream_later causes i node h =
        record {
          columns = h.columns;
          ends = h.ends;
          known = known_later (tables i.0).schema h.columns h.names_known h.known;
          kinds = kinds_later (tables i.0).schema h.names_known h.kinds;
          some = h.some;
          covered = all_map (Covered (Col ms) es) (Covered (Col more) (es ++ fs)) covered_later h.columns h.covered;
          broken = h.broken;
          names_known = all_map (IsKnown a.names) (IsKnown b.names) g.0 (names_of (tables i.0).schema) h.names_known;
          schema = schema_later a.nodes b.nodes d i node ∙ h.schema;
        }

    pub streams_later : (causes : List Cause) (ss : List Stream) → AreNodes a.nodes ss → AllByRecursion (IsStream ms es causes a.names a.nodes) ss → AllByRecursion (IsStream more (es ++ fs) causes b.names b.nodes) ss
    streams_later causes [] nodes h = tt
    streams_later causes (i ∷ ss) nodes h = (stream_later causes i nodes.0 h.0, streams_later causes ss nodes.1 h.1)

    pub item_later : (causes : List Cause) (m : Named) → IsItem ms es causes a.names m → IsItem more (es ++ fs) causes b.names m
    item_later causes m h =
        let e = x m.0 h.name_known in
        record {
          is = e.0 ∙ h.is;
          is_named = e.1 ∙ h.is_named;
          name_known = g.0 m.0 h.name_known;
          covered = subst (λ c. Has (all_leaves (Col more) (es ++ fs)) c) (ap (eval at t) (sym e.0)) (leaf_later (Col ms m.0) h.covered);
          typed = h.typed;
          causes_known = h.causes_known;
        }

    pub items_later : (causes : List Cause) (rs : List Named) → AllByRecursion (IsItem ms es causes a.names) rs → AllByRecursion (IsItem more (es ++ fs) causes b.names) rs
    items_later causes rs h = all_map (IsItem ms es causes a.names) (IsItem more (es ++ fs) causes b.names) (item_later causes) rs h

    pub back_later : map (put_back more) es ≡ map (put_back ms) es
    back_later = put_all_same more ms es (at_all (IsKnown a.names) (λ n. stands_for more n ≡ stands_for ms n) (λ n k. (x n k).0) es known)

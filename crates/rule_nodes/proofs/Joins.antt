-- Joins by keys: each side's keys and all its columns are lowered together, and the join gives the columns of its schema alone.
use Rattle.std.proofs.Common.{◌≡◌, ◌≢◌, ◌⊎◌, inl, inr, ℕ, ◌≤◌, ◌^◌, Bool, true, false, List, [], ◌∷◌, ◌++◌, length, take, refl, sym, ap, subst, ◌∙◌, arith}
use Rattle.std.specs.Prelude.{◌||◌, Contains}
use Rattle.std.specs.List.{AllByRecursion}
use Rattle.std.proofs.Math.Seq.{take-append_seam}
use Rattle.std.proofs.lemmas.Option.{same_Some}
use Rattle.ps_frame.proofs.Lists.{and_both, both}
use Rattle.ps_frame.specs.Functions.{Functions}
use Rattle.ps_frame.specs.Tables.{Fields}
use Rattle.ps_frame.specs.Trees.{Tree}
use Rattle.ps_meaning.specs.Joins.{goes_by_left}
use Rattle.ps_meaning.specs.Schemas.{bare_names, is_among, join_schema, names_of, suffix_of}
use Rattle.ps_meaning.specs.Shape.{equi_join}
use Rattle.ps_meaning.specs.Sound.{IsSoundButForReaders, have_all_kinds}
use Rattle.ps_meaning.specs.StepRefusals.{KeysMisfit, break_rules, lacks_column, pairs_differ, schema_mismatch}
use Rattle.ps_meaning.specs.Steps.{JoinStep, Name, join}
use Rattle.ps_meaning.specs.declared.options.JoinType.{JoinType}
use Rattle.ps_meaning.specs.declared.options.JoinType.TheVariants as how
use Rattle.ps_plan.proofs.TypedSteps.{output-distinct}
use Rattle.ps_rules.specs.Calls.{Answer}
use Rattle.ps_rules.specs.Lowered.{lower_exprs}
use Rattle.ps_rules.specs.Names.{IsKnown, Names}
use Rattle.ps_rules.specs.Slots.{Made, State, Stream, columns_named, schema_at}
use Rattle.ps_shares.proofs.Members.{to_has}
use Rattle.name_rules.specs.Lawful.{KeepsRules}
use Rattle.name_rules.proofs.Items.{kinds_same}
use Rattle.name_rules.proofs.Ruling.{breaks_none, lacks_none, obeys}
use Rattle.name_rules.proofs.Times.{distinct_once, once_never, times}
use Rattle.name_rules.proofs.Listing.{list_plain}
use Rattle.plan_rules.specs.Joins.{equi_join_stream, keyed_join, over_both}
use Rattle.plan_rules.specs.Slices.{cut_stream}
use Rattle.rule_parts.specs.Good.{IsGoodStep, IsStream, KnowsNames}
use Rattle.rule_parts.proofs.Growing.{exprs_grow}
use Rattle.rule_parts.proofs.Columns.{own_itself, same_own}
use Rattle.rule_parts.proofs.Merged.{AreWider, merged, merged_contained, merged_once}
use Rattle.rule_parts.proofs.Passing.{cut_makes, cut_names, good_some}
use Rattle.rule_parts.proofs.Positions.{AllFollow}
use Rattle.rule_parts.proofs.Sides.{Carries, IsSide, all_have, carried_bare, drops_left, drops_right, left_is, narrow_in, right_is, same_pairs, side, side_in, side_new, side_old, side_once}
use Rattle.rule_parts.proofs.Standing.{IsRight, Makes, inserted, makes_above, makes_then, schema_is, sound_distinct, stream_below, stream_later}
use Rattle.rule_nodes.proofs.Keyed.{Keyed, keys_first}

follows_carry : (P : Name → Type 0) (es xs : List Tree) → AllFollow es xs → Carries P es xs
follows_carry P [] [] h = tt
follows_carry P [] (x ∷ xs) h = absurd h
follows_carry P (e ∷ es) [] h = absurd h
follows_carry P (e ∷ es) (x ∷ xs) h = ((λ n k q. h.0.own n q), follows_carry P es xs h.1)

-- as many keys fit as before
keys_fit : (h : JoinType) (us vs xs ys : List Tree) → goes_by_left h ≡ true → length xs ≡ length us → length ys ≡ length vs → (KeysMisfit h us vs → ⊥) → KeysMisfit h xs ys → ⊥
keys_fit h us vs xs ys by_left l m good bad = by h by_left good bad
  where
    none : (us xs : List Tree) → length xs ≡ length us → xs ≡ [] → us ≡ []
    none [] xs l e = refl
    none (u ∷ us) [] l e = absurd (omega arith)
    none (u ∷ us) (x ∷ xs) l e = let w : x ∷ xs ≡ [] = e in cc

    misfit : ((length us ≢ length vs) ⊎ (us ≡ []) → ⊥) → (length xs ≢ length ys) ⊎ (xs ≡ []) → ⊥
    misfit good (inl k) = good (inl (λ e. k (l ∙ e ∙ sym m)))
    misfit good (inr k) = good (inr (none us xs l k))

    by : (h : JoinType) → goes_by_left h ≡ true → (KeysMisfit h us vs → ⊥) → KeysMisfit h xs ys → ⊥
    by how.Inner q good bad = misfit good bad
    by how.Left q good bad = misfit good bad
    by how.Right q good bad = misfit good bad
    by how.Full q good bad = misfit good bad
    by how.Semi q good bad = cc
    by how.Anti q good bad = cc
    by how.Cross q good bad = cc

none_differs : (a b c : Bool) → (a ≡ true → ⊥) → (b ≡ true → ⊥) → (c ≡ true → ⊥) → (a || b || c) ≡ true → ⊥
none_differs true b c f g h q = f refl
none_differs false true c f g h q = g refl
none_differs false false c f g h q = h q

neither_lacks : (a b : Bool) → (a ≡ true → ⊥) → (b ≡ true → ⊥) → (a || b) ≡ true → ⊥
neither_lacks true b f g q = f refl
neither_lacks false b f g q = g q

module _ (F : Functions) (at : ℕ) (left right : Stream) (s : State) (sound : IsSoundButForReaders F s.nodes) (left_stream : IsStream s.nodes left (schema_at s.nodes left)) (right_stream : IsStream s.nodes right (schema_at s.nodes right))
    (left_known : KnowsNames s.names (schema_at s.nodes left)) (right_known : KnowsNames s.names (schema_at s.nodes right)) (o : JoinStep) (good : IsGoodStep F (join o) (schema_at s.nodes left ∷ schema_at s.nodes right ∷ [])) (by_left : goes_by_left o.args.how ≡ true) where
  abbrev fl : Fields
  fl = schema_at s.nodes left

  abbrev fr : Fields
  fr = schema_at s.nodes right

  abbrev out : Fields
  out = join_schema o fl fr

  typed : (have_all_kinds fl o.left_on ≡ true) × (have_all_kinds fr o.right_on ≡ true)
  typed = both (have_all_kinds fl o.left_on) (have_all_kinds fr o.right_on) good.typed.kinds

  abbrev first : Answer
  first = lower_exprs at left (o.left_on ++ columns_named (names_of fl)) s

  -- the call of the right side, whose schema is looked up once the left side stands
  abbrev second : Fields → Answer
  second g = lower_exprs at right (o.right_on ++ columns_named (names_of g)) first.state

  abbrev joined : (g : Fields) → (us vs : List Tree) → Made
  joined g us vs = over_both at (equi_join (keyed_join o us vs)) out first.stream (second g).stream (second g).state

  abbrev cut_above : (g : Fields) → (us vs : List Tree) → Made
  cut_above g us vs = let m = joined g us vs in cut_stream at o.args.slice m.stream m.state

  module _ (named : KnowsNames s.names out) (a : Keyed F at left s fl sound left_stream left_known o.left_on first) where
    later : IsStream first.state.nodes right fr
    later = stream_later s.nodes first.state.nodes a.answered.more right fr a.answered.nodes right_stream

    still_known : KnowsNames first.state.names fr
    still_known n q = a.answered.names.0 n (right_known n q)

    module _ (b : Keyed F at right first.state fr a.answered.sound later still_known o.right_on (second fr)) where
      abbrev zl : Fields
      zl = a.answered.schema

      abbrev zr : Fields
      zr = b.answered.schema

      abbrev keyed : JoinStep
      keyed = keyed_join o a.news b.news

      abbrev how_left : Bool
      how_left = drops_left o.args.how

      abbrev how_right : Bool
      how_right = drops_right o.args.how

      abbrev Before : Name → Type 0
      Before n = IsKnown s.names n

      abbrev After : Name → Type 0
      After n = IsKnown first.state.names n

      left_side : IsSide how_left s.names (bare_names o.left_on) (bare_names a.news) fl zl
      left_side =
          record {
            own = same_own zl fl fl a.columns (own_itself fl (sound_distinct F s.nodes left fl sound left_stream));
            known = left_known;
            old = λ n q k. (elim (a.answered.shown n q) [ inl p ↦ p | inr p ↦ absurd (p.0 k) ]);
            kept = λ n k q. carried_bare Before o.left_on a.news n (follows_carry Before o.left_on a.news a.follow) k q;
            back = λ n k q. carried_bare Before a.news o.left_on n a.back k q;
            once = distinct_once zl a.distinct;
          }

      right_side : IsSide how_right s.names (bare_names o.right_on) (bare_names b.news) fr zr
      right_side =
          record {
            own = same_own zr fr fr b.columns (own_itself fr (sound_distinct F s.nodes right fr sound right_stream));
            known = right_known;
            old = λ n q k. (elim (b.answered.shown n q) [ inl p ↦ p | inr p ↦ absurd (p.0 (a.answered.names.0 n k)) ]);
            kept = λ n k q. carried_bare Before o.right_on b.news n (follows_carry Before o.right_on b.news b.follow) k q;
            back = λ n k q. carried_bare After b.news o.right_on n b.back (a.answered.names.0 n k) q;
            once = distinct_once zr b.distinct;
          }

      abbrev l : Fields
      l = side how_left (bare_names o.left_on) fl

      abbrev r : Fields
      r = side how_right (bare_names o.right_on) fr

      abbrev wide_l : Fields
      wide_l = side how_left (bare_names a.news) zl

      abbrev wide_r : Fields
      wide_r = side how_right (bare_names b.news) zr

      abbrev suffix : Name
      suffix = suffix_of o

      out_is : out ≡ merged suffix l r
      out_is = let p = left_is o.args.how o fl in let q = right_is o.args.how by_left o fr in λ i. merged suffix (p i) (q i)

      wide_is : join_schema keyed zl zr ≡ merged suffix wide_l wide_r
      wide_is = let p = left_is o.args.how keyed zl in let q = right_is o.args.how by_left keyed zr in λ i. merged suffix (p i) (q i)

      out_once : (n : Name) → times n (names_of out) ≤ 1
      out_once = distinct_once out (output-distinct F (join o) (fl ∷ fr ∷ []) good.typed.rules)

      wider : AreWider Before After suffix l r wide_l wide_r
      wider =
          record {
            once = λ n. subst (λ (g : Fields). times n (names_of g) ≤ 1) out_is (out_once n);
            known = λ n q. named n (ap (λ (g : Fields). is_among n (names_of g)) out_is ∙ q);
            left_old = λ n q k. side_old how_left s.names (bare_names o.left_on) (bare_names a.news) fl zl left_side n q k;
            left_new = λ n q. side_new how_left s.names (bare_names o.left_on) (bare_names a.news) fl zl left_side n q;
            left_known = λ n q. left_after n (a.answered.shown n (side_in how_left s.names (bare_names o.left_on) (bare_names a.news) fl zl left_side n q));
            left_once = side_once how_left s.names (bare_names o.left_on) (bare_names a.news) fl zl left_side;
            right_known = λ n q. right_known n (narrow_in how_right (bare_names o.right_on) fr n q);
            right_cases = λ n q. right_case n q (b.answered.shown n (side_in how_right s.names (bare_names o.right_on) (bare_names b.news) fr zr right_side n q));
            right_once = side_once how_right s.names (bare_names o.right_on) (bare_names b.news) fr zr right_side;
            left_has = all_have how_left s.names (bare_names o.left_on) (bare_names a.news) fl zl left_side;
            right_has = all_have how_right s.names (bare_names o.right_on) (bare_names b.news) fr zr right_side;
            still = a.answered.names.0;
          }
        where
          left_after : (n : Name) → (is_among n (names_of fl) ≡ true) ⊎ ((IsKnown s.names n → ⊥) × IsKnown first.state.names n) → After n
          left_after n (inl q) = a.answered.names.0 n (left_known n q)
          left_after n (inr p) = p.1

          right_case : (n : Name) → is_among n (names_of wide_r) ≡ true → (is_among n (names_of fr) ≡ true) ⊎ ((IsKnown first.state.names n → ⊥) × IsKnown (second fr).state.names n) → (Before n × (is_among n (names_of r) ≡ true)) ⊎ (After n → ⊥)
          right_case n q (inl p) = let k = right_known n p in inl (k, side_old how_right s.names (bare_names o.right_on) (bare_names b.news) fr zr right_side n q k)
          right_case n q (inr p) = inr p.0

      contained : AllByRecursion (Contains (join_schema keyed zl zr)) out
      contained =
          subst (λ (g : Fields). AllByRecursion (Contains g) out) (sym wide_is)
          (subst (λ (g : Fields). AllByRecursion (Contains (merged suffix wide_l wide_r)) g) (sym out_is) (merged_contained Before After suffix l r wide_l wide_r wider))

      some_out : out ≢ []
      some_out = good_some F (join o) (fl ∷ fr ∷ []) good

      some_wide : (g : Fields) → g ≢ [] → AllByRecursion (Contains (join_schema keyed zl zr)) g → join_schema keyed zl zr ≢ []
      some_wide [] some all e = some refl
      some_wide (x ∷ g) some all e = to_has [] x (subst (λ (w : Fields). Contains w x) e all.0)

      keys_left : have_all_kinds zl a.news ≡ true
      keys_left = kinds_same zl fl a.news o.left_on a.kinds typed.0

      keys_right : have_all_kinds zr b.news ≡ true
      keys_right = kinds_same zr fr b.news o.right_on b.kinds typed.1

      mismatch : (break_rules fl o.left_on || break_rules fr o.right_on || pairs_differ fl fr o.left_on o.right_on) ≡ true → ⊥
      mismatch q = good.typed.rules schema_mismatch (inl q)

      paired : pairs_differ zl zr a.news b.news ≡ true → ⊥
      paired q = mismatch (last_true (break_rules fl o.left_on || break_rules fr o.right_on) (pairs_differ fl fr o.left_on o.right_on) (sym (same_pairs zl fl zr fr a.news b.news o.left_on o.right_on a.kinds b.kinds) ∙ q))
        where
          last_true : (x y : Bool) → y ≡ true → (x || y) ≡ true
          last_true true y q = refl
          last_true false y q = q

      node_right : IsRight F (second fr).state.nodes (record { kind = equi_join keyed; schema = out; origin = at; inputs = first.stream ∷ (second fr).stream ∷ [] })
      node_right =
          let nodes = (second fr).state.nodes in
          let here = stream_later first.state.nodes nodes b.answered.more first.stream zl b.answered.nodes a.answered.stream in
          let p = schema_is nodes first.stream zl here in
          let q = schema_is nodes (second fr).stream zr b.answered.stream in
          record {
            earlier = (stream_below nodes first.stream zl here, (stream_below nodes (second fr).stream zr b.answered.stream, tt));
            inputs = refl;
            parameters = (list_plain a.news a.plain, list_plain b.news b.plain, by_left, refl);
            rules =
                subst (λ (ss : List Fields). KeepsRules F (equi_join keyed) out ss) (λ i. sym p i ∷ sym q i ∷ [])
                (record {
                  schema = (contained, output-distinct F (join o) (fl ∷ fr ∷ []) good.typed.rules);
                  not_empty = some_out;
                  kinds = and_both (have_all_kinds zl a.news) (have_all_kinds zr b.news) keys_left keys_right;
                  rules =
                      obeys F (join keyed) (zl ∷ zr ∷ [])
                      (record {
                        keys = λ k. keys_fit o.args.how o.left_on o.right_on a.news b.news by_left a.count b.count good.keys k;
                        key = λ k. k;
                        validated = λ k. good.unvalidated k;
                        missing = λ n k. neither_lacks (lacks_column n zl a.news) (lacks_column n zr b.news) (lacks_none zl a.news keys_left n) (lacks_none zr b.news keys_right n) k;
                        repeated = λ n k. k;
                        names = λ n k. once_never n (names_of (join_schema keyed zl zr)) (subst (λ (g : Fields). times n (names_of g) ≤ 1) (sym wide_is) (merged_once Before After suffix l r wide_l wide_r wider n)) k;
                        kinds = λ k. none_differs (break_rules zl a.news) (break_rules zr b.news) (pairs_differ zl zr a.news b.news) (breaks_none zl a.news keys_left) (breaks_none zr b.news keys_right) paired k;
                        typed = λ k. cc;
                        columns = λ k. some_wide out some_out contained (same_Some (join_schema keyed zl zr) [] k);
                        literal = λ k. k;
                      });
                });
          }

      joined_makes : Makes F s (cut_above fr a.news b.news) out
      joined_makes =
          let m = joined fr a.news b.news in
          let t = (second fr).state in
          let k = inserted F t (record { kind = equi_join keyed; schema = out; origin = at; inputs = first.stream ∷ (second fr).stream ∷ [] }) b.answered.sound node_right in
          let c = makes_above F t m (cut_above fr a.news b.news) out out k (cut_makes F at m.stream m.state out k.sound k.stream o.args.slice) in
          makes_then F s first.state a.answered.more (cut_above fr a.news b.news) out a.answered.nodes a.answered.names (makes_then F first.state t b.answered.more (cut_above fr a.news b.news) out b.answered.nodes b.answered.names c)

  taken : (es : List Tree) (xs news columns : List Tree) → xs ≡ news ++ columns → length news ≡ length es → take (length es) xs ≡ news
  taken es xs news columns e l = ap (take (length es)) e ∙ ap (λ (n : ℕ). take n (news ++ columns)) (sym l) ∙ take-append_seam news columns

  pub equi_makes : KnowsNames s.names out → (equi_join_stream at o out left right s).state.names.next ≤ 2 ^ 64 → Makes F s (equi_join_stream at o out left right s) out
  equi_makes named =
      let P : Fields → List Tree → List Tree → Type 0 = λ g us vs. (cut_above g us vs).state.names.next ≤ 2 ^ 64 → Makes F s (cut_above g us vs) out in
      let g = schema_at first.state.nodes right in
      λ small.
      let m = joined g (take (length o.left_on) first.exprs) (take (length o.right_on) (second g).exprs) in
      let n = ap (λ (x : Names). x.next) (cut_names at o.args.slice m.stream m.state) in
      let up = (exprs_grow at right (o.right_on ++ columns_named (names_of g)) first.state).1 in
      let small_second : (second g).state.names.next ≤ 2 ^ 64 = omega arith in
      let a = keys_first F at left s fl sound left_stream left_known o.left_on typed.0 (omega arith) in
      let is : g ≡ fr = schema_is first.state.nodes right fr (later named a) in
      let whole : (h : Fields) → h ≡ fr → (second h).state.names.next ≤ 2 ^ 64 → P h (take (length o.left_on) first.exprs) (take (length o.right_on) (second h).exprs) =
      λ h e le. subst (λ (h : Fields). (second h).state.names.next ≤ 2 ^ 64 → P h (take (length o.left_on) first.exprs) (take (length o.right_on) (second h).exprs)) (sym e)
      (λ le. let b = keys_first F at right first.state fr a.answered.sound (later named a) (still_known named a) o.right_on typed.1 le in
      subst (λ (us : List Tree). P fr us (take (length o.right_on) (second fr).exprs)) (sym (taken o.left_on first.exprs a.news (columns_named (names_of fl)) a.exprs a.count))
      (subst (λ (vs : List Tree). P fr a.news vs) (sym (taken o.right_on (second fr).exprs b.news (columns_named (names_of fr)) b.exprs b.count)) (λ le. joined_makes named a b)))
      le in
      whole g is small_second small

-- Keys that are lowered together with all columns of their input.
use Rattle.std.proofs.Common.{◌≡◌, ◌≢◌, ℕ, ◌≤◌, ◌^◌, Bool, true, false, List, [], ◌∷◌, ◌++◌, length, refl, sym, ap, subst, ◌∙◌}
use Rattle.std.specs.Prelude.{◌&&◌, IsTrue, is_some, map}
use Rattle.std.specs.List.{AllByRecursion}
use Rattle.ps_frame.proofs.Lists.{and_both, both}
use Rattle.ps_frame.specs.Frames.{has_distinct_names}
use Rattle.ps_frame.specs.Functions.{Functions}
use Rattle.ps_frame.specs.Tables.{Fields, field_kind}
use Rattle.ps_frame.specs.Trees.{Tree}
use Rattle.ps_frame.specs.Typing.{is_elementwise, is_independent, kind_over}
use Rattle.ps_meaning.specs.Schemas.{names_of}
use Rattle.ps_meaning.specs.Sound.{IsSoundButForReaders, have_all_kinds}
use Rattle.ps_meaning.specs.Steps.{Named}
use Rattle.ps_rules.specs.Calls.{Answer, all_independent}
use Rattle.ps_rules.specs.Lowered.{lower_exprs}
use Rattle.ps_rules.specs.Names.{IsKnown}
use Rattle.ps_rules.specs.Slots.{State, Stream, columns_named}
use Rattle.ps_shares.proofs.Stands.{stand_for_asked}
use Rattle.rule_parts.specs.Good.{IsStream, KnowsNames}
use Rattle.rule_parts.proofs.Columns.{OwnKinds, SameKinds, last_kinds, own_itself}
use Rattle.rule_parts.proofs.Picks.{all_first}
use Rattle.rule_parts.proofs.Positions.{AllFollow, answers_follow, columns_last, follow_count}
use Rattle.rule_parts.proofs.Sides.{Carries, carries_first, goes_back}
use Rattle.rule_parts.proofs.Standing.{sound_distinct, sound_some}
use Rattle.rule_nodes.proofs.Calls.{Answered, exprs_answered, ready}

columns_last_read : (es : List Tree) (f : Fields) → f ≢ [] → all_independent (es ++ columns_named (names_of f)) ≡ false
columns_last_read [] [] some = absurd (some refl)
columns_last_read [] (x ∷ f) some = refl
columns_last_read (e ∷ es) f some = by (is_independent e) (columns_last_read es f some)
  where
    by : (b : Bool) → all_independent (es ++ columns_named (names_of f)) ≡ false → (b && all_independent (es ++ columns_named (names_of f))) ≡ false
    by true q = q
    by false q = refl

last_typed : (f : Fields) (es : List Tree) (g : Fields) → have_all_kinds f es ≡ true → OwnKinds f g → have_all_kinds f (es ++ columns_named (names_of g)) ≡ true
last_typed f [] [] h own = refl
last_typed f [] (x ∷ g) h own = and_both (is_some (field_kind x.0 f)) (have_all_kinds f (columns_named (names_of g))) (ap is_some own.0) (last_typed f [] g refl own.1)
last_typed f (e ∷ es) g h own =
    let b = both (is_some (kind_over f e)) (have_all_kinds f es) h in
    and_both (is_some (kind_over f e)) (have_all_kinds f (es ++ columns_named (names_of g))) b.0 (last_typed f es g b.1 own)

last_some : (es : List Tree) (f : Fields) → f ≢ [] → es ++ columns_named (names_of f) ≢ []
last_some [] [] some e = some refl
last_some [] (x ∷ f) some e = let w : Tree.column x.0 ∷ columns_named (names_of f) ≡ [] = e in cc
last_some (x ∷ es) f some e = let w : x ∷ (es ++ columns_named (names_of f)) ≡ [] = e in cc

module _ (F : Functions) (at : ℕ) (input : Stream) (s : State) (f : Fields) (fit : IsSoundButForReaders F s.nodes) (from : IsStream s.nodes input f) (knows : KnowsNames s.names f) where
  -- What a call for keys and all columns leaves: the columns have their kinds over the stream, and stand last among the answers.
  pub record Keyed (es : List Tree) (a : Answer) : Type 0 where
    pub answered : Answered F at input s f fit from knows (es ++ columns_named (names_of f)) a
    pub news : List Tree
    pub follow : AllFollow es news
    pub count : length news ≡ length es
    pub exprs : a.exprs ≡ news ++ columns_named (names_of f)
    pub plain : AllByRecursion (λ e. IsTrue (is_elementwise e)) news
    pub columns : SameKinds answered.schema f (names_of f)
    pub kinds : map (kind_over answered.schema) news ≡ map (kind_over f) es
    pub distinct : has_distinct_names answered.schema ≡ true
    pub back : Carries (IsKnown s.names) news es

  pub keys_first : (es : List Tree) → have_all_kinds f es ≡ true → (lower_exprs at input (es ++ columns_named (names_of f)) s).state.names.next ≤ 2 ^ 64 → Keyed es (lower_exprs at input (es ++ columns_named (names_of f)) s)
  keys_first es typed small =
      let ns = names_of f in
      let all = es ++ columns_named ns in
      let a = lower_exprs at input all s in
      let some = sound_some F s.nodes input f fit from in
      let once = sound_distinct F s.nodes input f fit from in
      let all_typed = last_typed f es f typed (own_itself f once) in
      let all_some = last_some es f some in
      let r = exprs_answered F at input s f fit from knows all all_typed all_some small in
      let stand = stand_for_asked at input s all (ready F at input s f fit from knows all all_typed all_some) small in
      let p = answers_follow at input all s (columns_last_read es f some) in
      let q = columns_last es ns p.news p.follow in
      let count = follow_count es q.news q.follow in
      let is : a.exprs ≡ q.news ++ columns_named ns = p.exprs ∙ q.exprs in
      let k = last_kinds r.schema f ns q.news es count (ap (map (kind_over r.schema)) (sym is) ∙ r.kinds) in
      record {
        answered = r;
        news = q.news;
        follow = q.follow;
        count = count;
        exprs = is;
        plain = all_first (λ e. IsTrue (is_elementwise e)) q.news (columns_named ns) (subst (AllByRecursion (λ e. IsTrue (is_elementwise e))) is r.plain);
        columns = k.columns;
        kinds = k.others;
        distinct = sound_distinct F a.state.nodes a.stream r.schema r.sound r.stream;
        back =
            carries_first (IsKnown s.names) q.news es (columns_named ns) (columns_named ns) count
            (subst (λ (xs : List Tree). Carries (IsKnown s.names) xs all) is (goes_back s.names (λ (m : Named). IsKnown a.state.names m.0) stand.1.0 a.exprs all stand.1.2 stand.1.1));
      }

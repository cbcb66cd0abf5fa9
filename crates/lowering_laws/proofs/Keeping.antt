-- The laws of the rules, said of what the calls make.
use Rattle.std.proofs.Common.{◌≡◌, ℕ, suc, ◌<◌, ◌≤◌, ◌^◌, List, [], ◌∷◌, length, refl, sym, ap, subst, ◌∙◌, arith}
use Rattle.std.specs.Prelude.{IsTrue}
use Rattle.std.specs.List.{AllByRecursion}
use Rattle.std.proofs.lemmas.List.{length-map}
use Rattle.pu_base.specs.declared.arena.Node.{Node}
use Rattle.ps_frame.specs.Functions.{Functions}
use Rattle.ps_frame.specs.Trees.{Tree}
use Rattle.ps_frame.specs.Typing.{is_elementwise}
use Rattle.ps_meaning.specs.Schemas.{expr_names}
use Rattle.ps_meaning.specs.Steps.{Name, Named, exprs_of, key_trees, name_in, named_trees}
use Rattle.ps_meaning.specs.declared.options.ExprIR.{ExprIR}
use Rattle.ps_rules.specs.Calls.{Answer}
use Rattle.ps_rules.specs.Lowered.{lower_exprs, select_stream}
use Rattle.ps_rules.specs.Slots.{State, Stream, schema_at, under}
use Rattle.ps_shares.specs.Kept.{IsReady}
use Rattle.ps_shares.specs.Leaves.{put_back}
use Rattle.ps_shares.proofs.Ends.{exprs_under}
use Rattle.ps_shares.proofs.Stands.{stand_for_asked}
use Rattle.ps_bundles.specs.Lowers.{HaveKinds}
use Rattle.ps_bundles.proofs.Lowers.{exprs_keep, selects_keep}
use Rattle.lowering_sizes.proofs.Sizes.{exprs_stay_small, selects_stay_small}
use Rattle.lowering_sound.proofs.Sounding.{exprs_stay_sound, selects_stay_sound}
use Rattle.lowering_laws.specs.Kept.{KeepsExprs, KeepsSelect, LeavesExprs, LeavesStream, names_asked}

asked_named : (f : Node → Tree) (es : List ExprIR) → under (names_asked es) (key_trees f es) ≡ named_trees f es
asked_named f [] = refl
asked_named f (e ∷ es) = ap (λ more. (name_in e.output_name, f e.node) ∷ more) (asked_named f es)

as_many : (f : Node → Tree) (es : List ExprIR) → length (names_asked es) ≡ length (key_trees f es)
as_many f [] = refl
as_many f (e ∷ es) = ap suc (as_many f es)

names_under : (ns : List Name) (es : List Tree) → length ns ≡ length es → expr_names (under ns es) ≡ ns
names_under [] es e = refl
names_under (n ∷ ns) [] e = absurd (omega arith)
names_under (n ∷ ns) (x ∷ es) e = ap (λ ms. n ∷ ms) (names_under ns es (omega arith))

module _ (F : Functions) (at : ℕ) (input : Stream) (s : State) (ns : List Name) (es : List Tree) (many : length ns ≡ length es) where
  abbrev Ruled : Answer
  Ruled = lower_exprs at input es s

  by_rule : IsReady s input es → Ruled.state.names.next ≤ 2 ^ 64 → KeepsExprs F at s Ruled.state input (under ns es) (under ns Ruled.exprs) Ruled.stream
  by_rule ready small =
      let stand = stand_for_asked at input s es ready small in
      let count : length ns ≡ length Ruled.exprs = many ∙ ap length (sym stand.1.1) ∙ length-map Ruled.exprs (put_back stand.1.0) in
      record {
        elementwise = subst (AllByRecursion (λ e. IsTrue (is_elementwise e))) (sym (exprs_under ns Ruled.exprs count)) stand.0;
        names = names_under ns Ruled.exprs count ∙ sym (names_under ns es many);
        kinds = λ tables choice rows. subst (λ (gs : List Tree). HaveKinds Ruled.state.nodes tables Ruled.stream gs (schema_at s.nodes input) (exprs_of (under ns es))) (sym (exprs_under ns Ruled.exprs count))
            (subst (λ (ks : List Tree). HaveKinds Ruled.state.nodes tables Ruled.stream Ruled.exprs (schema_at s.nodes input) ks) (sym (exprs_under ns es many)) (exprs_keep F at input s ns es ready many small tables choice rows).2);
        meaning = λ tables choice rows.
            let r = exprs_keep F at input s ns es ready many small tables choice rows in
            let z = exprs_stay_small F at input s ns es ready many tables choice rows in
            (r.0, z.0, record { causes = r.1; sizes = z.1 });
        sound = exprs_stay_sound F at input s es ready small;
      }

  pub exprs_kept : (t : State) (answered : List Named) (stream : Stream) → t ≡ Ruled.state → stream ≡ Ruled.stream → answered ≡ under ns Ruled.exprs → t.names.next < 2 ^ 64 → IsReady s input (exprs_of (under ns es))
      → KeepsExprs F at s t input (under ns es) answered stream
  exprs_kept t answered stream et em ea small ready =
      let ok : IsReady s input es = subst (IsReady s input) (exprs_under ns es many) ready in
      let le : Ruled.state.names.next ≤ 2 ^ 64 = (let n = ap (λ (x : State). x.names.next) et in omega arith) in
      subst (λ (x : State). KeepsExprs F at s x input (under ns es) answered stream) (sym et)
      (subst (λ (x : Stream). KeepsExprs F at s Ruled.state input (under ns es) answered x) (sym em)
      (subst (λ (x : List Named). KeepsExprs F at s Ruled.state input (under ns es) x Ruled.stream) (sym ea) (by_rule ok le)))

pub select_kept : (F : Functions) (at : ℕ) (input : Stream) (s t : State) (es : List Named) (stream : Stream) → t ≡ (select_stream at input es s).state → stream ≡ (select_stream at input es s).stream → t.names.next < 2 ^ 64 → IsReady s input (exprs_of es)
    → KeepsSelect F at s t input es stream
select_kept F at input s t es stream et em small ready =
    let m = select_stream at input es s in
    let le : m.state.names.next ≤ 2 ^ 64 = (let n = ap (λ (x : State). x.names.next) et in omega arith) in
    subst (λ (x : State). KeepsSelect F at s x input es stream) (sym et) (subst (λ (x : Stream). KeepsSelect F at s m.state input es x) (sym em) (record {
      meaning = λ tables choice rows.
          let r = selects_keep F at input s es ready le tables choice rows in
          (r.0, record { causes = r.1; sizes = selects_stay_small F at input s es ready tables choice rows });
      sound = λ differ. selects_stay_sound F at input s es ready differ le;
    }))

-- of expressions of an arena, under their names
pub asked_kept : (F : Functions) (f : Node → Tree) (at : ℕ) (input : Stream) (s t : State) (asked : List ExprIR) (answered : List Named) (stream : Stream) → LeavesExprs at input s t (names_asked asked) (key_trees f asked) answered stream → t.names.next < 2 ^ 64
    → IsReady s input (key_trees f asked) → KeepsExprs F at s t input (named_trees f asked) answered stream
asked_kept F f at input s t asked answered stream h small ready =
    let ns = names_asked asked in
    let es = key_trees f asked in
    let many = as_many f asked in
    let own = asked_named f asked in
    subst (λ (xs : List Named). KeepsExprs F at s t input xs answered stream) own (exprs_kept F at input s ns es many t answered stream h.nodes h.to h.exprs small (subst (IsReady s input) (sym (exprs_under ns es many)) ready))

pub stream_kept : (F : Functions) (at : ℕ) (input : Stream) (s t : State) (es : List Named) (stream : Stream) → LeavesStream at input s t es stream → t.names.next < 2 ^ 64 → IsReady s input (exprs_of es) → KeepsSelect F at s t input es stream
stream_kept F at input s t es stream h small ready = select_kept F at input s t es stream h.nodes h.to small ready

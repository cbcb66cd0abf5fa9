-- `try_get_or_insert_with` sets apart what `try_got_with` lends. The borrow checker follows no reference in a result of a result, so this proof walks the two calls by hand.
use mathlib.Core.Path.{◌≡◌, refl, sym, subst}
use mathlib.Core.List.{List, [], ◌∷◌, ◌++◌}
use lib.Dec.{T}
use mir.Syntax.{Ty, named, a_type, dcons, dnil}
use mir.Val.{Val, vptr, has_ty, WT}
use mir.MapTy.{inst_fn}
use base.Logic.{SProp, id⊢, emp}
use base.Fml.{ftrue, flft}
use prog.Wp.{WpFn}
use types.Kit.{‵, raw, ◌⊛◌, some, later, prop, ◌$◌, ◌∵◌, !, qed, by, move, drop, split, join, fjoin, pick, use0, use1, await, rewrite, regoal}
use types.Run.{stop, addr, of_opd, no_more, and_then, returns, enter}
use types.ByLocal.{alloc_all, pass_all, free_all, look_at, get, through, sets, lands_as}
use contract.BorrowLft.{◌⊑◌}
use contract.Monad.{fact, fact_i}
use contract.Running.{tables}
use denote.Builtin.{RefMutOf, RefOf}
use denote.Exit.{yes, no}
use denote.Laws.{Is, Typed, shows}
use denote.RattleType.{RattleType}
use denote.Param.{param, layout, bounded}
use denote.Param.Laws.{Laws, param_laws, of_field, row_shared}
use denote.Param.Shared.{mut_ref_shared}
use denote.Ref.{MutBor, MutRef}
use denote.Signature.{plain}
use denote.Steps.{nothing, heard, peeks}
use denote.Struct.Field.{mut_ref_field}
use denote.Struct.Laws.{mut_ref_laws}
use denote.Triple.Call.{calls_at}
use denote.Triple.Clauses.{Lasts, lasts}
use denote.Triple.Entry.{Vals, on_entry}
use denote.Triple.Spec.{triple_of}
use denote.Triple.Table.{framed}
use denote.Triple.Walked.{Stays, stay_dropped, walk_of, Goes-spent_ref, Goes-dropped}
use Rattle.std.proofs.raw_atomic.Walks.{proved_at, leaves}
use Rattle.std.proofs.Common.{ℕ, Option, Ok, Err, IsOk, IsSome, IfOk, IfErr, OnErr}
use Rattle.std.specs.Prelude.{IsOkAnd}
use Rattle.std.specs.Option.{UnwrapsOrElse}
use Rattle.std.specs.contracts.result.Result as result
use Rattle.std.proofs.result.Result.TheLaws as result_laws
use Rattle.pu_base.specs.contracts.error.PolarsUtilsError as utils_error
use Rattle.pu_base.proofs.error.PolarsUtilsError.TheLaws as utils_error_laws
use Rattle.pu_base.specs.declared.error.PolarsUtilsError.TheVariants as refusal
use Rattle.pu_map.specs.Cache.{key_hash, place_of, place_to_fill, value_at, AnswersCopy, set_apart}
use Rattle.pu_map.specs.CacheLends.{lends_got, lends_tried}
use Rattle.pu_map.specs.declared.cache.Refusal.TheVariants.{Function}
use Rattle.pu_map.specs.contracts.cache.Refusal as refusal_row
use Rattle.pu_map.proofs.cache.Refusal.TheLaws as refusal_laws
use Rattle.pu_map.specs.contracts.cache.FastFixedCache as cache
use Rattle.pu_map.proofs.TriedLemmas.{apart-value, apart-refused, apart-found, apart-memory, apart-lends}
use Rattle.pu_map.specs.contracts.cache.FastFixedCache.try_got_with as g
use Rattle.pu_map.proofs.cache.FastFixedCache.try_got_with.Met as got_met
use Rattle.pu_map.specs.contracts.cache.set_apart as s
use Rattle.pu_map.proofs.cache.set_apart.Met as set_met
use Rattle.pu_map.specs.contracts.cache.FastFixedCache.try_get_or_insert_with as f
use Rattle.pu_map.specs.contracts.cache.FastFixedCache.try_get_or_insert_with.Key.{name as #self}
use Rattle.pu_map.proofs.cache.FastFixedCache.try_get_or_insert_with.Statement.{statement}
use Rattle.pu_map.proofs.cache.FastFixedCache.try_get_or_insert_with.Code as code

-- values of one type are one value
one : (τ : Ty) (vs : List Val) → Typed (τ ∷ []) vs → (v : Val) × (vs ≡ v ∷ []) × (T (has_ty τ v) × WT v)
one τ [] t = absurd t
one τ (v ∷ []) t = (v, refl, t.0)
one τ (v ∷ w ∷ vs) t = absurd t.1

module _ (V E : RattleType) (LV : Laws V) (LE : Laws E) (κ : List ℕ) where
  abbrev One : RattleType
  One = MutRef (named 0) κ (param 1 V)

  abbrev Lent : RattleType
  Lent = result.the_row One (refusal_row.the_row (param 2 E))

  abbrev Apart : RattleType
  Apart = result.the_row (result.the_row One (param 2 E)) utils_error.the_row

  one_laws : Laws One
  one_laws = of_field (mut_ref_field (record { mir = named 0; lft = κ }) (param 1 V) tt) (mut_ref_laws (record { mir = named 0; lft = κ }) (param 1 V) tt) refl (mut_ref_shared (record { mir = named 0; lft = κ }) (param 1 V) tt (row_shared (param 1 V) (param_laws 1 V LV)))

  lent_laws : Laws Lent
  lent_laws = result_laws.the_row_laws One (refusal_row.the_row (param 2 E)) one_laws (refusal_laws.the_row_laws (param 2 E) (param_laws 2 E LE))

  apart_laws : Laws Apart
  apart_laws = result_laws.the_row_laws (result.the_row One (param 2 E)) utils_error.the_row (result_laws.the_row_laws One (param 2 E) one_laws (param_laws 2 E LE)) utils_error_laws.the_row_laws

pub try_get_or_insert_with_spec : {M : Type 1} → statement M
try_get_or_insert_with_spec 𝓤 𝓛 𝓜 𝓡 wired K V E F LK LV LE LF kh dkh ke dke kp dkp fo dfo kc dkc dk dv df mkh mke mkp mfo mkc mk mv mf =
    let H = 𝓛.H in let 𝓣 = tables 𝓤 H 𝓜 𝓡 𝓡.env in let fm = framed 𝓤 H 𝓜 𝓣 in
    let En = f.ended K V E F kh dkh ke dke kp dkp fo dfo kc dkc dk dv df in
    let c = f.clauses K V E F kh dkh ke dke kp dkp fo dfo kc dkc dk dv df 𝓛 𝓜.mem 𝓡.returns in
    let given = bounded (a_type ∷ a_type ∷ a_type ∷ a_type ∷ []) (K, (V, (E, (F, tt)))) (dcons dkh (dcons dke (dcons dkp (dcons dfo (dcons dkc (dcons dk (dcons dv (dcons df dnil)))))))) in
    let fn = inst_fn given code.function in
    let Whole : RattleType = cache.the_row (param 0 K) (param 1 V) in
    let hs : Stays En.signature.params En.kept = (stay_dropped (RefMutOf (0 ∷ []) tt (plain (λ _. Whole)) (λ _. tt)) no, (stay_dropped (RefOf (1 ∷ []) tt (plain (λ _. param 0 K)) (λ _. tt)) yes, (stay_dropped (plain (λ _. param 3 F)) no, tt))) in
    let k₁ = triple_of 𝓛 (g.signature K V E F) (g.spec K V E F kh dkh ke dke kp dkp fo dfo kc dkc dk dv df 𝓛 𝓜.mem 𝓡.returns) in
    let k₂ = triple_of 𝓛 (s.signature V E) (s.spec V E 𝓛 𝓜.mem 𝓡.returns) in
    proved_at 𝓛 En hs c 𝓜 𝓡 (Goes-spent_ref 𝓛 6 (0 ∷ []) tt (plain (λ _. Whole)), (Goes-dropped 𝓛 6 (RefOf (1 ∷ []) tt (plain (λ _. param 0 K)) (λ _. tt)) yes (λ κs x f. refl), (Goes-dropped 𝓛 6 (plain (λ _. param 3 F)) no (λ κs x f. refl), tt)))
    (#self given) fn (code.unfolded 𝓤 H 𝓜 𝓡 wired (K, (V, (E, (F, tt)))) dkh dke dkp dfo dkc dk dv df) (λ z are.
    let κs = z.0.0 in let qs = z.0.1 in let a = z.0.3 in let Post : Val → SProp 𝓤 = (walk_of 𝓛 En hs c).post z in
    let at = one (layout F) z.0.4.1.1.0 (((param_laws 3 F LF).lawful 𝓛).typed a.1.1.0 z.0.4.1.1.0 are.1.1.0) in let w : Val = at.0 in let good = at.2 in
    let p = vptr a.0.ref_ptr.0 a.0.ref_ptr.1 in let k = vptr a.1.0.ref_ptr.0 a.1.0.ref_ptr.1 in
    let vss : Vals En.signature κs = (p ∷ [], (k ∷ [], (w ∷ [], tt))) in
    let same : z.0.4 ≡ vss = λ i. (are.0.0 i, (are.1.0.0 i, (at.1 i, tt))) in
    let L₁ = Lent V E LV LE κs.0 in let L₂ = Apart V E LV LE κs.0 in
    let y₁ : k₁.Ghost = ((κs, qs, z.0.2, a, vss), tt) in
    let asked : SProp 𝓤 = f.requires-callable K V E F kh dkh ke dke kp dkp fo dfo kc dkc dk dv df 𝓛 κs 𝓜.mem 𝓡.returns a.0 a.1.0 a.1.1.0 in
    let place : Option ℕ = place_of kp.eq a.0.now.slots (key_hash (kh.hash_input a.1.0.now)) a.1.0.now in
    let free : ℕ = place_to_fill kp.eq a.0.now.slots (key_hash (kh.hash_input a.1.0.now)) a.1.0.now in
    let Made : K.Denot → V.Denot → Type 0 = λ copy value. AnswersCopy kc.is_clone fo a.1.1.0 a.1.0.now copy (Ok value) in
    let Value : MutBor V.Denot → Type 0 = λ x. UnwrapsOrElse (value_at a.0.now.slots place) (λ value. (copy : K.Denot) × Made copy value) x.now in
    let Refused : E.Denot → Type 0 = λ e. (copy : K.Denot) × AnswersCopy kc.is_clone fo a.1.1.0 a.1.0.now copy (Err e) in
    let t₀ = ‵ (flft κs.0 qs.0) in let t₁ = ‵ (flft κs.1.0 qs.1.0) in let t₂ = ‵ (flft κs.1.1.0 qs.1.1.0) in let t₃ = ‵ (flft κs.1.1.1.0 qs.1.1.1.0) in let t₄ = ‵ (flft κs.1.1.1.1.0 qs.1.1.1.1.0) in let t₅ = ‵ (flft κs.1.1.1.1.1.0 qs.1.1.1.1.1.0) in
    qed 𝓛 (raw (on_entry 𝓛 En.signature κs qs a z.0.4) ∷ raw (fact 𝓤 (κs.1.1.0 ⊑ K.lives)) ∷ raw (fact 𝓤 (κs.1.1.1.0 ⊑ V.lives)) ∷ raw (fact 𝓤 (κs.1.1.1.1.0 ⊑ E.lives)) ∷ raw (fact 𝓤 (κs.1.1.1.1.1.0 ⊑ F.lives)) ∷ raw asked ∷ []) ∵
    move ! (1 ∷ []) $ heard ! _ (λ lk. move ! (1 ∷ []) $ heard ! _ (λ lv. move ! (1 ∷ []) $ heard ! _ (λ le. move ! (1 ∷ []) $ heard ! _ (λ lf.
    rewrite ! 0 (λ (us : Vals En.signature κs). raw (on_entry 𝓛 En.signature κs qs a us)) same refl $
    regoal ! (λ (us : List Val). prop (WpFn 𝓤 H 𝓣.C 𝓣.Λ fn us Post)) (λ i. are.0.0 i ++ (are.1.0.0 i ++ (at.1 i ++ []))) refl $
    enter ! 𝓣.C 𝓣.Λ fn (p ∷ k ∷ w ∷ []) Post $ alloc_all ! (λ l. pass_all ! refl ((tt, tt), ((tt, tt), (good, tt))) $
    sets ! (addr ! (through ! refl (stop !))) refl (tt, tt) $ sets ! (of_opd ! (get ! refl)) refl good $
    -- [the tokens and arguments; what is asked]
    move ! (1 ∷ []) $ use0 𝓛 (raw (fact 𝓤 (κs.1.1.1.1.1.0 ⊑ F.lives))) (fact_i 𝓤 _ (emp 𝓤) lf) $ join ! $ use0 𝓛 (raw (fact 𝓤 (κs.1.1.1.1.0 ⊑ E.lives))) (fact_i 𝓤 _ (emp 𝓤) le) $ join ! $
    use0 𝓛 (raw (fact 𝓤 (κs.1.1.1.0 ⊑ V.lives))) (fact_i 𝓤 _ (emp 𝓤) lv) $ join ! $ use0 𝓛 (raw (fact 𝓤 (κs.1.1.0 ⊑ K.lives))) (fact_i 𝓤 _ (emp 𝓤) lk) $ join ! $
    move ! (1 ∷ 0 ∷ []) $ join ! $ use1 𝓛 (raw (k₁.pre y₁)) (id⊢ 𝓤 (k₁.pre y₁)) $
    calls_at ! fm k₁ (got_met.met 𝓤 𝓛 𝓜 𝓡 (code.calls-pu_map::cache::FastFixedCache::try_got_with 𝓡.env wired) K V E F LK LV LE LF kh dkh ke dke kp dkp fo dfo kc dkc dk dv df mkh mke mkp mfo mkc mk mv mf) y₁ (and_then ! (get ! refl) (and_then ! (get ! refl) (and_then ! (get ! refl) (no_more !)))) (λ v.
    use1 𝓛 (later (some (λ (r : L₁.Denot). ((t₀ ⊛ t₁ ⊛ t₂ ⊛ t₃ ⊛ t₄ ⊛ t₅ ⊛ ‵ ftrue) ⊛ ‵ (L₁.own_val r (v ∷ []))) ⊛ some (λ (ws : Lasts (g.ended K V E F kh dkh ke dke kp dkp fo dfo kc dkc dk dv df) κs a). ‵ (lasts (g.ended K V E F kh dkh ke dke kp dkp fo dfo kc dkc dk dv df) κs a ws)
    ⊛ (‵ (lends_got (param 0 K) (param 1 V) a.0 place free Made r) ⊛ (raw (fact 𝓤 (IfOk r Value)) ⊛ (raw (fact 𝓤 ((e : E.Denot) → r ≡ Err (Function e) → Refused e)) ⊛ raw (fact 𝓤 (IsSome place → IsOk r))))))))) (id⊢ 𝓤 (k₁.post y₁ v)) $
    await ! tt $ pick ! (λ r. split ! $ split ! $ move ! (2 ∷ []) $ pick ! (λ _. split ! $ drop ! $ split ! $ move ! (1 ∷ []) $ split ! $ heard ! _ (λ value. split ! $ heard ! _ (λ says. heard ! _ (λ found.
    -- [what the cache follows; the tokens; what is lent]
    move ! (2 ∷ []) $ peeks ! L₁ (Is L₁) (shows 𝓛 L₁) r (v ∷ []) (λ is.
    lands_as ! refl refl (((lent_laws V E LV LE κs.0).lawful 𝓛).typed r (v ∷ []) is).0 $
    -- [what is lent; what the cache follows; the tokens]
    move ! (2 ∷ []) $ split ! $ move ! (1 ∷ []) $ split ! $ move ! (1 ∷ []) $ split ! $ move ! (1 ∷ []) $ split ! $ move ! (1 ∷ []) $ split ! $
    -- [t₄; t₅; t₃; t₂; t₁; t₀; what is lent; what the cache follows]
    let y₂ : k₂.Ghost = (((κs.0, (κs.1.1.1.0, (κs.1.1.1.1.0, tt))), (qs.0, (qs.1.1.1.0, (qs.1.1.1.1.0, tt))), (z.0.2.1.0, tt), (r, tt), (v ∷ [], tt)), tt) in
    nothing ! $ move ! (1 ∷ 0 ∷ []) $ join ! $ move ! (2 ∷ 0 ∷ []) $ join ! $ move ! (4 ∷ 0 ∷ []) $ join ! $
    move ! (4 ∷ []) $ nothing ! $ move ! (1 ∷ 0 ∷ []) $ fjoin ! $ move ! (1 ∷ 0 ∷ []) $ join ! $
    nothing ! $ use0 𝓛 (raw (fact 𝓤 (κs.1.1.1.1.0 ⊑ E.lives))) (fact_i 𝓤 _ (emp 𝓤) le) $ join ! $ use0 𝓛 (raw (fact 𝓤 (κs.1.1.1.0 ⊑ V.lives))) (fact_i 𝓤 _ (emp 𝓤) lv) $ join ! $
    move ! (1 ∷ 0 ∷ []) $ join ! $ use1 𝓛 (raw (k₂.pre y₂)) (id⊢ 𝓤 (k₂.pre y₂)) $
    calls_at ! fm k₂ (set_met.met 𝓤 𝓛 𝓜 𝓡 (code.calls-pu_map::cache::set_apart 𝓡.env wired) V E LV LE) y₂ (and_then ! (get ! refl) (no_more !)) (λ u.
    use1 𝓛 (later (some (λ (x : L₂.Denot). ((t₀ ⊛ t₃ ⊛ t₄ ⊛ ‵ ftrue) ⊛ ‵ (L₂.own_val x (u ∷ []))) ⊛ some (λ (ws : Lasts (s.ended V E) y₂.0.0 (r, tt)). ‵ (lasts (s.ended V E) y₂.0.0 (r, tt) ws) ⊛ raw (fact 𝓤 (x ≡ set_apart r)))))) (id⊢ 𝓤 (k₂.post y₂ u)) $
    await ! tt $ pick ! (λ x. split ! $ split ! $ move ! (2 ∷ []) $ pick ! (λ _. split ! $ drop ! $ heard ! _ (λ e.
    -- [the three tokens; what is lent; t₅; t₂; t₁; what the cache follows]
    move ! (1 ∷ []) $ peeks ! L₂ (Is L₂) (shows 𝓛 L₂) x (u ∷ []) (λ is'.
    lands_as ! refl refl (((apart_laws V E LV LE κs.0).lawful 𝓛).typed x (u ∷ []) is').0 $ returns ! (look_at ! 0 refl) $ free_all ! refl $
    move ! (1 ∷ []) $ split ! $ move ! (1 ∷ []) $ split ! $ move ! (1 ∷ []) $ split ! $ move ! (1 ∷ []) $ drop ! $
    -- [t₄; t₃; t₀; what is lent; t₅; t₂; t₁; what the cache follows]
    move ! (0 ∷ 4 ∷ []) $ join ! $ move ! (1 ∷ 0 ∷ []) $ join ! $ move ! (3 ∷ 0 ∷ []) $ join ! $ move ! (3 ∷ 0 ∷ []) $ join ! $ move ! (1 ∷ 0 ∷ []) $ join ! $
    move ! (2 ∷ []) $ use1 𝓛 (‵ (lends_tried (param 0 K) (param 1 V) a.0 place free Made (set_apart r))) (apart-lends 𝓛 (param 0 K) (param 1 V) a.0 place free Made r) $
    rewrite ! 0 (λ (m : L₂.Denot). ‵ (lends_tried (param 0 K) (param 1 V) a.0 place free Made m)) (sym e) refl $
    use0 𝓛 (raw (fact 𝓤 (OnErr x (x ≡ Err refusal.OutOfMemory)))) (fact_i 𝓤 _ (emp 𝓤) (subst (λ (m : L₂.Denot). OnErr m (m ≡ Err refusal.OutOfMemory)) (sym e) (apart-memory r))) $
    use0 𝓛 (raw (fact 𝓤 (IsSome place → IsOkAnd x (λ made. IsOk made)))) (fact_i 𝓤 _ (emp 𝓤) (λ there. subst (λ (m : L₂.Denot). IsOkAnd m (λ made. IsOk made)) (sym e) (apart-found r (found there)))) $ join ! $
    use0 𝓛 (raw (fact 𝓤 (IfOk x (λ made. IfErr made Refused)))) (fact_i 𝓤 _ (emp 𝓤) (subst (λ (m : L₂.Denot). IfOk m (λ made. IfErr made Refused)) (sym e) (apart-refused Refused r says))) $ join ! $
    use0 𝓛 (raw (fact 𝓤 (IfOk x (λ made. IfOk made Value)))) (fact_i 𝓤 _ (emp 𝓤) (subst (λ (m : L₂.Denot). IfOk m (λ made. IfOk made Value)) (sym e) (apart-value Value r value))) $ join ! $
    move ! (1 ∷ 0 ∷ []) $ join ! $
    -- [the clauses; the tokens; what is lent]
    nothing ! $ nothing ! $ fjoin ! $ nothing ! $ fjoin ! $ nothing ! $ fjoin ! $ move ! (2 ∷ 0 ∷ 3 ∷ 1 ∷ []) $ by ! (leaves 𝓛 En hs c z u x (tt, (tt, (tt, tt))) (tt, (tt, (tt, tt))))))))))))))))))))))

-- The first part of the law of what keeps its input and gives one table of it: maps, in-memory joins, reduces.
use Rattle.std.proofs.Common.{◌≡◌, ℕ, zero, suc, List, [], ◌∷◌, ◌++◌, true, false, refl, sym, ap, subst, ◌∙◌, append-nil}
use Rattle.std.specs.Prelude.{IsTrue}
use Rattle.std.specs.List.{AllByRecursion, AllZip}
use Rattle.ps_frame.specs.Functions.{Functions}
use Rattle.ps_frame.specs.Tables.{Fields, Table}
use Rattle.ps_turns.specs.Tables.{whole_tables}
use Rattle.ps_meaning.specs.Cases.{schemas_of, rows_table}
use Rattle.ps_meaning.specs.Shape.{PhysicalCase, PhysicalNode}
use Rattle.ps_world.specs.Keeping.{GivesMade, IsTotal, gives_none, gives_some, received_rows}
use Rattle.ps_world.specs.Laws.{Extends, Justified, Sent, nothing_sent}

whole_is : (s : Fields) (x : Sent) (T : Table) → T.schema ≡ s → IsTrue x.is_complete → Extends x T → T ≡ rows_table s x.rows
whole_is s x T e complete m = let h = m.ends complete in λ i. record { schema = e i; rows = sym h.0 i; broken = h.1 i }

first_same : {A : Type 0} (x y : A) (xs ys : List A) → x ∷ xs ≡ y ∷ ys → x ≡ y
first_same x y xs ys e = cc

rest_same : {A : Type 0} (x y : A) (xs ys : List A) → x ∷ xs ≡ y ∷ ys → xs ≡ ys
rest_same x y xs ys e = cc

-- where all that came is complete, the inputs mean that and nothing else
all_whole : (ss : List Fields) (ins : List Sent) (Ts : List Table) → schemas_of Ts ≡ ss → AllByRecursion (λ (s : Sent). IsTrue s.is_complete) ins → AllZip Extends ins Ts → Ts ≡ whole_tables ss (received_rows ins)
all_whole [] [] [] e c m = refl
all_whole (s ∷ ss) [] [] e c m = absurd (let no : [] ≡ s ∷ ss = e in cc)
all_whole ss [] (T ∷ Ts) e c m = absurd m
all_whole ss (x ∷ ins) [] e c m = absurd m
all_whole [] (x ∷ ins) (T ∷ Ts) e c m = absurd (let no : T.schema ∷ schemas_of Ts ≡ [] = e in cc)
all_whole (s ∷ ss) (x ∷ ins) (T ∷ Ts) e c m =
    let here = whole_is s x T (first_same T.schema s (schemas_of Ts) ss e) c.0 m.0 in
    let there = all_whole ss ins Ts (rest_same T.schema s (schemas_of Ts) ss e) c.1 m.1 in
    λ i. here i ∷ there i

no_more : (T : Table) → Extends nothing_sent T
no_more T = record { rest = T.rows; begins = refl; ends = λ c. absurd (let no : false ≡ true = c in cc) }

module _ (F : Functions) (p : PhysicalNode) (ss : List Fields) (total : IsTotal F p ss) (ins : List Sent) (outs : ℕ → Sent) (others : (k : ℕ) → outs (suc k) ≡ nothing_sent) where
  ports : (T : Table) → Extends (outs 0) T → (k : ℕ) → Extends (outs k) T
  ports T first zero = first
  ports T first (suc k) = subst (λ x. Extends x T) (sym (others k)) (no_more T)

  pub keeper_justified : GivesMade F p ss ins (outs 0) → Justified F p ss ins outs
  keeper_justified (gives_none none partial) Ts e m =
      let t = total Ts e in
      let first : Extends (outs 0) t.0 = record { rest = t.0.rows; begins = ap (λ rs. rs ++ t.0.rows) none; ends = λ c. absurd (let no : false ≡ true = sym partial ∙ c in cc) } in
      (t.0, t.1, t.2, ports t.0 first)
  keeper_justified (gives_some complete T case whole schema rest begins all) Ts e m =
      let same = all_whole ss ins Ts e complete m in
      let first : Extends (outs 0) T = record { rest = rest; begins = begins; ends = λ c. (sym (append-nil (outs 0).rows) ∙ ap (λ rs. (outs 0).rows ++ rs) (sym (all c)) ∙ begins, whole) } in
      (T, schema, subst (λ ts. PhysicalCase F p ts T) (sym same) case, ports T first)

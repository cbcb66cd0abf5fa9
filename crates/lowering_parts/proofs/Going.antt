-- A lowering that goes on, step by step.
use Rattle.std.proofs.Common.{◌≡◌, List, ◌++◌, Ok, Err, Result, length, refl, sym, ap, subst, ◌∙◌, take, drop}
use Rattle.std.specs.Prelude.{OnErr, OnOk}
use Rattle.std.proofs.Math.Seq.{take-append_seam, take-length}
use Rattle.std.proofs.lemmas.List.{append_assoc, take-append-drop}
use Rattle.ps_copies.specs.Copies.{KeepsTrees}
use Rattle.ps_frame.specs.declared.expr.AExpr.{AExpr}
use Rattle.ps_frame.specs.declared.refusal.PolarsError.{PolarsError}
use Rattle.ps_fresh.specs.Known.{Remembers}
use Rattle.ps_fresh.specs.declared.expr_cache.ExprCache.{ExprCache}
use Rattle.ps_fresh.specs.declared.lowering.Lowering.{Lowering}
use Rattle.ps_rules.proofs.Free.{still_known}
use Rattle.ps_rules.specs.Names.{IsKnown, Names, after_fresh}
use Rattle.lowering_parts.proofs.Grown.{kept-then}
use Rattle.lowering_parts.proofs.LaterLemmas.{remembers_later}
use Rattle.lowering_parts.specs.Gathered.{Begins, GoesOn, KeepsNames}

-- a list begins with itself, with what it is, and with what others were put behind
pub begins_same : {A : Type 0} (xs : List A) → Begins xs xs
begins_same xs = take-length xs

pub begins_equal : {A : Type 0} (xs ys : List A) → ys ≡ xs → Begins xs ys
begins_equal xs ys e = ap (take (length xs)) e ∙ take-length xs

pub begins_more : {A : Type 0} (xs ys rest : List A) → ys ≡ xs ++ rest → Begins xs ys
begins_more xs ys rest e = ap (take (length xs)) e ∙ take-append_seam xs rest

rest_of : {A : Type 0} (xs ys : List A) → Begins xs ys → ys ≡ xs ++ drop (length xs) ys
rest_of xs ys h = sym (take-append-drop (length xs) ys) ∙ ap (λ zs. zs ++ drop (length xs) ys) h

pub begins_then : {A : Type 0} (xs ys zs : List A) → Begins xs ys → Begins ys zs → Begins xs zs
begins_then xs ys zs g h =
    begins_more xs zs (drop (length xs) ys ++ drop (length ys) zs)
    (rest_of ys zs h ∙ ap (λ ws. ws ++ drop (length ys) zs) (rest_of xs ys g) ∙ append_assoc xs (drop (length xs) ys) (drop (length ys) zs))

-- names stay in use where one more is, and where none is
pub names_stay : {X : Type 0} (r : Result X PolarsError) (old new : Names) → OnOk r (new ≡ after_fresh old) → OnErr r (new ≡ old) → KeepsNames old new
names_stay (Ok x) old new e h = λ n k. subst (λ (ns : Names). IsKnown ns n) (sym e) (still_known old n k)
names_stay (Err x) old new e h = λ n k. subst (λ (ns : Names). IsKnown ns n) (sym h) k

-- what stands where a call has failed
pub on_err : {X A : Type 0} (r : Result X PolarsError) → A → OnErr r A
on_err (Ok x) a = tt
on_err (Err e) a = a

-- Nothing happens; a name more is in use; entries are added; nodes are added; more is known of expressions.
pub goes_nowhere : (a : List AExpr) (l m : Lowering) → Remembers a l.cache → m ≡ l → GoesOn a a l m
goes_nowhere a l m known e =
    let P : Lowering → Type 0 = λ n. GoesOn a a l n in
    subst P (sym e) (record {
      entries = begins_same a;
      trees = λ n h. refl;
      nodes = begins_same l.phys_sm.slots;
      names = λ n k. k;
      origin = refl;
      cache = known;
    })

pub goes_named : (a : List AExpr) (l m : Lowering) → Remembers a l.cache → m ≡ record l { names = after_fresh l.names } → GoesOn a a l m
goes_named a l m known e =
    let P : Lowering → Type 0 = λ n. GoesOn a a l n in
    subst P (sym e) (record {
      entries = begins_same a;
      trees = λ n h. refl;
      nodes = begins_same l.phys_sm.slots;
      names = λ n k. still_known l.names n k;
      origin = refl;
      cache = known;
    })

pub goes_knowing : (a : List AExpr) (l : Lowering) (cache : ExprCache) → Remembers a cache → GoesOn a a l (record l { cache = cache })
goes_knowing a l cache known = record {
  entries = begins_same a;
  trees = λ n h. refl;
  nodes = begins_same l.phys_sm.slots;
  names = λ n k. k;
  origin = refl;
  cache = known;
}

pub goes_added : (a b c : List AExpr) (l m : Lowering) → GoesOn a b l m → Begins b c → KeepsTrees b c → GoesOn a c l m
goes_added a b c l m g entries trees = record {
  entries = begins_then a b c g.entries entries;
  trees = kept-then a b c g.trees trees;
  nodes = g.nodes;
  names = g.names;
  origin = g.origin;
  cache = remembers_later b c trees m g.cache;
}

pub goes_built : (a b : List AExpr) (l m n : Lowering) → GoesOn a b l m → Begins m.phys_sm.slots n.phys_sm.slots → n ≡ record m { phys_sm = n.phys_sm } → GoesOn a b l n
goes_built a b l m n g nodes e = record {
  entries = g.entries;
  trees = g.trees;
  nodes = begins_then l.phys_sm.slots m.phys_sm.slots n.phys_sm.slots g.nodes nodes;
  names = subst (λ (ns : Names). KeepsNames l.names ns) (sym (ap (λ (x : Lowering). x.names) e)) g.names;
  origin = ap (λ (x : Lowering). x.origin) e ∙ g.origin;
  cache = subst (Remembers b) (sym (ap (λ (x : Lowering). x.cache) e)) g.cache;
}

-- one step after the other
pub goes_then : (a b c : List AExpr) (l m n : Lowering) → GoesOn a b l m → GoesOn b c m n → GoesOn a c l n
goes_then a b c l m n g h = record {
  entries = begins_then a b c g.entries h.entries;
  trees = kept-then a b c g.trees h.trees;
  nodes = begins_then l.phys_sm.slots m.phys_sm.slots n.phys_sm.slots g.nodes h.nodes;
  names = λ x k. h.names x (g.names x k);
  origin = h.origin ∙ g.origin;
  cache = h.cache;
}

-- Expressions that go by cell stay as they are over the input, and no node is made.
use Rattle.std.proofs.Common.{◌≡◌, ◌≢◌, ℕ, Bool, true, false, cond, ◌&&◌, ◌||◌, List, [], ◌∷◌, ◌++◌, refl, sym, ap, ◌∙◌, arith}
use Rattle.std.proofs.lemmas.List.{append_assoc, append-nil}
use Rattle.std.specs.Prelude.{◌==◌, map}
use Rattle.std.specs.List.{list_all}
use Rattle.ps_frame.proofs.Lists.{and_both, both}
use Rattle.ps_frame.specs.Tables.{Fields}
use Rattle.ps_frame.specs.Trees.{Tree}
use Rattle.ps_frame.specs.Typing.{is_elementwise, is_independent}
use Rattle.ps_meaning.specs.Schemas.{names_of}
use Rattle.ps_meaning.specs.Steps.{Name}
use Rattle.ps_rules.specs.Bundles.{finished, gathered, one_stream}
use Rattle.ps_rules.specs.Calls.{Bundle, Call, all_independent, each, exprs_of_all, left_to_map, new_call}
use Rattle.ps_rules.specs.Lowered.{as_operand, lower, lower_exprs}
use Rattle.ps_rules.specs.Rules.{apart_from_input, first_tree, over_input, over_operands, second_tree, stays, stays_or, third_tree}
use Rattle.ps_rules.specs.Slots.{State, Stream, added, columns_named, same_stream}

nat_itself : (n : ℕ) → (n == n) ≡ true
nat_itself n = grind (arith)

module _ (at : ℕ) (input : Stream) where
  by_test : (e : Tree) (rule : Call → Call) (call : Call) → is_elementwise e ≡ true → stays_or at input e rule call ≡ stays at input e call
  by_test e rule call h = ap (λ (b : Bool). cond {A = Call → Call} b (stays at input e) rule call) h

  stays_there : (e : Tree) → is_elementwise e ≡ true → (call : Call) → lower at input e call ≡ stays at input e call
  stays_there (Tree.column name) h call = refl
  stays_there (Tree.literal l) h call = refl
  stays_there (Tree.binary o l r) h call = by_test (Tree.binary o l r) (over_operands at input (λ es. Tree.binary o (first_tree es) (second_tree es)) (as_operand at input l ∷ as_operand at input r ∷ [])) call h
  stays_there (Tree.cast k strict e) h call = by_test (Tree.cast k strict e) (over_operands at input (λ es. Tree.cast k strict (first_tree es)) (as_operand at input e ∷ [])) call h
  stays_there (Tree.sort d n e) h call = cc
  stays_there (Tree.sort_by d n e by) h call = cc
  stays_there (Tree.gather s e i) h call = cc
  stays_there (Tree.filter e by) h call = cc
  stays_there (Tree.aggregate a e) h call = cc
  stays_there (Tree.ternary p a b) h call =
      by_test (Tree.ternary p a b) (over_operands at input (λ es. Tree.ternary (first_tree es) (second_tree es) (third_tree es)) (as_operand at input p ∷ as_operand at input a ∷ as_operand at input b ∷ [])) call h
  stays_there (Tree.function g e) h call = by_test (Tree.function g e) (left_to_map (Tree.function g e)) call h
  stays_there (Tree.slice e o l) h call = cc
  stays_there Tree.len h call = cc
  stays_there (Tree.left_out w) h call = cc
  stays_there Tree.missing h call = cc

  -- the input is a stream once some expression reads it
  abbrev streams_after : List Tree → List Stream → List Stream
  streams_after [] ss = ss
  streams_after (e ∷ es) ss = streams_after es (cond {A = List Stream} (is_independent e) ss (added input ss))

  added_again : added input (input ∷ []) ≡ input ∷ []
  added_again = ap (λ (b : Bool). cond {A = List Stream} (b || false) (input ∷ []) (input ∷ input ∷ [])) same
    where
      same : same_stream input input ≡ true
      same = and_both (input.0 == input.0) (input.1 == input.1) (nat_itself input.0) (nat_itself input.1)

  once : (es : List Tree) → streams_after es (input ∷ []) ≡ input ∷ []
  once [] = refl
  once (e ∷ es) = ap (streams_after es) (by (is_independent e)) ∙ once es
    where
      by : (b : Bool) → cond {A = List Stream} b (input ∷ []) (added input (input ∷ [])) ≡ input ∷ []
      by true = refl
      by false = added_again

  first_time : (es : List Tree) → all_independent es ≡ false → streams_after es [] ≡ input ∷ []
  first_time [] d = cc
  first_time (e ∷ es) d = by (is_independent e) d (first_time es)
    where
      by : (b : Bool) → (b && all_independent es) ≡ false → (all_independent es ≡ false → streams_after es [] ≡ input ∷ []) → streams_after es (cond {A = List Stream} b [] (added input [])) ≡ input ∷ []
      by true d more = more d
      by false d more = once es

  each_stays : (es : List Tree) → list_all is_elementwise es ≡ true → (call : Call) → each (map (as_operand at input) es) call ≡ record call { streams = streams_after es call.streams; exprs = call.exprs ++ es }
  each_stays [] h call = ap (λ (xs : List Tree). record call { exprs = xs }) (sym (append-nil call.exprs))
  each_stays (e ∷ es) h call =
      let parts = both (is_elementwise e) (list_all is_elementwise es) h in
      ap (each (map (as_operand at input) es)) (stays_there e parts.0 call)
      ∙ each_stays es parts.1 (stays at input e call)
      ∙ ap (λ (xs : List Tree). record call { streams = streams_after (e ∷ es) call.streams; exprs = xs }) (append_assoc call.exprs (e ∷ []) es)

  pub operands_back : (es : List Tree) → exprs_of_all (map (as_operand at input) es) ≡ es
  operands_back [] = refl
  operands_back (e ∷ es) = ap (λ (es : List Tree). e ∷ es) (operands_back es)

  pub stays_alone : (es : List Tree) → list_all is_elementwise es ≡ true → all_independent es ≡ false → (s : State) → lower_exprs at input es s ≡ record { state = s; stream = input; exprs = es }
  stays_alone es h d s =
      let os = map (as_operand at input) es in
      ap (λ (b : Bool). finished at input (cond {A = State → Bundle} b (apart_from_input at input (exprs_of_all os)) (over_input at input os) s)) (ap all_independent (operands_back es) ∙ d)
      ∙ ap (λ (call : Call). finished at input (gathered at input call)) (each_stays es h (new_call s))
      ∙ ap (λ (ss : List Stream). let m = one_stream at input ss s in record { state = m.state; stream = m.stream; exprs = es }) (first_time es d)

-- columns go by cell, and read the input
pub columns_by_cell : (ns : List Name) (es : List Tree) → list_all is_elementwise es ≡ true → list_all is_elementwise (columns_named ns ++ es) ≡ true
columns_by_cell [] es h = h
columns_by_cell (n ∷ ns) es h = columns_by_cell ns es h

pub by_cell_both : (xs ys : List Tree) → list_all is_elementwise xs ≡ true → list_all is_elementwise ys ≡ true → list_all is_elementwise (xs ++ ys) ≡ true
by_cell_both [] ys g h = h
by_cell_both (x ∷ xs) ys g h =
    let parts = both (is_elementwise x) (list_all is_elementwise xs) g in
    and_both (is_elementwise x) (list_all is_elementwise (xs ++ ys)) parts.0 (by_cell_both xs ys parts.1 h)

pub some_column : (s : Fields) (es : List Tree) → s ≢ [] → all_independent (columns_named (names_of s) ++ es) ≡ false
some_column [] es some = absurd (some refl)
some_column (f ∷ s) es some = refl

pub some_later : (xs ys : List Tree) → all_independent ys ≡ false → all_independent (xs ++ ys) ≡ false
some_later [] ys d = d
some_later (x ∷ xs) ys d = by (is_independent x) (some_later xs ys d)
  where
    by : (b : Bool) → all_independent (xs ++ ys) ≡ false → (b && all_independent (xs ++ ys)) ≡ false
    by true e = e
    by false e = refl

pub columns_cells : (ns : List Name) → list_all is_elementwise (columns_named ns) ≡ true
columns_cells [] = refl
columns_cells (n ∷ ns) = columns_cells ns

pub columns_read : (fs : Fields) → fs ≢ [] → all_independent (columns_named (names_of fs)) ≡ false
columns_read [] some = absurd (some refl)
columns_read (f ∷ fs) some = refl

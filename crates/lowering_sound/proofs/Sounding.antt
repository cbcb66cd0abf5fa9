-- New nodes are those of a sound shape, and old ones stay so.
use Rattle.std.proofs.Common.{◌≡◌, ◌⊎◌, inl, inr, ◌<◌, ◌≤◌, ◌++◌, length, sym, ap, subst, ◌∙◌}
use Rattle.std.specs.Prelude.{slice_get}
use Rattle.std.proofs.lemmas.Bool.{cases_lt}
use Rattle.ps_frame.specs.Functions.{Functions}
use Rattle.ps_meaning.specs.Shape.{Shape}
use Rattle.ps_meaning.specs.Sound.{IsFitNode, IsSoundButForReaders}
use Rattle.ps_rules.specs.Lowered.{lower_exprs, select_stream}
use Rattle.ps_rules.specs.Slots.{State}
use Rattle.ps_shares.specs.Kept.{IsGrown}
use Rattle.ps_shares.proofs.Adding.{calls_add}
use Rattle.name_rules.proofs.Later.{fit_later, was_there}
use Rattle.lowering_nodes.specs.Formed.{NewAreFormed}
use Rattle.lowering_nodes.proofs.Forming.{exprs_form_nodes, selects_form_nodes}
use Rattle.lowering_names.specs.Lawful.{NewKeepRules}
use Rattle.lowering_names.proofs.Ruled.{exprs_keep_rules, selects_keep_rules}
use Rattle.lowering_sound.specs.Sound.{ExprsStaySound, NewAreSound, SelectsStaySound, StaysSound}

module _ (F : Functions) where
  new_sound : (a b : Shape) → NewAreFormed F a b → NewKeepRules F a b → NewAreSound F a b
  new_sound a b formed ruled n p le e =
      let f = formed n p le e in
      let r = ruled n p le e in
      record { earlier = f.earlier; inputs = f.inputs; schema = r.schema; not_empty = r.not_empty; parameters = f.parameters; kinds = r.kinds; rules = r.rules }

  whole_sound : (a b more : Shape) → b ≡ a ++ more → NewAreSound F a b → IsSoundButForReaders F a → IsSoundButForReaders F b
  whole_sound a b more is new old n p e = by (cases_lt n (length a))
    where
      by : (n < length a) ⊎ (length a ≤ n) → IsFitNode F b n p
      by (inl lt) = subst (λ (nodes : Shape). IsFitNode F nodes n p) (sym is) (fit_later F a more n p lt (old n p (was_there a more n p lt (sym (ap (λ (nodes : Shape). slice_get nodes n) is) ∙ e))))
      by (inr le) = new n p le e

  stays : (s t : State) → IsGrown s t → NewAreFormed F s.nodes t.nodes → NewKeepRules F s.nodes t.nodes → StaysSound F s.nodes t.nodes
  stays s t grown formed ruled =
      let new = new_sound s.nodes t.nodes formed ruled in
      record { new = new; whole = whole_sound s.nodes t.nodes grown.more grown.nodes new }

pub exprs_stay_sound : ExprsStaySound
exprs_stay_sound F at input s es ready small = stays F s (lower_exprs at input es s).state (calls_add.exprs at input s es ready) (exprs_form_nodes F at input s es ready) (exprs_keep_rules F at input s es ready small)

pub selects_stay_sound : SelectsStaySound
selects_stay_sound F at input s es ready differ small = stays F s (select_stream at input es s).state (calls_add.selects at input s es ready) (selects_form_nodes F at input s es ready) (selects_keep_rules F at input s es ready differ small)

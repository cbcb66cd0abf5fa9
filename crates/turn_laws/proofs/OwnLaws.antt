-- The same laws, of any nodes that are seen so, where each node has functions and options of its own, and its updates leave these.
use Rattle.std.proofs.Common.{◌≡◌, refl, subst, ◌∙◌}
use Rattle.ps_frame.specs.Functions.{Functions}
use Rattle.ps_options.specs.declared.options.Options.{Options}
use Rattle.ps_ports.specs.Ports.{Sides}
use Rattle.ps_ports.specs.UpdateLaws.{KeepsUpdateLaws}
use Rattle.turn_laws.specs.Updating.{FillsAndUpdates, SeenNode, UpdatesTo, stages_behind}
use Rattle.turn_laws.proofs.KeptLaws.{fills_keep_laws, stays_filled, stays_same, updates_keep_laws}

module _ {N : Type 0} (F : N → Functions) (o : N → Options) (seen : N → SeenNode) where
  abbrev pub OwnUpdate : N → Sides → N → Sides → Type 0
  OwnUpdate a given b answer = UpdatesTo (F a) (o a) (seen a) given (seen b) answer × (F b ≡ F a) × (o b ≡ o a)

  abbrev pub OwnFill : N → Sides → N → Sides → Type 0
  OwnFill a given b answer = FillsAndUpdates (F a) (o a) (seen a) given (seen b) answer × (F b ≡ F a) × (o b ≡ o a)

  laws_of : (a : N) → KeepsUpdateLaws (λ x. stages_behind (seen x)) (λ x given y answer. UpdatesTo (F a) (o a) (seen x) given (seen y) answer)
  laws_of a = updates_keep_laws (F a) (o a) seen

  pub own_updates_keep_laws : KeepsUpdateLaws (λ a. stages_behind (seen a)) OwnUpdate
  own_updates_keep_laws =
      record {
        lengths = λ a b given answer u. (laws_of a).lengths a b given answer u.0;
        done_stays = λ a b given answer u. (laws_of a).done_stays a b given answer u.0;
        two_stages = λ a b given answer u. (laws_of a).two_stages a b given answer u.0;
        one_answer = λ a b c given answer other u v. (laws_of a).one_answer a b c given answer other u.0 v.0;
        sends_follow = λ a b c given given' answer answer' same u v stage. (laws_of a).sends_follow a b c given given' answer answer' same u.0 v.0 stage;
        quiet = λ a b given answer u stage none given' answer' c ins outs v.
            let same = stays_same (F a) (o a) (seen a) (seen b) given answer u.0 stage in
            let options = subst (λ p. UpdatesTo (F b) p (seen b) given' (seen c) answer') u.2 v.0 in
            let functions = subst (λ f. UpdatesTo f (o a) (seen b) given' (seen c) answer') u.1 options in
            (c, (subst (λ x. UpdatesTo (F a) (o a) x given' (seen c) answer') same functions, v.1 ∙ u.1, v.2 ∙ u.2), refl);
      }

  fill_laws_of : (a : N) → KeepsUpdateLaws (λ x. stages_behind (seen x)) (λ x given y answer. FillsAndUpdates (F a) (o a) (seen x) given (seen y) answer)
  fill_laws_of a = fills_keep_laws (F a) (o a) seen

  pub own_fills_keep_laws : KeepsUpdateLaws (λ a. stages_behind (seen a)) OwnFill
  own_fills_keep_laws =
      record {
        lengths = λ a b given answer u. (fill_laws_of a).lengths a b given answer u.0;
        done_stays = λ a b given answer u. (fill_laws_of a).done_stays a b given answer u.0;
        two_stages = λ a b given answer u. (fill_laws_of a).two_stages a b given answer u.0;
        one_answer = λ a b c given answer other u v. (fill_laws_of a).one_answer a b c given answer other u.0 v.0;
        sends_follow = λ a b c given given' answer answer' same u v stage. (fill_laws_of a).sends_follow a b c given given' answer answer' same u.0 v.0 stage;
        quiet = λ a b given answer u stage none given' answer' c ins outs v.
            let same = stays_filled (F a) (o a) (seen a) (seen b) given answer u.0 stage in
            let options = subst (λ p. FillsAndUpdates (F b) p (seen b) given' (seen c) answer') u.2 v.0 in
            let functions = subst (λ f. FillsAndUpdates f (o a) (seen b) given' (seen c) answer') u.1 options in
            (c, (subst (λ x. FillsAndUpdates (F a) (o a) x given' (seen c) answer') same functions, v.1 ∙ u.1, v.2 ∙ u.2), refl);
      }

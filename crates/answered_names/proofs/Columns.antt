-- What a call answers for columns, and which answers are columns of known names.
use Rattle.std.proofs.Common.{List, [], ◌∷◌, sym, subst}
use Rattle.ps_frame.specs.Trees.{Tree}
use Rattle.ps_meaning.specs.Steps.{Named}
use Rattle.ps_rules.specs.Names.{IsKnown, Names}
use Rattle.ps_rules.specs.Lowered.{lower_exprs}
use Rattle.ps_shares.proofs.Stands.{stand_for_asked}
use Rattle.rule_parts.proofs.Positions.{AllFollow, answers_follow}
use Rattle.rule_parts.proofs.Sides.{Carries, goes_back}
use Rattle.answered_names.specs.Answers.{AreSameColumns, ColumnsStayAlone}

both_ways : (names : Names) (es xs : List Tree) → AllFollow es xs → Carries (IsKnown names) xs es → AreSameColumns names es xs
both_ways names [] [] follow back = tt
both_ways names [] (x ∷ xs) follow back = absurd follow
both_ways names (e ∷ es) [] follow back = absurd follow
both_ways names (e ∷ es) (x ∷ xs) follow back = ((λ n k. ((λ q. follow.0.own n q), (λ q. back.0 n k q))), both_ways names es xs follow.1 back.1)

pub columns_alone : ColumnsStayAlone
columns_alone at input s es ready reads small =
    let a = lower_exprs at input es s in
    let stand = stand_for_asked at input s es ready small in
    let p = answers_follow at input es s reads in
    both_ways s.names es a.exprs (subst (AllFollow es) (sym p.exprs) p.follow) (goes_back s.names (λ (m : Named). IsKnown a.state.names m.0) stand.1.0 a.exprs es stand.1.2 stand.1.1)

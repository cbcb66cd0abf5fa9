use Rattle.std.proofs.Common.{◌≡◌, ◌⊎◌, ◌∙◌, sym, subst}
use Rattle.tool_run.proofs.Runs.{end-complete, end-complete_text, end-explained, end-invalid, end-invalid_text, end-line, end-longer, end-other, end-other_text, end-reads, end-says, end-silent, end-unknown}
use Rattle.tool_run.proofs.tool.run_tool.Goals as goal

pub returns-clause-answered : goal.returns-clause-answered
returns-clause-answered g c = λ h. (end-says _ _ _ c.outcome_of-outcome.result c.outcome_of-outcome.ensures.end 0 (sym c.status.ensures ∙ h)).0

pub returns-clause-read : goal.returns-clause-read
returns-clause-read g c = λ h. (end-says _ _ _ c.outcome_of-outcome.result c.outcome_of-outcome.ensures.end 0 (sym c.status.ensures ∙ h)).1

pub returns-clause-usage : goal.returns-clause-usage
returns-clause-usage g c = (λ h. end-says _ _ _ c.outcome_of-outcome.result c.outcome_of-outcome.ensures.end 2 (sym c.status.ensures ∙ h), λ none. c.status.ensures ∙ end-unknown _ _ _ c.outcome_of-outcome.result c.outcome_of-outcome.ensures.end none)

pub returns-clause-line : goal.returns-clause-line
returns-clause-line g c =
    let laws = g.met.F.Functions g.world.𝓛 g.world.𝓜 g.world.𝓡 ((λ s x. x), (λ x. x), (λ x. x), λ x. x) in
    (_, end-line _ _ _ (laws.lawful c.args.functions.now) c.outcome_of-outcome.result c.outcome_of-outcome.ensures.end _ c.status.ensures, (c.write_line.ensures.front, c.write_line.ensures.whole))

pub returns-clause-read_fault : goal.returns-clause-read_fault
returns-clause-read_fault g c = λ h. end-says _ _ _ c.outcome_of-outcome.result c.outcome_of-outcome.ensures.end 6 (sym c.status.ensures ∙ h)

pub returns-clause-write_fault : goal.returns-clause-write_fault
returns-clause-write_fault g c = λ h. (end-says _ _ _ c.outcome_of-outcome.result c.outcome_of-outcome.ensures.end 7 (sym c.status.ensures ∙ h)).1

pub returns-clause-too_long : goal.returns-clause-too_long
returns-clause-too_long g c = λ h. end-says _ _ _ c.outcome_of-outcome.result c.outcome_of-outcome.ensures.end 8 (sym c.status.ensures ∙ h)

pub returns-clause-reads : goal.returns-clause-reads
returns-clause-reads g c = λ x y z w. end-reads _ _ _ c.outcome_of-outcome.result c.outcome_of-outcome.ensures.end (λ h. x (c.status.ensures ∙ h)) (λ h. y (c.status.ensures ∙ h)) (λ h. z (c.status.ensures ∙ h)) (λ h. w (c.status.ensures ∙ h))

pub returns-clause-cut : goal.returns-clause-cut
returns-clause-cut g c = λ h. (end-says _ _ _ c.outcome_of-outcome.result c.outcome_of-outcome.ensures.end 7 (sym c.status.ensures ∙ h)).0

pub returns-clause-silent : goal.returns-clause-silent
returns-clause-silent g c = λ x y. end-silent _ _ _ c.outcome_of-outcome.result c.outcome_of-outcome.ensures.end (λ h. x (c.status.ensures ∙ h)) (λ h. y (c.status.ensures ∙ h))

pub returns-clause-longer : goal.returns-clause-longer
returns-clause-longer g c = λ run bytes is long. subst (λ n. (n ≡ 8) ⊎ (n ≡ 6) ⊎ (n ≡ 9)) (sym c.status.ensures) (end-longer _ _ _ run bytes is long c.outcome_of-outcome.result c.outcome_of-outcome.ensures.end)

pub returns-clause-other : goal.returns-clause-other
returns-clause-other g c = λ run bytes is none. subst (λ n. (n ≡ 3) ⊎ (n ≡ 6) ⊎ (n ≡ 9)) (sym c.status.ensures) (end-other _ _ _ run bytes is none c.outcome_of-outcome.result c.outcome_of-outcome.ensures.end)

pub returns-clause-invalid : goal.returns-clause-invalid
returns-clause-invalid g c = λ run plan given bad. subst (λ n. (n ≡ 4) ⊎ (n ≡ 6) ⊎ (n ≡ 9)) (sym c.status.ensures) (end-invalid _ _ _ run plan given bad c.outcome_of-outcome.result c.outcome_of-outcome.ensures.end)

pub returns-clause-complete : goal.returns-clause-complete
returns-clause-complete g c = λ run plan given valid nothing reads writes. subst (λ n. (n ≡ 0) ⊎ (n ≡ 9)) (sym c.status.ensures) (end-complete _ _ _ run plan given valid nothing reads writes c.outcome_of-outcome.result c.outcome_of-outcome.ensures.end)

pub returns-clause-complete_explain : goal.returns-clause-complete_explain
returns-clause-complete_explain g c = λ explain plan given valid reads writes. subst (λ n. (n ≡ 0) ⊎ (n ≡ 9)) (sym c.status.ensures) (end-explained _ _ _ explain plan given valid reads writes c.outcome_of-outcome.result c.outcome_of-outcome.ensures.end)

pub returns-clause-other_text : goal.returns-clause-other_text
returns-clause-other_text g c = λ text bytes is none. subst (λ n. (n ≡ 3) ⊎ (n ≡ 6) ⊎ (n ≡ 9)) (sym c.status.ensures) (end-other_text _ _ _ text bytes is none c.outcome_of-outcome.result c.outcome_of-outcome.ensures.end)

pub returns-clause-invalid_text : goal.returns-clause-invalid_text
returns-clause-invalid_text g c = λ text plan given bad. subst (λ n. (n ≡ 4) ⊎ (n ≡ 6) ⊎ (n ≡ 9)) (sym c.status.ensures) (end-invalid_text _ _ _ text plan given bad c.outcome_of-outcome.result c.outcome_of-outcome.ensures.end)

pub returns-clause-complete_text : goal.returns-clause-complete_text
returns-clause-complete_text g c = λ text plan given good reads writes. subst (λ n. (n ≡ 0) ⊎ (n ≡ 9)) (sym c.status.ensures) (end-complete_text _ _ _ text plan given good reads writes c.outcome_of-outcome.result c.outcome_of-outcome.ensures.end)

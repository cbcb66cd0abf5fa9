-- By how the run stands: at its end, between phases, or in one.
use Rattle.std.proofs.Common.{rules, ◌≡◌, ◌∙◌, false, sym, true}
use Rattle.flow_moves.proofs.Between.{opens}
use Rattle.flow_moves.proofs.Whole.{goes_on, if_none, no_fault, none_left, none_on, not_both, runs_where, some_fault, some_on}
use Rattle.flow_moves.proofs.picking.enabled.Goals as goal

pub returns-then-has_fault-clause-none : goal.returns-then-has_fault-clause-none
returns-then-has_fault-clause-none g c = λ F w m stands may unmarked enabled. some_fault c.args.world.now.fault (sym c.has_fault.ensures ∙ c.if-has_fault.true) unmarked

pub returns-then-finished-clause-none : goal.returns-then-finished-clause-none
returns-then-finished-clause-none g c = λ F w m stands may unmarked enabled. not_both w.ending ((c.finished.ensures.stands w stands).0 c.if-finished.true) (runs_where F w m enabled)

pub returns-then-not-is_open-clause-some : goal.returns-then-not-is_open-clause-some
returns-then-not-is_open-clause-some g c = λ F w stands may.
    let h = c.args.world.now in
    let none = no_fault h.fault (sym c.has_fault.ensures ∙ c.if-has_fault.false) in
    let runs = goes_on w.ending h.is_finished h.fault stands.ending none (λ e. absurd (let clash : true ≡ false = sym ((c.finished.ensures.stands w stands).1 e) ∙ c.if-finished.false in cc)) in
    opens F w may.facts (sym stands.open_as ∙ sym c.is_open.ensures ∙ c.if-not-is_open.true) runs

pub returns-then-not-is_open-clause-ended : goal.returns-then-not-is_open-clause-ended
returns-then-not-is_open-clause-ended g c = λ w told stuck.
    let h = c.args.world.now in
    let none = no_fault h.fault (sym c.has_fault.ensures ∙ c.if-has_fault.false) in
    absurd (stuck (goes_on w.ending h.is_finished h.fault told.ending none (λ e. absurd (let clash : true ≡ false = sym ((c.finished.ensures.told w told).1 e) ∙ c.if-finished.false in cc))))

pub returns-then-not-is_open-clause-marked : goal.returns-then-not-is_open-clause-marked
returns-then-not-is_open-clause-marked g c = if_none _ c.args.world.now.fault (no_fault c.args.world.now.fault (sym c.has_fault.ensures ∙ c.if-has_fault.false))

pub move_within-requires : goal.move_within-requires
move_within-requires g c = (search rules, c.requires.linked (no_fault c.args.world.now.fault (sym c.has_fault.ensures ∙ c.if-has_fault.false)))

pub returns-in-Some-clause-some : goal.returns-in-Some-clause-some
returns-in-Some-clause-some g c = λ F w stands may.
    let h = c.args.world.now in
    let none = no_fault h.fault (sym c.has_fault.ensures ∙ c.if-has_fault.false) in
    let runs = goes_on w.ending h.is_finished h.fault stands.ending none (λ e. absurd (let clash : true ≡ false = sym ((c.finished.ensures.stands w stands).1 e) ∙ c.if-finished.false in cc)) in
    c.in-Some.ensures.some F w stands may (sym stands.open_as ∙ sym c.is_open.ensures ∙ c.if-not-is_open.false) runs

pub returns-in-Some-clause-ended : goal.returns-in-Some-clause-ended
returns-in-Some-clause-ended g c = λ w told stuck.
    let h = c.args.world.now in
    let none = no_fault h.fault (sym c.has_fault.ensures ∙ c.if-has_fault.false) in
    absurd (stuck (goes_on w.ending h.is_finished h.fault told.ending none (λ e. absurd (let clash : true ≡ false = sym ((c.finished.ensures.told w told).1 e) ∙ c.if-finished.false in cc))))

pub returns-in-Some-clause-marked : goal.returns-in-Some-clause-marked
returns-in-Some-clause-marked g c = if_none _ c.args.world.now.fault (no_fault c.args.world.now.fault (sym c.has_fault.ensures ∙ c.if-has_fault.false))

pub returns-in-None-clause-some : goal.returns-in-None-clause-some
returns-in-None-clause-some g c =
    let h = c.args.world.now in
    let none = no_fault h.fault (sym c.has_fault.ensures ∙ c.if-has_fault.false) in
    some_on c.end_of.result
    (λ m found. λ F w stands may.
    let runs = goes_on w.ending h.is_finished h.fault stands.ending none (λ e. absurd (let clash : true ≡ false = sym ((c.finished.ensures.stands w stands).1 e) ∙ c.if-finished.false in cc)) in
    found F w stands (sym stands.open_as ∙ sym c.is_open.ensures ∙ c.if-not-is_open.false) runs)
    c.end_of.ensures.some

pub returns-in-None-clause-none : goal.returns-in-None-clause-none
returns-in-None-clause-none g c =
    let h = c.args.world.now in
    none_on c.end_of.result
    (λ some. λ F w m stands may unmarked enabled.
    let open_phase = sym stands.open_as ∙ sym c.is_open.ensures ∙ c.if-not-is_open.false in
    let runs = runs_where F w m enabled in
    none_left F w open_phase (some w stands) (λ n. c.in-None.ensures.none F w n stands may open_phase runs) m enabled)
    c.end_of.ensures.none

pub returns-in-None-clause-ended : goal.returns-in-None-clause-ended
returns-in-None-clause-ended g c = λ w told stuck.
    let h = c.args.world.now in
    let none = no_fault h.fault (sym c.has_fault.ensures ∙ c.if-has_fault.false) in
    absurd (stuck (goes_on w.ending h.is_finished h.fault told.ending none (λ e. absurd (let clash : true ≡ false = sym ((c.finished.ensures.told w told).1 e) ∙ c.if-finished.false in cc))))

pub returns-in-None-clause-marked : goal.returns-in-None-clause-marked
returns-in-None-clause-marked g c = if_none _ c.args.world.now.fault (no_fault c.args.world.now.fault (sym c.has_fault.ensures ∙ c.if-has_fault.false))

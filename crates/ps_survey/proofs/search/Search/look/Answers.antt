use Rattle.std.proofs.Common.{sym, ◌∙◌, ap, arith}
use Rattle.std.specs.Prelude.{Some}
use Rattle.ps_survey.specs.Search.{IsMarked}
use Rattle.ps_survey.specs.declared.search.Mark.TheVariants as mark
use Rattle.ps_survey.proofs.Lists.{from-at, length-from_none}
use Rattle.ps_survey.proofs.Steps.{circle, less-after, less-into, less-on, step-into, step-on, way-here, went-back}
use Rattle.ps_survey.proofs.search.Search.look.Goals as goal

pub returns-in-None-clause-found : goal.returns-in-None-clause-found
returns-in-None-clause-found g c = λ start before u.
    let here : IsMarked c.args.self.now.marks.items c.args.at (mark.Open c.in-Some-Open.place) = sym c.in-Some-Open.ensures ∙ ap (λ m. Some m) c.in-Some-Open.field-0-is in
    let e = c.go_back.ensures in
    went-back (g.N.Names.named c.args.names.now) start before c.args.self.now.order.items c.args.self.now.marks.items c.args.self.now.trail.items c.args.at c.in-Some-Open.place u here (sym c.in-None.ensures.name)
    c.go_back.new.self.order.items c.go_back.new.self.marks.items c.go_back.new.self.trail.items (g.N.Names.count c.args.names.now) c.go_back.result e.marks e.order e.trail e.memory

pub returns-in-None-clause-looks : goal.returns-in-None-clause-looks
returns-in-None-clause-looks g c =
    let here : IsMarked c.args.self.now.marks.items c.args.at (mark.Open c.in-Some-Open.place) = sym c.in-Some-Open.ensures ∙ ap (λ m. Some m) c.in-Some-Open.field-0-is in
    less-after (g.N.Names.named c.args.names.now) c.args.self.now.marks.items c.go_back.new.self.marks.items c.args.at c.in-Some-Open.place c.go_back.result here (sym c.in-None.ensures.name) c.go_back.ensures.marks

pub returns-in-None-mark_of-clause-found : goal.returns-in-None-mark_of-clause-found
returns-in-None-mark_of-clause-found g c = λ start before u.
    let here : IsMarked c.args.self.now.marks.items c.args.at (mark.Open c.in-Some-Open.place) = sym c.in-Some-Open.ensures ∙ ap (λ m. Some m) c.in-Some-Open.field-0-is in
    let far = length-from_none c.args.self.now.marks.items c.in-Some.number (sym c.in-None-mark_of.ensures) in
    let size = c.requires.size in (
      way-here (g.N.Names.named c.args.names.now) start before c.args.self.now.order.items c.args.self.now.marks.items c.args.self.now.trail.items c.args.at c.in-Some-Open.place u here,
      (c.in-Some.number, from-at (g.N.Names.named c.args.names.now c.args.at) c.in-Some-Open.place c.in-Some.number (sym c.in-Some.ensures.name), omega (arith, far, size)),
    )

pub returns-in-Some-Open-mark_of-clause-found : goal.returns-in-Some-Open-mark_of-clause-found
returns-in-Some-Open-mark_of-clause-found g c = λ start before u.
    let here : IsMarked c.args.self.now.marks.items c.args.at (mark.Open c.in-Some-Open.place) = sym c.in-Some-Open.ensures ∙ ap (λ m. Some m) c.in-Some-Open.field-0-is in
    let there = sym c.in-Some-Open-mark_of.ensures ∙ ap (λ m. Some m) c.in-Some-Open-mark_of.field-0-is in
    circle (g.N.Names.named c.args.names.now) start before c.args.self.now.order.items c.args.self.now.marks.items c.args.self.now.trail.items c.args.at c.in-Some-Open.place u here
    c.in-Some.number _ (from-at (g.N.Names.named c.args.names.now c.args.at) c.in-Some-Open.place c.in-Some.number (sym c.in-Some.ensures.name)) there

pub returns-in-Some-Done-clause-found : goal.returns-in-Some-Done-clause-found
returns-in-Some-Done-clause-found g c = λ start before u.
    let here : IsMarked c.args.self.now.marks.items c.args.at (mark.Open c.in-Some-Open.place) = sym c.in-Some-Open.ensures ∙ ap (λ m. Some m) c.in-Some-Open.field-0-is in
    let there : IsMarked c.args.self.now.marks.items c.in-Some.number mark.Done = sym c.in-Some-Done.ensures ∙ ap (λ m. Some m) c.in-Some-Done.field-0-is in
    step-on (g.N.Names.named c.args.names.now) start before c.args.self.now.order.items c.args.self.now.marks.items c.args.self.now.trail.items c.args.at c.in-Some-Open.place u here c.in-Some.number (sym c.in-Some.ensures.name) there

pub returns-in-Some-Done-clause-looks : goal.returns-in-Some-Done-clause-looks
returns-in-Some-Done-clause-looks g c =
    let here : IsMarked c.args.self.now.marks.items c.args.at (mark.Open c.in-Some-Open.place) = sym c.in-Some-Open.ensures ∙ ap (λ m. Some m) c.in-Some-Open.field-0-is in
    less-on (g.N.Names.named c.args.names.now) c.args.self.now.marks.items c.args.at c.in-Some-Open.place c.in-Some.number here (sym c.in-Some.ensures.name)

pub returns-in_ok-push-in-Some-New-clause-found : goal.returns-in_ok-push-in-Some-New-clause-found
returns-in_ok-push-in-Some-New-clause-found g c = λ start before u.
    let here : IsMarked c.args.self.now.marks.items c.args.at (mark.Open c.in-Some-Open.place) = sym c.in-Some-Open.ensures ∙ ap (λ m. Some m) c.in-Some-Open.field-0-is in
    let there : IsMarked c.args.self.now.marks.items c.in-Some.number mark.New = sym c.in-Some-New.ensures ∙ ap (λ m. Some m) c.in-Some-New.field-0-is in
    rw c.in_ok-push-in-Some-New.ensures.items (step-into (g.N.Names.named c.args.names.now) start before c.args.self.now.order.items c.args.self.now.marks.items c.args.self.now.trail.items c.args.at c.in-Some-Open.place u here c.in-Some.number (sym c.in-Some.ensures.name) there)

pub returns-in_ok-push-in-Some-New-clause-looks : goal.returns-in_ok-push-in-Some-New-clause-looks
returns-in_ok-push-in-Some-New-clause-looks g c =
    let there : IsMarked c.args.self.now.marks.items c.in-Some.number mark.New = sym c.in-Some-New.ensures ∙ ap (λ m. Some m) c.in-Some-New.field-0-is in
    less-into (g.N.Names.named c.args.names.now) c.args.self.now.marks.items c.in-Some.number there

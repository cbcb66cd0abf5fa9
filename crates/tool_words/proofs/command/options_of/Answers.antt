use Rattle.std.proofs.Common.{[]}
use Rattle.tool_words.proofs.Giving.{fits, give, not-named, named-with, told-nothing}
use Rattle.tool_words.proofs.Reading.{if-none}
use Rattle.tool_words.proofs.command.options_of.Goals as goal

pub returns-in_err-told-clause-none : goal.returns-in_err-told-clause-none
returns-in_err-told-clause-none c name all e =
    let d = c.default.ensures in
    let nothing = told-nothing _ d.0 d.1.0 d.1.1.0 d.1.1.1.0 d.1.1.1.1 in
    if-none _ (not-named name all _ e (c.in_err-told.ensures.none [] nothing))

pub returns-in_err-options-clause-none : goal.returns-in_err-options-clause-none
returns-in_err-options-clause-none c name all e =
    let d = c.default.ensures in
    let (settings, is, told) = c.in_ok-told.ensures.some [] (told-nothing _ d.0 d.1.0 d.1.1.0 d.1.1.1.0 d.1.1.1.1) in
    absurd (fits c.in_ok-told.told settings told _ _ _ c.unwrap_or.ensures c.unwrap_or-2.ensures c.unwrap_or-3.ensures c.in_err-options.ensures.none)

pub returns-clause-some : goal.returns-clause-some
returns-clause-some c name all e =
    let d = c.default.ensures in
    let (settings, is, told) = c.in_ok-told.ensures.some [] (told-nothing _ d.0 d.1.0 d.1.1.0 d.1.1.1.0 d.1.1.1.1) in
    let n = c.in_ok-options.ensures.some in (
      settings,
      named-with name all _ settings e is told.may_stand,
      give c.in_ok-told.told settings told c.in_ok-options.options _ _ _ _ c.unwrap_or.ensures c.unwrap_or-2.ensures c.unwrap_or-3.ensures c.unwrap_or-4.ensures n.0 n.1 n.2 n.3,
    )

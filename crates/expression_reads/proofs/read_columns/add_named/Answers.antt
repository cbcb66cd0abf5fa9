use Rattle.std.proofs.Common.{◌≡◌, sym, ◌∙◌}
use Rattle.std.specs.Prelude.{None, Some}
use Rattle.ps_frame.specs.Tables.{field_index}
use Rattle.expression_reads.proofs.Found.{all-pass, found-more, not-there, now-stands}
use Rattle.expression_reads.proofs.read_columns.add_named.Goals as goal

pub returns-in_default-clause-added : goal.returns-in_default-clause-added
returns-in_default-clause-added c =
    let none : field_index c.args.name.now c.args.df.now.schema ≡ None = rw (← c.as_str-2.ensures, ← c.schema.ensures) (sym c.index_of.ensures ∙ c.in_default.is) in
    not-there c.args.name.now c.args.df.now.schema c.args.found.now.fields none

pub returns-clause-found : goal.returns-clause-found
returns-clause-found c =
    let stands : field_index c.args.name.now c.args.df.now.schema ≡ Some c.in-Some.place = rw (← c.as_str-2.ensures, ← c.schema.ensures) (sym c.index_of.ensures ∙ c.in-Some.is) in
    found-more c.args.df.now c.args.found.now.fields c.add_column.new.found.fields c.args.found.now.columns.items c.add_column.new.found.columns.items c.args.name.now c.in-Some.place c.column.result.now
    stands c.column.ensures.kind c.column.ensures.values c.in_ok-add_column.ensures.fields c.in_ok-add_column.ensures.columns c.requires

pub returns-clause-added : goal.returns-clause-added
returns-clause-added c = λ _. now-stands c.args.found.now.fields c.add_column.new.found.fields c.args.name.now c.column.result.now.kind c.in_ok-add_column.ensures.fields

pub returns-clause-only : goal.returns-clause-only
returns-clause-only c = λ p own before. all-pass p c.args.found.now.fields c.add_column.new.found.fields (c.args.name.now, c.column.result.now.kind) c.in_ok-add_column.ensures.fields own before

use Rattle.std.proofs.Common.{rules, ◌≡◌, false, sym, ap, ◌∙◌, arith}
use Rattle.ps_rules.specs.Names.{Names, fresh_number, is_taken}
use Rattle.ps_rules.proofs.Free.{fresh_found}
use Rattle.ps_fresh.proofs.Counting.{fresh_past, looks_up}
use Rattle.ps_fresh.proofs.name_source.NameSource.free_number.Goals as goal

pub returns-then-not-contains-clause-some : goal.returns-then-not-contains-clause-some
returns-then-not-contains-clause-some c =
    let names : Names = record { taken = c.self.inside.taken.keys; next = c.self.inside.next } in
    let found : c.contains.result ≡ false = Prim.search rules in
    let free : is_taken c.loop-number.number-counter names.taken ≡ false = sym (looks_up c.loop-number.number-counter names.taken) ∙ sym c.contains.ensures ∙ found in (
      fresh_found names c.loop-number.number-counter (omega arith) free c.loop-number.invariant ∙ ap fresh_number c.self.view_is,
      omega arith,
    )

pub returns-clause-none : goal.returns-clause-none
returns-clause-none c =
    let names : Names = record { taken = c.self.inside.taken.keys; next = c.self.inside.next } in
    let past = fresh_past names c.loop-number.number-counter c.loop-number.invariant in
    let same : fresh_number names ≡ fresh_number c.args.self.now = ap fresh_number c.self.view_is in
    omega arith

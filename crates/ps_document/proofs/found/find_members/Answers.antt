use Rattle.std.proofs.Common.{◌≡◌, ◌≤◌, ◌∷◌, [], arith, rules, subst, refl}
use Rattle.json.specs.Lex.{tokens}
use Rattle.json.specs.Token.{Token}
use Rattle.serde_json.specs.Data.{no_members}
use Rattle.ps_reading.specs.Reading.{ReadsMembers}
use Rattle.ps_reading.proofs.Rules.{reads-object, reads-same, reads-whole}
use Rattle.ps_document.proofs.found.find_members.Goals as goal

pub returns : goal.returns
returns c = λ empty.
    let told = (rw c.if-not-told.false at c.in_ok-told.ensures) no_members empty in
    let opened : tokens c.args.text.now ≡ Token.begin_object ∷ c.next.new.self = grind arith in
    let over : c.read_members.new.reader ≡ [] = search rules in
    let whole = reads-same opened refl (reads-object (subst (λ ts. ReadsMembers 126 c.next.new.self no_members told.0 ts) over told.2)) in
    let le : 127 ≤ 127 = omega arith in
    (told.0, told.1, reads-whole 127 c.args.text.now le whole)

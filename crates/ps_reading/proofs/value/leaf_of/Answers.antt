use Rattle.std.proofs.Common.{◌≡◌, ◌∷◌, ap, rules}
use Rattle.json.specs.Reads.{token_of}
use Rattle.serde_json.specs.Data.{boolean, null, number, string}
use Rattle.serde_json.specs.View.{number_view, view}
use Rattle.serde_json.specs.declared.value.Value.{Bool, Null, Number, String, the_lemmas}
use Rattle.ps_reading.proofs.Rules.{reads-boolean, reads-null, reads-number, reads-same, reads-string}
use Rattle.ps_reading.proofs.value.leaf_of.Goals as goal

pub returns-in_ok-from_str-in-String : goal.returns-in_ok-from_str-in-String
returns-in_ok-from_str-in-String c =
    let seen : view (String c.in_ok-from_str-in-String.field-0) ≡ string c.in-String.text.now = search (rules, the_lemmas) in
    λ ts. reads-same (ap (λ t. token_of t ∷ ts) c.in-String.is) seen (reads-string c.in-String.text.now ts)

pub returns-in-Some : goal.returns-in-Some
returns-in-Some c =
    let seen : view (Number c.in-Some.number) ≡ number (number_view c.in-Some.number) = search (rules, the_lemmas) in
    λ ts. reads-same (ap (λ t. token_of t ∷ ts) c.in-Number.is) seen (reads-number c.in-Number.text.now (number_view c.in-Some.number) ts c.in-Some.ensures)

pub returns-in-Bool : goal.returns-in-Bool
returns-in-Bool c =
    let seen : view (Bool c.in-Bool.b) ≡ boolean c.in-Bool.b = search (rules, the_lemmas) in
    λ ts. reads-same (ap (λ t. token_of t ∷ ts) c.in-Bool.is) seen (reads-boolean c.in-Bool.b ts)

pub returns-in-Null : goal.returns-in-Null
returns-in-Null c =
    let seen : view Null ≡ null = search (rules, the_lemmas) in
    λ ts. reads-same (ap (λ t. token_of t ∷ ts) c.in-Null.is) seen (reads-null ts)

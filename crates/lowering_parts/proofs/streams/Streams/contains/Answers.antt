use Rattle.std.proofs.Common.{◌≡◌, ap, subst, sym, ◌∙◌, List, false}
use Rattle.std.specs.Prelude.{None}
use Rattle.std.specs.BTreeMap.{get}
use Rattle.std.specs.Option.{option_copied}
use Rattle.std.specs.Ordering.{nat_cmp}
use Rattle.ps_phys.specs.declared.phys.PhysStream.{PhysStream}
use Rattle.lowering_parts.proofs.StreamLemmas.{among, none_there}
use Rattle.lowering_parts.proofs.streams.Streams.contains.Goals as goal

pub returns-in_default : goal.returns-in_default
returns-in_default c =
    let places = c.self.inside.places in
    let here : get nat_cmp places c.args.stream.node.0 ≡ None = ap (λ n. get nat_cmp places n) (sym c.number.ensures) ∙ sym c.get.ensures.value ∙ ap option_copied c.in_default.is in
    let P : List PhysStream → Type 0 = λ ss. false ≡ among c.args.stream ss in
    subst P c.self.view_is (sym (none_there c.args.stream c.self.inside.list.items places c.self.invariant here))

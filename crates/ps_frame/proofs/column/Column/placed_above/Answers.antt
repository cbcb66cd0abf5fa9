use Rattle.std.proofs.Common.{◌≡◌, ◌+◌, ◌++◌, IsTrue, map, rules, ap, subst, sym, ◌∙◌}
use Rattle.ps_frame.proofs.Aboves.{placed-values, placed-within}
use Rattle.ps_frame.proofs.Lists.{list_all-append}
use Rattle.ps_frame.specs.EndToEnd.{end_to_end}
use Rattle.ps_frame.specs.Frames.{above}
use Rattle.ps_frame.specs.Gathered.{places_of}
use Rattle.ps_frame.specs.Series.{all_fit}
use Rattle.ps_frame.specs.Values.{fits_kind}
use Rattle.ps_frame.proofs.column.Column.placed_above.Goals as goal

pub invariant_of-result-2 : goal.invariant_of-result-2
invariant_of-result-2 c =
    let a = c.self.inside in
    let b = c.other.inside in
    let run = c.run.inside.first ++ end_to_end c.run.inside.rest.items in
    let joined : run ≡ a.run ++ b.run = search rules in
    let upper : c.push_places.new.out.items ≡ map (λ i. 0 + i) (places_of c.len-2.result a.places) = c.in_ok-push_places.ensures.pushed ∙ ap (λ zs. zs ++ map (λ i. 0 + i) (places_of c.len-2.result a.places)) c.in_ok-places.ensures.items in
    let both : c.in_ok-new.field-0 ≡ c.push_places.new.out.items ++ map (λ i. c.len-4.result + i) (places_of c.len-3.result b.places) = search rules in
    let kinds = rw (← c.self.view_is, ← c.other.view_is) at c.requires in
    let theirs : IsTrue (all_fit a.dtype b.run) = rw (kinds) c.other.invariant.1 in (
      placed-within a.run b.run run a.places b.places c.push_places.new.out.items c.in_ok-new.field-0 c.len-2.result c.len-3.result c.len-4.result (search rules) (search rules) (search rules) joined upper both c.self.invariant.0 c.other.invariant.0,
      subst (λ vs. IsTrue (all_fit a.dtype vs)) (sym joined) (list_all-append (fits_kind a.dtype) a.run b.run c.self.invariant.1 theirs),
    )

pub returns-clause-joined : goal.returns-clause-joined
returns-clause-joined c =
    let a = c.self.inside in
    let b = c.other.inside in
    let run = c.run.inside.first ++ end_to_end c.run.inside.rest.items in
    let joined : run ≡ a.run ++ b.run = search rules in
    let upper : c.push_places.new.out.items ≡ map (λ i. 0 + i) (places_of c.len-2.result a.places) = c.in_ok-push_places.ensures.pushed ∙ ap (λ zs. zs ++ map (λ i. 0 + i) (places_of c.len-2.result a.places)) c.in_ok-places.ensures.items in
    let both : c.in_ok-new.field-0 ≡ c.push_places.new.out.items ++ map (λ i. c.len-4.result + i) (places_of c.len-3.result b.places) = search rules in
    let values = placed-values a.run b.run run a.places b.places c.push_places.new.out.items c.in_ok-new.field-0 c.len-2.result c.len-3.result c.len-4.result (search rules) (search rules) (search rules) joined upper both c.self.invariant.0 in
    (λ t. record { kind = a.dtype; values = values t }) ∙ (λ t. above (c.self.view_is t) (c.other.view_is t))

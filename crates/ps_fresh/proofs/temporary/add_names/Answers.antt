use Rattle.std.proofs.Common.{◌≡◌, ◌+◌, ◌∙◌, ap, sym, subst, take, ◌++◌, ◌∷◌, []}
use Rattle.std.proofs.lemmas.List.{append_assoc}
use Rattle.std.proofs.lemmas.Option.{slice_get-map}
use Rattle.ps_frame.specs.declared.value.DataType.{DataType}
use Rattle.ps_meaning.specs.Schemas.{names_of}
use Rattle.ps_meaning.specs.Steps.{Name}
use Rattle.ps_fresh.specs.Collected.{AreNumbersOf}
use Rattle.ps_fresh.proofs.Listing.{one_more}
use Rattle.ps_fresh.proofs.temporary.add_names.Goals as goal

pub loop-i-preserved : goal.loop-i-preserved
loop-i-preserved c names h =
    let all = names_of c.args.schema.now in
    let front = take c.loop-i.i all in
    let name = c.name.result.now in
    let more : take (c.loop-i.i + 1) all ≡ front ++ name ∷ [] = one_more all c.loop-i.i name (slice_get-map (λ (f : Name × DataType). f.0) c.args.schema.now c.loop-i.i ∙ c.name.ensures) in
    subst (λ ns. AreNumbersOf c.add_name.new.taken.keys ns) (append_assoc names front (name ∷ []) ∙ sym (ap (λ ns. names ++ ns) more))
    (c.in_ok-add_name.ensures.added (names ++ front) (c.loop-i.invariant names h))

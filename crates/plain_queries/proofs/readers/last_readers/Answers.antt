use Rattle.std.proofs.Common.{◌≡◌, ◌<◌, get_or, length, arith, sym, subst, ap, ◌∙◌}
use Rattle.std.specs.List.{All}
use Rattle.std.proofs.lemmas.Option.{slice_get-get_or}
use Rattle.ps_survey.specs.Orders.{inputs_in}
use Rattle.plain_queries.proofs.Wanting.{WantedSoFar, inputs-are, inputs-within, numbers, wanted-all, wanted-next-place}
use Rattle.plain_queries.proofs.readers.last_readers.Goals as goal

pub want-requires : goal.want-requires
want-requires c =
    let ns = c.as_slice.result.now in
    let are : inputs_in c.args.ir.now.items (get_or c.args.order.now c.loop-place.place 0) ≡ numbers ns = inputs-are c.args.ir.now.items (get_or c.args.order.now c.loop-place.place 0) c.get.result.now c.get.ensures ∙ ap numbers (sym c.in_ok-inputs.ensures.inputs ∙ sym c.as_slice.ensures.value) in
    let within : All (λ m. m < length c.args.ir.now.items) (numbers ns) = subst (λ ms. All (λ m. m < length c.args.ir.now.items) ms) are (c.requires.inputs c.loop-place.place 0 c.loop-place-test.true) in
    subst (λ k. All (λ n. n.0 < k) ns) (sym c.loop-place.invariant.long) (inputs-within (length c.args.ir.now.items) ns within)

pub loop-place-preserved : goal.loop-place-preserved
loop-place-preserved c =
    let ns = c.as_slice.result.now in
    let n = get_or c.args.order.now c.loop-place.place 0 in
    let are : inputs_in c.args.ir.now.items n ≡ numbers ns = inputs-are c.args.ir.now.items n c.get.result.now c.get.ensures ∙ ap numbers (sym c.in_ok-inputs.ensures.inputs ∙ sym c.as_slice.ensures.value) in
    wanted-next-place (length c.args.ir.now.items) (inputs_in c.args.ir.now.items) c.args.order.now c.loop-place.place c.loop-place.until.items c.want.new.until.items n (numbers ns) (slice_get-get_or c.args.order.now c.loop-place.place 0 c.loop-place-test.true) are c.want.ensures.size
    c.want.ensures.wanted c.want.ensures.kept c.loop-place.invariant

pub returns-clause-wanted : goal.returns-clause-wanted
returns-clause-wanted c =
    let ended : c.loop-place.place ≡ length c.args.order.now = omega arith in
    wanted-all (length c.args.ir.now.items) (inputs_in c.args.ir.now.items) c.args.order.now c.loop-place.until.items c.want-2.new.until.items c.want-2.ensures.kept (subst (λ i. WantedSoFar (length c.args.ir.now.items) (inputs_in c.args.ir.now.items) c.args.order.now i c.loop-place.until.items) ended c.loop-place.invariant)

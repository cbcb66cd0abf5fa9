use Rattle.std.proofs.Common.{◌≡◌, [], ◌∷◌, ◌++◌, Some, slice_get, length, set, refl, rules, sym, ap, ◌∙◌}
use Rattle.pu_map.proofs.LinkLemmas.{set_last, slice_get_last}
use Rattle.pu_map.proofs.bytes_idx_map.BytesIndexMap.insert_vacant.Goals as goal

pub returns : goal.returns
returns g c =
    let old = c.args.self.now.values in
    let value = c.args.value in
    let added : c.push.new.self.values ≡ old ++ value ∷ [] = search rules in
    let index : c.in-Ok.index ≡ length old = c.in-Ok.ensures.index in
    let lent : Some c.value_mut.result.now ≡ Some value =
    sym c.value_mut.ensures.value ∙ ap (λ xs. slice_get xs c.in-Ok.index) added ∙ ap (λ i. slice_get (old ++ value ∷ []) i) index ∙ slice_get_last old value in (
      (
        refl,
        λ w ok. record {
          keys = search rules;
          values = ap (λ xs. set xs c.in-Ok.index w) added ∙ ap (λ i. set (old ++ value ∷ []) i w) index ∙ set_last old value w;
          room = search rules;
          key_room = search rules;
        },
        tt,
      ),
      record { writes_back = tt; value = cc; returned = tt; succeeds = λ a b. refl },
    )

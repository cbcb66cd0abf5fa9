use Rattle.keyed_calls.proofs.Calls.{alike_before, alike_behind, keys_before, keys_behind, shows_before, shows_behind}
use Rattle.keyed_calls.proofs.laws.calls_are_keyed_alike.Goals as goal

pub returns-clause-behind : goal.returns-clause-behind
returns-clause-behind c =
    λ F at i s keys some ready low.
    let k = keys_behind F at i s keys some ready in
    (k.0, k.1, k.2, λ tables chosen rows. (alike_behind F at i s keys some ready low tables chosen rows, shows_behind F at i s keys some ready low tables chosen rows))

pub returns-clause-before : goal.returns-clause-before
returns-clause-before c =
    λ F at i s keys some ready low.
    let k = keys_before F at i s keys some ready in
    (k.0, k.1, k.2, λ tables chosen rows. (alike_before F at i s keys some ready low tables chosen rows, shows_before F at i s keys some ready low tables chosen rows))

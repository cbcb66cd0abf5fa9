use Rattle.std.proofs.Common.{◌≡◌, ◌<◌, ◌≤◌, ◌++◌, ◌-◌, ◌∙◌, ap, arith, get_or, length, refl, sym}
use Rattle.std.specs.Prelude.{Some, slice_get}
use Rattle.std.proofs.lemmas.Grind.{get_or_default_zero}
use Rattle.std.proofs.lemmas.Option.{slice_get_read}
use Rattle.ps_frame.proofs.Starts.{search-begun, search-item, search-rise, search-some, search-there, search-within}
use Rattle.ps_frame.specs.EndToEnd.{end_to_end}
use Rattle.ps_frame.proofs.runs.Runs.item.Goals as goal

pub last_up_to-k-requires-clause-rise : goal.last_up_to-k-requires-clause-rise
last_up_to-k-requires-clause-rise g c =
    let a = c.self.inside in
    let noted = c.as_slice.ensures.value ∙ c.self.invariant.noted in
    let behind : length a.first ≤ c.args.i = omega (arith, c.len.ensures, c.if-i-len.false) in
    let within : c.args.i < length (a.first ++ end_to_end a.rest.items) = rw c.self.view_is c.requires in
    search-rise a.first a.rest.items c.as_slice.result.now c.args.i noted behind within

pub last_up_to-k-requires-clause-some : goal.last_up_to-k-requires-clause-some
last_up_to-k-requires-clause-some g c =
    let a = c.self.inside in
    let noted = c.as_slice.ensures.value ∙ c.self.invariant.noted in
    let behind : length a.first ≤ c.args.i = omega (arith, c.len.ensures, c.if-i-len.false) in
    let within : c.args.i < length (a.first ++ end_to_end a.rest.items) = rw c.self.view_is c.requires in
    search-some a.first a.rest.items c.as_slice.result.now c.args.i noted behind within

pub last_up_to-k-requires-clause-begun : goal.last_up_to-k-requires-clause-begun
last_up_to-k-requires-clause-begun g c =
    let a = c.self.inside in
    let noted = c.as_slice.ensures.value ∙ c.self.invariant.noted in
    let behind : length a.first ≤ c.args.i = omega (arith, c.len.ensures, c.if-i-len.false) in
    let within : c.args.i < length (a.first ++ end_to_end a.rest.items) = rw c.self.view_is c.requires in
    search-begun a.first a.rest.items c.as_slice.result.now c.args.i noted behind within

pub index-requires : goal.index-requires
index-requires g c =
    let a = c.self.inside in
    let noted = c.as_slice.ensures.value ∙ c.self.invariant.noted in
    let behind : length a.first ≤ c.args.i = omega (arith, c.len.ensures, c.if-i-len.false) in
    let within : c.args.i < length (a.first ++ end_to_end a.rest.items) = rw c.self.view_is c.requires in
    let found = c.last_up_to-k.ensures in
    let there = search-there a.first a.rest.items c.as_slice.result.now c.args.i noted behind within c.last_up_to-k.result found.within found.begun found.last in
    omega (arith, there, a.rest.ok.0)

pub item-requires-2 : goal.item-requires-2
item-requires-2 g c =
    let a = c.self.inside in
    let noted = c.as_slice.ensures.value ∙ c.self.invariant.noted in
    let behind : length a.first ≤ c.args.i = omega (arith, c.len.ensures, c.if-i-len.false) in
    let within : c.args.i < length (a.first ++ end_to_end a.rest.items) = rw c.self.view_is c.requires in
    let found = c.last_up_to-k.ensures in
    let k = c.last_up_to-k.result in
    let there = search-there a.first a.rest.items c.as_slice.result.now c.args.i noted behind within k found.within found.begun found.last in
    let is = slice_get_read a.rest.items (length a.rest.items) k c.index.result.now refl there c.index.ensures in
    let start : c.index-2.result.now ≡ get_or c.as_slice.result.now k 0 = c.index-2.ensures ∙ ap (λ l. get_or l k c.index-2.result.now) (sym c.as_slice.ensures.value) ∙ get_or_default_zero c.as_slice.result.now k c.index-2.result.now found.within in
    rw start (search-within a.first a.rest.items c.as_slice.result.now c.args.i noted behind within k found.within found.begun found.last c.index.result.now is)

pub returns : goal.returns
returns g c =
    let a = c.self.inside in
    let noted = c.as_slice.ensures.value ∙ c.self.invariant.noted in
    let behind : length a.first ≤ c.args.i = omega (arith, c.len.ensures, c.if-i-len.false) in
    let within : c.args.i < length (a.first ++ end_to_end a.rest.items) = rw c.self.view_is c.requires in
    let found = c.last_up_to-k.ensures in
    let k = c.last_up_to-k.result in
    let there = search-there a.first a.rest.items c.as_slice.result.now c.args.i noted behind within k found.within found.begun found.last in
    let is = slice_get_read a.rest.items (length a.rest.items) k c.index.result.now refl there c.index.ensures in
    let start : c.index-2.result.now ≡ get_or c.as_slice.result.now k 0 = c.index-2.ensures ∙ ap (λ l. get_or l k c.index-2.result.now) (sym c.as_slice.ensures.value) ∙ get_or_default_zero c.as_slice.result.now k c.index-2.result.now found.within in
    let here : slice_get c.index.result.now (c.args.i - get_or c.as_slice.result.now k 0) ≡ Some c.item-2.result.now = rw (← start) c.item-2.ensures in
    rw (← c.self.view_is) (search-item a.first a.rest.items c.as_slice.result.now c.args.i noted behind within k found.within found.begun found.last c.index.result.now is c.item-2.result.now here)

use Rattle.std.proofs.Common.{◌≡◌, ◌++◌, ◌+◌, ◌∙◌, length, length-append, ap, arith}
use Rattle.ps_frame.proofs.Seams.{end_to_end-joined}
use Rattle.ps_frame.specs.EndToEnd.{end_to_end}
use Rattle.ps_frame.proofs.runs.Runs.followed_by.Goals as goal

pub laid-requires-clause-counted : goal.laid-requires-clause-counted
laid-requires-clause-counted g c =
    let a = c.self.inside in
    let b = c.other.inside in
    let shared = rw (c.new-rest.ensures.items, c.as_slice.ensures.value) at c.in_ok-push_shared.ensures.added in
    let second = rw c.in_ok-share.ensures.same at c.in_ok-push.ensures.items in
    let more = rw c.as_slice-2.ensures.value at c.in_ok-push_shared-2.ensures.added in
    let both : c.in_ok-share-2.field-0 ++ end_to_end c.push_shared-2.new.shared.items ≡ c.args.self.now ++ c.args.other.now =
    rw (← c.self.view_is, ← c.other.view_is, c.in_ok-share-2.ensures.same)
    (end_to_end-joined a.first b.first a.rest.items b.rest.items c.push_shared.new.shared.items c.push.new.self.items c.push_shared-2.new.shared.items shared second more) in
    let all = ap length both in
    let sum = length-append c.args.self.now c.args.other.now in
    let mine : a.len ≡ length c.args.self.now = rw (← c.self.view_is) c.self.invariant.counted in
    let theirs : b.len ≡ length c.args.other.now = rw (← c.other.view_is) c.other.invariant.counted in
    let len : c.in-Some.len ≡ a.len + b.len = c.in-Some.ensures.1 in
    omega (arith, all, sum, mine, theirs, len)

pub returns : goal.returns
returns g c =
    let a = c.self.inside in
    let b = c.other.inside in
    let shared = rw (c.new-rest.ensures.items, c.as_slice.ensures.value) at c.in_ok-push_shared.ensures.added in
    let second = rw c.in_ok-share.ensures.same at c.in_ok-push.ensures.items in
    let more = rw c.as_slice-2.ensures.value at c.in_ok-push_shared-2.ensures.added in
    let both : c.in_ok-share-2.field-0 ++ end_to_end c.push_shared-2.new.shared.items ≡ c.args.self.now ++ c.args.other.now =
    rw (← c.self.view_is, ← c.other.view_is, c.in_ok-share-2.ensures.same)
    (end_to_end-joined a.first b.first a.rest.items b.rest.items c.push_shared.new.shared.items c.push.new.self.items c.push_shared-2.new.shared.items shared second more) in
    record { joined = c.in_ok-runs.ensures.laid ∙ both }

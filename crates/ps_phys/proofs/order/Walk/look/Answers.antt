use Rattle.std.proofs.Common.{◌≡◌, sym, false, refl}
use Rattle.std.specs.Prelude.{IsSome, is_some}
use Rattle.keyed_slots.specs.Slots.{value_at}
use Rattle.ps_phys.proofs.Walking.{less-on, less-went-back, less-went-down, not-some, on-met, went-back, went-down}
use Rattle.ps_phys.specs.Shown.{stream_of}
use Rattle.ps_phys.proofs.order.Walk.look.Goals as goal

pub returns-in_ok-back-in-None-clause-found : goal.returns-in_ok-back-in-None-clause-found
returns-in_ok-back-in-None-clause-found c = λ root u.
    let e = c.in_ok-back-in-None.ensures in
    went-back c.args.phys.now.slots c.requires.whole root c.args.self.now.met.slots c.args.self.now.way.items c.args.self.now.left.items c.args.at u
    c.in_ok-back-in-None.back c.go_back.new.self.met.slots c.go_back.new.self.way.items c.go_back.new.self.left.items (sym c.in-None.ensures.stream) e.met e.left e.way

pub returns-in_ok-back-in-None-clause-looks : goal.returns-in_ok-back-in-None-clause-looks
returns-in_ok-back-in-None-clause-looks c =
    let e = c.in_ok-back-in-None.ensures in
    less-went-back c.args.phys.now.slots c.requires.whole c.args.self.now.met.slots c.args.self.now.way.items c.args.at c.in_ok-back-in-None.back c.go_back.new.self.met.slots c.go_back.new.self.way.items e.met e.way

pub returns-then-contains_key-clause-found : goal.returns-then-contains_key-clause-found
returns-then-contains_key-clause-found c = λ root u.
    let known : IsSome (value_at c.args.self.now.met.slots c.in-Some.input.node.0) = c.if-contains_key.ensures.0 refl in
    on-met c.args.phys.now.slots c.requires.whole root c.args.self.now.met.slots c.args.self.now.way.items c.args.self.now.left.items c.args.at u (stream_of c.in-Some.input) (sym c.in-Some.ensures.stream) known

pub returns-then-contains_key-clause-looks : goal.returns-then-contains_key-clause-looks
returns-then-contains_key-clause-looks c =
    less-on c.args.phys.now.slots c.requires.whole c.args.self.now.met.slots c.args.self.now.way.items c.args.at (stream_of c.in-Some.input) (sym c.in-Some.ensures.stream)

pub returns-in_ok-down-in-Some-clause-found : goal.returns-in_ok-down-in-Some-clause-found
returns-in_ok-down-in-Some-clause-found c = λ root u.
    let unknown : is_some (value_at c.args.self.now.met.slots c.in-Some.input.node.0) ≡ false = not-some (value_at c.args.self.now.met.slots c.in-Some.input.node.0) c.if-contains_key.ensures.1 in
    let e = c.in_ok-down-in-Some.ensures in
    went-down c.args.phys.now.slots c.requires.whole root c.args.self.now.met.slots c.go_down.new.self.met.slots c.args.self.now.way.items c.go_down.new.self.way.items c.args.self.now.left.items c.go_down.new.self.left.items
    c.args.at c.in_ok-down-in-Some.down c.in-Some.input u (sym c.in-Some.ensures.stream) unknown e.met e.way e.left e.down

pub returns-in_ok-down-in-Some-clause-looks : goal.returns-in_ok-down-in-Some-clause-looks
returns-in_ok-down-in-Some-clause-looks c =
    let unknown : is_some (value_at c.args.self.now.met.slots c.in-Some.input.node.0) ≡ false = not-some (value_at c.args.self.now.met.slots c.in-Some.input.node.0) c.if-contains_key.ensures.1 in
    let e = c.in_ok-down-in-Some.ensures in
    less-went-down c.args.phys.now.slots c.requires.whole c.args.self.now.met.slots c.args.self.now.way.items c.args.at c.in-Some.input c.go_down.new.self.met.slots c.go_down.new.self.way.items c.in_ok-down-in-Some.down
    (sym c.in-Some.ensures.stream) unknown e.met e.way e.down

-- The awaited slot stands behind what can be read; it is filled, and the ring is settled.
use Rattle.std.proofs.Common.{arith}
use Rattle.numbered_slots.specs.Laid.{laid}
use Rattle.numbered_slots.proofs.Kept.{awaited_in, behind_ready, counts_on, put-laid, put-slots, put_is}
use Rattle.numbered_slots.proofs.slots.NumberedSlots.put.Goals as goal

pub overflow_sub-at-2 : goal.overflow_sub-at-2
overflow_sub-at-2 g c =
    let i = c.self.inside in
    let awaited = awaited_in i.next (laid i.ready.items i.behind.items) c.args.number c.args.self.now c.self.view_is c.requires in
    let within = behind_ready i.next i.waiting i.ready.capacity i.ready.items i.behind.items c.self.invariant c.args.number awaited in
    let behind = within.0 in
    let long = c.len.ensures.value in
    omega arith

pub fill-requires : goal.fill-requires
fill-requires g c =
    let i = c.self.inside in
    let awaited = awaited_in i.next (laid i.ready.items i.behind.items) c.args.number c.args.self.now c.self.view_is c.requires in
    let there = behind_ready i.next i.waiting i.ready.capacity i.ready.items i.behind.items c.self.invariant c.args.number awaited in
    let behind = there.1 in
    let long = c.len.ensures.value in
    let as_long = i.behind.ok.0 in
    omega arith

pub overflow_add-self : goal.overflow_add-self
overflow_add-self g c =
    let i = c.self.inside in
    let awaited = awaited_in i.next (laid i.ready.items i.behind.items) c.args.number c.args.self.now c.self.view_is c.requires in
    let fits = counts_on i.next i.waiting i.ready.capacity i.ready.items i.behind.items c.self.invariant c.args.number awaited c.args.item in
    omega arith

pub invariant_of-self : goal.invariant_of-self
invariant_of-self g c =
    let i = c.self.inside in
    let awaited = awaited_in i.next (laid i.ready.items i.behind.items) c.args.number c.args.self.now c.self.view_is c.requires in
    put-laid i.next i.waiting i.ready.capacity i.ready.items i.behind.items c.self.invariant c.args.item c.fill.new.behind.items c.settle.new.ready.capacity c.settle.new.ready.items c.settle.new.behind.items c.settle.ensures.same c.settle.ensures.capacity c.settle.ensures.settled c.args.number awaited c.len.result c.len.ensures.value c.fill.ensures

pub returns : goal.returns
returns g c =
    let i = c.self.inside in
    let awaited = awaited_in i.next (laid i.ready.items i.behind.items) c.args.number c.args.self.now c.self.view_is c.requires in
    put_is i.next (laid i.ready.items i.behind.items) (laid c.settle.new.ready.items c.settle.new.behind.items) c.args.number c.args.item c.args.self.now c.self.view_is (put-slots i.next i.waiting i.ready.capacity i.ready.items i.behind.items c.self.invariant c.args.item c.fill.new.behind.items c.settle.new.ready.capacity c.settle.new.ready.items c.settle.new.behind.items c.settle.ensures.same c.settle.ensures.capacity c.settle.ensures.settled c.args.number awaited c.len.result c.len.ensures.value c.fill.ensures)

-- The next morsel of the pipe with the key is taken.
use Rattle.std.proofs.Common.{◌≡◌, ap, arith, refl, List, Some}
use Rattle.ps_frame.specs.Tables.{Fields, Frame}
use Rattle.ps_pipes.specs.Shown.{Shows}
use Rattle.ps_pipes.specs.declared.pipe.Pipe.{Pipe as Held}
use Rattle.ps_world.specs.Pipes.{taken}
use Rattle.ps_world.specs.World.{Pipe, morsel_at}
use Rattle.world_pipes.proofs.Placed.{at_place, called_at, if_none, if_some, if_some_both, seen, stays_shown}
use Rattle.world_pipes.proofs.pipes.Pipes.take.Goals as goal
use Rattle.world_pipes.specs.Shown.{AreShown, IsAt, Setting}

pub returns-clause-none : goal.returns-clause-none
returns-clause-none c =
    let inside = c.if-place-len.false in
    let len = c.len.ensures in
    let there = at_place c.args.self.now.list.items c.place-place.result c.place-place.result c.index_mut.result.now refl (omega (arith, inside, len)) c.index_mut.ensures.value in
    if_none c.take.result (λ same s ps shown. stays_shown s ps c.args.self.now _ c.place-place.result c.index_mut.result.now c.take.new.self shown there same refl) c.take.ensures.none

pub returns-clause-no_next : goal.returns-clause-no_next
returns-clause-no_next c =
    let inside = c.if-place-len.false in
    let len = c.len.ensures in
    let there = at_place c.args.self.now.list.items c.place-place.result c.args.key.0 c.index_mut.result.now c.place-place.ensures (omega (arith, inside, len)) c.index_mut.ensures.value in
    if_none c.take.result (λ none s ps p shown at. none (s.schema p.wire.sender) p (seen s ps p c.args.self.now shown c.args.key.0 at c.index_mut.result.now there).shows) c.take.ensures.no_next

pub returns-clause-morsel : goal.returns-clause-morsel
returns-clause-morsel c =
    let inside = c.if-place-len.false in
    let len = c.len.ensures in
    let h = c.index_mut.result.now in
    let there = at_place c.args.self.now.list.items c.place-place.result c.args.key.0 h c.place-place.ensures (omega (arith, inside, len)) c.index_mut.ensures.value in
    if_some_both (λ (t : Frame). (s : Fields) (p : Pipe) → Shows s p h → t.schema ≡ s) (λ (t : Frame). (s : Fields) (p : Pipe) → Shows s p h → morsel_at p.next p.got ≡ Some t.rows)
    (λ (t : Frame). (s : Setting) (ps : List Pipe) (p : Pipe) → AreShown s ps c.args.self.now → IsAt c.args.key ps p → (t.schema ≡ s.schema p.wire.sender) × (morsel_at p.next p.got ≡ Some t.rows)) c.take.result
    (λ t schema morsel s ps p shown at. let st = (seen s ps p c.args.self.now shown c.args.key.0 at h there).shows in (schema (s.schema p.wire.sender) p st, morsel (s.schema p.wire.sender) p st)) c.take.ensures.schema c.take.ensures.morsel

pub returns-clause-pipes : goal.returns-clause-pipes
returns-clause-pipes c =
    let inside = c.if-place-len.false in
    let len = c.len.ensures in
    let h = c.index_mut.result.now in
    let there = at_place c.args.self.now.list.items c.place-place.result c.args.key.0 h c.place-place.ensures (omega (arith, inside, len)) c.index_mut.ensures.value in
    if_some (λ (t : Frame). (s : Fields) (p : Pipe) → Shows s p h → Shows s (taken p) c.take.new.self) _ c.take.result
    (λ t shows s ps test shown names.
    called_at s test taken (λ p. refl) c.args.key.0 c.place-place.result c.place-place.ensures ps c.args.self.now _ shown names h c.take.new.self there refl
    (record { shows = shows; bounded = ap (λ (x : Held). x.is_bounded) c.take.ensures.others; room = ap (λ (x : Held). x.room) c.take.ensures.others })) c.take.ensures.shows

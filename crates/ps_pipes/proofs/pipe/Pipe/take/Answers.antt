-- What is first among what is left is the next morsel.
use Rattle.std.proofs.Common.{◌≡◌, Some}
use Rattle.ps_frame.specs.Tables.{Fields, Frame}
use Rattle.ps_pipes.specs.Shown.{Shows}
use Rattle.ps_pipes.proofs.Showing.{TakesFirst, first_taken, holding, nothing_next, of_some}
use Rattle.ps_pipes.proofs.pipe.Pipe.take.Goals as goal
use Rattle.ps_world.specs.Pipes.{taken}
use Rattle.ps_world.specs.World.{Pipe, morsel_at}

pub returns-clause-no_next : goal.returns-clause-no_next
returns-clause-no_next c = nothing_next c.args.self.now c.take.new.self c.take.result c.take.ensures

pub returns-clause-schema : goal.returns-clause-schema
returns-clause-schema c =
    let h = c.args.self.now in
    let m = c.take.new.self in
    of_some (λ (t : Frame). (s : Fields) (p : Pipe) (shown : Shows s p h) → TakesFirst s p h shown m t) (λ (t : Frame). (s : Fields) (p : Pipe) → Shows s p h → t.schema ≡ s)
    (λ t first s p shown. (first s p shown).schema) c.take.result (first_taken h m c.take.result c.take.ensures)

pub returns-clause-morsel : goal.returns-clause-morsel
returns-clause-morsel c =
    let h = c.args.self.now in
    let m = c.take.new.self in
    of_some (λ (t : Frame). (s : Fields) (p : Pipe) (shown : Shows s p h) → TakesFirst s p h shown m t) (λ (t : Frame). (s : Fields) (p : Pipe) → Shows s p h → morsel_at p.next p.got ≡ Some t.rows)
    (λ t first s p shown. (first s p shown).morsel) c.take.result (first_taken h m c.take.result c.take.ensures)

pub returns-clause-shows : goal.returns-clause-shows
returns-clause-shows c =
    let h = c.args.self.now in
    let m = c.take.new.self in
    of_some (λ (t : Frame). (s : Fields) (p : Pipe) (shown : Shows s p h) → TakesFirst s p h shown m t) (λ (t : Frame). (s : Fields) (p : Pipe) → Shows s p h → Shows s (taken p) (holding h m))
    (λ t first s p shown. (first s p shown).shows) c.take.result (first_taken h m c.take.result c.take.ensures)

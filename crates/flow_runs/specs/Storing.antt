-- Memory for what nodes of a run store.
use Rattle.std.specs.Prelude.{◌≤◌, ⊤}
use Rattle.node_work.specs.declared.work.Work.{Work}
use Rattle.node_work.specs.declared.work.Work.TheVariants as work

-- a sink has memory for one more morsel; others store none
abbrev pub HasRoomIn : Work → Type 0
HasRoomIn (work.Stores m) = 1 ≤ m.spare
HasRoomIn w = ⊤

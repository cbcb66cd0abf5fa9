-- Every reached world keeps of each node what its family keeps.
use Rattle.std.proofs.Common.{◌≡◌, ℕ, Some, ap, inl, inr}
use Rattle.std.specs.Prelude.{slice_get}
use Rattle.ps_frame.specs.Functions.{Functions}
use Rattle.ps_meaning.specs.Shape.{Shape}
use Rattle.ps_meaning.specs.Sound.{IsSound}
use Rattle.ps_options.specs.declared.options.Options.{Options}
use Rattle.ps_world.specs.Opening.{Reaches}
use Rattle.ps_world.specs.World.{World, shape_of}
use Rattle.world_laws.proofs.Answered.{in_shape}
use Rattle.world_families.specs.Holds.{Holds, HoldsAt}
use Rattle.family_keeps.proofs.Served.{node_holds}
use Rattle.keeper_laws.proofs.MadeLaw.{makers_hold}
use Rattle.group_run_laws.proofs.GroupHolds.{groups_hold}
use Rattle.group_run_laws.proofs.Groups.{is_group}
use Rattle.group_run_laws.proofs.ReduceHolds.{reduces_hold}
use Rattle.group_run_laws.proofs.Reduces.{is_reduce}
use Rattle.zip_laws.proofs.MuxLaw.{multiplexers_hold}
use Rattle.zip_laws.proofs.ZipLaw.{zips_hold}
use Rattle.join_run_laws.proofs.Held.{joins_hold}
use Rattle.run_promises.proofs.EachKind.{IsSome, which}

pub every_holds : (F : Functions) (shape : Shape) (o : Options) (w : World) (n : ℕ) → IsSound F shape → Reaches F shape o w → Holds F w n
every_holds F shape o w n sound r node at = by (which node.node.kind)
  where
    there : slice_get (shape_of w) n ≡ Some node.node
    there = in_shape w n node at

    by : IsSome node.node.kind → HoldsAt F w n node
    by (inl streams) = node_holds F shape o w sound r n node.node there streams node at
    by (inr (inl (inl (extend, is)))) = zips_hold F shape o w n node.node extend sound r there is node at
    by (inr (inl (inr (inl is)))) = multiplexers_hold F shape o w n node.node sound r there is node at
    by (inr (inl (inr (inr (j, is))))) = joins_hold F shape o w sound r n node.node j there is node at
    by (inr (inr (inl is))) = makers_hold F shape o w n node.node sound r there is node at
    by (inr (inr (inr (inl (es, is))))) = reduces_hold F shape o w n node.node sound r there (ap is_reduce is) node at
    by (inr (inr (inr (inr (keys, aggregates, is))))) = groups_hold F shape o w n node.node sound r there (ap is_group is) node at

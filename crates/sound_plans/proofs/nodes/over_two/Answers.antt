use Rattle.std.proofs.Common.{[], ◌∷◌, ap, sym, ◌∙◌}
use Rattle.ps_frame.specs.Trees.{tree_at}
use Rattle.ps_phys.specs.declared.phys.PhysNodeKind.TheVariants as phys
use Rattle.sound_plans.proofs.Arms.{fits-all, equi-left, equi-right, join-left, join-right}
use Rattle.sound_plans.proofs.nodes.over_two.Goals as goal

pub equi_join-requires-clause-left_keys : goal.equi_join-requires-clause-left_keys
equi_join-requires-clause-left_keys g c = equi-left (tree_at c.args.arena.now.items) c.args.kind.now c.requires.complete (c.in-EquiJoin.input_left) (c.in-EquiJoin.input_right) (c.as_slice.result.now) (c.as_slice-in-EquiJoin.result.now) (c.in-EquiJoin.args) (c.in-EquiJoin.is ∙ ap (λ xs. phys.EquiJoin c.in-EquiJoin.input_left c.in-EquiJoin.input_right xs c.in-EquiJoin.right_on c.in-EquiJoin.args) (sym c.as_slice.ensures) ∙ ap (λ xs. phys.EquiJoin c.in-EquiJoin.input_left c.in-EquiJoin.input_right c.as_slice.result.now xs c.in-EquiJoin.args) (sym c.as_slice-in-EquiJoin.ensures))

pub equi_join-requires-clause-right_keys : goal.equi_join-requires-clause-right_keys
equi_join-requires-clause-right_keys g c = equi-right (tree_at c.args.arena.now.items) c.args.kind.now c.requires.complete (c.in-EquiJoin.input_left) (c.in-EquiJoin.input_right) (c.as_slice.result.now) (c.as_slice-in-EquiJoin.result.now) (c.in-EquiJoin.args) (c.in-EquiJoin.is ∙ ap (λ xs. phys.EquiJoin c.in-EquiJoin.input_left c.in-EquiJoin.input_right xs c.in-EquiJoin.right_on c.in-EquiJoin.args) (sym c.as_slice.ensures) ∙ ap (λ xs. phys.EquiJoin c.in-EquiJoin.input_left c.in-EquiJoin.input_right c.as_slice.result.now xs c.in-EquiJoin.args) (sym c.as_slice-in-EquiJoin.ensures))

pub returns-in-EquiJoin-clause-fit : goal.returns-in-EquiJoin-clause-fit
returns-in-EquiJoin-clause-fit g c = fits-all (tree_at c.args.arena.now.items) c.args.schema.now (c.args.left.now ∷ c.args.right.now ∷ []) c.args.kind.now (phys.EquiJoin c.in-EquiJoin.input_left c.in-EquiJoin.input_right c.as_slice.result.now c.as_slice-in-EquiJoin.result.now c.in-EquiJoin.args) (c.in-EquiJoin.is ∙ ap (λ xs. phys.EquiJoin c.in-EquiJoin.input_left c.in-EquiJoin.input_right xs c.in-EquiJoin.right_on c.in-EquiJoin.args) (sym c.as_slice.ensures) ∙ ap (λ xs. phys.EquiJoin c.in-EquiJoin.input_left c.in-EquiJoin.input_right c.as_slice.result.now xs c.in-EquiJoin.args) (sym c.as_slice-in-EquiJoin.ensures)) c.equi_join.result c.equi_join.ensures.fit

pub join-requires-clause-left_keys : goal.join-requires-clause-left_keys
join-requires-clause-left_keys g c = join-left (tree_at c.args.arena.now.items) c.args.kind.now c.requires.complete (c.in-InMemoryJoin.input_left) (c.in-InMemoryJoin.input_right) (c.as_slice-in-InMemoryJoin.result.now) (c.as_slice-in-InMemoryJoin-2.result.now) (c.in-InMemoryJoin.args) (c.in-InMemoryJoin.is ∙ ap (λ xs. phys.InMemoryJoin c.in-InMemoryJoin.input_left c.in-InMemoryJoin.input_right xs c.in-InMemoryJoin.right_on c.in-InMemoryJoin.args) (sym c.as_slice-in-InMemoryJoin.ensures) ∙ ap (λ xs. phys.InMemoryJoin c.in-InMemoryJoin.input_left c.in-InMemoryJoin.input_right c.as_slice-in-InMemoryJoin.result.now xs c.in-InMemoryJoin.args) (sym c.as_slice-in-InMemoryJoin-2.ensures))

pub join-requires-clause-right_keys : goal.join-requires-clause-right_keys
join-requires-clause-right_keys g c = join-right (tree_at c.args.arena.now.items) c.args.kind.now c.requires.complete (c.in-InMemoryJoin.input_left) (c.in-InMemoryJoin.input_right) (c.as_slice-in-InMemoryJoin.result.now) (c.as_slice-in-InMemoryJoin-2.result.now) (c.in-InMemoryJoin.args) (c.in-InMemoryJoin.is ∙ ap (λ xs. phys.InMemoryJoin c.in-InMemoryJoin.input_left c.in-InMemoryJoin.input_right xs c.in-InMemoryJoin.right_on c.in-InMemoryJoin.args) (sym c.as_slice-in-InMemoryJoin.ensures) ∙ ap (λ xs. phys.InMemoryJoin c.in-InMemoryJoin.input_left c.in-InMemoryJoin.input_right c.as_slice-in-InMemoryJoin.result.now xs c.in-InMemoryJoin.args) (sym c.as_slice-in-InMemoryJoin-2.ensures))

pub returns-in-InMemoryJoin-clause-fit : goal.returns-in-InMemoryJoin-clause-fit
returns-in-InMemoryJoin-clause-fit g c = fits-all (tree_at c.args.arena.now.items) c.args.schema.now (c.args.left.now ∷ c.args.right.now ∷ []) c.args.kind.now (phys.InMemoryJoin c.in-InMemoryJoin.input_left c.in-InMemoryJoin.input_right c.as_slice-in-InMemoryJoin.result.now c.as_slice-in-InMemoryJoin-2.result.now c.in-InMemoryJoin.args) (c.in-InMemoryJoin.is ∙ ap (λ xs. phys.InMemoryJoin c.in-InMemoryJoin.input_left c.in-InMemoryJoin.input_right xs c.in-InMemoryJoin.right_on c.in-InMemoryJoin.args) (sym c.as_slice-in-InMemoryJoin.ensures) ∙ ap (λ xs. phys.InMemoryJoin c.in-InMemoryJoin.input_left c.in-InMemoryJoin.input_right c.as_slice-in-InMemoryJoin.result.now xs c.in-InMemoryJoin.args) (sym c.as_slice-in-InMemoryJoin-2.ensures)) c.join.result c.join.ensures.fit

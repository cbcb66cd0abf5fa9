-- What an update makes of a node without functions at hand, and which faults it finds, over what it sees of the node.
use Rattle.std.specs.Prelude.{◌≡◌, ℕ, ◌⊎◌, not, ◌&&◌, IsTrue, Some}
use Rattle.bare_nodes.specs.Uncalled.{no_functions}
use Rattle.ps_frame.specs.Causes.{Cause}
use Rattle.ps_options.specs.declared.options.Options.{Options}
use Rattle.ps_ports.specs.Ports.{Sides}
use Rattle.ps_turns.specs.Progress.{is_user_map, makes_table}
use Rattle.ps_turns.specs.Results.{BreaksRows}
use Rattle.ps_turns.specs.Tables.{whole_tables}
use Rattle.ps_turns.specs.Updates.{shape_fault, starts_giving, stored_tables}
use Rattle.turn_laws.specs.Updating.{SeenNode, UpdatesTo, heads_seen}

-- An update of a node as the definitions of a run have it: of one that is run so and may have so many ports, to one that is run as before and may have as many.
pub record UpdatesSeen (has : (inputs outputs : ℕ) → Type 0) (run : Options) (a : SeenNode) (given : Sides) (has_then : (inputs outputs : ℕ) → Type 0) (run_then : Options) (b : SeenNode) (answer : Sides) : Type 0 where
  pub update : UpdatesTo no_functions run a given b answer
  pub options : run_then ≡ run
  pub ports : (inputs outputs : ℕ) → has inputs outputs → has_then inputs outputs

-- A cause that an update finds: the heads of a zip can't agree, or the table that a map or a join makes where it begins to give is broken or has too many rows.
abbrev pub FindsSeen : Options → SeenNode → Sides → Cause → Type 0
FindsSeen run a given c =
    (shape_fault a.node a.node.kind (heads_seen a given) given ≡ Some c)
    ⊎ (IsTrue (makes_table a.node.kind && (starts_giving run a.node.kind a.progress given && not (is_user_map a.node.kind))) × BreaksRows no_functions a.node (whole_tables a.schemas (stored_tables a.progress)) c)

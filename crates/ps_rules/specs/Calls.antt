-- One call of expression lowering: what it has gathered, and what it answers.
use Rattle.std.specs.Prelude.{List, [], ◌∷◌, ◌++◌, map, Bool}
use Rattle.std.specs.List.{list_all}
use Rattle.ps_frame.specs.Trees.{Tree}
use Rattle.ps_frame.specs.Typing.{is_independent}
use Rattle.ps_meaning.specs.Steps.{Named}
use Rattle.ps_rules.specs.Slots.{State, Stream, added, after_name, all_added, new_name}

-- While a call goes over its expressions: the streams in the order of first adding, what one reduce of the input is to compute, the expressions over these, and those that go into one map.
pub record Call : Type 0 where
  pub state : State
  pub streams : List Stream
  pub reduced : List Named
  pub exprs : List Tree
  pub mapped : List Named

-- What a call has gathered, before it is made one stream: streams, what one reduce of the input is to compute, and the expressions over the columns of all of these.
pub record Bundle : Type 0 where
  pub state : State
  pub streams : List Stream
  pub reduced : List Named
  pub exprs : List Tree

-- a stream, and the expressions over it
pub record Answer : Type 0 where
  pub state : State
  pub stream : Stream
  pub exprs : List Tree

-- an expression, with what a call does at it
pub record Operand : Type 0 where
  pub expr : Tree
  pub rule : Call → Call

abbrev pub exprs_of_all : List Operand → List Tree
exprs_of_all operands = map (λ (o : Operand). o.expr) operands

abbrev pub all_independent : List Tree → Bool
all_independent es = list_all is_independent es

-- nothing is gathered yet
abbrev pub new_call : State → Call
new_call s = record { state = s; streams = []; reduced = []; exprs = []; mapped = [] }

-- an expression over a stream, and what stands once that is made
abbrev pub given : Tree → Stream → State → Call → Call
given e stream s call = record { state = s; streams = added stream call.streams; reduced = call.reduced; exprs = call.exprs ++ e ∷ []; mapped = call.mapped }

-- an expression over all that another call has gathered
abbrev pub given_bundle : (List Tree → Tree) → Bundle → Call → Call
given_bundle operator b call =
    record {
      state = b.state;
      streams = all_added b.streams call.streams;
      reduced = call.reduced ++ b.reduced;
      exprs = call.exprs ++ operator b.exprs ∷ [];
      mapped = call.mapped;
    }

-- a reduction of the input under a fresh name, where so much stands
abbrev pub given_reduction : Tree → State → Call → Call
given_reduction e s call =
    record {
      state = after_name s;
      streams = call.streams;
      reduced = call.reduced ++ (new_name s, e) ∷ [];
      exprs = call.exprs ++ Tree.column (new_name s) ∷ [];
      mapped = call.mapped;
    }

-- the rules of all operands, one after the other
abbrev pub each : List Operand → Call → Call
each [] call = call
each (o ∷ os) call = each os (o.rule call)

-- the expression is left to one map, under a fresh name
abbrev pub left_to_map : Tree → Call → Call
left_to_map e call =
    record {
      state = after_name call.state;
      streams = call.streams;
      reduced = call.reduced;
      exprs = call.exprs ++ Tree.column (new_name call.state) ∷ [];
      mapped = call.mapped ++ (new_name call.state, e) ∷ [];
    }

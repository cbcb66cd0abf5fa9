-- What a call has gathered once its expressions are done, and the one stream that it makes of it.
use Rattle.std.specs.Prelude.{ℕ, List, [], ◌∷◌, ◌++◌, flat_map, filter, Bool, false, if◌then◌else◌}
use Rattle.std.specs.List.{list_any}
use Rattle.ps_frame.specs.Causes.{is_empty}
use Rattle.ps_frame.specs.Parts.{reads_column}
use Rattle.ps_frame.specs.Tables.{Fields}
use Rattle.ps_meaning.specs.Schemas.{names_of}
use Rattle.ps_meaning.specs.Shape.{in_memory_map, reduce, zip_node}
use Rattle.ps_meaning.specs.Steps.{Name, Named, select}
use Rattle.ps_rules.specs.Calls.{Answer, Bundle, Call}
use Rattle.ps_rules.specs.Slots.{Made, State, Stream, added, insert_node, over_selected, same_stream, schema_at, with_columns}

-- the columns that expressions read, in the order of the schema; the first one where they read none
abbrev pub names_read : List Named → Fields → List Name
names_read es s = filter (λ n. list_any (λ (e : Named). reads_column n e.1) es) (names_of s)

abbrev pub or_first : List Name → List Name → List Name
or_first [] [] = []
or_first [] (n ∷ ns) = n ∷ []
or_first (m ∷ ms) ns = m ∷ ms

abbrev pub names_kept : List Named → Fields → List Name
names_kept es s = or_first (names_read es s) (names_of s)

-- whether the input itself is all that was gathered
abbrev pub is_stream_alone : Stream → List Stream → List Named → Bool
is_stream_alone s (t ∷ []) [] = same_stream s t
is_stream_alone s _ _ = false

module _ (at : ℕ) (input : Stream) where
  -- one map for all expressions that were left to it, over the columns that they read
  abbrev pub mapped_stream : List Named → State → Made
  mapped_stream es s =
      let below = with_columns at (names_kept es (schema_at s.nodes input)) input s in
      over_selected at (in_memory_map (select es)) es below.stream below.state

  abbrev pub with_map : Call → Bundle
  with_map call = let m = mapped_stream call.mapped call.state in record { state = m.state; streams = added m.stream call.streams; reduced = call.reduced; exprs = call.exprs }

  abbrev pub without_map : Call → Bundle
  without_map call = record { state = call.state; streams = call.streams; reduced = call.reduced; exprs = call.exprs }

  -- the map stands after the other streams
  abbrev pub gathered : Call → Bundle
  gathered call = if is_empty call.mapped then without_map call else with_map call

  -- several streams are zipped
  abbrev pub zip_of : List Stream → State → Made
  zip_of ss s = insert_node s (record { kind = zip_node false; schema = flat_map (schema_at s.nodes) ss; origin = at; inputs = ss })

  abbrev pub one_stream : List Stream → State → Made
  one_stream [] s = zip_of [] s
  one_stream (t ∷ []) s = record { state = s; stream = t }
  one_stream (t ∷ u ∷ more) s = zip_of (t ∷ u ∷ more) s

  -- one reduce of the input, after the other streams
  abbrev pub with_reduce : List Stream → List Named → State → Made
  with_reduce ss es s = let m = over_selected at (reduce es) es input s in one_stream (ss ++ m.stream ∷ []) m.state

  abbrev pub one_of : List Stream → List Named → State → Made
  one_of ss es = if is_empty es then one_stream ss else with_reduce ss es

  abbrev pub finished : Bundle → Answer
  finished b = let m = one_of b.streams b.reduced b.state in record { state = m.state; stream = m.stream; exprs = b.exprs }

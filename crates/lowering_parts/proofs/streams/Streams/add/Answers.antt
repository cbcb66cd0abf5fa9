use Rattle.std.proofs.Common.{◌≡◌, Ok, Err, Result}
use Rattle.std.specs.Prelude.{List, OnOk, ◌++◌, ◌∷◌, [], false}
use Rattle.ps_frame.specs.declared.refusal.PolarsError.{PolarsError}
use Rattle.ps_phys.specs.Shown.{stream_of, streams_of}
use Rattle.ps_phys.specs.declared.phys.PhysStream.{PhysStream}
use Rattle.ps_rules.specs.Slots.{added}
use Rattle.lowering_parts.proofs.StreamLemmas.{added_none, added_one, among}
use Rattle.lowering_parts.proofs.streams.Streams.add.Goals as goal

pub returns-then-contains-clause-added : goal.returns-then-contains-clause-added
returns-then-contains-clause-added c = added_none c.args.stream c.args.self.now c.if-contains.ensures

by_answer : (r : Result (Unit {0}) PolarsError) (t : PhysStream) (ss after : List PhysStream) → false ≡ among t ss → OnOk r (after ≡ ss ++ t ∷ []) → OnOk r (streams_of after ≡ added (stream_of t) (streams_of ss))
by_answer (Ok x) t ss after e h = added_one t ss after e h
by_answer (Err x) t ss after e h = tt

pub returns-clause-added : goal.returns-clause-added
returns-clause-added c = by_answer c.append.result c.args.stream c.args.self.now c.append.new.self c.if-contains.ensures c.append.ensures.added

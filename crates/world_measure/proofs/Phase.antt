-- Every step but an Open leaves less to do, so from each reached world such steps end.
use Rattle.std.proofs.Common.{◌≡◌, true, false}
use Rattle.std.specs.Prelude.{IsFalse}
use Rattle.ps_frame.specs.Functions.{Functions}
use Rattle.ps_meaning.specs.Shape.{Shape}
use Rattle.ps_meaning.specs.Sound.{IsSound}
use Rattle.ps_options.specs.declared.options.Options.{Options}
use Rattle.ps_world.specs.Facts.{Facts}
use Rattle.ps_world.specs.Opening.{Reaches}
use Rattle.ps_world.specs.Step.{Steps}
use Rattle.ps_world.specs.World.{Pipe, Record, World, claimed, closed, ended, handed_in, opened, pulled}
use Rattle.world_claims.proofs.ReachedFacts.{known_reached, known_step}
use Rattle.world_claims.specs.Numbering.{Known}
use Rattle.world_facts.proofs.Wiring.{wires_forward}
use Rattle.world_laws.proofs.InOrder.{contains_map}
use Rattle.world_measure.proofs.Answers.{hand_ins_fall}
use Rattle.world_measure.proofs.Closes.{closes_fall, ends_fall}
use Rattle.world_measure.proofs.Falls.{work_falls}
use Rattle.world_measure.proofs.OrderEnds.{ends_by_measure}
use Rattle.world_measure.proofs.Pipes.{LeadOn}
use Rattle.world_measure.proofs.Takes.{claims_fall, pulls_fall}
use Rattle.world_measure.specs.Left.{left_to_do}
use Rattle.world_measure.specs.Order.{Ends, IsLess}
use Rattle.world_measure.specs.Runs.{StepsInPhase, opens}

pub onward : (F : Functions) (w : World) → Facts F w → LeadOn w.pipes
onward F w f p c = wires_forward F w f p.wire (contains_map (λ (x : Pipe). x.wire) p w.pipes c)

pub steps_fall : (F : Functions) (w v : World) (r : Record) → Facts F w → IsFalse (opens r) → Steps F w r v → IsLess (left_to_do v) (left_to_do w)
steps_fall F w v (opened phase) f e s = absurd (let no : true ≡ false = e in cc)
steps_fall F w v (claimed n i number worker) f e s = work_falls w v (claims_fall F w (onward F w f) n i number worker v s)
steps_fall F w v (handed_in n i number worker handed) f e s = hand_ins_fall F w v n i number worker handed s
steps_fall F w v (pulled n i number) f e s = work_falls w v (pulls_fall F w (onward F w f) n i number v s)
steps_fall F w v (closed n) f e s = closes_fall F w v n s
steps_fall F w v (ended phase) f e s = ends_fall F w v phase s

pub reached_fall : (F : Functions) (shape : Shape) (o : Options) (w v : World) (r : Record) → IsSound F shape → Reaches F shape o w → IsFalse (opens r) → Steps F w r v → IsLess (left_to_do v) (left_to_do w)
reached_fall F shape o w v r sound reached e s = steps_fall F w v r (known_reached F shape o w sound reached).facts e s

pub phases_end : (F : Functions) (shape : Shape) (o : Options) (w : World) → IsSound F shape → Reaches F shape o w → Ends (StepsInPhase F) w
phases_end F shape o w sound reached =
    ends_by_measure (StepsInPhase F) left_to_do (Known F) (λ x y k b. known_step F x y b.0 k b.2) (λ x y k b. steps_fall F x y b.0 k.facts b.1 b.2) w (known_reached F shape o w sound reached)

-- That a node has a move, or none.
use Rattle.std.proofs.Common.{◌≡◌, ℕ, Bool, true, false, Some, None, [], refl, sym, subst, ◌∙◌}
use Rattle.std.specs.Prelude.{IsTrue}
use Rattle.std.specs.List.{AllByRecursion}
use Rattle.flow_moves.specs.Moves.{IsMoveOf, MovesNode, OnlyClaims, TakesAt, TakesNothing}
use Rattle.ps_frame.specs.Functions.{Functions}
use Rattle.ps_turns.specs.Claims.{Claim}
use Rattle.ps_world.specs.Claims.{IsFree, after_claim}
use Rattle.ps_world.specs.Closing.{HasFinished, after_close}
use Rattle.ps_world.specs.Step.{IsAtWork, Steps}
use Rattle.ps_world.specs.World.{Node, Record, World, claimed, closed, ended, handed_in, has_place, is_cut_off, live_outs, opened, pieces_of, pulled}
use Rattle.world_records.specs.declared.records.Move.TheVariants as turn

module _ (F : Functions) (w : World) (n : ℕ) where
  -- a node that neither claims, pulls nor closes has no move
  pub no_move : ((i k worker : ℕ) (v : World) → Steps F w (claimed n i k worker) v → ⊥) → ((i k : ℕ) (v : World) → Steps F w (pulled n i k) v → ⊥) → ((v : World) → Steps F w (closed n) v → ⊥) → IsMoveOf F w n None
  no_move claims pulls closes = by
    where
      by : (r : Record) (v : World) → Steps F w r v → MovesNode r n → ⊥
      by (claimed m i k worker) v s is = claims i k worker v (subst (λ j. Steps F w (claimed j i k worker) v) is s)
      by (pulled m i k) v s is = pulls i k v (subst (λ j. Steps F w (pulled j i k) v) is s)
      by (closed m) v s is = closes v (subst (λ j. Steps F w (closed j) v) is s)
      by (opened phase) v s is = absurd is
      by (handed_in m i k worker a) v s is = absurd is
      by (ended phase) v s is = absurd is

  pub closes : (x : Node) → IsAtWork w n x → pieces_of w n ≡ [] → HasFinished w n x → IsMoveOf F w n (Some (turn.Close n))
  closes x at none finished = (closed n, after_close w n x, refl, (x, at, none, finished, refl))

  pub closes_later : TakesNothing F w n → (pieces_of w n ≡ [] → ⊥) → IsMoveOf F w n None
  closes_later nothing out = no_move (λ i k worker v s. nothing (claimed n i k worker) v s refl) (λ i k v s. nothing (pulled n i k) v s refl) (λ v s. out s.2)

  -- what is cut off takes nothing
  pub cut_takes_nothing : is_cut_off w n ≡ true → TakesNothing F w n
  cut_takes_nothing cut = by
    where
      clash : (b : Bool) → b ≡ true → b ≡ false → ⊥
      clash b x y = absurd (let both : true ≡ false = sym x ∙ y in cc)

      by : (r : Record) (v : World) → Steps F w r v → TakesAt r n → ⊥
      by (claimed m i k worker) v s is = clash (is_cut_off w n) cut (subst (λ j. is_cut_off w j ≡ false) is s.3)
      by (pulled m i k) v s is = clash (is_cut_off w n) cut (subst (λ j. is_cut_off w j ≡ false) is s.3)
      by (closed m) v s is = absurd is
      by (opened phase) v s is = absurd is
      by (handed_in m i k worker a) v s is = absurd is
      by (ended phase) v s is = absurd is

  module _ (i : ℕ) (x : Node) (c : Claim) (only : OnlyClaims F w n i x c) where
    pub claims : (worker : ℕ) → IsFree w worker → AllByRecursion (λ p. IsTrue (has_place w p)) (live_outs w n) → IsMoveOf F w n (Some (turn.Claim n i))
    claims worker free places = (claimed n i c.number worker, after_claim w n i worker x c, refl, (x, only.at_work, free, only.kept, places, (c, only.claims, refl, refl)))

    pub claims_later : (AllByRecursion (λ p. IsTrue (has_place w p)) (live_outs w n) → ⊥) → IsMoveOf F w n None
    claims_later full = no_move (λ j k worker v s. full s.4) only.no_pull only.no_close

    pub none_free : ((worker : ℕ) × IsFree w worker → ⊥) → IsMoveOf F w n None
    none_free busy = no_move (λ j k worker v s. busy (worker, s.2)) only.no_pull only.no_close

-- Sweeps that are over, and what their steps cost.
use Rattle.std.proofs.Common.{◌≡◌, ℕ, Bool, true, false, sym, ◌∙◌, inl, inr}
use Rattle.std.specs.Prelude.{IsTrue}
use Rattle.ps_ports.specs.Ports.{Sides}
use Rattle.ps_settle.specs.Standings.{Standing}
use Rattle.ps_settle.specs.Sweeps.{SweptDown, SweptUp}

never : (b : Bool) → b ≡ false → ¬ IsTrue b
never b e t = absurd (let clash : false ≡ true = sym e ∙ t in cc)

module _ {N : Type 0} (rank : N → ℕ) (Update : N → Sides → N → Sides → Type 0) (s t : Standing N) (here here' later : ℕ → Bool) (ticks : ℕ) (over : (n : ℕ) → here n ≡ false) (over' : (n : ℕ) → here' n ≡ false) where
  -- nothing is marked here any more, whatever the marks are called
  pub up_over : SweptUp rank Update s t here later ticks → SweptUp rank Update s t here' later ticks
  up_over swept =
      record {
        reached = swept.reached;
        others = λ n b at unmarked. swept.others n b at (λ m. elim m [ inl h ↦ never (here n) (over n) h | inr l ↦ unmarked (inr l) ]);
        less = swept.less;
        calm = λ e n b at unmarked. swept.calm e n b at (never (here n) (over n));
        ahead = λ n h. absurd (never (here' n) (over' n) h);
        few = swept.few;
        inside = swept.inside;
        as_many = swept.as_many;
      }

  pub down_over : SweptDown rank Update s t here later ticks → SweptDown rank Update s t here' later ticks
  down_over swept =
      record {
        reached = swept.reached;
        others = λ n b at unmarked. swept.others n b at (λ m. elim m [ inl h ↦ never (here n) (over n) h | inr l ↦ unmarked (inr l) ]);
        less = swept.less;
        calm = swept.calm;
        ahead = λ n h. absurd (never (here' n) (over' n) h);
        few = swept.few;
        inside = swept.inside;
        as_many = swept.as_many;
      }

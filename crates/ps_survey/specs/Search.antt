-- What a depth-first search knows while it is under way, and when it has ended.
use Rattle.std.specs.Prelude.{◌≡◌, ℕ, suc, ◌+◌, ◌-◌, ◌<◌, ◌≤◌, ◌⊎◌, List, [], ◌∷◌, ◌++◌, length, slice_get, Some, Contains, ⊤}
use Rattle.ps_plan.specs.Graph.{Path, Leads}
use Rattle.valid_plans.specs.Surveys.{NamedFirst, Once}
use Rattle.ps_survey.specs.declared.search.Mark.{Mark}
use Rattle.ps_survey.specs.declared.search.Mark.TheVariants as mark
use Rattle.ps_survey.specs.declared.search.Stop.{Stop}
use Rattle.ps_survey.specs.declared.search.Stop.TheVariants as stop

-- the number has this mark
abbrev pub IsMarked : List Mark → ℕ → Mark → Type 0
IsMarked marks n m = slice_get marks n ≡ Some m

-- the numbers are a way: each is named by the one before it, and the last names the end
abbrev pub IsTrail : (ℕ → List ℕ) → ℕ → List ℕ → ℕ → Type 0
IsTrail next from [] to = from ≡ to
IsTrail next from (x ∷ xs) to = (x ≡ from) × ((m : ℕ) × Contains (next x) m × IsTrail next m xs to)

-- how many looks a number still needs: one at each name, one when it is met and one when it is done
abbrev pub looks : ℕ → Mark → ℕ
looks names mark.New = suc (suc names)
looks names (mark.Open k) = suc (names - k)
looks names mark.Done = 0

-- how many looks the numbers from i on still need
abbrev pub looks_left : (ℕ → List ℕ) → ℕ → List Mark → ℕ
looks_left next i [] = 0
looks_left next i (m ∷ ms) = looks (length (next i)) m + looks_left next (suc i) ms

-- the search stands at a number, to which the trail leads from the start; it began with those before
pub record Underway (next : ℕ → List ℕ) (start : ℕ) (before order : List ℕ) (marks : List Mark) (trail : List ℕ) (at : ℕ) : Type 0 where
  pub done : (n : ℕ) → IsMarked marks n mark.Done → Contains order n
  pub marked : (n : ℕ) → Contains order n → IsMarked marks n mark.Done
  pub on_way : (n k : ℕ) → IsMarked marks n (mark.Open k) → Contains (trail ++ at ∷ []) n
  pub way_marked : (n : ℕ) → Contains (trail ++ at ∷ []) n → (k : ℕ) × IsMarked marks n (mark.Open k)
  pub seen : (n k j m : ℕ) → IsMarked marks n (mark.Open k) → j < k → slice_get (next n) j ≡ Some m → Contains order m
  pub places : (n k : ℕ) → IsMarked marks n (mark.Open k) → k ≤ length (next n)
  pub way_once : Once (trail ++ at ∷ [])
  pub way : IsTrail next start trail at
  pub once : Once order
  pub first : NamedFirst next order
  pub more : (n : ℕ) → Contains order n → Contains before n ⊎ Path next start n
  pub kept : (n : ℕ) → Contains before n → Contains order n

-- no number is on the way; those that are done are in order
pub record AtRest (next : ℕ → List ℕ) (order : List ℕ) (marks : List Mark) : Type 0 where
  pub done : (n : ℕ) → IsMarked marks n mark.Done → Contains order n
  pub marked : (n : ℕ) → Contains order n → IsMarked marks n mark.Done
  pub none_open : (n k : ℕ) → ¬ IsMarked marks n (mark.Open k)
  pub once : Once order
  pub first : NamedFirst next order

-- a search from a start has ended: it is at rest, the start is done, and what is new is what the start leads to
pub record Ended (next : ℕ → List ℕ) (start : ℕ) (before order : List ℕ) (marks : List Mark) : Type 0 where
  pub rest : AtRest next order marks
  pub reaches : Contains order start
  pub more : (n : ℕ) → Contains order n → Contains before n ⊎ Path next start n
  pub kept : (n : ℕ) → Contains before n → Contains order n

-- the numbers that the start leads to, each once and after what it names
pub record IsOrderFrom (next : ℕ → List ℕ) (count start : ℕ) (order : List ℕ) : Type 0 where
  pub has_start : Contains order start
  pub reached : (n : ℕ) → Contains order n → Path next start n
  pub within : (n : ℕ) → Contains order n → n < count
  pub once : Once order
  pub first : NamedFirst next order

-- what the start leads to, where a search from it stops
abbrev pub HasStopped : (ℕ → List ℕ) → ℕ → ℕ → Stop → Type 0
HasStopped next count start (stop.Missing by) = Path next start by × ((m : ℕ) × Contains (next by) m × (count ≤ m))
HasStopped next count start (stop.Circle n) = Path next start n × Leads next n n
HasStopped next count start stop.OutOfMemory = ⊤

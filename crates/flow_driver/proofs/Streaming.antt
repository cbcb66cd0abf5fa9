-- What is known of kinds whose nodes stream.
use Rattle.std.proofs.Common.{◌≡◌, ℕ, Bool, true, false, cond, Option, None, Some, refl, subst}
use Rattle.std.specs.Prelude.{◌||◌, IfSome, IsFalse, IsTrue, List, nat_eq, option_map}
use Rattle.ps_flow.specs.Claiming.{streams}
use Rattle.ps_frame.specs.Tables.{Fields, Row}
use Rattle.ps_meaning.specs.Shape.{PhysicalKind, PhysicalNode, filter_node, in_memory_sink, in_memory_source, independent_select, ordered_union, select_node, simple_projection, stream_map, streaming_slice, with_row_index}
use Rattle.ps_options.specs.declared.options.Options.{Options}
use Rattle.ps_turns.specs.Claims.{Claim, Next, claim_by}
use Rattle.ps_turns.specs.Cuts.{is_exhausted}
use Rattle.ps_turns.specs.Heads.{Head}
use Rattle.ps_turns.specs.Progress.{Progress, is_multiplexer, is_user_map}
use Rattle.ps_world.specs.Facts.{keeps_one}
use Rattle.world_families.specs.Kinds.{IsStreaming}

pub all_stream : (kind : PhysicalKind) → IsStreaming kind → IsTrue (streams kind)
all_stream (in_memory_source t) s = refl
all_stream (independent_select es) s = refl
all_stream (select_node es extends) s = refl
all_stream (with_row_index name offset) s = refl
all_stream (streaming_slice offset n) s = refl
all_stream (filter_node e) s = refl
all_stream (simple_projection names) s = refl
all_stream (stream_map step) s = refl
all_stream ordered_union s = refl
all_stream in_memory_sink s = refl
all_stream kind s = absurd s

-- none is a multiplexer, or a map of a function over a whole table
pub all_plain : (kind : PhysicalKind) → IsStreaming kind → IsFalse (is_multiplexer kind || is_user_map kind)
all_plain (in_memory_source t) s = refl
all_plain (independent_select es) s = refl
all_plain (select_node es extends) s = refl
all_plain (with_row_index name offset) s = refl
all_plain (streaming_slice offset n) s = refl
all_plain (filter_node e) s = refl
all_plain (simple_projection names) s = refl
all_plain (stream_map step) s = refl
all_plain ordered_union s = refl
all_plain in_memory_sink s = refl
all_plain kind s = absurd s

pub not_multiplexer : (kind : PhysicalKind) → IsStreaming kind → is_multiplexer kind ≡ false
not_multiplexer kind s = first (is_multiplexer kind) (is_user_map kind) (all_plain kind s)
  where
    first : (a b : Bool) → (a || b) ≡ false → a ≡ false
    first false b e = refl
    first true b e = e

-- THEIR CLAIMS
-- the answer of each is handed on
abbrev GoesOn : Option Claim → Type 0
GoesOn claim = IfSome claim (λ c. keeps_one c.task ≡ false)

if_so : (b : Bool) (claim : Option Claim) → GoesOn claim → GoesOn (cond b claim None)
if_so true claim h = h
if_so false claim h = tt

if_not : (b : Bool) (claim : Option Claim) → GoesOn claim → GoesOn (cond b None claim)
if_not true claim h = tt
if_not false claim h = h

of_next : (f : ℕ × List Row → Claim) → ((m : ℕ × List Row) → keeps_one (f m).task ≡ false) → (next : Next) → GoesOn (option_map f next)
of_next f h None = tt
of_next f h (Some m) = h m

module _ (o : Options) (p : PhysicalNode) (ss : List Fields) (a : Progress) (hs : List Head) (ds : List Bool) (i : ℕ) (next : Next) where
  by_kind : (kind : PhysicalKind) → IsStreaming kind → GoesOn (claim_by o p ss kind a hs ds i next)
  by_kind (in_memory_source t) s = if_so (nat_eq i 0) _ (if_not (is_exhausted o t.rows a.sent) _ refl)
  by_kind (independent_select es) s = if_so (nat_eq i 0) _ (if_so (nat_eq a.sent 0) _ refl)
  by_kind (select_node es extends) s = of_next _ (λ m. refl) next
  by_kind (with_row_index name offset) s = of_next _ (λ m. refl) next
  by_kind (streaming_slice offset n) s = of_next _ (λ m. refl) next
  by_kind (filter_node e) s = of_next _ (λ m. refl) next
  by_kind (simple_projection names) s = of_next _ (λ m. refl) next
  by_kind (stream_map step) s = of_next _ (λ m. refl) next
  by_kind ordered_union s = of_next _ (λ m. refl) next
  by_kind in_memory_sink s = tt
  by_kind kind s = absurd s

  pub goes_on : (kind : PhysicalKind) → IsStreaming kind → (c : Claim) → claim_by o p ss kind a hs ds i next ≡ Some c → keeps_one c.task ≡ false
  goes_on kind s c e = subst GoesOn e (by_kind kind s)

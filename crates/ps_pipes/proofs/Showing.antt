-- Which pipe of a world is shown after each change.
use Rattle.std.proofs.Common.{◌≡◌, ℕ, ◌+◌, ◌-◌, ◌≤◌, Bool, false, true, cond, List, [], ◌∷◌, ◌++◌, drop, length, set, slice_get, Option, Some, None, sym, ap, ◌∙◌, refl, subst, arith, length-append, length-drop, length-set}
use Rattle.std.specs.Prelude.{IfNone, IfSome, MatchOption, is_some, not, ◌&&◌, ◌||◌, nat_eq, option_map}
use Rattle.std.specs.List.{count_by}
use Rattle.std.proofs.lemmas.List.{drop-append-le, length-map, map-append}
use Rattle.ps_frame.specs.Tables.{Fields, Frame, Row}
use Rattle.numbered_slots.specs.Numbered.{IsAwaited, Numbered, begins, front, there, with_item, with_last, with_place as with_free}
use Rattle.ps_world.specs.Pipes.{dropped_pipe, taken, with_answer, with_morsel, with_place}
use Rattle.ps_world.specs.World.{Pipe, has_next, is_drained, is_over, morsel_at, waiting}
use Rattle.ps_pipes.specs.Shown.{Shows, next_table, slots_left, table_of}
use Rattle.ps_pipes.specs.declared.pipe.Pipe.{Pipe as Held}
use Rattle.ps_pipes.proofs.Lists.{awaited_is, begins_is, first_of, front_is, set_is, table_is, tables, there_is}

-- with other morsels
abbrev pub holding : Held → Numbered Frame → Held
holding h m = record h { morsels = m }

module _ (s : Fields) (p : Pipe) where
  slots_gone : p.is_dropped ≡ true → slots_left s p ≡ []
  slots_gone d = ap (λ b. cond {A = List (Option Frame)} b [] (tables s (drop p.next p.got))) d

  slots_there : p.is_dropped ≡ false → slots_left s p ≡ tables s (drop p.next p.got)
  slots_there d = ap (λ b. cond {A = List (Option Frame)} b [] (tables s (drop p.next p.got))) d

module _ (s : Fields) (p : Pipe) (h : Held) (shown : Shows s p h) where
  gone : h.is_dropped ≡ true → p.is_dropped ≡ true
  gone d = sym shown.dropped ∙ d

  kept : h.is_dropped ≡ false → p.is_dropped ≡ false
  kept d = sym shown.dropped ∙ d

  slots : h.is_dropped ≡ false → h.morsels.slots ≡ tables s (drop p.next p.got)
  slots d = shown.slots ∙ slots_there s p (kept d)

  -- the morsels that wait, by whether it is dropped
  first_by : (b : Bool) → p.is_dropped ≡ b → begins h.morsels.slots ≡ has_next p
  first_by true d = ap begins (shown.slots ∙ slots_gone s p d) ∙ sym (ap (λ b. not b && is_some (morsel_at p.next p.got)) d)
  first_by false d = ap begins (shown.slots ∙ slots_there s p d) ∙ begins_is s p.next p.got ∙ sym (ap (λ b. not b && is_some (morsel_at p.next p.got)) d)

  pub first_is : begins h.morsels.slots ≡ has_next p
  first_is = first_by p.is_dropped refl

  front_by : (b : Bool) → p.is_dropped ≡ b → front h.morsels.slots ≡ cond b None (option_map (table_of s) (morsel_at p.next p.got))
  front_by true d = ap front (shown.slots ∙ slots_gone s p d)
  front_by false d = ap front (shown.slots ∙ slots_there s p d) ∙ front_is s p.next p.got

  pub next_is : front h.morsels.slots ≡ next_table s p
  next_is = front_by p.is_dropped refl

  waits_by : (b : Bool) → p.is_dropped ≡ b → there h.morsels.slots ≡ waiting p
  waits_by true d = ap there (shown.slots ∙ slots_gone s p d) ∙ sym (ap (λ b. cond {A = ℕ} b 0 (count_by (λ (slot : Option (List Row)). is_some slot) (drop p.next p.got))) d)
  waits_by false d = ap there (shown.slots ∙ slots_there s p d) ∙ there_is s (drop p.next p.got) ∙ sym (ap (λ b. cond {A = ℕ} b 0 (count_by (λ (slot : Option (List Row)). is_some slot) (drop p.next p.got))) d)

  pub waits_is : there h.morsels.slots ≡ waiting p
  waits_is = waits_by p.is_dropped refl

  long : p.is_dropped ≡ false → length h.morsels.slots ≡ length p.got - p.next
  long d = ap length (shown.slots ∙ slots_there s p d) ∙ length-map (drop p.next p.got) (option_map (table_of s)) ∙ length-drop p.next p.got

  drained_by : (b : Bool) → p.is_dropped ≡ b → nat_eq (length h.morsels.slots) 0 ≡ is_drained p
  drained_by true d = ap (λ l. nat_eq (length l) 0) (shown.slots ∙ slots_gone s p d) ∙ sym (ap (λ b. b || nat_eq (length p.got - p.next) 0) d)
  drained_by false d = ap (λ n. nat_eq n 0) (long d) ∙ sym (ap (λ b. b || nat_eq (length p.got - p.next) 0) d)

  pub drained_is : (n : ℕ) → n ≡ length h.morsels.slots → nat_eq n 0 ≡ is_drained p
  drained_is n e = ap (λ k. nat_eq k 0) e ∙ drained_by p.is_dropped refl

  pub over_dropped : h.is_dropped ≡ true → true ≡ is_over p
  over_dropped d = sym (ap (λ b. b || (p.is_closed && nat_eq (waiting p) 0)) (gone d))

  over-kept : h.is_dropped ≡ false → (b : Bool) → h.is_closed ≡ b → is_over p ≡ (b && nat_eq (waiting p) 0)
  over-kept d b c = ap (λ x. x || (p.is_closed && nat_eq (waiting p) 0)) (kept d) ∙ ap (λ x. x && nat_eq (waiting p) 0) (sym shown.closed ∙ c)

  pub over_open : h.is_dropped ≡ false → h.is_closed ≡ false → false ≡ is_over p
  over_open d c = sym (over-kept d false c)

  pub over_closed : h.is_dropped ≡ false → h.is_closed ≡ true → (n : ℕ) → n ≡ there h.morsels.slots → nat_eq n 0 ≡ is_over p
  over_closed d c n e = ap (λ k. nat_eq k 0) (e ∙ waits_is) ∙ sym (over-kept d true c)

  module _ (m : Numbered Frame) where
    within-more : (more : List (Option (List Row))) → p.next ≤ length (p.got ++ more)
    within-more more = let within = shown.within in omega (arith, length-append p.got more)

    tables-more : (more : List (Option (List Row))) → tables s (drop p.next (p.got ++ more)) ≡ tables s (drop p.next p.got) ++ tables s more
    tables-more more = ap (tables s) (drop-append-le p.next p.got more shown.within) ∙ map-append (option_map (table_of s)) (drop p.next p.got) more

    pub placed : h.is_dropped ≡ false → m ≡ with_free h.morsels → Shows s (with_place p) (holding h m)
    placed d is =
        record {
          within = within-more (None ∷ []);
          next = ap (λ (x : Numbered Frame). x.next) is ∙ shown.next;
          slots = ap (λ (x : Numbered Frame). x.slots) is ∙ ap (λ l. l ++ None ∷ []) (slots d) ∙ sym (tables-more (None ∷ [])) ∙ sym (slots_there s (with_place p) (kept d));
          in_phase = shown.in_phase;
          closed = shown.closed;
          dropped = shown.dropped;
        }

    pub pushed : (t : Frame) → h.is_dropped ≡ false → t.schema ≡ s → m ≡ with_last t h.morsels → Shows s (with_morsel t.rows p) (holding h m)
    pushed t d schema is =
        let q = record p { got = p.got ++ Some t.rows ∷ [] } in
        subst (λ b. Shows s (cond {A = Pipe} b p q) (holding h m)) (sym (kept d))
        (record {
          within = within-more (Some t.rows ∷ []);
          next = ap (λ (x : Numbered Frame). x.next) is ∙ shown.next;
          slots = ap (λ (x : Numbered Frame). x.slots) is ∙ ap (λ l. l ++ Some t ∷ []) (slots d) ∙ ap (λ x. tables s (drop p.next p.got) ++ Some x ∷ []) (sym (table_is s t schema)) ∙ sym (tables-more (Some t.rows ∷ [])) ∙ sym (slots_there s q (kept d));
          in_phase = shown.in_phase;
          closed = shown.closed;
          dropped = shown.dropped;
        })

    pub answered : (t : Frame) (number : ℕ) → h.is_dropped ≡ false → t.schema ≡ s → IsAwaited h.morsels number → m ≡ with_item number t h.morsels → Shows s (with_answer number t.rows p) (holding h m)
    answered t number d schema awaited is =
        let q = record p { got = set p.got number (Some t.rows) } in
        let behind : p.next ≤ number = subst (λ n. n ≤ number) shown.next awaited.0 in
        subst (λ b. Shows s (cond {A = Pipe} b p q) (holding h m)) (sym (kept d))
        (record {
          within = let within = shown.within in omega (arith, length-set p.got number (Some t.rows));
          next = ap (λ (x : Numbered Frame). x.next) is ∙ shown.next;
          slots = ap (λ (x : Numbered Frame). x.slots) is ∙ ap (λ l. set l (number - h.morsels.next) (Some t)) (slots d) ∙ ap (λ n. set (tables s (drop p.next p.got)) (number - n) (Some t)) shown.next ∙ ap (λ x. set (tables s (drop p.next p.got)) (number - p.next) (Some x)) (sym (table_is s t schema)) ∙ sym (set_is s p.next number p.got t.rows behind) ∙ sym (slots_there s q (kept d));
          in_phase = shown.in_phase;
          closed = shown.closed;
          dropped = shown.dropped;
        })

    pub record TakesFirst (t : Frame) : Type 0 where
      pub schema : t.schema ≡ s
      pub morsel : morsel_at p.next p.got ≡ Some t.rows
      pub shows : Shows s (taken p) (holding h m)

    taken-by : (t : Frame) → h.morsels.slots ≡ Some t ∷ m.slots → m.next ≡ h.morsels.next + 1 → (b : Bool) → p.is_dropped ≡ b → TakesFirst t
    taken-by t first number true d = let no : [] ≡ Some t ∷ m.slots = sym (shown.slots ∙ slots_gone s p d) ∙ first in absurd (cc)
    taken-by t first number false d =
        let found = first_of s p.next p.got t m.slots (sym (shown.slots ∙ slots_there s p d) ∙ first) in
        record {
          schema = found.schema;
          morsel = found.morsel;
          shows = record {
            within = found.within;
            next = number ∙ ap (λ n. n + 1) shown.next;
            slots = found.others ∙ sym (slots_there s (taken p) d);
            in_phase = shown.in_phase;
            closed = shown.closed;
            dropped = shown.dropped;
          };
        }

    pub taken_first : (t : Frame) → h.morsels.slots ≡ Some t ∷ m.slots → m.next ≡ h.morsels.next + 1 → TakesFirst t
    taken_first t first number = taken-by t first number p.is_dropped refl

    pub lost : m ≡ record h.morsels { slots = [] } → Shows s (dropped_pipe p) (record h { morsels = m; is_dropped = true })
    lost is =
        record {
          within = shown.within;
          next = ap (λ (x : Numbered Frame). x.next) is ∙ shown.next;
          slots = ap (λ (x : Numbered Frame). x.slots) is;
          in_phase = shown.in_phase;
          closed = shown.closed;
          dropped = refl;
        }

  -- What is dropped shows what comes to it no more.
  pub place_dropped : h.is_dropped ≡ true → Shows s (with_place p) h
  place_dropped d =
      record {
        within = let within = shown.within in omega (arith, length-append p.got (None ∷ []));
        next = shown.next;
        slots = shown.slots ∙ slots_gone s p (gone d) ∙ sym (slots_gone s (with_place p) (gone d));
        in_phase = shown.in_phase;
        closed = shown.closed;
        dropped = shown.dropped;
      }

  pub morsel_dropped : (rs : List Row) → h.is_dropped ≡ true → Shows s (with_morsel rs p) h
  morsel_dropped rs d = subst (λ b. Shows s (cond {A = Pipe} b p (record p { got = p.got ++ Some rs ∷ [] })) h) (sym (gone d)) shown

  pub answer_dropped : (number : ℕ) (rs : List Row) → h.is_dropped ≡ true → Shows s (with_answer number rs p) h
  answer_dropped number rs d = subst (λ b. Shows s (cond {A = Pipe} b p (record p { got = set p.got number (Some rs) })) h) (sym (gone d)) shown

  -- a number that was claimed, and whose answer isn't there yet
  pub awaited : (number : ℕ) → p.next ≤ number → slice_get p.got number ≡ Some None → h.is_dropped ≡ false → IsAwaited h.morsels number
  awaited number behind at d =
      subst (λ n. IsAwaited (record { next = n; slots = h.morsels.slots }) number) (sym shown.next)
      (behind, ap (λ l. slice_get l (number - p.next)) (slots d) ∙ awaited_is s p.next number p.got behind at)

pub not-true : (b : Bool) → not b ≡ true → b ≡ false
not-true false e = refl
not-true true e = absurd (let no : false ≡ true = e in cc)

pub not-false : (b : Bool) → not b ≡ false → b ≡ true
not-false true e = refl
not-false false e = absurd (let no : true ≡ false = e in cc)

module _ (h : Held) (m : Numbered Frame) (o : Option Frame) (took : MatchOption o ((begins h.morsels.slots ≡ false) × (m ≡ h.morsels)) (λ t. (h.morsels.slots ≡ Some t ∷ m.slots) × (m.next ≡ h.morsels.next + 1))) where
  pub nothing_next : IfNone o ((s : Fields) (p : Pipe) → Shows s p h → has_next p ≡ false)
  nothing_next = by o took
    where
      by : (q : Option Frame) → MatchOption q ((begins h.morsels.slots ≡ false) × (m ≡ h.morsels)) (λ t. (h.morsels.slots ≡ Some t ∷ m.slots) × (m.next ≡ h.morsels.next + 1)) → IfNone q ((s : Fields) (p : Pipe) → Shows s p h → has_next p ≡ false)
      by None e = λ s p shown. sym (first_is s p h shown) ∙ e.0
      by (Some t) e = tt

  pub first_taken : IfSome o (λ t. (s : Fields) (p : Pipe) (shown : Shows s p h) → TakesFirst s p h shown m t)
  first_taken = by o took
    where
      by : (q : Option Frame) → MatchOption q ((begins h.morsels.slots ≡ false) × (m ≡ h.morsels)) (λ t. (h.morsels.slots ≡ Some t ∷ m.slots) × (m.next ≡ h.morsels.next + 1)) → IfSome q (λ t. (s : Fields) (p : Pipe) (shown : Shows s p h) → TakesFirst s p h shown m t)
      by None e = tt
      by (Some t) e = λ s p shown. taken_first s p h shown m t e.0 e.1

-- a part of what holds of a value
pub of_some : {A : Type 0} (P Q : A → Type 0) → ((x : A) → P x → Q x) → (o : Option A) → IfSome o P → IfSome o Q
of_some P Q f None h = tt
of_some P Q f (Some x) h = f x h

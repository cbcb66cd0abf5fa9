-- The loops over a node's keys, one key more.
use Rattle.std.proofs.Common.{◌≡◌, ℕ, ◌+◌, ◌<◌, Bool, List, length, take, Option, Some, None, get_or, sym, subst, ◌∙◌}
use Rattle.std.specs.Prelude.{IsTrue, slice_get, slice_set}
use Rattle.keyed_slots.specs.Slots.{value_at}
use Rattle.ps_ports.specs.declared.port_state.PortState.{PortState}
use Rattle.ps_ports.specs.Phases.{is_one_of}
use Rattle.ps_graph.specs.declared.end.End.{End}
use Rattle.ps_graph.specs.declared.graph.LogicalPipe.{LogicalPipe}
use Rattle.ps_graph.specs.declared.key.LogicalPipeKey.{LogicalPipeKey}
use Rattle.ps_graph.specs.Ends.{AreAt, Told, TellsOne, other_state, place_at, says}
use Rattle.ps_graph.specs.Shown.{numbers}
use Rattle.ps_graph.proofs.Keys.{among_first, key_among, numbers-more}
use Rattle.ps_graph.proofs.Reading.{read_more}
use Rattle.ps_graph.proofs.Telling.{there_still, told_more}

module _ (end : End) (states : List PortState) (keys : List LogicalPipeKey) (i : ℕ) (d : LogicalPipeKey) (old mid : List (Option LogicalPipe)) (m m' : ℕ → Bool) (inside : i < length keys)
    (all : AreAt end (length states) (numbers keys) old) (so_far : Told end states (numbers (take i keys)) old mid m m') where
  first : (p : LogicalPipe) × (value_at old (get_or keys i d).0 ≡ Some p) × (place_at end p < length states)
  first = all (get_or keys i d).0 (key_among keys i d inside)

  still : (q : LogicalPipe) × (value_at mid (get_or keys i d).0 ≡ Some q) × (place_at end q < length states)
  still = there_still end states (numbers (take i keys)) old mid m m' (length states) so_far (get_or keys i d).0 first.0 first.1 first.2

  pub port_inside : (q : LogicalPipe) → value_at mid (get_or keys i d).0 ≡ Some q → place_at end q < length states
  port_inside q at =
      let same : still.0 ≡ q = (let both : Some still.0 ≡ Some q = sym still.1 ∙ at in cc) in
      subst (λ p. place_at end p < length states) same still.2

  pub never_none : value_at mid (get_or keys i d).0 ≡ None → ⊥
  never_none none = absurd (let clash : None ≡ Some still.0 = sym none ∙ still.1 in cc)

  pub tell_more : (q : LogicalPipe) (new : List (Option LogicalPipe)) (m'' : ℕ → Bool) → value_at mid (get_or keys i d).0 ≡ Some q → new ≡ slice_set mid (get_or keys i d).0 (Some (says end states q)) → TellsOne end states q m' m''
      → Told end states (numbers (take (i + 1) keys)) old new m m''
  tell_more q new m'' at write one =
      let more = told_more end states (numbers (take i keys)) (get_or keys i d).0 old mid new m m' m'' q so_far at (port_inside q at) write one first.0 first.1 in
      let P : List ℕ → Type 0 = λ ks. Told end states ks old new m m'' in
      subst P (sym (numbers-more keys i d inside)) more

-- reading, one key more
pub reads_more : (end : End) (slots : List (Option LogicalPipe)) (keys : List LogicalPipeKey) (i : ℕ) (d : LogicalPipeKey) (q : LogicalPipe) (items items' : List PortState) → i < length keys
    → ((j k : ℕ) (p r : LogicalPipe) → IsTrue (is_one_of j (numbers keys)) → IsTrue (is_one_of k (numbers keys)) → value_at slots j ≡ Some p → value_at slots k ≡ Some r → place_at end p ≡ place_at end r → other_state end p ≡ other_state end r)
    → value_at slots (get_or keys i d).0 ≡ Some q → place_at end q < length items → items' ≡ slice_set items (place_at end q) (other_state end q)
    → ((k : ℕ) (p : LogicalPipe) → IsTrue (is_one_of k (numbers (take i keys))) → value_at slots k ≡ Some p → slice_get items (place_at end p) ≡ Some (other_state end p))
    → (k : ℕ) (p : LogicalPipe) → IsTrue (is_one_of k (numbers (take (i + 1) keys))) → value_at slots k ≡ Some p → slice_get items' (place_at end p) ≡ Some (other_state end p)
reads_more end slots keys i d q items items' inside alike at room write so_far k p among there =
    let P : List ℕ → Type 0 = λ ks. IsTrue (is_one_of k ks) in
    read_more end slots (numbers (take i keys)) (get_or keys i d).0 q items items'
    (λ j r e f same. alike j (get_or keys i d).0 r q (among_first keys i j e) (key_among keys i d inside) f at same) at room write so_far k p (subst P (numbers-more keys i d inside) among) there

-- the pipe of a key is at one of the ports
pub key_inside : (end : End) (slots : List (Option LogicalPipe)) (keys : List LogicalPipeKey) (i ports : ℕ) (d : LogicalPipeKey) (q : LogicalPipe) → i < length keys → AreAt end ports (numbers keys) slots
    → value_at slots (get_or keys i d).0 ≡ Some q → place_at end q < ports
key_inside end slots keys i ports d q inside all at =
    let p = all (get_or keys i d).0 (key_among keys i d inside) in
    let same : p.0 ≡ q = (let both : Some p.0 ≡ Some q = sym p.1 ∙ at in cc) in
    subst (λ r. place_at end r < ports) same p.2

pub key_there : (end : End) (slots : List (Option LogicalPipe)) (keys : List LogicalPipeKey) (i ports : ℕ) (d : LogicalPipeKey) → i < length keys → AreAt end ports (numbers keys) slots → value_at slots (get_or keys i d).0 ≡ None → ⊥
key_there end slots keys i ports d inside all none = let p = all (get_or keys i d).0 (key_among keys i d inside) in absurd (let clash : None ≡ Some p.0 = sym none ∙ p.1 in cc)

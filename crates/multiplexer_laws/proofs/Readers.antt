-- Each port has one reader.
use Rattle.std.proofs.Common.{◌≡◌, ◌≢◌, ◌⊎◌, inl, inr, ℕ, ◌+◌, ◌<◌, ◌≤◌, Bool, true, false, get_or, List, [], ◌∷◌, ◌++◌, length, map, Option, Some, refl, sym, ap, subst, ◌∙◌, arith}
use Rattle.std.proofs.lemmas.List.{length-append}
use Rattle.std.proofs.lemmas.Bool.{eqb-false, eqb-true}
use Rattle.std.specs.Prelude.{flat_map, if◌then◌else◌, ◌==◌, ◌&&◌}
use Rattle.std.specs.List.{AllByRecursion}
use Rattle.ps_meaning.specs.Shape.{PhysicalKind, PhysicalNode, Shape, equi_join, filter_node, group_by_node, in_memory_join, in_memory_map, in_memory_sink, in_memory_source, independent_select, multiplexer, negative_slice, ordered_union, reduce, select_node, simple_projection, stream_map, streaming_slice, with_row_index, zip_node}
use Rattle.ps_meaning.specs.Sound.{HasOneReaderEach, HasReaders, readers_of, readers_of_port}
use Rattle.ps_multiplexers.proofs.Apart.{rewired-streams}
use Rattle.ps_multiplexers.proofs.Keeping.{node-left, number-place}
use Rattle.ps_multiplexers.specs.Multiplexers.{inputs_through, multiplexer_number, multiplexer_of, shared, times, walk_of, with_multiplexers}
use Rattle.ps_multiplexers.specs.Taken.{ReadsFirstPorts, numbers_from, streams_after, streams_of_nodes, takes}
use Rattle.ps_phys.specs.Walks.{Stream, node_at, numbers_of, numbers_read, place_in}
use Rattle.multiplexer_laws.specs.Shared.{IsOnlySink, ReadFirstPortsBefore, shared_shape}
use Rattle.multiplexer_laws.proofs.Counting.{apart_both, from_apart, from_first, in_from, numbers_append, stands_flat, takes_append, takes_total, times_none, times_stands, times_total, total, total_append, total_none, total_same, total_some}
use Rattle.multiplexer_laws.proofs.Leaving.{Reached, onward, start}
use Rattle.multiplexer_laws.proofs.Members.{Apart, Stands, front_or_more, no_stand, stands_here, stands_more, stands_left, stands_right, stands_split}
use Rattle.multiplexer_laws.proofs.Muxed.{IsMux, IsOriginal, ReadsBefore, after_length, all_below, base, base_low, base_reached, mux_reached, mux_reads, new_base, old_before, old_low, old_reached, reached_taken, several_low, several_read, taken_apart, taken_low, taken_reached, view}
use Rattle.multiplexer_laws.proofs.Numbered.{numbers_through, port_taken, times_through}
use Rattle.multiplexer_laws.proofs.Placed.{readers_are, readers_of_port_are}
use Rattle.multiplexer_laws.proofs.Shown.{Order, node_there, order_closed, order_is, order_once, order_within, is_ordered, reached_within, reads_at, shown_at}

-- the law of multiplexers: no stream is taken twice
abbrev pub NoneTwice : Type 0
NoneTwice = (nodes : Shape) (root : ℕ) → root < length nodes → ReadsFirstPorts nodes → (s : Stream) → takes s (streams_after root nodes) ≤ 1

-- a node that isn't a sink may have one reader, and one sink has none
has_one : (k : PhysicalKind) → (k ≡ in_memory_sink → ⊥) → HasReaders k 1
has_one (in_memory_source t) h = refl
has_one (select_node es extends) h = refl
has_one (with_row_index name offset) h = refl
has_one (independent_select es) h = refl
has_one (reduce es) h = refl
has_one (streaming_slice offset n) h = refl
has_one (negative_slice back n) h = refl
has_one (filter_node e) h = refl
has_one (simple_projection ns) h = refl
has_one in_memory_sink h = absurd (h refl)
has_one (in_memory_map step) h = refl
has_one (stream_map step) h = refl
has_one ordered_union h = refl
has_one (zip_node extend) h = refl
has_one multiplexer h = omega arith
has_one (group_by_node keys aggregates) h = refl
has_one (equi_join o) h = refl
has_one (in_memory_join o) h = refl

has_none : (k : PhysicalKind) → k ≡ in_memory_sink → HasReaders k 0
has_none k e = let P : PhysicalKind → Type 0 = λ x. HasReaders x 0 in subst P (sym e) refl

numbers_flat : (f : ℕ → List Stream) (ns : List ℕ) → numbers_of (flat_map f ns) ≡ flat_map (λ n. numbers_of (f n)) ns
numbers_flat f [] = refl
numbers_flat f (n ∷ ns) = numbers_append (f n) (flat_map f ns) ∙ ap (λ ms. numbers_of (f n) ++ ms) (numbers_flat f ns)

stands_streams : (nodes : Shape) (ns : List ℕ) (m : ℕ) → Stands m (numbers_of (streams_of_nodes nodes ns)) → (n : ℕ) × Stands n ns × Stands m (numbers_read nodes n)
stands_streams nodes ns m h = let P : List ℕ → Type 0 = λ ms. Stands m ms in stands_flat (λ n. numbers_read nodes n) ns m (subst P (numbers_flat (λ n. (node_at nodes n).inputs) ns) h)

-- a node whose first port alone is read
only_first : (k n : ℕ) (ss : List Stream) → AllByRecursion (λ (s : Stream). s.0 < k → s.1 ≡ 0) ss → n < k → times n (numbers_of ss) ≡ takes (n, 0) ss
only_first k n [] a h = refl
only_first k n (s ∷ ss) a h = by (s.0 == n) refl (s.1 == 0) refl (only_first k n ss a.1 h)
  where
    by : (b : Bool) → s.0 == n ≡ b → (c : Bool) → s.1 == 0 ≡ c → times n (numbers_of ss) ≡ takes (n, 0) ss → (if b then 1 else 0) + times n (numbers_of ss) ≡ (if b && c then 1 else 0) + takes (n, 0) ss
    by true e true f rest = ap (λ k. 1 + k) rest
    by true e false f rest = let P : ℕ → Type 0 = λ x. x < k in absurd (eqb-false (s.1) 0 f (a.0 (subst P (sym (eqb-true s.0 n e)) h)))
    by false e c f rest = ap (λ k. 0 + k) rest

firsts_joined : (k : ℕ) (xs ys : List Stream) → AllByRecursion (λ (s : Stream). s.0 < k → s.1 ≡ 0) xs → AllByRecursion (λ (s : Stream). s.0 < k → s.1 ≡ 0) ys → AllByRecursion (λ (s : Stream). s.0 < k → s.1 ≡ 0) (xs ++ ys)
firsts_joined k [] ys a b = b
firsts_joined k (x ∷ xs) ys a b = (a.0, firsts_joined k xs ys a.1 b)

low_firsts : (k : ℕ) (is : List Stream) → ((m : ℕ) → Stands m (numbers_of is) → m < k) → (n : ℕ) → AllByRecursion (λ (i : Stream). (i.0 < n) × (i.1 ≡ 0)) is → AllByRecursion (λ (i : Stream). (i.0 < k) × (i.1 ≡ 0)) is
low_firsts k [] h n a = tt
low_firsts k (i ∷ is) h n a = ((h i.0 (stands_here i.0 i.0 (numbers_of is) refl), a.0.1), low_firsts k is (λ m e. h m (stands_more m i.0 (numbers_of is) e)) n a.1)

module _ (once : NoneTwice) (nodes : Shape) (root : ℕ) (low : root < length nodes) (reads : (n : ℕ) → ReadsBefore n (node_at nodes n)) where
  abbrev news : ℕ → List ℕ
  news n = numbers_read (with_multiplexers root nodes) n

  abbrev order : List ℕ
  order = Order nodes root low reads

  abbrev after : Shape
  after = with_multiplexers root nodes

  abbrev muxes : List ℕ
  muxes = numbers_from (length nodes) (length (shared nodes root))

  abbrev everything : List ℕ
  everything = walk_of nodes root ++ muxes

  all_reached : (n : ℕ) → Stands n everything → Reached news root n
  all_reached n h = by (stands_split n (walk_of nodes root) muxes h)
    where
      new : length nodes ≤ n → IsOriginal nodes root low reads n ⊎ IsMux nodes root low reads n → Reached news root n
      new l (inl o) = let k = o.within in absurd (omega (arith, l, k))
      new l (inr x) = mux_reached nodes root low reads n x

      by : Stands n (walk_of nodes root) ⊎ Stands n muxes → Reached news root n
      by (inl e) = old_reached nodes root low reads n (taken_reached nodes root low reads n e)
      by (inr e) =
          let r = from_first (length nodes) (length (shared nodes root)) n e in
          let l = r.1 in
          let long = after_length nodes root low reads in
          new r.0 (view nodes root low reads n (omega (arith, l, long)))

  reached_all : (n : ℕ) → Reached news root n → Stands n everything
  reached_all n r = by (view nodes root low reads n (reached_within nodes root low reads n r))
    where
      by : IsOriginal nodes root low reads n ⊎ IsMux nodes root low reads n → Stands n everything
      by (inl o) =
          let P : ℕ → Type 0 = λ y. Reached (λ m. numbers_read nodes m) root y in
          stands_left n (walk_of nodes root) muxes (reached_taken nodes root low reads n (subst P (base_low nodes root low reads n o.within) (base_reached nodes root low reads n r)))
      by (inr x) = let at = x.at in let l = x.within in stands_right n (walk_of nodes root) muxes (in_from (length nodes) (length (shared nodes root)) n (omega (arith, at)) (omega (arith, at, l)))

  all_apart : Apart everything
  all_apart = apart_both (walk_of nodes root) muxes (taken_apart nodes root low reads) (from_apart (length nodes) (length (shared nodes root))) (λ n h e. (let a = taken_low nodes root low reads n h in let b = (from_first (length nodes) (length (shared nodes root)) n e).0 in omega (arith, a, b)))

  same_total : (w : ℕ → ℕ) → total w order ≡ total w (walk_of nodes root) + total w muxes
  same_total w =
      total_same w order everything (order_once nodes root low reads) all_apart (λ n h. reached_all n (order_is nodes root low reads n h)) (λ n h. is_ordered nodes root low reads n (all_reached n h))
      ∙ total_append w (walk_of nodes root) muxes

  abbrev shown_streams : List Stream
  shown_streams = streams_of_nodes after order

  abbrev walk_streams : List Stream
  walk_streams = streams_of_nodes after (walk_of nodes root)

  takes_both : (s : Stream) → takes s shown_streams ≡ takes s walk_streams + takes s (streams_of_nodes after muxes)
  takes_both s =
      let f : ℕ → List Stream = λ n. (node_at after n).inputs in
      takes_total s f order ∙ same_total (λ n. takes s (f n)) ∙ (λ i. sym (takes_total s f (walk_of nodes root)) i + sym (takes_total s f muxes) i)

  firsts : ReadsFirstPorts nodes
  firsts n = low_firsts (length nodes) (node_at nodes n).inputs (old_low nodes root low reads n) n (reads n)

  at_most_once : (s : Stream) → takes s shown_streams ≤ 1
  at_most_once s =
      let l = once nodes root low firsts s in
      let e = takes_both s in
      let j = takes_append s walk_streams (streams_of_nodes after muxes) in
      omega (arith, l, e, j)

  times_is : (n : ℕ) (ns : List ℕ) → times n (numbers_of (streams_of_nodes after ns)) ≡ total (λ m. times n (news m)) ns
  times_is n ns = times_total n (λ m. (node_at after m).inputs) ns

  reader : (n : ℕ) → Reached news root n → (n ≡ root) ⊎ ((m : ℕ) × Stands m order × Stands n (news m))
  reader _ start = inl refl
  reader n (onward {n = m} r h) = inr (m, is_ordered nodes root low reads m r, h)

  is_read : (n : ℕ) → Stands n order → n ≢ root → 1 ≤ times n (numbers_of shown_streams)
  is_read n h other = by (reader n (order_is nodes root low reads n h))
    where
      by : (n ≡ root) ⊎ ((m : ℕ) × Stands m order × Stands n (news m)) → 1 ≤ times n (numbers_of shown_streams)
      by (inl is) = absurd (other is)
      by (inr (m, there, reads_n)) =
          let e = times_is n order in
          let one = times_stands n (news m) reads_n in
          let l = total_some (λ x. times n (news x)) order m there in
          omega (arith, e, one, l)

  -- a node that stood before
  node_firsts : (n : ℕ) → n < length after → AllByRecursion (λ (s : Stream). s.0 < length nodes → s.1 ≡ 0) (node_at after n).inputs
  node_firsts n h = by (view nodes root low reads n h)
    where
      by : IsOriginal nodes root low reads n ⊎ IsMux nodes root low reads n → AllByRecursion (λ (s : Stream). s.0 < length nodes → s.1 ≡ 0) (node_at after n).inputs
      by (inl o) = o.firsts
      by (inr x) = let P : PhysicalNode → Type 0 = λ p. AllByRecursion (λ (s : Stream). s.0 < length nodes → s.1 ≡ 0) p.inputs in subst P (sym x.node) ((λ l. refl), tt)

  all_firsts : (ns : List ℕ) → ((n : ℕ) → Stands n ns → n < length after) → AllByRecursion (λ (s : Stream). s.0 < length nodes → s.1 ≡ 0) (streams_of_nodes after ns)
  all_firsts [] h = tt
  all_firsts (n ∷ ns) h =
      firsts_joined (length nodes) (node_at after n).inputs (streams_of_nodes after ns) (node_firsts n (h n (stands_here n n ns refl))) (all_firsts ns (λ m e. h m (stands_more m n ns e)))

  first_read : (n : ℕ) → n < length nodes → times n (numbers_of shown_streams) ≡ takes (n, 0) shown_streams
  first_read n h = only_first (length nodes) n shown_streams (all_firsts order (order_within nodes root low reads)) h

  once_read : (n : ℕ) → Stands n order → n < length nodes → n ≢ root → times n (numbers_of shown_streams) ≡ 1
  once_read n h l other =
      let a = is_read n h other in
      let b = at_most_once (n, 0) in
      let e = first_read n l in
      omega (arith, a, b, e)

  -- nothing reads the root
  most : (n : ℕ) → Reached (λ m. numbers_read nodes m) root n → n ≤ root
  most _ start = omega arith
  most m (onward {n = n} r h) = let l = most n r in let k = old_before nodes root low reads n m h in omega (arith, l, k)

  root_unread : (m : ℕ) → Stands m order → Stands root (news m) → ⊥
  root_unread m h e = by (view nodes root low reads m (order_within nodes root low reads m h))
    where
      only : (k : ℕ) → (k ≡ root) ⊎ Stands root [] → k ≡ root
      only k (inl is) = is
      only k (inr w) = cc

      by : IsOriginal nodes root low reads m ⊎ IsMux nodes root low reads m → ⊥
      by (inl o) =
          let P : ℕ → Type 0 = λ y. Reached (λ x. numbers_read nodes x) root y in
          let l = most m (subst P (base_low nodes root low reads m o.within) (base_reached nodes root low reads m (order_is nodes root low reads m h))) in
          let k = old_before nodes root low reads m (base nodes root low reads root) (new_base nodes root low reads m root o e) in
          let is = base_low nodes root low reads root low in
          omega (arith, l, k, is)
      by (inr x) =
          let P : List ℕ → Type 0 = λ ns. Stands root ns in
          let b = base nodes root low reads m in
          let is = only b (front_or_more root b [] (subst P (mux_reads nodes root low reads m x) e)) in
          let r = several_read nodes root low reads b x.is_read in
          let l = most r.0 (taken_reached nodes root low reads r.0 r.1) in
          let k = old_before nodes root low reads r.0 b r.2 in
          omega (arith, l, k, is)

  never_read : times root (numbers_of shown_streams) ≡ 0
  never_read = times_none root (numbers_of shown_streams) (no_stand root (numbers_of shown_streams) (λ h. (let r = stands_streams after order root h in root_unread r.0 r.1 r.2)))

  -- a multiplexer
  abbrev numbered : ℕ → Option ℕ
  numbered = multiplexer_number (length nodes) (shared nodes root)

  abbrev behind : Shape
  behind = map (multiplexer_of nodes) (shared nodes root)

  abbrev before_streams : List Stream
  before_streams = streams_of_nodes (nodes ++ behind) (walk_of nodes root)

  walk_is : walk_streams ≡ inputs_through numbered [] before_streams
  walk_is =
      let longer = length-append nodes behind in
      rewired-streams numbered (walk_of nodes root) [] (nodes ++ behind) (taken_apart nodes root low reads) (all_below (length (nodes ++ behind)) (walk_of nodes root) (λ m h. (let l = taken_low nodes root low reads m h in omega (arith, l, longer))))

  before_low : (m : ℕ) → Stands m (numbers_of before_streams) → m < length nodes
  before_low m h =
      let r = stands_streams (nodes ++ behind) (walk_of nodes root) m h in
      let P : PhysicalNode → Type 0 = λ p. Stands m (numbers_of p.inputs) in
      old_low nodes root low reads r.0 m (subst P (node-left nodes behind r.0 (taken_low nodes root low reads r.0 r.1)) r.2)

  module _ (n : ℕ) (x : IsMux nodes root low reads n) where
    abbrev q : ℕ
    q = base nodes root low reads n

    above : length nodes ≤ n
    above = let at = x.at in omega (arith, at)

    only_its : (y : ℕ) → numbered y ≡ Some n → y ≡ q
    only_its y e =
        let a = number-place nodes (length nodes) (shared nodes root) y n e in
        let b = number-place nodes (length nodes) (shared nodes root) q n x.numbered in
        let i = a.1 in
        let j = b.1 in
        let same : a.0 ≡ b.0 = omega (arith, i, j) in
        sym a.4 ∙ ap (λ k. get_or (shared nodes root) k 0) same ∙ b.4

    mux_unread : (m : ℕ) → Stands m muxes → times n (news m) ≡ 0
    mux_unread m h = by (view nodes root low reads m (let l = r.1 in let long = after_length nodes root low reads in omega (arith, l, long)))
      where
        r : (length nodes ≤ m) × (m < length nodes + length (shared nodes root))
        r = from_first (length nodes) (length (shared nodes root)) m h

        by : IsOriginal nodes root low reads m ⊎ IsMux nodes root low reads m → times n (news m) ≡ 0
        by (inl o) = let k = o.within in let l = r.0 in absurd (omega (arith, l, k))
        by (inr y) =
            let b = base nodes root low reads m in
            let l = several_low nodes root low reads b y.is_read in
            let up = above in
            ap (λ ns. times n ns) (mux_reads nodes root low reads m y) ∙ times_none n (b ∷ []) (no_stand n (b ∷ []) (λ e. apart b l up (front_or_more n b [] e)))
          where
            apart : (b : ℕ) → b < length nodes → length nodes ≤ n → (b ≡ n) ⊎ Stands n [] → ⊥
            apart b l up (inl is) = omega (arith, is, l, up)
            apart b l up (inr w) = cc

    readers_counted : times n (numbers_of shown_streams) ≡ times q (numbers_of before_streams)
    readers_counted =
        let new = no_stand n (numbers_of before_streams) (λ e. (let l = before_low n e in let up = above in omega (arith, l, up))) in
        let walked : times n (numbers_of walk_streams) ≡ times q (numbers_of before_streams) = ap (λ (ss : List Stream). times n (numbers_of ss)) walk_is ∙ ap (λ ns. times n ns) (numbers_through numbered [] before_streams) ∙ times_through numbered q n x.numbered only_its (numbers_of before_streams) new in
        let none = total_none (λ m. times n (news m)) muxes mux_unread in
        let a = times_is n order in
        let b = same_total (λ m. times n (news m)) in
        let c = times_is n (walk_of nodes root) in
        omega (arith, walked, none, a, b, c)

    port_read : (port : ℕ) → port < times n (numbers_of shown_streams) → takes (n, port) shown_streams ≡ 1
    port_read port h =
        let e = readers_counted in
        let l = port_taken numbered q n x.numbered port [] before_streams (omega arith) (omega (arith, h, e)) in
        let is = ap (λ (ss : List Stream). takes (n, port) ss) walk_is in
        let both = takes_both (n, port) in
        let most = at_most_once (n, port) in
        omega (arith, l, is, both, most)

  module _ (sink : IsOnlySink root nodes) where
    abbrev place : ℕ → ℕ
    place n = place_in order n

    shape_count : (n : ℕ) → Stands n order → readers_of (shared_shape nodes root) (place n) ≡ times n (numbers_of shown_streams)
    shape_count n h = readers_are order after n h (order_closed nodes root low reads)

    shape_port : (n : ℕ) → Stands n order → (port : ℕ) → readers_of_port (shared_shape nodes root) (place n) port ≡ takes (n, port) shown_streams
    shape_port n h port = readers_of_port_are order after n h (order_closed nodes root low reads) port

    -- of a node of the order
    abbrev Counted : ℕ → PhysicalKind → Type 0
    Counted n kind = HasReaders kind (times n (numbers_of shown_streams)) × ((port : ℕ) → port < times n (numbers_of shown_streams) → takes (n, port) shown_streams ≡ 1)

    counted : (n : ℕ) → Stands n order → Counted n (node_at after n).kind
    counted n h = by (view nodes root low reads n (order_within nodes root low reads n h))
      where
        original : IsOriginal nodes root low reads n → (b : Bool) → n == root ≡ b → Counted n (node_at after n).kind
        original o true e =
            let is : n ≡ root = eqb-true n root e in
            let none : times n (numbers_of shown_streams) ≡ 0 = ap (λ y. times y (numbers_of shown_streams)) is ∙ never_read in
            let K : PhysicalKind → Type 0 = λ k. HasReaders k (times n (numbers_of shown_streams)) in
            let H : ℕ → Type 0 = λ c. HasReaders (node_at nodes n).kind c in
            (subst K (sym o.kind) (subst H (sym none) (has_none (node_at nodes n).kind ((sink n (node_at nodes n) (node_there nodes n o.within)).1 is))), λ port l. absurd (omega (arith, l, none)))
        original o false e =
            let other : n ≢ root = eqb-false n root e in
            let one = once_read n h o.within other in
            let K : PhysicalKind → Type 0 = λ k. HasReaders k (times n (numbers_of shown_streams)) in
            let H : ℕ → Type 0 = λ c. HasReaders (node_at nodes n).kind c in
            let P : ℕ → Type 0 = λ port. takes (n, port) shown_streams ≡ 1 in
            let first : takes (n, 0) shown_streams ≡ 1 = sym (first_read n o.within) ∙ one in
            (subst K (sym o.kind) (subst H (sym one) (has_one (node_at nodes n).kind (λ s. other ((sink n (node_at nodes n) (node_there nodes n o.within)).0 s)))), λ port l. (let z : 0 ≡ port = omega (arith, l, one) in subst P z first))

        by : IsOriginal nodes root low reads n ⊎ IsMux nodes root low reads n → Counted n (node_at after n).kind
        by (inl o) = original o (n == root) refl
        by (inr x) =
            let K : PhysicalKind → Type 0 = λ k. HasReaders k (times n (numbers_of shown_streams)) in
            let at = x.at in
            (subst K (sym (ap (λ (p : PhysicalNode). p.kind) x.node)) (is_read n h (λ is. (omega (arith, at, is, low)))), port_read n x)

    pub one_reader_each : HasOneReaderEach (shared_shape nodes root)
    one_reader_each i p e =
        let s = shown_at nodes root low reads i p e in
        let c = counted s.number s.stands in
        let K : PhysicalKind → Type 0 = λ k. HasReaders k (readers_of (shared_shape nodes root) i) in
        let C : ℕ → Type 0 = λ k. HasReaders (node_at after s.number).kind k in
        let count : readers_of (shared_shape nodes root) i ≡ times s.number (numbers_of shown_streams) = ap (λ j. readers_of (shared_shape nodes root) j) s.at ∙ shape_count s.number s.stands in
        record {
          readers = subst K (sym (ap (λ (x : PhysicalNode). x.kind) s.node)) (subst C (sym count) c.0);
          one_reader = λ port l. ap (λ j. readers_of_port (shared_shape nodes root) j port) s.at ∙ shape_port s.number s.stands port ∙ c.1 port (omega (arith, l, count));
        }

pub each_port : NoneTwice → (nodes : Shape) (root : ℕ) → root < length nodes → ReadFirstPortsBefore nodes → IsOnlySink root nodes → HasOneReaderEach (shared_shape nodes root)
each_port once nodes root low each sink = one_reader_each once nodes root low (reads_at nodes each) sink

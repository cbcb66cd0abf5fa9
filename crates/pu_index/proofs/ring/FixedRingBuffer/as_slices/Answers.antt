use Rattle.std.proofs.Common.{◌-◌, ◌++◌, take, drop, sym, ap, ◌∙◌, inl, inr, arith, append-nil, length-drop, take_all, take-append-drop}
use Rattle.pu_index.specs.RingLaid.{ring_items}
use Rattle.pu_index.proofs.Places.{same_values}
use Rattle.pu_index.proofs.Rings.{row}
use Rattle.pu_index.proofs.ring.FixedRingBuffer.as_slices.Goals as goal

pub slice-requires : goal.slice-requires
slice-requires g c =
    let r = c.self.inside in let h = c.self.invariant in let long = h.places.0 in let sn = h.start.0 in let short = c.if-self-to_end.true in
    (omega arith, (take r.len (drop 0 (ring_items r)), row r h r.start r.len 0 (omega arith) (omega arith) (inl (omega arith))))

pub slice-requires-else-self-to_end : goal.slice-requires-else-self-to_end
slice-requires-else-self-to_end g c =
    let r = c.self.inside in let h = c.self.invariant in let long = h.places.0 in let sn = h.start.0 in let wide = c.if-self-to_end.false in let t = r.capacity - r.start in
    (omega arith, (take t (drop 0 (ring_items r)), row r h r.start t 0 (omega arith) (omega arith) (inl (omega arith))))

pub slice-requires-else-self-to_end-2 : goal.slice-requires-else-self-to_end-2
slice-requires-else-self-to_end-2 g c =
    let r = c.self.inside in let h = c.self.invariant in let fits = h.len.0 in let long = h.places.0 in let sn = h.start.0 in let wide = c.if-self-to_end.false in let t = r.capacity - r.start in
    (omega arith, (take (r.len - t) (drop t (ring_items r)), row r h 0 (r.len - t) t (omega arith) (omega arith) (inr (omega arith))))

pub returns-then-self-to_end : goal.returns-then-self-to_end
returns-then-self-to_end g c =
    let r = c.self.inside in let h = c.self.invariant in let count = h.len.1 in let sn = h.start.0 in let short = c.if-self-to_end.true in let xs = ring_items r in
    let all = same_values c.slice.result.now (take r.len (drop 0 xs)) (sym c.slice.ensures ∙ row r h r.start r.len 0 (omega arith) (omega arith) (inl (omega arith))) in
    append-nil c.slice.result.now ∙ all ∙ take_all r.len xs (omega arith) ∙ ap (λ s. s.items) c.self.view_is

pub returns-else-self-to_end : goal.returns-else-self-to_end
returns-else-self-to_end g c =
    let r = c.self.inside in let h = c.self.invariant in let fits = h.len.0 in let count = h.len.1 in let sn = h.start.0 in let wide = c.if-self-to_end.false in let xs = ring_items r in let t = r.capacity - r.start in
    let front = same_values c.slice-else-self-to_end.result.now (take t (drop 0 xs)) (sym c.slice-else-self-to_end.ensures ∙ row r h r.start t 0 (omega arith) (omega arith) (inl (omega arith))) in
    let back = same_values c.slice-else-self-to_end-2.result.now (take (r.len - t) (drop t xs)) (sym c.slice-else-self-to_end-2.ensures ∙ row r h 0 (r.len - t) t (omega arith) (omega arith) (inr (omega arith))) in
    (λ k. front k ++ (back ∙ take_all (r.len - t) (drop t xs) (omega (arith, length-drop t xs))) k) ∙ take-append-drop t xs ∙ ap (λ s. s.items) c.self.view_is

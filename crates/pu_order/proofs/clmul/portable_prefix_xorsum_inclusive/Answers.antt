use Rattle.pu_order.proofs.Carryless.{IsWindow, IsWindow-one, IsWindow-twice, IsWindow-all}
use Rattle.pu_order.proofs.clmul.portable_prefix_xorsum_inclusive.Goals as goal

pub returns : goal.returns
returns c =
    let x = c.args.x in
    let w2 : IsWindow x c.xor_shifted-x.result 2 = rw c.xor_shifted-x.ensures (IsWindow-twice x x 1 (IsWindow-one x)) in
    let w4 : IsWindow x c.xor_shifted-x-2.result 4 = rw c.xor_shifted-x-2.ensures (IsWindow-twice x c.xor_shifted-x.result 2 w2) in
    let w8 : IsWindow x c.xor_shifted-x-3.result 8 = rw c.xor_shifted-x-3.ensures (IsWindow-twice x c.xor_shifted-x-2.result 4 w4) in
    let w16 : IsWindow x c.xor_shifted-x-4.result 16 = rw c.xor_shifted-x-4.ensures (IsWindow-twice x c.xor_shifted-x-3.result 8 w8) in
    let w32 : IsWindow x c.xor_shifted-x-5.result 32 = rw c.xor_shifted-x-5.ensures (IsWindow-twice x c.xor_shifted-x-4.result 16 w16) in
    let w64 : IsWindow x c.xor_shifted.result 64 = rw c.xor_shifted.ensures (IsWindow-twice x c.xor_shifted-x-5.result 32 w32) in
    IsWindow-all x c.xor_shifted.result w64

use Rattle.std.proofs.Common.{◌≡◌, ◌+◌, ◌-◌, ◌≤◌, length, sym, ap, ◌∙◌, arith}
use borrow.Rule.Slice.PartMut.{put_mid, mid_of, mid_len}
use Rattle.buffers.proofs.Each.{copy_whole}
use Rattle.buffers.proofs.Replace.{part_back}
use Rattle.kcs.proofs.rows.put_response.Goals as goal

pub returns : goal.returns
returns c =
    let ys = c.args.response.now in
    let xs = c.args.port.now in
    let fits : 72 + length ys ≤ length xs = omega (arith, c.told-port, c.requires) in
    let count : 72 + length ys - 72 ≡ length ys = omega arith in
    let room : length (mid_of 72 (72 + length ys - 72) xs) ≡ length ys = mid_len 72 (72 + length ys) xs fits ∙ count in
    let whole = c.copy.ensures ∙ copy_whole (mid_of 72 (72 + length ys - 72) xs) ys (sym room) in
    ap (put_mid 72 (72 + length ys - 72) xs) whole ∙ part_back 72 (72 + length ys) xs ys (omega arith) (sym count)

use Rattle.std.proofs.Common.{◌≡◌, length, map, replicate, false, rules}
use Rattle.bf_marks.specs.Wishes.{is_refine}
use Rattle.bf_marks.proofs.KnownLemmas.{started}
use Rattle.bf_marks.proofs.known.Known.start.Goals as goal

pub returns : goal.returns
returns c =
    let n = length c.args.leaves.now in
    let refined : c.of_own.result.own.items ≡ map is_refine c.args.wishes.now = rw c.of_own.ensures.own c.in_ok-refined.ensures in
    let may : c.in_ok-may.may.items ≡ replicate n false = search rules in
    let merging : c.in_ok-merging.merging.items ≡ replicate n false = search rules in
    started c.in_ok-from_slice.field-0.items c.args.leaves.now c.args.wishes.now c.in_ok-coarser.coarser.items c.of_own.result c.of_own-2.result c.of_own-3.result n
    c.in_ok-from_slice.ensures.items c.in_ok-coarser.ensures refined c.of_own.ensures.heard (rw c.of_own-2.ensures.own may) c.of_own-2.ensures.heard (rw c.of_own-3.ensures.own merging) c.of_own-3.ensures.heard

use Rattle.std.proofs.Common.{◌≡◌, ◌==◌, ◌<◌, ◌∙◌, cond, refl, sym, ℕ, Bool, List, length, get_or, subst, ap, arith}
use Rattle.std.proofs.lemmas.List.{length-set}
use Rattle.bf_id.specs.Id.{BlockId, level_of}
use Rattle.bf_case.specs.Refinement.{is_among}
use Rattle.bf_marks.specs.Rounds.{octet_may}
use Rattle.bf_marks.proofs.ChosenLemmas.{Said, chosen_filtered, said_all, said_more}
use Rattle.bf_marks.proofs.rounds.mark_merging.Goals as goal

pub returns-clause-marks : goal.returns-clause-marks
returns-clause-marks c =
    let m = c.args.known.now in
    let flags = c.loop-place.next.items in
    let test : BlockId → Bool = λ i. cond (level_of i == c.args.level) (octet_may m.may i) (is_among m.merging.own i) in
    let end : c.loop-place.place ≡ length m.leaves = omega (arith, ap length c.leaves-id-items.ensures.leaves) in
    let said : Said (λ i leaf. test i) m.leaves m.leaves flags (length m.leaves) =
    subst (λ (n : ℕ). Said (λ i (leaf : BlockId). test i) m.leaves m.leaves flags n) end c.loop-place.invariant.said in
    said_all (λ i leaf. test i) m.leaves m.leaves flags refl c.loop-place.invariant.room said ∙ chosen_filtered test m.leaves m.leaves refl

pub loop-place-preserved : goal.loop-place-preserved
loop-place-preserved c =
    let m = c.args.known.now in
    let flags = c.loop-place.next.items in
    let place = c.loop-place.place in
    let leaf = c.id-item.result in
    let test : BlockId → Bool = λ i. cond (level_of i == c.args.level) (octet_may m.may i) (is_among m.merging.own i) in
    let within : place < length m.leaves = omega (arith, ap length c.leaves-id-items.ensures.leaves, c.loop-place-test.true) in
    let here : get_or m.leaves place leaf ≡ leaf = sym (subst (λ (ids : List BlockId). leaf ≡ get_or ids place leaf) c.leaves-id-items.ensures.leaves c.id-item.is) in
    record {
      room = length-set flags place c.merges_after.result ∙ c.loop-place.invariant.room;
      said = said_more (λ i leaf. test i) m.leaves m.leaves flags place leaf leaf c.merges_after.result within within (omega (arith, c.loop-place.invariant.room)) here here
          c.merges_after.ensures c.loop-place.invariant.said;
    }

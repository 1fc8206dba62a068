use Rattle.std.proofs.Common.{rules, ◌≡◌, ◌<◌, ◌≤◌, ◌∙◌, List, [], ◌∷◌, ◌++◌, length, drop, ap, sym, subst, arith}
use Rattle.std.specs.Prelude.{IsPermutation}
use Rattle.std.specs.Vec.Iter.{into_iter_items}
use Rattle.std.proofs.lemmas.List.{take_all, take_at}
use Rattle.bf_migrate.specs.Lots.{cargo_id, AreLots, AreBlocksOf}
use Rattle.bf_proxy.specs.declared.proxy.Proxy.{Proxy}
use Rattle.bf_migrate.proofs.LotLemmas.{lots_next, blocks_next}
use Rattle.bf_migrate.proofs.OrderLemmas.{sorted_is}
use Rattle.bf_migrate.proofs.assembling.assemble.Goals as goal

pub loop-init : goal.loop-init
loop-init c = λ case time makes.
    let whole : into_iter_items c.into_iter-cargo.result ≡ c.sort.new.cargo =
    c.into_iter-cargo.ensures.rest ∙ take_at c.sort.new.cargo (drop (length c.sort.new.cargo) c.args.cargo.items) c.args.cargo.len (c.sort.ensures.len ∙ ap length c.as_mut_slice.ensures.value ∙ sym c.args.cargo.ok.0) in
    let moved : IsPermutation c.args.cargo.items c.sort.new.cargo = search rules in
    let ordered : c.sort.new.cargo ≡ makes.ordered = sorted_is cargo_id c.args.cargo.items c.sort.new.cargo makes.ordered moved c.sort.ensures.rising makes.same makes.rising in
    (subst (AreLots case time c.args.proxies.now) (sym (whole ∙ ordered)) makes.lots, c.in_ok-blocks.ensures.items)

pub next_block-requires : goal.next_block-requires
next_block-requires c =
    let case = c.requires.0 in
    let time = c.requires.1.0 in
    let below : c.loop.index < length c.args.proxies.now = c.loop-test.true in
    let next = lots_next case time c.args.proxies.now c.loop.index c.loop-item.result (into_iter_items c.loop.cargo) below (c.loop.invariant case time c.requires.1.1).0 in
    (case, (time, (_, (next.0, (next.1.0, (next.1.1.1.0, next.1.1.0))))))

pub loop-preserved : goal.loop-preserved
loop-preserved c = λ case time makes.
    let proxies = c.args.proxies.now in
    let below : c.loop.index < length proxies = c.loop-test.true in
    let so_far = c.loop.invariant case time makes in
    let next = lots_next case time proxies c.loop.index c.loop-item.result (into_iter_items c.loop.cargo) below so_far.0 in
    let given = c.in_ok-next_block.ensures case time _ next.0 next.1.0 next.1.1.1.0 next.1.1.0 in
    let pushed : c.push.new.self.items ≡ c.loop.blocks.items ++ c.in_ok-next_block.field-0 ∷ [] = search rules in (
      subst (AreLots case time _) (sym given.1) next.1.1.1.1,
      blocks_next case time proxies c.loop.index c.loop-item.result c.loop.blocks.items c.push.new.self.items c.in_ok-next_block.field-0 below so_far.1 given.0 pushed,
    )

pub returns : goal.returns
returns c = λ case time makes.
    let all : length c.args.proxies.now ≤ c.loop.index = omega (arith, c.loop-test.false) in
    subst (λ (ps : List Proxy). AreBlocksOf case time ps c.loop.blocks.items) (take_all c.loop.index c.args.proxies.now all) (c.loop.invariant case time makes).1

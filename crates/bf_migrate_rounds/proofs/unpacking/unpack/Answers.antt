use Rattle.std.proofs.Common.{rules, ◌≡◌, List, ◌++◌, All, sym, ap, subst, ◌∙◌}
use Rattle.bf_block.specs.Block.{BlockValue, IsModels}
use Rattle.bf_block.specs.declared.cargo.Cargo.{Cargo}
use Rattle.bf_migrate.specs.Lots.{AreBlocksOf, Makes}
use Rattle.bf_proxy.specs.declared.proxy.Proxy.{Proxy}
use Rattle.bf_migrate_rounds.specs.Calls.{linked_to, IsKnown}
use Rattle.bf_migrate_rounds.specs.Holdings.{loads}
use Rattle.bf_migrate_rounds.proofs.CallLemmas.{unpacked_is}
use Rattle.bf_migrate_rounds.proofs.LotLemmas.{makes_of}
use Rattle.bf_migrate_rounds.proofs.unpacking.unpack.Goals as goal

pub assemble-requires : goal.assemble-requires
assemble-requires c =
    let can = c.requires in
    let proxies : List Proxy = c.args.proxies in
    let cargo : List Cargo = loads c.args.cargo.now ++ c.args.arrived.now in
    let on_hand : c.in_ok-parts.parts.items ≡ cargo = search rules in
    let shown : c.as_slice-2.result.now ≡ proxies = search rules in
    let makes : Makes can.0 can.1.0 c.as_slice-2.result.now c.in_ok-parts.parts.items =
    subst (λ (xs : List Cargo). Makes can.0 can.1.0 c.as_slice-2.result.now xs) (sym on_hand)
    (subst (λ (ps : List Proxy). Makes can.0 can.1.0 ps cargo) (sym shown) (makes_of can.0 can.1.0 proxies cargo can.1.1)) in
    (can.0, (can.1.0, makes))

pub returns-clause-blocks : goal.returns-clause-blocks
returns-clause-blocks c =
    let can = c.requires in
    let proxies : List Proxy = c.args.proxies in
    let cargo : List Cargo = loads c.args.cargo.now ++ c.args.arrived.now in
    let blocks : List BlockValue = c.in_ok-blocks.blocks.items in
    let on_hand : c.in_ok-parts.parts.items ≡ cargo = search rules in
    let all : c.into_vec-proxies.result.items ≡ proxies = search rules in
    let shown : c.as_slice-2.result.now ≡ proxies = search rules in
    let makes : Makes can.0 can.1.0 c.as_slice-2.result.now c.in_ok-parts.parts.items =
    subst (λ (xs : List Cargo). Makes can.0 can.1.0 c.as_slice-2.result.now xs) (sym on_hand)
    (subst (λ (ps : List Proxy). Makes can.0 can.1.0 ps cargo) (sym shown) (makes_of can.0 can.1.0 proxies cargo can.1.1)) in
    let are : AreBlocksOf can.0 can.1.0 proxies blocks = subst (λ (ps : List Proxy). AreBlocksOf can.0 can.1.0 ps blocks) shown (c.in_ok-blocks.ensures can.0 can.1.0 makes) in
    let known : All IsKnown cargo = subst (All IsKnown) (c.as_slice.ensures.value ∙ on_hand) c.all_parts_known.ensures in
    let models : All IsModels blocks = subst (All IsModels) c.as_slice-3.ensures.value c.all_known.ensures in
    let linked : c.of.result ≡ linked_to c.into_vec-proxies.result.items blocks = search rules in
    linked ∙ ap (λ (ps : List Proxy). linked_to ps blocks) all ∙ unpacked_is can.0 can.1.0 cargo proxies blocks can.1.1 known are models

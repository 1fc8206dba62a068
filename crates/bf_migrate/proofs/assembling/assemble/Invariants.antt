use Rattle.std.proofs.Common.{ℕ, take, drop}
use Rattle.std.specs.Vec.Iter.{into_iter_items}
use Rattle.bf_case.specs.declared.case.Case.{Case}
use Rattle.bf_migrate.specs.Lots.{AreBlocksOf, AreLots, Makes}
use Rattle.bf_migrate.proofs.assembling.assemble.Given as goal

abbrev pub invariant-loop : goal.invariant-loop
invariant-loop l = (c : Case) (time : ℕ) → Makes c time l.proxies l.fn.cargo.items
    → AreLots c time (drop l.index l.proxies) (into_iter_items l.cargo) × AreBlocksOf c time (take l.index l.proxies) l.blocks.items

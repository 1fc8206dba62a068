use Rattle.std.proofs.Common.{get_or}
use Rattle.std.proofs.lemmas.List.Elements.{All-contains, Contains-get_or}
use Rattle.bf_ghost.specs.Filling.{IsStripFor}
use Rattle.bf_ghost.proofs.laws.strips_come_in_any_order.Goals as goal

pub returns : goal.returns
returns c shape leaves i strips others are same = record {
  fit = λ k d within. All-contains (IsStripFor shape leaves i) strips (get_or others k d) are.fit ((same (get_or others k d)).1 (Contains-get_or others k d within));
  whole = λ leaf face has share. (same _).0 (are.whole leaf face has share);
}

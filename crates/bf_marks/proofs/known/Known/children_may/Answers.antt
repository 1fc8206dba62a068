use Rattle.std.proofs.Common.{◌≡◌, false, rules}
use Rattle.bf_id.specs.Id.{child_of}
use Rattle.bf_marks.specs.Flags.{is_flagged}
use Rattle.bf_marks.proofs.KnownLemmas.{child_fails}
use Rattle.bf_marks.proofs.known.Known.children_may.Goals as goal

pub returns-then-not-may_near : goal.returns-then-not-may_near
returns-then-not-may_near c =
    let fails : is_flagged c.args.self.now.may (child_of c.args.parent c.loop-octant.octant) ≡ false = search rules in
    child_fails (is_flagged c.args.self.now.may) c.args.parent c.loop-octant.octant c.loop-octant-test.true fails

use Rattle.std.proofs.Common.{◌∙◌, ap}
use Rattle.bf_buddy.specs.Members.{with_member}
use Rattle.bf_links.proofs.LinkLemmas.{owners_of-none, owners_of-more, owners_of-beyond}
use Rattle.bf_links.proofs.links.owners_of.Goals.{then-link-lt32, else-link-lt32}
use Rattle.bf_links.proofs.links.owners_of.Goals as goal

pub loop-link-init : goal.loop-link-init
loop-link-init c = c.all-owners.ensures ∙ owners_of-none

pub loop-link-preserved : goal.loop-link-preserved
loop-link-preserved c =
    elim c.if-link-lt32.branch [
      | then-link-lt32 w ↦ w.owners-is ∙ w.with-owners.ensures ∙ ap (λ members. with_member members c.link-item.result.owner) c.loop-link.invariant
          ∙ owners_of-more c.args.links.now c.loop-link.link-index c.link-item.result c.loop-link-test.true c.link-item.is
      | else-link-lt32 w ↦ w.owners-is ∙ c.loop-link.invariant
          ∙ owners_of-beyond c.args.links.now c.loop-link.link-index c.link-item.result c.loop-link-test.true c.link-item.is w.if-link-lt32.false
    ]

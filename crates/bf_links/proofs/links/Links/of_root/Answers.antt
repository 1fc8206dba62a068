use Rattle.std.proofs.Common.{sym, subst}
use Rattle.bf_links.specs.Links.{AreLinks}
use Rattle.bf_links.specs.Roots.{root_owner}
use Rattle.bf_links.proofs.RootLemmas.{root_links_are_links}
use Rattle.bf_links.proofs.links.Links.of_root.Goals as goal

pub links_with-requires : goal.links_with-requires
links_with-requires c =
    subst AreLinks (sym c.in_ok-items.ensures) (root_links_are_links c.args.shape (root_owner c.args.owners.now) c.args.root c.requires.domain c.requires.inside)

use Rattle.std.proofs.Common.{◌∙◌, ap}
use Rattle.bf_buddy.specs.Members.{is_member}
use Rattle.bf_links.specs.Links.{is_owner}
use Rattle.bf_links.proofs.LinkLemmas.{is_member-owners_of}
use Rattle.bf_links.proofs.links.Links.has_owner.Goals as goal

pub returns-then-rank-lt32 : goal.returns-then-rank-lt32
returns-then-rank-lt32 c =
    c.has.ensures
    ∙ ap (λ owners. is_member owners c.args.rank) c.self.invariant.told
    ∙ is_member-owners_of c.self.inside.items.items c.args.rank c.if-rank-lt32.true
    ∙ ap (λ links. is_owner links c.args.rank) c.self.view_is

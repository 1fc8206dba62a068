use Rattle.std.proofs.Common.{◌∙◌, ap, sym}
use Rattle.std.specs.Prelude.{unwrap_or}
use Rattle.bf_proxy_rounds.proofs.CallLemmas.{owner_first, owner_second}
use Rattle.bf_proxy_rounds.proofs.homes.linked_home.Goals as goal

pub returns-in-Some : goal.returns-in-Some
returns-in-Some c =
    sym (ap (λ o. unwrap_or o c.args.link.now.owner) (owner_first c.args.own.now c.args.heard.now c.args.link.now.id c.in-Some.home (sym c.in-Some.ensures)))

pub returns-in-None : goal.returns-in-None
returns-in-None c =
    c.unwrap_or.ensures
    ∙ ap (λ o. unwrap_or o c.args.link.now.owner) c.owner_in-in-None.ensures
    ∙ sym (ap (λ o. unwrap_or o c.args.link.now.owner) (owner_second c.args.own.now c.args.heard.now c.args.link.now.id (sym c.in-None.ensures)))

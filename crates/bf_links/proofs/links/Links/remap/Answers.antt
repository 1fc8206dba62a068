use Rattle.std.proofs.Common.{◌∙◌, ap, refl}
use Rattle.bf_program.specs.Restores.{heir_of}
use Rattle.bf_links.specs.Links.{owners_of, remapped}
use Rattle.bf_links.proofs.SearchLemmas.{all_remapped}
use Rattle.bf_links.proofs.links.Links.remap.Goals as goal

pub invariant_of-self : goal.invariant_of-self
invariant_of-self c = record {
  are = (all_remapped c.self.inside.items.items c.as_mut_slice.result.now c.remap_all.new.links (remapped (heir_of c.args.homes c.args.live c.args.shift)) (λ l. refl) c.self.invariant.are
      c.as_mut_slice.ensures.value c.remap_all.ensures).1;
  told = c.owners_of-self-inside.ensures ∙ ap owners_of c.as_slice.ensures;
}

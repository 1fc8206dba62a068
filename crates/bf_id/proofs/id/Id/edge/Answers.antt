use Rattle.std.proofs.Common.{◌/◌, ◌^◌, ◌∙◌, sym, ap, ℕ, length}
use Rattle.bf_id.specs.Shape.{root_cube}
use Rattle.bf_id.specs.declared.shape.Shape.{Shape}
use Rattle.bf_id.proofs.IdLemmas.{edge-narrowed}
use Rattle.bf_id.proofs.id.Id.edge.Goals as goal

pub returns-clause-of_box : goal.returns-clause-of_box
returns-clause-of_box c = λ (shape : Shape).
    let over : ℕ → ℕ = λ level. 16 / 2 ^ level in
    let octants = c.args.self.digits in
    ap over (c.self.invariant.level_fits ∙ ap (λ i. length i.digits) c.self.view_is) ∙ sym (edge-narrowed (root_cube shape c.args.self.root) octants)

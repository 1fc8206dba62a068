use Rattle.std.proofs.Common.{◌≡◌, ◌∙◌, ap, false, sym}
use Rattle.std.specs.List.{list_any}
use Rattle.bf_case.specs.Refinement.{is_among}
use Rattle.bf_marks.proofs.ChosenLemmas.{flag_at, none_set, unknown}
use Rattle.bf_marks.proofs.SearchLemmas.{found_at, not_found}
use Rattle.bf_marks.proofs.flags.Flags.is_own.Goals as goal

pub returns-then-not-self : goal.returns-then-not-self
returns-then-not-self c =
    let none : list_any (λ flag. flag) c.args.self.now.own.items ≡ false = sym c.args.self.now.told ∙ c.if-not-self.true in
    ap (λ is. is_among is c.args.id) (sym (none_set c.args.leaves.now c.args.self.now.own.items none))

pub returns-in-Ok : goal.returns-in-Ok
returns-in-Ok c =
    let is = found_at c.args.leaves.now c.in-Ok.place c.args.id c.requires.rising c.in-Ok.ensures.bound c.in-Ok.ensures.position in
    flag_at c.args.leaves.now c.args.self.now.own.items c.in-Ok.place c.args.id c.index.result.now c.requires.rising c.requires.aligned is.0 is.1 (sym c.index.ensures)

pub returns-in-Err : goal.returns-in-Err
returns-in-Err c =
    sym (unknown (λ i flag. flag) c.args.leaves.now c.args.self.now.own.items c.args.id
    (not_found c.args.leaves.now c.in-Err.field-0 c.args.id c.requires.rising c.in-Err.ensures.bound c.in-Err.ensures.position))

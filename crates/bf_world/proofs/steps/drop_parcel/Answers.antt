use Rattle.std.specs.Prelude.{◌==◌, not}
use Rattle.std.proofs.Common.{rules}
use Rattle.std.proofs.lemmas.Fn.{filter_same}
use Rattle.bf_world.proofs.steps.drop_parcel.Goals as goal

pub returns : goal.returns
returns g c = filter_same _ (λ parcel. not (parcel.0 == c.args.rank)) _ (λ x b f' k. search rules) _ _ c.retain.ensures.filtered

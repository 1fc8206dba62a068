use Rattle.bf_parts.specs.CoverLaws.{saved_is}
use Rattle.bf_parts.proofs.laws.holders_have_a_homes_part.Goals as goal

pub returns : goal.returns
returns g c = λ time homes shift leaves home_of rank home rise is_home holds. saved_is time homes shift leaves home_of rank home rise is_home holds

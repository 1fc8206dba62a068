use Rattle.bf_migrate_rounds.proofs.EndLemmas.{all_make, packed_makes}
use Rattle.bf_migrate_rounds.proofs.laws.all_cargo_makes_its_proxies.Goals as goal

pub returns : goal.returns
returns s = record {
  given = λ c time owner later members rank runs does rise owned owned_later. all_make c time runs does owner later members rise owned owned_later rank;
  on_hand = λ c time owner later members rank runs does rise owned owned_later member. packed_makes c time runs does owner later members rise owned owned_later rank member;
}

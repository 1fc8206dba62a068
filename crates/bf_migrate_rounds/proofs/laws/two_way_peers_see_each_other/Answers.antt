use Rattle.std.proofs.Common.{◌≡◌, ◌≢◌, ℕ, true, not, ◌==◌, sym, ap, ◌∙◌}
use Rattle.std.proofs.lemmas.Bool.{eq-eqb, eqb-true, false_from_ne_true, not_from_false}
use Rattle.bf_rounds.proofs.LeadLemmas.{peers_others, peers_rise, peers_see}
use Rattle.bf_migrate_rounds.specs.Shares.{two_way_peers}
use Rattle.bf_migrate_rounds.proofs.PeerLemmas.{mutual_peers, seen_flows, sees, sees_by}
use Rattle.bf_migrate_rounds.proofs.laws.two_way_peers_see_each_other.Goals as goal

other : (a b : ℕ) → not (a == b) ≡ true → a ≢ b
other a b apart same = let wrong : true ≡ not true = sym apart ∙ ap not (eq-eqb a b same) in cc

apart : (a b : ℕ) → a ≢ b → not (a == b) ≡ true
apart a b differs = not_from_false (a == b) (false_from_ne_true (a == b) (λ same. differs (eqb-true a b same)))

pub returns : goal.returns
returns s = record {
  flows = λ c time owner later rank peer runs does. (
    λ seen. let parts = seen_flows c time runs does owner later rank peer seen in (other peer rank parts.0, parts.1),
    λ both. sees_by c time runs does owner later rank peer (apart peer rank both.0) both.1,
  );
  rising = λ c time owner later members rank runs does rise member.
      peers_rise members (sees c time runs does owner later) (two_way_peers c time owner later members) rise
      (mutual_peers c time runs does owner later members) rank member;
  others = λ c time owner later members rank runs does member.
      peers_others members (sees c time runs does owner later) (two_way_peers c time owner later members)
      (mutual_peers c time runs does owner later members) rank member;
  symmetric = λ c time owner later members rank peer runs does member peers_member seen.
      peers_see members (sees c time runs does owner later) (two_way_peers c time owner later members)
      (mutual_peers c time runs does owner later members) rank peer member peers_member seen;
}

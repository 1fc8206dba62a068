-- The round leads on.
use Rattle.std.proofs.Common.{◌≡◌, ℕ, ◌<◌, List, [], ◌∷◌, refl, subst, IsTrue}
use Rattle.std.specs.Prelude.{AllPairs}
use Rattle.std.specs.List.Sorted.{IsStrictlyIncreasing}
use Rattle.bf_id.specs.Id.{BlockId}
use Rattle.bf_case.specs.declared.case.Case.{Case}
use Rattle.bf_case.specs.Model.{regrids}
use Rattle.bf_block.specs.declared.cargo.Cargo.{Cargo}
use Rattle.bf_block.specs.Runs.{CanRun}
use Rattle.bf_mark_rounds.specs.Neighbors.{AreOwned}
use Rattle.bf_rounds.specs.Delivering.{Delivers}
use Rattle.bf_rounds.specs.Leading.{LeadsBy}
use Rattle.bf_rounds.proofs.LeadLemmas.{delivers_by}
use Rattle.bf_migrate_rounds.specs.Holdings.{Migrating}
use Rattle.bf_migrate_rounds.specs.Plays.{migrate_play}
use Rattle.bf_migrate_rounds.specs.Shares.{cargo_told, held_heard, held_sent, migrating_after, migrating_before, migrating_course, migrating_with, new_ids, old_ids, two_way_peers}
use Rattle.bf_migrate_rounds.proofs.EndLemmas.{finish_is, peers_up}
use Rattle.bf_migrate_rounds.proofs.ListLemmas.{not_before}
use Rattle.bf_migrate_rounds.proofs.PeerLemmas.{mutual_peers, sees}
use Rattle.bf_migrate_rounds.proofs.SendLemmas.{out_is}

module _ (c : Case) (time : ℕ) (runs : CanRun c) (does : IsTrue (regrids c time)) (owner later : BlockId → ℕ) (members : List ℕ) (rise : IsStrictlyIncreasing members)
    (owned : AreOwned (old_ids c time) owner members) (owned_later : AreOwned (new_ids c time) later members) where
  abbrev peers : ℕ → List ℕ
  peers = two_way_peers c time owner later members

  abbrev sent : ℕ → List ℕ → Migrating
  sent rank done = migrating_with c time owner later rank (held_sent c time owner later rank done)

  abbrev holding : ℕ → List Cargo → Migrating
  holding rank arrived = migrating_with c time owner later rank (held_heard c time owner later members rank arrived)

  delivers : Delivers migrate_play (λ peer msg. msg) (cargo_told c time owner later) sent holding members (migrating_before c time owner later) (migrating_after c time owner later)
  delivers = record {
    begins = λ rank member. refl;
    out = λ rank to done rest member is_next.
        out_is c time runs does owner later rank to done
        (not_before done rest to (subst (AllPairs (λ a b. a < b)) is_next (peers_up c time runs does owner later members rise owned owned_later rank member)));
    turns = λ rank member. turned rank (peers rank);
    hear = λ rank peer heard. refl;
    finish = finish_is c time runs does owner later members rise owned owned_later;
  }
    where
      turned : (rank : ℕ) (done : List ℕ)
          → sent rank done ≡ migrating_with c time owner later rank (record (held_sent c time owner later rank done) { arrived = [] })
      turned rank [] = refl
      turned rank (d ∷ done) = refl

  pub migration_leads : LeadsBy migrate_play members (migrating_course c time owner later members) (migrating_before c time owner later) (migrating_after c time owner later)
  migration_leads =
      delivers_by migrate_play (λ peer msg. msg) (cargo_told c time owner later) sent holding members (migrating_before c time owner later)
      (migrating_after c time owner later)
      (sees c time runs does owner later) rise (mutual_peers c time runs does owner later members) delivers

-- What the play of the round leads to, it leads to within a larger local.
use Rattle.std.proofs.Common.{◌≡◌, ℕ, List, refl, ap, ◌∙◌}
use Rattle.bf_id.specs.Id.{BlockId}
use Rattle.bf_case.specs.declared.case.Case.{Case}
use Rattle.bf_block.specs.declared.cargo.Cargo.{Cargo}
use Rattle.bf_rounds.specs.Leading.{LeadsBy}
use Rattle.bf_migrate_rounds.specs.Holdings.{Holdings, Migrating}
use Rattle.bf_migrate_rounds.specs.Plays.{migrate_play}
use Rattle.bf_migrate_rounds.specs.Shares.{held_after, held_before, migrating_after, migrating_before, migrating_course, migrating_with, plan_at}
use Rattle.bf_migrate_rounds.specs.Views.{IsMigrateView, MigrateView, migrating_in, viewed_migrating, viewed_migration}

module _ {L : Type 0} (view : MigrateView L) (c : Case) (time : ℕ) (owner later : BlockId → ℕ) (members : List ℕ) (with with_after : ℕ → Holdings → L)
    (is_view : IsMigrateView view (plan_at c time owner later) with with_after) where
  seen : (rank : ℕ) (holds : Holdings) → migrating_in view (with rank holds) ≡ migrating_with c time owner later rank holds
  seen rank holds = λ k. record { plan = is_view.plan rank holds k; holds = is_view.holds rank holds k }

  pub view_leads : LeadsBy migrate_play members (migrating_course c time owner later members) (migrating_before c time owner later) (migrating_after c time owner later)
      → LeadsBy (viewed_migration view) members (viewed_migrating with (migrating_course c time owner later members)) (λ rank. with rank (held_before c time owner later rank))
      (λ rank. with_after rank (held_after c time owner later rank))
  view_leads leads = record {
    peers = λ rank member. ap (migrate_play.peers members) (seen rank (held_before c time owner later rank)) ∙ leads.peers rank member;
    rising = leads.rising;
    others = leads.others;
    symmetric = leads.symmetric;
    begins = λ rank member. refl;
    out = λ rank to done rest member is.
        let course = migrating_course c time owner later members in
        let holds : Holdings = (course.sent rank done).holds in
        ap (λ (l : Migrating). (view.put (with rank holds) (migrate_play.out l to).0.holds, (migrate_play.out l to).1)) (seen rank holds)
        ∙ ap (λ (after : L). (after, (migrate_play.out (course.sent rank done) to).1)) (is_view.put rank holds (migrate_play.out (course.sent rank done) to).0.holds)
        ∙ ap (λ (p : Migrating × List Cargo). (with rank p.0.holds, p.1)) (leads.out rank to done rest member is);
    turns = λ rank member. ap (λ (l : Migrating). with rank l.holds) (leads.turns rank member);
    take = λ rank peer done rest member is.
        let course = migrating_course c time owner later members in
        let holds : Holdings = (course.heard rank done).holds in
        ap (λ (l : Migrating). view.put (with rank holds) (migrate_play.hear l peer (course.told peer rank)).holds) (seen rank holds)
        ∙ is_view.put rank holds (migrate_play.hear (course.heard rank done) peer (course.told peer rank)).holds
        ∙ ap (λ (l : Migrating). with rank l.holds) (leads.take rank peer done rest member is);
    finish = λ rank member.
        let course = migrating_course c time owner later members in
        let holds : Holdings = (course.heard rank (course.peers rank)).holds in
        ap (λ (l : Migrating). view.close (with rank holds) (migrate_play.finish l).holds) (seen rank holds)
        ∙ is_view.close rank holds (migrate_play.finish (course.heard rank (course.peers rank))).holds
        ∙ ap (λ (l : Migrating). with_after rank l.holds) (leads.finish rank member);
  }

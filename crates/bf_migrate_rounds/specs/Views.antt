-- The round within a larger local.
use Rattle.std.specs.Prelude.{◌≡◌, ℕ, List}
use Rattle.bf_block.specs.declared.cargo.Cargo.{Cargo}
use Rattle.bf_rounds.specs.Courses.{Course}
use Rattle.bf_rounds.specs.Delivering.{Delivery}
use Rattle.bf_migrate_rounds.specs.Holdings.{Holdings, Migrating, Plan}
use Rattle.bf_migrate_rounds.specs.Plays.{migrate_play}

-- how a local's plan and holdings are read, and how its holdings are replaced: on the way, and at the end, from where no plan is needed
pub record MigrateView (L : Type 0) : Type 0 where
  pub plan : L → Plan
  pub holds : L → Holdings
  pub put : L → Holdings → L
  pub close : L → Holdings → L

abbrev pub migrating_in : {L : Type 0} → MigrateView L → L → Migrating
migrating_in view local = record { plan = view.plan local; holds = view.holds local }

-- the play, by the larger local
abbrev pub viewed_migration : {L : Type 0} → MigrateView L → Delivery L (List Cargo)
viewed_migration view = record {
  peers = λ members local. migrate_play.peers members (migrating_in view local);
  out = λ local to. (view.put local (migrate_play.out (migrating_in view local) to).0.holds, (migrate_play.out (migrating_in view local) to).1);
  hear = λ local peer msg. view.put local (migrate_play.hear (migrating_in view local) peer msg).holds;
  finish = λ local. view.close local (migrate_play.finish (migrating_in view local)).holds;
}

-- the locals of ranks with these holdings have the ranks' plans, and at the end they may have lost them
pub record IsMigrateView {L : Type 0} (view : MigrateView L) (plan_at : ℕ → Plan) (with with_after : ℕ → Holdings → L) : Type 0 where
  pub plan : (rank : ℕ) (holds : Holdings) → view.plan (with rank holds) ≡ plan_at rank
  pub holds : (rank : ℕ) (holds : Holdings) → view.holds (with rank holds) ≡ holds
  pub put : (rank : ℕ) (holds now : Holdings) → view.put (with rank holds) now ≡ with rank now
  pub close : (rank : ℕ) (holds now : Holdings) → view.close (with rank holds) now ≡ with_after rank now

abbrev pub viewed_migrating : {L : Type 0} → (with : ℕ → Holdings → L) → Course Migrating (List Cargo) → Course L (List Cargo)
viewed_migrating with course = record {
  peers = course.peers;
  told = course.told;
  sent = λ rank done. with rank (course.sent rank done).holds;
  heard = λ rank done. with rank (course.heard rank done).holds;
}

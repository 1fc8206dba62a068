-- Commits and restores lead from what is seen of told locals to what is seen of told locals; which homes are stored there, and to whom a restore gives what.
use Rattle.std.proofs.Common.{◌≡◌, ℕ, Bool, true, false, List, map, ap, sym, subst}
use Rattle.std.specs.Prelude.{◌==◌, ◌&&◌, filter}
use Rattle.std.specs.List.Sorted.{IsStrictlyIncreasing}
use Rattle.bf_buddy.specs.Members.{is_member}
use Rattle.bf_program.specs.declared.epoch.Epoch.{Epoch}
use Rattle.bf_program.specs.Epochs.{epoch_after_commit}
use Rattle.bf_program.specs.Restores.{heir_of, restored_epoch}
use Rattle.bf_parts.specs.Leaves.{Kind, Leaves, AreLeaves, AreAmong, is_filled, side_at}
use Rattle.bf_parts.specs.RestoreLaws.{regained_is}
use Rattle.bf_parts.specs.Sides.{bare, is_given}
use Rattle.bf_parts.specs.Spreads.{Trio, view_at, kept_view, restored_view}
use Rattle.bf_parts.specs.StockLaws.{side_stocked, given_among, stored_is}
use Rattle.bf_parts.specs.Views.{View, stored_of, IsStocked, IsHeld}

-- the leaves at the beginning of an epoch, whose agreed snapshot is of these
abbrev pub begun_trio : {K I : Type 0} → (agreed new : Leaves K I) → Trio K I
begun_trio agreed new = record { now = agreed; agreed = agreed; new = new }

-- where the leaves of the new snapshot are the round's, a commit makes owners homes
pub kept_seen : {K I : Type 0} (shift steps interval : ℕ) (epoch : Epoch) (leaves : Trio K I) (later : Leaves K I) (owner home_of : K → ℕ) (rank : ℕ) → leaves.now ≡ leaves.new
    → kept_view (view_at shift epoch true leaves owner home_of rank) ≡ view_at shift (epoch_after_commit steps interval epoch) false (begun_trio leaves.new later) owner owner rank
kept_seen {K = K} {I = I} shift steps interval epoch leaves later owner home_of rank same =
    ap (λ (now : Leaves K I). view_at shift (epoch_after_commit steps interval epoch) false (record { now = now; agreed = leaves.new; new = later }) owner owner rank) same

-- a restore makes heirs owners, and leaves the homes
pub restored_seen : {K I : Type 0} (kind : Kind I) (shift : ℕ) (epoch : Epoch) (is_made : Bool) (leaves : Trio K I) (later : Leaves K I) (lives : ℕ → Bool) (owner home_of : K → ℕ) (rank : ℕ)
    → AreLeaves kind leaves.agreed → IsStrictlyIncreasing epoch.homes → is_member epoch.homes rank ≡ true → is_member (filter lives epoch.members) rank ≡ true
    → AreAmong epoch.homes leaves.agreed home_of
    → restored_view kind shift (view_at shift epoch is_made leaves owner home_of rank).active rank (filter lives epoch.members)
    ≡ view_at shift (restored_epoch lives epoch) false (begun_trio leaves.agreed later) (λ key. heir_of epoch.homes (filter lives epoch.members) shift (home_of key)) home_of rank
restored_seen {I = I} kind shift epoch is_made leaves later lives owner home_of rank are up is_home is_live housed =
    ap (λ (items : List I). record { rank = rank; items = items; active = side_at epoch.time epoch.homes shift leaves.agreed home_of rank; spare = bare })
    (regained_is kind leaves.agreed are epoch.homes (filter lives epoch.members) shift home_of rank up is_home is_live housed epoch.time)

-- and a second restore goes back to the same side
pub restored_again : {K I : Type 0} (kind : Kind I) (shift : ℕ) (epoch : Epoch) (is_made : Bool) (leaves : Trio K I) (later : Leaves K I) (lives then_lives : ℕ → Bool) (owner home_of : K → ℕ) (rank : ℕ)
    → AreLeaves kind leaves.agreed → IsStrictlyIncreasing epoch.homes → is_member epoch.homes rank ≡ true → is_member (filter then_lives (filter lives epoch.members)) rank ≡ true
    → AreAmong epoch.homes leaves.agreed home_of
    → restored_view kind shift (restored_view kind shift (view_at shift epoch is_made leaves owner home_of rank).active rank (filter lives epoch.members)).active rank
    (filter then_lives (filter lives epoch.members))
    ≡ view_at shift (restored_epoch then_lives (restored_epoch lives epoch)) false (begun_trio leaves.agreed later)
    (λ key. heir_of epoch.homes (filter then_lives (filter lives epoch.members)) shift (home_of key)) home_of rank
restored_again kind shift epoch is_made leaves later lives then_lives owner home_of rank are up is_home is_live housed =
    restored_seen kind shift (restored_epoch lives epoch) false (begun_trio leaves.agreed later) later then_lives (λ key. heir_of epoch.homes (filter lives epoch.members) shift (home_of key)) home_of
    rank are up is_home is_live housed

-- the homes that told locals have stored are those of an agreed leaf
pub stored_seen : {L K I : Type 0} (look : L → View I) (shift : ℕ) (epoch : Epoch) (is_made : Bool) (leaves : Trio K I) (owner home_of : K → ℕ) (at : ℕ → L)
    → ((rank : ℕ) → is_member epoch.members rank ≡ true → look (at rank) ≡ view_at shift epoch is_made leaves owner home_of rank)
    → IsHeld (is_filled leaves.agreed home_of) shift epoch.homes epoch.members → stored_of look (map at epoch.members) ≡ filter (is_filled leaves.agreed home_of) epoch.homes
stored_seen look shift epoch is_made leaves owner home_of at seen held =
    stored_is look (is_filled leaves.agreed home_of) shift epoch.homes epoch.members held at (λ rank is_in. ap (λ v. v.rank) (seen rank is_in))
    (λ rank is_in. subst (λ v. IsStocked (is_filled leaves.agreed home_of) epoch.homes shift rank v.active) (sym (seen rank is_in))
    (side_stocked epoch.time epoch.homes shift leaves.agreed home_of rank))

-- a restore gives each home's part of a leaf to its heir, and to no one else
pub given_seen : {K I : Type 0} (time : ℕ) (homes live : List ℕ) (shift : ℕ) (leaves : Leaves K I) (home_of : K → ℕ) (rank home : ℕ)
    → IsStrictlyIncreasing homes → is_member homes rank ≡ true → is_member live rank ≡ true
    → is_member (filter (is_given (side_at time homes shift leaves home_of rank) rank live) homes) home ≡ (is_member (filter (is_filled leaves home_of) homes) home && (heir_of homes live shift home == rank))
given_seen time homes live shift leaves home_of rank home up is_home is_live =
    given_among (is_filled leaves home_of) homes shift rank (side_at time homes shift leaves home_of rank) (side_stocked time homes shift leaves home_of rank) live home up is_home is_live

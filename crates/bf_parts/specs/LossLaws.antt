-- Where nothing is lost, the heirs of homes live, and each filled home's part is at a live one.
use Rattle.std.proofs.Common.{◌≡◌, ℕ, Bool, true, List, filter}
use Rattle.std.specs.Prelude.{◌||◌, None, slice_index_or}
use Rattle.std.specs.List.Sorted.{IsStrictlyIncreasing}
use Rattle.bf_buddy.proofs.LossLemmas.{none_lost}
use Rattle.bf_buddy.proofs.MemberLemmas.{member_filter_from}
use Rattle.bf_buddy.specs.Buddy.{buddy_of}
use Rattle.bf_buddy.specs.Losses.{first_lost_of}
use Rattle.bf_buddy.specs.Members.{is_member}
use Rattle.bf_program.proofs.RestoreLemmas.{heir_lives}
use Rattle.bf_program.specs.Restores.{heir_of}
use Rattle.bf_parts.specs.Leaves.{Leaves, AreAmong, is_filled}
use Rattle.bf_parts.specs.StockLaws.{owner_filled}
use Rattle.bf_parts.specs.Views.{IsHeld}

-- each filled home or its buddy lives
filled_safe : (filled : ℕ → Bool) (homes live : List ℕ) (shift : ℕ) → first_lost_of homes (filter filled homes) live shift ≡ None
    → (home : ℕ) → is_member homes home ≡ true → filled home ≡ true → (is_member live home || is_member live (buddy_of homes home shift)) ≡ true
filled_safe filled homes live shift none home is_home full =
    (none_lost homes (filter filled homes) live shift).0 none home is_home (member_filter_from filled homes home is_home full)

-- of homes of leaves
pub heirs_held : {K I : Type 0} (leaves : Leaves K I) (homes live : List ℕ) (shift : ℕ) (home_of : K → ℕ) → IsStrictlyIncreasing homes → IsStrictlyIncreasing live
    → ((rank : ℕ) → is_member live rank ≡ true → is_member homes rank ≡ true) → first_lost_of homes (filter (is_filled leaves home_of) homes) live shift ≡ None → AreAmong homes leaves home_of
    → AreAmong live leaves (λ key. heir_of homes live shift (home_of key)) × IsHeld (is_filled leaves home_of) shift homes live
heirs_held leaves homes live shift home_of up live_up among none housed =
    let safe = filled_safe (is_filled leaves home_of) homes live shift none in (
      (λ k d within. heir_lives homes live shift (home_of (slice_index_or leaves.keys k d))
          (safe (home_of (slice_index_or leaves.keys k d)) (housed k d within) (owner_filled leaves home_of k d within))),
      record { homes_rise = up; members_rise = live_up; among = among; safe = safe },
    )

-- Where nothing is lost, each stored part has one heir.
use Rattle.std.proofs.Common.{◌≡◌, ℕ, Bool, true, false, ◌||◌, cond, IsTrue, List, [], ◌∷◌, filter, length, arith, refl, sym, ◌∙◌}
use Rattle.std.specs.Prelude.{◌==◌, ◌↔◌, Some, None, if◌then◌else◌}
use Rattle.std.proofs.lemmas.Bool.{and_from, and_parts, eqb-true, eq-eqb}
use Rattle.bf_buddy.specs.Members.{is_member}
use Rattle.bf_buddy.specs.Buddy.{buddy_of}
use Rattle.bf_buddy.specs.Losses.{first_lost_of, LosesNothing}
use Rattle.bf_buddy.proofs.MemberLemmas.{all_member, member_filter_parts}
use Rattle.bf_program.specs.declared.epoch.Epoch.{Epoch}
use Rattle.bf_program.specs.Meanings.{Meanings}
use Rattle.bf_program.specs.Lockstep.{local_of}
use Rattle.bf_program.specs.Restores.{heir_of, IsGivenOnce}
use Rattle.bf_program.specs.Laws.{KeepsGood, KeepsStored, KeepsParts}

-- a member has a local, where there is one for each
pub has_local : {L : Type 0} (members : List ℕ) (locals : List L) (rank : ℕ) → is_member members rank ≡ true → length locals ≡ length members
    → (local : L) × (local_of members locals rank ≡ Some local)
has_local [] locals rank member each = absurd (cc)
has_local (x ∷ xs) [] rank member each = absurd (omega arith)
has_local {L = L} (x ∷ xs) (l ∷ ls) rank member each = at_first (λ later. has_local xs ls rank later (omega arith)) (x == rank) member
  where
    at_first : (is_member xs rank ≡ true → (local : L) × (local_of xs ls rank ≡ Some local)) → (b : Bool) → (b || is_member xs rank) ≡ true
        → (local : L) × (cond b (Some l) (local_of xs ls rank) ≡ Some local)
    at_first rest true is_now = (l, refl)
    at_first rest false is_later = rest is_later

-- the heir of a part that is not lost lives
pub heir_lives : (homes live : List ℕ) (shift home : ℕ) → (is_member live home || is_member live (buddy_of homes home shift)) ≡ true
    → is_member live (heir_of homes live shift home) ≡ true
heir_lives homes live shift home held = at_home (is_member live home) refl held
  where
    at_home : (b : Bool) → is_member live home ≡ b → (b || is_member live (buddy_of homes home shift)) ≡ true
        → is_member live (if b then home else buddy_of homes home shift) ≡ true
    at_home true lives _ = lives
    at_home false dead buddy = buddy

module _ {S L M T R : Type 0} (m : Meanings S L M T R) (good : S → Epoch → ℕ → List L → Type 0) (setup : S) where
  -- one live member is given a part whose heir lives
  given_once : KeepsGood m good setup → KeepsStored m good setup → KeepsParts m good setup
      → (epoch : Epoch) (round : ℕ) (locals : List L) (lives : ℕ → Bool) (home : ℕ) → good setup epoch round locals
      → first_lost_of epoch.homes (m.stored locals) (filter lives epoch.members) (m.shift setup) ≡ None
      → is_member (m.stored locals) home ≡ true
      → is_member (filter lives epoch.members) (heir_of epoch.homes (filter lives epoch.members) (m.shift setup) home) ≡ true
      → IsGivenOnce m setup epoch lives locals home
  given_once goods stores parts epoch round locals lives home is_good none stored live =
      let heir = heir_of epoch.homes (filter lives epoch.members) (m.shift setup) home in
      let at : (is_member epoch.members heir ≡ true) × (lives heir ≡ true) = member_filter_parts lives epoch.members heir live in
      let its : (local : L) × (local_of epoch.members locals heir ≡ Some local) =
      has_local epoch.members locals heir at.0 (goods.one_each epoch round locals is_good) in
      record {
        heir = heir;
        given = (
          its.0,
          (
            at.1,
            its.1,
            parts.given epoch round locals lives heir its.0 is_good none its.1 at.1 home
                ∙ and_from (is_member (m.stored locals) home) (heir == heir) stored (eq-eqb heir heir refl),
          ),
        );
        alone = λ rank given. sym (eqb-true heir rank (and_parts (is_member (m.stored locals) home) (heir == rank)
            (sym (parts.given epoch round locals lives rank given.0 is_good none given.1.1 given.1.0 home) ∙ given.1.2)).1);
      }

  -- where nothing is lost, one live member is given a stored part
  pub given_where_whole : KeepsGood m good setup → KeepsStored m good setup → KeepsParts m good setup
      → ((homes filled live : List ℕ) (shift : ℕ) → (first_lost_of homes filled live shift ≡ None) ↔ LosesNothing homes filled live shift)
      → (epoch : Epoch) (round : ℕ) (locals : List L) (lives : ℕ → Bool) → good setup epoch round locals
      → first_lost_of epoch.homes (m.stored locals) (filter lives epoch.members) (m.shift setup) ≡ None
      → (home : ℕ) → is_member (m.stored locals) home ≡ true
      → IsGivenOnce m setup epoch lives locals home
  given_where_whole goods stores parts losses epoch round locals lives is_good none home stored =
      let live = filter lives epoch.members in
      let keeps : LosesNothing epoch.homes (m.stored locals) live (m.shift setup) =
      (losses epoch.homes (m.stored locals) live (m.shift setup)).0 none in
      let is_home : is_member epoch.homes home ≡ true = all_member (λ at. IsTrue (is_member epoch.homes at)) (m.stored locals) home (stores.homes epoch round locals is_good).1 stored in
      given_once goods stores parts epoch round locals lives home is_good none stored
      (heir_lives epoch.homes live (m.shift setup) home (keeps home is_home stored))

-- The snapshot round fills the spare sides.
use Rattle.std.proofs.Common.{◌≡◌, ◌≢◌, ℕ, Bool, true, false, cond, List, [], ◌∷◌, ◌++◌, ◌+◌, refl, ap, sym, ◌∙◌}
use Rattle.std.specs.Prelude.{◌==◌, ◌&&◌, ◌||◌, not, filter, Option, Some, None}
use Rattle.std.specs.List.{fold, count_by}
use Rattle.std.specs.List.Sorted.{IsStrictlyIncreasing}
use Rattle.std.proofs.lemmas.Bool.{eqb-true, eqb-false, eq-eqb}
use Rattle.std.proofs.Math.Nat.{add-zero}
use Rattle.bf_buddy.specs.Members.{is_member, without}
use Rattle.bf_buddy.specs.Buddy.{predecessor_of}
use Rattle.bf_program.specs.declared.epoch.Epoch.{Epoch}
use Rattle.bf_buddy.proofs.MemberLemmas.{all_members, member_filter}
use Rattle.bf_parts.specs.SideLaws.{gives_is, predecessor_member, source_is}
use Rattle.bf_parts.specs.Sides.{gives, source_of}
use Rattle.bf_rounds.specs.Gathering.{gathered, AreMutual, Gathers}
use Rattle.bf_parts.specs.Leaves.{Leaves, part_of}
use Rattle.bf_parts.specs.Views.{View}
use Rattle.bf_parts.specs.Spreads.{Trio, view_at}
use Rattle.bf_lemmas.proofs.Lists.{filter_alike}
use Rattle.bf_lemmas.proofs.Tests.{eqb_swap}
use Rattle.bf_parts.specs.SnapshotLaws.{paired_apart, paired_both, paired_holders}
use Rattle.bf_parts.specs.SnapshotRounds.{are_paired}
use Rattle.bf_stages.specs.Snapshots.{IsSight, sees_paired, sees_others, heard_part, given_part, snapshot_play, parts_in, holding_part, snapshot_course}
use Rattle.bf_rounds.proofs.LeadLemmas.{gathers_by}
use Rattle.bf_rounds.specs.Delivering.{as_delivery}
use Rattle.bf_rounds.specs.Leading.{LeadsBy, Weighs}

last_kept : {A : Type 0} (was : A) (xs : List A) → fold (λ was part. part) was (xs ++ []) ≡ fold (λ was part. part) was xs
last_kept was [] = refl
last_kept was (x ∷ xs) = last_kept x xs

last_new : {A : Type 0} (was x : A) (xs : List A) → fold (λ was part. part) was (xs ++ x ∷ []) ≡ x
last_new was x [] = refl
last_new was x (y ∷ xs) = last_new y x xs

-- of parts that are taken from one peer alone, where it is heard, and no other's
one_heard : {A : Type 0} (part : ℕ → A) (source : ℕ) (was : A) (peers : List ℕ) → fold (λ was peer. cond (peer == source) (part peer) was) was peers ≡ cond (is_member peers source) (part source) was
one_heard part source was [] = refl
one_heard {A = A} part source was (peer ∷ peers) = one_heard part source (cond (peer == source) (part peer) was) peers ∙ at (peer == source) (is_member peers source) refl
  where
    at : (b c : Bool) → (peer == source) ≡ b → cond {A = A} c (part source) (cond b (part peer) was) ≡ cond (b || c) (part source) was
    at true true same = refl
    at true false same = ap part (eqb-true peer source same)
    at false c other = refl

-- whom ranks see are peers
pub sight_mutual : (shift : ℕ) (sees : (members : List ℕ) → (rank other : ℕ) → Bool) (members : List ℕ) → IsSight shift sees members → AreMutual members (sees members) (λ rank. filter (sees members rank) members)
sight_mutual shift sees members sight = record {
  are = λ rank is_in. refl;
  apart = sight.apart;
  both = λ rank other is_in other_in seen. sight.both rank other seen;
}

module _ {K I : Type 0} (sees : (members : List ℕ) → (rank other : ℕ) → Bool) (shift : ℕ) (epoch : Epoch) (sight : IsSight shift sees epoch.members) (leaves : Trio K I) (same : leaves.now ≡ leaves.new) (owner home_of : K → ℕ) (up : IsStrictlyIncreasing epoch.members) where
  abbrev members : List ℕ
  members = epoch.members

  abbrev part : ℕ → List I
  part rank = part_of leaves.now owner rank

  abbrev told : ℕ → ℕ → Option (List I)
  told from to = given_part (gives members shift from to) (part from)

  abbrev hear : (rank : ℕ) → List I → ℕ → List I
  hear rank was peer = cond (gives members shift peer rank) (part peer) was

  last_heard : (rank : ℕ) (was : List I) (ps : List ℕ) → fold (λ was part. part) was (gathered parts_in told rank ps) ≡ fold (hear rank) was ps
  last_heard rank was [] = refl
  last_heard rank was (p ∷ ps) = at (λ next. last_heard rank next ps) (gives members shift p rank)
    where
      at : ((next : List I) → fold (λ was part. part) next (gathered parts_in told rank ps) ≡ fold (hear rank) next ps)
          → (b : Bool) → fold (λ was part. part) was (parts_in p (given_part b (part p)) ++ gathered parts_in told rank ps) ≡ fold (hear rank) (cond b (part p) was) ps
      at later true = later (part p)
      at later false = later was

  -- whom a rank hears of those whose buddy it is
  source_seen : (rank : ℕ) → is_member members rank ≡ true → is_member (filter (sees members rank) members) (predecessor_of members rank shift) ≡ not (predecessor_of members rank shift == rank)
  source_seen rank is_in = member_filter (sees members rank) members (predecessor_of members rank shift) ∙ at (predecessor_of members rank shift == rank) refl
    where
      source_in : is_member members (predecessor_of members rank shift) ≡ true
      source_in = predecessor_member members rank shift up is_in

      at : (b : Bool) → (predecessor_of members rank shift == rank) ≡ b → (is_member members (predecessor_of members rank shift) && sees members rank (predecessor_of members rank shift)) ≡ not b
      at true lone = rw source_in (ap (sees members rank) (eqb-true (predecessor_of members rank shift) rank lone) ∙ sight.apart rank)
      at false other = rw source_in (sight.holders (predecessor_of members rank shift) rank
          (gives_is members shift (predecessor_of members rank shift) rank up is_in ∙ eq-eqb (predecessor_of members rank shift) (predecessor_of members rank shift) refl)
          (eqb-false (predecessor_of members rank shift) rank other))

  -- the part that a rank has heard
  all_heard : (rank : ℕ) → is_member members rank ≡ true
      → fold (hear rank) [] (filter (sees members rank) members) ≡ cond (predecessor_of members rank shift == rank) [] (part (predecessor_of members rank shift))
  all_heard rank is_in =
      ap (λ (f : List I → ℕ → List I). fold f [] (filter (sees members rank) members)) (λ i was peer. cond (gives_is members shift peer rank up is_in i) (part peer) was)
      ∙ one_heard part (predecessor_of members rank shift) [] (filter (sees members rank) members)
      ∙ ap (λ b. cond b (part (predecessor_of members rank shift)) []) (source_seen rank is_in)
      ∙ turned (predecessor_of members rank shift == rank)
    where
      turned : (b : Bool) → cond (not b) (part (predecessor_of members rank shift)) [] ≡ cond b [] (part (predecessor_of members rank shift))
      turned true = refl
      turned false = refl

  spare_from : (source : ℕ) → Leaves K I → (other : List I) → (rank : ℕ) → View I
  spare_from source new other rank = record (view_at shift epoch false leaves owner home_of rank) {
    spare = record { time = epoch.target; homes = members; source = source; own = part_of new owner rank; other = other };
  }

  pub snapshot_gathers : Gathers (snapshot_play sees shift epoch) parts_in (holding_part shift epoch leaves owner home_of) epoch.members (view_at shift epoch false leaves owner home_of)
      (view_at shift epoch true leaves owner home_of)
  unfolding spare_from
  snapshot_gathers = record {
    none = λ rank is_in. refl;
    hear = λ rank peer heard. at rank peer heard (gives members shift peer rank);
    finish = λ rank is_in.
        ap (λ (other : List I). spare_from (source_of members shift rank) leaves.now other rank) (last_heard rank [] (filter (sees members rank) members) ∙ all_heard rank is_in)
        ∙ ap (λ source. spare_from source leaves.now (cond (predecessor_of members rank shift == rank) [] (part_of leaves.now owner (predecessor_of members rank shift))) rank)
        (source_is members shift rank is_in)
        ∙ ap (λ (new : Leaves K I). spare_from (predecessor_of members rank shift) new (cond (predecessor_of members rank shift == rank) [] (part_of new owner (predecessor_of members rank shift))) rank) same;
  }
    where
      at : (rank peer : ℕ) (heard : List (List I)) (b : Bool) → heard_part (holding_part shift epoch leaves owner home_of rank heard) (given_part b (part peer))
          ≡ holding_part shift epoch leaves owner home_of rank (heard ++ parts_in peer (given_part b (part peer)))
      at rank peer heard true = ap (λ (x : List I). record (holding_part shift epoch leaves owner home_of rank heard) { spare = record (holding_part shift epoch leaves owner home_of rank heard).spare { other = x } })
          (sym (last_new [] (part peer) heard))
      at rank peer heard false = ap (λ (x : List I). record (holding_part shift epoch leaves owner home_of rank heard) { spare = record (holding_part shift epoch leaves owner home_of rank heard).spare { other = x } })
          (sym (last_kept [] heard))

  pub snapshot_by : LeadsBy (as_delivery (snapshot_play sees shift epoch)) epoch.members (snapshot_course sees shift epoch leaves owner home_of) (view_at shift epoch false leaves owner home_of)
      (view_at shift epoch true leaves owner home_of)
  snapshot_by = gathers_by (snapshot_play sees shift epoch) parts_in (holding_part shift epoch leaves owner home_of) epoch.members (view_at shift epoch false leaves owner home_of)
      (view_at shift epoch true leaves owner home_of) (sees epoch.members) up (sight_mutual shift sees epoch.members sight) snapshot_gathers

pub paired_sight : (shift : ℕ) (ranks : List ℕ) → IsSight shift (sees_paired shift) ranks
paired_sight shift ranks = record {
  apart = paired_apart ranks shift;
  both = λ rank other seen. paired_both ranks shift other rank ∙ seen;
  holders = paired_holders ranks shift;
}

pub others_sight : (shift : ℕ) (ranks : List ℕ) → IsSight shift sees_others ranks
others_sight shift ranks = record {
  apart = λ rank. ap not (eq-eqb rank rank refl);
  both = λ rank other seen. ap not (eqb_swap rank other) ∙ seen;
  holders = λ from to giver apart. at from to apart (from == to) refl;
}
  where
    at : (from to : ℕ) → from ≢ to → (b : Bool) → (from == to) ≡ b → not b ≡ true
    at from to apart true same = absurd (apart (eqb-true from to same))
    at from to apart false other = refl

pub others_mutual : (members : List ℕ) → AreMutual members (sees_others members) (without members)
others_mutual members = sight_mutual 0 sees_others members (others_sight 0 members)

-- copies weigh nothing
pub snapshot_weighs : {I : Type 0} (sees : (members : List ℕ) → (rank other : ℕ) → Bool) (shift : ℕ) (epoch : Epoch) (test : I → Bool) → Weighs (λ (view : View I). count_by test view.items) (λ msg. 0) (as_delivery (snapshot_play sees shift epoch))
snapshot_weighs {I = I} sees shift epoch test = record {
  out = λ view to. add-zero (count_by test view.items);
  hear = λ view peer msg. at view msg;
  finish = λ view. refl;
}
  where
    at : (view : View I) (msg : Option (List I)) → count_by test (heard_part view msg).items ≡ count_by test view.items + 0
    at view None = sym (add-zero (count_by test view.items))
    at view (Some items) = sym (add-zero (count_by test view.items))

-- a test that nothing passes
pub none_passes : (members : List ℕ) → filter (λ other. false) members ≡ []
none_passes [] = refl
none_passes (member ∷ members) = none_passes members

paired_is : (members : List ℕ) (shift rank other : ℕ) → is_member members rank ≡ true → is_member members other ≡ true
    → (not (other == rank) && (gives members shift rank other || gives members shift other rank)) ≡ are_paired members shift rank other
unfolding gives are_paired
paired_is members shift rank other is_in other_in = rw (is_in, other_in, eqb_swap other rank) refl

-- whom a member asks for in the snapshot's round: those whose part it keeps or who keep its own
pub paired_asked : (members : List ℕ) (shift rank : ℕ) → is_member members rank ≡ true
    → filter (λ other. not (other == rank) && (gives members shift rank other || gives members shift other rank)) members ≡ filter (are_paired members shift rank) members
paired_asked members shift rank is_in =
    filter_alike (λ other. is_member members other ≡ true) (λ other. not (other == rank) && (gives members shift rank other || gives members shift other rank))
    (are_paired members shift rank) (λ other other_in. paired_is members shift rank other is_in other_in) members
    (all_members (λ other. is_member members other ≡ true) members (λ other other_in. other_in))

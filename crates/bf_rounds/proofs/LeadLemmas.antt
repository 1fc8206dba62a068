-- Which plays lead on which courses.
use Rattle.std.proofs.Common.{◌≡◌, ◌≢◌, ℕ, ◌+◌, Bool, true, false, List, [], ◌∷◌, ◌++◌, map, filter, refl, sym, ap, ◌∙◌, subst, arith}
use Rattle.std.specs.Prelude.{IsTrue, All}
use Rattle.std.specs.List.Sorted.{IsStrictlyIncreasing}
use Rattle.std.proofs.lemmas.List.{append-nil}
use Rattle.std.proofs.lemmas.List.Concat.{flat_map-append}
use Rattle.std.proofs.lemmas.List.Elements.{All-nil}
use Rattle.std.proofs.lemmas.List.Kept.{IsStrictlyIncreasing-filter}
use Rattle.bf_buddy.proofs.MemberLemmas.{member_filter_from, member_filter_parts, all_members}
use Rattle.bf_buddy.specs.Members.{is_member}
use Rattle.bf_program.specs.declared.epoch.Epoch.{Epoch}
use Rattle.bf_program.specs.Lockstep.{next_locals}
use Rattle.bf_program.specs.Meanings.{Meanings}
use Rattle.bf_rounds.proofs.CourseLemmas.{next_is}
use Rattle.bf_rounds.specs.Courses.{Course}
use Rattle.bf_rounds.specs.Delivering.{Delivery, as_delivery, PlaysDelivery, delivering, Delivers}
use Rattle.bf_rounds.specs.Gathering.{Play, gathered, gathering, AreMutual, Gathers}
use Rattle.bf_rounds.specs.Leading.{LeadsBy, Leads, alone, IsPartOf, lifted, Lens, through, IsLens, Weighs, Conserves}

-- peers by a test that is the same both ways
module _ (members : List ℕ) (sees : ℕ → ℕ → Bool) (peers : ℕ → List ℕ) where
  pub peers_rise : IsStrictlyIncreasing members → AreMutual members sees peers → (rank : ℕ) → IsTrue (is_member members rank) → IsStrictlyIncreasing (peers rank)
  peers_rise rise seen_both rank member = subst IsStrictlyIncreasing (sym (seen_both.are rank member)) (IsStrictlyIncreasing-filter (sees rank) members rise)

  pub peers_others : AreMutual members sees peers → (rank : ℕ) → IsTrue (is_member members rank) → All (λ peer. IsTrue (is_member members peer) × (peer ≢ rank)) (peers rank)
  peers_others seen_both rank member =
      subst (λ (ps : List ℕ). All (λ peer. IsTrue (is_member members peer) × (peer ≢ rank)) ps) (sym (seen_both.are rank member))
      (all_members (λ peer. IsTrue (is_member members peer) × (peer ≢ rank)) (filter (sees rank) members)
      (λ peer is_in.
      let parts = member_filter_parts (sees rank) members peer is_in in
      (parts.0, λ same. let wrong : true ≡ false = sym parts.1 ∙ ap (sees rank) same ∙ seen_both.apart rank in cc)))

  pub peers_see : AreMutual members sees peers → (rank peer : ℕ) → IsTrue (is_member members rank) → IsTrue (is_member members peer) → IsTrue (is_member (peers rank) peer)
      → IsTrue (is_member (peers peer) rank)
  peers_see seen_both rank peer member other seen =
      let parts = member_filter_parts (sees rank) members peer (sym (ap (λ ps. is_member ps peer) (seen_both.are rank member)) ∙ seen) in
      ap (λ ps. is_member ps rank) (seen_both.are peer other)
      ∙ member_filter_from (sees peer) members rank member (seen_both.both rank peer member other parts.1)

-- a program that plays so
pub leads_by : {S L M T R : Type 0} (m : Meanings S L M T R) (setup : S) (epoch : Epoch) (round : ℕ) (play : Delivery L M) (course : Course L M) (before after : ℕ → L)
    → PlaysDelivery m setup epoch round play → LeadsBy play epoch.members course before after → Leads m setup epoch round course before after
leads_by m setup epoch round play course before after plays leads = record {
  peers = λ rank member. plays.peers (before rank) ∙ leads.peers rank member;
  rising = leads.rising;
  others = leads.others;
  symmetric = leads.symmetric;
  begins = leads.begins;
  out = λ rank to done rest member is. plays.out (course.sent rank done) to ∙ leads.out rank to done rest member is;
  turns = leads.turns;
  take = λ rank peer done rest member is. plays.take (course.heard rank done) peer (course.told peer rank) ∙ leads.take rank peer done rest member is;
  finish = λ rank member. plays.finish (course.heard rank (course.peers rank)) ∙ leads.finish rank member;
}

-- what a play leads to, the lockstep leads to
pub plays_on : {S L M T R : Type 0} (m : Meanings S L M T R) (setup : S) (epoch : Epoch) (round : ℕ) (play : Delivery L M) (course : Course L M) (before after : ℕ → L)
    → PlaysDelivery m setup epoch round play → LeadsBy play epoch.members course before after
    → next_locals m setup epoch round (map before epoch.members) ≡ map after epoch.members
plays_on m setup epoch round play course before after plays leads =
    next_is m setup epoch round course before after (leads_by m setup epoch round play course before after plays leads)

module _ {L M I : Type 0} (play : Delivery L M) (items : ℕ → M → List I) (told : (from to : ℕ) → M) (sent : ℕ → List ℕ → L) (holding : ℕ → List I → L) (members : List ℕ) (before after : ℕ → L) where
  -- a round that delivers
  pub delivers_by : (sees : ℕ → ℕ → Bool) → IsStrictlyIncreasing members → AreMutual members sees (λ rank. play.peers members (before rank))
      → Delivers play items told sent holding members before after → LeadsBy play members (delivering play items told sent holding members before) before after
  delivers_by sees rise seen_both delivers = record {
    peers = λ rank member. refl;
    rising = peers_rise members sees (λ rank. play.peers members (before rank)) rise seen_both;
    others = peers_others members sees (λ rank. play.peers members (before rank)) seen_both;
    symmetric = peers_see members sees (λ rank. play.peers members (before rank)) seen_both;
    begins = delivers.begins;
    out = delivers.out;
    turns = delivers.turns;
    take = λ rank peer done rest member is.
        delivers.hear rank peer (gathered items told rank done)
        ∙ ap (holding rank) (ap (λ (xs : List I). gathered items told rank done ++ xs) (sym (append-nil (items peer (told peer rank))))
        ∙ sym (flat_map-append (λ p. items p (told p rank)) done (peer ∷ [])));
    finish = delivers.finish;
  }

module _ {L M I : Type 0} (play : Play L M) (items : ℕ → M → List I) (holding : ℕ → List I → L) (members : List ℕ) (before after : ℕ → L) where
  -- a round that gathers
  pub gathers_by : (sees : ℕ → ℕ → Bool) → IsStrictlyIncreasing members → AreMutual members sees (λ rank. play.peers members (before rank))
      → Gathers play items holding members before after → LeadsBy (as_delivery play) members (gathering play items holding members before) before after
  gathers_by sees rise seen_both gathers =
      delivers_by (as_delivery play) items (λ from to. play.tell (before from) to) (λ rank done. before rank) holding members before after sees rise seen_both
      (record {
        begins = λ rank member. refl;
        out = λ rank to done rest member is. refl;
        turns = λ rank member. sym (gathers.none rank member);
        hear = gathers.hear;
        finish = gathers.finish;
      })

-- a round in which nobody talks
pub alone_by : {L M : Type 0} (play : Delivery L M) (nothing : M) (members : List ℕ) (before after : ℕ → L) → ((rank : ℕ) → IsTrue (is_member members rank) → play.peers members (before rank) ≡ [])
    → ((rank : ℕ) → IsTrue (is_member members rank) → play.finish (before rank) ≡ after rank) → LeadsBy play members (alone nothing before) before after
alone_by play nothing members before after none ends = record {
  peers = none;
  rising = λ rank member k below. absurd (omega (arith, below));
  others = λ rank member. All-nil (λ peer. IsTrue (is_member members peer) × (peer ≢ rank));
  symmetric = λ rank peer member other seen. absurd (cc);
  begins = λ rank member. refl;
  out = λ rank to done rest member is. absurd (no_peer done rest to is);
  turns = λ rank member. refl;
  take = λ rank peer done rest member is. absurd (no_peer done rest peer is);
  finish = ends;
}
  where
    no_peer : (done rest : List ℕ) (x : ℕ) → [] ≡ done ++ x ∷ rest → ⊥
    no_peer [] rest x is = cc
    no_peer (y ∷ done) rest x is = cc

-- what a part does, the whole does
pub part_by : {L N M K : Type 0} (play : Delivery N K) (whole : Delivery L M) (embed embed_after : ℕ → N → L) (wrap : K → M) → IsPartOf play whole embed embed_after wrap
    → (members : List ℕ) (course : Course N K) (before after : ℕ → N) → LeadsBy play members course before after
    → LeadsBy whole members (lifted embed wrap course) (λ rank. embed rank (before rank)) (λ rank. embed_after rank (after rank))
part_by {N = N} {K = K} play whole embed embed_after wrap part members course before after leads = record {
  peers = λ rank member. part.peers members rank (before rank) ∙ leads.peers rank member;
  rising = leads.rising;
  others = leads.others;
  symmetric = leads.symmetric;
  begins = λ rank member. ap (embed rank) (leads.begins rank member);
  out = λ rank to done rest member is. part.out rank to (course.sent rank done) ∙ ap (λ (p : N × K). (embed rank p.0, wrap p.1)) (leads.out rank to done rest member is);
  turns = λ rank member. ap (embed rank) (leads.turns rank member);
  take = λ rank peer done rest member is. part.hear rank peer (course.heard rank done) (course.told peer rank) ∙ ap (embed rank) (leads.take rank peer done rest member is);
  finish = λ rank member. part.finish rank (course.heard rank (course.peers rank)) ∙ ap (embed_after rank) (leads.finish rank member);
}

-- what a part weighs, beside what else the rank has
pub part_conserves : {L N M K : Type 0} (of_local : L → ℕ) (of_message : M → ℕ) (of_part : N → ℕ) (of_word : K → ℕ) (embed embed_after : ℕ → N → L) (wrap : K → M) (base : ℕ → ℕ)
    → ((rank : ℕ) (n : N) → of_local (embed rank n) ≡ base rank + of_part n) → ((rank : ℕ) (n : N) → of_local (embed_after rank n) ≡ base rank + of_part n)
    → ((word : K) → of_message (wrap word) ≡ of_word word)
    → (members : List ℕ) (course : Course N K) (after : ℕ → N) → Conserves of_part of_word members course after
    → Conserves of_local of_message members (lifted embed wrap course) (λ rank. embed_after rank (after rank))
part_conserves of_local of_message of_part of_word embed embed_after wrap base weighs weighs_after same members course after conserves = record {
  out = λ rank to done rest member is.
      joined _ _ _ _ _ _ _ (weighs rank (course.sent rank (done ++ to ∷ []))) (same (course.told rank to)) (weighs rank (course.sent rank done)) (conserves.out rank to done rest member is);
  take = λ rank peer done rest member is.
      sym (joined _ _ _ _ _ _ _ (weighs rank (course.heard rank done)) (same (course.told peer rank)) (weighs rank (course.heard rank (done ++ peer ∷ []))) (sym (conserves.take rank peer done rest member is)));
  finish = λ rank member.
      weighs_after rank (after rank) ∙ ap (λ n. base rank + n) (conserves.finish rank member) ∙ sym (weighs rank (course.heard rank (course.peers rank)));
}
  where
    joined : (a b c d e f g : ℕ) → a ≡ d + e → b ≡ f → c ≡ d + g → e + f ≡ g → a + b ≡ c
    joined a b c d e f g one two three four = omega arith

-- where messages weigh nothing, and a rank's locals all weigh the same
pub still_conserves : {L M : Type 0} (of_local : L → ℕ) (of_message : M → ℕ) (members : List ℕ) (course : Course L M) (after : ℕ → L) (weight : ℕ → ℕ)
    → ((from to : ℕ) → of_message (course.told from to) ≡ 0)
    → ((rank : ℕ) (done : List ℕ) → of_local (course.sent rank done) ≡ weight rank) → ((rank : ℕ) (done : List ℕ) → of_local (course.heard rank done) ≡ weight rank)
    → ((rank : ℕ) → IsTrue (is_member members rank) → of_local (after rank) ≡ weight rank) → Conserves of_local of_message members course after
still_conserves of_local of_message members course after weight light sent heard ends = record {
  out = λ rank to done rest member is. joined _ _ _ _ (sent rank (done ++ to ∷ [])) (light rank to) (sent rank done);
  take = λ rank peer done rest member is. sym (joined _ _ _ _ (heard rank done) (light peer rank) (heard rank (done ++ peer ∷ [])));
  finish = λ rank member. ends rank member ∙ sym (heard rank (course.peers rank));
}
  where
    joined : (a b c d : ℕ) → a ≡ d → b ≡ 0 → c ≡ d → a + b ≡ c
    joined a b c d one two three = omega arith

-- a play through a lens is that of the part
pub lens_part : {L N M K : Type 0} (lens : Lens L N M K) (play : Delivery N K) (embed : ℕ → N → L) → IsLens lens embed → IsPartOf play (through lens play) embed embed lens.wrap
lens_part {L = L} {N = N} {M = M} {K = K} lens play embed is = record {
  peers = λ members rank n. ap (play.peers members) (is.taken rank n);
  out = λ rank to n. ap (λ (x : N). (lens.give (embed rank n) (play.out x to).0, lens.wrap (play.out x to).1)) (is.taken rank n)
      ∙ ap (λ (l : L). (l, lens.wrap (play.out n to).1)) (is.given rank n (play.out n to).0);
  hear = λ rank peer n msg. ap (λ (x : N). lens.give (embed rank n) (play.hear x peer (lens.unwrap (lens.wrap msg)))) (is.taken rank n)
      ∙ ap (λ (word : K). lens.give (embed rank n) (play.hear n peer word)) (is.read msg) ∙ is.given rank n (play.hear n peer msg);
  finish = λ rank n. ap (λ (x : N). lens.give (embed rank n) (play.finish x)) (is.taken rank n) ∙ is.given rank n (play.finish n);
}

-- so what locals and messages weigh stays on each of its courses
pub weighs_conserves : {L M : Type 0} (of_local : L → ℕ) (of_message : M → ℕ) (play : Delivery L M) → Weighs of_local of_message play
    → (members : List ℕ) (course : Course L M) (before after : ℕ → L) → LeadsBy play members course before after → Conserves of_local of_message members course after
weighs_conserves {L = L} {M = M} of_local of_message play weighs members course before after leads = record {
  out = λ rank to done rest member is. ap (λ (p : L × M). of_local p.0 + of_message p.1) (sym (leads.out rank to done rest member is)) ∙ weighs.out (course.sent rank done) to;
  take = λ rank peer done rest member is. ap of_local (sym (leads.take rank peer done rest member is)) ∙ weighs.hear (course.heard rank done) peer (course.told peer rank);
  finish = λ rank member. ap of_local (sym (leads.finish rank member)) ∙ weighs.finish (course.heard rank (course.peers rank));
}

-- on locals that are the same at each member
pub leads_same : {L M : Type 0} (play : Delivery L M) (members : List ℕ) (course : Course L M) (before after before_is after_is : ℕ → L)
    → ((rank : ℕ) → IsTrue (is_member members rank) → before rank ≡ before_is rank) → ((rank : ℕ) → IsTrue (is_member members rank) → after rank ≡ after_is rank)
    → LeadsBy play members course before after → LeadsBy play members course before_is after_is
leads_same play members course before after before_is after_is one two leads = record {
  peers = λ rank member. ap (play.peers members) (sym (one rank member)) ∙ leads.peers rank member;
  rising = leads.rising;
  others = leads.others;
  symmetric = leads.symmetric;
  begins = λ rank member. leads.begins rank member ∙ one rank member;
  out = leads.out;
  turns = leads.turns;
  take = leads.take;
  finish = λ rank member. leads.finish rank member ∙ two rank member;
}

pub conserves_same : {L M : Type 0} (of_local : L → ℕ) (of_message : M → ℕ) (members : List ℕ) (course : Course L M) (after after_is : ℕ → L)
    → ((rank : ℕ) → IsTrue (is_member members rank) → after rank ≡ after_is rank) → Conserves of_local of_message members course after → Conserves of_local of_message members course after_is
conserves_same of_local of_message members course after after_is same conserves = record {
  out = conserves.out;
  take = conserves.take;
  finish = λ rank member. ap of_local (sym (same rank member)) ∙ conserves.finish rank member;
}

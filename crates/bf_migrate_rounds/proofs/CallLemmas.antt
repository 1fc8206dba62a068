-- What the calls of the round ask, and what they make.
use Rattle.std.proofs.Common.{◌≡◌, ◌≢◌, ℕ, inl, inr, List, [], ◌∷◌, ◌++◌, map, filter, flat_map, get_or, length, All, Contains, IsTrue, refl, sym, ap, ◌∙◌, subst, arith}
use Rattle.std.specs.List.Sorted.{IsStrictlyIncreasing}
use Rattle.std.proofs.lemmas.List.Elements.{All-cons, All-contains, All-head, All-map, All-nil, All-tail, Contains-append_left, Contains-append_right, Contains-get_or}
use Rattle.std.proofs.lemmas.List.FromFn.{length-map-range_with_len}
use Rattle.std.proofs.lemmas.List.Sorted.{All-permutation}
use Rattle.bf_lemmas.proofs.Lists.{All-from_Contains}
use Rattle.bf_buddy.specs.Members.{is_member}
use Rattle.bf_id.specs.Id.{BlockId, child_of, id_eq}
use Rattle.bf_id.proofs.Tilings.{Contains-head, Contains-tail}
use Rattle.bf_case.specs.declared.case.Case.{Case}
use Rattle.bf_case.specs.declared.target.Target.{Target}
use Rattle.bf_case.specs.declared.target.Target.TheVariants.{Keep, Refine, Merge}
use Rattle.bf_case.specs.Model.{regrids}
use Rattle.bf_case.proofs.ListLemmas.{Contains-map}
use Rattle.bf_block.specs.declared.point.Point.{Point}
use Rattle.bf_block.specs.Block.{BlockValue, IsModels, after_regrid, before_regrid}
use Rattle.bf_block.specs.Eighth.{AreMeans, AreOctet, EighthValue, merged_block}
use Rattle.bf_block.specs.Runs.{CanRun}
use Rattle.bf_block.specs.declared.cargo.Cargo.{Cargo}
use Rattle.bf_block.specs.declared.cargo.Cargo.TheVariants.{Whole, Piece}
use Rattle.bf_block.proofs.MergedLemmas.{merged_is_models}
use Rattle.bf_mark_rounds.specs.Neighbors.{AreOwned}
use Rattle.bf_migrate.specs.Lots.{AreBlocksOf, IsLotOf, Lot, Octet, Ready, cargo_id, cargo_in}
use Rattle.bf_msg.specs.declared.linked_block.LinkedBlock.{LinkedBlock}
use Rattle.bf_proxy.specs.declared.proxy.Proxy.{Proxy}
use Rattle.bf_migrate_rounds.specs.Calls.{linked_to, AreLotsFrom, CanGive, CanPack, CanUnpack, IsKnown, IsLotFrom, MakesFrom}
use Rattle.bf_migrate_rounds.specs.Holdings.{Holdings, on_hand}
use Rattle.bf_migrate_rounds.specs.Plays.{assembled, cargo_of, eighths, made_of, merged_of, packed, rank_in, wholes, with_links}
use Rattle.bf_migrate_rounds.specs.Shares.{held_before, held_heard, held_sent, model_block, new_ids, old_ids, plan_at, two_way_peers, with_rank}
use Rattle.bf_migrate_rounds.proofs.BlockLemmas.{block_is}
use Rattle.bf_migrate_rounds.proofs.EndLemmas.{came, gained, hand_is, hand_once}
use Rattle.bf_migrate_rounds.proofs.ListLemmas.{only_named, permuted_one}
use Rattle.bf_migrate_rounds.proofs.LotLemmas.{pieces_from}
use Rattle.bf_migrate_rounds.proofs.PeerLemmas.{is_target}
use Rattle.bf_migrate_rounds.proofs.SendLemmas.{packed_sent, rank_told}
use Rattle.bf_migrate_rounds.proofs.TellLemmas.{are_targets, stand_before}

-- ---- what cargo makes by the origins of proxies

module _ (c : Case) (time : ℕ) where
  merged : (q : BlockId) (parts : List EighthValue) → AreOctet c time q parts → All AreMeans parts → merged_of q parts ≡ model_block c (after_regrid time) q ∷ []
  merged q [] octet are = absurd (let long : 0 ≡ 8 = ap length octet.ids ∙ length-map-range_with_len (child_of q) 0 8 in omega arith)
  merged q (e ∷ more) octet are =
      let parts : List EighthValue = e ∷ more in
      ap (λ (x : Case). merged_block x e.point.time q parts ∷ []) (All-head (λ (v : EighthValue). v.case ≡ c) e more octet.cases)
      ∙ ap (λ (p : Point). merged_block c p.time q parts ∷ []) (All-head (λ (v : EighthValue). v.point ≡ before_regrid time) e more octet.points)
      ∙ ap (λ (b : BlockValue). b ∷ []) (block_is c time q (merged_block c time q parts) (record { case = refl; point = refl; id = refl })
      (merged_is_models c time q parts octet are e refl))

  module _ (cargo : List Cargo) where
    abbrev pub IsMade : Proxy → Type 0
    IsMade proxy = made_of proxy.origin cargo proxy.id ≡ model_block c (after_regrid time) proxy.id ∷ []

    abbrev IsAlone : Cargo → Type 0
    IsAlone x = cargo_of cargo (cargo_id x) ≡ x ∷ []

    whole_made : (t : Target) (q : BlockId) → t ≢ Merge → made_of t cargo q ≡ wholes (cargo_of cargo q)
    whole_made Keep q other = refl
    whole_made Refine q other = refl
    whole_made Merge q other = absurd (other refl)

    eighths_in : (parts : List EighthValue) → ((e : EighthValue) → Contains parts e → IsAlone (Piece e))
        → eighths (flat_map (cargo_of cargo) (map (λ (e : EighthValue). e.id) parts)) ≡ parts
    eighths_in [] alone = refl
    eighths_in (e ∷ parts) alone =
        ap (λ xs. eighths (xs ++ flat_map (cargo_of cargo) (map (λ (v : EighthValue). v.id) parts))) (alone e (Contains-head e parts))
        ∙ ap (λ (es : List EighthValue). e ∷ es) (eighths_in parts (λ v has. alone v (Contains-tail e parts v has)))

    made_by : (proxy : Proxy) (lot : Lot) → IsLotOf c time proxy.id lot → IsLotFrom proxy.origin lot → ((x : Cargo) → Contains (cargo_in lot) x → IsAlone x × IsKnown x)
        → IsMade proxy
    made_by proxy (Ready b) at other each =
        let own = each (Whole b) (Contains-head (Whole b) []) in
        whole_made proxy.origin proxy.id other ∙ ap (λ q. wholes (cargo_of cargo q)) (sym at.id) ∙ ap wholes own.0
        ∙ ap (λ (x : BlockValue). x ∷ []) (block_is c time proxy.id b at own.1)
    made_by proxy (Octet parts) octet merges each =
        ap (λ t. made_of t cargo proxy.id) merges
        ∙ ap (λ is. merged_of proxy.id (eighths (flat_map (cargo_of cargo) is))) (sym octet.ids)
        ∙ ap (merged_of proxy.id) (eighths_in parts (λ e has. (each (Piece e) (Contains-map Piece parts e has)).0))
        ∙ merged proxy.id parts octet (All-from_Contains AreMeans parts (λ e has. (each (Piece e) (Contains-map Piece parts e has)).1))

    all_made : (proxies : List Proxy) (some : List Cargo) → AreLotsFrom c time proxies some → ((x : Cargo) → Contains some x → IsAlone x × IsKnown x) → All IsMade proxies
    all_made [] some none each = All-nil IsMade
    all_made (proxy ∷ proxies) some (lot, (rest, (front, (is, more)))) each =
        All-cons IsMade proxy proxies
        (made_by proxy lot is.0 is.1 (λ x has. each x (subst (λ xs. Contains xs x) (sym front) (Contains-append_left (cargo_in lot) rest x has))))
        (all_made proxies rest more (λ x has. each x (subst (λ xs. Contains xs x) (sym front) (Contains-append_right (cargo_in lot) rest x has))))

-- ---- blocks that cargo makes, linked as their proxies, are what the play assembles

module _ (c : Case) (time : ℕ) (cargo : List Cargo) where
  abbrev Made : Proxy → Type 0
  Made = IsMade c time cargo

  linked_is : (proxies : List Proxy) (blocks : List BlockValue) → All Made proxies → AreBlocksOf c time proxies blocks → All IsModels blocks
      → linked_to proxies blocks ≡ assembled proxies cargo
  linked_is [] blocks made none models = ap (linked_to []) none
  linked_is (proxy ∷ proxies) blocks made (b, (rest, (first, (at, more)))) models =
      let both : All IsModels (b ∷ rest) = subst (All IsModels) first models in
      ap (linked_to (proxy ∷ proxies)) first
      ∙ ap (λ (x : BlockValue). with_links proxy x ∷ linked_to proxies rest) (block_is c time proxy.id b at (All-head IsModels b rest both))
      ∙ ap (λ (os : List LinkedBlock). with_links proxy (model_block c (after_regrid time) proxy.id) ∷ os)
      (linked_is proxies rest (All-tail Made proxy proxies made) more (All-tail IsModels b rest both))
      ∙ sym (ap (λ bs. map (with_links proxy) bs ++ assembled proxies cargo) (All-head Made proxy proxies made))

  pub unpacked_is : (proxies : List Proxy) (blocks : List BlockValue) → MakesFrom c time proxies cargo → All IsKnown cargo → AreBlocksOf c time proxies blocks
      → All IsModels blocks → linked_to proxies blocks ≡ assembled proxies cargo
  unpacked_is proxies blocks from known are models =
      let ordered : List Cargo = from.ordered in
      let all : All IsKnown ordered = All-permutation IsKnown cargo ordered from.same known in
      linked_is proxies blocks
      (all_made c time cargo proxies ordered from.lots (λ x has. (
        permuted_one (λ y. id_eq (cargo_id y) (cargo_id x)) cargo ordered x from.same (only_named cargo_id ordered x from.rising has),
        All-contains IsKnown ordered x all has,
      )))
      are models

-- ---- ranks on the course of the round

module _ (c : Case) (time : ℕ) (runs : CanRun c) (does : IsTrue (regrids c time)) (owner later : BlockId → ℕ) where
  abbrev targets_of : (rank : ℕ) → List BlockId
  targets_of rank = filter (is_target c time runs does owner later rank) (new_ids c time)

  can_give : (rank : ℕ) → CanGive (plan_at c time owner later rank).targets (held_before c time owner later rank).blocks
  can_give rank =
      let are = are_targets c time runs does owner later rank in
      let targets : List (BlockId × ℕ) = (plan_at c time owner later rank).targets in
      record {
        case = c;
        time = time;
        before = stand_before c time runs does owner later rank;
        told = record {
          rising = are.rising;
          ranked = All-map (λ (t : BlockId × ℕ). t.1 ≡ rank_in targets t.0) (with_rank c time owner later) (targets_of rank)
              (λ k d below. sym (rank_told c time runs does owner later rank (get_or (targets_of rank) k d) (Contains-get_or (targets_of rank) k d below)));
          exact = are.exact;
        };
      }

  pub can_pack : (rank : ℕ) (done : List ℕ) → CanPack (plan_at c time owner later rank).targets (held_sent c time owner later rank done).blocks
  can_pack rank [] = inr (can_give rank)
  can_pack rank (first ∷ done) = inl refl

  module _ (members : List ℕ) (rise : IsStrictlyIncreasing members) (owned : AreOwned (old_ids c time) owner members) (owned_later : AreOwned (new_ids c time) later members) where
    abbrev peers : ℕ → List ℕ
    peers = two_way_peers c time owner later members

    abbrev heard : ℕ → List Cargo
    heard = gained c time runs does owner later members rise owned owned_later

    pub can_unpack : (rank : ℕ) → IsTrue (is_member members rank)
        → CanUnpack (plan_at c time owner later rank).proxies (on_hand (packed (plan_at c time owner later rank) (held_heard c time owner later members rank (heard rank))))
    can_unpack rank member =
        let proxies : List Proxy = (plan_at c time owner later rank).proxies in
        let is = ap (λ (h : Holdings). on_hand (record h { arrived = heard rank })) (packed_sent c time runs does owner later rank (peers rank))
        ∙ hand_is c time runs does owner later members rise owned owned_later rank in (
          c,
          (
            time,
            subst (MakesFrom c time proxies) (sym is) (pieces_from c time runs does owner later rank
                (came c time runs does owner later members rise owned owned_later rank (rank ∷ peers rank))
                (hand_once c time runs does owner later members rise owned owned_later rank member)),
          ),
        )

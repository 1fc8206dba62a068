-- A lone block that a regrid keeps can be packed and unpacked.
use Rattle.std.proofs.Common.{◌≡◌, ◌≢◌, ℕ, true, inr, List, [], ◌∷◌, ◌++◌, map, Contains, IsTrue, refl, sym, ap, ◌∙◌, subst, arith}
use Rattle.std.proofs.lemmas.List.Elements.{All-cons, All-nil}
use Rattle.std.proofs.lemmas.List.Sorted.{IsPermutation-refl}
use Rattle.bf_id.specs.Id.{BlockId, id_eq}
use Rattle.bf_id.proofs.Boxes.{id_eq_is_equal}
use Rattle.bf_case.specs.declared.target.Target.{Target}
use Rattle.bf_case.specs.declared.target.Target.TheVariants.{Keep, Merge}
use Rattle.bf_case.specs.Model.{regrids}
use Rattle.bf_block.specs.declared.cargo.Cargo.{Cargo}
use Rattle.bf_block.specs.declared.cargo.Cargo.TheVariants.{Whole}
use Rattle.bf_block.specs.declared.point.Point.{Point}
use Rattle.bf_block.specs.Block.{BlockValue, IsRegriddedTo, after_regrid, before_regrid, kept_block}
use Rattle.bf_links.specs.declared.link.Link.{Link}
use Rattle.bf_migrate.specs.Giving.{Gift, gifts_by}
use Rattle.bf_migrate.specs.Lots.{IsBlockAt, Ready}
use Rattle.bf_migrate.specs.Targets.{proxies_of}
use Rattle.bf_proxy.specs.declared.proxy.Proxy.{Proxy}
use Rattle.bf_migrate_rounds.specs.Calls.{CanPack, CanUnpack}
use Rattle.bf_migrate_rounds.specs.Plays.{rank_in}

module _ (b : BlockValue) (first : b.point ≡ before_regrid 0) (keeps : IsRegriddedTo Keep b.case b.point b.id) where
  does : IsTrue (regrids b.case 0)
  does = subst (λ (p : Point). IsTrue (regrids b.case p.time)) first keeps.regrids

  pub can_pack_kept : (links : List Link) (r : ℕ) → CanPack ((b.id, r) ∷ []) (record { block = b; links = links } ∷ [])
  can_pack_kept links r = inr (record {
    case = b.case;
    time = 0;
    before = record {
      regrids = does;
      cases = All-cons (λ (x : BlockValue). x.case ≡ b.case) b [] refl (All-nil (λ (x : BlockValue). x.case ≡ b.case));
      points = All-cons (λ (x : BlockValue). x.point ≡ before_regrid 0) b [] first (All-nil (λ (x : BlockValue). x.point ≡ before_regrid 0));
    };
    told = record {
      rising = λ i j d below within. absurd (omega arith);
      ranked = All-cons (λ (t : BlockId × ℕ). t.1 ≡ rank_in ((b.id, r) ∷ []) t.0) (b.id, r) [] ranked (All-nil (λ (t : BlockId × ℕ). t.1 ≡ rank_in ((b.id, r) ∷ []) t.0));
      exact = λ q. (subst (λ qs. Contains qs q) (sym gets), subst (λ qs. Contains qs q) gets);
    };
  })
    where
      ranked : r ≡ rank_in ((b.id, r) ∷ []) b.id
      ranked = let same : id_eq b.id b.id ≡ true = (id_eq_is_equal b.id b.id).1 refl in rw same refl

      gets : proxies_of (b ∷ []) ≡ b.id ∷ []
      gets = ap (λ (t : Target). map (λ (gift : Gift). gift.0) (gifts_by t b) ++ []) keeps.target_is

  abbrev kept : BlockValue
  kept = kept_block b

  abbrev goods : List Cargo
  goods = Whole kept ∷ []

  pub can_unpack_kept : (p : Proxy) → p.id ≡ b.id → p.origin ≡ Keep → CanUnpack (p ∷ []) goods
  can_unpack_kept p id keep =
      let at : IsBlockAt b.case 0 p.id kept = record { case = refl; point = ap (λ (x : Point). after_regrid x.time) first; id = sym id } in
      let other : p.origin ≢ Merge = λ merges. let wrong : Keep ≡ Merge = sym keep ∙ merges in cc in (
        b.case,
        (
          0,
          record {
            ordered = goods;
            same = IsPermutation-refl goods;
            rising = λ i j d below within. absurd (omega arith);
            lots = (Ready kept, ([], (refl, ((at, other), refl))));
          },
        ),
      )

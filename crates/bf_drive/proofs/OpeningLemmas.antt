-- Ranks before their first events.
use Rattle.std.proofs.Common.{◌≡◌, ℕ, zero, suc, ◌+◌, ◌<◌, cond, List, [], ◌∷◌, ◌++◌, length, arith, refl, ap, sym, ◌∙◌, subst, append_assoc, length-append, zero-add}
use Rattle.std.specs.Prelude.{Some}
use Rattle.std.specs.List.{range_with_len}
use Rattle.std.proofs.Math.ListN.{get_or}
use Rattle.std.proofs.lemmas.Bool.{eq-eqb, ne_eqb}
use Rattle.std.proofs.lemmas.List.{append-nil}
use Rattle.std.proofs.lemmas.List.FromFn.{length-range_with_len}
use Rattle.bf_program.specs.declared.epoch.Epoch.{Epoch}
use Rattle.bf_program.specs.Epochs.{first_epoch}
use Rattle.bf_program.specs.Meanings.{Meanings}
use Rattle.bf_program.specs.Laws.{KeepsGood, KeepsReads}
use Rattle.bf_program.specs.Lockstep.{local_of}
use Rattle.bf_rank.specs.declared.stand.Stand.TheVariants as stands
use Rattle.bf_rank.specs.Ranks.{RankView, IsAt}
use Rattle.bf_rank.specs.Steps.{holding}
use Rattle.bf_rank.proofs.OpenLemmas.{opens_at}
use Rattle.bf_drive.specs.Drives.{AreAt}

-- ranks from a first one on, each with its local
unfoldable pub opened_from : {L : Type 0} → Epoch → ℕ → List L → List (RankView L)
opened_from epoch first [] = []
opened_from epoch first (local ∷ locals) = holding first local epoch stands.Opening ∷ opened_from epoch (first + 1) locals

opened_length : {L : Type 0} (epoch : Epoch) (first : ℕ) (locals : List L) → length (opened_from epoch first locals) ≡ length locals
unfolding opened_from
opened_length epoch first [] = refl
opened_length epoch first (local ∷ locals) = ap suc (opened_length epoch (first + 1) locals)

-- the rank at a place of the list, and its local
record IsOpened {L : Type 0} (epoch : Epoch) (first : ℕ) (locals : List L) (place : ℕ) (view : RankView L) : Type 0 where
  local : L
  is : view ≡ holding (first + place) local epoch stands.Opening
  its : local_of (range_with_len first (length locals)) locals (first + place) ≡ Some local

opened_at : {L : Type 0} (epoch : Epoch) (first : ℕ) (locals : List L) (place : ℕ) (default : RankView L) → place < length locals
    → IsOpened epoch first locals place (get_or (opened_from epoch first locals) place default)
unfolding opened_from
opened_at epoch first [] place default below = absurd (omega arith)
opened_at {L = L} epoch first (local ∷ locals) zero default below =
    let here : first + 0 ≡ first = omega arith in
    record {
      local = local;
      is = ap (λ r. holding r local epoch stands.Opening) (sym here);
      its = ap (λ b. cond b (Some local) (local_of (range_with_len (first + 1) (length locals)) locals (first + 0))) (eq-eqb first (first + 0) (sym here));
    }
opened_at epoch first (local ∷ locals) (suc place) default below =
    let rest = opened_at epoch (first + 1) locals place default (omega (arith, below)) in
    let there : first + 1 + place ≡ first + suc place = omega arith in
    record {
      local = rest.local;
      is = rest.is ∙ ap (λ r. holding r rest.local epoch stands.Opening) there;
      its = ap (λ b. cond b (Some local) (local_of (range_with_len (first + 1) (length locals)) locals (first + suc place)))
          (ne_eqb first (first + suc place) (λ e. omega arith))
          ∙ ap (local_of (range_with_len (first + 1) (length locals)) locals) (sym there) ∙ rest.its;
    }

-- none is made at first
pub opened_none : {L : Type 0} (epoch : Epoch) (ranks : List (RankView L)) (locals rest : List L) → ranks ≡ [] → rest ≡ locals
    → ranks ++ opened_from epoch (length ranks) rest ≡ opened_from epoch 0 locals
opened_none epoch ranks locals rest none all = ap (λ rs. rs ++ opened_from epoch (length rs) rest) none ∙ ap (opened_from epoch 0) all

-- one more rank is made
pub opened_more : {L : Type 0} (epoch : Epoch) (ranks : List (RankView L)) (locals rest : List L) (local : L) (more : List L) (view : RankView L) (rank : ℕ)
    → ranks ++ opened_from epoch (length ranks) rest ≡ opened_from epoch 0 locals → rest ≡ local ∷ more → rank ≡ length ranks
    → view ≡ holding rank local epoch stands.Opening
    → (ranks ++ view ∷ []) ++ opened_from epoch (length (ranks ++ view ∷ [])) more ≡ opened_from epoch 0 locals
unfolding opened_from
opened_more epoch ranks locals rest local more view rank so_far is counted made =
    let view_is : view ≡ holding (length ranks) local epoch stands.Opening = made ∙ ap (λ r. holding r local epoch stands.Opening) counted in
    append_assoc ranks (view ∷ []) (opened_from epoch (length (ranks ++ view ∷ [])) more)
    ∙ ap (λ n. ranks ++ (view ∷ opened_from epoch n more)) (length-append ranks (view ∷ []))
    ∙ ap (λ v. ranks ++ (v ∷ opened_from epoch (length ranks + 1) more)) view_is
    ∙ ap (λ l. ranks ++ opened_from epoch (length ranks) l) (sym is)
    ∙ so_far

pub opened_all : {L : Type 0} (epoch : Epoch) (ranks : List (RankView L)) (locals rest : List L)
    → ranks ++ opened_from epoch (length ranks) rest ≡ opened_from epoch 0 locals → length rest ≡ 0 → ranks ≡ opened_from epoch 0 locals
unfolding opened_from
opened_all epoch ranks locals [] so_far none = sym (append-nil ranks) ∙ so_far
opened_all epoch ranks locals (local ∷ rest) so_far none = absurd (omega (arith, none))

module _ {S L M T R : Type 0} (m : Meanings S L M T R) (good : S → Epoch → ℕ → List L → Type 0) (setup : S) (goods : KeepsGood m good setup) (saves : KeepsReads m setup) where
  pub all_opened : (ranks : List (RankView L)) (locals : List L) (epoch : Epoch) → ranks ≡ opened_from epoch 0 locals → locals ≡ m.opening setup
      → epoch ≡ first_epoch (m.ranks setup) (m.steps setup) (m.interval setup) → AreAt m good setup [] ranks
  all_opened ranks locals epoch are is begins = subst (AreAt m good setup []) (sym are) (record {
    every = opened_length epoch 0 locals ∙ count;
    its = λ rank default below.
        let within : rank < length locals = omega (arith, below, opened_length epoch 0 locals) in
        let at = opened_at epoch 0 locals rank default within in
        let local = at.local in
        let there : local_of (range_with_len 0 (length locals)) locals rank ≡ Some local =
        subst (λ r. local_of (range_with_len 0 (length locals)) locals r ≡ Some local) (zero-add rank) at.its in
        let found : local_of (range_with_len 0 (m.ranks setup)) (m.opening setup) rank ≡ Some local =
        subst (λ l. local_of (range_with_len 0 (m.ranks setup)) l rank ≡ Some local) is
        (subst (λ n. local_of (range_with_len 0 n) locals rank ≡ Some local) count there) in
        subst (λ v. (v.rank ≡ rank) × IsAt m good setup [] v) (sym (at.is ∙ ap (λ r. holding r local epoch stands.Opening) (zero-add rank)))
        (refl, opens_at m good setup saves rank local epoch (omega (arith, within, count)) begins found);
  })
    where
      count : length locals ≡ m.ranks setup
      count = ap length is ∙ goods.one_each (first_epoch (m.ranks setup) (m.steps setup) (m.interval setup)) 0 (m.opening setup) goods.opening
          ∙ length-range_with_len 0 (m.ranks setup)

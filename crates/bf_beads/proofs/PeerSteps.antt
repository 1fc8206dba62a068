-- The loop that leaves out those who are no peers.
use Rattle.std.proofs.Common.{◌≡◌, ℕ, ◌+◌, ◌<◌, ◌≤◌, true, false, List, All}
use Rattle.std.specs.Prelude.{◌==◌, not, filter}
use Rattle.bf_lemmas.proofs.Passes.{passed_below, passed_start, passed_stays, passed_goes, passed_end}
use Rattle.bf_beads.specs.declared.local.BeadLocal.{BeadLocal}
use Rattle.bf_beads.specs.declared.stage.Stage.{Stage}
use Rattle.bf_beads.specs.Peers.{is_peer}

-- members that are peers, or not yet looked at
unfoldable pub peers_below : Stage → (members : List ℕ) → (shift : ℕ) → BeadLocal → (upto : ℕ) → List ℕ
peers_below stage members shift local upto = passed_below (is_peer stage members shift local) members upto

pub start : (stage : Stage) (members : List ℕ) (shift : ℕ) (local : BeadLocal) → members ≡ peers_below stage members shift local 0
unfolding peers_below
start stage members shift local = passed_start (is_peer stage members shift local) members

pub stays : (stage : Stage) (members : List ℕ) (shift : ℕ) (local : BeadLocal) (other : ℕ) → is_peer stage members shift local other ≡ true
    → peers_below stage members shift local other ≡ peers_below stage members shift local (other + 1)
unfolding peers_below
stays stage members shift local other passes = passed_stays (is_peer stage members shift local) members other passes

pub goes : (stage : Stage) (members : List ℕ) (shift : ℕ) (local : BeadLocal) (other : ℕ) → is_peer stage members shift local other ≡ false
    → filter (λ member. not (member == other)) (peers_below stage members shift local other) ≡ peers_below stage members shift local (other + 1)
unfolding peers_below
goes stage members shift local other fails = passed_goes (is_peer stage members shift local) members other fails

pub end : (stage : Stage) (members : List ℕ) (shift : ℕ) (local : BeadLocal) (upto : ℕ) → All (λ r. r < 32) members → 32 ≤ upto
    → peers_below stage members shift local upto ≡ filter (is_peer stage members shift local) members
unfolding peers_below
end stage members shift local upto below past = passed_end (is_peer stage members shift local) 32 upto members below past

pub ruleset peer_steps = (start, stays, goes, end)

-- Texts that are printed on a sheet: a page that remembers whether its sink has failed.
use Rattle.std.specs.Prelude.{◌≡◌, ℕ, ◌≤◌, Bool, true, false, List, [], ◌++◌, Option}
use Rattle.bf_edge.specs.Faults.{Rose}
use Rattle.bf_edge.specs.Page.{Puts}
use Rattle.bf_edge.specs.Sink.{AppendsPrefix}

pub record SheetValue : Type 0 where
  pub waiting : List ℕ  -- the bytes that wait to be written
  pub failed : Bool  -- whether the sink has failed

-- nothing is printed yet
abbrev pub blank_sheet : SheetValue
blank_sheet = record { waiting = []; failed = false }

-- how bytes are printed, by whether the sink had failed before and whether it has failed by now: they are written behind what waited, or wait; a front
-- of both is written, and the sink's count of faults rose; or nothing is done for a sink that had failed
abbrev pub PrintsBy : Bool → Bool → Option (List ℕ) → Option (List ℕ) → ℕ → ℕ → List ℕ → List ℕ → List ℕ → Type 0
PrintsBy false false old new faults faults_then waited waits bytes = Puts old new waited waits bytes × (faults_then ≡ faults)
PrintsBy false true old new faults faults_then waited waits bytes =
    AppendsPrefix old new (waited ++ bytes) × Rose faults faults_then × (faults ≤ faults_then)
PrintsBy true true old new faults faults_then waited waits bytes = (new ≡ old) × (faults_then ≡ faults)
PrintsBy true false old new faults faults_then waited waits bytes = ⊥

-- the bytes are printed on the sheet of a sink, of which `written` tells what it has taken and `faults` how often it has failed
pub record Prints {S : Type 0} (written : S → Option (List ℕ)) (faults : S → ℕ) (old new : S) (before after : SheetValue) (bytes : List ℕ) : Type 0 where
  pub printed : PrintsBy before.failed after.failed (written old) (written new) (faults old) (faults new) before.waiting after.waiting bytes

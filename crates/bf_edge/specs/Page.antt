-- Bytes that go to a sink by way of a page, where they wait until it is written.
use Rattle.std.specs.Prelude.{◌≡◌, ℕ, ◌≤◌, List, ◌++◌, length, take, drop, Option}
use Rattle.bf_edge.specs.Sink.{appended}

-- of the bytes that waited and then these, the first so many are written, and the others wait
pub record Puts (old new : Option (List ℕ)) (waited waits bytes : List ℕ) : Type 0 where
  pub count : ℕ
  pub within : count ≤ length (waited ++ bytes)
  pub written : new ≡ appended old (take count (waited ++ bytes))
  pub waiting : waits ≡ drop count (waited ++ bytes)

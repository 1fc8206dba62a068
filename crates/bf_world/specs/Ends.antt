-- What is said of how runs end.
use Rattle.std.specs.Prelude.{◌≡◌, Bool, true, false, []}
use Rattle.bf_program.specs.Meanings.{Meanings}
use Rattle.bf_core.specs.declared.event.Event.{Event}
use Rattle.bf_core.specs.declared.event.Event.TheVariants.{Send, Recv, Arrive, Leave, Die}
use Rattle.bf_core.specs.declared.event.How.TheVariants.{Broken}

-- no rank is to die
abbrev pub NobodyDies : {S L M T R : Type 0} → Meanings S L M T R → S → Type 0
NobodyDies m setup = m.deaths setup ≡ []

-- whether an event tells of a death: it is one, or an arrival that is broken by one
abbrev pub tells_of_death : Event → Bool
tells_of_death (Send rank to blocks sum) = false
tells_of_death (Recv rank peer) = false
tells_of_death (Arrive rank Broken) = true
tells_of_death (Arrive rank _) = false
tells_of_death (Leave rank) = false
tells_of_death (Die rank) = true

-- whether an event is a death
abbrev pub is_death : Event → Bool
is_death (Send rank to blocks sum) = false
is_death (Recv rank peer) = false
is_death (Arrive rank how) = false
is_death (Leave rank) = false
is_death (Die rank) = true

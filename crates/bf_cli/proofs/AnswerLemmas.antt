-- Why an answer comes, and when.
use Rattle.std.proofs.Common.{◌≡◌, ℕ, ◌+◌, ◌-◌, ◌^◌, ◌<◌, Bool, true, false, cond, Result, Ok, Err, List, ◌∷◌, Option, Some, None, IfSome, length, take, inl, inr, refl, sym, ◌∙◌, ap, subst, arith, lit<}
use Rattle.std.proofs.lemmas.List.{take_all, length-take}
use Rattle.std.specs.Prelude.{◌⊎◌, IsTrue, is_some, Contains}
use Rattle.std.proofs.lemmas.Bool.{cases_lt, eqb-true, lt-ltb}
use Rattle.bf_edge.specs.Faults.{Rose}
use Rattle.bf_case.specs.declared.case.Case.{Case}
use Rattle.bf_forest.specs.Setup.{case_of}
use Rattle.bf_core.specs.declared.outcome.Outcome.{Outcome}
use Rattle.bf_core.specs.declared.outcome.Outcome.TheVariants.{Finished, Lost, Memory}
use Rattle.bf_cli.specs.declared.command.Command.{Command}
use Rattle.bf_cli.specs.declared.command.Command.TheVariants as commands
use Rattle.bf_cli.specs.declared.status.Status.{Status}
use Rattle.bf_cli.specs.declared.status.Status.TheVariants as status
use Rattle.bf_cli.specs.declared.answer.Answer.{Answer}
use Rattle.bf_cli.specs.declared.answer.Answer.TheVariants as answers
use Rattle.bf_text.specs.declared.code.Refusal.{Refusal}
use Rattle.bf_text.specs.Codes.{number_of}
use Rattle.bf_text.specs.Reading.{input_limit, reading}
use Rattle.bf_cli.specs.declared.input.Input.{Input}
use Rattle.bf_cli.specs.declared.input.Input.TheVariants as input
use Rattle.bf_cli.specs.Commands.{Words, words_of, IsCommand, IsUsage, serves}
use Rattle.bf_cli.specs.Inputs.{if_served, input_of, input_for, Accepts, Refuses}
use Rattle.bf_cli.specs.Driven.{ForestWorld, outcome_of, HasRun, IsWorldOf, IsWanting, EndsAs}
use Rattle.bf_cli.specs.Ends.{SourceEnds, SinkEnds, IsUnread, IsRead, source_of}
use Rattle.bf_cli.specs.Answers.{status_line, Prints, Loses, HandsOut, IsAnswerOf, IsAnswer, no_command, of_command, Tells, IsSafe, IsDue, in_place_of}
use Rattle.bf_cli.specs.Told.{IsMeantBy, IsCaused}
use Rattle.bf_cli.proofs.DrivenLemmas.{EndsWell, not_lost}

-- ---- what a command makes of bytes

-- what a command runs is spelled and served
pub record IsServed (command : Command) (bytes : List ℕ) (c : Case) : Type 0 where
  pub spelled : reading bytes ≡ Ok c
  pub served : IsTrue (serves command c)

served_case : (command : Command) (c d : Case) (b : Bool) → serves command d ≡ b → if_served command d ≡ input.Accepted c → (d ≡ c) × IsTrue (serves command c)
served_case command c d true is accepted =
    let same : input.Accepted d ≡ input.Accepted c = sym (ap (λ t. cond t (input.Accepted d) (input.Refused 0 99)) is) ∙ accepted in
    let its : d ≡ c = cc in (its, subst (λ k. IsTrue (serves command k)) its is)
served_case command c d false is accepted =
    absurd (let no : input.Refused 0 99 ≡ input.Accepted c = sym (ap (λ t. cond t (input.Accepted d) (input.Refused 0 99)) is) ∙ accepted in cc)

served_spelled : (command : Command) (bytes : List ℕ) (c : Case) (spelled : Result Case Refusal) → reading bytes ≡ spelled → input_of command spelled ≡ input.Accepted c
    → IsServed command bytes c
served_spelled command bytes c (Ok d) is accepted =
    let both = served_case command c d (serves command d) refl accepted in
    record { spelled = is ∙ ap (λ k. Ok k) both.0; served = both.1 }
served_spelled command bytes c (Err refusal) is accepted =
    absurd (let no : input.Refused refusal.line (number_of refusal.code) ≡ input.Accepted c = accepted in cc)

pub served : (command : Command) (bytes : List ℕ) (c : Case) → Accepts command bytes c → IsServed command bytes c
served command bytes c accepted = served_spelled command bytes c (reading bytes) refl accepted

pub no_regrid : (command : Command) (c : Case) → command ≡ commands.Drive → IsTrue (serves command c) → c.regrid ≡ 0
no_regrid command c is served = eqb-true c.regrid 0 (subst (λ k. IsTrue (serves k c)) is served)

refused_alike : (command : Command) (bytes : List ℕ) (line code l k : ℕ) → Refuses command bytes line code → Refuses command bytes l k
    → status.Refused line code ≡ status.Refused l k
refused_alike command bytes line code l k p q = let same : input.Refused line code ≡ input.Refused l k = sym p ∙ q in cc

-- bytes that are refused are not run
refused_runs_none : (command : Command) (bytes : List ℕ) (line code : ℕ) (c : Case) → Refuses command bytes line code → Accepts command bytes c → ⊥
refused_runs_none command bytes line code c p q = absurd (let no : input.Refused line code ≡ input.Accepted c = sym p ∙ q in cc)

-- ---- answers to bytes

ranks_want : (bytes : List ℕ) (w : ForestWorld) (meant : Status) (text : List ℕ) (world : Option ForestWorld) → IsWorldOf (Some bytes) w → IsWanting w
    → meant ≡ status.Memory → text ≡ status_line status.Memory → world ≡ Some w → IsAnswerOf commands.Drive (source_of bytes) meant text world
ranks_want bytes w meant text world its wanting memory is out =
    subst (λ s. IsAnswerOf commands.Drive (source_of bytes) s text world) (sym memory)
    (refl, subst (λ o. IfSome o (λ v. IsWorldOf (Some bytes) v × IsWanting v)) (sym out) (its, wanting), is)

ranks_mean : (bytes : List ℕ) (w : ForestWorld) (end : Option Outcome) (meant : Status) (text : List ℕ) (world : Option ForestWorld) → IsWorldOf (Some bytes) w
    → outcome_of w ≡ end → IsMeantBy w end meant text → world ≡ Some w → IsAnswerOf commands.Drive (source_of bytes) meant text world
ranks_mean bytes w (Some Finished) meant text world its ends (inl (ok, is)) out =
    subst (λ s. IsAnswerOf commands.Drive (source_of bytes) s text world) (sym ok)
    (record { left = refl; steady = refl }, (w, its, ends, is, out))
ranks_mean bytes w (Some Finished) meant text world its ends (inr (memory, is)) out = ranks_want bytes w meant text world its (inr ends) memory is out
ranks_mean bytes w (Some (Lost time home buddy)) meant text world its ends (lost, is) out =
    subst (λ s. IsAnswerOf commands.Drive (source_of bytes) s text world) (sym lost)
    (record { left = refl; steady = refl }, (w, its, ends, out), is)
ranks_mean bytes w (Some Memory) meant text world its ends (memory, is) out = ranks_want bytes w meant text world its (inl ends) memory is out
ranks_mean bytes w None meant text world its ends meant_by out = absurd (let no : IsTrue false = subst (λ o. IsTrue (is_some o)) ends its.run.ended in cc)

-- a world of ranks
pub ranks_answer : (c : Case) (w : ForestWorld) (command : Command) → command ≡ commands.Drive → HasRun w → case_of w.setup ≡ c
    → (bytes : List ℕ) → Accepts command bytes c → IsCaused (IsAnswerOf command (source_of bytes)) (answers.World w)
ranks_answer c w command drives run is bytes accepted meant text world ends =
    let its : IsWorldOf (Some bytes) w =
    record { run = run; its = subst (λ d. Accepts commands.Drive bytes d) (sym is) (subst (λ k. Accepts k bytes c) drives accepted) } in
    subst (λ k. IsAnswerOf k (source_of bytes) meant text world) (sym drives) (ranks_mean bytes w (outcome_of w) meant text world its refl ends.0 ends.1)

-- a refusal
pub refusal_answers : (command : Command) (bytes : List ℕ) (line code : ℕ) → Refuses command bytes line code
    → IsCaused (IsAnswerOf command (source_of bytes)) (answers.Line (status.Refused line code))
refusal_answers command bytes line code refused meant text world (is, its, none) =
    subst (λ s. IsAnswerOf command (source_of bytes) s text world) (sym is) (record { left = refl; steady = refl }, refused, its, none)

-- ---- from the bytes read to all that the source had

-- the front of an input is the whole of it, or both are too long: they are read alike
front_reads_alike : (all bytes : List ℕ) → bytes ≡ take (input_limit + 1) all → reading bytes ≡ reading all
front_reads_alike all bytes e =
    elim (cases_lt input_limit (length all)) [
      | inl long ↦
          let short_too : input_limit < length bytes = omega (arith, ap length e, length-take (input_limit + 1) all) in
          rw (lt-ltb input_limit (length bytes) short_too, lt-ltb input_limit (length all) long) refl
      | inr short ↦ ap reading (e ∙ take_all (input_limit + 1) all (omega arith))
    ]

front_alike : (command : Command) (all bytes : List ℕ) → bytes ≡ take (input_limit + 1) all → input_for command all ≡ input_for command bytes
front_alike command all bytes e = ap (input_of command) (sym (front_reads_alike all bytes e))

-- what a command makes of bytes it makes of all that they are the front of
of_all : (command : Command) (left : Option (List ℕ)) (bytes : List ℕ) (made : Input) → IfSome left (λ all. bytes ≡ take (input_limit + 1) all)
    → input_for command bytes ≡ made → IfSome left (λ all. input_for command all ≡ made)
of_all command None bytes made e is = tt
of_all command (Some all) bytes made e is = front_alike command all bytes e ∙ is

world_of_all : (left : Option (List ℕ)) (bytes : List ℕ) (w : ForestWorld) → IfSome left (λ all. bytes ≡ take (input_limit + 1) all)
    → IsWorldOf (Some bytes) w → IsWorldOf left w
world_of_all left bytes w e its = record { run = its.run; its = of_all commands.Drive left bytes (input.Accepted (case_of w.setup)) e its.its }

hands_out_of_all : (command : Command) (left : Option (List ℕ)) (bytes : List ℕ) (world : Option ForestWorld) → IfSome left (λ all. bytes ≡ take (input_limit + 1) all)
    → HandsOut command (Some bytes) world → HandsOut command left world
hands_out_of_all commands.One left bytes world e out = out
hands_out_of_all commands.Drive left bytes None e out = tt
hands_out_of_all commands.Drive left bytes (Some w) e out = (world_of_all left bytes w e out.0, out.1)

loses_of_all : (command : Command) (left : Option (List ℕ)) (bytes : List ℕ) (time home buddy : ℕ) (world : Option ForestWorld)
    → IfSome left (λ all. bytes ≡ take (input_limit + 1) all) → Loses command (Some bytes) time home buddy world → Loses command left time home buddy world
loses_of_all commands.One left bytes time home buddy world e its = its
loses_of_all commands.Drive left bytes time home buddy world e its = (its.0, world_of_all left bytes its.0 e its.1, its.2, its.3)

prints_of_all : (command : Command) (left : Option (List ℕ)) (bytes text : List ℕ) (world : Option ForestWorld) → IfSome left (λ all. bytes ≡ take (input_limit + 1) all)
    → Prints command (Some bytes) text world → Prints command left text world
prints_of_all commands.One left bytes text world e its = (its.0, its.1, of_all commands.One left bytes (input.Accepted its.0) e its.2, its.3, its.4)
prints_of_all commands.Drive left bytes text world e its = (its.0, world_of_all left bytes its.0 e its.1, its.2, its.3, its.4)

never_rises : Rose 0 0 → ⊥
never_rises (inl more) = omega (arith, more)
never_rises (inr last) = absurd (let no : 0 ≡ 2 ^ 64 - 1 = last in omega (arith, no))

answer_of_all : (command : Command) (source : SourceEnds) (bytes : List ℕ) (meant : Status) (text : List ℕ) (world : Option ForestWorld)
    → IfSome source.left (λ all. bytes ≡ take (input_limit + 1) all) → IsRead source
    → IsAnswerOf command (source_of bytes) meant text world → IsAnswerOf command source meant text world
answer_of_all command source bytes status.Ok text world e read its = (read, prints_of_all command source.left bytes text world e its.1)
answer_of_all command source bytes (status.Refused line code) text world e read its =
    (read, of_all command source.left bytes (input.Refused line code) e its.1, its.2, its.3)
answer_of_all command source bytes (status.Lost time home buddy) text world e read its =
    (read, loses_of_all command source.left bytes time home buddy world e its.1, its.2)
answer_of_all command source bytes status.Memory text world e read its =
    (read.steady, hands_out_of_all command source.left bytes world e its.1, its.2)
answer_of_all command source bytes status.ReadFault text world e read its = absurd (never_rises its.0)
answer_of_all command source bytes status.Usage text world e read its = absurd its
answer_of_all command source bytes status.WriteFault text world e read its = absurd its

-- what is answered to the front of an input is answered to all of it
pub caused_of_all : (command : Command) (source : SourceEnds) (bytes : List ℕ) (answer : Answer)
    → IfSome source.left (λ all. bytes ≡ take (input_limit + 1) all) → IsRead source
    → IsCaused (IsAnswerOf command (source_of bytes)) answer → IsCaused (IsAnswerOf command source) answer
caused_of_all command source bytes answer e read caused meant text world is = answer_of_all command source bytes meant text world e read (caused meant text world is)

-- ---- answers to a source, and to words

pub usage_answers : (words : Words) (source : SourceEnds) → IsUsage words → IsUnread source → IsCaused (IsAnswer words source) (answers.Line status.Usage)
usage_answers words source usage unread meant text world (is, its, none) =
    subst (λ s. IsAnswer words source s text world) (sym is)
    (subst (λ t. IsAnswer words source status.Usage t world) (sym its)
    (subst (λ w. IsAnswer words source status.Usage (status_line status.Usage) w) (sym none) (no_command usage unread)))

pub command_answers : (words : Words) (source : SourceEnds) (command : Command) (answer : Answer) → IsCommand words command
    → IsCaused (IsAnswerOf command source) answer → IsCaused (IsAnswer words source) answer
command_answers words source command answer its caused meant text world is = of_command command its (caused meant text world is)

-- ---- when an answer comes

-- the words of one command are not another's
one_command : (words : Words) (a b : Command) → IsCommand words a → IsCommand words b → a ≡ b
one_command words commands.One commands.One p q = refl
one_command words commands.Drive commands.Drive p q = refl
one_command words commands.One commands.Drive p q = absurd (let e : words_of commands.One ≡ words_of commands.Drive = sym p ∙ q in cc)
one_command words commands.Drive commands.One p q = absurd (let e : words_of commands.Drive ≡ words_of commands.One = sym p ∙ q in cc)

-- what is meant is the answer of the command that was asked for
answer_of : (words : Words) (source : SourceEnds) (meant : Status) (text : List ℕ) (world : Option ForestWorld) (command : Command) → IsCommand words command
    → IsAnswer words source meant text world → IsAnswerOf command source meant text world
answer_of words source meant text world command its (no_command usage unread) = absurd (usage command its)
answer_of words source meant text world command its (of_command other is cause) =
    subst (λ k. IsAnswerOf k source meant text world) (one_command words other command is its) cause

meant_usage : (words : Words) (source : SourceEnds) (meant : Status) (text : List ℕ) (world : Option ForestWorld) → IsUsage words
    → IsAnswer words source meant text world → meant ≡ status.Usage
meant_usage words source meant text world usage (no_command _ unread) = refl
meant_usage words source meant text world usage (of_command command its cause) = absurd (usage command its)

-- where the source's count rose, a fault in reading is meant
meant_fault : (words : Words) (source : SourceEnds) (meant : Status) (text : List ℕ) (world : Option ForestWorld) → source.faults < source.faults_then
    → IsAnswer words source meant text world → meant ≡ status.ReadFault
meant_fault words source meant text world rose (no_command usage unread) = absurd (omega (arith, rose, unread.steady))
meant_fault words source status.Ok text world rose (of_command command its cause) = absurd (omega (arith, rose, cause.0.steady))
meant_fault words source status.Usage text world rose (of_command command its cause) = absurd cause
meant_fault words source (status.Refused l k) text world rose (of_command command its cause) = absurd (omega (arith, rose, cause.0.steady))
meant_fault words source (status.Lost t h b) text world rose (of_command command its cause) = absurd (omega (arith, rose, cause.0.steady))
meant_fault words source status.Memory text world rose (of_command command its cause) = absurd (omega (arith, rose, cause.0))
meant_fault words source status.ReadFault text world rose (of_command command its cause) = refl
meant_fault words source status.WriteFault text world rose (of_command command its cause) = absurd cause

-- no world is handed out
none_ends : (world : Option ForestWorld) (outcome : Outcome) → world ≡ None → EndsAs world outcome → ⊥
none_ends world outcome none ends = absurd (let no : None ≡ Some ends.0 = sym none ∙ ends.1 in cc)

-- a world has one end
one_end : (world : Option ForestWorld) (w : ForestWorld) (x y : Outcome) → world ≡ Some w → outcome_of w ≡ Some x → EndsAs world y → x ≡ y
one_end world w x y out is ends =
    let same : Some w ≡ Some ends.0 = sym out ∙ ends.1 in
    let one : w ≡ ends.0 = cc in
    let both : Some x ≡ Some y = sym is ∙ ap outcome_of one ∙ ends.2 in cc

-- what may be meant where a world is handed out, by how its run ended
abbrev IsMeantAt : Outcome → Status → Type 0
IsMeantAt Finished meant = (meant ≡ status.Ok) ⊎ (meant ≡ status.Memory)
IsMeantAt (Lost time home buddy) meant = meant ≡ status.Lost time home buddy
IsMeantAt Memory meant = meant ≡ status.Memory

wanting_at : (world : Option ForestWorld) (w : ForestWorld) (y : Outcome) → world ≡ Some w → IsWanting w → EndsAs world y → IsMeantAt y status.Memory
wanting_at world w y out (inl memory) ends = subst (λ o. IsMeantAt o status.Memory) (one_end world w Memory y out memory ends) refl
wanting_at world w y out (inr finished) ends = subst (λ o. IsMeantAt o status.Memory) (one_end world w Finished y out finished ends) (inr refl)

of_command_at : (command : Command) (source : SourceEnds) (meant : Status) (text : List ℕ) (world : Option ForestWorld) (y : Outcome) → EndsAs world y
    → IsAnswerOf command source meant text world → IsMeantAt y meant
of_command_at commands.One source status.Ok text world y ends cause = absurd (none_ends world y cause.1.4 ends)
of_command_at commands.Drive source status.Ok text world y ends cause =
    subst (λ o. IsMeantAt o status.Ok) (one_end world cause.1.0 Finished y cause.1.4 cause.1.2 ends) (inl refl)
of_command_at command source status.Usage text world y ends cause = absurd cause
of_command_at command source (status.Refused l k) text world y ends cause = absurd (none_ends world y cause.3 ends)
of_command_at commands.One source (status.Lost t h b) text world y ends cause = absurd cause.1
of_command_at commands.Drive source (status.Lost t h b) text world y ends cause =
    subst (λ o. IsMeantAt o (status.Lost t h b)) (one_end world cause.1.0 (Lost t h b) y cause.1.3 cause.1.2 ends) refl
of_command_at commands.One source status.Memory text world y ends cause = absurd (none_ends world y cause.1 ends)
of_command_at commands.Drive source status.Memory text world y ends cause =
    wanting_at world ends.0 y ends.1 (subst (λ o. IfSome o (λ v. IsWorldOf source.left v × IsWanting v)) ends.1 cause.1).1 ends
of_command_at command source status.ReadFault text world y ends cause = absurd (none_ends world y cause.2 ends)
of_command_at command source status.WriteFault text world y ends cause = absurd cause

meant_at : (words : Words) (source : SourceEnds) (meant : Status) (text : List ℕ) (world : Option ForestWorld) (y : Outcome) → EndsAs world y
    → IsAnswer words source meant text world → IsMeantAt y meant
meant_at words source meant text world y ends (no_command usage unread) = absurd (none_ends None y refl ends)
meant_at words source meant text world y ends (of_command command its cause) = of_command_at command source meant text world y ends cause

-- what is so of told bytes
of_told : (left : Option (List ℕ)) (bytes : List ℕ) (P : List ℕ → Type 0) → left ≡ Some bytes → IfSome left P → P bytes
of_told left bytes P is all = subst (λ l. IfSome l P) is all

-- the bytes that a command prints a map for are not refused
prints_none_refused : (command : Command) (left : Option (List ℕ)) (bytes text : List ℕ) (world : Option ForestWorld) (line code : ℕ) → left ≡ Some bytes
    → Prints command left text world → Refuses command bytes line code → ⊥
prints_none_refused commands.One left bytes text world line code is its refused =
    refused_runs_none commands.One bytes line code its.0 refused (of_told left bytes (λ b. Accepts commands.One b its.0) is its.2)
prints_none_refused commands.Drive left bytes text world line code is its refused =
    refused_runs_none commands.Drive bytes line code (case_of its.0.setup) refused
    (of_told left bytes (λ b. Accepts commands.Drive b (case_of its.0.setup)) is its.1.its)

loses_none_refused : (command : Command) (left : Option (List ℕ)) (bytes : List ℕ) (time home buddy : ℕ) (world : Option ForestWorld) (line code : ℕ)
    → left ≡ Some bytes → Loses command left time home buddy world → Refuses command bytes line code → ⊥
loses_none_refused commands.One left bytes time home buddy world line code is its refused = its
loses_none_refused commands.Drive left bytes time home buddy world line code is its refused =
    refused_runs_none commands.Drive bytes line code (case_of its.0.setup) refused
    (of_told left bytes (λ b. Accepts commands.Drive b (case_of its.0.setup)) is its.1.its)

refused_due : (command : Command) (source : SourceEnds) (bytes : List ℕ) (meant s : Status) (text : List ℕ) (world : Option ForestWorld) (line code : ℕ)
    → source.left ≡ Some bytes → Refuses command bytes line code → s ≡ meant → IsAnswerOf command source meant text world
    → Contains (status.Refused line code ∷ in_place_of (status.Refused line code)) s
refused_due command source bytes status.Ok s text world line code is refused same cause =
    absurd (prints_none_refused command source.left bytes text world line code is cause.1 refused)
refused_due command source bytes status.Usage s text world line code is refused same cause = absurd cause
refused_due command source bytes (status.Refused l k) s text world line code is refused same cause =
    (0, lit< tt, refused_alike command bytes line code l k refused (of_told source.left bytes (λ b. Refuses command b l k) is cause.1) ∙ sym same)
refused_due command source bytes (status.Lost t h b) s text world line code is refused same cause =
    absurd (loses_none_refused command source.left bytes t h b world line code is cause.1 refused)
refused_due command source bytes status.Memory s text world line code is refused same cause = (1, lit< tt, sym same)
refused_due command source bytes status.ReadFault s text world line code is refused same cause = (2, lit< tt, sym same)
refused_due command source bytes status.WriteFault s text world line code is refused same cause = absurd cause

-- a world of these bytes is of their case
of_these : (left : Option (List ℕ)) (bytes : List ℕ) (c : Case) (w : ForestWorld) → left ≡ Some bytes → Accepts commands.Drive bytes c → IsWorldOf left w
    → case_of w.setup ≡ c
of_these left bytes c w is accepted its =
    let same : input.Accepted (case_of w.setup) ≡ input.Accepted c =
    sym (of_told left bytes (λ b. Accepts commands.Drive b (case_of w.setup)) is its.its) ∙ accepted in cc

-- where a command comes to its map nothing is lost
safe_loses_none : (command : Command) (left : Option (List ℕ)) (bytes : List ℕ) (c : Case) (time home buddy : ℕ) (world : Option ForestWorld) → EndsWell
    → left ≡ Some bytes → Accepts command bytes c → IsSafe command c world → Loses command left time home buddy world → ⊥
safe_loses_none commands.One left bytes c time home buddy world ends_well is accepted safe its = its
safe_loses_none commands.Drive left bytes c time home buddy world ends_well is accepted (inl nobody) its =
    not_lost its.0 time home buddy ends_well its.1.run (ap (λ (k : Case). k.dies) (of_these left bytes c its.0 is accepted its.1) ∙ nobody) its.2
safe_loses_none commands.Drive left bytes c time home buddy world ends_well is accepted (inr not) its = not time home buddy (its.0, its.3, its.2)

map_due : (command : Command) (source : SourceEnds) (bytes : List ℕ) (c : Case) (meant s : Status) (text : List ℕ) (world : Option ForestWorld) → EndsWell
    → source.left ≡ Some bytes → Accepts command bytes c → IsSafe command c world → s ≡ meant → IsAnswerOf command source meant text world
    → Contains (status.Ok ∷ in_place_of status.Ok) s
map_due command source bytes c status.Ok s text world ends_well is accepted safe same cause = (0, lit< tt, sym same)
map_due command source bytes c status.Usage s text world ends_well is accepted safe same cause = absurd cause
map_due command source bytes c (status.Refused l k) s text world ends_well is accepted safe same cause =
    absurd (refused_runs_none command bytes l k c (of_told source.left bytes (λ b. Refuses command b l k) is cause.1) accepted)
map_due command source bytes c (status.Lost t h b) s text world ends_well is accepted safe same cause =
    absurd (safe_loses_none command source.left bytes c t h b world ends_well is accepted safe cause.1)
map_due command source bytes c status.Memory s text world ends_well is accepted safe same cause = (1, lit< tt, sym same)
map_due command source bytes c status.ReadFault s text world ends_well is accepted safe same cause = (2, lit< tt, sym same)
map_due command source bytes c status.WriteFault s text world ends_well is accepted safe same cause = absurd cause

pub due_answers : (words : Words) (source : SourceEnds) (sink : SinkEnds) (meant s : Status) (text : List ℕ) (world : Option ForestWorld) → EndsWell
    → IsAnswer words source meant text world → Tells meant text s sink → (due : Status) → IsDue words source sink world due → Contains (due ∷ in_place_of due) s
due_answers words source sink meant s text world ends_well cause (inl whole) status.Usage usage =
    (0, lit< tt, sym (whole.0 ∙ meant_usage words source meant text world usage cause))
due_answers words source sink meant s text world ends_well cause (inl whole) status.ReadFault rose =
    (0, lit< tt, sym (whole.0 ∙ meant_fault words source meant text world rose cause))
due_answers words source sink meant s text world ends_well cause (inl whole) (status.Refused line code) asked =
    refused_due asked.0 source asked.1.0 meant s text world line code asked.1.1.1 asked.1.1.2 whole.0
    (answer_of words source meant text world asked.0 asked.1.1.0 cause)
due_answers words source sink meant s text world ends_well cause (inl whole) status.Ok asked =
    map_due asked.0 source asked.1.0 asked.1.1.2.0 meant s text world ends_well asked.1.1.1 asked.1.1.2.1 asked.1.1.2.2 whole.0
    (answer_of words source meant text world asked.0 asked.1.1.0 cause)
due_answers words source sink meant s text world ends_well cause (inl whole) (status.Lost time home buddy) ends =
    (0, lit< tt, sym (whole.0 ∙ meant_at words source meant text world (Lost time home buddy) ends cause))
due_answers words source sink meant s text world ends_well cause (inl whole) status.Memory ends =
    (0, lit< tt, sym (whole.0 ∙ meant_at words source meant text world Memory ends cause))
due_answers words source sink meant s text world ends_well cause (inl whole) status.WriteFault rose = absurd (omega (arith, rose, whole.2))
due_answers words source sink meant s text world ends_well cause (inr front) status.Usage usage = (1, lit< tt, sym front.0)
due_answers words source sink meant s text world ends_well cause (inr front) status.ReadFault rose = (1, lit< tt, sym front.0)
due_answers words source sink meant s text world ends_well cause (inr front) (status.Refused line code) asked = (3, lit< tt, sym front.0)
due_answers words source sink meant s text world ends_well cause (inr front) status.Ok asked = (3, lit< tt, sym front.0)
due_answers words source sink meant s text world ends_well cause (inr front) (status.Lost time home buddy) ends = (1, lit< tt, sym front.0)
due_answers words source sink meant s text world ends_well cause (inr front) status.Memory ends = (1, lit< tt, sym front.0)
due_answers words source sink meant s text world ends_well cause (inr front) status.WriteFault rose = (0, lit< tt, sym front.0)

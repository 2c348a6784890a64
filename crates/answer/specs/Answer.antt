-- What the program prints for an input, byte by byte (document 01, 'The bracketed text': "Input of the program, on
-- standard input" and "All that it prints"), and the contract of the call that does it.
use Rattle.std.specs.Prelude.{ℕ, ◌≡◌, List, [], ◌∷◌, ◌++◌, ◌↔◌, length, take, Ok, Err}
use Rattle.layout.specs.Words.{most_tasks, most_words}
use Rattle.schedule.specs.Counted.{kept}
use Rattle.taskset.specs.Refusals.{number, second, Check, Accepts, Refuses, room_check, ready_checks, planner_checks}
use Rattle.taskset.specs.Calls.{Selected, Copied, walk_of}
use Rattle.taskset.specs.DemandThree.{PlanPromise, NoneKeeps}
use Rattle.taskset.specs.Planning.{planning}
use Rattle.taskset.specs.declared.Engine.TheVariants.{Table}
use Rattle.layout.specs.declared.Layout.TheVariants.{Ordinary}
use Rattle.text.specs.Text.{Script, IsTextOf, words}
use Rattle.text.specs.Calls.{reader_checks}
use Rattle.lines.specs.Lines.{plan_line, rate_lines, walk_line, refused_line}
use Rattle.taskset.specs.Answers.{CopyAnswer}

-- "It has 16,384 working words": and a plan word for each of as many tasks as a set can have.
abbrev pub work_lent : ℕ
work_lent = 16384

abbrev pub plan_lent : ℕ
plan_lent = most_tasks

-- Its list for the words that it reads has room for every set.
abbrev pub set_lent : ℕ
set_lent = most_words

-- THE LINES OF A PLAN. For the set s: no check of the planner's holds; P is the plan that document 01 selects, with its
-- unit, load, L and energy; the walk of P, from the set's first releases, is kept with its counts; and out is their lines:
-- the plan's, one a task from task number 1 on, the walk's.
pub record PrintsPlan (s P out : List ℕ) (unit load hyper energy busy idle preempted : ℕ) : Type 0 where
  pub accepts : Accepts (planner_checks (Table Ordinary) s plan_lent work_lent)
  pub selected : Selected (planning Ordinary s) P (unit ∷ load ∷ hyper ∷ energy ∷ [])
  pub walked : walk_of s P ≡ kept busy idle preempted
  pub lines : out ≡ plan_line unit load hyper energy ++ (rate_lines 1 P ++ walk_line busy idle preempted)

-- The reader takes t, and t is the text of the script s.
pub record Read (s : Script) (t : List ℕ) : Type 0 where
  pub accepts : Accepts (reader_checks t set_lent)
  pub text : IsTextOf s t

-- THE OUTPUT for an input t: "For a refusal it prints only `(refused 7 0)`, with that number and place": of the reader,
-- or of the planner on the words of t's script; else a plan's lines.
pub data Prints (t out : List ℕ) : Type 0 where
  unread : (n k : ℕ) → Refuses (reader_checks t set_lent) n k → out ≡ refused_line n k → Prints t out
  refused : (s : Script) (n k : ℕ) → Read s t → Refuses (planner_checks (Table Ordinary) (words s) plan_lent work_lent) n k
      → out ≡ refused_line n k → Prints t out
  planned : (s : Script) (P : List ℕ) (unit load hyper energy busy idle preempted : ℕ)
      → Read s t → PrintsPlan (words s) P out unit load hyper energy busy idle preempted → Prints t out

-- THE CALL. Its one check is 6: "Receiving list or buffer too short", with the bytes needed. d is the buffer as lent,
-- d' as given back.
abbrev pub output_checks : ℕ → ℕ → List Check
output_checks needed lent = room_check needed lent ∷ []

abbrev pub RespondGives : (t d d' : List ℕ) → CopyAnswer → Type 0
RespondGives t d d' (Ok n) =
    (out : List ℕ) × Prints t out × Accepts (output_checks (length out) (length d)) × Copied out d d' (Ok n)
RespondGives t d d' (Err r) =
    (out : List ℕ) × Prints t out × Refuses (output_checks (length out) (length d)) (number r) (second r) × (d' ≡ d)

-- WHAT AN OUTPUT OWES (demand 3, with notes 5 and 6): the lines of a plan its promise, by the unit and the energy that
-- stand in them; and a refusal of the planner's is 7 exactly when the checks before 7 pass and no plan keeps every
-- deadline for ever.
abbrev pub Owes : {t out : List ℕ} → Prints t out → Type 0
Owes (unread n k r e) = Unit {0}
Owes (refused s n k h r e) =
    (n ≡ 7) ↔ (Accepts (ready_checks (Table Ordinary) (words s) plan_lent work_lent) × NoneKeeps (planning Ordinary (words s)))
Owes (planned s P unit load hyper energy busy idle preempted h x) = PlanPromise (planning Ordinary (words s)) P unit energy

-- The bytes that the call writes are an output, with all that it owes.
abbrev pub RespondOwes : (t d' : List ℕ) → CopyAnswer → Type 0
RespondOwes t d' (Ok n) = (p : Prints t (take n d')) × Owes p
RespondOwes t d' (Err r) = Unit {0}

-- The call's contract.
pub record Responds (t d d' : List ℕ) (a : CopyAnswer) : Type 0 where
  pub gives : RespondGives t d d' a
  pub owes : RespondOwes t d' a

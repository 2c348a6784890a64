-- Document 01's example: for its input the program prints its four lines. And texts with a first release, with a chip,
-- and with an idle line.
-- Assumes nothing.
use Rattle.std.specs.Prelude.{Ok}
use Prim.Native.Nat.{ℕ, ◌≤◌}
use mathlib.Core.Path.{◌≡◌, refl, sym, ◌∙◌, subst}
use mathlib.Core.List.{List, [], ◌∷◌, ◌++◌}
use native.Mathlib.Omega.{arith}
use lib.ListN.{length, replicate, length-replicate}
use lib.Seq.{take_all}
use Rattle.selection.specs.Plan.{Fitting}
use Rattle.layout.specs.Words.{head_kinds, extra_kinds, task_count}
use Rattle.layout.specs.declared.Layout.TheVariants.{Ordinary}
use Rattle.taskset.specs.Quantities.{problem_of, work_needed}
use Rattle.taskset.specs.Refusals.{Accepts, Refuses, ◌▹◌, word_checks, idle_check, idle_checks, hyper_check, work_check}
use Rattle.taskset.specs.Refusals.{room_check, none_check, ready_checks, planner_checks}
use Rattle.taskset.specs.Calls.{walk_values, outcome_values, walk_of, Selected, PlannerGives}
use Rattle.taskset.specs.Planning.{planning}
use Rattle.taskset.specs.declared.Engine.TheVariants.{Table}
use Rattle.taskset.proofs.Checks.{accepts_next, passed}
use Rattle.taskset.proofs.Cases.{S, S_from, chip_set, slow_or_fast, cases}
use Rattle.taskset.proofs.DemandThree.{outcome_kept}
use Rattle.chips.specs.declared.Chip.TheVariants.{Ppc405lp}
use Rattle.text.specs.Text.{bytes, script_text, IsTextOf, script_of}
use Rattle.text.proofs.Copies.{takes}
use Rattle.text.proofs.Sizes.{words-length}
use Rattle.text.proofs.Cases.{example, example_text, example-words, example_from, from_text, from_words, idle_910}
use Rattle.text.proofs.Cases.{idle_899, idle-line_910, idle-line_899}
use Rattle.text.proofs.Cases.{ppc405lp, under_chip, chips, ppc405lp-within, too_much, overs}
use Rattle.lines.specs.Lines.{plan_line, rate_lines, walk_line}
use Rattle.lines.proofs.Example.{printed, printed_lines, chip_printed, chip_lines, refused_9_2, idle_printed}
use Rattle.lines.proofs.Example.{idle_lines, refused_10_9, from_printed, from_lines}
use Rattle.answer.specs.Answer.{work_lent, plan_lent, set_lent, PrintsPlan, Read, Prints, unread, refused, planned}
use Rattle.taskset.specs.Answers.{ok_planned}
use Rattle.taskset.specs.declared.WalkEnd.TheVariants.{Kept}

-- A case of the planner, where just the words needed are lent; more of them change nothing. P is its plan, with the four
-- values, and the walk of P is kept with the three counts.
module _ (s P out lent words words' : List ℕ) (unit load hyper energy busy idle preempted : ℕ)
    (gives : PlannerGives (Table Ordinary) s lent words P words' (ok_planned unit load hyper energy))
    (work : work_needed Ordinary s ≤ work_lent) (room : task_count Ordinary s ≤ plan_lent) (size : length P ≡ task_count Ordinary s)
    (walked : walk_values (Ok (Kept busy idle preempted)) ≡ outcome_values (walk_of s P))
    (lines : out ≡ plan_line unit load hyper energy ++ (rate_lines 1 P ++ walk_line busy idle preempted)) where
  accepts : Accepts (planner_checks (Table Ordinary) s plan_lent work_lent)
  accepts =
      let before = planner_checks (Table Ordinary) s (length lent) (length words) in
      let a = gives.0.0 in
      let two = word_checks Ordinary s in
      let ten = idle_checks Ordinary s in
      let set = ten ▹ hyper_check Ordinary s in
      let five = set ▹ work_check (work_needed Ordinary s) work_lent in
      accepts_next (ready_checks (Table Ordinary) s plan_lent work_lent) (none_check (Fitting (problem_of Ordinary s)))
      (accepts_next five (room_check (task_count Ordinary s) plan_lent)
      (accepts_next set (work_check (work_needed Ordinary s) work_lent)
      (accepts_next ten (hyper_check Ordinary s)
      (accepts_next two (idle_check Ordinary s) (passed 2 before refl a, (passed 3 before refl a, tt)) (passed 10 before refl a))
      (passed 4 before refl a))
      (λ k h. omega (arith, h.0)))
      (λ k h. omega (arith, h.0)))
      (passed 7 before refl a)

  prints : PrintsPlan s P out unit load hyper energy busy idle preempted
  prints =
      let g = gives.0.1 in
      let same : g.0 ≡ P = sym g.2.front ∙ take_all (task_count Ordinary s) P (omega arith) in
      record {
        accepts = accepts;
        selected = subst (λ (Q : List ℕ). Selected (planning Ordinary s) Q (unit ∷ load ∷ hyper ∷ energy ∷ [])) same g.1;
        walked = outcome_kept _ busy idle preempted walked;
        lines = lines;
      }

-- A script that names no chip is read, whatever its numbers.
read_script_lem : (s : List ℕ) (t : List ℕ) → IsTextOf (script_of s) t → Read (script_of s) t
unfolding script_of
read_script_lem s t is = record {
  accepts = takes (script_of s) t set_lent is (λ w. absurd w) (words-length (script_of s) is.script);
  text = is;
}

plan : PrintsPlan (S 100) (2 ∷ 1 ∷ []) printed 1 29 30 41 29 1 1
unfolding S head_kinds extra_kinds
plan =
    prints (S 100) (2 ∷ 1 ∷ []) printed (replicate 2 0) (replicate 243 0) (replicate 243 0) 1 29 30 41 29 1 1
    (cases.planned_100 (replicate 2 0) (replicate 243 0) refl refl)
    (omega arith) (omega arith) refl cases.walk_of_2_1.1 printed_lines

pub example-printed : Prints example printed
unfolding S head_kinds extra_kinds script_of
example-printed =
    planned (script_of (S 100)) (2 ∷ 1 ∷ []) 1 29 30 41 29 1 1
    (read_script_lem (S 100) example example_text)
    (subst (λ (w : List ℕ). PrintsPlan w (2 ∷ 1 ∷ []) printed 1 29 30 41 29 1 1) (sym example-words) plan)

-- The same with a first release: the plan is the same, and the walk is kept to twice the hyper-period.
from_plan : PrintsPlan (S_from 0 7) (2 ∷ 1 ∷ []) from_printed 1 29 30 41 55 5 2
unfolding S_from head_kinds extra_kinds
from_plan =
    prints (S_from 0 7) (2 ∷ 1 ∷ []) from_printed (replicate 2 0) (replicate 243 0) (replicate 243 0) 1 29 30 41 55 5 2
    (cases.planned_from (replicate 2 0) (replicate 243 0) refl refl)
    (omega arith) (omega arith) refl cases.walk_from_lem.1 from_lines

pub from_example-printed : Prints example_from from_printed
unfolding S_from head_kinds extra_kinds script_of
from_example-printed =
    planned (script_of (S_from 0 7)) (2 ∷ 1 ∷ []) 1 29 30 41 55 5 2
    (read_script_lem (S_from 0 7) example_from from_text)
    (subst (λ (w : List ℕ). PrintsPlan w (2 ∷ 1 ∷ []) from_printed 1 29 30 41 55 5 2) (sym from_words) from_plan)

-- A text with a chip prints its four lines too; and where an energy is over the largest, the one line of refusal 9.
chip_plan : PrintsPlan chip_set (2 ∷ 2 ∷ []) chip_printed 128 20 40 1680 20 20 0
unfolding chip_set head_kinds extra_kinds
chip_plan =
    prints chip_set (2 ∷ 2 ∷ []) chip_printed (replicate 2 0) (replicate 51 0) (replicate 51 0) 128 20 40 1680 20 20 0
    (cases.planned_chip (replicate 2 0) (replicate 51 0) refl refl)
    (omega arith) (omega arith) refl cases.walk_chip.1 chip_lines

pub chip_example-printed : Prints ppc405lp chip_printed
unfolding chip_set
chip_example-printed =
    let s = under_chip 500 Ppc405lp 40 1000000 20 500000 in
    planned s (2 ∷ 2 ∷ []) 128 20 40 1680 20 20 0
    (record {
      accepts = takes s ppc405lp set_lent chips.ppc405lp_text ppc405lp-within (words-length s chips.ppc405lp_text.script);
      text = chips.ppc405lp_text;
    })
    (subst (λ (w : List ℕ). PrintsPlan w (2 ∷ 2 ∷ []) chip_printed 128 20 40 1680 20 20 0)
    (sym chips.ppc405lp_words) chip_plan)

pub over-printed : Prints (script_text too_much) (bytes "(refused 9 2)\n")
over-printed = unread 9 2 (overs.over set_lent) (sym refused_9_2)

-- A text with an idle line prints the energy with what idle ticks draw; and where an energy is below that, the one line
-- of refusal 10.
idle_plan : PrintsPlan (slow_or_fast 10 910) (1 ∷ []) idle_printed 1 90 100 1010 90 10 0
unfolding slow_or_fast head_kinds extra_kinds
idle_plan =
    prints (slow_or_fast 10 910) (1 ∷ []) idle_printed (replicate 1 0) (replicate 82 0) (replicate 82 0) 1 90 100 1010 90 10 0
    (cases.idle_counts (replicate 1 0) (replicate 82 0) refl refl)
    (omega arith) (omega arith) refl cases.walk_idle.1 idle_lines

pub idle-example-printed : Prints idle_910 idle_printed
idle-example-printed =
    planned (script_of (slow_or_fast 10 910)) (1 ∷ []) 1 90 100 1010 90 10 0
    (read_script_lem (slow_or_fast 10 910) idle_910 idle-line_910.text)
    (subst (λ (w : List ℕ). PrintsPlan w (1 ∷ []) idle_printed 1 90 100 1010 90 10 0) (sym idle-line_910.words_are) idle_plan)

below : Refuses (planner_checks (Table Ordinary) (slow_or_fast 10 899) plan_lent work_lent) 10 9
below =
    let plan : List ℕ = replicate plan_lent 0 in
    let work : List ℕ = replicate work_lent 0 in
    let refuses : Refuses (planner_checks (Table Ordinary) (slow_or_fast 10 899) (length plan) (length work)) 10 9
    = (cases.idle_above plan work).0.0 in
    subst (λ (w : ℕ). Refuses (planner_checks (Table Ordinary) (slow_or_fast 10 899) plan_lent w) 10 9) (length-replicate {A = ℕ} work_lent 0)
    (subst (λ (p : ℕ). Refuses (planner_checks (Table Ordinary) (slow_or_fast 10 899) p (length work)) 10 9)
    (length-replicate {A = ℕ} plan_lent 0) refuses)

pub below_printed : Prints idle_899 (bytes "(refused 10 9)\n")
below_printed =
    refused (script_of (slow_or_fast 10 899)) 10 9 (read_script_lem (slow_or_fast 10 899) idle_899 idle-line_899.text)
    (subst (λ (w : List ℕ). Refuses (planner_checks (Table Ordinary) w plan_lent work_lent) 10 9) (sym idle-line_899.words_are) below)
    (sym refused_10_9)

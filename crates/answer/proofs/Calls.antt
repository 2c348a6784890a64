-- From the functions below it to the call: what the reader, the planner and the walk give is what is printed.
-- Assumes nothing.
use Rattle.std.specs.Prelude.{Ok, Err}
use Prim.Native.Nat.{ℕ, ◌≤◌, ◌<◌}
use mathlib.Core.Path.{◌≡◌, refl, sym, ap, ◌∙◌, subst}
use mathlib.Core.List.{List, [], ◌++◌}
use native.Mathlib.Omega.{arith}
use lib.ListN.{length, take, drop}
use lib.Seq.{take_at}
use Rattle.selection.specs.Plan.{Fitting}
use Rattle.layout.specs.Words.{task_count, first}
use Rattle.layout.specs.declared.Layout.TheVariants.{Ordinary}
use Rattle.taskset.specs.Quantities.{problem_of, work_needed}
use Rattle.taskset.specs.Refusals.{number, second, Accepts, Refuses, ◌▹◌, word_checks, idle_checks, hyper_check, work_check}
use Rattle.taskset.specs.Refusals.{room_check, none_check, plan_check, ready_checks, planner_checks, walk_checks}
use Rattle.taskset.specs.Calls.{SetAfter}
use Rattle.taskset.specs.declared.Refusal.{Refusal}
use Rattle.taskset.specs.declared.Refusal.TheVariants.{TooShort}
use Rattle.taskset.specs.declared.Engine.TheVariants.{Table}
use Rattle.taskset.proofs.Checks.{accepts_but_last, accepts_next, refuses_next, refuses_before, passed, not-both}
use Rattle.taskset.proofs.DemandThree.{outcome_kept, sound_plan, own_firsts}
use Rattle.taskset.proofs.Copied.{copied, count_is, front_is}
use Rattle.text.specs.Text.{Script, words}
use Rattle.text.specs.Calls.{ReaderGives}
use Rattle.text.proofs.Sizes.{words-length}
use Rattle.lists.specs.Writing.{placed}
use Rattle.lists.proofs.Writing.{length-placed}
use Rattle.printer.specs.Puts.{Put}
use Rattle.lines.specs.Lines.{plan_line, rate_lines, walk_line, refused_line}
use Rattle.lines.proofs.Lengths.{plan_short}
use Rattle.planner.specs.Answers.{PlannerCall}
use Rattle.walk.specs.Answers.{Walked}
use Rattle.answer.specs.Answer.{work_lent, plan_lent, set_lent, Read, Prints, unread, refused, planned}
use Rattle.answer.specs.Answer.{RespondGives, Responds}
use Rattle.answer.specs.Steps as steps
use Rattle.answer.specs.Steps.{PlannedSet, PrintsSet, PutSet, PutAnswer}
use Rattle.answer.proofs.Outputs.{is_set, is_plan, plan_length, promise, owes, output_short}
use Rattle.taskset.specs.Answers.{CopyAnswer, ok_measured, ok_planned}
use Rattle.taskset.specs.declared.WalkEnd.TheVariants.{Kept, Missed}

-- ---- a plan and its walk
module _ {s P : List ℕ} {unit load hyper energy : ℕ} (given : PlannedSet s P unit load hyper energy) where
  pub plan_room : (b i p : ℕ) → length (plan_line unit load hyper energy ++ (rate_lines 1 P ++ walk_line b i p)) ≤ 2048
  plan_room b i p = plan_short unit load hyper energy P b i p (plan_length s given.accepts P unit load hyper energy given.selected)

  pub plan_kept : (b i p : ℕ) (d d' : List ℕ) (n : ℕ) → Walked s P (Ok (Kept b i p))
      → Put (plan_line unit load hyper energy ++ (rate_lines 1 P ++ walk_line b i p)) d d' n → PutSet s d d' n
  plan_kept b i p d d' n w put = (
    plan_line unit load hyper energy ++ (rate_lines 1 P ++ walk_line b i p),
    steps.planned P unit load hyper energy b i p
        (record { accepts = given.accepts; selected = given.selected; walked = outcome_kept _ b i p w.answers.1; lines = refl }),
    put,
  )

  -- The two other answers of the walk do not occur.
  pub not_missed : (t k : ℕ) → Walked s P (Ok (Missed t k)) → ⊥
  not_missed t k w =
      w.owes.from_these
      ((promise s given.accepts P unit load hyper energy given.selected).granted (first Ordinary s)
      (own_firsts Ordinary s (is_set s given.accepts)))

  accepted : Accepts (walk_checks s P)
  accepted =
      let checks = planner_checks (Table Ordinary) s plan_lent work_lent in
      let words = word_checks Ordinary s in
      accepts_next (words ▹ hyper_check Ordinary s) (plan_check Ordinary s P)
      (accepts_next words (hyper_check Ordinary s)
      (passed 2 checks refl given.accepts, (passed 3 checks refl given.accepts, tt)) (passed 4 checks refl given.accepts))
      (sound_plan s P (is_plan s given.accepts P unit load hyper energy given.selected))

  pub not_refused : (r : Refusal) → Walked s P (Err r) → ⊥
  not_refused r w = not-both (walk_checks s P) (number r) (second r) accepted w.answers

-- ---- a set
pub set_refused : (s d d' : List ℕ) (n : ℕ) (r : Refusal)
    → Refuses (planner_checks (Table Ordinary) s plan_lent work_lent) (number r) (second r)
    → Put (refused_line (number r) (second r)) d d' n → PutSet s d d' n
set_refused s d d' n r h put = (refused_line (number r) (second r), steps.refused (number r) (second r) h refl, put)

pub ready_refused : (s : List ℕ) (r : Refusal) → SetAfter (ready_checks (Table Ordinary) s plan_lent work_lent) Ordinary s (Err r)
    → Refuses (planner_checks (Table Ordinary) s plan_lent work_lent) (number r) (second r)
ready_refused s r h =
    refuses_before (ready_checks (Table Ordinary) s plan_lent work_lent) (none_check (Fitting (problem_of Ordinary s)))
    (number r) (second r) h

-- What passes the checks before 7 with some words passes them with more.
pub more_room : (s : List ℕ) (p w p' w' m n l : ℕ) → p ≤ p' → w ≤ w'
    → SetAfter (ready_checks (Table Ordinary) s p w) Ordinary s (ok_measured m n l)
    → SetAfter (ready_checks (Table Ordinary) s p' w') Ordinary s (ok_measured m n l)
more_room s p w p' w' m n l a b h =
    let set = idle_checks Ordinary s ▹ hyper_check Ordinary s in
    let five = work_check (work_needed Ordinary s) w in
    let six = room_check (task_count Ordinary s) p in (
      accepts_next (set ▹ work_check (work_needed Ordinary s) w') (room_check (task_count Ordinary s) p')
          (accepts_next set (work_check (work_needed Ordinary s) w') (accepts_but_last set five (accepts_but_last (set ▹ five) six h.0))
          (λ k x. passed 5 (ready_checks (Table Ordinary) s p w) refl h.0 k (omega (arith, x.0), x.1)))
          (λ k x. passed 6 (ready_checks (Table Ordinary) s p w) refl h.0 k (omega (arith, x.0), x.1)),
      h.1,
      h.2,
      h.3,
    )

-- The plan list and the working list as the call lent them.
module _ (s plan work plan' work' : List ℕ) (lp : length plan ≡ plan_lent) (lw : length work ≡ work_lent) where
  pub call_refused : (r : Refusal) → PlannerCall (Table Ordinary) s plan work plan' work' (Err r)
      → Refuses (planner_checks (Table Ordinary) s plan_lent work_lent) (number r) (second r)
  call_refused r c = rw (lp, lw) at c.gives.0.0

  pub call_planned : (n u l h e : ℕ) → n ≡ task_count Ordinary s → PlannerCall (Table Ordinary) s plan work plan' work' (ok_planned u l h e)
      → PlannedSet s (take n plan') u l h e
  call_planned n u l h e count c =
      let g = c.gives.0.1 in
      let is : take n plan' ≡ g.0 = ap (λ (k : ℕ). take k plan') count ∙ g.2.front in
      record { accepts = rw (lp, lw) at c.gives.0.0; selected = rw is g.1 }

-- ---- a text
module _ (t set set' : List ℕ) (lent : length set ≡ set_lent) where
  -- A script's words are few enough for the list.
  pub read_fits : (n : ℕ) → ReaderGives t set set' (Ok n) → n ≤ set_lent
  read_fits n g = omega (arith, count_is (words g.1.0) set set' n g.1.2, words-length g.1.0 g.1.1.script)

  pub read_set : (n : ℕ) (d d' : List ℕ) (k : ℕ) → ReaderGives t set set' (Ok n) → PutSet (take n set') d d' k
      → PutAnswer t d d' k
  read_set n d d' k g p =
      let s = g.1.0 in
      let is : take n set' ≡ words s = front_is (words s) set set' n g.1.2 in
      (p.0, go s (record { accepts = rw lent at g.0; text = g.1.1 }) p.0 (subst (λ (w : List ℕ). PrintsSet w p.0) is p.1), p.2)
    where
      go : (s : Script) → Read s t → (out : List ℕ) → PrintsSet (words s) out → Prints t out
      go s h out (steps.refused n k r e) = refused s n k h r e
      go s h out (steps.planned P u l hh e b i p x) = planned s P u l hh e b i p h x

  -- The reader's refusal, whichever it is.
  pub text_refused : (r : Refusal) (d d' : List ℕ) (k : ℕ) → ReaderGives t set set' (Err r)
      → Put (refused_line (number r) (second r)) d d' k → PutAnswer t d d' k
  text_refused r d d' k g put =
      (refused_line (number r) (second r), unread (number r) (second r) (rw lent at g.0) refl, put)

-- ---- the call
module _ (t d : List ℕ) where
  -- The bytes written are an output, and what it owes holds.
  responds : (d' : List ℕ) (a : CopyAnswer) → RespondGives t d d' a → Responds t d d' a
  responds d' (Ok n) g = record {
    gives = g;
    owes =
        let p : Prints t (take n d') = subst (Prints t) (sym (front_is g.0 d d' n g.3)) g.1 in
        (p, owes t (take n d') p);
  }
  responds d' (Err r) g = record { gives = g; owes = tt }

  module _ (text text' : List ℕ) (n : ℕ) (answer : PutAnswer t text text' n) where
    -- The lines lie inside the call's own buffer.
    pub answer_fits : length text ≡ 2048 → n ≤ length text'
    answer_fits h =
        let short = output_short t answer.0 answer.1 in
        omega (arith, answer.2.size, short, h, ap length answer.2.is ∙ length-placed answer.0 text (omega arith))

    answer_is : take n text' ≡ answer.0
    unfolding placed
    answer_is = ap (take n) answer.2.is ∙ take_at answer.0 (drop (length answer.0) text) n (sym answer.2.size)

    pub too_short : length d < n → Responds t d d (Err (TooShort n))
    too_short h =
        let e = answer.2.size in
        responds d (Err (TooShort n))
        (answer.0, answer.1, refuses_next [] (room_check (length answer.0) (length d)) n tt (omega (arith, e), e), refl)

    pub wrote : (d' : List ℕ) (k : ℕ) → n ≤ length d → Put (take n text') d d' k → Responds t d d' (Ok k)
    unfolding placed
    wrote d' k h put =
        let e = answer.2.size in
        let size : k ≡ length answer.0 = put.size ∙ ap length answer_is in
        responds d' (Ok k) (
          answer.0,
          answer.1,
          accepts_next [] (room_check (length answer.0) (length d)) tt (λ j x. omega (arith, e, x.0)),
          copied answer.0 d d' k size (put.is ∙ ap (λ (l : List ℕ). l ++ drop (length l) d) answer_is),
        )

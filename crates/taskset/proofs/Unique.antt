-- Each call's answer is one: two answers, with what they leave in the lists, that meet the definitions on the same lent
-- lists are equal.
-- Assumes nothing.
use Rattle.std.specs.Prelude.{Ok, Err}
use Prim.Native.Nat.{ℕ, ◌≤◌}
use native.Mathlib.Bridge.{le_by_compare, IsLe}
use mathlib.Core.Path.{◌≡◌, refl, sym, ap, subst, ◌∙◌}
use mathlib.Core.Bool.{cond}
use mathlib.Core.List.{List, [], ◌∷◌, ◌++◌}
use lib.Dec.{eqb}
use lib.ListN.{length, take, drop, take-append-drop}
use lib.Seq.{take_at, drop_at}
use Rattle.selection.specs.Plan.{Fitting}
use Rattle.selection.proofs.Unique.{planned_unique}
use Rattle.layout.specs.Words.{task_count}
use Rattle.layout.specs.declared.Layout.{Layout}
use Rattle.layout.specs.declared.Layout.TheVariants.{Ordinary}
use Rattle.taskset.specs.Quantities.{problem_of, work_needed}
use Rattle.taskset.specs.Refusals.{number, second, IsShort, NoneOk, Check, Refuses, ◌▹◌, word_checks, idle_check}
use Rattle.taskset.specs.Refusals.{idle_checks, hyper_check, many_check, room_check, none_check, plan_check}
use Rattle.taskset.specs.Refusals.{engine_check, ready_checks, planner_checks, walk_checks}
use Rattle.taskset.specs.Planning.{Planning, planning, layout_of, work_of}
use Rattle.taskset.specs.declared.Engine.{Engine}
use Rattle.taskset.specs.declared.Engine.TheVariants.{Table, Exhaustive}
use Rattle.taskset.specs.Calls.{CopyGives, CountsAfter, SetAfter, Selected}
use Rattle.taskset.specs.Calls.{PlanGives, WorkAfter, PlannerGives, WalkAnswers}
use Rattle.taskset.specs.declared.Refusal.{Refusal}
use Rattle.taskset.specs.declared.Refusal.TheVariants.{TextDeparts, BadWord, NotAbove, TooLong, WorkShort}
use Rattle.taskset.specs.declared.Refusal.TheVariants.{TooShort, NoPlan, BadPlan}
use Rattle.taskset.specs.declared.Refusal.TheVariants.{EnergyOver, BelowIdle, TooManyPlans}
use Rattle.taskset.proofs.Copied.{SameCopied, copied_one}
use Rattle.taskset.proofs.Checks.{Single, AllSingle, single_join, lowest_single, too_long_single, not-both, refuses_unique}
use Rattle.taskset.specs.Answers.{Checked, CopyAnswer, PlannerAnswer, Shape, WalkAnswer, ok_counts, ok_measured, ok_planned}
use Rattle.taskset.specs.declared.WalkEnd.TheVariants.{Kept, Missed}

-- A refusal is its number and its second number.
refusal : ℕ → ℕ → Refusal
refusal n k =
    cond (eqb n 1) (TextDeparts k)
    (cond (eqb n 2) (BadWord k)
    (cond (eqb n 3) (NotAbove k)
    (cond (eqb n 4) (TooLong k)
    (cond (eqb n 5) (WorkShort k)
    (cond (eqb n 6) (TooShort k)
    (cond (eqb n 7) NoPlan
    (cond (eqb n 8) (BadPlan k)
    (cond (eqb n 9) (EnergyOver k)
    (cond (eqb n 10) (BelowIdle k) TooManyPlans)))))))))

refusal_of : (r : Refusal) → refusal (number r) (second r) ≡ r
unfolding refusal
refusal_of (TextDeparts o) = refl
refusal_of (BadWord q) = refl
refusal_of (NotAbove q) = refl
refusal_of (TooLong q) = refl
refusal_of (WorkShort w) = refl
refusal_of (TooShort w) = refl
refusal_of NoPlan = refl
refusal_of (BadPlan k) = refl
refusal_of (EnergyOver k) = refl
refusal_of (BelowIdle q) = refl
refusal_of TooManyPlans = refl

-- A refusal's number is above 0, and small.
pub number_range : (r : Refusal) → (1 ≤ number r) × (number r ≤ 100)
unfolding IsLe
number_range (TextDeparts o) = (le_by_compare _ _ tt, le_by_compare _ _ tt)
number_range (BadWord q) = (le_by_compare _ _ tt, le_by_compare _ _ tt)
number_range (NotAbove q) = (le_by_compare _ _ tt, le_by_compare _ _ tt)
number_range (TooLong q) = (le_by_compare _ _ tt, le_by_compare _ _ tt)
number_range (WorkShort w) = (le_by_compare _ _ tt, le_by_compare _ _ tt)
number_range (TooShort w) = (le_by_compare _ _ tt, le_by_compare _ _ tt)
number_range NoPlan = (le_by_compare _ _ tt, le_by_compare _ _ tt)
number_range (BadPlan k) = (le_by_compare _ _ tt, le_by_compare _ _ tt)
number_range (EnergyOver k) = (le_by_compare _ _ tt, le_by_compare _ _ tt)
number_range (BelowIdle q) = (le_by_compare _ _ tt, le_by_compare _ _ tt)
number_range TooManyPlans = (le_by_compare _ _ tt, le_by_compare _ _ tt)

-- Two refusals of the same checks are one.
pub refusal_unique : (cs : List Check) → AllSingle cs → (p r : Refusal) → Refuses cs (number p) (second p) → Refuses cs (number r) (second r) → p ≡ r
refusal_unique cs a p r x y =
    let e = refuses_unique cs a (number p) (second p) (number r) (second r) x y in
    sym (refusal_of p) ∙ ap (λ (n : ℕ). refusal n (second p)) e.0 ∙ ap (refusal (number r)) e.1 ∙ refusal_of r

pub short_single : (needed lent : ℕ) (j k : ℕ) → IsShort needed lent j → IsShort needed lent k → j ≡ k
short_single needed lent j k a b = a.1 ∙ sym b.1

pub none_single : (Suits : List ℕ → Type 0) (j k : ℕ) → NoneOk Suits j → NoneOk Suits k → j ≡ k
none_single Suits j k a b = a.0 ∙ sym b.0

-- ---- the checks of each call: every cause has one second number
pub single_next : (cs : List Check) (c : Check) → AllSingle cs → Single c → AllSingle (cs ▹ c)
single_next cs c a b = single_join cs (c ∷ []) a (b, tt)

pub word_single : (layout : Layout) (s : List ℕ) → AllSingle (word_checks layout s)
word_single layout s = (lowest_single, (lowest_single, tt))

pub set_single : (layout : Layout) (s : List ℕ) → AllSingle (word_checks layout s ▹ hyper_check layout s)
set_single layout s = single_next (word_checks layout s) (hyper_check layout s) (word_single layout s) (too_long_single layout s)

pub idle_single : (layout : Layout) (s : List ℕ) → AllSingle (idle_checks layout s)
idle_single layout s = single_next (word_checks layout s) (idle_check layout s) (word_single layout s) lowest_single

pub covered_single : (layout : Layout) (s : List ℕ) → AllSingle (idle_checks layout s ▹ hyper_check layout s)
covered_single layout s = single_next (idle_checks layout s) (hyper_check layout s) (idle_single layout s) (too_long_single layout s)

many_single : (layout : Layout) (s : List ℕ) → Single (many_check layout s)
many_single layout s j k a b = a.0 ∙ sym b.0

engine_single : (e : Engine) (s : List ℕ) (workLength : ℕ) → Single (engine_check e s workLength)
engine_single (Table layout) s wl = short_single (work_needed layout s) wl
engine_single Exhaustive s wl = many_single Ordinary s

module _ (e : Engine) (s : List ℕ) (planLength workLength : ℕ) where
  abbrev set : List Check
  set = idle_checks (layout_of e) s ▹ hyper_check (layout_of e) s

  pub ready_single : AllSingle (ready_checks e s planLength workLength)
  ready_single =
      single_next (set ▹ engine_check e s workLength) (room_check (task_count (layout_of e) s) planLength)
      (single_next set (engine_check e s workLength) (covered_single (layout_of e) s) (engine_single e s workLength))
      (short_single (task_count (layout_of e) s) planLength)

  pub planner_single : AllSingle (planner_checks e s planLength workLength)
  planner_single =
      single_next (ready_checks e s planLength workLength) (none_check (Fitting (problem_of (layout_of e) s))) ready_single
      (none_single (Fitting (problem_of (layout_of e) s)))

pub walk_single : (s P : List ℕ) → AllSingle (walk_checks s P)
walk_single s P = single_next (word_checks Ordinary s ▹ hyper_check Ordinary s) (plan_check Ordinary s P) (set_single Ordinary s) lowest_single

-- ---- what checks answer
module _ (cs : List Check) (single : AllSingle cs) (layout : Layout) (s : List ℕ) where
  pub counts_unique : (a b : Shape) → CountsAfter cs layout s a → CountsAfter cs layout s b → a ≡ b
  counts_unique (Ok p) (Ok q) x y =
      let e : ok_counts p.rates p.tasks ≡ ok_counts q.rates q.tasks = cc (x.1, y.1, x.2, y.2) in e
  counts_unique (Ok p) (Err r) x y = absurd (not-both cs (number r) (second r) x.0 y)
  counts_unique (Err r) (Ok p) x y = absurd (not-both cs (number r) (second r) y.0 x)
  counts_unique (Err q) (Err r) x y = ap Err (refusal_unique cs single q r x y)

  pub set_unique : (a b : Checked) → SetAfter cs layout s a → SetAfter cs layout s b → a ≡ b
  set_unique (Ok p) (Ok q) x y =
      let e : ok_measured p.rates p.tasks p.hyper ≡ ok_measured q.rates q.tasks q.hyper = cc (x.1, y.1, x.2, y.2, x.3, y.3) in e
  set_unique (Ok p) (Err r) x y = absurd (not-both cs (number r) (second r) x.0 y)
  set_unique (Err r) (Ok p) x y = absurd (not-both cs (number r) (second r) y.0 x)
  set_unique (Err q) (Err r) x y = ap Err (refusal_unique cs single q r x y)

-- ---- a call that copies, after checks that each hold with one second number at most.
pub copy_unique : (cs : List Check) → AllSingle cs → (ws d d₁ d₂ : List ℕ) (a b : CopyAnswer)
    → CopyGives cs ws d d₁ a → CopyGives cs ws d d₂ b → SameCopied a b d₁ d₂
copy_unique cs single ws d d₁ d₂ (Ok n) (Ok k) x y = copied_one ws d d₁ d₂ (Ok n) (Ok k) x.1 y.1
copy_unique cs single ws d d₁ d₂ (Ok n) (Err r) x y = absurd (not-both cs (number r) (second r) x.0 y.0)
copy_unique cs single ws d d₁ d₂ (Err r) (Ok n) x y = absurd (not-both cs (number r) (second r) y.0 x.0)
copy_unique cs single ws d d₁ d₂ (Err q) (Err r) x y = record {
  answer = ap Err (refusal_unique cs single q r x.0 y.0);
  list = x.1 ∙ sym y.1;
}

-- ---- a call that plans, where m is what is planned
pub selected_unique : (m : Planning) (P Q v w : List ℕ) → Selected m P v → Selected m Q w → (P ≡ Q) × (v ≡ w)
selected_unique m P Q v w x y =
    let same =
    planned_unique (Fitting m.problem) m.problem (λ R f. f.plan.size) m.slack x.exponent y.exponent P Q
    x.planned y.planned in
    (same.1, x.values_are ∙ cc (same.0, same.1) ∙ sym y.values_are)

-- A plan is one, whatever the checks.
pub planned-one : (cs ds : List Check) (m : Planning) (plan plan₁ plan₂ : List ℕ) (u l h e u' l' h' e' : ℕ)
    → PlanGives cs m plan plan₁ (ok_planned u l h e) → PlanGives ds m plan plan₂ (ok_planned u' l' h' e')
    → (ok_planned u l h e ≡ ok_planned u' l' h' e') × (plan₁ ≡ plan₂)
planned-one cs ds m plan p₁ p₂ u l h e u' l' h' e' x y =
    let n : ℕ = m.problem.count in
    let same = selected_unique m x.1.0 y.1.0 _ _ x.1.1 y.1.1 in
    let values = same.1 in
    let f = x.1.2 in
    let g = y.1.2 in
    (cc, sym (take-append-drop n p₁) ∙ cc (f.front, g.front, same.0, f.rest, g.rest) ∙ take-append-drop n p₂)

-- And so is the answer, after checks that each hold with one second number at most.
module _ (cs : List Check) (single : AllSingle cs) (m : Planning) (plan : List ℕ) where
  pub plan_unique : (plan₁ plan₂ : List ℕ) (a b : PlannerAnswer)
      → PlanGives cs m plan plan₁ a → PlanGives cs m plan plan₂ b → (a ≡ b) × (plan₁ ≡ plan₂)
  plan_unique p₁ p₂ (Ok p) (Ok q) x y = planned-one cs cs m plan p₁ p₂ p.unit p.load p.hyper p.energy q.unit q.load q.hyper q.energy x y
  plan_unique p₁ p₂ (Ok p) (Err r) x y = absurd (not-both cs (number r) (second r) x.0 y.0)
  plan_unique p₁ p₂ (Err r) (Ok p) x y = absurd (not-both cs (number r) (second r) y.0 x.0)
  plan_unique p₁ p₂ (Err q) (Err r) x y =
      (ap Err (refusal_unique cs single q r x.0 y.0), x.1 ∙ sym y.1)

work_unique : (w : ℕ) (work work₁ work₂ : List ℕ) (a : PlannerAnswer)
    → WorkAfter w work work₁ a → WorkAfter w work work₂ a → work₁ ≡ work₂
work_unique w work w₁ w₂ (Ok p) x y = x ∙ sym y
work_unique w work w₁ w₂ (Err r) x y = x ∙ sym y

-- The plan that an answer gives, in the plan list given back: its first N words; with a refusal, none.
abbrev pub plan_given : Planning → List ℕ → PlannerAnswer → List ℕ
plan_given m plan' (Ok p) = take m.problem.count plan'
plan_given m plan' (Err r) = []

-- What is given for a plan list is given for any other, if only the checks are the same: with the same plan, and the
-- rest as it was.
record GivenFor (cs : List Check) (m : Planning) (plan P : List ℕ) (a : PlannerAnswer) : Type 0 where
  pub plan' : List ℕ
  pub gives : PlanGives cs m plan plan' a
  pub same : plan_given m plan' a ≡ P

given_for : (cs : List Check) (m : Planning) (plan plan' : List ℕ) (a : PlannerAnswer) → PlanGives cs m plan plan' a
    → (plan₂ : List ℕ) → GivenFor cs m plan₂ (plan_given m plan' a) a
given_for cs m plan plan' (Ok p) g plan₂ =
    let n : ℕ = m.problem.count in
    let P : List ℕ = g.1.0 in
    let size : length P ≡ n = g.1.1.planned.chosen.ok.plan.size in
    let front = take_at P (drop n plan₂) n size in
    record {
      plan' = P ++ drop n plan₂;
      gives = (g.0, (P, g.1.1, record { front = front; rest = drop_at P (drop n plan₂) n size }));
      same = front ∙ sym g.1.2.front;
    }
given_for cs m plan plan' (Err r) g plan₂ = record { plan' = plan₂; gives = (g.0, refl); same = refl }

-- So the answer and the plan are known by what is planned and by what the checks look at.
pub record SamePlan (m : Planning) (a b : PlannerAnswer) (plan₁ plan₂ : List ℕ) : Type 0 where
  pub answer : a ≡ b
  pub plan : plan_given m plan₁ a ≡ plan_given m plan₂ b

plan_by_checks : (cs : List Check) → AllSingle cs → (m : Planning) (plan₁ plan₁' plan₂ plan₂' : List ℕ) (a b : PlannerAnswer)
    → PlanGives cs m plan₁ plan₁' a → PlanGives cs m plan₂ plan₂' b → SamePlan m a b plan₁' plan₂'
plan_by_checks cs single m plan₁ p₁ plan₂ p₂ a b x y =
    let z = given_for cs m plan₁ p₁ a x plan₂ in
    let one = plan_unique cs single m plan₂ z.plan' p₂ a b z.gives y in
    record { answer = one.0; plan = cc one.1 }

-- ---- the planner, and the dull engine
pub record SameGiven (a b : PlannerAnswer) (plan₁ work₁ plan₂ work₂ : List ℕ) : Type 0 where
  pub answer : a ≡ b
  pub plan : plan₁ ≡ plan₂
  pub work : work₁ ≡ work₂

pub planner_unique : (e : Engine) (s plan work plan₁ work₁ plan₂ work₂ : List ℕ) (a b : PlannerAnswer)
    → PlannerGives e s plan work plan₁ work₁ a → PlannerGives e s plan work plan₂ work₂ b
    → SameGiven a b plan₁ work₁ plan₂ work₂
planner_unique e s plan work p₁ w₁ p₂ w₂ a b x y =
    let checks = planner_checks e s (length plan) (length work) in
    let single = planner_single e s (length plan) (length work) in
    let same = plan_unique checks single (planning (layout_of e) s) plan p₁ p₂ a b x.0 y.0 in
    record {
      answer = same.0;
      plan = same.1;
      work = work_unique (work_of e s) work w₁ w₂ a x.1 (subst (WorkAfter (work_of e s) work w₂) (sym same.0) y.1);
    }

-- Of the lists lent besides, only the lengths count.
pub planner_by_lengths : (e : Engine) (s plan₁ work₁ plan₁' work₁' plan₂ work₂ plan₂' work₂' : List ℕ) (a b : PlannerAnswer)
    → length plan₁ ≡ length plan₂ → length work₁ ≡ length work₂
    → PlannerGives e s plan₁ work₁ plan₁' work₁' a → PlannerGives e s plan₂ work₂ plan₂' work₂' b
    → SamePlan (planning (layout_of e) s) a b plan₁' plan₂'
planner_by_lengths e s plan₁ work₁ p₁ w₁ plan₂ work₂ p₂ w₂ a b f g x y =
    plan_by_checks (planner_checks e s (length plan₂) (length work₂)) (planner_single e s (length plan₂) (length work₂))
    (planning (layout_of e) s) plan₁ p₁ plan₂ p₂ a b (rw (f, g) at x.0) y.0

-- ---- the walk
pub walk_unique : (s P : List ℕ) (a b : WalkAnswer) → WalkAnswers s P a → WalkAnswers s P b → a ≡ b
walk_unique s P (Ok (Kept b i p)) (Ok (Kept b' i' p')) x y = let e = x.1 ∙ sym y.1 in cc
walk_unique s P (Ok (Kept b i p)) (Ok (Missed t k)) x y = let e = x.1 ∙ sym y.1 in cc
walk_unique s P (Ok (Kept b i p)) (Err r) x y = absurd (not-both (walk_checks s P) (number r) (second r) x.0 y)
walk_unique s P (Ok (Missed t k)) (Ok (Kept b i p)) x y = let e = x.1 ∙ sym y.1 in cc
walk_unique s P (Ok (Missed t k)) (Ok (Missed t' k')) x y = let e = x.1 ∙ sym y.1 in cc
walk_unique s P (Ok (Missed t k)) (Err r) x y = absurd (not-both (walk_checks s P) (number r) (second r) x.0 y)
walk_unique s P (Err r) (Ok (Kept b i p)) x y = absurd (not-both (walk_checks s P) (number r) (second r) y.0 x)
walk_unique s P (Err r) (Ok (Missed t k)) x y = absurd (not-both (walk_checks s P) (number r) (second r) y.0 x)
walk_unique s P (Err q) (Err r) x y = ap Err (refusal_unique (walk_checks s P) (walk_single s P) q r x y)

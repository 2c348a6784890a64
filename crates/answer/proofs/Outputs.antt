-- What the program prints: one output for an input, at most 2,048 bytes of it; after a plan the walk is kept; and what
-- is printed keeps demand 3.
-- Assumes nothing.
use Rattle.std.specs.Prelude.{Ok, Err}
use Prim.Native.Nat.{ℕ, suc, ◌≤◌, ◌<◌}
use mathlib.Core.Path.{◌≡◌, sym, ap, ◌∙◌, subst}
use mathlib.Core.List.{List, [], ◌∷◌, ◌++◌}
use mathlib.Core.Logic.{◌↔◌, inl, ⊎_elim}
use native.Mathlib.Omega.{arith}
use lib.ListN.{length, take, length-append}
use lib.Seq.{take-take, length-take-le, take_all}
use Rattle.numbers.proofs.Tests.{lt_or_le}
use Rattle.schedule.specs.Counted.{IsKept, kept}
use Rattle.selection.specs.Plan.{Fitting, IsPlan}
use Rattle.layout.specs.Words.{most_tasks, task_count}
use Rattle.taskset.specs.Quantities.{problem_of}
use Rattle.taskset.specs.Refusals.{number, second, Accepts, Refuses, room_check, none_check, ready_checks, planner_checks}
use Rattle.taskset.specs.Calls.{Selected, Copied, walk_of}
use Rattle.taskset.specs.DemandThree.{PlanPromise}
use Rattle.taskset.proofs.Checks.{accepts_but_last, accepts_next, refuses_unique, not-both}
use Rattle.taskset.specs.Sets.{IsSet}
use Rattle.taskset.specs.Planning.{planning}
use Rattle.taskset.specs.declared.Engine.TheVariants.{Table}
use Rattle.layout.specs.declared.Layout.TheVariants.{Ordinary}
use Rattle.taskset.proofs.Unique.{planner_single, selected_unique, short_single, single_next, refusal_unique}
use Rattle.taskset.proofs.DemandThree.{plan_given_lem, walk_kept, engine_plans, list_plans, refusal_owes}
use Rattle.taskset.proofs.Copied.{SameCopied, copied_one}
use Rattle.text.specs.Text.{Script, WellFormed, FirstBad, words}
use Rattle.text.proofs.Sizes.{text_length}
use Rattle.text.specs.Calls.{reader_checks}
use Rattle.text.proofs.Copies.{one_script, reader_single}
use Rattle.lines.proofs.Lengths.{plan_short, refused_short}
use Rattle.answer.specs.Answer.{work_lent, plan_lent, set_lent, PrintsPlan, Prints, unread, refused, planned}
use Rattle.answer.specs.Answer.{Owes, output_checks, RespondGives, Responds}
use Rattle.taskset.specs.Answers.{CopyAnswer}

-- ---- of a set that the planner takes
module _ (s : List ℕ) (accepts : Accepts (planner_checks (Table Ordinary) s plan_lent work_lent)) where
  ready : Accepts (ready_checks (Table Ordinary) s plan_lent work_lent)
  ready = accepts_but_last (ready_checks (Table Ordinary) s plan_lent work_lent) (none_check (Fitting (problem_of Ordinary s))) accepts

  pub is_set : IsSet Ordinary s
  is_set = (engine_plans (Table Ordinary) s plan_lent work_lent).set ready

  pub tasks_few : task_count Ordinary s ≤ most_tasks
  tasks_few = is_set.whole.tasks_range.1

  module _ (P : List ℕ) (unit load hyper energy : ℕ) (selected : Selected (planning Ordinary s) P (unit ∷ load ∷ hyper ∷ energy ∷ [])) where
    pub is_plan : IsPlan (problem_of Ordinary s) P
    is_plan = selected.planned.chosen.ok.plan

    pub plan_length : length P ≤ most_tasks
    plan_length = omega (arith, is_plan.size, tasks_few)

    -- Demand 3, with note 5's margin.
    pub promise : PlanPromise (planning Ordinary s) P unit energy
    promise =
        plan_given_lem (planning Ordinary s) ((list_plans (engine_plans (Table Ordinary) s plan_lent work_lent)).sound ready)
        P unit load hyper energy selected

    -- After a plan the walk is kept, from whatever first releases: there is no other line.
    pub walk_is_kept : IsKept (walk_of s P)
    walk_is_kept = walk_kept s is_set P selected.planned.chosen.ok.fits

-- ---- what an output owes
pub owes : (t out : List ℕ) (p : Prints t out) → Owes p
owes t out (unread n k r e) = tt
owes t out (refused s n k h r e) =
    let w = words s in
    let ready = ready_checks (Table Ordinary) w plan_lent work_lent in
    let owed = refusal_owes (planning Ordinary w) ready (list_plans (engine_plans (Table Ordinary) w plan_lent work_lent)) n k r in
    (owed.0, (λ none. (owed.1 none).0))
owes t out (planned s P unit load hyper energy busy idle preempted h x) =
    promise (words s) x.accepts P unit load hyper energy x.selected

-- ---- how long
plan_lines : (s P out : List ℕ) (u l h e b i p : ℕ) → PrintsPlan s P out u l h e b i p → length out ≤ 2048
plan_lines s P out u l h e b i p x =
    omega (arith, ap length x.lines, plan_short u l h e P b i p (plan_length s x.accepts P u l h e x.selected))

-- The most bytes that can be needed.
pub output_short : (t out : List ℕ) → Prints t out → length out ≤ 2048
output_short t out (unread n k r e) = omega (arith, ap length e, refused_short n k)
output_short t out (refused s n k h r e) = omega (arith, ap length e, refused_short n k)
output_short t out (planned s P u l h e b i p x y) = plan_lines (words s) P out u l h e b i p y

-- ---- one output
kept_same : (b i p c j q : ℕ) → kept b i p ≡ kept c j q → (b ≡ c) × (i ≡ j) × (p ≡ q)
kept_same b i p c j q e = (cc, cc, cc)

plans_same : (s P Q o₁ o₂ : List ℕ) (u l h e b i p v m k f c j q : ℕ)
    → PrintsPlan s P o₁ u l h e b i p → PrintsPlan s Q o₂ v m k f c j q → o₁ ≡ o₂
plans_same s P Q o₁ o₂ u l h e b i p v m k f c j q x y =
    let same = selected_unique (planning Ordinary s) P Q _ _ x.selected y.selected in
    let values = same.1 in
    let plan = same.0 in
    let one : walk_of s P ≡ walk_of s Q =
    ap (λ (R : List ℕ). walk_of s R) plan in
    let counts = kept_same b i p c j q (sym x.walked ∙ one ∙ y.walked) in
    x.lines ∙ cc (values, plan, counts.0, counts.1, counts.2) ∙ sym y.lines

-- Two outputs for one input are equal.
pub one_output : (t o₁ o₂ : List ℕ) → Prints t o₁ → Prints t o₂ → o₁ ≡ o₂
one_output t o₁ o₂ (unread n k r x) (unread n' k' r' y) =
    let e = refuses_unique (reader_checks t set_lent) (reader_single t set_lent) n k n' k' r r' in
    x ∙ cc (e.0, e.1) ∙ sym y
one_output t o₁ o₂ (unread n k r x) (refused s n' k' h r' y) = absurd (not-both (reader_checks t set_lent) n k h.accepts r)
one_output t o₁ o₂ (unread n k r x) (planned s P u l h e b i p is y) = absurd (not-both (reader_checks t set_lent) n k is.accepts r)
one_output t o₁ o₂ (refused s n k h r x) (unread n' k' r' y) = absurd (not-both (reader_checks t set_lent) n' k' h.accepts r')
one_output t o₁ o₂ (refused s n k h r x) (refused s' n' k' h' r' y) =
    let r'' = subst (λ (z : Script). Refuses (planner_checks (Table Ordinary) (words z) plan_lent work_lent) n' k')
    (one_script s' s t h'.text h.text) r' in
    let e = refuses_unique (planner_checks (Table Ordinary) (words s) plan_lent work_lent)
    (planner_single (Table Ordinary) (words s) plan_lent work_lent) n k n' k' r r'' in
    x ∙ cc (e.0, e.1) ∙ sym y
one_output t o₁ o₂ (refused s n k h r x) (planned s' P u l hh e b i p is y) =
    absurd (not-both (planner_checks (Table Ordinary) (words s) plan_lent work_lent) n k
    (subst (λ (z : Script). Accepts (planner_checks (Table Ordinary) (words z) plan_lent work_lent))
    (one_script s' s t is.text h.text) y.accepts) r)
one_output t o₁ o₂ (planned s P u l h e b i p is x) (unread n k r y) = absurd (not-both (reader_checks t set_lent) n k is.accepts r)
one_output t o₁ o₂ (planned s P u l hh e b i p is x) (refused s' n k h r y) =
    absurd (not-both (planner_checks (Table Ordinary) (words s') plan_lent work_lent) n k
    (subst (λ (z : Script). Accepts (planner_checks (Table Ordinary) (words z) plan_lent work_lent))
    (one_script s s' t is.text h.text) x.accepts) r)
one_output t o₁ o₂ (planned s P u l h e b i p is x) (planned s' Q v m k f c j q is' y) =
    plans_same (words s) P Q o₁ o₂ u l h e b i p v m k f c j q x
    (subst (λ (z : Script). PrintsPlan (words z) Q o₂ v m k f c j q) (one_script s' s t is'.text is.text) y)

-- ---- an input over 8,192 bytes
-- A first bad offset lies below 6,000.
bad_early : (t : List ℕ) (o : ℕ) → FirstBad WellFormed t o → o < 6000
bad_early t o f =
    let w = f.before.1 in
    omega (arith, text_length w.0 (take o t ++ f.before.0) w.1, length-append (take o t) f.before.0, length-take-le o t f.within)

long_bad : (t : List ℕ) → 8192 < length t → WellFormed t → ⊥
long_bad t l w = omega (arith, text_length w.0 t w.1)

-- A text that is not well formed is refused with 1: every other cause is of the script that it says.
departs_only : (t : List ℕ) → (WellFormed t → ⊥) → (n k : ℕ) → Refuses (reader_checks t set_lent) n k → (n ≡ 1) × FirstBad WellFormed t k
departs_only t none n k r =
    ⊎_elim
    (λ x. x)
    (λ x. ⊎_elim
    (λ y. absurd (none (y.1.0, y.1.1)))
    (λ y. ⊎_elim (λ z. absurd (none (z.1.0, z.1.1))) (λ z. absurd z.1) y.1)
    x.1)
    r

module _ (t : List ℕ) (long : 8192 < length t) where
  cut : length (take 8192 t) ≡ 8192
  cut = length-take-le 8192 t (omega arith)

  same_front : (o : ℕ) → o ≤ 8192 → take o (take 8192 t) ≡ take o t
  same_front o h = take-take o 8192 t h

  bad_cut : (o : ℕ) → FirstBad WellFormed t o → FirstBad WellFormed (take 8192 t) o
  bad_cut o f =
      let early = bad_early t o f in
      record {
        within = omega (arith, cut);
        before = (f.before.0, rw (same_front o (omega arith)) f.before.1);
        departs = λ h r w. f.departs (omega arith) r (rw (same_front (suc o) (omega arith)) at w);
        early = λ e w. omega (arith, cut);
      }

  bad_whole : (o : ℕ) → FirstBad WellFormed (take 8192 t) o → FirstBad WellFormed t o
  bad_whole o f =
      let early = bad_early (take 8192 t) o f in
      record {
        within = omega (arith, cut);
        before = (f.before.0, rw (same_front o (omega arith)) at f.before.1);
        departs = λ h r w. f.departs (omega (arith, cut)) r (rw (same_front (suc o) (omega arith)) w);
        early = λ e w. omega arith;
      }

  -- Its first 8,192 bytes have no well-formed text either.
  cut_bad : WellFormed (take 8192 t) → ⊥
  cut_bad w = omega (arith, text_length w.0 (take 8192 t) w.1, cut)

  -- Neither is read, and where the one departs from the form the other does too.
  same_refusal : (n k : ℕ) → Refuses (reader_checks (take 8192 t) set_lent) n k ↔ Refuses (reader_checks t set_lent) n k
  same_refusal n k = (
    λ r. let x = departs_only (take 8192 t) cut_bad n k r in inl (x.0, bad_whole k x.1),
    λ r. let x = departs_only t (long_bad t long) n k r in inl (x.0, bad_cut k x.1),
  )

  long_same : (out : List ℕ) → Prints (take 8192 t) out ↔ Prints t out
  long_same out = (
    there,
    back,
  )
    where
      there : Prints (take 8192 t) out → Prints t out
      there (unread n k r e) = unread n k ((same_refusal n k).0 r) e
      there (refused s n k h r e) = absurd (cut_bad (s, h.text))
      there (planned s P u l h e b i p is x) = absurd (cut_bad (s, is.text))

      back : Prints t out → Prints (take 8192 t) out
      back (unread n k r e) = unread n k ((same_refusal n k).1 r) e
      back (refused s n k h r e) = absurd (long_bad t long (s, h.text))
      back (planned s P u l h e b i p is x) = absurd (long_bad t long (s, is.text))

-- "reads at most 8,192 bytes": the answer to the first 8,192 bytes of an input is the answer to all of it.
pub first_8192 : (t out : List ℕ) → Prints (take 8192 t) out ↔ Prints t out
first_8192 t out =
    ⊎_elim
    (λ (l : 8192 < length t). long_same t l out)
    (λ (l : length t ≤ 8192). subst (λ (u : List ℕ). Prints u out ↔ Prints t out) (sym (take_all 8192 t l)) ((λ x. x), (λ x. x)))
    (lt_or_le 8192 (length t))

-- ---- the call
-- Of one input and lent buffer the call has one answer.
pub respond_unique : (t d d₁ d₂ : List ℕ) (a b : CopyAnswer) → Responds t d d₁ a → Responds t d d₂ b → SameCopied a b d₁ d₂
respond_unique t d d₁ d₂ a b x y = go a b x.gives y.gives
  where
    go : (a b : CopyAnswer) → RespondGives t d d₁ a → RespondGives t d d₂ b → SameCopied a b d₁ d₂
    go (Ok n) (Ok k) x y =
        let same = one_output t x.0 y.0 x.1 y.1 in
        copied_one y.0 d d₁ d₂ (Ok n) (Ok k) (subst (λ (o : List ℕ). Copied o d d₁ (Ok n)) same x.3) y.3
    go (Ok n) (Err r) x y =
        let same = one_output t x.0 y.0 x.1 y.1 in
        absurd (not-both (output_checks (length y.0) (length d)) (number r) (second r) (subst (λ (o : List ℕ). Accepts (output_checks (length o) (length d))) same x.2) y.2)
    go (Err r) (Ok n) x y =
        let same = one_output t y.0 x.0 y.1 x.1 in
        absurd (not-both (output_checks (length x.0) (length d)) (number r) (second r) (subst (λ (o : List ℕ). Accepts (output_checks (length o) (length d))) same y.2) x.2)
    go (Err q) (Err r) x y =
        let same = one_output t y.0 x.0 y.1 x.1 in
        let z = subst (λ (o : List ℕ). Refuses (output_checks (length o) (length d)) (number r) (second r)) same y.2 in
        record {
          answer = ap Err (refusal_unique (output_checks (length x.0) (length d)) (single_next [] (room_check (length x.0) (length d)) tt (short_single (length x.0) (length d))) q r x.2 z);
          list = x.3 ∙ sym y.3;
        }

-- In a buffer of 2,048 bytes the answer has room: the program never runs short.
pub never_short : (t d d' : List ℕ) (r : _) → 2048 ≤ length d → Responds t d d' (Err r) → ⊥
never_short t d d' r room x =
    not-both (output_checks (length x.gives.0) (length d)) (number r) (second r)
    (accepts_next [] (room_check (length x.gives.0) (length d)) tt (λ k h. omega (arith, h.0, output_short t x.gives.0 x.gives.1)))
    x.gives.2

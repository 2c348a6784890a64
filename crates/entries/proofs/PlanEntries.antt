-- From the answers of a call that plans to what its C entry gives.
-- Assumes nothing.
use Rattle.std.specs.Prelude.{Ok, Err}
use Prim.Native.Nat.{ℕ, ◌^◌, ◌≤◌, ◌<◌}
use mathlib.Core.Path.{◌≡◌, refl, sym, ap, subst, ◌∙◌}
use mathlib.Core.List.{List, [], ◌∷◌, ◌++◌}
use mathlib.Core.Logic.{inl, inr, ⊎_elim}
use native.Mathlib.Omega.{arith}
use lib.ListN.{length, get_or, take, drop}
use Rattle.selection.specs.Plan.{Fitting, plan_load}
use Rattle.taskset.specs.Quantities.{energy_bits, problem_of}
use Rattle.taskset.specs.Planning.{Planning, planning, layout_of}
use Rattle.taskset.specs.Refusals.{number, second, Check, Accepts, Refuses, ◌▹◌, room_check, none_check}
use Rattle.taskset.specs.Refusals.{ready_checks, planner_checks}
use Rattle.taskset.specs.Calls.{code, SetAfter, RateNumbers, PlanGives}
use Rattle.taskset.specs.DemandThree.{PlanPromise}
use Rattle.taskset.specs.declared.Engine.{Engine}
use Rattle.taskset.specs.declared.Engine.TheVariants.{Exhaustive}
use Rattle.taskset.specs.declared.Refusal.{Refusal}
use Rattle.taskset.specs.declared.Refusal.TheVariants.{TooShort}
use Rattle.taskset.proofs.Checks.{without_next, accepts_back, accepts_but_last, accepts_next}
use Rattle.taskset.proofs.Checks.{refuses_next, refuses_before, refuses_back, refuses_rest}
use Rattle.taskset.proofs.Small.{planner_second_small}
use Rattle.taskset.proofs.SamePlanning.{untouched}
use Rattle.taskset.proofs.DemandThree.{Plans, engine_plans, list_plans, refusal_owes, answer_owes}
use Rattle.taskset.proofs.Margin.{InBits, margin_small, list_in_bits}
use Rattle.planner.specs.Answers.{PlannerCall}
use Rattle.entries.specs.Entry.{result_bytes, result_at, result_size, before_seven, plan_entry_checks, PlansEntry}
use Rattle.entries.specs.Entry.{PlanEntry, DullEntry}
use Rattle.entries.specs.Put.{EntryAnswer, Left, Answers, EnoughAfter}
use Rattle.entries.proofs.Bytes.{result_value}
use Rattle.entries.proofs.Entries.{code_positive}
use Rattle.taskset.specs.Answers.{PlannerAnswer, ok_planned}

-- A planner's answer as an entry's; it can be put, and what it leaves.
abbrev pub values_of : PlannerAnswer → EntryAnswer
values_of (Ok p) = Ok (p.unit, p.load, p.hyper, p.energy)
values_of (Err r) = Err r

abbrev AnswerSmall : PlannerAnswer → Type 0
AnswerSmall (Ok p) = Unit {0}
AnswerSmall (Err r) = second r < 2 ^ 32

abbrev AnswerPut : PlannerAnswer → (d d' : List ℕ) → ℕ → Type 0
AnswerPut (Ok p) = Left (values_of (Ok p))
AnswerPut (Err r) = Left (values_of (Err r))

-- m is what is planned, with figures that fit the bytes where the checks pass, and d the result bytes as lent; cs are the
-- call's own checks but 7, whose second numbers are small, with that of 7. Gives and Unchanged are of the lists that the
-- call is lent besides.
module _ (m : Planning) (cs : List Check) (plans : Plans m cs) (bits : Accepts cs → InBits m)
    (small : (n k : ℕ) → Refuses (cs ▹ none_check (Fitting m.problem)) n k → k < 2 ^ 32)
    (d : List ℕ) (Gives : PlannerAnswer → Type 0) (Unchanged : Type 0) where
  abbrev six : Check
  six = room_check result_size (length d)

  abbrev seven : Check
  seven = none_check (Fitting m.problem)

  abbrev before : List Check
  before = before_seven cs (length d)

  before_plans : Plans m before
  before_plans = record {
    sound = λ a. plans.sound (accepts_but_last cs six a);
    not_7 = without_next 7 cs six plans.not_7 (λ e. omega arith);
  }

  module _ (plan' : List ℕ) (unchanged : Unchanged) where
    -- Any refusal. It is not 0; and it is 7 with 0 only by the last check, as the second number does not reach into the
    -- first.
    refused : (r : Refusal) (x : ℕ) → x ≡ code r → second r < 2 ^ 32
        → Refuses (plan_entry_checks cs m (length d)) (number r) (second r)
        → PlansEntry cs Gives Unchanged m plan' d d x
    refused r x e few h =
        let none : x ≡ 0 → ⊥ = λ z. code_positive r (sym e ∙ z) in
        let owes = refusal_owes m before before_plans (number r) (second r) h in
        record {
          gives = inr (r, h, e, unchanged, refl);
          numbers = λ z. absurd (none z);
          promise = λ z. absurd (none z);
          margin_fits = λ z. absurd (none z);
          energy_fits = λ z. absurd (none z);
          load_is = λ z. absurd (none z);
          hyper_is = λ z. absurd (none z);
          seven_iff = ((λ z. owes.0 (omega (arith, e))), (λ n. let both = owes.1 n in omega (arith, e, both.0, both.1)));
        }

    -- The checks before 7 have passed, and the results fit: what is left to refuse is 7.
    answer_refused : (r : Refusal) (x : ℕ) → x ≡ code r → Accepts cs → 32 ≤ length d
        → Refuses (cs ▹ seven) (number r) (second r) → PlansEntry cs Gives Unchanged m plan' d d x
    answer_refused r x e a enough h =
        refused r x e (small (number r) (second r) h)
        (refuses_back before (seven ∷ []) (number r) (second r) (accepts_next cs six a (λ k l. omega (arith, l.0)))
        (refuses_rest cs (seven ∷ []) (number r) (second r) a h))

    -- A refusal of the checks before 7 is the entry's.
    ready_refused : (r : Refusal) (x : ℕ) → x ≡ code r → Refuses cs (number r) (second r)
        → PlansEntry cs Gives Unchanged m plan' d d x
    ready_refused r x e h =
        refused r x e (small (number r) (second r) (refuses_before cs seven (number r) (second r) h))
        (refuses_before before seven (number r) (second r) (refuses_before cs six (number r) (second r) h))

    -- Too few result bytes, after the checks before 7.
    results_few : (x : ℕ) → x ≡ code (TooShort 32) → Accepts cs → length d < 32
        → PlansEntry cs Gives Unchanged m plan' d d x
    results_few x e a l =
        refused (TooShort result_size) x e (omega arith)
        (refuses_before before seven 6 result_size (refuses_next cs six result_size a (l, refl)))

  -- A plan.
  module _ (enough : 32 ≤ length d) (plan plan' d' : List ℕ) (unit load hyper energy : ℕ)
      (g : PlanGives (cs ▹ seven) m plan plan' (ok_planned unit load hyper energy))
      (gives : Gives (ok_planned unit load hyper energy))
      (numbers : RateNumbers m plan' (ok_planned unit load hyper energy))
      (bytes : d' ≡ result_bytes (unit ∷ load ∷ hyper ∷ energy ∷ []) ++ drop 32 d) where
    six_passes : Accepts before
    six_passes = accepts_next cs six (accepts_but_last cs seven g.0) (λ k h. omega (arith, h.0))

    accepted : Accepts (plan_entry_checks cs m (length d))
    accepted = accepts_next before seven six_passes (accepts_back cs (seven ∷ []) g.0).0

    read : (k : ℕ) → k < 4 → get_or (unit ∷ load ∷ hyper ∷ energy ∷ []) k 0 < 2 ^ 64 → result_at d' k ≡ get_or (unit ∷ load ∷ hyper ∷ energy ∷ []) k 0
    read k l h = ap (λ (x : List ℕ). result_at x k) bytes ∙ result_value (unit ∷ load ∷ hyper ∷ energy ∷ []) (drop 32 d) k l h

    entry-planned : PlansEntry cs Gives Unchanged m plan' d d' 0
    entry-planned =
        let inside = bits (accepts_but_last cs seven g.0) in
        let P = g.1.0 in
        let values = g.1.1.values_are in
        let fits = g.1.1.planned.chosen.ok in
        let margin = margin_small m inside P g.1.1.exponent g.1.1.planned in
        let unit_is : unit ≡ 2 ^ g.1.1.exponent = cc in
        let load_is : load ≡ plan_load m.problem P = cc in
        let hyper_is : hyper ≡ m.hyper = cc in
        let energy_is : energy ≡ m.energy P = cc in
        let unit_read : result_at d' 0 ≡ unit
        = read 0 (omega arith) (omega (arith, unit_is, inside.units P g.1.1.exponent g.1.1.planned)) in
        let load_read : result_at d' 1 ≡ load = read 1 (omega arith) (omega (arith, load_is, fits.fits, inside.limit)) in
        let hyper_read : result_at d' 2 ≡ hyper = read 2 (omega arith) (omega (arith, hyper_is, inside.hyper)) in
        let energy_few : energy < 2 ^ energy_bits = omega (arith, energy_is, inside.energies P fits) in
        let energy-read : result_at d' 3 ≡ energy = read 3 (omega arith) (omega (arith, energy_few)) in
        let promise : PlanPromise m (take m.problem.count plan') unit energy
        = answer_owes m cs plans plan plan' (ok_planned unit load hyper energy) g in
        let promise_read : PlanPromise m (take m.problem.count plan') (result_at d' 0) (result_at d' 3) =
        rw (unit_read, energy-read) promise in
        record {
          gives = inl (ok_planned unit load hyper energy, accepted, gives, refl, bytes);
          numbers = λ z. numbers;
          promise = λ z. promise_read;
          margin_fits = λ z. rw (unit_read, unit_is) (omega (arith, margin));
          energy_fits = λ z. omega (arith, energy_few, energy-read);
          load_is = λ z. load_read ∙ load_is ∙ ap (plan_load m.problem) (sym g.1.2.front);
          hyper_is = λ z. hyper_read ∙ hyper_is;
          seven_iff =
              ((λ z. absurd (omega arith)), (λ n. absurd (n.1 (take m.problem.count plan') promise.keeps)));
        }

  -- Any answer, after the checks before 7, and what was put of it.
  answered : Accepts cs → 32 ≤ length d → (plan plan' d' : List ℕ) (x : ℕ) (a : PlannerAnswer)
      → PlanGives (cs ▹ seven) m plan plan' a → Gives a → ((r : Refusal) → Gives (Err r) → Unchanged)
      → RateNumbers m plan' a → AnswerPut a d d' x → PlansEntry cs Gives Unchanged m plan' d d' x
  answered accepts enough plan plan' d' x (Ok p) g gives unchanged numbers put =
      rw put.0 (entry-planned enough plan plan' d' p.unit p.load p.hyper p.energy g gives numbers put.1)
  answered accepts enough plan plan' d' x (Err r) g gives unchanged numbers put =
      rw put.1 (answer_refused plan' (unchanged r gives) r x put.0 accepts enough g.0)

-- The second number of an answer is small where those of its checks are.
answer_small : (m : Planning) (cs : List Check) → ((n k : ℕ) → Refuses cs n k → k < 2 ^ 32)
    → (plan plan' : List ℕ) (a : PlannerAnswer) → PlanGives cs m plan plan' a → AnswerSmall a
answer_small m cs small plan plan' (Ok p) g = tt
answer_small m cs small plan plan' (Err r) g = small (number r) (second r) g.0

-- ---- a list, planned by an engine
module _ (e : Engine) (s plan work d : List ℕ) where
  abbrev checks : List Check
  checks = ready_checks e s (length plan) (length work)

  abbrev planned : Planning
  planned = planning (layout_of e) s

  plans : Plans planned checks
  plans = list_plans (engine_plans e s (length plan) (length work))

  inside : Accepts checks → InBits planned
  inside a = list_in_bits (layout_of e) s ((engine_plans e s (length plan) (length work)).set a)

  seconds : (n k : ℕ) → Refuses (planner_checks e s (length plan) (length work)) n k → k < 2 ^ 32
  seconds = planner_second_small e s (length plan) (length work)

  -- A refusal of the checks before 7 is the entry's, and its second number is small.
  pub list_refused : (r : Refusal) (x : ℕ) → x ≡ code r → SetAfter checks (layout_of e) s (Err r)
      → PlanEntry e s plan work d plan work d x
  list_refused r x is h = ready_refused planned checks plans inside seconds d _ _ plan (refl, refl) r x is h

  pub refused_small : (r : Refusal) → SetAfter checks (layout_of e) s (Err r) → second r < 2 ^ 32
  refused_small r h =
      seconds (number r) (second r)
      (refuses_before checks (none_check (Fitting (problem_of (layout_of e) s))) (number r) (second r) h)

  -- Too few result bytes.
  pub list_few : (x : ℕ) → x ≡ code (TooShort 32) → Accepts checks → length d < 32 → PlanEntry e s plan work d plan work d x
  list_few x is a l = results_few planned checks plans inside seconds d _ _ plan (refl, refl) x is a l

  -- What the call answered, and what was put of it.
  module _ {plan' work' : List ℕ} {a : PlannerAnswer} (call : PlannerCall e s plan work plan' work' a) where
    pub given_small : AnswerSmall a
    given_small =
        answer_small planned (planner_checks e s (length plan) (length work)) seconds plan plan' a call.gives.0

    pub list_answered : Accepts checks → 32 ≤ length d → (d' : List ℕ) (x : ℕ) → AnswerPut a d d' x
        → PlanEntry e s plan work d plan' work' d' x
    list_answered accepts enough d' x put =
        answered planned checks plans inside seconds d _ _ accepts enough plan plan' d' x a call.gives.0 call.gives
        (λ r g. (g.0.1, g.1)) call.numbers put

-- Before it is left in so many bytes: a refusal of the checks, one of the bytes, and the answer of the call.
module _ (e : Engine) (s plan work : List ℕ) (size : ℕ) where
  abbrev Entry : (plan' work' d d' : List ℕ) → ℕ → Type 0
  Entry plan' work' d = PlanEntry e s plan work d plan' work'

  pub checks_refused : (r : Refusal) → SetAfter (checks e s plan work []) (layout_of e) s (Err r) → Answers (Entry plan work) size (Err r)
  checks_refused r h = record {
    fits = refused_small e s plan work [] r h;
    gives = λ d d' x is left. subst (λ (z : List ℕ). Entry plan work d z x) (sym left.1) (list_refused e s plan work d r x left.0 h);
  }

  pub bytes_refused : (r : Refusal) → Accepts (checks e s plan work []) → EnoughAfter size (Err r) → Answers (Entry plan work) size (Err r)
  bytes_refused r a h = record {
    fits = let k : second r ≡ 32 = ap second h.0 in omega arith;
    gives = λ d d' x is left.
        subst (λ (z : List ℕ). Entry plan work d z x) (sym left.1)
        (list_few e s plan work d x (left.0 ∙ ap code h.0) a (omega (arith, h.1)));
  }

  pub call_answered : {plan' work' : List ℕ} (a : PlannerAnswer) → PlannerCall e s plan work plan' work' a → Accepts (checks e s plan work []) → 32 ≤ size
      → Answers (Entry plan' work') size (values_of a)
  call_answered (Ok p) call accepts enough = record {
    fits = enough;
    gives = λ d d' x is left. list_answered e s plan work d {a = Ok p} call accepts (omega arith) d' x left;
  }
  call_answered (Err r) call accepts enough = record {
    fits = given_small e s plan work [] {a = Err r} call;
    gives = λ d d' x is left. list_answered e s plan work d {a = Err r} call accepts (omega arith) d' x left;
  }

-- What an entry gives goes over to other lists that its call is lent besides.
entry_with : {cs : List Check} {m : Planning} {plan' d d' : List ℕ} {x : ℕ} {Gives Other : PlannerAnswer → Type 0}
    {Unchanged Same : Type 0} → ((a : PlannerAnswer) → Gives a → Other a) → (Unchanged → Same)
    → PlansEntry cs Gives Unchanged m plan' d d' x → PlansEntry cs Other Same m plan' d d' x
entry_with other same e = record {
  gives = ⊎_elim (λ g. inl (g.0, g.1, other g.0 g.2, g.3, g.4)) (λ g. inr (g.0, g.1, g.2, same g.3, g.4)) e.gives;
  numbers = e.numbers;
  promise = e.promise;
  margin_fits = e.margin_fits;
  energy_fits = e.energy_fits;
  load_is = e.load_is;
  hyper_is = e.hyper_is;
  seven_iff = e.seven_iff;
}

-- The dull engine's, whatever working words are lent: it touches none.
pub without_work : {s plan work d plan' work' d' : List ℕ} {x : ℕ} → PlanEntry Exhaustive s plan work d plan' work' d' x
    → DullEntry s plan d plan' d' x
without_work = entry_with (λ a g. (g.0, untouched [] a)) (λ u. (u.0, refl))

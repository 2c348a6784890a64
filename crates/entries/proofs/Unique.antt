-- The entries' contracts leave nothing open: two results that meet one are equal.
-- Assumes nothing.
use Prim.Native.Nat.{ℕ}
use mathlib.Core.Path.{◌≡◌, refl, sym, ap, ◌∙◌}
use mathlib.Core.List.{List, [], ◌++◌}
use mathlib.Core.Logic.{⊎_elim}
use lib.ListN.{length, drop}
use Rattle.selection.specs.Plan.{Fitting}
use Rattle.taskset.specs.Planning.{Planning, planning, layout_of}
use Rattle.taskset.specs.declared.Engine.{Engine}
use Rattle.taskset.specs.declared.Engine.TheVariants.{Exhaustive}
use Rattle.taskset.specs.Refusals.{number, second, Check, room_check, none_check}
use Rattle.taskset.specs.Refusals.{ready_checks, walk_checks}
use Rattle.taskset.specs.Calls.{code, planner_values, walk_values, PlannerGives, WalkAnswers}
use Rattle.taskset.proofs.Checks.{AllSingle, not-both}
use Rattle.taskset.proofs.Unique.{short_single, none_single, single_next, ready_single}
use Rattle.taskset.proofs.Unique.{walk_single, planner_unique, walk_unique, refusal_unique}
use Rattle.draws.specs.Calls.{generator_checks, GeneratorGives}
use Rattle.draws.proofs.Unique.{generator_single, generator_unique}
use Rattle.entries.specs.Entry.{result_bytes, result_size, EntryGives, walk_entry_checks, WalkEntryGives, before_seven}
use Rattle.entries.specs.Entry.{plan_entry_checks, PlanEntry, DullEntry}
use Rattle.entries.specs.Entry.{generate_entry_checks, generator_values, GenerateEntryGives}

-- ---- every entry. l₁ and l₂ are the other lists as two answers give them back: equal where the call's own answers make
-- them so, and where both leave them as they were.
module _ {L A : Type 0} (cs : List Check) (single : AllSingle cs) (Gives : L → A → Type 0) (values : A → List ℕ) (Unchanged : L → Type 0)
    (one : (l₁ l₂ : L) (a b : A) → Gives l₁ a → Gives l₂ b → (a ≡ b) × (l₁ ≡ l₂))
    (same : (l₁ l₂ : L) → Unchanged l₁ → Unchanged l₂ → l₁ ≡ l₂) where
  pub entry_unique : (l₁ l₂ : L) (d d₁ d₂ : List ℕ) (x y : ℕ)
      → EntryGives cs (Gives l₁) values (Unchanged l₁) d d₁ x → EntryGives cs (Gives l₂) values (Unchanged l₂) d d₂ y
      → (x ≡ y) × (l₁ ≡ l₂) × (d₁ ≡ d₂)
  entry_unique l₁ l₂ d d₁ d₂ x y =
      ⊎_elim
      (λ g. ⊎_elim
      (λ h.
      let both = one l₁ l₂ g.0 h.0 g.2 h.2 in
      (g.3 ∙ sym h.3, both.1, g.4 ∙ ap (λ (a : A). result_bytes (values a) ++ drop result_size d) both.0 ∙ sym h.4))
      (λ h. absurd (not-both cs (number h.0) (second h.0) g.1 h.1)))
      (λ g. ⊎_elim
      (λ h. absurd (not-both cs (number g.0) (second g.0) h.1 g.1))
      (λ h.
      let r = refusal_unique cs single g.0 h.0 g.1 h.1 in
      (g.2 ∙ ap code r ∙ sym h.2, same l₁ l₂ g.3 h.3, g.4 ∙ sym h.4)))

-- ---- the walk
entry_single : (s P : List ℕ) (size : ℕ) → AllSingle (walk_entry_checks s P size)
entry_single s P size =
    single_next (walk_checks s P) (room_check result_size size) (walk_single s P) (short_single result_size size)

pub walk-entry_unique : (s P d d₁ d₂ : List ℕ) (x y : ℕ) → WalkEntryGives s P d d₁ x → WalkEntryGives s P d d₂ y → (x ≡ y) × (d₁ ≡ d₂)
walk-entry_unique s P d d₁ d₂ x y g h =
    let u = entry_unique {L = Unit {0}} (walk_entry_checks s P (length d)) (entry_single s P (length d))
    (λ _. WalkAnswers s P) walk_values (λ _. Unit {0})
    (λ l₁ l₂ a b p q. (walk_unique s P a b p q, refl)) (λ l₁ l₂ p q. refl) tt tt d d₁ d₂ x y g h in
    (u.0, u.2)

-- ---- a call that plans
plan_entry_single : (cs : List Check) → AllSingle cs → (m : Planning) (size : ℕ) → AllSingle (plan_entry_checks cs m size)
plan_entry_single cs single m size =
    single_next (before_seven cs size) (none_check (Fitting m.problem))
    (single_next cs (room_check result_size size) single (short_single result_size size))
    (none_single (Fitting m.problem))

-- ---- a list
-- The plan list and the working list, as an answer gives them back.
record Lent : Type 0 where
  plan : List ℕ
  work : List ℕ

lent_same : (l₁ l₂ : Lent) → l₁.plan ≡ l₂.plan → l₁.work ≡ l₂.work → l₁ ≡ l₂
lent_same l₁ l₂ p w = λ i. record { plan = p i; work = w i }

pub record SameEntry (x y : ℕ) (plan₁ work₁ results₁ plan₂ work₂ results₂ : List ℕ) : Type 0 where
  pub returned : x ≡ y
  pub plan : plan₁ ≡ plan₂
  pub work : work₁ ≡ work₂
  pub results : results₁ ≡ results₂

pub plan_entry_unique : (e : Engine) (s plan work d plan₁ work₁ d₁ plan₂ work₂ d₂ : List ℕ) (x y : ℕ)
    → PlanEntry e s plan work d plan₁ work₁ d₁ x → PlanEntry e s plan work d plan₂ work₂ d₂ y
    → SameEntry x y plan₁ work₁ d₁ plan₂ work₂ d₂
plan_entry_unique e s plan work d plan₁ work₁ d₁ plan₂ work₂ d₂ x y g h =
    let ready = ready_checks e s (length plan) (length work) in
    let m = planning (layout_of e) s in
    let u = entry_unique {L = Lent} (plan_entry_checks ready m (length d))
    (plan_entry_single ready (ready_single e s (length plan) (length work)) m (length d))
    (λ l. PlannerGives e s plan work l.plan l.work) planner_values (λ l. (l.plan ≡ plan) × (l.work ≡ work))
    (λ l₁ l₂ a b p q.
    let z = planner_unique e s plan work l₁.plan l₁.work l₂.plan l₂.work a b p q in
    (z.answer, lent_same l₁ l₂ z.plan z.work))
    (λ l₁ l₂ p q. lent_same l₁ l₂ (p.0 ∙ sym q.0) (p.1 ∙ sym q.1))
    (record { plan = plan₁; work = work₁ }) (record { plan = plan₂; work = work₂ }) d d₁ d₂ x y g.gives h.gives in
    record { returned = u.0; plan = ap (λ (l : Lent). l.plan) u.1; work = ap (λ (l : Lent). l.work) u.1; results = u.2 }

pub dull_entry_unique : (s plan d plan₁ d₁ plan₂ d₂ : List ℕ) (x y : ℕ)
    → DullEntry s plan d plan₁ d₁ x → DullEntry s plan d plan₂ d₂ y → (x ≡ y) × (plan₁ ≡ plan₂) × (d₁ ≡ d₂)
dull_entry_unique s plan d plan₁ d₁ plan₂ d₂ x y g h =
    let u = plan_entry_unique Exhaustive s plan [] d plan₁ [] d₁ plan₂ [] d₂ x y g h in
    (u.returned, u.plan, u.results)

-- ---- the generator
generate_entry_single : (seed n setLength size : ℕ) → AllSingle (generate_entry_checks seed n setLength size)
generate_entry_single seed n sl size =
    single_next (generator_checks seed n sl) (room_check result_size size) (generator_single seed n sl) (short_single result_size size)

pub generate_entry_unique : (seed n : ℕ) (s d s₁ d₁ s₂ d₂ : List ℕ) (x y : ℕ)
    → GenerateEntryGives seed n s d s₁ d₁ x → GenerateEntryGives seed n s d s₂ d₂ y
    → (x ≡ y) × (s₁ ≡ s₂) × (d₁ ≡ d₂)
generate_entry_unique seed n s d s₁ d₁ s₂ d₂ =
    entry_unique (generate_entry_checks seed n (length s) (length d)) (generate_entry_single seed n (length s) (length d))
    (GeneratorGives seed n s) generator_values (λ l. l ≡ s)
    (λ l₁ l₂ a b p q. let z = generator_unique seed n s l₁ l₂ a b p q in (z.answer, z.list)) (λ l₁ l₂ p q. p ∙ sym q) s₁ s₂ d d₁ d₂

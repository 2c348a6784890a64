-- The words of a list that passes check 2, the lines that they make, and the whole text.
-- Assumes nothing.
use Prim.Native.Nat.{ℕ, zero, suc, ◌+◌, ◌-◌, ◌≤◌, ◌<◌}
use mathlib.Core.Path.{◌≡◌, refl, ap, ◌∙◌, subst}
use mathlib.Core.List.{List, [], ◌++◌, append_assoc}
use mathlib.Core.Option.{Option, none, some}
use native.Mathlib.Nat.{zero-add}
use native.Mathlib.Omega.{arith}
use lib.ListN.{length, get_or, take, drop}
use Rattle.numbers.specs.Numbers.{each, joined}
use Rattle.numbers.proofs.Lists.{each-length, each_at}
use Rattle.layout.specs.Words.{head_size, most_rates, most_tasks, word, slack, idle, rate_count, task_count}
use Rattle.layout.specs.Words.{rate_place, task_count_place, task_size, energy_place, rate, first, energy}
use Rattle.layout.specs.declared.Layout.TheVariants.{Ordinary}
use Rattle.layout.specs.Whole.{IsWhole}
use Rattle.layout.proofs.Whole.{in_list}
use Rattle.text.specs.Text.{bytes, decimal, spaced, first_text, task_text, idle_text, clock_text, script_text, list_rates}
use Rattle.text.specs.Text.{shown, line_of, script_of}
use Rattle.text.proofs.Grammar.{energy_form}
use Rattle.text.proofs.Sizes.{text_length}
use Rattle.text.proofs.RoundTrip.{script_of_list}
use Rattle.checks.specs.Steps.{OfCounts}
use Rattle.writer.specs.Lines.{optional_text, slack_text, idle_line, rates_text}
use Rattle.writer.proofs.Rows.{part}
use Rattle.layout.specs.declared.Layout.{Layout}
use Rattle.writer.specs.declared.Listed.{Listed}

-- The task at place t of a list that passes check 2 and has m rates.
pub record OfTask (layout : Layout) (m t : ℕ) (s : List ℕ) : Type 0 where
  pub whole : IsWhole layout s
  pub counted : m ≡ rate_count layout s
  pub task : t < task_count layout s

-- ---- the words of a list that passes check 2
module _ {w : List ℕ} {m n : ℕ} (has : OfCounts Ordinary m n w) where
  pub rates_few : m ≤ most_rates
  rates_few = omega (arith, has.counted, has.whole.rates_range.1)

  pub rates_inside : task_count_place Ordinary m ≤ length w
  rates_inside = omega (arith, has.counted, has.whole.size)

  pub rates_are : (a e : ℕ) → a ≡ rate_place Ordinary 1 → e ≡ task_count_place Ordinary m → take (e - a) (drop a w) ≡ list_rates w
  rates_are a e x y =
      part w (rate Ordinary w) (head_size Ordinary) (λ j. refl) 1 m a e x y (omega (arith, rates_inside)) ∙ ap (each (rate Ordinary w) 1) has.counted

module _ {w : List ℕ} {m t : ℕ} (has : OfTask Ordinary m t w) where
  pub task_few : (m ≤ most_rates) × (t ≤ most_tasks)
  task_few = (rates_few (record { whole = has.whole; counted = has.counted; numbered = refl }), omega (arith, has.task, has.whole.tasks_range.1))

  pub task_inside : energy_place Ordinary m t 1 + m ≤ length w
  task_inside =
      rw has.counted
      (omega (arith, in_list Ordinary w has.whole t (task_size Ordinary (rate_count Ordinary w) - 1) has.task (omega arith)))

  pub energies_are : (a e : ℕ) → a ≡ energy_place Ordinary m t 1 → e ≡ a + m → take (e - a) (drop a w) ≡ (line_of w t).energies
  energies_are a e x y =
      let r = has.counted in
      let z : a ≡ energy_place Ordinary (rate_count Ordinary w) t 0 + 1 = x ∙ ap (λ (k : ℕ). energy_place Ordinary k t 1) r ∙ omega arith in
      part w (energy Ordinary w t) (energy_place Ordinary (rate_count Ordinary w) t 0) (λ j. ap (word w) (omega arith)) 1 (rate_count Ordinary w)
      a e z (omega (arith, r)) (omega (arith, task_inside))

-- ---- a form that stands only where its number is above 0
module _ (front end : List ℕ) where
  pub shown-none : (v : ℕ) → v ≡ 0 → optional_text front end (shown v) ≡ []
  unfolding optional_text
  shown-none v e = rw e

  pub shown_some : (v : ℕ) → 0 < v → optional_text front end (shown v) ≡ front ++ (decimal v ++ end)
  unfolding optional_text
  shown_some zero above = absurd (omega arith)
  shown_some (suc v) above = refl

-- A first release is one.
first_same : (o : Option ℕ) → optional_text (bytes " (from ") (bytes ")") o ≡ first_text o
unfolding optional_text
first_same none = refl
first_same (some a) = refl

-- ---- the lines of such a list's tasks
-- A line by its numbers, in the parts that the writer writes; and that it is the task's line, where its numbers were
-- taken from the list: the list has rates, so each of its tasks has energies, and each line the energy form.
abbrev pub line_text : (period cycles : ℕ) → (energies : List ℕ) → (first : ℕ) → List ℕ
line_text period cycles energies first =
    bytes "(task (period " ++ (decimal period ++ (bytes ") (cycles " ++ (decimal cycles ++
    (bytes ") (energy" ++ (joined spaced energies ++
    (bytes ")" ++ (optional_text (bytes " (from ") (bytes ")") (shown first) ++ bytes ")\n")))))))

module _ {w : List ℕ} {m t : ℕ} (has : OfTask Ordinary m t w) where
  some_energy : 1 ≤ length (line_of w t).energies
  some_energy = omega (arith, each-length (energy Ordinary w t) 1 (rate_count Ordinary w), has.whole.rates_range.0)

  pub line_same : {p c a : ℕ} {e : List ℕ} → p ≡ (line_of w t).period → c ≡ (line_of w t).cycles → e ≡ (line_of w t).energies
      → a ≡ first Ordinary w t → line_text p c e a ≡ task_text (line_of w t)
  line_same x y z f = rw (x, y, z, f, first_same, energy_form (line_of w t).energies some_energy) (simp append_assoc)

module _ {w : List ℕ} {m n : ℕ} (has : OfCounts Ordinary m n w) where
  pub tasks-count : length (script_of w).tasks ≡ n
  unfolding script_of
  tasks-count = omega (arith, each-length (line_of w) 0 (task_count Ordinary w), has.numbered)

  module _ (t : ℕ) (h : t < n) where
    pub task_of : OfTask Ordinary m t w
    task_of = record { whole = has.whole; counted = has.counted; task = omega (arith, has.numbered) }

    pub line_is : get_or (script_of w).tasks t (line_of w t) ≡ line_of w t
    unfolding script_of
    line_is = each_at (line_of w) 0 (task_count Ordinary w) t task_of.task (line_of w t) ∙ ap (line_of w) (zero-add t)

-- ---- the whole text
-- The bracket of the line behind the idle line, which a script's text has at its end, before it.
turned : (o : Option ℕ) (u : List ℕ) → bytes "(" ++ (idle_text o ++ u) ≡ idle_line o ++ (bytes "(" ++ u)
unfolding idle_line optional_text
turned none u = refl
turned (some h) u = simp append_assoc

forms : (w : List ℕ) → let s = script_of w in
    script_text s ≡ ((slack_text s.slack ++ idle_line s.idle) ++ rates_text (list_rates w)) ++ joined task_text s.tasks
unfolding script_of slack_text rates_text
forms w =
    let s = script_of w in
    ap (λ (l : List ℕ). bytes "(slack " ++ (decimal s.slack ++ (bytes ")\n" ++ l)))
    (turned s.idle (clock_text s.clock ++ (bytes ")\n" ++ joined task_text s.tasks)))
    ∙ simp append_assoc

-- Form by form, with what was taken from the list.
pub cut : (w : List ℕ) {g h : ℕ} {fs : List ℕ} → g ≡ slack w → h ≡ idle w → fs ≡ list_rates w
    → script_text (script_of w) ≡ slack_text g ++ (idle_line (shown h) ++ (rates_text fs ++ joined task_text (script_of w).tasks))
unfolding script_of
cut w x y z = rw (x, y, z) (forms w ∙ simp append_assoc)

pub text_short : {w : List ℕ} {m n : ℕ} → OfCounts Ordinary m n w → length (script_text (script_of w)) < 6000
text_short {w} has = text_length (script_of w) (script_text (script_of w)) (record { script = script_of_list w has.whole; text = refl })

-- What a set's list keeps, where it is the ordinary one.
pub counts_of : (s : Listed) → OfCounts Ordinary s.set.rates s.set.tasks s.set.words.now
counts_of s = subst (λ (l : Layout). OfCounts l s.set.rates s.set.tasks s.set.words.now) s.ordinary s.set.counts

pub at_ordinary : (f : Layout → ℕ) (s : Listed) {k : ℕ} → k ≡ f s.set.layout → k ≡ f Ordinary
at_ordinary f s e = e ∙ ap f s.ordinary

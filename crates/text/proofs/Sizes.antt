-- How long a text can be: every well-formed text is under 6,000 bytes.
-- Assumes nothing.
use Prim.Native.Nat.{ℕ, zero, suc, ◌*◌, ◌/◌, ◌%◌, ◌+◌, ◌≤◌, ◌<◌}
use mathlib.Core.Path.{◌≡◌, refl, sym, ap, ◌∙◌}
use mathlib.Core.List.{List, [], ◌∷◌, ◌++◌}
use mathlib.Core.Bool.{Bool, true, false, cond}
use mathlib.Core.Option.{Option, none, some}
use native.Mathlib.Bridge.{le_by_compare, IsLe}
use native.Mathlib.Nat.{suc-mul}
use native.Mathlib.Omega.{arith}
use lib.ListN.{length, replicate, length-append}
use lib.Dec.{ltb}
use borrow.Author.Tests.{ltb-true, ltb-false}
use Rattle.numbers.specs.Numbers.{All, joined}
use Rattle.layout.specs.Words.{head_kinds, extra_kinds, most_rates, most_tasks, most_words, task_size, period_place}
use Rattle.layout.specs.declared.Layout.TheVariants.{Ordinary}
use Rattle.layout.proofs.Layouts.{words_few}
use Rattle.chips.specs.declared.Chip.TheVariants.{Xscale, Ppc405lp}
use Rattle.chips.proofs.Tables.{count_range, rates-length, energies-length as energies-length-of}
use Rattle.text.specs.Text.{TaskLine, Clock, rates, chip, Script, digits, decimal, spaced, energy_text}
use Rattle.text.specs.Text.{first_text, task_text, clock_text, idle_text, script_text}
use Rattle.text.proofs.Grammar.{energy_form}
use Rattle.text.specs.Text.{rates_of, energies_of, task_words, words, Word, MaybeWord, ClockOk, energy_count, TaskLineOk}
use Rattle.text.specs.Text.{ScriptOk, IsTextOf}

-- ---- numbers
digits-length : (k n : ℕ) → length (digits k n) ≤ k
unfolding digits
digits-length zero n = omega arith
digits-length (suc k) n = go (ltb n 10) (digits-length k (n / 10))
  where
    go : (x : Bool) → length (digits k (n / 10)) ≤ k → length (cond x ((48 + n) ∷ []) (digits k (n / 10) ++ ((48 + n % 10) ∷ []))) ≤ suc k
    go true h = omega arith
    go false h = rw length-append (omega arith)

digits_grow : (k a b : ℕ) → a ≤ b → length (digits k a) ≤ length (digits k b)
unfolding digits
digits_grow zero a b h = omega arith
digits_grow (suc k) a b h = go (ltb a 10) (ltb b 10) refl refl (digits_grow k (a / 10) (b / 10) (omega arith))
  where
    go : (x y : Bool) → ltb a 10 ≡ x → ltb b 10 ≡ y → length (digits k (a / 10)) ≤ length (digits k (b / 10))
        → length (cond x ((48 + a) ∷ []) (digits k (a / 10) ++ ((48 + a % 10) ∷ []))) ≤ length (cond y ((48 + b) ∷ []) (digits k (b / 10) ++ ((48 + b % 10) ∷ [])))
    go true true p q e = omega arith
    go true false p q e = rw length-append (omega arith)
    go false true p q e = absurd (omega (arith, ltb-false a 10 p, ltb-true b 10 q))
    go false false p q e = simp length-append (omega arith)

-- A larger number has no fewer digits.
pub decimal_grows : (a b : ℕ) → a ≤ b → length (decimal a) ≤ length (decimal b)
unfolding decimal
decimal_grows = digits_grow 20

-- No number has more digits than `decimal` gives, and so none more than the largest of 64 bits; no word more than the
-- largest of 32.
pub decimal-length : (n : ℕ) → length (decimal n) ≤ 20
unfolding decimal
decimal-length = digits-length 20

abbrev pub widest_number : ℕ
widest_number = 18446744073709551615

pub decimal_widest : (n : ℕ) → length (decimal n) ≤ length (decimal widest_number)
unfolding decimal digits
decimal_widest = decimal-length

abbrev widest_word : ℕ
widest_word = 4294967295

word_widest : (n : ℕ) → Word n → length (decimal n) ≤ length (decimal widest_word)
word_widest n h = decimal_grows n widest_word (omega arith)

-- ---- texts: nothing is longer than what has the widest numbers, and as many of them as there may be
-- Items of which none is longer than w: at most k of them.
joined_length : {A : Type 0} (f : A → List ℕ) (P : A → Type 0) (w : A) → ((x : A) → P x → length (f x) ≤ length (f w))
    → (k : ℕ) (xs : List A) → All P xs → length xs ≤ k → length (joined f xs) ≤ length (joined f (replicate k w))
joined_length f P w h k [] a l = omega arith
joined_length f P w h zero (x ∷ xs) a l = absurd (omega arith)
joined_length f P w h (suc k) (x ∷ xs) a l =
    simp length-append (omega (arith, h x a.0, joined_length f P w h k xs a.1 (omega arith)))

unfoldable widest_numbers : List ℕ
widest_numbers = replicate most_rates widest_word

numbers-length : (xs : List ℕ) → All Word xs → length xs ≤ most_rates → length (joined spaced xs) ≤ length (joined spaced widest_numbers)
unfolding widest_numbers
numbers-length = joined_length spaced Word widest_word (λ v p. omega (arith, word_widest v p)) most_rates

-- The energy form of the widest line is the widest, and a line without energies has none.
energy-length : (es : List ℕ) → 1 ≤ length es → length (energy_text es) ≡ 9 + length (joined spaced es)
energy-length es h = ap length (energy_form es h) ∙ simp length-append (omega arith)

some_numbers : 1 ≤ length widest_numbers
unfolding widest_numbers
some_numbers = omega arith

energies-length : (es : List ℕ) → All Word es → length es ≤ most_rates → length (energy_text es) ≤ length (energy_text widest_numbers)
energies-length [] a l = omega arith
energies-length (e ∷ es) a l =
    omega (arith, energy-length (e ∷ es) (omega arith), energy-length widest_numbers some_numbers, numbers-length (e ∷ es) a l)

-- A form that may be absent is longest with the widest number: k is how many bytes it has beside its digits.
optional-length : (text : Option ℕ → List ℕ) (k : ℕ) → text none ≡ [] → ((v : ℕ) → length (text (some v)) ≡ k + length (decimal v))
    → (o : Option ℕ) → MaybeWord o → length (text o) ≤ length (text (some widest_word))
optional-length text k empty size none d = rw empty (omega arith)
optional-length text k empty size (some v) d = omega (arith, size v, size widest_word, word_widest v d)

abbrev widest_line : TaskLine
widest_line = record { period = widest_word; cycles = widest_word; energies = widest_numbers; first = some widest_word }

unfoldable widest_lines : List TaskLine
widest_lines = replicate most_tasks widest_line

abbrev widest_script : Script
widest_script = record { slack = widest_word; idle = some widest_word; clock = rates widest_numbers; tasks = widest_lines }

-- A chip's line is no longer than the widest line of rates.
clock_length : (k : Clock) → ClockOk k → length (clock_text k) ≤ length (clock_text (rates widest_numbers))
unfolding widest_numbers decimal digits IsLe
clock_length (rates fs) d = let r = numbers-length fs d.each d.most in simp length-append (omega arith)
clock_length (chip Xscale) d = le_by_compare _ _ tt
clock_length (chip Ppc405lp) d = le_by_compare _ _ tt

energies_few : (k : Clock) → ClockOk k → energy_count k ≤ most_rates
energies_few (rates fs) d = d.most
energies_few (chip c) d = omega arith

task-length : (m : ℕ) → m ≤ most_rates → (t : TaskLine) → TaskLineOk m t → length (task_text t) ≤ length (task_text widest_line)
task-length m h t k =
    let p = word_widest t.period k.period in
    let c = word_widest t.cycles k.cycles in
    let e = energies-length t.energies k.energies.each (omega (arith, k.energies.most)) in
    let a = simp length-append at (optional-length first_text 8 refl (λ v. simp length-append (omega arith)) t.first k.first) in
    simp length-append (omega arith)

lines_length : (m : ℕ) → m ≤ most_rates → (ts : List TaskLine) → All (TaskLineOk m) ts → length ts ≤ most_tasks
    → length (joined task_text ts) ≤ length (joined task_text widest_lines)
unfolding widest_lines
lines_length m h = joined_length task_text (TaskLineOk m) widest_line (task-length m h) most_tasks

script_length : (s : Script) → ScriptOk s → length (script_text s) ≤ length (script_text widest_script)
script_length s k =
    let g = word_widest s.slack k.slack in
    let i = simp length-append at (optional-length idle_text 8 refl (λ v. simp length-append (omega arith)) s.idle k.idle) in
    let r = clock_length s.clock k.clock in
    let t = lines_length (energy_count s.clock) (energies_few s.clock k.clock) s.tasks k.tasks.each
    k.tasks.most in
    simp length-append (omega arith)

widest_length : length (script_text widest_script) < 6000
unfolding widest_numbers widest_lines decimal digits IsLe
widest_length = le_by_compare _ _ tt

pub text_length : (s : Script) (t : List ℕ) → IsTextOf s t → length t < 6000
text_length s t h = omega (arith, ap length h.text, script_length s h.script, widest_length)

-- ---- words
-- Few rates, and as many energies as rates, whatever the clock.
pub rates_few : (k : Clock) → ClockOk k → length (rates_of k) ≤ most_rates
rates_few (rates fs) d = d.most
rates_few (chip c) d = omega (arith, rates-length c, count_range c)

as_many : (k : Clock) (t : TaskLine) → TaskLineOk (energy_count k) t → length (energies_of k t) ≡ length (rates_of k)
as_many (rates fs) t h = omega (arith, h.energies.least, h.energies.most)
as_many (chip c) t h = energies-length-of c _ ∙ sym (rates-length c)

pub task_size_lem : (k : Clock) (t : TaskLine) → TaskLineOk (energy_count k) t → length (task_words k t) ≡ task_size Ordinary
    (length (rates_of k))
unfolding extra_kinds
task_size_lem k t h = omega (arith, as_many k t h)

words_of_tasks : (k : Clock) (ts : List TaskLine) → All (TaskLineOk (energy_count k)) ts
    → length (joined (task_words k) ts) ≡ length ts * task_size Ordinary (length (rates_of k))
words_of_tasks k [] a = omega arith
words_of_tasks k (t ∷ ts) a =
    length-append (task_words k t) (joined (task_words k) ts)
    ∙ omega (
      arith,
      task_size_lem k t a.0,
      words_of_tasks k ts a.1,
      suc-mul (length ts)
          (task_size Ordinary (length (rates_of k))),
    )

-- A script's words are as many as its list's layout has for so many rates and tasks: few enough for the reader's own
-- list.
pub words_size : (s : Script) → ScriptOk s → length (words s) ≡ period_place Ordinary (length (rates_of s.clock))
    (length s.tasks)
unfolding words head_kinds
words_size s k =
    simp length-append (omega (arith, words_of_tasks s.clock s.tasks k.tasks.each))

pub words-length : (s : Script) → ScriptOk s → length (words s) ≤ most_words
words-length s k =
    omega (
      arith,
      words_size s k,
      words_few (length (rates_of s.clock)) (length s.tasks)
          (rates_few s.clock k.clock) k.tasks.most,
    )

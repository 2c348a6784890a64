-- What the generator answers, what it leaves in the list lent to it, and what its list owes (document 02, note 1).
use Rattle.std.specs.Prelude.{ℕ, ◌≡◌, false, List, [], ◌∷◌, length, take, Ok, Err}
use Rattle.std.specs.Int.{◌∣◌}
use Rattle.numbers.specs.Numbers.{between}
use Rattle.layout.specs.Words.{most_tasks}
use Rattle.layout.specs.declared.Layout.TheVariants.{Ordinary}
use Rattle.taskset.specs.Quantities.{hyper_period}
use Rattle.taskset.specs.Refusals.{Check, check, Passes, Accepts, ◌▹◌, room_check, word_checks, idle_check, hyper_check}
use Rattle.taskset.specs.Calls.{CopyGives}
use Rattle.draws.specs.Generated.{generated}
use Rattle.taskset.specs.Answers.{CopyAnswer}

-- "Errors: 2 with place 0 for N outside 1 to 32, then 6." lent is the length of the list; 6 is of all the words of the
-- set.
abbrev pub count_check : ℕ → Check
count_check n = check 2 (λ k. (between 1 most_tasks n ≡ false) × (k ≡ 0))

abbrev pub generator_checks : ℕ → ℕ → ℕ → List Check
generator_checks seed n lent = (count_check n ∷ []) ▹ room_check (length (generated seed n)) lent

-- "A generator takes a seed word and N, writes a set and returns its length." d is the list as lent, d' as given back: a
-- success writes the set's words, a refusal nothing.
abbrev pub GeneratorGives : (seed n : ℕ) (d d' : List ℕ) → CopyAnswer → Type 0
GeneratorGives seed n d = CopyGives (generator_checks seed n (length d)) (generated seed n) d

-- "A list from it passes checks 2, 3 and 4 for every seed." It passes 10 as well, since "the generator's hold 0" for H;
-- and its hyper-period divides 400.
pub record PassesChecks (s : List ℕ) : Type 0 where
  pub passes : Accepts (word_checks Ordinary s ▹ hyper_check Ordinary s)
  pub passes_10 : Passes (idle_check Ordinary s)
  pub hyper_divides : hyper_period Ordinary s ∣ 400

-- So do the words written, of as many as the answer says.
abbrev pub GeneratorOwes : List ℕ → CopyAnswer → Type 0
GeneratorOwes d' (Ok k) = PassesChecks (take k d')
GeneratorOwes d' (Err r) = Unit {0}

-- THE CALL'S CONTRACT.
pub record GeneratorCall (seed n : ℕ) (d d' : List ℕ) (a : CopyAnswer) : Type 0 where
  pub gives : GeneratorGives seed n d d' a
  pub owes : GeneratorOwes d' a

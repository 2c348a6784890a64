-- Energies over the largest: in the reader's own list, and of the script that it read.
-- Assumes nothing.
use Prim.Native.Nat.{ℕ, suc, ◌+◌, ◌-◌, ◌≤◌, ◌<◌}
use mathlib.Core.Path.{◌≡◌, refl, sym, ap, ◌∙◌, subst}
use mathlib.Core.List.{List}
use native.Mathlib.Nat.{suc-mul, mul-le-mul_right}
use native.Mathlib.Omega.{arith}
use lib.ListN.{length, take, drop, get_or, length-append, length-take, length-drop, get_or-append}
use Rattle.std.specs.Prelude.{Option, Some, None, SomeIndex}
use Rattle.std.proofs.Common.{get_or-take, get_or-drop}
use lib.Seq.{take_at}
use Rattle.numbers.specs.Numbers.{Lowest}
use Rattle.layout.specs.Words.{head_kinds, most_energy, word, rate_count, task_size, energy_place, energy}
use Rattle.layout.specs.declared.Layout.TheVariants.{Ordinary}
use Rattle.lists.specs.Writing.{placed, written}
use Rattle.text.specs.Text.{Clock, rates, chip, Script, ScriptOk, rates_of, words}
use Rattle.text.specs.Calls.{WorksOut, HasOver}
use Rattle.text.proofs.Sizes.{rates_few, words_size}
use Rattle.text.proofs.Copies.{NoneOver}
use Rattle.forms.specs.Forms.{clock_of, said_of}
use Rattle.reader.specs.Over.{OverIn, Holds, NamesChip, IsFirst, FirstNumber, OverTask}

-- ---- places
-- The energies of a task stand one after the other.
module _ (d : List ℕ) (m t first n : ℕ) (at : first ≡ energy_place Ordinary m t 1) (all : n ≡ m) (h : Holds d m (suc t)) where
  abbrev energies : List ℕ
  energies = take n (drop first d)

  some : length energies ≡ m
  some = simp (length-take, length-drop) (omega (arith, h.room, suc-mul t (task_size Ordinary m)))

  one : (k : ℕ) → k < m → get_or energies k 0 ≡ word d (energy_place Ordinary m t (k + 1))
  one k l =
      let there : first + k ≡ energy_place Ordinary m t (k + 1) = omega arith in
      get_or-take n (drop first d) k 0 (omega arith) ∙ get_or-drop first d k 0 ∙ ap (word d) there

  pub over_in : SomeIndex energies (λ k. most_energy < get_or energies k 0) → OverIn d m t
  over_in (k, l, o) = let e = one k (omega (arith, some)) in (k + 1, omega arith, omega (arith, some), omega (arith, e))

  pub over_among : OverIn d m t → SomeIndex energies (λ k. most_energy < get_or energies k 0)
  over_among (r, a, b, o) =
      let back : r - 1 + 1 ≡ r = omega arith in
      let e = rw back at (one (r - 1) (omega arith)) in (r - 1, omega (arith, some), omega (arith, e))

-- A list that has the words of n tasks has those of each of them.
pub holds_each : (d : List ℕ) (m n t : ℕ) → Holds d m n → t < n → Holds d m (suc t)
holds_each d m n t h l = record {
  rates = h.rates;
  tasks = omega (arith, h.tasks);
  room = omega (arith, h.room, mul-le-mul_right (task_size Ordinary m) l);
}

-- ---- a first task, by its number
pub numbered : {P : ℕ → Type 0} {n t : ℕ} → t < n → P t → ((k : ℕ) → k < t → P k → ⊥) → IsFirst P n (t + 1)
numbered {P} {n} {t} l h none =
    let back : t ≡ t + 1 - 1 = omega arith in
    record { from = omega arith; few = omega arith; here = subst P back h; before = λ k j. none k (omega arith) }

-- The same, of what holds with a fact beside it.
pub with_fact : {F : Type 0} (P : ℕ → Type 0) (n : ℕ) (r : Option ℕ) → F → FirstNumber P n r → FirstNumber (λ t. F × P t) n r
with_fact P n None fact f = λ t l h. f t l h.1
with_fact P n (Some k) fact f = record {
  from = f.from;
  few = f.few;
  here = (fact, f.here);
  before = λ t l h. f.before t l h.1;
}

-- ---- the words at the front of the reader's own list
pub front : (ws d e : List ℕ) (n : ℕ) → length ws ≡ n → e ≡ written 0 ws d → take n e ≡ ws
unfolding placed written
front ws d e n l q = rw q (take_at ws (drop (length ws) d) n l)

pub front_fits : (ws d e : List ℕ) (n : ℕ) → length ws ≡ n → e ≡ written 0 ws d → n ≤ length e
unfolding placed written
front_fits ws d e n l q = omega (arith, ap length q ∙ length-append ws (drop (length ws) d))

front_word : (ws d e : List ℕ) (q : ℕ) → e ≡ written 0 ws d → q < length ws → word e q ≡ word ws q
unfolding placed written
front_word ws d e q is h = ap (λ (l : List ℕ). word l q) is ∙ get_or-append ws (drop (length ws) d) 0 q h

-- ---- of the script
-- Energies are worked out of a script's clock just where the code's says so.
works : (k : Clock) → NamesChip (clock_of k) → WorksOut k
works (rates fs) w = w
works (chip c) w = tt

worked : (k : Clock) → WorksOut k → NamesChip (clock_of k)
worked (rates fs) w = w
worked (chip c) w = tt

counted : (s : Script) → rate_count Ordinary (words s) ≡ length (rates_of s.clock)
unfolding words head_kinds
counted s = refl

-- d is the reader's own list, with the script's words at its front.
module _ (s : Script) (ok : ScriptOk s) (z d : List ℕ) (stands : d ≡ written 0 (words s) z) where
  abbrev m : ℕ
  m = length (rates_of s.clock)

  abbrev n : ℕ
  n = length s.tasks

  pub holds : Holds d m n
  holds = record {
    rates = rates_few s.clock ok.clock;
    tasks = ok.tasks.most;
    room = omega (arith, words_size s ok, front_fits (words s) z d (length (words s)) refl stands);
  }

  energy_is : (t r : ℕ) → t < n → 1 ≤ r → r ≤ m → word d (energy_place Ordinary m t r) ≡ energy Ordinary (words s) t r
  energy_is t r l a b =
      let there : energy_place Ordinary m t r < length (words s) =
      omega (arith, words_size s ok, suc-mul t (task_size Ordinary m), mul-le-mul_right (task_size Ordinary m) l) in
      front_word (words s) z d (energy_place Ordinary m t r) stands there
      ∙ ap (λ (k : ℕ). word (words s) (energy_place Ordinary k t r)) (sym (counted s))

  has_over : (k : ℕ) → 1 ≤ k → k ≤ n → OverIn d m (k - 1) → HasOver s k
  has_over k a b o = record {
    from = a;
    to = b;
    rate = o.0;
    rate_from = o.1;
    rate_to = o.2;
    over = omega (arith, o.3, energy_is (k - 1) o.0 (omega arith) o.1 o.2);
  }

  is_over_lem : (k : ℕ) → HasOver s k → OverIn d m (k - 1)
  is_over_lem k h = (
    h.rate,
    h.rate_from,
    h.rate_to,
    omega
        (arith, h.over, energy_is (k - 1) h.rate (omega (arith, h.from, h.to)) h.rate_from h.rate_to),
  )

  -- The number that the code found is that of the first task with such an energy; and where it found none, there is none.
  pub first-over : (k : ℕ) → OverTask d (said_of s) (Some k) → WorksOut s.clock × Lowest (HasOver s) k
  first-over k f =
      let w = f.here.0 in (
        works s.clock w,
        record {
          here = has_over k f.from f.few f.here.1;
          before = λ j l h. f.before (j - 1) (omega (arith, h.from)) (w, is_over_lem j h);
        },
      )

  pub none_over : OverTask d (said_of s) None → NoneOver s
  none_over f w j h = f (j - 1) (omega (arith, h.from, h.to)) (worked s.clock w, is_over_lem j h)

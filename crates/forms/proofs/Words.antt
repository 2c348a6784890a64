-- The words of a task and of a set: as many as the layout says, and stored where it says.
-- Assumes nothing.
use Prim.Native.Nat.{ℕ, zero, suc, ◌+◌, ◌≤◌}
use mathlib.Core.Path.{◌≡◌, refl, sym, ap, ◌∙◌}
use mathlib.Core.List.{List, [], ◌∷◌, ◌++◌}
use mathlib.Core.Bool.{true, false}
use mathlib.Core.Option.{Option, none, some}
use native.Mathlib.Nat.{add-zero}
use native.Mathlib.Omega.{arith}
use lib.ListN.{length, drop, set}
use Rattle.numbers.specs.Numbers.{joined}
use Rattle.layout.specs.Words.{most_rates, head_kinds, extra_kinds, head_size, task_count_place, tasks_place, task_size}
use Rattle.layout.specs.declared.Layout.TheVariants.{Ordinary}
use Rattle.chips.proofs.Tables.{count_range, rates-length, energies-length}
use Rattle.text.specs.Text.{bytes, TaskLine, Clock, rates, chip, Script, ClockOk, energy_count, TaskLineOk, rates_of}
use Rattle.text.specs.Text.{idle_of, head_words, extra_words, task_words, words}
use Rattle.text.specs.Reading.{Res, mapped, skip, up_to, starts, numbers, absent, optional, read_energies, read_task, read_at}
use Rattle.std.specs.Prelude.{Result, Ok}
use Rattle.scanner.specs.Steps.{Reads}
use Rattle.scanner.specs.declared.Cursor.{Cursor}
use Rattle.scanner.specs.declared.Departure.{Departure}
use Rattle.scanner.proofs.Places.{on_value, shown, reads_first, reads_second}
use Rattle.text.proofs.Grammar.{dom_of, task_piece}
use Rattle.lists.specs.Writing.{written}
use Rattle.lists.proofs.Writing.{written_then, length-written}
use Rattle.forms.specs.Forms.{given, clock_of, rates_in, energies_in, idle_in, Fits, words_by}
use Rattle.forms.specs.declared.Clock as code
use Rattle.forms.specs.declared.Clock.TheVariants.{Rates, Named}
use Rattle.lists.proofs.Stores.{stored, in_front}

-- The words in front of the rate count, and of a task's energies.
head_front : (s : Script) → length (head_words s) ≡ head_size Ordinary
unfolding head_kinds
head_front s = refl

pub task_front : (t : TaskLine) → length (t.period ∷ t.cycles ∷ extra_words t) ≡ task_size Ordinary 0
unfolding extra_kinds
task_front t = refl

-- The clock that the code has, of the clock of a script: as many rates and energies, the same idle energy and words.
pub rates_in_lem : (k : Clock) → rates_in (clock_of k) ≡ length (rates_of k)
rates_in_lem (rates fs) = refl
rates_in_lem (chip c) = sym (rates-length c)

pub energies_in_lem : (k : Clock) → energies_in (clock_of k) ≡ energy_count k
energies_in_lem (rates fs) = refl
energies_in_lem (chip c) = refl

pub idle_in_lem : (v : Option ℕ) (k : Clock) → idle_in (given v) (clock_of k) ≡ idle_of v k
idle_in_lem (some h) k = refl
idle_in_lem none (rates fs) = refl
idle_in_lem none (chip c) = refl

pub words_by_lem : (k : Clock) → words_by (clock_of k) ≡ task_words k
words_by_lem (rates fs) = refl
words_by_lem (chip c) = refl

-- A clock that was read has some rates, and not too many.
pub fits : (k : Clock) → ClockOk k → Fits (clock_of k)
fits (rates fs) d = (omega (arith, d.least), d.most)
fits (chip c) d = tt

pub few_rates : (k : code.Clock) → Fits k → rates_in k ≤ most_rates
few_rates (Rates m) f = f.1
few_rates (Named c) f = (count_range c).1

-- What is read where a line has energies, and where it has none.
pub some_energies : (m : ℕ) → 1 ≤ m → read_energies m ≡ skip (bytes " (energy") (up_to (numbers m 0) (bytes ")"))
some_energies zero h = absurd (omega arith)
some_energies (suc m) h = refl

pub no_energies : (x : Cursor) → Reads (read_energies 0) x x (Ok [])
unfolding read_at
no_energies x = record { same = refl; answers = rw add-zero }

-- A form that may be absent, where the byte that begins it does not stand there, and where it does.
module _ (c : ℕ) (p : List ℕ → Res ℕ) {x : Cursor} where
  none_at : Reads (absent {A = ℕ}) x x (Ok none)
  unfolding read_at
  none_at = record { same = refl; answers = rw add-zero }

  pub is_absent : starts c (drop x.at x.text.now) ≡ false → Reads (optional c p) x x (Ok none)
  is_absent e = reads_second c (mapped some p) absent e none_at

  pub is_present : {y : Cursor} (r : Result ℕ Departure) → starts c (drop x.at x.text.now) ≡ true → Reads p x y r
      → Reads (optional c p) x y (on_value some r)
  is_present r e h = reads_first c (mapped some p) absent e (shown some p r h)

-- A task that was read has as many energies as rates.
pub task-words : (k : code.Clock) (t : TaskLine) {x y : Cursor} → Reads (read_task (energies_in k)) x y (Ok t)
    → length (words_by k t) ≡ task_size Ordinary (rates_in k)
unfolding extra_kinds
task-words k t {x} {y} h = go k (dom_of (task_piece (energies_in k)) x.text.now x.at y.at t (sym h.answers))
  where
    go : (k : code.Clock) → TaskLineOk (energies_in k) t → length (words_by k t) ≡ task_size Ordinary (rates_in k)
    go (Rates m) h = omega (arith, h.energies.least, h.energies.most)
    go (Named c) h = omega (arith, energies-length c t.cycles)

-- The rates and the tasks stand in their places, and the counts and the head go in front of them, from the back to the
-- front.
pub set_words : (s : Script) (ws d e : List ℕ) (h k m n : ℕ) → ws ≡ head_words s → h ≡ head_size Ordinary
    → k ≡ task_count_place Ordinary m
    → length (rates_of s.clock) ≡ m → length s.tasks ≡ n → tasks_place Ordinary m ≤ length d
    → e ≡ written (tasks_place Ordinary m) (joined (task_words s.clock) s.tasks) (written (h + 1) (rates_of s.clock) d)
    → stored 0 ws (set (set e k n) h m) ≡ written 0 (words s) d
unfolding words
set_words s ws d e h k m n are hs ks ms ns room q =
    let ts : List ℕ = joined (task_words s.clock) s.tasks in
    let fs : List ℕ = rates_of s.clock in
    let rs : List ℕ = written (h + 1) fs d in
    let l : length rs ≡ length d = length-written fs d (h + 1) (omega arith) in
    let counted : set e k n ≡ written (h + 1) (fs ++ n ∷ ts) d =
    ap (λ (z : List ℕ). set z k n) q ∙ in_front (n ∷ []) ts rs k (tasks_place Ordinary m) (omega arith) (omega arith)
    ∙ written_then fs (n ∷ ts) d (h + 1) k (omega arith) (omega arith) in
    ap (λ (z : List ℕ). stored 0 z (set (set e k n) h m)) are
    ∙ ap (λ (z : List ℕ). stored 0 (head_words s) (set z h m)) counted
    ∙ ap (stored 0 (head_words s)) (in_front (m ∷ []) (fs ++ n ∷ ts) d h (h + 1) refl (omega arith))
    ∙ in_front (head_words s) (m ∷ (fs ++ n ∷ ts)) d 0 h (omega (arith, head_front s)) (omega arith)
    ∙ rw (ms, ns)

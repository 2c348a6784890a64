-- The script of a list of words that passes check 2 is a script that a text can say, and its words are the list.
-- Assumes nothing.
use Prim.Native.Nat.{ℕ, zero, suc, ◌+◌, ◌≤◌, ◌<◌}
use mathlib.Core.Path.{◌≡◌, refl, sym, ap, ◌∙◌}
use mathlib.Core.List.{List, [], ◌∷◌, ◌++◌, append_assoc, append-nil}
use mathlib.Core.Option.{Option, none, some}
use native.Mathlib.Nat.{zero-add, add-zero, suc-mul}
use native.Mathlib.Omega.{arith}
use lib.ListN.{length, drop, drop_of_length-le}
use lib.Seq.{drop-cons}
use Rattle.numbers.specs.Numbers.{each, joined}
use Rattle.numbers.proofs.Lists.{each-length, each_all}
use Rattle.layout.specs.Words.{head_kinds, extra_kinds, head_size, extra_size, word, slack, idle, rate_count, task_count_place}
use Rattle.layout.specs.Words.{task_count, task_size, period_place, rate, first, energy}
use Rattle.layout.specs.Whole.{IsWhole}
use Rattle.layout.proofs.Whole.{in_list, slack_in, idle_in_lem, first_in}
use Rattle.layout.specs.declared.Layout.TheVariants.{Ordinary}
use Rattle.text.specs.Text.{rates, Word, MaybeWord, TaskLineOk, ScriptOk, idle_of, head_words, first_of, extra_words, task_words, words}
use Rattle.text.specs.Text.{list_rates, shown, line_of, script_of}

-- Words that stand in a row of a list, and what follows them.
module _ (s : List ℕ) (f : ℕ → ℕ) (p : ℕ) (stands : (j : ℕ) → f j ≡ word s (p + j)) where
  pub row : (i n : ℕ) → p + i + n ≤ length s → each f i n ++ drop (p + i + n) s ≡ drop (p + i) s
  row i zero h = ap (λ (k : ℕ). drop k s) (add-zero (p + i))
  row i (suc n) h =
      let there : p + i + suc n ≡ p + suc i + n = omega arith in
      let here : p + suc i ≡ suc (p + i) = omega arith in
      let rest : each f (suc i) n ++ drop (p + suc i + n) s ≡ drop (p + suc i) s = row (suc i) n (omega arith) in
      ap (λ (l : List ℕ). f i ∷ l) (ap (λ (k : ℕ). each f (suc i) n ++ drop k s) there ∙ rest ∙ ap (λ (k : ℕ). drop k s) here) ∙
      ap (λ (x : ℕ). x ∷ drop (suc (p + i)) s) (stands i) ∙ sym (drop-cons s (p + i) 0 (omega arith))

-- H and A, shown where they are above 0, are the words that the list has; and a text can say what fits.
idle-shown : (h : ℕ) (fs : List ℕ) → idle_of (shown h) (rates fs) ≡ h
idle-shown zero fs = refl
idle-shown (suc h) fs = refl

first-shown : (a : ℕ) → first_of (shown a) ≡ a
first-shown zero = refl
first-shown (suc a) = refl

maybe_ok : (o : Option ℕ) → Word (first_of o) → MaybeWord o
maybe_ok none l = tt
maybe_ok (some v) l = omega arith

module _ (s : List ℕ) (w : IsWhole Ordinary s) where
  abbrev m : ℕ
  m = rate_count Ordinary s

  abbrev n : ℕ
  n = task_count Ordinary s

  -- Where the task at t begins.
  abbrev place : ℕ → ℕ
  place t = period_place Ordinary m t

  after-place : (t : ℕ) → place (suc t) ≡ place t + task_size Ordinary m
  after-place t = omega (arith, suc-mul t (task_size Ordinary m))

  -- ---- the words
  -- Those of the head, and those between a task's cycles and its energies, are the words that stand there.
  head_words_lem : head_words (script_of s) ≡ each (word s) 0 (head_size Ordinary)
  unfolding script_of head_kinds
  head_words_lem = ap (λ (h : ℕ). slack s ∷ h ∷ []) (idle-shown (idle s) (list_rates s))

  first_said : (t : ℕ) → first_of (line_of s t).first ≡ first Ordinary s t
  first_said t = omega (arith, first-shown (first Ordinary s t))

  extra_words_lem : (t : ℕ) → extra_words (line_of s t) ≡ each (λ k. word s (place t + 2 + k)) 0 (extra_size Ordinary)
  unfolding extra_kinds
  extra_words_lem t = ap (λ (a : ℕ). a ∷ []) (first_said t ∙ ap (word s) (sym (add-zero (place t + 2))))

  -- A task's words, of a script that has a line of rates.
  abbrev line_words : ℕ → List ℕ
  line_words t = task_words (rates (list_rates s)) (line_of s t)

  energies-words : (t : ℕ) → t < n → each (energy Ordinary s t) 1 m ++ drop (place (suc t)) s ≡ drop (place t + 2 + extra_size Ordinary) s
  energies-words t h =
      let end : place (suc t) ≡ place t + (1 + extra_size Ordinary) + 1 + m = omega (arith, after-place t) in
      let begin : place t + (1 + extra_size Ordinary) + 1 ≡ place t + 2 + extra_size Ordinary = omega arith in
      ap (λ (k : ℕ). each (energy Ordinary s t) 1 m ++ drop k s) end ∙
      row s (energy Ordinary s t) (place t + (1 + extra_size Ordinary)) (λ j. ap (word s) (omega arith)) 1 m
      (omega (arith, in_list Ordinary s w t (1 + extra_size Ordinary + m) h (omega arith))) ∙
      ap (λ (k : ℕ). drop k s) begin

  after-cycles : (t : ℕ) → t < n → (extra_words (line_of s t) ++ each (energy Ordinary s t) 1 m) ++ drop (place (suc t)) s ≡ drop (suc (suc (place t))) s
  after-cycles t h =
      let e : List ℕ = each (λ k. word s (place t + 2 + k)) 0 (extra_size Ordinary) in
      let two : place t + 2 + 0 ≡ suc (suc (place t)) = omega arith in
      let all : place t + 2 + 0 + extra_size Ordinary ≡ place t + 2 + extra_size Ordinary = omega arith in
      append_assoc (extra_words (line_of s t)) (each (energy Ordinary s t) 1 m) (drop (place (suc t)) s) ∙
      ap (λ (l : List ℕ). extra_words (line_of s t) ++ l) (energies-words t h) ∙
      ap (λ (l : List ℕ). l ++ drop (place t + 2 + extra_size Ordinary) s) (extra_words_lem t) ∙
      ap (λ (k : ℕ). e ++ drop k s) (sym all) ∙
      row s (λ k. word s (place t + 2 + k)) (place t + 2) (λ j. refl) 0 (extra_size Ordinary)
      (omega (arith, in_list Ordinary s w t (1 + extra_size Ordinary + m) h (omega arith))) ∙
      ap (λ (k : ℕ). drop k s) two

  line-words : (t : ℕ) → t < n → line_words t ++ drop (place (suc t)) s ≡ drop (place t) s
  line-words t h =
      let last : place t + (1 + extra_size Ordinary + m) < length s = in_list Ordinary s w t (1 + extra_size Ordinary + m) h (omega arith) in
      let one : place t + 1 ≡ suc (place t) = omega arith in
      ap (λ (l : List ℕ). word s (place t) ∷ word s (place t + 1) ∷ l) (after-cycles t h) ∙
      ap (λ (k : ℕ). word s (place t) ∷ word s k ∷ drop (suc (suc (place t))) s) one ∙
      sym (drop-cons s (place t) 0 (omega arith) ∙ ap (λ (l : List ℕ). word s (place t) ∷ l) (drop-cons s (suc (place t)) 0 (omega arith)))

  lines_words : (t k : ℕ) → t + k ≤ n → joined (task_words (rates (list_rates s))) (each (line_of s) t k) ++ drop
      (place (t + k)) s ≡ drop (place t) s
  lines_words t zero h = ap (λ (j : ℕ). drop (place j) s) (add-zero t)
  lines_words t (suc k) h =
      let there : t + suc k ≡ suc t + k = omega arith in
      let rest : joined (task_words (rates (list_rates s))) (each (line_of s) (suc t) k) ++ drop
      (place (suc t + k)) s ≡ drop (place (suc t)) s = lines_words (suc t) k (omega arith) in
      ap (λ (j : ℕ). joined (task_words (rates (list_rates s))) (each (line_of s) t (suc k)) ++ drop (place j) s) there ∙
      append_assoc (line_words t) (joined (task_words (rates (list_rates s))) (each (line_of s) (suc t) k))
      (drop (place (suc t + k)) s) ∙
      ap (λ (l : List ℕ). line_words t ++ l) rest ∙ line-words t (omega arith)

  all_lines : joined (task_words (rates (list_rates s))) (each (line_of s) 0 n) ≡ drop (suc (task_count_place Ordinary m)) s
  all_lines =
      let lines : List ℕ = joined (task_words (rates (list_rates s))) (each (line_of s) 0 n) in
      let past : drop (place (0 + n)) s ≡ [] = rw zero-add (drop_of_length-le s {i = place n} (omega (arith, w.size))) in
      let begin : place 0 ≡ suc (task_count_place Ordinary m) = omega arith in
      sym (append-nil lines) ∙ ap (λ (l : List ℕ). lines ++ l) (sym past) ∙ lines_words 0 n (omega arith) ∙ ap (λ (k : ℕ). drop k s) begin

  pub words_of_list : words (script_of s) ≡ s
  unfolding words script_of
  words_of_list =
      let fs : List ℕ = list_rates s in
      let count : ℕ = task_count_place Ordinary m in
      let head : List ℕ = each (word s) 0 (head_size Ordinary) in
      let long : count < length s = omega (arith, w.size) in
      let first : 0 + 0 + head_size Ordinary ≡ head_size Ordinary = omega arith in
      let after : head_size Ordinary + 1 ≡ suc (head_size Ordinary) = omega arith in
      let end : head_size Ordinary + 1 + m ≡ count = omega arith in
      rw (each-length (rate Ordinary s), each-length (line_of s), all_lines)
      (ap (λ (l : List ℕ). head_words (script_of s) ++ (m ∷ (fs ++ l))) (sym (drop-cons s count 0 long)) ∙
      ap (λ (l : List ℕ). l ++ (m ∷ (fs ++ drop count s))) head_words_lem ∙
      ap (λ (l : List ℕ). head ++ (m ∷ l)) (row s (rate Ordinary s) (head_size Ordinary) (λ j. refl) 1 m (omega arith) ∙ ap (λ (k : ℕ). drop k s) after) ∙
      ap (λ (l : List ℕ). head ++ l) (sym (drop-cons s (head_size Ordinary) 0 (omega arith))) ∙
      ap (λ (k : ℕ). head ++ drop k s) (sym first) ∙
      row s (word s) 0 (λ j. ap (word s) (sym (zero-add j))) 0 (head_size Ordinary) (omega arith))

  -- ---- the script
  line_ok : (t : ℕ) → t < n → TaskLineOk m (line_of s t)
  line_ok t h = record {
    period = omega (arith, (w.period_range t h).1);
    cycles = omega (arith, (w.cycles_range t h).1);
    energies = record {
      least = omega (arith, each-length (energy Ordinary s t) 1 m);
      most = omega (arith, each-length (energy Ordinary s t) 1 m);
      each = each_all (energy Ordinary s t) Word 1 m (λ j a b. omega (arith, (w.energy_range t j h a (omega arith)).1));
    };
    first = maybe_ok (line_of s t).first
        (omega (arith, first_said t, first_in Ordinary s w t h, (w.period_range t h).1));
  }

  pub script_of_list : ScriptOk (script_of s)
  unfolding script_of
  script_of_list =
      let r = each-length (rate Ordinary s) 1 m in
      let t = each-length (line_of s) 0 n in
      record {
        slack = omega (arith, (slack_in Ordinary s w).1);
        idle = maybe_ok (shown (idle s)) (omega (arith, first-shown (idle s), idle_in_lem Ordinary s w));
        clock = record {
          least = omega (arith, w.rates_range.0);
          most = omega (arith, w.rates_range.1);
          each = each_all (rate Ordinary s) Word 1 m (λ j a b. omega (arith, (w.rate_range j a (omega arith)).1));
        };
        tasks = record {
          least = omega (arith, w.tasks_range.0);
          most = omega (arith, w.tasks_range.1);
          each = rw r (each_all (line_of s) (TaskLineOk m) 0 n (λ j a b. line_ok j (omega arith)));
        };
      }

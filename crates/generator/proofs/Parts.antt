-- The parts of a set, written one behind the other: a task's words, the tasks, the words before them, and all of it.
-- Assumes nothing.
use Rattle.std.proofs.Common.{◌≡◌, ℕ, ◌+◌, ◌-◌, ◌*◌, ◌/◌, ◌%◌, ◌<◌, ◌≤◌, List, [], ◌∷◌, ◌++◌, length, set, replicate, sym, refl, ap, ◌∙◌, append_assoc, mul-le-mul_right, suc-mul, zero-add, arith, length-append}
use lib.ListN.{length-replicate}
use Rattle.numbers.specs.Numbers.{each, joined}
use Rattle.numbers.proofs.Lists.{each_more, joined-one}
use Rattle.layout.specs.Words.{head_size, extra_size, task_count_place, tasks_place, task_size, period_place}
use Rattle.layout.specs.declared.Layout.TheVariants.{Ordinary}
use Rattle.layout.proofs.Layouts.{slack_in_head}
use Rattle.lists.specs.Writing.{placed, written}
use Rattle.lists.proofs.Writing.{written_none, written_front, length-written, extend}
use Rattle.lists.proofs.Stores.{stored-alone}
use Rattle.draws.specs.Generated.{next, state_after, draw, drawn_period, five_rates, head_words, rate_of, task_words, tasks_words, front_words, generated}
use Rattle.draws.proofs.States.{state_none, state_add, task_from}
use Rattle.draws.proofs.Sizes.{head_length, front_size, tasks_size}

-- ---- a task
-- The words that three steps from a state give.
module _ (state first second third : ℕ) (one : first ≡ next state) (two : second ≡ next first) (three : third ≡ next second) where
  pub state_behind : third ≡ state_after state 3
  unfolding state_after
  state_behind = three ∙ ap next (two ∙ ap next one)

  pub task-words : (x y z p : ℕ) → x ≡ first / 65536 → y ≡ second / 65536 → z ≡ third / 65536 → p ≡ drawn_period x
      → p ∷ (1 + y % 1000) ∷ (replicate (extra_size Ordinary) 0 ++ each (λ j. (2 + z % 9) * j * j) 1 five_rates) ≡ task_words state 0
  unfolding draw state_after
  task-words x y z p ex ey ez ep = rw (ep, ex, ey, ez, three, two, one)

-- Two words, then zeros, then energies, in the list.
pub task-written : (p c front : ℕ) (es d e₁ e₂ : List ℕ) (at : ℕ) → front ≡ task_size Ordinary 0 → at + front ≤ length d
    → e₁ ≡ written (at + 2) (replicate (front - 2) 0) (set (set d at p) (at + 1) c) → e₂ ≡ written (at + front) es e₁
    → e₂ ≡ written at (p ∷ c ∷ (replicate (extra_size Ordinary) 0 ++ es)) d
task-written p c front es d e₁ e₂ at f room q r =
    let k : front - 2 ≡ extra_size Ordinary = omega arith in
    let zs : List ℕ = replicate (extra_size Ordinary) 0 in
    let two : set (set d at p) (at + 1) c ≡ written at (p ∷ c ∷ []) d = stored-alone (p ∷ c ∷ []) d at (omega arith) in
    let words : e₁ ≡ written at (p ∷ c ∷ zs) d =
    extend (p ∷ c ∷ []) zs d (set (set d at p) (at + 1) c) e₁ at (at + 2) refl (omega arith) two (rw k at q) in
    extend (p ∷ c ∷ zs) es d e₁ e₂ at (at + front) (omega (arith, length-replicate {A = ℕ} (extra_size Ordinary) 0)) (omega arith) words r

-- ---- the tasks
-- t of n tasks stand in the list, and the state is the one behind their draws: d is the list before, e now.
pub record Drawn (seed n : ℕ) (d : List ℕ) (t state : ℕ) (e : List ℕ) : Type 0 where
  pub few : t ≤ n
  pub same : length e ≡ length d
  pub stands : state ≡ state_after seed (3 * t)
  pub is : e ≡ written (tasks_place Ordinary five_rates) (tasks_words seed t) d

pub none_drawn : (seed n : ℕ) (d : List ℕ) → Drawn seed n d 0 seed d
none_drawn seed n d = record {
  few = omega arith;
  same = refl;
  stands = sym (state_none seed);
  is = written_none d (tasks_place Ordinary five_rates);
}

module _ {seed n : ℕ} {d : List ℕ} {t state : ℕ} {e : List ℕ} (h : Drawn seed n d t state e) where
  pub one_drawn : (x : ℕ) (e' : List ℕ) → t < n → tasks_place Ordinary five_rates ≤ length d → length e' ≡ length e
      → x ≡ state_after state 3 → e' ≡ written (period_place Ordinary five_rates t) (task_words state 0) e → Drawn seed n d (t + 1) x e'
  one_drawn x e' l room same s w =
      let next : 3 * t + 3 ≡ 3 * (t + 1) = omega arith in
      let before : List ℕ = tasks_words seed t in
      let more : each (λ (t : ℕ). t) 0 (t + 1) ≡ each (λ (t : ℕ). t) 0 t ++ (t ∷ []) =
      each_more (λ (t : ℕ). t) 0 t ∙ ap (λ (k : ℕ). each (λ (t : ℕ). t) 0 t ++ (k ∷ [])) (zero-add t) in
      let words : task_words state 0 ≡ task_words seed t = ap (λ (y : ℕ). task_words y 0) h.stands ∙ sym (task_from seed t) in
      record {
        few = omega arith;
        same = same ∙ h.same;
        stands = s ∙ ap (λ (y : ℕ). state_after y 3) h.stands ∙ sym (state_add seed (3 * t) 3) ∙ ap (state_after seed) next;
        is = extend before (task_words seed t) d e e' (tasks_place Ordinary five_rates) (period_place Ordinary five_rates t)
            (omega (arith, tasks_size seed 0 t)) room h.is
            (w ∙ ap (λ (ws : List ℕ). written (period_place Ordinary five_rates t) ws e) words)
            ∙ ap (λ (ws : List ℕ). written (tasks_place Ordinary five_rates) ws d)
            (sym (ap (joined (task_words seed)) more ∙ joined-one (task_words seed) (each (λ t. t) 0 t) t));
      }

  pub all_drawn : n ≤ t → e ≡ written (tasks_place Ordinary five_rates) (tasks_words seed n) d
  all_drawn l =
      let z : t ≡ n = omega (arith, h.few) in
      h.is ∙ ap (λ (k : ℕ). written (tasks_place Ordinary five_rates) (tasks_words seed k) d) z

-- There is room for one more.
pub task-room : (n t l : ℕ) → t < n → period_place Ordinary five_rates n ≤ l
    → period_place Ordinary five_rates t + task_size Ordinary five_rates ≤ l
task-room n t l h room = omega (arith, mul-le-mul_right (task_size Ordinary five_rates) h, suc-mul t (task_size Ordinary five_rates))

-- ---- the words before them: the slack, zeros, the rate count, the rates, the task count
pub front_written : (n h k : ℕ) (d e₁ e₂ : List ℕ) → h ≡ head_size Ordinary → k ≡ task_count_place Ordinary five_rates
    → tasks_place Ordinary five_rates ≤ length d
    → e₁ ≡ written 1 (replicate (h - 1) 0) (set d 0 100) → e₂ ≡ written (h + 1) (each rate_of 1 five_rates) (set e₁ h five_rates)
    → set e₂ k n ≡ written 0 (front_words n) d
unfolding front_words
front_written n h k d e₁ e₂ size place room q r =
    let some = slack_in_head Ordinary in
    let rates : List ℕ = each rate_of 1 five_rates in
    let one : set d 0 100 ≡ written 0 (100 ∷ []) d = stored-alone (100 ∷ []) d 0 (omega arith) in
    let head : e₁ ≡ written 0 head_words d =
    extend (100 ∷ []) (replicate (head_size Ordinary - 1) 0) d (set d 0 100) e₁ 0 1 refl (omega arith) one (rw size at q) in
    let size₁ : length e₁ ≡ length d = ap length head ∙ length-written head_words d 0 (omega (arith, head_length)) in
    let count : set e₁ h five_rates ≡ written 0 (head_words ++ (five_rates ∷ [])) d =
    extend head_words (five_rates ∷ []) d e₁ (set e₁ h five_rates) 0 h (omega (arith, head_length)) (omega arith) head
    (stored-alone (five_rates ∷ []) e₁ h (omega arith)) in
    let upto : List ℕ = head_words ++ (five_rates ∷ []) in
    let upto_size : length upto ≡ h + 1 = length-append head_words (five_rates ∷ []) ∙ omega (arith, head_length) in
    let rated : e₂ ≡ written 0 (upto ++ rates) d =
    extend upto rates d (set e₁ h five_rates) e₂ 0 (h + 1) (omega arith) (omega arith) count r in
    let all_size : length (upto ++ rates) ≡ k = length-append upto rates ∙ omega arith in
    let size₂ : length e₂ ≡ length d = ap length rated ∙ length-written (upto ++ rates) d 0 (omega arith) in
    extend (upto ++ rates) (n ∷ []) d e₂ (set e₂ k n) 0 k (omega arith) (omega arith) rated (stored-alone (n ∷ []) e₂ k (omega arith)) ∙
    ap (λ (ws : List ℕ). written 0 ws d) (append_assoc upto rates (n ∷ []) ∙ append_assoc head_words (five_rates ∷ []) (rates ++ (n ∷ [])))

-- ---- all of it
pub set-written : (seed n : ℕ) (d e₁ e₂ : List ℕ) → e₁ ≡ written 0 (front_words n) d
    → e₂ ≡ written (tasks_place Ordinary five_rates) (tasks_words seed n) e₁ → e₂ ≡ placed (generated seed n) d
unfolding generated
set-written seed n d e₁ e₂ q r =
    extend (front_words n) (tasks_words seed n) d e₁ e₂ 0 (tasks_place Ordinary five_rates) (omega (arith, front_size n)) (omega arith) q r ∙
    written_front (generated seed n) d
